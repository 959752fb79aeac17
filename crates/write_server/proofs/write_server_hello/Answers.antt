-- Outcomes.same_outcome: the range (Members.list_fits) and the bytes (same_wrapped) are the hello's; Members.member_small bounds the member.
use Rattle.write_message.proofs.Outcomes.{same_outcome, same_wrapped}
use Rattle.write_message.proofs.Members.{member_small, list_fits}
use Rattle.write_pieces.specs.Parts.{cover, around}
use Rattle.write_forms.specs.Draft.{cut_at}
use Rattle.write_forms.specs.Pieces.{encode, elements, packed}
use mathlib.Core.List.{append-nil}
use native.Mathlib.Omega.{arith}
use mathlib.Core.Path.{refl}
use Rattle.write_server.proofs.write_server_hello.Goals as goal

pub returns : goal.returns
unfolding encode around cover packed
returns c =
    let both = let a = c.args in
    let list = elements 3 (cut_at a.joined.now 0 a.ends.now) in
    same_outcome c.write_message.ensures _ _ _ refl
    (list_fits _ _ (λ h. member_small 1 1 _ (omega arith) c.member_in-fits.ensures h) c.member_in-fits.ensures)
    (λ h. rw c.from.ensures (same_wrapped _ _ _ (rw (append-nil list)))) in record { answer = both.0; buffer = both.1 }
