-- Outcomes.same_outcome: the run's refusal, the range and the bytes (same_wrapped) are the accept's; Members.member_first bounds the member.
use Rattle.write_message.proofs.Outcomes.{same_outcome, same_wrapped}
use Rattle.write_message.proofs.Members.{member_first, plain_fits}
use Rattle.write_pieces.specs.Parts.{cover, around}
use Rattle.write_forms.specs.Draft.{cut_at}
use Rattle.write_forms.specs.Pieces.{encode, elements, packed}
use native.Mathlib.Omega.{arith}
use mathlib.Core.Path.{refl}
use Rattle.write_client.proofs.write_accept.Goals as goal

pub returns : goal.returns
unfolding encode around cover elements cut_at packed
returns c =
    let both = same_outcome c.write_plain.ensures _ _ _ c.run_refusal-refusal.ensures
    (plain_fits _ (λ h. member_first 1 1 _ _ (omega arith) c.accept_fits.ensures h) c.accept_fits.ensures)
    (λ h. rw c.from.ensures (same_wrapped _ _ _ refl)) in
    record { answer = both.0; buffer = both.1 }
