-- Outcomes.same_outcome: a note is the member's bytes themselves, Outcomes.same_note, for the members that Members.note_member tells.
use Rattle.write_message.proofs.Outcomes.{same_outcome, same_note}
use Rattle.write_message.proofs.Members.{note_member, plain_fits}
use Rattle.write_pieces.specs.Parts.{cover, around}
use Rattle.write_forms.specs.Pieces.{encode, elements, packed}
use Rattle.write_forms.specs.Draft.{cut_at}
use native.Mathlib.Omega.{arith}
use mathlib.Core.Path.{refl}
use Rattle.write_server.proofs.write_note.Goals as goal

pub returns : goal.returns
unfolding encode around cover elements cut_at packed
returns c =
    let both = let a = c.args in
    same_outcome c.write_plain.ensures _ _ _ refl
    (plain_fits a.member (λ h. let m = note_member a.member c.note_fits-fits.ensures h in omega arith) c.note_fits-fits.ensures)
    (λ h. let m = note_member a.member refl h in same_note a.member _ a.note.now (λ z. omega arith) refl) in record { answer = both.0; buffer = both.1 }
