-- Outcomes.same_outcome: the range (Members.list_fits) and the bytes (same_wrapped) are the entry's; Members.entry_small bounds the member.
use Rattle.write_message.proofs.Outcomes.{same_outcome, same_wrapped}
use Rattle.write_message.proofs.Members.{entry_small, list_fits}
use Rattle.write_pieces.specs.Parts.{cover, around}
use Rattle.write_forms.specs.Draft.{value_piece}
use Rattle.write_forms.specs.Pieces.{encode, packed}
use mathlib.Core.Path.{refl}
use Rattle.write_entry.proofs.write_entry_strings.Goals as goal

pub returns : goal.returns
unfolding encode around cover packed value_piece
returns c =
    let both = let key = c.args.key.now in
    same_outcome c.write_message.ensures _ _ _ refl
    (list_fits _ _ (λ h. entry_small _ key c.entry_fits-fits.ensures h) c.entry_fits-fits.ensures)
    (λ h. same_wrapped _ _ _ refl) in record { answer = both.0; buffer = both.1 }
