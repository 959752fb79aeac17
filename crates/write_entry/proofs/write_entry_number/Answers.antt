-- Outcomes.same_outcome: the range is entry_fits', the bytes (same_wrapped) are the entry's; Members.entry_small bounds the member.
use Rattle.write_message.proofs.Outcomes.{same_outcome, same_wrapped}
use Rattle.write_message.proofs.Members.{entry_small, plain_fits}
use Rattle.write_pieces.specs.Parts.{cover, around}
use Rattle.write_forms.specs.Draft.{cut_at, value_piece}
use Rattle.write_forms.specs.Pieces.{encode, elements, packed}
use mathlib.Core.Path.{refl}
use Rattle.write_entry.proofs.write_entry_number.Goals as goal

pub returns : goal.returns
unfolding encode around cover elements cut_at packed value_piece
returns c =
    let both = same_outcome c.write_plain.ensures _ _ _ refl
    (plain_fits _ (λ h. entry_small _ c.args.key.now c.entry_fits-fits.ensures h) c.entry_fits-fits.ensures)
    (λ h. same_wrapped _ _ _ refl) in
    record { answer = both.0; buffer = both.1 }
