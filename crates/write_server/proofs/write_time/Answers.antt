-- Outcomes.same_outcome: the range is time_fits', the bytes (same_wrapped) are the point's; Members.time_small bounds the member.
use Rattle.write_message.proofs.Outcomes.{same_outcome, same_wrapped}
use Rattle.write_message.proofs.Members.{time_small, plain_fits}
use Rattle.write_pieces.specs.Parts.{cover, around}
use Rattle.write_forms.specs.Draft.{cut_at}
use Rattle.write_forms.specs.Pieces.{encode, elements, packed}
use mathlib.Core.Path.{refl}
use Rattle.write_server.proofs.write_time.Goals as goal

pub returns : goal.returns
unfolding encode around cover elements cut_at packed
returns c =
    let both = same_outcome c.write_plain.ensures _ _ _ refl
    (plain_fits _ (λ h. time_small _ _ c.time_fits-fits.ensures h) c.time_fits-fits.ensures)
    (λ h. same_wrapped _ _ _ refl) in
    record { answer = both.0; buffer = both.1 }
