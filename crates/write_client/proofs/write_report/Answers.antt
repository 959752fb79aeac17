-- Outcomes.same_outcome: the run's refusal, the range and the bytes (same_wrapped) are the report's; Members.report_first bounds the member.
use Rattle.write_message.proofs.Outcomes.{same_outcome, same_wrapped}
use Rattle.write_message.proofs.Members.{report_first, plain_fits}
use Rattle.write_pieces.specs.Parts.{cover, around}
use Rattle.write_forms.specs.Draft.{cut_at}
use Rattle.write_forms.specs.Pieces.{encode, elements, packed}
use mathlib.Core.Path.{refl}
use Rattle.write_client.proofs.write_report.Goals as goal

pub returns : goal.returns
unfolding encode around cover elements cut_at packed
returns c =
    let both = same_outcome c.write_plain.ensures _ _ _ c.run_refusal-refusal.ensures
    (plain_fits _ (λ h. report_first _ _ c.report_fits.ensures h) c.report_fits.ensures)
    (λ h. same_wrapped _ _ _ refl) in
    record { answer = both.0; buffer = both.1 }
