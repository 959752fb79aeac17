-- Outcomes.same_outcome: the range is write_message's own of the ends, the bytes (same_wrapped) are the list's.
use Rattle.write_message.proofs.Outcomes.{same_outcome, same_wrapped}
use Rattle.write_pieces.specs.Parts.{cover, around}
use Rattle.write_forms.specs.Pieces.{encode, packed}
use mathlib.Core.List.{append-nil}
use mathlib.Core.Path.{refl}
use Rattle.write_list.proofs.write_string_list.Goals as goal

pub returns : goal.returns
unfolding encode around cover packed
returns c =
    let both = same_outcome c.write_message.ensures _ _ _ refl refl
    (λ h. same_wrapped _ _ _ (append-nil _)) in record { answer = both.0; buffer = both.1 }
