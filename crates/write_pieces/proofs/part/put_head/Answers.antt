-- Tag and length, one behind the other: the ruleset puts. The room that each has is by Fields.length_head.
use Rattle.base_copy.proofs.Puts.{puts}
use Rattle.write_forms.specs.Pieces.{head}
use Rattle.write_pieces.proofs.part.put_head.Goals as goal

pub returns : goal.returns
unfolding head
returns c = search puts
