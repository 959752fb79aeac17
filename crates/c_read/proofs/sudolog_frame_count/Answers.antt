-- count_of's contract, of what cut_frame ensures.
use Rattle.wire_frame.specs.Frame.{count_of}
use mathlib.Core.Path.{ap, ◌∙◌}
use Rattle.c_read.proofs.sudolog_frame_count.Goals as goal

pub returns : goal.returns
returns c = c.count_of.ensures ∙ ap count_of c.cut_frame.ensures
