-- state_of's contract, of what cut_frame ensures.
use Rattle.wire_frame.specs.Frame.{frame_state}
use mathlib.Core.Path.{ap, ◌∙◌}
use Rattle.c_read.proofs.sudolog_frame_state.Goals as goal

pub returns : goal.returns
returns c = c.state_of.ensures ∙ ap frame_state c.cut_frame.ensures
