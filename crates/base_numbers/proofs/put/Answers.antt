-- A write to eight places is a splice (Splice.part_splice), and std's bytes of a number are `eight`'s.
use mathlib.Core.Path.{◌∙◌}
use native.Mathlib.Omega.{arith}
use Rattle.base_laws.proofs.Splice.{part_splice}
use Rattle.base_numbers.specs.Eight.{eight}
use Rattle.base_numbers.proofs.put.Goals as goal

pub returns : goal.returns
returns c =
    let a = c.args in
    part_splice a.out.now a.at _ _ (eight a.v) (c.copy_from_slice.ensures.after ∙ c.to_be_bytes.ensures) (omega arith)
