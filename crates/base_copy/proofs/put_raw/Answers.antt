-- A write to a part is a splice: Splice.part_splice.
use native.Mathlib.Omega.{arith}
use Rattle.base_laws.proofs.Splice.{part_splice}
use Rattle.base_copy.proofs.put_raw.Goals as goal

pub returns : goal.returns
returns c =
    let a = c.args in record { list = part_splice a.out.now a.at _ _ a.d.now c.copy_from_slice.ensures.after (omega arith); next = omega arith; fits = omega arith }
