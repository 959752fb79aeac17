-- The length of the bytes at a field's place (Follow.span_in_bounds, Parts.length_part) is that of its item: Items.bytes_means.
use Rattle.wire_fields.proofs.Follow.{span_in_bounds}
use Rattle.wire_fields.proofs.Items.{bytes_means}
use Rattle.base_laws.proofs.Parts.{length_part}
use mathlib.Core.Path.{sym}
use Rattle.wire_range.proofs.limits.length_in.Goals as goal

pub overflow_sub-result : goal.overflow_sub-result
overflow_sub-result c = let a = c.args in rw c.part_in-p.ensures (span_in_bounds a.s.now a.number).0

pub returns : goal.returns
returns c =
    let a = c.args in
    let l = span_in_bounds a.s.now a.number in
    rw (c.part_in-p.ensures, ← bytes_means a.s.now a.number) (sym (length_part a.s.now _ _ l.0 l.1))
