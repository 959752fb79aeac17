-- The part before `end` is what varint_at reads: length-take-le where it is cut short, take_all where it is whole.
use mathlib.Core.Path.{sym}
use borrow.Author.Rules.{rules}
use lib.Seq.{length-take-le, take_all}
use Rattle.wire_elements.proofs.packed_at.Goals as goal

pub slice_bounds-varint_at-end : goal.slice_bounds-varint_at-end
slice_bounds-varint_at-end c = sym (length-take-le _ _ (search rules))

pub returns : goal.returns
returns c = rw (take_all _ _ c.if-end-s.false) c.varint_at-2.ensures
