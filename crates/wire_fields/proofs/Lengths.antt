-- A length and its bytes: what is found is the part that was read.
use Prim.Native.Nat.{ℕ}
use native.Mathlib.Omega.{arith}
use mathlib.Core.Path.{◌≡◌, sym, ◌∙◌}
use mathlib.Core.List.{List}
use Rattle.std.specs.Prelude.{Option, Some, Result, Ok, Err}
use Rattle.wire_types.specs.declared.Refused.{Refused}
use Rattle.wire_types.specs.declared.Span.{Span}
use Rattle.wire_varint.specs.Varint.{varint_at}
use Rattle.wire_value.specs.Field.{part_of}
use Rattle.wire_fields.specs.Lengths.{found_of}

finds : (q : Result Span Refused) (p : Span) → found_of q ≡ Some p → q ≡ Ok p
unfolding found_of
finds (Ok r) p h = grind arith
finds (Err e) p h = grind arith

pub found_part : (s : List ℕ) (at : ℕ) (r : Option Span) → r ≡ found_of (part_of s at (varint_at s at)) → (p : Span) → r ≡ Some p
    → part_of s at (varint_at s at) ≡ Ok p
found_part s at r h p e = finds (part_of s at (varint_at s at)) p (sym h ∙ e)
