-- The four bytes at the start of a stream, as `u32::from_be_bytes` reads them. Assumes nothing.
use Prim.Native.Nat.{ℕ}
use native.Mathlib.Omega.{arith}
use mathlib.Core.Path.{◌≡◌}
use mathlib.Core.List.{List}
use Rattle.std.specs.Array.{IsFirstChunk}
use Rattle.std.specs.Int.{w32, from_be_bytes}
use Rattle.std.proofs.lemmas.List.{get_or-take}
use Rattle.wire_frame.specs.Frame.{length_of}

pub head_number : (s head : List ℕ) → IsFirstChunk s head 4 → from_be_bytes w32 head ≡ length_of s
unfolding length_of
head_number s head h =
    rw (h.same, get_or-take 4 s 0 0 (omega arith), get_or-take 4 s 1 0 (omega arith), get_or-take 4 s 2 0 (omega arith), get_or-take 4 s 3 0 (omega arith)) (omega arith)
