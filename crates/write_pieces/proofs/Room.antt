-- The room of pieces that are put one after the other. Assumes nothing.
use Prim.Native.Nat.{ℕ, ◌+◌, ◌≤◌}
use native.Mathlib.Omega.{arith}
use mathlib.Core.List.{List, ◌∷◌}
use lib.ListN.{length, length-append}
use Rattle.write_forms.specs.Pieces.{Piece, encode, encode_all}
use Rattle.base_copy.specs.Put.{Put}
use Rattle.base_copy.proofs.Puts.{put_length}

pub record Room (s : List ℕ) (at : ℕ) (ps : List Piece) : Type 0 where
  pub fits : at + length (encode_all ps) ≤ length s

pub first : {s : List ℕ} {at : ℕ} {p : Piece} {ps : List Piece} → Room s at (p ∷ ps) → at + length (encode p) ≤ length s
first {s} {at} {p} {ps} r = omega (arith, length-append (encode p) (encode_all ps))

pub rest : {s s₁ : List ℕ} {at at₁ : ℕ} {p : Piece} {ps : List Piece} → Room s at (p ∷ ps) → Put s at (encode p) s₁ at₁ → Room s₁ at₁ ps
rest {s} {s₁} {at} {at₁} {p} {ps} r q =
    record { fits = let same = put_length q in omega (arith, length-append (encode p) (encode_all ps)) }
