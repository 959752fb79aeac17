-- A loop over the bytes of a span: what is left of it at a cursor, and one step on.
use Prim.Native.Nat.{ℕ, suc, ◌+◌, ◌-◌, ◌≤◌, ◌<◌}
use native.Mathlib.Nat.{sub-zero}
use native.Mathlib.Omega.{arith}
use mathlib.Core.Path.{◌≡◌, ap, ◌∙◌}
use mathlib.Core.List.{[], ◌∷◌}
use lib.ListN.{length, take}
use Rattle.conf_lines.specs.Lines.{Bytes}
use Rattle.conf_lines.specs.Scan.{Gave, Over}
use Rattle.conf_lines.specs.Span.{joined_from}
use Rattle.conf_lines.specs.declared.cursor.Cursor.{Cursor}

-- the bytes i to n of a span, of which the first stands at a cursor
abbrev pub rest : Bytes → (n i : ℕ) → Cursor → Bytes
rest s n i w = take (n - i) (joined_from s w.at)

-- the line has as many
pub record Reading (s : Bytes) (n i : ℕ) (w : Cursor) : Type 0 where
  pub bound : i ≤ n
  pub within : n - i ≤ length (joined_from s w.at)

pub reads_all : (s : Bytes) (n : ℕ) (w : Cursor) → n ≤ length (joined_from s w.at) → Reading s n 0 w
reads_all s n w h = record { bound = omega arith; within = omega arith }

pub rest_all : (s : Bytes) (n : ℕ) (w : Cursor) → rest s n 0 w ≡ take n (joined_from s w.at)
rest_all s n w = ap (λ (m : ℕ). take m (joined_from s w.at)) (sub-zero n)

module _ (s : Bytes) (n i : ℕ) (w d : Cursor) where
  pub reads_on : (b : ℕ) → Reading s n i w → i < n → Gave s w b d → Reading s n (i + 1) d
  reads_on b r h g =
      let l = ap length g.joined in
      let m = r.within in
      record { bound = omega arith; within = omega arith }

  pub not_over : Reading s n i w → i < n → Over s w d → ⊥
  not_over r h o =
      let l = ap length o.joined in
      let m = r.within in
      omega arith

  pub rest_next : (b : ℕ) → i < n → Gave s w b d → rest s n i w ≡ b ∷ rest s n (i + 1) d
  rest_next b h g =
      let e : n - i ≡ suc (n - (i + 1)) = omega arith in
      ap (λ (m : ℕ). take m (joined_from s w.at)) e ∙ ap (take (suc (n - (i + 1)))) g.joined

pub rest_none : (s : Bytes) (n i : ℕ) (w : Cursor) → n ≤ i → rest s n i w ≡ []
rest_none s n i w h = let e : n - i ≡ 0 = omega arith in ap (λ (m : ℕ). take m (joined_from s w.at)) e
