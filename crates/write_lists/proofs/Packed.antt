-- Laws of packed numbers. Assumes nothing.
use mathlib.Core.Path.{◌≡◌, ap, ◌∙◌}
use Prim.Native.Nat.{ℕ, ◌+◌, ◌≤◌, ◌<◌}
use native.Mathlib.Omega.{arith}
use mathlib.Core.List.{List, [], ◌++◌}
use lib.ListN.{length, drop, get_or, length-append, drop_of_length-le}
use Rattle.write_forms.specs.Pieces.{varint, packed}
use Rattle.write_pieces.specs.Parts.{Like, exact, beyond}
use Rattle.write_lists.proofs.Lists.{next_drop}

module _ (vs : List ℕ) (i : ℕ) where
  pub next_number_lem : i < length vs → packed (drop i vs) ≡ varint (get_or vs i 0) ++ packed (drop (i + 1) vs)
  unfolding packed
  next_number_lem h = ap packed (next_drop vs i h)

  pub no_number : length vs ≤ i → packed (drop i vs) ≡ []
  unfolding packed
  no_number h = ap packed (drop_of_length-le vs h)

  length_next : i < length vs → length (packed (drop i vs)) ≡ length (varint (get_or vs i 0)) + length (packed (drop (i + 1) vs))
  length_next h = ap length (next_number_lem h) ∙ length-append (varint (get_or vs i 0)) (packed (drop (i + 1) vs))

-- ---- the loop that counts

pub record Counted (vs : List ℕ) (n i : ℕ) : Type 0 where
  pub small : n ≤ 2097152
  pub all : n + length (packed (drop i vs)) ≡ length (packed vs)

module _ {vs : List ℕ} {n i : ℕ} (v : Counted vs n i) where
  pub counted_more : {r : ℕ} → i < length vs → r ≡ length (varint (get_or vs i 0)) → n + r ≤ 2097152 → Counted vs (n + r) (i + 1)
  counted_more l e h = record { small = h; all = omega (arith, v.all, length_next vs i l) }

  pub counted_long : {r : ℕ} → i < length vs → r ≡ length (varint (get_or vs i 0)) → 2097152 < n + r → Like 2097153 (packed vs)
  counted_long l e h = beyond (omega arith) (omega (arith, v.all, length_next vs i l))

  pub counted_end : length vs ≤ i → Like n (packed vs)
  counted_end l = exact (omega (arith, v.all, ap length (no_number vs i l)))
