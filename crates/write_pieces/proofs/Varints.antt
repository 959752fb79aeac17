-- Laws of varints, and of the loops over them. Assumes nothing.
use mathlib.Core.Path.{◌≡◌, refl, ap}
use Prim.Native.Nat.{ℕ, zero, suc, ◌+◌, ◌*◌, ◌/◌, ◌%◌, ◌^◌, ◌≤◌, ◌<◌}
use native.Mathlib.Omega.{arith}
use mathlib.Core.List.{List, [], ◌∷◌}
use mathlib.Core.Bool.{Bool, true, false}
use lib.ListN.{length, set}
use lib.Dec.{ltb, lit≤}
use borrow.Author.Tests.{lt-ltb, le-ltb}
use Rattle.base_laws.specs.Base.{pick}
use Rattle.write_forms.specs.Pieces.{shortest_from, varint}
use Rattle.base_copy.specs.Put.{Put}
use Rattle.base_copy.proofs.Puts.{put_byte, Filling, fill_start, fill_more, fill_end}

-- the values of a varint of at most 1 + k bytes are below this
unfoldable pub lim : ℕ → ℕ
lim zero = 2
lim (suc k) = 128 * lim k

short : (k v : ℕ) → v < 128 → shortest_from k v ≡ v ∷ []
unfolding shortest_from
short zero v h = refl
short (suc k) v h = simp (lt-ltb _ _ h)

long : (k v : ℕ) → 128 ≤ v → shortest_from (suc k) v ≡ (v % 128 + 128) ∷ shortest_from k (v / 128)
unfolding shortest_from
long k v h = simp (le-ltb _ _ h)

-- a value that goes on: one byte, and a shorter varint of what is left
record Longer (k v : ℕ) : Type 0 where
  pub less : ℕ
  pub below : v / 128 < lim less
  pub same : shortest_from k v ≡ (v % 128 + 128) ∷ shortest_from less (v / 128)

longer : (k v : ℕ) → v < lim k → 128 ≤ v → Longer k v
unfolding lim
longer zero v h l = absurd (omega arith)
longer (suc k) v h l = record { less = k; below = omega arith; same = long k v l }

pub length_varint : (k v : ℕ) → (1 ≤ length (shortest_from k v)) × (length (shortest_from k v) ≤ suc k)
unfolding shortest_from
length_varint zero v = (lit≤ tt, lit≤ tt)
length_varint (suc k) v = go (ltb v 128) (length_varint k (v / 128))
  where
    go : (t : Bool) → (1 ≤ length (shortest_from k (v / 128))) × (length (shortest_from k (v / 128)) ≤ suc k)
        → (1 ≤ length (pick t (v ∷ []) ((v % 128 + 128) ∷ shortest_from k (v / 128)))) × (length (pick t (v ∷ []) ((v % 128 + 128) ∷ shortest_from k (v / 128))) ≤ suc (suc k))
    go true ih = (omega arith, omega arith)
    go false ih = (omega arith, omega arith)

-- ---- the loop that counts: n - 1 bytes are counted, and x is left

pub record Counting (v x n : ℕ) : Type 0 where
  pub most : ℕ
  pub below : x < lim most
  pub all : n + length (shortest_from most x) ≡ suc (length (varint v))

pub count_start : (v : ℕ) → v < 2 ^ 64 → Counting v v 1
unfolding lim
count_start v h = record { most = 9; below = omega arith; all = omega arith }

pub count_more : {v x n : ℕ} → Counting v x n → 128 ≤ x → Counting v (x / 128) (n + 1)
count_more {v} {x} {n} p h =
    let l = longer p.most x p.below h in
    record { most = l.less; below = l.below; all = omega (arith, p.all, ap length l.same) }

pub count_end : {v x n : ℕ} → Counting v x n → x < 128 → (n ≡ length (varint v)) × (n ≤ 10)
count_end {v} {x} {n} p h =
    let l = length_varint 9 v in
    let e : n ≡ length (varint v) = omega (arith, p.all, ap length (short p.most x h)) in
    (e, omega arith)

-- ---- the loop that puts: x is left, and its varint makes the whole

pub record Putting (s : List ℕ) (at v : ℕ) (s' : List ℕ) (x i : ℕ) : Type 0 where
  pub most : ℕ
  pub below : x < lim most
  pub filling : Filling s at (varint v) s' i (shortest_from most x)

pub put_start : (s : List ℕ) (at v : ℕ) → v < 2 ^ 64 → Putting s at v s v at
unfolding lim
put_start s at v h = record { most = 9; below = omega arith; filling = fill_start s at (varint v) }

module _ {s s' : List ℕ} {at v x i : ℕ} (p : Putting s at v s' x i) (room : at + length (varint v) ≤ length s) where
  pub put_room : i < length s'
  put_room = omega (arith, p.filling.next, p.filling.size, length_varint p.most x)

  pub put_more : 128 ≤ x → Putting s at v (set s' i (x % 128 + 128)) (x / 128) (i + 1)
  put_more h =
      let l = longer p.most x p.below h in
      record {
        most = l.less;
        below = l.below;
        filling = fill_more p.filling (shortest_from l.less (x / 128)) l.same (put_byte s' i (x % 128 + 128) put_room);
      }

  pub put_end : x < 128 → Put s at (varint v) (set s' i x) (i + 1)
  put_end h = fill_end (fill_more p.filling [] (short p.most x h) (put_byte s' i x put_room)) refl room
