-- What the differences of two files say. Proved in proofs/Sides.antt (`side_by_side`).
use Rattle.std.specs.Prelude.{ℕ, max, ◌/◌, ◌%◌, ◌<◌, ◌≡◌, List, [], ◌∷◌, ◌++◌, map, Bool, true, length, take, get_or, eqb}
use Rattle.base_laws.specs.Base.{pick, both}
use Rattle.file_format.specs.Record.{Record}
use Rattle.file_compare.specs.Compare.{Difference, between, differences, reported, compared}

-- is no difference reported
unfoldable pub quiet : List Difference → Bool
quiet [] = true
quiet (d ∷ ds) = both (eqb d.flags 0) (quiet ds)

-- "8 first file only" and "16 second only" exchanged
unfoldable pub exchanged : Difference → Difference
exchanged d = record { flags = pick (eqb d.flags 8) 16 (pick (eqb d.flags 16) 8 d.flags); offset = d.offset }

-- at a place two lists of bytes differ, or one has ended
pub data PartAt (xs ys : List ℕ) (at : ℕ) : Type 0 where
  bytes_differ : at < length xs → at < length ys → (get_or xs at 0 ≡ get_or ys at 0 → ⊥) → PartAt xs ys at
  first_ends : at ≡ length xs → at < length ys → PartAt xs ys at
  second_ends : at < length xs → at ≡ length ys → PartAt xs ys at

pub record SideBySide : Type 0 where
  -- "No difference is reported exactly when the bytes are the same."
  pub exactly : (a b : List ℕ) (ds : List Difference) → ((i : ℕ) → get_or a i 0 < 256) → ((i : ℕ) → get_or b i 0 < 256) → compared a b ≡ reported ds
      → (quiet ds ≡ true → a ≡ b) × (a ≡ b → quiet ds ≡ true)
  -- the other way round it is the same but for 8 and 16
  pub turns : (rs qs : List Record) → differences qs rs ≡ map exchanged (differences rs qs)
  -- "Each record": as many as the longer file has
  pub one_each : (rs qs : List Record) → length (differences rs qs) ≡ max (length rs) (length qs)
  -- "for each record number from 0, in order": behind n records of both and their n entries come the entries of the rest, so entry n is of the
  -- records with number n
  pub in_order : (rs qs xs ys : List Record) → length rs ≡ length qs → differences (rs ++ xs) (qs ++ ys) ≡ differences rs qs ++ differences xs ys
  -- where 4 is in the sum, the data are the same before the offset, and at it they differ or one ends
  pub parts : (r q : Record) → (between r q).flags / 4 % 2 ≡ 1
      → (take (between r q).offset r.contents ≡ take (between r q).offset q.contents) × PartAt r.contents q.contents (between r q).offset
  -- where the sum is 0, kind, delay and data are equal
  pub told : (r q : Record) → (between r q).flags ≡ 0 → (r.kind ≡ q.kind) × (r.delay ≡ q.delay) × (r.contents ≡ q.contents)
