-- What a restart at T keeps of timed records, and what is sent after it.
use Prim.Native.Nat.{ℕ, suc, ◌+◌, ◌≤◌, ◌<◌}
use native.Mathlib.Nat.{le_of_suc-le-suc, add_assoc}
use native.Mathlib.Omega.{arith}
use mathlib.Core.Path.{◌≡◌, refl, ap, sym, ◌∙◌}
use mathlib.Core.Bool.{Bool, true, false}
use mathlib.Core.List.{List, [], ◌∷◌, ◌++◌, map}
use lib.Dec.{leb}
use lib.ListN.{length}
use borrow.Author.Tests.{leb-false, le-leb, lt-leb}
use Rattle.base_laws.specs.Base.{pick}
use Rattle.file_format.specs.File.{total, keep}
use Rattle.claim_values.specs.Values.{TimedRecord, stored_for}
use Rattle.claim_delivery.specs.Recording.{time, total_of, at_most, greater}

-- the records up to the last whose total is at most T, and those behind them
unfoldable pub kept : ℕ → ℕ → List TimedRecord → List TimedRecord
kept s T [] = []
kept s T (r ∷ rs) = pick (leb (s + time r) T) (r ∷ kept (s + time r) T rs) []

unfoldable pub later : ℕ → ℕ → List TimedRecord → List TimedRecord
later s T [] = []
later s T (r ∷ rs) = pick (leb (s + time r) T) (later (s + time r) T rs) (r ∷ rs)

pub kept_later : (s T : ℕ) (rs : List TimedRecord) → kept s T rs ++ later s T rs ≡ rs
unfolding kept later
kept_later s T [] = refl
kept_later s T (r ∷ rs) = go (leb (s + time r) T) (kept_later (s + time r) T rs)
  where
    go : (b : Bool) → kept (s + time r) T rs ++ later (s + time r) T rs ≡ rs
        → pick b (r ∷ kept (s + time r) T rs) [] ++ pick b (later (s + time r) T rs) (r ∷ rs) ≡ r ∷ rs
    go true h = ap (λ (l : List TimedRecord). r ∷ l) h
    go false h = refl

-- ---- the book's count and the sender's choice

-- totals never fall: past the first greater one all are greater
past : (s T : ℕ) (rs : List TimedRecord) → T < s → (at_most s T rs ≡ 0) × (greater s T rs ≡ rs)
unfolding at_most greater
past s T [] h = (refl, refl)
past s T (r ∷ rs) h =
    let i = past (s + time r) T rs (omega arith) in
    rw (lt-leb (s + time r) T (omega arith)) (i.0, ap (λ (l : List TimedRecord). r ∷ l) i.1)

pub at_most_is : (s T : ℕ) (rs : List TimedRecord) → at_most s T rs ≡ length (kept s T rs)
unfolding at_most kept
at_most_is s T [] = refl
at_most_is s T (r ∷ rs) = go (leb (s + time r) T) refl (at_most_is (s + time r) T rs)
  where
    go : (b : Bool) → leb (s + time r) T ≡ b → at_most (s + time r) T rs ≡ length (kept (s + time r) T rs)
        → pick b (suc (at_most (s + time r) T rs)) (at_most (s + time r) T rs) ≡ length (pick b (r ∷ kept (s + time r) T rs) [])
    go true e h = ap suc h
    go false e h = (past (s + time r) T rs (leb-false (s + time r) T e)).0

pub greater_is : (s T : ℕ) (rs : List TimedRecord) → greater s T rs ≡ later s T rs
unfolding greater later
greater_is s T [] = refl
greater_is s T (r ∷ rs) = go (leb (s + time r) T) refl (greater_is (s + time r) T rs)
  where
    go : (b : Bool) → leb (s + time r) T ≡ b → greater (s + time r) T rs ≡ later (s + time r) T rs
        → pick b (greater (s + time r) T rs) (r ∷ greater (s + time r) T rs) ≡ pick b (later (s + time r) T rs) (r ∷ rs)
    go true e h = h
    go false e h = ap (λ (l : List TimedRecord). r ∷ l) (past (s + time r) T rs (leb-false (s + time r) T e)).1

-- ---- the session's keeping

pub keep_is : (s T : ℕ) (rs : List TimedRecord) → keep T s (map stored_for rs) ≡ map stored_for (kept s T rs)
unfolding keep kept
keep_is s T [] = refl
keep_is s T (r ∷ rs) = go (leb (s + time r) T) (keep_is (s + time r) T rs)
  where
    go : (b : Bool) → keep T (s + time r) (map stored_for rs) ≡ map stored_for (kept (s + time r) T rs)
        → pick b (stored_for r ∷ keep T (s + time r) (map stored_for rs)) [] ≡ map stored_for (pick b (r ∷ kept (s + time r) T rs) [])
    go true h = ap (λ l. stored_for r ∷ l) h
    go false h = refl

none_kept : (l : List TimedRecord) → length l ≤ 0 → [] ≡ l
none_kept [] h = refl
none_kept (x ∷ l) h = absurd (omega arith)

-- a file that holds all records with total at most T keeps just those
pub kept_beginning : (s T : ℕ) (xs ys : List TimedRecord) → length (kept s T (xs ++ ys)) ≤ length xs → kept s T xs ≡ kept s T (xs ++ ys)
unfolding kept
kept_beginning s T [] ys h = none_kept (kept s T ys) h
kept_beginning s T (r ∷ xs) ys h = go (leb (s + time r) T) (kept_beginning (s + time r) T xs ys) h
  where
    go : (b : Bool) → (length (kept (s + time r) T (xs ++ ys)) ≤ length xs → kept (s + time r) T xs ≡ kept (s + time r) T (xs ++ ys))
        → length (pick b (r ∷ kept (s + time r) T (xs ++ ys)) []) ≤ suc (length xs)
        → pick b (r ∷ kept (s + time r) T xs) [] ≡ pick b (r ∷ kept (s + time r) T (xs ++ ys)) []
    go true ih k = ap (λ (l : List TimedRecord). r ∷ l) (ih (le_of_suc-le-suc k))
    go false ih k = refl

-- ---- commit points

-- before a positive delay, a restart at the present total keeps all so far
pub kept_exact : (s : ℕ) (xs : List TimedRecord) (r : TimedRecord) (ys : List TimedRecord) → 0 < time r → kept s (s + total_of xs) (xs ++ r ∷ ys) ≡ xs
unfolding kept total
kept_exact s [] r ys h = rw (lt-leb (s + time r) (s + 0) (omega arith))
kept_exact s (x ∷ xs) r ys h =
    rw (le-leb (s + time x) (s + (time x + total_of xs)) (omega arith))
    (ap (λ (n : ℕ). x ∷ kept (s + time x) n (xs ++ r ∷ ys)) (sym (add_assoc s (time x) (total_of xs))) ∙ ap (λ (l : List TimedRecord). x ∷ l) (kept_exact (s + time x) xs r ys h))

-- the first record has a positive delay
abbrev pub HeadLater : List TimedRecord → Type 0
HeadLater [] = Unit {0}
HeadLater (r ∷ rs) = 0 < time r

-- so it is with those sent after a restart at a total that was reached
pub later_head : (s T : ℕ) (rs : List TimedRecord) → s + total_of (kept s T rs) ≡ T → HeadLater (later s T rs)
unfolding kept later total
later_head s T [] h = tt
later_head s T (r ∷ rs) h = go (leb (s + time r) T) refl (later_head (s + time r) T rs) h
  where
    go : (b : Bool) → leb (s + time r) T ≡ b → (s + time r + total_of (kept (s + time r) T rs) ≡ T → HeadLater (later (s + time r) T rs))
        → s + total_of (pick b (r ∷ kept (s + time r) T rs) []) ≡ T → HeadLater (pick b (later (s + time r) T rs) (r ∷ rs))
    go true e ih k = ih (omega arith)
    go false e ih k = omega (arith, leb-false (s + time r) T e)
