-- The answer and the buffer of a comparison, by the counts of both files.
use mathlib.Core.Path.{◌≡◌, refl, ap}
use mathlib.Core.List.{List}
use Prim.Native.Nat.{ℕ, ◌/◌, ◌≤◌, ◌<◌, max}
use native.Mathlib.Omega.{arith}
use lib.ListN.{length}
use borrow.Author.Tests.{le-leb, lt-leb}
use Rattle.base_laws.specs.Base.{splice}
use Rattle.file_format.specs.Record.{Record}
use Rattle.file_format.specs.File.{Records, all, none, records_of}
use Rattle.file_compare.specs.Compare.{Difference, differences, entry_bytes, valid_records, report_of, compared, answer_of, compare_answer, out_of, compare_out, count_of, count_answer}
use Rattle.file_compare.specs.declared.CompareError.{CompareError}
use Rattle.file_compare.specs.declared.CompareError.TheVariants.{Invalid, NoRoom}
use Rattle.std.proofs.Common.{Some, None, Result, Ok, Err, IsErr, IsErrAnd}
use Rattle.file_compare.proofs.Entries.{length_entry_bytes}
use Rattle.file_compare.proofs.Sides.{valid_records_lem, one_each}

-- ---- what a count says of the records

of_refused : (x : Records) → count_of x ≡ None → x ≡ none
unfolding count_of
of_refused none e = refl
of_refused (all rs) e = let z : ◌≡◌ {A = ℕ} 0 1 = cc in absurd (omega arith)

not_valid : (s : List ℕ) → count_answer s ≡ None → valid_records s ≡ none
unfolding count_answer
not_valid s e = of_refused (valid_records s) e

of_count : (x : Records) (n : ℕ) → count_of x ≡ Some n → (rs : List Record) × (x ≡ all rs) × (length rs ≡ n)
unfolding count_of
of_count none n e = let z : ◌≡◌ {A = ℕ} 0 1 = cc in absurd (omega arith)
of_count (all rs) n e = (rs, refl, cc)

pub is_valid : (s : List ℕ) (n : ℕ) → count_answer s ≡ Some n → (rs : List Record) × (valid_records s ≡ all rs) × (length rs ≡ n)
unfolding count_answer
is_valid s n e = of_count (valid_records s) n e

-- ---- the outcomes

-- what `?` hands on
pub handed_on : (r : Result ℕ CompareError) (e : CompareError) → IsErr r × IsErrAnd r (λ x. x ≡ e) → r ≡ Err e
handed_on (Err x) e h = ap Err h.1
handed_on (Ok n) e h = absurd h.1

-- what is answered, and what the buffer then is
abbrev pub Outcome : (a b out : List ℕ) → Result ℕ CompareError → List ℕ → Type 0
Outcome a b out r after = (r ≡ compare_answer a b out) × (after ≡ compare_out a b out)

module _ (a b out : List ℕ) where
  -- 15 for the first file
  pub first_refused : count_answer a ≡ None → Outcome a b out (Err Invalid) out
  unfolding compare_answer compare_out compared report_of answer_of out_of
  first_refused e = rw (not_valid a e) (refl, refl)

  -- and for the second
  pub second_refused : (m : ℕ) → count_answer a ≡ Some m → count_answer b ≡ None → Outcome a b out (Err Invalid) out
  unfolding compare_answer compare_out compared report_of answer_of out_of
  second_refused m e f = let (rs, x, k) = is_valid a m e in rw (x, not_valid b f) (refl, refl)

  module _ (m n count : ℕ) (e : count_answer a ≡ Some m) (f : count_answer b ≡ Some n) (g : count ≡ max m n) where
    -- 12
    pub no_room : length out / 8 < count → Outcome a b out (Err NoRoom) out
    unfolding compare_answer compare_out compared report_of answer_of out_of
    no_room h =
        let (rs, x, k) = is_valid a m e in
        let (qs, y, l) = is_valid b n f in
        let ds : List Difference = differences rs qs in
        let test = lt-leb (length (entry_bytes ds)) (length out) (omega (arith, length_entry_bytes ds, one_each rs qs)) in
        rw (x, y) (rw test (refl, refl))

    -- the entries
    pub all_stored : (after : List ℕ) → count ≤ length out / 8
        → ((rs qs : List Record) → records_of a ≡ all rs → records_of b ≡ all qs → count ≡ max (length rs) (length qs) → after ≡ splice out 0 (entry_bytes (differences rs qs)))
        → Outcome a b out (Ok count) after
    unfolding compare_answer compare_out compared report_of answer_of out_of
    all_stored after h stored =
        let (rs, x, k) = is_valid a m e in
        let (qs, y, l) = is_valid b n f in
        let ds : List Difference = differences rs qs in
        let number : count ≡ length ds = omega (arith, one_each rs qs) in
        let test = le-leb (length (entry_bytes ds)) (length out) (omega (arith, length_entry_bytes ds)) in
        rw (x, y)
        (rw test (ap Ok number, stored rs qs (valid_records_lem a rs x) (valid_records_lem b qs y) (omega arith)))
