-- The recording's first n records as a file: its bytes, its length, what it is.
use Prim.Native.Nat.{ℕ, zero, suc, ◌+◌, ◌≤◌}
use native.Mathlib.Omega.{arith}
use mathlib.Core.Path.{◌≡◌, refl, ap, sym, ◌∙◌}
use mathlib.Core.Bool.{Bool, true, false}
use mathlib.Core.List.{List, [], ◌∷◌, ◌++◌, append_assoc, append-nil, map}
use lib.Dec.{leb, eqb}
use lib.ListN.{length, take, drop, length-append, take-append-drop}
use lib.Seq.{take-append_seam, length-take-le, take_all}
use borrow.Author.Tests.{leb-true, leb-false, eq-eqb, ne_eqb}
use Rattle.base_laws.specs.Base.{All}
use Rattle.base_laws.proofs.Lists.{all_left}
use Rattle.file_format.specs.Record.{Record}
use Rattle.file_format.specs.File.{Records, all, records_of, file_bytes, limit, total, unfinished, finished, rest_kind, records_kind, kind_of_records, file_kind}
use Rattle.file_format.proofs.Times.{rest_cons, accept_cons}
use Rattle.file_format.proofs.Reading.{InRange, Ranged, no_records, one_more, records_of_file}
use Rattle.file_format.proofs.Appends.{file_append, ranged_append, kind_exit, total_append}
use Rattle.session.specs.Step.{accept_record, exit_record}
use Rattle.claim_values.specs.Values.{TimedRecord, stored_for}
use Rattle.claim_values.proofs.Stored.{Small, StorableTimed, timed_ranged, time_is, may_follow_lem, exit_ranged, may_end_lem}
use Rattle.claim_delivery.specs.Recording.{Recording, records, time, total_of, Valid}
use Rattle.claim_delivery.specs.Host.{carries}

-- a valid recording whose data are not too long: those that some messages say (Sizes)
pub record Storable (R : Recording) : Type 0 where
  pub valid : Valid R
  pub accept_small : Small (accept_record R.accept)
  pub timed_storable : All StorableTimed R.timed
  pub exit_small : Small (exit_record R.exit)

-- ---- timed records, one after the other

pub map_append : (xs ys : List TimedRecord) → map stored_for (xs ++ ys) ≡ map stored_for xs ++ map stored_for ys
map_append [] ys = refl
map_append (x ∷ xs) ys = ap (λ (l : List Record). stored_for x ∷ l) (map_append xs ys)

pub length_records_of : (xs : List TimedRecord) → length (map stored_for xs) ≡ length xs
length_records_of [] = refl
length_records_of (x ∷ xs) = ap suc (length_records_of xs)

pub total_of_append : (xs ys : List TimedRecord) → total_of (xs ++ ys) ≡ total_of xs + total_of ys
total_of_append xs ys = ap total (map_append xs ys) ∙ total_append (map stored_for xs) (map stored_for ys)

ranged_timed : (ts : List TimedRecord) → All StorableTimed ts → Ranged (map stored_for ts)
ranged_timed [] v = no_records
ranged_timed (t ∷ ts) v = one_more (timed_ranged t v.0) (ranged_timed ts v.1)

rest_unfinished : (sum : ℕ) (ts : List TimedRecord) → All StorableTimed ts → sum + total_of ts ≤ limit → rest_kind sum (map stored_for ts) ≡ unfinished
unfolding rest_kind total
rest_unfinished sum [] v h = refl
rest_unfinished sum (t ∷ ts) v h =
    let d : time t ≡ (stored_for t).delay = time_is t v.0 in
    rest_cons sum (stored_for t) (map stored_for ts) (may_follow_lem sum t v.0 (omega arith)) ∙ rest_unfinished (sum + (stored_for t).delay) ts v.1 (omega arith)

-- a file of no records carries no exit
pub carries_none : carries (file_kind []) ≡ false
unfolding carries file_kind kind_of_records file_bytes records_kind
carries_none = ap (λ (r : Records). carries (kind_of_records r)) (records_of_file [] no_records)

-- ---- the first n records

module _ (R : Recording) where
  -- the accept and some timed records
  abbrev pub begun : List TimedRecord → List Record
  begun xs = accept_record R.accept ∷ map stored_for xs

  pub first : (xs ys : List TimedRecord) → xs ++ ys ≡ R.timed → take (suc (length xs)) (records R) ≡ begun xs
  unfolding records
  first xs ys e =
      rw (
        ← e,
        map_append xs ys,
        append_assoc (map stored_for xs) (map stored_for ys) (exit_record R.exit ∷ []),
        ← length_records_of xs,
        take-append_seam (map stored_for xs) (map stored_for ys ++ (exit_record R.exit ∷ [])),
      )

  pub size : length (records R) ≡ suc (suc (length R.timed))
  unfolding records
  size = omega (arith, length-append (map stored_for R.timed) (exit_record R.exit ∷ []), length_records_of R.timed)

  -- the records by a split of the timed ones
  pub split_records : (xs ys : List TimedRecord) → xs ++ ys ≡ R.timed → records R ≡ begun xs ++ (map stored_for ys ++ (exit_record R.exit ∷ []))
  unfolding records
  split_records xs ys e = rw (← e, map_append xs ys) (append_assoc (begun xs) (map stored_for ys) (exit_record R.exit ∷ []))

  -- n is nothing, or a split, or all
  pub data Count (n : ℕ) : Type 0 where
    nothing : n ≡ 0 → Count n
    some_of : (xs ys : List TimedRecord) → xs ++ ys ≡ R.timed → n ≡ suc (length xs) → Count n
    whole : n ≡ length (records R) → Count n

  pub count : (n : ℕ) → n ≤ length (records R) → Count n
  count zero h = nothing refl
  count (suc k) h = go (leb k (length R.timed)) refl
    where
      go : (b : Bool) → leb k (length R.timed) ≡ b → Count (suc k)
      go true p = some_of (take k R.timed) (drop k R.timed) (take-append-drop k R.timed)
          (ap suc (sym (length-take-le k R.timed (leb-true k (length R.timed) p))))
      go false p = whole (omega (arith, size, leb-false k (length R.timed) p))

  pub beginning_short : (n : ℕ) → length (file_bytes (take n (records R))) ≤ length (file_bytes (records R))
  beginning_short n =
      let e : length (file_bytes (take n (records R))) + length (file_bytes (drop n (records R))) ≡ length (file_bytes (records R)) =
      sym (length-append (file_bytes (take n (records R))) (file_bytes (drop n (records R)))) ∙ ap length (sym (file_append (take n (records R)) (drop n (records R))))
      ∙ ap (λ (l : List Record). length (file_bytes l)) (take-append-drop n (records R)) in
      omega arith

  -- ---- of a recording that can be stored

  module _ (storable : Storable R) where
    accept_ranged : InRange (accept_record R.accept)
    accept_ranged = record { kind_fits = omega arith; delay_fits = omega arith; contents_fit = storable.accept_small }

    begun_ranged : (xs : List TimedRecord) → All StorableTimed xs → Ranged (begun xs)
    begun_ranged xs v = one_more accept_ranged (ranged_timed xs v)

    pub all_ranged : Ranged (records R)
    unfolding records
    all_ranged = ranged_append (begun R.timed) (exit_record R.exit ∷ []) (begun_ranged R.timed storable.timed_storable)
        (one_more (exit_ranged R.exit storable.valid.exit_in_range storable.exit_small) no_records)

    pub begun_unfinished : (xs ys : List TimedRecord) → xs ++ ys ≡ R.timed → records_kind (begun xs) ≡ unfinished
    begun_unfinished xs ys e =
        let sums : total_of xs + total_of ys ≡ total_of R.timed = sym (total_of_append xs ys) ∙ ap total_of e in
        accept_cons (accept_record R.accept) (map stored_for xs) refl refl
        ∙ rest_unfinished 0 xs (all_left StorableTimed xs ys (rw e storable.timed_storable)) (omega (arith, storable.valid.within_limit))

    pub whole_finished : records_kind (records R) ≡ finished
    unfolding records
    whole_finished = kind_exit (begun R.timed) (exit_record R.exit) (begun_unfinished R.timed [] (append-nil R.timed)) (may_end_lem R.exit storable.valid.exit_in_range)

    -- what the bytes read as
    pub read_begun : (xs ys : List TimedRecord) → xs ++ ys ≡ R.timed → records_of (file_bytes (take (suc (length xs)) (records R))) ≡ all (begun xs)
    read_begun xs ys e =
        ap (λ (l : List Record). records_of (file_bytes l)) (first xs ys e)
        ∙ records_of_file (begun xs) (begun_ranged xs (all_left StorableTimed xs ys (rw e storable.timed_storable)))

    take_whole : (n : ℕ) → n ≡ length (records R) → take n (records R) ≡ records R
    take_whole n e = take_all n (records R) (omega arith)

    pub read_whole : (n : ℕ) → n ≡ length (records R) → records_of (file_bytes (take n (records R))) ≡ all (records R)
    read_whole n e = ap (λ (l : List Record). records_of (file_bytes l)) (take_whole n e) ∙ records_of_file (records R) all_ranged

    -- does a file of n records carry an exit
    pub carries_is : (n : ℕ) → n ≤ length (records R) → carries (file_kind (file_bytes (take n (records R)))) ≡ eqb n (length (records R))
    unfolding carries file_kind kind_of_records file_bytes records_kind
    carries_is n h = go (count n h)
      where
        go : Count n → carries (file_kind (file_bytes (take n (records R)))) ≡ eqb n (length (records R))
        go (nothing e) = rw e (ap (λ (r : Records). carries (kind_of_records r)) (records_of_file [] no_records) ∙ sym (ne_eqb 0 (length (records R)) (λ z. omega (arith, size))))
        go (some_of xs ys e k) =
            let l : length xs + length ys ≡ length R.timed = sym (length-append xs ys) ∙ ap length e in
            rw k (ap (λ (r : Records). carries (kind_of_records r)) (read_begun xs ys e) ∙ ap carries (begun_unfinished xs ys e))
            ∙ sym (ne_eqb n (length (records R)) (λ z. omega (arith, size)))
        go (whole e) = ap (λ (r : Records). carries (kind_of_records r)) (read_whole n e) ∙ ap carries whole_finished ∙ sym (eq-eqb n (length (records R)) e)
