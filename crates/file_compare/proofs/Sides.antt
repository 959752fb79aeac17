-- What the differences of two files say, proved: SideBySide.
use mathlib.Core.Path.{◌≡◌, refl, sym, ap, ◌∙◌}
use mathlib.Core.Bool.{Bool, true, false}
use mathlib.Core.List.{List, [], ◌∷◌, ◌++◌, map}
use Prim.Native.Nat.{ℕ, suc, ◌+◌, ◌/◌, ◌%◌, ◌<◌, max}
use native.Mathlib.Omega.{arith}
use lib.ListN.{length, take}
use lib.Dec.{eqb}
use borrow.Author.Tests.{eq-eqb, ne_eqb, eqb-true, eqb-false}
use Rattle.base_laws.specs.Base.{pick, both}
use Rattle.base_laws.proofs.Order.{both_true}
use Rattle.file_format.specs.Record.{Record}
use Rattle.file_format.specs.File.{Records, all, none, records_of, file_bytes, FileKind, invalid, unfinished, finished, file_kind}
use Rattle.file_format.proofs.Numbers.{Bytes}
use Rattle.file_format.proofs.Reading.{file_of_records}
use Rattle.file_format.proofs.Times.{cases}
use Rattle.file_parting.specs.Parting.{parting}
use Rattle.file_compare.specs.Compare.{Difference, same, between, first_only, second_only, differences, records_of_kind, valid_records, reported, report_of, compared}
use Rattle.file_compare.specs.SideBySide.{quiet, exchanged, PartAt, bytes_differ, first_ends, second_ends, SideBySide}
use Rattle.file_compare.proofs.Entries.{at_most}

-- ---- bytes that part at the end of both

parting_self : (xs : List ℕ) → parting xs xs ≡ length xs
unfolding parting
parting_self [] = refl
parting_self (x ∷ xs) = rw (eq-eqb x x refl) (ap suc (parting_self xs))

same_self : (xs : List ℕ) → same xs xs ≡ true
unfolding same
same_self xs = rw (eq-eqb (parting xs xs) (length xs) (parting_self xs))

parts_at_end : (xs ys : List ℕ) → parting xs ys ≡ length xs → parting xs ys ≡ length ys → xs ≡ ys
unfolding parting
parts_at_end [] [] = λ h k. refl
parts_at_end [] (y ∷ ys) = λ h k. absurd (omega arith)
parts_at_end (x ∷ xs) [] = λ h k. absurd (omega arith)
parts_at_end (x ∷ xs) (y ∷ ys) =
    cases (eqb x y)
    (λ e. rw e (λ h k. let z : x ≡ y = eqb-true x y e in let zs : xs ≡ ys = parts_at_end xs ys (omega arith) (omega arith) in (λ i. z i ∷ zs i)))
    (λ e. rw e (λ h k. absurd (omega arith)))

same_is : (xs ys : List ℕ) → same xs ys ≡ true → xs ≡ ys
unfolding same
same_is xs ys h =
    let p = both_true (eqb (parting xs ys) (length xs)) (eqb (parting xs ys) (length ys)) h in
    parts_at_end xs ys (eqb-true (parting xs ys) (length xs) p.0) (eqb-true (parting xs ys) (length ys) p.1)

-- ---- a record and another

-- a flag of the sum that is not there
no_flag : (b : Bool) (n : ℕ) → 0 < n → pick b 0 n ≡ 0 → b ≡ true
no_flag true n h e = refl
no_flag false n h e = absurd (omega arith)

between_self : (r : Record) → (between r r).flags ≡ 0
unfolding between
between_self r = rw (eq-eqb r.kind r.kind refl, eq-eqb r.delay r.delay refl, same_self r.contents)

told : (r q : Record) → (between r q).flags ≡ 0 → (r.kind ≡ q.kind) × (r.delay ≡ q.delay) × (r.contents ≡ q.contents)
unfolding between
told r q h =
    let k : ◌≡◌ {A = ℕ} (pick (eqb r.kind q.kind) 0 1) 0 = omega arith in
    let d : ◌≡◌ {A = ℕ} (pick (eqb r.delay q.delay) 0 2) 0 = omega arith in
    let c : ◌≡◌ {A = ℕ} (pick (same r.contents q.contents) 0 4) 0 = omega arith in (
      eqb-true r.kind q.kind (no_flag (eqb r.kind q.kind) 1 (omega arith) k),
      eqb-true r.delay q.delay (no_flag (eqb r.delay q.delay) 2 (omega arith) d),
      same_is r.contents q.contents (no_flag (same r.contents q.contents) 4 (omega arith) c),
    )

between_is : (r q : Record) → (between r q).flags ≡ 0 → r ≡ q
between_is r q h = let t = told r q h in λ i. record { kind = t.0 i; delay = t.1 i; contents = t.2 i }

-- ---- files

quiet_self : (rs : List Record) → quiet (differences rs rs) ≡ true
unfolding quiet differences
quiet_self [] = refl
quiet_self (r ∷ rs) = rw (eq-eqb (between r r).flags 0 (between_self r)) (quiet_self rs)

quiet_is : (rs qs : List Record) → quiet (differences rs qs) ≡ true → rs ≡ qs
unfolding quiet differences
quiet_is [] [] h = refl
quiet_is [] (q ∷ qs) h = let y : ◌≡◌ {A = ℕ} 0 1 = cc in absurd (omega arith)
quiet_is (r ∷ rs) [] h = let y : ◌≡◌ {A = ℕ} 0 1 = cc in absurd (omega arith)
quiet_is (r ∷ rs) (q ∷ qs) h =
    let p = both_true (eqb (between r q).flags 0) (quiet (differences rs qs)) h in
    let e : r ≡ q = between_is r q (eqb-true (between r q).flags 0 p.0) in
    let es : rs ≡ qs = quiet_is rs qs p.1 in
    λ i. e i ∷ es i

-- the records of a valid file are those that its bytes read as
kind_records : (k : FileKind) (x : Records) (rs : List Record) → records_of_kind k x ≡ all rs → x ≡ all rs
unfolding records_of_kind
kind_records invalid x rs e = let z : ◌≡◌ {A = ℕ} 0 1 = cc in absurd (omega arith)
kind_records unfinished x rs e = e
kind_records finished x rs e = e

pub valid_records_lem : (s : List ℕ) (rs : List Record) → valid_records s ≡ all rs → records_of s ≡ all rs
unfolding valid_records
valid_records_lem s rs e = kind_records (file_kind s) (records_of s) rs e

-- what is reported is of the records of both
abbrev Both : Records → Records → List Difference → Type 0
Both x y ds = (rs : List Record) × (qs : List Record) × (x ≡ all rs) × (y ≡ all qs) × (ds ≡ differences rs qs)

report_both : (x y : Records) (ds : List Difference) → report_of x y ≡ reported ds → Both x y ds
unfolding report_of
report_both (all rs) (all qs) ds e = (rs, qs, refl, refl, cc)
report_both (all rs) none ds e = let z : ◌≡◌ {A = ℕ} 0 1 = cc in absurd (omega arith)
report_both none y ds e = let z : ◌≡◌ {A = ℕ} 0 1 = cc in absurd (omega arith)

exactly : (a b : List ℕ) (ds : List Difference) → Bytes a → Bytes b → compared a b ≡ reported ds → (quiet ds ≡ true → a ≡ b) × (a ≡ b → quiet ds ≡ true)
unfolding compared
exactly a b ds ha hb e =
    let (rs, qs, x, y, d) = report_both (valid_records a) (valid_records b) ds e in
    let p = file_of_records a rs ha (valid_records_lem a rs x) in
    let q = file_of_records b qs hb (valid_records_lem b qs y) in (
      (λ h. sym p.1 ∙ ap file_bytes (quiet_is rs qs (ap quiet (sym d) ∙ h)) ∙ q.1),
      (λ h. let z : all rs ≡ all qs = sym x ∙ ap valid_records h ∙ y in let w : rs ≡ qs = cc in ap quiet d ∙ rw w (quiet_self qs)),
    )

-- ---- the other way round

parting_sym : (xs ys : List ℕ) → parting xs ys ≡ parting ys xs
unfolding parting
parting_sym [] [] = refl
parting_sym [] (y ∷ ys) = refl
parting_sym (x ∷ xs) [] = refl
parting_sym (x ∷ xs) (y ∷ ys) =
    cases (eqb x y)
    (λ e. rw (e, eq-eqb y x (sym (eqb-true x y e))) (ap suc (parting_sym xs ys)))
    (λ e. rw (e, ne_eqb y x (λ q. eqb-false x y e (sym q))))

eqb_sym : (a b : ℕ) → eqb a b ≡ eqb b a
eqb_sym a b = cases (eqb a b) (λ e. e ∙ sym (eq-eqb b a (sym (eqb-true a b e)))) (λ e. e ∙ sym (ne_eqb b a (λ q. eqb-false a b e (sym q))))

both_sym : (a b : Bool) → both a b ≡ both b a
both_sym true true = refl
both_sym true false = refl
both_sym false true = refl
both_sym false false = refl

same_sym : (xs ys : List ℕ) → same xs ys ≡ same ys xs
unfolding same
same_sym xs ys = rw (parting_sym xs ys) (both_sym (eqb (parting ys xs) (length xs)) (eqb (parting ys xs) (length ys)))

-- the flags of two records are below 8, and stay
between_exchanged : (r q : Record) → between q r ≡ exchanged (between r q)
unfolding between exchanged
between_exchanged r q =
    let k : Bool = eqb r.kind q.kind in
    let d : Bool = eqb r.delay q.delay in
    let c : Bool = same r.contents q.contents in
    let f : ℕ = pick k 0 1 + pick d 0 2 + pick c 0 4 in
    let l : f < 8 = omega (arith, at_most k 1, at_most d 2, at_most c 4) in
    rw (
      eqb_sym q.kind r.kind,
      eqb_sym q.delay r.delay,
      same_sym q.contents r.contents,
      parting_sym q.contents r.contents,
      ne_eqb f 8 (λ e. omega arith),
      ne_eqb f 16 (λ e. omega arith),
    )

turns : (rs qs : List Record) → differences qs rs ≡ map exchanged (differences rs qs)
unfolding differences exchanged
turns [] [] = refl
turns [] (q ∷ qs) = ap (λ (l : List Difference). first_only ∷ l) (turns [] qs)
turns (r ∷ rs) [] = ap (λ (l : List Difference). second_only ∷ l) (turns rs [])
turns (r ∷ rs) (q ∷ qs) = let e = between_exchanged r q in let es = turns rs qs in λ i. e i ∷ es i

pub one_each : (rs qs : List Record) → length (differences rs qs) ≡ max (length rs) (length qs)
unfolding differences
one_each [] [] = refl
one_each [] (q ∷ qs) = omega (arith, one_each [] qs)
one_each (r ∷ rs) [] = omega (arith, one_each rs [])
one_each (r ∷ rs) (q ∷ qs) = omega (arith, one_each rs qs)

in_order : (rs qs xs ys : List Record) → length rs ≡ length qs → differences (rs ++ xs) (qs ++ ys) ≡ differences rs qs ++ differences xs ys
unfolding differences
in_order [] [] xs ys e = refl
in_order [] (q ∷ qs) xs ys e = absurd (omega arith)
in_order (r ∷ rs) [] xs ys e = absurd (omega arith)
in_order (r ∷ rs) (q ∷ qs) xs ys e = ap (λ (l : List Difference). between r q ∷ l) (in_order rs qs xs ys (omega arith))

-- ---- where data part

parting_before : (xs ys : List ℕ) → take (parting xs ys) xs ≡ take (parting xs ys) ys
unfolding parting
parting_before [] [] = refl
parting_before [] (y ∷ ys) = refl
parting_before (x ∷ xs) [] = refl
parting_before (x ∷ xs) (y ∷ ys) =
    cases (eqb x y)
    (λ e. let z : x ≡ y = eqb-true x y e in let zs = parting_before xs ys in rw e (λ i. z i ∷ zs i))
    (λ e. rw e)

-- one byte further on
part_on : (x y : ℕ) (xs ys : List ℕ) (at : ℕ) → PartAt xs ys at → PartAt (x ∷ xs) (y ∷ ys) (suc at)
part_on x y xs ys at (bytes_differ h k e) = bytes_differ (omega arith) (omega arith) e
part_on x y xs ys at (first_ends h k) = first_ends (omega arith) (omega arith)
part_on x y xs ys at (second_ends h k) = second_ends (omega arith) (omega arith)

parting_at : (xs ys : List ℕ) → (xs ≡ ys → ⊥) → PartAt xs ys (parting xs ys)
unfolding parting
parting_at [] [] h = absurd (h refl)
parting_at [] (y ∷ ys) h = first_ends refl (omega arith)
parting_at (x ∷ xs) [] h = second_ends (omega arith) refl
parting_at (x ∷ xs) (y ∷ ys) h =
    cases (eqb x y)
    (λ e. let z : x ≡ y = eqb-true x y e in rw e (part_on x y xs ys (parting xs ys) (parting_at xs ys (λ q. h (λ i. z i ∷ q i)))))
    (λ e. rw e (bytes_differ (omega arith) (omega arith) (eqb-false x y e)))

-- 4 is in the sum where data are not the same
four_flag : (k d c : Bool) → (pick k 0 1 + pick d 0 2 + pick c 0 4) / 4 % 2 ≡ 1 → c ≡ false
four_flag k d true h = absurd (omega (arith, at_most k 1, at_most d 2))
four_flag k d false h = refl

parts : (r q : Record) → (between r q).flags / 4 % 2 ≡ 1
    → (take (between r q).offset r.contents ≡ take (between r q).offset q.contents) × PartAt r.contents q.contents (between r q).offset
unfolding between
parts r q h =
    let c : same r.contents q.contents ≡ false = four_flag (eqb r.kind q.kind) (eqb r.delay q.delay) (same r.contents q.contents) h in
    rw c (
      parting_before r.contents q.contents,
      parting_at r.contents q.contents (λ e. let z : true ≡ false = sym (same_self q.contents) ∙ ap (λ (l : List ℕ). same l q.contents) (sym e) ∙ c in let y : ◌≡◌ {A = ℕ} 0 1 = cc in absurd (omega arith)),
    )

pub side_by_side : SideBySide
side_by_side = record { exactly = exactly; turns = turns; one_each = one_each; in_order = in_order; parts = parts; told = told }
