-- The walk over the records of two files: each turn takes one record of those that are left.
use mathlib.Core.Path.{◌≡◌, refl, sym, ap, subst, ◌∙◌}
use mathlib.Core.List.{List, [], ◌∷◌, ◌++◌, append_assoc, append-nil}
use Prim.Native.Nat.{ℕ, ◌+◌, ◌*◌, ◌≤◌, ◌<◌, max}
use native.Mathlib.Omega.{arith}
use lib.ListN.{length, length-append}
use Rattle.base_laws.specs.Base.{part, splice}
use Rattle.base_numbers.specs.Eight.{eight}
use Rattle.file_format.specs.Record.{Record}
use Rattle.file_format.specs.File.{Found, whole, broken, record_at, all, records_of}
use Rattle.file_format.specs.Head.{head_of}
use Rattle.file_format.specs.declared.head.Head.{Head}
use Rattle.std.proofs.Common.{Some, None}
use Rattle.file_parting.specs.Parting.{parting}
use Rattle.file_format.proofs.Found.{Short, short, broken_head, whole_head}
use Rattle.file_compare.specs.Compare.{Difference, same, between, differences, entry_bytes}
use Rattle.file_compare.specs.Walk.{entry_number, at_pair, past, step_of, step_on, record_with}
use Rattle.file_compare.specs.declared.pair.Step.{Step}
use Rattle.file_compare.proofs.Entries.{parting_within, at_most, one_more}
use Rattle.file_compare.proofs.Places.{Left, left_start, left_cons, left_nil}
use Rattle.file_compare.proofs.Sides.{one_each}

-- ---- a step over two files, by the heads

module _ (b : List ℕ) (i j : ℕ) where
  -- the first file has no record here
  pub alone_broken : head_of (record_at b j) ≡ None → record { entry = 16 * 4294967296; first = i; second = j } ≡ step_of i broken j (record_at b j)
  unfolding step_of entry_number at_pair past
  alone_broken e = rw (broken_head b j e)

  pub alone_whole : (h : Head) → head_of (record_at b j) ≡ Some h
      → record { entry = 16 * 4294967296; first = i; second = j + 11 + h.len } ≡ step_of i broken j (record_at b j)
  unfolding step_of entry_number at_pair past
  alone_whole h e = rw (whole_head b j h e)

module _ (a b : List ℕ) (i j : ℕ) where
  pub step_alone : (st : Step) → head_of (record_at a i) ≡ None → st ≡ step_of i broken j (record_at b j) → st ≡ step_on a i b j
  unfolding step_on
  step_alone st e q = rw (broken_head a i e) q

  module _ (h : Head) (e : head_of (record_at a i) ≡ Some h) where
    -- it has one, the second has none
    pub beside_broken : head_of (record_at b j) ≡ None → record { entry = 8 * 4294967296; first = i + 11 + h.len; second = j } ≡ step_on a i b j
    unfolding step_on step_of entry_number at_pair past
    beside_broken f = rw (whole_head a i h e, broken_head b j f)

    -- both have one
    pub beside_whole : (h2 : Head) (n : ℕ) → head_of (record_at b j) ≡ Some h2
        → n ≡ entry_number (between (record_with h.kind h.delay (part a (i + 11) (i + 11 + h.len))) (record_with h2.kind h2.delay (part b (j + 11) (j + 11 + h2.len))))
        → record { entry = n; first = i + 11 + h.len; second = j + 11 + h2.len } ≡ step_on a i b j
    unfolding step_on step_of at_pair past
    beside_whole h2 n f q =
        rw (whole_head a i h e, whole_head b j h2 f)
        (ap (λ (m : ℕ). record { entry = m; first = i + 11 + h.len; second = j + 11 + h2.len }) q)

-- ---- the walk over two files

-- the records left after a step, whose first entry is the step's
record Turned (a : List ℕ) (i : ℕ) (b : List ℕ) (j : ℕ) (rs qs : List Record) : Type 0 where
  rs_left : List Record
  qs_left : List Record
  first_left : Left a (past i (record_at a i)) rs_left
  second_left : Left b (past j (record_at b j)) qs_left
  first_entry : differences rs qs ≡ at_pair (record_at a i) (record_at b j) ∷ differences rs_left qs_left

turn : (a : List ℕ) (i : ℕ) (b : List ℕ) (j : ℕ) (rs qs : List Record) → Left a i rs → Left b j qs → 0 < length (differences rs qs) → Turned a i b j rs qs
unfolding differences past at_pair
turn a i b j [] [] x y h = absurd (omega arith)
turn a i b j (r ∷ rs) [] x y h =
    let (e, f, g) = left_cons a i r rs x in
    let n : record_at b j ≡ broken = left_nil b j y in
    record { rs_left = rs; qs_left = []; first_left = rw f g; second_left = rw n y; first_entry = rw (f, n) }
turn a i b j [] (q ∷ qs) x y h =
    let (e, f, g) = left_cons b j q qs y in
    let n : record_at a i ≡ broken = left_nil a i x in
    record { rs_left = []; qs_left = qs; first_left = rw n x; second_left = rw f g; first_entry = rw n }
turn a i b j (r ∷ rs) (q ∷ qs) x y h =
    let (e, f, g) = left_cons a i r rs x in
    let (e2, f2, g2) = left_cons b j q qs y in
    record { rs_left = rs; qs_left = qs; first_left = rw f g; second_left = rw f2 g2; first_entry = rw (f, f2) }

-- the offset of an entry is small
pair_offset : (f g : Found) → Short f → (at_pair f g).offset < 4294967296
unfolding at_pair between
pair_offset broken g h = omega arith
pair_offset (whole r e) broken h = omega arith
pair_offset (whole r e) (whole q n) h = omega (arith, parting_within r.contents q.contents, at_most (same r.contents q.contents) (parting r.contents q.contents))

-- so many entries are stored from the buffer's start on, and the others are those of the records left
abbrev pub Laying : (a b before out : List ℕ) (i j k : ℕ) (rs qs : List Record) → Type 0
Laying a b before out i j k rs qs =
    (ds : List Difference) × (xs : List Record) × (ys : List Record) × Left a i xs × Left b j ys × (differences rs qs ≡ ds ++ differences xs ys) × (length ds ≡ k)
    × (out ≡ splice before 0 (entry_bytes ds))

pub lay_start : (a b out : List ℕ) (rs qs : List Record) → records_of a ≡ all rs → records_of b ≡ all qs → Laying a b out out 0 0 0 rs qs
unfolding entry_bytes splice
lay_start a b out rs qs x y = ([], rs, qs, left_start a rs x, left_start b qs y, refl, refl, refl)

-- a turn: the step's entry behind those that stand
pub lay_more : (a b before out after : List ℕ) (i j k : ℕ) (rs qs : List Record) (st : Step) → st ≡ step_on a i b j → k < max (length rs) (length qs) → 8 * k + 8 ≤ length before
    → after ≡ splice out (8 * k) (eight st.entry) → Laying a b before out i j k rs qs → Laying a b before after st.first st.second (k + 1) rs qs
unfolding step_on step_of
lay_more a b before out after i j k rs qs st e less room q (ds, xs, ys, x, y, d, n, p) =
    let left : 0 < length (differences xs ys) = omega (arith, one_each rs qs, ap length d, length-append ds (differences xs ys)) in
    let t = turn a i b j xs ys x y left in
    let new : Difference = at_pair (record_at a i) (record_at b j) in
    let stored : after ≡ splice out (8 * length ds) (eight (entry_number new)) =
    q ∙ ap (λ (v : ℕ). splice out (8 * k) (eight v)) (ap (λ (s : Step). s.entry) e) ∙ ap (λ (m : ℕ). splice out (8 * m) (eight (entry_number new))) (sym n) in (
      ds ++ (new ∷ []),
      t.rs_left,
      t.qs_left,
      subst (λ (m : ℕ). Left a m t.rs_left) (sym (ap (λ (s : Step). s.first) e)) t.first_left,
      subst (λ (m : ℕ). Left b m t.qs_left) (sym (ap (λ (s : Step). s.second) e)) t.second_left,
      d ∙ ap (λ (l : List Difference). ds ++ l) t.first_entry ∙ sym (append_assoc ds (new ∷ []) (differences t.rs_left t.qs_left)),
      omega (arith, length-append ds (new ∷ [])),
      one_more before out after ds new (pair_offset (record_at a i) (record_at b j) (short a i)) (omega arith) p stored,
    )

nothing_more : (l : List Difference) → length l ≡ 0 → l ≡ []
nothing_more [] e = refl
nothing_more (d ∷ l) e = absurd (omega arith)

-- the end: all are stored
pub lay_end : (a b before out : List ℕ) (i j k : ℕ) (rs qs : List Record) → k ≡ max (length rs) (length qs) → Laying a b before out i j k rs qs → out ≡ splice before 0 (entry_bytes (differences rs qs))
lay_end a b before out i j k rs qs e (ds, xs, ys, x, y, d, n, p) =
    let none_left : differences xs ys ≡ [] = nothing_more (differences xs ys) (omega (arith, one_each rs qs, ap length d, length-append ds (differences xs ys))) in
    p ∙ ap (λ (l : List Difference). splice before 0 (entry_bytes l)) (sym (d ∙ ap (λ (l : List Difference). ds ++ l) none_left ∙ append-nil ds))
