-- Entries: the number of one from the comparisons of two records, its bytes, and entries stored one behind the other.
use mathlib.Core.Path.{◌≡◌, refl, sym, ap, ◌∙◌}
use mathlib.Core.Bool.{Bool, true, false}
use mathlib.Core.List.{List, [], ◌∷◌, ◌++◌, append_assoc, append-nil}
use Prim.Native.Nat.{ℕ, suc, ◌+◌, ◌*◌, ◌≤◌, ◌<◌}
use native.Mathlib.Omega.{arith}
use lib.ListN.{length, length-append}
use lib.Dec.{eqb}
use Rattle.base_laws.specs.Base.{pick, both, splice}
use Rattle.base_laws.proofs.Order.{picked}
use Rattle.base_laws.proofs.Splice.{splice_next}
use Rattle.base_numbers.specs.Eight.{eight}
use Rattle.file_format.specs.Digits.{digits}
use Rattle.file_format.specs.Record.{Record}
use Rattle.file_format.proofs.Numbers.{length_digits, eight_digits, digits_append}
use Rattle.file_parting.specs.Parting.{parting}
use Rattle.file_compare.specs.Compare.{Difference, same, between, entry_bytes}
use Rattle.file_compare.specs.Walk.{entry_number}

-- ---- the number of an entry

pub at_most : (b : Bool) (n : ℕ) → pick b 0 n ≤ n
at_most true n = omega arith
at_most false n = omega arith

-- two lists part at the latest where the first ends
pub parting_within : (xs ys : List ℕ) → parting xs ys ≤ length xs
unfolding parting
parting_within [] ys = omega arith
parting_within (x ∷ xs) [] = omega arith
parting_within (x ∷ xs) (y ∷ ys) =
    picked (λ (n : ℕ). n ≤ suc (length xs)) (eqb x y) _ _ (λ _. omega (arith, parting_within xs ys)) (λ _. omega arith)

module _ (r q : Record) (f g at : ℕ) (ef : f ≡ pick (eqb r.kind q.kind) 0 1) (eg : g ≡ pick (eqb r.delay q.delay) 0 2)
    (ea : at ≡ parting r.contents q.contents) where
  same_test : both (eqb at (length r.contents)) (eqb at (length q.contents)) ≡ same r.contents q.contents
  unfolding same
  same_test = ap (λ (n : ℕ). both (eqb n (length r.contents)) (eqb n (length q.contents))) ea

  -- the data are the same
  pub entry_same : both (eqb at (length r.contents)) (eqb at (length q.contents)) ≡ true → (f + g) * 4294967296 ≡ entry_number (between r q)
  unfolding entry_number between
  entry_same e = rw (sym same_test ∙ e) (omega (arith, ef, eg))

  -- they differ
  pub entry_differs : both (eqb at (length r.contents)) (eqb at (length q.contents)) ≡ false → (f + g + 4) * 4294967296 + at ≡ entry_number (between r q)
  unfolding entry_number between
  entry_differs e = rw (sym same_test ∙ e) (omega (arith, ef, eg, ea))

-- ---- its bytes

entry_bytes_lem : (d : Difference) → d.offset < 4294967296 → eight (entry_number d) ≡ digits 4 d.flags ++ digits 4 d.offset
unfolding entry_number
entry_bytes_lem d h = eight_digits (d.flags * 4294967296 + d.offset) ∙ digits_append 4 4 d.flags d.offset h

pub length_entry_bytes : (ds : List Difference) → length (entry_bytes ds) ≡ 8 * length ds
unfolding entry_bytes
length_entry_bytes [] = refl
length_entry_bytes (d ∷ ds) =
    let f : List ℕ = digits 4 d.flags in
    let o : List ℕ = digits 4 d.offset in
    omega (arith, length-append (f ++ o) (entry_bytes ds), length-append f o, length_digits 4 d.flags, length_digits 4 d.offset, length_entry_bytes ds)

entry_bytes_on : (ds : List Difference) (d : Difference) → d.offset < 4294967296 → entry_bytes ds ++ eight (entry_number d) ≡ entry_bytes (ds ++ (d ∷ []))
unfolding entry_bytes
entry_bytes_on [] d h = entry_bytes_lem d h ∙ sym (append-nil (digits 4 d.flags ++ digits 4 d.offset))
entry_bytes_on (x ∷ ds) d h =
    let e : List ℕ = digits 4 x.flags ++ digits 4 x.offset in
    append_assoc e (entry_bytes ds) (eight (entry_number d)) ∙ ap (λ (l : List ℕ). e ++ l) (entry_bytes_on ds d h)

-- ---- stores

-- one entry behind those that stand
pub one_more : (out x y : List ℕ) (ds : List Difference) (d : Difference) → d.offset < 4294967296 → 8 * length ds + 8 ≤ length out
    → x ≡ splice out 0 (entry_bytes ds) → y ≡ splice x (8 * length ds) (eight (entry_number d)) → y ≡ splice out 0 (entry_bytes (ds ++ (d ∷ [])))
one_more out x y ds d h l p q =
    splice_next out x y 0 (8 * length ds) (entry_bytes ds) (eight (entry_number d)) (omega (arith, length_entry_bytes ds)) (omega arith) p q
    ∙ ap (splice out 0) (entry_bytes_on ds d h)
