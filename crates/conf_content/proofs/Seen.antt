-- The measure of a line with one byte more. Assumes nothing.
use mathlib.Core.Path.{◌≡◌, refl, sym, ap, ◌∙◌}
use mathlib.Core.Bool.{Bool, true, false}
use mathlib.Core.List.{[], ◌∷◌, ◌++◌}
use Rattle.std.specs.Prelude.{Some}
use Prim.Native.Nat.{ℕ, ◌+◌, ◌-◌}
use native.Mathlib.Omega.{arith}
use lib.ListN.{length, length-append}
use lib.Dec.{eqb}
use borrow.Author.Tests.{eq-eqb, ne_eqb}
use Rattle.base_laws.specs.Base.{pick, both}
use Rattle.conf_lines.specs.Lines.{Bytes, is_nil, is_blank, lead, trail}
use Rattle.conf_content.specs.Content.{has, before, behind}
use Rattle.conf_content.specs.Shape.{first_of, last_of, measure_of, equals_with, see}
use Rattle.conf_lines.proofs.Steps.{cases}
use Rattle.conf_content.proofs.Ends.{both_false, Ends, ends_value, length_ends}

length_snoc : (l : Bytes) (b : ℕ) → length (l ++ b ∷ []) ≡ length l + 1
length_snoc l b = length-append l (b ∷ [])

nil_snoc : (l : Bytes) (b : ℕ) → is_nil (l ++ b ∷ []) ≡ false
nil_snoc [] b = refl
nil_snoc (x ∷ l) b = refl

first_snoc : (l : Bytes) (b : ℕ) → first_of (l ++ b ∷ []) ≡ pick (eqb (length l) 0) b (first_of l)
first_snoc [] b = refl
first_snoc (x ∷ l) b = rw (ne_eqb (length (x ∷ l)) 0 (λ e. omega (arith, e)))

last_snoc : (l : Bytes) (b : ℕ) → last_of (l ++ b ∷ []) ≡ b
unfolding last_of
last_snoc [] b = refl
last_snoc (x ∷ []) b = refl
last_snoc (x ∷ y ∷ l) b = last_snoc (y ∷ l) b

-- ---- blanks at the end

trail_blank : (l : Bytes) (b : ℕ) → is_blank b ≡ true → trail (l ++ b ∷ []) ≡ trail l
unfolding trail
trail_blank [] b e = rw e
trail_blank (x ∷ l) b e = rw (trail_blank l b e)

trail_other : (l : Bytes) (b : ℕ) → is_blank b ≡ false → trail (l ++ b ∷ []) ≡ l ++ b ∷ []
unfolding trail
trail_other [] b e = rw e
trail_other (x ∷ l) b e = rw (trail_other l b e, nil_snoc l b, both_false (is_blank x))

length_trail_snoc : (l : Bytes) (b : ℕ) → length (trail (l ++ b ∷ [])) ≡ pick (is_blank b) (length (trail l)) (length l + 1)
length_trail_snoc l b =
    cases (is_blank b)
    (λ e. rw (e, trail_blank l b e))
    (λ e. rw (e, trail_other l b e) (length_snoc l b))

last_trail_snoc : (l : Bytes) (b : ℕ) → last_of (trail (l ++ b ∷ [])) ≡ pick (is_blank b) (last_of (trail l)) b
last_trail_snoc l b =
    cases (is_blank b)
    (λ e. rw (e, trail_blank l b e))
    (λ e. rw (e, trail_other l b e) (last_snoc l b))

-- ---- the first `=`

has_snoc : (l : Bytes) (b : ℕ) → has 61 (l ++ b ∷ []) ≡ pick (has 61 l) true (eqb b 61)
unfolding has
has_snoc [] b = cases (eqb b 61) (λ e. rw e) (λ e. rw e)
has_snoc (x ∷ l) b = cases (eqb x 61) (λ e. rw e) (λ e. rw e (has_snoc l b))

before_snoc : (l : Bytes) (b : ℕ) → before 61 (l ++ b ∷ []) ≡ pick (has 61 l) (before 61 l) (pick (eqb b 61) l (l ++ b ∷ []))
unfolding has before
before_snoc [] b = refl
before_snoc (x ∷ l) b =
    cases (eqb x 61)
    (λ e. rw e)
    (λ e. rw e (ap (λ (r : Bytes). x ∷ r) (before_snoc l b) ∙ inside (has 61 l) (eqb b 61) (before 61 l)))
  where
    inside : (t u : Bool) (k : Bytes) → x ∷ pick t k (pick u l (l ++ b ∷ [])) ≡ pick t (x ∷ k) (pick u (x ∷ l) (x ∷ l ++ b ∷ []))
    inside true u k = refl
    inside false true k = refl
    inside false false k = refl

behind_snoc : (l : Bytes) (b : ℕ) → behind 61 (l ++ b ∷ []) ≡ pick (has 61 l) (behind 61 l ++ b ∷ []) []
unfolding has behind
behind_snoc [] b = cases (eqb b 61) (λ e. rw e) (λ e. rw e)
behind_snoc (x ∷ l) b = cases (eqb x 61) (λ e. rw e) (λ e. rw e (behind_snoc l b))

length_lead_snoc : (q : Bytes) (b : ℕ) → length (lead (q ++ b ∷ [])) ≡ pick (both (is_blank b) (is_nil (lead q))) 0 (length (lead q) + 1)
unfolding lead
length_lead_snoc [] b = cases (is_blank b) (λ e. rw e) (λ e. rw e)
length_lead_snoc (x ∷ q) b =
    cases (is_blank x)
    (λ e. rw e (length_lead_snoc q b))
    (λ e. rw (e, both_false (is_blank b)) (length_snoc (x ∷ q) b))

-- is the value's place the end of the line
at_end : (l v : Bytes) → Ends v l → eqb (length l - length v) (length l) ≡ is_nil v
at_end l [] h = eq-eqb (length l - 0) (length l) (omega arith)
at_end l (x ∷ v) h = ne_eqb (length l - length (x ∷ v)) (length l) (λ e. omega (arith, e, length_ends (x ∷ v) l h))

-- ---- the first `=`

rest_snoc : (t : Bool) (n k : ℕ) → n + 1 - pick t 0 (k + 1) ≡ pick t (n + 1) (n - k)
rest_snoc true n k = omega arith
rest_snoc false n k = omega arith

value_in : (l : Bytes) (b : ℕ) → length l + 1 - length (lead (behind 61 l ++ b ∷ []))
    ≡ pick (both (is_blank b) (eqb (length l - length (lead (behind 61 l))) (length l))) (length l + 1) (length l - length (lead (behind 61 l)))
value_in l b =
    let v : Bytes = lead (behind 61 l) in
    ap (λ (n : ℕ). length l + 1 - n) (length_lead_snoc (behind 61 l) b)
    ∙ rest_snoc (both (is_blank b) (is_nil v)) (length l) (length v)
    ∙ ap (λ (t : Bool). pick (both (is_blank b) t) (length l + 1) (length l - length v)) (sym (at_end l v (ends_value l)))

equals_snoc : (l : Bytes) (b : ℕ) → (measure_of (l ++ b ∷ [])).equals ≡ equals_with (measure_of l).equals b (length l) (length (trail l))
unfolding measure_of lead
equals_snoc l b =
    rw (has_snoc l b, before_snoc l b, behind_snoc l b, length_snoc l b)
    (cases (has 61 l)
    (λ e. rw e (ap (λ (v : ℕ). Some (record { key = length (trail (before 61 l)); value = v })) (value_in l b)))
    (λ e. rw e
    (cases (eqb b 61)
    (λ f. rw f (let n : length l + 1 - 0 ≡ length l + 1 = omega arith in ap (λ (v : ℕ). Some (record { key = length (trail l); value = v })) n))
    (λ f. rw f))))

pub seen : (l : Bytes) (b : ℕ) → measure_of (l ++ b ∷ []) ≡ see (measure_of l) b
unfolding measure_of see
seen l b i = record {
  count = length_snoc l b i;
  length = length_trail_snoc l b i;
  first = first_snoc l b i;
  last = last_trail_snoc l b i;
  equals = equals_snoc l b i;
}
