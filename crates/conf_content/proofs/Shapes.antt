-- What a line's measure says of its content. Assumes nothing.
use mathlib.Core.Path.{◌≡◌, refl, sym, ap, ◌∙◌}
use mathlib.Core.Bool.{Bool, true, false}
use mathlib.Core.List.{[], ◌∷◌, ◌++◌}
use Prim.Native.Nat.{ℕ, ◌-◌, ◌≤◌, ◌<◌}
use native.Mathlib.Omega.{arith}
use lib.ListN.{length, take, drop, length-append, length-drop}
use lib.Seq.{take-nil, take-take}
use lib.Dec.{eqb}
use borrow.Author.Tests.{eq-eqb, ne_eqb}
use Rattle.base_laws.specs.Base.{pick}
use Rattle.conf_lines.specs.Lines.{Bytes, lead, trail}
use Rattle.conf_lines.specs.Span.{joined_from}
use Rattle.conf_content.specs.Content.{has, before, behind, last_is, but_last, empty, section, setting, bad, header, keyed, assignment, content_of}
use Rattle.conf_content.specs.Shape.{first_of, last_of, measure_of, Shaped}
use Rattle.conf_content.specs.declared.Equals.{Equals}
use Rattle.conf_content.specs.declared.Measure.{Measure}
use Rattle.conf_content.specs.declared.Shape.TheVariants.{Header, Setting}
use Rattle.conf_content.specs.declared.Malformed.{Malformed}
use Rattle.std.specs.Prelude.{Some, None, Ok, Err}
use Rattle.conf_content.proofs.Ends.{take_trail, length_trail, trail_cons, trail_append, has_trail, before_trail, behind_trail, lead_trail, lead_stays, Ends, ends_value, length_ends, drop_ends, starts_key, length_starts, take_starts, last_is_lem, but_last_lem}

-- ---- nothing

pub nothing_left : (l : Bytes) → length (trail l) ≡ 0 → empty ≡ content_of (trail l)
unfolding content_of
nothing_left l e = ap content_of (sym (no_bytes (trail l) e))
  where
    no_bytes : (t : Bytes) → length t ≡ 0 → t ≡ []
    no_bytes [] e = refl
    no_bytes (b ∷ t) e = absurd (omega (arith, e))

-- ---- a header

-- the bytes behind the first
last_behind : (b : ℕ) (t : Bytes) → 2 ≤ length (b ∷ t) → last_is 93 t ≡ eqb (last_of (b ∷ t)) 93
unfolding last_of
last_behind b [] h = absurd (omega arith)
last_behind b (c ∷ t) h = last_is_lem c t

none_behind : (b : ℕ) (t : Bytes) → length (b ∷ t) < 2 → last_is 93 t ≡ false
unfolding last_is
none_behind b [] h = refl
none_behind b (c ∷ t) h = absurd (omega arith)

other_behind : (b : ℕ) (t : Bytes) → (last_of (b ∷ t) ≡ 93 → ⊥) → last_is 93 t ≡ false
unfolding last_of last_is
other_behind b [] h = refl
other_behind b (c ∷ t) h = last_is_lem c t ∙ ne_eqb (last_of (c ∷ t)) 93 h

-- a line that starts with `[`
header_behind : (b : ℕ) (bs : Bytes) → b ≡ 91 → 0 < length (trail (b ∷ bs)) → content_of (trail (b ∷ bs)) ≡ header (trail bs)
unfolding content_of
header_behind b bs e h = ap content_of (trail_cons b bs h) ∙ rw (eq-eqb b 91 e)

but_last_trail : (bs : Bytes) → but_last (trail bs) ≡ take (length (trail bs) - 1) bs
but_last_trail bs =
    but_last_lem (trail bs)
    ∙ ap (take (length (trail bs) - 1)) (sym (take_trail bs))
    ∙ take-take (length (trail bs) - 1) (length (trail bs)) bs (omega arith)

header_closed : (l : Bytes) → first_of l ≡ 91 → last_of (trail l) ≡ 93 → 2 ≤ length (trail l)
    → section (take (length (trail l) - 2) (drop 1 l)) ≡ content_of (trail l)
unfolding trail header
header_closed [] f e h = absurd (omega arith)
header_closed (b ∷ bs) f e h =
    let t : trail (b ∷ bs) ≡ b ∷ trail bs = trail_cons b bs (omega arith) in
    let n : length (trail (b ∷ bs)) - 2 ≡ length (trail bs) - 1 = omega (arith, ap length t) in
    let g : last_is 93 (trail bs) ≡ true =
    last_behind b (trail bs) (omega (arith, ap length t)) ∙ eq-eqb (last_of (b ∷ trail bs)) 93 (ap last_of (sym t) ∙ e) in
    ap (λ (k : ℕ). section (take k bs)) n
    ∙ ap section (sym (but_last_trail bs))
    ∙ ap (λ (u : Bool). pick u (section (but_last (trail bs))) bad) (sym g)
    ∙ sym (header_behind b bs f (omega arith))

header_open : (b : ℕ) (bs : Bytes) → b ≡ 91 → 0 < length (trail (b ∷ bs)) → last_is 93 (trail bs) ≡ false → bad ≡ content_of (trail (b ∷ bs))
unfolding header
header_open b bs f h g = ap (λ (u : Bool). pick u (section (but_last (trail bs))) bad) (sym g) ∙ sym (header_behind b bs f h)

header_short : (l : Bytes) → first_of l ≡ 91 → 0 < length (trail l) → length (trail l) < 2 → bad ≡ content_of (trail l)
unfolding trail
header_short [] f h e = absurd (omega arith)
header_short (b ∷ bs) f h e =
    header_open b bs f h (none_behind b (trail bs) (omega (arith, ap length (trail_cons b bs h))))

header_other : (l : Bytes) → first_of l ≡ 91 → 0 < length (trail l) → (last_of (trail l) ≡ 93 → ⊥) → bad ≡ content_of (trail l)
unfolding trail
header_other [] f h e = absurd (omega arith)
header_other (b ∷ bs) f h e = header_open b bs f h (other_behind b (trail bs) (λ z. e (ap last_of (trail_cons b bs h) ∙ z)))

-- ---- a setting

-- any other line
assigned : (l : Bytes) → eqb (first_of l) 91 ≡ false → 0 < length (trail l) → content_of (trail l) ≡ assignment (trail l)
unfolding trail content_of
assigned [] f h = absurd (omega arith)
assigned (b ∷ bs) f h = let t = trail_cons b bs h in ap content_of t ∙ rw f (ap assignment (sym t))

abbrev key_length : Bytes → ℕ
key_length l = length (trail (before 61 l))

abbrev value_place : Bytes → ℕ
value_place l = length l - length (lead (behind 61 l))

-- its parts are those of the line with the blanks at its end
assigned_parts : (l : Bytes) → eqb (first_of l) 91 ≡ false → 0 < length (trail l) → has 61 l ≡ true
    → content_of (trail l) ≡ keyed (trail (before 61 l)) (trail (lead (behind 61 l)))
unfolding assignment
assigned_parts l f h e =
    assigned l f h
    ∙ rw (has_trail l, e, before_trail l e, behind_trail l, lead_trail (behind 61 l))

assigned_none : (l : Bytes) → eqb (first_of l) 91 ≡ false → 0 < length (trail l) → has 61 l ≡ false → bad ≡ content_of (trail l)
unfolding assignment
assigned_none l f h e = sym (assigned l f h ∙ rw (has_trail l, e))

take_key : (l : Bytes) → take (key_length l) l ≡ trail (before 61 l)
take_key l = take_starts (key_length l) (before 61 l) l (starts_key l) (length_trail (before 61 l)) ∙ take_trail (before 61 l)

rest_length : (v l : Bytes) → Ends v l → (0 < length v → 0 < length (trail v)) → take (length (trail l) - (length l - length v)) v ≡ trail v
unfolding trail
rest_length [] l p h = take-nil (length (trail l) - (length l - 0))
rest_length (x ∷ v) l p h =
    let t : trail l ≡ p.0 ++ trail (x ∷ v) = ap trail (sym p.1) ∙ trail_append p.0 (x ∷ v) (h (omega arith)) in
    let n : length (trail l) - (length l - length (x ∷ v)) ≡ length (trail (x ∷ v)) =
    omega (arith, ap length t, length-append p.0 (trail (x ∷ v)), length_ends (x ∷ v) l p) in
    ap (λ (k : ℕ). take k (x ∷ v)) n ∙ take_trail (x ∷ v)

take_value : (l : Bytes) → take (length (trail l) - value_place l) (drop (value_place l) l) ≡ trail (lead (behind 61 l))
take_value l =
    ap (take (length (trail l) - value_place l)) (drop_ends (lead (behind 61 l)) l (ends_value l))
    ∙ rest_length (lead (behind 61 l)) l (ends_value l) (lead_stays (behind 61 l))

keyed_some : (k v : Bytes) → (length k ≡ 0 → ⊥) → setting k v ≡ keyed k v
unfolding keyed
keyed_some [] v h = absurd (h refl)
keyed_some (b ∷ k) v h = refl

keyed_none : (k v : Bytes) → length k ≡ 0 → bad ≡ keyed k v
unfolding keyed
keyed_none [] v h = refl
keyed_none (b ∷ k) v h = absurd (omega (arith, h))

-- ---- the first `=`

no_one : (t : Bool) (x : Equals) → pick t (Some x) None ≡ None → t ≡ false
no_one true x e = cc
no_one false x e = refl

one : (t : Bool) (x q : Equals) → pick t (Some x) None ≡ Some q → (t ≡ true) × (q ≡ x)
one true x q e = (refl, cc)
one false x q e = let z : ◌≡◌ {A = ℕ} 0 1 = cc in absurd (omega arith)

-- ---- the shapes

module _ (s : Bytes) (at : ℕ) (m : Measure) (e : m ≡ measure_of (joined_from s at)) where
  abbrev l : Bytes
  l = joined_from s at

  m_length : m.length ≡ length (trail l)
  unfolding measure_of
  m_length = ap (λ (n : Measure). n.length) e

  m_first : m.first ≡ first_of l
  unfolding measure_of
  m_first = ap (λ (n : Measure). n.first) e

  m_last : m.last ≡ last_of (trail l)
  unfolding measure_of
  m_last = ap (λ (n : Measure). n.last) e

  m_equals : m.equals ≡ pick (has 61 l) (Some (record { key = key_length l; value = value_place l })) None
  unfolding measure_of
  m_equals = ap (λ (n : Measure). n.equals) e

  pub shaped_empty : m.length ≡ 0 → Shaped s at (Ok None)
  shaped_empty h = record { content = nothing_left l (sym m_length ∙ h); parts = tt }

  module _ (f : m.first ≡ 91) (h : 0 < m.length) where
    pub shaped_header : m.last ≡ 93 → 2 ≤ m.length → (a : ℕ) → joined_from s a ≡ drop 1 l
        → Shaped s at (Ok (Some (Header (record { at = a; length = m.length - 2 }))))
    shaped_header z n a d = record {
      content = rw (d, m_length) (header_closed l (sym m_first ∙ f) (sym m_last ∙ z) (omega (arith, m_length)));
      parts = omega (arith, ap length d, length-drop 1 l, length_trail l, m_length);
    }

    pub shaped_short : m.length < 2 → {e : Malformed} → Shaped s at (Err e)
    shaped_short n = record { content = header_short l (sym m_first ∙ f) (omega (arith, m_length)) (omega (arith, m_length)); parts = tt }

    pub shaped_open : (m.last ≡ 93 → ⊥) → {e : Malformed} → Shaped s at (Err e)
    shaped_open z = record { content = header_other l (sym m_first ∙ f) (omega (arith, m_length)) (λ y. z (m_last ∙ y)); parts = tt }

  module _ (f : eqb m.first 91 ≡ false) (h : 0 < m.length) where
    first_other : eqb (first_of l) 91 ≡ false
    first_other = ap (λ (n : ℕ). eqb n 91) (sym m_first) ∙ f

    some_bytes : 0 < length (trail l)
    some_bytes = omega (arith, m_length)

    pub shaped_no_equals : m.equals ≡ None → {r : Malformed} → Shaped s at (Err r)
    shaped_no_equals q = record { content = assigned_none l first_other some_bytes (no_one _ _ (sym m_equals ∙ q)); parts = tt }

    module _ {q : Equals} (x : m.equals ≡ Some q) where
      found : (has 61 l ≡ true) × (q ≡ record { key = key_length l; value = value_place l })
      found = one _ _ _ (sym m_equals ∙ x)

      m_key : q.key ≡ key_length l
      m_key = ap (λ (y : Equals). y.key) found.1

      m_value : q.value ≡ value_place l
      m_value = ap (λ (y : Equals). y.value) found.1

      parts_of : content_of (trail l) ≡ keyed (trail (before 61 l)) (trail (lead (behind 61 l)))
      parts_of = assigned_parts l first_other some_bytes found.0

      pub shaped_no_key : q.key ≡ 0 → {r : Malformed} → Shaped s at (Err r)
      shaped_no_key k = record {
        content = keyed_none (trail (before 61 l)) (trail (lead (behind 61 l))) (sym m_key ∙ k) ∙ sym parts_of;
        parts = tt;
      }

      pub shaped_setting : (q.key ≡ 0 → ⊥) → (a n : ℕ) → joined_from s a ≡ drop q.value l → n ≡ m.length - q.value
          → Shaped s at (Ok (Some (Setting (record { at = at; length = q.key }) (record { at = a; length = n }))))
      shaped_setting k a n d y = record {
        content =
            rw (d, y, m_length, m_key, m_value, take_key l, take_value l)
            (keyed_some (trail (before 61 l)) (trail (lead (behind 61 l))) (λ z. k (m_key ∙ z)) ∙ sym parts_of);
        parts = (
          omega (arith, m_key, length_trail (before 61 l), length_starts (before 61 l) l (starts_key l)),
          omega (arith, ap length d, length-drop q.value l, length_trail l, m_length),
        );
      }
