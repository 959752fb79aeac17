-- Laws of the bytes before and behind others, and of blanks at the ends. Assumes nothing.
use mathlib.Core.Path.{◌≡◌, refl, sym, ap, ◌∙◌}
use mathlib.Core.Bool.{Bool, true, false}
use mathlib.Core.List.{[], ◌∷◌, ◌++◌}
use Prim.Native.Nat.{ℕ, suc, ◌+◌, ◌-◌, ◌≤◌, ◌<◌}
use native.Mathlib.Omega.{arith}
use lib.ListN.{length, take, drop, length-append}
use lib.Seq.{drop_at, take-append-le}
use lib.Dec.{eqb}
use borrow.Author.Tests.{eqb-true}
use Rattle.base_laws.specs.Base.{pick, both}
use Rattle.conf_lines.specs.Lines.{Bytes, is_nil, is_blank, lead, trail}
use Rattle.conf_lines.proofs.Steps.{cases}
use Rattle.conf_content.specs.Content.{has, before, behind, last_is, but_last}
use Rattle.conf_content.specs.Shape.{last_of}

pub unlike : {P : Type 0} → true ≡ false → P
unlike e = let z : ◌≡◌ {A = ℕ} 0 1 = ap (λ (t : Bool). pick t 0 1) e in absurd (omega arith)

pub is_nil_lem : (l : Bytes) → is_nil l ≡ true → l ≡ []
is_nil_lem [] e = refl
is_nil_lem (b ∷ bs) e = unlike (sym e)

pub both_false : (t : Bool) → both t false ≡ false
both_false true = refl
both_false false = refl

-- `=` is no blank
pub equals_no_blank : (b : ℕ) → is_blank b ≡ true → eqb b 61 ≡ false
unfolding is_blank
equals_no_blank b e =
    cases (eqb b 61)
    (λ f. let z : b ≡ 61 = eqb-true b 61 f in unlike (sym e ∙ rw z))
    (λ f. f)

-- ---- blanks at the end

-- a byte goes with all behind it, or stays
pub by_trail : {P : Type 0} (b : ℕ) (bs : Bytes) → (is_blank b ≡ true → trail bs ≡ [] → trail (b ∷ bs) ≡ [] → P) → (trail (b ∷ bs) ≡ b ∷ trail bs → P) → P
unfolding trail
by_trail b bs gone stays =
    cases (is_blank b)
    (λ e.
    cases (is_nil (trail bs))
    (λ f. gone e (is_nil_lem (trail bs) f) (rw (e, f)))
    (λ f. stays (rw (e, f))))
    (λ e. stays (rw e))

-- what is left stands first
pub take_trail : (l : Bytes) → take (length (trail l)) l ≡ trail l
unfolding trail
take_trail [] = refl
take_trail (b ∷ bs) =
    by_trail b bs
    (λ e f h. ap (λ (r : Bytes). take (length r) (b ∷ bs)) h ∙ sym h)
    (λ h. ap (λ (r : Bytes). take (length r) (b ∷ bs)) h ∙ ap (λ (r : Bytes). b ∷ r) (take_trail bs) ∙ sym h)

pub length_trail : (l : Bytes) → length (trail l) ≤ length l
unfolding trail
length_trail [] = omega arith
length_trail (b ∷ bs) = by_trail b bs (λ e f h. omega (arith, ap length h)) (λ h. omega (arith, ap length h, length_trail bs))

-- the first byte stays where any does
pub trail_cons : (b : ℕ) (bs : Bytes) → 0 < length (trail (b ∷ bs)) → trail (b ∷ bs) ≡ b ∷ trail bs
trail_cons b bs l = by_trail b bs (λ e f h. absurd (omega (arith, ap length h))) (λ h. h)

pub trail_other : (b : ℕ) (bs : Bytes) → is_blank b ≡ false → trail (b ∷ bs) ≡ b ∷ trail bs
trail_other b bs e = by_trail b bs (λ f g h. unlike (sym f ∙ e)) (λ h. h)

-- where any of the last bytes stays, all before them do
pub trail_append : (p v : Bytes) → 0 < length (trail v) → trail (p ++ v) ≡ p ++ trail v
trail_append [] v l = refl
trail_append (b ∷ p) v l =
    let e : trail (p ++ v) ≡ p ++ trail v = trail_append p v l in
    by_trail b (p ++ v)
    (λ f g h. absurd (omega (arith, ap length e, ap length g, length-append p (trail v))))
    (λ h. h ∙ ap (λ (r : Bytes). b ∷ r) e)

-- ---- the first `=` of a line without the blanks at its end

pub has_trail : (l : Bytes) → has 61 (trail l) ≡ has 61 l
unfolding has trail
has_trail [] = refl
has_trail (b ∷ bs) =
    by_trail b bs
    (λ e f h. ap (has 61) h ∙ ap (has 61) (sym f) ∙ has_trail bs ∙ rw (equals_no_blank b e))
    (λ h. ap (has 61) h ∙ ap (pick (eqb b 61) true) (has_trail bs))

pub before_trail : (l : Bytes) → has 61 l ≡ true → before 61 (trail l) ≡ before 61 l
unfolding before has trail
before_trail [] t = refl
before_trail (b ∷ bs) t =
    by_trail b bs
    (λ e f h. unlike (sym t ∙ sym (has_trail (b ∷ bs)) ∙ ap (has 61) h))
    (λ h.
    ap (before 61) h
    ∙ cases (eqb b 61) (λ e. rw e) (λ e. rw e (ap (λ (r : Bytes). b ∷ r) (before_trail bs (sym (ap (λ (u : Bool). pick u true (has 61 bs)) e) ∙ t)))))

pub behind_trail : (l : Bytes) → behind 61 (trail l) ≡ trail (behind 61 l)
unfolding behind trail
behind_trail [] = refl
behind_trail (b ∷ bs) =
    by_trail b bs
    (λ e f h. ap (behind 61) h ∙ ap (behind 61) (sym f) ∙ behind_trail bs ∙ rw (equals_no_blank b e))
    (λ h. ap (behind 61) h ∙ cases (eqb b 61) (λ e. rw e) (λ e. rw e (behind_trail bs)))

pub lead_trail : (l : Bytes) → lead (trail l) ≡ trail (lead l)
unfolding lead trail
lead_trail [] = refl
lead_trail (b ∷ bs) =
    by_trail b bs
    (λ e f h. ap lead h ∙ ap lead (sym f) ∙ lead_trail bs ∙ rw e)
    (λ h. ap lead h ∙ cases (is_blank b) (λ e. rw e (lead_trail bs)) (λ e. rw e (sym (trail_other b bs e))))

-- of what is left behind blanks, the first byte is none
pub lead_stays : (l : Bytes) → 0 < length (lead l) → 0 < length (trail (lead l))
unfolding lead trail
lead_stays [] h = h
lead_stays (b ∷ bs) h =
    cases (is_blank b)
    (λ e. rw e (lead_stays bs (omega (arith, ap length (lead_blank b bs e)))))
    (λ e. rw e (omega (arith, ap length (trail_other b bs e))))
  where
    lead_blank : (b : ℕ) (bs : Bytes) → is_blank b ≡ true → lead (b ∷ bs) ≡ lead bs
    lead_blank b bs e = rw e

-- ---- where the bytes behind others begin

-- v ends l
abbrev pub Ends : Bytes → Bytes → Type 0
Ends v l = (p : Bytes) × (p ++ v ≡ l)

ends_cons : (b : ℕ) (v l : Bytes) → Ends v l → Ends v (b ∷ l)
ends_cons b v l h = (b ∷ h.0, ap (λ (r : Bytes). b ∷ r) h.1)

pub ends_lead : (l : Bytes) → Ends (lead l) l
unfolding lead
ends_lead [] = ([], refl)
ends_lead (b ∷ bs) = cases (is_blank b) (λ e. rw e (ends_cons b (lead bs) bs (ends_lead bs))) (λ e. rw e ([], refl))

pub ends_value : (l : Bytes) → Ends (lead (behind 61 l)) l
unfolding behind lead
ends_value [] = ([], refl)
ends_value (b ∷ bs) =
    cases (eqb b 61)
    (λ e. rw e (ends_cons b (lead bs) bs (ends_lead bs)))
    (λ e. rw e (ends_cons b (lead (behind 61 bs)) bs (ends_value bs)))

pub length_ends : (v l : Bytes) → (h : Ends v l) → length l ≡ length h.0 + length v
length_ends v l h = ap length (sym h.1) ∙ length-append h.0 v

pub drop_ends : (v l : Bytes) → Ends v l → drop (length l - length v) l ≡ v
drop_ends v l h =
    ap (drop (length l - length v)) (sym h.1) ∙ drop_at h.0 v (length l - length v) (omega (arith, length_ends v l h))

-- k starts l
abbrev pub Starts : Bytes → Bytes → Type 0
Starts k l = (q : Bytes) × (k ++ q ≡ l)

starts_cons : (b : ℕ) (k l : Bytes) → Starts k l → Starts (b ∷ k) (b ∷ l)
starts_cons b k l h = (h.0, ap (λ (r : Bytes). b ∷ r) h.1)

pub starts_key : (l : Bytes) → Starts (before 61 l) l
unfolding before
starts_key [] = ([], refl)
starts_key (b ∷ bs) = cases (eqb b 61) (λ e. rw e (b ∷ bs, refl)) (λ e. rw e (starts_cons b (before 61 bs) bs (starts_key bs)))

pub length_starts : (k l : Bytes) → Starts k l → length k ≤ length l
length_starts k l h = omega (arith, ap length (sym h.1), length-append k h.0)

pub take_starts : (n : ℕ) (k l : Bytes) → Starts k l → n ≤ length k → take n l ≡ take n k
take_starts n k l h m = ap (take n) (sym h.1) ∙ take-append-le n k h.0 m

-- ---- the last byte

pub last_is_lem : (b : ℕ) (bs : Bytes) → last_is 93 (b ∷ bs) ≡ eqb (last_of (b ∷ bs)) 93
unfolding last_is last_of
last_is_lem b [] = refl
last_is_lem b (c ∷ bs) = last_is_lem c bs

pub but_last_lem : (l : Bytes) → but_last l ≡ take (length l - 1) l
unfolding but_last
but_last_lem [] = refl
but_last_lem (b ∷ []) = refl
but_last_lem (b ∷ c ∷ bs) =
    let e : length (b ∷ c ∷ bs) - 1 ≡ suc (length bs) = omega arith in
    let f : length (c ∷ bs) - 1 ≡ length bs = omega arith in
    ap (λ (r : Bytes). b ∷ r) (but_last_lem (c ∷ bs) ∙ ap (λ (n : ℕ). take n (c ∷ bs)) f) ∙ ap (λ (n : ℕ). take n (b ∷ c ∷ bs)) (sym e)
