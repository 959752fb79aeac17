-- A session and the numbers that it is kept as.
use Rattle.std.specs.Prelude.{Option, Some, None}
use Prim.Native.Nat.{ℕ, ◌+◌, ◌-◌, ◌≤◌, ◌<◌}
use native.Mathlib.Omega.{arith}
use mathlib.Core.Path.{◌≡◌, refl, sym, ap, ◌∙◌}
use mathlib.Core.Bool.{true}
use mathlib.Core.List.{List, [], ◌∷◌}
use mathlib.Core.Logic.{◌⊎◌, inl, inr}
use lib.ListN.{length, get_or}
use lib.Dec.{leb, eqb}
use borrow.Author.Tests.{le-leb, eq-eqb, leb-true, eqb-true, eqb-false}
use Rattle.base_laws.specs.Base.{pick, both}
use Rattle.base_laws.proofs.Order.{picked, both_true}
use Rattle.base_numbers.specs.Eight.{eights, number_at}
use Rattle.base_numbers.proofs.Back.{first_back, second_back, third_back, fourth_back, fifth_back, five_back}
use Rattle.file_format.specs.File.{limit}
use Rattle.file_format.proofs.Times.{cases}
use Rattle.session_turn.specs.declared.State.{State}
use Rattle.session_turn.specs.declared.State.TheVariants.{New, Greeted, Logging, EventsOnly, Closed}
use Rattle.session.specs.declared.Session.{Session}
use Rattle.session_bytes.specs.Saved.{state_number, mark_number, mark_point, session_numbers, session_bytes, closed, saved_state, saved_mark, are_session, from_numbers, session_of}
use Rattle.session_bytes.specs.Sound.{MarkSound, Sound}
use Rattle.session_bytes.proofs.Slices.{number_most}

-- ---- a sound session reads back

abbrev made : State → Option ℕ → ℕ → ℕ → ℕ → Session
made st m used total low = record { state = st; used = used; total = total; low = low; mark = m }

module _ (used total low : ℕ) (hu : used ≤ 1073741824) (ht : total ≤ limit) (hl : low ≤ limit) where
  within : (t : ℕ) → t ≤ limit → both (leb used 1073741824) (both (leb total limit) (both (leb low limit) (leb t limit))) ≡ true
  within t h = rw (le-leb used 1073741824 hu, le-leb total limit ht, le-leb low limit hl) (le-leb t limit h)

  from_session : (st : State) (m : Option ℕ) → MarkSound m → from_numbers (state_number st + mark_number m) used total low (mark_point m) ≡ made st m used total low
  unfolding from_numbers are_session state_number mark_number mark_point saved_state saved_mark
  from_session New None h = rw (within 0 (omega arith))
  from_session Greeted None h = rw (within 0 (omega arith))
  from_session Logging None h = rw (within 0 (omega arith))
  from_session EventsOnly None h = rw (within 0 (omega arith))
  from_session Closed None h = rw (within 0 (omega arith))
  from_session New (Some t) h = rw (within t h)
  from_session Greeted (Some t) h = rw (within t h)
  from_session Logging (Some t) h = rw (within t h)
  from_session EventsOnly (Some t) h = rw (within t h)
  from_session Closed (Some t) h = rw (within t h)

point_most : (m : Option ℕ) → MarkSound m → mark_point m ≤ limit
unfolding mark_point
point_most None h = omega arith
point_most (Some t) h = h

pub forty : (se : Session) → length (session_bytes se) ≡ 40
unfolding session_bytes session_numbers eights
forty se = refl

pub back : (se : Session) → Sound se → session_of (session_bytes se) ≡ se
unfolding session_of session_bytes session_numbers
back se h =
    let n : ℕ = state_number se.state + mark_number se.mark in
    let p : ℕ = mark_point se.mark in
    let small : n ≤ 12 = number_most se.state se.mark _ _ refl refl in
    let near : p ≤ limit = point_most se.mark h.mark in
    let total : se.total ≤ limit = h.total in
    let low : se.low ≤ limit = h.low in
    let used : se.used ≤ 1073741824 = h.used in
    rw (
      eq-eqb (length (session_bytes se)) 40 (forty se),
      first_back n se.used se.total se.low p (omega arith),
      second_back n se.used se.total se.low p (omega arith),
      third_back n se.used se.total se.low p (omega arith),
      fourth_back n se.used se.total se.low p (omega arith),
      fifth_back n se.used se.total se.low p (omega arith),
    )
    (from_session se.used se.total se.low used total low se.state se.mark h.mark)

-- ---- what reads as a session is the session's bytes

state_again : (n : ℕ) → n ≤ 4 → state_number (saved_state n) ≡ n
unfolding state_number saved_state
state_again n h =
    cases (eqb n 0) (λ e. rw e (omega (arith, eqb-true n 0 e)))
    (λ a.
    rw a
    (cases (eqb n 1) (λ e. rw e (omega (arith, eqb-true n 1 e)))
    (λ b.
    rw b
    (cases (eqb n 2) (λ e. rw e (omega (arith, eqb-true n 2 e)))
    (λ c.
    rw c (cases (eqb n 3) (λ e. rw e (omega (arith, eqb-true n 3 e))) (λ d. rw d (omega (arith, eqb-false n 0 a, eqb-false n 1 b, eqb-false n 2 c, eqb-false n 3 d)))))))))

-- the first number and the point, where they are a session's
module _ (n t : ℕ) (is : pick (leb 8 n) (leb n 12) (both (leb n 4) (eqb t 0)) ≡ true) where
  number_again : state_number (saved_state (pick (leb 8 n) (n - 8) n)) + mark_number (saved_mark n t) ≡ n
  unfolding mark_number saved_mark
  number_again =
      cases (leb 8 n)
      (λ e.
      let m : leb n 12 ≡ true = rw e at is in
      rw e (omega (arith, leb-true 8 n e, leb-true n 12 m, state_again (n - 8) (omega (arith, leb-true n 12 m)))))
      (λ e. let m : both (leb n 4) (eqb t 0) ≡ true = rw e at is in rw e (omega (arith, state_again n (leb-true n 4 (both_true (leb n 4) (eqb t 0) m).0))))

  point_again : mark_point (saved_mark n t) ≡ t
  unfolding mark_point saved_mark
  point_again =
      cases (leb 8 n) (λ e. rw e)
      (λ e. let m : both (leb n 4) (eqb t 0) ≡ true = rw e at is in rw e (sym (eqb-true t 0 (both_true (leb n 4) (eqb t 0) m).1)))

pub other : (s : List ℕ) → ((i : ℕ) → get_or s i 0 < 256) → (s ≡ session_bytes (session_of s)) ⊎ (session_of s ≡ closed)
unfolding session_of from_numbers are_session session_bytes session_numbers
other s h =
    let n : ℕ = number_at s 0 in
    let u : ℕ = number_at s 8 in
    let a : ℕ = number_at s 16 in
    let l : ℕ = number_at s 24 in
    let t : ℕ = number_at s 32 in
    let P : Session → Type 0 = λ (x : Session). (s ≡ session_bytes x) ⊎ (x ≡ closed) in
    picked P (eqb (length s) 40) _ closed
    (λ e.
    picked P (are_session n u a l t) _ closed
    (λ f.
    let is = (both_true (pick (leb 8 n) (leb n 12) (both (leb n 4) (eqb t 0))) (both (leb u 1073741824) (both (leb a limit) (both (leb l limit) (leb t limit)))) f).0 in
    inl (five_back s h (eqb-true (length s) 40 e)
    ∙ ap (λ (x : ℕ). eights (x ∷ u ∷ a ∷ l ∷ t ∷ [])) (sym (number_again n t is))
    ∙ ap (λ (x : ℕ). eights ((state_number (saved_state (pick (leb 8 n) (n - 8) n)) + mark_number (saved_mark n t)) ∷ u ∷ a ∷ l ∷ x ∷ [])) (sym (point_again n t is))))
    (λ _. inr refl))
    (λ _. inr refl)

-- ---- every slice reads as a sound session

closed_sound : Sound closed
closed_sound = record { used = omega arith; total = omega arith; low = omega arith; mark = tt }

mark_sound : (n t : ℕ) → t ≤ limit → MarkSound (saved_mark n t)
unfolding saved_mark
mark_sound n t h = picked MarkSound (leb 8 n) (Some t) None (λ _. h) (λ _. tt)

from_sound : (n used total low t : ℕ) → Sound (from_numbers n used total low t)
unfolding from_numbers are_session
from_sound n used total low t =
    picked Sound (are_session n used total low t) _ closed
    (λ e.
    let a = both_true (pick (leb 8 n) (leb n 12) (both (leb n 4) (eqb t 0))) (both (leb used 1073741824) (both (leb total limit) (both (leb low limit) (leb t limit)))) e in
    let b = both_true (leb used 1073741824) (both (leb total limit) (both (leb low limit) (leb t limit))) a.1 in
    let c = both_true (leb total limit) (both (leb low limit) (leb t limit)) b.1 in
    let d = both_true (leb low limit) (leb t limit) c.1 in
    record {
      used = leb-true used 1073741824 b.0;
      total = leb-true total limit c.0;
      low = leb-true low limit d.0;
      mark = mark_sound n t (leb-true t limit d.1);
    })
    (λ _. closed_sound)

pub loaded_sound : (s : List ℕ) → Sound (session_of s)
unfolding session_of
loaded_sound s =
    picked Sound (eqb (length s) 40) _ closed
    (λ _. from_sound (number_at s 0) (number_at s 8) (number_at s 16) (number_at s 24) (number_at s 32))
    (λ _. closed_sound)
