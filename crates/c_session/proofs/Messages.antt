-- A message in a session that a slice keeps: the answer, the slice, the area and the numbers laid.
use Prim.Native.Nat.{ℕ, ◌≤◌, ◌<◌}
use mathlib.Core.Path.{◌≡◌, ap, ◌∙◌}
use mathlib.Core.List.{[], ◌∷◌}
use lib.ListN.{length}
use borrow.Author.Tests.{le-leb, lt-leb}
use Rattle.wire_message.specs.Message.{Bytes}
use Rattle.base_numbers.specs.Eight.{laid}
use Rattle.session.specs.Refusals.{number, key}
use Rattle.session.specs.Step.{Outcome, outcome, in_state, refuse, step}
use Rattle.session_turn.specs.declared.State.TheVariants.{Closed}
use Rattle.session.specs.declared.Session.{Session}
use Rattle.session.specs.declared.Answer.{Answer}
use Rattle.session_bytes.specs.Saved.{state_number, session_of, kept}
use Rattle.c_session.specs.Session.{has_point, point_number, answer_numbers, stepped, message_answer, message_slice, message_area, message_out}

module _ (slice message area : Bytes) (used : ℕ) (out : Bytes) where
  -- what the four parts of the contract say
  abbrev Answered : ℕ → Bytes → Bytes → Bytes → Type 0
  Answered r slice' area' out' =
      (r ≡ message_answer slice message area used out)
      × ((slice' ≡ message_slice slice message area used out)
      × ((area' ≡ message_area slice message area used out) × (out' ≡ message_out slice message area used out)))

  -- no room for the answer: the session is closed, and nothing else is touched
  shut : length out < 40 → refuse (session_of slice) area used 12 0 ≡ stepped slice message area used out
  unfolding stepped
  shut h = rw (lt-leb 40 (length out) h)

  pub no_room : length out < 40 → (slice' : Bytes) → slice' ≡ kept (in_state (session_of slice) Closed) slice → Answered 12 slice' area out
  unfolding message_answer message_slice message_area message_out laid answer_numbers
  no_room h slice' e = (
    ap (λ (o : Outcome). o.refusal) (shut h),
    (
      e ∙ ap (λ (o : Outcome). kept o.session slice) (shut h),
      (ap (λ (o : Outcome). o.area) (shut h), rw (lt-leb 40 (length out) h)),
    ),
  )

  module _ (se : Session) (a : Answer) (slice' area' out' : Bytes) (loaded : se ≡ session_of slice) (gives : outcome a area' ≡ step se area used message) where
    is : 40 ≤ length out → outcome a area' ≡ stepped slice message area used out
    unfolding stepped
    is h = gives ∙ ap (λ (x : Session). step x area used message) loaded ∙ rw (le-leb 40 (length out) h)

    pub answered : 40 ≤ length out → (r n1 p q n : ℕ) → r ≡ number a.result → slice' ≡ kept a.session slice → n1 ≡ key a.result
        → p ≡ has_point a.point → q ≡ point_number a.point → n ≡ state_number a.session.state
        → out' ≡ laid (a.used ∷ n1 ∷ p ∷ q ∷ n ∷ []) out → Answered r slice' area' out'
    unfolding message_answer message_slice message_area message_out answer_numbers
    answered h r n1 p q n told saved named has place state laying = (
      told ∙ ap (λ (o : Outcome). o.refusal) (is h),
      (
        saved ∙ ap (λ (o : Outcome). kept o.session slice) (is h),
        (
          ap (λ (o : Outcome). o.area) (is h),
          laying
              ∙ ap (λ (x : ℕ). laid (a.used ∷ x ∷ p ∷ q ∷ n ∷ []) out) named
              ∙ ap (λ (x : ℕ). laid (a.used ∷ key a.result ∷ x ∷ q ∷ n ∷ []) out) has
              ∙ ap (λ (x : ℕ). laid (a.used ∷ key a.result ∷ has_point a.point ∷ x ∷ n ∷ []) out) place
              ∙ ap (λ (x : ℕ). laid (a.used ∷ key a.result ∷ has_point a.point ∷ point_number a.point ∷ x ∷ []) out) state
              ∙ ap (λ (o : Outcome). laid (answer_numbers o) out) (is h),
        ),
      ),
    )
