-- The numbers in a slice of 40 bytes.
use Rattle.std.specs.Prelude.{Option, Some, None}
use Prim.Native.Nat.{ℕ, ◌+◌, ◌≤◌}
use native.Mathlib.Omega.{arith}
use mathlib.Core.Path.{◌≡◌, sym, ap, ◌∙◌}
use mathlib.Core.List.{List, [], ◌∷◌, ◌++◌, append-nil}
use lib.ListN.{length, drop}
use lib.Seq.{drop-length}
use lib.Dec.{leb}
use borrow.Author.Tests.{le-leb, eq-eqb, ne_eqb}
use Rattle.base_laws.specs.Base.{pick, splice}
use Rattle.base_numbers.specs.Eight.{eights, laid, number_at}
use Rattle.session_turn.specs.declared.State.{State}
use Rattle.session_turn.specs.declared.State.TheVariants.{New, Greeted, Logging, EventsOnly, Closed}
use Rattle.session.specs.declared.Session.{Session}
use Rattle.session_bytes.specs.Saved.{state_number, mark_number, mark_point, session_numbers, session_bytes, kept, closed, from_numbers, session_of}

-- ---- reading

-- a number that lies within the slice
there : (s : List ℕ) (at n : ℕ) → at + 8 ≤ length s → n ≡ pick (leb (at + 8) (length s)) (number_at s at) 0 → n ≡ number_at s at
there s at n h e = e ∙ rw (le-leb (at + 8) (length s) h)

module _ (s : List ℕ) where
  pub read : length s ≡ 40 → (a b c d e : ℕ)
      → a ≡ pick (leb (0 + 8) (length s)) (number_at s 0) 0
      → b ≡ pick (leb (8 + 8) (length s)) (number_at s 8) 0
      → c ≡ pick (leb (16 + 8) (length s)) (number_at s 16) 0
      → d ≡ pick (leb (24 + 8) (length s)) (number_at s 24) 0
      → e ≡ pick (leb (32 + 8) (length s)) (number_at s 32) 0
      → from_numbers a b c d e ≡ session_of s
  unfolding session_of
  read h a b c d e p q r t u =
      ap (λ (n : ℕ). from_numbers n b c d e) (there s 0 a (omega arith) p)
      ∙ ap (λ (n : ℕ). from_numbers (number_at s 0) n c d e) (there s 8 b (omega arith) q)
      ∙ ap (λ (n : ℕ). from_numbers (number_at s 0) (number_at s 8) n d e) (there s 16 c (omega arith) r)
      ∙ ap (λ (n : ℕ). from_numbers (number_at s 0) (number_at s 8) (number_at s 16) n e) (there s 24 d (omega arith) t)
      ∙ ap (λ (n : ℕ). from_numbers (number_at s 0) (number_at s 8) (number_at s 16) (number_at s 24) n) (there s 32 e (omega arith) u)
      ∙ sym (rw (eq-eqb (length s) 40 h))

  pub unread : (length s ≡ 40 → ⊥) → closed ≡ session_of s
  unfolding session_of
  unread h = rw (ne_eqb (length s) 40 h)

-- ---- writing

-- the number of a state and its point fits
state_most : (st : State) → state_number st ≤ 4
unfolding state_number
state_most New = omega arith
state_most Greeted = omega arith
state_most Logging = omega arith
state_most EventsOnly = omega arith
state_most Closed = omega arith

mark_most : (m : Option ℕ) → mark_number m ≤ 8
unfolding mark_number
mark_most None = omega arith
mark_most (Some t) = omega arith

pub number_most : (st : State) (m : Option ℕ) (a b : ℕ) → a ≡ state_number st → b ≡ mark_number m → a + b ≤ 12
number_most st m a b p q = omega (arith, state_most st, mark_most m)

-- numbers laid over a whole slice
pub laid_whole : (a b c d e : ℕ) (out : List ℕ) → length out ≡ 40 → laid (a ∷ b ∷ c ∷ d ∷ e ∷ []) out ≡ eights (a ∷ b ∷ c ∷ d ∷ e ∷ [])
unfolding laid splice eights
laid_whole a b c d e out h =
    rw (le-leb 40 (length out) (omega arith))
    (ap (λ (l : List ℕ). eights (a ∷ b ∷ c ∷ d ∷ e ∷ []) ++ l) (ap (λ (n : ℕ). drop n out) (sym h) ∙ drop-length out)
    ∙ append-nil (eights (a ∷ b ∷ c ∷ d ∷ e ∷ [])))

module _ (se : Session) (s : List ℕ) where
  pub wrote : length s ≡ 40 → (a b p : ℕ) (after : List ℕ) → a ≡ state_number se.state → b ≡ mark_number se.mark → p ≡ mark_point se.mark
      → after ≡ laid ((a + b) ∷ se.used ∷ se.total ∷ se.low ∷ p ∷ []) s → after ≡ kept se s
  unfolding kept session_bytes session_numbers
  wrote h a b p after e f g l =
      l
      ∙ laid_whole (a + b) se.used se.total se.low p s h
      ∙ ap (λ (n : ℕ). eights ((n + b) ∷ se.used ∷ se.total ∷ se.low ∷ p ∷ [])) e
      ∙ ap (λ (n : ℕ). eights ((state_number se.state + n) ∷ se.used ∷ se.total ∷ se.low ∷ p ∷ [])) f
      ∙ ap (λ (n : ℕ). eights ((state_number se.state + mark_number se.mark) ∷ se.used ∷ se.total ∷ se.low ∷ n ∷ [])) g
      ∙ sym (rw (eq-eqb (length s) 40 h))

  pub unwritten : (length s ≡ 40 → ⊥) → s ≡ kept se s
  unfolding kept
  unwritten h = rw (ne_eqb (length s) 40 h)
