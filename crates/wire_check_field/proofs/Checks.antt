-- Laws of `check_at`: how it goes on at a place, and that a refusal's place is within the list.
use Prim.Native.Nat.{ℕ, zero, suc, ◌+◌, ◌-◌, ◌≤◌, ◌<◌}
use native.Mathlib.Omega.{arith}
use mathlib.Core.Path.{◌≡◌, refl, sym, subst, ◌∙◌}
use mathlib.Core.List.{List}
use mathlib.Core.Logic.{⊎_elim}
use lib.ListN.{length}
use Rattle.std.specs.Prelude.{Result, Ok, Err}
use borrow.Author.Tests.{lt-ltb, le-ltb}
use Rattle.wire_check_field.specs.Check.{step_at}
use Rattle.base_laws.specs.Base.{part}
use Rattle.wire_check_field.specs.Check.{before, on_step, check_from, check_at}
use Rattle.wire_check_field.specs.declared.Step.{Step}
use Rattle.wire_check_field.specs.declared.Step.TheVariants as step
use Rattle.wire_types.specs.declared.Refused.{Refused}
use Rattle.base_laws.proofs.Order.{lt_or_le}
use Rattle.base_laws.proofs.Parts.{length_part}
use Rattle.wire_check_field.proofs.Steps.{StepRead, step_at_lem}

pub done : (k m : ℕ) (s : List ℕ) (at : ℕ) → length s ≤ at → check_from k m s at ≡ Ok tt
unfolding check_from
done zero m s at h = refl
done (suc k) m s at h = simp (le-ltb _ _ h)

goes : (k m : ℕ) (s : List ℕ) (at : ℕ) → at < length s → check_from (suc k) m s at ≡ on_step (check_from k) m s (step_at m s at)
unfolding check_from
goes k m s at h = simp (lt-ltb _ _ h)

-- two checks that agree where a step leads agree on the step
same_step : (f g : ℕ → List ℕ → ℕ → Result Unit Refused) (m : ℕ) (s : List ℕ) (at : ℕ)
    → ((i : ℕ) (r : List ℕ) (b : ℕ) → length r - b < length s - at → f i r b ≡ g i r b)
    → at < length s → (t : Result Step Refused) → StepRead s at t → on_step f m s t ≡ on_step g m s t
unfolding on_step
same_step f g m s at e l (Ok (step.Next n)) h = e m s n (omega arith)
same_step f g m s at e l (Ok (step.Inside i a b)) h =
    rw (e i (part s a b) 0 (omega (arith, length_part s a b h.1 h.2)), e m s b (omega arith))
same_step f g m s at e l (Err r) h = refl

-- more than enough is enough
enough : (k j m : ℕ) (s : List ℕ) (at : ℕ) → length s - at < k → length s - at < j → check_from k m s at ≡ check_from j m s at
enough zero j m s at h l = absurd (omega arith)
enough (suc k) zero m s at h l = absurd (omega arith)
enough (suc k) (suc j) m s at h l =
    ⊎_elim
    (λ (i : at < length s).
    goes k m s at i
    ∙ same_step (check_from k) (check_from j) m s at (λ i r b lt. enough k j i r b (omega arith) (omega arith)) i (step_at m s at) (step_at_lem s m at (omega arith))
    ∙ sym (goes j m s at i))
    (λ (i : length s ≤ at). done (suc k) m s at i ∙ sym (done (suc j) m s at i))
    (lt_or_le at (length s))

-- at a field: what its step leads to
pub next : (m : ℕ) (s : List ℕ) (at : ℕ) → at < length s → check_at m s at ≡ on_step check_at m s (step_at m s at)
unfolding check_at
next m s at i =
    goes (length s - at) m s at i
    ∙ same_step (check_from (length s - at)) check_at m s at (λ i r b lt. enough (length s - at) (suc (length r - b)) i r b lt (omega arith)) i (step_at m s at) (step_at_lem s m at (omega arith))

pub at_end : (m : ℕ) (s : List ℕ) (at : ℕ) → length s ≤ at → check_at m s at ≡ Ok tt
unfolding check_at
at_end m s at h = done (suc (length s - at)) m s at h

-- a refusal's place is within the list
abbrev pub Placed : List ℕ → Result Unit Refused → Type 0
Placed s (Ok fine) = Unit
Placed s (Err r) = r.place ≤ length s

placed_before : (s : List ℕ) (a : ℕ) (r : List ℕ) → a + length r ≤ length s → (x y : Result Unit Refused) → Placed r x → Placed s y → Placed s (before a x y)
unfolding before
placed_before s a r h (Ok fine) y p q = q
placed_before s a r h (Err e) y p q = omega arith

placed_step : (f : ℕ → List ℕ → ℕ → Result Unit Refused) → ((m : ℕ) (s : List ℕ) (at : ℕ) → Placed s (f m s at))
    → (m : ℕ) (s : List ℕ) (at : ℕ) (t : Result Step Refused) → StepRead s at t → Placed s (on_step f m s t)
unfolding on_step
placed_step f e m s at (Ok (step.Next n)) h = e m s n
placed_step f e m s at (Ok (step.Inside i a b)) h =
    placed_before s a (part s a b) (omega (arith, length_part s a b h.1 h.2)) (f i (part s a b) 0) (f m s b) (e i (part s a b) 0) (e m s b)
placed_step f e m s at (Err r) h = h

placed_from : (k m : ℕ) (s : List ℕ) (at : ℕ) → Placed s (check_from k m s at)
unfolding check_from
placed_from zero m s at = tt
placed_from (suc k) m s at =
    ⊎_elim
    (λ (i : at < length s). subst (Placed s) (sym (goes k m s at i)) (placed_step (check_from k) (placed_from k) m s at (step_at m s at) (step_at_lem s m at (omega arith))))
    (λ (i : length s ≤ at). subst (Placed s) (sym (done (suc k) m s at i)) tt)
    (lt_or_le at (length s))

pub placed : (m : ℕ) (s : List ℕ) (at : ℕ) → Placed s (check_at m s at)
unfolding check_at
placed m s at = placed_from (suc (length s - at)) m s at
