-- Places that lead one to the next up to the end of a list. That a message passes its check is such a chain of steps, and so
-- are its fields; a chain in bytes that lie within others is a chain there.
use Prim.Native.Nat.{ℕ, zero, suc, ◌+◌, ◌-◌, ◌≤◌, ◌<◌}
use native.Mathlib.Omega.{arith}
use mathlib.Core.Path.{◌≡◌, refl, sym, subst, ap, ◌∙◌}
use mathlib.Core.List.{List}
use mathlib.Core.Logic.{⊎_elim}
use lib.ListN.{length}
use Rattle.base_laws.specs.Base.{part}
use Rattle.base_laws.proofs.Order.{lt_or_le}
use Rattle.wire_check_field.specs.Check.{step_at}
use Rattle.wire_check_field.specs.Check.{before, on_step, check_at, check_of}
use Rattle.wire_fields.specs.Fields.{field_at, next_of}
use Rattle.wire_check_field.specs.declared.Step.{Step}
use Rattle.wire_check_field.specs.declared.Step.TheVariants as step
use Rattle.wire_types.specs.declared.Refused.{Refused}
use Rattle.std.specs.Prelude.{Some, Result, Ok, Err}
use Rattle.wire_fields.specs.declared.Field.{Field}
use Rattle.wire_check_field.proofs.Steps.{StepRead, step_at_lem}
use Rattle.wire_check_field.proofs.Checks.{next, at_end}
use Rattle.write_forms.proofs.Moves.{InBounds, step_moves, part_moves}

pub data Chain (Leads : ℕ → ℕ → Type 0) (size : ℕ) : ℕ → Type 0 where
  done : Chain Leads size size
  more : {at n : ℕ} → at < n → n ≤ size → Leads at n → Chain Leads size n → Chain Leads size at

-- a chain, p places further on and with another chain behind it
pub moved : {P : ℕ → ℕ → Type 0} (Q : ℕ → ℕ → Type 0) {small large : ℕ} (p : ℕ) → ((a b : ℕ) → b ≤ small → P a b → Q (p + a) (p + b)) → p + small ≤ large
    → {at : ℕ} → Chain P small at → Chain Q large (p + small) → Chain Q large (p + at)
moved Q p f l done c = c
moved Q p f l (more {at} {n} lt le x r) c = more {at = p + at} {n = p + n} (omega arith) (omega arith) (f at n le x) (moved Q p f l r c)

-- ---- the steps of the check

-- the check of the message m goes on from `at` to n, past what has nothing to refuse
pub data Stepped (m : ℕ) (s : List ℕ) (at n : ℕ) : Type 0 where
  over : step_at m s at ≡ Ok (step.Next n) → Stepped m s at n
  into : {i a : ℕ} → a ≤ n → step_at m s at ≡ Ok (step.Inside i a n) → check_of i (part s a n) ≡ Ok tt → Stepped m s at n

-- where a part passes and then what follows it, both do
pub both_fine : (a : ℕ) (x y : Result Unit Refused) → before a x y ≡ Ok tt → (x ≡ Ok tt) × (y ≡ Ok tt)
unfolding before
both_fine a (Ok u) y e = (refl, e)
both_fine a (Err r) y e = grind arith

-- a check that passes is a chain of steps
module _ (m : ℕ) (s : List ℕ) where
  by_step : (at : ℕ) → ((n : ℕ) → at < n → n ≤ length s → check_at m s n ≡ Ok tt → Chain (Stepped m s) (length s) n)
      → (t : Result Step Refused) → step_at m s at ≡ t → StepRead s at t → on_step check_at m s t ≡ Ok tt → Chain (Stepped m s) (length s) at
  unfolding on_step
  by_step at go (Ok (step.Next n)) e r h = more r.0 r.1 (over e) (go n r.0 r.1 h)
  by_step at go (Ok (step.Inside i a n)) e r h =
      let b = both_fine a (check_at i (part s a n) 0) (check_at m s n) h in
      more {at = at} {n = n} (omega arith) r.2 (into r.1 e b.0) (go n (omega arith) r.2 b.1)
  by_step at go (Err r) e q h = grind arith

  from : (k at : ℕ) → length s - at < k → at ≤ length s → check_at m s at ≡ Ok tt → Chain (Stepped m s) (length s) at
  from zero at l i h = absurd (omega arith)
  from (suc k) at l i h =
      ⊎_elim
      (λ (j : at < length s).
      by_step at (λ n lt le q. from k n (omega arith) le q) (step_at m s at) refl (step_at_lem s m at i) (sym (next m s at j) ∙ h))
      (λ (j : length s ≤ at). let e : length s ≡ at = omega arith in subst (λ (n : ℕ). Chain (Stepped m s) (length s) n) e done)
      (lt_or_le at (length s))

  pub chain_of : check_of m s ≡ Ok tt → Chain (Stepped m s) (length s) 0
  chain_of h = from (suc (length s - 0)) 0 (omega arith) (omega arith) h

  -- and such a chain passes
  pub passes : {at : ℕ} → Chain (Stepped m s) (length s) at → check_at m s at ≡ Ok tt
  unfolding on_step before
  passes done = at_end m s (length s) (omega arith)
  passes (more {at} {n} lt le (over e) r) = next m s at (omega arith) ∙ ap (λ (x : Result Step Refused). on_step check_at m s x) e ∙ passes r
  passes (more {at} {n} lt le (into {i} {a} w e c) r) =
      next m s at (omega arith) ∙ ap (λ (x : Result Step Refused). on_step check_at m s x) e ∙ rw c (passes r)

pub stepped_moves : {S s : List ℕ} {p : ℕ} → InBounds S s p → (m a b : ℕ) → b ≤ length s → Stepped m s a b → Stepped m S (p + a) (p + b)
stepped_moves {S} {s} {p} l m a b le (over e) = over (step_moves l m a _ e)
stepped_moves {S} {s} {p} l m at b le (into {i} {a} w e c) =
    into {i = i} {a = p + a} (omega arith) (step_moves l m at _ e) (rw (part_moves l a b le) c)

-- ---- the fields

-- the field at a place, and where the next one starts
pub record FieldTo (s : List ℕ) (at n : ℕ) : Type 0 where
  pub field : Field
  pub taken : field_at s at ≡ Some field
  pub ends : next_of field ≡ n
