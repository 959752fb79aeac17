-- Laws of the check of a run: how it goes on at a place. Assumes nothing.
use Prim.Native.Nat.{ℕ, zero, suc, ◌-◌, ◌≤◌, ◌<◌}
use native.Mathlib.Omega.{arith}
use mathlib.Core.Path.{◌≡◌, refl, sym, ap, ◌∙◌}
use mathlib.Core.List.{List}
use mathlib.Core.Logic.{⊎_elim}
use lib.ListN.{length}
use lib.Dec.{eqb}
use borrow.Author.Tests.{lt-ltb, le-ltb}
use Rattle.base_laws.specs.Base.{part}
use Rattle.base_laws.proofs.Order.{lt_or_le, picked}
use Rattle.wire_schema.specs.Schema.{InfoMessage}
use Rattle.std.specs.Prelude.{Result, Ok, Err}
use Rattle.wire_types.specs.declared.Refusal.{Refusal}
use Rattle.wire_types.specs.declared.Refused.{Refused}
use Rattle.wire_types.specs.declared.Span.{Span}
use Rattle.wire_varint.specs.Varint.{varint_at}
use Rattle.wire_value.specs.Field.{part_of, as_part, payload_at}
use Rattle.wire_varint.specs.Tag.{tag_at}
use Rattle.wire_check_field.specs.Check.{before, check_of}
use Rattle.wire_varint.specs.declared.tag.Tag.{Tag}
use Rattle.wire_fields.proofs.Reach.{TagRead, tag_at_lem, PayloadRead, payload_at_lem}
use Rattle.write_forms.specs.Run.{entry_of, entry_at, on_entry, run_from, run_at}

-- ---- how far an entry reaches

abbrev pub Reached : List ℕ → ℕ → Result Span Refused → Type 0
Reached s at (Ok p) = (at < p.start) × (p.start ≤ p.end) × (p.end ≤ length s)
Reached s at (Err r) = Unit

from_payload : (s : List ℕ) (at x : ℕ) → at < x → (p : Result Span Refused) → PayloadRead s x (as_part p) → Reached s at p
unfolding as_part
from_payload s at x l (Ok p) h = (omega arith, h.1, h.2)
from_payload s at x l (Err r) h = tt

part_read : (s : List ℕ) (at x : ℕ) → x ≤ length s → at ≤ length s → PayloadRead s x (as_part (part_of s x (varint_at s x)))
unfolding payload_at
part_read s at x h l = payload_at_lem s x h at 2 l

from_tag : (f : ℕ) (s : List ℕ) (at : ℕ) → at ≤ length s → (t : Result Tag Refusal) → TagRead s at t → Reached s at (entry_of f s at t)
unfolding entry_of
from_tag f s at l (Err r) h = tt
from_tag f s at l (Ok t) h =
    picked (Reached s at) (eqb t.number f) _ _
    (λ _. picked (Reached s at) (eqb t.wire 2) _ _ (λ _. from_payload s at t.next h.0 _ (part_read s at t.next h.1 l)) (λ _. tt))
    (λ _. tt)

pub reached : (f : ℕ) (s : List ℕ) (at : ℕ) → at ≤ length s → Reached s at (entry_at f s at)
unfolding entry_at
reached f s at l = from_tag f s at l (tag_at s at) (tag_at_lem s at)

-- ---- how the check goes on

-- two checks that agree where an entry leads agree on it
same_entry : (go go' : ℕ → Result Unit Refused) (s : List ℕ) (at : ℕ) → ((n : ℕ) → at < n → n ≤ length s → go n ≡ go' n)
    → (p : Result Span Refused) → Reached s at p → on_entry go s p ≡ on_entry go' s p
unfolding on_entry
same_entry go go' s at e (Ok p) h =
    ap (λ (x : Result Unit Refused). before p.start (check_of InfoMessage (part s p.start p.end)) x) (e p.end (omega arith) h.2)
same_entry go go' s at e (Err r) h = refl

module _ (f : ℕ) (s : List ℕ) where
  done : (k at : ℕ) → length s ≤ at → run_from k f s at ≡ Ok tt
  unfolding run_from
  done zero at h = refl
  done (suc k) at h = simp (le-ltb _ _ h)

  goes : (k at : ℕ) → at < length s → run_from (suc k) f s at ≡ on_entry (run_from k f s) s (entry_at f s at)
  unfolding run_from
  goes k at h = simp (lt-ltb _ _ h)

  -- more than enough is enough
  enough : (k j at : ℕ) → length s - at < k → length s - at < j → run_from k f s at ≡ run_from j f s at
  enough zero j at h l = absurd (omega arith)
  enough (suc k) zero at h l = absurd (omega arith)
  enough (suc k) (suc j) at h l =
      ⊎_elim
      (λ (i : at < length s).
      goes k at i
      ∙ same_entry (run_from k f s) (run_from j f s) s at (λ n lt le. enough k j n (omega arith) (omega arith)) (entry_at f s at) (reached f s at (omega arith))
      ∙ sym (goes j at i))
      (λ (i : length s ≤ at). done (suc k) at i ∙ sym (done (suc j) at i))
      (lt_or_le at (length s))

  -- at an entry: it, and what follows
  pub run_next : (at : ℕ) → at < length s → run_at f s at ≡ on_entry (run_at f s) s (entry_at f s at)
  unfolding run_at
  run_next at i =
      goes (length s - at) at i
      ∙ same_entry (run_from (length s - at) f s) (run_at f s) s at (λ n lt le. enough (length s - at) (suc (length s - n)) n (omega arith) (omega arith)) (entry_at f s at) (reached f s at (omega arith))

  pub run_end : (at : ℕ) → length s ≤ at → run_at f s at ≡ Ok tt
  unfolding run_at
  run_end at h = done (suc (length s - at)) at h
