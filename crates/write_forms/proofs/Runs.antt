-- Runs of entries: a run that is taken is a chain of entries, so it passes the check of its message and holds its field alone;
-- a written entry is such a run, and so are two runs one behind the other.
use Prim.Native.Nat.{ℕ, zero, suc, ◌+◌, ◌-◌, ◌^◌, ◌≤◌, ◌<◌}
use native.Mathlib.Omega.{arith}
use mathlib.Core.Path.{◌≡◌, refl, subst, ap, ◌∙◌}
use mathlib.Core.List.{List, [], ◌∷◌, ◌++◌, map}
use mathlib.Core.Bool.{Bool, true, false}
use mathlib.Core.Logic.{⊎_elim}
use lib.ListN.{length, length-append}
use lib.Dec.{eqb}
use borrow.Author.Tests.{lt-ltb, le-ltb, eq-eqb, ne_eqb, eqb-true}
use Rattle.base_laws.specs.Base.{pick, part}
use Rattle.base_laws.proofs.Order.{lt_or_le}
use Rattle.wire_varint.specs.Varint.{varint_at}
use Rattle.wire_schema.specs.Schema.{kind_of, takes, message, InfoMessage}
use Rattle.wire_value.specs.Field.{part_of, as_part, payload_at}
use Rattle.wire_varint.specs.Tag.{tag_at}
use Rattle.wire_check_field.specs.Check.{step_of, step_read, step_from, step_at}
use Rattle.wire_check_field.specs.Check.{before, check_of}
use Rattle.wire_fields.specs.Fields.{among, field_with, field_of, field_from, field_at, on_field, fields_at}
use Rattle.wire_fields.specs.Items.{Item, bytes, item_of, items, last_from}
use Rattle.wire_varint.specs.declared.tag.Tag.{Tag}
use Rattle.wire_types.specs.Refusals.{at_place}
use Rattle.wire_types.specs.declared.Refusal.{Refusal}
use Rattle.wire_types.specs.declared.Refusal.TheVariants as refusal
use Rattle.wire_types.specs.declared.Span.{Span}
use Rattle.wire_value.specs.declared.Payload.TheVariants as payload
use Rattle.wire_check_field.proofs.Walk.{field_tag, span}
use Rattle.wire_check_field.specs.declared.Step.TheVariants as step
use Rattle.wire_types.specs.declared.Refused.{Refused}
use Rattle.std.specs.Prelude.{Option, Some, Result, Ok, Err}
use Rattle.wire_fields.specs.declared.Field.{Field}
use Rattle.wire_fields.specs.declared.Field.TheVariants as field
use Rattle.wire_fields.proofs.Reach.{TagRead, tag_at_lem, PayloadRead, payload_at_lem}
use Rattle.wire_fields.proofs.Follow.{follow, none}
use Rattle.wire_elements.specs.Elements.{items_at}
use Rattle.write_forms.specs.Pieces.{head}
use Rattle.write_forms.specs.Run.{entry_of, entry_at, on_entry, run_from, run_at}
use Rattle.write_forms.proofs.Moves.{InBounds, part_moves, tag_moves, payload_moves}
use Rattle.write_forms.proofs.Chains.{Chain, done, more, both_fine, Stepped, into, passes, FieldTo}
use Rattle.write_forms.proofs.Joined.{joined}
use Rattle.write_forms.proofs.Single.{single_bytes, positive, held}

-- an entry of a run of fields f, from `at` to n
pub record EntryAt (f : ℕ) (s : List ℕ) (at n : ℕ) : Type 0 where
  pub value : ℕ
  pub start : ℕ
  pub order : start ≤ n
  pub tagged : tag_at s at ≡ field_tag f 2 value
  pub holds : payload_at s at value 2 ≡ Ok (payload.Part (span start n))
  pub fine : check_of InfoMessage (part s start n) ≡ Ok tt

abbrev pub Run : ℕ → List ℕ → ℕ → Type 0
Run f s at = Chain (EntryAt f s) (length s) at

-- the value of wire type 2 is where its bytes are
as_payload : (s : List ℕ) (at x : ℕ) (p : Span) → part_of s x (varint_at s x) ≡ Ok p → payload_at s at x 2 ≡ Ok (payload.Part p)
unfolding payload_at as_part
as_payload s at x p h = rw h

-- and the other way round
from_part : (r : Result Span Refused) (p : Span) → as_part r ≡ Ok (payload.Part p) → r ≡ Ok p
unfolding as_part
from_part (Ok q) p h = grind arith
from_part (Err e) p h = grind arith

of_payload : (s : List ℕ) (at x : ℕ) (p : Span) → payload_at s at x 2 ≡ Ok (payload.Part p) → part_of s x (varint_at s x) ≡ Ok p
unfolding payload_at
of_payload s at x p h = from_part (part_of s x (varint_at s x)) p h

-- ---- a run that is taken is a chain

module _ (f : ℕ) (s : List ℕ) where
  module _ (at : ℕ) (go : ℕ → Result Unit Refused) (l : at < length s) (on : (n : ℕ) → at < n → n ≤ length s → go n ≡ Ok tt → Run f s n) where
    by_value : (x : ℕ) → at < x → x ≤ length s → tag_at s at ≡ field_tag f 2 x → (q : Result Span Refused) → part_of s x (varint_at s x) ≡ q
        → on_entry go s q ≡ Ok tt → Run f s at
    unfolding on_entry
    by_value x i w t (Ok p) v c =
        let h = subst (PayloadRead s x) (as_payload s at x p v) (payload_at_lem s x w at 2 (omega arith)) in
        let b = both_fine p.start (check_of InfoMessage (part s p.start p.end)) (go p.end) c in
        more {at = at} {n = p.end} (omega arith) h.2 (record { value = x; start = p.start; order = h.1; tagged = t; holds = as_payload s at x p v; fine = b.0 }) (on p.end (omega arith) h.2 b.1)
    by_value x i w t (Err r) v c = grind arith

    by_tag : (t : Result Tag Refusal) → tag_at s at ≡ t → TagRead s at t → on_entry go s (entry_of f s at t) ≡ Ok tt → Run f s at
    unfolding entry_of on_entry
    by_tag (Err r) e h c = grind arith
    by_tag (Ok t) e h c = inner (eqb t.number f) refl (eqb t.wire 2) refl c
      where
        inner : (b : Bool) → eqb t.number f ≡ b → (u : Bool) → eqb t.wire 2 ≡ u
            → on_entry go s (pick b (pick u (part_of s t.next (varint_at s t.next)) (Err (at_place refusal.WireType at))) (Err (at_place refusal.Tag at))) ≡ Ok tt → Run f s at
        inner true p true q c =
            let a : t.number ≡ f = eqb-true t.number f p in
            let b : t.wire ≡ 2 = eqb-true t.wire 2 q in
            by_value t.next h.0 h.1 (e ∙ rw (a, b)) (part_of s t.next (varint_at s t.next)) refl c
        inner true p false q c = grind arith
        inner false p u q c = grind arith

  from : (k at : ℕ) → length s - at < k → at ≤ length s → run_from k f s at ≡ Ok tt → Run f s at
  unfolding run_from entry_at
  from zero at l i h = absurd (omega arith)
  from (suc k) at l i h =
      ⊎_elim
      (λ (j : at < length s).
      by_tag at (run_from k f s) j (λ n lt le q. from k n (omega arith) le q) (tag_at s at) refl (tag_at_lem s at) (rw (lt-ltb at (length s) j) at h))
      (λ (j : length s ≤ at). let e : length s ≡ at = omega arith in subst (λ (n : ℕ). Run f s n) e done)
      (lt_or_le at (length s))

  pub run_of : run_at f s 0 ≡ Ok tt → Run f s 0
  unfolding run_at
  run_of h = from (suc (length s - 0)) 0 (omega arith) (omega arith) h

  -- and such a chain is taken
  taken_from : (k : ℕ) {at : ℕ} → Run f s at → run_from k f s at ≡ Ok tt
  unfolding run_from entry_at entry_of on_entry before
  taken_from zero c = refl
  taken_from (suc k) done = rw (le-ltb (length s) (length s) (omega arith))
  taken_from (suc k) (more {at} {n} lt le h r) =
      let j : at < length s = omega arith in
      rw (lt-ltb at (length s) j, h.tagged, eq-eqb f f refl, of_payload s at h.value (span h.start n) h.holds, h.fine) (taken_from k r)

  pub run_taken : Run f s 0 → run_at f s 0 ≡ Ok tt
  unfolding run_at
  run_taken c = taken_from (suc (length s - 0)) c

-- ---- a run in its message, whose field f is an InfoMessage

module _ (m f : ℕ) (real : m ≡ 16 → ⊥) (kind : kind_of m f ≡ message InfoMessage) (s : List ℕ) where
  steps : (at n : ℕ) → EntryAt f s at n → Stepped m s at n
  unfolding step_at step_from step_read step_of takes
  steps at n h =
      let e : step_at m s at ≡ Ok (step.Inside InfoMessage h.start n) = rw (ne_eqb m 16 real, h.tagged, kind, h.holds) in
      into h.order e h.fine

  chain : {at : ℕ} → Run f s at → Chain (Stepped m s) (length s) at
  chain done = done
  chain (more {at} {n} lt le h r) = more lt le (steps at n h) (chain r)

  pub run_passes : Run f s 0 → check_of m s ≡ Ok tt
  run_passes c = passes m s (chain c)

-- a run's fields are all f: the last of other numbers is the one before it
module _ (f : ℕ) (s : List ℕ) where
  item_at : (at n : ℕ) → at < n → n ≤ length s → (h : EntryAt f s at n) → items_at s at ≡ bytes f (part s h.start n) ∷ items_at s n
  unfolding field_at field_from field_of field_with on_field
  item_at at n lt le h =
      let e : field_at s at ≡ Some (field.Part f h.start n) = rw (h.tagged, h.holds) in
      ap (map (item_of s)) (follow s at (omega arith) ∙ ap (λ (x : Option Field). on_field (fields_at s) x) e)

  field_at_lem : (at n : ℕ) → EntryAt f s at n → FieldTo s at n
  unfolding field_at field_from field_of field_with
  field_at_lem at n h = record { field = field.Part f h.start n; taken = rw (h.tagged, h.holds); ends = refl }

  pub run_whole : {at : ℕ} → Run f s at → Chain (FieldTo s) (length s) at
  run_whole done = done
  run_whole (more {at} {n} lt le h r) = more lt le (field_at_lem at n h) (run_whole r)

  others : (lo hi : ℕ) (l : Item) → among lo hi f ≡ false → {at : ℕ} → Run f s at → last_from lo hi l (items_at s at) ≡ l
  unfolding last_from
  others lo hi l a done = rw (none s (length s) (omega arith))
  others lo hi l a (more {at} {n} lt le h r) =
      ap (λ (is : List Item). last_from lo hi l is) (item_at at n lt le h)
      ∙ ap (λ (t : Bool). last_from lo hi (pick t (bytes f (part s h.start n)) l) (items_at s n)) a
      ∙ others lo hi l a r

  pub run_others : (lo hi : ℕ) (l : Item) → among lo hi f ≡ false → Run f s 0 → last_from lo hi l (items s) ≡ l
  unfolding items
  run_others lo hi l a c = others lo hi l a c

-- ---- written runs

entry_moves : (f : ℕ) (S s : List ℕ) (p : ℕ) → InBounds S s p → (a b : ℕ) → b ≤ length s → EntryAt f s a b → EntryAt f S (p + a) (p + b)
entry_moves f S s p l a b le h = record {
  value = p + h.value;
  start = p + h.start;
  order = omega (arith, h.order);
  tagged = tag_moves l a f 2 h.value h.tagged;
  holds = payload_moves l a h.value 2 _ h.holds;
  fine = rw (part_moves l h.start b le) h.fine;
}

pub run_none : (f : ℕ) → run_at f [] 0 ≡ Ok tt
run_none f = run_taken f [] done

-- two runs, one behind the other, are a run
pub run_joined : (f : ℕ) (a b : List ℕ) → run_at f a 0 ≡ Ok tt → run_at f b 0 ≡ Ok tt → run_at f (a ++ b) 0 ≡ Ok tt
run_joined f a b x y = run_taken f (a ++ b) (joined (EntryAt f) (entry_moves f) a b (run_of f a x) (run_of f b y))

-- one written entry is a run
pub run_one : (f : ℕ) (d : List ℕ) → 1 ≤ f → f < 2 ^ 29 → length d < 2 ^ 64 → check_of InfoMessage d ≡ Ok tt → run_at f (head f (length d) ++ d) 0 ≡ Ok tt
run_one f d h l i c =
    let s : List ℕ = head f (length d) ++ d in
    let o = single_bytes f d h l i in
    run_taken f s (more (positive o) (omega arith) (record {
      value = o.value;
      start = length (head f (length d));
      order = omega (arith, length-append (head f (length d)) d);
      tagged = o.tagged;
      holds = o.holds;
      fine = rw (held f d) c;
    }) done)
