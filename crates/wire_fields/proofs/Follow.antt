-- Laws of `fields_at`: how it goes on at a place.
use Prim.Native.Nat.{ℕ, zero, suc, ◌-◌, ◌≤◌, ◌<◌}
use native.Mathlib.Omega.{arith}
use mathlib.Core.Path.{◌≡◌, refl, sym, ap, subst, ◌∙◌}
use mathlib.Core.List.{List, [], ◌∷◌}
use mathlib.Core.Logic.{⊎_elim}
use lib.ListN.{length}
use borrow.Author.Tests.{lt-ltb, le-ltb}
use Rattle.wire_value.specs.Field.{payload_at}
use Rattle.wire_varint.specs.Tag.{tag_at}
use Rattle.std.specs.Prelude.{Option, Some, None, Result, Ok, Err}
use Rattle.wire_types.specs.declared.Refusal.{Refusal}
use Rattle.wire_types.specs.declared.Refused.{Refused}
use Rattle.wire_fields.specs.Fields.{field_with, field_of, field_from, field_at, next_of, on_field, fields_from, fields_at, fields_of, among, later, last_of, last_in, start_from, end_from}
use Rattle.wire_fields.specs.declared.Last.{Last}
use Rattle.wire_fields.specs.declared.Last.TheVariants as last
use lib.Dec.{ltb}
use Rattle.wire_varint.specs.declared.tag.Tag.{Tag}
use Rattle.wire_value.specs.declared.Payload.{Payload}
use Rattle.wire_value.specs.declared.Payload.TheVariants as payload
use Rattle.wire_fields.specs.declared.Field.{Field}
use Rattle.wire_fields.specs.declared.Field.TheVariants as field
use Rattle.base_laws.proofs.Order.{lt_or_le}
use Rattle.base_laws.proofs.Order.{picked}
use Rattle.wire_fields.proofs.Reach.{TagRead, PayloadRead, payload_at_lem, tag_at_lem}

-- a field reaches past its start, and lies within the list
abbrev pub FieldRead : List ℕ → ℕ → Field → Type 0
FieldRead s at (field.Number f v n) = (at < n) × (n ≤ length s)
FieldRead s at (field.Fixed f n) = (at < n) × (n ≤ length s)
FieldRead s at (field.Part f a e) = (at < a) × (a ≤ e) × (e ≤ length s)

-- the same of one that may be there
abbrev pub MaybeRead : List ℕ → ℕ → Option Field → Type 0
MaybeRead s at (Some e) = FieldRead s at e
MaybeRead s at None = Unit

of_payload : (s : List ℕ) (at x f : ℕ) → at < x → (p : Result Payload Refused) → PayloadRead s x p → MaybeRead s at (field_of f p)
unfolding field_of field_with
of_payload s at x f l (Ok (payload.Number r)) h = (omega arith, h.1)
of_payload s at x f l (Ok (payload.Fixed n)) h = (omega arith, h.1)
of_payload s at x f l (Ok (payload.Part p)) h = (omega arith, h.1, h.2)
of_payload s at x f l (Err e) h = tt

of_tag : (s : List ℕ) (at : ℕ) (t : Result Tag Refusal) → TagRead s at t → MaybeRead s at (field_from s at t)
unfolding field_from
of_tag s at (Ok t) h = of_payload s at t.next t.number h.0 (payload_at s at t.next t.wire) (payload_at_lem s t.next h.1 at t.wire (omega arith))
of_tag s at (Err e) h = tt

pub field_read : (s : List ℕ) (at : ℕ) → MaybeRead s at (field_at s at)
unfolding field_at
field_read s at = of_tag s at (tag_at s at) (tag_at_lem s at)

-- the place behind a field is past its start and within the list
pub behind : (s : List ℕ) (at : ℕ) (e : Field) → FieldRead s at e → (at < next_of e) × (next_of e ≤ length s)
behind s at (field.Number f v n) r = r
behind s at (field.Fixed f n) r = r
behind s at (field.Part f a e) r = (omega arith, r.2)

same_field : (f g : ℕ → List Field) (s : List ℕ) (at : ℕ) → ((n : ℕ) → at < n → n ≤ length s → f n ≡ g n)
    → (e : Option Field) → MaybeRead s at e → on_field f e ≡ on_field g e
unfolding on_field
same_field f g s at h (Some e) r = let b = behind s at e r in ap (λ (l : List Field). e ∷ l) (h (next_of e) b.0 b.1)
same_field f g s at h None r = refl

done : (k : ℕ) (s : List ℕ) (at : ℕ) → length s ≤ at → fields_from k s at ≡ []
unfolding fields_from
done zero s at h = refl
done (suc k) s at h = simp (le-ltb _ _ h)

goes : (k : ℕ) (s : List ℕ) (at : ℕ) → at < length s → fields_from (suc k) s at ≡ on_field (fields_from k s) (field_at s at)
unfolding fields_from
goes k s at h = simp (lt-ltb _ _ h)

enough : (k j : ℕ) (s : List ℕ) (at : ℕ) → length s - at < k → length s - at < j → fields_from k s at ≡ fields_from j s at
enough zero j s at h l = absurd (omega arith)
enough (suc k) zero s at h l = absurd (omega arith)
enough (suc k) (suc j) s at h l =
    ⊎_elim
    (λ (i : at < length s).
    goes k s at i
    ∙ same_field (fields_from k s) (fields_from j s) s at (λ n lt le. enough k j s n (omega arith) (omega arith)) (field_at s at) (field_read s at)
    ∙ sym (goes j s at i))
    (λ (i : length s ≤ at). done (suc k) s at i ∙ sym (done (suc j) s at i))
    (lt_or_le at (length s))

-- at a field: it, and those that follow
pub follow : (s : List ℕ) (at : ℕ) → at < length s → fields_at s at ≡ on_field (fields_at s) (field_at s at)
unfolding fields_at
follow s at i =
    goes (length s - at) s at i
    ∙ same_field (fields_from (length s - at) s) (fields_at s) s at (λ n lt le. enough (length s - at) (suc (length s - n)) s n (omega arith) (omega arith)) (field_at s at) (field_read s at)

pub none : (s : List ℕ) (at : ℕ) → length s ≤ at → fields_at s at ≡ []
unfolding fields_at
none s at h = done (suc (length s - at)) s at h

-- every field lies within the list
abbrev pub InBounds : List ℕ → Field → Type 0
InBounds s (field.Number f v n) = Unit
InBounds s (field.Fixed f n) = Unit
InBounds s (field.Part f a e) = (a ≤ e) × (e ≤ length s)

abbrev pub AllInBounds : List ℕ → List Field → Type 0
AllInBounds s [] = Unit
AllInBounds s (e ∷ es) = InBounds s e × AllInBounds s es

field_in_bounds : (s : List ℕ) (at : ℕ) (e : Field) → FieldRead s at e → InBounds s e
field_in_bounds s at (field.Number k v n) r = tt
field_in_bounds s at (field.Fixed k n) r = tt
field_in_bounds s at (field.Part k a e) r = (r.1, r.2)

fields_in_bounds : (s : List ℕ) (at : ℕ) (go : ℕ → List Field) → ((n : ℕ) → AllInBounds s (go n)) → (e : Option Field) → MaybeRead s at e → AllInBounds s (on_field go e)
unfolding on_field
fields_in_bounds s at go h (Some e) r = (field_in_bounds s at e r, h (next_of e))
fields_in_bounds s at go h None r = tt

in_bounds : (k : ℕ) (s : List ℕ) (at : ℕ) → AllInBounds s (fields_from k s at)
unfolding fields_from
in_bounds zero s at = tt
in_bounds (suc k) s at = picked (AllInBounds s) (ltb at (length s)) _ _ (λ _. fields_in_bounds s at (fields_from k s) (in_bounds k s) (field_at s at) (field_read s at)) (λ _. tt)

abbrev pub LastInBounds : List ℕ → Option Last → Type 0
LastInBounds s None = Unit
LastInBounds s (Some (last.Number f v)) = Unit
LastInBounds s (Some (last.Part f a e)) = (a ≤ e) × (e ≤ length s)

later_in_bounds : (s : List ℕ) (lo hi : ℕ) (l : Option Last) (e : Field) → LastInBounds s l → InBounds s e → LastInBounds s (later lo hi l e)
unfolding later
later_in_bounds s lo hi l (field.Number f v n) h i = picked (LastInBounds s) (among lo hi f) _ _ (λ _. tt) (λ _. h)
later_in_bounds s lo hi l (field.Fixed f n) h i = h
later_in_bounds s lo hi l (field.Part f a e) h i = picked (LastInBounds s) (among lo hi f) _ _ (λ _. i) (λ _. h)

last_in_bounds : (s : List ℕ) (lo hi : ℕ) (l : Option Last) (es : List Field) → LastInBounds s l → AllInBounds s es → LastInBounds s (last_of lo hi l es)
unfolding last_of
last_in_bounds s lo hi l [] h i = h
last_in_bounds s lo hi l (e ∷ es) h i = last_in_bounds s lo hi (later lo hi l e) es (later_in_bounds s lo hi l e h i.0) i.1

pub last_in_in_bounds : (s : List ℕ) (lo hi : ℕ) → LastInBounds s (last_in lo hi s)
unfolding fields_at
last_in_in_bounds s lo hi = last_in_bounds s lo hi None (fields_of s) tt (in_bounds (suc (length s - 0)) s 0)

-- a part that last_in answered, as l, is in bounds
pub part_in_bounds : (s : List ℕ) (lo hi : ℕ) {l : Option Last} {f a e : ℕ} → l ≡ last_in lo hi s → l ≡ Some (last.Part f a e) → (a ≤ e) × (e ≤ length s)
part_in_bounds s lo hi h is = subst (LastInBounds s) (sym h ∙ is) (last_in_in_bounds s lo hi)

ends_are_in_bounds : (s : List ℕ) (l : Option Last) → LastInBounds s l → (start_from l ≤ end_from l) × (end_from l ≤ length s)
unfolding start_from end_from
ends_are_in_bounds s None h = (omega arith, omega arith)
ends_are_in_bounds s (Some (last.Number f v)) h = (omega arith, omega arith)
ends_are_in_bounds s (Some (last.Part f a e)) h = h

-- the bytes of a field lie within the message
pub span_in_bounds : (s : List ℕ) (f : ℕ) → (start_from (last_in f f s) ≤ end_from (last_in f f s)) × (end_from (last_in f f s) ≤ length s)
span_in_bounds s f = ends_are_in_bounds s (last_in f f s) (last_in_in_bounds s f f)
