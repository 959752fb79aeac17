-- Two messages that pass a check, one behind the other, are a message that passes it; its fields are those of the first and then
-- those of the second.
use Prim.Native.Nat.{ℕ, ◌+◌, ◌≤◌, ◌<◌}
use native.Mathlib.Nat.{add-zero, zero-add}
use native.Mathlib.Omega.{arith}
use mathlib.Core.Path.{◌≡◌, refl, sym, subst, ap, ◌∙◌}
use mathlib.Core.List.{List, [], ◌∷◌, ◌++◌, map, append-nil}
use lib.ListN.{length, length-append}
use Rattle.wire_check_field.specs.Check.{check_of}
use Rattle.wire_fields.specs.Fields.{field_at, next_of, on_field, fields_at}
use Rattle.wire_fields.specs.Items.{Item, bytes, item_of, items}
use Rattle.std.specs.Prelude.{Option, Some, Ok}
use Rattle.wire_fields.specs.declared.Field.{Field}
use Rattle.wire_fields.specs.declared.Field.TheVariants as field
use Rattle.wire_fields.proofs.Follow.{FieldRead, MaybeRead, field_read, follow, none}
use Rattle.wire_elements.specs.Elements.{items_at}
use Rattle.write_forms.proofs.Moves.{InBounds, in_bounds_first, in_bounds_second, moved_field, part_moves, field_moves}
use Rattle.write_forms.proofs.Chains.{Chain, done, more, moved, Stepped, chain_of, passes, stepped_moves, FieldTo}

-- a chain of any kind in each of two lists, one behind the other
pub joined : (Leads : List ℕ → ℕ → ℕ → Type 0)
    → ((S s : List ℕ) (p : ℕ) → InBounds S s p → (a b : ℕ) → b ≤ length s → Leads s a b → Leads S (p + a) (p + b))
    → (a b : List ℕ) → Chain (Leads a) (length a) 0 → Chain (Leads b) (length b) 0 → Chain (Leads (a ++ b)) (length (a ++ b)) 0
joined Leads moves a b x y =
    let n : length a + length b ≡ length (a ++ b) = sym (length-append a b) in
    let z : Chain (Leads (a ++ b)) (length (a ++ b)) (length a + length b) = rw n done in
    let w : Chain (Leads (a ++ b)) (length (a ++ b)) (length a) =
    rw add-zero at (moved (Leads (a ++ b)) (length a) (moves (a ++ b) b (length a) (in_bounds_second a b)) (in_bounds_second a b).fits y z) in
    moved (Leads (a ++ b)) 0 (moves (a ++ b) a 0 (in_bounds_first a b)) (in_bounds_first a b).fits x (rw zero-add w)

pub check_joined : (m : ℕ) (a b : List ℕ) → check_of m a ≡ Ok tt → check_of m b ≡ Ok tt → check_of m (a ++ b) ≡ Ok tt
check_joined m a b x y = passes m (a ++ b) (joined (Stepped m) (λ S s p l. stepped_moves l m) a b (chain_of m a x) (chain_of m b y))

-- a field that is taken, and those that follow
follows : (s : List ℕ) (at : ℕ) (e : Field) → at < length s → field_at s at ≡ Some e → fields_at s at ≡ e ∷ fields_at s (next_of e)
unfolding on_field
follows s at e l h = follow s at l ∙ ap (λ (x : Option Field). on_field (fields_at s) x) h

module _ {S s : List ℕ} {p : ℕ} (l : InBounds S s p) where
  item_moves : (at : ℕ) (e : Field) → FieldRead s at e → item_of S (moved_field p e) ≡ item_of s e
  item_moves at (field.Number f v n) r = refl
  item_moves at (field.Fixed f n) r = refl
  item_moves at (field.Part f a e) r = ap (λ (d : List ℕ). bytes f d) (part_moves l a e r.2)

  next_moves : (e : Field) → next_of (moved_field p e) ≡ p + next_of e
  next_moves (field.Number f v n) = refl
  next_moves (field.Fixed f n) = refl
  next_moves (field.Part f a e) = refl

  -- the fields of s, read in S, are those of s, then those past it
  pub items_move : {at : ℕ} → Chain (FieldTo s) (length s) at → items_at S (p + at) ≡ items_at s at ++ items_at S (p + length s)
  items_move done = rw (none s (length s) (omega arith))
  items_move (more {at} {n} lt le h r) =
      let e : Field = h.field in
      let one : items_at s at ≡ item_of s e ∷ items_at s n =
      ap (map (item_of s)) (follows s at e (omega arith) h.taken) ∙ ap (λ (i : ℕ). item_of s e ∷ items_at s i) h.ends in
      let two : items_at S (p + at) ≡ item_of s e ∷ items_at S (p + n) =
      ap (map (item_of S)) (follows S (p + at) (moved_field p e) (omega (arith, l.fits)) (field_moves l at e h.taken))
      ∙ ap (λ (i : Item). i ∷ items_at S (next_of (moved_field p e))) (item_moves at e (subst (MaybeRead s at) h.taken (field_read s at)))
      ∙ ap (λ (i : ℕ). item_of s e ∷ items_at S i) (next_moves e ∙ ap (λ (i : ℕ). p + i) h.ends) in
      two ∙ ap (λ (x : List Item). item_of s e ∷ x) (items_move r) ∙ ap (λ (x : List Item). x ++ items_at S (p + length s)) (sym one)

-- fields that end where the bytes end
abbrev pub Whole : List ℕ → Type 0
Whole s = Chain (FieldTo s) (length s) 0

field_to_moves : (S s : List ℕ) (p : ℕ) → InBounds S s p → (a b : ℕ) → b ≤ length s → FieldTo s a b → FieldTo S (p + a) (p + b)
field_to_moves S s p l a b le h = record {
  field = moved_field p h.field;
  taken = field_moves l a h.field h.taken;
  ends = next_moves l h.field ∙ ap (λ (n : ℕ). p + n) h.ends;
}

pub whole_joined : (a b : List ℕ) → Whole a → Whole b → Whole (a ++ b)
whole_joined a b x y = joined FieldTo field_to_moves a b x y

pub items_joined : (a b : List ℕ) → Whole a → Whole b → items (a ++ b) ≡ items a ++ items b
unfolding items
items_joined a b x y =
    let u : items_at (a ++ b) 0 ≡ items_at a 0 ++ items_at (a ++ b) (length a) =
    rw (zero-add (length a)) at (items_move (in_bounds_first a b) x) in
    let v : items_at (a ++ b) (length a) ≡ items_at b 0 ++ items_at (a ++ b) (length a + length b) =
    rw add-zero at (items_move (in_bounds_second a b) y) in
    let w : items_at (a ++ b) (length a + length b) ≡ [] = ap (map (item_of (a ++ b))) (none (a ++ b) (length a + length b) (omega (arith, length-append a b))) in
    u ∙ ap (λ (i : List Item). items_at a 0 ++ i) (v ∙ ap (λ (i : List Item). items_at b 0 ++ i) w ∙ append-nil (items_at b 0))
