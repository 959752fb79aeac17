-- Entries in their plain form: a field by a tag of one byte, the key, the one value that ends the entry, and the check of
-- both. Last the strings of a list, each by the same tag.
use Prim.Native.Nat.{ℕ, ◌+◌, ◌-◌, ◌≤◌, ◌<◌}
use native.Mathlib.Omega.{arith}
use mathlib.Core.Path.{◌≡◌, refl, sym, subst, ap, ◌∙◌}
use mathlib.Core.List.{List, ◌∷◌}
use mathlib.Core.Bool.{Bool, true, false, true≢false}
use lib.ListN.{length, get_or}
use lib.Dec.{lit≤, ltb, eqb}
use borrow.Author.Tests.{le-leb, lt-leb, le-ltb, ltb-true, eqb-true}
use Rattle.base_laws.specs.Base.{pick, both, part}
use Rattle.base_laws.proofs.Order.{picked, both_true}
use Rattle.std.specs.Prelude.{Option, Some, None, Result, Ok}
use Rattle.wire_types.specs.declared.Refused.{Refused}
use Rattle.wire_types.specs.declared.Span.{Span}
use Rattle.wire_varint.specs.declared.Varint.{Varint}
use Rattle.wire_varint.specs.Varint.{read, varint_at}
use Rattle.wire_schema.specs.Schema.{kind_of, takes, schema, InfoMessage, StringList}
use Rattle.wire_value.specs.Field.{number_read, part_of, as_number, as_part, payload_at}
use Rattle.wire_varint.specs.Tag.{tag_fits, tag_of, tag_at}
use Rattle.wire_check_field.specs.Check.{step_of, step_at, check_at, check_of}
use Rattle.wire_fields.specs.Fields.{field_with, field_at, on_field, fields_at}
use Rattle.wire_check.specs.Entry.{key_end, Holds, Reaches, Formed}
use Rattle.wire_value.specs.declared.Payload.TheVariants as payload
use Rattle.wire_check_field.specs.declared.Step.TheVariants.{Next}
use Rattle.wire_fields.specs.declared.Field.{Field}
use Rattle.wire_fields.specs.declared.Field.TheVariants as field
use Rattle.wire_check.specs.declared.entry.Plain.TheVariants as plain
use Rattle.wire_varint.proofs.Varints.{one_byte}
use Rattle.wire_check_field.proofs.Checks.{at_end}
use Rattle.wire_fields.proofs.Follow.{MaybeRead, field_read, follow, none}
use Rattle.std.proofs.lemmas.Option.{same_Some, none-some}
use Rattle.wire_check_field.proofs.Walk.{field_tag, span, Leads, further, checks_on, fields_on, tag_is, field_leads, field_inside, field_part, inside_on}

-- ---- one field

-- a tag of one byte
pub tagged : (s : List ℕ) (at t f w : ℕ) → at < length s → t < 128 → get_or s at 0 ≡ t → tag_of (read t (at + 1)) ≡ field_tag f w (at + 1)
    → tag_at s at ≡ field_tag f w (at + 1)
tagged s at t f w i l b is = tag_is s at (read t (at + 1)) (one_byte s at t i b l) ∙ is

-- ---- the key

-- an entry begins with its key, from 2 to k, and goes on
pub record Keyed (s : List ℕ) (k : ℕ) : Type 0 where
  pub steps : step_at InfoMessage s 0 ≡ Ok (Next k)
  pub reads : field_at s 0 ≡ Some (field.Part 1 2 k)
  pub starts : 2 ≤ k
  pub goes_on : k < length s

-- a length of one byte that the list has room for
key_part : (s : List ℕ) (n : ℕ) → n < 128 → get_or s 1 0 ≡ n → 2 + n < length s → part_of s 1 (varint_at s 1) ≡ Ok (span 2 (2 + n))
unfolding part_of
key_part s n l b h = let r : n ≤ length s - 2 = omega arith in rw (one_byte s 1 n (omega arith) b l, le-leb _ _ r)

keyed : (s : List ℕ) (n : ℕ) → get_or s 0 0 ≡ 10 → n < 128 → get_or s 1 0 ≡ n → 2 + n < length s → Keyed s (2 + n)
unfolding tag_of tag_fits takes kind_of schema payload_at as_part step_of field_with
keyed s n t l b h =
    let leads = field_leads InfoMessage s 0 1 2 1 (omega arith) (tagged s 0 10 1 2 (omega arith) (lit≤ tt) t refl) refl (2 + n) (payload.Part (span 2 (2 + n))) (ap as_part (key_part s n l b h)) refl in
    record { steps = leads.steps; reads = leads.reads; starts = omega arith; goes_on = h }

-- the entry begins with its key where it has an end
pub key_there : (s : List ℕ) (k : ℕ) → key_end s ≡ Some k → Keyed s k
unfolding key_end
key_there s k =
    let n : ℕ = get_or s 1 0 in
    let t : Bool = both (eqb (get_or s 0 0) 10) (both (ltb n 128) (ltb (2 + n) (length s))) in
    picked (λ (x : Option ℕ). x ≡ Some k → Keyed s k) t (Some (2 + n)) None
    (λ h.
    let p = both_true (eqb (get_or s 0 0) 10) (both (ltb n 128) (ltb (2 + n) (length s))) h in
    let q = both_true (ltb n 128) (ltb (2 + n) (length s)) p.1 in
    λ e. subst (Keyed s) (same_Some (2 + n) k e) (keyed s n (eqb-true (get_or s 0 0) 10 p.0) (ltb-true n 128 q.0) refl (ltb-true (2 + n) (length s) q.1)))
    (λ _ e. absurd (none-some k e))

-- and it has none where the bytes end with the key, or before
pub no_value : (s : List ℕ) → length s ≤ 2 + get_or s 1 0 → None ≡ key_end s
unfolding key_end
no_value s h =
    let n : ℕ = get_or s 1 0 in
    rw (le-ltb (2 + n) (length s) h) (nothing (eqb (get_or s 0 0) 10) (ltb n 128))
  where
    nothing : (a b : Bool) → None ≡ pick (both a (both b false)) (Some (2 + get_or s 1 0)) None
    nothing true true = refl
    nothing true false = refl
    nothing false b = refl

-- ---- the value

module _ (s : List ℕ) (k : ℕ) (h : Keyed s k) where
  key_leads : Leads InfoMessage s 0 k (field.Part 1 2 k)
  key_leads = record { steps = h.steps; reads = h.reads; goes = refl }

  first : 0 < length s
  first = omega (arith, h.goes_on)

  -- a value that ends the entry is the last field
  holds : (v : Field) → fields_at s k ≡ v ∷ fields_at s (length s) → Holds s k v
  holds v reads = record {
    fields =
        fields_on key_leads first
        ∙ ap (λ (es : List Field). field.Part 1 2 k ∷ es) (reads ∙ ap (λ (es : List Field). v ∷ es) (none s (length s) (omega arith)));
    starts = h.starts;
    ends = omega (arith, h.goes_on);
  }

  -- what is found from the value on is found in the entry
  whole : (x : Result Unit Refused) → check_at InfoMessage s k ≡ x → check_of InfoMessage s ≡ x
  whole x e = checks_on key_leads first ∙ e

  -- a value that is not looked into
  ended : (v : Field) → Leads InfoMessage s k (length s) v → Holds s k v × (check_of InfoMessage s ≡ Ok tt)
  ended v leads = (
    holds v (fields_on leads h.goes_on),
    whole (Ok tt) (checks_on leads h.goes_on ∙ at_end InfoMessage s (length s) (omega arith)),
  )

  pub numbered : get_or s k 0 ≡ 16 → (v : Varint) → number_read (k + 1) (varint_at s (k + 1)) ≡ Ok v → v.next ≡ length s → Formed s (Some (plain.Number k v.value))
  unfolding Formed tag_of tag_fits takes kind_of schema payload_at as_number step_of field_with
  numbered t v e end =
      let leads : Leads InfoMessage s k v.next (field.Number 2 v.value v.next) = field_leads InfoMessage s k 2 0 (k + 1) (omega arith) (tagged s k 16 2 0 h.goes_on (lit≤ tt) t refl) refl v.next (payload.Number v) (ap as_number e) refl in
      ended (field.Number 2 v.value (length s)) (subst (λ (x : ℕ). Leads InfoMessage s k x (field.Number 2 v.value x)) end leads)

  -- a value of bytes, by its tag
  module _ (t f : ℕ) (b : get_or s k 0 ≡ t) (small : t < 128) (is : tag_of (read t (k + 1)) ≡ field_tag f 2 (k + 1)) (fits : takes (kind_of InfoMessage f) 2 ≡ true)
      (p : Span) (was : part_of s (k + 1) (varint_at s (k + 1)) ≡ Ok p) (end : p.end ≡ length s) where
    value_tag : tag_at s k ≡ field_tag f 2 (k + 1)
    value_tag = tagged s k t f 2 h.goes_on small b is

    value : payload_at s k (k + 1) 2 ≡ Ok (payload.Part (span p.start (length s)))
    unfolding payload_at as_part
    value = ap as_part was ∙ ap (λ (x : ℕ). Ok (payload.Part (span p.start x))) end

    value_field : field_at s k ≡ Some (field.Part f p.start (length s))
    value_field = field_part InfoMessage s k f 2 (k + 1) (omega arith) value_tag fits (span p.start (length s)) value

    reaches : Reaches s k f p.start
    unfolding on_field
    reaches = record {
      holds = holds (field.Part f p.start (length s)) (follow s k h.goes_on ∙ ap (λ (x : Option Field). on_field (fields_at s) x) value_field);
      within = (subst (MaybeRead s k) value_field (field_read s k)).1;
    }

    not_entered : kind_of InfoMessage f < 16 → check_of InfoMessage s ≡ Ok tt
    unfolding step_of field_with
    not_entered low =
        (ended (field.Part f p.start (length s))
        (field_leads InfoMessage s k f 2 (k + 1) (omega arith) value_tag fits (length s) (payload.Part (span p.start (length s))) value (rw (lt-leb _ _ low)))
        ).1

    entered : 16 ≤ kind_of InfoMessage f → check_of (kind_of InfoMessage f - 16) (part s p.start (length s)) ≡ Ok tt → check_of InfoMessage s ≡ Ok tt
    entered high c =
        let step = field_inside InfoMessage s k f 2 (k + 1) (omega arith) value_tag fits (span p.start (length s)) value high in
        whole (Ok tt)
        ((inside_on InfoMessage s k (kind_of InfoMessage f - 16) p.start (length s) h.goes_on step f value_field c).checks ∙ at_end InfoMessage s (length s) (omega arith))

  module _ (p : Span) (was : part_of s (k + 1) (varint_at s (k + 1)) ≡ Ok p) (end : p.end ≡ length s) where
    pub text : get_or s k 0 ≡ 26 → Formed s (Some (plain.Text k p.start))
    unfolding Formed tag_of tag_fits takes kind_of schema
    text b = (reaches 26 3 b (lit≤ tt) refl refl p was end, not_entered 26 3 b (lit≤ tt) refl refl p was end (lit≤ tt))

    pub texts : get_or s k 0 ≡ 34 → Formed s (Some (plain.Texts k p.start))
    unfolding Formed tag_of tag_fits takes kind_of schema
    texts b = (reaches 34 4 b (lit≤ tt) refl refl p was end, entered 34 4 b (lit≤ tt) refl refl p was end (lit≤ tt))

    pub numbers : get_or s k 0 ≡ 42 → Formed s (Some (plain.Numbers k p.start))
    unfolding Formed tag_of tag_fits takes kind_of schema
    numbers b = (reaches 42 5 b (lit≤ tt) refl refl p was end, entered 42 5 b (lit≤ tt) refl refl p was end (lit≤ tt))

-- ---- a list's strings

-- from a string to the next the check goes on
abbrev pub Passed : List ℕ → ℕ → ℕ → Type 0
Passed s at e = (at < e) × (e ≤ length s) × (check_at StringList s at ≡ check_at StringList s e)

pub passed : (s : List ℕ) (at : ℕ) (p : Span) → at < length s → get_or s at 0 ≡ 10 → part_of s (at + 1) (varint_at s (at + 1)) ≡ Ok p → Passed s at p.end
unfolding tag_of tag_fits takes kind_of schema payload_at as_part step_of field_with
passed s at p i b q =
    let leads : Leads StringList s at p.end (field.Part 1 p.start p.end) = field_leads StringList s at 1 2 (at + 1) (omega arith) (tagged s at 10 1 2 i (lit≤ tt) b refl) refl p.end (payload.Part p) (ap as_part q) refl in
    ((further leads i).0, (further leads i).1, checks_on leads i)

-- nothing is said where the answer is false
pub unsaid : {A : Type 0} → false ≡ true → A
unsaid e = absurd (true≢false (sym e))
