-- One walk that checks a message and keeps the last values: what a field changes.
use Prim.Native.Nat.{ℕ, ◌-◌, ◌/◌, ◌%◌, ◌≤◌, ◌<◌}
use native.Mathlib.Omega.{arith}
use mathlib.Core.Path.{◌≡◌, refl, subst, ap, ◌∙◌}
use mathlib.Core.List.{List, [], ◌∷◌}
use mathlib.Core.Bool.{Bool, true, false}
use lib.ListN.{length}
use lib.Dec.{leb, eqb}
use borrow.Author.Tests.{lt-leb, le-leb, ne_eqb, eqb-true, eqb-false, leb-true, leb-false}
use Rattle.base_laws.specs.Base.{pick, both}
use Rattle.wire_varint.specs.Varint.{read, varint_at}
use Rattle.wire_schema.specs.Schema.{kind_of, takes}
use Rattle.wire_value.specs.Field.{number_read, part_of, as_number, as_part, payload_at}
use Rattle.wire_varint.specs.Tag.{tag_fits, tag_of, tag_at}
use Rattle.wire_check_field.specs.Check.{step_of, step_read, step_from, step_at}
use Rattle.base_laws.specs.Base.{part}
use Rattle.wire_check_field.specs.Check.{before, on_step, check_at, check_of}
use Rattle.wire_fields.specs.Fields.{field_with, field_of, field_from, field_at, next_of, on_field, fields_at, among, later, last_of}
use Rattle.wire_fields.specs.Fields.{number_from}
use Rattle.std.specs.Prelude.{Option, Some, Result, Ok, Err}
use Rattle.wire_types.specs.Refusals.{at_place, within}
use Rattle.wire_types.specs.declared.Refusal.{Refusal}
use Rattle.wire_types.specs.declared.Refusal.TheVariants as refusal
use Rattle.wire_types.specs.declared.Refused.{Refused}
use Rattle.wire_types.specs.declared.Span.{Span}
use Rattle.wire_varint.specs.declared.Varint.{Varint}
use Rattle.wire_varint.specs.declared.VarintError.{VarintError}
use Rattle.wire_varint.specs.declared.tag.Tag.{Tag}
use Rattle.wire_value.specs.declared.Payload.{Payload}
use Rattle.wire_value.specs.declared.Payload.TheVariants as payload
use Rattle.wire_check_field.specs.declared.Step.{Step}
use Rattle.wire_check_field.specs.declared.Step.TheVariants as step
use Rattle.wire_fields.specs.declared.Field.{Field}
use Rattle.wire_fields.specs.declared.Field.TheVariants as field
use Rattle.wire_fields.specs.declared.Last.{Last}
use Rattle.wire_fields.specs.declared.Last.TheVariants as last
use Rattle.wire_check_field.proofs.Steps.{StepRead, step_at_lem}
use Rattle.wire_check_field.proofs.Checks.{next}
use Rattle.wire_fields.proofs.Follow.{follow}

-- from f to f is f alone
pub alone : (f g : ℕ) → among f f g ≡ eqb g f
unfolding among
alone f g = go (eqb g f) refl (leb f g) refl
  where
    go : (t : Bool) → eqb g f ≡ t → (u : Bool) → leb f g ≡ u → both (leb f g) (leb g f) ≡ eqb g f
    go true e true h = let x = eqb-true g f e in let y : g ≤ f = omega arith in rw (h, le-leb _ _ y, e)
    go true e false h = let x = eqb-true g f e in let y = leb-false f g h in absurd (omega arith)
    go false e true h = let x = eqb-false g f e in let z = leb-true f g h in let y : f < g = omega arith in rw (h, lt-leb _ _ y, e)
    go false e false h = rw (h, e)

-- a field leads to the place n: the check goes on there, and so do the entries
pub record Leads (m : ℕ) (s : List ℕ) (at n : ℕ) (e : Field) : Type 0 where
  pub steps : step_at m s at ≡ Ok (step.Next n)
  pub reads : field_at s at ≡ Some e
  pub goes : next_of e ≡ n

module _ {m : ℕ} {s : List ℕ} {at n : ℕ} {e : Field} (h : Leads m s at n e) (i : at < length s) where
  pub further : (at < n) × (n ≤ length s)
  further = subst (StepRead s at) h.steps (step_at_lem s m at (omega arith))

  pub checks_on : check_at m s at ≡ check_at m s n
  unfolding on_step
  checks_on = next m s at i ∙ ap (λ (x : Result Step Refused). on_step check_at m s x) h.steps

  -- the fields from its place on are it and those from n on
  pub fields_on : fields_at s at ≡ e ∷ fields_at s n
  unfolding on_field
  fields_on =
      follow s at i ∙ ap (λ (x : Option Field). on_field (fields_at s) x) h.reads ∙ ap (λ (k : ℕ). e ∷ fields_at s k) h.goes

  pub keeps_on : (lo hi : ℕ) (l : Option Last) → last_of lo hi l (fields_at s at) ≡ last_of lo hi (later lo hi l e) (fields_at s n)
  unfolding last_of
  keeps_on lo hi l = ap (λ (es : List Field). last_of lo hi l es) fields_on

-- a refused field ends the check
pub ends_at : (m : ℕ) (s : List ℕ) (at : ℕ) (r : Refused) → at < length s → step_at m s at ≡ Err r → check_at m s at ≡ Err r
unfolding on_step
ends_at m s at r i e = next m s at i ∙ ap (λ (x : Result Step Refused). on_step check_at m s x) e

-- the tag of the field f of wire type w, which ends at x
abbrev pub field_tag : ℕ → ℕ → ℕ → Result Tag Refusal
field_tag f w x = Ok (record { number = f; wire = w; next = x })

-- where the bytes of a field are
abbrev pub span : ℕ → ℕ → Span
span a b = record { start = a; end = b }

-- a field by its tag
pub by_tag : (m : ℕ) (s : List ℕ) (at : ℕ) → (m ≡ 16 → ⊥) → (t : Result Tag Refusal) → tag_at s at ≡ t → step_at m s at ≡ step_from m s at t
unfolding step_at
by_tag m s at h t e = rw (ne_eqb m 16 h, e)

pub tag_is : (s : List ℕ) (at : ℕ) (r : Result Varint VarintError) → varint_at s at ≡ r → tag_at s at ≡ tag_of r
unfolding tag_at
tag_is s at r e = ap (λ (x : Result Varint VarintError). tag_of x) e

-- a value that is not entered leads on
of_payload : (k f n : ℕ) (p : Payload) → step_of k p ≡ step.Next n → next_of (field_with f p) ≡ n
unfolding step_of field_with
of_payload k f n (payload.Number v) e = cc
of_payload k f n (payload.Fixed x) e = cc
of_payload k f n (payload.Part p) e = inner (leb 16 k) e
  where
    inner : (t : Bool) → pick t (step.Inside (k - 16) p.start p.end) (step.Next p.end) ≡ step.Next n → p.end ≡ n
    inner true e = let z : ◌≡◌ {A = ℕ} 0 1 = cc in absurd (omega arith)
    inner false e = cc

-- a field of a number outside lo to hi changes nothing
pub outside : (lo hi f : ℕ) (p : Payload) (l : Option Last) → among lo hi f ≡ false → later lo hi l (field_with f p) ≡ l
unfolding later field_with
outside lo hi f (payload.Number v) l h = rw h
outside lo hi f (payload.Fixed n) l h = refl
outside lo hi f (payload.Part p) l h = rw h

-- the number of the last field depends on the number kept alone
module _ (lo hi : ℕ) where
  same_later : (l k : Option Last) (e : Field) → number_from l ≡ number_from k → number_from (later lo hi l e) ≡ number_from (later lo hi k e)
  unfolding later number_from
  same_later l k (field.Number f v n) h = inner (among lo hi f)
    where
      inner : (t : Bool) → number_from (pick t (Some (last.Number f v)) l) ≡ number_from (pick t (Some (last.Number f v)) k)
      inner true = refl
      inner false = h
  same_later l k (field.Fixed f n) h = h
  same_later l k (field.Part f a b) h = inner (among lo hi f)
    where
      inner : (t : Bool) → number_from (pick t (Some (last.Part f a b)) l) ≡ number_from (pick t (Some (last.Part f a b)) k)
      inner true = refl
      inner false = h

  pub same_number : (l k : Option Last) (es : List Field) → number_from l ≡ number_from k → number_from (last_of lo hi l es) ≡ number_from (last_of lo hi k es)
  unfolding last_of
  same_number l k [] h = h
  same_number l k (e ∷ es) h = same_number (later lo hi l e) (later lo hi k e) es (same_later l k e h)

module _ (m : ℕ) (s : List ℕ) (at t x : ℕ) (real : m ≡ 16 → ⊥) (tagged : varint_at s at ≡ read t x) where
  stepped : step_at m s at ≡ step_from m s at (tag_of (read t x))
  stepped = by_tag m s at real (tag_of (read t x)) (tag_is s at (read t x) tagged)

  entered : field_at s at ≡ field_from s at (tag_of (read t x))
  unfolding field_at
  entered = ap (λ (g : Result Tag Refusal). field_from s at g) (tag_is s at (read t x) tagged)

  -- a number where the schema has one
  module _ (f : ℕ) (is : tag_of (read t x) ≡ field_tag f 0 x) (fits : takes (kind_of m f) 0 ≡ true) where
    pub number_leads : (v n : ℕ) → varint_at s x ≡ read v n → Leads m s at n (field.Number f v n)
    unfolding step_from step_read step_of payload_at number_read as_number field_from field_of field_with
    number_leads v n e = record { steps = stepped ∙ rw (is, fits, e); reads = entered ∙ rw (is, e); goes = refl }

    pub number_stops : (d : VarintError) → varint_at s x ≡ Err d → step_at m s at ≡ Err (at_place refusal.Varint x)
    unfolding step_from step_read payload_at number_read as_number
    number_stops d e = stepped ∙ rw (is, fits, e)

  -- any field that is not entered
  pub record Rest (n : ℕ) : Type 0 where
    pub value : Payload
    pub leads : Leads m s at n (field_with (t / 8) value)
    pub fits : takes (kind_of m (t / 8)) (t % 8) ≡ true

  pub rest_leads : (n : ℕ) → step_from m s at (tag_of (read t x)) ≡ Ok (step.Next n) → Rest n
  unfolding tag_of step_from step_read field_from field_of
  rest_leads n e = go (tag_fits t) refl
    where
      go : (b : Bool) → tag_fits t ≡ b → Rest n
      go false h = let z : ◌≡◌ {A = ℕ} 0 1 = cc (rw h at e) in absurd (omega arith)
      go true h = inner (takes (kind_of m (t / 8)) (t % 8)) refl
        where
          inner : (b : Bool) → takes (kind_of m (t / 8)) (t % 8) ≡ b → Rest n
          inner false k = let z : ◌≡◌ {A = ℕ} 0 1 = cc (rw (h, k) at e) in absurd (omega arith)
          inner true k = by_value (payload_at s at x (t % 8)) refl (rw (h, k) at e)
            where
              by_value : (q : Result Payload Refused) → payload_at s at x (t % 8) ≡ q → step_read (kind_of m (t / 8)) q ≡ Ok (step.Next n) → Rest n
              by_value (Ok p) r z = record {
                value = p;
                leads = record { steps = stepped ∙ e; reads = entered ∙ rw (h, r); goes = of_payload (kind_of m (t / 8)) (t / 8) n p cc };
                fits = k;
              }
              by_value (Err d) r z = let y : ◌≡◌ {A = ℕ} 0 1 = cc in absurd (omega arith)

  pub rest_stops : (r : Refused) → step_from m s at (tag_of (read t x)) ≡ Err r → step_at m s at ≡ Err r
  rest_stops r e = stepped ∙ e

-- a tag that cannot be read
pub no_tag : (m : ℕ) (s : List ℕ) (at : ℕ) → (m ≡ 16 → ⊥) → (d : VarintError) → varint_at s at ≡ Err d → step_at m s at ≡ Err (at_place refusal.Varint at)
unfolding tag_of step_from
no_tag m s at real d e = by_tag m s at real (Err refusal.Varint) (tag_is s at (Err d) e)

-- the walk goes on at n past an entry: the check does, and the last values are those kept
pub record On (m : ℕ) (s : List ℕ) (at n : ℕ) (e : Field) : Type 0 where
  pub past : at < n
  pub within : n ≤ length s
  pub checks : check_at m s at ≡ check_at m s n
  pub keeps : (lo hi : ℕ) (l : Option Last) → last_of lo hi l (fields_at s at) ≡ last_of lo hi (later lo hi l e) (fields_at s n)

pub leads_on : {m : ℕ} {s : List ℕ} {at n : ℕ} {e : Field} → Leads m s at n e → at < length s → On m s at n e
leads_on h i = record { past = (further h i).0; within = (further h i).1; checks = checks_on h i; keeps = keeps_on h i }

module _ (m : ℕ) (s : List ℕ) (at t x : ℕ) (real : m ≡ 16 → ⊥) (tagged : varint_at s at ≡ read t x)
    (f : ℕ) (is : tag_of (read t x) ≡ field_tag f 2 x) (fits : takes (kind_of m f) 2 ≡ true) where
  part_step : (p : Result Span Refused) → part_of s x (varint_at s x) ≡ p → step_at m s at ≡ step_read (kind_of m f) (as_part p)
  unfolding step_from payload_at
  part_step p e = stepped m s at t x real tagged ∙ rw (is, fits, e)

  pub part_field : (p : Span) → part_of s x (varint_at s x) ≡ Ok p → field_at s at ≡ Some (field.Part f p.start p.end)
  unfolding field_from field_of field_with payload_at as_part
  part_field p e = entered m s at t x real tagged ∙ rw (is, e)

  pub part_leads : kind_of m f < 16 → (p : Span) → part_of s x (varint_at s x) ≡ Ok p → Leads m s at p.end (field.Part f p.start p.end)
  unfolding step_read step_of as_part
  part_leads h p e = record { steps = part_step (Ok p) e ∙ rw (lt-leb _ _ h); reads = part_field p e; goes = refl }

  pub part_inside : 16 ≤ kind_of m f → (p : Span) → part_of s x (varint_at s x) ≡ Ok p → step_at m s at ≡ Ok (step.Inside (kind_of m f - 16) p.start p.end)
  unfolding step_read step_of as_part
  part_inside h p e = part_step (Ok p) e ∙ rw (le-leb _ _ h)

  pub part_stops : (r : Refused) → part_of s x (varint_at s x) ≡ Err r → step_at m s at ≡ Err r
  unfolding step_read as_part
  part_stops r e = part_step (Err r) e

-- past an embedded message that is fine
module _ (m : ℕ) (s : List ℕ) (at i a b : ℕ) (h : at < length s) (e : step_at m s at ≡ Ok (step.Inside i a b)) where
  pub in_bounds : (at < a) × (a ≤ b) × (b ≤ length s)
  in_bounds = subst (StepRead s at) e (step_at_lem s m at (omega arith))

  enters : check_at m s at ≡ before a (check_of i (part s a b)) (check_at m s b)
  unfolding on_step
  enters = next m s at h ∙ ap (λ (x : Result Step Refused). on_step check_at m s x) e

  pub inside_on : (f : ℕ) → field_at s at ≡ Some (field.Part f a b) → check_of i (part s a b) ≡ Ok tt → On m s at b (field.Part f a b)
  unfolding before on_field last_of
  inside_on f r c = record {
    past = omega (arith, in_bounds.0, in_bounds.1);
    within = in_bounds.2;
    checks = enters ∙ rw c;
    keeps = λ lo hi l. ap (λ (es : List Field). last_of lo hi l es) (follow s at h ∙ ap (λ (x : Option Field). on_field (fields_at s) x) r);
  }

  pub inside_stops : (r : Refused) → check_of i (part s a b) ≡ Err r → check_at m s at ≡ Err (within a r)
  unfolding before
  inside_stops r c = enters ∙ rw c

not_inside : (k : ℕ) (q : Result Payload Refused) (i a b : ℕ) → k < 16 → step_read k q ≡ Ok (step.Inside i a b) → ◌≡◌ {A = ℕ} 0 1
unfolding step_read step_of
not_inside k (Ok (payload.Number v)) i a b h e = cc
not_inside k (Ok (payload.Fixed n)) i a b h e = cc
not_inside k (Ok (payload.Part p)) i a b h e = cc (rw (lt-leb _ _ h) at e)
not_inside k (Err r) i a b h e = cc

-- a field is not entered whose kind is no message
pub none_inside : (m : ℕ) (s : List ℕ) (at t x i a b : ℕ) → (takes (kind_of m (t / 8)) (t % 8) ≡ true → kind_of m (t / 8) < 16)
    → step_from m s at (tag_of (read t x)) ≡ Ok (step.Inside i a b) → ◌≡◌ {A = ℕ} 0 1
unfolding tag_of step_from
none_inside m s at t x i a b flat e = go (tag_fits t) refl
  where
    inner : tag_fits t ≡ true → (q : Bool) → takes (kind_of m (t / 8)) (t % 8) ≡ q → ◌≡◌ {A = ℕ} 0 1
    inner h false k = cc (rw (h, k) at e)
    inner h true k = not_inside (kind_of m (t / 8)) (payload_at s at x (t % 8)) i a b (flat k) (rw (h, k) at e)

    go : (q : Bool) → tag_fits t ≡ q → ◌≡◌ {A = ℕ} 0 1
    go false h = cc (rw h at e)
    go true h = inner h (takes (kind_of m (t / 8)) (t % 8)) refl

-- a field of another number than f
pub other : (f g : ℕ) → (g ≡ f → ⊥) → among f f g ≡ false
other f g h = alone f g ∙ ne_eqb g f h

-- a field by its tag and its value
module _ (m : ℕ) (s : List ℕ) (at f w x : ℕ) (real : m ≡ 16 → ⊥) (tagged : tag_at s at ≡ field_tag f w x) (fits : takes (kind_of m f) w ≡ true) where
  pub field_step : (q : Result Payload Refused) → payload_at s at x w ≡ q → step_at m s at ≡ step_read (kind_of m f) q
  unfolding step_from
  field_step q e = by_tag m s at real (field_tag f w x) tagged ∙ rw (fits, e)

  pub field_is : (p : Payload) → payload_at s at x w ≡ Ok p → field_at s at ≡ Some (field_with f p)
  unfolding field_at field_from field_of
  field_is p e = rw (tagged, e)

  pub field_leads : (n : ℕ) (p : Payload) → payload_at s at x w ≡ Ok p → step_of (kind_of m f) p ≡ step.Next n → Leads m s at n (field_with f p)
  unfolding step_read
  field_leads n p e h = record { steps = field_step (Ok p) e ∙ ap Ok h; reads = field_is p e; goes = of_payload (kind_of m f) f n p h }

  pub field_inside : (p : Span) → payload_at s at x w ≡ Ok (payload.Part p) → 16 ≤ kind_of m f → step_at m s at ≡ Ok (step.Inside (kind_of m f - 16) p.start p.end)
  unfolding step_read step_of
  field_inside p e h = field_step (Ok (payload.Part p)) e ∙ rw (le-leb _ _ h)

  pub field_part : (p : Span) → payload_at s at x w ≡ Ok (payload.Part p) → field_at s at ≡ Some (field.Part f p.start p.end)
  unfolding field_with
  field_part p e = field_is (payload.Part p) e

  pub field_stops : (r : Refused) → payload_at s at x w ≡ Err r → step_at m s at ≡ Err r
  unfolding step_read
  field_stops r e = field_step (Err r) e

-- a field of another wire type
pub misfits : (m : ℕ) (s : List ℕ) (at f w x : ℕ) → (m ≡ 16 → ⊥) → tag_at s at ≡ field_tag f w x → takes (kind_of m f) w ≡ false → step_at m s at ≡ Err (at_place refusal.WireType at)
unfolding step_from
misfits m s at f w x real tagged fits = by_tag m s at real (field_tag f w x) tagged ∙ rw fits

pub bad_tag : (m : ℕ) (s : List ℕ) (at : ℕ) (r : Refusal) → (m ≡ 16 → ⊥) → tag_at s at ≡ Err r → step_at m s at ≡ Err (at_place r at)
unfolding step_from
bad_tag m s at r real tagged = by_tag m s at real (Err r) tagged
