-- The walk over a TimeSpec: what holds at each field.
use Prim.Native.Nat.{ℕ, ◌/◌, ◌%◌, ◌≤◌, ◌<◌}
use native.Mathlib.Omega.{arith}
use mathlib.Core.Path.{◌≡◌, refl, sym, ap, ◌∙◌}
use mathlib.Core.List.{List}
use mathlib.Core.Bool.{Bool, true}
use lib.ListN.{length}
use lib.Dec.{ltb, ltb→lt}
use borrow.Author.Tests.{eqb-true}
use Rattle.std.specs.Prelude.{Option, Some, None, Result, Ok, Err}
use Rattle.wire_varint.specs.Varint.{read, varint_at}
use Rattle.wire_schema.specs.Schema.{kind_of, takes, schema}
use Rattle.wire_value.specs.Field.{number_read}
use Rattle.wire_varint.specs.Tag.{tag_fits, tag_of}
use Rattle.wire_check_field.specs.Check.{step_from, step_at}
use Rattle.wire_check_field.specs.Check.{check_at, check_of}
use Rattle.wire_fields.specs.Fields.{field_with, fields_at, fields_of, among, later, last_of}
use Rattle.wire_fields.specs.Fields.{number_from, number_in}
use Rattle.wire_walk_io.specs.Places.{time_read, time_spec_of}
use Rattle.wire_types.specs.declared.Refused.{Refused}
use Rattle.wire_types.specs.declared.Time.{Time}
use Rattle.wire_types.specs.Refusals.{at_place}
use Rattle.wire_types.specs.declared.Refusal.TheVariants as refusal
use Rattle.wire_varint.specs.declared.Varint.{Varint}
use Rattle.wire_varint.specs.declared.VarintError.{VarintError}
use Rattle.wire_check_field.specs.declared.Step.TheVariants as step
use Rattle.wire_fields.specs.declared.Field.{Field}
use Rattle.wire_fields.specs.declared.Field.TheVariants as field
use Rattle.wire_fields.specs.declared.Last.{Last}
use Rattle.wire_fields.specs.declared.Last.TheVariants as last
use Rattle.wire_check_field.proofs.Checks.{at_end}
use Rattle.wire_fields.proofs.Follow.{none}
use Rattle.wire_schema.proofs.Rows.{kinds}
use Rattle.wire_check_field.proofs.Walk.{Leads, further, checks_on, keeps_on, ends_at, outside, other, same_number, number_leads, number_stops, no_tag, rest_leads, rest_stops, none_inside}

-- a number that was read is the varint's
pub read_ok : (x : ℕ) (q : Result Varint VarintError) (v : Varint) → number_read x q ≡ Ok v → q ≡ Ok v
unfolding number_read
read_ok x (Ok w) v h = grind arith
read_ok x (Err d) v h = grind arith

-- where no number is read, its varint is refused at its place
pub read_err : (x : ℕ) (q : Result Varint VarintError) (r : Refused) → number_read x q ≡ Err r → (d : VarintError) × (q ≡ Err d) × (r ≡ at_place refusal.Varint x)
unfolding number_read
read_err x (Ok v) r h = grind arith
read_err x (Err d) r h = (d, refl, grind arith)

-- at a place of the walk: the check and the last numbers of the whole are those from here on
pub record Going (s : List ℕ) (at : ℕ) (t : Time) : Type 0 where
  pub within : at ≤ length s
  pub checks : check_at 10 s at ≡ check_of 10 s
  pub secs : number_from (last_of 1 1 (Some (last.Number 1 t.seconds)) (fields_at s at)) ≡ number_in 1 s
  pub nans : number_from (last_of 2 2 (Some (last.Number 2 t.nanos)) (fields_at s at)) ≡ number_in 2 s

one : (t : ℕ) → t / 8 ≡ 1 → takes (kind_of 10 (t / 8)) (t % 8) ≡ true → t ≡ 8
unfolding takes kind_of schema
one t f h = let w = eqb-true (t % 8) 0 (rw f at h) in omega arith

two : (t : ℕ) → t / 8 ≡ 2 → takes (kind_of 10 (t / 8)) (t % 8) ≡ true → t ≡ 16
unfolding takes kind_of schema
two t f h = let w = eqb-true (t % 8) 0 (rw f at h) in omega arith

pub start : (s : List ℕ) → Going s 0 (record { seconds = 0; nanos = 0 })
unfolding number_from
start s = record {
  within = omega arith;
  checks = refl;
  secs = same_number 1 1 (Some (last.Number 1 0)) None (fields_of s) refl;
  nans = same_number 2 2 (Some (last.Number 2 0)) None (fields_of s) refl;
}

module _ {s : List ℕ} {at : ℕ} {time : Time} (g : Going s at time) where
  pub finish : length s ≤ at → Ok time ≡ time_spec_of s
  unfolding time_read last_of number_from
  finish h =
      let c : check_of 10 s ≡ Ok tt = sym g.checks ∙ at_end 10 s at h in
      let a : time.seconds ≡ number_in 1 s = rw (none s at h) at g.secs in
      let b : time.nanos ≡ number_in 2 s = rw (none s at h) at g.nans in
      rw (c, ← a, ← b)

  module _ (i : at < length s) where
    stop : (r : Refused) → step_at 10 s at ≡ Err r → Err r ≡ time_spec_of s
    unfolding time_read
    stop r e = let c : check_of 10 s ≡ Err r = sym g.checks ∙ ends_at 10 s at r i e in rw c

    on : (n : ℕ) (t : Time) (e : Field) → Leads 10 s at n e
        → later 1 1 (Some (last.Number 1 time.seconds)) e ≡ Some (last.Number 1 t.seconds)
        → later 2 2 (Some (last.Number 2 time.nanos)) e ≡ Some (last.Number 2 t.nanos)
        → (at < n) × Going s n t
    on n t e h p q = (
      (further h i).0,
      record {
        within = (further h i).1;
        checks = sym (checks_on h i) ∙ g.checks;
        secs = ap (λ (l : Option Last). number_from l) (sym (keeps_on h i 1 1 (Some (last.Number 1 time.seconds)) ∙ ap (λ (l : Option Last). last_of 1 1 l (fields_at s n)) p)) ∙ g.secs;
        nans = ap (λ (l : Option Last). number_from l) (sym (keeps_on h i 2 2 (Some (last.Number 2 time.nanos)) ∙ ap (λ (l : Option Last). last_of 2 2 l (fields_at s n)) q)) ∙ g.nans;
      },
    )

    -- a place that has no tag
    pub tag_refused : {r : Refused} → number_read at (varint_at s at) ≡ Err r → Err r ≡ time_spec_of s
    tag_refused {r} e = let d = read_err at (varint_at s at) r e in stop r (rw d.2 (no_tag 10 s at (omega arith) d.0 d.1))

-- a turn that is at a tag
pub record TagAt (s : List ℕ) (at : ℕ) (time : Time) (t x : ℕ) : Type 0 where
  pub going : Going s at time
  pub more : at < length s
  pub tagged : varint_at s at ≡ read t x

module _ {s : List ℕ} {at : ℕ} {time : Time} {t x : ℕ} (g : TagAt s at time t x) where
  pub second : t ≡ 8 → {v : Varint} → varint_at s x ≡ Ok v → (at < v.next) × Going s v.next (record { seconds = v.value; nanos = time.nanos })
  unfolding tag_of tag_fits takes kind_of schema later among
  second e {v} h =
      on g.going g.more v.next (record { seconds = v.value; nanos = time.nanos }) (field.Number 1 v.value v.next)
      (number_leads 10 s at t x (omega arith) g.tagged 1 (rw e) refl v.value v.next h) refl refl

  pub nano : t ≡ 16 → {v : Varint} → varint_at s x ≡ Ok v → (at < v.next) × Going s v.next (record { seconds = time.seconds; nanos = v.value })
  unfolding tag_of tag_fits takes kind_of schema later among
  nano e {v} h =
      on g.going g.more v.next (record { seconds = time.seconds; nanos = v.value }) (field.Number 2 v.value v.next)
      (number_leads 10 s at t x (omega arith) g.tagged 2 (rw e) refl v.value v.next h) refl refl

  pub second_refused : t ≡ 8 → {r : Refused} → number_read x (varint_at s x) ≡ Err r → Err r ≡ time_spec_of s
  unfolding tag_of tag_fits takes kind_of schema
  second_refused e {r} h =
      let d = read_err x (varint_at s x) r h in
      stop g.going g.more r (rw d.2 (number_stops 10 s at t x (omega arith) g.tagged 1 (rw e) refl d.0 d.1))

  pub nano_refused : t ≡ 16 → {r : Refused} → number_read x (varint_at s x) ≡ Err r → Err r ≡ time_spec_of s
  unfolding tag_of tag_fits takes kind_of schema
  nano_refused e {r} h =
      let d = read_err x (varint_at s x) r h in
      stop g.going g.more r (rw d.2 (number_stops 10 s at t x (omega arith) g.tagged 2 (rw e) refl d.0 d.1))

  -- a field of another number leads on and changes nothing
  pub rest : (t ≡ 8 → ⊥) → (t ≡ 16 → ⊥) → {n : ℕ} → step_from 10 s at (tag_of (read t x)) ≡ Ok (step.Next n) → (at < n) × Going s n time
  rest a b {n} e =
      let r = rest_leads 10 s at t x (omega arith) g.tagged n e in
      on g.going g.more n time (field_with (t / 8) r.value) r.leads
      (outside 1 1 (t / 8) r.value (Some (last.Number 1 time.seconds)) (other 1 (t / 8) (λ f. a (one t f r.fits))))
      (outside 2 2 (t / 8) r.value (Some (last.Number 2 time.nanos)) (other 2 (t / 8) (λ f. b (two t f r.fits))))

  pub rest_refused : {r : Refused} → step_from 10 s at (tag_of (read t x)) ≡ Err r → Err r ≡ time_spec_of s
  rest_refused {r} e = stop g.going g.more r (rest_stops 10 s at t x (omega arith) g.tagged r e)

-- no field of a TimeSpec is entered
flat : ℕ → ℕ → Bool
flat n k = ltb k 16

shallow : (f : ℕ) → kind_of 10 f < 16
unfolding flat kind_of schema
shallow f = ltb→lt _ _ (kinds 10 flat tt (λ n h. tt) f)

pub never_inside : (s : List ℕ) (at t x : ℕ) {i a b : ℕ} → step_from 10 s at (tag_of (read t x)) ≡ Ok (step.Inside i a b) → ⊥
never_inside s at t x {i} {a} {b} e = omega (arith, none_inside 10 s at t x i a b (λ k. shallow (t / 8)) e)
