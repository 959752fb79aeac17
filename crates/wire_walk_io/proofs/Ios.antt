-- The walk over an I/O buffer: what holds at each field.
use Prim.Native.Nat.{ℕ, ◌+◌, ◌/◌, ◌%◌, ◌≤◌, ◌<◌}
use native.Mathlib.Omega.{arith}
use mathlib.Core.Path.{◌≡◌, refl, sym, subst, ◌∙◌}
use mathlib.Core.List.{List}
use mathlib.Core.Bool.{Bool, true, false}
use lib.ListN.{length}
use lib.Dec.{T, ltb, eqb, lit≤, ltb→lt}
use borrow.Author.Tests.{ne_eqb, eqb-true}
use Rattle.std.specs.Prelude.{Option, None, Result, Ok, Err}
use Rattle.base_laws.specs.Base.{pick, part}
use Rattle.wire_varint.specs.Varint.{read, varint_at}
use Rattle.wire_schema.specs.Schema.{kind_of, takes, schema}
use Rattle.wire_value.specs.Field.{number_read, part_of}
use Rattle.wire_varint.specs.Tag.{tag_fits, tag_of}
use Rattle.wire_check_field.specs.Check.{step_from, step_at, check_at, check_of}
use Rattle.wire_fields.specs.Fields.{field_with, fields_at, among, later, last_of, last_in, start_from, end_from}
use Rattle.wire_walk_io.specs.Places.{time_numbers, time_from, time_read, time_spec_of, io_read, io_buffer_of}
use Rattle.wire_types.specs.Refusals.{within}
use Rattle.wire_types.specs.declared.Refused.{Refused}
use Rattle.wire_types.specs.declared.Span.{Span}
use Rattle.wire_types.specs.declared.Time.{Time}
use Rattle.wire_check_field.specs.declared.Step.TheVariants as step
use Rattle.wire_fields.specs.declared.Field.{Field}
use Rattle.wire_fields.specs.declared.Field.TheVariants as field
use Rattle.wire_fields.specs.declared.Last.{Last}
use Rattle.base_laws.proofs.Parts.{length_part}
use Rattle.wire_check_field.proofs.Checks.{at_end, Placed, placed}
use Rattle.wire_fields.proofs.Follow.{none}
use Rattle.wire_schema.proofs.Rows.{kinds}
use Rattle.wire_check_field.proofs.Walk.{On, leads_on, ends_at, outside, other, rest_leads, part_field, part_leads, part_inside, part_stops, inside_on, inside_stops, none_inside, no_tag, rest_stops, in_bounds}
use Rattle.wire_walk_io.proofs.Times.{read_err}

-- what a TimeSpec's walk says of its check and its numbers
time_fine : (c : Result Unit Refused) (t u : Time) → time_read c t ≡ Ok u → (c ≡ Ok tt) × (t ≡ u)
unfolding time_read
time_fine (Ok tt) t u e = grind arith
time_fine (Err r) t u e = grind arith

time_bad : (c : Result Unit Refused) (t : Time) (r : Refused) → time_read c t ≡ Err r → c ≡ Err r
unfolding time_read
time_bad (Ok tt) t r e = grind arith
time_bad (Err d) t r e = grind arith

pub record Walked (s : List ℕ) (at : ℕ) (delay : Time) (contents : Span) : Type 0 where
  pub within : at ≤ length s
  pub checks : check_at 6 s at ≡ check_of 6 s
  pub last_delay : Option Last
  pub delay_is : time_from s last_delay ≡ delay
  pub delays : last_of 1 1 last_delay (fields_at s at) ≡ last_in 1 1 s
  pub bytes : Option Last
  pub from_is : start_from bytes ≡ contents.start
  pub to_is : end_from bytes ≡ contents.end
  pub ranges : last_of 2 2 bytes (fields_at s at) ≡ last_in 2 2 s

pub start : (s : List ℕ) → Walked s 0 (record { seconds = 0; nanos = 0 }) (record { start = 0; end = 0 })
unfolding time_from start_from end_from
start s = record {
  within = omega arith;
  checks = refl;
  last_delay = None;
  delay_is = refl;
  delays = refl;
  bytes = None;
  from_is = refl;
  to_is = refl;
  ranges = refl;
}

two_of : (b : Bool) → pick b true false ≡ true → b ≡ true
two_of true e = refl
two_of false e = e

one : (t : ℕ) → t / 8 ≡ 1 → takes (kind_of 6 (t / 8)) (t % 8) ≡ true → t ≡ 10
unfolding takes kind_of schema
one t f h = let w = eqb-true (t % 8) 2 (two_of (eqb (t % 8) 2) (rw f at h)) in omega arith

two : (t : ℕ) → t / 8 ≡ 2 → takes (kind_of 6 (t / 8)) (t % 8) ≡ true → t ≡ 18
unfolding takes kind_of schema
two t f h = let w = eqb-true (t % 8) 2 (two_of (eqb (t % 8) 2) (rw f at h)) in omega arith

-- only the delay is a message
flat : ℕ → ℕ → Bool
flat n k = pick (eqb n 1) true (ltb k 16)

flat_out : (n : ℕ) → 14 ≤ n → T (flat n 0)
unfolding flat
flat_out n h = rw (ne_eqb n 1 (omega arith)) tt

shallow : (f : ℕ) → (f ≡ 1 → ⊥) → kind_of 6 f < 16
unfolding flat kind_of schema
shallow f never = ltb→lt _ _ (rw (ne_eqb f 1 never) at (kinds 6 flat tt flat_out f))

module _ {s : List ℕ} {at : ℕ} {delay : Time} {contents : Span} (g : Walked s at delay contents) where
  pub finish : length s ≤ at → Ok (record { delay = delay; contents = contents }) ≡ io_buffer_of s
  unfolding io_read last_of
  finish h =
      let c : check_of 6 s ≡ Ok tt = sym g.checks ∙ at_end 6 s at h in
      let a : g.last_delay ≡ last_in 1 1 s = rw (none s at h) at g.delays in
      let b : g.bytes ≡ last_in 2 2 s = rw (none s at h) at g.ranges in
      rw (c, ← a, ← b, g.delay_is, g.from_is, g.to_is)

  stopped : (r : Refused) → check_at 6 s at ≡ Err r → Err r ≡ io_buffer_of s
  unfolding io_read
  stopped r e = let c : check_of 6 s ≡ Err r = sym g.checks ∙ e in rw c

  module _ (i : at < length s) where
    stop : (r : Refused) → step_at 6 s at ≡ Err r → Err r ≡ io_buffer_of s
    stop r e = stopped r (ends_at 6 s at r i e)

    on : (n : ℕ) (d : Time) (p : Span) (e : Field) → On 6 s at n e → time_from s (later 1 1 g.last_delay e) ≡ d
        → start_from (later 2 2 g.bytes e) ≡ p.start → end_from (later 2 2 g.bytes e) ≡ p.end
        → (at < n) × Walked s n d p
    on n d p e h q a b = (
      h.past,
      record {
        within = h.within;
        checks = sym h.checks ∙ g.checks;
        last_delay = later 1 1 g.last_delay e;
        delay_is = q;
        delays = sym (h.keeps 1 1 g.last_delay) ∙ g.delays;
        bytes = later 2 2 g.bytes e;
        from_is = a;
        to_is = b;
        ranges = sym (h.keeps 2 2 g.bytes) ∙ g.ranges;
      },
    )

    -- a place that has no tag
    pub tag_refused : {r : Refused} → number_read at (varint_at s at) ≡ Err r → Err r ≡ io_buffer_of s
    tag_refused {r} e = let d = read_err at (varint_at s at) r e in stop r (rw d.2 (no_tag 6 s at (omega arith) d.0 d.1))

-- ---- a turn, by what it is at: a tag, the delay

pub record TagAt (s : List ℕ) (at : ℕ) (delay : Time) (contents : Span) (t x : ℕ) : Type 0 where
  pub walked : Walked s at delay contents
  pub more : at < length s
  pub tagged : varint_at s at ≡ read t x

pub record DelayAt (p : Span) (s : List ℕ) (at : ℕ) (delay : Time) (contents : Span) (t x : ℕ) : Type 0 where
  pub tag : TagAt s at delay contents t x
  pub ten : t ≡ 10
  pub holds : part_of s x (varint_at s x) ≡ Ok p

module _ {p : Span} {s : List ℕ} {at : ℕ} {delay : Time} {contents : Span} {t x : ℕ} (d : DelayAt p s at delay contents t x) where
  inside : step_at 6 s at ≡ Ok (step.Inside 10 p.start p.end)
  unfolding tag_of tag_fits takes kind_of schema
  inside = part_inside 6 s at t x (omega arith) d.tag.tagged 1 (rw d.ten) refl (lit≤ tt) p d.holds

  pub delay_in_bounds : (p.start ≤ p.end) × (p.end ≤ length s)
  delay_in_bounds = let z = in_bounds 6 s at 10 p.start p.end d.tag.more inside in (z.1, z.2)

  pub delayed : {u : Time} → time_spec_of (part s p.start p.end) ≡ Ok u → (at < p.end) × Walked s p.end u contents
  unfolding tag_of tag_fits takes kind_of schema later among time_from
  delayed {u} e =
      let g = d.tag in
      let h = time_fine (check_of 10 (part s p.start p.end)) (time_numbers (part s p.start p.end)) u e in
      let is = part_field 6 s at t x (omega arith) g.tagged 1 (rw d.ten) refl p d.holds in
      on g.walked g.more p.end u contents (field.Part 1 p.start p.end) (inside_on 6 s at 10 p.start p.end g.more inside 1 is h.0)
      h.1 g.walked.from_is g.walked.to_is

  module _ {r : Refused} (e : time_spec_of (part s p.start p.end) ≡ Err r) where
    bad : check_of 10 (part s p.start p.end) ≡ Err r
    bad = time_bad (check_of 10 (part s p.start p.end)) (time_numbers (part s p.start p.end)) r e

    pub delay_refused : Err (within p.start r) ≡ io_buffer_of s
    delay_refused = stopped d.tag.walked (within p.start r) (inside_stops 6 s at 10 p.start p.end d.tag.more inside r bad)

    -- a place in the delay is one in the buffer
    pub delay_place : p.start + r.place ≤ length s
    delay_place =
        let l = delay_in_bounds in
        omega (arith, length_part s p.start p.end l.0 l.1, subst (Placed (part s p.start p.end)) bad (placed 10 (part s p.start p.end) 0))

module _ {s : List ℕ} {at : ℕ} {delay : Time} {contents : Span} {t x : ℕ} (g : TagAt s at delay contents t x) where
  pub delay_past : t ≡ 10 → {r : Refused} → part_of s x (varint_at s x) ≡ Err r → Err r ≡ io_buffer_of s
  unfolding tag_of tag_fits takes kind_of schema
  delay_past ten {r} e = stop g.walked g.more r (part_stops 6 s at t x (omega arith) g.tagged 1 (rw ten) refl r e)

  -- the data
  pub ranged : t ≡ 18 → {p : Span} → part_of s x (varint_at s x) ≡ Ok p → (at < p.end) × Walked s p.end delay p
  unfolding tag_of tag_fits takes kind_of schema later among start_from end_from
  ranged e {p} h =
      on g.walked g.more p.end delay p (field.Part 2 p.start p.end)
      (leads_on (part_leads 6 s at t x (omega arith) g.tagged 2 (rw e) refl (lit≤ tt) p h) g.more) g.walked.delay_is refl refl

  pub range_past : t ≡ 18 → {r : Refused} → part_of s x (varint_at s x) ≡ Err r → Err r ≡ io_buffer_of s
  unfolding tag_of tag_fits takes kind_of schema
  range_past e {r} h = stop g.walked g.more r (part_stops 6 s at t x (omega arith) g.tagged 2 (rw e) refl r h)

  pub rest : (t ≡ 10 → ⊥) → (t ≡ 18 → ⊥) → {n : ℕ} → step_from 6 s at (tag_of (read t x)) ≡ Ok (step.Next n)
      → (at < n) × Walked s n delay contents
  rest a b {n} e =
      let w = g.walked in
      let r = rest_leads 6 s at t x (omega arith) g.tagged n e in
      let u = outside 1 1 (t / 8) r.value w.last_delay (other 1 (t / 8) (λ f. a (one t f r.fits))) in
      let v = outside 2 2 (t / 8) r.value w.bytes (other 2 (t / 8) (λ f. b (two t f r.fits))) in
      on w g.more n delay contents (field_with (t / 8) r.value) (leads_on r.leads g.more)
      (rw u w.delay_is) (rw v w.from_is) (rw v w.to_is)

  pub rest_refused : {r : Refused} → step_from 6 s at (tag_of (read t x)) ≡ Err r → Err r ≡ io_buffer_of s
  rest_refused {r} e = stop g.walked g.more r (rest_stops 6 s at t x (omega arith) g.tagged r e)

  pub never_inside : (t ≡ 10 → ⊥) → {j a b : ℕ} → step_from 6 s at (tag_of (read t x)) ≡ Ok (step.Inside j a b) → ⊥
  never_inside never {j} {a} {b} e = omega (arith, none_inside 6 s at t x j a b (λ k. shallow (t / 8) (λ f. never (one t f k))) e)
