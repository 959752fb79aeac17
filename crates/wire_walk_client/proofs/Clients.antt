-- The walk over a client message: what holds at each field.
use Prim.Native.Nat.{ℕ, ◌+◌, ◌-◌, ◌≤◌, ◌<◌}
use native.Mathlib.Omega.{arith}
use mathlib.Core.Path.{◌≡◌, refl, sym, subst, ◌∙◌}
use mathlib.Core.List.{List}
use mathlib.Core.Bool.{Bool, true, false}
use lib.ListN.{length}
use lib.Dec.{T, leb, eqb, leb→le, eqb→eq}
use borrow.Author.Tests.{lt-leb, le-leb, ne_eqb, eq-eqb, eqb-true}
use Rattle.std.specs.Prelude.{Option, Some, None, Result, Ok, Err}
use Rattle.base_laws.specs.Base.{pick, both}
use Rattle.wire_varint.specs.Varint.{varint_at}
use Rattle.wire_schema.specs.Schema.{kind_of, takes, schema}
use Rattle.wire_value.specs.Field.{payload_at, part_of, as_part}
use Rattle.wire_varint.specs.Tag.{tag_at}
use Rattle.wire_check_field.specs.Check.{step_of, step_at}
use Rattle.base_laws.specs.Base.{part}
use Rattle.wire_check_field.specs.Check.{check_at, check_of}
use Rattle.wire_fields.specs.Fields.{field_with, fields_at, among, later, last_of, last_in}
use Rattle.wire_walk_io.specs.Places.{time_in, io_read, io_buffer_of}
use Rattle.wire_walk_client.specs.Client.{io_within, member_read, client_from, client_read, client_of}
use Rattle.wire_fields.specs.Fields.{start_from, end_from}
use Rattle.wire_types.specs.Refusals.{within}
use Rattle.wire_types.specs.declared.Refused.{Refused}
use Rattle.wire_types.specs.declared.Span.{Span}
use Rattle.wire_types.specs.declared.Time.{Time}
use Rattle.wire_types.specs.declared.Timed.{Timed}
use Rattle.wire_types.specs.declared.ClientMember.{ClientMember}
use Rattle.wire_types.specs.declared.ClientMember.TheVariants as client
use Rattle.wire_varint.specs.declared.Varint.{Varint}
use Rattle.wire_value.specs.declared.Payload.{Payload}
use Rattle.wire_value.specs.declared.Payload.TheVariants as payload
use Rattle.wire_check_field.specs.declared.Step.TheVariants as step
use Rattle.wire_fields.specs.declared.Field.{Field}
use Rattle.wire_fields.specs.declared.Field.TheVariants as field
use Rattle.wire_fields.specs.declared.Last.{Last}
use Rattle.base_laws.proofs.Parts.{length_part}
use Rattle.wire_check_field.proofs.Checks.{at_end, Placed, placed}
use Rattle.wire_fields.proofs.Follow.{none, span_in_bounds}
use Rattle.wire_schema.proofs.Rows.{kinds}
use Rattle.wire_check_field.proofs.Walk.{On, field_tag, leads_on, ends_at, outside, inside_on, inside_stops, in_bounds, field_leads, field_inside, field_part, field_stops}

-- what an I/O buffer's walk says of its check and where its data is
io_fine : (c : Result Unit Refused) (t : Time) (l : Option Last) (i : Timed) → io_read c t l ≡ Ok i
    → (c ≡ Ok tt) × (start_from l ≡ i.contents.start) × (end_from l ≡ i.contents.end)
unfolding io_read
io_fine (Ok tt) t l i e = grind arith
io_fine (Err r) t l i e = grind arith

io_bad : (c : Result Unit Refused) (t : Time) (l : Option Last) (r : Refused) → io_read c t l ≡ Err r → c ≡ Err r
unfolding io_read
io_bad (Ok tt) t l r e = grind arith
io_bad (Err d) t l r e = grind arith

data_in_bounds : (s : List ℕ) (i : Timed) → io_buffer_of s ≡ Ok i → (i.contents.start ≤ i.contents.end) × (i.contents.end ≤ length s)
data_in_bounds s i e =
    let h = io_fine (check_of 6 s) (time_in 1 s) (last_in 2 2 s) i e in
    let l = span_in_bounds s 2 in
    (omega (arith, h.1, h.2, l.0), omega (arith, h.2, l.1))

-- the members of a client message are the fields 1 to 13, each a message
rule : ℕ → ℕ → Bool
rule n k = pick (among 1 13 n) (both (leb 17 k) (leb k 25)) (eqb k 0)

rule_out : (n : ℕ) → 14 ≤ n → T (rule n 0)
unfolding rule among
rule_out n h = let a : 1 ≤ n = omega arith in let b : 13 < n = omega arith in rw (le-leb _ _ a, lt-leb _ _ b) tt

ruled : (f : ℕ) → T (pick (among 1 13 f) (both (leb 17 (kind_of 0 f)) (leb (kind_of 0 f) 25)) (eqb (kind_of 0 f) 0))
unfolding rule among kind_of schema
ruled f = kinds 0 rule tt rule_out f

both_both : (a b : Bool) → T (both a b) → T a × T b
both_both true b t = (tt, t)
both_both false b t = absurd t

pub member : (f : ℕ) → among 1 13 f ≡ true → (17 ≤ kind_of 0 f) × (kind_of 0 f ≤ 25)
member f e = let h = both_both (leb 17 (kind_of 0 f)) (leb (kind_of 0 f) 25) (rw e at (ruled f)) in (leb→le _ _ h.0, leb→le _ _ h.1)

pub stranger : (f : ℕ) → among 1 13 f ≡ false → kind_of 0 f ≡ 0
stranger f e = eqb→eq _ _ (rw e at (ruled f))

pub entered : (f : ℕ) → 16 ≤ kind_of 0 f → among 1 13 f ≡ true
entered f h = go (among 1 13 f) refl
  where
    go : (b : Bool) → among 1 13 f ≡ b → among 1 13 f ≡ true
    go true e = e
    go false e = absurd (omega (arith, stranger f e))

pub passed : (f : ℕ) → kind_of 0 f < 16 → among 1 13 f ≡ false
passed f h = go (among 1 13 f) refl
  where
    go : (b : Bool) → among 1 13 f ≡ b → among 1 13 f ≡ false
    go true e = absurd (omega (arith, (member f e).0))
    go false e = e

two_of : (b : Bool) → pick b true false ≡ true → b ≡ true
two_of true e = refl
two_of false e = e

-- a message's field takes bytes alone
bytes_only : (k w : ℕ) → 17 ≤ k → k ≤ 25 → takes k w ≡ true → w ≡ 2
unfolding takes
bytes_only k w h l e =
    let g : 3 < k = omega arith in eqb-true w 2 (two_of (eqb w 2) (rw (ne_eqb k 0 (omega arith), lt-leb _ _ g, ne_eqb k 32 (omega arith)) at e))

no_number : (r : Result Span Refused) (v : Varint) → as_part r ≡ Ok (payload.Number v) → ⊥
unfolding as_part
no_number (Ok p) v e = grind arith
no_number (Err d) v e = grind arith

-- a number stands in no member
number_out : (s : List ℕ) (at f w x : ℕ) (v : Varint) → takes (kind_of 0 f) w ≡ true → payload_at s at x w ≡ Ok (payload.Number v) → among 1 13 f ≡ false
unfolding payload_at
number_out s at f w x v fits e = go (among 1 13 f) refl
  where
    go : (b : Bool) → among 1 13 f ≡ b → among 1 13 f ≡ false
    go false h = h
    go true h =
        let k = member f h in
        let two : w ≡ 2 = bytes_only (kind_of 0 f) w k.0 k.1 fits in
        absurd (no_number (part_of s x (varint_at s x)) v (rw two at e))

pub record Told (s : List ℕ) (at : ℕ) (found : Option ClientMember) : Type 0 where
  pub within : at ≤ length s
  pub checks : check_at 0 s at ≡ check_of 0 s
  pub kept : Option Last
  pub kept_is : client_from s kept ≡ found
  pub members : last_of 1 13 kept (fields_at s at) ≡ last_in 1 13 s

pub start : (s : List ℕ) → Told s 0 None
unfolding client_from
start s = record { within = omega arith; checks = refl; kept = None; kept_is = refl; members = refl }

module _ {s : List ℕ} {at : ℕ} {found : Option ClientMember} (g : Told s at found) where
  pub finish : length s ≤ at → Ok found ≡ client_of s
  unfolding client_read last_of
  finish h =
      let c : check_of 0 s ≡ Ok tt = sym g.checks ∙ at_end 0 s at h in
      let a : g.kept ≡ last_in 1 13 s = rw (none s at h) at g.members in
      rw (c, ← a, g.kept_is)

  stopped : (r : Refused) → check_at 0 s at ≡ Err r → Err r ≡ client_of s
  unfolding client_read
  stopped r e = let c : check_of 0 s ≡ Err r = sym g.checks ∙ e in rw c

  module _ (i : at < length s) where
    pub stop : (r : Refused) → step_at 0 s at ≡ Err r → Err r ≡ client_of s
    stop r e = stopped r (ends_at 0 s at r i e)

    on : (n : ℕ) (e : Field) (f : Option ClientMember) → On 0 s at n e → client_from s (later 1 13 g.kept e) ≡ f → (at < n) × Told s n f
    on n e f h p = (
      h.past,
      record {
        within = h.within;
        checks = sym h.checks ∙ g.checks;
        kept = later 1 13 g.kept e;
        kept_is = p;
        members = sym (h.keeps 1 13 g.kept) ∙ g.members;
      },
    )

-- ---- a turn, by what it is at: a field that its kind takes, one with bytes, a member, an I/O buffer

pub record FieldAt (s : List ℕ) (at : ℕ) (found : Option ClientMember) (f w x : ℕ) : Type 0 where
  pub told : Told s at found
  pub more : at < length s
  pub tagged : tag_at s at ≡ field_tag f w x
  pub fits : takes (kind_of 0 f) w ≡ true

pub record PartAt (p : Span) (s : List ℕ) (at : ℕ) (found : Option ClientMember) (f w x : ℕ) : Type 0 where
  pub field : FieldAt s at found f w x
  pub holds : payload_at s at x w ≡ Ok (payload.Part p)

pub record MemberAt (p : Span) (s : List ℕ) (at : ℕ) (found : Option ClientMember) (f w x : ℕ) : Type 0 where
  pub bytes : PartAt p s at found f w x
  pub inner : 16 ≤ kind_of 0 f

pub record IoAt (p : Span) (s : List ℕ) (at : ℕ) (found : Option ClientMember) (f w x : ℕ) : Type 0 where
  pub bytes : PartAt p s at found f w x
  pub io : kind_of 0 f ≡ 22

module _ {s : List ℕ} {at : ℕ} {found : Option ClientMember} {f w x : ℕ} (t : FieldAt s at found f w x) where
  -- a field that is no member
  passes : (n : ℕ) (p : Payload) → payload_at s at x w ≡ Ok p → step_of (kind_of 0 f) p ≡ step.Next n
      → later 1 13 t.told.kept (field_with f p) ≡ t.told.kept → (at < n) × Told s n found
  passes n p e h l =
      on t.told t.more n (field_with f p) found
      (leads_on (field_leads 0 s at f w x (omega arith) t.tagged t.fits n p e h) t.more) (rw l t.told.kept_is)

  pub number_passes : {v : Varint} → payload_at s at x w ≡ Ok (payload.Number v) → (at < v.next) × Told s v.next found
  unfolding step_of
  number_passes {v} e =
      passes v.next (payload.Number v) e refl (outside 1 13 f (payload.Number v) t.told.kept (number_out s at f w x v t.fits e))

  pub fixed_passes : {n : ℕ} → payload_at s at x w ≡ Ok (payload.Fixed n) → (at < n) × Told s n found
  unfolding step_of field_with later
  fixed_passes {n} e = passes n (payload.Fixed n) e refl refl

  pub field_refused : {r : Refused} → payload_at s at x w ≡ Err r → Err r ≡ client_of s
  field_refused {r} e = stop t.told t.more r (field_stops 0 s at f w x (omega arith) t.tagged t.fits r e)

module _ {p : Span} {s : List ℕ} {at : ℕ} {found : Option ClientMember} {f w x : ℕ} where
  pub part_passes : PartAt p s at found f w x → kind_of 0 f < 16 → (at < p.end) × Told s p.end found
  unfolding step_of
  part_passes t h =
      passes t.field p.end (payload.Part p) t.holds (rw (lt-leb _ _ h))
      (outside 1 13 f (payload.Part p) t.field.told.kept (passed f h))

  module _ (t : MemberAt p s at found f w x) where
    inside : step_at 0 s at ≡ Ok (step.Inside (kind_of 0 f - 16) p.start p.end)
    inside = let u = t.bytes.field in field_inside 0 s at f w x (omega arith) u.tagged u.fits p t.bytes.holds t.inner

    pub member_in_bounds : (p.start ≤ p.end) × (p.end ≤ length s)
    member_in_bounds = let z = in_bounds 0 s at (kind_of 0 f - 16) p.start p.end t.bytes.field.more inside in (z.1, z.2)

    -- a place in the member is one in the message
    places : (n : ℕ) → n ≤ length (part s p.start p.end) → p.start + n ≤ length s
    places n l = omega (arith, member_in_bounds.0, member_in_bounds.1, length_part s p.start p.end member_in_bounds.0 member_in_bounds.1)

    enters : (c : ClientMember) → check_of (kind_of 0 f - 16) (part s p.start p.end) ≡ Ok tt
        → member_read f p.start p.end (eqb (kind_of 0 f) 22) (io_buffer_of (part s p.start p.end)) ≡ c → (at < p.end) × Told s p.end (Some c)
    unfolding later client_from
    enters c k q =
        let u = t.bytes.field in
        let is = field_part 0 s at f w x (omega arith) u.tagged u.fits p t.bytes.holds in
        on u.told u.more p.end (field.Part f p.start p.end) (Some c)
        (inside_on 0 s at (kind_of 0 f - 16) p.start p.end u.more inside f is k) (rw (entered f t.inner, q))

    pub member_in_lem : (kind_of 0 f ≡ 22 → ⊥) → check_of (kind_of 0 f - 16) (part s p.start p.end) ≡ Ok tt
        → (at < p.end) × Told s p.end (Some (client.Other f p))
    unfolding member_read
    member_in_lem n k = enters (client.Other f p) k (rw (ne_eqb (kind_of 0 f) 22 n))

    module _ {r : Refused} (k : check_of (kind_of 0 f - 16) (part s p.start p.end) ≡ Err r) where
      pub member_refused : Err (within p.start r) ≡ client_of s
      member_refused =
          let u = t.bytes.field in
          stopped u.told (within p.start r) (inside_stops 0 s at (kind_of 0 f - 16) p.start p.end u.more inside r k)

      pub member_place : p.start + r.place ≤ length s
      member_place = places r.place (subst (Placed (part s p.start p.end)) k (placed (kind_of 0 f - 16) (part s p.start p.end) 0))

  module _ (t : IoAt p s at found f w x) where
    pub io_member : MemberAt p s at found f w x
    io_member = record { bytes = t.bytes; inner = omega (arith, t.io) }

    pub io_in : {i : Timed} → io_buffer_of (part s p.start p.end) ≡ Ok i → (at < p.end) × Told s p.end (Some (client.Io f (io_within p.start i)))
    unfolding member_read
    io_in {i} k =
        let d = part s p.start p.end in
        let h = io_fine (check_of 6 d) (time_in 1 d) (last_in 2 2 d) i k in
        enters io_member (client.Io f (io_within p.start i)) (rw t.io h.0) (rw (eq-eqb (kind_of 0 f) 22 t.io, k))

    pub io_in_bounds : {i : Timed} → io_buffer_of (part s p.start p.end) ≡ Ok i
        → (p.start + i.contents.start ≤ length s) × (p.start + i.contents.end ≤ length s)
    io_in_bounds {i} k =
        let l = data_in_bounds (part s p.start p.end) i k in
        (places io_member i.contents.start (omega arith), places io_member i.contents.end l.1)

    module _ {r : Refused} (k : io_buffer_of (part s p.start p.end) ≡ Err r) where
      bad : check_of (kind_of 0 f - 16) (part s p.start p.end) ≡ Err r
      bad =
          let d = part s p.start p.end in
          rw t.io (io_bad (check_of 6 d) (time_in 1 d) (last_in 2 2 d) r k)

      pub io_refused : Err (within p.start r) ≡ client_of s
      io_refused = member_refused io_member bad

      pub io_place : p.start + r.place ≤ length s
      io_place = member_place io_member bad
