-- The fast paths: each says what the walk over the same fields says.
use Prim.Native.Nat.{ℕ, ◌+◌, ◌/◌, ◌%◌, ◌≤◌, ◌<◌}
use native.Mathlib.Omega.{arith}
use mathlib.Core.Path.{◌≡◌, refl, sym, subst, ◌∙◌}
use mathlib.Core.List.{List}
use mathlib.Core.Logic.{⊎_elim}
use mathlib.Core.Bool.{Bool, true}
use lib.ListN.{length, get_or}
use lib.Dec.{T, ltb, leb, eqb, eqb→eq}
use borrow.Author.Tests.{le-leb, lt-leb, ltb-true, leb-true, eqb-true}
use Rattle.base_laws.specs.Base.{pick, both, part}
use Rattle.std.specs.Prelude.{Option, Some, None, Ok}
use Rattle.wire_varint.specs.Varint.{read, varint_at}
use Rattle.wire_schema.specs.Schema.{kind_of, takes, schema}
use Rattle.wire_value.specs.Field.{part_of, as_part, payload_at}
use Rattle.wire_varint.specs.Tag.{tag_fits, tag_of, tag_at}
use Rattle.wire_varint.specs.declared.Varint.{Varint}
use Rattle.wire_value.specs.declared.Payload.TheVariants as payload
use Rattle.wire_types.specs.declared.Span.{Span}
use Rattle.wire_types.specs.declared.Time.{Time}
use Rattle.wire_types.specs.declared.Timed.{Timed}
use Rattle.wire_types.specs.declared.ClientMember.TheVariants as client
use Rattle.base_laws.proofs.Order.{both_true}
use Rattle.wire_varint.proofs.Varints.{one_byte}
use Rattle.wire_schema.proofs.Rows.{kinds}
use Rattle.wire_check_field.proofs.Walk.{field_tag, tag_is}
use Rattle.wire_walk_io.specs.Places.{io_buffer_of}
use Rattle.wire_walk_client.specs.Client.{io_within}
use Rattle.wire_fast_client.specs.Plain.{byte_is, is_io, HasTag, Ends, TimeSaid, DataAt, Tailed, IoSaid, IoTag, ClientSaid}
use Rattle.wire_walk_io.proofs.Times as times
use Rattle.wire_walk_io.proofs.Ios as ios
use Rattle.wire_walk_client.proofs.Clients as clients

-- a byte below 128 is a tag of one byte
pub tag_there : (s : List ℕ) (at t : ℕ) → byte_is s at t ≡ true → t < 128 → HasTag s at t
unfolding byte_is
tag_there s at t e l =
    let h = both_true (ltb at (length s)) (eqb (get_or s at 0) t) e in
    let i : at < length s = ltb-true at (length s) h.0 in
    record { within = i; tagged = one_byte s at t i (eqb-true (get_or s at 0) t h.1) l }

pub io_tag : (t : ℕ) → is_io t ≡ true → IoTag t
unfolding is_io
io_tag t e =
    let h = both_true (leb 50 t) (both (leb t 82) (eqb (t % 8) 2)) e in
    let k = both_true (leb t 82) (eqb (t % 8) 2) h.1 in
    record { least = leb-true 50 t h.0; most = leb-true t 82 k.0; bytes = eqb-true (t % 8) 2 k.1 }

-- ---- the delay

at_seconds : (s : List ℕ) → HasTag s 0 8 → times.TagAt s 0 (record { seconds = 0; nanos = 0 }) 8 1
at_seconds s k = record { going = times.start s; more = k.within; tagged = k.tagged }

pub empty_time : (s : List ℕ) → length s ≡ 0 → TimeSaid s (Some (record { seconds = 0; nanos = 0 }))
unfolding TimeSaid
empty_time s h = times.finish (times.start s) (omega arith)

pub only_nanos : (s : List ℕ) (r : Option ℕ) → Ends s 0 r → (v : ℕ) → r ≡ Some v → TimeSaid s (Some (record { seconds = 0; nanos = v }))
unfolding Ends TimeSaid
only_nanos s r h v e =
    let k = subst (Ends s 0) e h in
    let t : times.TagAt s 0 (record { seconds = 0; nanos = 0 }) 16 1 = record { going = times.start s; more = k.0.within; tagged = k.0.tagged } in
    times.finish (times.nano t refl k.1).1 (omega arith)

pub only_seconds : (s : List ℕ) → HasTag s 0 8 → (v : Varint) → varint_at s 1 ≡ Ok v → v.next ≡ length s
    → TimeSaid s (Some (record { seconds = v.value; nanos = 0 }))
unfolding TimeSaid
only_seconds s k v e h = times.finish (times.second (at_seconds s k) refl e).1 (omega arith)

pub seconds_nanos : (s : List ℕ) → HasTag s 0 8 → (v : Varint) → varint_at s 1 ≡ Ok v → (r : Option ℕ) → Ends s v.next r → (w : ℕ) → r ≡ Some w
    → TimeSaid s (Some (record { seconds = v.value; nanos = w }))
unfolding Ends TimeSaid
seconds_nanos s k v e r h w q =
    let l = subst (Ends s v.next) q h in
    let g = (times.second (at_seconds s k) refl e).1 in
    let t : times.TagAt s v.next (record { seconds = v.value; nanos = 0 }) 16 (v.next + 1) = record { going = g; more = l.0.within; tagged = l.0.tagged } in
    times.finish (times.nano t refl l.1).1 (omega arith)

-- ---- the buffer

module _ (s : List ℕ) (b : ℕ) (d : Time) (g : ios.Walked s b d (record { start = 0; end = 0 })) where
  with_data : (p : Span) → DataAt s b p → Ok (record { delay = d; contents = p }) ≡ io_buffer_of s
  with_data p h =
      let t : ios.TagAt s b d (record { start = 0; end = 0 }) 18 (b + 1) = record { walked = g; more = h.0.within; tagged = h.0.tagged } in
      ios.finish (ios.ranged t refl h.1).1 (omega arith)

  data_behind : (p : Span) → Tailed s b (Some p) → IoSaid s (Some (record { delay = d; contents = p }))
  unfolding Tailed IoSaid
  data_behind p h = ⊎_elim (λ q. with_data p q) (λ q. rw q.1 (ios.finish g q.0)) h

module _ (s : List ℕ) (k : HasTag s 0 10) (p : Span) (e : part_of s 1 (varint_at s 1) ≡ Ok p) where
  at_delay : ios.DelayAt p s 0 (record { seconds = 0; nanos = 0 }) (record { start = 0; end = 0 }) 10 1
  at_delay = record { tag = record { walked = ios.start s; more = k.within; tagged = k.tagged }; ten = refl; holds = e }

  pub delay_in_bounds : (p.start ≤ p.end) × (p.end ≤ length s)
  delay_in_bounds = ios.delay_in_bounds at_delay

  pub delay_data : (t : Option Time) → TimeSaid (part s p.start p.end) t → (d : Time) → t ≡ Some d
      → (r : Option Span) → Tailed s p.end r → (c : Span) → r ≡ Some c → IoSaid s (Some (record { delay = d; contents = c }))
  unfolding TimeSaid
  delay_data t h d q r i c w =
      let walked = (ios.delayed at_delay (sym (subst (TimeSaid (part s p.start p.end)) q h))).1 in
      data_behind s p.end d walked c (subst (Tailed s p.end) w i)

-- ---- the message

-- the members 6 to 10 are I/O buffers
io_rule : ℕ → ℕ → Bool
io_rule n k = pick (both (leb 6 n) (leb n 10)) (eqb k 22) true

io_rule_out : (n : ℕ) → 14 ≤ n → T (io_rule n 0)
unfolding io_rule
io_rule_out n h = let a : 6 ≤ n = omega arith in let b : 10 < n = omega arith in rw (le-leb _ _ a, lt-leb _ _ b) tt

pub io_kind : (t : ℕ) → IoTag t → kind_of 0 (t / 8) ≡ 22
unfolding io_rule kind_of schema
io_kind t h =
    let a : 6 ≤ t / 8 = omega (arith, h.least) in
    let b : t / 8 ≤ 10 = omega (arith, h.most) in
    eqb→eq _ _ (rw (le-leb _ _ a, le-leb _ _ b) at (kinds 0 io_rule tt io_rule_out (t / 8)))

io_tagged : (t n : ℕ) → IoTag t → tag_of (read t n) ≡ field_tag (t / 8) 2 n
unfolding tag_of tag_fits
io_tagged t n h =
    let a : t ≤ 4294967295 = omega (arith, h.most) in
    let b : 1 ≤ t / 8 = omega (arith, h.least) in
    let c : t % 8 ≤ 2 = omega (arith, h.bytes) in
    rw (le-leb _ _ a, le-leb _ _ b, le-leb _ _ c, h.bytes)

module _ (s : List ℕ) (t : ℕ) (h : IoTag t) (k : HasTag s 0 t) (p : Span) (e : part_of s 1 (varint_at s 1) ≡ Ok p) where
  tagged : tag_at s 0 ≡ field_tag (t / 8) 2 1
  tagged = tag_is s 0 (read t 1) k.tagged ∙ io_tagged t 1 h

  fits : takes (kind_of 0 (t / 8)) 2 ≡ true
  unfolding takes
  fits = rw (io_kind t h)

  holds : payload_at s 0 1 2 ≡ Ok (payload.Part p)
  unfolding payload_at as_part
  holds = rw e

  at_io : clients.IoAt p s 0 None (t / 8) 2 1
  at_io = record {
    bytes = record { field = record { told = clients.start s; more = k.within; tagged = tagged; fits = fits }; holds = holds };
    io = io_kind t h;
  }

  pub member_in_bounds : (p.start ≤ p.end) × (p.end ≤ length s)
  member_in_bounds = clients.member_in_bounds (clients.io_member at_io)

  pub member_io : p.end ≡ length s → (r : Option Timed) → IoSaid (part s p.start p.end) r → (i : Timed) → r ≡ Some i
      → ClientSaid s (Some (client.Io (t / 8) (io_within p.start i)))
  unfolding IoSaid ClientSaid
  member_io l r j i q = clients.finish (clients.io_in at_io (sym (subst (IoSaid (part s p.start p.end)) q j))).1 (omega arith)

  -- the data's places are the message's
  pub member_within : (r : Option Timed) → IoSaid (part s p.start p.end) r → (i : Timed) → r ≡ Some i
      → (p.start + i.contents.start ≤ length s) × (p.start + i.contents.end ≤ length s)
  unfolding IoSaid
  member_within r j i q = clients.io_in_bounds at_io (sym (subst (IoSaid (part s p.start p.end)) q j))
