-- What is stored for values that are in range: one record, in range itself, that may follow others in a file; and an exit's, that may
-- end one.
use Prim.Native.Nat.{ℕ, suc, ◌+◌, ◌%◌, ◌≤◌}
use native.Mathlib.Omega.{arith}
use mathlib.Core.Path.{◌≡◌, refl}
use mathlib.Core.Bool.{Bool, true, false}
use mathlib.Core.List.{[], ◌∷◌, ◌++◌}
use lib.Dec.{leb}
use lib.ListN.{length, length-append}
use borrow.Author.Tests.{leb-true, le-leb, eq-eqb, ne_eqb}
use Rattle.base_laws.specs.Base.{pick, both}
use Rattle.base_laws.proofs.Order.{both_true}
use Rattle.wire_message.specs.Message.{Bytes, Timed, WindowSize, Exit}
use Rattle.wire_range.specs.Limits.{up_to, sized, moment_fits}
use Rattle.wire_range.specs.Range.{exit_fits, io_fits, suspend_fits}
use Rattle.file_format.specs.Record.{Record, window_bytes, exit_bytes, is_timed, timed_fits, exit_data_fits}
use Rattle.file_format.specs.File.{limit, time_of, may_follow, may_end}
use Rattle.file_format.proofs.Records.{length_window}
use Rattle.file_format.proofs.Reading.{InRange}
use Rattle.session.specs.Step.{natural, exit_record, record_for}
use Rattle.session.proofs.Moments.{moment_most, window_delay, window_rows, window_cols, exit_time, exit_value_lem, exit_signal}
use Rattle.claim_values.specs.Values.{TimedRecord, io, window, suspend, timed_member, stored_for, timed_in_range}

-- the record is all that the message stores
pub one_record : (d : Bytes) (t : TimedRecord) → record_for d (timed_member t) ≡ stored_for t ∷ []
unfolding stored_for
one_record d (io k i) = refl
one_record d (window w) = refl
one_record d (suspend s) = refl

-- ---- what can be stored

-- the header's length goes so far
abbrev pub Small : Record → Type 0
Small r = length r.contents ≤ 2097152

pub record StorableTimed (t : TimedRecord) : Type 0 where
  pub in_range_lem : timed_in_range t ≡ true
  pub small : Small (stored_for t)

-- ---- the ranges of timed records and exits, one by one

pub io_in : (k : ℕ) (i : Timed) → timed_in_range (io k i) ≡ true → (6 ≤ k) × (k ≤ 10) × (moment_fits i.delay ≡ true)
unfolding timed_in_range io_fits
io_in k i e =
    let p = both_true (both (leb 6 k) (leb k 10)) (moment_fits i.delay) e in
    let q = both_true (leb 6 k) (leb k 10) p.0 in
    (leb-true 6 k q.0, leb-true k 10 q.1, p.1)

pub window_in : (w : WindowSize) → timed_in_range (window w) ≡ true → (moment_fits w.delay ≡ true) × (up_to 65535 w.rows ≡ true) × (up_to 65535 w.cols ≡ true)
unfolding timed_in_range
window_in w e = (window_delay w e, window_rows w e, window_cols w e)

pub suspend_in : (s : Timed) → timed_in_range (suspend s) ≡ true → (moment_fits s.delay ≡ true) × (both (leb 1 (length s.contents)) (leb (length s.contents) 127) ≡ true)
unfolding timed_in_range suspend_fits sized
suspend_in s e = both_true (moment_fits s.delay) (sized 1 127 s.contents) e

pub exit_in : (e : Exit) → exit_fits e ≡ true → (moment_fits e.run_time ≡ true) × (up_to 255 e.exit_value ≡ true) × (length e.signal ≤ 127)
exit_in e h = (exit_time e h, exit_value_lem e h, exit_signal e h)

-- ---- a timed record's record

record Stored (r : Record) : Type 0 where
  from : 6 ≤ r.kind
  to : r.kind ≤ 12
  fits : timed_fits r.kind (length r.contents) ≡ true
  most : r.delay ≤ limit

stored : (t : TimedRecord) → timed_in_range t ≡ true → Stored (stored_for t)
unfolding stored_for timed_fits
stored (io k i) e =
    let p = io_in k i e in
    let lo : 6 ≤ k = p.0 in
    let hi : k ≤ 10 = p.1 in
    record { from = lo; to = omega arith; fits = rw (ne_eqb k 11 (λ z. omega arith), ne_eqb k 12 (λ z. omega arith)); most = moment_most i.delay p.2 }
stored (window w) e =
    let p = window_in w e in
    record { from = omega arith; to = omega arith; fits = eq-eqb (length (window_bytes (natural w.rows) (natural w.cols))) 4 (length_window (natural w.rows) (natural w.cols)); most = moment_most w.delay p.0 }
stored (suspend s) e =
    let p = suspend_in s e in
    record { from = omega arith; to = omega arith; fits = p.1; most = moment_most s.delay p.0 }

pub timed_ranged : (t : TimedRecord) → StorableTimed t → InRange (stored_for t)
timed_ranged t v =
    let s = stored t v.in_range_lem in
    record { kind_fits = omega (arith, s.to); delay_fits = s.most; contents_fit = v.small }

timed_kind : (r : Record) → Stored r → is_timed r.kind ≡ true
unfolding is_timed
timed_kind r s = rw (le-leb 6 r.kind s.from, le-leb r.kind 12 s.to)

-- its time is its delay
pub time_is : (t : TimedRecord) → StorableTimed t → time_of (stored_for t) ≡ (stored_for t).delay
unfolding time_of
time_is t v = rw (timed_kind (stored_for t) (stored t v.in_range_lem))

pub may_follow_lem : (sum : ℕ) (t : TimedRecord) → StorableTimed t → sum + (stored_for t).delay ≤ limit
    → may_follow sum (stored_for t).kind (stored_for t).delay (length (stored_for t).contents) ≡ true
unfolding may_follow
may_follow_lem sum t v h =
    let s = stored t v.in_range_lem in
    rw (timed_kind (stored_for t) s, s.fits, le-leb (sum + (stored_for t).delay) limit h)

-- ---- an exit's

pub exit_ranged : (e : Exit) → exit_fits e ≡ true → Small (exit_record e) → InRange (exit_record e)
exit_ranged e h s = record { kind_fits = omega arith; delay_fits = moment_most e.run_time (exit_in e h).0; contents_fit = s }

-- dumped_core and the signal's length share a byte
pub low_bits : (b : Bool) (n : ℕ) → n ≤ 127 → (pick b 128 0 + n) % 128 ≡ n
low_bits true n h = omega arith
low_bits false n h = omega arith

pub may_end_lem : (e : Exit) → exit_fits e ≡ true → may_end (exit_record e) [] ≡ true
unfolding may_end exit_bytes exit_data_fits
may_end_lem e h =
    let l : length e.signal ≤ 127 = (exit_in e h).2 in
    let a = length-append e.signal e.error in
    rw (
      low_bits e.dumped_core (length e.signal) l,
      le-leb 2 (suc (suc (length (e.signal ++ e.error)))) (omega arith),
      le-leb (2 + length e.signal) (suc (suc (length (e.signal ++ e.error)))) (omega arith),
    )
