-- A record tells its values: those of a timed record and of an exit are read back from what is stored for them, where they are in range.
use Prim.Native.Nat.{ℕ, ◌+◌, ◌*◌, ◌/◌, ◌%◌, ◌≤◌}
use native.Mathlib.Omega.{arith}
use mathlib.Core.Path.{◌≡◌, refl, ap, sym, ◌∙◌}
use mathlib.Core.Bool.{Bool, true, false}
use mathlib.Core.List.{◌++◌}
use lib.IntN.{ℤ, pos, negsuc}
use lib.Dec.{leb, eqb}
use lib.ListN.{length, take, drop, get_or}
use lib.Seq.{take_at, drop_at}
use borrow.Author.Tests.{le-leb, lt-leb, ne_eqb}
use Rattle.base_laws.specs.Base.{pick}
use Rattle.wire_message.specs.Message.{Bytes, TimeSpec, Timed, WindowSize, Exit}
use Rattle.wire_range.specs.Limits.{up_to, moment_fits}
use Rattle.wire_range.specs.Range.{exit_fits}
use Rattle.file_format.specs.Digits.{digits, value}
use Rattle.file_format.specs.Record.{second, Record, window_bytes, exit_bytes}
use Rattle.file_format.proofs.Numbers.{length_digits, value_digits}
use Rattle.session.specs.Step.{natural, moment, exit_record}
use Rattle.session.proofs.Moments.{natural_most, moment_parts}
use Rattle.claim_values.specs.Values.{TimedRecord, io, window, suspend, stored_for, timed_in_range}
use Rattle.claim_values.proofs.Stored.{io_in, window_in, suspend_in, exit_in, low_bits}

-- ---- numbers and moments

natural_back : (hi : ℕ) (x : ℤ) → up_to hi x ≡ true → pos (natural x) ≡ x
unfolding up_to natural
natural_back hi (pos a) h = refl
natural_back hi (negsuc a) h = let z : ◌≡◌ {A = ℕ} 0 1 = cc in absurd (omega arith)

to_time : ℕ → TimeSpec
to_time t = record { seconds = pos (t / second); nanoseconds = pos (t % second) }

seconds_back : (a b : ℕ) → b ≤ 999999999 → (a * second + b) / second ≡ a
seconds_back a b h = omega arith

nanoseconds_back : (a b : ℕ) → b ≤ 999999999 → (a * second + b) % second ≡ b
nanoseconds_back a b h = omega arith

time_back : (t : TimeSpec) → moment_fits t ≡ true → to_time (moment t) ≡ t
unfolding to_time moment
time_back t h =
    let p = moment_parts t h in
    let most : natural t.nanoseconds ≤ 999999999 = natural_most 999999999 t.nanoseconds p.1 in
    let s : pos ((natural t.seconds * second + natural t.nanoseconds) / second) ≡ t.seconds =
    ap pos (seconds_back (natural t.seconds) (natural t.nanoseconds) most) ∙ natural_back 4294967295 t.seconds p.0 in
    let n : pos ((natural t.seconds * second + natural t.nanoseconds) % second) ≡ t.nanoseconds =
    ap pos (nanoseconds_back (natural t.seconds) (natural t.nanoseconds) most) ∙ natural_back 999999999 t.nanoseconds p.1 in
    λ i. record { seconds = s i; nanoseconds = n i }

-- ---- timed records

to_plain : Record → Timed
to_plain r = record { delay = to_time r.delay; contents = r.contents }

to_window : Record → WindowSize
to_window r = record { delay = to_time r.delay; rows = pos (value (take 2 r.contents)); cols = pos (value (drop 2 r.contents)) }

to_timed : Record → TimedRecord
to_timed r = pick (eqb r.kind 11) (window (to_window r)) (pick (eqb r.kind 12) (suspend (to_plain r)) (io r.kind (to_plain r)))

plain_back : (k : ℕ) (i : Timed) → moment_fits i.delay ≡ true → to_plain (record { kind = k; delay = moment i.delay; contents = i.contents }) ≡ i
unfolding to_plain
plain_back k i h = let d = time_back i.delay h in λ y. record { delay = d y; contents = i.contents }

rows_back : (a b : ℕ) → a ≤ 65535 → value (take 2 (window_bytes a b)) ≡ a
unfolding window_bytes
rows_back a b h = ap value (take_at (digits 2 a) (digits 2 b) 2 (length_digits 2 a)) ∙ value_digits 2 a (omega arith)

cols_back : (a b : ℕ) → b ≤ 65535 → value (drop 2 (window_bytes a b)) ≡ b
unfolding window_bytes
cols_back a b h = ap value (drop_at (digits 2 a) (digits 2 b) 2 (length_digits 2 a)) ∙ value_digits 2 b (omega arith)

timed_back : (t : TimedRecord) → timed_in_range t ≡ true → to_timed (stored_for t) ≡ t
unfolding to_timed stored_for to_window
timed_back (io k i) h =
    let p = io_in k i h in
    let hi : k ≤ 10 = p.1 in
    rw (ne_eqb k 11 (λ z. omega arith), ne_eqb k 12 (λ z. omega arith)) (ap (io k) (plain_back k i p.2))
timed_back (window w) h =
    let p = window_in w h in
    let d = time_back w.delay p.0 in
    let r : pos (value (take 2 (window_bytes (natural w.rows) (natural w.cols)))) ≡ w.rows =
    ap pos (rows_back (natural w.rows) (natural w.cols) (natural_most 65535 w.rows p.1)) ∙ natural_back 65535 w.rows p.1 in
    let c : pos (value (drop 2 (window_bytes (natural w.rows) (natural w.cols)))) ≡ w.cols =
    ap pos (cols_back (natural w.rows) (natural w.cols) (natural_most 65535 w.cols p.2)) ∙ natural_back 65535 w.cols p.2 in
    λ y. window (record { delay = d y; rows = r y; cols = c y })
timed_back (suspend s) h = ap suspend (plain_back 12 s (suspend_in s h).0)

pub same_timed : (t u : TimedRecord) → timed_in_range t ≡ true → timed_in_range u ≡ true → stored_for t ≡ stored_for u → t ≡ u
same_timed t u h k e = sym (timed_back t h) ∙ ap to_timed e ∙ timed_back u k

-- ---- exits

-- where the signal ends
signal_length : Bytes → ℕ
signal_length d = get_or d 1 0 % 128

to_exit : Record → Exit
to_exit r = record {
  run_time = to_time r.delay;
  exit_value = pos (get_or r.contents 0 0);
  dumped_core = leb 128 (get_or r.contents 1 0);
  signal = take (signal_length r.contents) (drop 2 r.contents);
  error = drop (signal_length r.contents) (drop 2 r.contents);
}

core_back : (b : Bool) (n : ℕ) → n ≤ 127 → leb 128 (pick b 128 0 + n) ≡ b
core_back true n h = le-leb 128 (128 + n) (omega arith)
core_back false n h = lt-leb 128 (0 + n) (omega arith)

exit_back : (e : Exit) → exit_fits e ≡ true → to_exit (exit_record e) ≡ e
unfolding to_exit exit_bytes signal_length
exit_back e h =
    let p = exit_in e h in
    let d = time_back e.run_time p.0 in
    let v = natural_back 255 e.exit_value p.1 in
    let b = core_back e.dumped_core (length e.signal) p.2 in
    let n = low_bits e.dumped_core (length e.signal) p.2 in
    let s : take ((pick e.dumped_core 128 0 + length e.signal) % 128) (e.signal ++ e.error) ≡ e.signal =
    ap (λ (k : ℕ). take k (e.signal ++ e.error)) n ∙ take_at e.signal e.error (length e.signal) refl in
    let x : drop ((pick e.dumped_core 128 0 + length e.signal) % 128) (e.signal ++ e.error) ≡ e.error =
    ap (λ (k : ℕ). drop k (e.signal ++ e.error)) n ∙ drop_at e.signal e.error (length e.signal) refl in
    λ y. record { run_time = d y; exit_value = v y; dumped_core = b y; signal = s y; error = x y }

pub same_exit : (a b : Exit) → exit_fits a ≡ true → exit_fits b ≡ true → exit_record a ≡ exit_record b → a ≡ b
same_exit a b h k e = sym (exit_back a h) ∙ ap to_exit e ∙ exit_back b k
