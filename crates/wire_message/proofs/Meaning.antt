-- The values at the readers' places are those of the message's items.
use Prim.Native.Nat.{ℕ}
use mathlib.Core.Path.{◌≡◌, refl, ap, ◌∙◌}
use mathlib.Core.List.{List, []}
use Rattle.std.specs.Prelude.{Option, Some, None}
use Rattle.base_laws.specs.Base.{pick, part}
use mathlib.Core.Bool.{Bool, true, false}
use lib.Dec.{eqb}
use Rattle.wire_types.specs.declared.Span.{Span}
use Rattle.wire_fields.specs.Fields.{last_in, fields_at, fields_from}
use Rattle.wire_fields.specs.Items.{Item, items, last_item, last_from, number_of, bytes_of}
use Rattle.wire_fields.specs.declared.Last.{Last}
use Rattle.wire_fields.specs.declared.Last.TheVariants as last
use Rattle.wire_fields.proofs.Follow.{span_in_bounds}
use Rattle.wire_fields.proofs.Items.{content_of, last_means, number_means, bytes_means}
use Rattle.wire_walk_io.specs.Places.{time_numbers, time_from, time_in}
use Rattle.wire_message.specs.Message.{time_spec, time_field, value_of, accept, exit, restart, timed, window_size}
use Rattle.wire_message.specs.Places.{Within, accept_at, exit_at, restart_at, timed_at, window_at, held_from, held_in, time_value, accept_value, exit_value, restart_value, timed_value, window_value, value_at}
use Rattle.wire_message.specs.declared.Exit.{Exit}
use Rattle.wire_types.specs.declared.Timed.{Timed}
use Rattle.wire_message.specs.declared.Value.{Value}
use Rattle.wire_message.specs.declared.Value.TheVariants as held

-- a TimeSpec by itself
pub time_is : (s : List ℕ) → time_value (time_numbers s) ≡ time_spec (items s)
unfolding time_value time_spec
time_is s = rw (number_means s 1, number_means s 2)

-- where none is given, it is that of no bytes
time_none : time_value (record { seconds = 0; nanos = 0 }) ≡ time_spec (items [])
unfolding time_value time_spec items fields_at fields_from last_from number_of
time_none = refl

time_of_lem : (s : List ℕ) (l : Option Last) → time_value (time_from s l) ≡ time_spec (items (bytes_of (content_of s l)))
unfolding time_from bytes_of
time_of_lem s None = time_none
time_of_lem s (Some (last.Number f v)) = time_none
time_of_lem s (Some (last.Part f a e)) = time_is (part s a e)

-- a field that is a TimeSpec
pub time_means : (f : ℕ) (s : List ℕ) → time_value (time_in f s) ≡ time_field f (items s)
unfolding time_field
time_means f s = time_of_lem s (last_in f f s) ∙ ap (λ (i : Item). time_spec (items (bytes_of i))) (last_means s f f)

-- ---- the embedded messages

module _ (s : List ℕ) where
  pub accept_means : accept_value s (accept_at s) ≡ accept (items s)
  unfolding accept_at accept_value accept
  accept_means = rw (time_means 1 s, number_means s 3)

  pub exit_means : exit_value s (exit_at s) ≡ exit (items s)
  unfolding exit_at exit_value exit
  exit_means = rw (time_means 1 s, number_means s 2, number_means s 3, bytes_means s 4, bytes_means s 5)

  pub restart_means : restart_value s (restart_at s) ≡ restart (items s)
  unfolding restart_at restart_value restart
  restart_means = rw (bytes_means s 1, time_means 2 s)

  pub timed_means : timed_value s (timed_at s) ≡ timed (items s)
  unfolding timed_at timed_value timed
  timed_means = rw (time_means 1 s, bytes_means s 2)

  pub window_means : window_value (window_at s) ≡ window_size (items s)
  unfolding window_at window_value window_size
  window_means = rw (time_means 1 s, number_means s 2, number_means s 3)

  -- an entry's value: a field's number picks the same case on both sides
  spread : (b : Bool) (v w : Option Value) → value_at s (pick b v w) ≡ pick b (value_at s v) (value_at s w)
  spread true v w = refl
  spread false v w = refl

  held_of : (l : Option Last) → value_at s (held_from l) ≡ value_of (content_of s l)
  unfolding held_from value_at value_of
  held_of None = refl
  held_of (Some (last.Number f v)) = refl
  held_of (Some (last.Part f a e)) = let p : Span = record { start = a; end = e } in
      spread (eqb f 3) (Some (held.String p)) _ ∙ ap (pick (eqb f 3) _) (spread (eqb f 4) (Some (held.Strings p)) _ ∙ ap (pick (eqb f 4) _) (spread (eqb f 5) (Some (held.Numbers p)) _))

  pub held_means : value_at s (held_in s) ≡ value_of (last_item 2 5 (items s))
  held_means = held_of (last_in 2 5 s) ∙ ap value_of (last_means s 2 5)

  -- ---- the places are in the message's bytes

  pub exit_within : {r : Exit} → r ≡ exit_at s → Within s r.signal × Within s r.error
  unfolding exit_at
  exit_within e = rw e (span_in_bounds s 4, span_in_bounds s 5)

  pub timed_within : {r : Timed} → r ≡ timed_at s → Within s r.contents
  unfolding timed_at
  timed_within e = rw e (span_in_bounds s 2)
