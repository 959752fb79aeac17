-- The commit points of a session that agrees with its file: a tick's and an exit's.
use Rattle.std.specs.Prelude.{Option, Some, None}
use Prim.Native.Nat.{ℕ, ◌<◌}
use native.Mathlib.Omega.{arith}
use mathlib.Core.Path.{◌≡◌, ap, ◌∙◌}
use mathlib.Core.List.{List}
use lib.ListN.{length}
use lib.Dec.{leb}
use borrow.Author.Tests.{eq-eqb, ne_eqb}
use Rattle.base_laws.proofs.Order.{picked}
use Rattle.wire_message.specs.Message.{Bytes, Exit, exit_msg}
use Rattle.wire_range.specs.Range.{exit_fits}
use Rattle.wire.specs.Read.{value, client_message, received}
use Rattle.file_format.specs.Record.{Record}
use Rattle.file_format.specs.File.{total, low_total}
use Rattle.file_format.proofs.Times.{exit_time}
use Rattle.file_format.proofs.Appends.{kind_exit, total_snoc}
use Rattle.file_format.proofs.Beginnings.{low_found, low_above}
use Rattle.session_turn.specs.Turn.{ending, turn}
use Rattle.session.specs.Step.{Outcome, exit_record, record_for, lengths_fit, room_for, exit_stored, on_exit, act, in_turn, on_reading, step, logging_point, point_in, tick}
use Rattle.session_turn.specs.declared.State.{State}
use Rattle.session_turn.specs.declared.State.TheVariants.{Logging}
use Rattle.claim_values.proofs.Stored.{may_end_lem}
use Rattle.claim_agreement.specs.Calls.{Host, answered}
use Rattle.claim_agreement.specs.Agreement.{Agrees, GreatestBelow, TickPoint, Exited}

-- ---- the greatest lower total

pub low_greatest : (rs : List Record) → 0 < total rs → GreatestBelow (low_total rs) rs
low_greatest rs h =
    let l = low_found rs h in
    record {
      beginning = l.beginning;
      rest = l.rest;
      joined = l.joined;
      is_its_total = l.is_total;
      is_below = l.is_below;
      is_greatest = λ p q e k. omega (arith, ap low_total e, low_above p q (omega (arith, ap total e)));
    }

module _ (h : Host) (logs : h.session.state ≡ Logging) (a : Agrees h) where
  abbrev rs : List Record
  rs = a.holds.records

  -- ---- a tick

  -- by the file's numbers
  tick_is : (T : Option ℕ) → h.restart_point ≡ T → tick h.session ≡ logging_point T (total rs) (low_total rs)
  unfolding tick point_in
  tick_is T e =
      ap (λ (st : State). point_in st (logging_point h.session.mark h.session.total h.session.low)) logs
      ∙ ap (λ (m : Option ℕ). logging_point m h.session.total h.session.low) (a.carries.carries_point ∙ e)
      ∙ ap (λ (n : ℕ). logging_point T n h.session.low) a.carries.carries_total
      ∙ ap (logging_point T (total rs)) a.carries.carries_low

  pub tick_point : TickPoint h rs
  unfolding logging_point
  tick_point = record {
    after_restart = λ t e. tick_is (Some t) e;
    at_zero = λ e z. tick_is None e ∙ rw (eq-eqb (total rs) 0 z);
    below = λ e p. (low_total rs, tick_is None e ∙ rw (ne_eqb (total rs) 0 (λ z. omega arith)), low_greatest rs p);
  }

  -- ---- an exit

  module _ (e : Exit) (d : Bytes) where
    abbrev Taken : Outcome → Type 0
    Taken o = o.refusal ≡ 0 → Exited rs d e o

    exit_stored_lem : Taken (exit_stored h.session h.area h.used e)
    unfolding exit_stored record_for
    exit_stored_lem =
        let r : Record = exit_record e in
        picked Taken (lengths_fit (length h.area) h.used h.session.used) _ _
        (λ _.
        picked Taken (exit_fits e) _ _
        (λ f.
        picked Taken (room_for h.session h.area h.used r) _ _
        (λ _ _. record {
          answers = ap Some a.carries.carries_total;
          is_finished = kind_exit rs r a.carries.is_unfinished (may_end_lem e f);
          same_total = omega (arith, total_snoc rs r, exit_time r (may_end_lem e f));
        })
        (λ _ z. absurd (omega arith)))
        (λ _ z. absurd (omega arith)))
        (λ _ z. absurd (omega arith))

    exit_on : (st : State) → st ≡ Logging → Taken (on_exit h.session h.area h.used st e)
    unfolding on_exit
    exit_on st q = rw q exit_stored_lem

    exit_turn : (st : State) → st ≡ Logging → Taken (in_turn h.session h.area h.used (ending st) d (exit_msg e))
    unfolding in_turn ending act
    exit_turn st q = rw q (exit_on h.session.state logs)

  pub exits : (e : Exit) (s : Bytes) → client_message s ≡ value (exit_msg e) → Taken e (received s) (answered h s)
  unfolding step on_reading turn
  exits e s reads =
      picked (Taken e (received s)) (leb (length s) 2097152) _ _
      (λ _. rw reads (exit_turn e (received s) h.session.state logs))
      (λ _ z. absurd (omega arith))
