-- The story computes.
use Prim.Native.Nat.{ℕ}
use native.Mathlib.Omega.{arith}
use mathlib.Core.Path.{◌≡◌, refl}
use mathlib.Core.Bool.{true}
use mathlib.Core.List.{[], ◌∷◌}
use lib.IntN.{pos}
use lib.ListN.{take}
use Rattle.wire_message.specs.Message as m
use Rattle.wire_frame.specs.Frame.{length_of, cut_of}
use Rattle.file_format.specs.File as f
use Rattle.claim_values.specs.Values as v
use Rattle.claim_examples.proofs.Computing.{stepping}
use Rattle.claim_delivery.specs.Recording as r
use Rattle.claim_delivery.specs.Sender as d
use Rattle.claim_delivery.specs.Host as h
use Rattle.claim_delivery.specs.World as w
use Rattle.claim_delivery.specs.Demand as x
use Rattle.claim_delivery.specs.Story as o
use Rattle.claim_delivery.proofs.Demand.{demand_3}

-- the restart of the log "a" at one second
abbrev at_one : m.Restart
at_one = record { log_id = 0x61 ∷ []; resume_point = record { seconds = pos 1; nanoseconds = pos 0 } }

-- what computes here beside a session's step: the recording and its sender, the host with its book, the world. None of these says
-- anything: to unfold one is to unfold all that its line names
recording : Unit {0}
unfolding v.stored_for v.timed_in_range r.records r.at_most r.greater
recording = tt

sending : Unit {0}
unfolding v.timed_member d.rest d.messages h.frame h.frames
sending = tt

hosting : Unit {0}
unfolding length_of cut_of h.drain_cut h.drain h.counted_member h.counted h.booked h.carries h.noted_member h.noted h.is_point h.unsent h.answered h.hand h.hand_all
hosting = tt

happening : Unit {0}
unfolding w.fresh w.opened w.desk w.came_in w.tick_answers w.arrived w.inside w.outside w.happens w.run w.Proper w.AllProper
happening = tt

pub story : o.Story
unfolding stepping recording sending hosting happening
story = record {
  given = record {
    valid = record {
      announces = refl;
      accept_in_range = refl;
      entries_there = refl;
      timed_in_range_lem = (refl, (refl, (refl, (refl, tt))));
      exit_in_range = refl;
      within_limit = omega arith;
    };
    fits = λ a. omega arith;
    in_range_lem = λ a. omega arith;
  };
  listed = (
    λ e. (
      (
        (record { fits = omega arith; read = refl }, refl),
        (
          record { fits = omega arith; read = refl },
          (
            record { fits = omega arith; read = refl },
            (
              record { fits = omega arith; read = refl },
              (record { fits = omega arith; read = refl }, (record { fits = omega arith; read = refl }, tt)),
            ),
          ),
        ),
      ),
      refl,
    ),
    (
      tt,
      (
        tt,
        (
          tt,
          (
            tt,
            (
              tt,
              (
                tt,
                (
                  tt,
                  (
                    tt,
                    (
                      tt,
                      (
                        tt,
                        (
                          tt,
                          (
                            λ e. (
                              (
                                ([], record { fits = omega arith; read = refl }),
                                (
                                  record { values = at_one; reads = record { fits = omega arith; read = refl }; in_range_lem = refl; is_at = refl },
                                  (record { fits = omega arith; read = refl }, (record { fits = omega arith; read = refl }, tt)),
                                ),
                              ),
                              tt,
                            ),
                            (
                              tt,
                              (
                                tt,
                                (
                                  λ e. (
                                    (
                                      record { values = at_one; reads = record { fits = omega arith; read = refl }; in_range_lem = refl; is_at = refl },
                                      (record { fits = omega arith; read = refl }, (record { fits = omega arith; read = refl }, tt)),
                                    ),
                                    tt,
                                  ),
                                  (tt, (tt, (tt, tt))),
                                ),
                              ),
                            ),
                          ),
                        ),
                      ),
                    ),
                  ),
                ),
              ),
            ),
          ),
        ),
      ),
    ),
  );
  first_book = refl;
  first_point = refl;
  second_book = refl;
  second_on = refl;
  restarts = refl;
  stopped = refl;
  whole = refl;
}

-- what demand 3 says of it
delivery : x.Delivery
delivery = record { recording = o.recording; blank = o.blank; given = story.given; events = o.story; every = true; listed = story.listed }

told : (a : ℕ) → w.file (x.end delivery) a ≡ f.file_bytes (take ((x.end delivery).book a) (r.records o.recording))
unfolding delivery
told a = demand_3.files delivery a
