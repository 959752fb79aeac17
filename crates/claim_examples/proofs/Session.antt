-- The marked examples compute.
use mathlib.Core.Path.{refl}
use Rattle.wire.proofs.Examples.{reading_examples}
use Rattle.claim_examples.specs.Session.{Examples}
use Rattle.claim_examples.proofs.Computing.{stepping}

pub examples : Examples
unfolding stepping
examples = record {
  reading = reading_examples;
  three = refl;
  three_stored = refl;
  seven_first = refl;
  seven_second = refl;
  seven_third = refl;
  seven_fourth = refl;
  seven_exit = refl;
  eight_third = refl;
  eight_taken = refl;
  eight_kept = refl;
  eight_refused = refl;
  nine_zero = refl;
  nine_taken = refl;
  nine_used = refl;
  ten_tick = refl;
  ten_exit = refl;
}
