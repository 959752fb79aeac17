-- After marked example 7's messages the session is in logging, and after a break the session that resumes is: both compute.
use mathlib.Core.Path.{refl}
use Rattle.claim_agreement.specs.Calls.{until_positive, after_taken, after_message, after, after_all}
use Rattle.claim_examples.specs.Logged.{Logged}
use Rattle.claim_examples.proofs.Computing.{stepping}

pub logged : Logged
unfolding stepping until_positive after_taken after_message after after_all
logged = record { after_seven = refl; after_restart = refl; reached_again = refl; passed_again = refl }
