-- What is stored computes.
use mathlib.Core.Path.{refl}
use Rattle.wire_message.specs.Message.{window_size}
use Rattle.wire_range.specs.Range.{window_fits, suspend_fits}
use Rattle.file_format.specs.Record.{window_bytes}
use Rattle.claim_examples.specs.Stored.{StoredExamples}
use Rattle.claim_examples.proofs.Computing.{stepping}

pub stored_examples : StoredExamples
unfolding stepping window_size window_fits suspend_fits window_bytes
stored_examples = record { window_stored = refl; suspend_stored = refl; exit_stored_lem = refl; exit_used = refl }
