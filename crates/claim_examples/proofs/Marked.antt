-- The marked examples hold.
use Rattle.claim_examples.proofs.Session.{examples}
use Rattle.write_forms.proofs.Examples.{writing_examples}
use Rattle.claim_examples.specs.Marked.{MarkedExamples}

pub marked_examples : MarkedExamples
marked_examples = record { ten = examples; written = writing_examples }
