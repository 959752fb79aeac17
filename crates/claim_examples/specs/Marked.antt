-- Document 01, "Marked examples": "These ten are shown of the definitions, gathered in one table under one statement."
use Rattle.claim_examples.specs.Session.{Examples}
use Rattle.write_forms.specs.Examples.{WritingExamples}

pub record MarkedExamples : Type 0 where
  -- all ten; 1, 2, 4, 5 and 6 as they are read
  pub ten : Examples
  -- 1, 2, 4 and 6 as they are written
  pub written : WritingExamples
