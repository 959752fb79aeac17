-- Each case is a test of the definition `kind_in`: below 8, below 16, or beyond.
use borrow.Author.Tests.{lt-ltb, le-ltb}
use Rattle.wire_schema.specs.Rows.{kind_in}
use borrow.Author.Rules.{rules}
use Rattle.wire_schema.proofs.kind_in.Goals as goal

pub overflow_mul-result : goal.overflow_mul-result
unfolding kind_in
overflow_mul-result c = search rules

pub overflow_shr-result : goal.overflow_shr-result
unfolding kind_in
overflow_shr-result c = search rules

pub overflow_cast-result : goal.overflow_cast-result
unfolding kind_in
overflow_cast-result c = search rules

pub returns-then-number-lt8 : goal.returns-then-number-lt8
unfolding kind_in
returns-then-number-lt8 c = simp (lt-ltb _ _ c.if-number-lt8.true)

pub overflow_mul-result-then-number-lt16 : goal.overflow_mul-result-then-number-lt16
unfolding kind_in
overflow_mul-result-then-number-lt16 c = search rules

pub overflow_shr-result-then-number-lt16 : goal.overflow_shr-result-then-number-lt16
unfolding kind_in
overflow_shr-result-then-number-lt16 c = search rules

pub overflow_cast-result-then-number-lt16 : goal.overflow_cast-result-then-number-lt16
unfolding kind_in
overflow_cast-result-then-number-lt16 c = search rules

pub returns-then-number-lt16 : goal.returns-then-number-lt16
unfolding kind_in
returns-then-number-lt16 c = simp (le-ltb _ _ c.if-number-lt8.false, lt-ltb _ _ c.if-number-lt16.true)

pub returns : goal.returns
unfolding kind_in
returns c = simp (le-ltb _ _ c.if-number-lt8.false, le-ltb _ _ c.if-number-lt16.false)
