-- The loop keeps "the check from `at` on is the whole's"; a string is Entries.passed, the end Checks.at_end, anything else says nothing.
use native.Mathlib.Omega.{arith}
use mathlib.Core.Path.{sym, ◌∙◌}
use Rattle.wire_schema.specs.Schema.{StringList}
use Rattle.wire_fields.proofs.Lengths.{found_part}
use Rattle.wire_check_field.proofs.Checks.{at_end}
use Rattle.wire_check.proofs.Entries.{Passed, passed}
use Rattle.wire_check.proofs.entry.plain_strings.Goals as goal
use Rattle.wire_check.proofs.entry.plain_strings.Goals.{In-Some}

-- past a string: how far it reaches, and that the check goes on there
past : (c : In-Some) →
    Passed c.args.s.now c.loop-at.at c.in-Some.string.end
past c = passed _ _ _ c.loop-at-test.true c.if-s-at-ne10.false (found_part _ _ _ c.part_found.ensures _ c.in-Some.is)

pub loop-at-smaller : goal.loop-at-smaller
loop-at-smaller c = let h = past c in omega arith

pub loop-at-preserved : goal.loop-at-preserved
loop-at-preserved c = let h = past c in (h.1, sym h.2 ∙ c.loop-at.invariant.1)

pub returns : goal.returns
returns c =
    let a = c.args in
    λ _. sym c.loop-at.invariant.1 ∙ at_end StringList a.s.now c.loop-at.at c.loop-at-test.false
