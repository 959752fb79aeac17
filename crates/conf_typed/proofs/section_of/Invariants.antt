-- The loop keeps: the sections from the index on decide.
use Rattle.std.specs.Prelude.{◌≡◌, drop}
use Rattle.conf_lines.specs.Span.{spanned}
use Rattle.conf_typed.specs.Typed.{lower, section_of}
use Rattle.conf_typed.proofs.Sections.{first_named}
use Rattle.conf_typed.proofs.section_of.Given as goal

abbrev pub invariant-loop-section : goal.invariant-loop-section
invariant-loop-section l = first_named (drop l.section-index l.section-items) (lower (spanned l.text l.name)) ≡ section_of (lower (spanned l.text l.name))
