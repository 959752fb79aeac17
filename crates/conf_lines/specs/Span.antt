-- The bytes of a line from a place on, and those of a span. Inner.
use Rattle.std.specs.Prelude.{ℕ, ◌≤◌, length, take, drop}
use Rattle.conf_lines.specs.Lines.{Bytes}
use Rattle.conf_lines.specs.Scan.{text, scanned}
use Rattle.conf_lines.specs.declared.span.Span.{Span}

abbrev pub joined_from : Bytes → ℕ → Bytes
joined_from s at = (scanned text (drop at s)).joined

abbrev pub spanned : Bytes → Span → Bytes
spanned s p = take p.length (joined_from s p.at)

-- the line has as many bytes
abbrev pub Within : Bytes → Span → Type 0
Within s p = p.length ≤ length (joined_from s p.at)
