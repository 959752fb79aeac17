-- What the functions for C that get at values return: the paper's numbers for each case, and numbers as bytes.
use Rattle.std.specs.Prelude.{ℕ, ◌-◌, List, [], ◌∷◌, Option, Some, None, leb}
use Rattle.base_laws.specs.Base.{pick}
use Rattle.base_numbers.specs.Eight.{laid}
use Rattle.wire_types.specs.declared.Span.{Span}
use Rattle.wire_elements.specs.declared.Element.{Element}

-- the number of the interface that include/sudolog.h declares
abbrev pub version : ℕ
version = 1

-- where a list's next element is; the greatest number of 64 bits and a length of 0 for none
unfoldable pub offset_of : Option Span → ℕ
offset_of (Some p) = p.start
offset_of None = 18446744073709551615

unfoldable pub found_length : Option Span → ℕ
found_length (Some p) = p.end - p.start
found_length None = 0

-- ---- sudolog_next_number

-- 0 where no number is left, then 12 where three numbers have no room, else 1
unfoldable pub next_answer : Option Element → ℕ → ℕ
next_answer (Some x) room = pick (leb 24 room) 1 12
next_answer None room = 0

-- the buffer afterwards: the number and the cursor past it, where they have room
unfoldable pub next_buffer : Option Element → List ℕ → List ℕ
next_buffer (Some x) out = laid (x.value ∷ x.at ∷ x.end ∷ []) out
next_buffer None out = out
