-- How the code shows a byte. Inner definitions, which follow the code; an auditor can skip them. Proved against `escaped_byte` by the contract of
-- `form_of` (crates/show_escape/src/lib.rt).
use Rattle.std.specs.Prelude.{ℕ, ◌/◌, ◌%◌, List, [], ◌∷◌}
use Prim.Native.Char.{code}
use Rattle.show_escape.specs.Escape.{backslash, hex_digit}
use Rattle.show_escape.specs.declared.Form.{Form}
use Rattle.show_escape.specs.declared.Form.TheVariants.{Plain, Letter, Hex}

-- the text of a byte in a form
abbrev pub form_text : Form → ℕ → List ℕ
form_text Plain b = b ∷ []
form_text (Letter c) b = backslash ∷ c ∷ []
form_text Hex b = backslash ∷ code "x" ∷ hex_digit (b / 16) ∷ hex_digit (b % 16) ∷ []
