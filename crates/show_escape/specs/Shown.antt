-- What an auditor may conclude of bytes shown as text.
use Rattle.std.specs.Prelude.{ℕ, ◌*◌, ◌≤◌, ◌<◌, ◌≡◌, List, length}
use Rattle.base_laws.specs.Base.{All}
use Rattle.show_escape.specs.Escape.{escaped}

abbrev pub Byte : ℕ → Type 0
Byte b = b < 256

-- a character that a terminal prints as it is: from space to tilde
abbrev pub Printable : ℕ → Type 0
Printable c = (32 ≤ c) × (c ≤ 126)

pub record Shown : Type 0 where
  -- no recording can send an escape sequence to the terminal, or forge a line
  pub printable : (d : List ℕ) → All Byte d → All Printable (escaped d)
  -- two recordings that are shown whole show the same only where they are the same
  pub told_apart : (c d : List ℕ) → All Byte c → All Byte d → escaped c ≡ escaped d → c ≡ d
  -- four characters for each byte are enough
  pub enough : (d : List ℕ) → All Byte d → length (escaped d) ≤ 4 * length d
