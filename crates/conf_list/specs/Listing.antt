-- The list of settings as bytes. Each definition names its sentence of request 1 of document 02.
use Rattle.std.specs.Prelude.{ℕ, ◌/◌, ◌%◌, List, [], ◌∷◌, ◌++◌, Bool, true, length, leb}
use Rattle.base_laws.specs.Base.{both}
use Rattle.conf_lines.specs.Lines.{Bytes}
use Rattle.conf_typed.specs.Typed.{section_name}
use Rattle.conf_typed.specs.declared.Section.{Section}

-- a setting as it is listed: the key in lower case, "values kept as written"
pub record Setting : Type 0 where
  pub section : Section
  pub key : Bytes
  pub value : Bytes

-- "its length as 4 bytes, most significant first"
abbrev pub four : ℕ → Bytes
four n = (n / 16777216 % 256) ∷ (n / 65536 % 256) ∷ (n / 256 % 256) ∷ (n % 256) ∷ []

unfoldable pub counted : Bytes → Bytes
counted bs = four (length bs) ++ bs

-- "section and key in lower case, value, each after its length"
unfoldable pub entry : Setting → Bytes
entry s = counted (section_name s.section) ++ counted s.key ++ counted s.value

-- "all settings listed in order"
unfoldable pub listing : List Setting → Bytes
listing [] = []
listing (s ∷ ss) = entry s ++ listing ss

-- "a length beyond 4 bytes"
unfoldable pub is_short : Setting → Bool
is_short s = both (leb (length s.key) 4294967295) (leb (length s.value) 4294967295)

unfoldable pub all_short : List Setting → Bool
all_short [] = true
all_short (s ∷ ss) = both (is_short s) (all_short ss)
