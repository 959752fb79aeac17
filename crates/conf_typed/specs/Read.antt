-- How the code reads words and numbers. Inner.
use Rattle.std.specs.Prelude.{ℕ, Bool, true, false, leb, Option, Some, None}
use Rattle.base_laws.specs.Base.{pick}
use Rattle.conf_lines.specs.Lines.{Bytes}
use Rattle.conf_typed.specs.Typed.{lower, is_decimal, decimal}

-- bytes in lower case, or as they are
abbrev pub cased : Bool → Bytes → Bytes
cased true bs = lower bs
cased false bs = bs

-- a number up to 2^32, and 2^32 for all above: no typed setting asks for more, and so none can overflow
unfoldable pub capped : ℕ → ℕ
capped n = pick (leb n 4294967296) n 4294967296

unfoldable pub decimal_of : Bytes → Option ℕ
decimal_of v = pick (is_decimal v) (Some (capped (decimal v))) None
