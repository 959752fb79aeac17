-- What the function for C returns of a configuration: the refusal, the list, and seven numbers.
use Rattle.std.specs.Prelude.{ℕ, List, [], ◌∷◌, Bool, length, leb, Result, Ok, Err}
use Rattle.std.specs.Int.{from_bool}
use Rattle.base_laws.specs.Base.{pick}
use Rattle.base_numbers.specs.Eight.{laid}
use Rattle.conf_lines.specs.Lines.{Bytes}
use Rattle.conf_read.specs.Config.{defaults, config_answer, config_out}
use Rattle.conf_read.specs.declared.values.Values.{Values}
use Rattle.conf_read.specs.declared.Config.{Config}
use Rattle.conf_read.specs.Refusals.{number_of}
use Rattle.conf_read.specs.declared.refusal.ConfigError.{ConfigError}
use Rattle.conf_read.specs.declared.refusal.ConfigError.TheVariants.{Refused, NoRoom}

-- 0, or the paper's number: 16, 17 or 18, or 12
unfoldable pub refusal_of : Result Config ConfigError → ℕ
refusal_of (Ok c) = 0
refusal_of (Err (Refused b)) = number_of b.refusal
refusal_of (Err NoRoom) = 12

abbrev pub flag : Bool → ℕ
flag = from_bool

-- the line, 0 for none; the bytes listed; the five values
abbrev pub seven_of : (line size : ℕ) → Values → List ℕ
seven_of line size v =
    line ∷ size ∷ v.server.timeout ∷ flag v.server.keepalive ∷ v.relay.timeout ∷ flag v.relay.keepalive ∷ v.maxseq ∷ []

-- the numbers afterwards: the defaults beside 16 to 18; "12 .. and nothing is written"
unfoldable pub numbers_of : Result Config ConfigError → Bytes → Bytes
numbers_of (Ok c) numbers = laid (seven_of 0 c.size c.values) numbers
numbers_of (Err (Refused b)) numbers = laid (seven_of b.line 0 defaults) numbers
numbers_of (Err NoRoom) numbers = numbers

-- where the numbers have no room nothing is done
unfoldable pub answer_with : (text out numbers : Bytes) → ℕ
answer_with text out numbers = pick (leb 56 (length numbers)) (refusal_of (config_answer text out)) 12

unfoldable pub out_with : (text out numbers : Bytes) → Bytes
out_with text out numbers = pick (leb 56 (length numbers)) (config_out text out) out

unfoldable pub numbers_with : (text out numbers : Bytes) → Bytes
numbers_with text out numbers = pick (leb 56 (length numbers)) (numbers_of (config_answer text out) numbers) numbers
