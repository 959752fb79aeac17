-- The refusals of a configuration, by their numbers in document 02.
use Rattle.std.specs.Prelude.{ℕ}
use Rattle.conf_read.specs.declared.refusal.ConfRefusal.{ConfRefusal}
use Rattle.conf_read.specs.declared.refusal.ConfRefusal.TheVariants.{Malformed, NoSection, BadValue}
use Rattle.conf_read.specs.declared.refusal.BadLine.{BadLine}
use Rattle.conf_read.specs.declared.refusal.ConfigError.{ConfigError}
use Rattle.conf_read.specs.declared.refusal.ConfigError.TheVariants as error

abbrev pub number_of : ConfRefusal → ℕ
number_of Malformed = 16
number_of NoSection = 17
number_of BadValue = 18

abbrev pub malformed : ConfRefusal
malformed = Malformed

abbrev pub no_section : ConfRefusal
no_section = NoSection

abbrev pub bad_value : ConfRefusal
bad_value = BadValue

-- a refusal with the number of its line
abbrev pub bad_line : ConfRefusal → (line : ℕ) → BadLine
bad_line r n = record { refusal = r; line = n }

abbrev pub refused : BadLine → ConfigError
refused b = error.Refused b
