-- The refusals that reading a message gives, by their numbers in document 01.
use Rattle.std.specs.Prelude.{ℕ, ◌+◌}
use Rattle.wire_types.specs.declared.Refusal.{Refusal}
use Rattle.wire_types.specs.declared.Refusal.TheVariants.{Varint, Length, Tag, WireType, NoMember, Range}
use Rattle.wire_types.specs.declared.Refused.{Refused}

abbrev pub number_of : Refusal → ℕ
number_of Varint = 2
number_of Length = 3
number_of Tag = 4
number_of WireType = 5
number_of NoMember = 6
number_of Range = 7

-- a refusal with its place
abbrev pub at_place : Refusal → ℕ → Refused
at_place r p = record { refusal = r; place = p }

-- the refusal of a part that begins at a, by its place in the whole
abbrev pub within : ℕ → Refused → Refused
within a r = at_place r.refusal (a + r.place)
