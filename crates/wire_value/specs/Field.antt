-- The value of a field at a place of a message.
-- A refusal comes with its place: the tag, value or length that failed; of a fixed field the tag.
use Rattle.std.specs.Prelude.{ℕ, ◌+◌, ◌-◌, List, Result, Ok, Err, length, leb, eqb}
use Rattle.base_laws.specs.Base.{pick}
use Rattle.wire_types.specs.Refusals.{at_place}
use Rattle.wire_types.specs.declared.Refused.{Refused}
use Rattle.wire_types.specs.declared.Refusal.TheVariants as refusal
use Rattle.wire_types.specs.declared.Span.{Span}
use Rattle.wire_varint.specs.Varint.{varint_at}
use Rattle.wire_varint.specs.declared.Varint.{Varint}
use Rattle.wire_varint.specs.declared.VarintError.{VarintError}
use Rattle.wire_value.specs.declared.Payload.{Payload}
use Rattle.wire_value.specs.declared.Payload.TheVariants as payload

-- where a fixed width of bytes at x ends, of the field whose tag is at `at`; 3: "a length or fixed field past the end of its part"
unfoldable pub fixed_at : List ℕ → ℕ → ℕ → ℕ → Result ℕ Refused
fixed_at s at x width = pick (leb width (length s - x)) (Ok (x + width)) (Err (at_place refusal.Length at))

-- a number, from the varint at x; 2: "varint longer than allowed, or past the end of its part"
unfoldable pub number_read : ℕ → Result Varint VarintError → Result Varint Refused
number_read x (Ok r) = Ok r
number_read x (Err e) = Err (at_place refusal.Varint x)

-- as many bytes as the length at x says; 3 as above
unfoldable pub part_of : List ℕ → ℕ → Result Varint VarintError → Result Span Refused
part_of s x (Ok r) =
    pick (leb r.value (length s - r.next)) (Ok (record { start = r.next; end = r.next + r.value })) (Err (at_place refusal.Length x))
part_of s x (Err e) = Err (at_place refusal.Varint x)

-- a field's value, from what was read of it
unfoldable pub as_number : Result Varint Refused → Result Payload Refused
as_number (Ok r) = Ok (payload.Number r)
as_number (Err e) = Err e

unfoldable pub as_fixed : Result ℕ Refused → Result Payload Refused
as_fixed (Ok n) = Ok (payload.Fixed n)
as_fixed (Err e) = Err e

unfoldable pub as_part : Result Span Refused → Result Payload Refused
as_part (Ok p) = Ok (payload.Part p)
as_part (Err e) = Err e

-- the value at x of the field whose tag is at `at`, by its wire type
unfoldable pub payload_at : List ℕ → ℕ → ℕ → ℕ → Result Payload Refused
payload_at s at x w =
    pick (eqb w 0) (as_number (number_read x (varint_at s x)))
    (pick (eqb w 1) (as_fixed (fixed_at s at x 8))
    (pick (eqb w 5) (as_fixed (fixed_at s at x 4)) (as_part (part_of s x (varint_at s x)))))
