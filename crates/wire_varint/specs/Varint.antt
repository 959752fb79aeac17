-- Varints. Document 01: "A varint has 1 to 10 bytes, low seven bits first. A tenth byte above 1 is refused. Longer
-- forms than needed are read". What is refused is kept apart inside: past the end of the list, or too long.
use Rattle.std.specs.Prelude.{ℕ, zero, suc, ◌+◌, ◌-◌, ◌*◌, List, Result, Ok, Err, length, get_or, ltb, leb}
use Rattle.base_laws.specs.Base.{pick}
use Rattle.wire_varint.specs.declared.Varint.{Varint}
use Rattle.wire_varint.specs.declared.VarintError.{VarintError}
use Rattle.wire_varint.specs.declared.VarintError.TheVariants.{PastEnd, TooLong}

-- a value, and the place behind it
abbrev pub read : ℕ → ℕ → Result Varint VarintError
read v n = Ok (record { value = v; next = n })

-- seven low bits before the rest of a varint
abbrev pub above : ℕ → Result Varint VarintError → Result Varint VarintError
above low (Ok rest) = read (low + 128 * rest.value) rest.next
above low (Err e) = Err e

-- a varint of at most 1 + k bytes at a place: a byte below 128 ends it, and the last of all is at most 1
unfoldable pub varint_from : ℕ → List ℕ → ℕ → Result Varint VarintError
varint_from zero s at =
    pick (ltb at (length s)) (pick (leb (get_or s at 0) 1) (read (get_or s at 0) (at + 1)) (Err TooLong)) (Err PastEnd)
varint_from (suc k) s at =
    pick (ltb at (length s))
    (pick (ltb (get_or s at 0) 128)
    (read (get_or s at 0) (at + 1))
    (above (get_or s at 0 - 128) (varint_from k s (at + 1))))
    (Err PastEnd)

abbrev pub varint_at : List ℕ → ℕ → Result Varint VarintError
varint_at s at = varint_from 9 s at
