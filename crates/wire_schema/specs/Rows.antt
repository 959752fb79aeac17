-- The schema as the code holds it: the kinds of a message's fields 0 to 7, and 8 to 15, as one number each, a byte for a
-- field, the first lowest.
-- These are inner definitions: they follow the code, and no sentence of document 01. An auditor can skip them, since the contract of
-- `kind_of` (crates/wire_schema/src/lib.rt) is the general `kind_of` (crates/wire_schema/specs/Schema.antt). What proves them against it:
-- crates/wire_schema/proofs/Rows.antt: `kind_in_lem`.
use Rattle.std.specs.Prelude.{ℕ, ◌-◌, ◌*◌, ◌/◌, ◌%◌, ◌^◌, List, [], ◌∷◌, get_or, ltb, eqb}
use Rattle.base_laws.specs.Base.{pick}

unfoldable pub lows : List ℕ
lows =
    1591482694285529344 ∷ 52107776 ∷ 453253632 ∷ 4415276849664 ∷ 1704960 ∷ 453253632 ∷ 334336 ∷ 33692160 ∷ 268800 ∷ 1024 ∷ 131328 ∷ 32006163465216 ∷ 1024 ∷ 8192 ∷ 4415295201024 ∷ 12952273920 ∷ []

unfoldable pub low_of : ℕ → ℕ
low_of m = get_or lows m 0

-- only a ClientMessage has a field above 7
unfoldable pub high_of : ℕ → ℕ
high_of m = pick (eqb m 0) 27591257232918 0

unfoldable pub kind_in : ℕ → ℕ → ℕ → ℕ
kind_in l h n = pick (ltb n 8) (l / 2 ^ (8 * n) % 256) (pick (ltb n 16) (h / 2 ^ (8 * (n - 8)) % 256) 0)
