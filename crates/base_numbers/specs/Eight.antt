-- Numbers as bytes in a buffer.
use Rattle.std.specs.Prelude.{ℕ, ◌+◌, ◌*◌, ◌/◌, ◌%◌, List, [], ◌∷◌, ◌++◌, length, get_or, leb}
use Rattle.base_laws.specs.Base.{pick, splice}

-- a number as eight bytes, most significant first, and numbers one after the other
abbrev pub eight : ℕ → List ℕ
eight v =
    (v / 72057594037927936 % 256) ∷ (v / 281474976710656 % 256) ∷ (v / 1099511627776 % 256) ∷ (v / 4294967296 % 256)
    ∷ (v / 16777216 % 256) ∷ (v / 65536 % 256) ∷ (v / 256 % 256) ∷ (v % 256) ∷ []

unfoldable pub eights : List ℕ → List ℕ
eights [] = []
eights (v ∷ vs) = eight v ++ eights vs

-- a buffer with numbers laid at its start; as it was where they have no room
unfoldable pub laid : List ℕ → List ℕ → List ℕ
laid vs out = pick (leb (8 * length vs) (length out)) (splice out 0 (eights vs)) out

-- the number that the eight bytes from a place on are, most significant first
unfoldable pub number_at : List ℕ → ℕ → ℕ
number_at s at =
    get_or s at 0 * 72057594037927936 + get_or s (at + 1) 0 * 281474976710656 + get_or s (at + 2) 0 * 1099511627776
    + get_or s (at + 3) 0 * 4294967296 + get_or s (at + 4) 0 * 16777216 + get_or s (at + 5) 0 * 65536 + get_or s (at + 6) 0 * 256
    + get_or s (at + 7) 0
