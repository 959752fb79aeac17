-- Recorded bytes as text for people: 32 to 126 as they are, but `\` as `\\`; 10, 13, 9 as `\n`, `\r`, `\t`; all else as `\xHH`.
use Rattle.std.specs.Prelude.{ℕ, ◌+◌, ◌-◌, ◌/◌, ◌%◌, List, [], ◌∷◌, ◌++◌, Bool, Option, Some, None, length, ltb, leb, eqb}
use Prim.Native.Char.{code}
use Rattle.base_laws.specs.Base.{pick, both, splice}

-- ---- the text

abbrev pub backslash : ℕ
backslash = 92

-- 0 to 9, then A to F
abbrev pub hex_digit : ℕ → ℕ
hex_digit d = pick (ltb d 10) (code "0" + d) (code "A" + (d - 10))

-- one byte
unfoldable pub escaped_byte : ℕ → List ℕ
escaped_byte b =
    pick (eqb b backslash) (backslash ∷ backslash ∷ [])
    (pick (both (leb 32 b) (leb b 126)) (b ∷ [])
    (pick (eqb b 10) (backslash ∷ code "n" ∷ [])
    (pick (eqb b 13) (backslash ∷ code "r" ∷ [])
    (pick (eqb b 9) (backslash ∷ code "t" ∷ [])
    (backslash ∷ code "x" ∷ hex_digit (b / 16) ∷ hex_digit (b % 16) ∷ [])))))

-- all bytes, one after the other
unfoldable pub escaped : List ℕ → List ℕ
escaped [] = []
escaped (b ∷ bs) = escaped_byte b ++ escaped bs

-- ---- the text in a lent buffer

-- is there room: in the buffer, and for the length in 32 bits
unfoldable pub text_fits : List ℕ → List ℕ → Bool
text_fits text out = both (leb (length text) (length out)) (leb (length text) 4294967295)

-- what is answered, and the buffer afterwards: unchanged where there is no room
unfoldable pub escape_answer : List ℕ → List ℕ → Option ℕ
escape_answer bytes out = pick (text_fits (escaped bytes) out) (Some (length (escaped bytes))) None

unfoldable pub escape_out : List ℕ → List ℕ → List ℕ
escape_out bytes out = pick (text_fits (escaped bytes) out) (splice out 0 (escaped bytes)) out
