-- The words of a line, as bytes. Texts in quotes are the page's wording (docs/DECISIONS.md, replay).
use Rattle.std.specs.Prelude.{ℕ, zero, suc, ◌+◌, ◌/◌, ◌%◌, List, [], ◌∷◌, ◌++◌, ltb}
use Prim.Native.Char.{code}
use Prim.Native.String.{String, [] as nothing, ◌∷◌ as ◌before◌}
use Rattle.base_laws.specs.Base.{pick}

abbrev pub text : String → List ℕ
text nothing = []
text (c before s) = code c ∷ text s

-- ---- numbers

abbrev pub digit : ℕ → ℕ
digit d = 48 + d

-- a number in decimal, no leading zeros, of at most k digits
unfoldable pub decimal_digits : ℕ → ℕ → List ℕ
decimal_digits zero n = []
decimal_digits (suc k) n = pick (ltb n 10) (digit n ∷ []) (decimal_digits k (n / 10) ++ (digit (n % 10) ∷ []))

-- a number of 64 bits has at most 20 digits
unfoldable pub decimal : ℕ → List ℕ
decimal n = decimal_digits 20 n

-- nanoseconds, nine digits
abbrev pub nine : ℕ → List ℕ
nine n =
    digit (n / 100000000 % 10) ∷ digit (n / 10000000 % 10) ∷ digit (n / 1000000 % 10) ∷ digit (n / 100000 % 10)
    ∷ digit (n / 10000 % 10) ∷ digit (n / 1000 % 10) ∷ digit (n / 100 % 10) ∷ digit (n / 10 % 10) ∷ digit (n % 10) ∷ []
