-- Where two lists of bytes part.
use Rattle.std.specs.Prelude.{ℕ, suc, ◌+◌, ◌<◌, ◌≡◌, List, [], ◌∷◌, get_or, eqb}
use Rattle.base_laws.specs.Base.{pick}

-- Request 9 of document 02: "the first differing offset .., the shorter length where one is the other's beginning"
unfoldable pub parting : List ℕ → List ℕ → ℕ
parting [] ys = 0
parting (x ∷ xs) [] = 0
parting (x ∷ xs) (y ∷ ys) = pick (eqb x y) (suc (parting xs ys)) 0

-- Inner, of a block of the code: the n bytes from a place on are the same in both. An auditor can skip it.
abbrev pub Agree : List ℕ → List ℕ → ℕ → ℕ → Type 0
Agree a b at n = (i : ℕ) → i < n → get_or a (at + i) 0 ≡ get_or b (at + i) 0
