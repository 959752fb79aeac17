-- Bytes copied into a lent area.
use Rattle.std.specs.Prelude.{ℕ, ◌+◌, List, Bool, length, leb}
use Rattle.base_laws.specs.Base.{pick, splice}

-- is there room for the bytes from `at` on
unfoldable pub fits : List ℕ → ℕ → List ℕ → Bool
fits area at bytes = leb (at + length bytes) (length area)

-- the area afterwards: unchanged where they do not fit
unfoldable pub copied : List ℕ → ℕ → List ℕ → List ℕ
copied area at bytes = pick (fits area at bytes) (splice area at bytes) area
