-- What a function that puts bytes at a place promises its callers.
use Rattle.std.specs.Prelude.{ℕ, ◌+◌, ◌≤◌, ◌≡◌, List, length}
use Rattle.base_laws.specs.Base.{splice}

-- bytes put into a list at a place: the list afterwards, and the place after them
pub record Put (s : List ℕ) (at : ℕ) (bs : List ℕ) (s' : List ℕ) (at' : ℕ) : Type 0 where
  pub list : s' ≡ splice s at bs
  pub next : at' ≡ at + length bs
  pub fits : at' ≤ length s
