-- Notions that all definitions share: a choice by a test, a part of a list, bytes laid over others, what holds of all elements.
use Rattle.std.specs.Prelude.{ℕ, ◌+◌, ◌-◌, List, [], ◌∷◌, ◌++◌, Bool, true, false, length, take, drop}

-- the first where the test holds, else the second
abbrev pub pick : {A : Type 0} → Bool → A → A → A
pick true a b = a
pick false a b = b

-- do both tests hold
abbrev pub both : Bool → Bool → Bool
both true b = b
both false b = false

-- the elements from place a up to place e
abbrev pub part : {A : Type 0} → List A → ℕ → ℕ → List A
part s a e = take (e - a) (drop a s)

-- a list with bs in place of as many elements from `at` on
unfoldable pub splice : {A : Type 0} → List A → ℕ → List A → List A
splice s at bs = take at s ++ bs ++ drop (at + length bs) s

-- P holds of every element
abbrev pub All : {A : Type 0} → (A → Type 0) → List A → Type 0
All P [] = Unit {0}
All P (x ∷ xs) = P x × All P xs
