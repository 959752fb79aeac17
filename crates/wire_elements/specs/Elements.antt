-- The elements of a message's lists: the bytes of every field of a number, and the numbers of a NumberList.
use Rattle.std.specs.Prelude.{ℕ, zero, suc, ◌-◌, List, [], ◌∷◌, ◌++◌, Option, Some, None, Result, Ok, Err, map, length, take, ltb, eqb}
use Rattle.base_laws.specs.Base.{pick}
use Rattle.wire_varint.specs.Varint.{varint_at}
use Rattle.wire_fields.specs.Fields.{fields_at}
use Rattle.wire_fields.specs.Items.{Item, none, number, bytes, item_of, every_bytes}
use Rattle.wire_fields.specs.declared.Field.{Field}
use Rattle.wire_fields.specs.declared.Field.TheVariants as field
use Rattle.wire_varint.specs.declared.Varint.{Varint}
use Rattle.wire_varint.specs.declared.VarintError.{VarintError}
use Rattle.wire_elements.specs.declared.Element.{Element}

-- the items from a place on
abbrev pub items_at : List ℕ → ℕ → List Item
items_at s at = map (item_of s) (fields_at s at)

-- the bytes of every field f from a place on
abbrev pub elements_at : ℕ → List ℕ → ℕ → List (List ℕ)
elements_at f s at = every_bytes f (items_at s at)

-- a varint and those that follow it; none from a broken one on
unfoldable pub on_varint : (ℕ → List ℕ) → Result Varint VarintError → List ℕ
on_varint go (Ok r) = r.value ∷ go r.next
on_varint go (Err e) = []

unfoldable pub varints_from : ℕ → List ℕ → ℕ → List ℕ
varints_from zero d at = []
varints_from (suc k) d at = on_varint (varints_from k d) (varint_at d at)

-- the varints from a place on: there are no more varints than bytes
unfoldable pub varints_at : List ℕ → ℕ → List ℕ
varints_at d at = varints_from (suc (length d - at)) d at

-- packed numbers
abbrev pub varints : List ℕ → List ℕ
varints d = varints_at d 0

-- the numbers of a NumberList, whose only field is 1. Document 01: "a list of numbers is read packed, unpacked or mixed".
unfoldable pub numbers_of : List Item → List ℕ
numbers_of [] = []
numbers_of (none ∷ is) = numbers_of is
numbers_of (number f v ∷ is) = pick (eqb f 1) (v ∷ numbers_of is) (numbers_of is)
numbers_of (bytes f d ∷ is) = pick (eqb f 1) (varints d ++ numbers_of is) (numbers_of is)

-- the numbers that are left at a cursor: what is left of the packed part that ends at `end`, then those of the fields that
-- follow it. A cursor at or past its end is in no packed part.
unfoldable pub numbers_at : List ℕ → ℕ → ℕ → List ℕ
numbers_at s at end = varints_at (take end s) at ++ numbers_of (items_at s (pick (ltb at end) end at))

-- ---- one number after the other, by a cursor

-- a number that was found, with the cursor past it
abbrev pub element : ℕ → ℕ → ℕ → Option Element
element v a e = Some (record { value = v; at = a; end = e })

-- the number of a varint in a part that ends at e, with the cursor past it; where it has none, what the fields that follow give
unfoldable pub first_in : ℕ → Option Element → Result Varint VarintError → Option Element
first_in e rest (Ok r) = element r.value r.next e
first_in e rest (Err d) = rest

-- the first number of some fields; one that is not packed is in no part, so its cursor is at its own end
unfoldable pub first_number : List ℕ → List Field → Option Element
first_number s [] = None
first_number s (field.Number f v n ∷ fs) = pick (eqb f 1) (element v n n) (first_number s fs)
first_number s (field.Fixed f n ∷ fs) = first_number s fs
first_number s (field.Part f a e ∷ fs) = pick (eqb f 1) (first_in e (first_number s fs) (varint_at (take e s) a)) (first_number s fs)

-- the next number at a cursor: of the packed part that it is in, else of the fields past it
unfoldable pub next_number : List ℕ → ℕ → ℕ → Option Element
next_number s at end = first_in end (first_number s (fields_at s (pick (ltb at end) end at))) (varint_at (take end s) at)

-- a number found, and those left at its cursor: of `next_number`, the numbers that were left before it (proofs/Numbers.antt: next_tells)
unfoldable pub told : List ℕ → Option Element → List ℕ
told s (Some x) = x.value ∷ numbers_at s x.at x.end
told s None = []
