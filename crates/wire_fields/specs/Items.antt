-- A message's fields by what they hold, without their places: what the messages' values are made of.
use Rattle.std.specs.Prelude.{ℕ, List, [], ◌∷◌, map, eqb}
use Rattle.base_laws.specs.Base.{pick, part}
use Rattle.wire_fields.specs.Fields.{fields_of, among}
use Rattle.wire_fields.specs.declared.Field.{Field}
use Rattle.wire_fields.specs.declared.Field.TheVariants as field

-- a field's number with its value: a number, or bytes (a string, an embedded message, packed numbers). A fixed field holds
-- no value of any message.
pub data Item : Type 0 where
  none : Item
  number : ℕ → ℕ → Item
  bytes : ℕ → List ℕ → Item

abbrev pub item_of : List ℕ → Field → Item
item_of s (field.Number f v n) = number f v
item_of s (field.Fixed f n) = none
item_of s (field.Part f a e) = bytes f (part s a e)

unfoldable pub items : List ℕ → List Item
items s = map (item_of s) (fields_of s)

-- the last item whose number is from lo to hi, else the one before
unfoldable pub last_from : ℕ → ℕ → Item → List Item → Item
last_from lo hi l [] = l
last_from lo hi l (none ∷ is) = last_from lo hi l is
last_from lo hi l (number f v ∷ is) = last_from lo hi (pick (among lo hi f) (number f v) l) is
last_from lo hi l (bytes f d ∷ is) = last_from lo hi (pick (among lo hi f) (bytes f d) l) is

abbrev pub last_item : ℕ → ℕ → List Item → Item
last_item lo hi is = last_from lo hi none is

-- an item's number; bytes have none, nor has what is absent
unfoldable pub number_of : Item → ℕ
number_of none = 0
number_of (number f v) = v
number_of (bytes f d) = 0

-- an item's bytes: none for what is absent
unfoldable pub bytes_of : Item → List ℕ
bytes_of none = []
bytes_of (number f v) = []
bytes_of (bytes f d) = d

-- the bytes of every field f, in order
unfoldable pub every_bytes : ℕ → List Item → List (List ℕ)
every_bytes f [] = []
every_bytes f (none ∷ is) = every_bytes f is
every_bytes f (number g v ∷ is) = every_bytes f is
every_bytes f (bytes g d ∷ is) = pick (eqb g f) (d ∷ every_bytes f is) (every_bytes f is)
