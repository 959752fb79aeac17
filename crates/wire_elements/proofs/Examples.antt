-- The definitions at a NumberList that is unpacked, packed and mixed with what is passed over.
use mathlib.Core.Path.{◌≡◌, refl}
use mathlib.Core.List.{List, [], ◌∷◌}
use Prim.Native.Nat.{ℕ}
use Rattle.wire_varint.specs.Varint.{varint_from}
use Rattle.wire_value.specs.Field.{number_read, as_number, as_part, part_of, payload_at}
use Rattle.wire_varint.specs.Tag.{tag_fits, tag_of, tag_at}
use Rattle.wire_fields.specs.Fields.{field_with, field_of, field_from, field_at, on_field, fields_from, fields_at}
use Rattle.wire_fields.specs.Items.{items, every_bytes}
use Rattle.wire_elements.specs.Elements.{elements_at, on_varint, varints_from, varints_at, numbers_of, numbers_at}

-- 5 alone, 1 and 300 packed, an empty packed part, field 2, 7 alone
mixed : List ℕ
mixed = 8 ∷ 5 ∷ 10 ∷ 3 ∷ 1 ∷ 172 ∷ 2 ∷ 10 ∷ 0 ∷ 16 ∷ 9 ∷ 8 ∷ 7 ∷ []

all_numbers : numbers_of (items mixed) ≡ 5 ∷ 1 ∷ 300 ∷ 7 ∷ []
unfolding mixed numbers_of items fields_at fields_from on_field field_at field_from field_of field_with tag_at tag_of tag_fits payload_at number_read as_number as_part part_of varint_from varints_at varints_from on_varint
all_numbers = refl

-- at the cursor past the packed 1
those_left : numbers_at mixed 5 7 ≡ 300 ∷ 7 ∷ []
unfolding mixed numbers_at numbers_of fields_at fields_from on_field field_at field_from field_of field_with tag_at tag_of tag_fits payload_at number_read as_number as_part part_of varint_from varints_at varints_from on_varint
those_left = refl

-- the strings "a" and "" of a StringList
strings : elements_at 1 (10 ∷ 1 ∷ 97 ∷ 10 ∷ 0 ∷ []) 0 ≡ (97 ∷ []) ∷ [] ∷ []
unfolding every_bytes fields_at fields_from on_field field_at field_from field_of field_with tag_at tag_of tag_fits payload_at number_read as_number as_part part_of varint_from
strings = refl
