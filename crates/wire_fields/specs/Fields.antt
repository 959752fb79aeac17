-- A message's fields in their order, each with its place, and the last of some numbers among them.
-- Document 01: "A singular field given twice: the last one counts, embedded messages included. The same for the oneof of a
-- ClientMessage, ServerMessage or InfoMessage."
use Rattle.std.specs.Prelude.{ℕ, zero, suc, ◌-◌, List, [], ◌∷◌, Bool, Option, Some, None, Result, Ok, Err, length, ltb, leb, eqb}
use Rattle.base_laws.specs.Base.{pick, both}
use Rattle.wire_types.specs.declared.Refusal.{Refusal}
use Rattle.wire_types.specs.declared.Refused.{Refused}
use Rattle.wire_types.specs.declared.Span.{Span}
use Rattle.wire_varint.specs.Tag.{tag_at}
use Rattle.wire_varint.specs.declared.tag.Tag.{Tag}
use Rattle.wire_value.specs.Field.{payload_at}
use Rattle.wire_value.specs.declared.Payload.{Payload}
use Rattle.wire_value.specs.declared.Payload.TheVariants as payload
use Rattle.wire_fields.specs.declared.Field.{Field}
use Rattle.wire_fields.specs.declared.Field.TheVariants as field
use Rattle.wire_fields.specs.declared.Last.{Last}
use Rattle.wire_fields.specs.declared.Last.TheVariants as last

-- the field f with a value
unfoldable pub field_with : ℕ → Payload → Field
field_with f (payload.Number r) = field.Number f r.value r.next
field_with f (payload.Fixed n) = field.Fixed f n
field_with f (payload.Part p) = field.Part f p.start p.end

unfoldable pub field_of : ℕ → Result Payload Refused → Option Field
field_of f (Ok p) = Some (field_with f p)
field_of f (Err e) = None

unfoldable pub field_from : List ℕ → ℕ → Result Tag Refusal → Option Field
field_from s at (Ok t) = field_of t.number (payload_at s at t.next t.wire)
field_from s at (Err e) = None

-- the field at a place, where one can be read there
unfoldable pub field_at : List ℕ → ℕ → Option Field
field_at s at = field_from s at (tag_at s at)

-- the place behind a field
abbrev pub next_of : Field → ℕ
next_of (field.Number f v n) = n
next_of (field.Fixed f n) = n
next_of (field.Part f a e) = e

-- a field and those that follow it; none from a broken one on
unfoldable pub on_field : (ℕ → List Field) → Option Field → List Field
on_field go (Some e) = e ∷ go (next_of e)
on_field go None = []

unfoldable pub fields_from : ℕ → List ℕ → ℕ → List Field
fields_from zero s at = []
fields_from (suc k) s at = pick (ltb at (length s)) (on_field (fields_from k s) (field_at s at)) []

-- the fields from a place on: there are no more fields than bytes
unfoldable pub fields_at : List ℕ → ℕ → List Field
fields_at s at = fields_from (suc (length s - at)) s at

abbrev pub fields_of : List ℕ → List Field
fields_of s = fields_at s 0

-- is a number from lo to hi
unfoldable pub among : ℕ → ℕ → ℕ → Bool
among lo hi f = both (leb lo f) (leb f hi)

-- a field whose number is from lo to hi, else the one before. A fixed field holds no value of any message.
unfoldable pub later : ℕ → ℕ → Option Last → Field → Option Last
later lo hi l (field.Number f v n) = pick (among lo hi f) (Some (last.Number f v)) l
later lo hi l (field.Fixed f n) = l
later lo hi l (field.Part f a e) = pick (among lo hi f) (Some (last.Part f a e)) l

unfoldable pub last_of : ℕ → ℕ → Option Last → List Field → Option Last
last_of lo hi l [] = l
last_of lo hi l (e ∷ es) = last_of lo hi (later lo hi l e) es

-- the last field of a message whose number is from lo to hi
abbrev pub last_in : ℕ → ℕ → List ℕ → Option Last
last_in lo hi s = last_of lo hi None (fields_of s)

-- its number, 0 for none
unfoldable pub member_from : Option Last → ℕ
member_from None = 0
member_from (Some (last.Number f v)) = f
member_from (Some (last.Part f a e)) = f

-- the number that it holds, 0 for none
unfoldable pub number_from : Option Last → ℕ
number_from None = 0
number_from (Some (last.Number f v)) = v
number_from (Some (last.Part f a e)) = 0

-- where its bytes start and end: at 0 for none
unfoldable pub start_from : Option Last → ℕ
start_from None = 0
start_from (Some (last.Number f v)) = 0
start_from (Some (last.Part f a e)) = a

unfoldable pub end_from : Option Last → ℕ
end_from None = 0
end_from (Some (last.Number f v)) = 0
end_from (Some (last.Part f a e)) = e

abbrev pub number_in : ℕ → List ℕ → ℕ
number_in f s = number_from (last_in f f s)

abbrev pub span_in : ℕ → List ℕ → Span
span_in f s = record { start = start_from (last_in f f s); end = end_from (last_in f f s) }

-- the first field f that has bytes
unfoldable pub first_of : ℕ → List Field → Option Span
first_of f [] = None
first_of f (field.Number g v n ∷ fs) = first_of f fs
first_of f (field.Fixed g n ∷ fs) = first_of f fs
first_of f (field.Part g a e ∷ fs) = pick (eqb g f) (Some (record { start = a; end = e })) (first_of f fs)
