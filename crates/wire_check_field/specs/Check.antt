-- The check of a whole message, by the one schema. Document 01's order: "2 to 5 by the leftmost place, depth first,
-- overwritten members included, at one tag 4 before 5".
use Rattle.std.specs.Prelude.{ℕ, zero, suc, ◌-◌, List, Result, Ok, Err, length, ltb, leb, eqb}
use Rattle.base_laws.specs.Base.{pick, part}
use Rattle.wire_types.specs.Refusals.{at_place, within}
use Rattle.wire_types.specs.declared.Refused.{Refused}
use Rattle.wire_types.specs.declared.Refusal.{Refusal}
use Rattle.wire_types.specs.declared.Refusal.TheVariants as refusal
use Rattle.wire_varint.specs.Varint.{varint_at}
use Rattle.wire_value.specs.Field.{number_read, as_number, payload_at}
use Rattle.wire_varint.specs.Tag.{tag_at}
use Rattle.wire_schema.specs.Schema.{kind_of, takes}
use Rattle.wire_varint.specs.declared.tag.Tag.{Tag}
use Rattle.wire_value.specs.declared.Payload.{Payload}
use Rattle.wire_value.specs.declared.Payload.TheVariants as payload
use Rattle.wire_check_field.specs.declared.Step.{Step}
use Rattle.wire_check_field.specs.declared.Step.TheVariants as step

-- ---- one field

-- what a value means to the check: an embedded message, or packed numbers, are looked into
unfoldable pub step_of : ℕ → Payload → Step
step_of k (payload.Number v) = step.Next v.next
step_of k (payload.Fixed n) = step.Next n
step_of k (payload.Part p) = pick (leb 16 k) (step.Inside (k - 16) p.start p.end) (step.Next p.end)

-- the same of a value that was read; what is refused stays refused
unfoldable pub step_read : ℕ → Result Payload Refused → Result Step Refused
step_read k (Ok p) = Ok (step_of k p)
step_read k (Err r) = Err r

-- a field of the message m by its tag: at one tag 4 goes before 5, and 5 before what fails in the value
unfoldable pub step_from : ℕ → List ℕ → ℕ → Result Tag Refusal → Result Step Refused
step_from m s at (Ok t) =
    pick (takes (kind_of m t.number) t.wire) (step_read (kind_of m t.number) (payload_at s at t.next t.wire)) (Err (at_place refusal.WireType at))
step_from m s at (Err r) = Err (at_place r at)

-- packed numbers, message 16, have a varint where other messages have a field
unfoldable pub step_at : ℕ → List ℕ → ℕ → Result Step Refused
step_at m s at = pick (eqb m 16) (step_read 0 (as_number (number_read at (varint_at s at)))) (step_from m s at (tag_at s at))

-- ---- all of them

-- what the part from a on refuses, by its place in the whole; else what the rest gives
unfoldable pub before : ℕ → Result Unit Refused → Result Unit Refused → Result Unit Refused
before a (Ok fine) rest = rest
before a (Err r) rest = Err (within a r)

-- what follows a field, by the check `go` of the fields from a place on. Document 01: "An embedded message is read within
-- its own bytes and no others."
unfoldable pub on_step : (ℕ → List ℕ → ℕ → Result Unit Refused) → ℕ → List ℕ → Result Step Refused → Result Unit Refused
on_step go m s (Ok (step.Next n)) = go m s n
on_step go m s (Ok (step.Inside i a e)) = before a (go i (part s a e) 0) (go m s e)
on_step go m s (Err r) = Err r

-- the check of at most k fields, one within the other or one after the other
unfoldable pub check_from : ℕ → ℕ → List ℕ → ℕ → Result Unit Refused
check_from zero m s at = Ok tt
check_from (suc k) m s at = pick (ltb at (length s)) (on_step (check_from k) m s (step_at m s at)) (Ok tt)

-- the check of the fields of the message m from a place on: there are no more fields than bytes
unfoldable pub check_at : ℕ → List ℕ → ℕ → Result Unit Refused
check_at m s at = check_from (suc (length s - at)) m s at

-- the check of the message m
abbrev pub check_of : ℕ → List ℕ → Result Unit Refused
check_of m s = check_at m s 0
