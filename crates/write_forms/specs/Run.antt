-- A run of entries, read before it is written. Document 01: "Accepts, rejects and alerts are written from their own fields and
-- a run of entries written before: tagged `info_msgs` fields of that message. The run is read first and gets its reader's
-- refusal; another field in it is 4 at its tag, ordered by place; otherwise it is copied unchanged."
use Rattle.std.specs.Prelude.{ℕ, zero, suc, ◌-◌, List, Result, Ok, Err, length, ltb, eqb}
use Rattle.base_laws.specs.Base.{pick, part}
use Rattle.wire_types.specs.Refusals.{at_place}
use Rattle.wire_types.specs.declared.Refusal.{Refusal}
use Rattle.wire_types.specs.declared.Refusal.TheVariants as refusal
use Rattle.wire_types.specs.declared.Refused.{Refused}
use Rattle.wire_types.specs.declared.Span.{Span}
use Rattle.wire_schema.specs.Schema.{InfoMessage}
use Rattle.wire_varint.specs.Varint.{varint_at}
use Rattle.wire_value.specs.Field.{part_of}
use Rattle.wire_varint.specs.Tag.{tag_at}
use Rattle.wire_varint.specs.declared.tag.Tag.{Tag}
use Rattle.wire_check_field.specs.Check.{before, check_of}
use Rattle.wire_fields.specs.Items.{items}
use Rattle.wire_message.specs.Message.{entries}
use Rattle.wire_range.specs.Limits.{entries_fit}
use Rattle.wire.specs.Read.{check_number}

-- where the bytes of an entry are, by its tag: another field is 4, another wire type 5, both at the tag
unfoldable pub entry_of : ℕ → List ℕ → ℕ → Result Tag Refusal → Result Span Refused
entry_of f s at (Ok t) =
    pick (eqb t.number f) (pick (eqb t.wire 2) (part_of s t.next (varint_at s t.next)) (Err (at_place refusal.WireType at))) (Err (at_place refusal.Tag at))
entry_of f s at (Err r) = Err (at_place r at)

-- where the bytes of the entry at a place of a run of fields f are
unfoldable pub entry_at : ℕ → List ℕ → ℕ → Result Span Refused
entry_at f s at = entry_of f s at (tag_at s at)

-- an entry, and the check `go` of what follows it: an InfoMessage, read within its own bytes
unfoldable pub on_entry : (ℕ → Result Unit Refused) → List ℕ → Result Span Refused → Result Unit Refused
on_entry go s (Ok p) = before p.start (check_of InfoMessage (part s p.start p.end)) (go p.end)
on_entry go s (Err r) = Err r

unfoldable pub run_from : ℕ → ℕ → List ℕ → ℕ → Result Unit Refused
run_from zero f s at = Ok tt
run_from (suc k) f s at = pick (ltb at (length s)) (on_entry (run_from k f s) s (entry_at f s at)) (Ok tt)

-- the check of a run of fields f from a place on: there are no more fields than bytes
unfoldable pub run_at : ℕ → List ℕ → ℕ → Result Unit Refused
run_at f s at = run_from (suc (length s - at)) f s at

-- the refusal of a run, 0 for none: 2 to 5 by the leftmost place, then 7 where an entry is out of range
unfoldable pub run_refusal : ℕ → List ℕ → ℕ
run_refusal f s = check_number (run_at f s 0) (pick (entries_fit (entries f (items s))) 0 7)
