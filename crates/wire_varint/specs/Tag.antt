-- Tags: the field number and the wire type of a field.
use Rattle.std.specs.Prelude.{ℕ, ◌/◌, ◌%◌, List, Bool, true, Result, Ok, Err, leb, eqb}
use Rattle.base_laws.specs.Base.{pick, both}
use Rattle.wire_types.specs.declared.Refusal.{Refusal}
use Rattle.wire_types.specs.declared.Refusal.TheVariants as refusal
use Rattle.wire_varint.specs.Varint.{varint_at}
use Rattle.wire_varint.specs.declared.Varint.{Varint}
use Rattle.wire_varint.specs.declared.VarintError.{VarintError}
use Rattle.wire_varint.specs.declared.tag.Tag.{Tag}

-- Document 01: "A tag is a varint of at most 4,294,967,295; field number is tag / 8 and at least 1; wire types 0, 1, 2 and
-- 5 are known, others refused."
unfoldable pub tag_fits : ℕ → Bool
tag_fits v = both (leb v 4294967295) (both (leb 1 (v / 8)) (pick (leb (v % 8) 2) true (eqb (v % 8) 5)))

-- 2: "varint longer than allowed, or past the end of its part"; 4: "bad tag or wire type"
unfoldable pub tag_of : Result Varint VarintError → Result Tag Refusal
tag_of (Ok r) = pick (tag_fits r.value) (Ok (record { number = r.value / 8; wire = r.value % 8; next = r.next })) (Err refusal.Tag)
tag_of (Err e) = Err refusal.Varint

unfoldable pub tag_at : List ℕ → ℕ → Result Tag Refusal
tag_at s at = tag_of (varint_at s at)
