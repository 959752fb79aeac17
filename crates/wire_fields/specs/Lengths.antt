-- A length and its bytes, as the fast paths look for them.
-- These are inner definitions: they follow the code, and no sentence of document 01. An auditor can skip them, since the contracts
-- above the fast paths do not cite them. What proves them against the general `part_of` (crates/wire_value/specs/Field.antt):
-- crates/wire_fields/proofs/Lengths.antt: `found_part`.
use Rattle.std.specs.Prelude.{Option, Some, None, Result, Ok, Err}
use Rattle.wire_types.specs.declared.Refused.{Refused}
use Rattle.wire_types.specs.declared.Span.{Span}

-- the bytes that a length has; nothing where it is refused
unfoldable pub found_of : Result Span Refused → Option Span
found_of (Ok p) = Some p
found_of (Err e) = None
