-- The key's part is in bounds by `span_in_bounds`, and is the entry's key by `bytes_means`.
use Rattle.session_entries.specs.Required.{same_bytes, key_bytes}
use Rattle.wire_message.specs.Message.{Bytes}
use native.Mathlib.Omega.{arith}
use mathlib.Core.Path.{ap, ◌∙◌}
use Rattle.wire_message.specs.Message.{entry}
use Rattle.wire_fields.proofs.Follow.{span_in_bounds}
use Rattle.wire_fields.proofs.Items.{bytes_means}
use Rattle.session_entries.proofs.has_key.Goals as goal

pub slice_bounds-is_key-count : goal.slice_bounds-is_key-count
slice_bounds-is_key-count c = let s = c.args.s.now in rw c.part_in-start.ensures (span_in_bounds s 1).0

pub slice_bounds-is_key-start : goal.slice_bounds-is_key-start
slice_bounds-is_key-start c = let s = c.args.s.now in rw c.part_in-start.ensures (let h = span_in_bounds s 1 in omega arith)

pub slice_bounds-is_key-end : goal.slice_bounds-is_key-end
slice_bounds-is_key-end c = let s = c.args.s.now in rw c.part_in-start.ensures (let h = span_in_bounds s 1 in omega arith)

pub returns : goal.returns
unfolding entry
returns c = let a = c.args in
    (rw c.part_in-start.ensures at c.is_key.ensures) ∙ ap (λ (d : Bytes). same_bytes d (key_bytes a.k)) (bytes_means a.s.now 1)
