-- `sizes` splits the middle into its list, its numbers and its bytes: what is left of the room is each put's; Puts.then joins the three.
use Rattle.write_pieces.proofs.Fields.{text_least}
use Rattle.base_copy.proofs.Puts.{then}
use Rattle.write_message.specs.Form.{middle}
use Rattle.write_forms.specs.Draft.{cut_at}
use Rattle.write_forms.specs.Pieces.{elements, text, encode, packed}
use lib.ListN.{length, length-append}
use mathlib.Core.List.{◌++◌}
use mathlib.Core.Path.{◌≡◌}
use Prim.Native.Nat.{◌+◌}
use native.Mathlib.Omega.{arith}
use Rattle.write_message.proofs.form.put_middle.Goals as goal
use Rattle.write_message.proofs.form.put_middle.Goals.{Start}

-- how long the middle is
sizes : (c : Start) →
    let a = c.args in
    length (middle a.p.now a.list.now.joined.now a.list.now.ends.now)
    ≡ length (elements a.p.now.list (cut_at a.list.now.joined.now 0 a.list.now.ends.now)) + (length (encode (text 1 (packed a.p.now.numbers.now))) + length a.p.now.lent.now)
sizes c = let a = c.args in
    let list = elements a.p.now.list (cut_at a.list.now.joined.now 0 a.list.now.ends.now) in
    let numbers = encode (text 1 (packed a.p.now.numbers.now)) in
    omega (arith, length-append list (numbers ++ a.p.now.lent.now), length-append numbers a.p.now.lent.now)

pub put_list-a-requires : goal.put_list-a-requires
put_list-a-requires c =
    omega (arith, sizes (goal.at.put_list-a-requires c).Start)

pub put_numbers-b-requires : goal.put_numbers-b-requires
put_numbers-b-requires c =
    record { numbers_len_bound = omega (arith, sizes (goal.at.put_numbers-b-requires c).Start, text_least 1 (packed c.args.p.now.numbers.now)); numbers_in_bounds = omega (arith, sizes (goal.at.put_numbers-b-requires c).Start) }

pub put_raw-requires : goal.put_raw-requires
put_raw-requires c =
    omega (arith, sizes (goal.at.put_raw-requires c).Start)

pub returns : goal.returns
returns c =
    then c.put_list-a.ensures (then c.put_numbers-b.ensures c.put_raw.ensures)
