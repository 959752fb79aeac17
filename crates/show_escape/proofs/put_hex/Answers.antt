-- The backslash and the x, then the two digits, one behind the other: Puts.then.
use Rattle.base_copy.proofs.Puts.{then}
use Rattle.show_escape.proofs.put_hex.Goals as goal

pub returns : goal.returns
returns c =
    let high = rw c.hex_digit.ensures at c.put_char-low.ensures in
    let low = rw c.hex_digit-2.ensures at c.put_char.ensures in
    then c.put_letter-high.ensures (then high low)
