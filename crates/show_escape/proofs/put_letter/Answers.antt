-- Two characters, one behind the other: Puts.then.
use Rattle.base_copy.proofs.Puts.{then}
use Rattle.show_escape.proofs.put_letter.Goals as goal

pub returns : goal.returns
returns c =
    then c.put_char-a.ensures c.put_char.ensures
