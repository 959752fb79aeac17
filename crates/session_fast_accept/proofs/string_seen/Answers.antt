-- Hands the key's length, by `length_part`, and what `key_number` ensures to `string_passes`.
use native.Mathlib.Omega.{arith}
use Rattle.base_laws.proofs.Parts.{length_part}
use Rattle.session_fast_accept.proofs.KeyLaws.{string_passes}
use Rattle.session_fast_accept.proofs.string_seen.Goals as goal

pub returns-then-key-gt2 : goal.returns-then-key-gt2
returns-then-key-gt2 c =
    let a = c.args in
    let l = length_part a.s.now 2 a.key (omega arith) (omega arith) in
    rw c.key_number.ensures (string_passes _ (omega arith))
