-- Hands the key's length, by `length_part`, and the number 4 of `key_number` to `other_passes`.
use native.Mathlib.Omega.{arith}
use mathlib.Core.Path.{sym, ◌∙◌}
use Rattle.base_laws.proofs.Parts.{length_part}
use Rattle.session_fast_accept.proofs.KeyLaws.{other_passes}
use Rattle.session_fast_accept.proofs.other_seen.Goals as goal

pub returns-then-key_number-eq4 : goal.returns-then-key_number-eq4
returns-then-key_number-eq4 c = let a = c.args in
    let l = length_part a.s.now 2 a.key (omega arith) (omega arith) in
    other_passes _ (omega arith) (sym c.key_number.ensures ∙ c.if-key_number-eq4.true)
