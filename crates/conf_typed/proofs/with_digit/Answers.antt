-- The sum fits since the number is at most 2^32 and a digit at most 9; the least of two is the test of the definition `capped`.
use Prim.Native.Nat.{ℕ, ◌+◌, ◌*◌, ◌-◌, min}
use mathlib.Core.Path.{ap, ◌∙◌}
use Rattle.conf_typed.specs.Read.{capped}
use Rattle.conf_typed.proofs.Numbers.{least}
use Rattle.conf_typed.proofs.with_digit.Goals as goal

pub returns : goal.returns
unfolding capped
returns c =
    let a = c.args in
    c.min.ensures ∙ ap (λ (x : ℕ). min (a.v * 10 + x) 4294967296) c.from.ensures ∙ least (a.v * 10 + (a.b - 48)) 4294967296
