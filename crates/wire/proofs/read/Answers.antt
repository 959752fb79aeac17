-- What decode refuses stands (Decoded); where it refuses nothing, in_range decides.
use mathlib.Core.Path.{sym, ◌∙◌}
use Rattle.std.proofs.lemmas.Result.{err_from_is_err_and}
use Rattle.wire.proofs.Decoded.{refused_too, ranged_then}
use Rattle.wire.proofs.read.Goals as goal

pub returns-in_err-decode : goal.returns-in_err-decode
returns-in_err-decode c =
    let p = err_from_is_err_and c.from_residual.result c.from_residual.ensures.1 in
    let a = c.args in
    rw (p.1, p.2) (refused_too a.message a.s.now _ _ c.decode.ensures c.in_err-decode.was)

pub returns-then-in_range : goal.returns-then-in_range
returns-then-in_range c =
    let a = c.args in
    rw (sym c.in_range.ensures ∙ c.if-in_range.true) at (ranged_then a.message a.s.now _ _ c.decode.ensures c.in_ok-decode.was)

pub returns : goal.returns
returns c =
    let a = c.args in
    rw (sym c.in_range.ensures ∙ c.if-in_range.false) at (ranged_then a.message a.s.now _ _ c.decode.ensures c.in_ok-decode.was)
