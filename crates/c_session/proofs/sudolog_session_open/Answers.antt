-- Both cases are the answer of `save`, over what `open` ensures.
use mathlib.Core.Path.{sym, ap, ◌∙◌}
use Rattle.session.specs.declared.Session.{Session}
use Rattle.session_bytes.specs.Saved.{kept}
use Rattle.c_session.proofs.sudolog_session_open.Goals as goal

pub returns-then-save : goal.returns-then-save
returns-then-save c =
    let a = c.args in record { answer = rw (sym c.save.ensures.answer ∙ c.if-save.true); slice = c.save.ensures.slice ∙ ap (λ (x : Session). kept x a.slice.now) c.«open».ensures }

pub returns : goal.returns
returns c =
    let a = c.args in record { answer = rw (sym c.save.ensures.answer ∙ c.if-save.false); slice = c.save.ensures.slice ∙ ap (λ (x : Session). kept x a.slice.now) c.«open».ensures }
