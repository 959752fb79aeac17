-- Hands what `types_fit` and `missing_key` ensure to `entries_refusal` and `named_key`.
use mathlib.Core.Path.{sym, ◌∙◌}
use borrow.Author.Tests.{ne_eqb}
use Rattle.session_entries.specs.Required.{entries_refusal}
use Rattle.session_entries.proofs.entries_refusal.Goals as goal

pub returns-then-not-types_fit : goal.returns-then-not-types_fit
unfolding entries_refusal
returns-then-not-types_fit c = let t = sym c.if-not-types_fit.ensures in record { refusal = rw t; key = rw t }

pub returns-then-k-eq4 : goal.returns-then-k-eq4
unfolding entries_refusal
returns-then-k-eq4 c =
    let t = sym c.if-not-types_fit.ensures in
    let k = sym c.missing_key-k.ensures ∙ c.if-k-eq4.true in
    record { refusal = rw (t, k); key = rw (t, k) }

pub returns : goal.returns
unfolding entries_refusal
returns c =
    let t = sym c.if-not-types_fit.ensures in
    let m = c.missing_key-k.ensures in
    let k = ne_eqb _ 4 c.if-k-eq4.false in
    record { refusal = rw (t, ← m, k); key = rw (t, ← m, k) }
