-- The middle between the pieces before and after it is Forms.like_between, by what the three lengths ensure.
use Rattle.write_message.proofs.Forms.{like_between}
use Rattle.write_message.specs.Form.{first_pieces, last_pieces}
use borrow.Author.Rules.{rules}
use Rattle.write_message.proofs.form.len_form.Goals as goal

pub returns : goal.returns
returns c =
    let a = c.args in
    let ps = first_pieces a.p.now in
    let qs = last_pieces a.p.now in
    let first = c.len_first.ensures.0 in
    let last = c.len_last.ensures.0 in
    (λ m h. like_between ps qs a.p.now.inner m first h c.len_cover.ensures.0 last, search rules)
