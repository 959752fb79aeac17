-- The refusals are the cases of Outcomes; where there is room, Forms.exact_between makes the lengths exact, and the three puts are Outcomes.written.
use Rattle.write_message.proofs.Outcomes.{Fits, run_refused, out_of_range, no_room, written, room_fits, like_wrapped, put_wrapped}
use Rattle.write_message.proofs.Members.{not_in_range, beyond_a_byte, in_range}
use Rattle.write_message.proofs.Forms.{Exact, exact_between}
use Rattle.write_message.specs.Form.{first_pieces, last_pieces, middle, form_pieces}
use Rattle.write_pieces.specs.Parts.{Like}
use Rattle.write_forms.specs.Draft.{wrapped}
use Rattle.write_forms.specs.Pieces.{encode_all}
use Rattle.std.proofs.lemmas.Result.{err_from_is_err_and}
use lib.ListN.{length}
use native.Mathlib.Omega.{arith}
use mathlib.Core.Path.{sym, ◌∙◌}
use Prim.Native.Nat.{◌+◌}
use Rattle.write_message.proofs.write.lay_message.Goals as goal
use Rattle.write_message.proofs.write.lay_message.Goals.{After-len_cover, In_ok-room_for}

-- what the length of all stands for
message_like : (c : After-len_cover) →
    let p = c.args.p.now in
    let m = middle p c.args.list.now.joined.now c.args.list.now.ends.now in
    Like (c.len_cover.result + c.len_form-n.result) (wrapped c.args.member (form_pieces p m))
message_like c =
    let p = c.args.p.now in
    let m = middle p c.args.list.now.joined.now c.args.list.now.ends.now in
    let cover_length = rw c.in-Ok.ensures.1 at c.len_cover.ensures.0 in
    like_wrapped c.args.member (form_pieces p m) (c.len_form-n.ensures.0 m c.len_middle-inner.ensures.0) cover_length

room : (c : In_ok-room_for) → Fits c.args.framed (c.len_cover.result + c.len_form-n.result) (length c.args.out.now)
room c = room_fits _ _ _ (sym c.in_ok-room_for.was ∙ c.room_for.ensures)

lengths : (c : In_ok-room_for) →
    let p = c.args.p.now in
    let m = middle p c.args.list.now.joined.now c.args.list.now.ends.now in
    Exact c.len_form-n.result c.len_middle-inner.result (encode_all (form_pieces p m)) m
lengths c =
    let p = c.args.p.now in
    let m = middle p c.args.list.now.joined.now c.args.list.now.ends.now in
    let form = c.len_form-n.ensures.0 m c.len_middle-inner.ensures.0 in
    exact_between (first_pieces p) (last_pieces p) p.inner m form (omega (arith, (room c).short)) c.len_middle-inner.ensures.0

pub returns-then-run-ne0 : goal.returns-then-run-ne0
returns-then-run-ne0 c = run_refused c.if-run-ne0.true

pub returns-then-not-fits : goal.returns-then-not-fits
returns-then-not-fits c = out_of_range c.if-run-ne0.false (not_in_range c.args.fits _ c.if-not-fits.true)

pub returns-in_default : goal.returns-in_default
returns-in_default c =
    out_of_range c.if-run-ne0.false (beyond_a_byte c.args.fits c.args.member (omega (arith, c.in_default.ensures)))

pub returns-in_err-room_for : goal.returns-in_err-room_for
returns-in_err-room_for c =
    let p = err_from_is_err_and c.from_residual.result c.from_residual.ensures.1 in
    let fits = in_range c.args.fits c.args.member c.if-not-fits.false c.in-Ok.ensures.0 in
    let like = message_like (goal.at.returns-in_err-room_for c).After-len_cover in
    rw (p.1, p.2) (no_room c.if-run-ne0.false fits like (sym c.in_err-room_for.was ∙ c.room_for.ensures))

pub put_front-a-requires : goal.put_front-a-requires
put_front-a-requires c = omega (arith, (room (goal.at.put_front-a-requires c).In_ok-room_for).within)

pub put_cover-b-requires : goal.put_cover-b-requires
put_cover-b-requires c = omega (arith, (room (goal.at.put_cover-b-requires c).In_ok-room_for).within)

pub put_form-requires-clause-n_value : goal.put_form-requires-clause-n_value
put_form-requires-clause-n_value c =
    let n = lengths (goal.at.put_form-requires-clause-n_value c).In_ok-room_for in (n.middle_is, n.short)

pub put_form-requires-clause-form_in_bounds : goal.put_form-requires-clause-form_in_bounds
put_form-requires-clause-form_in_bounds c =
    let at = (goal.at.put_form-requires-clause-form_in_bounds c).In_ok-room_for in
    omega (arith, (room at).within, (lengths at).whole_is)

pub returns : goal.returns
returns c =
    let p = c.args.p.now in
    let m = middle p c.args.list.now.joined.now c.args.list.now.ends.now in
    let fits = in_range c.args.fits c.args.member c.if-not-fits.false c.in-Ok.ensures.0 in
    let cover = rw c.in-Ok.ensures.1 at c.put_cover-b.ensures in
    let put = put_wrapped c.args.member (form_pieces p m) (lengths (goal.at.returns c).In_ok-room_for).whole_is cover c.put_form.ensures in
    let like = message_like (goal.at.returns c).After-len_cover in
    written c.if-run-ne0.false fits like (sym c.in_ok-room_for.was ∙ c.room_for.ensures) c.put_front-a.ensures put
