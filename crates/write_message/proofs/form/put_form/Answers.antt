-- Each call's room is Forms.first_fits to last_fits, after the puts before it; the four puts together are Forms.put_between.
use Rattle.write_message.proofs.Forms.{Ready, first_fits, cover_fits, middle_fits, last_fits, put_between}
use Rattle.write_message.specs.Form.{first_pieces, middle, last_pieces}
use native.Mathlib.Omega.{arith}
use Rattle.write_message.proofs.form.put_form.Goals as goal
use Rattle.write_message.proofs.form.put_form.Goals.{Start}

ready : (c : Start) →
    let a = c.args in
    let inside = middle a.p.now a.list.now.joined.now a.list.now.ends.now in
    Ready (first_pieces a.p.now) (last_pieces a.p.now) a.p.now.inner inside a.n a.at a.out.now
ready c = record { middle_is = c.requires.n_value.0; room = c.requires.form_in_bounds }

pub put_first-a-requires : goal.put_first-a-requires
put_first-a-requires c = first_fits (ready (goal.at.put_first-a-requires c).Start)

pub put_cover-b-requires : goal.put_cover-b-requires
put_cover-b-requires c =
    cover_fits (ready (goal.at.put_cover-b-requires c).Start) c.put_first-a.ensures

pub put_middle-c-requires : goal.put_middle-c-requires
put_middle-c-requires c =
    let pre = c.requires in
    record { middle_len_bound = omega (arith, pre.n_value); middle_in_bounds = middle_fits (ready (goal.at.put_middle-c-requires c).Start) c.put_first-a.ensures c.put_cover-b.ensures }

pub put_last-requires : goal.put_last-requires
put_last-requires c =
    last_fits (ready (goal.at.put_last-requires c).Start) c.put_first-a.ensures c.put_cover-b.ensures c.put_middle-c.ensures

pub returns : goal.returns
returns c =
    put_between (ready (goal.at.returns c).Start) c.put_first-a.ensures c.put_cover-b.ensures
    c.put_middle-c.ensures c.put_last.ensures
