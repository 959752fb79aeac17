-- The lengths of the five pieces, each like its bytes, are added up by Lengths.like_append.
use Rattle.write_message.proofs.Forms.{like_piece}
use Rattle.write_pieces.specs.Parts.{time_piece, number_piece, stamp}
use Rattle.write_forms.specs.Pieces.{some}
use Rattle.write_pieces.proofs.Lengths.{like_append, like_end}
use borrow.Author.Rules.{rules}
use Rattle.write_message.proofs.form.len_first.Goals as goal

pub returns : goal.returns
returns c =
    let p = c.args.p.now in
    let time = like_piece (time_piece p.time (stamp p.stamp.seconds p.stamp.nanos)) c.len_time.ensures.0 in
    let one = like_piece (some 1 p.one) c.len_number.ensures.0 in
    let two = like_piece (number_piece p.always 2 p.two) c.len_number-2.ensures.0 in
    let texts = like_end c.len_text-2.ensures.0 in
    (like_append c.len_text.ensures.0 (like_append time (like_append one (like_append two texts))), search rules)
