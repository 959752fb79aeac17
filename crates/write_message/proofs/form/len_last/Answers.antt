-- The lengths of the four pieces, each like its bytes, are added up by Lengths.like_append.
use Rattle.write_message.proofs.Forms.{like_piece}
use Rattle.write_forms.specs.Pieces.{some}
use Rattle.write_pieces.proofs.Lengths.{like_append, like_end}
use borrow.Author.Rules.{rules}
use Rattle.write_message.proofs.form.len_last.Goals as goal

pub returns : goal.returns
returns c =
    let p = c.args.p.now in
    let three = like_piece (some 3 p.three) c.len_number.ensures.0 in
    let four = like_piece (some 4 p.four) c.len_number-2.ensures.0 in
    let last = like_end c.len_text-2.ensures.0 in
    (like_append three (like_append c.len_text.ensures.0 (like_append four last)), search rules)
