-- The loop keeps Texts.Counting: what the bytes before its place leave of `most`; a turn is count_more, a text too long count_long, the end count_end.
use Rattle.show_escape.proofs.Texts.{Counting}
use Rattle.show_escape.proofs.fits_in.Given as goal

abbrev pub invariant-loop-b : goal.invariant-loop-b
invariant-loop-b l = Counting l.bytes l.most l.left l.b-index
