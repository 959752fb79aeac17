-- Bytes beyond a message are beyond by Fields.text_least; none is Fields.text_none, any other Fields.length_text.
use Rattle.write_pieces.proofs.Fields.{text_least, text_none, length_text}
use Rattle.write_pieces.specs.Parts.{exact, beyond}
use native.Mathlib.Omega.{arith}
use lib.ListN.{length}
use mathlib.Core.Path.{sym, ap}
use Rattle.write_pieces.proofs.part.len_text.Goals as goal

pub returns-then-d-gt-MESSAGE_LIMIT : goal.returns-then-d-gt-MESSAGE_LIMIT
returns-then-d-gt-MESSAGE_LIMIT c = (beyond (omega arith) (omega (arith, text_least c.args.f c.args.d.now)), omega arith)

pub returns-then-d-eq0 : goal.returns-then-d-eq0
returns-then-d-eq0 c =
    (exact (ap length (sym (text_none c.args.f c.args.d.now c.if-d-eq0.true))), omega arith)

pub returns : goal.returns
returns c =
    (exact (omega (arith, length_text c.args.f c.args.d.now c.if-d-eq0.false)), omega arith)
