-- Invariant: the rest of the span against the rest of the word decides. A pair of bytes is Words.word_next or word_other, the end
-- word_done; the line cannot end before the span does.
use native.Mathlib.Omega.{arith}
use mathlib.Core.Path.{sym, subst, ◌∙◌}
use Rattle.conf_lines.specs.Scan.{Stepped}
use Prim.Native.Nat.{◌<◌}
use Rattle.conf_lines.specs.Span.{joined_from}
use Rattle.conf_typed.proofs.Reading.{reads_on, rest_next, rest_none}
use Rattle.conf_typed.proofs.Words.{other_length, word_other, word_next, word_done}
use Rattle.conf_typed.proofs.is_word.Goals as goal

pub returns-then-p-word : goal.returns-then-p-word
returns-then-p-word c =
    let a = c.args in
    let within = c.requires in
    sym (other_length a.any_case (joined_from a.text.now a.p.at) a.word.now a.p.length within c.if-p-word.true)

pub returns-then-cased_byte-expected : goal.returns-then-cased_byte-expected
returns-then-cased_byte-expected c =
    let l = c.loop-expected in
    let inside : c.loop-expected.expected-index < c.args.p.length = omega (arith, c.loop-expected-test.true, c.if-p-word.false) in
    let a = c.args in
    let s = a.text.now in
    let n = a.p.length in
    let g = subst (Stepped s l.w) c.in-Byte.is c.next_byte.ensures in
    let r = rest_next s n l.expected-index l.w c.in-Byte.next c.in-Byte.b inside g in
    let e = word_other a.any_case _ _ a.word.now l.expected-index c.in-Byte.b _ r c.cased_byte.ensures (omega arith) c.if-cased_byte-expected.true in
    sym e ∙ l.invariant.1

pub loop-expected-preserved : goal.loop-expected-preserved
loop-expected-preserved c =
    let l = c.loop-expected in
    let inside : c.loop-expected.expected-index < c.args.p.length = omega (arith, c.loop-expected-test.true, c.if-p-word.false) in
    let a = c.args in
    let s = a.text.now in
    let n = a.p.length in
    let g = subst (Stepped s l.w) c.in-Byte.is c.next_byte.ensures in
    let r = rest_next s n l.expected-index l.w c.in-Byte.next c.in-Byte.b inside g in
    let e = word_next a.any_case _ _ a.word.now l.expected-index c.in-Byte.b _ r c.cased_byte.ensures (omega arith) c.if-cased_byte-expected.false in
    (reads_on s n l.expected-index l.w c.in-Byte.next c.in-Byte.b l.invariant.0 inside g, sym e ∙ l.invariant.1)

pub returns : goal.returns
returns c =
    let l = c.loop-expected in
    let a = c.args in
    let s = a.text.now in
    let none = rest_none s a.p.length l.expected-index l.w (omega (arith, c.loop-expected-test.false, c.if-p-word.false)) in
    sym (word_done a.any_case _ a.word.now l.expected-index none (omega arith)) ∙ l.invariant.1
