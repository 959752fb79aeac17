-- By the room t: no room puts nothing, one digit is Digits.digits_one, more are Digits.digits_more over the claim at less room.
use Rattle.replay_text.specs.Words.{decimal_digits}
use Rattle.replay_text.proofs.Digits.{digits_one, digits_more}
use Rattle.base_copy.proofs.Puts.{then, nothing, put_byte, put_length}
use native.Mathlib.Omega.{arith}
use mathlib.Core.Path.{sym}
use Rattle.replay_text.proofs.numbers.+put_digits.Goals as goal

pub returns-then-k-eq0 : goal.returns-then-k-eq0
unfolding decimal_digits
returns-then-k-eq0 t c = let a = c.args in rw c.if-k-eq0.true (nothing a.out.now a.at (omega arith), omega arith)

pub returns-then-n-lt10 : goal.returns-then-n-lt10
returns-then-n-lt10 t c =
    let a = c.args in
    rw (digits_one a.k a.n c.if-k-eq0.false c.if-n-lt10.true, sym c.last_digit.ensures) (put_byte a.out.now a.at _ (omega arith), omega arith)

pub returns : goal.returns
returns t c =
    let a = c.args in
    let o = c.put_digits-o in
    let last = put_byte o.new.out o.result _ (omega (arith, put_length o.ensures.0)) in
    rw (digits_more a.k a.n c.if-k-eq0.false c.if-n-lt10.false, sym c.last_digit-2.ensures) (then o.ensures.0 last, omega arith)
