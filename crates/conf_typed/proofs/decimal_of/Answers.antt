-- Invariant: v and the rest of the span give the number. A digit is Numbers.number_digit, another byte number_other, the end number_done;
-- the line cannot end before the span does.
use Prim.Native.Nat.{ℕ, ◌+◌, ◌≤◌}
use native.Mathlib.Omega.{arith}
use mathlib.Core.Path.{sym, ap, subst, ◌∙◌}
use Rattle.conf_lines.specs.Scan.{Stepped}
use Rattle.conf_lines.specs.Span.{joined_from}
use lib.ListN.{take}
use Rattle.conf_typed.proofs.Reading.{rest, reads_all, rest_all, reads_on, rest_next, rest_none}
use Rattle.conf_typed.proofs.Numbers.{number_from, capped_bound, number_digit, number_other, number_done, decimal_empty, decimal_start}
use Rattle.conf_typed.proofs.Words.{digit_as}
use Rattle.conf_typed.proofs.decimal_of.Goals as goal

pub returns-then-p-eq0 : goal.returns-then-p-eq0
returns-then-p-eq0 c =
    let a = c.args in
    sym (decimal_empty (joined_from a.text.now a.p.at) a.p.length c.if-p-eq0.true)

pub loop-i-init : goal.loop-i-init
loop-i-init c =
    let a = c.args in
    let s = a.text.now in
    let n = a.p.length in
    let w = c.at-w.result in
    let e = c.at-w.ensures.place in
    let h = c.requires in (
      reads_all s n w (rw (sym e) at h),
      omega arith,
      ap (number_from 0) (rest_all s n w ∙ ap (λ (i : ℕ). take n (joined_from s i)) e) ∙ decimal_start (joined_from s a.p.at) n h c.if-p-eq0.false,
    )

pub returns-then-not-is_ascii_digit : goal.returns-then-not-is_ascii_digit
returns-then-not-is_ascii_digit c =
    let l = c.loop-i in
    let a = c.args in
    let s = a.text.now in
    let n = a.p.length in
    let g = subst (Stepped s l.w) c.in-Byte.is c.next_byte.ensures in
    let r = rest_next s n l._i l.w c.in-Byte.next c.in-Byte.b c.loop-i-test.true g in
    sym (number_other l.v c.in-Byte.b _ _ r (sym (digit_as c.in-Byte.b) ∙ sym c.is_ascii_digit.ensures.value ∙ c.if-not-is_ascii_digit.true)) ∙ l.invariant.2

pub loop-i-preserved : goal.loop-i-preserved
loop-i-preserved c =
    let l = c.loop-i in
    let a = c.args in
    let s = a.text.now in
    let n = a.p.length in
    let g = subst (Stepped s l.w) c.in-Byte.is c.next_byte.ensures in
    let r = rest_next s n l._i l.w c.in-Byte.next c.in-Byte.b c.loop-i-test.true g in
    let d = sym (digit_as c.in-Byte.b) ∙ sym c.is_ascii_digit.ensures.value ∙ c.if-not-is_ascii_digit.false in
    let v = c.with_digit-v.ensures in (
      reads_on s n l._i l.w c.in-Byte.next c.in-Byte.b l.invariant.0 c.loop-i-test.true g,
      subst (λ (x : ℕ). x ≤ 4294967296) (sym v) (capped_bound _),
      ap (λ (x : ℕ). number_from x (rest s n (l._i + 1) c.in-Byte.next)) v ∙ sym (number_digit l.v c.in-Byte.b _ _ r d) ∙ l.invariant.2,
    )

pub returns : goal.returns
returns c =
    let l = c.loop-i in
    let a = c.args in
    let s = a.text.now in
    let none = rest_none s a.p.length l._i l.w c.loop-i-test.false in
    sym (number_done l.v _ none l.invariant.1) ∙ l.invariant.2
