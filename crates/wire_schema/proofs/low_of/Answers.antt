-- Each arm of the match is its row of `lows`; a number past all sixteen is Rows.low_past.
use Rattle.wire_schema.specs.Rows.{low_of, lows}
use Rattle.wire_schema.proofs.Rows.{low_past}
use Rattle.base_laws.proofs.Order.{apart_past}
use Rattle.wire_schema.proofs.low_of.Goals as goal

pub returns-in-0 : goal.returns-in-0
unfolding low_of lows
returns-in-0 c = rw c.in-0.is

pub returns-in-1 : goal.returns-in-1
unfolding low_of lows
returns-in-1 c = rw c.in-1.is

pub returns-in-2 : goal.returns-in-2
unfolding low_of lows
returns-in-2 c = rw c.in-2.is

pub returns-in-3 : goal.returns-in-3
unfolding low_of lows
returns-in-3 c = rw c.in-3.is

pub returns-in-4 : goal.returns-in-4
unfolding low_of lows
returns-in-4 c = rw c.in-4.is

pub returns-in-5 : goal.returns-in-5
unfolding low_of lows
returns-in-5 c = rw c.in-5.is

pub returns-in-6 : goal.returns-in-6
unfolding low_of lows
returns-in-6 c = rw c.in-6.is

pub returns-in-7 : goal.returns-in-7
unfolding low_of lows
returns-in-7 c = rw c.in-7.is

pub returns-in-8 : goal.returns-in-8
unfolding low_of lows
returns-in-8 c = rw c.in-8.is

pub returns-in-9 : goal.returns-in-9
unfolding low_of lows
returns-in-9 c = rw c.in-9.is

pub returns-in-10 : goal.returns-in-10
unfolding low_of lows
returns-in-10 c = rw c.in-10.is

pub returns-in-11 : goal.returns-in-11
unfolding low_of lows
returns-in-11 c = rw c.in-11.is

pub returns-in-12 : goal.returns-in-12
unfolding low_of lows
returns-in-12 c = rw c.in-12.is

pub returns-in-13 : goal.returns-in-13
unfolding low_of lows
returns-in-13 c = rw c.in-13.is

pub returns-in-14 : goal.returns-in-14
unfolding low_of lows
returns-in-14 c = rw c.in-14.is

pub returns-in-15 : goal.returns-in-15
unfolding low_of lows
returns-in-15 c = rw c.in-15.is

pub returns-in_default : goal.returns-in_default
unfolding low_of lows
returns-in_default c = low_past _ (apart_past _ 16 c.in_default.in_default-own.rest)
