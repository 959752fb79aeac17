-- The tests of a chain of branches, as rules for `search`: each turns what a branch told into the value of its test.
use borrow.Author.Rules.{rules}
use borrow.Author.Tests.{lt-ltb, le-ltb, eq-eqb, ne_eqb, le-leb, lt-leb}

pub ruleset tests = (rules, lt-ltb, le-ltb, eq-eqb, ne_eqb, le-leb, lt-leb)
