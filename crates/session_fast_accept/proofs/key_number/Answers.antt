-- Hands the key that was met to `key_there`, none to `key_other`, with the keys of the other length by `key_length_lem`; `key_is` gives the number.
use native.Mathlib.Omega.{arith}
use mathlib.Core.Path.{refl}
use lib.Dec.{lit≤}
use Rattle.session_entries.specs.Required.{key_bytes}
use Rattle.session_fast_accept.proofs.KeyLaws.{compared, key_there, key_other, key_length_lem, key_is}
use Rattle.session_fast_accept.proofs.key_number.Goals as goal

pub returns-then-starts_with : goal.returns-then-starts_with
unfolding key_bytes
returns-then-starts_with c = key_is _ 0 (lit≤ tt) (key_there _ 0 (lit≤ tt) (compared _ _ c.if-a-eq7.true c.starts_with.ensures.value c.if-starts_with.true))

pub returns-then-starts_with-2 : goal.returns-then-starts_with-2
unfolding key_bytes
returns-then-starts_with-2 c =
    key_is _ 1 (lit≤ tt) (key_there _ 1 (lit≤ tt) (compared _ _ c.if-a-eq7.true c.starts_with-then-a-eq7.ensures.value c.if-starts_with-2.true))

pub returns-else-starts_with-2 : goal.returns-else-starts_with-2
unfolding key_bytes
returns-else-starts_with-2 c =
    let a = c.args.a.now in
    let command = compared a (key_bytes 0) c.if-a-eq7.true c.starts_with.ensures.value c.if-starts_with.false in
    let runuser = compared a (key_bytes 1) c.if-a-eq7.true c.starts_with-then-a-eq7.ensures.value c.if-starts_with-2.false in
    let submithost = key_length_lem a 2 10 refl (λ e. omega (arith, c.if-a-eq7.true)) in
    let submituser = key_length_lem a 3 10 refl (λ e. omega (arith, c.if-a-eq7.true)) in
    key_is a 4 (lit≤ tt) (key_other a command runuser submithost submituser)

pub returns-then-starts_with-3 : goal.returns-then-starts_with-3
unfolding key_bytes
returns-then-starts_with-3 c =
    key_is _ 2 (lit≤ tt) (key_there _ 2 (lit≤ tt) (compared _ _ c.if-a-eq10.true c.starts_with-then-a-eq10.ensures.value c.if-starts_with-3.true))

pub returns-then-starts_with-4 : goal.returns-then-starts_with-4
unfolding key_bytes
returns-then-starts_with-4 c =
    key_is _ 3 (lit≤ tt) (key_there _ 3 (lit≤ tt) (compared _ _ c.if-a-eq10.true c.starts_with-then-a-eq10-2.ensures.value c.if-starts_with-4.true))

pub returns-else-starts_with-4 : goal.returns-else-starts_with-4
unfolding key_bytes
returns-else-starts_with-4 c =
    let a = c.args.a.now in
    let command = key_length_lem a 0 7 refl c.if-a-eq7.false in
    let runuser = key_length_lem a 1 7 refl c.if-a-eq7.false in
    let submithost = compared a (key_bytes 2) c.if-a-eq10.true c.starts_with-then-a-eq10.ensures.value c.if-starts_with-3.false in
    let submituser = compared a (key_bytes 3) c.if-a-eq10.true c.starts_with-then-a-eq10-2.ensures.value c.if-starts_with-4.false in
    key_is a 4 (lit≤ tt) (key_other a command runuser submithost submituser)

pub returns-else-a-eq10 : goal.returns-else-a-eq10
unfolding key_bytes
returns-else-a-eq10 c =
    let a = c.args.a.now in
    let command = key_length_lem a 0 7 refl c.if-a-eq7.false in
    let runuser = key_length_lem a 1 7 refl c.if-a-eq7.false in
    let submithost = key_length_lem a 2 10 refl c.if-a-eq10.false in
    let submituser = key_length_lem a 3 10 refl c.if-a-eq10.false in
    key_is a 4 (lit≤ tt) (key_other a command runuser submithost submituser)
