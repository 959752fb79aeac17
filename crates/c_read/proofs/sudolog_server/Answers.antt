-- Each case of what server_message answers is a law of Told: a member, none, a refusal.
use native.Mathlib.Omega.{arith}
use mathlib.Core.Path.{◌≡◌, sym, ap, ◌∙◌}
use Prim.Native.Nat.{◌<◌}
use Rattle.std.specs.Prelude.{Some, Ok}
use Rattle.wire.specs.Places.{server_of}
use Rattle.c_read.proofs.Told.{server_told_lem, server_none, server_refused}
use Rattle.c_read.proofs.sudolog_server.Goals as goal
use Rattle.c_read.proofs.sudolog_server.Goals.{In-Ok-Some}

-- the member as it was read, and that its numbers have 64 bits
member_is : (c : In-Ok-Some) → server_of c.args.s.now ≡ Ok (Some c.in-Ok-Some.field-0-0)
member_is c = sym c.server_message.ensures.places ∙ c.in-Ok-Some.is ∙ ap Ok c.in-Ok-Some.field-0-is

member_fits : (c : In-Ok-Some) → let m = c.in-Ok-Some.field-0-0 in
    (m.member < 18446744073709551616) × (m.bytes.start < 18446744073709551616) × (m.bytes.end < 18446744073709551616)
member_fits c =
    let t = rw (c.in-Ok-Some.is ∙ ap Ok c.in-Ok-Some.field-0-is) at c.server_message.type_inv in
    (omega (arith, t), omega (arith, t), omega (arith, t))

pub returns-then-lay : goal.returns-then-lay
returns-then-lay c =
    let a = c.args in
    let m = c.in-Ok-Some.field-0-0 in
    let f = member_fits (goal.at.returns-then-lay c).In-Ok-Some in
    let both = server_told_lem a.s.now a.out.now m.member m.bytes.start m.bytes.end f.0 f.1 (omega (arith, f.2))
    (member_is (goal.at.returns-then-lay c).In-Ok-Some)
    _ (sym c.lay.ensures.room ∙ c.if-lay.true) _ (rw (← c.between-length.ensures) c.lay.ensures.buffer) in
    record { answer = both.0; buffer = both.1.0; means = both.1.1 }

pub returns-else-lay : goal.returns-else-lay
returns-else-lay c =
    let a = c.args in
    let m = c.in-Ok-Some.field-0-0 in
    let f = member_fits (goal.at.returns-else-lay c).In-Ok-Some in
    let both = server_told_lem a.s.now a.out.now m.member m.bytes.start m.bytes.end f.0 f.1 (omega (arith, f.2))
    (member_is (goal.at.returns-else-lay c).In-Ok-Some)
    _ (sym c.lay.ensures.room ∙ c.if-lay.false) _ (rw (← c.between-length.ensures) c.lay.ensures.buffer) in
    record { answer = both.0; buffer = both.1.0; means = both.1.1 }

pub returns-in-Ok-None : goal.returns-in-Ok-None
returns-in-Ok-None c =
    let a = c.args in
    let both = server_none a.s.now a.out.now (sym c.server_message.ensures.places ∙ c.in-Ok-None.is ∙ ap Ok c.in-Ok-None.field-0-is) in
    record { answer = both.0; buffer = both.1.0; means = both.1.1 }

pub returns-in-Err : goal.returns-in-Err
returns-in-Err c =
    let a = c.args in
    let both = server_refused a.s.now a.out.now c.in-Err.refused (sym c.server_message.ensures.places ∙ c.in-Err.is) in
    record { answer = c.from.ensures ∙ both.0; buffer = both.1.0; means = λ z. both.1.1 (sym c.from.ensures ∙ z) }
