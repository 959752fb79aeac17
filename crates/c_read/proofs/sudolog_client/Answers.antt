-- Each case of what client_message answers is a law of Told: an I/O buffer, another member, none, a refusal.
use Prim.Native.Nat.{ℕ, ◌<◌}
use native.Mathlib.Omega.{arith}
use mathlib.Core.Path.{◌≡◌, sym, ap, ◌∙◌}
use Rattle.std.specs.Prelude.{Some, Ok}
use Rattle.wire_types.specs.declared.ClientMember.TheVariants as client
use Rattle.wire_walk_client.specs.Client.{client_of}
use Rattle.c_read.proofs.Told.{io_told, member_told, client_none, client_refused}
use Rattle.c_read.proofs.sudolog_client.Goals as goal
use Rattle.c_read.proofs.sudolog_client.Goals.{In-Ok-Some-Io, In-Ok-Some-Other}

-- an I/O buffer, and another member, as they were read
io_is : (c : In-Ok-Some-Io) → client_of c.args.s.now ≡ Ok (Some (client.Io c.in-Ok-Some-Io.member c.in-Ok-Some-Io.io))
io_is c =
    sym c.client_message.ensures.places ∙ c.in-Ok-Some-Io.is ∙ ap Ok (c.in-Ok-Some-Io.field-0-is ∙ ap Some c.in-Ok-Some-Io.field-0-0-is)

other_is : (c : In-Ok-Some-Other) → client_of c.args.s.now ≡ Ok (Some (client.Other c.in-Ok-Some-Other.member c.in-Ok-Some-Other.bytes))
other_is c =
    sym c.client_message.ensures.places ∙ c.in-Ok-Some-Other.is ∙ ap Ok (c.in-Ok-Some-Other.field-0-is ∙ ap Some c.in-Ok-Some-Other.field-0-0-is)

-- their numbers have 64 bits
abbrev Word : ℕ → Type 0
Word n = n < 18446744073709551616

io_fits : (c : In-Ok-Some-Io) → let io = c.in-Ok-Some-Io.io in
    Word c.in-Ok-Some-Io.member × Word io.contents.start × Word io.contents.end × Word io.delay.seconds × Word io.delay.nanos
io_fits c =
    let t = rw (c.in-Ok-Some-Io.is ∙ ap Ok (c.in-Ok-Some-Io.field-0-is ∙ ap Some c.in-Ok-Some-Io.field-0-0-is)) at c.client_message.type_inv in
    (omega (arith, t), omega (arith, t), omega (arith, t), omega (arith, t), omega (arith, t))

other_fits : (c : In-Ok-Some-Other) → let p = c.in-Ok-Some-Other.bytes in Word c.in-Ok-Some-Other.member × Word p.start × Word p.end
other_fits c =
    let t = rw (c.in-Ok-Some-Other.is ∙ ap Ok (c.in-Ok-Some-Other.field-0-is ∙ ap Some c.in-Ok-Some-Other.field-0-0-is)) at c.client_message.type_inv in
    (omega (arith, t), omega (arith, t), omega (arith, t))

pub returns-then-lay : goal.returns-then-lay
returns-then-lay c =
    let a = c.args in
    let io = c.in-Ok-Some-Io.io in
    let f = io_fits (goal.at.returns-then-lay c).In-Ok-Some-Io in
    let both = io_told a.s.now a.out.now c.in-Ok-Some-Io.member io.delay.seconds io.delay.nanos io.contents.start io.contents.end
    f.0 f.1 (omega (arith, f.2)) f.3 f.4 (io_is (goal.at.returns-then-lay c).In-Ok-Some-Io)
    _ (sym c.lay.ensures.room ∙ c.if-lay.true) _ (rw (← c.between-length.ensures) c.lay.ensures.buffer) in
    record { answer = both.0; buffer = both.1.0; means = both.1.1 }

pub returns-then-lay-2 : goal.returns-then-lay-2
returns-then-lay-2 c =
    let a = c.args in
    let p = c.in-Ok-Some-Other.bytes in
    let f = other_fits (goal.at.returns-then-lay-2 c).In-Ok-Some-Other in
    let both = member_told a.s.now a.out.now c.in-Ok-Some-Other.member p.start p.end
    f.0 f.1 (omega (arith, f.2)) (other_is (goal.at.returns-then-lay-2 c).In-Ok-Some-Other)
    _ (sym c.lay-in-Ok-Some-Other.ensures.room ∙ c.if-lay-2.true) _ (rw (← c.between-length-in-Ok-Some-Other.ensures) c.lay-in-Ok-Some-Other.ensures.buffer) in
    record { answer = both.0; buffer = both.1.0; means = both.1.1 }

pub returns-else-lay : goal.returns-else-lay
returns-else-lay c =
    let a = c.args in
    let io = c.in-Ok-Some-Io.io in
    let f = io_fits (goal.at.returns-else-lay c).In-Ok-Some-Io in
    let both = io_told a.s.now a.out.now c.in-Ok-Some-Io.member io.delay.seconds io.delay.nanos io.contents.start io.contents.end
    f.0 f.1 (omega (arith, f.2)) f.3 f.4 (io_is (goal.at.returns-else-lay c).In-Ok-Some-Io)
    _ (sym c.lay.ensures.room ∙ c.if-lay.false) _ (rw (← c.between-length.ensures) c.lay.ensures.buffer) in
    record { answer = both.0; buffer = both.1.0; means = both.1.1 }

pub returns-else-lay-2 : goal.returns-else-lay-2
returns-else-lay-2 c =
    let a = c.args in
    let p = c.in-Ok-Some-Other.bytes in
    let f = other_fits (goal.at.returns-else-lay-2 c).In-Ok-Some-Other in
    let both = member_told a.s.now a.out.now c.in-Ok-Some-Other.member p.start p.end
    f.0 f.1 (omega (arith, f.2)) (other_is (goal.at.returns-else-lay-2 c).In-Ok-Some-Other)
    _ (sym c.lay-in-Ok-Some-Other.ensures.room ∙ c.if-lay-2.false) _ (rw (← c.between-length-in-Ok-Some-Other.ensures) c.lay-in-Ok-Some-Other.ensures.buffer) in
    record { answer = both.0; buffer = both.1.0; means = both.1.1 }

pub returns-in-Ok-None : goal.returns-in-Ok-None
returns-in-Ok-None c =
    let a = c.args in
    let both = client_none a.s.now a.out.now (sym c.client_message.ensures.places ∙ c.in-Ok-None.is ∙ ap Ok c.in-Ok-None.field-0-is) in
    record { answer = c.from.ensures ∙ both.0; buffer = both.1.0; means = λ z. both.1.1 (sym c.from.ensures ∙ z) }

pub returns-in-Err : goal.returns-in-Err
returns-in-Err c =
    let a = c.args in
    let both = client_refused a.s.now a.out.now c.in-Err.refused (sym c.client_message.ensures.places ∙ c.in-Err.is) in
    record { answer = c.from-in-Err.ensures ∙ both.0; buffer = both.1.0; means = λ z. both.1.1 (sym c.from-in-Err.ensures ∙ z) }
