-- What the functions for C return: the paper's numbers for each case, and numbers as bytes.
use Rattle.std.specs.Prelude.{ℕ, ◌+◌, ◌-◌, List, [], ◌∷◌, Option, Some, None, Result, Ok, Err, leb, eqb}
use Rattle.base_laws.specs.Base.{pick, both, part}
use Rattle.wire_schema.specs.Schema.{ClientMessage, InfoMessage, ServerMessage}
use Rattle.wire_fields.specs.Fields.{last_in, member_from}
use Rattle.wire_fields.specs.Items.{items}
use Rattle.base_numbers.specs.Eight.{laid, number_at}
use Rattle.wire_types.specs.declared.Refused.{Refused}
use Rattle.wire_types.specs.declared.ClientMember.{ClientMember}
use Rattle.wire_types.specs.declared.ClientMember.TheVariants as client
use Rattle.wire_message.specs.Message.{Client, Server, io_buf, client_member, server_member}
use Rattle.wire_message.specs.Places.{time_value}
use Rattle.wire.specs.Read.{Reading, value, refused}
use Rattle.wire.specs.declared.ServerMember.{ServerMember}

-- the member of a message that has a oneof: its fields 1 to 13, 1 to 5 or 2 to 5
unfoldable pub member_of : ℕ → List ℕ → ℕ
member_of m s =
    pick (eqb m ClientMessage) (member_from (last_in 1 13 s))
    (pick (eqb m ServerMessage) (member_from (last_in 1 5 s))
    (pick (eqb m InfoMessage) (member_from (last_in 2 5 s)) 0))

-- ---- sudolog_client and sudolog_server

-- refusals 2 to 6 of a message as it is read, then 12 where its numbers have no room, else 0
unfoldable pub read_answer : {A : Type 0} → Reading A → ℕ → ℕ → ℕ
read_answer (value a) size room = pick (leb size room) 0 12
read_answer (refused n) size room = n

-- the member, the place of its bytes (of an I/O buffer, of its data) and an I/O buffer's delay
unfoldable pub client_numbers : ClientMember → List ℕ
client_numbers (client.Io f io) =
    f ∷ io.contents.start ∷ (io.contents.end - io.contents.start) ∷ io.delay.seconds ∷ io.delay.nanos ∷ []
client_numbers (client.Other f p) = f ∷ p.start ∷ (p.end - p.start) ∷ 0 ∷ 0 ∷ []

-- the buffer afterwards: a refused message, or one with no member, leaves it as it was
unfoldable pub client_buffer : Result (Option ClientMember) Refused → List ℕ → List ℕ
client_buffer (Ok (Some c)) out = laid (client_numbers c) out
client_buffer (Ok None) out = out
client_buffer (Err r) out = out

-- the member and the place of its bytes
unfoldable pub server_buffer : Result (Option ServerMember) Refused → List ℕ → List ℕ
server_buffer (Ok (Some m)) out = laid (m.member ∷ m.bytes.start ∷ (m.bytes.end - m.bytes.start) ∷ []) out
server_buffer (Ok None) out = out
server_buffer (Err r) out = out

-- ---- what the numbers say of the message s that they were answered for

-- by the member's number, its offset and length, and a delay: the members 6 to 10 by their delay and their data
unfoldable pub client_says : List ℕ → ℕ → ℕ → ℕ → ℕ → ℕ → Client
client_says s f a n x y =
    pick (both (leb 6 f) (leb f 10))
    (io_buf f (record { delay = time_value (record { seconds = x; nanos = y }); contents = part s a (a + n) }))
    (client_member f (items (part s a (a + n))))

abbrev pub client_told : List ℕ → List ℕ → Client
client_told s out = client_says s (number_at out 0) (number_at out 8) (number_at out 16) (number_at out 24) (number_at out 32)

abbrev pub server_told : List ℕ → List ℕ → Server
server_told s out = server_member (number_at out 0) (part s (number_at out 8) (number_at out 8 + number_at out 16))
