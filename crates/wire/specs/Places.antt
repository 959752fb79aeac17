-- What the reader of a ServerMessage answers of its bytes s; and what the answers of both readers, of ClientMessage and ServerMessage, stand for.
use Rattle.std.specs.Prelude.{ℕ, List, Option, Some, None, Result, Ok, Err}
use Rattle.base_laws.specs.Base.{part}
use Rattle.wire_schema.specs.Schema.{ServerMessage}
use Rattle.wire_check_field.specs.Check.{check_of}
use Rattle.wire_fields.specs.Fields.{last_in}
use Rattle.wire_fields.specs.Items.{items}
use Rattle.wire_fields.specs.declared.Last.{Last}
use Rattle.wire_fields.specs.declared.Last.TheVariants as last
use Rattle.wire_types.specs.Refusals.{number_of}
use Rattle.wire_types.specs.declared.Refused.{Refused}
use Rattle.wire_types.specs.declared.ClientMember.{ClientMember}
use Rattle.wire_types.specs.declared.ClientMember.TheVariants as client
use Rattle.wire_message.specs.Message.{Client, Server, client_member, server_member, io_buf}
use Rattle.wire_message.specs.Places.{time_value}
use Rattle.wire.specs.Read.{Reading, value, refused}
use Rattle.wire.specs.declared.ServerMember.{ServerMember}

-- ---- where a ServerMessage's member stands in its bytes; the check's refusal goes first, with its place

unfoldable pub server_from : Option Last → Option ServerMember
server_from None = None
server_from (Some (last.Number f v)) = None
server_from (Some (last.Part f a e)) = Some (record { member = f; bytes = record { start = a; end = e } })

unfoldable pub server_read : Result Unit Refused → Option ServerMember → Result (Option ServerMember) Refused
server_read (Ok u) r = Ok r
server_read (Err e) r = Err e

abbrev pub server_of : List ℕ → Result (Option ServerMember) Refused
server_of s = server_read (check_of ServerMessage s) (server_from (last_in 1 5 s))

-- ---- what the answers stand for

-- an I/O buffer by its delay and where its data is; any other member by its bytes
unfoldable pub client_value : List ℕ → Result (Option ClientMember) Refused → Reading Client
client_value s (Ok None) = refused 6
client_value s (Ok (Some (client.Io f io))) =
    value (io_buf f (record { delay = time_value io.delay; contents = part s io.contents.start io.contents.end }))
client_value s (Ok (Some (client.Other f p))) = value (client_member f (items (part s p.start p.end)))
client_value s (Err e) = refused (number_of e.refusal)

unfoldable pub server_value : List ℕ → Result (Option ServerMember) Refused → Reading Server
server_value s (Ok None) = refused 6
server_value s (Ok (Some m)) = value (server_member m.member (part s m.bytes.start m.bytes.end))
server_value s (Err e) = refused (number_of e.refusal)
