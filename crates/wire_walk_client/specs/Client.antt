-- Where a client message's member stands in its bytes, as the walk returns it; of an I/O buffer its values.
use Rattle.std.specs.Prelude.{ℕ, ◌+◌, List, Bool, true, false, Option, Some, None, Result, Ok, Err, eqb}
use Rattle.base_laws.specs.Base.{part}
use Rattle.wire_schema.specs.Schema.{kind_of, ClientMessage, IoBuffer, message}
use Rattle.wire_check_field.specs.Check.{check_of}
use Rattle.wire_fields.specs.Fields.{last_in}
use Rattle.wire_fields.specs.declared.Last.{Last}
use Rattle.wire_fields.specs.declared.Last.TheVariants as last
use Rattle.wire_walk_io.specs.Places.{io_buffer_of}
use Rattle.wire_types.specs.declared.Refused.{Refused}
use Rattle.wire_types.specs.declared.Timed.{Timed}
use Rattle.wire_types.specs.declared.ClientMember.{ClientMember}
use Rattle.wire_types.specs.declared.ClientMember.TheVariants as client

-- an I/O buffer that begins at a, its data at the whole's places
abbrev pub io_within : ℕ → Timed → Timed
io_within a t = record { delay = t.delay; contents = record { start = a + t.contents.start; end = a + t.contents.end } }

-- a member from a to e: an I/O buffer by its values. A refused one does not come here: the whole was checked.
unfoldable pub member_read : ℕ → ℕ → ℕ → Bool → Result Timed Refused → ClientMember
member_read f a e true (Ok t) = client.Io f (io_within a t)
member_read f a e true (Err r) = client.Other f (record { start = a; end = e })
member_read f a e false i = client.Other f (record { start = a; end = e })

unfoldable pub client_from : List ℕ → Option Last → Option ClientMember
client_from s None = None
client_from s (Some (last.Number f v)) = None
client_from s (Some (last.Part f a e)) =
    Some (member_read f a e (eqb (kind_of ClientMessage f) (message IoBuffer)) (io_buffer_of (part s a e)))

unfoldable pub client_read : Result Unit Refused → Option ClientMember → Result (Option ClientMember) Refused
client_read (Ok u) c = Ok c
client_read (Err r) c = Err r

abbrev pub client_of : List ℕ → Result (Option ClientMember) Refused
client_of s = client_read (check_of ClientMessage s) (client_from s (last_in 1 13 s))
