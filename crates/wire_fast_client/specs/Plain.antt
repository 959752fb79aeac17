-- Fast paths: what is said of a TimeSpec, an IoBuffer and a ClientMessage in the form in which clients send them. It is what the
-- general definitions say; nothing is said of another form.
-- These are inner definitions: they follow the code, and no sentence of document 01. An auditor can skip them, since the contract of
-- `client` (crates/wire_fast_client/src/lib.rt) is the general `client_of` (crates/wire_walk_client/specs/Client.antt). What proves them against it:
-- crates/wire_fast_client/proofs/Plains.antt: `delay_data`, `member_io`.
use Rattle.std.specs.Prelude.{ℕ, ◌+◌, ◌%◌, ◌≤◌, ◌<◌, ◌≡◌, ◌⊎◌, List, Bool, Option, Some, None, Ok, length, get_or, ltb, leb, eqb}
use Rattle.base_laws.specs.Base.{both}
use Rattle.wire_varint.specs.Varint.{varint_at, read}
use Rattle.wire_value.specs.Field.{part_of}
use Rattle.wire_walk_io.specs.Places.{time_spec_of, io_buffer_of}
use Rattle.wire_walk_client.specs.Client.{client_of}
use Rattle.wire_types.specs.declared.Span.{Span}
use Rattle.wire_types.specs.declared.Time.{Time}
use Rattle.wire_types.specs.declared.Timed.{Timed}
use Rattle.wire_types.specs.declared.ClientMember.{ClientMember}

-- the tag at a place is t, in one byte
pub record HasTag (s : List ℕ) (at t : ℕ) : Type 0 where
  pub within : at < length s
  pub tagged : varint_at s at ≡ read t (at + 1)

-- is t the byte at a place
unfoldable pub byte_is : List ℕ → ℕ → ℕ → Bool
byte_is s at t = both (ltb at (length s)) (eqb (get_or s at 0) t)

-- the nanoseconds are at a place, and end the TimeSpec
unfoldable pub Ends : List ℕ → ℕ → Option ℕ → Type 0
Ends s at (Some v) = HasTag s at 16 × (varint_at s (at + 1) ≡ read v (length s))
Ends s at None = Unit

unfoldable pub TimeSaid : List ℕ → Option Time → Type 0
TimeSaid s (Some t) = Ok t ≡ time_spec_of s
TimeSaid s None = Unit

-- the data is at a place, and ends the IoBuffer
abbrev pub DataAt : List ℕ → ℕ → Span → Type 0
DataAt s at p = HasTag s at 18 × (part_of s (at + 1) (varint_at s (at + 1)) ≡ Ok p) × (p.end ≡ length s)

-- the data is there, or the IoBuffer has ended there
unfoldable pub Tailed : List ℕ → ℕ → Option Span → Type 0
Tailed s at (Some p) = DataAt s at p ⊎ ((length s ≤ at) × (p ≡ record { start = 0; end = 0 }))
Tailed s at None = Unit

unfoldable pub IoSaid : List ℕ → Option Timed → Type 0
IoSaid s (Some t) = Ok t ≡ io_buffer_of s
IoSaid s None = Unit

unfoldable pub ClientSaid : List ℕ → Option ClientMember → Type 0
ClientSaid s (Some c) = Ok (Some c) ≡ client_of s
ClientSaid s None = Unit

-- is it a tag of the members 6 to 10: wire type 2
unfoldable pub is_io : ℕ → Bool
is_io t = both (leb 50 t) (both (leb t 82) (eqb (t % 8) 2))

-- t is such a tag
pub record IoTag (t : ℕ) : Type 0 where
  pub least : 50 ≤ t
  pub most : t ≤ 82
  pub bytes : t % 8 ≡ 2
