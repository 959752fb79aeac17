-- Reading a message: the value, or the refusal by document 01's order. "A reader by itself gives 2 to 6, then 7."
use Rattle.std.specs.Prelude.{ℕ, List, Bool, true, false, Result, Ok, Err, eqb}
use Rattle.base_laws.specs.Base.{pick}
use Rattle.wire_schema.specs.Schema.{ClientMessage, ServerMessage}
use Rattle.wire_check_field.specs.Check.{check_of}
use Rattle.wire_fields.specs.Items.{Item, none, number, bytes, items, last_item, bytes_of}
use Rattle.wire_types.specs.Refusals.{number_of}
use Rattle.wire_types.specs.declared.Refusal.{Refusal}
use Rattle.wire_types.specs.declared.Refused.{Refused}
use Rattle.wire_message.specs.Message.{Client, Server, client_member, server_member}
use Rattle.wire_range.specs.Range.{in_range}

-- a message's value, or the number of its refusal
pub data Reading (A : Type 0) : Type 0 where
  value : A → Reading A
  refused : ℕ → Reading A

-- refusals 2 to 5 by the check of the whole message, else what follows
unfoldable pub after : {A : Type 0} → Result Unit Refused → Reading A → Reading A
after (Ok u) r = r
after (Err e) r = refused (number_of e.refusal)

-- 6 where a ClientMessage or a ServerMessage has no member, else the member by its number and its bytes
unfoldable pub member : {A : Type 0} → (ℕ → List ℕ → A) → Item → Reading A
member f none = refused 6
member f (number n v) = refused 6
member f (bytes n d) = value (f n d)

-- a ClientMessage as a session reads it: 2 to 6, no ranges
unfoldable pub client_message : List ℕ → Reading Client
client_message s = after (check_of ClientMessage s) (member (λ n d. client_member n (items d)) (last_item 1 13 (items s)))

-- the bytes of the member that counts, as received
abbrev pub received : List ℕ → List ℕ
received s = bytes_of (last_item 1 13 (items s))

unfoldable pub server_message : List ℕ → Reading Server
server_message s = after (check_of ServerMessage s) (member server_member (last_item 1 5 (items s)))

-- ---- the refusal alone, of any message by its number: 0 for none

abbrev pub refusal_number : Result Unit Refusal → ℕ
refusal_number (Ok u) = 0
refusal_number (Err r) = number_of r

unfoldable pub check_number : Result Unit Refused → ℕ → ℕ
check_number (Ok u) next = next
check_number (Err e) next = number_of e.refusal

unfoldable pub is_absent : Item → Bool
is_absent none = true
is_absent (number n v) = true
is_absent (bytes n d) = false

-- is it a ClientMessage or a ServerMessage with no member
unfoldable pub no_member : ℕ → List Item → Bool
no_member m is =
    pick (eqb m ClientMessage) (is_absent (last_item 1 13 is))
    (pick (eqb m ServerMessage) (is_absent (last_item 1 5 is)) false)

-- as a session reads: 2 to 5, then 6
unfoldable pub decode_number : ℕ → List ℕ → ℕ
decode_number m s = check_number (check_of m s) (pick (no_member m (items s)) 6 0)

-- a reader by itself: 2 to 5, then 6, then 7
unfoldable pub read_number : ℕ → List ℕ → ℕ
read_number m s = check_number (check_of m s) (pick (no_member m (items s)) 6 (pick (in_range m (items s)) 0 7))
