-- The answers of the readers mean what the definitions of a ClientMessage and a ServerMessage say.
use Prim.Native.Nat.{ℕ, ◌+◌, ◌-◌, ◌≤◌}
use native.Mathlib.Omega.{arith}
use mathlib.Core.Path.{◌≡◌, refl, ap, ◌∙◌}
use mathlib.Core.List.{List}
use mathlib.Core.Bool.{Bool, true, false}
use lib.ListN.{length}
use lib.Dec.{T, leb, eqb, leb→le}
use borrow.Author.Tests.{le-leb, ne_eqb, eqb-true, eq-eqb}
use Rattle.base_laws.specs.Base.{pick, both, part}
use Rattle.base_laws.proofs.Parts.{part_part, length_part}
use Rattle.wire_schema.specs.Schema.{schema, kind_of}
use Rattle.wire_check_field.specs.Check.{check_of}
use Rattle.wire_fields.specs.Fields.{last_in, start_from, end_from}
use Rattle.wire_fields.specs.Items.{Item, items}
use Rattle.std.specs.Prelude.{Option, Some, None, Result, Ok, Err}
use Rattle.wire_types.specs.declared.Refused.{Refused}
use Rattle.wire_fields.specs.declared.Last.{Last}
use Rattle.wire_fields.specs.declared.Last.TheVariants as last
use Rattle.wire_schema.proofs.Rows.{kinds}
use Rattle.wire_fields.proofs.Follow.{LastInBounds, last_in_in_bounds, span_in_bounds}
use Rattle.wire_fields.proofs.Items.{content_of, last_means, bytes_means}
use Rattle.wire_walk_io.specs.Places.{time_in, io_read, io_buffer_of}
use Rattle.wire_walk_client.specs.Client.{member_read, client_from, client_read, client_of}
use Rattle.wire_types.specs.declared.ClientMember.{ClientMember}
use Rattle.wire_message.specs.Message.{client_member, server_member, io_buf, timed}
use Rattle.wire_message.specs.Places.{time_value}
use Rattle.wire_message.proofs.Meaning.{time_means}
use Rattle.wire.specs.Read.{value, after, member, client_message, server_message}
use Rattle.wire.specs.Places.{server_from, server_read, server_of, client_value, server_value}
use Rattle.wire.specs.declared.ServerMember.{ServerMember}

-- the members whose message is an IoBuffer are 6 to 10
io_rule : ℕ → ℕ → Bool
io_rule n k = pick (eqb k 22) (both (leb 6 n) (leb n 10)) true

both_both : (a b : Bool) → T (both a b) → T a × T b
both_both true b t = (tt, t)
both_both false b t = absurd t

pub io_numbers : (f : ℕ) → kind_of 0 f ≡ 22 → (6 ≤ f) × (f ≤ 10)
unfolding io_rule kind_of schema
io_numbers f e =
    let h = both_both (leb 6 f) (leb f 10) (rw (eq-eqb _ _ e) at (kinds 0 io_rule tt (λ n l. tt) f)) in
    (leb→le _ _ h.0, leb→le _ _ h.1)

io_member : (f : ℕ) (is : List Item) → kind_of 0 f ≡ 22 → client_member f is ≡ io_buf f (timed is)
unfolding client_member
io_member f is e =
    let h = io_numbers f e in
    rw (ne_eqb f 1 (omega arith), ne_eqb f 2 (omega arith), ne_eqb f 3 (omega arith), ne_eqb f 4 (omega arith), ne_eqb f 5 (omega arith), le-leb f 10 h.1)

-- an I/O buffer's values, its data by its place in the whole message
io_value : (s : List ℕ) (a e : ℕ) → a ≤ e → e ≤ length s
    → timed (items (part s a e))
    ≡ record { delay = time_value (time_in 1 (part s a e)); contents = part s (a + start_from (last_in 2 2 (part s a e))) (a + end_from (last_in 2 2 (part s a e))) }
unfolding timed
io_value s a e h l =
    let p : List ℕ = part s a e in
    let i = span_in_bounds p 2 in
    let w : end_from (last_in 2 2 p) ≤ e - a = omega (arith, length_part s a e h l, i.1) in
    rw (time_means 1 p, ← part_part s a e (start_from (last_in 2 2 p)) (end_from (last_in 2 2 p)) w, bytes_means p 2)

module _ (s : List ℕ) (f a e : ℕ) (h : a ≤ e) (l : e ≤ length s) where
  io_told : (c : Result Unit Refused) → kind_of 0 f ≡ 22
      → client_value s (Ok (Some (member_read f a e true (io_read c (time_in 1 (part s a e)) (last_in 2 2 (part s a e)))))) ≡ value (client_member f (items (part s a e)))
  unfolding client_value member_read io_read
  io_told (Ok u) k = rw (io_member f (items (part s a e)) k, io_value s a e h l)
  io_told (Err r) k = refl

  told : (t : Bool) → eqb (kind_of 0 f) 22 ≡ t → client_value s (Ok (Some (member_read f a e t (io_buffer_of (part s a e))))) ≡ value (client_member f (items (part s a e)))
  unfolding client_value member_read
  told true k = io_told (check_of 6 (part s a e)) (eqb-true (kind_of 0 f) 22 k)
  told false k = refl

from : (s : List ℕ) (x : Option Last) → LastInBounds s x → client_value s (Ok (client_from s x)) ≡ member (λ n d. client_member n (items d)) (content_of s x)
unfolding client_from client_value member
from s None h = refl
from s (Some (last.Number f v)) h = refl
from s (Some (last.Part f a e)) h = told s f a e h.0 h.1 (eqb (kind_of 0 f) 22) refl

checked_first : (s : List ℕ) (c : Result Unit Refused) (x : Option ClientMember) → client_value s (client_read c x) ≡ after c (client_value s (Ok x))
unfolding client_read client_value after
checked_first s (Ok u) x = refl
checked_first s (Err e) x = refl

pub client_means : (s : List ℕ) → client_value s (client_of s) ≡ client_message s
unfolding client_message
client_means s =
    checked_first s (check_of 0 s) (client_from s (last_in 1 13 s))
    ∙ ap (after (check_of 0 s)) (from s (last_in 1 13 s) (last_in_in_bounds s 1 13) ∙ ap (member (λ n d. client_member n (items d))) (last_means s 1 13))

-- ---- a ServerMessage

server_from_lem : (s : List ℕ) (x : Option Last) → server_value s (Ok (server_from x)) ≡ member server_member (content_of s x)
unfolding server_from server_value member
server_from_lem s None = refl
server_from_lem s (Some (last.Number f v)) = refl
server_from_lem s (Some (last.Part f a e)) = refl

server_checked : (s : List ℕ) (c : Result Unit Refused) (x : Option ServerMember) → server_value s (server_read c x) ≡ after c (server_value s (Ok x))
unfolding server_read server_value after
server_checked s (Ok u) x = refl
server_checked s (Err e) x = refl

pub server_means : (s : List ℕ) → server_value s (server_of s) ≡ server_message s
unfolding server_message
server_means s =
    server_checked s (check_of 14 s) (server_from (last_in 1 5 s))
    ∙ ap (after (check_of 14 s)) (server_from_lem s (last_in 1 5 s) ∙ ap (member server_member) (last_means s 1 5))
