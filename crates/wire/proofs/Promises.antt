-- What `client_message` promises of every message: an I/O buffer has a kind from 6 to 10; a refusal is one of 2 to 6, of `server_message` too.
use Prim.Native.Nat.{ℕ, ◌+◌, ◌≤◌}
use native.Mathlib.Omega.{arith}
use mathlib.Core.Path.{◌≡◌}
use mathlib.Core.Bool.{false}
use mathlib.Core.List.{List, [], ◌∷◌}
use lib.Dec.{leb, eqb}
use borrow.Author.Tests.{leb-true, eqb-false}
use Rattle.base_laws.proofs.Order.{picked, both_true}
use Rattle.wire_schema.specs.Schema.{ClientMessage, ServerMessage}
use Rattle.base_laws.specs.Base.{pick}
use Rattle.wire_check_field.proofs.Numbered.{CheckTold, check_told}
use Rattle.wire_check_field.specs.Check.{check_of}
use Rattle.wire_fields.specs.Fields.{among}
use Rattle.wire_fields.specs.Items.{Item, none, number, bytes, items, last_from, last_item}
use Rattle.std.specs.Prelude.{Result, Ok, Err}
use Rattle.wire_types.specs.declared.Refused.{Refused}
use Rattle.wire_message.specs.Message.{Bytes, Client, accept_msg, reject_msg, exit_msg, restart_msg, alert_msg, io_buf, winsize_event, suspend_event, hello_msg, client_member}
use Rattle.wire.specs.Read.{Reading, value, refused, after, member, client_message, server_message}

-- ---- the member's number

abbrev Named : ℕ → ℕ → Item → Type 0
Named lo hi none = Unit {0}
Named lo hi (number f v) = Unit {0}
Named lo hi (bytes f d) = (lo ≤ f) × (f ≤ hi)

last_named : (lo hi : ℕ) (l : Item) (is : List Item) → Named lo hi l → Named lo hi (last_from lo hi l is)
unfolding last_from among
last_named lo hi l [] h = h
last_named lo hi l (none ∷ is) h = last_named lo hi l is h
last_named lo hi l (number f v ∷ is) h = last_named lo hi (pick (among lo hi f) (number f v) l) is (picked (Named lo hi) (among lo hi f) (number f v) l (λ _. tt) (λ _. h))
last_named lo hi l (bytes f d ∷ is) h =
    last_named lo hi (pick (among lo hi f) (bytes f d) l) is
    (picked (Named lo hi) (among lo hi f) (bytes f d) l
    (λ e. let p = both_true (leb lo f) (leb f hi) e in (leb-true lo f p.0, leb-true f hi p.1))
    (λ _. h))

-- ---- the member

abbrev pub Known : Client → Type 0
Known (accept_msg a) = Unit {0}
Known (reject_msg r) = Unit {0}
Known (exit_msg e) = Unit {0}
Known (restart_msg r) = Unit {0}
Known (alert_msg r) = Unit {0}
Known (io_buf k i) = (6 ≤ k) × (k ≤ 10)
Known (winsize_event w) = Unit {0}
Known (suspend_event s) = Unit {0}
Known (hello_msg d) = Unit {0}

next : (n f : ℕ) → n ≤ f → eqb f n ≡ false → n + 1 ≤ f
next n f h e = let other : f ≡ n → ⊥ = eqb-false f n e in omega arith

member_known : (f : ℕ) (is : List Item) → 1 ≤ f → Known (client_member f is)
unfolding client_member
member_known f is h =
    picked Known (eqb f 1) _ _ (λ _. tt)
    (λ e₁. picked Known (eqb f 2) _ _ (λ _. tt)
    (λ e₂. picked Known (eqb f 3) _ _ (λ _. tt)
    (λ e₃. picked Known (eqb f 4) _ _ (λ _. tt)
    (λ e₄. picked Known (eqb f 5) _ _ (λ _. tt)
    (λ e₅. picked Known (leb f 10) _ _
    (λ l. (next 5 f (next 4 f (next 3 f (next 2 f (next 1 f h e₁) e₂) e₃) e₄) e₅, leb-true f 10 l))
    (λ _. picked Known (eqb f 11) _ _ (λ _. tt) (λ _. picked Known (eqb f 12) _ _ (λ _. tt) (λ _. tt))))))))

-- ---- the message

abbrev pub ReadKnown : Reading Client → Type 0
ReadKnown (value c) = Known c
ReadKnown (refused n) = Unit {0}

after_known : (c : Result Unit Refused) (r : Reading Client) → ReadKnown r → ReadKnown (after c r)
unfolding after
after_known (Ok u) r h = h
after_known (Err e) r h = tt

item_known : (i : Item) → Named 1 13 i → ReadKnown (member (λ n d. client_member n (items d)) i)
unfolding member
item_known none h = tt
item_known (number f v) h = tt
item_known (bytes f d) h = member_known f (items d) h.0

pub message_known : (s : Bytes) → ReadKnown (client_message s)
unfolding client_message
message_known s = after_known (check_of ClientMessage s) _ (item_known (last_item 1 13 (items s)) (last_named 1 13 none (items s) tt))

-- ---- the numbers of its refusals

abbrev pub ReadNumbered : {A : Type 0} → Reading A → Type 0
ReadNumbered (value a) = Unit {0}
ReadNumbered (refused n) = (2 ≤ n) × (n ≤ 6)

after_numbered : {A : Type 0} (c : Result Unit Refused) (r : Reading A) → CheckTold c → ReadNumbered r → ReadNumbered (after c r)
unfolding after
after_numbered (Ok u) r h k = k
after_numbered (Err e) r h k = (h.0, omega (arith, h.1))

member_numbered : {A : Type 0} (f : ℕ → List ℕ → A) (i : Item) → ReadNumbered (member f i)
unfolding member
member_numbered f none = (omega arith, omega arith)
member_numbered f (number n v) = (omega arith, omega arith)
member_numbered f (bytes n d) = tt

pub message_numbered : (s : Bytes) → ReadNumbered (client_message s)
unfolding client_message
message_numbered s = after_numbered (check_of ClientMessage s) _ (check_told ClientMessage s) (member_numbered _ (last_item 1 13 (items s)))

pub server_numbered : (s : Bytes) → ReadNumbered (server_message s)
unfolding server_message
server_numbered s = after_numbered (check_of ServerMessage s) _ (check_told ServerMessage s) (member_numbered _ (last_item 1 5 (items s)))
