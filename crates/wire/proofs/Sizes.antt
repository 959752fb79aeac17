-- A message's contents are a part of its bytes. So one that fits a frame has no data above 2,097,152 bytes.
use Prim.Native.Nat.{ℕ, zero, suc, ◌+◌, ◌-◌, ◌≤◌, ◌<◌}
use native.Mathlib.Omega.{arith}
use mathlib.Core.Path.{◌≡◌, refl, sym, ◌∙◌, subst}
use mathlib.Core.Bool.{Bool, true, false}
use mathlib.Core.List.{List, [], ◌∷◌, map}
use lib.Dec.{ltb, leb, eqb}
use lib.ListN.{length}
use borrow.Author.Tests.{eqb-true}
use Rattle.base_laws.specs.Base.{pick}
use Rattle.base_laws.proofs.Order.{picked}
use Rattle.base_laws.proofs.Parts.{length_part}
use Rattle.wire_schema.specs.Schema.{ClientMessage}
use Rattle.wire_check_field.specs.Check.{check_of}
use Rattle.wire_fields.specs.Fields.{field_at, next_of, on_field, fields_from, fields_at, among}
use Rattle.wire_fields.specs.Items.{Item, none, number, bytes, item_of, items, last_from, last_item, bytes_of}
use Rattle.std.specs.Prelude.{Option, Some, None, Result, Ok, Err}
use Rattle.wire_types.specs.declared.Refused.{Refused}
use Rattle.wire_fields.specs.declared.Field.{Field}
use Rattle.wire_fields.specs.declared.Field.TheVariants as field
use Rattle.wire_fields.proofs.Follow.{FieldRead, MaybeRead, field_read, behind}
use Rattle.wire_check_field.proofs.Walk.{alone}
use Rattle.wire_message.specs.Message as m
use Rattle.wire_message.specs.Message.{Bytes, Exit, Client, accept_msg, reject_msg, exit_msg, restart_msg, alert_msg, io_buf, winsize_event, suspend_event, hello_msg, client_member}
use Rattle.wire.specs.Read.{Reading, value, after, member, client_message, received}

-- ---- the items of some bytes take no more than these

-- an item's bytes, and one for its tag
abbrev room : Item → ℕ
room none = 0
room (number f v) = 0
room (bytes f d) = suc (length d)

abbrev rooms : List Item → ℕ
rooms [] = 0
rooms (i ∷ is) = room i + rooms is

module _ (s : Bytes) where
  abbrev Within : ℕ → List Field → Type 0
  Within at fs = at + rooms (map (item_of s) fs) ≤ length s

  one_field : (at : ℕ) (fs : List Field) (e : Field) → FieldRead s at e → Within (next_of e) fs → Within at (e ∷ fs)
  one_field at fs (field.Number f v n) r h = omega (arith, h, r.0)
  one_field at fs (field.Fixed f n) r h = omega (arith, h, r.0)
  one_field at fs (field.Part f a e) r h = omega (arith, h, r.0, r.1, length_part s a e r.1 r.2)

  on_field_lem : (at : ℕ) → at ≤ length s → (go : ℕ → List Field) → ((n : ℕ) → n ≤ length s → Within n (go n)) → (e : Option Field) → MaybeRead s at e → Within at (on_field go e)
  unfolding on_field
  on_field_lem at l go ih (Some e) r = one_field at (go (next_of e)) e r (ih (next_of e) (behind s at e r).1)
  on_field_lem at l go ih None r = omega arith

  fields_within : (k at : ℕ) → at ≤ length s → Within at (fields_from k s at)
  unfolding fields_from
  fields_within zero at l = omega arith
  fields_within (suc k) at l =
      picked (Within at) (ltb at (length s)) _ _ (λ e. on_field_lem at l (fields_from k s) (fields_within k) (field_at s at) (field_read s at)) (λ e. omega arith)

  items_within : rooms (items s) ≤ length s
  unfolding items fields_at
  items_within = omega (arith, fields_within (suc (length s - 0)) 0 (omega arith))

-- ---- the last of some of them

picked_room : (b : Bool) (i l : Item) → room (pick b i l) ≤ room i + room l
picked_room true i l = omega arith
picked_room false i l = omega arith

last_room : (lo hi : ℕ) (l : Item) (is : List Item) → room (last_from lo hi l is) ≤ room l + rooms is
unfolding last_from
last_room lo hi l [] = omega arith
last_room lo hi l (none ∷ is) = omega (arith, last_room lo hi l is)
last_room lo hi l (number f v ∷ is) = omega (arith, last_room lo hi (pick (among lo hi f) (number f v) l) is, picked_room (among lo hi f) (number f v) l)
last_room lo hi l (bytes f d ∷ is) = omega (arith, last_room lo hi (pick (among lo hi f) (bytes f d) l) is, picked_room (among lo hi f) (bytes f d) l)

-- of two fields of different numbers
module _ (f g : ℕ) (differ : f ≡ g → ⊥) where
  one_of : (k : ℕ) (i l j : Item) → room (pick (among f f k) i l) + room (pick (among g g k) i j) ≤ room i + room l + room j
  one_of k i l j = rw (alone f k, alone g k) (go (eqb k f) (eqb k g) refl refl)
    where
      go : (a b : Bool) → eqb k f ≡ a → eqb k g ≡ b → room (pick a i l) + room (pick b i j) ≤ room i + room l + room j
      go true true p q = absurd (differ (sym (eqb-true k f p) ∙ eqb-true k g q))
      go true false p q = omega arith
      go false true p q = omega arith
      go false false p q = omega arith

  two_rooms : (l j : Item) (is : List Item) → room (last_from f f l is) + room (last_from g g j is) ≤ room l + room j + rooms is
  unfolding last_from
  two_rooms l j [] = omega arith
  two_rooms l j (none ∷ is) = omega (arith, two_rooms l j is)
  two_rooms l j (number k v ∷ is) =
      omega (arith, two_rooms (pick (among f f k) (number k v) l) (pick (among g g k) (number k v) j) is, one_of k (number k v) l j)
  two_rooms l j (bytes k d ∷ is) =
      omega (arith, two_rooms (pick (among f f k) (bytes k d) l) (pick (among g g k) (bytes k d) j) is, one_of k (bytes k d) l j)

held : (i : Item) → length (bytes_of i) ≡ room i - 1
unfolding bytes_of
held none = refl
held (number f v) = refl
held (bytes f d) = omega arith

-- ---- a message that fits a frame

abbrev pub Short : Client → Type 0
Short (exit_msg e) = 2 + (length e.signal + length e.error) ≤ 2097152
Short (io_buf k i) = length i.contents ≤ 2097152
Short (suspend_event x) = length x.contents ≤ 2097152
Short (accept_msg a) = Unit {0}
Short (reject_msg r) = Unit {0}
Short (restart_msg r) = Unit {0}
Short (alert_msg r) = Unit {0}
Short (winsize_event w) = Unit {0}
Short (hello_msg d) = Unit {0}

field_short : (f : ℕ) (d : Bytes) → length d < 2097152 → length (m.bytes_field f (items d)) ≤ 2097152
field_short f d h = omega (arith, held (last_item f f (items d)), last_room f f none (items d), items_within d)

exit_short : (d : Bytes) → length d < 2097152 → 2 + (length (m.bytes_field 4 (items d)) + length (m.bytes_field 5 (items d))) ≤ 2097152
exit_short d h =
    omega (arith, held (last_item 4 4 (items d)), held (last_item 5 5 (items d)), two_rooms 4 5 (λ e. omega arith) none none (items d), items_within d)

member_short : (f : ℕ) (d : Bytes) → length d < 2097152 → Short (client_member f (items d))
unfolding client_member m.exit m.timed
member_short f d h =
    picked Short (eqb f 1) _ _ (λ _. tt)
    (λ _. picked Short (eqb f 2) _ _ (λ _. tt)
    (λ _. picked Short (eqb f 3) _ _ (λ _. exit_short d h)
    (λ _. picked Short (eqb f 4) _ _ (λ _. tt)
    (λ _. picked Short (eqb f 5) _ _ (λ _. tt)
    (λ _. picked Short (leb f 10) _ _ (λ _. field_short 2 d h)
    (λ _. picked Short (eqb f 11) _ _ (λ _. tt)
    (λ _. picked Short (eqb f 12) _ _ (λ _. field_short 2 d h) (λ _. tt))))))))

item_short : (i : Item) (c : Client) → room i ≤ 2097152 → member (λ n d. client_member n (items d)) i ≡ value c → Short c
unfolding member
item_short none c h e = let z : ◌≡◌ {A = ℕ} 0 1 = cc in absurd (omega arith)
item_short (number f v) c h e = let z : ◌≡◌ {A = ℕ} 0 1 = cc in absurd (omega arith)
item_short (bytes f d) c h e = let q : client_member f (items d) ≡ c = cc in subst Short q (member_short f d (omega arith))

checked_same : (k : Result Unit Refused) (r : Reading Client) (c : Client) → after k r ≡ value c → r ≡ value c
unfolding after
checked_same (Ok u) r c e = e
checked_same (Err x) r c e = let z : ◌≡◌ {A = ℕ} 0 1 = cc in absurd (omega arith)

pub reads_short : (t : Bytes) (c : Client) → length t ≤ 2097152 → client_message t ≡ value c → Short c
unfolding client_message
reads_short t c h e =
    item_short (last_item 1 13 (items t)) c (omega (arith, last_room 1 13 none (items t), items_within t, h))
    (checked_same (check_of ClientMessage t) (member (λ n d. client_member n (items d)) (last_item 1 13 (items t))) c e)

-- the bytes of the member that counts are fewer than the message's
pub received_short : (t : Bytes) → length t ≤ 2097152 → length (received t) ≤ 2097152
received_short t h = omega (arith, held (last_item 1 13 (items t)), last_room 1 13 none (items t), items_within t)
