-- The answers of `sudolog_client` and `sudolog_server`, by what was read: the numbers laid are read back, and say the message.
use Prim.Native.Nat.{ℕ, ◌+◌, ◌-◌, ◌≤◌, ◌<◌}
use native.Mathlib.Omega.{arith}
use mathlib.Core.Path.{◌≡◌, refl, sym, ap, subst, ◌∙◌}
use mathlib.Core.Bool.{Bool, true, false}
use mathlib.Core.List.{List, [], ◌∷◌}
use lib.ListN.{length}
use lib.Dec.{leb}
use borrow.Author.Tests.{le-leb, leb-true}
use Rattle.base_laws.specs.Base.{pick, both, part, splice}
use Rattle.base_numbers.specs.Eight.{eights, laid, number_at}
use Rattle.base_numbers.proofs.Back.{first_back, second_back, third_back, fourth_back, fifth_back}
use Rattle.wire_fields.specs.Items.{items}
use Rattle.std.specs.Prelude.{Some, None, Ok, Err}
use Rattle.wire_types.specs.Refusals.{number_of}
use Rattle.wire_types.specs.declared.Refused.{Refused}
use Rattle.wire_types.specs.declared.ClientMember.TheVariants as client
use Rattle.wire_walk_client.specs.Client.{client_of}
use Rattle.wire_message.specs.Message.{io_buf, client_member, server_member}
use Rattle.wire_message.specs.Places.{time_value}
use Rattle.wire.specs.Read.{value, client_message, server_message}
use Rattle.wire.specs.Places.{server_of, client_value, server_value}
use Rattle.wire.proofs.Members.{client_means, server_means}
use Rattle.wire.proofs.Bounds.{ReadInBounds, read_in_bounds, ServerInBounds, server_in_bounds}
use Rattle.wire.proofs.Promises.{ReadNumbered, message_numbered, server_numbered}
use Rattle.c_read.specs.Answers.{read_answer, client_numbers, client_buffer, client_says, client_told, server_buffer, server_told}

abbrev Word : ℕ → Type 0
Word v = v < 18446744073709551616

-- ---- numbers laid where they have room, read back

module _ (a b c d e : ℕ) (out : List ℕ) (room : leb 40 (length out) ≡ true) where
  abbrev five : List ℕ
  five = a ∷ b ∷ c ∷ d ∷ e ∷ []

  five_laid : laid five out ≡ splice out 0 (eights five)
  unfolding laid
  five_laid = rw room

  at_0 : Word a → number_at (laid five out) 0 ≡ a
  unfolding number_at eights splice
  at_0 h = ap (λ (o : List ℕ). number_at o 0) five_laid ∙ first_back a b c d e h

  at_8 : Word b → number_at (laid five out) 8 ≡ b
  unfolding number_at eights splice
  at_8 h = ap (λ (o : List ℕ). number_at o 8) five_laid ∙ second_back a b c d e h

  at_16 : Word c → number_at (laid five out) 16 ≡ c
  unfolding number_at eights splice
  at_16 h = ap (λ (o : List ℕ). number_at o 16) five_laid ∙ third_back a b c d e h

  at_24 : Word d → number_at (laid five out) 24 ≡ d
  unfolding number_at eights splice
  at_24 h = ap (λ (o : List ℕ). number_at o 24) five_laid ∙ fourth_back a b c d e h

  at_32 : Word e → number_at (laid five out) 32 ≡ e
  unfolding number_at eights splice
  at_32 h = ap (λ (o : List ℕ). number_at o 32) five_laid ∙ fifth_back a b c d e h

module _ (a b c : ℕ) (out : List ℕ) (room : leb 24 (length out) ≡ true) where
  abbrev three : List ℕ
  three = a ∷ b ∷ c ∷ []

  three_laid : laid three out ≡ splice out 0 (eights three)
  unfolding laid
  three_laid = rw room

  three_at_0 : Word a → number_at (laid three out) 0 ≡ a
  unfolding number_at eights splice
  three_at_0 h = ap (λ (o : List ℕ). number_at o 0) three_laid ∙ first_back a b c 0 0 h

  three_at_8 : Word b → number_at (laid three out) 8 ≡ b
  unfolding number_at eights splice
  three_at_8 h = ap (λ (o : List ℕ). number_at o 8) three_laid ∙ second_back a b c 0 0 h

  three_at_16 : Word c → number_at (laid three out) 16 ≡ c
  unfolding number_at eights splice
  three_at_16 h = ap (λ (o : List ℕ). number_at o 16) three_laid ∙ third_back a b c 0 0 h

-- ---- the answers

not_zero : (n : ℕ) {A : Type 0} → 2 ≤ n → n ≡ 0 → A
not_zero n h e = absurd (omega arith)

module _ (s out : List ℕ) where
  abbrev pub ClientAnswered : ℕ → List ℕ → Type 0
  ClientAnswered r left =
      (r ≡ read_answer (client_message s) 40 (length out))
      × ((left ≡ client_buffer (client_of s) out) × (r ≡ 0 → client_message s ≡ value (client_told s left)))

  module _ (f x y a e : ℕ) (wf : Word f) (wa : Word a) (we : Word (e - a)) (wx : Word x) (wy : Word y) (room : leb 40 (length out) ≡ true) where
    read_back : client_told s (laid (f ∷ a ∷ (e - a) ∷ x ∷ y ∷ []) out) ≡ client_says s f a (e - a) x y
    read_back =
        rw (at_0 f a (e - a) x y out room wf, at_8 f a (e - a) x y out room wa, at_16 f a (e - a) x y out room we, at_24 f a (e - a) x y out room wx, at_32 f a (e - a) x y out room wy)

  io_says : (f x y a e : ℕ) → 6 ≤ f → f ≤ 10 → a ≤ e
      → client_says s f a (e - a) x y ≡ io_buf f (record { delay = time_value (record { seconds = x; nanos = y }); contents = part s a e })
  unfolding client_says
  io_says f x y a e h l w = let q : a + (e - a) ≡ e = omega arith in rw (le-leb 6 f h, le-leb f 10 l, q)

  not_io : (f : ℕ) → (f ≤ 10 → f ≤ 5) → (b c : Bool) → leb 6 f ≡ b → leb f 10 ≡ c → both b c ≡ false
  not_io f h true true p q = absurd (omega (arith, leb-true 6 f p, h (leb-true f 10 q)))
  not_io f h true false p q = refl
  not_io f h false c p q = refl

  member_says : (f a e : ℕ) → (f ≤ 10 → f ≤ 5) → a ≤ e → client_says s f a (e - a) 0 0 ≡ client_member f (items (part s a e))
  unfolding client_says
  member_says f a e h w = let q : a + (e - a) ≡ e = omega arith in rw (not_io f h (leb 6 f) (leb f 10) refl refl, q)

  pub io_told : (f x y a e : ℕ) → Word f → Word a → Word (e - a) → Word x → Word y → client_of s ≡ Ok (Some (client.Io f (record { delay = record { seconds = x; nanos = y }; contents = record { start = a; end = e } })))
      → (ok : Bool) → leb 40 (length out) ≡ ok → (left : List ℕ) → left ≡ laid (f ∷ a ∷ (e - a) ∷ x ∷ y ∷ []) out → ClientAnswered (pick ok 0 12) left
  unfolding client_buffer client_numbers client_value read_answer
  io_told f x y a e wf wa we wx wy h ok k left l =
      let m = sym (client_means s) ∙ ap (client_value s) h in
      let g = subst (ReadInBounds s) h (read_in_bounds s) in
      (rw (m, k), (rw h l, says ok k m g))
    where
      says : (ok : Bool) → leb 40 (length out) ≡ ok
          → client_message s ≡ value (io_buf f (record { delay = time_value (record { seconds = x; nanos = y }); contents = part s a e }))
          → ReadInBounds s (Ok (Some (client.Io f (record { delay = record { seconds = x; nanos = y }; contents = record { start = a; end = e } })))) → ◌≡◌ {A = ℕ} (pick ok 0 12) 0 → client_message s ≡ value (client_told s left)
      says false k m g z = not_zero 12 (omega arith) z
      says true k m g z = m ∙ ap value (sym (ap (client_told s) l ∙ read_back f x y a e wf wa we wx wy k ∙ io_says f x y a e g.0 g.1 g.2))

  pub member_told : (f a e : ℕ) → Word f → Word a → Word (e - a) → client_of s ≡ Ok (Some (client.Other f (record { start = a; end = e })))
      → (ok : Bool) → leb 40 (length out) ≡ ok → (left : List ℕ) → left ≡ laid (f ∷ a ∷ (e - a) ∷ 0 ∷ 0 ∷ []) out → ClientAnswered (pick ok 0 12) left
  unfolding client_buffer client_numbers client_value read_answer
  member_told f a e wf wa we h ok k left l =
      let m = sym (client_means s) ∙ ap (client_value s) h in
      let g = subst (ReadInBounds s) h (read_in_bounds s) in
      (rw (m, k), (rw h l, says ok k m g))
    where
      says : (ok : Bool) → leb 40 (length out) ≡ ok → client_message s ≡ value (client_member f (items (part s a e)))
          → ReadInBounds s (Ok (Some (client.Other f (record { start = a; end = e })))) → ◌≡◌ {A = ℕ} (pick ok 0 12) 0 → client_message s ≡ value (client_told s left)
      says false k m g z = not_zero 12 (omega arith) z
      says true k m g z = m ∙ ap value (sym (ap (client_told s) l ∙ read_back f 0 0 a e wf wa we (omega arith) (omega arith) k ∙ member_says f a e g.1 g.2))

  pub client_none : client_of s ≡ Ok None → ClientAnswered 6 out
  unfolding client_buffer client_value read_answer
  client_none h = (rw (sym (client_means s) ∙ ap (client_value s) h), (rw h, not_zero 6 (omega arith)))

  pub client_refused : (r : Refused) → client_of s ≡ Err r → ClientAnswered (number_of r.refusal) out
  unfolding client_buffer client_value read_answer
  client_refused r h =
      let m = sym (client_means s) ∙ ap (client_value s) h in
      (rw m, (rw h, not_zero (number_of r.refusal) (subst ReadNumbered m (message_numbered s)).0))

  -- ---- of a ServerMessage

  abbrev pub ServerAnswered : ℕ → List ℕ → Type 0
  ServerAnswered r left =
      (r ≡ read_answer (server_message s) 24 (length out))
      × ((left ≡ server_buffer (server_of s) out) × (r ≡ 0 → server_message s ≡ value (server_told s left)))

  server_back : (f a e : ℕ) → Word f → Word a → Word (e - a) → a ≤ e → leb 24 (length out) ≡ true
      → server_told s (laid (f ∷ a ∷ (e - a) ∷ []) out) ≡ server_member f (part s a e)
  server_back f a e wf wa we w room =
      let q : a + (e - a) ≡ e = omega arith in
      rw (three_at_0 f a (e - a) out room wf, three_at_8 f a (e - a) out room wa, three_at_16 f a (e - a) out room we, q)

  pub server_told_lem : (f a e : ℕ) → Word f → Word a → Word (e - a) → server_of s ≡ Ok (Some (record { member = f; bytes = record { start = a; end = e } }))
      → (ok : Bool) → leb 24 (length out) ≡ ok → (left : List ℕ) → left ≡ laid (f ∷ a ∷ (e - a) ∷ []) out → ServerAnswered (pick ok 0 12) left
  unfolding server_buffer server_value read_answer
  server_told_lem f a e wf wa we h ok k left l =
      let m = sym (server_means s) ∙ ap (server_value s) h in
      let g = subst (ServerInBounds s) h (server_in_bounds s) in
      (rw (m, k), (rw h l, says ok k m g))
    where
      says : (ok : Bool) → leb 24 (length out) ≡ ok → server_message s ≡ value (server_member f (part s a e))
          → ServerInBounds s (Ok (Some (record { member = f; bytes = record { start = a; end = e } }))) → ◌≡◌ {A = ℕ} (pick ok 0 12) 0 → server_message s ≡ value (server_told s left)
      says false k m g z = not_zero 12 (omega arith) z
      says true k m g z = m ∙ ap value (sym (ap (server_told s) l ∙ server_back f a e wf wa we g.0 k))

  pub server_none : server_of s ≡ Ok None → ServerAnswered 6 out
  unfolding server_buffer server_value read_answer
  server_none h = (rw (sym (server_means s) ∙ ap (server_value s) h), (rw h, not_zero 6 (omega arith)))

  pub server_refused : (r : Refused) → server_of s ≡ Err r → ServerAnswered (number_of r.refusal) out
  unfolding server_buffer server_value read_answer
  server_refused r h =
      let m = sym (server_means s) ∙ ap (server_value s) h in
      (rw m, (rw h, not_zero (number_of r.refusal) (subst ReadNumbered m (server_numbered s)).0))
