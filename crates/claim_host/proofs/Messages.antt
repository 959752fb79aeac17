-- One message at a host in C is one at demand 3's host: what it reads from numbers is what the definitions give.
use Rattle.std.specs.Prelude.{Option, Some, None}
use Prim.Native.Nat.{ℕ, ◌<◌}
use native.Mathlib.Omega.{arith}
use mathlib.Core.Path.{◌≡◌, refl, ap, ◌∙◌}
use mathlib.Core.Logic.{◌⊎◌, inl, inr}
use mathlib.Core.List.{List, [], ◌∷◌}
use lib.ListN.{length}
use lib.Dec.{eqb}
use borrow.Author.Tests.{eq-eqb, ne_eqb}
use Rattle.base_laws.specs.Base.{pick}
use Rattle.wire_frame.specs.Frame.{refusal_of, frame_state, count_of}
use Rattle.wire_frame.specs.declared.Cut.{Cut}
use Rattle.wire_frame.specs.declared.Cut.TheVariants.{Wait, Frame, Refused}
use Rattle.wire_message.specs.Message.{Bytes}
use Rattle.base_numbers.specs.Eight.{eights, number_at}
use Rattle.base_numbers.proofs.Back.{first_back, third_back, fourth_back}
use Rattle.session.specs.Step.{Outcome, step}
use Rattle.session.specs.declared.Session.{Session}
use Rattle.session_bytes.specs.Saved.{state_number, session_of, kept}
use Rattle.session_bytes.specs.Sound.{Sound}
use Rattle.session_bytes.proofs.Slices.{laid_whole}
use Rattle.session_bytes.proofs.Numbers.{loaded_sound}
use Rattle.session_bytes.proofs.Ticks.{PointSound}
use Rattle.session_bytes.proofs.Keeping.{keeping}
use Rattle.c_session.specs.Session.{has_point, point_number, answer_numbers, stepped, message_answer, message_slice, message_area, message_out, tick_number}
use Rattle.claim_delivery.specs.Recording.{Recording}
use Rattle.claim_delivery.specs.Host.{hand, hand_all}
use Rattle.claim_host.specs.Desk.{cut_from, point_in, tick_from, CDesk, seen, room, hand_c, hand_all_c}
use Rattle.claim_host.specs.Carried.{Sized}
use Rattle.claim_host.proofs.Told.{told}

pub cut_back : (c : Cut) → cut_from (frame_state c) (count_of c) ≡ c
unfolding cut_from refusal_of frame_state count_of
cut_back (Wait n) = refl
cut_back (Frame n) = refl
cut_back Refused = refl

pub kept_back : (se : Session) (slice : Bytes) → Sound se → length slice ≡ 40 → session_of (kept se slice) ≡ se
unfolding kept
kept_back se slice h l = rw (eq-eqb (length slice) 40 l) (keeping.back se h)

pub kept_forty : (se : Session) (slice : Bytes) → length slice ≡ 40 → length (kept se slice) ≡ 40
unfolding kept
kept_forty se slice l = rw (eq-eqb (length slice) 40 l) (keeping.forty se)

pub tick_back : (p : Option ℕ) → PointSound p → tick_from (tick_number p) ≡ p
unfolding tick_from tick_number
tick_back None h = refl
tick_back (Some t) h = rw (ne_eqb t 18446744073709551615 (λ e. omega arith))

-- ---- the five numbers

point_back : (p : Option ℕ) (n m : ℕ) → n ≡ has_point p → m ≡ point_number p → pick (eqb n 0) None (Some m) ≡ p
unfolding has_point point_number
point_back None n m e f = rw e
point_back (Some t) n m e f = rw (e, f)

has_most : (p : Option ℕ) → has_point p < 18446744073709551616
unfolding has_point
has_most None = omega arith
has_most (Some t) = omega arith

module _ (d : CDesk) (z : Sized d) (s : Bytes) where
  se : Session
  se = session_of d.slice

  o : Outcome
  o = step se d.area d.used s

  sound : Sound o.session
  unfolding se o
  sound = keeping.step_sound se (loaded_sound d.slice) d.area d.used s

  used_most : o.used < 18446744073709551616
  unfolding o
  used_most = go (told se d.area d.used s).used_told
    where
      go : (o.used ≡ d.used) ⊎ (o.used ≡ o.session.used) → o.used < 18446744073709551616
      go (inl e) = omega (arith, z.word)
      go (inr e) = omega (arith, sound.used)

  number_most : point_number o.point < 18446744073709551616
  unfolding o se point_number
  number_most = go o.point (told se d.area d.used s).point_told
    where
      at_same : {a b : ℕ} → Some a ≡ Some b → a ≡ b
      at_same q = cc

      go : (p : Option ℕ) → (p ≡ None) ⊎ (p ≡ Some se.total) → point_number p < 18446744073709551616
      go None e = omega arith
      go (Some t) (inl e) = let y : ◌≡◌ {A = ℕ} 0 1 = cc in absurd (omega arith)
      go (Some t) (inr e) = omega (arith, at_same e, (loaded_sound d.slice).total)

  abbrev numbers : Bytes
  numbers = eights (o.used ∷ o.key ∷ has_point o.point ∷ point_number o.point ∷ state_number o.session.state ∷ [])

  out-is : message_out d.slice s d.area d.used room ≡ numbers
  unfolding message_out answer_numbers stepped o se
  out-is = laid_whole _ _ _ _ _ room refl

  answer_is : message_answer d.slice s d.area d.used room ≡ o.refusal
  unfolding message_answer stepped o se
  answer_is = refl

  area_is : message_area d.slice s d.area d.used room ≡ o.area
  unfolding message_area stepped o se
  area_is = refl

  slice_is : message_slice d.slice s d.area d.used room ≡ kept o.session d.slice
  unfolding message_slice stepped o se
  slice_is = refl

  session_is : session_of (message_slice d.slice s d.area d.used room) ≡ o.session
  session_is = ap session_of slice_is ∙ kept_back o.session d.slice sound z.forty

  used_is : number_at (message_out d.slice s d.area d.used room) 0 ≡ o.used
  used_is = ap (λ (b : Bytes). number_at b 0) out-is ∙ first_back o.used o.key (has_point o.point) (point_number o.point) (state_number o.session.state) used_most

  point_is : point_in (message_out d.slice s d.area d.used room) ≡ o.point
  unfolding point_in
  point_is =
      point_back o.point _ _
      (ap (λ (b : Bytes). number_at b 16) out-is ∙ third_back o.used o.key (has_point o.point) (point_number o.point) (state_number o.session.state) (has_most o.point))
      (ap (λ (b : Bytes). number_at b 24) out-is ∙ fourth_back o.used o.key (has_point o.point) (point_number o.point) (state_number o.session.state) number_most)

  pub handed : (R : Recording) → seen (hand_c R s d) ≡ hand R s (seen d)
  unfolding hand_c hand o se
  handed R = rw (session_is, area_is, used_is, answer_is, point_is)

  sized : (R : Recording) → Sized (hand_c R s d)
  unfolding hand_c
  sized R = record { forty = ap length slice_is ∙ kept_forty o.session d.slice z.forty; word = omega (arith, used_is, used_most) }

pub all_handed : (R : Recording) (ss : List Bytes) (d : CDesk) → Sized d → seen (hand_all_c R ss d) ≡ hand_all R ss (seen d)
unfolding hand_all_c hand_all
all_handed R [] d z = refl
all_handed R (s ∷ ss) d z = all_handed R ss (hand_c R s d) (sized d z s R) ∙ ap (hand_all R ss) (handed d z s R)

pub all_sized : (R : Recording) (ss : List Bytes) (d : CDesk) → Sized d → Sized (hand_all_c R ss d)
unfolding hand_all_c
all_sized R [] d z = z
all_sized R (s ∷ ss) d z = all_sized R ss (hand_c R s d) (sized d z s R)
