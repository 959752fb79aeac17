-- Whatever part of some frames has come, the host cuts off whole messages of them, in order, and loses nothing.
use Prim.Native.Nat.{ℕ, zero, suc, ◌+◌, ◌-◌, ◌*◌, ◌≤◌, ◌<◌}
use native.Mathlib.Omega.{arith}
use mathlib.Core.Path.{◌≡◌, refl, ap, sym, ◌∙◌}
use mathlib.Core.Bool.{Bool, true, false}
use mathlib.Core.List.{List, [], ◌∷◌, ◌++◌, append_assoc, head-eq_of_cons-eq, tail-eq_of_cons-eq, cons≢nil}
use lib.Dec.{ltb}
use lib.ListN.{length, take, drop, length-append, length-drop}
use lib.Seq.{take-append-le, drop-append-le, take-append_seam, drop-append_seam, drop-drop}
use borrow.Author.Tests.{ltb-false, le-ltb, lt-ltb}
use Rattle.base_laws.specs.Base.{pick, All}
use Rattle.wire_frame.specs.Frame.{length_of, largest, cut_of}
use Rattle.wire_frame.specs.declared.Cut.{Cut}
use Rattle.wire_frame.specs.declared.Cut.TheVariants.{Wait, Frame, Refused}
use Rattle.wire_message.specs.Message.{Bytes}
use Rattle.file_format.specs.Digits.{digits, value_from}
use Rattle.file_format.proofs.Numbers.{length_digits, value_digits}
use Rattle.claim_delivery.specs.Host.{frame, frames, Drained, drain_cut, drain}

abbrev pub Fits : Bytes → Type 0
Fits m = length m ≤ 2097152

-- what stands at the front of the buffer b, where the frame of m and then fs is coming, `rest` of it still on its way
pub data Front (m b rest fs : Bytes) (c : Cut) : Type 0 where
  waits : (n : ℕ) → c ≡ Wait n → Front m b rest fs c
  whole : c ≡ Frame (length m) → take (length m) (drop 4 b) ≡ m → drop (4 + length m) b ++ rest ≡ fs → Front m b rest fs c

-- the four bytes give the length
length_back : (m t : Bytes) → Fits m → length_of (digits 4 (length m) ++ t) ≡ length m
unfolding length_of digits value_from
length_back m t h = none_before _ _ _ _ ∙ value_digits 4 (length m) (omega arith)
  where
    none_before : (a b c d : ℕ) → ((a * 256 + b) * 256 + c) * 256 + d ≡ (((0 * 256 + a) * 256 + b) * 256 + c) * 256 + d
    none_before a b c d = omega arith

-- the message behind its four bytes
behind : (m b t rest fs : Bytes) → Fits m → drop 4 b ≡ t → length b ≡ 4 + length t → length_of b ≡ length m → t ++ rest ≡ m ++ fs
    → Front m b rest fs (cut_of b)
unfolding cut_of
behind m b t rest fs h d l n e =
    rw (le-ltb (length b) 4 (omega arith), n, le-ltb largest (length m) h) (go (ltb (length b) (4 + length m)) refl)
  where
    go : (x : Bool) → ltb (length b) (4 + length m) ≡ x → Front m b rest fs (pick x (Wait (4 + length m - length b)) (Frame (length m)))
    go true p = waits (4 + length m - length b) refl
    go false p =
        let k : length m ≤ length t = omega (arith, ltb-false (length b) (4 + length m) p) in
        whole refl
        (ap (take (length m)) d ∙ sym (take-append-le (length m) t rest k) ∙ ap (take (length m)) e ∙ take-append_seam m fs)
        (ap (λ (x : Bytes). x ++ rest) (sym (drop-drop (length m) 4 b) ∙ ap (drop (length m)) d) ∙ sym (drop-append-le (length m) t rest k) ∙ ap (drop (length m)) e ∙ drop-append_seam m fs)

too_few : (m b rest fs : Bytes) → length b < 4 → Front m b rest fs (cut_of b)
unfolding cut_of
too_few m b rest fs h = waits (4 - length b) (rw (lt-ltb (length b) 4 h))

pub cut_front : (m b rest fs : Bytes) → Fits m → b ++ rest ≡ frame m ++ fs → Front m b rest fs (cut_of b)
unfolding frame digits length_of
cut_front m [] rest fs h e = too_few m [] rest fs (omega arith)
cut_front m (b ∷ []) rest fs h e = too_few m (b ∷ []) rest fs (omega arith)
cut_front m (b ∷ c ∷ []) rest fs h e = too_few m (b ∷ c ∷ []) rest fs (omega arith)
cut_front m (b ∷ c ∷ d ∷ []) rest fs h e = too_few m (b ∷ c ∷ d ∷ []) rest fs (omega arith)
cut_front m (a ∷ b ∷ c ∷ d ∷ t) rest fs h e =
    let e₁ = tail-eq_of_cons-eq e in
    let e₂ = tail-eq_of_cons-eq e₁ in
    let e₃ = tail-eq_of_cons-eq e₂ in
    let n : length_of (a ∷ b ∷ c ∷ d ∷ t) ≡ length m =
    rw (head-eq_of_cons-eq e, head-eq_of_cons-eq e₁, head-eq_of_cons-eq e₂, head-eq_of_cons-eq e₃) (length_back m t h) in
    behind m (a ∷ b ∷ c ∷ d ∷ t) t rest fs h refl (omega arith) n (tail-eq_of_cons-eq e₃)

-- ---- all of them

-- the messages that were cut off, those still to come, and what of their frames has come
pub record Left (ms : List Bytes) (rest : Bytes) (d : Drained) : Type 0 where
  pub coming : List Bytes
  pub split : ms ≡ d.messages ++ coming
  pub lined : d.left ++ rest ≡ frames coming

pub drained : (k : ℕ) (ms : List Bytes) (b rest : Bytes) → All Fits ms → b ++ rest ≡ frames ms → Left ms rest (drain k b)
unfolding drain drain_cut frames cut_of
drained zero ms b rest f e = record { coming = ms; split = refl; lined = e }
drained (suc k) [] [] rest f e = record { coming = []; split = refl; lined = e }
drained (suc k) [] (x ∷ b) rest f e = absurd (cons≢nil e)
drained (suc k) (m ∷ ms) b rest f e = go (cut_of b) (drained k ms) (cut_front m b rest (frames ms) f.0 e)
  where
    go : (c : Cut) → ((b rest : Bytes) → All Fits ms → b ++ rest ≡ frames ms → Left ms rest (drain k b))
        → Front m b rest (frames ms) c → Left (m ∷ ms) rest (drain_cut (drain k) b c)
    go c ih (waits n p) = rw p (record { coming = m ∷ ms; split = refl; lined = e })
    go c ih (whole p q s) =
        let r = ih (drop (4 + length m) b) rest f.1 s in
        rw p (record {
          coming = r.coming;
          split = ap (λ (x : Bytes). x ∷ ms) (sym q) ∙ ap (λ (l : List Bytes). take (length m) (drop 4 b) ∷ l) r.split;
          lined = r.lined;
        })

-- ---- and leaves no whole frame

-- no whole frame stands at the start
abbrev pub Short : Bytes → Type 0
Short b = (n : ℕ) → cut_of b ≡ Frame n → ⊥

-- a whole frame has its four bytes and its message
pub frame_inside : (b : Bytes) (n : ℕ) → cut_of b ≡ Frame n → 4 + n ≤ length b
unfolding cut_of
frame_inside b n e = go (ltb (length b) 4) (ltb largest (length_of b)) (ltb (length b) (4 + length_of b)) refl e
  where
    go : (x y z : Bool) → ltb (length b) (4 + length_of b) ≡ z
        → pick x (Wait (4 - length b)) (pick y Refused (pick z (Wait (4 + length_of b - length b)) (Frame (length_of b)))) ≡ Frame n → 4 + n ≤ length b
    go true y z t q = let u : ◌≡◌ {A = ℕ} 0 1 = cc in absurd (omega arith)
    go false true z t q = let u : ◌≡◌ {A = ℕ} 0 1 = cc in absurd (omega arith)
    go false false true t q = let u : ◌≡◌ {A = ℕ} 0 1 = cc in absurd (omega arith)
    go false false false t q = let u : length_of b ≡ n = cc in omega (arith, ltb-false (length b) (4 + length_of b) t)

none_short : (b : Bytes) → length b ≤ 0 → Short b
none_short b h n e = absurd (omega (arith, frame_inside b n e))

pub drain_short : (k : ℕ) (b : Bytes) → length b ≤ k → Short (drain k b).left
unfolding drain drain_cut
drain_short zero b h = none_short b h
drain_short (suc k) b h = go (cut_of b) refl (drain_short k)
  where
    differ : (c : Cut) → cut_of b ≡ c → ((n : ℕ) → c ≡ Frame n → ⊥) → Short b
    differ c e f n q = f n (sym e ∙ q)

    go : (c : Cut) → cut_of b ≡ c → ((t : Bytes) → length t ≤ k → Short (drain k t).left) → Short (drain_cut (drain k) b c).left
    go (Wait n) e ih = differ (Wait n) e (λ m q. let u : ◌≡◌ {A = ℕ} 0 1 = cc in omega arith)
    go Refused e ih = differ Refused e (λ m q. let u : ◌≡◌ {A = ℕ} 0 1 = cc in omega arith)
    go (Frame n) e ih = ih (drop (4 + n) b) (omega (arith, frame_inside b n e, length-drop (4 + n) b))

-- a frame that is there is a whole one
pub frame_whole : (m fs : Bytes) → Fits m → cut_of (frame m ++ fs) ≡ Frame (length m)
unfolding frame cut_of
frame_whole m fs h =
    let b : Bytes = (digits 4 (length m) ++ m) ++ fs in
    let n : length_of b ≡ length m = ap length_of (append_assoc (digits 4 (length m)) m fs) ∙ length_back m (m ++ fs) h in
    let l : length b ≡ 4 + length m + length fs =
    length-append (digits 4 (length m) ++ m) fs ∙ ap (λ (k : ℕ). k + length fs) (length-append (digits 4 (length m)) m ∙ ap (λ (k : ℕ). k + length m) (length_digits 4 (length m))) in
    rw (le-ltb (length b) 4 (omega arith), n, le-ltb largest (length m) h, le-ltb (length b) (4 + length m) (omega arith))

-- so where nothing more is to come and no whole frame is there, there are no messages left
pub none_left : (ms : List Bytes) (b : Bytes) → All Fits ms → b ≡ frames ms → Short b → ms ≡ []
unfolding frames
none_left [] b f e s = refl
none_left (m ∷ ms) b f e s = absurd (s (length m) (ap cut_of e ∙ frame_whole m (frames ms) f.0))
