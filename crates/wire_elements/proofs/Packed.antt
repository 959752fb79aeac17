-- Packed numbers: how they go on at a place, and that they are read in their own bytes as in the message that holds them.
use Prim.Native.Nat.{ℕ, zero, suc, ◌+◌, ◌-◌, ◌≤◌, ◌<◌}
use native.Mathlib.Omega.{arith}
use mathlib.Core.Path.{◌≡◌, refl, sym, ap, ◌∙◌}
use mathlib.Core.List.{List, ◌∷◌}
use mathlib.Core.Bool.{Bool, true, false}
use mathlib.Core.Logic.{⊎_elim}
use lib.ListN.{length, get_or, take, drop, length-drop}
use lib.Seq.{get_or-drop}
use lib.Dec.{ltb, leb}
use borrow.Author.Tests.{lt-ltb, le-ltb}
use Rattle.base_laws.proofs.Parts.{part_drop}
use Rattle.base_laws.specs.Base.{pick, part}
use Rattle.base_laws.proofs.Order.{lt_or_le}
use Rattle.std.specs.Prelude.{Result, Ok, Err}
use Rattle.wire_varint.specs.Varint.{above, varint_from, varint_at}
use Rattle.wire_varint.specs.Varint as varint
use Rattle.wire_varint.specs.declared.Varint.{Varint}
use Rattle.wire_varint.specs.declared.VarintError.{VarintError}
use Rattle.wire_varint.specs.declared.VarintError.TheVariants.{PastEnd, TooLong}
use Rattle.wire_fields.proofs.Reach.{Read, read}
use Rattle.wire_elements.specs.Elements.{on_varint, varints_from, varints_at, varints}

module _ (d : List ℕ) where
  same_varint : (f g : ℕ → List ℕ) (at : ℕ) → ((n : ℕ) → at < n → n ≤ length d → f n ≡ g n)
      → (r : Result Varint VarintError) → Read d at r → on_varint f r ≡ on_varint g r
  unfolding on_varint
  same_varint f g at h (Ok v) r = ap (λ (l : List ℕ). v.value ∷ l) (h v.next r.0 r.1)
  same_varint f g at h (Err e) r = refl

  enough : (k j at : ℕ) → length d - at < k → length d - at < j → varints_from k d at ≡ varints_from j d at
  unfolding varints_from
  enough zero j at h l = absurd (omega arith)
  enough (suc k) zero at h l = absurd (omega arith)
  enough (suc k) (suc j) at h l =
      same_varint (varints_from k d) (varints_from j d) at (λ n lt le. enough k j n (omega arith) (omega arith)) (varint_at d at) (read d 9 at)

  -- at a varint: it, and those that follow
  pub varints_follow : (at : ℕ) → varints_at d at ≡ on_varint (varints_at d) (varint_at d at)
  unfolding varints_at varints_from
  varints_follow at =
      same_varint (varints_from (length d - at) d) (varints_at d) at (λ n lt le. enough (length d - at) (suc (length d - n)) n (omega arith) (omega arith)) (varint_at d at) (read d 9 at)

-- a varint with its end a places further on
abbrev moved : ℕ → Result Varint VarintError → Result Varint VarintError
moved a (Ok r) = varint.read r.value (a + r.next)
moved a (Err e) = Err e

moved_above : (a low : ℕ) (r : Result Varint VarintError) → above low (moved a r) ≡ moved a (above low r)
moved_above a low (Ok r) = refl
moved_above a low (Err e) = refl

moved_pick : (t u : Bool) (a b i : ℕ) (r q : Result Varint VarintError) → r ≡ moved a q
    → pick t (pick u (varint.read b (a + i + 1)) r) (Err PastEnd) ≡ moved a (pick t (pick u (varint.read b (i + 1)) q) (Err PastEnd))
moved_pick true true a b i r q e = let h : a + i + 1 ≡ a + (i + 1) = omega arith in ap (λ (n : ℕ). varint.read b n) h
moved_pick true false a b i r q e = e
moved_pick false u a b i r q e = refl

module _ (d : List ℕ) (a : ℕ) where
  same_test : (i : ℕ) → ltb (a + i) (length d) ≡ ltb i (length (drop a d))
  same_test i =
      ⊎_elim
      (λ (h : a + i < length d). let l : i < length (drop a d) = rw length-drop (omega arith) in lt-ltb _ _ h ∙ sym (lt-ltb _ _ l))
      (λ (h : length d ≤ a + i). let l : length (drop a d) ≤ i = rw length-drop (omega arith) in le-ltb _ _ h ∙ sym (le-ltb _ _ l))
      (lt_or_le (a + i) (length d))

  -- past a places, a varint is read as in what is left without them
  shifted : (k i : ℕ) → varint_from k d (a + i) ≡ moved a (varint_from k (drop a d) i)
  unfolding varint_from
  shifted zero i = rw (same_test i, ← get_or-drop a d i 0) (moved_pick (ltb i (length (drop a d))) (leb (get_or (drop a d) i 0) 1) a (get_or (drop a d) i 0) i (Err TooLong) (Err TooLong) refl)
  shifted (suc k) i =
      let h : a + i + 1 ≡ a + (i + 1) = omega arith in
      rw (same_test i, ← get_or-drop a d i 0)
      (moved_pick (ltb i (length (drop a d))) (ltb (get_or (drop a d) i 0) 128) a (get_or (drop a d) i 0) i
      (above (get_or (drop a d) i 0 - 128) (varint_from k d (a + i + 1))) (above (get_or (drop a d) i 0 - 128) (varint_from k (drop a d) (i + 1)))
      (ap (λ (r : Result Varint VarintError). above (get_or (drop a d) i 0 - 128) r) (ap (λ (n : ℕ). varint_from k d n) h ∙ shifted k (i + 1))
      ∙ moved_above a (get_or (drop a d) i 0 - 128) (varint_from k (drop a d) (i + 1))))

  shifted_on : (f g : ℕ → List ℕ) → ((n : ℕ) → f (a + n) ≡ g n) → (r : Result Varint VarintError) → on_varint f (moved a r) ≡ on_varint g r
  unfolding on_varint
  shifted_on f g h (Ok r) = ap (λ (l : List ℕ). r.value ∷ l) (h r.next)
  shifted_on f g h (Err e) = refl

  shifted_all : (k i : ℕ) → varints_from k d (a + i) ≡ varints_from k (drop a d) i
  unfolding varints_from
  shifted_all zero i = refl
  shifted_all (suc k) i =
      ap (λ (r : Result Varint VarintError). on_varint (varints_from k d) r) (shifted 9 i)
      ∙ shifted_on (varints_from k d) (varints_from k (drop a d)) (shifted_all k) (varint_at (drop a d) i)

-- packed numbers, read in the message from where they start up to where they end
pub packed : (s : List ℕ) (a e : ℕ) → varints (part s a e) ≡ varints_at (take e s) a
unfolding varints_at
packed s a e =
    let h : a + 0 ≡ a = omega arith in
    let l : length (drop a (take e s)) - 0 ≡ length (take e s) - a = omega (arith, length-drop a (take e s)) in
    ap (λ (d : List ℕ). varints_from (suc (length d - 0)) d 0) (part_drop s a e)
    ∙ ap (λ (k : ℕ). varints_from (suc k) (drop a (take e s)) 0) l
    ∙ sym (shifted_all (take e s) a (suc (length (take e s) - a)) 0)
    ∙ ap (λ (i : ℕ). varints_from (suc (length (take e s) - a)) (take e s) i) h
