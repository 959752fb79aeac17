-- What a key and an entry tell of the four required keys: one law over the key's number k each time.
use Prim.Native.Nat.{ℕ, zero, suc, ◌≤◌, ◌<◌}
use native.Mathlib.Omega.{arith}
use mathlib.Core.Path.{◌≡◌, refl, sym, ap, subst, ◌∙◌}
use mathlib.Core.List.{List, [], ◌∷◌, map}
use mathlib.Core.Bool.{Bool, true, false, ◌&&◌}
use lib.ListN.{length, take}
use lib.Dec.{eqb, lit≤}
use borrow.Author.Tests.{le-leb, eq-eqb, ne_eqb, eqb-true, eqb-false}
use Rattle.std.specs.Prelude.{Option, Some}
use Rattle.std.proofs.lemmas.List.{take_all}
use Rattle.std.specs.Cmp.Lexicographic.{pointwise}
use Rattle.base_laws.specs.Base.{pick, both, part}
use Rattle.base_laws.proofs.Order.{both_true}
use Rattle.wire_check.specs.Entry.{Holds}
use Rattle.wire_fields.specs.Items.{bytes, item_of, items}
use Rattle.wire_fields.specs.declared.Field.{Field}
use Rattle.wire_message.specs.Message.{Bytes, Value, absent, numval, strval, strlistval, numlistval, Entry, entry}
use Rattle.wire_range.specs.Limits.{is_set, entry_fits}
use Rattle.session_entries.specs.Required.{same_bytes, key_bytes, string_or_none}
use Rattle.session_fast_accept.specs.Summary.{key_number, with_key, all_met, is_met, is_string, EntrySeen, KeySeen}
use Rattle.session_fast_accept.specs.declared.Keys.{Keys}

-- what holds of the four keys holds of each
pub each_key : (P : ℕ → Type 0) → P 0 → P 1 → P 2 → P 3 → (k : ℕ) → k < 4 → P k
each_key P a b c d zero h = a
each_key P a b c d (suc zero) h = b
each_key P a b c d (suc (suc zero)) h = c
each_key P a b c d (suc (suc (suc zero))) h = d
each_key P a b c d (suc (suc (suc (suc k)))) h = absurd (omega arith)

-- ---- a key's number

same_bytes_lem : (a b : Bytes) → same_bytes a b ≡ true → a ≡ b
unfolding same_bytes
same_bytes_lem [] [] e = refl
same_bytes_lem [] (y ∷ ys) e = let z : ◌≡◌ {A = ℕ} 0 1 = cc in absurd (omega arith)
same_bytes_lem (x ∷ xs) [] e = let z : ◌≡◌ {A = ℕ} 0 1 = cc in absurd (omega arith)
same_bytes_lem (x ∷ xs) (y ∷ ys) e =
    let h = both_true (eqb x y) (same_bytes xs ys) e in
    rw (eqb-true x y h.0, same_bytes_lem xs ys h.1)

-- `same_bytes` is what starts_with says of a key of the same length
flip : (x y : ℕ) → eqb x y ≡ eqb y x
flip x y = go (eqb x y) refl
  where
    go : (t : Bool) → eqb x y ≡ t → t ≡ eqb y x
    go true e = let i = eqb-true x y e in sym (eq-eqb y x (sym i))
    go false e = sym (ne_eqb y x (λ i. eqb-false x y e (sym i)))

both_and : (t u : Bool) → both t u ≡ (t && u)
both_and true u = refl
both_and false u = refl

same_compares : (a b : Bytes) → same_bytes a b ≡ pointwise eqb b a
unfolding same_bytes
same_compares [] [] = refl
same_compares [] (y ∷ ys) = refl
same_compares (x ∷ xs) [] = refl
same_compares (x ∷ xs) (y ∷ ys) = both_and (eqb x y) (same_bytes xs ys) ∙ rw (flip x y, same_compares xs ys)

pub compared : (a k : Bytes) → length a ≡ length k → {r t : Bool} → r ≡ pointwise eqb k (take (length k) a) → r ≡ t → same_bytes a k ≡ t
compared a k l e says = same_compares a k ∙ ap (pointwise eqb k) (sym (take_all (length k) a (omega arith))) ∙ sym e ∙ says

-- the required keys differ
apart : (n : ℕ) → n < 4 → (k : ℕ) → k < 4 → same_bytes (key_bytes n) (key_bytes k) ≡ eqb n k
unfolding same_bytes key_bytes
apart =
    each_key (λ (n : ℕ). (k : ℕ) → k < 4 → same_bytes (key_bytes n) (key_bytes k) ≡ eqb n k)
    (each_key (λ (k : ℕ). same_bytes (key_bytes 0) (key_bytes k) ≡ eqb 0 k) refl refl refl refl)
    (each_key (λ (k : ℕ). same_bytes (key_bytes 1) (key_bytes k) ≡ eqb 1 k) refl refl refl refl)
    (each_key (λ (k : ℕ). same_bytes (key_bytes 2) (key_bytes k) ≡ eqb 2 k) refl refl refl refl)
    (each_key (λ (k : ℕ). same_bytes (key_bytes 3) (key_bytes k) ≡ eqb 3 k) refl refl refl refl)

module _ (a : Bytes) where
  pub key_there : (n : ℕ) → n < 4 → same_bytes a (key_bytes n) ≡ true → (k : ℕ) → k < 4 → same_bytes a (key_bytes k) ≡ eqb n k
  key_there n l e k h = ap (λ (d : Bytes). same_bytes d (key_bytes k)) (same_bytes_lem a (key_bytes n) e) ∙ apart n l k h

  pub key_other : same_bytes a (key_bytes 0) ≡ false → same_bytes a (key_bytes 1) ≡ false → same_bytes a (key_bytes 2) ≡ false → same_bytes a (key_bytes 3) ≡ false
      → (k : ℕ) → k < 4 → same_bytes a (key_bytes k) ≡ eqb 4 k
  key_other p q r t = each_key (λ (k : ℕ). same_bytes a (key_bytes k) ≡ eqb 4 k) p q r t

  pub key_length_lem : (k n : ℕ) → length (key_bytes k) ≡ n → (length a ≡ n → ⊥) → same_bytes a (key_bytes k) ≡ false
  key_length_lem k n e h = go (same_bytes a (key_bytes k)) refl
    where
      go : (t : Bool) → same_bytes a (key_bytes k) ≡ t → t ≡ false
      go true is = absurd (h (ap length (same_bytes_lem a (key_bytes k) is) ∙ e))
      go false is = refl

-- the number n is the key's where it tells the four keys as the key does
five : (n : ℕ) → n < 5 → n ≡ pick (eqb n 0) 0 (pick (eqb n 1) 1 (pick (eqb n 2) 2 (pick (eqb n 3) 3 4)))
five zero h = refl
five (suc zero) h = refl
five (suc (suc zero)) h = refl
five (suc (suc (suc zero))) h = refl
five (suc (suc (suc (suc zero)))) h = refl
five (suc (suc (suc (suc (suc n))))) h = absurd (omega arith)

pub key_is : (d : Bytes) (n : ℕ) → n < 5 → ((k : ℕ) → k < 4 → same_bytes d (key_bytes k) ≡ eqb n k) → n ≡ key_number d
unfolding key_number
key_is d n l f = rw (f 0 (lit≤ tt), f 1 (lit≤ tt), f 2 (lit≤ tt), f 3 (lit≤ tt)) (five n l)

-- and it does
pub key_named : (d : Bytes) (k : ℕ) → k < 4 → same_bytes d (key_bytes k) ≡ eqb (key_number d) k
unfolding key_number
key_named d = from_0 (same_bytes d (key_bytes 0)) refl
  where
    Named : ℕ → Type 0
    Named n = (k : ℕ) → k < 4 → same_bytes d (key_bytes k) ≡ eqb n k

    from_3 : same_bytes d (key_bytes 0) ≡ false → same_bytes d (key_bytes 1) ≡ false → same_bytes d (key_bytes 2) ≡ false → (t : Bool)
        → same_bytes d (key_bytes 3) ≡ t → Named (pick t 3 4)
    from_3 p q r true e = key_there d 3 (lit≤ tt) e
    from_3 p q r false e = key_other d p q r e

    from_2 : same_bytes d (key_bytes 0) ≡ false → same_bytes d (key_bytes 1) ≡ false → (t : Bool) → same_bytes d (key_bytes 2) ≡ t
        → Named (pick t 2 (pick (same_bytes d (key_bytes 3)) 3 4))
    from_2 p q true e = key_there d 2 (lit≤ tt) e
    from_2 p q false e = from_3 p q e (same_bytes d (key_bytes 3)) refl

    from_1 : same_bytes d (key_bytes 0) ≡ false → (t : Bool) → same_bytes d (key_bytes 1) ≡ t
        → Named (pick t 1 (pick (same_bytes d (key_bytes 2)) 2 (pick (same_bytes d (key_bytes 3)) 3 4)))
    from_1 p true e = key_there d 1 (lit≤ tt) e
    from_1 p false e = from_2 p e (same_bytes d (key_bytes 2)) refl

    from_0 : (t : Bool) → same_bytes d (key_bytes 0) ≡ t
        → Named (pick t 0 (pick (same_bytes d (key_bytes 1)) 1 (pick (same_bytes d (key_bytes 2)) 2 (pick (same_bytes d (key_bytes 3)) 3 4))))
    from_0 true e = key_there d 0 (lit≤ tt) e
    from_0 false e = from_1 e (same_bytes d (key_bytes 1)) refl

pub with_key_met : (keys : Keys) (n j : ℕ) → j < 4 → is_met j (with_key keys n) ≡ pick (eqb n j) true (is_met j keys)
unfolding is_met with_key
with_key_met keys n = each_key (λ (j : ℕ). is_met j (with_key keys n) ≡ pick (eqb n j) true (is_met j keys)) refl refl refl refl

pub all_are_met : (keys : Keys) → all_met keys ≡ true → (k : ℕ) → k < 4 → is_met k keys ≡ true
unfolding all_met is_met
all_are_met keys e =
    let p = both_true keys.command _ e in
    let q = both_true keys.runuser _ p.1 in
    let r = both_true keys.submithost keys.submituser q.1 in
    each_key (λ (k : ℕ). is_met k keys ≡ true) p.0 q.0 r.0 r.1

-- ---- an entry by its key, which is not empty

string_set : (v : Value) → is_string v ≡ true → (is_set v ≡ true) × (string_or_none v ≡ true)
unfolding is_string is_set string_or_none
string_set absent e = let z : ◌≡◌ {A = ℕ} 0 1 = cc in absurd (omega arith)
string_set (numval n) e = let z : ◌≡◌ {A = ℕ} 0 1 = cc in absurd (omega arith)
string_set (strval d) e = (refl, refl)
string_set (strlistval l) e = let z : ◌≡◌ {A = ℕ} 0 1 = cc in absurd (omega arith)
string_set (numlistval l) e = let z : ◌≡◌ {A = ℕ} 0 1 = cc in absurd (omega arith)

in_range_lem : (d : Bytes) (v : Value) → 1 ≤ length d → is_set v ≡ true → entry_fits (record { key = d; value = v }) ≡ true
unfolding entry_fits
in_range_lem d v h e = rw (le-leb _ _ h, e)

either : (t : Bool) → pick t true true ≡ true
either true = refl
either false = refl

module _ (d : Bytes) (h : 1 ≤ length d) where
  pub string_passes : KeySeen is_string d (Some (key_number d))
  unfolding KeySeen EntrySeen
  string_passes v t =
      let y = string_set v t in (
        in_range_lem d v h y.0,
        λ k l. record {
          named = key_named d k l;
          string = ap (λ (q : Bool). pick (same_bytes d (key_bytes k)) q true) y.1 ∙ either (same_bytes d (key_bytes k));
        },
      )

  pub other_passes : key_number d ≡ 4 → KeySeen is_set d (Some 4)
  unfolding KeySeen EntrySeen
  other_passes e v t = (
    in_range_lem d v h t,
    λ k l.
        let q : same_bytes d (key_bytes k) ≡ eqb 4 k = key_named d k l ∙ ap (λ (n : ℕ). eqb n k) e in
        record { named = q; string = ap (λ (x : Bool). pick x (string_or_none v) true) (q ∙ ne_eqb 4 k (omega arith)) },
  )

-- ---- an entry by its two fields

module _ {s : List ℕ} {k : ℕ} {f : Field} (h : Holds s k f) where
  held : entry (items s) ≡ entry (bytes 1 (part s 2 k) ∷ item_of s f ∷ [])
  unfolding items
  held = ap (λ (fs : List Field). entry (map (item_of s) fs)) h.fields

  -- f is read as the value v, which passes the test
  pub by_value : (test : Value → Bool) (v : Value) (r : Option ℕ)
      → entry (bytes 1 (part s 2 k) ∷ item_of s f ∷ []) ≡ record { key = part s 2 k; value = v } → test v ≡ true
      → KeySeen test (part s 2 k) r → EntrySeen (entry (items s)) r
  unfolding KeySeen
  by_value test v r e t g = subst (λ (x : Entry). EntrySeen x r) (sym (held ∙ e)) (g v t)
