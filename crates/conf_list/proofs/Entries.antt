-- The room that a setting leaves, and its parts put one behind the other. Assumes nothing.
use mathlib.Core.Path.{◌≡◌, ap, subst}
use Rattle.std.specs.Prelude.{Some, None}
use mathlib.Core.List.{[], ◌∷◌, ◌++◌}
use Prim.Native.Nat.{ℕ, ◌+◌, ◌-◌, ◌/◌, ◌%◌, ◌≤◌, ◌<◌}
use native.Mathlib.Omega.{arith}
use Rattle.std.specs.Int.{to_be_bytes, w32}
use lib.ListN.{length, length-append}
use borrow.Author.Tests.{le-leb, lt-leb}
use Rattle.base_copy.specs.Put.{Put}
use Rattle.base_copy.proofs.Puts.{put_length, then}
use Rattle.conf_lines.specs.Lines.{Bytes}
use Rattle.conf_typed.specs.Typed.{section_name}
use Rattle.conf_typed.specs.declared.Section.{Section}
use Rattle.conf_typed.specs.declared.Section.TheVariants.{Server, Relay, Iolog, Eventlog, Syslog, Logfile, Unknown}
use Rattle.conf_list.specs.Listing.{Setting, four, counted, entry}
use Rattle.conf_list.specs.Entry.{size_of, room_in}

-- ---- the room, where the lengths are those of 4 bytes and the section's is n

pub name_length : (c : Section) → length (section_name c) ≤ 8
unfolding section_name
name_length Server = omega arith
name_length Relay = omega arith
name_length Iolog = omega arith
name_length Eventlog = omega arith
name_length Syslog = omega arith
name_length Logfile = omega arith
name_length Unknown = omega arith

pub long_key : (l : ℕ) (c : Section) (k v : ℕ) → 4294967295 < k → None ≡ room_in l c k v
long_key l c k v h = rw (lt-leb k 4294967295 h)

pub long_value : (l : ℕ) (c : Section) (k v : ℕ) → k ≤ 4294967295 → 4294967295 < v → None ≡ room_in l c k v
long_value l c k v g h = rw (le-leb k 4294967295 g, lt-leb v 4294967295 h)

module _ (l : ℕ) (c : Section) (k v : ℕ) (hk : k ≤ 4294967295) (hv : v ≤ 4294967295) {n : ℕ} (e : n ≡ length (section_name c)) where
  size : 12 + n + k + v ≡ size_of c k v
  size = ap (λ (m : ℕ). 12 + m + k + v) e

  pub no_room : l < 12 + n + k + v → None ≡ room_in l c k v
  no_room h =
      rw (le-leb k 4294967295 hk, le-leb v 4294967295 hv, lt-leb (size_of c k v) l (subst (λ (m : ℕ). l < m) size h))

  pub room_left : 12 + n + k + v ≤ l → Some (l - (12 + n + k + v)) ≡ room_in l c k v
  room_left h =
      rw (le-leb k 4294967295 hk, le-leb v 4294967295 hv, le-leb (size_of c k v) l (subst (λ (m : ℕ). m ≤ l) size h))
      (ap (λ (m : ℕ). Some (l - m)) size)

-- ---- a part behind its length

-- four bytes are those of the last 32 bits
pub four_low : (n : ℕ) → to_be_bytes w32 (n % 4294967296) ≡ four n
four_low n =
    let a : n % 4294967296 / 16777216 % 256 ≡ n / 16777216 % 256 = omega arith in
    let b : n % 4294967296 / 65536 % 256 ≡ n / 65536 % 256 = omega arith in
    let c : n % 4294967296 / 256 % 256 ≡ n / 256 % 256 = omega arith in
    let d : n % 4294967296 % 256 ≡ n % 256 = omega arith in
    λ i. a i ∷ b i ∷ c i ∷ d i ∷ []

module _ (s : Bytes) (at : ℕ) (bs : Bytes) where
  counted_length : length (counted bs) ≡ 4 + length bs
  unfolding counted
  counted_length = length-append (four (length bs)) bs

  pub length_room : at + length (counted bs) ≤ length s → at + 4 ≤ length s
  length_room h = omega (arith, counted_length)

  module _ {s' : Bytes} {at' n : ℕ} (e : n ≡ length bs) (p : Put s at (four n) s' at') where
    pub part_room : at + length (counted bs) ≤ length s → at' + length bs ≤ length s'
    part_room h = omega (arith, p.next, put_length p, counted_length)

    pub put_counted : {s'' : Bytes} {at'' : ℕ} → Put s' at' bs s'' at'' → Put s at (counted bs) s'' at''
    unfolding counted
    put_counted q = then (subst (λ (m : ℕ). Put s at (four m) s' at') e p) q

-- ---- a setting

module _ (s : Bytes) (at : ℕ) (x : Setting) (room : at + length (entry x) ≤ length s) where
  abbrev section : Bytes
  section = counted (section_name x.section)

  entry_length : length (entry x) ≡ length section + length (counted x.key) + length (counted x.value)
  unfolding entry
  entry_length =
      omega (arith, length-append (section ++ counted x.key) (counted x.value), length-append section (counted x.key))

  pub section_room : at + length section ≤ length s
  section_room = omega (arith, entry_length)

  module _ {s₁ : Bytes} {at₁ : ℕ} (p : Put s at section s₁ at₁) where
    pub key_room : at₁ + length (counted x.key) ≤ length s₁
    key_room = omega (arith, p.next, put_length p, entry_length)

    module _ {s₂ : Bytes} {at₂ : ℕ} (q : Put s₁ at₁ (counted x.key) s₂ at₂) where
      pub value_room : at₂ + length (counted x.value) ≤ length s₂
      value_room = omega (arith, p.next, put_length p, q.next, put_length q, entry_length)

      pub put_entry : {s₃ : Bytes} {at₃ : ℕ} → Put s₂ at₂ (counted x.value) s₃ at₃ → Put s at (entry x) s₃ at₃
      unfolding entry
      put_entry r = then (then p q) r
