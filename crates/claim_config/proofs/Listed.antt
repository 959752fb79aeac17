-- A list of settings read back: each length is that of the bytes behind it. Assumes nothing.
use Prim.Native.Nat.{ℕ, zero, suc, ◌+◌, ◌*◌, ◌/◌, ◌%◌, ◌≤◌}
use native.Mathlib.Omega.{arith}
use mathlib.Core.Path.{◌≡◌, refl, sym, ap, ◌∙◌}
use mathlib.Core.List.{List, [], ◌∷◌, ◌++◌, append_assoc}
use mathlib.Core.Bool.{true, false}
use lib.ListN.{length, take, drop, length-append}
use lib.Seq.{take_at, drop_at}
use lib.Dec.{eqb, leb}
use borrow.Author.Tests.{eqb-true, leb-true}
use Rattle.base_laws.proofs.Order.{picked, both_true}
use Rattle.conf_lines.specs.Lines.{Bytes, is_nil}
use Rattle.conf_content.proofs.Ends.{unlike}
use Rattle.conf_typed.specs.Typed.{name, same, section_name, section_of}
use Rattle.conf_typed.specs.declared.Section.{Section}
use Rattle.conf_typed.specs.declared.Section.TheVariants.{Server, Relay, Iolog, Eventlog, Syslog, Logfile, Unknown}
use Rattle.conf_list.specs.Listing.{Setting, counted, entry, listing, is_short, all_short}
use Rattle.conf_read.specs.Config.{is_unknown}
use Rattle.claim_config.specs.Listed.{size_at, field, rest, setting_at, up_to, settings_in, Listed}

named : (s : Section) → section_of (section_name s) ≡ s
unfolding section_of section_name same
named Server = refl
named Relay = refl
named Iolog = refl
named Eventlog = refl
named Syslog = refl
named Logfile = refl
named Unknown = refl

-- bytes that are the same
same_bytes : (a b : Bytes) → same a b ≡ true → b ≡ a
unfolding same
same_bytes [] [] h = refl
same_bytes [] (y ∷ ys) h = unlike (sym h)
same_bytes (x ∷ xs) [] h = unlike (sym h)
same_bytes (x ∷ xs) (y ∷ ys) h =
    let p = both_true (eqb x y) (same xs ys) h in
    rw (eqb-true x y p.0, same_bytes xs ys p.1)

-- a name is a section's own, or the next test decides
own_name : (n : Bytes) → is_unknown (section_of n) ≡ false → section_name (section_of n) ≡ n
unfolding section_of section_name
own_name n =
    picked Own (same n (name "server")) Server _ (λ e h. same_bytes n (name "server") e)
    (λ s. picked Own (same n (name "relay")) Relay _ (λ e h. same_bytes n (name "relay") e)
    (λ r. picked Own (same n (name "iolog")) Iolog _ (λ e h. same_bytes n (name "iolog") e)
    (λ i. picked Own (same n (name "eventlog")) Eventlog _ (λ e h. same_bytes n (name "eventlog") e)
    (λ v. picked Own (same n (name "syslog")) Syslog _ (λ e h. same_bytes n (name "syslog") e)
    (λ g. picked Own (same n (name "logfile")) Logfile Unknown (λ e h. same_bytes n (name "logfile") e) (λ f h. unlike h))))))
  where
    Own : Section → Type 0
    Own s = is_unknown s ≡ false → section_name s ≡ n

pub name_length : (s : Section) → length (section_name s) ≤ 8
unfolding section_name
name_length Server = omega arith
name_length Relay = omega arith
name_length Iolog = omega arith
name_length Eventlog = omega arith
name_length Syslog = omega arith
name_length Logfile = omega arith
name_length Unknown = omega arith

name_short : (s : Section) → length (section_name s) ≤ 4294967295
name_short s = omega (arith, name_length s)

-- ---- one field

joined : (v a b c i j k : ℕ) → v ≡ a * 256 + i → a ≡ b * 256 + j → b ≡ c * 256 + k → c * 16777216 + k * 65536 + j * 256 + i ≡ v
joined v a b c i j k p q r = omega arith

four_bytes : (n : ℕ) → n ≤ 4294967295
    → n / 16777216 % 256 * 16777216 + n / 65536 % 256 * 65536 + n / 256 % 256 * 256 + n % 256 ≡ n
four_bytes n h =
    let e : n / 16777216 % 256 ≡ n / 16777216 = omega arith in
    rw e (joined n (n / 256) (n / 65536) (n / 16777216) _ _ _ (omega arith) (omega arith) (omega arith))

size_counted : (bs r : Bytes) → length bs ≤ 4294967295 → size_at (counted bs ++ r) ≡ length bs
unfolding size_at counted
size_counted bs r h = four_bytes (length bs) h

taken : (bs r : Bytes) → take (length bs) (drop 4 (counted bs ++ r)) ≡ bs
unfolding counted
taken bs r = take_at bs r (length bs) refl

left : (bs r : Bytes) → drop (length bs) (drop 4 (counted bs ++ r)) ≡ r
unfolding counted
left bs r = drop_at bs r (length bs) refl

field_counted : (bs r : Bytes) → length bs ≤ 4294967295 → field (counted bs ++ r) ≡ bs
unfolding field
field_counted bs r h = rw (size_counted bs r h) (taken bs r)

rest_counted : (bs r : Bytes) → length bs ≤ 4294967295 → rest (counted bs ++ r) ≡ r
unfolding rest
rest_counted bs r h = rw (size_counted bs r h) (left bs r)

-- ---- one setting

-- a setting with other bytes behind it
laid : (s : Setting) (r : Bytes)
    → entry s ++ r ≡ counted (section_name s.section) ++ (counted s.key ++ (counted s.value ++ r))
unfolding entry
laid s r =
    append_assoc (counted (section_name s.section) ++ counted s.key) (counted s.value) r
    ∙ append_assoc (counted (section_name s.section)) (counted s.key) (counted s.value ++ r)

short_parts : (s : Setting) → is_short s ≡ true → (length s.key ≤ 4294967295) × (length s.value ≤ 4294967295)
unfolding is_short
short_parts s h =
    let p = both_true (leb (length s.key) 4294967295) (leb (length s.value) 4294967295) h in
    (leb-true (length s.key) 4294967295 p.0, leb-true (length s.value) 4294967295 p.1)

rest_section : (s : Setting) (r : Bytes) → rest (entry s ++ r) ≡ counted s.key ++ (counted s.value ++ r)
rest_section s r =
    ap rest (laid s r) ∙ rest_counted (section_name s.section) (counted s.key ++ (counted s.value ++ r)) (name_short s.section)

rest_key : (s : Setting) (r : Bytes) → is_short s ≡ true → rest (rest (entry s ++ r)) ≡ counted s.value ++ r
rest_key s r h = ap rest (rest_section s r) ∙ rest_counted s.key (counted s.value ++ r) (short_parts s h).0

rest_value : (s : Setting) (r : Bytes) → is_short s ≡ true → rest (rest (rest (entry s ++ r))) ≡ r
rest_value s r h = ap rest (rest_key s r h) ∙ rest_counted s.value r (short_parts s h).1

section_at : (s : Setting) (r : Bytes) → section_of (field (entry s ++ r)) ≡ s.section
section_at s r =
    ap (λ (z : Bytes). section_of (field z)) (laid s r)
    ∙ ap section_of (field_counted (section_name s.section) (counted s.key ++ (counted s.value ++ r)) (name_short s.section))
    ∙ named s.section

key_at : (s : Setting) (r : Bytes) → is_short s ≡ true → field (rest (entry s ++ r)) ≡ s.key
key_at s r h = ap field (rest_section s r) ∙ field_counted s.key (counted s.value ++ r) (short_parts s h).0

value_at_lem : (s : Setting) (r : Bytes) → is_short s ≡ true → field (rest (rest (entry s ++ r))) ≡ s.value
value_at_lem s r h = ap field (rest_key s r h) ∙ field_counted s.value r (short_parts s h).1

setting_at_lem : (s : Setting) (r : Bytes) → is_short s ≡ true → setting_at (entry s ++ r) ≡ s
unfolding setting_at
setting_at_lem s r h = λ i. record { section = section_at s r i; key = key_at s r h i; value = value_at_lem s r h i }

-- ---- the list

entry_some : (s : Setting) (r : Bytes) → is_nil (entry s ++ r) ≡ false
unfolding entry counted
entry_some s r = refl

up_to_lem : (ss : List Setting) (n : ℕ) → length ss ≤ n → all_short ss ≡ true → up_to n (listing ss) ≡ ss
unfolding up_to listing all_short
up_to_lem [] zero l h = refl
up_to_lem [] (suc n) l h = refl
up_to_lem (s ∷ ss) zero l h = absurd (omega arith)
up_to_lem (s ∷ ss) (suc n) l h =
    let p = both_true (is_short s) (all_short ss) h in
    rw (entry_some s (listing ss), setting_at_lem s (listing ss) p.0, rest_value s (listing ss) p.0)
    (ap (λ (z : List Setting). s ∷ z) (up_to_lem ss n (omega arith) p.1))

entry_length : (s : Setting) → 1 ≤ length (entry s)
unfolding entry counted
entry_length s = omega arith

enough : (ss : List Setting) → length ss ≤ length (listing ss)
unfolding listing
enough [] = omega arith
enough (s ∷ ss) =
    let e = length-append (entry s) (listing ss) in
    let a = entry_length s in
    let b = enough ss in
    rw e (omega arith)

read_back : (ss : List Setting) → all_short ss ≡ true → settings_in (listing ss) ≡ ss
unfolding settings_in
read_back ss h = up_to_lem ss (length (listing ss)) (enough ss) h

pub listed : Listed
listed = record {
  named = named;
  own_name = own_name;
  read_back = read_back;
  injective = λ ss ts h k e. sym (read_back ss h) ∙ ap settings_in e ∙ read_back ts k;
}
