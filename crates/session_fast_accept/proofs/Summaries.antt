-- The pass over an accept: what is left from a place on gives, with what is kept of the fields before it, what the whole gives. A field
-- is read by its tag, then each of the three that clients send moves this on.
use Prim.Native.Nat.{ℕ, ◌+◌, ◌≤◌, ◌<◌}
use native.Mathlib.Omega.{arith}
use mathlib.Core.Path.{◌≡◌, refl, sym, ap, subst, ◌∙◌}
use mathlib.Core.List.{List, [], ◌∷◌, map}
use mathlib.Core.Bool.{Bool, true, false}
use lib.ListN.{length, get_or}
use Rattle.std.specs.Prelude.{Some, Result, Ok}
use Rattle.base_laws.specs.Base.{pick, both, part}
use Rattle.wire_varint.specs.Varint.{read, varint_at}
use Rattle.wire_value.specs.Field.{number_read, part_of, as_number, as_part, payload_at}
use Rattle.wire_varint.specs.Tag.{tag_of}
use Rattle.wire_varint.specs.declared.Varint.{Varint}
use Rattle.wire_varint.specs.declared.tag.Tag.{Tag}
use Rattle.wire_types.specs.declared.Refusal.{Refusal}
use Rattle.wire_types.specs.declared.Refused.{Refused}
use Rattle.wire_types.specs.declared.Span.{Span}
use Rattle.wire_value.specs.declared.Payload.{Payload}
use Rattle.wire_value.specs.declared.Payload.TheVariants as payload
use Rattle.wire_fields.specs.Fields.{field_with, field_of, field_from, field_at, next_of, on_field, fields_from, fields_at, among}
use Rattle.wire_fields.specs.Items as item
use Rattle.wire_fields.specs.Items.{Item, item_of, items, last_from, last_item, bytes_of, every_bytes}
use Rattle.wire_fields.proofs.Reach.{PayloadRead, payload_at_lem}
use Rattle.wire_fields.proofs.Follow.{follow, none}
use Rattle.wire_check.proofs.Entries.{tagged}
use Rattle.wire_check_field.proofs.Walk.{field_tag}
use Rattle.wire_elements.specs.Elements.{items_at}
use Rattle.wire_message.specs.Signed.{signed, int32, bool}
use Rattle.wire_message.specs.Message.{Bytes, Entry, time_spec, time_field, entry, entries, accept}
use Rattle.wire_range.specs.Limits.{up_to, date_fits, entries_fit}
use Rattle.wire_range.specs.Range.{accept_fits, body_fits}
use Rattle.session_entries.specs.Required.{same_bytes, key_bytes, last_value, string_or_none, types_from, has, missing_from, entries_refusal}
use Rattle.session_fast_accept.specs.Summary.{with_key, is_met, Passed, EntrySeen, Summarised}
use Rattle.session_fast_accept.specs.declared.Keys.{Keys}
use Rattle.session_entries.proofs.Laws.{entries_at, all_entries, fits_from, fits_all}
use Rattle.session_fast_accept.proofs.KeyLaws.{each_key, with_key_met}

-- ---- a field by its tag, which is one byte

-- how far a value reaches
module _ (s : List ℕ) (x : ℕ) (within : x ≤ length s) where
  pub part_in_bounds : {p : Span} → part_of s x (varint_at s x) ≡ Ok p → (x ≤ p.start) × (p.start ≤ p.end) × (p.end ≤ length s)
  unfolding payload_at as_part
  part_in_bounds h = subst (PayloadRead s x) (ap as_part h) (payload_at_lem s x within x 2 within)

  pub number_in_bounds : {v : Varint} → number_read x (varint_at s x) ≡ Ok v → (x ≤ v.next) × (v.next ≤ length s)
  unfolding payload_at as_number
  number_in_bounds h = subst (PayloadRead s x) (ap as_number h) (payload_at_lem s x within x 0 within)

module _ (s : List ℕ) (at : ℕ) (i : at < length s) (t f w : ℕ) (e : get_or s at 0 ≡ t) (l : t < 128) (is : (x : ℕ) → tag_of (read t x) ≡ field_tag f w x) where
  -- the fields are the one read, and those that follow it
  found : (p : Payload) → payload_at s at (at + 1) w ≡ Ok p → fields_at s at ≡ field_with f p ∷ fields_at s (next_of (field_with f p))
  unfolding field_at field_from field_of on_field
  found p h =
      follow s at i
      ∙ ap (λ (g : Result Tag Refusal). on_field (fields_at s) (field_from s at g)) (tagged s at t f w i l e (is (at + 1)))
      ∙ ap (λ (q : Result Payload Refused). on_field (fields_at s) (field_of f q)) h

  pub part_item : w ≡ 2 → {p : Span} → part_of s (at + 1) (varint_at s (at + 1)) ≡ Ok p → items_at s at ≡ item.bytes f (part s p.start p.end) ∷ items_at s p.end
  unfolding payload_at as_part field_with
  part_item two {p} h = ap (map (item_of s)) (found (payload.Part p) (rw two (ap as_part h)))

  pub number_item : w ≡ 0 → {v : Varint} → number_read (at + 1) (varint_at s (at + 1)) ≡ Ok v → items_at s at ≡ item.number f v.value ∷ items_at s v.next
  unfolding payload_at as_number field_with
  number_item none {v} h = ap (map (item_of s)) (found (payload.Number v) (rw none (ap as_number h)))

-- ---- a required key

-- with what the entries before told, the entries es give what all entries give: is the last entry of the key k a string, and has some
-- entry the key
pub record KeyAt (k : ℕ) (met : Bool) (es all : List Entry) : Type 0 where
  pub strings : fits_from k true es ≡ string_or_none (last_value k all)
  pub found : pick met true (has k es) ≡ has k all

key_start : (k : ℕ) (es all : List Entry) → es ≡ all → KeyAt k false es all
key_start k es all e = record { strings = ap (fits_from k true) e ∙ fits_all k all; found = ap (has k) e }

later : (q was x : Bool) → pick (pick q true was) true x ≡ pick was true (pick q true x)
later true true x = refl
later true false x = refl
later false true x = refl
later false false x = refl

key_past : (k n : ℕ) (keys : Keys) {e : Entry} {es all : List Entry} → k < 4 → KeyAt k (is_met k keys) (e ∷ es) all → Passed e n k
    → KeyAt k (is_met k (with_key keys n)) es all
unfolding fits_from has
key_past k n keys {e} {es} {all} l h p = record {
  strings = ap (λ (t : Bool). fits_from k t es) (sym p.string) ∙ h.strings;
  found =
      ap (λ (t : Bool). pick t true (has k es)) (with_key_met keys n k l ∙ ap (λ (q : Bool). pick q true (is_met k keys)) (sym p.named))
      ∙ later (same_bytes e.key (key_bytes k)) (is_met k keys) (has k es)
      ∙ h.found;
}

key_done : (k : ℕ) {met : Bool} {all : List Entry} → KeyAt k met [] all → met ≡ true → (string_or_none (last_value k all) ≡ true) × (has k all ≡ true)
unfolding fits_from has
key_done k {met} {all} h e = (sym h.strings, sym h.found ∙ ap (λ (t : Bool). pick t true false) e)

none_refused : (es : List Entry) → ((k : ℕ) → k < 4 → (string_or_none (last_value k es) ≡ true) × (has k es ≡ true)) → entries_refusal es ≡ 0
unfolding entries_refusal types_from missing_from
none_refused es h =
    let a = h 0 (omega arith) in
    let b = h 1 (omega arith) in
    let c = h 2 (omega arith) in
    let d = h 3 (omega arith) in
    rw (a.0, b.0, c.0, d.0, a.1, b.1, c.1, d.1)

-- ---- the pass

-- the last flag and the last date so far are kept as items; the flag is what the pass has, the date in range
pub record Told (s : List ℕ) (at : ℕ) (expect : Bool) (keys : Keys) : Type 0 where
  pub flag : Item
  pub flag_is : bool (item.number_of flag) ≡ expect
  pub flags : last_from 3 3 flag (items_at s at) ≡ last_item 3 3 (items s)
  pub date : Item
  pub date_fits_lem : date_fits (time_spec (items (bytes_of date))) ≡ true
  pub dates : last_from 1 1 date (items_at s at) ≡ last_item 1 1 (items s)
  pub fits : entries_fit (entries_at 2 s at) ≡ entries_fit (entries 2 (items s))
  pub each : (k : ℕ) → k < 4 → KeyAt k (is_met k keys) (entries_at 2 s at) (entries 2 (items s))

-- no date is in range: it reads as 0
no_date : date_fits (time_spec (items (bytes_of item.none))) ≡ true
unfolding date_fits up_to time_spec int32 signed items fields_at fields_from last_from item.number_of bytes_of
no_date = refl

pub start : (s : List ℕ) → Told s 0 false (record { command = false; runuser = false; submithost = false; submituser = false })
unfolding bool item.number_of items is_met
start s = record {
  flag = item.none;
  flag_is = refl;
  flags = refl;
  date = item.none;
  date_fits_lem = no_date;
  dates = refl;
  fits = ap entries_fit (all_entries 2 s);
  each = λ k l.
      each_key (λ (k : ℕ). KeyAt k (is_met k (record { command = false; runuser = false; submithost = false; submituser = false })) (entries_at 2 s 0) (entries 2 (items s)))
      (key_start 0 _ _ (all_entries 2 s)) (key_start 1 _ _ (all_entries 2 s)) (key_start 2 _ _ (all_entries 2 s)) (key_start 3 _ _ (all_entries 2 s)) k l;
}

module _ {s : List ℕ} {at : ℕ} {expect : Bool} {keys : Keys} (g : Told s at expect keys) where
  -- at a field whose item is x, and from n on the others
  module _ (n : ℕ) (x : Item) (h : items_at s at ≡ x ∷ items_at s n) where
    moves : (lo hi : ℕ) (l : Item) → last_from lo hi l (items_at s at) ≡ last_item lo hi (items s) → last_from lo hi l (x ∷ items_at s n) ≡ last_item lo hi (items s)
    moves lo hi l e = ap (λ (is : List Item). last_from lo hi l is) (sym h) ∙ e

    found_entries : entries_at 2 s at ≡ entries 2 (x ∷ items_at s n)
    unfolding entries
    found_entries = ap (λ (is : List Item). map (λ (d : Bytes). entry (items d)) (every_bytes 2 is)) h

    -- a field that is no entry leaves the entries as they are
    same_entries : entries 2 (x ∷ items_at s n) ≡ entries_at 2 s n
        → (entries_fit (entries_at 2 s n) ≡ entries_fit (entries 2 (items s)))
        × ((k : ℕ) → k < 4 → KeyAt k (is_met k keys) (entries_at 2 s n) (entries 2 (items s)))
    same_entries e =
        let q = found_entries ∙ e in
        (ap entries_fit (sym q) ∙ g.fits, λ k l. subst (λ (es : List Entry). KeyAt k (is_met k keys) es (entries 2 (items s))) q (g.each k l))

  pub flagged : (v n : ℕ) → items_at s at ≡ item.number 3 v ∷ items_at s n → Told s n (bool v) keys
  unfolding last_from among item.number_of entries every_bytes
  flagged v n h = let same = same_entries n (item.number 3 v) h refl in record {
    flag = item.number 3 v;
    flag_is = refl;
    flags = moves n (item.number 3 v) h 3 3 g.flag g.flags;
    date = g.date;
    date_fits_lem = g.date_fits_lem;
    dates = moves n (item.number 3 v) h 1 1 g.date g.dates;
    fits = same.0;
    each = same.1;
  }

  pub dated : (d : Bytes) (n : ℕ) → items_at s at ≡ item.bytes 1 d ∷ items_at s n → date_fits (time_spec (items d)) ≡ true → Told s n expect keys
  unfolding last_from among bytes_of entries every_bytes
  dated d n h e = let same = same_entries n (item.bytes 1 d) h refl in record {
    flag = g.flag;
    flag_is = g.flag_is;
    flags = moves n (item.bytes 1 d) h 3 3 g.flag g.flags;
    date = item.bytes 1 d;
    date_fits_lem = e;
    dates = moves n (item.bytes 1 d) h 1 1 g.date g.dates;
    fits = same.0;
    each = same.1;
  }

  pub entered : (d : Bytes) (n key : ℕ) → items_at s at ≡ item.bytes 2 d ∷ items_at s n
      → EntrySeen (entry (items d)) (Some key) → Told s n expect (with_key keys key)
  unfolding last_from among entries every_bytes entries_fit EntrySeen
  entered d n key h e = let q : entries_at 2 s at ≡ entry (items d) ∷ entries_at 2 s n = found_entries n (item.bytes 2 d) h in record {
    flag = g.flag;
    flag_is = g.flag_is;
    flags = moves n (item.bytes 2 d) h 3 3 g.flag g.flags;
    date = g.date;
    date_fits_lem = g.date_fits_lem;
    dates = moves n (item.bytes 2 d) h 1 1 g.date g.dates;
    fits = ap (λ (t : Bool). both t (entries_fit (entries_at 2 s n))) (sym e.0) ∙ ap entries_fit (sym q) ∙ g.fits;
    each = λ k l. key_past k key keys l (subst (λ (es : List Entry). KeyAt k (is_met k keys) es (entries 2 (items s))) q (g.each k l)) (e.1 k l);
  }

  pub finish : length s ≤ at → ((k : ℕ) → k < 4 → is_met k keys ≡ true) → Summarised s (Some expect)
  unfolding Summarised accept body_fits accept_fits time_field last_from every_bytes entries_fit
  finish h met =
      let e : items_at s at ≡ [] = ap (map (item_of s)) (none s at h) in
      let es : entries_at 2 s at ≡ [] = ap (λ (is : List Item). map (λ (d : Bytes). entry (items d)) (every_bytes 2 is)) e in
      let flag : g.flag ≡ last_item 3 3 (items s) = ap (λ (is : List Item). last_from 3 3 g.flag is) (sym e) ∙ g.flags in
      let date : g.date ≡ last_item 1 1 (items s) = ap (λ (is : List Item). last_from 1 1 g.date is) (sym e) ∙ g.dates in
      let fits : entries_fit (entries 2 (items s)) ≡ true = sym g.fits ∙ ap entries_fit es in (
        ap (λ (i : Item). bool (item.number_of i)) (sym flag) ∙ g.flag_is,
        rw (← date, g.date_fits_lem, fits),
        none_refused (entries 2 (items s)) (λ k l. key_done k (subst (λ (x : List Entry). KeyAt k (is_met k keys) x (entries 2 (items s))) es (g.each k l)) (met k l)),
      )
