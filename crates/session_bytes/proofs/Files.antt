-- Records that are read from a list take no more than it has, whether or not its elements are bytes; what a restart keeps takes no more
-- than they do.
use Prim.Native.Nat.{ℕ, zero, suc, ◌+◌, ◌-◌, ◌*◌, ◌/◌, ◌%◌, ◌^◌, ◌≤◌}
use native.Mathlib.Omega.{arith}
use mathlib.Core.Path.{◌≡◌, ap, ◌∙◌}
use mathlib.Core.List.{List, []}
use lib.ListN.{length, length-append}
use lib.Dec.{leb, ltb}
use borrow.Author.Tests.{leb-true}
use Rattle.base_laws.specs.Base.{both, part}
use Rattle.base_laws.proofs.Order.{picked, both_true}
use Rattle.base_laws.proofs.Parts.{length_part}
use Rattle.file_format.specs.Digits.{value}
use Rattle.file_format.specs.Record.{second, Record, record_bytes}
use Rattle.file_format.specs.File.{Found, whole, broken, unpacked, record_at, Records, all, none, with_first, on_found, records_from, records_of, file_bytes, keep}
use Rattle.file_format.proofs.Records.{length_record}
use Rattle.file_format.proofs.Appends.{file_append}
use Rattle.file_format.proofs.Restarts.{keep_begins}

-- a record that was found ends where its bytes do, within the list
abbrev Ends : List ℕ → ℕ → Found → Type 0
Ends s at broken = Unit
Ends s at (whole r e) = (e ≡ at + length (record_bytes r)) × (e ≤ length s)

unpacked_ends : (s : List ℕ) (at n : ℕ) → Ends s at (unpacked s at n)
unfolding unpacked
unpacked_ends s at n =
    let len : ℕ = n % 2 ^ 22 in
    let end : ℕ = at + 11 + len in
    let r : Record = record { kind = n / 2 ^ 84; delay = n / 2 ^ 52 % 2 ^ 32 * second + n / 2 ^ 22 % 2 ^ 30; contents = part s (at + 11) end } in
    picked (Ends s at) (both (leb (n / 2 ^ 22 % 2 ^ 30) 999999999) (both (leb len 2097152) (leb end (length s)))) (whole r end) broken
    (λ t.
    let p = both_true (leb (n / 2 ^ 22 % 2 ^ 30) 999999999) (both (leb len 2097152) (leb end (length s))) t in
    let room : end ≤ length s = leb-true end (length s) (both_true (leb len 2097152) (leb end (length s)) p.1).1 in
    let l : length r.contents ≡ end - (at + 11) = length_part s (at + 11) end (omega arith) room in
    (omega (arith, length_record r), room))
    (λ _. tt)

record_ends : (s : List ℕ) (at : ℕ) → Ends s at (record_at s at)
unfolding record_at
record_ends s at =
    picked (Ends s at) (leb (at + 11) (length s)) _ broken (λ _. unpacked_ends s at (value (part s at (at + 11)))) (λ _. tt)

-- records that lie from a place on
abbrev InBounds : List ℕ → ℕ → Records → Type 0
InBounds s at none = Unit
InBounds s at (all rs) = at + length (file_bytes rs) ≤ length s

before_are_in_bounds : (s : List ℕ) (at e : ℕ) (r : Record) (rs : Records) → Ends s at (whole r e) → InBounds s e rs → InBounds s at (with_first r rs)
unfolding with_first file_bytes
before_are_in_bounds s at e r none b l = tt
before_are_in_bounds s at e r (all rs) b l = omega (arith, b.0, length-append (record_bytes r) (file_bytes rs))

found_are_in_bounds : (s : List ℕ) (at : ℕ) (go : ℕ → Records) → ((e : ℕ) → e ≤ length s → InBounds s e (go e)) → (f : Found) → Ends s at f → InBounds s at (on_found go f)
unfolding on_found
found_are_in_bounds s at go more (whole r e) b = before_are_in_bounds s at e r (go e) b (more e b.1)
found_are_in_bounds s at go more broken b = tt

from_are_in_bounds : (n : ℕ) (s : List ℕ) (at : ℕ) → at ≤ length s → InBounds s at (records_from n s at)
unfolding records_from file_bytes
from_are_in_bounds zero s at h = tt
from_are_in_bounds (suc n) s at h =
    picked (InBounds s at) (ltb at (length s)) _ (all [])
    (λ _. found_are_in_bounds s at (records_from n s) (λ e k. from_are_in_bounds n s e k) (record_at s at) (record_ends s at))
    (λ _. omega arith)

records_are_in_bounds : (s : List ℕ) → InBounds s 0 (records_of s)
unfolding records_of
records_are_in_bounds s = from_are_in_bounds (suc (length s)) s 0 (omega arith)

-- the bytes that a restart keeps of the records of s
pub kept_within : (s : List ℕ) (t : ℕ) (rs : List Record) → records_of s ≡ all rs → length (file_bytes (keep t 0 rs)) ≤ length s
kept_within s t rs e =
    let k = keep_begins t 0 rs in
    let size : length (file_bytes rs) ≡ length (file_bytes (keep t 0 rs)) + length (file_bytes k.0) =
    ap length (ap file_bytes k.1 ∙ file_append (keep t 0 rs) k.0) ∙ length-append (file_bytes (keep t 0 rs)) (file_bytes k.0) in
    let l : 0 + length (file_bytes rs) ≤ length s = rw e at (records_are_in_bounds s) in
    omega arith
