-- Records in an area: those that lie there, one more, and those that a restart keeps.
use Prim.Native.Nat.{ℕ, suc, ◌+◌, ◌≤◌, ◌<◌}
use native.Mathlib.Omega.{arith}
use mathlib.Core.Path.{◌≡◌, refl, ap, sym, ◌∙◌}
use mathlib.Core.Bool.{true}
use mathlib.Core.List.{List, [], ◌∷◌, ◌++◌, append_assoc, append-nil, map}
use lib.ListN.{length, take, length-append}
use lib.Seq.{take-append_seam, length-take-le}
use borrow.Author.Tests.{le-leb}
use Rattle.base_laws.specs.Base.{splice}
use Rattle.base_laws.proofs.Splice.{length_splice}
use Rattle.wire_message.specs.Message.{Bytes}
use Rattle.file_format.specs.Record.{Record, record_bytes, is_timed}
use Rattle.file_format.specs.File.{file_bytes, time_of, total, meets, keep}
use Rattle.file_format.proofs.Appends.{snoc, file_append, file_snoc, file_stored}
use Rattle.file_format.proofs.Restarts.{keep_area}
use Rattle.file_format.proofs.Beginnings.{meets_yes}
use Rattle.session.specs.Step.{accept_record, exit_record}
use Rattle.claim_values.specs.Values.{TimedRecord, stored_for}
use Rattle.claim_delivery.specs.Recording.{Recording, records, total_of}
use Rattle.claim_delivery.proofs.Totals.{kept, later, kept_later, keep_is}
use Rattle.claim_delivery.proofs.Files.{map_append, begun, first, split_records, beginning_short}

-- the used bytes of an area are these records
pub record Holds (area : Bytes) (used : ℕ) (rs : List Record) : Type 0 where
  pub shows : take used area ≡ file_bytes rs
  pub used_is : used ≡ length (file_bytes rs)

-- ---- one more

-- the record that follows the first n
pub record Next (R : Recording) (n : ℕ) (r : Record) : Type 0 where
  pub post : List Record
  pub joined : take n (records R) ++ r ∷ post ≡ records R

pub next_below : (R : Recording) (n : ℕ) (r : Record) → n ≤ length (records R) → Next R n r → n < length (records R)
next_below R n r h x =
    omega (arith, length-take-le n (records R) h, length-append (take n (records R)) (r ∷ x.post), ap length x.joined)

take_snoc : (pre post : List Record) (r : Record) → take (suc (length pre)) (pre ++ r ∷ post) ≡ snoc pre r
take_snoc pre post r =
    let l : suc (length pre) ≡ length (snoc pre r) = omega (arith, length-append pre (r ∷ [])) in
    ap (λ (n : ℕ). take n (pre ++ r ∷ post)) l ∙ ap (take (length (snoc pre r))) (sym (append_assoc pre (r ∷ []) post)) ∙ take-append_seam (snoc pre r) post

next_take : (R : Recording) (n : ℕ) (r : Record) → n ≤ length (records R) → Next R n r → take (suc n) (records R) ≡ snoc (take n (records R)) r
next_take R n r h x =
    let l : suc n ≡ suc (length (take n (records R))) = ap suc (sym (length-take-le n (records R) h)) in
    ap (λ (k : ℕ). take k (records R)) l
    ∙ ap (take (suc (length (take n (records R))))) (sym x.joined)
    ∙ take_snoc (take n (records R)) x.post r

-- there is room for it where the recording's file fits
pub next_room : (R : Recording) (n : ℕ) (r : Record) → Next R n r → length (file_bytes (take n (records R))) + length (record_bytes r) ≤ length (file_bytes (records R))
unfolding file_bytes
next_room R n r x =
    let e : length (file_bytes (records R)) ≡ length (file_bytes (take n (records R))) + length (record_bytes r ++ file_bytes x.post) =
    ap (λ (l : List Record). length (file_bytes l)) (sym x.joined) ∙ ap length (file_append (take n (records R)) (r ∷ x.post))
    ∙ length-append (file_bytes (take n (records R))) (record_bytes r ++ file_bytes x.post) in
    omega (arith, length-append (record_bytes r) (file_bytes x.post))

pub holds_next : (R : Recording) (n : ℕ) (r : Record) (area : Bytes) (used : ℕ) → n ≤ length (records R) → Next R n r → length (file_bytes (records R)) ≤ length area
    → Holds area used (take n (records R)) → Holds (splice area used (record_bytes r)) (used + length (record_bytes r)) (take (suc n) (records R))
holds_next R n r area used h x fits l =
    let rs : List Record = take n (records R) in
    let u : used ≡ length (file_bytes rs) = l.used_is in
    let full : length (file_bytes (snoc rs r)) ≡ length (file_bytes rs) + length (record_bytes r) =
    ap length (file_snoc rs r) ∙ length-append (file_bytes rs) (record_bytes r) in
    record {
      shows = ap (λ (k : ℕ). take (k + length (record_bytes r)) (splice area k (record_bytes r))) u
          ∙ file_stored area rs r (ap (λ (k : ℕ). take k area) (sym u) ∙ l.shows) (omega (arith, beginning_short R n))
          ∙ ap file_bytes (sym (next_take R n r h x));
      used_is = omega arith ∙ sym full ∙ ap (λ (k : List Record). length (file_bytes k)) (sym (next_take R n r h x));
    }

pub size_next : (R : Recording) (n : ℕ) (r : Record) (area : Bytes) (used : ℕ) → Next R n r → length (file_bytes (records R)) ≤ length area
    → Holds area used (take n (records R)) → length (splice area used (record_bytes r)) ≡ length area
size_next R n r area used x fits l = length_splice area used (record_bytes r) (omega (arith, l.used_is, next_room R n r x))

-- ---- which records follow

pub next_accept : (R : Recording) → Next R 0 (accept_record R.accept)
unfolding records
next_accept R = record { post = map stored_for R.timed ++ (exit_record R.exit ∷ []); joined = refl }

pub next_timed : (R : Recording) (n : ℕ) (xs ys : List TimedRecord) (t : TimedRecord) → xs ++ t ∷ ys ≡ R.timed → n ≡ suc (length xs) → Next R n (stored_for t)
next_timed R n xs ys t e k = record {
  post = map stored_for ys ++ (exit_record R.exit ∷ []);
  joined = ap (λ (l : List Record). l ++ stored_for t ∷ (map stored_for ys ++ (exit_record R.exit ∷ []))) (ap (λ (j : ℕ). take j (records R)) k ∙ first R xs (t ∷ ys) e)
      ∙ sym (split_records R xs (t ∷ ys) e);
}

pub next_exit : (R : Recording) (n : ℕ) → n ≡ suc (length R.timed) → Next R n (exit_record R.exit)
next_exit R n k = record {
  post = [];
  joined = ap (λ (l : List Record). l ++ exit_record R.exit ∷ []) (ap (λ (j : ℕ). take j (records R)) k ∙ first R R.timed [] (append-nil R.timed))
      ∙ sym (split_records R R.timed [] (append-nil R.timed));
}

-- ---- a restart

accept_time : (d : Bytes) → time_of (accept_record d) ≡ 0
unfolding time_of is_timed
accept_time d = refl

pub keep_begun : (R : Recording) (T : ℕ) (xs : List TimedRecord) → keep T 0 (begun R xs) ≡ begun R (kept 0 T xs)
unfolding keep time_of is_timed
keep_begun R T xs = rw (le-leb 0 T (omega arith)) (ap (λ (l : List Record). accept_record R.accept ∷ l) (keep_is 0 T xs))

pub meets_begun : (R : Recording) (T : ℕ) (xs : List TimedRecord) → total_of (kept 0 T xs) ≡ T → meets T 0 (begun R xs) ≡ true
unfolding total
meets_begun R T xs h =
    ap (λ (l : List TimedRecord). meets T 0 (begun R l)) (sym (kept_later 0 T xs))
    ∙ ap (λ (l : List Record). meets T 0 (accept_record R.accept ∷ l)) (map_append (kept 0 T xs) (later 0 T xs))
    ∙ meets_yes T (begun R (kept 0 T xs)) (map stored_for (later 0 T xs)) (omega (arith, accept_time R.accept))

-- the used bytes after it
pub holds_kept : (R : Recording) (T : ℕ) (xs ks : List TimedRecord) (area : Bytes) (used : ℕ) → kept 0 T xs ≡ ks → take (suc (length ks)) (records R) ≡ begun R ks
    → Holds area used (begun R xs) → Holds area (length (file_bytes (keep T 0 (begun R xs)))) (take (suc (length ks)) (records R))
holds_kept R T xs ks area used e f l =
    let same : keep T 0 (begun R xs) ≡ take (suc (length ks)) (records R) = keep_begun R T xs ∙ ap (begun R) e ∙ sym f in
    record {
      shows = keep_area area T (begun R xs) (ap (λ (k : ℕ). take k area) (sym l.used_is) ∙ l.shows) ∙ ap file_bytes same;
      used_is = ap (λ (k : List Record). length (file_bytes k)) same;
    }
