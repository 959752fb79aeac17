-- What a session that stores leaves is a file, with which it agrees: after an accept, after a timed record, after a restart. After an exit
-- the area holds a file too.
use Rattle.std.specs.Prelude.{Option, None, Some}
use Prim.Native.Nat.{ℕ, ◌+◌, ◌≤◌}
use native.Mathlib.Omega.{arith}
use mathlib.Core.Path.{◌≡◌, refl, sym, ap, subst, ◌∙◌}
use mathlib.Core.Logic.{◌⊎◌, inl, inr}
use mathlib.Core.Bool.{Bool, true, false}
use mathlib.Core.List.{List, [], ◌∷◌}
use lib.ListN.{length, take, length-append}
use lib.Seq.{length-take-le}
use lib.Dec.{eqb}
use borrow.Author.Tests.{le-leb, lt-ltb, eqb-true}
use Rattle.base_laws.specs.Base.{pick, splice, All}
use Rattle.base_laws.proofs.Lists.{all_append}
use Rattle.wire_message.specs.Message.{Bytes, Exit}
use Rattle.wire_range.specs.Range.{exit_fits}
use Rattle.file_format.specs.Record.{Record, record_bytes, is_timed}
use Rattle.file_format.specs.File as file
use Rattle.file_format.specs.File.{records_of, file_bytes, limit, time_of, total, low_from, low_total, unfinished, finished, may_follow, rest_kind, records_kind, meets, keep}
use Rattle.file_store.specs.Store.{fits_header}
use Rattle.file_store.proofs.Stores.{header_fits}
use Rattle.file_format.proofs.Times.{accept_cons}
use Rattle.file_format.proofs.Reading.{InRange, Ranged, no_records, one_more, records_of_file, file_of_records}
use Rattle.file_format.proofs.Appends.{snoc, file_snoc, file_stored, kind_timed, kind_exit, total_timed, low_timed}
use Rattle.file_format.proofs.Restarts.{keep_ranged, keep_kind, keep_total, keep_area}
use Rattle.session.specs.Step.{accept_record, exit_record, from_accept, from_restart, grown, carrying}
use Rattle.session.specs.declared.Session.{Session}
use Rattle.claim_values.proofs.Stored.{exit_ranged, may_end_lem}
use Rattle.claim_agreement.specs.Calls.{Host, until_positive, left}
use Rattle.claim_agreement.specs.Agreement.{HoldsFile, AreaHolds, some_bytes, a_file, Agrees}

-- ---- ranges, as a test and as facts

abbrev pub Fits : Record → Type 0
Fits r = fits_header r.kind r.delay (length r.contents) ≡ true

pub fits : (r : Record) → InRange r → Fits r
unfolding fits_header
fits r h = rw (lt-ltb r.kind 16 h.kind_fits, le-leb r.delay limit h.delay_fits, le-leb (length r.contents) 2097152 h.contents_fit)

in_range_lem : (r : Record) → Fits r → InRange r
in_range_lem r e = let p = header_fits r.kind r.delay (length r.contents) e in record { kind_fits = p.0; delay_fits = p.1; contents_fit = p.2 }

pub ranged : (rs : List Record) → All Fits rs → Ranged rs
ranged [] h = no_records
ranged (r ∷ rs) h = one_more (in_range_lem r h.0) (ranged rs h.1)

all_fit : (rs : List Record) → Ranged rs → All Fits rs
all_fit [] no_records = tt
all_fit (r ∷ rs) (one_more h k) = (fits r h, all_fit rs k)

-- ---- what an area holds

-- other bytes behind the used ones make no difference
abbrev pub file_over : (area other : Bytes) (used : ℕ) → take used other ≡ take used area → HoldsFile area used → HoldsFile other used
file_over area other used same f = record {
  records = f.records;
  are_in_range = f.are_in_range;
  is_valid = f.is_valid;
  used_bytes = same ∙ f.used_bytes;
  used_length = f.used_length;
}

-- the records that are read from what an area holds are a file's
abbrev pub ReadsFile : Bytes → ℕ → Type 0
ReadsFile area used = (rs : List Record) → records_of (take used area) ≡ file.all rs → Ranged rs × (file_bytes rs ≡ take used area)

file_reads : (area : Bytes) (used : ℕ) → HoldsFile area used → ReadsFile area used
file_reads area used f rs e =
    let r : Ranged f.records = ranged f.records f.are_in_range in
    let same : f.records ≡ rs = all_same f.records rs (sym (records_of_file f.records r) ∙ ap records_of (sym f.used_bytes) ∙ e) in
    (subst Ranged same r, ap file_bytes (sym same) ∙ sym f.used_bytes)
  where
    all_same : (qs rs : List Record) → file.all qs ≡ file.all rs → qs ≡ rs
    all_same qs rs p = cc

-- what may be asked of an area: a file has it, bytes behind the used ones make no difference, and the records read are a file's
pub record Serves (Holds : Bytes → ℕ → Type 0) : Type 0 where
  pub of_file : (area : Bytes) (used : ℕ) → HoldsFile area used → Holds area used
  pub over : (area other : Bytes) (used : ℕ) → take used other ≡ take used area → Holds area used → Holds other used
  pub reads : (area : Bytes) (used : ℕ) → Holds area used → ReadsFile area used

-- that it is a file
pub file_serves : Serves HoldsFile
file_serves = record { of_file = λ area used f. f; over = file_over; reads = file_reads }

-- that it is a file or any bytes
pub area_serves : Serves AreaHolds
area_serves = record { of_file = λ area used f. a_file f; over = over; reads = reads }
  where
    over : (area other : Bytes) (used : ℕ) → take used other ≡ take used area → AreaHolds area used → AreaHolds other used
    over area other used same (some_bytes b) = some_bytes (rw same b)
    over area other used same (a_file f) = a_file (file_over area other used same f)

    reads : (area : Bytes) (used : ℕ) → AreaHolds area used → ReadsFile area used
    reads area used (some_bytes b) rs e = file_of_records (take used area) rs b e
    reads area used (a_file f) rs e = file_reads area used f rs e

-- ---- where nothing has changed

-- the same numbers, the same used bytes and the same restart point
pub still_agrees : (h : Host) (se : Session) (area : Bytes) (T : Option ℕ) → se.used ≡ h.session.used → se.total ≡ h.session.total → se.low ≡ h.session.low
    → se.mark ≡ h.session.mark → take h.used area ≡ take h.used h.area → T ≡ h.restart_point → Agrees h
    → Agrees (record { session = se; area = area; used = h.used; restart_point = T })
still_agrees h se area T used total low mark same point a = record {
  holds = file_over h.area area h.used same a.holds;
  carries = record {
    is_unfinished = a.carries.is_unfinished;
    carries_used = used ∙ a.carries.carries_used;
    carries_total = total ∙ a.carries.carries_total;
    carries_low = low ∙ a.carries.carries_low;
    carries_point = mark ∙ a.carries.carries_point ∙ sym point;
    at_point = rw point a.carries.at_point;
  };
}

-- ---- restart points

not_none : (t : ℕ) → None ≡ Some t → ⊥
not_none t e = let z : ◌≡◌ {A = ℕ} 0 1 = cc in omega arith

mark_later : (b : Bool) (m : Option ℕ) (T : Option ℕ) → m ≡ T → pick b m None ≡ pick b T None
mark_later true m T e = e
mark_later false m T e = refl

-- ---- after an accept

-- an accept's record, stored in an area of which nothing was used
pub accept_agrees : (area d : Bytes) (used : ℕ) (T : Option ℕ) → used ≡ 0 → T ≡ None → length d ≤ 2097152
    → Agrees (left (carrying None (from_accept (used + length (record_bytes (accept_record d)))) (splice area used (record_bytes (accept_record d)))) T)
unfolding file_bytes total low_from time_of is_timed rest_kind
accept_agrees area d used T u e small =
    let r : Record = accept_record d in
    record {
      holds = record {
        records = r ∷ [];
        are_in_range = (fits r (record { kind_fits = omega arith; delay_fits = omega arith; contents_fit = small }), tt);
        is_valid = inl (accept_cons r [] refl refl);
        used_bytes = ap (λ (k : ℕ). take (k + length (record_bytes r)) (splice area k (record_bytes r))) u ∙ file_stored area [] r refl (omega arith);
        used_length = omega (arith, length-append (record_bytes r) []);
      };
      carries = record {
        is_unfinished = accept_cons r [] refl refl;
        carries_used = refl;
        carries_total = refl;
        carries_low = refl;
        carries_point = sym e;
        at_point = λ t p. absurd (not_none t (sym e ∙ p));
      };
    }

-- ---- a record more

module _ (area : Bytes) (used : ℕ) (f : HoldsFile area used) (r : Record) (within : used ≤ length area) where
  pub file_more : take (used + length (record_bytes r)) (splice area used (record_bytes r)) ≡ file_bytes (snoc f.records r)
  file_more =
      ap (λ (k : ℕ). take (k + length (record_bytes r)) (splice area k (record_bytes r))) f.used_length
      ∙ file_stored area f.records r (ap (λ (k : ℕ). take k area) (sym f.used_length) ∙ f.used_bytes) (omega (arith, f.used_length))

  abbrev pub holds_more : InRange r → (records_kind (snoc f.records r) ≡ unfinished) ⊎ (records_kind (snoc f.records r) ≡ finished)
      → HoldsFile (splice area used (record_bytes r)) (used + length (record_bytes r))
  holds_more in-it valid = record {
    records = snoc f.records r;
    are_in_range = all_append Fits f.records (r ∷ []) f.are_in_range (fits r in-it, tt);
    is_valid = valid;
    used_bytes = file_more;
    used_length = ap (λ (k : ℕ). k + length (record_bytes r)) f.used_length
        ∙ sym (ap length (file_snoc f.records r) ∙ length-append (file_bytes f.records) (record_bytes r));
  }

-- ---- after a timed record

module _ (h : Host) (a : Agrees h) (r : Record) (in-it : InRange r)
    (follows : may_follow (total a.holds.records) r.kind r.delay (length r.contents) ≡ true) where
  abbrev rs : List Record
  rs = a.holds.records

  at_point_later : (b : Bool) → eqb r.delay 0 ≡ b → (t : ℕ) → pick b h.restart_point None ≡ Some t → total (snoc rs r) ≡ t
  at_point_later true e t p = omega (arith, total_timed rs r follows, a.carries.at_point t p, eqb-true r.delay 0 e)
  at_point_later false e t p = absurd (not_none t p)

  pub stored_agrees : h.used ≤ length h.area
      → Agrees (left (carrying None (grown h.session (h.used + length (record_bytes r)) r.delay) (splice h.area h.used (record_bytes r)))
      (until_positive r.delay h.restart_point))
  unfolding until_positive
  stored_agrees within =
      let kind : records_kind (snoc rs r) ≡ unfinished = kind_timed rs r a.carries.is_unfinished follows in
      record {
        holds = holds_more h.area h.used a.holds r within in-it (inl kind);
        carries = record {
          is_unfinished = kind;
          carries_used = refl;
          carries_total = ap (λ (k : ℕ). k + r.delay) a.carries.carries_total ∙ sym (total_timed rs r follows);
          carries_low = ap (λ (k : ℕ). pick (eqb r.delay 0) k h.session.total) a.carries.carries_low
              ∙ ap (λ (k : ℕ). pick (eqb r.delay 0) (low_total rs) k) a.carries.carries_total ∙ sym (low_timed rs r follows);
          carries_point = mark_later (eqb r.delay 0) h.session.mark h.restart_point a.carries.carries_point;
          at_point = at_point_later (eqb r.delay 0) refl;
        };
      }

-- ---- after an exit

pub exited_holds : (h : Host) (a : Agrees h) (e : Exit) → h.used ≤ length h.area → exit_fits e ≡ true → length (exit_record e).contents ≤ 2097152
    → HoldsFile (splice h.area h.used (record_bytes (exit_record e))) (h.used + length (record_bytes (exit_record e)))
exited_holds h a e within f small =
    holds_more h.area h.used a.holds (exit_record e) within (exit_ranged e f small)
    (inr (kind_exit a.holds.records (exit_record e) a.carries.is_unfinished (may_end_lem e f)))

-- ---- after a restart

module _ (area : Bytes) (used : ℕ) (within : used ≤ length area) (t : ℕ) (rs : List Record) (in-it : Ranged rs) (bytes : file_bytes rs ≡ take used area) where
  pub restart_agrees : records_kind rs ≡ unfinished → meets t 0 rs ≡ true
      → Agrees (left (carrying None (from_restart t (length (file_bytes (keep t 0 rs))) (low_total (keep t 0 rs))) area) (Some t))
  restart_agrees e m =
      let size : length (file_bytes rs) ≡ used = ap length bytes ∙ length-take-le used area within in
      record {
        holds = record {
          records = keep t 0 rs;
          are_in_range = all_fit (keep t 0 rs) (keep_ranged t 0 rs in-it);
          is_valid = inl (keep_kind t rs e);
          used_bytes = keep_area area t rs (ap (λ (k : ℕ). take k area) size ∙ sym bytes);
          used_length = refl;
        };
        carries = record {
          is_unfinished = keep_kind t rs e;
          carries_used = refl;
          carries_total = sym (keep_total t rs m);
          carries_low = refl;
          carries_point = refl;
          at_point = λ u p. keep_total t rs m ∙ some_same t u p;
        };
      }
    where
      some_same : (x y : ℕ) → Some x ≡ Some y → x ≡ y
      some_same x y p = cc
