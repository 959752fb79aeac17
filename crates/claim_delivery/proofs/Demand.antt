-- Demand 3 holds.
use Prim.Native.Nat.{ℕ}
use native.Mathlib.Omega.{arith}
use mathlib.Core.Path.{◌≡◌, refl, ap, sym, ◌∙◌}
use mathlib.Core.Bool.{true, false}
use mathlib.Core.List.{List, [], ◌∷◌, ◌++◌, map, head-eq_of_cons-eq, tail-eq_of_cons-eq, nil≢cons, cons≢nil}
use lib.ListN.{length, take}
use lib.Seq.{take-length}
use borrow.Author.Tests.{eqb-true}
use Rattle.base_laws.specs.Base.{All}
use Rattle.wire_message.specs.Message.{Bytes}
use Rattle.file_format.specs.Record.{Record}
use Rattle.file_format.specs.File.{file_bytes, file_kind}
use Rattle.file_format.proofs.Reading.{file_injective}
use Rattle.session.specs.Step.{exit_record}
use Rattle.claim_values.specs.Values.{TimedRecord, stored_for}
use Rattle.claim_values.proofs.Stored.{StorableTimed}
use Rattle.claim_values.proofs.Back.{same_timed, same_exit}
use Rattle.claim_delivery.specs.Recording.{Recording, records}
use Rattle.claim_delivery.specs.Host.{carries}
use Rattle.claim_delivery.specs.World.{World, fresh, file}
use Rattle.claim_delivery.specs.Demand.{Delivery, end, Carries, Demand3}
use Rattle.claim_delivery.proofs.Files.{Storable, all_ranged, carries_none, carries_is}
use Rattle.claim_delivery.proofs.Reached.{Came, unopened, opened, came, reached}

-- ---- a file tells its recording

snoc_same : (xs ys : List Record) (x y : Record) → xs ++ (x ∷ []) ≡ ys ++ (y ∷ []) → (xs ≡ ys) × (x ≡ y)
snoc_same [] [] x y e = (refl, head-eq_of_cons-eq e)
snoc_same [] (b ∷ []) x y e = absurd (nil≢cons (tail-eq_of_cons-eq e))
snoc_same [] (b ∷ c ∷ ys) x y e = absurd (nil≢cons (tail-eq_of_cons-eq e))
snoc_same (a ∷ []) [] x y e = absurd (cons≢nil (tail-eq_of_cons-eq e))
snoc_same (a ∷ c ∷ xs) [] x y e = absurd (cons≢nil (tail-eq_of_cons-eq e))
snoc_same (a ∷ xs) (b ∷ ys) x y e = let h = head-eq_of_cons-eq e in let r = snoc_same xs ys x y (tail-eq_of_cons-eq e) in (cc, r.1)

timed_same : (ts us : List TimedRecord) → All StorableTimed ts → All StorableTimed us → map stored_for ts ≡ map stored_for us → ts ≡ us
timed_same [] [] v w e = refl
timed_same [] (u ∷ us) v w e = absurd (nil≢cons e)
timed_same (t ∷ ts) [] v w e = absurd (cons≢nil e)
timed_same (t ∷ ts) (u ∷ us) v w e =
    let h : t ≡ u = same_timed t u v.0.in_range_lem w.0.in_range_lem (head-eq_of_cons-eq e) in
    let r : ts ≡ us = timed_same ts us v.1 w.1 (tail-eq_of_cons-eq e) in
    λ i. h i ∷ r i

same_file : (R Q : Recording) → Storable R → Storable Q → file_bytes (records R) ≡ file_bytes (records Q) → R ≡ Q
unfolding records
same_file R Q v w e =
    let t : records R ≡ records Q = file_injective (records R) (records Q) (all_ranged R v) (all_ranged Q w) e in
    let a : R.accept ≡ Q.accept = ap (λ (r : Record). r.contents) (head-eq_of_cons-eq t) in
    let u = snoc_same (map stored_for R.timed) (map stored_for Q.timed) (exit_record R.exit) (exit_record Q.exit) (tail-eq_of_cons-eq t) in
    let m : R.timed ≡ Q.timed = timed_same R.timed Q.timed v.timed_storable w.timed_storable u.0 in
    let x : R.exit ≡ Q.exit = same_exit R.exit Q.exit v.valid.exit_in_range w.valid.exit_in_range u.1 in
    λ i. record { accept = a i; timed = m i; exit = x i }

module _ (d : Delivery) where
  shows : (a : ℕ) → file (end d) a ≡ file_bytes (take ((end d).book a) (records d.recording))
  shows a = ((reached d).areas a).holds.shows

  whole_file : (a : ℕ) → (end d).book a ≡ length (records d.recording) → file (end d) a ≡ file_bytes (records d.recording)
  whole_file a e = shows a ∙ ap (λ (k : ℕ). file_bytes (take k (records d.recording))) e ∙ ap file_bytes (take-length (records d.recording))

  -- a file that carries an exit was not there at the beginning
  storable : (a : ℕ) → Carries (end d) a → Storable d.recording
  unfolding carries fresh
  storable a h = go (came d)
    where
      go : Came d.every d.blank d.recording (end d) → Storable d.recording
      go (opened s) = s
      go (unopened e) =
          let z : false ≡ true = sym carries_none ∙ ap (λ (w : World). carries (file_kind (file w a))) (sym e) ∙ ap carries h in
          let y : ◌≡◌ {A = ℕ} 0 1 = cc in
          absurd (omega arith)

  full : (a : ℕ) → Carries (end d) a → file (end d) a ≡ file_bytes (records d.recording)
  unfolding carries
  full a h =
      whole_file a
      (eqb-true ((end d).book a) (length (records d.recording))
      (sym (carries_is d.recording (storable a h) ((end d).book a) ((reached d).areas a).within) ∙ ap (λ (f : Bytes). carries (file_kind f)) (sym (shows a)) ∙ ap carries h))

pub demand_3 : Demand3
demand_3 = record {
  files = shows;
  lengths = λ d a. ((reached d).areas a).holds.used_is;
  restarts = λ d. (reached d).restarts_ok;
  finished = full;
  apart = λ d e a b x y same. same_file d.recording e.recording (storable d a x) (storable e b y) (sym (full d a x) ∙ same ∙ full e b y);
}
