-- The refusal of a run as a number: 0 says that the run is taken and its entries are in range, and written entries give it.
use Prim.Native.Nat.{ℕ, zero, suc, ◌-◌, ◌≤◌}
use native.Mathlib.Omega.{arith}
use mathlib.Core.Path.{◌≡◌, refl, ap, ◌∙◌}
use mathlib.Core.List.{List, [], ◌∷◌, ◌++◌, map}
use mathlib.Core.Bool.{Bool, true, false}
use lib.ListN.{length}
use lib.Dec.{ltb, eqb}
use borrow.Author.Tests.{le-leb}
use Rattle.base_laws.specs.Base.{pick, both, part}
use Rattle.base_laws.proofs.Order.{picked}
use Rattle.wire_varint.specs.Varint.{varint_at}
use Rattle.wire_schema.specs.Schema.{InfoMessage}
use Rattle.wire_value.specs.Field.{part_of, as_part, payload_at}
use Rattle.wire_varint.specs.Tag.{tag_at}
use Rattle.wire_fields.specs.Items.{Item, items, every_bytes}
use Rattle.wire_varint.specs.declared.tag.Tag.{Tag}
use Rattle.wire_types.specs.declared.Refusal.{Refusal}
use Rattle.wire_types.specs.declared.Span.{Span}
use Rattle.wire_types.specs.declared.Refused.{Refused}
use Rattle.std.specs.Prelude.{Result, Ok, Err}
use Rattle.wire_message.specs.Message as m
use Rattle.wire_message.specs.Message.{Bytes, entry, entries}
use Rattle.wire_range.specs.Limits.{is_set, entry_fits, entries_fit}
use Rattle.wire.specs.Read.{check_number}
use Rattle.wire_check_field.proofs.Numbered.{TagTold, Told, CheckTold, tag_told, payload_told, before_told, check_told}
use Rattle.write_forms.specs.Draft.{EntryDraft, numval, strval, strlistval, numlistval, meant_value}
use Rattle.write_forms.specs.Run.{entry_of, entry_at, on_entry, run_from, run_at, run_refusal}
use Rattle.write_forms.proofs.Joined.{items_joined}
use Rattle.write_forms.proofs.Values.{every_joined}
use Rattle.write_forms.proofs.Runs.{run_of, run_whole, run_joined}

-- ---- a run is refused with the numbers of a message

module _ (f : ℕ) (s : List ℕ) where
  on_entry_told : (go : ℕ → Result Unit Refused) → ((n : ℕ) → CheckTold (go n)) → (q : Result Span Refused) → Told q → CheckTold (on_entry go s q)
  unfolding on_entry
  on_entry_told go g (Ok p) h = before_told p.start _ _ (check_told InfoMessage (part s p.start p.end)) (g p.end)
  on_entry_told go g (Err r) h = h

  of_part : (p : Result Span Refused) → Told (as_part p) → Told p
  unfolding as_part
  of_part (Ok q) h = tt
  of_part (Err r) h = h

  part_told : (at x : ℕ) → Told (part_of s x (varint_at s x))
  unfolding payload_at
  part_told at x = of_part (part_of s x (varint_at s x)) (payload_told s at x 2)

  entry_of_told : (at : ℕ) (t : Result Tag Refusal) → TagTold t → Told (entry_of f s at t)
  unfolding entry_of
  entry_of_told at (Err r) h = h
  entry_of_told at (Ok t) h =
      picked Told (eqb t.number f) _ _
      (λ _. picked Told (eqb t.wire 2) _ _ (λ _. part_told at t.next) (λ _. (omega arith, omega arith))) (λ _. (omega arith, omega arith))

  run_from_told : (k at : ℕ) → CheckTold (run_from k f s at)
  unfolding run_from entry_at tag_at
  run_from_told zero at = tt
  run_from_told (suc k) at =
      picked CheckTold (ltb at (length s)) _ _
      (λ _. on_entry_told (run_from k f s) (run_from_told k) (entry_at f s at) (entry_of_told at (tag_at s at) (tag_told s (varint_at s at))))
      (λ _. tt)

  number_fine : (c : Result Unit Refused) (n : ℕ) → CheckTold c → check_number c n ≡ 0 → (c ≡ Ok tt) × (n ≡ 0)
  unfolding check_number
  number_fine (Ok u) n h e = (refl, e)
  number_fine (Err r) n h e = absurd (omega arith)

  fit : (t : Bool) → ◌≡◌ {A = ℕ} (pick t 0 7) 0 → t ≡ true
  fit true e = refl
  fit false e = absurd (omega arith)

  -- no refusal: the run is taken, and its entries are in range
  pub no_refusal : run_refusal f s ≡ 0 → (run_at f s 0 ≡ Ok tt) × (entries_fit (entries f (items s)) ≡ true)
  unfolding run_refusal run_at
  no_refusal e =
      let h = number_fine (run_at f s 0) (pick (entries_fit (entries f (items s))) 0 7) (run_from_told (suc (length s - 0)) 0) e in
      (h.0, fit (entries_fit (entries f (items s))) h.1)

  pub no_refusal_of : run_at f s 0 ≡ Ok tt → entries_fit (entries f (items s)) ≡ true → run_refusal f s ≡ 0
  unfolding run_refusal check_number
  no_refusal_of e h = rw (e, h)

-- ---- two runs

fit_joined : (a b : List m.Entry) → entries_fit (a ++ b) ≡ both (entries_fit a) (entries_fit b)
unfolding entries_fit
fit_joined [] b = refl
fit_joined (x ∷ a) b = ap (both (entry_fits x)) (fit_joined a b) ∙ go (entry_fits x) (entries_fit a) (entries_fit b)
  where
    go : (u v w : Bool) → both u (both v w) ≡ both (both u v) w
    go true v w = refl
    go false v w = refl

pub entries_joined : (f : ℕ) (is js : List Item) → entries f (is ++ js) ≡ entries f is ++ entries f js
unfolding entries
entries_joined f is js = ap (map (λ (d : Bytes). entry (items d))) (every_joined f is js) ∙ go (every_bytes f is)
  where
    go : (ds : List Bytes) → map (λ (d : Bytes). entry (items d)) (ds ++ every_bytes f js)
        ≡ map (λ (d : Bytes). entry (items d)) ds ++ map (λ (d : Bytes). entry (items d)) (every_bytes f js)
    go [] = refl
    go (d ∷ ds) = ap (λ (l : List m.Entry). entry (items d) ∷ l) (go ds)

pub run_joined_taken : (f : ℕ) (a b : Bytes) → run_refusal f a ≡ 0 → run_refusal f b ≡ 0 → run_refusal f (a ++ b) ≡ 0
run_joined_taken f a b x y =
    let p = no_refusal f a x in
    let q = no_refusal f b y in
    let e : items (a ++ b) ≡ items a ++ items b = items_joined a b (run_whole f a (run_of f a p.0)) (run_whole f b (run_of f b q.0)) in
    no_refusal_of f (a ++ b) (run_joined f a b p.0 q.0)
    (ap (λ (is : List Item). entries_fit (entries f is)) e ∙ ap entries_fit (entries_joined f (items a) (items b))
    ∙ fit_joined (entries f (items a)) (entries f (items b)) ∙ rw (p.1, q.1))

-- ---- one entry

pub value_set : (v : EntryDraft) → is_set (meant_value v) ≡ true
unfolding is_set meant_value
value_set (numval v) = refl
value_set (strval d) = refl
value_set (strlistval ds) = refl
value_set (numlistval vs) = refl

-- an entry that reads back with a key is in range
pub entry_fits_lem : (f : ℕ) (s d key : Bytes) (v : EntryDraft) → every_bytes f (items s) ≡ d ∷ [] → entry (items d) ≡ record { key = key; value = meant_value v }
    → 1 ≤ length key → entries_fit (entries f (items s)) ≡ true
unfolding entries entries_fit entry_fits
entry_fits_lem f s d key v e r h =
    ap (λ (ds : List Bytes). entries_fit (map (λ (x : Bytes). entry (items x)) ds)) e
    ∙ ap (λ (x : m.Entry). both (entry_fits x) true) r
    ∙ rw (le-leb 1 (length key) h, value_set v)
