-- The answers by their cases: the file in an area, then what it is.
use mathlib.Core.Path.{◌≡◌, refl, sym, ap, ◌∙◌}
use mathlib.Core.List.{List, [], ◌∷◌}
use mathlib.Core.Bool.{true, false}
use Prim.Native.Nat.{ℕ, ◌+◌, ◌≤◌}
use native.Mathlib.Omega.{arith}
use lib.ListN.{length, take}
use lib.Seq.{length-take-le}
use lib.Dec.{leb, eqb}
use Rattle.base_laws.specs.Base.{pick, part}
use Rattle.base_laws.proofs.Parts.{length_part}
use Rattle.base_numbers.specs.Eight.{laid}
use Rattle.file_format.specs.File.{record_at, within_area}
use Rattle.file_format.specs.Head.{head_of}
use Rattle.file_format.specs.declared.head.Head.{Head}
use Rattle.file_format.proofs.Areas.{within_area_lem}
use Rattle.file_format.proofs.Heads.{head_reach}
use Rattle.file_format.proofs.Found.{broken_head, whole_head}
use Rattle.file_compare.specs.Compare.{compare_answer, compare_out}
use Rattle.file_compare.specs.declared.CompareError.{CompareError}
use Rattle.std.specs.Prelude.{Some, None, Result}
use Rattle.c_files.specs.Files.{refused, both_within, compare_areas, compare_areas_out, compared_number, standing_in, standing, record_answer, record_out}

-- the used bytes of an area are as many as are used
pub used_bytes : (area : List ℕ) (used : ℕ) → within_area (length area) used ≡ true → used ≡ length (take used area)
used_bytes area used w = omega (arith, length-take-le used area (within_area_lem _ used w).1)

-- ---- two files

module _ (a : List ℕ) (u : ℕ) (b : List ℕ) (v : ℕ) (out : List ℕ) where
  -- what is returned, and the buffer left
  abbrev pub Compares : ℕ → List ℕ → Type 0
  Compares r left = (r ≡ compared_number (compare_areas a u b v out)) × (left ≡ compare_areas_out a u b v out)

  pub out_of_bounds : both_within a u b v ≡ false → Compares (refused 15) out
  unfolding compare_areas compare_areas_out compared_number
  out_of_bounds w = rw w (refl, refl)

  pub in_bounds : both_within a u b v ≡ true → (c : Result ℕ CompareError) (left : List ℕ) → compare_answer (take u a) (take v b) out ≡ c → left ≡ compare_out (take u a) (take v b) out
      → Compares (compared_number c) left
  unfolding compare_areas compare_areas_out
  in_bounds w c left e l = rw w (ap compared_number (sym e), l)

-- ---- a record

module _ (s : List ℕ) (at : ℕ) (out : List ℕ) where
  abbrev pub Tells : ℕ → List ℕ → Type 0
  Tells r left = (r ≡ record_answer (standing_in s at) (length out)) × (left ≡ record_out at (standing_in s at) out)

  pub at_end : eqb at (length s) ≡ true → Tells 0 out
  unfolding standing_in record_answer record_out
  at_end e = rw e (refl, refl)

  pub none_there : eqb at (length s) ≡ false → head_of (record_at s at) ≡ None → Tells 15 out
  unfolding standing_in record_answer record_out
  none_there e h = rw (e, broken_head s at h) (refl, refl)

  pub one_there : eqb at (length s) ≡ false → (h : Head) → head_of (record_at s at) ≡ Some h
      → (r : ℕ) → r ≡ pick (leb 40 (length out)) 1 12 → (left : List ℕ) → left ≡ laid (h.kind ∷ h.delay ∷ (at + 11) ∷ h.len ∷ (at + 11 + h.len) ∷ []) out → Tells r left
  unfolding standing_in record_answer record_out
  one_there e h f r q left l =
      let reach : at + 11 + h.len ≤ length s = head_reach s at h f in
      let as_long : length (part s (at + 11) (at + 11 + h.len)) ≡ h.len = omega (arith, length_part s (at + 11) (at + 11 + h.len) (omega arith) reach) in
      rw (e, whole_head s at h f) (q, l ∙ ap (λ (k : ℕ). laid (h.kind ∷ h.delay ∷ (at + 11) ∷ k ∷ (at + 11 + h.len) ∷ []) out) (sym as_long))

module _ (area : List ℕ) (used at : ℕ) (out : List ℕ) where
  abbrev pub TellsIn : ℕ → List ℕ → Type 0
  TellsIn r left = (r ≡ record_answer (standing area used at) (length out)) × (left ≡ record_out at (standing area used at) out)

  pub record_out_of_bounds : within_area (length area) used ≡ false → TellsIn 15 out
  unfolding standing record_answer record_out
  record_out_of_bounds w = rw w (refl, refl)

  pub record_in_bounds : within_area (length area) used ≡ true → (r : ℕ) (left : List ℕ) → Tells (take used area) at out r left → TellsIn r left
  unfolding standing
  record_in_bounds w r left t = rw w t
