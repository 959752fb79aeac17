-- Packed numbers read back.
use Prim.Native.Nat.{ℕ, ◌^◌, ◌<◌}
use native.Mathlib.Omega.{arith}
use native.Mathlib.Nat.{zero-add}
use mathlib.Core.Path.{◌≡◌, refl, sym, subst, ap, ◌∙◌}
use mathlib.Core.List.{List, [], ◌∷◌, ◌++◌, append-nil}
use mathlib.Core.Bool.{Bool, true, false}
use lib.ListN.{length, length-append}
use lib.Seq.{take-length}
use lib.Dec.{eqb}
use borrow.Author.Tests.{eqb-true}
use Rattle.base_laws.specs.Base.{pick, part}
use Rattle.wire_varint.specs.Varint as r
use Rattle.wire_varint.specs.Varint.{varint_from, varint_at}
use Rattle.wire_value.specs.Field.{number_read, as_number}
use Rattle.wire_check_field.specs.Check.{step_of, step_read, step_at}
use Rattle.wire_check_field.specs.Check.{check_of}
use Rattle.wire_fields.specs.Items as i
use Rattle.wire_varint.specs.declared.Varint.{Varint}
use Rattle.wire_varint.specs.declared.VarintError.{VarintError}
use Rattle.wire_check_field.specs.declared.Step.TheVariants as step
use Rattle.std.specs.Prelude.{Result, Ok}
use Rattle.wire_fields.proofs.Reach.{Read, read}
use Rattle.wire_check_field.proofs.Checks.{at_end}
use Rattle.wire_elements.specs.Elements.{on_varint, varints_from, varints_at, varints, numbers_of}
use Rattle.wire_elements.proofs.Packed as p
use Rattle.wire_elements.proofs.Packed.{varints_follow}
use Rattle.write_forms.specs.Pieces.{varint, packed}
use Rattle.write_forms.specs.RoundTrip.{AllFit}
use Rattle.write_forms.proofs.Moves.{in_bounds_first, in_bounds_second, varint_moves}
use Rattle.write_forms.proofs.Chains.{done, more, over, passes}
use Rattle.write_forms.proofs.Joined.{check_joined}
use Rattle.write_forms.proofs.Single.{varint_back}

positive : (v : ℕ) → v < 2 ^ 64 → 0 < length (varint v)
positive v h = let r = subst (Read (varint v) 0) (varint_back v h) (read (varint v) 9 0) in r.0

-- past the bytes a, the varints are those of what follows
behind : (a b : List ℕ) → varints_at (a ++ b) (length a) ≡ varints b
behind a b =
    let s : List ℕ = a ++ b in
    let e : part s (length a) (length s) ≡ b = rw (length-append a b) (in_bounds_second a b).same in
    sym (ap varints (sym e) ∙ p.packed s (length a) (length s) ∙ ap (λ (l : List ℕ). varints_at l (length a)) (take-length s))

first : (v : ℕ) (rest : List ℕ) → v < 2 ^ 64 → varints (varint v ++ rest) ≡ v ∷ varints rest
unfolding on_varint
first v rest h =
    let e : varint_at (varint v ++ rest) 0 ≡ r.read v (length (varint v)) =
    rw (zero-add (length (varint v))) at (varint_moves (in_bounds_first (varint v) rest) 9 0 v (length (varint v)) (varint_back v h)) in
    varints_follow (varint v ++ rest) 0 ∙ ap (λ (x : Result Varint VarintError). on_varint (varints_at (varint v ++ rest)) x) e ∙ ap (λ (l : List ℕ). v ∷ l) (behind (varint v) rest)

no_varints : varints [] ≡ []
unfolding varints_at varints_from on_varint varint_from
no_varints = refl

pub packed_back : (vs : List ℕ) → AllFit vs → varints (packed vs) ≡ vs
unfolding packed
packed_back [] h = no_varints
packed_back (v ∷ vs) h = first v (packed vs) h.0 ∙ ap (λ (l : List ℕ). v ∷ l) (packed_back vs h.1)

varint_passes : (v : ℕ) → v < 2 ^ 64 → check_of 16 (varint v) ≡ Ok tt
unfolding step_at step_of step_read number_read as_number
varint_passes v h =
    let e : step_at 16 (varint v) 0 ≡ Ok (step.Next (length (varint v))) = rw (varint_back v h) in
    passes 16 (varint v) (more (positive v h) (omega arith) (over e) done)

pub packed_passes : (vs : List ℕ) → AllFit vs → check_of 16 (packed vs) ≡ Ok tt
unfolding packed
packed_passes [] h = at_end 16 [] 0 (omega arith)
packed_passes (v ∷ vs) h = check_joined 16 (varint v) (packed vs) (varint_passes v h.0) (packed_passes vs h.1)

empty : (d : List ℕ) → length d ≡ 0 → varints d ≡ []
empty [] e = no_varints
empty (x ∷ d) e = absurd (omega arith)

-- the numbers of a NumberList, which is left out where it is empty
pub numbers_held : (d : List ℕ) → numbers_of (pick (eqb (length d) 0) [] (i.bytes 1 d ∷ [])) ≡ varints d
unfolding numbers_of
numbers_held d = go (eqb (length d) 0) refl
  where
    go : (t : Bool) → eqb (length d) 0 ≡ t → numbers_of (pick t [] (i.bytes 1 d ∷ [])) ≡ varints d
    go true e = sym (empty d (eqb-true (length d) 0 e))
    go false e = append-nil (varints d)
