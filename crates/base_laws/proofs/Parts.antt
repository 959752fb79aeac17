-- Parts of lists.
use Prim.Native.Nat.{ℕ, zero, suc, ◌+◌, ◌-◌, ◌≤◌}
use native.Mathlib.Omega.{arith}
use mathlib.Core.Path.{◌≡◌, sym, ap, ◌∙◌}
use native.Mathlib.Numerals.{unary_clauses}
use mathlib.Core.List.{List, [], ◌∷◌}
use lib.ListN.{length, take, drop, length-take, length-drop}
use lib.Seq.{take-nil, take-take, drop-drop}
use Rattle.base_laws.specs.Base.{part}

pub length_part : {A : Type 0} (s : List A) (a e : ℕ) → a ≤ e → e ≤ length s → length (part s a e) ≡ e - a
length_part s a e h l = simp (length-take, length-drop) (omega arith)

-- a part is what the place where it starts leaves of the elements before the place where it ends
pub part_drop : {A : Type 0} (s : List A) (a e : ℕ) → part s a e ≡ drop a (take e s)
part_drop s zero e = simp unary_clauses
part_drop [] (suc a) e = simp take-nil
part_drop (x ∷ s) (suc a) zero = let h : 0 - suc a ≡ 0 = omega arith in rw h
part_drop (x ∷ s) (suc a) (suc e) = simp unary_clauses (part_drop s a e)

-- a part of a part
pub part_part : {A : Type 0} (s : List A) (a e b c : ℕ) → c ≤ e - a → part (part s a e) b c ≡ part s (a + b) (a + c)
part_part s a e b c h =
    let d : a + c - (a + b) ≡ c - b = omega arith in
    part_drop (part s a e) b c
    ∙ ap (λ l. drop b l) (take-take c (e - a) (drop a s) h)
    ∙ sym (part_drop (drop a s) b c)
    ∙ rw (drop-drop b a s, d)
