-- Numbers laid one after the other at the start of a buffer.
use mathlib.Core.Path.{◌≡◌, refl, sym, ap, ◌∙◌}
use mathlib.Core.Bool.{true, false}
use mathlib.Core.List.{List, [], ◌∷◌, ◌++◌, append_assoc, append-nil}
use Prim.Native.Nat.{ℕ, suc, ◌+◌, ◌*◌, ◌≤◌, ◌<◌}
use native.Mathlib.Omega.{arith}
use lib.ListN.{length, get_or, take, length-append}
use lib.Seq.{take-suc, length-take-le}
use lib.Dec.{leb}
use borrow.Author.Tests.{le-leb, lt-leb}
use Rattle.base_laws.specs.Base.{splice}
use Rattle.base_laws.proofs.Splice.{splice_next}
use Rattle.base_numbers.specs.Eight.{eight, eights, laid}

length_eights : (vs : List ℕ) → length (eights vs) ≡ 8 * length vs
unfolding eights
length_eights [] = refl
length_eights (v ∷ vs) = omega (arith, length-append (eight v) (eights vs), length_eights vs)

eights_on : (vs : List ℕ) (v : ℕ) → eights vs ++ eight v ≡ eights (vs ++ (v ∷ []))
unfolding eights
eights_on [] v = sym (append-nil (eight v))
eights_on (u ∷ vs) v = append_assoc (eight u) (eights vs) (eight v) ∙ ap (λ (l : List ℕ). eight u ++ l) (eights_on vs v)

-- one number behind those that stand
pub one_more : (out x y : List ℕ) (vs : List ℕ) (v : ℕ) → 8 * length vs + 8 ≤ length out → x ≡ splice out 0 (eights vs) → y ≡ splice x (8 * length vs) (eight v)
    → y ≡ splice out 0 (eights (vs ++ (v ∷ [])))
one_more out x y vs v h p q =
    splice_next out x y 0 (8 * length vs) (eights vs) (eight v) (omega (arith, length_eights vs)) (omega arith) p q ∙ ap (splice out 0) (eights_on vs v)

-- the next number of a list behind those before it
pub one_turn : (out x y vs : List ℕ) (i : ℕ) → i < length vs → 8 * length vs ≤ length out → x ≡ splice out 0 (eights (take i vs)) → y ≡ splice x (8 * i) (eight (get_or vs i 0))
    → y ≡ splice out 0 (eights (take (i + 1) vs))
one_turn out x y vs i h k p q =
    let e : length (take i vs) ≡ i = length-take-le i vs (omega arith) in
    let f : i + 1 ≡ suc i = omega arith in
    one_more out x y (take i vs) (get_or vs i 0) (omega arith) p (q ∙ ap (λ (n : ℕ). splice x (8 * n) (eight (get_or vs i 0))) (sym e))
    ∙ ap (λ (l : List ℕ). splice out 0 (eights l)) (sym (ap (λ (n : ℕ). take n vs) f ∙ take-suc vs i 0 h))

-- what a lay answers and leaves, where there is room and where there is not
pub has_room : (vs out after : List ℕ) → 8 * length vs ≤ length out → after ≡ splice out 0 (eights vs) → (true ≡ leb (8 * length vs) (length out)) × (after ≡ laid vs out)
unfolding laid
has_room vs out after h p = let e = le-leb (8 * length vs) (length out) h in (sym e, rw e p)

pub no_room : (vs out : List ℕ) → length out < 8 * length vs → (false ≡ leb (8 * length vs) (length out)) × (out ≡ laid vs out)
unfolding laid
no_room vs out h = let e = lt-leb (8 * length vs) (length out) h in (sym e, rw e)
