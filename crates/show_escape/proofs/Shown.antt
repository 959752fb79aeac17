-- What is shown is printable and tells recordings apart. The rules of one byte are tests that antt computes over all 256; those of lists
-- follow, byte by byte. Assumes nothing.
use mathlib.Core.Path.{◌≡◌, refl, sym, ap, ◌∙◌}
use Prim.Native.Nat.{ℕ, ◌+◌, ◌-◌, ◌*◌, ◌≤◌}
use Prim.Native.Char.{code}
use native.Mathlib.Omega.{arith}
use mathlib.Core.List.{List, [], ◌∷◌, ◌++◌}
use mathlib.Core.Bool.{Bool, true, false}
use lib.ListN.{length, take, drop, get_or, length-append}
use lib.Seq.{take_at, drop_at}
use lib.Dec.{T, leb, eqb, eqb→eq, leb→le}
use Rattle.base_laws.specs.Base.{pick, both, All}
use Rattle.base_laws.proofs.Lists.{all_append}
use Rattle.base_laws.proofs.Table.{below}
use Rattle.show_escape.specs.Escape.{escaped_byte, escaped, backslash}
use Rattle.show_escape.specs.Shown.{Byte, Printable, Shown}

-- ---- printable

abbrev printables : List ℕ → Bool
printables [] = true
printables (c ∷ cs) = both (both (leb 32 c) (leb c 126)) (printables cs)

each : (a b : Bool) → T (both a b) → T a × T b
each true b t = (tt, t)
each false b t = absurd t

are_printable : (cs : List ℕ) → T (printables cs) → All Printable cs
are_printable [] t = tt
are_printable (c ∷ cs) t =
    let first = each (both (leb 32 c) (leb c 126)) (printables cs) t in
    let within = each (leb 32 c) (leb c 126) first.0 in
    ((leb→le 32 c within.0, leb→le c 126 within.1), are_printable cs first.1)

byte_printable : (b : ℕ) → Byte b → All Printable (escaped_byte b)
unfolding escaped_byte
byte_printable b h = are_printable (escaped_byte b) (below (λ n. printables (escaped_byte n)) 256 tt b h)

printable : (d : List ℕ) → All Byte d → All Printable (escaped d)
unfolding escaped
printable [] h = tt
printable (b ∷ d) h = all_append Printable (escaped_byte b) (escaped d) (byte_printable b h.0) (printable d h.1)

-- ---- where the text of the first byte ends: its first two characters say how many it has

abbrev size : List ℕ → ℕ
size cs = pick (eqb (get_or cs 0 0) backslash) (pick (eqb (get_or cs 1 0) (code "x")) 4 2) 1

byte_size : (b : ℕ) → Byte b → size (escaped_byte b) ≡ length (escaped_byte b)
unfolding escaped_byte
byte_size b h =
    eqb→eq (size (escaped_byte b)) (length (escaped_byte b))
    (below (λ n. eqb (size (escaped_byte n)) (length (escaped_byte n))) 256 tt b h)

-- so it does not matter what stands behind it
size_front : (e xs : List ℕ) → size e ≡ length e → size (e ++ xs) ≡ length e
size_front [] xs s = absurd (omega arith)
size_front (c ∷ []) xs s = go (eqb c backslash) s
  where
    go : (t : Bool) → ◌≡◌ {A = ℕ} (pick t 2 1) 1 → ◌≡◌ {A = ℕ} (pick t (pick (eqb (get_or xs 0 0) (code "x")) 4 2) 1) 1
    go true p = absurd (omega arith)
    go false p = refl
size_front (c ∷ d ∷ cs) xs s = s

parted : (e f xs ys : List ℕ) → size e ≡ length e → size f ≡ length f → e ++ xs ≡ f ++ ys → (e ≡ f) × (xs ≡ ys)
parted e f xs ys p q same =
    let n : length f ≡ length e = sym (size_front f ys q) ∙ ap size (sym same) ∙ size_front e xs p in (
      sym (take_at e xs (length e) refl) ∙ ap (take (length e)) same ∙ take_at f ys (length e) n,
      sym (drop_at e xs (length e) refl) ∙ ap (drop (length e)) same ∙ drop_at f ys (length e) n,
    )

-- ---- told apart: the byte can be read off its text

abbrev value_of : ℕ → ℕ
value_of c = pick (leb c 57) (c - 48) (c - 55)

abbrev byte_of : List ℕ → ℕ
byte_of cs =
    pick (eqb (length cs) 1) (get_or cs 0 0)
    (pick (eqb (length cs) 4) (value_of (get_or cs 2 0) * 16 + value_of (get_or cs 3 0))
    (pick (eqb (get_or cs 1 0) (code "n")) 10 (pick (eqb (get_or cs 1 0) (code "r")) 13 (pick (eqb (get_or cs 1 0) (code "t")) 9 backslash))))

byte_read : (b : ℕ) → Byte b → byte_of (escaped_byte b) ≡ b
unfolding escaped_byte
byte_read b h = eqb→eq (byte_of (escaped_byte b)) b (below (λ n. eqb (byte_of (escaped_byte n)) n) 256 tt b h)

-- a byte shows something
shows : (b : ℕ) (xs : List ℕ) → Byte b → escaped_byte b ++ xs ≡ [] → ⊥
shows b xs h e =
    omega (arith, sym (size_front (escaped_byte b) xs (byte_size b h)) ∙ ap size e, ap length e, length-append (escaped_byte b) xs)

told_apart : (c d : List ℕ) → All Byte c → All Byte d → escaped c ≡ escaped d → c ≡ d
unfolding escaped
told_apart [] [] p q e = refl
told_apart [] (b ∷ d) p q e = absurd (shows b (escaped d) q.0 (sym e))
told_apart (a ∷ c) [] p q e = absurd (shows a (escaped c) p.0 e)
told_apart (a ∷ c) (b ∷ d) p q e =
    let s = parted (escaped_byte a) (escaped_byte b) (escaped c) (escaped d) (byte_size a p.0) (byte_size b q.0) e in
    let first : a ≡ b = sym (byte_read a p.0) ∙ ap byte_of s.0 ∙ byte_read b q.0 in
    let rest : c ≡ d = told_apart c d p.1 q.1 s.1 in
    λ i. first i ∷ rest i

-- ---- enough

byte_enough : (b : ℕ) → Byte b → length (escaped_byte b) ≤ 4
unfolding escaped_byte
byte_enough b h = leb→le (length (escaped_byte b)) 4 (below (λ n. leb (length (escaped_byte n)) 4) 256 tt b h)

enough : (d : List ℕ) → All Byte d → length (escaped d) ≤ 4 * length d
unfolding escaped
enough [] h = omega arith
enough (b ∷ d) h = omega (arith, length-append (escaped_byte b) (escaped d), byte_enough b h.0, enough d h.1)

pub shown : Shown
shown = record { printable = printable; told_apart = told_apart; enough = enough }
