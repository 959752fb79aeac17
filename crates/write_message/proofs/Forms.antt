-- Laws of forms: a middle between two lists of pieces. Assumes nothing.
use mathlib.Core.Path.{◌≡◌, refl, sym, ap, ◌∙◌}
use Prim.Native.Nat.{ℕ, ◌+◌, ◌≤◌}
use native.Mathlib.Omega.{arith}
use mathlib.Core.List.{List, [], ◌∷◌, ◌++◌, append_assoc}
use lib.ListN.{length, length-append}
use Rattle.write_forms.specs.Pieces.{Piece, run, encode, encode_all}
use Rattle.base_copy.specs.Put.{Put}
use Rattle.write_pieces.specs.Parts.{Like, exact, cover, around}
use Rattle.base_copy.proofs.Puts.{then, put_length}
use Rattle.write_pieces.proofs.Lengths.{like_append, like_around, like_exact, like_within}

pub like_piece : {n : ℕ} (p : Piece) → n ≡ length (encode p) → Like n (encode p)
like_piece p e = exact e

encode_append : (ps qs : List Piece) → encode_all (ps ++ qs) ≡ encode_all ps ++ encode_all qs
encode_append [] qs = refl
encode_append (p ∷ ps) qs = ap (λ (l : List ℕ). encode p ++ l) (encode_append ps qs) ∙ sym (append_assoc (encode p) (encode_all ps) (encode_all qs))

-- the lengths of a message and of its middle, where the message is not too long
pub record Exact (n k : ℕ) (whole middle : List ℕ) : Type 0 where
  pub whole_is : n ≡ length whole
  pub middle_is : k ≡ length middle
  pub short : k ≤ 2097152

module _ (ps qs : List Piece) (f : ℕ) (m : List ℕ) where
  -- the middle m as the field f, between ps and qs
  abbrev pub between : List ℕ
  between = encode_all (ps ++ (run (around f m) ∷ qs))

  split : between ≡ encode_all ps ++ (around f m ++ encode_all qs)
  unfolding encode
  split = encode_append ps (run (around f m) ∷ qs)

  pub length_between : {n : ℕ} → n ≡ length m
      → length between ≡ length (encode_all ps) + (length (cover f n) + n + length (encode_all qs))
  unfolding around
  length_between {n} e =
      omega (
        arith,
        ap length split,
        length-append (encode_all ps) (around f m ++ encode_all qs),
        length-append (around f m) (encode_all qs),
        length-append (cover f (length m)) m,
        ap (λ (x : ℕ). length (cover f x)) e,
      )

  -- it is at least as long as the middle
  pub middle_least : length m ≤ length between
  middle_least = omega (arith, length_between refl)

  -- a length that is not too long is exact, and so is its middle's
  pub exact_between : {n k : ℕ} → Like n between → n ≤ 2097152 → Like k m → Exact n k between m
  exact_between {n} {k} h l i =
      let whole : n ≡ length between = like_exact h l in
      let inside : k ≡ length m = like_within i (omega (arith, middle_least)) in
      record { whole_is = whole; middle_is = inside; short = omega (arith, middle_least) }

  pub like_between : {a n k b : ℕ} → Like a (encode_all ps) → Like n m → k ≡ length (cover f n) → Like b (encode_all qs)
      → Like (a + (k + n + b)) between
  like_between h i j l = rw split (like_append h (like_append (like_around f i j) l))

  -- there is room for all, and n is the middle's length
  pub record Ready (n at : ℕ) (s : List ℕ) : Type 0 where
    pub middle_is : n ≡ length m
    pub room : at + length between ≤ length s

-- then each of the four parts has room after those before it, and the four together are the whole
module _ {ps qs : List Piece} {f : ℕ} {m : List ℕ} {n at : ℕ} {s : List ℕ} (r : Ready ps qs f m n at s) where
  sizes : length (between ps qs f m) ≡ length (encode_all ps) + (length (cover f n) + n + length (encode_all qs))
  sizes = length_between ps qs f m r.middle_is

  pub first_fits : at + length (encode_all ps) ≤ length s
  first_fits = omega (arith, sizes)

  module _ {a : ℕ} {s₁ : List ℕ} (p : Put s at (encode_all ps) s₁ a) where
    pub cover_fits : a + length (cover f n) ≤ length s₁
    cover_fits = omega (arith, sizes, put_length p)

    module _ {b : ℕ} {s₂ : List ℕ} (q : Put s₁ a (cover f n) s₂ b) where
      pub middle_fits : b + length m ≤ length s₂
      middle_fits = omega (arith, sizes, put_length p, put_length q)

      module _ {c : ℕ} {s₃ : List ℕ} (x : Put s₂ b m s₃ c) where
        pub last_fits : c + length (encode_all qs) ≤ length s₃
        last_fits = omega (arith, sizes, put_length p, put_length q, put_length x)

        pub put_between : {s₄ : List ℕ} {e : ℕ} → Put s₃ c (encode_all qs) s₄ e → Put s at (between ps qs f m) s₄ e
        unfolding around
        put_between y = rw (split ps qs f m, ← r.middle_is) (then p (then (then q x) y))
