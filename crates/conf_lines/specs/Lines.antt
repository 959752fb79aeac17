-- The lines of a configuration text as they count. Each definition names its sentence of request 1 of document 02.
use Rattle.std.specs.Prelude.{ℕ, suc, List, [], ◌∷◌, ◌++◌, Bool, true, false, eqb}
use Rattle.base_laws.specs.Base.{pick, both}

abbrev pub Bytes : Type 0
Bytes = List ℕ

abbrev pub is_nil : Bytes → Bool
is_nil [] = true
is_nil (b ∷ bs) = false

-- ---- one line of the text

-- "blanks (spaces and tabs)"
unfoldable pub is_blank : ℕ → Bool
is_blank b = pick (eqb b 32) true (eqb b 9)

-- "blanks .. at the start go"
unfoldable pub lead : Bytes → Bytes
lead [] = []
lead (b ∷ bs) = pick (is_blank b) (lead bs) (b ∷ bs)

-- "Blanks at the end .. go"
unfoldable pub trail : Bytes → Bytes
trail [] = []
trail (b ∷ bs) = pick (both (is_blank b) (is_nil (trail bs))) [] (b ∷ trail bs)

-- "a line then starting with `;`"
unfoldable pub is_remark : Bytes → Bool
is_remark [] = false
is_remark (b ∷ bs) = eqb b 59

-- "`#` and the rest go"
unfoldable pub body : Bytes → Bytes
body [] = []
body (b ∷ bs) = pick (eqb b 35) [] (b ∷ body bs)

-- "a last `\` goes and joins the next line": what is left of a line, and whether it does
pub data Piece : Type 0 where
  last : Bytes → Piece
  joining : Bytes → Piece

unfoldable pub more : ℕ → Piece → Piece
more b (last p) = last (b ∷ p)
more b (joining p) = joining (b ∷ p)

unfoldable pub piece : Bytes → Piece
piece [] = last []
piece (b ∷ bs) = pick (both (eqb b 92) (is_nil bs)) (joining []) (more b (piece bs))

-- ---- all lines

-- a byte before the first line
unfoldable pub onto : ℕ → List Bytes → List Bytes
onto b [] = (b ∷ []) ∷ []
onto b (l ∷ ls) = (b ∷ l) ∷ ls

-- "Line by line": a line feed ends each, and text behind the last one is a line
unfoldable pub split : Bytes → List Bytes
split [] = []
split (b ∷ bs) = pick (eqb b 10) ([] ∷ split bs) (onto b (split bs))

-- "the line number from 1 (of a joined line, its first)"
pub record Line : Type 0 where
  pub number : ℕ
  pub text : Bytes

-- a line begins, or goes on: its first number and what was joined so far
pub data Open : Type 0 where
  fresh : Open
  going : ℕ → Bytes → Open

unfoldable pub on_piece : (Open → List Line) → ℕ → Bytes → Piece → List Line
on_piece go f t (last p) = record { number = f; text = trail (t ++ p) } ∷ go fresh
on_piece go f t (joining p) = go (going f (t ++ p))

-- the lines from number n on; "a line then starting with `;` is skipped unless joined to the one before"; what is left of a line joins once its
-- comment is gone, "so none in a comment joins (house rule)"
unfoldable pub lines_from : ℕ → Open → List Bytes → List Line
lines_from n fresh [] = []
lines_from n (going f t) [] = record { number = f; text = trail t } ∷ []
lines_from n fresh (l ∷ ls) =
    pick (is_remark (lead l)) (lines_from (suc n) fresh ls)
    (on_piece (λ (o : Open). lines_from (suc n) o ls) n [] (piece (body (lead l))))
lines_from n (going f t) (l ∷ ls) = on_piece (λ (o : Open). lines_from (suc n) o ls) f t (piece (body (lead l)))

-- the lines of a text whose first is number n
unfoldable pub lines_at : ℕ → Bytes → List Line
lines_at n s = lines_from n fresh (split s)
