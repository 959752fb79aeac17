-- The lines read byte by byte are the lines of Lines.antt. Assumes nothing.
use mathlib.Core.Path.{◌≡◌, refl, sym, ap, ◌∙◌}
use mathlib.Core.Bool.{true, false}
use mathlib.Core.List.{List, [], ◌∷◌, ◌++◌, append_assoc, append-nil}
use Prim.Native.Nat.{ℕ, suc, ◌+◌}
use native.Mathlib.Omega.{arith}
use lib.Dec.{eqb}
use borrow.Author.Tests.{eqb-true}
use Rattle.base_laws.specs.Base.{both}
use Rattle.conf_lines.specs.Lines.{Bytes, is_nil, is_blank, lead, trail, is_remark, body, Piece, last, joining, more, piece, onto, split, Line, Open, fresh, going, on_piece, lines_from, lines_at}
use Rattle.conf_lines.specs.Scan.{Mode, text, passing, blanks, comment, emit, go, piece_ends, in_text, act_of, Scanned, on_act, scanned}
use Rattle.conf_lines.proofs.Steps.{cases}

-- ---- the first line of a text, and the others

abbrev head_line : List Bytes → Bytes
head_line [] = []
head_line (l ∷ ls) = l

abbrev tail_lines : List Bytes → List Bytes
tail_lines [] = []
tail_lines (l ∷ ls) = ls

abbrev H : Bytes → Bytes
H s = head_line (split s)

abbrev R : Bytes → List Bytes
R s = tail_lines (split s)

head_onto : (b : ℕ) (ls : List Bytes) → head_line (onto b ls) ≡ b ∷ head_line ls
unfolding onto
head_onto b [] = refl
head_onto b (l ∷ ls) = refl

tail_onto : (b : ℕ) (ls : List Bytes) → tail_lines (onto b ls) ≡ tail_lines ls
unfolding onto
tail_onto b [] = refl
tail_onto b (l ∷ ls) = refl

onto_parts : (b : ℕ) (ls : List Bytes) → onto b ls ≡ head_line (onto b ls) ∷ tail_lines (onto b ls)
unfolding onto
onto_parts b [] = refl
onto_parts b (l ∷ ls) = refl

head_feed : (b : ℕ) (bs : Bytes) → eqb b 10 ≡ true → H (b ∷ bs) ≡ []
unfolding split
head_feed b bs e = rw e

tail_feed : (b : ℕ) (bs : Bytes) → eqb b 10 ≡ true → R (b ∷ bs) ≡ split bs
unfolding split
tail_feed b bs e = rw e

head_more : (b : ℕ) (bs : Bytes) → eqb b 10 ≡ false → H (b ∷ bs) ≡ b ∷ H bs
unfolding split
head_more b bs e = rw e (head_onto b (split bs))

tail_more : (b : ℕ) (bs : Bytes) → eqb b 10 ≡ false → R (b ∷ bs) ≡ R bs
unfolding split
tail_more b bs e = rw e (tail_onto b (split bs))

-- a text that is not empty has a first line
split_parts : (b : ℕ) (bs : Bytes) → split (b ∷ bs) ≡ H (b ∷ bs) ∷ R (b ∷ bs)
unfolding split
split_parts b bs = cases (eqb b 10) (λ e. rw e) (λ e. rw e (onto_parts b (split bs)))

-- a piece ends where the rest of its line is a comment or nothing
ends_here : (s : Bytes) → piece_ends s ≡ is_nil (body (H s))
unfolding piece_ends body split
ends_here [] = refl
ends_here (b ∷ bs) =
    cases (eqb b 10)
    (λ e. rw e)
    (λ e. simp (e, head_onto b (split bs)) (cases (eqb b 35) (λ f. rw f) (λ f. rw f)))

feed_no_blank : (b : ℕ) → eqb b 10 ≡ true → is_blank b ≡ false
unfolding is_blank
feed_no_blank b e = let z : b ≡ 10 = eqb-true b 10 e in rw z

feed_no_remark : (b : ℕ) → eqb b 10 ≡ true → eqb b 59 ≡ false
feed_no_remark b e = let z : b ≡ 10 = eqb-true b 10 e in rw z

lead_blank : (b : ℕ) (l : Bytes) → is_blank b ≡ true → lead (b ∷ l) ≡ lead l
unfolding lead
lead_blank b l e = rw e

lead_other : (b : ℕ) (l : Bytes) → is_blank b ≡ false → lead (b ∷ l) ≡ b ∷ l
unfolding lead
lead_other b l e = rw e

-- a text starts with a remark where its first line does
remark_first : (s : Bytes) → is_remark (lead (H s)) ≡ is_remark (lead s)
unfolding is_remark lead split
remark_first [] = refl
remark_first (b ∷ bs) =
    cases (eqb b 10)
    (λ e. rw (feed_no_blank b e, e, feed_no_remark b e))
    (λ e. rw (e, head_onto b (split bs)) (cases (is_blank b) (λ f. rw f (remark_first bs)) (λ f. rw f)))

-- ---- the lines from an open line on

-- what a reading on line n gives for the line that is open since line f with the text t, and the lines behind it
abbrev found : ℕ → ℕ → Bytes → Scanned → List Line
found n f t r = record { number = f; text = trail (t ++ r.joined) } ∷ lines_at (n + r.feeds) r.behind

-- what line n gives whose piece is p, before the lines ls
abbrev on_first : ℕ → ℕ → Bytes → List Bytes → Piece → List Line
on_first n f t ls p = on_piece (λ (o : Open). lines_from (suc n) o ls) f t p

-- where a reading stands in s, the first line's rest and the others give what the reading finds
record Gathered (s : Bytes) : Type 0 where
  pub in_piece : (n f : ℕ) (t : Bytes) → on_first n f t (R s) (piece (body (H s))) ≡ found n f t (scanned text s)
  pub in_blanks : (n f : ℕ) (t : Bytes) → on_first n f t (R s) (piece (body (lead (H s)))) ≡ found n f t (scanned blanks s)
  pub in_passing : (n f : ℕ) (t : Bytes) → lines_from (suc n) (going f t) (R s) ≡ found n f t (scanned passing s)
  pub in_comment : (n : ℕ) → lines_from (suc n) fresh (R s) ≡ lines_at (n + (scanned comment s).feeds) (scanned comment s).behind

-- a byte more of the piece is one more of the text so far
first_more : (n f : ℕ) (t : Bytes) (ls : List Bytes) (b : ℕ) (p : Piece) → on_first n f t ls (more b p) ≡ on_first n f (t ++ b ∷ []) ls p
unfolding on_piece more
first_more n f t ls b (last p) = rw (append_assoc t (b ∷ []) p)
first_more n f t ls b (joining p) = rw (append_assoc t (b ∷ []) p)

-- an open line goes on with the first line, be there one or not
going_first : (n f : ℕ) (t : Bytes) (ls : List Bytes) → lines_from n (going f t) ls ≡ on_first n f t (tail_lines ls) (piece (body (lead (head_line ls))))
unfolding lines_from on_piece piece body lead
going_first n f t [] = rw (append-nil t)
going_first n f t (l ∷ ls) = refl

none_more : (n : ℕ) → 0 + n ≡ n
none_more n = omega arith

one_more : (n : ℕ) → n + 1 ≡ suc n
one_more n = omega arith

one_over : (n k : ℕ) → n + (1 + k) ≡ suc n + k
one_over n k = omega arith

-- a byte passed over that is no line feed changes nothing
goes : (b : ℕ) (bs : Bytes) (m : Mode) → eqb b 10 ≡ false → on_act b bs (λ (k : Mode). scanned k bs) (go m) ≡ scanned m bs
unfolding on_act
goes b bs m e = rw (e, none_more (scanned m bs).feeds)

-- a line feed passed over counts
feeds_on : (b : ℕ) (bs : Bytes) (m : Mode) → eqb b 10 ≡ true → (n f : ℕ) (t : Bytes)
    → found n f t (on_act b bs (λ (k : Mode). scanned k bs) (go m)) ≡ found (suc n) f t (scanned m bs)
unfolding on_act
feeds_on b bs m e n f t = rw (e, one_over n (scanned m bs).feeds)

-- a comment gives no text
comment_joined : (s : Bytes) → (scanned comment s).joined ≡ []
unfolding scanned act_of on_act
comment_joined [] = refl
comment_joined (b ∷ bs) = cases (eqb b 10) (λ e. rw e) (λ e. rw e (comment_joined bs))

-- behind the piece a comment
in_comment_lem : (bs : Bytes) → Gathered bs → (n f : ℕ) (t : Bytes) → on_first n f t (R bs) (last []) ≡ found n f t (scanned comment bs)
unfolding on_piece
in_comment_lem bs g n f t = rw (comment_joined bs) (ap (λ (z : List Line). record { number = f; text = trail (t ++ []) } ∷ z) (g.in_comment n))

-- behind the piece a join
in_passing_lem : (bs : Bytes) → Gathered bs → (n f : ℕ) (t : Bytes) → on_first n f t (R bs) (joining []) ≡ found n f t (scanned passing bs)
unfolding on_piece
in_passing_lem bs g n f t = rw (append-nil t) (g.in_passing n f t)

-- a byte of the piece
in_emit : (b : ℕ) (bs : Bytes) → Gathered bs → (n f : ℕ) (t : Bytes)
    → on_first n f t (R bs) (more b (piece (body (H bs)))) ≡ found n f t (on_act b bs (λ (k : Mode). scanned k bs) emit)
unfolding on_act
in_emit b bs g n f t =
    first_more n f t (R bs) b (piece (body (H bs)))
    ∙ g.in_piece n f (t ++ b ∷ [])
    ∙ ap (λ (z : Bytes). record { number = f; text = trail z } ∷ lines_at (n + (scanned text bs).feeds) (scanned text bs).behind)
    (append_assoc t (b ∷ []) (scanned text bs).joined)

-- a byte of a piece, where what follows is known
in_text_lem : (b : ℕ) (bs : Bytes) → Gathered bs → eqb b 10 ≡ false → (n f : ℕ) (t : Bytes)
    → on_first n f t (R bs) (piece (body (b ∷ H bs))) ≡ found n f t (on_act b bs (λ (k : Mode). scanned k bs) (in_text b (piece_ends bs)))
unfolding in_text body piece
in_text_lem b bs g e n f t =
    cases (eqb b 35)
    (λ h. rw (e, h, goes b bs comment e) (in_comment_lem bs g n f t))
    (λ h.
    cases (both (eqb b 92) (is_nil (body (H bs))))
    (λ j. rw (e, h, ends_here bs, j, goes b bs passing e) (in_passing_lem bs g n f t))
    (λ j. rw (e, h, ends_here bs, j) (in_emit b bs g n f t)))

-- a line feed
fed : (b : ℕ) (bs : Bytes) → Gathered bs → eqb b 10 ≡ true → Gathered (b ∷ bs)
unfolding scanned act_of in_text on_act piece body lead on_piece lines_at
fed b bs g e = record {
  in_piece = λ n f t. rw (head_feed b bs e, tail_feed b bs e, e, one_more n);
  in_blanks = λ n f t. rw (head_feed b bs e, tail_feed b bs e, feed_no_blank b e, e, one_more n);
  in_passing = λ n f t. rw (tail_feed b bs e, e) (going_first (suc n) f t (split bs) ∙ g.in_blanks (suc n) f t ∙ sym (feeds_on b bs blanks e n f t));
  in_comment = λ n. rw (tail_feed b bs e, e, one_more n);
}

-- any other byte
other : (b : ℕ) (bs : Bytes) → Gathered bs → eqb b 10 ≡ false → Gathered (b ∷ bs)
unfolding scanned act_of
other b bs g e = record {
  in_piece = λ n f t. rw (head_more b bs e, tail_more b bs e) (in_text_lem b bs g e n f t);
  in_blanks = λ n f t.
      rw (head_more b bs e, tail_more b bs e)
      (cases (is_blank b)
      (λ h. rw (h, lead_blank b (H bs) h, goes b bs blanks e) (g.in_blanks n f t))
      (λ h. rw (h, lead_other b (H bs) h) (in_text_lem b bs g e n f t)));
  in_passing = λ n f t. rw (tail_more b bs e, e, goes b bs passing e) (g.in_passing n f t);
  in_comment = λ n. rw (tail_more b bs e, e, goes b bs comment e) (g.in_comment n);
}

gathered : (s : Bytes) → Gathered s
unfolding scanned split piece body lead lines_at lines_from on_piece
gathered [] = record { in_piece = λ n f t. refl; in_blanks = λ n f t. refl; in_passing = λ n f t. rw (append-nil t); in_comment = λ n. refl }
gathered (b ∷ bs) = cases (eqb b 10) (fed b bs (gathered bs)) (other b bs (gathered bs))

-- ---- the lines of a text

-- the first line is a remark
on_remark : (n b : ℕ) (bs : Bytes) → is_remark (lead (b ∷ bs)) ≡ true → lines_at n (b ∷ bs) ≡ lines_from (suc n) fresh (R (b ∷ bs))
unfolding lines_at lines_from
on_remark n b bs r = rw (split_parts b bs, remark_first (b ∷ bs), r)

-- the first line is no remark
on_line : (n b : ℕ) (bs : Bytes) → is_remark (lead (b ∷ bs)) ≡ false
    → lines_at n (b ∷ bs) ≡ on_first n n [] (R (b ∷ bs)) (piece (body (lead (H (b ∷ bs)))))
unfolding lines_at lines_from
on_line n b bs r = rw (split_parts b bs, remark_first (b ∷ bs), r)

-- no text, no line
pub no_lines : (n : ℕ) → lines_at n [] ≡ []
unfolding lines_at lines_from split
no_lines n = refl

-- a remark is passed with its line feed
pub remark_line : (n : ℕ) (s : Bytes) → is_remark (lead s) ≡ true → lines_at n s ≡ lines_at (n + (scanned comment s).feeds) (scanned comment s).behind
unfolding lines_at lines_from split scanned
remark_line n [] r = refl
remark_line n (b ∷ bs) r = on_remark n b bs r ∙ (gathered (b ∷ bs)).in_comment n

-- any other line counts with its first number, and what is joined
pub one_line : (n b : ℕ) (bs : Bytes) → is_remark (lead (b ∷ bs)) ≡ false
    → lines_at n (b ∷ bs) ≡ record { number = n; text = trail (scanned blanks (b ∷ bs)).joined } ∷ lines_at (n + (scanned blanks (b ∷ bs)).feeds) (scanned blanks (b ∷ bs)).behind
one_line n b bs r = on_line n b bs r ∙ (gathered (b ∷ bs)).in_blanks n n []
