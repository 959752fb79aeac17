-- What one byte does to the line that is read from it on.
use mathlib.Core.Path.{◌≡◌, refl, sym, ap, ◌∙◌}
use mathlib.Core.Bool.{Bool, true, false}
use mathlib.Core.List.{[], ◌∷◌}
use Prim.Native.Nat.{ℕ, ◌+◌, ◌≤◌, ◌<◌}
use native.Mathlib.Numerals.{add-one}
use native.Mathlib.Nat.{zero-add}
use native.Mathlib.Omega.{arith}
use lib.ListN.{length, drop, get_or, drop_of_length-le}
use lib.Seq.{drop-cons}
use lib.Dec.{eqb}
use borrow.Author.Tests.{eq-eqb, ne_eqb}
use Rattle.conf_lines.specs.Lines.{Bytes, is_blank, lead}
use Rattle.conf_lines.specs.Scan.{Mode, text, passing, blanks, comment, emit, go, piece_ends, in_text, act_of, Scanned, on_act, scanned}

pub cases : {P : Type 0} (t : Bool) → (t ≡ true → P) → (t ≡ false → P) → P
cases true f g = f refl
cases false f g = g refl

-- ---- places

pub next_drop : (s : Bytes) (i : ℕ) → i < length s → drop i s ≡ get_or s i 0 ∷ drop (i + 1) s
next_drop s i h = drop-cons s i 0 h ∙ ap (λ (n : ℕ). get_or s i 0 ∷ drop n s) (sym (add-one i))

-- what is read where the text is at its end
abbrev pub nothing : Scanned
nothing = record { joined = []; behind = []; feeds = 0 }

pub at_end : (m : Mode) (s : Bytes) (i : ℕ) → length s ≤ i → scanned m (drop i s) ≡ nothing
unfolding scanned
at_end m s i h = ap (scanned m) (drop_of_length-le s h)

pub at_byte : (m : Mode) (s : Bytes) (i : ℕ) → i < length s
    → scanned m (drop i s)
    ≡ on_act (get_or s i 0) (drop (i + 1) s) (λ (k : Mode). scanned k (drop (i + 1) s)) (act_of m (get_or s i 0) (piece_ends (drop (i + 1) s)))
unfolding scanned
at_byte m s i h = ap (scanned m) (next_drop s i h)

-- ---- bytes that are passed over

-- no line feed more
same_feeds : (x : Scanned) → record { joined = x.joined; behind = x.behind; feeds = 0 + x.feeds } ≡ x
same_feeds x = λ i. record { joined = x.joined; behind = x.behind; feeds = zero-add x.feeds i }

pub passed_over : (b : ℕ) (bs : Bytes) (f : Mode → Scanned) (m : Mode) → eqb b 10 ≡ false → on_act b bs f (go m) ≡ f m
unfolding on_act
passed_over b bs f m e = rw e (same_feeds (f m))

-- ---- a comment

comment_more : (b : ℕ) (bs : Bytes) → eqb b 10 ≡ false → scanned comment (b ∷ bs) ≡ scanned comment bs
unfolding scanned act_of
comment_more b bs e = rw e (passed_over b bs (λ (k : Mode). scanned k bs) comment e)

pub comment_on : (s : Bytes) (i : ℕ) → i < length s → (get_or s i 0 ≡ 10 → ⊥) → scanned comment (drop i s) ≡ scanned comment (drop (i + 1) s)
comment_on s i h n =
    ap (scanned comment) (next_drop s i h)
    ∙ comment_more (get_or s i 0) (drop (i + 1) s) (ne_eqb (get_or s i 0) 10 n)

-- what is read where a line feed ends the line
abbrev pub fed : Bytes → Scanned
fed bs = record { joined = []; behind = bs; feeds = 1 }

pub comment_feed : (s : Bytes) (i : ℕ) → i < length s → get_or s i 0 ≡ 10 → scanned comment (drop i s) ≡ fed (drop (i + 1) s)
unfolding act_of on_act
comment_feed s i h e = at_byte comment s i h ∙ rw (eq-eqb (get_or s i 0) 10 e)

pub comment_joins_nothing : (s : Bytes) → (scanned comment s).joined ≡ []
unfolding scanned act_of on_act
comment_joins_nothing [] = refl
comment_joins_nothing (b ∷ bs) = cases (eqb b 10) (λ e. rw e) (λ e. rw e (comment_joins_nothing bs))

-- ---- blanks before a piece

blank_no_feed : (b : ℕ) → is_blank b ≡ true → eqb b 10 ≡ false
unfolding is_blank
blank_no_feed b e = ne_eqb b 10 (λ (z : b ≡ 10). let y : false ≡ true = rw z at e in let x : ◌≡◌ {A = ℕ} 0 1 = cc in omega arith)

pub past_blanks : (s : Bytes) → scanned blanks s ≡ scanned text (lead s)
unfolding scanned act_of lead
past_blanks [] = refl
past_blanks (b ∷ bs) =
    cases (is_blank b)
    (λ e. rw e (passed_over b bs (λ (k : Mode). scanned k bs) blanks (blank_no_feed b e) ∙ past_blanks bs))
    (λ e. rw e)

-- ---- behind the `\` that joins

-- the rest of the line goes as a comment does, and the next piece is read from its blanks on
pub record Rest (s : Bytes) : Type 0 where
  pub joined : (scanned passing s).joined ≡ (scanned blanks (scanned comment s).behind).joined
  pub behind : (scanned passing s).behind ≡ (scanned blanks (scanned comment s).behind).behind
  pub feeds : (scanned passing s).feeds ≡ (scanned comment s).feeds + (scanned blanks (scanned comment s).behind).feeds

pub past_rest : (s : Bytes) → Rest s
unfolding scanned act_of on_act
past_rest [] = record { joined = refl; behind = refl; feeds = refl }
past_rest (b ∷ bs) =
    cases (eqb b 10)
    (λ e. record { joined = rw e; behind = rw e; feeds = rw (e, e) })
    (λ e. let r = past_rest bs in record { joined = rw e r.joined; behind = rw e r.behind; feeds = rw (e, e) (omega (arith, r.feeds)) })

-- ---- a byte of a piece

pub text_feed : (s : Bytes) (i : ℕ) → i < length s → get_or s i 0 ≡ 10 → scanned text (drop i s) ≡ fed (drop (i + 1) s)
unfolding act_of in_text on_act
text_feed s i h e = at_byte text s i h ∙ rw (eq-eqb (get_or s i 0) 10 e)

-- `#`: the comment starts with it
comment_starts : (b : ℕ) (ends : Bool) → b ≡ 35 → act_of text b ends ≡ act_of comment b ends
unfolding act_of in_text
comment_starts b ends e = rw e

pub text_comment : (s : Bytes) (i : ℕ) → i < length s → get_or s i 0 ≡ 35 → scanned text (drop i s) ≡ scanned comment (drop i s)
text_comment s i h e =
    at_byte text s i h
    ∙ ap (on_act (get_or s i 0) (drop (i + 1) s) (λ (k : Mode). scanned k (drop (i + 1) s)))
    (comment_starts (get_or s i 0) (piece_ends (drop (i + 1) s)) e)
    ∙ sym (at_byte comment s i h)

-- `\` where the piece ends behind it
pub text_joins : (s : Bytes) (i : ℕ) → i < length s → get_or s i 0 ≡ 92 → piece_ends (drop (i + 1) s) ≡ true
    → scanned text (drop i s) ≡ scanned passing (drop (i + 1) s)
unfolding act_of in_text
text_joins s i h e p =
    at_byte text s i h
    ∙ rw (e, p) (passed_over 92 (drop (i + 1) s) (λ (k : Mode). scanned k (drop (i + 1) s)) passing refl)

-- any other byte, and a `\` elsewhere
abbrev pub one_more : ℕ → Scanned → Scanned
one_more b x = record { joined = b ∷ x.joined; behind = x.behind; feeds = x.feeds }

pub text_byte : (s : Bytes) (i : ℕ) → i < length s → in_text (get_or s i 0) (piece_ends (drop (i + 1) s)) ≡ emit
    → scanned text (drop i s) ≡ one_more (get_or s i 0) (scanned text (drop (i + 1) s))
unfolding act_of on_act
text_byte s i h e = at_byte text s i h ∙ rw e

-- `\` where the piece does not end behind it
pub backslash_emits : (b : ℕ) (ends : Bool) → b ≡ 92 → ends ≡ false → in_text b ends ≡ emit
unfolding in_text
backslash_emits b ends e p = rw (e, p)

pub other_emits : (b : ℕ) (ends : Bool) → (b ≡ 10 → ⊥) → (b ≡ 35 → ⊥) → (b ≡ 92 → ⊥) → in_text b ends ≡ emit
unfolding in_text
other_emits b ends f g h = rw (ne_eqb b 10 f, ne_eqb b 35 g, ne_eqb b 92 h)
