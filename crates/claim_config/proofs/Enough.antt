-- How long a list is. A line's bytes and its end are weighed together, so that each line pays for what it is listed as; the last line has
-- no end, and the header that stands before every setting pays for that. Assumes nothing.
use Prim.Native.Nat.{ℕ, suc, ◌+◌, ◌*◌, ◌-◌, ◌≤◌}
use native.Mathlib.Omega.{arith}
use mathlib.Core.Path.{◌≡◌, refl, sym, ap, subst}
use mathlib.Core.List.{List, [], ◌∷◌, ◌++◌}
use mathlib.Core.Bool.{true, false}
use lib.ListN.{length, length-append}
use lib.Dec.{eqb}
use Rattle.base_laws.specs.Base.{pick, both}
use Rattle.base_laws.proofs.Order.{picked}
use Rattle.conf_lines.specs.Lines.{Bytes, is_nil, lead, trail, is_remark, body, Piece, last, joining, more, piece}
use Rattle.conf_lines.specs.Lines.{onto, split, Line, Open, fresh, going, on_piece, lines_from, lines_at}
use Rattle.conf_content.specs.Content.{Content, empty, section, setting, bad}
use Rattle.conf_content.specs.Content.{has, before, behind, last_is, header, keyed, assignment, content_of}
use Rattle.conf_lines.proofs.Steps.{cases}
use Rattle.conf_content.proofs.Ends.{unlike, length_trail, ends_lead, length_ends}
use Rattle.conf_typed.specs.Typed.{lower, section_name, section_of, typed_of}
use Rattle.conf_typed.specs.declared.Section.{Section}
use Rattle.conf_typed.specs.declared.Section.TheVariants.{Unknown}
use Rattle.conf_list.specs.Listing.{Setting, counted, entry, listing}
use Rattle.conf_read.specs.Config.{Statement, is_unknown, is_wrong, setting_in, on_content, statements, statements_of}
use Rattle.conf_read.specs.Config.{Verdict, refused_at, taken, after, verdict}
use Rattle.claim_config.specs.Enough.{Enough}
use Rattle.claim_config.proofs.Listed.{name_length}

-- ---- the text and its lines

-- the bytes of a text's lines, and one more for the end of each
abbrev text_weight : List Bytes → ℕ
text_weight [] = 0
text_weight (l ∷ ls) = length l + 1 + text_weight ls

weigh_onto : (b n : ℕ) (ls : List Bytes) → text_weight ls ≤ n + 1 → text_weight (onto b ls) ≤ n + 2
unfolding onto
weigh_onto b n [] h = omega arith
weigh_onto b n (l ∷ ls) h = omega arith

-- the last line may have no end
weigh_text : (bs : Bytes) → text_weight (split bs) ≤ length bs + 1
unfolding split
weigh_text [] = omega arith
weigh_text (b ∷ bs) =
    let h = weigh_text bs in
    picked (λ (ls : List Bytes). text_weight ls ≤ length (b ∷ bs) + 1) (eqb b 10) _ _
    (λ e. omega arith)
    (λ e. let m = weigh_onto b (length bs) (split bs) h in omega arith)

-- ---- the lines as they count

abbrev line_weight : List Line → ℕ
line_weight [] = 0
line_weight (l ∷ ls) = length l.text + 1 + line_weight ls

-- what was joined so far
abbrev open_weight : Open → ℕ
open_weight fresh = 0
open_weight (going f t) = length t + 1

abbrev UpTo : ℕ → Piece → Type 0
UpTo n (last p) = length p ≤ n
UpTo n (joining p) = length p ≤ n

more_length : (b n : ℕ) (p : Piece) → UpTo n p → UpTo (suc n) (more b p)
unfolding more
more_length b n (last p) h = omega arith
more_length b n (joining p) h = omega arith

piece_length : (bs : Bytes) → UpTo (length bs) (piece bs)
unfolding piece
piece_length [] = omega arith
piece_length (b ∷ bs) =
    picked (UpTo (length (b ∷ bs))) (both (eqb b 92) (is_nil bs)) _ _
    (λ e. omega arith)
    (λ e. more_length b (length bs) (piece bs) (piece_length bs))

body_length : (bs : Bytes) → length (body bs) ≤ length bs
unfolding body
body_length [] = omega arith
body_length (b ∷ bs) =
    let h = body_length bs in
    picked (λ (r : Bytes). length r ≤ length (b ∷ bs)) (eqb b 35) _ _ (λ e. omega arith) (λ e. omega arith)

lead_length : (bs : Bytes) → length (lead bs) ≤ length bs
lead_length bs = omega (arith, length_ends (lead bs) bs (ends_lead bs))

-- a piece of at most m bytes, behind those of t
weigh_piece : (go : Open → List Line) (w m f : ℕ) (t : Bytes) → ((o : Open) → line_weight (go o) ≤ open_weight o + w)
    → (p : Piece) → UpTo m p → line_weight (on_piece go f t p) ≤ length t + (m + 1 + w)
unfolding on_piece
weigh_piece go w m f t h (last p) u = omega (arith, h fresh, length_trail (t ++ p), length-append t p)
weigh_piece go w m f t h (joining p) u = omega (arith, h (going f (t ++ p)), length-append t p)

-- of a line of the text
weigh_line : (go : Open → List Line) (w f : ℕ) (t l : Bytes) → ((o : Open) → line_weight (go o) ≤ open_weight o + w)
    → line_weight (on_piece go f t (piece (body (lead l)))) ≤ length t + (length l + 1 + w)
weigh_line go w f t l h =
    let m = weigh_piece go w (length (body (lead l))) f t h (piece (body (lead l))) (piece_length (body (lead l))) in
    omega (arith, body_length (lead l), lead_length l)

weigh_lines : (ls : List Bytes) (n : ℕ) (o : Open) → line_weight (lines_from n o ls) ≤ open_weight o + text_weight ls
unfolding lines_from
weigh_lines [] n fresh = omega arith
weigh_lines [] n (going f t) = omega (arith, length_trail t)
weigh_lines (l ∷ ls) n fresh =
    picked (λ (r : List Line). line_weight r ≤ 0 + text_weight (l ∷ ls)) (is_remark (lead l)) _ _
    (λ e. omega (arith, weigh_lines ls (suc n) fresh))
    (λ e. weigh_line (λ (o : Open). lines_from (suc n) o ls) (text_weight ls) n [] l (weigh_lines ls (suc n)))
weigh_lines (l ∷ ls) n (going f t) =
    let h = weigh_line (λ (o : Open). lines_from (suc n) o ls) (text_weight ls) f t l (weigh_lines ls (suc n)) in
    omega arith

-- ---- what a line sets

-- a key and a value stand in n bytes, with the `=`
abbrev Within : ℕ → Content → Type 0
Within n empty = Unit {0}
Within n (section m) = Unit {0}
Within n (setting k v) = (1 ≤ length k) × (length k + 1 + length v ≤ n)
Within n bad = Unit {0}

parts_length : (x : ℕ) (bs : Bytes) → has x bs ≡ true → length (before x bs) + 1 + length (behind x bs) ≡ length bs
unfolding has before behind
parts_length x [] h = unlike (sym h)
parts_length x (b ∷ bs) h =
    cases (eqb b x)
    (λ e. rw e (omega arith))
    (λ e. let g : has x bs ≡ true = rw (sym (ap (λ t. pick t true (has x bs)) e)) h in rw e (omega (arith, parts_length x bs g)))

some_bytes : (bs : Bytes) → is_nil bs ≡ false → 1 ≤ length bs
some_bytes [] h = unlike h
some_bytes (b ∷ bs) h = omega arith

within_assignment : (t : Bytes) → Within (length t) (assignment t)
unfolding assignment keyed
within_assignment t =
    picked (Within (length t)) (has 61 t) _ _
    (λ e. picked (Within (length t)) (is_nil (trail (before 61 t))) _ _
    (λ f. tt)
    (λ f. (
      some_bytes (trail (before 61 t)) f,
      omega (arith, parts_length 61 t e, length_trail (before 61 t), lead_length (behind 61 t)),
    )))
    (λ e. tt)

within : (t : Bytes) → Within (length t) (content_of t)
unfolding content_of header
within [] = tt
within (b ∷ bs) =
    picked (Within (length (b ∷ bs))) (eqb b 91) _ _
    (λ e. picked (Within (length (b ∷ bs))) (last_is 93 bs) _ _ (λ f. tt) (λ f. tt))
    (λ e. within_assignment (b ∷ bs))

length_lower : (bs : Bytes) → length (lower bs) ≡ length bs
unfolding lower
length_lower [] = refl
length_lower (b ∷ bs) = ap suc (length_lower bs)

entry_length : (s : Setting) → length (entry s) ≤ 20 + length s.key + length s.value
unfolding entry counted
entry_length s =
    omega (
      arith,
      name_length s.section,
      length-append (counted (section_name s.section) ++ counted s.key) (counted s.value),
      length-append (counted (section_name s.section)) (counted s.key),
    )

-- ---- the list

-- the list of what is taken has at most n bytes
abbrev Fits : ℕ → Verdict → Type 0
Fits n (refused_at r l) = Unit {0}
Fits n (taken ss) = length (listing ss) ≤ n

fits_more : (m n : ℕ) (v : Verdict) → m ≤ n → Fits m v → Fits n v
fits_more m n (refused_at r l) h f = tt
fits_more m n (taken ss) h f = omega arith

fits_after : (m n : ℕ) (s : Setting) (v : Verdict) → length (entry s) + m ≤ n → Fits m v → Fits n (after s v)
unfolding after listing
fits_after m n s (refused_at r l) h f = tt
fits_after m n s (taken ss) h f = omega (arith, length-append (entry s) (listing ss))

-- while no known section is open 7 bytes of the room stay free: the end of the header to come pays for them
abbrev spare : Section → ℕ
spare s = pick (is_unknown s) 7 0

spare_most : (s : Section) → spare s ≤ 7
spare_most s = picked (λ (n : ℕ). n ≤ 7) (is_unknown s) 7 0 (λ e. omega arith) (λ e. omega arith)

spare_none : (s : Section) → is_unknown s ≡ false → spare s ≡ 0
spare_none s e = rw e refl

fits_setting : (m n l : ℕ) (s : Section) (k v : Bytes) (r : List Statement) → Within n (setting k v)
    → Fits (7 * m - spare s) (verdict r) → Fits (7 * (n + 1 + m) - spare s) (verdict (setting_in l s k v ∷ r))
unfolding setting_in verdict
fits_setting m n l s k v r w f =
    picked (λ (x : Statement). Fits (7 * (n + 1 + m) - spare s) (verdict (x ∷ r))) (is_unknown s) _ _
    (λ e. tt)
    (λ e. picked (λ (x : Statement). Fits (7 * (n + 1 + m) - spare s) (verdict (x ∷ r))) (is_wrong (typed_of s (lower k) v)) _ _
    (λ g. tt)
    (λ g.
    let a = w.0 in
    let b = w.1 in
    fits_after (7 * m - spare s) (7 * (n + 1 + m) - spare s) _ (verdict r)
    (omega (arith, spare_none s e, length_lower k, entry_length (record { section = s; key = lower k; value = v }))) f))

fits_content : (go : Section → List Statement) (m n l : ℕ) → ((s : Section) → Fits (7 * m - spare s) (verdict (go s)))
    → (s : Section) (c : Content) → Within n c → Fits (7 * (n + 1 + m) - spare s) (verdict (on_content go l s c))
unfolding on_content verdict
fits_content go m n l h s empty w = fits_more (7 * m - spare s) (7 * (n + 1 + m) - spare s) (verdict (go s)) (omega arith) (h s)
fits_content go m n l h s (section name) w =
    let t = section_of (lower name) in
    fits_more (7 * m - spare t) (7 * (n + 1 + m) - spare s) (verdict (go t)) (omega (arith, spare_most s)) (h t)
fits_content go m n l h s (setting k v) w = fits_setting m n l s k v (go s) w (h s)
fits_content go m n l h s bad w = tt

fits : (ls : List Line) (s : Section) → Fits (7 * line_weight ls - spare s) (verdict (statements s ls))
unfolding statements verdict listing
fits [] s = omega arith
fits (l ∷ ls) s =
    fits_content (λ (t : Section). statements t ls) (line_weight ls) (length l.text) l.number (fits ls) s (content_of l.text)
    (within l.text)

pub enough : Enough
unfolding statements_of lines_at
enough = record {
  enough = λ text ss e.
      let h = subst (Fits (7 * line_weight (lines_from 1 fresh (split text)) - 7)) e (fits (lines_from 1 fresh (split text)) Unknown) in
      omega (arith, weigh_lines (split text) 1 fresh, weigh_text text);
}
