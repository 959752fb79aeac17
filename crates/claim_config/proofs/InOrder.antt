-- The first bad line: what lines say is what the first ones say and then what the others say, in the section that is then open. Assumes nothing.
use Prim.Native.Nat.{ℕ, suc, ◌≤◌, ◌<◌}
use native.Mathlib.Omega.{arith}
use mathlib.Core.Path.{◌≡◌, refl, sym, ap, subst, ◌∙◌}
use mathlib.Core.List.{List, [], ◌∷◌, ◌++◌, append_assoc}
use Rattle.base_laws.specs.Base.{All}
use Rattle.base_laws.proofs.Order.{picked}
use Rattle.conf_lines.specs.Lines.{Bytes, Line, is_remark, lead, body, Piece, last, joining, piece, split, Open, fresh, going, on_piece, lines_from, lines_at}
use Rattle.conf_content.specs.Content.{Content, empty, section, setting, bad, content_of}
use Rattle.conf_typed.specs.Typed.{lower, typed_of}
use Rattle.conf_typed.specs.declared.Section.{Section}
use Rattle.conf_typed.specs.declared.Section.TheVariants.{Unknown}
use Rattle.conf_list.specs.Listing.{Setting}
use Rattle.conf_read.specs.Config.{Statement, sets, refuses, is_unknown, is_wrong, setting_in, on_content, statements, statements_of, Verdict, refused_at, taken, after, verdict}
use Rattle.conf_read.specs.declared.refusal.ConfRefusal.{ConfRefusal}
use Rattle.conf_read.specs.declared.refusal.ConfRefusal.TheVariants.{Malformed, NoSection, BadValue}
use Rattle.claim_config.specs.InOrder.{opens, open_after, Sets, NoneBad, FirstBad, Rising, InOrder}

-- ---- the numbers rise

-- a line that is open since number f, while line n comes next
abbrev Ahead : ℕ → ℕ → Open → Type 0
Ahead m n fresh = m ≤ n
Ahead m n (going f t) = (m ≤ f) × (f < n)

rising_piece : (go : Open → List Line) (m f n : ℕ) (t : Bytes) → ((k : ℕ) (o : Open) → Ahead k n o → Rising k (go o))
    → m ≤ f → f < n → (p : Piece) → Rising m (on_piece go f t p)
unfolding on_piece
rising_piece go m f n t h a b (last p) = (a, h (suc f) fresh b)
rising_piece go m f n t h a b (joining p) = h m (going f (t ++ p)) (a, b)

rises : (ls : List Bytes) (n m : ℕ) (o : Open) → Ahead m n o → Rising m (lines_from n o ls)
unfolding lines_from
rises [] n m fresh h = tt
rises [] n m (going f t) h = (h.0, tt)
rises (l ∷ ls) n m fresh h =
    picked (Rising m) (is_remark (lead l)) _ _
    (λ e. rises ls (suc n) m fresh (omega arith))
    (λ e. rising_piece (λ (o : Open). lines_from (suc n) o ls) m n (suc n) [] (rises ls (suc n)) h (omega arith) (piece (body (lead l))))
rises (l ∷ ls) n m (going f t) h =
    let a = h.0 in
    let b = h.1 in
    rising_piece (λ (o : Open). lines_from (suc n) o ls) m f (suc n) t (rises ls (suc n)) (omega arith) (omega arith) (piece (body (lead l)))

numbered : (text : Bytes) → Rising 1 (lines_at 1 text)
unfolding lines_at
numbered text = rises (split text) 1 1 fresh (omega arith)

-- ---- what one line says

-- nothing, a setting, or a refusal with its number
data Says (n : ℕ) (xs : List Statement) : Type 0 where
  nothing : xs ≡ [] → Says n xs
  one : (x : Setting) → xs ≡ sets x ∷ [] → Says n xs
  refusal : (r : ConfRefusal) → xs ≡ refuses r n ∷ [] → Says n xs

-- a line by itself
abbrev alone : ℕ → Section → Content → List Statement
alone n s c = on_content (λ (t : Section). []) n s c

says : (n : ℕ) (s : Section) (c : Content) → Says n (alone n s c)
unfolding on_content setting_in
says n s empty = nothing refl
says n s (section name) = nothing refl
says n s bad = refusal Malformed refl
says n s (setting k v) =
    picked (λ (x : Statement). Says n (x ∷ [])) (is_unknown s) _ _
    (λ e. refusal NoSection refl)
    (λ e. picked (λ (x : Statement). Says n (x ∷ [])) (is_wrong (typed_of s (lower k) v)) _ _ (λ f. refusal BadValue refl) (λ f. one _ refl))

-- and then the lines behind it
then_says : (go : Section → List Statement) (n : ℕ) (s : Section) (c : Content) → on_content go n s c ≡ alone n s c ++ go (opens s c)
unfolding on_content opens
then_says go n s empty = refl
then_says go n s (section name) = refl
then_says go n s (setting k v) = refl
then_says go n s bad = refl

-- a line's content, and the section behind it
abbrev of : Line → Content
of l = content_of l.text

abbrev said : Section → Line → List Statement
said s l = alone l.number s (of l)

behind_line : (s : Section) (l : Line) (ls : List Line) → statements s (l ∷ ls) ≡ said s l ++ statements (opens s (of l)) ls
unfolding statements
behind_line s l ls = then_says (λ (t : Section). statements t ls) l.number s (of l)

line_alone : (s : Section) (l : Line) → statements s (l ∷ []) ≡ said s l
unfolding statements
line_alone s l = refl

-- ---- good lines

sets_all : (xs ys : List Statement) → All Sets xs → All Sets ys → All Sets (xs ++ ys)
sets_all [] ys a b = b
sets_all (x ∷ xs) ys a b = (a.0, sets_all xs ys a.1 b)

-- past statements that set something, a refusal stays where it is
past_good : (xs ys : List Statement) (r : ConfRefusal) (n : ℕ) → All Sets xs → verdict ys ≡ refused_at r n → verdict (xs ++ ys) ≡ refused_at r n
unfolding verdict after
past_good [] ys r n g e = e
past_good (sets s ∷ xs) ys r n g e = rw (past_good xs ys r n g.1 e)
past_good (refuses q k ∷ xs) ys r n g e = absurd g.0

-- a good line before the others
further : (s : Section) (l : Line) (ls : List Line) (r : ConfRefusal) (n : ℕ) → All Sets (said s l) → FirstBad (opens s (of l)) ls r n → FirstBad s (l ∷ ls) r n
unfolding open_after
further s l ls r n g f = record {
  earlier = l ∷ f.earlier;
  line = f.line;
  later = f.later;
  lines = ap (λ (z : List Line). l ∷ z) f.lines;
  good = subst (All Sets) (sym (behind_line s l f.earlier)) (sets_all (said s l) _ g f.good);
  refused = f.refused;
  numbered = f.numbered;
}

-- the first line is bad
at_once : (s : Section) (l : Line) (ls : List Line) (r : ConfRefusal) (n : ℕ) → said s l ≡ refuses r n ∷ [] → n ≡ l.number → FirstBad s (l ∷ ls) r n
unfolding open_after statements
at_once s l ls r n e k = record { earlier = []; line = l; later = ls; lines = refl; good = tt; refused = e; numbered = k }

-- ---- the first bad line

after_refused : (s : Setting) (v : Verdict) (r : ConfRefusal) (n : ℕ) → after s v ≡ refused_at r n → v ≡ refused_at r n
unfolding after
after_refused s (refused_at q k) r n e = e
after_refused s (taken ss) r n e = cc

-- what the verdict on a line and those behind it gives
from_line : (s : Section) (l : Line) (ls : List Line) (r : ConfRefusal) (n : ℕ) → Says l.number (said s l)
    → ((t : Section) → verdict (statements t ls) ≡ refused_at r n → FirstBad t ls r n)
    → verdict (said s l ++ statements (opens s (of l)) ls) ≡ refused_at r n → FirstBad s (l ∷ ls) r n
unfolding verdict
from_line s l ls r n (nothing e) h v =
    further s l ls r n (subst (All Sets) (sym e) tt) (h (opens s (of l)) (rw e at v))
from_line s l ls r n (one x e) h v =
    further s l ls r n (subst (All Sets) (sym e) (tt, tt)) (h (opens s (of l)) (after_refused x _ r n (rw e at v)))
from_line s l ls r n (refusal q e) h v =
    let same : refused_at q l.number ≡ refused_at r n = rw e at v in
    let eq : q ≡ r = cc in
    let en : l.number ≡ n = cc in
    at_once s l ls r n (e ∙ (λ i. refuses (eq i) (en i) ∷ [])) (sym en)

first_bad : (ls : List Line) (s : Section) (r : ConfRefusal) (n : ℕ) → verdict (statements s ls) ≡ refused_at r n → FirstBad s ls r n
unfolding statements verdict
first_bad [] s r n e = let z : ◌≡◌ {A = ℕ} 0 1 = cc in absurd (omega arith)
first_bad (l ∷ ls) s r n e =
    from_line s l ls r n (says l.number s (of l)) (λ (t : Section). first_bad ls t r n)
    (ap verdict (sym (behind_line s l ls)) ∙ e)

refused : (text : Bytes) (r : ConfRefusal) (n : ℕ) → verdict (statements_of text) ≡ refused_at r n → FirstBad Unknown (lines_at 1 text) r n
unfolding statements_of
refused text r n e = first_bad (lines_at 1 text) Unknown r n e

-- ---- and it wins

behind_lines : (es ls : List Line) (s : Section) → statements s (es ++ ls) ≡ statements s es ++ statements (open_after s es) ls
unfolding statements open_after
behind_lines [] ls s = refl
behind_lines (l ∷ es) ls s =
    let t = opens s (of l) in
    then_says (λ (u : Section). statements u (es ++ ls)) l.number s (of l)
    ∙ ap (λ (z : List Statement). said s l ++ z) (behind_lines es ls t)
    ∙ sym (append_assoc (said s l) (statements t es) (statements (open_after t es) ls))
    ∙ ap (λ (z : List Statement). z ++ statements (open_after t es) ls) (sym (behind_line s l es))

refuses_first : (s : Section) (l : Line) (ls : List Line) (r : ConfRefusal) (n : ℕ) → statements s (l ∷ []) ≡ refuses r n ∷ []
    → verdict (statements s (l ∷ ls)) ≡ refused_at r n
unfolding verdict
refuses_first s l ls r n e =
    ap verdict (behind_line s l ls ∙ ap (λ (z : List Statement). z ++ statements (opens s (of l)) ls) (sym (line_alone s l) ∙ e))

first_wins : (s : Section) (ls : List Line) (r : ConfRefusal) (n : ℕ) → FirstBad s ls r n → verdict (statements s ls) ≡ refused_at r n
first_wins s ls r n f =
    ap (λ (z : List Line). verdict (statements s z)) f.lines
    ∙ ap verdict (behind_lines f.earlier (f.line ∷ f.later) s)
    ∙ past_good (statements s f.earlier) _ r n f.good (refuses_first (open_after s f.earlier) f.line f.later r n f.refused)

wins : (text : Bytes) (r : ConfRefusal) (n : ℕ) → FirstBad Unknown (lines_at 1 text) r n → verdict (statements_of text) ≡ refused_at r n
unfolding statements_of
wins text r n f = first_wins Unknown (lines_at 1 text) r n f

-- ---- a text that is taken

after_taken_lem : (s : Setting) (v : Verdict) (ss : List Setting) → after s v ≡ taken ss → (ts : List Setting) × (v ≡ taken ts)
unfolding after
after_taken_lem s (refused_at r n) ss e = let z : ◌≡◌ {A = ℕ} 0 1 = cc in absurd (omega arith)
after_taken_lem s (taken ts) ss e = (ts, refl)

sets_whole : (xs : List Statement) (ss : List Setting) → verdict xs ≡ taken ss → All Sets xs
unfolding verdict
sets_whole [] ss e = tt
sets_whole (refuses r n ∷ xs) ss e = let z : ◌≡◌ {A = ℕ} 0 1 = cc in absurd (omega arith)
sets_whole (sets s ∷ xs) ss e = let p = after_taken_lem s (verdict xs) ss e in (tt, sets_whole xs p.0 p.1)

taken_whole : (text : Bytes) (ss : List Setting) → verdict (statements_of text) ≡ taken ss → NoneBad Unknown (lines_at 1 text)
unfolding statements_of
taken_whole text ss e = sets_whole (statements Unknown (lines_at 1 text)) ss e

pub in_order : InOrder
in_order = record { refused = refused; wins = wins; taken_whole = taken_whole; numbered = numbered }
