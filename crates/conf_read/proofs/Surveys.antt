-- The first pass: what a line does to it, and what it adds up to. Assumes nothing.
use mathlib.Core.Path.{◌≡◌, refl, sym, ap, ◌∙◌}
use mathlib.Core.List.{List, [], ◌∷◌, ◌++◌}
use mathlib.Core.Bool.{Bool, true, false}
use Prim.Native.Nat.{ℕ, ◌+◌, ◌-◌, ◌≤◌, ◌<◌}
use native.Mathlib.Omega.{arith}
use lib.ListN.{length, length-append}
use lib.Dec.{leb}
use borrow.Author.Tests.{leb-true, leb-false, le-leb, lt-leb}
use Rattle.base_laws.specs.Base.{pick, both}
use Rattle.conf_lines.specs.Lines.{Bytes}
use Rattle.conf_lines.specs.declared.cursor.Cursor.{Cursor}
use Rattle.conf_content.specs.Content.{Content, empty, section, setting, bad}
use Rattle.conf_content.specs.Shape.{meant}
use Rattle.conf_content.specs.declared.LineRead.{LineRead}
use Rattle.conf_typed.specs.Typed.{lower, section_name, typed_of}
use Rattle.conf_typed.specs.declared.Section.{Section}
use Rattle.conf_list.specs.Listing.{Setting, four, counted, entry, listing, is_short, all_short}
use Rattle.conf_list.specs.Entry.{size_of, room_for}
use Rattle.conf_read.specs.Config.{Statement, sets, refuses, is_unknown, is_wrong, setting_in, on_content, Verdict, refused_at, taken, after, verdict, values_from, fits}
use Rattle.conf_read.specs.Passes.{ahead, tallied, survey_of, LineAt, turn_set, as_turn, turn_of, surveyed_of, Surveys}
use Rattle.conf_read.specs.declared.survey.Tally.{Tally}
use Rattle.conf_read.specs.declared.survey.Place.{Place}
use Rattle.std.specs.Prelude.{Some, None, Result, Ok, Err}
use Rattle.std.specs.Option.{ok_or}
use Rattle.std.specs.Result.{is_ok}
use Rattle.conf_read.specs.Refusals.{bad_line}
use Rattle.conf_read.specs.declared.refusal.ConfRefusal.TheVariants.{NoSection, BadValue}
use Rattle.conf_read.specs.declared.refusal.BadLine.{BadLine}

-- ---- a line

-- the same line with another number is refused as it is
unfoldable renumbered : ℕ → Statement → Statement
renumbered n (sets s) = sets s
renumbered n (refuses r m) = refuses r n

number_in : (n : ℕ) (s : Section) (k v : Bytes) → setting_in n s k v ≡ renumbered n (setting_in 0 s k v)
unfolding setting_in renumbered
number_in n s k v = go (is_unknown s) (is_wrong (typed_of s (lower k) v))
  where
    go : (a b : Bool) → pick a (refuses NoSection n) (pick b (refuses BadValue n) (sets (record { section = s; key = lower k; value = v })))
        ≡ renumbered n (pick a (refuses NoSection 0) (pick b (refuses BadValue 0) (sets (record { section = s; key = lower k; value = v }))))
    go true b = refl
    go false true = refl
    go false false = refl

module _ (s : Bytes) (p : Place) (d : Cursor) (m : p.cursor.at < d.at) where
  abbrev here : List Statement
  here = ahead s p.cursor p.section

  a_setting : (x : Statement) → here ≡ renumbered (p.cursor.feeds + 1) x ∷ ahead s d p.section → Surveys s p (surveyed_of p d (as_turn (turn_set p.tally x)))
  unfolding surveyed_of turn_set renumbered survey_of
  a_setting (sets x) e = record { same = ap (survey_of p.tally) e; moved = m }
  a_setting (refuses r k) e = ap (survey_of p.tally) e

  by_content : (c : Content) → here ≡ on_content (ahead s d) (p.cursor.feeds + 1) p.section c → Surveys s p (surveyed_of p d (turn_of p.tally p.section c))
  unfolding on_content turn_of surveyed_of survey_of
  by_content empty e = record { same = ap (survey_of p.tally) e; moved = m }
  by_content (section n) e = record { same = ap (survey_of p.tally) e; moved = m }
  by_content (setting k v) e =
      a_setting (setting_in 0 p.section k v) (e ∙ ap (λ (x : Statement). x ∷ ahead s d p.section) (number_in (p.cursor.feeds + 1) p.section k v))
  by_content bad e = ap (survey_of p.tally) e

pub a_line : (s : Bytes) (p : Place) (r : LineRead) → LineAt s p.cursor r → Surveys s p (surveyed_of p r.next (turn_of p.tally p.section (meant s r.shape)))
a_line s p r l = by_content s p r.next l.moved (meant s r.shape) (l.says p.section)

-- ---- all lines

unfoldable pub tallied_all : Tally → List Setting → Tally
tallied_all t [] = t
tallied_all t (s ∷ ss) = tallied_all (tallied t s) ss

unfoldable pub on_verdict : Tally → Verdict → Result Tally BadLine
on_verdict t (refused_at r n) = Err (bad_line r n)
on_verdict t (taken ss) = Ok (tallied_all t ss)

one_more : (t : Tally) (s : Setting) (v : Verdict) → on_verdict (tallied t s) v ≡ on_verdict t (after s v)
unfolding on_verdict after tallied_all
one_more t s (refused_at r n) = refl
one_more t s (taken ss) = refl

pub all_lines : (t : Tally) (ss : List Statement) → survey_of t ss ≡ on_verdict t (verdict ss)
unfolding survey_of on_verdict verdict tallied_all
all_lines t [] = refl
all_lines t (refuses r n ∷ ss) = refl
all_lines t (sets s ∷ ss) = all_lines (tallied t s) ss ∙ one_more t s (verdict ss)

pub all_values : (t : Tally) (ss : List Setting) → (tallied_all t ss).values ≡ values_from t.values ss
unfolding tallied_all values_from tallied
all_values t [] = refl
all_values t (s ∷ ss) = all_values (tallied t s) ss

-- ---- the room

counted_length : (bs : Bytes) → length (counted bs) ≡ 4 + length bs
unfolding counted
counted_length bs = length-append (four (length bs)) bs

entry_parts : (s : Setting) → entry s ≡ counted (section_name s.section) ++ counted s.key ++ counted s.value
unfolding entry
entry_parts s = refl

entry_length : (s : Setting) → length (entry s) ≡ size_of s.section (length s.key) (length s.value)
entry_length s =
    let a = ap length (entry_parts s) in
    let b = length-append (counted (section_name s.section) ++ counted s.key) (counted s.value) in
    let d = length-append (counted (section_name s.section)) (counted s.key) in
    omega (arith, a, b, d, counted_length (section_name s.section), counted_length s.key, counted_length s.value)

-- a test of a sum is the test of what is left
leb_rest : (n m l : ℕ) → n ≤ l → leb m (l - n) ≡ leb (n + m) l
leb_rest n m l h = go (leb (n + m) l) refl
  where
    go : (b : Bool) → leb (n + m) l ≡ b → leb m (l - n) ≡ b
    go true e = le-leb m (l - n) (omega (arith, leb-true (n + m) l e))
    go false e = lt-leb m (l - n) (omega (arith, leb-false (n + m) l e))

more_room : (a b c d : Bool) (n m l : ℕ) → c ≡ leb n l → both a (both (both b d) (leb (n + m) l)) ≡ pick (both b c) (both a (both d (leb m (l - n)))) false
more_room a b c d n m l e = go a b c (sym e)
  where
    go : (a b c : Bool) → leb n l ≡ c → both a (both (both b d) (leb (n + m) l)) ≡ pick (both b c) (both a (both d (leb m (l - n)))) false
    go a false c e = lose a
      where
        lose : (a : Bool) → both a false ≡ false
        lose true = refl
        lose false = refl
    go a true true e = rw (leb_rest n m l (leb-true n l e)) refl
    go a true false e = rw (lt-leb (n + m) l (omega (arith, leb-false n l e))) (lose a d)
      where
        lose : (a d : Bool) → both a (both d false) ≡ false
        lose true true = refl
        lose true false = refl
        lose false d = refl

-- do these settings fit in what is left
abbrev pub fits_in : List Setting → Result ℕ ℕ → Bool
fits_in ss (Ok n) = fits ss n
fits_in ss (Err n) = false

by_test : (l n : ℕ) (ss : List Setting) (b : Bool) → fits_in ss (ok_or (pick b (Some n) None) l) ≡ pick b (fits ss n) false
by_test l n ss true = refl
by_test l n ss false = refl

after_room : (r : Result ℕ ℕ) (s : Setting) (ss : List Setting)
    → fits_in ss (room_for r s.section (length s.key) (length s.value)) ≡ fits_in (s ∷ ss) r
unfolding room_for fits all_short is_short listing
after_room (Err l) s ss = refl
after_room (Ok l) s ss =
    let n = size_of s.section (length s.key) (length s.value) in
    let short = both (leb (length s.key) 4294967295) (leb (length s.value) 4294967295) in
    let e : length (entry s ++ listing ss) ≡ n + length (listing ss) = length-append (entry s) (listing ss) ∙ ap (λ (k : ℕ). k + length (listing ss)) (entry_length s) in
    by_test l (l - n) ss (both short (leb n l))
    ∙ sym (more_room true short (leb n l) (all_short ss) n (length (listing ss)) l refl)
    ∙ ap (λ (k : ℕ). both (both short (all_short ss)) (leb k l)) (sym e)

none_fits : (l : ℕ) → fits [] l ≡ true
unfolding fits all_short listing
none_fits l = le-leb 0 l (omega arith)

some_room : (r : Result ℕ ℕ) → is_ok r ≡ fits_in [] r
some_room (Ok l) = sym (none_fits l)
some_room (Err l) = refl

pub all_room : (t : Tally) (ss : List Setting) → is_ok (tallied_all t ss).room ≡ fits_in ss t.room
unfolding tallied_all tallied
all_room t [] = some_room t.room
all_room t (s ∷ ss) = all_room (tallied t s) ss ∙ after_room t.room s ss
