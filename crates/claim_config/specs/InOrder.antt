-- "They carry the line number from 1 (of a joined line, its first), and the first bad line wins" (document 02, request 1): where a text is
-- refused its lines are such that no line is bad, then the one with the refusal and the number, then any others.
use Rattle.std.specs.Prelude.{ℕ, suc, ◌≤◌, ◌≡◌, List, [], ◌∷◌, ◌++◌}
use Rattle.base_laws.specs.Base.{All}
use Rattle.conf_lines.specs.Lines.{Bytes, Line, lines_at}
use Rattle.conf_content.specs.Content.{Content, empty, section, setting, bad, content_of}
use Rattle.conf_typed.specs.Typed.{lower, section_of}
use Rattle.conf_typed.specs.declared.Section.{Section}
use Rattle.conf_typed.specs.declared.Section.TheVariants.{Unknown}
use Rattle.conf_list.specs.Listing.{Setting}
use Rattle.conf_read.specs.Config.{Statement, sets, refuses, statements, statements_of, refused_at, taken, verdict}
use Rattle.conf_read.specs.declared.refusal.ConfRefusal.{ConfRefusal}

-- the section that is open behind a line, and behind lines
unfoldable pub opens : Section → Content → Section
opens s empty = s
opens s (section name) = section_of (lower name)
opens s (setting k v) = s
opens s bad = s

unfoldable pub open_after : Section → List Line → Section
open_after s [] = s
open_after s (l ∷ ls) = open_after (opens s (content_of l.text)) ls

-- no line is bad: each that says something sets something
abbrev pub Sets : Statement → Type 0
Sets (sets s) = Unit {0}
Sets (refuses r n) = ⊥

abbrev pub NoneBad : Section → List Line → Type 0
NoneBad s ls = All Sets (statements s ls)

-- the first bad line of some lines, with its refusal and its number; s is the section that is open before them
pub record FirstBad (s : Section) (ls : List Line) (refusal : ConfRefusal) (number : ℕ) : Type 0 where
  pub earlier : List Line
  pub line : Line
  pub later : List Line
  pub lines : ls ≡ earlier ++ line ∷ later
  pub good : NoneBad s earlier
  pub refused : statements (open_after s earlier) (line ∷ []) ≡ refuses refusal number ∷ []
  pub numbered : number ≡ line.number

-- the numbers of lines rise, from n on
abbrev pub Rising : ℕ → List Line → Type 0
Rising n [] = Unit {0}
Rising n (l ∷ ls) = (n ≤ l.number) × Rising (suc l.number) ls

pub record InOrder : Type 0 where
  pub refused : (text : Bytes) (r : ConfRefusal) (n : ℕ) → verdict (statements_of text) ≡ refused_at r n → FirstBad Unknown (lines_at 1 text) r n
  -- and a text with such a line is refused for it
  pub wins : (text : Bytes) (r : ConfRefusal) (n : ℕ) → FirstBad Unknown (lines_at 1 text) r n → verdict (statements_of text) ≡ refused_at r n
  pub taken_whole : (text : Bytes) (ss : List Setting) → verdict (statements_of text) ≡ taken ss → NoneBad Unknown (lines_at 1 text)
  pub numbered : (text : Bytes) → Rising 1 (lines_at 1 text)
