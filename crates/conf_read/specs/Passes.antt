-- The two passes over a text: what the first one adds up, and where both stand. Inner.
use Rattle.std.specs.Prelude.{ℕ, ◌+◌, ◌<◌, ◌≡◌, List, [], ◌∷◌, ◌++◌, length, drop, Result, Ok, Err}
use Rattle.base_laws.specs.Base.{All}
use Rattle.base_copy.specs.Put.{Put}
use Rattle.conf_lines.specs.Lines.{Bytes, lines_at}
use Rattle.conf_lines.specs.declared.cursor.Cursor.{Cursor}
use Rattle.conf_content.specs.Content.{Content, empty, section, setting, bad}
use Rattle.conf_content.specs.Shape.{meant, Parts}
use Rattle.conf_content.specs.declared.LineRead.{LineRead}
use Rattle.conf_typed.specs.Typed.{lower, section_of, typed_of}
use Rattle.conf_typed.specs.declared.Section.{Section}
use Rattle.conf_list.specs.Listing.{Setting, listing}
use Rattle.conf_list.specs.Entry.{room_for}
use Rattle.conf_read.specs.Config.{Statement, sets, refuses, setting_in, on_content, statements, defaults, values_with}
use Rattle.conf_read.specs.Refusals.{bad_line}
use Rattle.conf_read.specs.declared.refusal.ConfRefusal.{ConfRefusal}
use Rattle.conf_read.specs.declared.refusal.ConfRefusal.TheVariants.{Malformed}
use Rattle.conf_read.specs.declared.refusal.BadLine.{BadLine}
use Rattle.conf_read.specs.declared.Written.{Written}
use Rattle.conf_read.specs.declared.survey.Tally.{Tally}
use Rattle.conf_read.specs.declared.survey.Place.{Place}
use Rattle.conf_read.specs.declared.survey.Turn.{Turn}
use Rattle.conf_read.specs.declared.survey.Turn.TheVariants as turn

-- what the lines from a cursor on say, with a section open
abbrev pub ahead : Bytes → Cursor → Section → List Statement
ahead s c t = statements t (lines_at (c.feeds + 1) (drop c.at s))

-- a setting more
unfoldable pub tallied : Tally → Setting → Tally
tallied t s = record {
  values = values_with t.values s.section (typed_of s.section s.key s.value);
  room = room_for t.room s.section (length s.key) (length s.value);
}

-- the first pass: up to the first bad line
unfoldable pub survey_of : Tally → List Statement → Result Tally BadLine
survey_of t [] = Ok t
survey_of t (refuses r n ∷ ss) = Err (bad_line r n)
survey_of t (sets s ∷ ss) = survey_of (tallied t s) ss

abbrev pub start_tally : (room : ℕ) → Tally
start_tally n = record { values = defaults; room = Ok n }

-- ---- one line

-- a line read: what the lines from it on say is what it says, and then those behind it
pub record LineAt (s : Bytes) (c : Cursor) (r : LineRead) : Type 0 where
  pub says : (t : Section) → ahead s c t ≡ on_content (ahead s r.next) (c.feeds + 1) t (meant s r.shape)
  pub parts : Parts s r.shape
  pub moved : c.at < r.next.at

-- what a line does in a section
unfoldable pub turn_set : Tally → Statement → Result Tally ConfRefusal
turn_set t (sets s) = Ok (tallied t s)
turn_set t (refuses r n) = Err r

abbrev pub setting_turn : Tally → Section → (key value : Bytes) → Result Tally ConfRefusal
setting_turn t s k v = turn_set t (setting_in 0 s k v)

abbrev pub as_turn : Result Tally ConfRefusal → Result Turn ConfRefusal
as_turn (Ok t) = Ok (turn.Sets t)
as_turn (Err r) = Err r

unfoldable pub turn_of : Tally → Section → Content → Result Turn ConfRefusal
turn_of t s empty = Ok turn.Nothing
turn_of t s (section name) = Ok (turn.Opens (section_of (lower name)))
turn_of t s (setting k v) = as_turn (setting_turn t s k v)
turn_of t s bad = Err Malformed

unfoldable pub surveyed_of : Place → (next : Cursor) → Result Turn ConfRefusal → Result Place BadLine
surveyed_of p c (Ok turn.Nothing) = Ok (record { cursor = c; section = p.section; tally = p.tally })
surveyed_of p c (Ok (turn.Opens s)) = Ok (record { cursor = c; section = s; tally = p.tally })
surveyed_of p c (Ok (turn.Sets t)) = Ok (record { cursor = c; section = p.section; tally = t })
surveyed_of p c (Err r) = Err (bad_line r (p.cursor.feeds + 1))

-- what the first pass gives from a place on
abbrev pub survey_from : Bytes → Place → Result Tally BadLine
survey_from s p = survey_of p.tally (ahead s p.cursor p.section)

-- a line further it gives the same
pub record Further (s : Bytes) (p q : Place) : Type 0 where
  pub same : survey_from s p ≡ survey_from s q
  pub moved : p.cursor.at < q.cursor.at

abbrev pub Surveys : Bytes → Place → Result Place BadLine → Type 0
Surveys s p (Ok q) = Further s p q
Surveys s p (Err b) = survey_from s p ≡ Err b

-- ---- the second pass

-- no line is bad
abbrev pub Sets : Statement → Type 0
Sets (sets s) = Unit {0}
Sets (refuses r n) = ⊥

abbrev pub Good : List Statement → Type 0
Good ss = All Sets ss

-- the settings, past any bad line
unfoldable pub listed : List Statement → List Setting
listed [] = []
listed (sets s ∷ ss) = s ∷ listed ss
listed (refuses r n ∷ ss) = listed ss

-- what is written for a line
pub record Wrote (out s : Bytes) (w : Written) (out' : Bytes) (v : Written) : Type 0 where
  pub bytes : Bytes
  pub put : Put out w.at bytes out' v.at
  pub rest : listing (listed (ahead s w.cursor w.section)) ≡ bytes ++ listing (listed (ahead s v.cursor v.section))
  pub good : Good (ahead s v.cursor v.section)
  pub moved : w.cursor.at < v.cursor.at
