-- Where a pass starts and ends. Assumes nothing.
use mathlib.Core.Path.{◌≡◌, ap, ◌∙◌}
use mathlib.Core.List.{[]}
use Prim.Native.Nat.{ℕ, ◌+◌, ◌≤◌}
use lib.ListN.{length, drop_of_length-le}
use Rattle.conf_lines.specs.Lines.{Bytes, lines_at}
use Rattle.conf_lines.specs.declared.cursor.Cursor.{Cursor}
use Rattle.conf_lines.proofs.Joined.{no_lines}
use Rattle.conf_typed.specs.declared.Section.{Section}
use Rattle.conf_typed.specs.declared.Section.TheVariants.{Unknown}
use Rattle.conf_read.specs.Config.{statements, statements_of}
use Rattle.conf_read.specs.Passes.{ahead, start_tally, survey_of, survey_from}
use Rattle.conf_read.specs.declared.survey.Tally.{Tally}
use Rattle.conf_read.specs.declared.survey.Place.{Place}
use Rattle.std.specs.Prelude.{Ok}

pub starts : (s : Bytes) (c : Cursor) → c.at ≡ 0 → c.feeds ≡ 0 → ahead s c Unknown ≡ statements_of s
unfolding statements_of
starts s c a f = rw (a, f)

pub ends : (s : Bytes) (c : Cursor) (t : Section) → length s ≤ c.at → ahead s c t ≡ []
unfolding statements
ends s c t h = ap (λ (l : Bytes). statements t (lines_at (c.feeds + 1) l)) (drop_of_length-le s h) ∙ ap (statements t) (no_lines (c.feeds + 1))

pub survey_starts : (s : Bytes) (n : ℕ) (c : Cursor) {t : Tally} → c.at ≡ 0 → c.feeds ≡ 0 → t ≡ start_tally n
    → survey_from s (record { cursor = c; section = Unknown; tally = t }) ≡ survey_of (start_tally n) (statements_of s)
survey_starts s n c a f e = rw e (ap (survey_of (start_tally n)) (starts s c a f))

pub survey_ends : (s : Bytes) (p : Place) → length s ≤ p.cursor.at → survey_from s p ≡ Ok p.tally
unfolding survey_of
survey_ends s p h = ap (survey_of p.tally) (ends s p.cursor p.section h)
