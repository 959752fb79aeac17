-- What a line is, by the places of its parts, and what one pass over the line notes of it. Inner.
use Rattle.std.specs.Prelude.{ℕ, ◌+◌, ◌-◌, ◌≡◌, [], ◌∷◌, length, eqb, Option, Some, None, Result, Ok, Err}
use Rattle.base_laws.specs.Base.{pick, both}
use Rattle.conf_lines.specs.Lines.{Bytes, is_blank, lead, trail}
use Rattle.conf_lines.specs.Scan.{line_from, Ended}
use Rattle.conf_lines.specs.Span.{joined_from, spanned, Within}
use Rattle.conf_lines.specs.declared.cursor.Cursor.{Cursor}
use Rattle.conf_content.specs.Content.{has, before, behind, Content, empty, section, setting, bad, content_of}
use Rattle.conf_content.specs.declared.Equals.{Equals}
use Rattle.conf_content.specs.declared.Measure.{Measure}
use Rattle.conf_content.specs.declared.Shape.{Shape}
use Rattle.conf_content.specs.declared.Shape.TheVariants.{Header, Setting}
use Rattle.conf_content.specs.declared.Malformed.{Malformed}
use Rattle.conf_content.specs.declared.LineRead.{LineRead}
use Rattle.conf_content.specs.declared.MeasuredLine.{MeasuredLine}

-- ---- the pass over a line's bytes, blanks at the end included

abbrev pub first_of : Bytes → ℕ
first_of [] = 0
first_of (b ∷ bs) = b

unfoldable pub last_of : Bytes → ℕ
last_of [] = 0
last_of (b ∷ []) = b
last_of (b ∷ c ∷ bs) = last_of (c ∷ bs)

-- how many bytes there are, and how many up to the last that is no blank; the first, and the last that is no blank; of the first `=`, how
-- long the key before it is, and where the value behind it begins
unfoldable pub measure_of : Bytes → Measure
measure_of l = record {
  count = length l;
  length = length (trail l);
  first = first_of l;
  last = last_of (trail l);
  equals = pick (has 61 l) (Some (record { key = length (trail (before 61 l)); value = length l - length (lead (behind 61 l)) })) None;
}

-- the first `=` with a byte more behind n bytes, of which m are left without the blanks at the end
abbrev pub equals_with : Option Equals → (b n m : ℕ) → Option Equals
equals_with (Some e) b n m = Some (record { key = e.key; value = pick (both (is_blank b) (eqb e.value n)) (n + 1) e.value })
equals_with None b n m = pick (eqb b 61) (Some (record { key = m; value = n + 1 })) None

-- one byte more: `measure_of (l ++ b ∷ [])` is `see (measure_of l) b`
unfoldable pub see : Measure → ℕ → Measure
see m b = record {
  count = m.count + 1;
  length = pick (is_blank b) m.length (m.count + 1);
  first = pick (eqb m.count 0) b m.first;
  last = pick (is_blank b) m.last b;
  equals = equals_with m.equals b m.count m.length;
}

-- ---- what it is

-- what a line was found to be: nothing, a shape, or malformed
abbrev pub Found : Type 0
Found = Result (Option Shape) Malformed

abbrev pub meant : Bytes → Found → Content
meant s (Ok None) = empty
meant s (Ok (Some (Header n))) = section (spanned s n)
meant s (Ok (Some (Setting k v))) = setting (spanned s k) (spanned s v)
meant s (Err e) = bad

-- its parts are the line's
abbrev pub Parts : Bytes → Found → Type 0
Parts s (Ok None) = Unit {0}
Parts s (Ok (Some (Header n))) = Within s n
Parts s (Ok (Some (Setting k v))) = Within s k × Within s v
Parts s (Err e) = Unit {0}

-- a line from a place on: what it is
pub record Shaped (s : Bytes) (at : ℕ) (r : Found) : Type 0 where
  pub content : meant s r ≡ content_of (trail (joined_from s at))
  pub parts : Parts s r

-- a line from a cursor on: what it is, and where the next line begins
pub record Read (s : Bytes) (c : Cursor) (r : LineRead) : Type 0 where
  pub shaped : Shaped s c.at r.shape
  pub ended : Ended s c (line_from s c) r.next

pub record Measured (s : Bytes) (c : Cursor) (r : MeasuredLine) : Type 0 where
  pub measure : r.measure ≡ measure_of (line_from s c).joined
  pub ended : Ended s c (line_from s c) r.next
