-- A line byte by byte, as the code reads it: inner definitions. proofs/Joined.antt shows that they give the lines of Lines.antt.
use Rattle.std.specs.Prelude.{ℕ, ◌+◌, ◌≤◌, ◌<◌, ◌≡◌, [], ◌∷◌, Bool, true, false, length, drop, eqb}
use Rattle.base_laws.specs.Base.{pick, both}
use Rattle.conf_lines.specs.Lines.{Bytes, is_blank, lead, is_remark}
use Rattle.conf_lines.specs.declared.cursor.Cursor.{Cursor}
use Rattle.conf_lines.specs.declared.Pass.{Pass}
use Rattle.conf_lines.specs.declared.Pass.TheVariants as pass
use Rattle.conf_lines.specs.declared.Start.{Start}
use Rattle.conf_lines.specs.declared.Start.TheVariants as start
use Rattle.conf_lines.specs.declared.Step.{Step}
use Rattle.conf_lines.specs.declared.Step.TheVariants as step

-- where a reading stands: in a piece, behind the `\` that joins the next line, in the blanks before a piece, in a comment
pub data Mode : Type 0 where
  text : Mode
  passing : Mode
  blanks : Mode
  comment : Mode

-- what a byte does: it ends the line, it is one of the line's, or it is passed over
pub data Act : Type 0 where
  stop : Act
  emit : Act
  go : Mode → Act

-- does a piece end here: the text, the line or a comment
unfoldable pub piece_ends : Bytes → Bool
piece_ends [] = true
piece_ends (b ∷ bs) = pick (eqb b 10) true (eqb b 35)

-- a byte of a piece, where the piece ends behind it or not
unfoldable pub in_text : ℕ → Bool → Act
in_text b ends = pick (eqb b 10) stop (pick (eqb b 35) (go comment) (pick (both (eqb b 92) ends) (go passing) emit))

unfoldable pub act_of : Mode → ℕ → Bool → Act
act_of text b ends = in_text b ends
act_of passing b ends = pick (eqb b 10) (go blanks) (go passing)
act_of blanks b ends = pick (is_blank b) (go blanks) (in_text b ends)
act_of comment b ends = pick (eqb b 10) stop (go comment)

-- a line read to its end: its text, blanks at the end included; what stands behind it; how many line feeds were passed
pub record Scanned : Type 0 where
  pub joined : Bytes
  pub behind : Bytes
  pub feeds : ℕ

unfoldable pub on_act : ℕ → Bytes → (Mode → Scanned) → Act → Scanned
on_act b bs f stop = record { joined = []; behind = bs; feeds = 1 }
on_act b bs f emit = record { joined = b ∷ (f text).joined; behind = (f text).behind; feeds = (f text).feeds }
on_act b bs f (go m) = record { joined = (f m).joined; behind = (f m).behind; feeds = pick (eqb b 10) 1 0 + (f m).feeds }

unfoldable pub scanned : Mode → Bytes → Scanned
scanned m [] = record { joined = []; behind = []; feeds = 0 }
scanned m (b ∷ bs) = on_act b bs (λ (k : Mode). scanned k bs) (act_of m b (piece_ends bs))

-- ---- cursors

-- the line from a cursor in a piece on
abbrev pub line_from : Bytes → Cursor → Scanned
line_from s c = scanned text (drop c.at s)

-- what is left to read at c, l, ends where the line from d on does; so do the line feeds, counted from the start of the text
pub record Onward (s : Bytes) (c : Cursor) (l : Scanned) (d : Cursor) : Type 0 where
  pub behind : l.behind ≡ (line_from s d).behind
  pub feeds : c.feeds + l.feeds ≡ d.feeds + (line_from s d).feeds
  pub ahead : c.at ≤ d.at

-- what is left to read at c is the line from d on
pub record Same (s : Bytes) (c : Cursor) (l : Scanned) (d : Cursor) : Type 0 where
  pub joined : l.joined ≡ (line_from s d).joined
  pub onward : Onward s c l d

-- what is left to read at c ends at d
pub record Ended (s : Bytes) (c : Cursor) (l : Scanned) (d : Cursor) : Type 0 where
  pub behind : l.behind ≡ drop d.at s
  pub feeds : c.feeds + l.feeds ≡ d.feeds
  pub ahead : c.at ≤ d.at
  pub moved : c.at < length s → c.at < d.at

-- the line at c has one more byte, and goes on at d
pub record Gave (s : Bytes) (c : Cursor) (b : ℕ) (d : Cursor) : Type 0 where
  pub joined : (line_from s c).joined ≡ b ∷ (line_from s d).joined
  pub onward : Onward s c (line_from s c) d
  pub moved : c.at < d.at
  pub inside : d.at ≤ length s

-- the line at c has no byte more, and the next line begins at d
pub record Over (s : Bytes) (c d : Cursor) : Type 0 where
  pub joined : (line_from s c).joined ≡ []
  pub ended : Ended s c (line_from s c) d

abbrev pub Stepped : Bytes → Cursor → Step → Type 0
Stepped s c (step.Byte b d) = Gave s c b d
Stepped s c (step.End d) = Over s c d

-- a join is passed: the line goes on at d
pub record Rejoined (s : Bytes) (c d : Cursor) : Type 0 where
  pub same : Same s c (line_from s c) d
  pub moved : c.at < d.at
  pub inside : c.at < length s

abbrev pub Passed : Bytes → Cursor → Pass → Type 0
Passed s c (pass.Stepped r) = Stepped s c r
Passed s c (pass.Join d) = Rejoined s c d

-- at the start of a line of the text: a line or a remark
pub record Begins (s : Bytes) (c d : Cursor) : Type 0 where
  pub plain : is_remark (lead (drop c.at s)) ≡ false
  pub same : Same s c (scanned blanks (drop c.at s)) d

pub record Skips (s : Bytes) (c d : Cursor) : Type 0 where
  pub remark : is_remark (lead (drop c.at s)) ≡ true
  pub ended : Ended s c (scanned comment (drop c.at s)) d

abbrev pub Started : Bytes → Cursor → Start → Type 0
Started s c (start.Line d) = Begins s c d
Started s c (start.Remark d) = Skips s c d
