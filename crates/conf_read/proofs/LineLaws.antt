-- What a line read at a cursor says of the lines from there on. Assumes nothing.
use mathlib.Core.Path.{◌≡◌, refl, sym, ap, ◌∙◌}
use mathlib.Core.List.{◌∷◌}
use mathlib.Core.Bool.{false}
use mathlib.Core.Logic.{⊎_elim}
use Prim.Native.Nat.{ℕ, ◌+◌, ◌≤◌, ◌<◌}
use native.Mathlib.Omega.{arith}
use lib.ListN.{length, drop}
use lib.Seq.{drop-cons}
use Rattle.base_laws.proofs.Order.{lt_or_le}
use Rattle.conf_lines.specs.Lines.{Bytes, trail, lead, is_remark, lines_at}
use Rattle.conf_lines.specs.Scan.{scanned, blanks, comment, line_from, Begins, Skips}
use Rattle.conf_lines.specs.declared.cursor.Cursor.{Cursor}
use Rattle.conf_lines.proofs.Joined.{one_line, remark_line}
use Rattle.conf_content.specs.Shape.{meant, Read}
use Rattle.conf_content.specs.declared.LineRead.{LineRead}
use Rattle.std.specs.Prelude.{None, Ok}
use Rattle.conf_typed.specs.declared.Section.{Section}
use Rattle.conf_read.specs.Config.{on_content, statements}
use Rattle.conf_read.specs.Passes.{ahead, LineAt}

-- ---- a line

-- `one_line` where the text is known to begin with a byte
line_of : (n : ℕ) (t : Bytes) (b : ℕ) (bs : Bytes) → t ≡ b ∷ bs → is_remark (lead t) ≡ false
    → lines_at n t ≡ record { number = n; text = trail (scanned blanks t).joined } ∷ lines_at (n + (scanned blanks t).feeds) (scanned blanks t).behind
line_of n t b bs e p = rw e (one_line n b bs (rw e at p))

module _ (s : Bytes) (c d : Cursor) (r : LineRead) (h : c.at < length s) (b : Begins s c d) (l : Read s d r) where
  rest : (scanned blanks (drop c.at s)).behind ≡ drop r.next.at s
  rest = b.same.onward.behind ∙ l.ended.behind

  number : c.feeds + 1 + (scanned blanks (drop c.at s)).feeds ≡ r.next.feeds + 1
  number = omega (arith, b.same.onward.feeds, l.ended.feeds)

  lines : lines_at (c.feeds + 1) (drop c.at s)
      ≡ record { number = c.feeds + 1; text = trail (line_from s d).joined } ∷ lines_at (r.next.feeds + 1) (drop r.next.at s)
  lines =
      line_of (c.feeds + 1) (drop c.at s) _ _ (drop-cons s c.at 0 h) b.plain
      ∙ rw (b.same.joined, number, rest) refl

  pub line_says : (t : Section) → ahead s c t ≡ on_content (ahead s r.next) (c.feeds + 1) t (meant s r.shape)
  unfolding statements
  line_says t = ap (statements t) lines ∙ ap (on_content (ahead s r.next) (c.feeds + 1) t) (sym l.shaped.content)

  moved : c.at < r.next.at
  moved =
      ⊎_elim
      (λ (k : d.at < length s). omega (arith, b.same.onward.ahead, l.ended.moved k))
      (λ (k : length s ≤ d.at). omega (arith, h, l.ended.ahead))
      (lt_or_le d.at (length s))

  pub line_at : LineAt s c r
  line_at = record { says = line_says; parts = l.shaped.parts; moved = moved }

-- ---- a remark

module _ (s : Bytes) (c d : Cursor) (h : c.at < length s) (k : Skips s c d) where
  after : lines_at (c.feeds + 1) (drop c.at s) ≡ lines_at (d.feeds + 1) (drop d.at s)
  after =
      let e : c.feeds + 1 + (scanned comment (drop c.at s)).feeds ≡ d.feeds + 1 = omega (arith, k.ended.feeds) in
      remark_line (c.feeds + 1) (drop c.at s) k.remark ∙ rw (e, k.ended.behind) refl

  pub remark_at : LineAt s c (record { shape = Ok None; next = d })
  unfolding on_content
  remark_at = record { says = λ (t : Section). ap (statements t) after; parts = tt; moved = k.ended.moved h }
