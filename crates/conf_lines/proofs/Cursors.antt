-- Cursors: what is left to read at one, against the line from another on.
use mathlib.Core.Path.{◌≡◌, refl, sym, ap, ◌∙◌}
use mathlib.Core.Bool.{true, false}
use mathlib.Core.List.{[]}
use mathlib.Core.Logic.{⊎_elim}
use Prim.Native.Nat.{ℕ, ◌+◌, ◌≤◌, ◌<◌}
use native.Mathlib.Omega.{arith}
use lib.ListN.{length, drop, get_or, drop_of_length-le}
use borrow.Author.Tests.{eq-eqb, ne_eqb}
use Rattle.base_laws.proofs.Order.{lt_or_le}
use Rattle.conf_lines.specs.Lines.{Bytes, lead, is_remark}
use Rattle.conf_lines.specs.Scan.{text, passing, blanks, comment, emit, piece_ends, in_text, Scanned, scanned, line_from}
use Rattle.conf_lines.specs.Scan.{Onward, Same, Ended, Gave, Over, Stepped, Rejoined, Begins, Skips}
use Rattle.conf_lines.specs.declared.cursor.Cursor.{Cursor}
use Rattle.conf_lines.specs.declared.Step.{Step}
use Rattle.conf_lines.specs.declared.Step.TheVariants as step
use Rattle.conf_lines.proofs.Steps.{next_drop, nothing, fed, one_more, at_end, comment_on, comment_feed, comment_joins_nothing}
use Rattle.conf_lines.proofs.Steps.{past_blanks, past_rest, text_feed, text_comment, text_joins, text_byte}

-- ---- to the end of the line

-- the rest of the line from `at` on is the rest from a place before it on
pub record Left (s : Bytes) (from at : ℕ) : Type 0 where
  pub ahead : from ≤ at
  pub same : scanned comment (drop from s) ≡ scanned comment (drop at s)

pub left_all : (s : Bytes) (from : ℕ) → Left s from from
left_all s from = record { ahead = omega arith; same = refl }

pub left_more : (s : Bytes) (from at : ℕ) → Left s from at → at < length s → (get_or s at 0 ≡ 10 → ⊥) → Left s from (at + 1)
left_more s from at l h n = record { ahead = omega (arith, l.ahead); same = l.same ∙ comment_on s at h n }

-- what is read is x, and it ends at d
ended : (s : Bytes) (c : Cursor) (l x : Scanned) (d : Cursor) → l ≡ x
    → x.behind ≡ drop d.at s → c.feeds + x.feeds ≡ d.feeds → c.at ≤ d.at → (c.at < length s → c.at < d.at) → Ended s c l d
ended s c l x d e b f a m = record {
  behind = ap (λ (y : Scanned). y.behind) e ∙ b;
  feeds = ap (λ (y : Scanned). c.feeds + y.feeds) e ∙ f;
  ahead = a;
  moved = m;
}

pub ended_feed : (s : Bytes) (c d : Cursor) (at : ℕ) → Left s c.at at → at < length s → get_or s at 0 ≡ 10
    → d.at ≡ at + 1 → d.feeds ≡ c.feeds + 1 → Ended s c (scanned comment (drop c.at s)) d
ended_feed s c d at l h e p q =
    ended s c _ (fed (drop (at + 1) s)) d (l.same ∙ comment_feed s at h e)
    (ap (λ (n : ℕ). drop n s) (sym p)) (sym q) (omega (arith, l.ahead)) (λ m. omega (arith, l.ahead))

pub ended_out : (s : Bytes) (c d : Cursor) (at : ℕ) → Left s c.at at → length s ≤ at
    → c.at ≤ d.at → length s ≤ d.at → d.feeds ≡ c.feeds → Ended s c (scanned comment (drop c.at s)) d
ended_out s c d at l h a b q =
    ended s c _ nothing d (l.same ∙ at_end comment s at h)
    (sym (drop_of_length-le s b)) (omega arith) a (λ m. omega arith)

-- ---- on to the next piece

-- a piece is read from behind its blanks on
from_blanks : (s : Bytes) (i at : ℕ) → drop at s ≡ lead (drop i s) → scanned blanks (drop i s) ≡ scanned text (drop at s)
from_blanks s i at e = past_blanks (drop i s) ∙ sym (ap (scanned text) e)

-- the line ends at d, and behind the blanks there the next piece starts
pub joins : (s : Bytes) (c d : Cursor) (at : ℕ)
    → Ended s c (scanned comment (drop c.at s)) d → drop at s ≡ lead (drop d.at s) → d.at ≤ at
    → (o : d.feeds ≤ at) → Same s c (scanned passing (drop c.at s)) (record { at = at; feeds = d.feeds; sound = o })
joins s c d at x e h o =
    let r = past_rest (drop c.at s) in
    let next = scanned blanks (scanned comment (drop c.at s)).behind in
    let b : next ≡ scanned text (drop at s) = ap (scanned blanks) x.behind ∙ from_blanks s d.at at e in
    let f : next.feeds ≡ (scanned text (drop at s)).feeds = ap (λ (y : Scanned). y.feeds) b in
    record {
      joined = r.joined ∙ ap (λ (y : Scanned). y.joined) b;
      onward = record {
        behind = r.behind ∙ ap (λ (y : Scanned). y.behind) b;
        feeds = omega (arith, r.feeds, f, x.feeds);
        ahead = omega (arith, x.ahead);
      };
    }

-- ---- a step

-- the line at c ends where x does
over : (s : Bytes) (c d : Cursor) (x : Scanned) → line_from s c ≡ x → x.joined ≡ [] → Ended s c x d → Over s c d
over s c d x e j n = record {
  joined = ap (λ (y : Scanned). y.joined) e ∙ j;
  ended = ended s c (line_from s c) x d e n.behind n.feeds n.ahead n.moved;
}

pub over_end : (s : Bytes) (c : Cursor) → length s ≤ c.at → Over s c c
over_end s c h =
    over s c c nothing (at_end text s c.at h) refl
    (ended s c nothing nothing c refl (sym (drop_of_length-le s h)) (omega arith) (omega arith) (λ m. absurd (omega arith)))

pub over_feed : (s : Bytes) (c : Cursor) → c.at < length s → get_or s c.at 0 ≡ 10
    → (o : c.feeds + 1 ≤ c.at + 1) → Over s c (record { at = c.at + 1; feeds = c.feeds + 1; sound = o })
over_feed s c h e o =
    let x = fed (drop (c.at + 1) s) in
    over s c _ x (text_feed s c.at h e) refl (ended s c x x _ refl refl refl (omega arith) (λ m. omega arith))

pub over_comment : (s : Bytes) (c d : Cursor) → c.at < length s → get_or s c.at 0 ≡ 35
    → Ended s c (scanned comment (drop c.at s)) d → Over s c d
over_comment s c d h e n =
    over s c d (scanned comment (drop c.at s)) (text_comment s c.at h e) (comment_joins_nothing (drop c.at s)) n

pub gives : (s : Bytes) (c : Cursor) → c.at < length s
    → in_text (get_or s c.at 0) (piece_ends (drop (c.at + 1) s)) ≡ emit
    → (o : c.feeds ≤ c.at + 1) → Gave s c (get_or s c.at 0) (record { at = c.at + 1; feeds = c.feeds; sound = o })
gives s c h e o =
    let t : line_from s c ≡ one_more (get_or s c.at 0) (scanned text (drop (c.at + 1) s)) = text_byte s c.at h e in
    record {
      joined = ap (λ (y : Scanned). y.joined) t;
      onward = record {
        behind = ap (λ (y : Scanned). y.behind) t;
        feeds = ap (λ (y : Scanned). c.feeds + y.feeds) t;
        ahead = omega arith;
      };
      moved = omega arith;
      inside = omega arith;
    }

pub rejoins : (s : Bytes) (c d : Cursor) → c.at < length s → get_or s c.at 0 ≡ 92 → piece_ends (drop (c.at + 1) s) ≡ true
    → (o : c.feeds ≤ c.at + 1) → Same s (record { at = c.at + 1; feeds = c.feeds; sound = o }) (scanned passing (drop (c.at + 1) s)) d
    → Rejoined s c d
rejoins s c d h e p o n =
    let t : line_from s c ≡ scanned passing (drop (c.at + 1) s) = text_joins s c.at h e p in
    record {
      same = record {
        joined = ap (λ (y : Scanned). y.joined) t ∙ n.joined;
        onward = record {
          behind = ap (λ (y : Scanned). y.behind) t ∙ n.onward.behind;
          feeds = ap (λ (y : Scanned). c.feeds + y.feeds) t ∙ n.onward.feeds;
          ahead = omega (arith, n.onward.ahead);
        };
      };
      moved = omega (arith, n.onward.ahead);
      inside = h;
    }

-- ---- one after the other

pub same_self : (s : Bytes) (c : Cursor) → Same s c (line_from s c) c
same_self s c = record { joined = refl; onward = record { behind = refl; feeds = refl; ahead = omega arith } }

onward_then : (s : Bytes) (c : Cursor) (l : Scanned) (w d : Cursor) → Onward s c l w → Onward s w (line_from s w) d → Onward s c l d
onward_then s c l w d a b = record {
  behind = a.behind ∙ b.behind;
  feeds = a.feeds ∙ b.feeds;
  ahead = omega (arith, a.ahead, b.ahead);
}

pub same_then : (s : Bytes) (c : Cursor) (l : Scanned) (w d : Cursor) → Same s c l w → Same s w (line_from s w) d → Same s c l d
same_then s c l w d a b = record { joined = a.joined ∙ b.joined; onward = onward_then s c l w d a.onward b.onward }

-- from c over w to d there is a move, where from w there is one wherever w is inside
still_moves : (n c w d : ℕ) → c ≤ w → w ≤ d → (w < n → w < d) → c < n → c < d
still_moves n c w d a b f h = ⊎_elim (λ (i : w < n). let m = f i in omega arith) (λ (i : n ≤ w). omega arith) (lt_or_le w n)

pub stepped_then : (s : Bytes) (c w : Cursor) (r : Step) → Same s c (line_from s c) w → Stepped s w r → Stepped s c r
stepped_then s c w (step.Byte b d) a g = record {
  joined = a.joined ∙ g.joined;
  onward = onward_then s c (line_from s c) w d a.onward g.onward;
  moved = omega (arith, a.onward.ahead, g.moved);
  inside = g.inside;
}
stepped_then s c w (step.End d) a g = record {
  joined = a.joined ∙ g.joined;
  ended = record {
    behind = a.onward.behind ∙ g.ended.behind;
    feeds = a.onward.feeds ∙ g.ended.feeds;
    ahead = omega (arith, a.onward.ahead, g.ended.ahead);
    moved = still_moves (length s) c.at w.at d.at a.onward.ahead g.ended.ahead g.ended.moved;
  };
}

-- ---- the start of a line

pub skips : (s : Bytes) (c d : Cursor) (at : ℕ) → drop at s ≡ lead (drop c.at s)
    → at < length s → get_or s at 0 ≡ 59 → Ended s c (scanned comment (drop c.at s)) d → Skips s c d
unfolding is_remark
skips s c d at e h z n = record { remark = ap is_remark (sym e ∙ next_drop s at h) ∙ eq-eqb (get_or s at 0) 59 z; ended = n }

begins : (s : Bytes) (c : Cursor) (at : ℕ) → drop at s ≡ lead (drop c.at s) → c.at ≤ at
    → is_remark (drop at s) ≡ false → (o : c.feeds ≤ at) → Begins s c (record { at = at; feeds = c.feeds; sound = o })
begins s c at e h n o =
    let b : scanned blanks (drop c.at s) ≡ scanned text (drop at s) = from_blanks s c.at at e in
    record {
      plain = ap is_remark (sym e) ∙ n;
      same = record {
        joined = ap (λ (y : Scanned). y.joined) b;
        onward = record {
          behind = ap (λ (y : Scanned). y.behind) b;
          feeds = ap (λ (y : Scanned). c.feeds + y.feeds) b;
          ahead = h;
        };
      };
    }

pub begins_byte : (s : Bytes) (c : Cursor) (at : ℕ) → drop at s ≡ lead (drop c.at s) → c.at ≤ at
    → at < length s → (get_or s at 0 ≡ 59 → ⊥) → (o : c.feeds ≤ at) → Begins s c (record { at = at; feeds = c.feeds; sound = o })
unfolding is_remark
begins_byte s c at e h i z o = begins s c at e h (ap is_remark (next_drop s at i) ∙ ne_eqb (get_or s at 0) 59 z) o

pub begins_end : (s : Bytes) (c : Cursor) (at : ℕ) → drop at s ≡ lead (drop c.at s) → c.at ≤ at
    → length s ≤ at → (o : c.feeds ≤ at) → Begins s c (record { at = at; feeds = c.feeds; sound = o })
unfolding is_remark
begins_end s c at e h i o = begins s c at e h (ap is_remark (drop_of_length-le s i)) o
