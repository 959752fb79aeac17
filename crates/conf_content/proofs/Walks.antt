-- The loops over a line's bytes: what they keep from one byte to the next. Assumes nothing.
use mathlib.Core.Path.{◌≡◌, refl, sym, ap, ◌∙◌}
use mathlib.Core.List.{[], ◌∷◌, ◌++◌, append-nil}
use mathlib.Core.Logic.{⊎_elim}
use Rattle.std.specs.Prelude.{None}
use Prim.Native.Nat.{ℕ, ◌+◌, ◌-◌, ◌≤◌, ◌<◌}
use native.Mathlib.Omega.{arith}
use lib.ListN.{length, drop, length-append}
use lib.Seq.{append_snoc, drop-drop, drop-nil}
use Rattle.base_laws.proofs.Order.{lt_or_le}
use Rattle.conf_lines.specs.Lines.{Bytes, lead, trail}
use Rattle.conf_lines.specs.Scan.{line_from, Onward, Gave, Over}
use Rattle.conf_lines.specs.Span.{joined_from}
use Rattle.conf_lines.specs.declared.cursor.Cursor.{Cursor}
use Rattle.conf_content.specs.Content.{has, before, behind}
use Rattle.conf_content.specs.Shape.{last_of, measure_of, see, Measured}
use Rattle.conf_content.specs.declared.Measure.{Measure}
use Rattle.conf_content.proofs.Seen.{seen}

-- ---- the pass over a line

-- m is the measure of the line's bytes before w
pub record Passing (s : Bytes) (c : Cursor) (m : Measure) (w : Cursor) : Type 0 where
  pub seen : Bytes
  pub measure : m ≡ measure_of seen
  pub line : seen ++ (line_from s w).joined ≡ (line_from s c).joined
  pub onward : Onward s c (line_from s c) w
  pub count : length seen ≤ w.at

pub pass_starts : (s : Bytes) (c : Cursor)
    → Passing s c (record { count = 0; length = 0; first = 0; last = 0; equals = None }) c
unfolding measure_of has before behind lead trail last_of
pass_starts s c = record {
  seen = [];
  measure = refl;
  line = refl;
  onward = record { behind = refl; feeds = refl; ahead = omega arith };
  count = omega arith;
}

module _ (s : Bytes) (c : Cursor) (m : Measure) (w : Cursor) (v : Passing s c m w) where
  pub pass_on : (b : ℕ) (d : Cursor) (r : Measure) → Gave s w b d → r ≡ see m b → Passing s c r d
  pass_on b d r g e = record {
    seen = v.seen ++ b ∷ [];
    measure = e ∙ ap (λ (n : Measure). see n b) v.measure ∙ sym (seen v.seen b);
    line = append_snoc v.seen b (line_from s d).joined ∙ ap (λ (r : Bytes). v.seen ++ r) (sym g.joined) ∙ v.line;
    onward = record {
      behind = v.onward.behind ∙ g.onward.behind;
      feeds = v.onward.feeds ∙ g.onward.feeds;
      ahead = omega (arith, v.onward.ahead, g.moved);
    };
    count = omega (arith, v.count, g.moved, length-append v.seen (b ∷ []));
  }

  -- fewer bytes were seen than stand before the next place
  pub pass_counts : (b : ℕ) (d : Cursor) → Gave s w b d → m.count < d.at
  unfolding measure_of
  pass_counts b d g = omega (arith, ap (λ (n : Measure). n.count) v.measure, v.count, g.moved)

  pub pass_ends : (d : Cursor) → Over s w d → Measured s c (record { measure = m; next = d })
  pass_ends d o = record {
    measure =
        v.measure ∙ ap measure_of (sym (append-nil v.seen) ∙ ap (λ (r : Bytes). v.seen ++ r) (sym o.joined) ∙ v.line);
    ended = record {
      behind = v.onward.behind ∙ o.ended.behind;
      feeds = v.onward.feeds ∙ o.ended.feeds;
      ahead = omega (arith, v.onward.ahead, o.ended.ahead);
      moved = λ l.
          ⊎_elim
          (λ (h : w.at < length s). omega (arith, v.onward.ahead, o.ended.moved h))
          (λ (h : length s ≤ w.at). omega (arith, o.ended.ahead))
          (lt_or_le w.at (length s));
    };
  }

-- ---- the walk to a place of a line

-- w stands behind i of the line's bytes
pub record Walking (s : Bytes) (from : Cursor) (n : ℕ) (w : Cursor) (i : ℕ) : Type 0 where
  pub left : joined_from s w.at ≡ drop i (joined_from s from.at)
  pub most : i ≤ n

pub walk_starts : (s : Bytes) (from : Cursor) (n : ℕ) → Walking s from n from 0
walk_starts s from n = record { left = refl; most = omega arith }

module _ (s : Bytes) (from : Cursor) (n : ℕ) (w : Cursor) (i : ℕ) (v : Walking s from n w i) where
  pub walk_on : (b : ℕ) (d : Cursor) → Gave s w b d → i < n → Walking s from n d (i + 1)
  walk_on b d g h = record {
    left = ap (drop 1) (sym g.joined ∙ v.left) ∙ drop-drop 1 i (joined_from s from.at);
    most = omega arith;
  }

  pub walk_out : (d : Cursor) → Over s w d → joined_from s w.at ≡ drop n (joined_from s from.at)
  walk_out d o =
      let l : Bytes = joined_from s from.at in
      let k : i + (n - i) ≡ n = omega (arith, v.most) in
      o.joined
      ∙ sym (drop-nil (n - i))
      ∙ ap (drop (n - i)) (sym o.joined ∙ v.left)
      ∙ drop-drop (n - i) i l
      ∙ ap (λ (j : ℕ). drop j l) k

  pub walk_ends : n ≤ i → joined_from s w.at ≡ drop n (joined_from s from.at)
  walk_ends h = let k : i ≡ n = omega (arith, v.most) in v.left ∙ ap (λ (j : ℕ). drop j (joined_from s from.at)) k
