-- The bytes of a span, put one by one in the case asked for. Assumes nothing.
use mathlib.Core.Path.{◌≡◌, sym, ap, subst, ◌∙◌}
use mathlib.Core.Bool.{Bool}
use mathlib.Core.List.{[], ◌∷◌, ◌++◌}
use Prim.Native.Nat.{ℕ, ◌+◌, ◌≤◌, ◌<◌}
use native.Mathlib.Omega.{arith}
use lib.ListN.{length, take, set}
use lib.Seq.{length-take-le}
use Rattle.base_copy.specs.Put.{Put}
use Rattle.base_copy.proofs.Puts.{put_byte, Filling, fill_start, fill_room, fill_more, fill_end}
use Rattle.conf_lines.specs.Lines.{Bytes}
use Rattle.conf_lines.specs.Scan.{Gave, Over}
use Rattle.conf_lines.specs.Span.{joined_from, spanned, Within}
use Rattle.conf_lines.specs.declared.cursor.Cursor.{Cursor}
use Rattle.conf_lines.specs.declared.span.Span.{Span}
use Rattle.conf_typed.specs.Read.{cased}
use Rattle.conf_typed.proofs.Words.{length_cased, first_cased, nothing_cased}
use Rattle.conf_typed.proofs.Reading.{rest, Reading, reads_all, rest_all, reads_on, not_over, rest_next, rest_none}

-- ---- bytes in a case

pub length_span : (k : Bool) (s : Bytes) (p : Span) → Within s p → length (cased k (spanned s p)) ≡ p.length
length_span k s p h = length_cased k (spanned s p) ∙ length-take-le p.length (joined_from s p.at) h

-- ---- the loop: what is left of the span from byte i on, put at o, makes the whole

pub record Copying (out₀ : Bytes) (at : ℕ) (s : Bytes) (k : Bool) (n from : ℕ) (out : Bytes) (w : Cursor) (o i : ℕ) : Type 0 where
  pub reading : Reading s n i w
  pub filling : Filling out₀ at (cased k (take n (joined_from s from))) out o (cased k (rest s n i w))

pub copy_start : (out : Bytes) (at : ℕ) (s : Bytes) (k : Bool) (p : Span) (w : Cursor) → w.at ≡ p.at → Within s p
    → Copying out at s k p.length p.at out w at 0
copy_start out at s k p w e h =
    let all = cased k (take p.length (joined_from s p.at)) in
    let same = rest_all s p.length w ∙ ap (λ (n : ℕ). take p.length (joined_from s n)) e in
    record {
      reading = reads_all s p.length w (rw (sym e) at h);
      filling = subst (λ (l : Bytes). Filling out at all out at (cased k l)) (sym same) (fill_start out at all);
    }

module _ {out₀ : Bytes} {at : ℕ} {s : Bytes} {k : Bool} {n from : ℕ} {out : Bytes} {w : Cursor} {o i : ℕ} (c : Copying out₀ at s k n from out w o i) where
  pub copy_size : length out ≡ length out₀
  copy_size = c.filling.size

  module _ (h : i < n) (d : Cursor) where
    -- the line has a byte more
    pub copy_goes_on : Over s w d → ⊥
    copy_goes_on v = not_over s n i w d c.reading h v

    module _ (b r : ℕ) (g : Gave s w b d) (e : cased k (b ∷ []) ≡ r ∷ []) where
      next : cased k (rest s n i w) ≡ (r ∷ []) ++ cased k (rest s n (i + 1) d)
      next = ap (cased k) (rest_next s n i w d b h g) ∙ first_cased k b r (rest s n (i + 1) d) e

      pub copy_room : at + length (cased k (take n (joined_from s from))) ≤ length out₀ → o < length out
      copy_room f = let m = fill_room c.filling (r ∷ []) (cased k (rest s n (i + 1) d)) next f in omega arith

      pub copy_more : o < length out → Copying out₀ at s k n from (set out o r) d (o + 1) (i + 1)
      copy_more l = record {
        reading = reads_on s n i w d b c.reading h g;
        filling = fill_more c.filling (cased k (rest s n (i + 1) d)) next (put_byte out o r l);
      }

  pub copy_end : n ≤ i → at + length (cased k (take n (joined_from s from))) ≤ length out₀
      → Put out₀ at (cased k (take n (joined_from s from))) out o
  copy_end h f = fill_end c.filling (ap (cased k) (rest_none s n i w h) ∙ nothing_cased k) f
