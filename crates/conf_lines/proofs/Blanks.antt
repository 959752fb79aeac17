-- Blanks at the start, from a place on.
use mathlib.Core.Path.{◌≡◌, sym, ap, ◌∙◌}
use mathlib.Core.Bool.{true, false}
use Prim.Native.Nat.{ℕ, ◌+◌, ◌≤◌, ◌<◌}
use lib.ListN.{length, drop, get_or, drop_of_length-le}
use Rattle.conf_lines.specs.Lines.{Bytes, is_blank, lead}
use Rattle.conf_lines.proofs.Steps.{next_drop}

pub blank_goes : (s : Bytes) (i : ℕ) → i < length s → is_blank (get_or s i 0) ≡ true → lead (drop (i + 1) s) ≡ lead (drop i s)
unfolding lead
blank_goes s i h e = sym (ap lead (next_drop s i h) ∙ rw e)

pub other_stays : (s : Bytes) (i : ℕ) → i < length s → is_blank (get_or s i 0) ≡ false → drop i s ≡ lead (drop i s)
unfolding lead
other_stays s i h e = next_drop s i h ∙ sym (ap lead (next_drop s i h) ∙ rw e)

pub end_stays : (s : Bytes) (i : ℕ) → length s ≤ i → drop i s ≡ lead (drop i s)
unfolding lead
end_stays s i h = drop_of_length-le s h ∙ sym (ap lead (drop_of_length-le s h))
