-- A plain text: each of its lines is one that can be written. Assumes nothing.
use Prim.Native.Nat.{ℕ, suc}
use mathlib.Core.Path.{◌≡◌, refl, ap, ◌∙◌}
use mathlib.Core.List.{List, [], ◌∷◌, map}
use mathlib.Core.Bool.{false}
use Rattle.base_laws.specs.Base.{All}
use Rattle.conf_lines.specs.Lines.{Bytes, is_remark, split, lines_from, lines_at}
use Rattle.conf_content.specs.Content.{has, last_is}
use Rattle.conf_typed.specs.declared.Section.{Section}
use Rattle.conf_typed.specs.declared.Section.TheVariants.{Unknown}
use Rattle.conf_read.specs.Config.{is_unknown, statements, statements_of, taken, after, verdict}
use Rattle.claim_config.specs.WrittenBack.{is_header, Spelled, Writable}
use Rattle.claim_config.specs.Plain.{Pair, under, pair_lines, plain_text, Plainly, PlainPair, Plain}
use Rattle.claim_config.proofs.Clean.{has_not, says_header, says_setting}

-- ---- a byte that is nowhere is neither first nor last

no_remark : (bs : Bytes) → has 59 bs ≡ false → is_remark bs ≡ false
unfolding is_remark
no_remark [] h = refl
no_remark (b ∷ bs) h = (has_not 59 b bs h).0

no_header : (bs : Bytes) → has 91 bs ≡ false → is_header bs ≡ false
no_header [] h = refl
no_header (b ∷ bs) h = (has_not 91 b bs h).0

not_last : (x : ℕ) (bs : Bytes) → has x bs ≡ false → last_is x bs ≡ false
unfolding last_is
not_last x [] h = refl
not_last x (b ∷ []) h = (has_not x b [] h).0
not_last x (b ∷ c ∷ bs) h = not_last x (c ∷ bs) (has_not x b (c ∷ bs) h).1

spelled : (bs : Bytes) → Plainly bs → Spelled bs
spelled bs p = record { no_feed = p.no_feed; no_comment = p.no_comment; no_lead = p.no_lead; no_trail = p.no_trail }

pub writable : (s : Section) (p : Pair) → is_unknown s ≡ false → PlainPair s p → Writable (under s p)
writable s p k h = record {
  known = k;
  key = spelled p.key h.key;
  key_some = h.key_some;
  key_lower = h.key_lower;
  key_whole = h.key_whole;
  key_no_header = no_header p.key h.key.no_bracket;
  key_no_remark = no_remark p.key h.key.no_semicolon;
  value = spelled p.value h.value;
  value_no_join = not_last 92 p.value h.value.no_backslash;
  value_good = h.value_good;
}

-- ---- the lines

pairs_from : (s : Section) → is_unknown s ≡ false → (ps : List Pair) (n : ℕ) → All (PlainPair s) ps
    → verdict (statements s (lines_at n (pair_lines ps))) ≡ taken (map (under s) ps)
unfolding pair_lines verdict after statements lines_at lines_from split
pairs_from s k [] n h = refl
pairs_from s k (p ∷ ps) n h =
    rw (says_setting (under s p) n (pair_lines ps) (writable s p k h.0), pairs_from s k ps (suc n) h.1)

pub plain : Plain
unfolding statements_of plain_text
plain = record { plain = λ s k ps h. ap verdict (says_header Unknown s 1 (pair_lines ps)) ∙ pairs_from s k ps 2 h }
