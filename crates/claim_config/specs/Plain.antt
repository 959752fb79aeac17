-- What an operator expects of a plain file: `[section]`, and then lines `key = value`, are those keys and values under that section.
use Rattle.std.specs.Prelude.{◌≡◌, List, [], ◌∷◌, map, false}
use Rattle.base_laws.specs.Base.{All}
use Rattle.conf_lines.specs.Lines.{Bytes, is_nil, lead, trail}
use Rattle.conf_content.specs.Content.{has}
use Rattle.conf_typed.specs.Typed.{lower, typed_of}
use Rattle.conf_typed.specs.declared.Section.{Section}
use Rattle.conf_list.specs.Listing.{Setting}
use Rattle.conf_read.specs.Config.{is_unknown, is_wrong, statements_of, taken, verdict}
use Rattle.claim_config.specs.WrittenBack.{header_line, setting_line, ended}

-- what stands on a line
pub record Pair : Type 0 where
  pub key : Bytes
  pub value : Bytes

abbrev pub under : Section → Pair → Setting
under s p = record { section = s; key = p.key; value = p.value }

unfoldable pub pair_lines : List Pair → Bytes
pair_lines [] = []
pair_lines (p ∷ ps) = ended (setting_line p.key p.value) (pair_lines ps)

unfoldable pub plain_text : Section → List Pair → Bytes
plain_text s ps = ended (header_line s) (pair_lines ps)

-- none of line feeds, `#`, `\`, `;` and `[`, and no blanks round it
pub record Plainly (bs : Bytes) : Type 0 where
  pub no_feed : has 10 bs ≡ false
  pub no_comment : has 35 bs ≡ false
  pub no_backslash : has 92 bs ≡ false
  pub no_semicolon : has 59 bs ≡ false
  pub no_bracket : has 91 bs ≡ false
  pub no_lead : lead bs ≡ bs
  pub no_trail : trail bs ≡ bs

-- keys not empty, in lower case and without `=`; typed values good
pub record PlainPair (s : Section) (p : Pair) : Type 0 where
  pub key : Plainly p.key
  pub key_some : is_nil p.key ≡ false
  pub key_lower : lower p.key ≡ p.key
  pub key_whole : has 61 p.key ≡ false
  pub value : Plainly p.value
  pub value_good : is_wrong (typed_of s p.key p.value) ≡ false

pub record Plain : Type 0 where
  pub plain : (s : Section) → is_unknown s ≡ false → (ps : List Pair) → All (PlainPair s) ps
      → verdict (statements_of (plain_text s ps)) ≡ taken (map (under s) ps)
