-- Settings written as a text are read as they were. Each stands behind its own `[section]`, as `key = value`.
use Rattle.std.specs.Prelude.{◌≡◌, List, [], ◌∷◌, ◌++◌, Bool, false, eqb}
use Rattle.base_laws.specs.Base.{All}
use Rattle.conf_lines.specs.Lines.{Bytes, is_nil, is_remark, lead, trail}
use Rattle.conf_content.specs.Content.{has, last_is}
use Rattle.conf_typed.specs.Typed.{name, lower, section_name, typed_of}
use Rattle.conf_typed.specs.declared.Section.{Section}
use Rattle.conf_list.specs.Listing.{Setting}
use Rattle.conf_read.specs.Config.{is_unknown, is_wrong, statements_of, taken, verdict}

-- ---- lines

unfoldable pub header_line : Section → Bytes
header_line s = name "[" ++ section_name s ++ name "]"

unfoldable pub setting_line : (key value : Bytes) → Bytes
setting_line k v = k ++ (name " = " ++ v)

unfoldable pub ended : Bytes → Bytes → Bytes
ended line rest = line ++ 10 ∷ rest

unfoldable pub written : List Setting → Bytes
written [] = []
written (s ∷ ss) = ended (header_line s.section) (ended (setting_line s.key s.value) (written ss))

-- ---- what can be written so

-- a key or a value: no line feed, no `#`, no blank at an end
pub record Spelled (bs : Bytes) : Type 0 where
  pub no_feed : has 10 bs ≡ false
  pub no_comment : has 35 bs ≡ false
  pub no_lead : lead bs ≡ bs
  pub no_trail : trail bs ≡ bs

-- does it start with `[`
abbrev pub is_header : Bytes → Bool
is_header [] = false
is_header (b ∷ bs) = eqb b 91

-- one of the six sections; a key that is not empty, in lower case, without `=` and with no `[` or `;` first; a value with no `\` at the
-- end, and a good one where the key is typed. A key may end in `\`: the ` = ` behind it keeps it from joining.
pub record Writable (s : Setting) : Type 0 where
  pub known : is_unknown s.section ≡ false
  pub key : Spelled s.key
  pub key_some : is_nil s.key ≡ false
  pub key_lower : lower s.key ≡ s.key
  pub key_whole : has 61 s.key ≡ false
  pub key_no_header : is_header s.key ≡ false
  pub key_no_remark : is_remark s.key ≡ false
  pub value : Spelled s.value
  pub value_no_join : last_is 92 s.value ≡ false
  pub value_good : is_wrong (typed_of s.section s.key s.value) ≡ false

pub record WrittenBack : Type 0 where
  pub written_back : (ss : List Setting) → All Writable ss → verdict (statements_of (written ss)) ≡ taken ss
