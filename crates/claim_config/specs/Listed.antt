-- The list of settings can be read in one way alone. Document 02, request 1: "all settings listed in order (section and key in lower
-- case, value, each after its length as 4 bytes, most significant first)".
use Rattle.std.specs.Prelude.{ℕ, zero, suc, ◌+◌, ◌*◌, ◌≡◌, List, [], ◌∷◌, true, false, length, take, drop, get_or}
use Rattle.base_laws.specs.Base.{pick}
use Rattle.conf_lines.specs.Lines.{Bytes, is_nil}
use Rattle.conf_typed.specs.Typed.{section_name, section_of}
use Rattle.conf_typed.specs.declared.Section.{Section}
use Rattle.conf_list.specs.Listing.{Setting, listing, all_short}
use Rattle.conf_read.specs.Config.{is_unknown}

-- ---- how a host reads the list: a length, as many bytes, three times

-- the number that the first 4 bytes are
unfoldable pub size_at : Bytes → ℕ
size_at bs = get_or bs 0 0 * 16777216 + get_or bs 1 0 * 65536 + get_or bs 2 0 * 256 + get_or bs 3 0

-- the bytes behind the length, and what stands behind them
unfoldable pub field : Bytes → Bytes
field bs = take (size_at bs) (drop 4 bs)

unfoldable pub rest : Bytes → Bytes
rest bs = drop (size_at bs) (drop 4 bs)

unfoldable pub setting_at : Bytes → Setting
setting_at bs = record { section = section_of (field bs); key = field (rest bs); value = field (rest (rest bs)) }

-- at most so many settings
unfoldable pub up_to : ℕ → Bytes → List Setting
up_to zero bs = []
up_to (suc n) bs = pick (is_nil bs) [] (setting_at bs ∷ up_to n (rest (rest (rest bs))))

-- a setting takes a byte at least
unfoldable pub settings_in : Bytes → List Setting
settings_in bs = up_to (length bs) bs

-- ---- the claims

pub record Listed : Type 0 where
  -- each section has its own name, the empty one for `Unknown`
  pub named : (s : Section) → section_of (section_name s) ≡ s
  -- and is listed under the name that was given, in lower case
  pub own_name : (n : Bytes) → is_unknown (section_of n) ≡ false → section_name (section_of n) ≡ n
  pub read_back : (ss : List Setting) → all_short ss ≡ true → settings_in (listing ss) ≡ ss
  pub injective : (ss ts : List Setting) → all_short ss ≡ true → all_short ts ≡ true → listing ss ≡ listing ts → ss ≡ ts
