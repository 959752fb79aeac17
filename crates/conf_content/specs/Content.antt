-- What a line of a configuration is. Each definition names its sentence of request 1 of document 02.
use Rattle.std.specs.Prelude.{ℕ, [], ◌∷◌, Bool, true, false, eqb}
use Rattle.base_laws.specs.Base.{pick}
use Rattle.conf_lines.specs.Lines.{Bytes, is_nil, lead, trail}

-- ---- bytes before, behind and at the end of others

-- is there such a byte
unfoldable pub has : ℕ → Bytes → Bool
has x [] = false
has x (b ∷ bs) = pick (eqb b x) true (has x bs)

-- the bytes before the first such byte, and those behind it
unfoldable pub before : ℕ → Bytes → Bytes
before x [] = []
before x (b ∷ bs) = pick (eqb b x) [] (b ∷ before x bs)

unfoldable pub behind : ℕ → Bytes → Bytes
behind x [] = []
behind x (b ∷ bs) = pick (eqb b x) bs (behind x bs)

-- is this byte the last, and the bytes before the last
unfoldable pub last_is : ℕ → Bytes → Bool
last_is x [] = false
last_is x (b ∷ bs) = pick (is_nil bs) (eqb b x) (last_is x bs)

unfoldable pub but_last : Bytes → Bytes
but_last [] = []
but_last (b ∷ bs) = pick (is_nil bs) [] (b ∷ but_last bs)

-- ---- what a line is

pub data Content : Type 0 where
  empty : Content
  section : (name : Bytes) → Content
  setting : (key value : Bytes) → Content
  bad : Content

-- "with `[` first and no `]` last (`[name]` opens a section)": of what stands behind the `[`
unfoldable pub header : Bytes → Content
header bs = pick (last_is 93 bs) (section (but_last bs)) bad

-- "line without `=` or key"; "Blanks .. round the first `=` go"
unfoldable pub keyed : (key value : Bytes) → Content
keyed key value = pick (is_nil key) bad (setting key value)

unfoldable pub assignment : Bytes → Content
assignment t = pick (has 61 t) (keyed (trail (before 61 t)) (lead (behind 61 t))) bad

-- of a line without blanks at its ends; "empty lines are skipped"
unfoldable pub content_of : Bytes → Content
content_of [] = empty
content_of (b ∷ bs) = pick (eqb b 91) (header bs) (assignment (b ∷ bs))
