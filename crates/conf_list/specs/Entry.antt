-- A setting by the places of its key and value, and the room for it. Inner.
use Rattle.std.specs.Prelude.{ℕ, ◌+◌, ◌-◌, length, leb, Option, Some, None, Result, Ok, Err}
use Rattle.std.specs.Option.{ok_or, unwrap_or}
use Rattle.base_laws.specs.Base.{pick, both}
use Rattle.conf_lines.specs.Lines.{Bytes}
use Rattle.conf_lines.specs.Span.{spanned}
use Rattle.conf_lines.specs.declared.span.Span.{Span}
use Rattle.conf_typed.specs.Typed.{lower, section_name}
use Rattle.conf_typed.specs.declared.Section.{Section}
use Rattle.conf_list.specs.Listing.{Setting}

abbrev pub setting_of : Bytes → Section → (key value : Span) → Setting
setting_of s c k v = record { section = c; key = lower (spanned s k); value = spanned s v }

-- the length of an entry whose key and value are so long
abbrev pub size_of : Section → (key value : ℕ) → ℕ
size_of c k v = 12 + length (section_name c) + k + v

-- what is left of n bytes behind such an entry; none where it does not fit
abbrev pub room_in : ℕ → Section → (key value : ℕ) → Option ℕ
room_in n c k v =
    pick (both (both (leb k 4294967295) (leb v 4294967295)) (leb (size_of c k v) n)) (Some (n - size_of c k v)) None

-- the room behind such an entry: what is left where all fits, or where something did not; what does not fit takes nothing
unfoldable pub room_for : Result ℕ ℕ → Section → (key value : ℕ) → Result ℕ ℕ
room_for (Ok n) c k v = ok_or (room_in n c k v) n
room_for (Err n) c k v = Err (unwrap_or (room_in n c k v) n)
