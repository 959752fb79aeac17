-- The ranges of document 01's table, by value: numbers, lengths, times and entries. `Range` says them of each message.
use Rattle.std.specs.Prelude.{ℕ, List, [], ◌∷◌, Bool, true, false, ℤ, pos, negsuc, length, leb}
use Rattle.base_laws.specs.Base.{both}
use Rattle.wire_message.specs.Message.{TimeSpec, Value, absent, numval, strval, strlistval, numlistval, Entry}

-- 0 to hi
unfoldable pub up_to : ℕ → ℤ → Bool
up_to hi (pos n) = leb n hi
up_to hi (negsuc n) = false

-- from lo to hi bytes
unfoldable pub sized : ℕ → ℕ → List ℕ → Bool
sized lo hi d = both (leb lo (length d)) (leb (length d) hi)

-- submit_time, alert_time: "any seconds; nanoseconds as above"
unfoldable pub date_fits : TimeSpec → Bool
date_fits t = up_to 999999999 t.nanoseconds

-- delay, run_time, resume_point, commit_point: "seconds 0 to 4,294,967,295; nanoseconds 0 to 999,999,999"
unfoldable pub moment_fits : TimeSpec → Bool
moment_fits t = both (up_to 4294967295 t.seconds) (date_fits t)

unfoldable pub is_set : Value → Bool
is_set absent = false
is_set (numval n) = true
is_set (strval d) = true
is_set (strlistval l) = true
is_set (numlistval l) = true

-- InfoMessage: "key not empty, a value set"
unfoldable pub entry_fits : Entry → Bool
entry_fits e = both (leb 1 (length e.key)) (is_set e.value)

unfoldable pub entries_fit : List Entry → Bool
entries_fit [] = true
entries_fit (e ∷ es) = both (entry_fits e) (entries_fit es)
