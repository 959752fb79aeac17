-- The sections and the typed settings. Each definition names its sentence of request 1 of document 02.
use Rattle.std.specs.Prelude.{ℕ, ◌+◌, ◌*◌, ◌-◌, List, [], ◌∷◌, Bool, true, false, eqb, leb, Option, Some, None, Result, Ok, Err}
use Prim.Native.Char.{code}
use Prim.Native.String.{String, [] as nothing, ◌∷◌ as ◌before◌}
use Rattle.base_laws.specs.Base.{pick, both}
use Rattle.conf_lines.specs.Lines.{Bytes, is_nil}
use Rattle.conf_typed.specs.declared.Section.{Section}
use Rattle.conf_typed.specs.declared.Section.TheVariants.{Server, Relay, Iolog, Eventlog, Syslog, Logfile, Unknown}
use Rattle.conf_typed.specs.declared.Typed.{Typed}
use Rattle.conf_typed.specs.declared.Typed.TheVariants.{Timeout, Keepalive, Maxseq}
use Rattle.conf_typed.specs.declared.BadValue.{BadValue}

-- ---- names

-- a name of the paper as bytes
abbrev pub name : String → Bytes
name nothing = []
name (c before s) = code c ∷ name s

unfoldable pub same : Bytes → Bytes → Bool
same [] [] = true
same [] (y ∷ ys) = false
same (x ∷ xs) [] = false
same (x ∷ xs) (y ∷ ys) = both (eqb x y) (same xs ys)

-- "names without regard to case": A to Z
unfoldable pub lower_byte : ℕ → ℕ
lower_byte b = pick (both (leb 65 b) (leb b 90)) (b + 32) b

unfoldable pub lower : Bytes → Bytes
lower [] = []
lower (b ∷ bs) = lower_byte b ∷ lower bs

-- "its six sections"
unfoldable pub section_name : Section → Bytes
section_name Server = name "server"
section_name Relay = name "relay"
section_name Iolog = name "iolog"
section_name Eventlog = name "eventlog"
section_name Syslog = name "syslog"
section_name Logfile = name "logfile"
section_name Unknown = []

-- the section of a name in lower case
unfoldable pub section_of : Bytes → Section
section_of n =
    pick (same n (name "server")) Server
    (pick (same n (name "relay")) Relay
    (pick (same n (name "iolog")) Iolog
    (pick (same n (name "eventlog")) Eventlog
    (pick (same n (name "syslog")) Syslog
    (pick (same n (name "logfile")) Logfile
    Unknown)))))

-- ---- values

abbrev pub bad : BadValue
bad = record {}

abbrev pub is_digit : ℕ → Bool
is_digit b = both (leb 48 b) (leb b 57)

unfoldable pub all_digits : Bytes → Bool
all_digits [] = true
all_digits (b ∷ bs) = both (is_digit b) (all_digits bs)

-- "Decimal is digits alone, at least one"
unfoldable pub is_decimal : Bytes → Bool
is_decimal bs = pick (is_nil bs) false (all_digits bs)

-- the number that digits are, after those that give a
unfoldable pub decimal_from : ℕ → Bytes → ℕ
decimal_from a [] = a
decimal_from a (b ∷ bs) = decimal_from (a * 10 + (b - 48)) bs

abbrev pub decimal : Bytes → ℕ
decimal bs = decimal_from 0 bs

-- "`timeout` takes 0 to 4,294,967,295"
unfoldable pub timeout_of : Bytes → Result ℕ BadValue
timeout_of v = pick (both (is_decimal v) (leb (decimal v) 4294967295)) (Ok (decimal v)) (Err bad)

-- "decimal, cut to 2,176,782,336 and not 0"
unfoldable pub maxseq_of : Bytes → Result ℕ BadValue
maxseq_of v = pick (both (is_decimal v) (leb 1 (decimal v))) (Ok (pick (leb (decimal v) 2176782336) (decimal v) 2176782336)) (Err bad)

-- is it one of these words
unfoldable pub one_of : Bytes → List Bytes → Bool
one_of v [] = false
one_of v (w ∷ ws) = pick (same v w) true (one_of v ws)

-- "(true, false, yes, no, on, off, 1, 0)"; "the boolean words, in lower case only"
abbrev pub says_true : Bytes → Bool
says_true v = one_of v (name "true" ∷ name "yes" ∷ name "on" ∷ name "1" ∷ [])

abbrev pub says_false : Bytes → Bool
says_false v = one_of v (name "false" ∷ name "no" ∷ name "off" ∷ name "0" ∷ [])

unfoldable pub keepalive_of : Bytes → Result Bool BadValue
keepalive_of v = pick (says_true v) (Ok true) (pick (says_false v) (Ok false) (Err bad))

-- a setting with its value, with none of the typed ones, or with a bad value
abbrev pub Reading : Type 0
Reading = Result (Option Typed) BadValue

abbrev pub read_as : {A : Type 0} → (A → Typed) → Result A BadValue → Reading
read_as f (Ok a) = Ok (Some (f a))
read_as f (Err e) = Err e

-- "`timeout` and `tcp_keepalive` .. in `server` and `relay`"; "Unknown keys are only listed"
unfoldable pub link_typed : (key value : Bytes) → Reading
link_typed k v =
    pick (same k (name "timeout")) (read_as Timeout (timeout_of v))
    (pick (same k (name "tcp_keepalive")) (read_as Keepalive (keepalive_of v)) (Ok None))

-- "and of `maxseq` in `iolog`"; the key in lower case
unfoldable pub typed_of : Section → (key value : Bytes) → Reading
typed_of Server k v = link_typed k v
typed_of Relay k v = link_typed k v
typed_of Iolog k v = pick (same k (name "maxseq")) (read_as Maxseq (maxseq_of v)) (Ok None)
typed_of Eventlog k v = Ok None
typed_of Syslog k v = Ok None
typed_of Logfile k v = Ok None
typed_of Unknown k v = Ok None
