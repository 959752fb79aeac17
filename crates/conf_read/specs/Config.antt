-- A configuration read: its settings, its typed values, or why it is refused. Each definition names its sentence of request 1 of document 02.
use Rattle.std.specs.Prelude.{ℕ, List, [], ◌∷◌, Bool, true, false, length, leb, Some, None, Result, Ok, Err}
use Rattle.base_laws.specs.Base.{pick, both, splice}
use Rattle.conf_lines.specs.Lines.{Bytes, Line, lines_at}
use Rattle.conf_content.specs.Content.{Content, empty, section, setting, bad, content_of}
use Rattle.conf_typed.specs.Typed.{Reading, lower, section_of, typed_of}
use Rattle.conf_typed.specs.declared.Section.{Section}
use Rattle.conf_typed.specs.declared.Section.TheVariants.{Server, Relay, Iolog, Eventlog, Syslog, Logfile, Unknown}
use Rattle.conf_typed.specs.declared.Typed.TheVariants.{Timeout, Keepalive, Maxseq}
use Rattle.conf_list.specs.Listing.{Setting, listing, all_short}
use Rattle.conf_read.specs.declared.values.Link.{Link}
use Rattle.conf_read.specs.declared.values.Values.{Values}
use Rattle.conf_read.specs.declared.Config.{Config}
use Rattle.conf_read.specs.declared.refusal.ConfRefusal.{ConfRefusal}
use Rattle.conf_read.specs.declared.refusal.ConfRefusal.TheVariants.{Malformed, NoSection, BadValue}
use Rattle.conf_read.specs.declared.refusal.ConfigError.{ConfigError}
use Rattle.conf_read.specs.declared.refusal.ConfigError.TheVariants.{NoRoom}
use Rattle.conf_read.specs.Refusals.{bad_line, refused}

-- ---- what each line says

-- a setting, or a bad line with its refusal and number
pub data Statement : Type 0 where
  sets : Setting → Statement
  refuses : ConfRefusal → (line : ℕ) → Statement

abbrev pub is_unknown : Section → Bool
is_unknown Server = false
is_unknown Relay = false
is_unknown Iolog = false
is_unknown Eventlog = false
is_unknown Syslog = false
is_unknown Logfile = false
is_unknown Unknown = true

abbrev pub is_wrong : Reading → Bool
is_wrong (Ok t) = false
is_wrong (Err e) = true

-- "17 setting before any section or in an unknown one, 18 bad typed setting"; "section and key in lower case, value"
unfoldable pub setting_in : (line : ℕ) → Section → (key value : Bytes) → Statement
setting_in n s k v =
    pick (is_unknown s) (refuses NoSection n)
    (pick (is_wrong (typed_of s (lower k) v)) (refuses BadValue n)
    (sets (record { section = s; key = lower k; value = v })))

-- a line in its section; `go` is what the lines after it say, in the section that is then open
unfoldable pub on_content : (go : Section → List Statement) → (line : ℕ) → Section → Content → List Statement
on_content go n s empty = go s
on_content go n s (section name) = go (section_of (lower name))
on_content go n s (setting k v) = setting_in n s k v ∷ go s
on_content go n s bad = refuses Malformed n ∷ go s

unfoldable pub statements : Section → List Line → List Statement
statements s [] = []
statements s (l ∷ ls) = on_content (λ (t : Section). statements t ls) l.number s (content_of l.text)

-- of a whole text: no section is open before the first header
unfoldable pub statements_of : Bytes → List Statement
statements_of text = statements Unknown (lines_at 1 text)

-- ---- all of them

-- the first bad line, or all settings
pub data Verdict : Type 0 where
  refused_at : ConfRefusal → (line : ℕ) → Verdict
  taken : List Setting → Verdict

unfoldable pub after : Setting → Verdict → Verdict
after s (refused_at r n) = refused_at r n
after s (taken ss) = taken (s ∷ ss)

-- "the first bad line wins"; "A key given twice is listed twice"
unfoldable pub verdict : List Statement → Verdict
verdict [] = taken []
verdict (refuses r n ∷ ss) = refused_at r n
verdict (sets s ∷ ss) = after s (verdict ss)

-- ---- the typed values

-- "the paper's defaults where absent": 001 has 30 seconds and true for the server, 30 seconds for relay, whose tcp_keepalive its example says
-- "Defaults to true", and 2176782336 for maxseq
abbrev pub default_link : Link
default_link = record { timeout = 30; keepalive = true }

abbrev pub defaults : Values
defaults = record { server = default_link; relay = default_link; maxseq = 2176782336 }

-- a setting that is not typed, or whose value is bad, changes nothing
unfoldable pub link_with : Link → Reading → Link
link_with l (Ok None) = l
link_with l (Ok (Some (Timeout n))) = record { timeout = n; keepalive = l.keepalive }
link_with l (Ok (Some (Keepalive b))) = record { timeout = l.timeout; keepalive = b }
link_with l (Ok (Some (Maxseq n))) = l
link_with l (Err e) = l

unfoldable pub maxseq_with : ℕ → Reading → ℕ
maxseq_with m (Ok None) = m
maxseq_with m (Ok (Some (Timeout n))) = m
maxseq_with m (Ok (Some (Keepalive b))) = m
maxseq_with m (Ok (Some (Maxseq n))) = n
maxseq_with m (Err e) = m

unfoldable pub values_with : Values → Section → Reading → Values
values_with vs Server t = record { server = link_with vs.server t; relay = vs.relay; maxseq = vs.maxseq }
values_with vs Relay t = record { server = vs.server; relay = link_with vs.relay t; maxseq = vs.maxseq }
values_with vs Iolog t = record { server = vs.server; relay = vs.relay; maxseq = maxseq_with vs.maxseq t }
values_with vs Eventlog t = vs
values_with vs Syslog t = vs
values_with vs Logfile t = vs
values_with vs Unknown t = vs

-- "its last typed reading counts"
unfoldable pub values_from : Values → List Setting → Values
values_from vs [] = vs
values_from vs (s ∷ ss) = values_from (values_with vs s.section (typed_of s.section s.key s.value)) ss

-- ---- the answer and the buffer

-- "A list too long for its lent buffer, or a length beyond 4 bytes, gives 12, after 16 to 18, and nothing is written"
unfoldable pub fits : List Setting → (room : ℕ) → Bool
fits ss room = both (all_short ss) (leb (length (listing ss)) room)

unfoldable pub answer_of : Verdict → (room : ℕ) → Result Config ConfigError
answer_of (refused_at r n) room = Err (refused (bad_line r n))
answer_of (taken ss) room = pick (fits ss room) (Ok (record { size = length (listing ss); values = values_from defaults ss })) (Err NoRoom)

unfoldable pub out_of : Verdict → Bytes → Bytes
out_of (refused_at r n) out = out
out_of (taken ss) out = pick (fits ss (length out)) (splice out 0 (listing ss)) out

unfoldable pub config_answer : (text out : Bytes) → Result Config ConfigError
config_answer text out = answer_of (verdict (statements_of text)) (length out)

unfoldable pub config_out : (text out : Bytes) → Bytes
config_out text out = out_of (verdict (statements_of text)) out
