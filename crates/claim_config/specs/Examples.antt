-- Texts and what is read of them, each shown of the definitions. Request 1 of document 02, at the sentences that can be read in two ways.
use Prim.Native.String.{String}
use Rattle.std.specs.Prelude.{◌≡◌, List, [], ◌∷◌, true, false, replicate, Ok, Err}
use Rattle.base_laws.specs.Base.{All}
use Rattle.conf_typed.specs.Typed.{name}
use Rattle.conf_typed.specs.declared.Section.{Section}
use Rattle.conf_typed.specs.declared.Section.TheVariants.{Server, Relay, Iolog, Eventlog}
use Rattle.conf_list.specs.Listing.{Setting, listing}
use Rattle.conf_read.specs.Config.{statements_of, Verdict, refused_at, taken, verdict, defaults, values_from, config_answer}
use Rattle.conf_read.specs.declared.values.Values.{Values}
use Rattle.conf_read.specs.Refusals.{number_of, bad_line, refused}
use Rattle.conf_read.specs.declared.refusal.ConfRefusal.TheVariants.{Malformed, NoSection, BadValue}
use Rattle.conf_read.specs.declared.refusal.ConfigError.TheVariants.{NoRoom}
use Rattle.claim_config.specs.WrittenBack.{Writable}
use Rattle.claim_config.specs.Plain.{Pair, under, PlainPair}

-- what a text says
abbrev pub reading : String → Verdict
reading text = verdict (statements_of (name text))

-- a setting, and a list of one
abbrev pub given : Section → String → String → Setting
given s key value = record { section = s; key = name key; value = name value }

abbrev pub only : String → String → Verdict
only key value = taken (given Server key value ∷ [])

-- the typed values of a list of one
abbrev pub values_of : Section → String → String → Values
values_of s key value = values_from defaults (given s key value ∷ [])

-- settings with names in capitals, as they are listed
abbrev pub lowered : List Setting
lowered = given Server "timeout" "5" ∷ given Server "x y" "A b" ∷ []

-- two lines, neither joined to the other
abbrev pub two : List Setting
two = given Server "a" "b" ∷ given Server "c" "d" ∷ []

-- three timeouts, the last in a section that is opened again
abbrev pub reopened : List Setting
reopened = given Server "timeout" "1" ∷ given Relay "timeout" "2" ∷ given Server "timeout" "3" ∷ []

-- a setting of the paper's example file
abbrev pub listen : Pair
listen = record { key = name "listen_address"; value = name "*:30343" }

pub record ConfigExamples : Type 0 where
  -- "names without regard to case, values kept as written"
  pub any_case : reading "[SERVER]\nTimeOut = 5\nX Y = A b " ≡ taken lowered
  pub any_case_value : (values_from defaults lowered).server.timeout ≡ 5
  -- "Blanks at the end and round the first `=` go"; a carriage return is no blank
  pub first_equals : reading "[server]\na = = b = c" ≡ only "a" "= b = c"
  pub no_value : reading "[server]\na =" ≡ only "a" ""
  pub carriage_return : reading "[server]\na = x \r" ≡ only "a" "x \r"
  -- "a last `\` goes and joins the next line, so none in a comment joins": it is last once the comment is gone
  pub join_before_comment : reading "[server]\na = b \\# x\nc = d" ≡ only "a" "b c = d"
  pub blank_before_comment : reading "[server]\na = b \\ # x\nc = d" ≡ taken (given Server "a" "b \\" ∷ given Server "c" "d" ∷ [])
  pub join_in_comment : reading "[server]\na=b#\\\nc=d" ≡ taken two
  -- "a line then starting with `;` is skipped unless joined to the one before"
  pub remark : reading "[server]\n ; a = b\\\nc = d" ≡ only "c" "d"
  pub joined_remark : reading "[server]\na = b\\\n  ;c = d" ≡ only "a" "b;c = d"
  -- one `\` goes; at the end of the text it joins nothing
  pub two_backslashes : reading "[server]\na = b\\\\\nc" ≡ only "a" "b\\c"
  pub last_backslash : reading "[server]\na = b\\" ≡ only "a" "b"
  -- the paper's numbers of the refusals below
  pub numbers : (number_of Malformed ≡ 16) × (number_of NoSection ≡ 17) × (number_of BadValue ≡ 18)
  -- "16 line without `=` ..", "17 setting before any section or in an unknown one", "the first bad line wins"
  pub before_section : reading "a = b\nfoo" ≡ refused_at NoSection 1
  pub malformed : reading "x\n[server]" ≡ refused_at Malformed 1
  pub malformed_in_unknown : reading "[x]\nfoo" ≡ refused_at Malformed 2
  pub in_unknown : reading "[x]\na=b" ≡ refused_at NoSection 2
  pub blanks_in_name : reading "[ server ]\na = b" ≡ refused_at NoSection 2
  pub empty_name : reading "[]\na=b" ≡ refused_at NoSection 2
  pub bracket_in_name : reading "[a]b]\nx=y" ≡ refused_at NoSection 2
  -- ".. or key, or with `[` first and no `]` last"
  pub behind_header : reading "[server] a = b" ≡ refused_at Malformed 1
  pub open_header : reading "[server" ≡ refused_at Malformed 1
  pub no_key : reading "[server]\n= v" ≡ refused_at Malformed 2
  -- "the line number from 1 (of a joined line, its first)"
  pub joined_number : reading "[server]\n\\\n\\\nfoo" ≡ refused_at Malformed 2
  pub behind_joined : reading "[server]\na = b\\\nc\nd" ≡ refused_at Malformed 4
  -- "`timeout` takes 0 to 4,294,967,295"
  pub greatest : (values_of Server "timeout" "4294967295").server.timeout ≡ 4294967295
  pub greatest_taken : reading "[server]\ntimeout = 4294967295" ≡ only "timeout" "4294967295"
  pub too_great : reading "[server]\ntimeout = 4294967296" ≡ refused_at BadValue 2
  -- "`maxseq` .. cut to 2,176,782,336 and not 0"
  pub maxseq_zero : reading "[iolog]\nmaxseq = 0" ≡ refused_at BadValue 2
  pub maxseq_zeros : reading "[iolog]\nmaxseq = 00" ≡ refused_at BadValue 2
  pub maxseq_greatest : (values_of Iolog "maxseq" "2176782336").maxseq ≡ 2176782336
  pub maxseq_cut : (values_of Iolog "maxseq" "2176782337").maxseq ≡ 2176782336
  -- "(true, false, yes, no, on, off, 1, 0)"; "the boolean words, in lower case only"
  pub off : (values_of Server "tcp_keepalive" "off").server.keepalive ≡ false
  pub relay_off : (values_of Relay "tcp_keepalive" "no").relay.keepalive ≡ false
  pub on_again : values_from defaults (given Server "tcp_keepalive" "0" ∷ given Server "tcp_keepalive" "yes" ∷ []) ≡ defaults
  pub capital : reading "[server]\ntcp_keepalive = True" ≡ refused_at BadValue 2
  pub elsewhere : reading "[eventlog]\ntcp_keepalive = maybe" ≡ taken (given Eventlog "tcp_keepalive" "maybe" ∷ [])
  -- "A key given twice is listed twice and its last typed reading counts"
  pub twice : reading "[server]\ntimeout=1\n[relay]\ntimeout=2\n[Server]\ntimeout=3" ≡ taken reopened
  pub last_counts :
      values_from defaults reopened
      ≡ record {
        server = record { timeout = 3; keepalive = true };
        relay = record { timeout = 2; keepalive = true };
        maxseq = 2176782336;
      }
  -- "each after its length as 4 bytes, most significant first"; "A list too long for its lent buffer .. gives 12"
  pub as_bytes :
      listing (given Server "a" "b" ∷ [])
      ≡ 0x00 ∷ 0x00 ∷ 0x00 ∷ 0x06 ∷ 0x73 ∷ 0x65 ∷ 0x72 ∷ 0x76 ∷ 0x65 ∷ 0x72
      ∷ 0x00 ∷ 0x00 ∷ 0x00 ∷ 0x01 ∷ 0x61 ∷ 0x00 ∷ 0x00 ∷ 0x00 ∷ 0x01 ∷ 0x62 ∷ []
  pub room : config_answer (name "[server]\nA=b") (replicate 20 0) ≡ Ok (record { size = 20; values = defaults })
  pub no_room : config_answer (name "[server]\nA=b") (replicate 19 0) ≡ Err NoRoom
  -- ".. after 16 to 18"
  pub refused_first : config_answer (name "[server]\nA=b\nfoo") [] ≡ Err (refused (bad_line Malformed 3))
  -- `written_back` and `plain` speak of something: what they require holds of settings, a typed one and one with no value too
  pub writable : All Writable (under Server listen ∷ given Server "timeout" "5" ∷ given Relay "relay_host" "" ∷ [])
  pub plain : PlainPair Server listen
