-- Each text computes to what is read of it. Assumes nothing.
use mathlib.Core.Path.{◌≡◌, refl}
use mathlib.Core.List.{[]}
use mathlib.Core.Bool.{false}
use Rattle.conf_lines.specs.Lines.{Bytes, is_nil, lead, trail}
use Rattle.conf_content.specs.Content.{has}
use Rattle.conf_typed.specs.Typed.{name, lower, typed_of}
use Rattle.conf_typed.specs.declared.Section.{Section}
use Rattle.conf_typed.specs.declared.Section.TheVariants.{Server, Relay}
use Rattle.conf_read.specs.Config.{is_wrong}
use Rattle.claim_config.specs.Plain.{Pair, Plainly, PlainPair}
use Rattle.claim_config.specs.Examples.{listen, ConfigExamples}
use Rattle.claim_config.proofs.Plain.{writable}
use Rattle.claim_config.proofs.Computing.{parting, typing, answering}

-- ---- what is plain, and so can be written

-- all of it computes
plainly : (bs : Bytes) → has 10 bs ≡ false → has 35 bs ≡ false → has 92 bs ≡ false → has 59 bs ≡ false → has 91 bs ≡ false
    → lead bs ≡ bs → trail bs ≡ bs → Plainly bs
plainly bs f c j r h l t = record {
  no_feed = f;
  no_comment = c;
  no_backslash = j;
  no_semicolon = r;
  no_bracket = h;
  no_lead = l;
  no_trail = t;
}

plain_pair : (s : Section) (p : Pair) → Plainly p.key → is_nil p.key ≡ false → lower p.key ≡ p.key → has 61 p.key ≡ false
    → Plainly p.value → is_wrong (typed_of s p.key p.value) ≡ false → PlainPair s p
plain_pair s p k some low whole v good = record {
  key = k;
  key_some = some;
  key_lower = low;
  key_whole = whole;
  value = v;
  value_good = good;
}

abbrev timeout : Pair
timeout = record { key = name "timeout"; value = name "5" }

abbrev host : Pair
host = record { key = name "relay_host"; value = [] }

plain_listen : PlainPair Server listen
unfolding parting typing
plain_listen =
    plain_pair Server listen (plainly listen.key refl refl refl refl refl refl refl) refl refl refl
    (plainly listen.value refl refl refl refl refl refl refl) refl

plain_timeout : PlainPair Server timeout
unfolding parting typing
plain_timeout =
    plain_pair Server timeout (plainly timeout.key refl refl refl refl refl refl refl) refl refl refl
    (plainly timeout.value refl refl refl refl refl refl refl) refl

plain_host : PlainPair Relay host
unfolding parting typing
plain_host =
    plain_pair Relay host (plainly host.key refl refl refl refl refl refl refl) refl refl refl
    (plainly host.value refl refl refl refl refl refl refl) refl

-- ---- what is read

pub config_examples : ConfigExamples
unfolding answering
config_examples = record {
  any_case = refl;
  any_case_value = refl;
  first_equals = refl;
  no_value = refl;
  carriage_return = refl;
  join_before_comment = refl;
  blank_before_comment = refl;
  join_in_comment = refl;
  remark = refl;
  joined_remark = refl;
  two_backslashes = refl;
  last_backslash = refl;
  numbers = (refl, refl, refl);
  before_section = refl;
  malformed = refl;
  malformed_in_unknown = refl;
  in_unknown = refl;
  blanks_in_name = refl;
  empty_name = refl;
  bracket_in_name = refl;
  behind_header = refl;
  open_header = refl;
  no_key = refl;
  joined_number = refl;
  behind_joined = refl;
  greatest = refl;
  greatest_taken = refl;
  too_great = refl;
  maxseq_zero = refl;
  maxseq_zeros = refl;
  maxseq_greatest = refl;
  maxseq_cut = refl;
  off = refl;
  relay_off = refl;
  on_again = refl;
  capital = refl;
  elsewhere = refl;
  twice = refl;
  last_counts = refl;
  as_bytes = refl;
  room = refl;
  no_room = refl;
  refused_first = refl;
  writable =
      (writable Server listen refl plain_listen, (writable Server timeout refl plain_timeout, (writable Relay host refl plain_host, tt)));
  plain = plain_listen;
}
