-- Beside the ten marked examples: what a window size, a suspend and an exit store, byte for byte. Document 01: "11: rows then cols, 16 bits
-- each. 12: the signal name."; "3 exit: run_time in the delay's place; data is exit_value (8), dumped_core (1), signal length (7), signal,
-- error." A second saying of what a record holds: rows and cols exchanged in the definitions would not pass here.
use Rattle.std.specs.Prelude.{◌≡◌, [], ◌∷◌}
use Rattle.base_laws.specs.Base.{part}
use Rattle.wire_message.specs.Message.{Bytes}
use Rattle.claim_examples.specs.Session.{accepted, next}

-- 24 rows and 80 columns, after 1 s
abbrev pub window : Bytes
window = 0x5A ∷ 0x08 ∷ 0x0A ∷ 0x02 ∷ 0x08 ∷ 0x01 ∷ 0x10 ∷ 0x18 ∷ 0x18 ∷ 0x50 ∷ []

-- TSTP, after 1 s
abbrev pub suspend : Bytes
suspend = 0x62 ∷ 0x0A ∷ 0x0A ∷ 0x02 ∷ 0x08 ∷ 0x01 ∷ 0x12 ∷ 0x04 ∷ 0x54 ∷ 0x53 ∷ 0x54 ∷ 0x50 ∷ []

-- run_time 2 s, exit value 137, core dumped, signal SEGV, error "no"
abbrev pub crashed : Bytes
crashed =
    0x1A ∷ 0x13 ∷ 0x0A ∷ 0x02 ∷ 0x08 ∷ 0x02 ∷ 0x10 ∷ 0x89 ∷ 0x01 ∷ 0x18 ∷ 0x01
    ∷ 0x22 ∷ 0x04 ∷ 0x53 ∷ 0x45 ∷ 0x47 ∷ 0x56 ∷ 0x2A ∷ 0x02 ∷ 0x6E ∷ 0x6F ∷ []

-- each after the accept's 71 bytes
pub record StoredExamples : Type 0 where
  pub window_stored :
      part (next accepted window).area 71 86
      ≡ 0xB0 ∷ 0x00 ∷ 0x00 ∷ 0x00 ∷ 0x10 ∷ 0x00 ∷ 0x00 ∷ 0x00 ∷ 0x00 ∷ 0x00 ∷ 0x04 ∷ 0x00 ∷ 0x18 ∷ 0x00 ∷ 0x50 ∷ []
  pub suspend_stored :
      part (next accepted suspend).area 71 86
      ≡ 0xC0 ∷ 0x00 ∷ 0x00 ∷ 0x00 ∷ 0x10 ∷ 0x00 ∷ 0x00 ∷ 0x00 ∷ 0x00 ∷ 0x00 ∷ 0x04 ∷ 0x54 ∷ 0x53 ∷ 0x54 ∷ 0x50 ∷ []
  pub exit_stored_lem :
      part (next accepted crashed).area 71 90
      ≡ 0x30 ∷ 0x00 ∷ 0x00 ∷ 0x00 ∷ 0x20 ∷ 0x00 ∷ 0x00 ∷ 0x00 ∷ 0x00 ∷ 0x00 ∷ 0x08 ∷ 0x89 ∷ 0x84 ∷ 0x53 ∷ 0x45 ∷ 0x47 ∷ 0x56 ∷ 0x6E ∷ 0x6F ∷ []
  pub exit_used : (next accepted crashed).used ≡ 90
