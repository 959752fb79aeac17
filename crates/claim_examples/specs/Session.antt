-- Document 01's ten marked examples, gathered under one statement: each is shown of the definitions.
use Rattle.std.specs.Prelude.{ℕ, ◌≡◌, [], ◌∷◌, replicate, Some, None}
use Rattle.base_laws.specs.Base.{part}
use Rattle.wire_message.specs.Message.{Bytes}
use Rattle.wire.specs.Examples.{ReadingExamples}
use Rattle.file_format.specs.Record.{record_bytes}
use Rattle.session.specs.Step.{Outcome, new_session, step, tick}

-- ---- messages, as ClientMessages

-- an accept with the four required entries, each an empty string, and expect_iobufs
abbrev pub accept : Bytes
accept =
    0x0A ∷ 0x3C
    ∷ 0x12 ∷ 0x0B ∷ 0x0A ∷ 0x07 ∷ 0x63 ∷ 0x6F ∷ 0x6D ∷ 0x6D ∷ 0x61 ∷ 0x6E ∷ 0x64 ∷ 0x1A ∷ 0x00
    ∷ 0x12 ∷ 0x0B ∷ 0x0A ∷ 0x07 ∷ 0x72 ∷ 0x75 ∷ 0x6E ∷ 0x75 ∷ 0x73 ∷ 0x65 ∷ 0x72 ∷ 0x1A ∷ 0x00
    ∷ 0x12 ∷ 0x0E ∷ 0x0A ∷ 0x0A ∷ 0x73 ∷ 0x75 ∷ 0x62 ∷ 0x6D ∷ 0x69 ∷ 0x74 ∷ 0x68 ∷ 0x6F ∷ 0x73 ∷ 0x74 ∷ 0x1A ∷ 0x00
    ∷ 0x12 ∷ 0x0E ∷ 0x0A ∷ 0x0A ∷ 0x73 ∷ 0x75 ∷ 0x62 ∷ 0x6D ∷ 0x69 ∷ 0x74 ∷ 0x75 ∷ 0x73 ∷ 0x65 ∷ 0x72 ∷ 0x1A ∷ 0x00
    ∷ 0x18 ∷ 0x01 ∷ []

-- example 2's ttyout with data "hi", after a delay of some seconds
abbrev pub ttyout : ℕ → Bytes
ttyout seconds = 0x3A ∷ 0x08 ∷ 0x0A ∷ 0x02 ∷ 0x08 ∷ seconds ∷ 0x12 ∷ 0x02 ∷ 0x68 ∷ 0x69 ∷ []

-- an exit with nothing set
abbrev pub exit : Bytes
exit = 0x1A ∷ 0x00 ∷ []

-- a restart of the log "a" at some seconds
abbrev pub restart : ℕ → Bytes
restart seconds = 0x22 ∷ 0x07 ∷ 0x0A ∷ 0x01 ∷ 0x61 ∷ 0x12 ∷ 0x02 ∷ 0x08 ∷ seconds ∷ []

-- ---- sessions

-- what the next message gives
abbrev pub next : Outcome → Bytes → Outcome
next o s = step o.session o.area o.used s

-- what a new session's first message gives, over the area as it was left
abbrev pub anew : Outcome → Bytes → Outcome
anew o s = step new_session o.area o.used s

-- the accept in a fresh area, then delays of 1, 0, 0 and 2 s
abbrev pub accepted : Outcome
accepted = step new_session (replicate 160 0) 0 accept

abbrev pub first : Outcome
first = next accepted (ttyout 1)

abbrev pub second : Outcome
second = next first (ttyout 0)

abbrev pub third : Outcome
third = next second (ttyout 0)

abbrev pub fourth : Outcome
fourth = next third (ttyout 2)

-- a restart of that unfinished file at 1 s
abbrev pub restarted : Outcome
restarted = anew fourth (restart 1)

pub record Examples : Type 0 where
  -- 1, 2, 4, 5, 6
  pub reading : ReadingExamples
  -- the record of 2
  pub three :
      record_bytes (record { kind = 7; delay = 1000000000; contents = 0x68 ∷ 0x69 ∷ [] })
      ≡ 0x70 ∷ 0x00 ∷ 0x00 ∷ 0x00 ∷ 0x10 ∷ 0x00 ∷ 0x00 ∷ 0x00 ∷ 0x00 ∷ 0x00 ∷ 0x02 ∷ 0x68 ∷ 0x69 ∷ []
  -- and so it is stored, after the accept's 71 bytes
  pub three_stored :
      part first.area 71 84
      ≡ 0x70 ∷ 0x00 ∷ 0x00 ∷ 0x00 ∷ 0x10 ∷ 0x00 ∷ 0x00 ∷ 0x00 ∷ 0x00 ∷ 0x00 ∷ 0x02 ∷ 0x68 ∷ 0x69 ∷ []
  -- ticks after each of the four, then the exit
  pub seven_first : tick first.session ≡ Some 0
  pub seven_second : tick second.session ≡ Some 0
  pub seven_third : tick third.session ≡ Some 0
  pub seven_fourth : tick fourth.session ≡ Some 1000000000
  pub seven_exit : (next fourth exit).point ≡ Some 3000000000
  -- a restart at 1 keeps three timed records, of 13 bytes each after the accept's 71; at 2 it is refused
  pub eight_third : third.used ≡ 110
  pub eight_taken : restarted.refusal ≡ 0
  pub eight_kept : restarted.used ≡ 110
  pub eight_refused : (anew fourth (restart 2)).refusal ≡ 14
  -- after the restart at 1
  pub nine_zero : (next restarted (ttyout 0)).refusal ≡ 11
  pub nine_taken : (next restarted (ttyout 2)).refusal ≡ 0
  pub nine_used : (next restarted (ttyout 2)).used ≡ 123
  -- no timed records
  pub ten_tick : tick accepted.session ≡ None
  pub ten_exit : (next accepted exit).point ≡ Some 0
