-- Demand 3 is not empty: a list of events in which all happens that can go wrong. The line breaks inside the exit's frame; the
-- sender resumes with a hello at the last point it received, where two more records share that moment; the exit's point is lost;
-- the next restart is refused with "finished", and the sender stops.
use Rattle.std.specs.Prelude.{ℕ, ◌≡◌, true, false, List, [], ◌∷◌, ◌++◌, pos, drop, replicate, Some}
use Rattle.wire_message.specs.Message.{Bytes}
use Rattle.file_format.specs.File.{file_bytes}
use Rattle.claim_values.specs.Values.{TimedRecord, io}
use Rattle.claim_examples.specs.Session as e
use Rattle.claim_delivery.specs.Recording.{Recording, records}
use Rattle.claim_delivery.specs.World.{Event, opening, bytes, tick, arrival, break, file}
use Rattle.claim_delivery.specs.Demand.{Given, Listed, after}

-- ttyout "hi" after a delay of some seconds
abbrev pub hi : ℕ → TimedRecord
hi seconds = io 7 (record { delay = record { seconds = pos seconds; nanoseconds = pos 0 }; contents = 0x68 ∷ 0x69 ∷ [] })

-- the delays 1, 0, 0, 2 s of document 01's example 7
abbrev pub recording : Recording
recording = record {
  accept = drop 2 e.accept;
  timed = hi 1 ∷ hi 0 ∷ hi 0 ∷ hi 2 ∷ [];
  exit = record { run_time = record { seconds = pos 0; nanoseconds = pos 0 }; exit_value = pos 0; dumped_core = false; signal = []; error = [] };
}

-- areas of 160 bytes, with some bytes in them
abbrev pub blank : ℕ → Bytes
blank a = replicate 160 7

abbrev pub hello : Bytes
hello = 0x6A ∷ 0x00 ∷ []

-- the frames take 66 bytes, four times 14, and 6
abbrev pub first : List Event
first =
    opening false (e.accept ∷ e.ttyout 1 ∷ e.ttyout 0 ∷ e.ttyout 0 ∷ e.ttyout 2 ∷ e.exit ∷ []) 5
    ∷ bytes 3 ∷ tick ∷ bytes 122 ∷ tick
    ∷ arrival ∷ arrival ∷ arrival ∷ arrival ∷ arrival ∷ arrival
    ∷ break ∷ []

abbrev pub second : List Event
second = opening true (hello ∷ e.restart 1 ∷ e.ttyout 2 ∷ e.exit ∷ []) 0 ∷ bytes 1000 ∷ break ∷ []

abbrev pub third : List Event
third = opening false (e.restart 1 ∷ e.ttyout 2 ∷ e.exit ∷ []) 0 ∷ bytes 1000 ∷ arrival ∷ break ∷ []

abbrev pub story : List Event
story = first ++ (second ++ third)

pub record Story : Type 0 where
  -- what the theorem requires is met
  pub given : Given blank recording
  pub listed : Listed true blank recording story
  -- four timed records before the break, and the point before the last of them
  pub first_book : (after true blank recording first).book 5 ≡ 5
  pub first_point : (after true blank recording first).latest ≡ Some (record { area = 5; at = 1000000000 })
  -- the exit's point was lost
  pub second_book : (after true blank recording (first ++ second)).book 5 ≡ 6
  pub second_on : (after true blank recording (first ++ second)).stopped ≡ false
  -- the one restart was taken, the other not
  pub restarts : (after true blank recording story).restarts ≡ record { refusal = 0; carried = false } ∷ record { refusal = 13; carried = true } ∷ []
  pub stopped : (after true blank recording story).stopped ≡ true
  pub whole : file (after true blank recording story) 5 ≡ file_bytes (records recording)
