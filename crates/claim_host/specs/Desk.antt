-- Demand 3's host in C: it keeps a session as 40 bytes and reads every answer from numbers. Wherever crates/claim_delivery/specs/Host.antt
-- takes what a definition gives, this takes what a function of sudolog.h returns.
use Rattle.std.specs.Prelude.{ℕ, Bool, List, [], ◌∷◌, ◌++◌, take, replicate, eqb, Option, Some, None}
use Rattle.base_laws.specs.Base.{pick}
use Rattle.base_numbers.specs.Eight.{number_at}
use Rattle.wire_frame.specs.declared.Cut.{Cut}
use Rattle.wire_frame.specs.declared.Cut.TheVariants.{Wait, Frame, Refused}
use Rattle.wire_message.specs.Message.{Bytes}
use Rattle.wire.specs.Read.{client_message}
use Rattle.file_format.specs.File.{file_kind}
use Rattle.session_bytes.specs.Saved.{session_of}
use Rattle.c_session.specs.Session.{message_answer, message_slice, message_area, message_out}
use Rattle.claim_delivery.specs.Recording.{Recording}
use Rattle.claim_delivery.specs.Host.{booked, noted, carries, WholeRestart, Answer, answered, Desk}

-- ---- what it reads from numbers

-- the cut, from sudolog_frame_state and sudolog_frame_count
unfoldable pub cut_from : ℕ → ℕ → Cut
cut_from state count = pick (eqb state 0) (Frame count) (pick (eqb state 1) Refused (Wait count))

-- the used length and the point, from the five numbers of sudolog_session_message
abbrev pub used_in : Bytes → ℕ
used_in out = number_at out 0

unfoldable pub point_in : Bytes → Option ℕ
point_in out = pick (eqb (number_at out 16) 0) None (Some (number_at out 24))

-- the point, from sudolog_session_tick
unfoldable pub tick_from : ℕ → Option ℕ
tick_from n = pick (eqb n 18446744073709551615) None (Some n)

-- ---- one whole message

-- a connection at the host, the 40 bytes in the session's place
pub record CDesk : Type 0 where
  pub slice : Bytes
  pub area : Bytes
  pub used : ℕ
  pub n : ℕ
  pub restarts : List WholeRestart
  pub out : List Answer
  pub every : Bool

-- the desk of demand 3 that it stands for
abbrev pub seen : CDesk → Desk
seen d = record { session = session_of d.slice; area = d.area; used = d.used; n = d.n; restarts = d.restarts; out = d.out; every = d.every }

-- room for the five numbers
abbrev pub room : Bytes
room = replicate 40 0

-- `hand`, by sudolog_session_message
unfoldable pub hand_c : Recording → Bytes → CDesk → CDesk
hand_c R s d =
    let answer : ℕ = message_answer d.slice s d.area d.used room in
    let out : Bytes = message_out d.slice s d.area d.used room in
    record {
      slice = message_slice d.slice s d.area d.used room;
      area = message_area d.slice s d.area d.used room;
      used = used_in out;
      n = booked R (client_message s) d.n;
      restarts = d.restarts ++ noted (client_message s) (record { refusal = answer; carried = carries (file_kind (take d.used d.area)) });
      out = d.out ++ answered d.every answer (point_in out);
      every = d.every;
    }

unfoldable pub hand_all_c : Recording → List Bytes → CDesk → CDesk
hand_all_c R [] d = d
hand_all_c R (s ∷ ss) d = hand_all_c R ss (hand_c R s d)
