-- A host in C is demand 3's host: it keeps 40 bytes, reads numbers, and comes to the same world. So all of demand 3 holds of its bytes.
use Rattle.std.specs.Prelude.{ℕ, ◌<◌, ◌≡◌, length, take}
use Rattle.base_laws.specs.Base.{pick, All}
use Rattle.wire_frame.specs.Frame.{cut_of, frame_state, count_of}
use Rattle.wire_message.specs.Message.{Bytes}
use Rattle.file_format.specs.File.{file_bytes, file_kind, finished}
use Rattle.session.specs.Step.{new_session, tick}
use Rattle.session_bytes.specs.Saved.{session_of, kept}
use Rattle.c_session.specs.Session.{tick_number}
use Rattle.claim_delivery.specs.Recording.{Recording, records}
use Rattle.claim_delivery.specs.Host.{WholeRestart, hand}
use Rattle.claim_delivery.specs.Demand.{Delivery, end}
use Rattle.claim_host.specs.Desk.{cut_from, tick_from, CDesk, seen, hand_c}
use Rattle.claim_host.specs.World.{CWorld, seen_world, end_c}

-- 40 bytes, and a used length of 64 bits
pub record Sized (d : CDesk) : Type 0 where
  pub forty : length d.slice ≡ 40
  pub word : d.used < 18446744073709551616

-- an area's used bytes there
abbrev pub file_c : CWorld → ℕ → Bytes
file_c x a = take (x.used a) (x.area a)

pub record Carried : Type 0 where
  -- what it reads from numbers is what the definitions give: a frame, a new session, a tick, a message
  pub cuts : (s : Bytes) → cut_from (frame_state (cut_of s)) (count_of (cut_of s)) ≡ cut_of s
  pub opens : (slice : Bytes) → length slice ≡ 40 → session_of (kept new_session slice) ≡ new_session
  pub ticks : (slice : Bytes) → tick_from (tick_number (tick (session_of slice))) ≡ tick (session_of slice)
  pub hands : (R : Recording) (s : Bytes) (d : CDesk) → Sized d → seen (hand_c R s d) ≡ hand R s (seen d)
  -- so every list leads to the world of demand 3
  pub same_world : (d : Delivery) → seen_world (end_c d) ≡ end d
  -- and demand 3 holds of the bytes that the host in C has: crates/claim_delivery/specs/Demand.antt: Demand3
  pub files : (d : Delivery) (a : ℕ) → file_c (end_c d) a ≡ file_bytes (take ((end_c d).book a) (records d.recording))
  pub lengths : (d : Delivery) (a : ℕ) → (end_c d).used a ≡ length (file_bytes (take ((end_c d).book a) (records d.recording)))
  pub restarts : (d : Delivery) → All (λ (r : WholeRestart). r.refusal ≡ pick r.carried 13 0) (end_c d).restarts
  pub whole : (d : Delivery) (a : ℕ) → file_kind (file_c (end_c d) a) ≡ finished → file_c (end_c d) a ≡ file_bytes (records d.recording)
  pub apart : (d e : Delivery) (a b : ℕ) → file_kind (file_c (end_c d) a) ≡ finished → file_kind (file_c (end_c e) b) ≡ finished
      → file_c (end_c d) a ≡ file_c (end_c e) b → d.recording ≡ e.recording
