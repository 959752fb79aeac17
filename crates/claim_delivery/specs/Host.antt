-- The host. Document 01: "the host cuts frames and hands each whole message to the session." It hands on the used length last
-- answered, and keeps the book and a log of whole restarts.
use Rattle.std.specs.Prelude.{ℕ, zero, suc, ◌+◌, Bool, true, false, not, List, [], ◌∷◌, ◌++◌, length, take, drop, eqb, Option, Some, None}
use Rattle.base_laws.specs.Base.{pick, both}
use Rattle.wire_frame.specs.Frame.{cut_of}
use Rattle.wire_frame.specs.declared.Cut.{Cut}
use Rattle.wire_frame.specs.declared.Cut.TheVariants.{Wait, Frame, Refused}
use Rattle.wire_message.specs.Message.{Bytes, Client, accept_msg, reject_msg, exit_msg, restart_msg, alert_msg, io_buf, winsize_event, suspend_event, hello_msg}
use Rattle.wire.specs.Read.{Reading, value, refused, client_message}
use Rattle.file_format.specs.Digits.{digits}
use Rattle.file_format.specs.File.{FileKind, invalid, unfinished, finished, file_kind}
use Rattle.session.specs.Step.{Outcome, step, moment}
use Rattle.session.specs.declared.Session.{Session}
use Rattle.claim_delivery.specs.Recording.{Recording, records, at_most}

-- ---- frames. "Four bytes, most significant first, give the message length; then the message."

unfoldable pub frame : Bytes → Bytes
frame m = digits 4 (length m) ++ m

unfoldable pub frames : List Bytes → Bytes
frames [] = []
frames (m ∷ ms) = frame m ++ frames ms

-- the whole messages at the start of some bytes, and what is left of these
pub record Drained : Type 0 where
  pub messages : List Bytes
  pub left : Bytes

unfoldable pub drain_cut : (Bytes → Drained) → Bytes → Cut → Drained
drain_cut go b (Wait n) = record { messages = []; left = b }
drain_cut go b Refused = record { messages = []; left = b }
drain_cut go b (Frame n) = record { messages = take n (drop 4 b) ∷ (go (drop (4 + n) b)).messages; left = (go (drop (4 + n) b)).left }

-- at most k of them
unfoldable pub drain : ℕ → Bytes → Drained
drain zero b = record { messages = []; left = b }
drain (suc k) b = drain_cut (drain k) b (cut_of b)

-- a frame has four bytes at least, so there are fewer frames than bytes
abbrev pub cut_all : Bytes → Drained
cut_all b = drain (length b) b

-- ---- the book. "A record's whole message at the host adds 1 to its area's n; a whole restart at T makes that n count the
-- recording's accept and its timed records with total at most T." Every accept of this sender announces I/O, so it is a record's.

unfoldable pub counted_member : Recording → Client → ℕ → ℕ
counted_member R (accept_msg a) n = suc n
counted_member R (reject_msg r) n = n
counted_member R (exit_msg e) n = suc n
counted_member R (restart_msg r) n = suc (at_most 0 (moment r.resume_point) R.timed)
counted_member R (alert_msg r) n = n
counted_member R (io_buf k i) n = suc n
counted_member R (winsize_event w) n = suc n
counted_member R (suspend_event s) n = suc n
counted_member R (hello_msg d) n = n

unfoldable pub counted : Recording → Reading Client → ℕ → ℕ
counted R (value c) n = counted_member R c n
counted R (refused k) n = n

-- "Once the exit is counted n stays."
unfoldable pub booked : Recording → Reading Client → ℕ → ℕ
booked R g n = pick (eqb n (length (records R))) n (counted R g n)

-- ---- whole restarts

-- its refusal, 0 where it was taken; and did the file carry an exit when it came
pub record WholeRestart : Type 0 where
  pub refusal : ℕ
  pub carried : Bool

unfoldable pub carries : FileKind → Bool
carries invalid = false
carries unfinished = false
carries finished = true

unfoldable pub noted_member : Client → WholeRestart → List WholeRestart
noted_member (accept_msg a) w = []
noted_member (reject_msg r) w = []
noted_member (exit_msg e) w = []
noted_member (restart_msg r) w = w ∷ []
noted_member (alert_msg r) w = []
noted_member (io_buf k i) w = []
noted_member (winsize_event x) w = []
noted_member (suspend_event s) w = []
noted_member (hello_msg d) w = []

unfoldable pub noted : Reading Client → WholeRestart → List WholeRestart
noted (value c) w = noted_member c w
noted (refused k) w = []

-- ---- one whole message

-- an answer under way: a tick's point; a message's refusal, 0 for none, with its point
pub data Answer : Type 0 where
  to_tick : ℕ → Answer
  to_message : ℕ → Option ℕ → Answer

unfoldable pub is_point : Option ℕ → Bool
is_point None = false
is_point (Some t) = true

-- what goes under way for a message. Document 01 leaves open whether an answer without a refusal and without a point does: with `every` it
-- does, else it does not
unfoldable pub unsent : Bool → ℕ → Option ℕ → Bool
unsent every k p = both (not every) (both (eqb k 0) (not (is_point p)))

unfoldable pub answered : Bool → ℕ → Option ℕ → List Answer
answered every k p = pick (unsent every k p) [] (to_message k p ∷ [])

-- a connection at the host: its session, the lent area with its used length and its n; the log; the answers under way, and whether they are
-- every answer
pub record Desk : Type 0 where
  pub session : Session
  pub area : Bytes
  pub used : ℕ
  pub n : ℕ
  pub restarts : List WholeRestart
  pub out : List Answer
  pub every : Bool

-- the desk with other answers under way
abbrev pub with_out : Desk → List Answer → Desk
with_out d out = record { session = d.session; area = d.area; used = d.used; n = d.n; restarts = d.restarts; out = out; every = d.every }

-- a restart that the session answered so
abbrev pub restart_note : Desk → Outcome → WholeRestart
restart_note d o = record { refusal = o.refusal; carried = carries (file_kind (take d.used d.area)) }

-- the desk after a message that the session answered so, with this n and these restarts more
abbrev pub desk_after : Desk → Outcome → ℕ → List WholeRestart → Desk
desk_after d o n more = record {
  session = o.session;
  area = o.area;
  used = o.used;
  n = n;
  restarts = d.restarts ++ more;
  out = d.out ++ answered d.every o.refusal o.point;
  every = d.every;
}

-- "Each event goes on from what the last one left."
unfoldable pub hand : Recording → Bytes → Desk → Desk
hand R s d =
    let o : Outcome = step d.session d.area d.used s in
    desk_after d o (booked R (client_message s) d.n) (noted (client_message s) (restart_note d o))

unfoldable pub hand_all : Recording → List Bytes → Desk → Desk
hand_all R [] d = d
hand_all R (s ∷ ss) d = hand_all R ss (hand R s d)
