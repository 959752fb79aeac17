-- A host's calls over one area, by any senders: messages and ticks, in any order, and connections that end. Document 01: the host "hands
-- on the used length last answered", and "statements about the whole file need a host that hasn't changed the used bytes since": each
-- call gets the used length and the used bytes that the one before left; behind them there may be any others, more or fewer. "The host
-- sees that only one connection at a time uses an area": a new one begins where the last one ended.
use Rattle.std.specs.Prelude.{ℕ, List, [], ◌∷◌, ◌++◌, length, take, leb, eqb, Option, Some, None}
use Rattle.base_laws.specs.Base.{pick, All}
use Rattle.wire_message.specs.Message.{Bytes, Client, accept_msg, reject_msg, exit_msg, restart_msg, alert_msg, io_buf, winsize_event, suspend_event, hello_msg}
use Rattle.wire.specs.Read.{Reading, value, refused, client_message}
use Rattle.session.specs.Step.{Outcome, moment, new_session, step}
use Rattle.session.specs.declared.Session.{Session}

pub data Call : Type 0 where
  message : Bytes → Call
  tick : Call
  -- no call of the session: from here on the host has these bytes behind the used ones
  behind : Bytes → Call
  -- nor this: the connection ends, and a new session begins over the same area and used length
  break : Call

-- what a host has between two calls: the session, the area, the used length; and the restart point that holds, by the calls alone
pub record Host : Type 0 where
  pub session : Session
  pub area : Bytes
  pub used : ℕ
  pub restart_point : Option ℕ

-- ---- "after a restart at T, the point is T until a record with a positive delay is stored"

unfoldable pub until_positive : ℕ → Option ℕ → Option ℕ
until_positive delay T = pick (eqb delay 0) T None

-- the restart point after a message that was taken
unfoldable pub after_taken : Client → Option ℕ → Option ℕ
after_taken (restart_msg r) T = Some (moment r.resume_point)
after_taken (io_buf k i) T = until_positive (moment i.delay) T
after_taken (winsize_event w) T = until_positive (moment w.delay) T
after_taken (suspend_event s) T = until_positive (moment s.delay) T
after_taken (accept_msg a) T = T
after_taken (reject_msg r) T = T
after_taken (exit_msg e) T = T
after_taken (alert_msg r) T = T
after_taken (hello_msg d) T = T

-- and after any, by its refusal
unfoldable pub after_message : Reading Client → ℕ → Option ℕ → Option ℕ
after_message (value c) n T = pick (eqb n 0) (after_taken c T) T
after_message (refused k) n T = T

-- ---- the calls

abbrev pub answered : Host → Bytes → Outcome
answered h s = step h.session h.area h.used s

abbrev pub left : Outcome → Option ℕ → Host
left o T = record { session = o.session; area = o.area; used = o.used; restart_point = T }

abbrev pub over : Host → Bytes → Host
over h area = record { session = h.session; area = area; used = h.used; restart_point = h.restart_point }

-- the used bytes, and others behind them; an area that is shorter than its used length stays as it is
unfoldable pub with_behind : Host → Bytes → Bytes
with_behind h bs = pick (leb h.used (length h.area)) (take h.used h.area ++ bs) h.area

-- a new session over an area of which this length is used
abbrev pub begin : Bytes → ℕ → Host
begin area used = record { session = new_session; area = area; used = used; restart_point = None }

-- "A tick changes nothing."
unfoldable pub after : Host → Call → Host
after h (message s) = left (answered h s) (after_message (client_message s) (answered h s).refusal h.restart_point)
after h tick = h
after h (behind bs) = over h (with_behind h bs)
after h break = begin h.area h.used

unfoldable pub after_all : Host → List Call → Host
after_all h [] = h
after_all h (c ∷ cs) = after_all (after h c) cs

-- the calls of one session: no connection ends
abbrev pub NoBreak : Call → Type 0
NoBreak (message s) = Unit {0}
NoBreak tick = Unit {0}
NoBreak (behind bs) = Unit {0}
NoBreak break = ⊥

abbrev pub OneSession : List Call → Type 0
OneSession cs = All NoBreak cs
