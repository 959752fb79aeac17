-- The names in a line, as bytes.
use Rattle.std.specs.Prelude.{ℕ, List, eqb}
use Rattle.base_laws.specs.Base.{pick}
use Rattle.wire_fields.specs.Fields.{last_in, member_from}
use Rattle.session_turn.specs.declared.State.{State}
use Rattle.session_turn.specs.declared.State.TheVariants.{New, Greeted, Logging, EventsOnly, Closed}
use Rattle.replay_text.specs.Words.{text}

-- the members of sudo_logsrv.proto's ClientMessage, by number
unfoldable pub member_name : ℕ → List ℕ
member_name m =
    pick (eqb m 1) (text "accept_msg")
    (pick (eqb m 2) (text "reject_msg")
    (pick (eqb m 3) (text "exit_msg")
    (pick (eqb m 4) (text "restart_msg")
    (pick (eqb m 5) (text "alert_msg")
    (pick (eqb m 6) (text "ttyin_buf")
    (pick (eqb m 7) (text "ttyout_buf")
    (pick (eqb m 8) (text "stdin_buf")
    (pick (eqb m 9) (text "stdout_buf")
    (pick (eqb m 10) (text "stderr_buf")
    (pick (eqb m 11) (text "winsize_event")
    (pick (eqb m 12) (text "suspend_event")
    (text "hello_msg"))))))))))))

-- the member that counts: the last of fields 1 to 13
unfoldable pub shown_member : List ℕ → ℕ
shown_member s = member_from (last_in 1 13 s)

unfoldable pub state_name : State → List ℕ
state_name New = text "new"
state_name Greeted = text "greeted"
state_name Logging = text "logging"
state_name EventsOnly = text "events only"
state_name Closed = text "closed"
