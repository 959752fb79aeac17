-- The ranges of document 01's table, as a step of their own: a reader by itself tests them after 2 to 6, a session after 9 and 15.
-- Only the values that count are tested, not the overwritten ones.
use Rattle.std.specs.Prelude.{ℕ, ◌-◌, List, Bool, true, eqb}
use Rattle.base_laws.specs.Base.{pick, both}
use Rattle.wire_schema.specs.Schema.{kind_of, message, ClientMessage, AcceptMessage, RejectMessage, ExitMessage, RestartMessage, AlertMessage, IoBuffer, ChangeWindowSize, CommandSuspend, InfoMessage, ServerMessage}
use Rattle.wire_fields.specs.Items.{Item, none, number, bytes, items, last_item}
use Rattle.wire_message.specs.Message.{Accept, Report, Exit, Restart, Timed, WindowSize, time_spec, entry, accept, report, exit, restart, timed, window_size}
use Rattle.wire_range.specs.Limits.{up_to, sized, date_fits, moment_fits, entry_fits, entries_fit}

unfoldable pub accept_fits : Accept → Bool
accept_fits a = both (date_fits a.submit_time) (entries_fit a.info_msgs)

unfoldable pub report_fits : Report → Bool
report_fits a = both (date_fits a.time) (entries_fit a.info_msgs)

-- "exit_value 0 to 255", "exit signal 0 to 127 bytes"
unfoldable pub exit_fits : Exit → Bool
exit_fits e = both (moment_fits e.run_time) (both (up_to 255 e.exit_value) (sized 0 127 e.signal))

-- "log_id of a restart 1 to 4,095 bytes"
unfoldable pub restart_fits : Restart → Bool
restart_fits r = both (sized 1 4095 r.log_id) (moment_fits r.resume_point)

unfoldable pub io_fits : Timed → Bool
io_fits i = moment_fits i.delay

-- "rows, cols 0 to 65,535"
unfoldable pub window_fits : WindowSize → Bool
window_fits w = both (moment_fits w.delay) (both (up_to 65535 w.rows) (up_to 65535 w.cols))

-- "suspend signal 1 to 127 bytes"
unfoldable pub suspend_fits : Timed → Bool
suspend_fits s = both (moment_fits s.delay) (sized 1 127 s.contents)

-- the values of a message by its number in the schema; the messages that are not named have no range of their own
unfoldable pub body_fits : ℕ → List Item → Bool
body_fits m is =
    pick (eqb m AcceptMessage) (accept_fits (accept is))
    (pick (eqb m RejectMessage) (report_fits (report is))
    (pick (eqb m ExitMessage) (exit_fits (exit is))
    (pick (eqb m RestartMessage) (restart_fits (restart is))
    (pick (eqb m AlertMessage) (report_fits (report is))
    (pick (eqb m IoBuffer) (io_fits (timed is))
    (pick (eqb m ChangeWindowSize) (window_fits (window_size is))
    (pick (eqb m CommandSuspend) (suspend_fits (timed is))
    (pick (eqb m InfoMessage) (entry_fits (entry is)) true))))))))

-- the member of a ClientMessage is tested by its own message's ranges
unfoldable pub client_fits : Item → Bool
client_fits none = true
client_fits (number f v) = true
client_fits (bytes f d) = body_fits (kind_of ClientMessage f - message 0) (items d)

-- of a ServerMessage only commit_point has a range
unfoldable pub server_fits : Item → Bool
server_fits none = true
server_fits (number f v) = true
server_fits (bytes f d) = pick (eqb f 2) (moment_fits (time_spec (items d))) true

-- are the values that count in range, of the message m
unfoldable pub in_range : ℕ → List Item → Bool
in_range m is =
    pick (eqb m ClientMessage) (client_fits (last_item 1 13 is))
    (pick (eqb m ServerMessage) (server_fits (last_item 1 5 is)) (body_fits m is))

-- the same of a message's bytes
abbrev pub body_fits_in : ℕ → List ℕ → Bool
body_fits_in m d = body_fits m (items d)
