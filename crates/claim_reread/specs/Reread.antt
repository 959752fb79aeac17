-- What a writer takes is read again. Document 01: "What the writer writes reads back as the same values." The ranges stand twice:
-- a writer tests those of `write_message`, on the numbers it is given, a reader those of `wire_range`, on the values it read. Here a message that
-- a writer makes without a refusal is read without one, ranges included, and has the values that were written.
use Rattle.std.specs.Prelude.{ℕ, ◌-◌, ◌^◌, ◌≤◌, ◌<◌, ◌≡◌, List, [], ◌∷◌, map, Bool, true, length}
use Rattle.base_laws.specs.Base.{part}
use Rattle.wire_frame.specs.Frame.{cut_of}
use Rattle.wire_frame.specs.declared.Cut.TheVariants as cut
use Rattle.wire_schema.specs.Schema.{kind_of, message, ClientMessage, ServerMessage, ServerHello, TimeSpec, InfoMessage, StringList, NumberList}
use Rattle.wire_fields.specs.Items.{Item, items}
use Rattle.wire_message.specs.Signed.{int64}
use Rattle.wire_message.specs.Message as m
use Rattle.wire_message.specs.Message.{Bytes, client_member}
use Rattle.wire.specs.Read.{value, client_message, server_message, read_number}
use Rattle.write_forms.specs.Pieces.{Piece, bytes, encode_all, front}
use Rattle.write_forms.specs.Draft.{Stamp, stamp_value, time_pieces, server_hello_pieces, string_list_pieces, number_list_pieces, EntryDraft, entry_pieces, ClientDraft, accept, reject, exit, restart, alert, io, window, suspend, client_hello, client_number, client_pieces, wrapped, written_client, ServerDraft, server_hello, commit, note, written_server, meant_client, meant_server, meant_entry, cut_at}
use Rattle.write_forms.specs.Run.{run_refusal}
use Rattle.write_forms.specs.Outcome.{refusal, size, buffer}
use Rattle.write_forms.specs.RoundTrip.{AllFit, Stamped, EntryParts, WritableClient, Narrow, NarrowClient, NarrowServer}
use Rattle.write_message.specs.Fits.{client_hello_fits, accept_fits, report_fits, exit_fits, restart_fits, io_fits, window_fits, suspend_fits, ends_fit, server_hello_fits, time_fits, note_fits, entry_fits, entry_strings_fits}

-- ---- what is taken

-- the answer of a writer is 0: by its run's refusal, whether its values are in range, and the message it makes
pub record Taken (run : ℕ) (fits : Bool) (s : Bytes) : Type 0 where
  pub framed : Bool
  pub room : ℕ
  pub answer : refusal run fits framed s room ≡ 0

-- the refusal of a draft's run: "The run is read first and gets its reader's refusal". No run, no refusal.
unfoldable pub run_of : ClientDraft → ℕ
run_of (accept t r e) = run_refusal 2 r
run_of (reject t x r) = run_refusal 3 r
run_of (exit t v c x y) = 0
run_of (restart x t) = 0
run_of (alert t x r) = run_refusal 3 r
run_of (io k t d) = 0
run_of (window t x y) = 0
run_of (suspend t d) = 0
run_of (client_hello d) = 0

-- the ranges that the contract of its writer cites, as the member f of a ClientMessage, 0 for a message by itself
unfoldable pub values_fit : ℕ → ClientDraft → Bool
values_fit f (accept t r e) = accept_fits f t
values_fit f (reject t x r) = report_fits f t
values_fit f (exit t v c x y) = exit_fits f t v x
values_fit f (restart x t) = restart_fits f x t
values_fit f (alert t x r) = report_fits f t
values_fit f (io k t d) = io_fits f t
values_fit f (window t x y) = window_fits f t x y
values_fit f (suspend t d) = suspend_fits f t d
values_fit f (client_hello d) = client_hello_fits f

abbrev pub TakenClient : ℕ → ClientDraft → Type 0
TakenClient f d = Taken (run_of d) (values_fit f d) (wrapped f (client_pieces d))

-- a TimeSpec by itself
abbrev pub TakenTime : Stamp → Type 0
TakenTime t = Taken 0 (time_fits 0 t) (wrapped 0 (time_pieces t))

-- What no range says: where "any seconds" are taken they are a number of 64 bits, as the argument is; and the kind of an I/O
-- buffer, 6 to 10, which a buffer by itself does not show.
abbrev pub Given : ClientDraft → Type 0
Given (accept t r e) = t.seconds < 2 ^ 64
Given (reject t x r) = t.seconds < 2 ^ 64
Given (exit t v c x y) = Unit
Given (restart x t) = Unit
Given (alert t x r) = t.seconds < 2 ^ 64
Given (io k t d) = (6 ≤ k) × (k ≤ 10)
Given (window t x y) = Unit
Given (suspend t d) = Unit
Given (client_hello d) = Unit

-- a TimeSpec's values as they are handed in: the numbers that all their 64 bits stand for
abbrev pub handed_in : Stamp → m.TimeSpec
handed_in t = record { seconds = int64 t.seconds; nanoseconds = int64 t.nanos }

-- ---- what is read

-- "A reader by itself gives 2 to 6, then 7": it gives none of them of the message m, whose value is v
pub record ReadAgain {A : Type 0} (m : ℕ) (s : Bytes) (read : Bytes → A) (v : A) : Type 0 where
  pub no_refusal : read_number m s ≡ 0
  pub means : read s ≡ v

abbrev pub ClientAgain : ClientDraft → Type 0
ClientAgain d = ReadAgain ClientMessage (written_client d) client_message (value (meant_client d))

abbrev pub ServerAgain : ServerDraft → Type 0
ServerAgain d = ReadAgain ServerMessage (written_server d) server_message (value (meant_server d))

-- an embedded message by itself, read by its items
abbrev pub BodyAgain : {A : Type 0} → ℕ → List Piece → (List Item → A) → A → Type 0
BodyAgain m ps read v = ReadAgain m (encode_all ps) (λ (s : Bytes). read (items s)) v

-- a run of fields f that a writer takes, with these entries
pub record RunAgain (f : ℕ) (s : Bytes) (es : List m.Entry) : Type 0 where
  pub no_refusal : run_refusal f s ≡ 0
  pub means : m.entries f (items s) ≡ es

-- ---- the claims

-- Every message of `write_client`, `write_io`, `write_server` and `write_entry`: as the member of the message around it, an entry as a field
-- of its run, and by itself, which is member 0. `Given`, `Stamped`, `EntryParts` and `AllFit` say that numbers have 64 bits, as
-- the writers' arguments do.
pub record Reread : Type 0 where
  pub client : (d : ClientDraft) → Given d → TakenClient (client_number d) d → ClientAgain d
  pub client_alone : (d : ClientDraft) → Given d → TakenClient 0 d
      → BodyAgain (kind_of ClientMessage (client_number d) - message 0) (client_pieces d) (client_member (client_number d)) (meant_client d)
  -- what is taken keeps what RoundTrip requires: to read back, and, for "Each message has one written form", to mean one form
  pub client_writable : (d : ClientDraft) → Given d → TakenClient (client_number d) d → WritableClient d
  pub client_narrow : (f : ℕ) (d : ClientDraft) → Given d → TakenClient f d → NarrowClient d
  -- the servers are "lent as joined bytes and ends"
  pub server_hello_lem : (id redirect joined : Bytes) (ends : List ℕ) (sub : Bool)
      → Taken 0 (server_hello_fits 1 joined ends) (wrapped 1 (server_hello_pieces id redirect (cut_at joined 0 ends) sub))
      → ServerAgain (server_hello id redirect (cut_at joined 0 ends) sub)
  pub server_hello_alone : (id redirect joined : Bytes) (ends : List ℕ) (sub : Bool)
      → Taken 0 (server_hello_fits 0 joined ends) (wrapped 0 (server_hello_pieces id redirect (cut_at joined 0 ends) sub))
      → BodyAgain ServerHello (server_hello_pieces id redirect (cut_at joined 0 ends) sub) m.server_hello
      (record { server_id = id; redirect = redirect; servers = cut_at joined 0 ends; subcommands = sub })
  pub commit_point_lem : (t : Stamp) → Taken 0 (time_fits 2 t) (wrapped 2 (time_pieces t)) → ServerAgain (commit t)
  pub commit_narrow : (t : Stamp) → Taken 0 (time_fits 2 t) (wrapped 2 (time_pieces t)) → NarrowServer (commit t)
  pub time_alone : (t : Stamp) → Stamped t → TakenTime t → BodyAgain TimeSpec (time_pieces t) m.time_spec (handed_in t)
  pub time_narrow : (t : Stamp) → Stamped t → TakenTime t → Narrow t
  -- every int64 and every int32 is in range
  pub time_fits_lem : (t : Stamp) → Narrow t → time_fits 0 t ≡ true
  -- "Each message has one written form": two of them that read back as the same values, or are written alike, are the same
  pub time_form : (t u : Stamp) → Stamped t → Stamped u → TakenTime t → TakenTime u → stamp_value t ≡ stamp_value u → t ≡ u
  pub time_once : (t u : Stamp) → Stamped t → Stamped u → TakenTime t → TakenTime u
      → wrapped 0 (time_pieces t) ≡ wrapped 0 (time_pieces u) → t ≡ u
  pub log_id_error_abort : (f : ℕ) (d : Bytes) → Taken 0 (note_fits f) (encode_all (bytes f d ∷ [])) → ServerAgain (note f d)
  -- an entry with its tag is a run of one entry; its writer takes the fields 2 and 3
  pub entry : (f : ℕ) → 1 ≤ f → (key : Bytes) (v : EntryDraft) → EntryParts v → Taken 0 (entry_fits f key) (wrapped f (entry_pieces key v))
      → RunAgain f (wrapped f (entry_pieces key v)) (meant_entry key v ∷ [])
  pub entry_alone : (key : Bytes) (v : EntryDraft) → EntryParts v → Taken 0 (entry_fits 0 key) (wrapped 0 (entry_pieces key v))
      → BodyAgain InfoMessage (entry_pieces key v) m.entry (meant_entry key v)
  -- of an entry of strings the ends are tested as well
  pub entry_strings : (f : ℕ) (key joined : Bytes) (ends : List ℕ) (s : Bytes) → Taken 0 (entry_strings_fits f key joined ends) s
      → Taken 0 (entry_fits f key) s
  pub string_list_lem : (joined : Bytes) (ends : List ℕ) → Taken 0 (ends_fit joined ends) (wrapped 0 (string_list_pieces (cut_at joined 0 ends)))
      → BodyAgain StringList (string_list_pieces (cut_at joined 0 ends)) m.string_list (cut_at joined 0 ends)
  pub number_list_lem : (vs : List ℕ) → AllFit vs → Taken 0 true (wrapped 0 (number_list_pieces vs))
      → BodyAgain NumberList (number_list_pieces vs) m.number_list (map int64 vs)
  -- what is taken stands in the buffer, and where it is framed the buffer begins with its frame
  pub laid : (run : ℕ) (fits framed : Bool) (s out : Bytes) → refusal run fits framed s (length out) ≡ 0
      → part (buffer run fits framed s out) (length (front framed (length s))) (size run fits framed s (length out)) ≡ s
  pub framed : (run : ℕ) (fits : Bool) (s out : Bytes) → refusal run fits true s (length out) ≡ 0
      → cut_of (buffer run fits true s out) ≡ cut.Frame (length s)
