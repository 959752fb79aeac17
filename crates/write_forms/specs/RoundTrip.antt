-- The round trip. Document 01: "What the writer writes reads back as the same values. Each message has one written form, a lent
-- run of entries apart". The written forms are those of Draft, the reading that of wire's Read and wire_message's Message.
use Rattle.std.specs.Prelude.{ℕ, ◌+◌, ◌-◌, ◌^◌, ◌≤◌, ◌<◌, ◌≡◌, List, [], ◌∷◌, ◌++◌, map, Bool, true, false, ℤ, length, leb, eqb}
use Rattle.base_laws.specs.Base.{pick, part}
use Rattle.wire_frame.specs.Frame.{largest, cut_of}
use Rattle.wire_frame.specs.declared.Cut.TheVariants as cut
use Rattle.wire_schema.specs.Schema.{kind_of, takes, message, ClientMessage, TimeSpec, InfoMessage, StringList, NumberList, ServerHello}
use Rattle.wire_check_field.specs.Check.{check_of}
use Rattle.wire_fields.specs.Items as i
use Rattle.wire_fields.specs.Items.{Item, items}
use Rattle.std.specs.Prelude.{Ok}
use Rattle.wire_message.specs.Signed.{int64, int32}
use Rattle.wire_message.specs.Message as m
use Rattle.wire_message.specs.Message.{Bytes, Client, client_member}
use Rattle.wire.specs.Read.{value, client_message, server_message}
use Rattle.write_forms.specs.Pieces.{Piece, number, some, bytes, text, list, run, encode_all, front}
use Rattle.write_forms.specs.Draft.{Stamp, stamp_value, time, server_hello_pieces, string_list_pieces, number_list_pieces, EntryDraft, numval, strval, strlistval, numlistval, entry_pieces, ClientDraft, accept, reject, exit, restart, alert, io, window, suspend, client_hello, client_number, client_pieces, wrapped, written_client, ServerDraft, server_hello, commit, note, written_server, meant_client, meant_server, meant_entry}
use Rattle.write_forms.specs.Run.{run_at, run_refusal}

-- ---- pieces

-- the items that a reader finds in a piece: what is left out is not there, a list is its elements, a run is what it holds
unfoldable pub piece_items : Piece → List Item
piece_items (number f v) = i.number f v ∷ []
piece_items (some f v) = pick (eqb v 0) [] (i.number f v ∷ [])
piece_items (bytes f d) = i.bytes f d ∷ []
piece_items (text f d) = pick (eqb (length d) 0) [] (i.bytes f d ∷ [])
piece_items (list f ds) = map (i.bytes f) ds
piece_items (run r) = items r

abbrev pub items_of : List Piece → List Item
items_of [] = []
items_of (p ∷ ps) = piece_items p ++ items_of ps

-- a field number: with a wire type behind it, 8 times the number is a tag, at least 8 and at most 4,294,967,295
abbrev pub Numbered : ℕ → Type 0
Numbered f = (1 ≤ f) × (f < 2 ^ 29)

-- what the wire can hold: a field number, a number of 64 bits. A run is one that is taken as a run of some field: its fields then
-- end where it ends. Lengths are bounded with the whole, by Short.
abbrev pub Writable : Piece → Type 0
Writable (number f v) = Numbered f × (v < 2 ^ 64)
Writable (some f v) = Numbered f × (v < 2 ^ 64)
Writable (bytes f d) = Numbered f
Writable (text f d) = Numbered f
Writable (list f ds) = Numbered f
Writable (run r) = (f : ℕ) × (run_at f r 0 ≡ Ok tt)

abbrev pub AllWritable : List Piece → Type 0
AllWritable [] = Unit
AllWritable (p ∷ ps) = Writable p × AllWritable ps

-- bytes that a field of this kind takes: those of an embedded message, or packed numbers, pass in turn
abbrev pub Held : Bool → ℕ → List ℕ → Type 0
Held true k d = check_of (k - 16) d ≡ Ok tt
Held false k d = Unit

abbrev pub AllHeld : ℕ → List (List ℕ) → Type 0
AllHeld k [] = Unit
AllHeld k (d ∷ ds) = Held (leb 16 k) k d × AllHeld k ds

-- a piece that the message m takes by the schema
abbrev pub Suits : ℕ → Piece → Type 0
Suits m (number f v) = takes (kind_of m f) 0 ≡ true
Suits m (some f v) = takes (kind_of m f) 0 ≡ true
Suits m (bytes f d) = (takes (kind_of m f) 2 ≡ true) × Held (leb 16 (kind_of m f)) (kind_of m f) d
Suits m (text f d) = (takes (kind_of m f) 2 ≡ true) × Held (leb 16 (kind_of m f)) (kind_of m f) d
Suits m (list f ds) = (takes (kind_of m f) 2 ≡ true) × AllHeld (kind_of m f) ds
Suits m (run r) = check_of m r ≡ Ok tt

abbrev pub AllSuit : ℕ → List Piece → Type 0
AllSuit m [] = Unit
AllSuit m (p ∷ ps) = Suits m p × AllSuit m ps

-- ---- drafts: what they have to keep, so that they read back. No range of document 01 is required: values out of range are read as
-- well, and it is the ranges that refuse them, with 7.

-- numbers of 64 bits: a varint holds no more
abbrev pub AllFit : List ℕ → Type 0
AllFit [] = Unit
AllFit (v ∷ vs) = (v < 2 ^ 64) × AllFit vs

abbrev pub Stamped : Stamp → Type 0
Stamped t = (t.seconds < 2 ^ 64) × (t.nanos < 2 ^ 64)

-- a run has to be one that is taken: refusals 2 to 5 are its reader's. The kind of an I/O buffer is its field number.
abbrev pub ClientParts : ClientDraft → Type 0
ClientParts (accept t r e) = Stamped t × (run_at 2 r 0 ≡ Ok tt)
ClientParts (reject t x r) = Stamped t × (run_at 3 r 0 ≡ Ok tt)
ClientParts (exit t v c x y) = Stamped t × (v < 2 ^ 64)
ClientParts (restart x t) = Stamped t
ClientParts (alert t x r) = Stamped t × (run_at 3 r 0 ≡ Ok tt)
ClientParts (io k t d) = ((6 ≤ k) × (k ≤ 10)) × Stamped t
ClientParts (window t x y) = Stamped t × ((x < 2 ^ 64) × (y < 2 ^ 64))
ClientParts (suspend t d) = Stamped t
ClientParts (client_hello d) = Unit

-- the field number is that of log_id, error or abort
abbrev pub ServerParts : ServerDraft → Type 0
ServerParts (server_hello id redirect servers sub) = Unit
ServerParts (commit t) = Stamped t
ServerParts (note f d) = (3 ≤ f) × (f ≤ 5)

abbrev pub EntryParts : EntryDraft → Type 0
EntryParts (numval v) = v < 2 ^ 64
EntryParts (strval d) = Unit
EntryParts (strlistval ds) = Unit
EntryParts (numlistval vs) = AllFit vs

-- a length before bytes is a number of 64 bits. A writer refuses a message far below that, with 1 above 2,097,152; no string or
-- embedded message is longer than the message that holds it.
abbrev pub Short : Bytes → Type 0
Short s = length s < 2 ^ 64

abbrev pub WritableClient : ClientDraft → Type 0
WritableClient d = ClientParts d × Short (written_client d)

abbrev pub WritableServer : ServerDraft → Type 0
WritableServer d = ServerParts d × Short (written_server d)

abbrev pub WritableEntry : Bytes → EntryDraft → Type 0
WritableEntry key v = EntryParts v × Short (encode_all (entry_pieces key v))

-- 64 bits that are an int32's, in two's complement: document 01's ranges lie within. Others are read by their low 32 bits, so that
-- two drafts would mean the same and be written differently.
abbrev pub Int32 : ℕ → Type 0
Int32 v = (v < 2 ^ 64) × (int64 v ≡ int32 v)

abbrev pub Narrow : Stamp → Type 0
Narrow t = (t.seconds < 2 ^ 64) × Int32 t.nanos

abbrev pub NarrowClient : ClientDraft → Type 0
NarrowClient (accept t r e) = Narrow t
NarrowClient (reject t x r) = Narrow t
NarrowClient (exit t v c x y) = Narrow t × Int32 v
NarrowClient (restart x t) = Narrow t
NarrowClient (alert t x r) = Narrow t
NarrowClient (io k t d) = Narrow t
NarrowClient (window t x y) = Narrow t × (Int32 x × Int32 y)
NarrowClient (suspend t d) = Narrow t
NarrowClient (client_hello d) = Unit

abbrev pub NarrowServer : ServerDraft → Type 0
NarrowServer (server_hello id redirect servers sub) = Unit
NarrowServer (commit t) = Narrow t
NarrowServer (note f d) = (3 ≤ f) × (f ≤ 5)

-- the run that a draft is lent; none where it has no entries
unfoldable pub lent_run : ClientDraft → Bytes
lent_run (accept t r e) = r
lent_run (reject t x r) = r
lent_run (exit t v c x y) = []
lent_run (restart x t) = []
lent_run (alert t x r) = r
lent_run (io k t d) = []
lent_run (window t x y) = []
lent_run (suspend t d) = []
lent_run (client_hello d) = []

-- every message by itself, as a writer is given it: a member of a ClientMessage, and the others
pub data BodyDraft : Type 0 where
  member_body : ClientDraft → BodyDraft
  hello_body : Bytes → Bytes → List Bytes → Bool → BodyDraft
  time_body : Stamp → BodyDraft
  entry_body : Bytes → EntryDraft → BodyDraft
  strings_body : List Bytes → BodyDraft
  numbers_body : List ℕ → BodyDraft

-- and its value
pub data Body : Type 0 where
  member_value : Client → Body
  hello_value : m.ServerHello → Body
  time_value : m.TimeSpec → Body
  entry_value : m.Entry → Body
  strings_value : List Bytes → Body
  numbers_value : List ℤ → Body

unfoldable pub written_body : BodyDraft → Bytes
written_body (member_body d) = encode_all (client_pieces d)
written_body (hello_body id redirect servers sub) = encode_all (server_hello_pieces id redirect servers sub)
written_body (time_body t) = time t
written_body (entry_body key v) = encode_all (entry_pieces key v)
written_body (strings_body ds) = encode_all (string_list_pieces ds)
written_body (numbers_body vs) = encode_all (number_list_pieces vs)

unfoldable pub meant_body : BodyDraft → Body
meant_body (member_body d) = member_value (meant_client d)
meant_body (hello_body id redirect servers sub) = hello_value (record { server_id = id; redirect = redirect; servers = servers; subcommands = sub })
meant_body (time_body t) = time_value (stamp_value t)
meant_body (entry_body key v) = entry_value (meant_entry key v)
meant_body (strings_body ds) = strings_value ds
meant_body (numbers_body vs) = numbers_value (map int64 vs)

-- the reader of such a message
unfoldable pub read_body : BodyDraft → Bytes → Body
read_body (member_body d) s = member_value (client_member (client_number d) (items s))
read_body (hello_body id redirect servers sub) s = hello_value (m.server_hello (items s))
read_body (time_body t) s = time_value (m.time_spec (items s))
read_body (entry_body key v) s = entry_value (m.entry (items s))
read_body (strings_body ds) s = strings_value (m.string_list (items s))
read_body (numbers_body vs) s = numbers_value (m.number_list (items s))

abbrev pub BodyParts : BodyDraft → Type 0
BodyParts (member_body d) = ClientParts d
BodyParts (hello_body id redirect servers sub) = Unit
BodyParts (time_body t) = Stamped t
BodyParts (entry_body key v) = EntryParts v
BodyParts (strings_body ds) = Unit
BodyParts (numbers_body vs) = AllFit vs

abbrev pub WritableBody : BodyDraft → Type 0
WritableBody b = BodyParts b × Short (written_body b)

abbrev pub NarrowBody : BodyDraft → Type 0
NarrowBody (member_body d) = NarrowClient d
NarrowBody (hello_body id redirect servers sub) = Unit
NarrowBody (time_body t) = Narrow t
NarrowBody (entry_body key v) = EntryParts v
NarrowBody (strings_body ds) = Unit
NarrowBody (numbers_body vs) = AllFit vs

unfoldable pub body_run : BodyDraft → Bytes
body_run (member_body d) = lent_run d
body_run (hello_body id redirect servers sub) = []
body_run (time_body t) = []
body_run (entry_body key v) = []
body_run (strings_body ds) = []
body_run (numbers_body vs) = []

-- a key and a value, as an entry is written from them
pub record Keyed : Type 0 where
  pub key : Bytes
  pub value : EntryDraft

abbrev pub AllKeyed : List Keyed → Type 0
AllKeyed [] = Unit
AllKeyed (e ∷ es) = EntryParts e.value × AllKeyed es

-- a run of fields f, written entry by entry
unfoldable pub written_run : ℕ → List Keyed → Bytes
written_run f [] = []
written_run f (e ∷ es) = wrapped f (entry_pieces e.key e.value) ++ written_run f es

-- bytes that the check of the message m takes, and that are read as v
pub record ReadsAs {A : Type 0} (m : ℕ) (s : Bytes) (read : List Item → A) (v : A) : Type 0 where
  pub fine : check_of m s ≡ Ok tt
  pub means : read (items s) ≡ v

-- ---- the claims

pub record RoundTrip : Type 0 where
  -- written fields are the fields read
  pub fields : (ps : List Piece) → AllWritable ps → Short (encode_all ps) → items (encode_all ps) ≡ items_of ps
  -- a message of pieces that suit it is refused nothing; message 16 stands for packed numbers, which have no fields
  pub check : (m : ℕ) → (m ≡ 16 → ⊥) → (ps : List Piece) → AllWritable ps → AllSuit m ps → Short (encode_all ps)
      → check_of m (encode_all ps) ≡ Ok tt
  -- a written ClientMessage or ServerMessage reads back as what it means
  pub client : (d : ClientDraft) → WritableClient d → client_message (written_client d) ≡ value (meant_client d)
  pub server : (d : ServerDraft) → WritableServer d → server_message (written_server d) ≡ value (meant_server d)
  -- "Each message has one written form, a lent run of entries apart": drafts that mean the same are written alike
  pub client_form : (c d : ClientDraft) → NarrowClient c → NarrowClient d → lent_run c ≡ lent_run d → meant_client c ≡ meant_client d
      → written_client c ≡ written_client d
  pub server_form : (c d : ServerDraft) → NarrowServer c → NarrowServer d → meant_server c ≡ meant_server d
      → written_server c ≡ written_server d
  pub entry_form : (j k : Bytes) (v w : EntryDraft) → EntryParts v → EntryParts w → meant_entry j v ≡ meant_entry k w
      → encode_all (entry_pieces j v) ≡ encode_all (entry_pieces k w)
  -- the same of every message by itself, and of a TimeSpec: its seconds and nanoseconds are then the same too
  pub body_form : (b c : BodyDraft) → NarrowBody b → NarrowBody c → body_run b ≡ body_run c → meant_body b ≡ meant_body c
      → written_body b ≡ written_body c
  pub time_form : (t u : Stamp) → Narrow t → Narrow u → stamp_value t ≡ stamp_value u → (t ≡ u) × (time t ≡ time u)
  -- and drafts that are written alike mean the same
  pub client_once : (c d : ClientDraft) → WritableClient c → WritableClient d → written_client c ≡ written_client d
      → meant_client c ≡ meant_client d
  pub server_once : (c d : ServerDraft) → WritableServer c → WritableServer d → written_server c ≡ written_server d
      → meant_server c ≡ meant_server d
  pub entry_once : (j k : Bytes) (v w : EntryDraft) → WritableEntry j v → WritableEntry k w
      → encode_all (entry_pieces j v) ≡ encode_all (entry_pieces k w) → meant_entry j v ≡ meant_entry k w
  -- of messages by themselves, those that one reader reads: a reject and an alert may have the same bytes
  pub body_once : (b c : BodyDraft) → WritableBody b → WritableBody c → ((s : Bytes) → read_body b s ≡ read_body c s)
      → written_body b ≡ written_body c → meant_body b ≡ meant_body c
  pub time_once : (t u : Stamp) → Narrow t → Narrow u → time t ≡ time u → t ≡ u
  -- the message of a ClientMessage's member by itself
  pub body : (d : ClientDraft) → ClientParts d → Short (encode_all (client_pieces d))
      → ReadsAs (kind_of ClientMessage (client_number d) - message 0) (encode_all (client_pieces d)) (client_member (client_number d)) (meant_client d)
  -- the other embedded messages
  pub time-spec : (t : Stamp) → Stamped t → ReadsAs TimeSpec (time t) m.time_spec (stamp_value t)
  pub entry : (key : Bytes) (v : EntryDraft) → WritableEntry key v → ReadsAs InfoMessage (encode_all (entry_pieces key v)) m.entry (meant_entry key v)
  pub strings : (ds : List Bytes) → Short (encode_all (string_list_pieces ds))
      → ReadsAs StringList (encode_all (string_list_pieces ds)) m.string_list ds
  pub numbers : (vs : List ℕ) → AllFit vs → Short (encode_all (number_list_pieces vs))
      → ReadsAs NumberList (encode_all (number_list_pieces vs)) m.number_list (map int64 vs)
  pub server_hello_lem : (id redirect : Bytes) (servers : List Bytes) (sub : Bool) → Short (encode_all (server_hello_pieces id redirect servers sub))
      → ReadsAs ServerHello (encode_all (server_hello_pieces id redirect servers sub)) m.server_hello
      (record { server_id = id; redirect = redirect; servers = servers; subcommands = sub })
  -- a run that is written entry by entry is taken, and its entries are those written
  pub run_written : (f : ℕ) → Numbered f → (es : List Keyed) → AllKeyed es → Short (written_run f es)
      → run_at f (written_run f es) 0 ≡ Ok tt
  pub run_means : (f : ℕ) → Numbered f → (es : List Keyed) → AllKeyed es → Short (written_run f es)
      → m.entries f (items (written_run f es)) ≡ map (λ (e : Keyed). meant_entry e.key e.value) es
  -- a written entry with its tag is a run of one entry, and runs one behind the other are a run
  pub run_one : (f : ℕ) → Numbered f → (key : Bytes) (v : EntryDraft) → EntryParts v → Short (wrapped f (entry_pieces key v))
      → run_at f (wrapped f (entry_pieces key v)) 0 ≡ Ok tt
  pub run_joined : (f : ℕ) (a b : Bytes) → run_at f a 0 ≡ Ok tt → run_at f b 0 ≡ Ok tt → run_at f (a ++ b) 0 ≡ Ok tt
  -- the same of a writer's whole refusal of its run, the ranges of the entries included; where there is none, the run is taken
  pub run_one_taken : (f : ℕ) → Numbered f → (key : Bytes) (v : EntryDraft) → EntryParts v → Short (wrapped f (entry_pieces key v))
      → 1 ≤ length key → run_refusal f (wrapped f (entry_pieces key v)) ≡ 0
  pub run_joined_taken : (f : ℕ) (a b : Bytes) → run_refusal f a ≡ 0 → run_refusal f b ≡ 0 → run_refusal f (a ++ b) ≡ 0
  pub run_taken : (f : ℕ) (r : Bytes) → run_refusal f r ≡ 0 → run_at f r 0 ≡ Ok tt
  -- a framed message, whatever stands behind it, is cut as a frame that holds it
  pub frame : (m rest : Bytes) → length m ≤ largest → cut_of (front true (length m) ++ (m ++ rest)) ≡ cut.Frame (length m)
  pub framed : (m rest : Bytes) → part (front true (length m) ++ (m ++ rest)) 4 (4 + length m) ≡ m
