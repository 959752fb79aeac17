-- THE ROUND TRIP: what the writer writes reads back as the same values.
use Prim.Native.Nat.{ℕ, ◌-◌, ◌^◌, ◌≤◌, ◌<◌}
use native.Mathlib.Omega.{arith}
use mathlib.Core.Path.{◌≡◌, refl, sym, ap, ◌∙◌}
use mathlib.Core.List.{List, [], ◌∷◌, ◌++◌, map, append-nil}
use mathlib.Core.Bool.{Bool, true, false}
use lib.ListN.{length, length-append}
use lib.Dec.{T, leb, eqb, eqb→eq}
use borrow.Author.Tests.{le-leb, eq-eqb, ne_eqb}
use Rattle.base_laws.specs.Base.{pick, both}
use Rattle.base_laws.proofs.Table.{below}
use Rattle.wire_schema.specs.Schema.{schema, kind_of, takes}
use Rattle.wire_check_field.specs.Check.{check_of}
use Rattle.wire_fields.specs.Fields.{among}
use Rattle.wire_fields.specs.Items as i
use Rattle.wire_fields.specs.Items.{Item, items, last_item, every_bytes}
use Rattle.std.specs.Prelude.{Ok}
use Rattle.wire_message.specs.Message as m
use Rattle.wire_message.specs.Message.{Bytes, Client, Server, client_member, server_member}
use Rattle.wire.specs.Read.{Reading, value, after, member, client_message, server_message}
use Rattle.write_forms.specs.Pieces.{Piece, bytes, head, encode, encode_all}
use Rattle.write_forms.specs.Draft as d
use Rattle.write_forms.specs.Draft.{ClientDraft, ServerDraft, EntryDraft, client_number, client_pieces, wrapped, written_client, written_server, meant_client, meant_server}
use Rattle.write_forms.specs.Run.{run_at, run_refusal}
use Rattle.write_forms.specs.RoundTrip.{Keyed, AllKeyed, written_run, AllWritable, Held, Numbered, Short, ReadsAs, EntryParts, ClientParts, Stamped, WritableClient, WritableServer, Narrow, BodyDraft, member_body, hello_body, time_body, entry_body, strings_body, numbers_body, member_value, hello_value, time_value, entry_value, strings_value, numbers_value, written_body, meant_body, read_body, WritableBody, RoundTrip}
use Rattle.write_forms.proofs.Pieces.{fields_back, pieces_pass}
use Rattle.write_forms.proofs.Values.{last_back, every_back}
use Rattle.write_forms.proofs.OneForm.{client_form, server_form, entry_form, body_form, time_same}
use Rattle.write_forms.proofs.Refusals.{entries_joined, no_refusal, no_refusal_of, run_joined_taken, entry_fits_lem}
use Rattle.write_forms.proofs.Joined.{items_joined}
use Rattle.write_forms.proofs.Runs as runs
use Rattle.write_forms.proofs.Frames.{frame_back, framed_back}
use Rattle.write_forms.proofs.Embedded.{time_back, accept_back, reject_back, alert_back, exit_back, restart_back, io_back, suspend_back, window_back, client_hello_back, server_hello_back, strings_back, numbers_back, entry_back, held_short}

-- ---- one member of a message around it

-- field f of the message k, the only one, is a member 1 to hi
module _ (k hi f : ℕ) (x : Bytes) (real : k ≡ 16 → ⊥) (from : 1 ≤ f) (to : f ≤ hi) (few : hi < 2 ^ 29)
    (taken : takes (kind_of k f) 2 ≡ true) (held : Held (leb 16 (kind_of k f)) (kind_of k f) x) (h : Short (encode_all (bytes f x ∷ []))) where
  ok : AllWritable (bytes f x ∷ [])
  ok = ((from, omega arith), tt)

  member_passes : check_of k (encode_all (bytes f x ∷ [])) ≡ Ok tt
  member_passes = pieces_pass k real (bytes f x ∷ []) ok ((taken, held), tt) h

  member_found : last_item 1 hi (items (encode_all (bytes f x ∷ []))) ≡ i.bytes f x
  unfolding among
  member_found = last_back (bytes f x ∷ []) ok h 1 hi ∙ rw (le-leb 1 f from, le-leb f hi to)

-- ---- ClientMessage

-- the members are embedded messages
embedded : ℕ → Bool
embedded f = pick (leb 1 f) (both (takes (kind_of 0 f) 2) (leb 16 (kind_of 0 f))) true

both_true : (a b : Bool) → T (both a b) → (a ≡ true) × (b ≡ true)
both_true true true t = (refl, refl)
both_true true false t = absurd t
both_true false b t = absurd t

client_kind : (f : ℕ) → 1 ≤ f → f ≤ 13 → (takes (kind_of 0 f) 2 ≡ true) × (leb 16 (kind_of 0 f) ≡ true)
unfolding embedded kind_of schema takes
client_kind f h l = both_true (takes (kind_of 0 f) 2) (leb 16 (kind_of 0 f)) (rw (le-leb 1 f h) at (below embedded 14 tt f (omega arith)))

-- the members 6 to 10 are I/O buffers
buffers : ℕ → Bool
buffers f = pick (leb 6 f) (eqb (kind_of 0 f) 22) true

pub io_kind : (f : ℕ) → 6 ≤ f → f ≤ 10 → kind_of 0 f ≡ 22
unfolding buffers kind_of schema
io_kind f h l = eqb→eq (kind_of 0 f) 22 (rw (le-leb 6 f h) at (below buffers 11 tt f (omega arith)))

io_member : (f : ℕ) (is : List Item) → 6 ≤ f → f ≤ 10 → client_member f is ≡ m.io_buf f (m.timed is)
unfolding client_member
io_member f is h l =
    rw (ne_eqb f 1 (omega arith), ne_eqb f 2 (omega arith), ne_eqb f 3 (omega arith), ne_eqb f 4 (omega arith), ne_eqb f 5 (omega arith), le-leb f 10 l)

-- a member by itself
pub body_back : (c : ClientDraft) → ClientParts c → Short (encode_all (client_pieces c))
    → ReadsAs (kind_of 0 (client_number c) - 16) (encode_all (client_pieces c)) (client_member (client_number c)) (meant_client c)
unfolding kind_of schema client_number client_pieces meant_client client_member
body_back (d.accept t r e) p h = let b = accept_back t r e p.0 p.1 h in record { fine = b.fine; means = ap m.accept_msg b.means }
body_back (d.reject t x r) p h = let b = reject_back t x r p.0 p.1 h in record { fine = b.fine; means = ap m.reject_msg b.means }
body_back (d.exit t v c x y) p h = let b = exit_back t v c x y p.0 p.1 h in record { fine = b.fine; means = ap m.exit_msg b.means }
body_back (d.restart x t) p h = let b = restart_back x t p h in record { fine = b.fine; means = ap m.restart_msg b.means }
body_back (d.alert t x r) p h = let b = alert_back t x r p.0 p.1 h in record { fine = b.fine; means = ap m.alert_msg b.means }
body_back (d.io k t x) p h =
    let b = io_back t x p.1 h in
    let e : kind_of 0 k - 16 ≡ 6 = ap (λ (n : ℕ). n - 16) (io_kind k p.0.0 p.0.1) in
    record {
      fine = ap (λ (n : ℕ). check_of n (encode_all (d.timed_pieces t x))) e ∙ b.fine;
      means = io_member k _ p.0.0 p.0.1 ∙ ap (m.io_buf k) b.means;
    }
body_back (d.window t x y) p h = let b = window_back t x y p.0 p.1.0 p.1.1 h in record { fine = b.fine; means = ap m.winsize_event b.means }
body_back (d.suspend t x) p h = let b = suspend_back t x p h in record { fine = b.fine; means = ap m.suspend_event b.means }
body_back (d.client_hello x) p h = let b = client_hello_back x h in record { fine = b.fine; means = ap m.hello_msg b.means }

pub number_of_lem : (c : ClientDraft) → ClientParts c → (1 ≤ client_number c) × (client_number c ≤ 13)
unfolding client_number
number_of_lem (d.accept t r e) p = (omega arith, omega arith)
number_of_lem (d.reject t x r) p = (omega arith, omega arith)
number_of_lem (d.exit t v c x y) p = (omega arith, omega arith)
number_of_lem (d.restart x t) p = (omega arith, omega arith)
number_of_lem (d.alert t x r) p = (omega arith, omega arith)
number_of_lem (d.io k t x) p = (omega arith, omega arith)
number_of_lem (d.window t x y) p = (omega arith, omega arith)
number_of_lem (d.suspend t x) p = (omega arith, omega arith)
number_of_lem (d.client_hello x) p = (omega arith, omega arith)

short_first : (a b : Bytes) → Short (a ++ b) → Short a
short_first a b h = omega (arith, length-append a b)

-- a message as the member f of the one around it
pub wrapped_is : (f : ℕ) (ps : List Piece) → 1 ≤ f → wrapped f ps ≡ encode_all (bytes f (encode_all ps) ∷ [])
unfolding wrapped
wrapped_is f ps h = rw (ne_eqb f 0 (omega arith))

wrapped_short : (f : ℕ) (ps : List Piece) → Short (encode_all (bytes f (encode_all ps) ∷ [])) → Short (encode_all ps)
wrapped_short f ps h = held_short [] [] f (encode_all ps) h

client_of_lem : (f : ℕ) (x : Bytes) (c : Client) → 1 ≤ f → f ≤ 13 → check_of (kind_of 0 f - 16) x ≡ Ok tt → client_member f (items x) ≡ c
    → Short (encode_all (bytes f x ∷ [])) → client_message (encode_all (bytes f x ∷ [])) ≡ value c
unfolding client_message after member
client_of_lem f x c h l p e s =
    let k = client_kind f h l in
    let q : Held (leb 16 (kind_of 0 f)) (kind_of 0 f) x = rw k.1 p in
    rw (member_passes 0 13 f x (omega arith) h l (omega arith) k.0 q s, member_found 0 13 f x (omega arith) h l (omega arith) k.0 q s, e)

pub client_back : (c : ClientDraft) → WritableClient c → client_message (written_client c) ≡ value (meant_client c)
client_back c w =
    let n = number_of_lem c w.0 in
    let e = wrapped_is (client_number c) (client_pieces c) n.0 in
    let s : Short (encode_all (bytes (client_number c) (encode_all (client_pieces c)) ∷ [])) = rw e at w.1 in
    let b = body_back c w.0 (wrapped_short (client_number c) (client_pieces c) s) in
    ap client_message e ∙ client_of_lem (client_number c) (encode_all (client_pieces c)) (meant_client c) n.0 n.1 b.fine b.means s

-- ---- ServerMessage

server_of_lem : (f : ℕ) (x : Bytes) (c : Server) → 1 ≤ f → f ≤ 5 → takes (kind_of 14 f) 2 ≡ true → Held (leb 16 (kind_of 14 f)) (kind_of 14 f) x → server_member f x ≡ c
    → Short (encode_all (bytes f x ∷ [])) → server_message (encode_all (bytes f x ∷ [])) ≡ value c
unfolding server_message after member
server_of_lem f x c h l t q e s =
    rw (member_passes 14 5 f x (omega arith) h l (omega arith) t q s, member_found 14 5 f x (omega arith) h l (omega arith) t q s, e)

-- log_id, error and abort are strings
notes : ℕ → Bool
notes f = pick (leb 3 f) (eqb (kind_of 14 f) 4) true

note_kind : (f : ℕ) → 3 ≤ f → f ≤ 5 → kind_of 14 f ≡ 4
unfolding notes kind_of schema
note_kind f h l = eqb→eq (kind_of 14 f) 4 (rw (le-leb 3 f h) at (below notes 6 tt f (omega arith)))

pub server_back : (c : ServerDraft) → WritableServer c → server_message (written_server c) ≡ value (meant_server c)
unfolding kind_of schema takes written_server meant_server server_member
server_back (d.server_hello x y l e) w =
    let ps : List Piece = d.server_hello_pieces x y l e in
    let q = wrapped_is 1 ps (omega arith) in
    let s : Short (encode_all (bytes 1 (encode_all ps) ∷ [])) = rw q at w.1 in
    let b = server_hello_back x y l e (wrapped_short 1 ps s) in
    ap server_message q ∙ server_of_lem 1 (encode_all ps) (meant_server (d.server_hello x y l e)) (omega arith) (omega arith) refl b.fine (ap m.hello b.means) s
server_back (d.commit t) w =
    let ps : List Piece = d.time_pieces t in
    let q = wrapped_is 2 ps (omega arith) in
    let s : Short (encode_all (bytes 2 (encode_all ps) ∷ [])) = rw q at w.1 in
    let b = time_back t w.0 in
    ap server_message q ∙ server_of_lem 2 (encode_all ps) (meant_server (d.commit t)) (omega arith) (omega arith) refl b.fine (ap m.commit_point b.means) s
server_back (d.note f x) w =
    let k = note_kind f w.0.0 w.0.1 in
    server_of_lem f x (meant_server (d.note f x)) (omega arith) w.0.1 (rw k refl) (rw k tt) (rw (ne_eqb f 1 (omega arith), ne_eqb f 2 (omega arith)) refl) w.1

-- ---- every message by itself

body_read : (b : BodyDraft) → WritableBody b → read_body b (written_body b) ≡ meant_body b
unfolding read_body written_body meant_body
body_read (member_body c) w = ap member_value (body_back c w.0 w.1).means
body_read (hello_body x y l e) w = ap hello_value (server_hello_back x y l e w.1).means
body_read (time_body t) w = ap time_value (time_back t w.0).means
body_read (entry_body key v) w = ap entry_value (entry_back key v w.0 w.1).means
body_read (strings_body ds) w = ap strings_value (strings_back ds w.1).means
body_read (numbers_body vs) w = ap numbers_value (numbers_back vs w.0 w.1).means

body_once : (b c : BodyDraft) → WritableBody b → WritableBody c → ((s : Bytes) → read_body b s ≡ read_body c s) → written_body b ≡ written_body c
    → meant_body b ≡ meant_body c
body_once b c x y r e = sym (body_read b x) ∙ ap (read_body b) e ∙ r (written_body c) ∙ body_read c y

stamped : (t : d.Stamp) → Narrow t → Stamped t
stamped t h = (h.0, h.1.0)

time_once : (t u : d.Stamp) → Narrow t → Narrow u → d.time t ≡ d.time u → t ≡ u
time_once t u p q e =
    time_same t u p q
    (sym (time_back t (stamped t p)).means ∙ ap (λ (s : Bytes). m.time_spec (items s)) e ∙ (time_back u (stamped u q)).means)

time_form : (t u : d.Stamp) → Narrow t → Narrow u → d.stamp_value t ≡ d.stamp_value u → (t ≡ u) × (d.time t ≡ d.time u)
time_form t u p q e = let s = time_same t u p q e in (s, ap (λ (x : d.Stamp). d.time x) s)

-- ---- what follows

-- two values that are read from the same bytes are the same
same_value : {A : Type 0} (x y : A) → ◌≡◌ {A = Reading A} (value x) (value y) → x ≡ y
same_value x y e = cc

run_one : (f : ℕ) → Numbered f → (key : Bytes) (v : EntryDraft) → EntryParts v → Short (wrapped f (d.entry_pieces key v))
    → run_at f (wrapped f (d.entry_pieces key v)) 0 ≡ Ok tt
unfolding encode
run_one f n key v p h =
    let ps : List Piece = d.entry_pieces key v in
    let e = wrapped_is f ps n.0 in
    let s : Short (encode_all (bytes f (encode_all ps) ∷ [])) = rw e at h in
    let i = wrapped_short f ps s in
    let q = append-nil (head f (length (encode_all ps)) ++ encode_all ps) in
    ap (λ (x : Bytes). run_at f x 0) (e ∙ q) ∙ runs.run_one f (encode_all ps) n.0 n.1 i (entry_back key v p i).fine

-- the bytes of one entry with its tag
one_element : (f : ℕ) → Numbered f → (x : Bytes) → Short (encode_all (bytes f x ∷ [])) → every_bytes f (items (encode_all (bytes f x ∷ []))) ≡ x ∷ []
one_element f n x s = every_back (bytes f x ∷ []) (n, tt) s f ∙ rw (eq-eqb f f refl)

-- a run written entry by entry
module _ (f : ℕ) (n : Numbered f) where
  run_written : (es : List Keyed) → AllKeyed es → Short (written_run f es) → run_at f (written_run f es) 0 ≡ Ok tt
  unfolding written_run
  run_written [] p h = runs.run_none f
  run_written (e ∷ es) p h =
      let a : Bytes = wrapped f (d.entry_pieces e.key e.value) in
      let l = length-append a (written_run f es) in
      runs.run_joined f a (written_run f es) (run_one f n e.key e.value p.0 (omega arith)) (run_written es p.1 (omega arith))

  run_means : (es : List Keyed) → AllKeyed es → Short (written_run f es)
      → m.entries f (items (written_run f es)) ≡ map (λ (e : Keyed). d.meant_entry e.key e.value) es
  unfolding written_run m.entries every_bytes
  run_means [] p h = ap (λ (is : List Item). m.entries f is) none_written
    where
      none_written : items [] ≡ []
      none_written = fields_back [] tt (omega arith)
  run_means (e ∷ es) p h =
      let ps : List Piece = d.entry_pieces e.key e.value in
      let a : Bytes = wrapped f ps in
      let b : Bytes = written_run f es in
      let l = length-append a b in
      let ra = runs.run_of f a (run_one f n e.key e.value p.0 (omega arith)) in
      let rb = runs.run_of f b (run_written es p.1 (omega arith)) in
      let w = wrapped_is f ps n.0 in
      let s : Short (encode_all (bytes f (encode_all ps) ∷ [])) = rw w at (short_first a b h) in
      let one : m.entries f (items a) ≡ d.meant_entry e.key e.value ∷ [] =
      ap (λ (y : Bytes). m.entries f (items y)) w ∙ ap (map (λ (x : Bytes). m.entry (items x))) (one_element f n (encode_all ps) s)
      ∙ ap (λ (x : m.Entry). x ∷ []) (entry_back e.key e.value p.0 (wrapped_short f ps s)).means in
      ap (λ (is : List Item). m.entries f is) (items_joined a b (runs.run_whole f a ra) (runs.run_whole f b rb))
      ∙ entries_joined f (items a) (items b)
      ∙ ap (λ (x : List m.Entry). x ++ m.entries f (items b)) one
      ∙ ap (λ (x : List m.Entry). d.meant_entry e.key e.value ∷ x) (run_means es p.1 (omega arith))

run_one_taken : (f : ℕ) → Numbered f → (key : Bytes) (v : EntryDraft) → EntryParts v → Short (wrapped f (d.entry_pieces key v))
    → 1 ≤ length key → run_refusal f (wrapped f (d.entry_pieces key v)) ≡ 0
run_one_taken f n key v p h l =
    let ps : List Piece = d.entry_pieces key v in
    let x : Bytes = encode_all ps in
    let e = wrapped_is f ps n.0 in
    let s : Short (encode_all (bytes f x ∷ [])) = rw e at h in
    let q : every_bytes f (items (wrapped f ps)) ≡ x ∷ [] = ap (λ (y : Bytes). every_bytes f (items y)) e ∙ one_element f n x s in
    no_refusal_of f (wrapped f ps) (run_one f n key v p h) (entry_fits_lem f (wrapped f ps) x key v q (entry_back key v p (wrapped_short f ps s)).means l)

pub round_trip : RoundTrip
round_trip = record {
  fields = fields_back;
  check = pieces_pass;
  client = client_back;
  server = server_back;
  client_form = client_form;
  server_form = server_form;
  entry_form = entry_form;
  body_form = body_form;
  time_form = time_form;
  client_once = λ a b x y e. same_value (meant_client a) (meant_client b) (sym (client_back a x) ∙ ap client_message e ∙ client_back b y);
  server_once = λ a b x y e. same_value (meant_server a) (meant_server b) (sym (server_back a x) ∙ ap server_message e ∙ server_back b y);
  entry_once = λ j k v w x y e. sym (entry_back j v x.0 x.1).means ∙ ap (λ (s : Bytes). m.entry (items s)) e ∙ (entry_back k w y.0 y.1).means;
  body_once = body_once;
  time_once = time_once;
  body = body_back;
  time-spec = time_back;
  entry = λ key v w. entry_back key v w.0 w.1;
  strings = strings_back;
  numbers = numbers_back;
  server_hello_lem = server_hello_back;
  run_written = run_written;
  run_means = run_means;
  run_one = run_one;
  run_joined = runs.run_joined;
  run_one_taken = run_one_taken;
  run_joined_taken = run_joined_taken;
  run_taken = λ f r e. (no_refusal f r e).0;
  frame = frame_back;
  framed = framed_back;
}
