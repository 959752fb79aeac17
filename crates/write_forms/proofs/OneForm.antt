-- A draft whose numbers are their fields' is told by what it means, but for a lent run: so each message has one written
-- form.
use Prim.Native.Nat.{ℕ, ◌+◌, ◌-◌, ◌^◌, ◌≤◌, ◌<◌}
use native.Mathlib.Omega.{arith}
use mathlib.Core.Path.{◌≡◌, refl, sym, ap, ◌∙◌}
use mathlib.Core.List.{List, [], ◌∷◌, map}
use mathlib.Core.Bool.{Bool, true, false}
use mathlib.Core.Logic.{⊎_elim}
use lib.IntN.{ℤ, pos, negsuc}
use lib.Dec.{eqb}
use borrow.Author.Tests.{lt-ltb, le-ltb, eqb-true, eqb-false}
use Rattle.base_laws.specs.Base.{pick}
use Rattle.base_laws.proofs.Order.{lt_or_le}
use Rattle.wire_message.specs.Signed.{signed, int64, int32}
use Rattle.wire_message.specs.Message as m
use Rattle.wire_message.specs.Message.{Bytes, TimeSpec, Client, Server}
use Rattle.write_forms.specs.Pieces.{encode_all}
use Rattle.write_forms.specs.Draft.{Stamp, stamp_value, EntryDraft, numval, strval, strlistval, numlistval, entry_pieces, ClientDraft, accept, reject, exit, restart, alert, io, window, suspend, client_hello, written_client, ServerDraft, server_hello, commit, note, written_server, meant_client, meant_server, meant_value, meant_entry}
use Rattle.write_forms.specs.RoundTrip.{AllFit, EntryParts, Int32, Narrow, NarrowClient, NarrowServer, lent_run, BodyDraft, member_body, hello_body, time_body, entry_body, strings_body, numbers_body, Body, member_value, hello_value, time_value, entry_value, strings_value, numbers_value, written_body, meant_body, NarrowBody, body_run}

-- the bits of a number in two's complement, `half` being the first that stand for a negative one
abbrev bits : ℕ → ℤ → ℕ
bits half (pos n) = n
bits half (negsuc n) = half + half - 1 - n

bits_back : (half v : ℕ) → v < half + half → bits half (signed half v) ≡ v
unfolding signed
bits_back half v h =
    ⊎_elim
    (λ (l : v < half). rw (lt-ltb _ _ l))
    (λ (l : half ≤ v). rw (le-ltb _ _ l) (omega arith))
    (lt_or_le v half)

wide : ℤ → ℕ
wide x = bits 9223372036854775808 x

wide_back : (v : ℕ) → v < 2 ^ 64 → wide (int64 v) ≡ v
unfolding wide int64
wide_back v h = bits_back 9223372036854775808 v h

int32_back : (v : ℕ) → Int32 v → wide (int32 v) ≡ v
int32_back v h = ap wide (sym h.1) ∙ wide_back v h.0

stamp_of : TimeSpec → Stamp
stamp_of t = record { seconds = wide t.seconds; nanos = wide t.nanoseconds }

stamp_back : (t : Stamp) → Narrow t → stamp_of (stamp_value t) ≡ t
unfolding stamp_of
stamp_back t h = λ j. record { seconds = wide_back t.seconds h.0 j; nanos = int32_back t.nanos h.1 j }

-- ---- ClientMessage

draft_of : Bytes → Client → ClientDraft
draft_of r (m.accept_msg a) = accept (stamp_of a.submit_time) r a.expect_iobufs
draft_of r (m.reject_msg a) = reject (stamp_of a.time) a.reason r
draft_of r (m.exit_msg a) = exit (stamp_of a.run_time) (wide a.exit_value) a.dumped_core a.signal a.error
draft_of r (m.restart_msg a) = restart a.log_id (stamp_of a.resume_point)
draft_of r (m.alert_msg a) = alert (stamp_of a.time) a.reason r
draft_of r (m.io_buf k a) = io k (stamp_of a.delay) a.contents
draft_of r (m.winsize_event a) = window (stamp_of a.delay) (wide a.rows) (wide a.cols)
draft_of r (m.suspend_event a) = suspend (stamp_of a.delay) a.contents
draft_of r (m.hello_msg d) = client_hello d

draft_back : (c : ClientDraft) → NarrowClient c → draft_of (lent_run c) (meant_client c) ≡ c
unfolding draft_of lent_run meant_client
draft_back (accept t r e) h = ap (λ (s : Stamp). accept s r e) (stamp_back t h)
draft_back (reject t x r) h = ap (λ (s : Stamp). reject s x r) (stamp_back t h)
draft_back (exit t v c x y) h = λ j. exit (stamp_back t h.0 j) (int32_back v h.1 j) c x y
draft_back (restart x t) h = ap (λ (s : Stamp). restart x s) (stamp_back t h)
draft_back (alert t x r) h = ap (λ (s : Stamp). alert s x r) (stamp_back t h)
draft_back (io k t d) h = ap (λ (s : Stamp). io k s d) (stamp_back t h)
draft_back (window t x y) h = λ j. window (stamp_back t h.0 j) (int32_back x h.1.0 j) (int32_back y h.1.1 j)
draft_back (suspend t d) h = ap (λ (s : Stamp). suspend s d) (stamp_back t h)
draft_back (client_hello d) h = refl

pub client_form : (c d : ClientDraft) → NarrowClient c → NarrowClient d → lent_run c ≡ lent_run d → meant_client c ≡ meant_client d
    → written_client c ≡ written_client d
client_form c d p q r e =
    ap (λ (x : ClientDraft). written_client x)
    (sym (draft_back c p) ∙ ap (λ (x : Bytes). draft_of x (meant_client c)) r ∙ ap (draft_of (lent_run d)) e ∙ draft_back d q)

-- ---- ServerMessage

server_draft_of : Server → ServerDraft
server_draft_of (m.hello a) = server_hello a.server_id a.redirect a.servers a.subcommands
server_draft_of (m.commit_point t) = commit (stamp_of t)
server_draft_of (m.log_id d) = note 3 d
server_draft_of (m.error d) = note 4 d
server_draft_of (m.abort d) = note 5 d

note_back : (f : ℕ) (d : Bytes) → 3 ≤ f → f ≤ 5 → server_draft_of (pick (eqb f 3) (m.log_id d) (pick (eqb f 4) (m.error d) (m.abort d))) ≡ note f d
unfolding server_draft_of
note_back f d h l = go (eqb f 3) refl (eqb f 4) refl
  where
    go : (a : Bool) → eqb f 3 ≡ a → (b : Bool) → eqb f 4 ≡ b → server_draft_of (pick a (m.log_id d) (pick b (m.error d) (m.abort d))) ≡ note f d
    go true x b y = ap (λ (n : ℕ). note n d) (sym (eqb-true f 3 x))
    go false x true y = ap (λ (n : ℕ). note n d) (sym (eqb-true f 4 y))
    go false x false y =
        let p = eqb-false f 3 x in
        let q = eqb-false f 4 y in
        let e : 5 ≡ f = omega arith in
        ap (λ (n : ℕ). note n d) e

server_draft_back : (c : ServerDraft) → NarrowServer c → server_draft_of (meant_server c) ≡ c
unfolding server_draft_of meant_server
server_draft_back (server_hello x y l e) h = refl
server_draft_back (commit t) h = ap commit (stamp_back t h)
server_draft_back (note f d) h = note_back f d h.0 h.1

pub server_form : (c d : ServerDraft) → NarrowServer c → NarrowServer d → meant_server c ≡ meant_server d → written_server c ≡ written_server d
server_form c d p q e = ap written_server (sym (server_draft_back c p) ∙ ap server_draft_of e ∙ server_draft_back d q)

-- ---- entries

value_draft_of : m.Value → EntryDraft
value_draft_of m.absent = numval 0
value_draft_of (m.numval n) = numval (wide n)
value_draft_of (m.strval d) = strval d
value_draft_of (m.strlistval ds) = strlistval ds
value_draft_of (m.numlistval ns) = numlistval (map wide ns)

all_wide : (vs : List ℕ) → AllFit vs → map wide (map int64 vs) ≡ vs
all_wide [] h = refl
all_wide (v ∷ vs) h = λ j. wide_back v h.0 j ∷ all_wide vs h.1 j

value_back : (v : EntryDraft) → EntryParts v → value_draft_of (meant_value v) ≡ v
unfolding value_draft_of meant_value
value_back (numval v) h = ap numval (wide_back v h)
value_back (strval d) h = refl
value_back (strlistval ds) h = refl
value_back (numlistval vs) h = ap numlistval (all_wide vs h)

pub entry_form : (j k : Bytes) (v w : EntryDraft) → EntryParts v → EntryParts w → meant_entry j v ≡ meant_entry k w
    → encode_all (entry_pieces j v) ≡ encode_all (entry_pieces k w)
entry_form j k v w p q e =
    let x : v ≡ w = sym (value_back v p) ∙ ap (λ (n : m.Entry). value_draft_of n.value) e ∙ value_back w q in
    let y : j ≡ k = ap (λ (n : m.Entry). n.key) e in
    λ i. encode_all (entry_pieces (y i) (x i))

-- ---- every message by itself

body_draft_of : Bytes → Body → BodyDraft
body_draft_of r (member_value c) = member_body (draft_of r c)
body_draft_of r (hello_value a) = hello_body a.server_id a.redirect a.servers a.subcommands
body_draft_of r (time_value t) = time_body (stamp_of t)
body_draft_of r (entry_value e) = entry_body e.key (value_draft_of e.value)
body_draft_of r (strings_value ds) = strings_body ds
body_draft_of r (numbers_value ns) = numbers_body (map wide ns)

body_draft_back : (b : BodyDraft) → NarrowBody b → body_draft_of (body_run b) (meant_body b) ≡ b
unfolding body_draft_of body_run meant_body
body_draft_back (member_body d) h = ap member_body (draft_back d h)
body_draft_back (hello_body x y l e) h = refl
body_draft_back (time_body t) h = ap time_body (stamp_back t h)
body_draft_back (entry_body key v) h = ap (entry_body key) (value_back v h)
body_draft_back (strings_body ds) h = refl
body_draft_back (numbers_body vs) h = ap numbers_body (all_wide vs h)

pub body_form : (b c : BodyDraft) → NarrowBody b → NarrowBody c → body_run b ≡ body_run c → meant_body b ≡ meant_body c → written_body b ≡ written_body c
body_form b c p q r e =
    ap written_body
    (sym (body_draft_back b p) ∙ ap (λ (x : Bytes). body_draft_of x (meant_body b)) r ∙ ap (body_draft_of (body_run c)) e ∙ body_draft_back c q)

pub time_same : (t u : Stamp) → Narrow t → Narrow u → stamp_value t ≡ stamp_value u → t ≡ u
time_same t u p q e = sym (stamp_back t p) ∙ ap stamp_of e ∙ stamp_back u q
