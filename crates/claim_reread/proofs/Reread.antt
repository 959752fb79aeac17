-- What a writer takes is read again, by the round trip and by the two tables of ranges.
use Prim.Native.Nat.{ℕ, ◌+◌, ◌-◌, ◌^◌, ◌≤◌, ◌<◌}
use native.Mathlib.Omega.{arith}
use mathlib.Core.Path.{◌≡◌, refl, sym, ap, ◌∙◌}
use mathlib.Core.List.{List, [], ◌∷◌, ◌++◌, append-nil, append_assoc}
use mathlib.Core.Bool.{Bool, true, false}
use lib.ListN.{length, take, drop}
use lib.Seq.{take_at, drop_at}
use lib.Dec.{T, ltb, leb, eqb}
use borrow.Author.Tests.{leb-true, le-leb, ltb-false, eqb-true, eqb-false, eq-eqb, ne_eqb}
use Rattle.std.specs.Prelude.{Result, Ok, Err}
use Rattle.base_laws.specs.Base.{pick, both, part, splice}
use Rattle.base_laws.proofs.Order.{both_true}
use Rattle.base_laws.proofs.Table.{below}
use Rattle.wire_frame.specs.Frame.{cut_of}
use Rattle.wire_frame.specs.declared.Cut.TheVariants as cut
use Rattle.wire_types.specs.declared.Refused.{Refused}
use Rattle.wire_schema.specs.Schema.{schema, kind_of}
use Rattle.wire_check_field.specs.Check.{check_of}
use Rattle.wire_fields.specs.Fields.{among}
use Rattle.wire_fields.specs.Items as i
use Rattle.wire_fields.specs.Items.{Item, items, last_from, last_item}
use Rattle.wire_message.specs.Signed.{int32, int64}
use Rattle.wire_message.specs.Message as m
use Rattle.wire_message.specs.Message.{Bytes, client_member}
use Rattle.wire_range.specs.Limits as l
use Rattle.wire_range.specs.Range as g
use Rattle.wire_range.specs.Range.{body_fits, client_fits, server_fits, in_range}
use Rattle.wire.specs.Read.{Reading, value, after, client_message, server_message, check_number, is_absent, no_member, read_number}
use Rattle.write_forms.specs.Pieces.{Piece, bytes, front, encode_all}
use Rattle.write_forms.specs.Draft as d
use Rattle.write_forms.specs.Draft.{Stamp, stamp_value, EntryDraft, ClientDraft, ServerDraft, client_number, client_pieces, wrapped, written_client, written_server, meant_client, meant_server}
use Rattle.write_forms.specs.Outcome.{refusal, room_refusal, size, buffer}
use Rattle.write_forms.specs.RoundTrip.{piece_items, Numbered, Short, ReadsAs, ClientParts, ServerParts, EntryParts, Stamped, Narrow, NarrowClient, NarrowServer, Keyed, written_run}
use Rattle.write_forms.proofs.RoundTrip.{io_kind, number_of_lem, wrapped_is, round_trip}
use Rattle.write_forms.proofs.Refusals.{no_refusal, value_set}
use Rattle.write_forms.proofs.Embedded as back
use Rattle.write_message.specs.Fits as w
use Rattle.write_message.specs.Fits.{member_in, date_fits, moment_fits, sized}
use Rattle.claim_reread.specs.Reread.{Taken, run_of, values_fit, TakenClient, TakenTime, Given, handed_in, ClientAgain, ServerAgain, BodyAgain, RunAgain, Reread}
use Rattle.claim_reread.proofs.Ranges.{in_32, small, int32_in, int32_whole, date_in, date_narrow, moment_in, moment_narrow, stamped, sized_in}

-- ---- a writer that answers 0: no refusal of its run, values in range, a message that fits a frame

record Clear (run : ℕ) (fits : Bool) (s : Bytes) : Type 0 where
  run_taken : run ≡ 0
  in_range_lem : fits ≡ true
  short : length s ≤ 2097152

clear : {run : ℕ} {fits : Bool} {s : Bytes} → Taken run fits s → Clear run fits s
unfolding refusal room_refusal
clear {run} {fits} {s} t = at_run (eqb run 0) refl t.answer
  where
    room_test : Bool
    room_test = ltb t.room (length (front t.framed (length s)) + length s)

    at_length : run ≡ 0 → fits ≡ true → (b : Bool) → ltb 2097152 (length s) ≡ b → ◌≡◌ {A = ℕ} (pick b 1 (pick room_test 12 0)) 0 → Clear run fits s
    at_length r f true q h = absurd (omega arith)
    at_length r f false q h = record { run_taken = r; in_range_lem = f; short = ltb-false 2097152 (length s) q }

    at_fits : run ≡ 0 → (b : Bool) → fits ≡ b → ◌≡◌ {A = ℕ} (pick b (pick (ltb 2097152 (length s)) 1 (pick room_test 12 0)) 7) 0 → Clear run fits s
    at_fits r true q h = at_length r q (ltb 2097152 (length s)) refl h
    at_fits r false q h = absurd (omega arith)

    at_run : (b : Bool) → eqb run 0 ≡ b → pick b (pick fits (pick (ltb 2097152 (length s)) 1 (pick room_test 12 0)) 7) run ≡ 0 → Clear run fits s
    at_run true q h = at_fits (eqb-true run 0 q) fits refl h
    at_run false q h = let n = eqb-false run 0 q in absurd (n h)

short_of : (s : Bytes) → length s ≤ 2097152 → Short s
short_of s h = omega arith

-- ---- the parts of a draft that is taken

exit_parts : (f : ℕ) (t : Stamp) (v : ℕ) (x : Bytes) → w.exit_fits f t v x ≡ true → (moment_fits t ≡ true) × (v ≤ 255) × (sized 0 127 x ≡ true)
exit_parts f t v x q =
    let a = (both_true (member_in 3 3 f) (both (moment_fits t) (both (leb v 255) (sized 0 127 x))) q).1 in
    let b = both_true (moment_fits t) (both (leb v 255) (sized 0 127 x)) a in
    let c = both_true (leb v 255) (sized 0 127 x) b.1 in
    (b.0, leb-true v 255 c.0, c.1)

restart_parts : (f : ℕ) (x : Bytes) (t : Stamp) → w.restart_fits f x t ≡ true → (sized 1 4095 x ≡ true) × (moment_fits t ≡ true)
restart_parts f x t q = both_true (sized 1 4095 x) (moment_fits t) (both_true (member_in 4 4 f) (both (sized 1 4095 x) (moment_fits t)) q).1

window_parts : (f : ℕ) (t : Stamp) (x y : ℕ) → w.window_fits f t x y ≡ true → (moment_fits t ≡ true) × (x ≤ 65535) × (y ≤ 65535)
window_parts f t x y q =
    let a = (both_true (member_in 11 11 f) (both (moment_fits t) (both (leb x 65535) (leb y 65535))) q).1 in
    let b = both_true (moment_fits t) (both (leb x 65535) (leb y 65535)) a in
    let c = both_true (leb x 65535) (leb y 65535) b.1 in
    (b.0, leb-true x 65535 c.0, leb-true y 65535 c.1)

suspend_parts : (f : ℕ) (t : Stamp) (x : Bytes) → w.suspend_fits f t x ≡ true → (moment_fits t ≡ true) × (sized 1 127 x ≡ true)
suspend_parts f t x q = both_true (moment_fits t) (sized 1 127 x) (both_true (member_in 12 12 f) (both (moment_fits t) (sized 1 127 x)) q).1

io_moment : (f : ℕ) (t : Stamp) → w.io_fits f t ≡ true → moment_fits t ≡ true
io_moment f t q = (both_true (member_in 6 10 f) (moment_fits t) q).1

accept_date : (f : ℕ) (t : Stamp) → w.accept_fits f t ≡ true → date_fits t ≡ true
accept_date f t q = (both_true (member_in 1 1 f) (date_fits t) q).1

report_date : (f : ℕ) (t : Stamp) → w.report_fits f t ≡ true → date_fits t ≡ true
report_date f t q = (both_true (w.report_member f) (date_fits t) q).1

-- ---- what RoundTrip asks of a draft

narrow : (f : ℕ) (c : ClientDraft) → Given c → values_fit f c ≡ true → NarrowClient c
unfolding values_fit
narrow f (d.accept t r e) n q = date_narrow t n (accept_date f t q)
narrow f (d.reject t x r) n q = date_narrow t n (report_date f t q)
narrow f (d.exit t v c x y) n q = let p = exit_parts f t v x q in let b = p.1 in (moment_narrow t p.0, small v (omega arith))
narrow f (d.restart x t) n q = moment_narrow t (restart_parts f x t q).1
narrow f (d.alert t x r) n q = date_narrow t n (report_date f t q)
narrow f (d.io k t x) n q = moment_narrow t (io_moment f t q)
narrow f (d.window t x y) n q =
    let p = window_parts f t x y q in
    let a = p.1 in
    let b = p.2 in
    (moment_narrow t p.0, (small x (omega arith), small y (omega arith)))
narrow f (d.suspend t x) n q = moment_narrow t (suspend_parts f t x q).0
narrow f (d.client_hello x) n q = tt

parts : (c : ClientDraft) → Given c → run_of c ≡ 0 → NarrowClient c → ClientParts c
unfolding run_of
parts (d.accept t r e) n z q = (stamped t q, round_trip.run_taken 2 r z)
parts (d.reject t x r) n z q = (stamped t q, round_trip.run_taken 3 r z)
parts (d.exit t v c x y) n z q = (stamped t q.0, q.1.0)
parts (d.restart x t) n z q = stamped t q
parts (d.alert t x r) n z q = (stamped t q, round_trip.run_taken 3 r z)
parts (d.io k t x) n z q = (n, stamped t q)
parts (d.window t x y) n z q = (stamped t q.0, (q.1.0.0, q.1.1.0))
parts (d.suspend t x) n z q = stamped t q
parts (d.client_hello x) n z q = tt

-- ---- the ranges of what is read

-- the readers' ranges of a member, as its value has them
unfoldable meant_fits : ClientDraft → Bool
meant_fits (d.accept t r e) = g.accept_fits (record { submit_time = stamp_value t; info_msgs = m.entries 2 (items r); expect_iobufs = e })
meant_fits (d.reject t x r) = g.report_fits (record { time = stamp_value t; reason = x; info_msgs = m.entries 3 (items r) })
meant_fits (d.exit t v c x y) = g.exit_fits (record { run_time = stamp_value t; exit_value = int32 v; dumped_core = c; signal = x; error = y })
meant_fits (d.restart x t) = g.restart_fits (record { log_id = x; resume_point = stamp_value t })
meant_fits (d.alert t x r) = g.report_fits (record { time = stamp_value t; reason = x; info_msgs = m.entries 3 (items r) })
meant_fits (d.io k t x) = g.io_fits (record { delay = stamp_value t; contents = x })
meant_fits (d.window t x y) = g.window_fits (record { delay = stamp_value t; rows = int32 x; cols = int32 y })
meant_fits (d.suspend t x) = g.suspend_fits (record { delay = stamp_value t; contents = x })
meant_fits (d.client_hello x) = true

meant_fits_lem : (f : ℕ) (c : ClientDraft) → run_of c ≡ 0 → values_fit f c ≡ true → meant_fits c ≡ true
unfolding run_of values_fit meant_fits g.accept_fits g.report_fits g.exit_fits g.restart_fits g.io_fits g.window_fits g.suspend_fits
meant_fits_lem f (d.accept t r e) z q = rw (date_in t (accept_date f t q), (no_refusal 2 r z).1)
meant_fits_lem f (d.reject t x r) z q = rw (date_in t (report_date f t q), (no_refusal 3 r z).1)
meant_fits_lem f (d.exit t v c x y) z q =
    let p = exit_parts f t v x q in rw (moment_in t p.0, in_32 255 v p.1 (omega arith), sized_in 0 127 x p.2)
meant_fits_lem f (d.restart x t) z q = let p = restart_parts f x t q in rw (sized_in 1 4095 x p.0, moment_in t p.1)
meant_fits_lem f (d.alert t x r) z q = rw (date_in t (report_date f t q), (no_refusal 3 r z).1)
meant_fits_lem f (d.io k t x) z q = moment_in t (io_moment f t q)
meant_fits_lem f (d.window t x y) z q =
    let p = window_parts f t x y q in rw (moment_in t p.0, in_32 65535 x p.1 (omega arith), in_32 65535 y p.2 (omega arith))
meant_fits_lem f (d.suspend t x) z q = let p = suspend_parts f t x q in rw (moment_in t p.0, sized_in 1 127 x p.1)
meant_fits_lem f (d.client_hello x) z q = refl

-- the member's bytes are asked by these
body_fits_lem : (c : ClientDraft) → ClientParts c → Short (encode_all (client_pieces c))
    → body_fits (kind_of 0 (client_number c) - 16) (items (encode_all (client_pieces c))) ≡ meant_fits c
unfolding kind_of schema client_number client_pieces meant_fits body_fits
body_fits_lem (d.accept t r e) p h = ap g.accept_fits (back.accept_back t r e p.0 p.1 h).means
body_fits_lem (d.reject t x r) p h = ap g.report_fits (back.reject_back t x r p.0 p.1 h).means
body_fits_lem (d.exit t v c x y) p h = ap g.exit_fits (back.exit_back t v c x y p.0 p.1 h).means
body_fits_lem (d.restart x t) p h = ap g.restart_fits (back.restart_back x t p h).means
body_fits_lem (d.alert t x r) p h = ap g.report_fits (back.alert_back t x r p.0 p.1 h).means
body_fits_lem (d.io k t x) p h =
    let q : kind_of 0 k - 16 ≡ 6 = ap (λ (n : ℕ). n - 16) (io_kind k p.0.0 p.0.1) in
    ap (λ (n : ℕ). body_fits n (items (encode_all (d.timed_pieces t x)))) q ∙ ap g.io_fits (back.io_back t x p.1 h).means
body_fits_lem (d.window t x y) p h = ap g.window_fits (back.window_back t x y p.0 p.1.0 p.1.1 h).means
body_fits_lem (d.suspend t x) p h = ap g.suspend_fits (back.suspend_back t x p h).means
body_fits_lem (d.client_hello x) p h = refl

-- ---- a reader by itself

-- a value is read where the check finds nothing to refuse
value_fine : {A : Type 0} (k : Result Unit Refused) (r : Reading A) (v : A) → after k r ≡ value v → k ≡ Ok tt
unfolding after
value_fine (Ok u) r v q = refl
value_fine (Err e) r v q = let z : ◌≡◌ {A = ℕ} 0 1 = cc in absurd (omega arith)

-- the only field is the last one of its numbers
only_field : (hi f : ℕ) (x : Bytes) → 1 ≤ f → f ≤ hi → hi < 2 ^ 29 → Short (encode_all (bytes f x ∷ []))
    → last_item 1 hi (items (encode_all (bytes f x ∷ []))) ≡ i.bytes f x
unfolding last_from among piece_items
only_field hi f x h k b s =
    ap (last_item 1 hi) (round_trip.fields (bytes f x ∷ []) ((h, omega arith), tt) s) ∙ rw (le-leb 1 f h, le-leb f hi k)

-- no refusal of a ClientMessage whose member is in range
client_number_lem : (f : ℕ) (x : Bytes) → 1 ≤ f → f ≤ 13 → Short (encode_all (bytes f x ∷ [])) → check_of 0 (encode_all (bytes f x ∷ [])) ≡ Ok tt
    → body_fits (kind_of 0 f - 16) (items x) ≡ true → read_number 0 (encode_all (bytes f x ∷ [])) ≡ 0
unfolding read_number check_number no_member is_absent in_range client_fits
client_number_lem f x h k s c b = rw (c, only_field 13 f x h k (omega arith) s, b)

-- no refusal of a message that is no ClientMessage and no ServerMessage
body_number : (k : ℕ) (s : Bytes) → (k ≡ 0 → ⊥) → (k ≡ 14 → ⊥) → check_of k s ≡ Ok tt → body_fits k (items s) ≡ true → read_number k s ≡ 0
unfolding read_number check_number no_member in_range
body_number k s h n c b = rw (c, ne_eqb k 0 h, ne_eqb k 14 n, b)

-- ---- a ClientMessage

-- the members are the messages 1 to 9
kinds : ℕ → Bool
kinds f = pick (leb 1 f) (both (leb 17 (kind_of 0 f)) (leb (kind_of 0 f) 25)) true

passed : (b : Bool) → T b → b ≡ true
passed true t = refl
passed false t = absurd t

body_kind : (f : ℕ) → 1 ≤ f → f ≤ 13 → (17 ≤ kind_of 0 f) × (kind_of 0 f ≤ 25)
unfolding kinds kind_of schema
body_kind f h k =
    let p = both_true (leb 17 (kind_of 0 f)) (leb (kind_of 0 f) 25) (passed _ (rw (le-leb 1 f h) at (below kinds 14 tt f (omega arith)))) in
    (leb-true 17 (kind_of 0 f) p.0, leb-true (kind_of 0 f) 25 p.1)

unwrapped : (ps : List Piece) → wrapped 0 ps ≡ encode_all ps
unfolding wrapped
unwrapped ps = refl

writable : (f : ℕ) (c : ClientDraft) → Given c → Clear (run_of c) (values_fit f c) (wrapped f (client_pieces c)) → ClientParts c
writable f c n k = parts c n k.run_taken (narrow f c n k.in_range_lem)

client : (c : ClientDraft) → Given c → TakenClient (client_number c) c → ClientAgain c
unfolding client_message
client c n t =
    let k = clear t in
    let f : ℕ = client_number c in
    let x : Bytes = encode_all (client_pieces c) in
    let p = writable f c n k in
    let b = number_of_lem c p in
    let short = k.short in
    let q = wrapped_is f (client_pieces c) b.0 in
    let s : Short (encode_all (bytes f x ∷ [])) = rw q at (short_of (written_client c) short) in
    let r = round_trip.client c (p, short_of (written_client c) short) in
    let fine : check_of 0 (encode_all (bytes f x ∷ [])) ≡ Ok tt = rw q at (value_fine (check_of 0 (written_client c)) _ (meant_client c) r) in
    let inside : body_fits (kind_of 0 f - 16) (items x) ≡ true = body_fits_lem c p (back.held_short [] [] f x s) ∙ meant_fits_lem f c k.run_taken k.in_range_lem in
    record { no_refusal = ap (read_number 0) q ∙ client_number_lem f x b.0 b.1 s fine inside; means = r }

client_alone : (c : ClientDraft) → Given c → TakenClient 0 c
    → BodyAgain (kind_of 0 (client_number c) - 16) (client_pieces c) (client_member (client_number c)) (meant_client c)
client_alone c n t =
    let k = clear t in
    let x : Bytes = encode_all (client_pieces c) in
    let p = writable 0 c n k in
    let s : Short x = rw (unwrapped (client_pieces c)) at (short_of (wrapped 0 (client_pieces c)) k.short) in
    let r = round_trip.body c p s in
    let h = number_of_lem c p in
    let b = body_kind (client_number c) h.0 h.1 in
    let from = b.0 in
    let to = b.1 in
    record {
      no_refusal = body_number (kind_of 0 (client_number c) - 16) x (λ z. omega arith) (λ z. omega arith) r.fine (body_fits_lem c p s ∙ meant_fits_lem 0 c k.run_taken k.in_range_lem);
      means = r.means;
    }

-- ---- a ServerMessage

server_number : (f : ℕ) (x : Bytes) → 1 ≤ f → f ≤ 5 → Short (encode_all (bytes f x ∷ [])) → check_of 14 (encode_all (bytes f x ∷ [])) ≡ Ok tt
    → pick (eqb f 2) (l.moment_fits (m.time_spec (items x))) true ≡ true → read_number 14 (encode_all (bytes f x ∷ [])) ≡ 0
unfolding read_number check_number no_member is_absent in_range server_fits
server_number f x h k s c b = rw (c, only_field 5 f x h k (omega arith) s, b)

-- the member f of a ServerMessage that is written as it is, and in range
server : (c : ServerDraft) (f : ℕ) (x : Bytes) → ServerParts c → written_server c ≡ encode_all (bytes f x ∷ []) → 1 ≤ f → f ≤ 5
    → length (written_server c) ≤ 2097152 → pick (eqb f 2) (l.moment_fits (m.time_spec (items x))) true ≡ true → ServerAgain c
unfolding server_message
server c f x p q h k b inside =
    let s : Short (encode_all (bytes f x ∷ [])) = rw q at (short_of (written_server c) b) in
    let r = round_trip.server c (p, short_of (written_server c) b) in
    let fine : check_of 14 (encode_all (bytes f x ∷ [])) ≡ Ok tt = rw q at (value_fine (check_of 14 (written_server c)) _ (meant_server c) r) in
    record { no_refusal = ap (read_number 14) q ∙ server_number f x h k s fine inside; means = r }

server_hello_lem : (x y joined : Bytes) (ends : List ℕ) (e : Bool)
    → Taken 0 (w.server_hello_fits 1 joined ends) (wrapped 1 (d.server_hello_pieces x y (d.cut_at joined 0 ends) e))
    → ServerAgain (d.server_hello x y (d.cut_at joined 0 ends) e)
unfolding written_server
server_hello_lem x y joined ends e t =
    let ps : List Piece = d.server_hello_pieces x y (d.cut_at joined 0 ends) e in
    server (d.server_hello x y (d.cut_at joined 0 ends) e) 1 (encode_all ps) tt (wrapped_is 1 ps (omega arith)) (omega arith) (omega arith) (clear t).short refl

commit_fits : (t : Stamp) → Taken 0 (w.time_fits 2 t) (wrapped 2 (d.time_pieces t)) → moment_fits t ≡ true
unfolding w.time_fits
commit_fits t k = (clear k).in_range_lem

commit_narrow : (t : Stamp) → Taken 0 (w.time_fits 2 t) (wrapped 2 (d.time_pieces t)) → NarrowServer (d.commit t)
commit_narrow t k = moment_narrow t (commit_fits t k)

commit_point_lem : (t : Stamp) → Taken 0 (w.time_fits 2 t) (wrapped 2 (d.time_pieces t)) → ServerAgain (d.commit t)
unfolding written_server
commit_point_lem t k =
    let n = stamped t (commit_narrow t k) in
    server (d.commit t) 2 (d.time t) n (wrapped_is 2 (d.time_pieces t) (omega arith)) (omega arith) (omega arith) (clear k).short
    (ap l.moment_fits (back.time_back t n).means ∙ moment_in t (commit_fits t k))

-- ---- a TimeSpec by itself

time_narrow : (t : Stamp) → Stamped t → TakenTime t → Narrow t
unfolding w.time_fits
time_narrow t n k = (n.0, int32_in t.nanos n.1 (clear k).in_range_lem)

time_fits_lem : (t : Stamp) → Narrow t → w.time_fits 0 t ≡ true
unfolding w.time_fits
time_fits_lem t n = int32_whole t.nanos n.1

handed : (t : Stamp) → Narrow t → stamp_value t ≡ handed_in t
handed t n = λ i. record { seconds = int64 t.seconds; nanoseconds = sym n.1.1 i }

time_once : (t u : Stamp) → Stamped t → Stamped u → TakenTime t → TakenTime u → wrapped 0 (d.time_pieces t) ≡ wrapped 0 (d.time_pieces u) → t ≡ u
time_once t u m n j k e =
    round_trip.time_once t u (time_narrow t m j) (time_narrow u n k) (sym (unwrapped (d.time_pieces t)) ∙ e ∙ unwrapped (d.time_pieces u))

-- ---- log_id, error, abort

note : (f : ℕ) (x : Bytes) → Taken 0 (w.note_fits f) (encode_all (bytes f x ∷ [])) → ServerAgain (d.note f x)
unfolding written_server
note f x t =
    let q = both_true (leb 3 f) (leb f 5) (clear t).in_range_lem in
    let from = leb-true 3 f q.0 in
    let to = leb-true f 5 q.1 in
    server (d.note f x) f x (from, to) refl (omega arith) to (clear t).short (rw (ne_eqb f 2 (λ z. omega arith)))

-- ---- messages without ranges of their own, and entries

alone : {A : Type 0} (k : ℕ) (ps : List Piece) (read : List Item → A) (v : A) → (k ≡ 0 → ⊥) → (k ≡ 14 → ⊥) → ReadsAs k (encode_all ps) read v
    → body_fits k (items (encode_all ps)) ≡ true → BodyAgain k ps read v
alone k ps read v h n r b = record { no_refusal = body_number k (encode_all ps) h n r.fine b; means = r.means }

short_alone : {fits : Bool} (ps : List Piece) → Taken 0 fits (wrapped 0 ps) → Short (encode_all ps)
short_alone ps t = rw (unwrapped ps) at (short_of (wrapped 0 ps) (clear t).short)

key_in : (f : ℕ) (key : Bytes) → w.entry_fits f key ≡ true → 1 ≤ length key
key_in f key q = leb-true 1 (length key) (both_true (member_in 2 3 f) (leb 1 (length key)) q).1

small_member : (f : ℕ) → 1 ≤ f → member_in 2 3 f ≡ true → f ≤ 3
unfolding member_in
small_member f h q =
    let p : both (leb 2 f) (leb f 3) ≡ true = rw (ne_eqb f 0 (omega arith)) at q in leb-true f 3 (both_true (leb 2 f) (leb f 3) p).1

entry_alone : (key : Bytes) (v : EntryDraft) → EntryParts v → Taken 0 (w.entry_fits 0 key) (wrapped 0 (d.entry_pieces key v))
    → BodyAgain 11 (d.entry_pieces key v) m.entry (d.meant_entry key v)
unfolding body_fits l.entry_fits
entry_alone key v p t =
    let s = short_alone (d.entry_pieces key v) t in
    let r = round_trip.entry key v (p, s) in
    alone 11 (d.entry_pieces key v) m.entry (d.meant_entry key v) (λ z. omega arith) (λ z. omega arith) r
    (ap l.entry_fits r.means ∙ rw (le-leb 1 (length key) (key_in 0 key (clear t).in_range_lem), value_set v))

entry : (f : ℕ) → 1 ≤ f → (key : Bytes) (v : EntryDraft) → EntryParts v → Taken 0 (w.entry_fits f key) (wrapped f (d.entry_pieces key v))
    → RunAgain f (wrapped f (d.entry_pieces key v)) (d.meant_entry key v ∷ [])
unfolding written_run
entry f h key v p t =
    let k = clear t in
    let a : Bytes = wrapped f (d.entry_pieces key v) in
    let few = small_member f h (both_true (member_in 2 3 f) (leb 1 (length key)) k.in_range_lem).0 in
    let n : Numbered f = (h, omega arith) in
    let es : List Keyed = record { key = key; value = v } ∷ [] in
    let q : written_run f es ≡ a = append-nil a in
    let s : Short (written_run f es) = rw (sym q) at (short_of a k.short) in
    record {
      no_refusal = round_trip.run_one_taken f n key v p (short_of a k.short) (key_in f key k.in_range_lem);
      means = ap (λ (x : Bytes). m.entries f (items x)) (sym q) ∙ round_trip.run_means f n es (p, tt) s;
    }

entry_strings : (f : ℕ) (key joined : Bytes) (ends : List ℕ) (s : Bytes) → Taken 0 (w.entry_strings_fits f key joined ends) s → Taken 0 (w.entry_fits f key) s
entry_strings f key joined ends s t =
    let q = (clear t).in_range_lem in
    let p : w.entry_fits f key ≡ true = (both_true (w.entry_fits f key) (w.ends_fit joined ends) q).0 in
    record { framed = t.framed; room = t.room; answer = ap (λ (b : Bool). refusal 0 b t.framed s t.room) (p ∙ sym q) ∙ t.answer }

-- ---- the buffer

buffer_is : (run : ℕ) (fits framed : Bool) (s out : Bytes) → refusal run fits framed s (length out) ≡ 0
    → buffer run fits framed s out ≡ front framed (length s) ++ (s ++ drop (length (front framed (length s) ++ s)) out)
unfolding buffer splice
buffer_is run fits framed s out q =
    let a : Bytes = front framed (length s) in
    let e = eq-eqb (refusal run fits framed s (length out)) 0 q in
    let z : 0 + length (a ++ s) ≡ length (a ++ s) = omega arith in
    rw (e, z) (append_assoc a s (drop (length (a ++ s)) out))

size_is : (run : ℕ) (fits framed : Bool) (s : Bytes) (room : ℕ) → refusal run fits framed s room ≡ 0
    → size run fits framed s room ≡ length (front framed (length s)) + length s
unfolding size
size_is run fits framed s room q = rw (eq-eqb (refusal run fits framed s room) 0 q)

part_between : (a s rest : Bytes) → part (a ++ (s ++ rest)) (length a) (length a + length s) ≡ s
part_between a s rest =
    let e : length a + length s - length a ≡ length s = omega arith in
    ap (λ (n : ℕ). take n (drop (length a) (a ++ (s ++ rest)))) e
    ∙ ap (take (length s)) (drop_at a (s ++ rest) (length a) refl)
    ∙ take_at s rest (length s) refl

laid : (run : ℕ) (fits framed : Bool) (s out : Bytes) → refusal run fits framed s (length out) ≡ 0
    → part (buffer run fits framed s out) (length (front framed (length s))) (size run fits framed s (length out)) ≡ s
laid run fits framed s out q =
    let a : Bytes = front framed (length s) in
    ap (λ (b : Bytes). part b (length a) (size run fits framed s (length out))) (buffer_is run fits framed s out q)
    ∙ ap (λ (n : ℕ). part (a ++ (s ++ drop (length (a ++ s)) out)) (length a) n) (size_is run fits framed s (length out) q)
    ∙ part_between a s (drop (length (a ++ s)) out)

framed : (run : ℕ) (fits : Bool) (s out : Bytes) → refusal run fits true s (length out) ≡ 0 → cut_of (buffer run fits true s out) ≡ cut.Frame (length s)
framed run fits s out q =
    let t : Taken run fits s = record { framed = true; room = length out; answer = q } in
    ap cut_of (buffer_is run fits true s out q) ∙ round_trip.frame s (drop (length (front true (length s) ++ s)) out) (clear t).short

pub reread : Reread
unfolding body_fits
reread = record {
  client = client;
  client_alone = client_alone;
  client_writable = λ c n t. (writable (client_number c) c n (clear t), short_of (written_client c) (clear t).short);
  client_narrow = λ f c n t. narrow f c n (clear t).in_range_lem;
  server_hello_lem = server_hello_lem;
  server_hello_alone = λ x y joined ends e t.
      let ps : List Piece = d.server_hello_pieces x y (d.cut_at joined 0 ends) e in
      alone 15 ps m.server_hello _ (λ z. omega arith) (λ z. omega arith) (round_trip.server_hello_lem x y (d.cut_at joined 0 ends) e (short_alone ps t)) refl;
  commit_point_lem = commit_point_lem;
  commit_narrow = commit_narrow;
  time_alone = λ t n k.
      let r = alone 10 (d.time_pieces t) m.time_spec (stamp_value t) (λ z. omega arith) (λ z. omega arith) (round_trip.time-spec t n) refl in
      record { no_refusal = r.no_refusal; means = r.means ∙ handed t (time_narrow t n k) };
  time_narrow = time_narrow;
  time_fits_lem = time_fits_lem;
  time_form = λ t u m n j k e. (round_trip.time_form t u (time_narrow t m j) (time_narrow u n k) e).0;
  time_once = time_once;
  log_id_error_abort = note;
  entry = entry;
  entry_alone = entry_alone;
  entry_strings = entry_strings;
  string_list_lem = λ joined ends t.
      let ps : List Piece = d.string_list_pieces (d.cut_at joined 0 ends) in
      alone 12 ps m.string_list _ (λ z. omega arith) (λ z. omega arith) (round_trip.strings (d.cut_at joined 0 ends) (short_alone ps t)) refl;
  number_list_lem = λ vs n t. alone 13 (d.number_list_pieces vs) m.number_list _ (λ z. omega arith) (λ z. omega arith) (round_trip.numbers vs n (short_alone (d.number_list_pieces vs) t)) refl;
  laid = laid;
  framed = framed;
}
