-- The embedded messages read back, each by the values of its pieces.
use Prim.Native.Nat.{ℕ, zero, suc, ◌+◌, ◌*◌, ◌/◌, ◌%◌, ◌^◌, ◌≤◌, ◌<◌}
use native.Mathlib.Omega.{arith}
use mathlib.Core.Path.{◌≡◌, refl, ap, ◌∙◌}
use mathlib.Core.List.{List, [], ◌∷◌, ◌++◌, map, append-nil}
use mathlib.Core.Bool.{Bool, true, false}
use lib.ListN.{length, length-append}
use lib.Dec.{ltb, leb, eqb}
use Rattle.base_laws.specs.Base.{pick}
use Rattle.wire_schema.specs.Schema.{schema, kind_of, takes}
use Rattle.wire_fields.specs.Fields.{among}
use Rattle.wire_fields.specs.Items as i
use Rattle.wire_fields.specs.Items.{Item, none, items, last_from, number_of, bytes_of, every_bytes}
use Rattle.std.specs.Prelude.{Ok}
use Rattle.wire_elements.specs.Elements.{numbers_of}
use Rattle.wire_message.specs.Signed.{int64, int32, bool}
use Rattle.wire_message.specs.Message as m
use Rattle.wire_message.specs.Message.{Bytes, number_field, bytes_field, time_spec, time_field}
use Rattle.write_forms.specs.Pieces as w
use Rattle.write_forms.specs.Pieces.{Piece, some, bytes, text, varint, encode, encode_all, packed}
use Rattle.write_forms.specs.Draft as d
use Rattle.write_forms.specs.Draft.{Stamp, stamp_value, time_pieces, time, flag, EntryDraft}
use Rattle.write_forms.specs.Run.{run_at}
use Rattle.write_forms.specs.RoundTrip.{AllWritable, piece_items, AllSuit, AllHeld, AllFit, Stamped, Short, EntryParts, ReadsAs}
use Rattle.write_forms.proofs.Pieces.{fields_back, pieces_pass}
use Rattle.write_forms.proofs.Numbers.{packed_back, packed_passes, numbers_held}
use Rattle.write_forms.proofs.Values.{last_piece, every_piece, last_back, every_back, number_held, bytes_held}
use Rattle.write_forms.proofs.Runs.{Run, run_of, run_passes, run_others}

-- ---- a TimeSpec

length_varint : (k v : ℕ) → length (w.shortest_from k v) ≤ suc k
unfolding w.shortest_from
length_varint zero v = omega arith
length_varint (suc k) v = go (ltb v 128) (length_varint k (v / 128))
  where
    go : (t : Bool) → length (w.shortest_from k (v / 128)) ≤ suc k → length (pick t (v ∷ []) ((v % 128 + 128) ∷ w.shortest_from k (v / 128))) ≤ suc (suc k)
    go true h = omega arith
    go false h = omega arith

length_some : (f v : ℕ) → length (encode (some f v)) ≤ 20
unfolding encode
length_some f v = go (eqb v 0)
  where
    go : (t : Bool) → length (pick t [] (varint (f * 8) ++ varint v)) ≤ 20
    go true = omega arith
    go false = omega (arith, length-append (varint (f * 8)) (varint v), length_varint 9 (f * 8), length_varint 9 v)

time_short : (t : Stamp) → Short (time t)
time_short t =
    omega (arith, length-append (encode (some 1 t.seconds)) (encode (some 2 t.nanos) ++ []), length-append (encode (some 2 t.nanos)) [], length_some 1 t.seconds, length_some 2 t.nanos)

pub time_back : (t : Stamp) → Stamped t → ReadsAs 10 (time t) time_spec (stamp_value t)
unfolding kind_of schema takes time_spec among
time_back t s =
    let ps : List Piece = time_pieces t in
    let ok : AllWritable ps = (((omega arith, omega arith), s.0), (((omega arith, omega arith), s.1), tt)) in
    let h = time_short t in
    let x : number_field 1 (items (time t)) ≡ t.seconds = ap number_of (last_back ps ok h 1 1) ∙ number_held 1 t.seconds in
    let y : number_field 2 (items (time t)) ≡ t.nanos = ap number_of (last_back ps ok h 2 2) ∙ number_held 2 t.nanos in
    record {
      fine = pieces_pass 10 (omega arith) ps ok (refl, (refl, tt)) h;
      means = λ j. record { seconds = int64 (x j); nanoseconds = int32 (y j) };
    }

-- ---- the fields of any message, by its pieces

bool_flag : (e : Bool) → bool (flag e) ≡ e
unfolding bool
bool_flag true = refl
bool_flag false = refl

flag_fits : (e : Bool) → flag e < 2 ^ 64
flag_fits true = omega arith
flag_fits false = omega arith

module _ (ps : List Piece) (ok : AllWritable ps) (h : Short (encode_all ps)) where
  number_field_lem : (f v : ℕ) → number_of (last_piece f f none ps) ≡ v → number_field f (items (encode_all ps)) ≡ v
  number_field_lem f v e = ap number_of (last_back ps ok h f f) ∙ e

  bytes_field_lem : (f : ℕ) (d : Bytes) → bytes_of (last_piece f f none ps) ≡ d → bytes_field f (items (encode_all ps)) ≡ d
  bytes_field_lem f d e = ap bytes_of (last_back ps ok h f f) ∙ e

  time_field_lem : (f : ℕ) (t : Stamp) → Stamped t → bytes_of (last_piece f f none ps) ≡ time t → time_field f (items (encode_all ps)) ≡ stamp_value t
  unfolding time_field
  time_field_lem f t s e = ap (λ (x : Bytes). time_spec (items x)) (bytes_field_lem f (time t) e) ∙ (time_back t s).means

  flag_field : (f : ℕ) (e : Bool) → number_of (last_piece f f none ps) ≡ flag e → bool (number_field f (items (encode_all ps))) ≡ e
  flag_field f e q = ap bool (number_field_lem f (flag e) q) ∙ bool_flag e

  entries_field : (f : ℕ) (r : Bytes) → every_piece f ps ≡ every_bytes f (items r) → m.entries f (items (encode_all ps)) ≡ m.entries f (items r)
  unfolding m.entries
  entries_field f r e = ap (λ (x : List Bytes). map (λ (d : Bytes). m.entry (items d)) x) (every_back ps ok h f ∙ e)

-- ---- the members of a ClientMessage

pub accept_back : (t : Stamp) (r : Bytes) (e : Bool) → Stamped t → run_at 2 r 0 ≡ Ok tt → Short (encode_all (d.accept_pieces t r e))
    → ReadsAs 1 (encode_all (d.accept_pieces t r e)) m.accept (record { submit_time = stamp_value t; info_msgs = m.entries 2 (items r); expect_iobufs = e })
unfolding kind_of schema takes m.accept among bytes_of
accept_back t r e s q h =
    let ps : List Piece = d.accept_pieces t r e in
    let c : Run 2 r 0 = run_of 2 r q in
    let ok : AllWritable ps = ((omega arith, omega arith), ((2, q), (((omega arith, omega arith), flag_fits e), tt))) in
    let x = time_field_lem ps ok h 1 t s (ap bytes_of (run_others 2 r 1 1 (i.bytes 1 (time t)) refl c)) in
    let y = entries_field ps ok h 2 r (append-nil (every_bytes 2 (items r))) in
    let z = flag_field ps ok h 3 e (ap (λ (l : Item). number_of (pick (eqb (flag e) 0) l (i.number 3 (flag e)))) (run_others 2 r 3 3 none refl c) ∙ number_held 3 (flag e)) in
    record {
      fine = pieces_pass 1 (omega arith) ps ok ((refl, (time_back t s).fine), (run_passes 1 2 (omega arith) refl r c, (refl, tt))) h;
      means = λ j. record { submit_time = x j; info_msgs = y j; expect_iobufs = z j };
    }

-- a RejectMessage is message 2, an AlertMessage 5
report_as : (k : ℕ) → (k ≡ 16 → ⊥) → (t : Stamp) (x r : Bytes) → AllSuit k (d.report_pieces t x r)
    → Stamped t → run_at 3 r 0 ≡ Ok tt → Short (encode_all (d.report_pieces t x r))
    → ReadsAs k (encode_all (d.report_pieces t x r)) m.report (record { time = stamp_value t; reason = x; info_msgs = m.entries 3 (items r) })
unfolding m.report among bytes_of
report_as k real t x r suits s q h =
    let ps : List Piece = d.report_pieces t x r in
    let c : Run 3 r 0 = run_of 3 r q in
    let ok : AllWritable ps = ((omega arith, omega arith), ((omega arith, omega arith), ((3, q), tt))) in
    let a = time_field_lem ps ok h 1 t s (ap bytes_of (run_others 3 r 1 1 (i.bytes 1 (time t)) refl c)) in
    let b = bytes_field_lem ps ok h 2 x (ap bytes_of (run_others 3 r 2 2 (pick (eqb (length x) 0) none (i.bytes 2 x)) refl c) ∙ bytes_held 2 x) in
    let e = entries_field ps ok h 3 r (append-nil (every_bytes 3 (items r))) in
    record { fine = pieces_pass k real ps ok suits h; means = λ j. record { time = a j; reason = b j; info_msgs = e j } }

module _ (t : Stamp) (x r : Bytes) (s : Stamped t) (q : run_at 3 r 0 ≡ Ok tt) (h : Short (encode_all (d.report_pieces t x r))) where
  pub reject_back : ReadsAs 2 (encode_all (d.report_pieces t x r)) m.report (record { time = stamp_value t; reason = x; info_msgs = m.entries 3 (items r) })
  unfolding kind_of schema takes
  reject_back =
      report_as 2 (omega arith) t x r ((refl, (time_back t s).fine), ((refl, tt), (run_passes 2 3 (omega arith) refl r (run_of 3 r q), tt))) s q h

  pub alert_back : ReadsAs 5 (encode_all (d.report_pieces t x r)) m.report (record { time = stamp_value t; reason = x; info_msgs = m.entries 3 (items r) })
  unfolding kind_of schema takes
  alert_back =
      report_as 5 (omega arith) t x r ((refl, (time_back t s).fine), ((refl, tt), (run_passes 5 3 (omega arith) refl r (run_of 3 r q), tt))) s q h

pub exit_back : (t : Stamp) (v : ℕ) (c : Bool) (x y : Bytes) → Stamped t → v < 2 ^ 64 → Short (encode_all (d.exit_pieces t v c x y))
    → ReadsAs 3 (encode_all (d.exit_pieces t v c x y)) m.exit (record { run_time = stamp_value t; exit_value = int32 v; dumped_core = c; signal = x; error = y })
unfolding kind_of schema takes m.exit among bytes_of
exit_back t v c x y s l h =
    let ps : List Piece = d.exit_pieces t v c x y in
    let ok : AllWritable ps = ((omega arith, omega arith), (((omega arith, omega arith), l), (((omega arith, omega arith), flag_fits c), ((omega arith, omega arith), ((omega arith, omega arith), tt))))) in
    let a = time_field_lem ps ok h 1 t s refl in
    let b = number_field_lem ps ok h 2 v (number_held 2 v) in
    let e = flag_field ps ok h 3 c (number_held 3 (flag c)) in
    let f = bytes_field_lem ps ok h 4 x (bytes_held 4 x) in
    let g = bytes_field_lem ps ok h 5 y (bytes_held 5 y) in
    record {
      fine = pieces_pass 3 (omega arith) ps ok ((refl, (time_back t s).fine), (refl, (refl, ((refl, tt), ((refl, tt), tt))))) h;
      means = λ j. record { run_time = a j; exit_value = int32 (b j); dumped_core = e j; signal = f j; error = g j };
    }

pub restart_back : (x : Bytes) (t : Stamp) → Stamped t → Short (encode_all (d.restart_pieces x t))
    → ReadsAs 4 (encode_all (d.restart_pieces x t)) m.restart (record { log_id = x; resume_point = stamp_value t })
unfolding kind_of schema takes m.restart among bytes_of
restart_back x t s h =
    let ps : List Piece = d.restart_pieces x t in
    let ok : AllWritable ps = ((omega arith, omega arith), ((omega arith, omega arith), tt)) in
    let a = bytes_field_lem ps ok h 1 x (bytes_held 1 x) in
    let b = time_field_lem ps ok h 2 t s refl in
    record {
      fine = pieces_pass 4 (omega arith) ps ok ((refl, tt), ((refl, (time_back t s).fine), tt)) h;
      means = λ j. record { log_id = a j; resume_point = b j };
    }

-- an IoBuffer is message 6, a CommandSuspend 8
timed_as : (k : ℕ) → (k ≡ 16 → ⊥) → (t : Stamp) (x : Bytes) → AllSuit k (d.timed_pieces t x) → Stamped t → Short (encode_all (d.timed_pieces t x))
    → ReadsAs k (encode_all (d.timed_pieces t x)) m.timed (record { delay = stamp_value t; contents = x })
unfolding m.timed among bytes_of
timed_as k real t x suits s h =
    let ps : List Piece = d.timed_pieces t x in
    let ok : AllWritable ps = ((omega arith, omega arith), ((omega arith, omega arith), tt)) in
    let a = time_field_lem ps ok h 1 t s refl in
    let b = bytes_field_lem ps ok h 2 x (bytes_held 2 x) in
    record { fine = pieces_pass k real ps ok suits h; means = λ j. record { delay = a j; contents = b j } }

module _ (t : Stamp) (x : Bytes) (s : Stamped t) (h : Short (encode_all (d.timed_pieces t x))) where
  pub io_back : ReadsAs 6 (encode_all (d.timed_pieces t x)) m.timed (record { delay = stamp_value t; contents = x })
  unfolding kind_of schema takes
  io_back = timed_as 6 (omega arith) t x ((refl, (time_back t s).fine), ((refl, tt), tt)) s h

  pub suspend_back : ReadsAs 8 (encode_all (d.timed_pieces t x)) m.timed (record { delay = stamp_value t; contents = x })
  unfolding kind_of schema takes
  suspend_back = timed_as 8 (omega arith) t x ((refl, (time_back t s).fine), ((refl, tt), tt)) s h

pub window_back : (t : Stamp) (x y : ℕ) → Stamped t → x < 2 ^ 64 → y < 2 ^ 64 → Short (encode_all (d.window_pieces t x y))
    → ReadsAs 7 (encode_all (d.window_pieces t x y)) m.window_size (record { delay = stamp_value t; rows = int32 x; cols = int32 y })
unfolding kind_of schema takes m.window_size among bytes_of
window_back t x y s l n h =
    let ps : List Piece = d.window_pieces t x y in
    let ok : AllWritable ps = ((omega arith, omega arith), (((omega arith, omega arith), l), (((omega arith, omega arith), n), tt))) in
    let a = time_field_lem ps ok h 1 t s refl in
    let b = number_field_lem ps ok h 2 x (number_held 2 x) in
    let c = number_field_lem ps ok h 3 y (number_held 3 y) in
    record {
      fine = pieces_pass 7 (omega arith) ps ok ((refl, (time_back t s).fine), (refl, (refl, tt))) h;
      means = λ j. record { delay = a j; rows = int32 (b j); cols = int32 (c j) };
    }

pub client_hello_back : (x : Bytes) → Short (encode_all (d.client_hello_pieces x)) → ReadsAs 9 (encode_all (d.client_hello_pieces x)) m.client_hello x
unfolding kind_of schema takes m.client_hello among bytes_of
client_hello_back x h =
    let ps : List Piece = d.client_hello_pieces x in
    let ok : AllWritable ps = ((omega arith, omega arith), tt) in
    record { fine = pieces_pass 9 (omega arith) ps ok ((refl, tt), tt) h; means = bytes_field_lem ps ok h 1 x (bytes_held 1 x) }

-- ---- the hello of a ServerMessage

-- elements of another number are passed over
passed : (lo hi f : ℕ) → among lo hi f ≡ false → (ds : List Bytes) (l : Item) → last_from lo hi l (map (i.bytes f) ds) ≡ l
unfolding last_from
passed lo hi f e [] l = refl
passed lo hi f e (x ∷ ds) l = ap (λ (t : Bool). last_from lo hi (pick t (i.bytes f x) l) (map (i.bytes f) ds)) e ∙ passed lo hi f e ds l

strings_held : (k : ℕ) → leb 16 k ≡ false → (ds : List Bytes) → AllHeld k ds
strings_held k e [] = tt
strings_held k e (x ∷ ds) = (rw e tt, strings_held k e ds)

pub server_hello_back : (x y : Bytes) (l : List Bytes) (e : Bool) → Short (encode_all (d.server_hello_pieces x y l e))
    → ReadsAs 15 (encode_all (d.server_hello_pieces x y l e)) m.server_hello (record { server_id = x; redirect = y; servers = l; subcommands = e })
unfolding kind_of schema takes m.server_hello among bytes_of last_from
server_hello_back x y l e h =
    let ps : List Piece = d.server_hello_pieces x y l e in
    let ok : AllWritable ps = ((omega arith, omega arith), ((omega arith, omega arith), ((omega arith, omega arith), (((omega arith, omega arith), flag_fits e), tt)))) in
    let a = bytes_field_lem ps ok h 1 x (ap bytes_of (passed 1 1 3 refl l (pick (eqb (length x) 0) none (i.bytes 1 x))) ∙ bytes_held 1 x) in
    let b = bytes_field_lem ps ok h 2 y (ap bytes_of (passed 2 2 3 refl l (pick (eqb (length y) 0) none (i.bytes 2 y))) ∙ bytes_held 2 y) in
    let c = every_back ps ok h 3 ∙ append-nil l in
    let f = flag_field ps ok h 4 e (ap (λ (n : Item). number_of (pick (eqb (flag e) 0) n (i.number 4 (flag e)))) (passed 4 4 3 refl l none) ∙ number_held 4 (flag e)) in
    record {
      fine = pieces_pass 15 (omega arith) ps ok ((refl, tt), ((refl, tt), ((refl, strings_held 4 refl l), (refl, tt)))) h;
      means = λ j. record { server_id = a j; redirect = b j; servers = c j; subcommands = f j };
    }

-- ---- entries

pub strings_back : (ds : List Bytes) → Short (encode_all (d.string_list_pieces ds)) → ReadsAs 12 (encode_all (d.string_list_pieces ds)) m.string_list ds
unfolding kind_of schema takes m.string_list
strings_back ds h =
    let ps : List Piece = d.string_list_pieces ds in
    let ok : AllWritable ps = ((omega arith, omega arith), tt) in
    record { fine = pieces_pass 12 (omega arith) ps ok ((refl, strings_held 4 refl ds), tt) h; means = every_back ps ok h 1 ∙ append-nil ds }

pub numbers_back : (vs : List ℕ) → AllFit vs → Short (encode_all (d.number_list_pieces vs))
    → ReadsAs 13 (encode_all (d.number_list_pieces vs)) m.number_list (map int64 vs)
unfolding kind_of schema takes m.number_list piece_items
numbers_back vs l h =
    let ps : List Piece = d.number_list_pieces vs in
    let ok : AllWritable ps = ((omega arith, omega arith), tt) in
    let e = fields_back ps ok h ∙ append-nil (piece_items (text 1 (packed vs))) in
    record {
      fine = pieces_pass 13 (omega arith) ps ok ((refl, packed_passes vs l), tt) h;
      means = ap (λ (is : List Item). map int64 (numbers_of is)) e ∙ ap (map int64) (numbers_held (packed vs) ∙ packed_back vs l);
    }

-- a message's bytes are no longer than the piece that holds them
pub held_short : (a b : Bytes) (f : ℕ) (x : Bytes) → Short (a ++ (encode (bytes f x) ++ b)) → Short x
unfolding encode
held_short a b f x h =
    omega (arith, length-append a ((w.head f (length x) ++ x) ++ b), length-append (w.head f (length x) ++ x) b, length-append (w.head f (length x)) x)

pub entry_back : (key : Bytes) (v : EntryDraft) → EntryParts v → Short (encode_all (d.entry_pieces key v))
    → ReadsAs 11 (encode_all (d.entry_pieces key v)) m.entry (d.meant_entry key v)
unfolding kind_of schema takes m.entry m.value_of d.value_piece d.meant_value among
entry_back key (d.numval v) l h =
    let ps : List Piece = d.entry_pieces key (d.numval v) in
    let ok : AllWritable ps = ((omega arith, omega arith), (((omega arith, omega arith), l), tt)) in
    let a = bytes_field_lem ps ok h 1 key (bytes_held 1 key) in
    let b = ap m.value_of (last_back ps ok h 2 5) in
    record { fine = pieces_pass 11 (omega arith) ps ok ((refl, tt), (refl, tt)) h; means = λ j. record { key = a j; value = b j } }
entry_back key (d.strval x) l h =
    let ps : List Piece = d.entry_pieces key (d.strval x) in
    let ok : AllWritable ps = ((omega arith, omega arith), ((omega arith, omega arith), tt)) in
    let a = bytes_field_lem ps ok h 1 key (bytes_held 1 key) in
    let b = ap m.value_of (last_back ps ok h 2 5) in
    record { fine = pieces_pass 11 (omega arith) ps ok ((refl, tt), ((refl, tt), tt)) h; means = λ j. record { key = a j; value = b j } }
entry_back key (d.strlistval ds) l h =
    let ps : List Piece = d.entry_pieces key (d.strlistval ds) in
    let ok : AllWritable ps = ((omega arith, omega arith), ((omega arith, omega arith), tt)) in
    let s = strings_back ds (held_short (encode (text 1 key)) [] 4 (encode_all (d.string_list_pieces ds)) h) in
    let a = bytes_field_lem ps ok h 1 key (bytes_held 1 key) in
    let b = ap m.value_of (last_back ps ok h 2 5) ∙ ap m.strlistval s.means in
    record { fine = pieces_pass 11 (omega arith) ps ok ((refl, tt), ((refl, s.fine), tt)) h; means = λ j. record { key = a j; value = b j } }
entry_back key (d.numlistval vs) l h =
    let ps : List Piece = d.entry_pieces key (d.numlistval vs) in
    let ok : AllWritable ps = ((omega arith, omega arith), ((omega arith, omega arith), tt)) in
    let s = numbers_back vs l (held_short (encode (text 1 key)) [] 5 (encode_all (d.number_list_pieces vs)) h) in
    let a = bytes_field_lem ps ok h 1 key (bytes_held 1 key) in
    let b = ap m.value_of (last_back ps ok h 2 5) ∙ ap m.numlistval s.means in
    record { fine = pieces_pass 11 (omega arith) ps ok ((refl, tt), ((refl, s.fine), tt)) h; means = λ j. record { key = a j; value = b j } }
