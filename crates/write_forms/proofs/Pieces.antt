-- Written pieces read back, and pass the check of a message that they suit.
use Prim.Native.Nat.{ℕ, ◌-◌, ◌*◌, ◌^◌, ◌<◌}
use native.Mathlib.Omega.{arith}
use mathlib.Core.Path.{◌≡◌, refl, ap, ◌∙◌}
use mathlib.Core.List.{List, [], ◌∷◌, ◌++◌, map}
use mathlib.Core.Bool.{Bool, true, false}
use lib.ListN.{length, length-append}
use lib.Dec.{leb, eqb}
use Rattle.base_laws.specs.Base.{pick}
use Rattle.wire_schema.specs.Schema.{kind_of, takes}
use Rattle.wire_check_field.specs.Check.{check_of}
use Rattle.wire_fields.specs.Items as i
use Rattle.wire_fields.specs.Items.{Item, item_of, items}
use Rattle.std.specs.Prelude.{Ok}
use Rattle.wire_check_field.proofs.Checks.{at_end}
use Rattle.wire_fields.proofs.Follow.{none}
use Rattle.write_forms.specs.Pieces.{Piece, number, some, bytes, text, list, run, varint, head, elements, encode, encode_all}
use Rattle.write_forms.specs.RoundTrip.{piece_items, items_of, Numbered, Writable, AllWritable, Held, AllHeld, Suits, AllSuit}
use Rattle.write_forms.proofs.Chains.{done}
use Rattle.write_forms.proofs.Joined.{Whole, whole_joined, items_joined, check_joined}
use Rattle.write_forms.proofs.Single.{single_number, single_bytes, number_whole, bytes_whole, number_back, bytes_back, number_checks, bytes_check}
use Rattle.write_forms.proofs.Runs.{run_of, run_whole}

-- bytes that are fields to their end, which are read as these items
record Reads (s : List ℕ) (is : List Item) : Type 0 where
  whole : Whole s
  means : items s ≡ is

nothing : Reads [] []
unfolding items
nothing = record { whole = done; means = ap (map (item_of [])) (none [] 0 (omega arith)) }

both_read : (a b : List ℕ) (is js : List Item) → Reads a is → Reads b js → Reads (a ++ b) (is ++ js)
both_read a b is js x y = record {
  whole = whole_joined a b x.whole y.whole;
  means = items_joined a b x.whole y.whole ∙ rw (x.means, y.means);
}

-- what is left out where a test says so
optional : (t : Bool) (s : List ℕ) (is : List Item) → Reads s is → Reads (pick t [] s) (pick t [] is)
optional true s is h = nothing
optional false s is h = h

one_number : (f v : ℕ) → Numbered f → v < 2 ^ 64 → Reads (varint (f * 8) ++ varint v) (i.number f v ∷ [])
one_number f v n h = record {
  whole = number_whole f v _ (single_number f v n.0 n.1 h);
  means = number_back f n.0 n.1 v h;
}

one_bytes : (f : ℕ) (d : List ℕ) → Numbered f → length (head f (length d) ++ d) < 2 ^ 64 → Reads (head f (length d) ++ d) (i.bytes f d ∷ [])
one_bytes f d n h =
    let l : length d < 2 ^ 64 = omega (arith, length-append (head f (length d)) d) in
    record {
      whole = bytes_whole f (length (head f (length d))) (head f (length d) ++ d) (single_bytes f d n.0 n.1 l);
      means = bytes_back f n.0 n.1 d l;
    }

elements_read : (f : ℕ) (ds : List (List ℕ)) → Numbered f → length (elements f ds) < 2 ^ 64 → Reads (elements f ds) (map (i.bytes f) ds)
unfolding elements
elements_read f [] n h = nothing
elements_read f (d ∷ ds) n h =
    let l = length-append (head f (length d) ++ d) (elements f ds) in
    both_read (head f (length d) ++ d) (elements f ds) (i.bytes f d ∷ []) (map (i.bytes f) ds) (one_bytes f d n (omega arith)) (elements_read f ds n (omega arith))

text_read : (t : Bool) (f : ℕ) (d : List ℕ) → Numbered f → length (pick t [] (head f (length d) ++ d)) < 2 ^ 64
    → Reads (pick t [] (head f (length d) ++ d)) (pick t [] (i.bytes f d ∷ []))
text_read true f d n h = nothing
text_read false f d n h = one_bytes f d n h

piece_read : (p : Piece) → Writable p → length (encode p) < 2 ^ 64 → Reads (encode p) (piece_items p)
unfolding encode piece_items
piece_read (number f v) w h = one_number f v w.0 w.1
piece_read (some f v) w h = optional (eqb v 0) _ _ (one_number f v w.0 w.1)
piece_read (bytes f d) w h = one_bytes f d w h
piece_read (text f d) w h = text_read (eqb (length d) 0) f d w h
piece_read (list f ds) w h = elements_read f ds w h
piece_read (run r) w h = record { whole = run_whole w.0 r (run_of w.0 r w.1); means = refl }

pieces_read : (ps : List Piece) → AllWritable ps → length (encode_all ps) < 2 ^ 64 → Reads (encode_all ps) (items_of ps)
pieces_read [] w h = nothing
pieces_read (p ∷ ps) w h =
    let l = length-append (encode p) (encode_all ps) in
    both_read (encode p) (encode_all ps) (piece_items p) (items_of ps) (piece_read p w.0 (omega arith)) (pieces_read ps w.1 (omega arith))

-- WRITTEN FIELDS READ BACK
pub fields_back : (ps : List Piece) → AllWritable ps → length (encode_all ps) < 2 ^ 64 → items (encode_all ps) ≡ items_of ps
fields_back ps w h = (pieces_read ps w h).means

-- ---- the check

module _ (m : ℕ) (real : m ≡ 16 → ⊥) where
  nothing_passes : check_of m [] ≡ Ok tt
  nothing_passes = at_end m [] 0 (omega arith)

  optional_passes : (t : Bool) (s : List ℕ) → check_of m s ≡ Ok tt → check_of m (pick t [] s) ≡ Ok tt
  optional_passes true s h = nothing_passes
  optional_passes false s h = h

  told : (k : ℕ) (d : List ℕ) (t : Bool) → leb 16 k ≡ t → Held t k d → leb 16 k ≡ true → check_of (k - 16) d ≡ Ok tt
  told k d true e h q = h
  told k d false e h q = let z : ◌≡◌ {A = ℕ} 0 1 = cc in absurd (omega arith)

  one_passes : (f : ℕ) (d : List ℕ) → Numbered f → takes (kind_of m f) 2 ≡ true → Held (leb 16 (kind_of m f)) (kind_of m f) d
      → length (head f (length d) ++ d) < 2 ^ 64 → check_of m (head f (length d) ++ d) ≡ Ok tt
  one_passes f d n t c h =
      bytes_check f n.0 n.1 m real d (omega (arith, length-append (head f (length d)) d)) t (told (kind_of m f) d (leb 16 (kind_of m f)) refl c)

  text_passes : (b : Bool) (f : ℕ) (d : List ℕ) → Numbered f → takes (kind_of m f) 2 ≡ true → Held (leb 16 (kind_of m f)) (kind_of m f) d
      → length (pick b [] (head f (length d) ++ d)) < 2 ^ 64 → check_of m (pick b [] (head f (length d) ++ d)) ≡ Ok tt
  text_passes true f d n t c h = nothing_passes
  text_passes false f d n t c h = one_passes f d n t c h

  elements_pass : (f : ℕ) (ds : List (List ℕ)) → Numbered f → takes (kind_of m f) 2 ≡ true → AllHeld (kind_of m f) ds
      → length (elements f ds) < 2 ^ 64 → check_of m (elements f ds) ≡ Ok tt
  unfolding elements
  elements_pass f [] n t c h = nothing_passes
  elements_pass f (d ∷ ds) n t c h =
      let l = length-append (head f (length d) ++ d) (elements f ds) in
      check_joined m (head f (length d) ++ d) (elements f ds) (one_passes f d n t c.0 (omega arith)) (elements_pass f ds n t c.1 (omega arith))

  piece_passes : (p : Piece) → Writable p → Suits m p → length (encode p) < 2 ^ 64 → check_of m (encode p) ≡ Ok tt
  unfolding encode
  piece_passes (number f v) w t h = number_checks f w.0.0 w.0.1 m real v w.1 t
  piece_passes (some f v) w t h = optional_passes (eqb v 0) _ (number_checks f w.0.0 w.0.1 m real v w.1 t)
  piece_passes (bytes f d) w t h = one_passes f d w t.0 t.1 h
  piece_passes (text f d) w t h = text_passes (eqb (length d) 0) f d w t.0 t.1 h
  piece_passes (list f ds) w t h = elements_pass f ds w t.0 t.1 h
  piece_passes (run r) w t h = t

  -- A MESSAGE OF PIECES THAT SUIT IT PASSES ITS CHECK
  pub pieces_pass : (ps : List Piece) → AllWritable ps → AllSuit m ps → length (encode_all ps) < 2 ^ 64 → check_of m (encode_all ps) ≡ Ok tt
  pieces_pass [] w t h = nothing_passes
  pieces_pass (p ∷ ps) w t h =
      let l = length-append (encode p) (encode_all ps) in
      check_joined m (encode p) (encode_all ps) (piece_passes p w.0 t.0 (omega arith)) (pieces_pass ps w.1 t.1 (omega arith))
