-- The values that written pieces hold: the last one of a number, and every one.
use Prim.Native.Nat.{ℕ, ◌^◌, ◌<◌}
use native.Mathlib.Omega.{arith}
use mathlib.Core.Path.{◌≡◌, refl, sym, ap, ◌∙◌}
use mathlib.Core.List.{List, [], ◌∷◌, ◌++◌, map}
use mathlib.Core.Bool.{Bool, true, false}
use lib.ListN.{length}
use lib.Dec.{eqb}
use borrow.Author.Tests.{eqb-true}
use Rattle.base_laws.specs.Base.{pick}
use Rattle.wire_fields.specs.Fields.{among}
use Rattle.wire_fields.specs.Items as i
use Rattle.wire_fields.specs.Items.{Item, none, items, last_from, number_of, bytes_of, every_bytes}
use Rattle.write_forms.specs.Pieces.{Piece, number, some, bytes, text, list, run, encode_all}
use Rattle.write_forms.specs.RoundTrip.{piece_items, items_of, AllWritable}
use Rattle.write_forms.proofs.Pieces.{fields_back}

-- ---- the last item whose number is from lo to hi

module _ (lo hi : ℕ) where
  -- after one more piece
  abbrev pub latest : Item → Piece → Item
  latest l (number f v) = pick (among lo hi f) (i.number f v) l
  latest l (some f v) = pick (among lo hi f) (pick (eqb v 0) l (i.number f v)) l
  latest l (bytes f d) = pick (among lo hi f) (i.bytes f d) l
  latest l (text f d) = pick (among lo hi f) (pick (eqb (length d) 0) l (i.bytes f d)) l
  latest l (list f ds) = last_from lo hi l (map (i.bytes f) ds)
  latest l (run r) = last_from lo hi l (items r)

  abbrev pub last_piece : Item → List Piece → Item
  last_piece l [] = l
  last_piece l (p ∷ ps) = last_piece (latest l p) ps

  last_joined : (l : Item) (is js : List Item) → last_from lo hi l (is ++ js) ≡ last_from lo hi (last_from lo hi l is) js
  unfolding last_from
  last_joined l [] js = refl
  last_joined l (none ∷ is) js = last_joined l is js
  last_joined l (i.number f v ∷ is) js = last_joined (pick (among lo hi f) (i.number f v) l) is js
  last_joined l (i.bytes f d ∷ is) js = last_joined (pick (among lo hi f) (i.bytes f d) l) is js

  left_out_lem : (t u : Bool) (l x : Item) (is : List Item) → last_from lo hi l is ≡ pick u x l → last_from lo hi l (pick t [] is) ≡ pick u (pick t l x) l
  unfolding last_from
  left_out_lem true true l x is e = refl
  left_out_lem true false l x is e = refl
  left_out_lem false true l x is e = e
  left_out_lem false false l x is e = e

  latest_is : (l : Item) (p : Piece) → last_from lo hi l (piece_items p) ≡ latest l p
  unfolding last_from piece_items
  latest_is l (number f v) = refl
  latest_is l (some f v) = left_out_lem (eqb v 0) (among lo hi f) l (i.number f v) (i.number f v ∷ []) refl
  latest_is l (bytes f d) = refl
  latest_is l (text f d) = left_out_lem (eqb (length d) 0) (among lo hi f) l (i.bytes f d) (i.bytes f d ∷ []) refl
  latest_is l (list f ds) = refl
  latest_is l (run r) = refl

  last_pieces_lem : (l : Item) (ps : List Piece) → last_from lo hi l (items_of ps) ≡ last_piece l ps
  unfolding last_from
  last_pieces_lem l [] = refl
  last_pieces_lem l (p ∷ ps) =
      last_joined l (piece_items p) (items_of ps) ∙ ap (λ (x : Item). last_from lo hi x (items_of ps)) (latest_is l p) ∙ last_pieces_lem (latest l p) ps

-- ---- every item of a number

module _ (f : ℕ) where
  abbrev pub every_piece : List Piece → List (List ℕ)
  every_piece [] = []
  every_piece (number g v ∷ ps) = every_piece ps
  every_piece (some g v ∷ ps) = every_piece ps
  every_piece (bytes g d ∷ ps) = pick (eqb g f) (d ∷ every_piece ps) (every_piece ps)
  every_piece (text g d ∷ ps) = pick (eqb g f) (pick (eqb (length d) 0) [] (d ∷ []) ++ every_piece ps) (every_piece ps)
  every_piece (list g ds ∷ ps) = pick (eqb g f) (ds ++ every_piece ps) (every_piece ps)
  every_piece (run r ∷ ps) = every_bytes f (items r) ++ every_piece ps

  pub every_joined : (is js : List Item) → every_bytes f (is ++ js) ≡ every_bytes f is ++ every_bytes f js
  unfolding every_bytes
  every_joined [] js = refl
  every_joined (none ∷ is) js = every_joined is js
  every_joined (i.number g v ∷ is) js = every_joined is js
  every_joined (i.bytes g d ∷ is) js = go (eqb g f) (every_joined is js)
    where
      go : (t : Bool) → every_bytes f (is ++ js) ≡ every_bytes f is ++ every_bytes f js
          → pick t (d ∷ every_bytes f (is ++ js)) (every_bytes f (is ++ js)) ≡ pick t (d ∷ every_bytes f is) (every_bytes f is) ++ every_bytes f js
      go true e = ap (λ (l : List (List ℕ)). d ∷ l) e
      go false e = e

  listed : (g : ℕ) (ds : List (List ℕ)) → every_bytes f (map (i.bytes g) ds) ≡ pick (eqb g f) ds []
  unfolding every_bytes
  listed g ds = all ds (eqb g f) refl
    where
      all : (es : List (List ℕ)) (t : Bool) → eqb g f ≡ t → every_bytes f (map (i.bytes g) es) ≡ pick t es []
      all [] true e = refl
      all [] false e = refl
      all (d ∷ es) true e = rw e (ap (λ (l : List (List ℕ)). d ∷ l) (all es true e))
      all (d ∷ es) false e = rw e (all es false e)

  spread : (t : Bool) (a b rest : List (List ℕ)) → pick t a b ++ rest ≡ pick t (a ++ rest) (b ++ rest)
  spread true a b rest = refl
  spread false a b rest = refl

  optional : (t : Bool) (g v : ℕ) → every_bytes f (pick t [] (i.number g v ∷ [])) ≡ []
  unfolding every_bytes
  optional true g v = refl
  optional false g v = refl

  optional_bytes : (t : Bool) (g : ℕ) (d : List ℕ) → every_bytes f (pick t [] (i.bytes g d ∷ [])) ≡ pick (eqb g f) (pick t [] (d ∷ [])) []
  unfolding every_bytes
  optional_bytes true g d = go (eqb g f)
    where
      go : (t : Bool) → ◌≡◌ {A = List (List ℕ)} [] (pick t [] [])
      go true = refl
      go false = refl
  optional_bytes false g d = refl

  every_pieces : (ps : List Piece) → every_bytes f (items_of ps) ≡ every_piece ps
  unfolding every_bytes piece_items
  every_pieces [] = refl
  every_pieces (number g v ∷ ps) = every_pieces ps
  every_pieces (some g v ∷ ps) = every_joined (pick (eqb v 0) [] (i.number g v ∷ [])) (items_of ps) ∙ rw (optional (eqb v 0) g v) (every_pieces ps)
  every_pieces (bytes g d ∷ ps) = ap (λ (l : List (List ℕ)). pick (eqb g f) (d ∷ l) l) (every_pieces ps)
  every_pieces (text g d ∷ ps) =
      every_joined (pick (eqb (length d) 0) [] (i.bytes g d ∷ [])) (items_of ps)
      ∙ ap (λ (l : List (List ℕ)). l ++ every_bytes f (items_of ps)) (optional_bytes (eqb (length d) 0) g d)
      ∙ spread (eqb g f) (pick (eqb (length d) 0) [] (d ∷ [])) [] (every_bytes f (items_of ps))
      ∙ ap (λ (l : List (List ℕ)). pick (eqb g f) (pick (eqb (length d) 0) [] (d ∷ []) ++ l) l) (every_pieces ps)
  every_pieces (list g ds ∷ ps) =
      every_joined (map (i.bytes g) ds) (items_of ps)
      ∙ ap (λ (l : List (List ℕ)). l ++ every_bytes f (items_of ps)) (listed g ds)
      ∙ spread (eqb g f) ds [] (every_bytes f (items_of ps))
      ∙ ap (λ (l : List (List ℕ)). pick (eqb g f) (ds ++ l) l) (every_pieces ps)
  every_pieces (run r ∷ ps) = every_joined (items r) (items_of ps) ∙ ap (λ (l : List (List ℕ)). every_bytes f (items r) ++ l) (every_pieces ps)

-- ---- the fields of a written message

module _ (ps : List Piece) (w : AllWritable ps) (h : length (encode_all ps) < 2 ^ 64) where
  pub last_back : (lo hi : ℕ) → last_from lo hi none (items (encode_all ps)) ≡ last_piece lo hi none ps
  last_back lo hi = ap (λ (is : List Item). last_from lo hi none is) (fields_back ps w h) ∙ last_pieces_lem lo hi none ps

  pub every_back : (f : ℕ) → every_bytes f (items (encode_all ps)) ≡ every_piece f ps
  every_back f = ap (λ (is : List Item). every_bytes f is) (fields_back ps w h) ∙ every_pieces f ps

-- a number that may be left out, and bytes that may be
pub number_held : (f v : ℕ) → number_of (pick (eqb v 0) none (i.number f v)) ≡ v
unfolding number_of
number_held f v = go (eqb v 0) refl
  where
    go : (t : Bool) → eqb v 0 ≡ t → number_of (pick t none (i.number f v)) ≡ v
    go true e = sym (eqb-true v 0 e)
    go false e = refl

pub bytes_held : (f : ℕ) (d : List ℕ) → bytes_of (pick (eqb (length d) 0) none (i.bytes f d)) ≡ d
unfolding bytes_of
bytes_held f [] = refl
bytes_held f (x ∷ d) = go (eqb (length (x ∷ d)) 0) refl
  where
    go : (t : Bool) → eqb (length (x ∷ d)) 0 ≡ t → bytes_of (pick t none (i.bytes f (x ∷ d))) ≡ x ∷ d
    go true e = let z = eqb-true (length (x ∷ d)) 0 e in absurd (omega arith)
    go false e = refl
