-- The last field of some numbers, by its place, is the last item of these numbers, by what it holds.
use Prim.Native.Nat.{ℕ}
use mathlib.Core.Path.{◌≡◌, refl, sym, ap, ◌∙◌}
use mathlib.Core.List.{List, [], ◌∷◌, map}
use mathlib.Core.Bool.{Bool, true, false}
use Rattle.std.specs.Prelude.{Option, Some, None}
use Rattle.base_laws.specs.Base.{pick, part}
use Rattle.wire_fields.specs.Fields.{among, later, last_of, last_in, fields_of, number_from, start_from, end_from, number_in, span_in}
use Rattle.wire_fields.specs.Items.{Item, none, number, bytes, item_of, items, last_from, last_item, number_of, bytes_of}
use Rattle.wire_fields.specs.declared.Field.{Field}
use Rattle.wire_fields.specs.declared.Field.TheVariants as field
use Rattle.wire_fields.specs.declared.Last.{Last}
use Rattle.wire_fields.specs.declared.Last.TheVariants as last

module _ (s : List ℕ) where
  -- what the field at a place holds
  abbrev pub content_of : Option Last → Item
  content_of None = none
  content_of (Some (last.Number f v)) = number f v
  content_of (Some (last.Part f a e)) = bytes f (part s a e)

  spread : (t : Bool) (a b : Option Last) → content_of (pick t a b) ≡ pick t (content_of a) (content_of b)
  spread true a b = refl
  spread false a b = refl

  module _ (lo hi : ℕ) where
    one : (l : Option Last) (e : Field) (is : List Item) → last_from lo hi (content_of (later lo hi l e)) is ≡ last_from lo hi (content_of l) (item_of s e ∷ is)
    unfolding later last_from
    one l (field.Number f v n) is = rw (spread (among lo hi f) (Some (last.Number f v)) l)
    one l (field.Fixed f n) is = refl
    one l (field.Part f a e) is = rw (spread (among lo hi f) (Some (last.Part f a e)) l)

    all : (l : Option Last) (es : List Field) → content_of (last_of lo hi l es) ≡ last_from lo hi (content_of l) (map (item_of s) es)
    unfolding last_of last_from
    all l [] = refl
    all l (e ∷ es) = all (later lo hi l e) es ∙ one l e (map (item_of s) es)

    pub last_means : content_of (last_in lo hi s) ≡ last_item lo hi (items s)
    unfolding items
    last_means = all None (fields_of s)

  -- the same by what last_in answered, l, and what that is
  pub last_is_lem : (lo hi : ℕ) {l x : Option Last} → l ≡ last_in lo hi s → l ≡ x → content_of x ≡ last_item lo hi (items s)
  last_is_lem lo hi e is = ap content_of (sym is ∙ e) ∙ last_means lo hi

  number_of_lem : (l : Option Last) → number_from l ≡ number_of (content_of l)
  unfolding number_from number_of
  number_of_lem None = refl
  number_of_lem (Some (last.Number f v)) = refl
  number_of_lem (Some (last.Part f a e)) = refl

  bytes_of_lem : (l : Option Last) → part s (start_from l) (end_from l) ≡ bytes_of (content_of l)
  unfolding start_from end_from bytes_of
  bytes_of_lem None = refl
  bytes_of_lem (Some (last.Number f v)) = refl
  bytes_of_lem (Some (last.Part f a e)) = refl

  -- a field's number is that of its item
  pub number_means : (f : ℕ) → number_in f s ≡ number_of (last_item f f (items s))
  number_means f = number_of_lem (last_in f f s) ∙ ap number_of (last_means f f)

  -- the bytes at a field's place are those of its item
  pub bytes_means : (f : ℕ) → part s (span_in f s).start (span_in f s).end ≡ bytes_of (last_item f f (items s))
  bytes_means f = bytes_of_lem (last_in f f s) ∙ ap bytes_of (last_means f f)
