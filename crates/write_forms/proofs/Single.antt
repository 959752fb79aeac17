-- What is written reads back: a varint, a tag, and one field by itself.
use Prim.Native.Nat.{ℕ, zero, suc, ◌+◌, ◌-◌, ◌*◌, ◌/◌, ◌%◌, ◌^◌, ◌≤◌, ◌<◌}
use native.Mathlib.Omega.{arith}
use native.Mathlib.Nat.{zero-add, add-zero}
use mathlib.Core.Path.{◌≡◌, refl, sym, subst, ap, ◌∙◌}
use mathlib.Core.List.{List, [], ◌∷◌, ◌++◌, map}
use mathlib.Core.Bool.{Bool, true, false}
use mathlib.Core.Logic.{⊎_elim}
use lib.ListN.{length, length-append}
use lib.Dec.{leb}
use borrow.Author.Tests.{lt-ltb, le-ltb, le-leb, ne_eqb}
use Rattle.base_laws.specs.Base.{pick, part}
use Rattle.base_laws.proofs.Order.{lt_or_le}
use Rattle.wire_varint.specs.Varint as r
use Rattle.wire_varint.specs.Varint.{varint_at}
use Rattle.wire_schema.specs.Schema.{kind_of, takes}
use Rattle.wire_value.specs.Field.{number_read, as_number, part_of, as_part, payload_at}
use Rattle.wire_varint.specs.Tag.{tag_fits, tag_of, tag_at}
use Rattle.wire_check_field.specs.Check.{step_of, step_read, step_from, step_at}
use Rattle.wire_check_field.specs.Check.{check_of}
use Rattle.wire_fields.specs.Fields.{field_with, field_of, field_from, field_at, on_field, fields_at}
use Rattle.wire_fields.specs.Items.{number, bytes, item_of, items}
use Rattle.wire_check_field.proofs.Walk.{field_tag, span}
use Rattle.wire_value.specs.declared.Payload.{Payload}
use Rattle.wire_value.specs.declared.Payload.TheVariants as payload
use Rattle.wire_check_field.specs.declared.Step.TheVariants as step
use Rattle.std.specs.Prelude.{Option, Some, Ok}
use Rattle.wire_fields.specs.declared.Field.{Field}
use Rattle.wire_fields.specs.declared.Field.TheVariants as field
use Rattle.wire_varint.proofs.Varints.{last_fits, ends, goes_on, lim}
use Rattle.wire_fields.proofs.Reach.{TagRead, tag_at_lem}
use Rattle.wire_fields.proofs.Follow.{follow, none}
use Rattle.write_forms.specs.Pieces as w
use Rattle.write_forms.specs.Pieces.{varint, head}
use Rattle.write_forms.proofs.Moves.{in_bounds_first, in_bounds_second, varint_moves, tag_moves}
use Rattle.write_forms.proofs.Chains.{done, more, over, into, passes}
use Rattle.write_forms.proofs.Joined.{Whole}

short : (k v : ℕ) → v < 128 → w.shortest_from (suc k) v ≡ v ∷ []
unfolding w.shortest_from
short k v h = simp (lt-ltb _ _ h)

long : (k v : ℕ) → 128 ≤ v → w.shortest_from (suc k) v ≡ (v % 128 + 128) ∷ w.shortest_from k (v / 128)
unfolding w.shortest_from
long k v h = simp (le-ltb _ _ h)

-- a low byte, and the rest read back
low_byte : (k v : ℕ) (rest : List ℕ) → 128 ≤ v → r.varint_from k rest 0 ≡ r.read (v / 128) (length rest)
    → r.varint_from (suc k) ((v % 128 + 128) ∷ rest) 0 ≡ r.read v (length ((v % 128 + 128) ∷ rest))
low_byte k v rest l h =
    let b : ℕ = v % 128 + 128 in
    let s : List ℕ = b ∷ rest in
    let q : r.varint_from k s 1 ≡ r.read (v / 128) (1 + length rest) = varint_moves (in_bounds_second (b ∷ []) rest) k 0 (v / 128) (length rest) h in
    let e : b - 128 + 128 * (v / 128) ≡ v = omega arith in
    let n : 1 + length rest ≡ length s = omega arith in
    sym (goes_on s 0 (suc k) k refl (omega arith) (omega arith)) ∙ rw (q, e, n)

back : (k v : ℕ) → v < lim k → r.varint_from k (w.shortest_from k v) 0 ≡ r.read v (length (w.shortest_from k v))
unfolding lim w.shortest_from
back zero v h = sym (last_fits (v ∷ []) 0 0 refl (omega arith) (omega arith))
back (suc k) v h =
    ⊎_elim
    (λ (l : v < 128). rw (short k v l) (sym (ends (v ∷ []) 0 (suc k) (omega arith) (omega arith) l)))
    (λ (l : 128 ≤ v). rw (long k v l) (low_byte k v (w.shortest_from k (v / 128)) l (back k (v / 128) (omega arith))))
    (lt_or_le v 128)

pub varint_back : (v : ℕ) → v < 2 ^ 64 → varint_at (varint v) 0 ≡ r.read v (length (varint v))
unfolding lim
varint_back v h = back 9 v h

fits : (t : ℕ) → 8 ≤ t → t < 2 ^ 32 → t % 8 ≤ 2 → tag_fits t ≡ true
unfolding tag_fits
fits t h l i = let m : t ≤ 4294967295 = omega arith in let f : 1 ≤ t / 8 = omega arith in rw (le-leb _ _ m, le-leb _ _ f, le-leb _ _ i)

tag_back : (f u t : ℕ) → 1 ≤ f → f < 2 ^ 29 → u ≤ 2 → t ≡ f * 8 + u → tag_at (varint t) 0 ≡ field_tag f u (length (varint t))
unfolding tag_at tag_of
tag_back f u t h l i e =
    let d : t / 8 ≡ f = omega arith in
    let m : t % 8 ≡ u = omega arith in
    rw (varint_back t (omega arith), fits t (omega arith) (omega arith) (omega arith), d, m)

-- s is one field f of the wire type u, whose value is q
pub record Single (f u : ℕ) (s : List ℕ) (q : Payload) : Type 0 where
  pub value : ℕ
  pub tagged : tag_at s 0 ≡ field_tag f u value
  pub holds : payload_at s 0 value u ≡ Ok q

pub single_number : (f v : ℕ) → 1 ≤ f → f < 2 ^ 29 → v < 2 ^ 64
    → Single f 0 (varint (f * 8) ++ varint v) (payload.Number (record { value = v; next = length (varint (f * 8) ++ varint v) }))
unfolding payload_at number_read as_number
single_number f v h l i =
    let G : List ℕ = varint (f * 8) in
    let N : List ℕ = varint v in
    let a : varint_at (G ++ N) (length G) ≡ r.read v (length G + length N) =
    rw add-zero at (varint_moves (in_bounds_second G N) 9 0 v (length N) (varint_back v i)) in
    record {
      value = length G;
      tagged = rw (zero-add (length G)) at (tag_moves (in_bounds_first G N) 0 f 0 (length G) (tag_back f 0 (f * 8) h l (omega arith) (omega arith)));
      holds = rw (a, ← length-append G N);
    }

pub single_bytes : (f : ℕ) (d : List ℕ) → 1 ≤ f → f < 2 ^ 29 → length d < 2 ^ 64
    → Single f 2 (head f (length d) ++ d) (payload.Part (span (length (head f (length d))) (length (head f (length d) ++ d))))
unfolding payload_at part_of as_part head
single_bytes f d h l i =
    let G : List ℕ = varint (f * 8 + 2) in
    let N : List ℕ = varint (length d) in
    let H : List ℕ = G ++ N in
    let a : tag_at H 0 ≡ field_tag f 2 (length G) =
    rw (zero-add (length G)) at (tag_moves (in_bounds_first G N) 0 f 2 (length G) (tag_back f 2 (f * 8 + 2) h l (omega arith) (omega arith))) in
    let b : varint_at H (length G) ≡ r.read (length d) (length H) =
    rw (add-zero, ← length-append G N) at (varint_moves (in_bounds_second G N) 9 0 (length d) (length N) (varint_back (length d) i)) in
    let c : varint_at (H ++ d) (length G) ≡ r.read (length d) (length H) =
    rw (zero-add (length G), zero-add (length H)) at (varint_moves (in_bounds_first H d) 9 (length G) (length d) (length H) b) in
    let n : length (H ++ d) ≡ length H + length d = length-append H d in
    let j : length d ≤ length (H ++ d) - length H = omega arith in
    record {
      value = length G;
      tagged = rw (zero-add (length G)) at (tag_moves (in_bounds_first H d) 0 f 2 (length G) a);
      holds = rw (c, le-leb _ _ j, ← n);
    }

-- ---- what it means to the reader

module _ {f u : ℕ} {s : List ℕ} {q : Payload} (h : Single f u s q) where
  pub positive : 0 < length s
  positive = let t = subst (TagRead s 0) h.tagged (tag_at_lem s 0) in omega arith

  pub field_is : field_at s 0 ≡ Some (field_with f q)
  unfolding field_at field_from field_of
  field_is = rw (h.tagged, h.holds)

  pub step_is : (m : ℕ) → (m ≡ 16 → ⊥) → takes (kind_of m f) u ≡ true → step_at m s 0 ≡ Ok (step_of (kind_of m f) q)
  unfolding step_at step_from step_read
  step_is m real t = rw (ne_eqb m 16 real, h.tagged, t, h.holds)

-- a number of the message m
pub number_passes : (m f v : ℕ) (s : List ℕ) → (m ≡ 16 → ⊥) → Single f 0 s (payload.Number (record { value = v; next = length s })) → takes (kind_of m f) 0 ≡ true → check_of m s ≡ Ok tt
unfolding step_of
number_passes m f v s real h t = passes m s (more (positive h) (omega arith) (over (step_is h m real t)) done)

-- bytes of the message m: an embedded message, or packed numbers, have to pass in turn
pub bytes_pass : (m f a : ℕ) (s : List ℕ) → (m ≡ 16 → ⊥) → a ≤ length s → Single f 2 s (payload.Part (span a (length s))) → takes (kind_of m f) 2 ≡ true
    → (leb 16 (kind_of m f) ≡ true → check_of (kind_of m f - 16) (part s a (length s)) ≡ Ok tt) → check_of m s ≡ Ok tt
unfolding step_of
bytes_pass m f a s real l h t c = go (leb 16 (kind_of m f)) refl (step_is h m real t)
  where
    go : (b : Bool) → leb 16 (kind_of m f) ≡ b → step_at m s 0 ≡ Ok (pick b (step.Inside (kind_of m f - 16) a (length s)) (step.Next (length s))) → check_of m s ≡ Ok tt
    go true e x = passes m s (more (positive h) (omega arith) (into l x (c e)) done)
    go false e x = passes m s (more (positive h) (omega arith) (over x) done)

pub number_whole : (f v : ℕ) (s : List ℕ) → Single f 0 s (payload.Number (record { value = v; next = length s })) → Whole s
unfolding field_with
number_whole f v s h =
    more (positive h) (omega arith) (record { field = _; taken = field_is h; ends = refl }) done

pub bytes_whole : (f a : ℕ) (s : List ℕ) → Single f 2 s (payload.Part (span a (length s))) → Whole s
unfolding field_with
bytes_whole f a s h =
    more (positive h) (omega arith) (record { field = _; taken = field_is h; ends = refl }) done

number_item : (f v : ℕ) (s : List ℕ) → Single f 0 s (payload.Number (record { value = v; next = length s })) → items s ≡ number f v ∷ []
unfolding items field_with on_field
number_item f v s h =
    ap (map (item_of s)) (follow s 0 (positive h) ∙ ap (λ (e : Option Field). on_field (fields_at s) e) (field_is h) ∙ ap (λ (es : List Field). field.Number f v (length s) ∷ es) (none s (length s) (omega arith)))

bytes_item : (f a : ℕ) (s : List ℕ) → Single f 2 s (payload.Part (span a (length s))) → items s ≡ bytes f (part s a (length s)) ∷ []
unfolding items field_with on_field
bytes_item f a s h =
    ap (map (item_of s)) (follow s 0 (positive h) ∙ ap (λ (e : Option Field). on_field (fields_at s) e) (field_is h) ∙ ap (λ (es : List Field). field.Part f a (length s) ∷ es) (none s (length s) (omega arith)))

-- the bytes of the field f are those written
pub held : (f : ℕ) (d : List ℕ) → part (head f (length d) ++ d) (length (head f (length d))) (length (head f (length d) ++ d)) ≡ d
held f d = rw (length-append (head f (length d)) d) (in_bounds_second (head f (length d)) d).same

module _ (f : ℕ) (h : 1 ≤ f) (l : f < 2 ^ 29) where
  pub number_back : (v : ℕ) → v < 2 ^ 64 → items (varint (f * 8) ++ varint v) ≡ number f v ∷ []
  number_back v i = number_item f v (varint (f * 8) ++ varint v) (single_number f v h l i)

  pub bytes_back : (d : List ℕ) → length d < 2 ^ 64 → items (head f (length d) ++ d) ≡ bytes f d ∷ []
  bytes_back d i = bytes_item f (length (head f (length d))) (head f (length d) ++ d) (single_bytes f d h l i) ∙ ap (λ (x : List ℕ). bytes f x ∷ []) (held f d)

  module _ (m : ℕ) (real : m ≡ 16 → ⊥) where
    pub number_checks : (v : ℕ) → v < 2 ^ 64 → takes (kind_of m f) 0 ≡ true → check_of m (varint (f * 8) ++ varint v) ≡ Ok tt
    number_checks v i t = number_passes m f v (varint (f * 8) ++ varint v) real (single_number f v h l i) t

    pub bytes_check : (d : List ℕ) → length d < 2 ^ 64 → takes (kind_of m f) 2 ≡ true → (leb 16 (kind_of m f) ≡ true → check_of (kind_of m f - 16) d ≡ Ok tt)
        → check_of m (head f (length d) ++ d) ≡ Ok tt
    bytes_check d i t c =
        let s : List ℕ = head f (length d) ++ d in
        let n : length (head f (length d)) ≤ length s = omega (arith, length-append (head f (length d)) d) in
        bytes_pass m f (length (head f (length d))) s real n (single_bytes f d h l i) t
        (λ e. ap (λ (x : List ℕ). check_of (kind_of m f - 16) x) (held f d) ∙ c e)
