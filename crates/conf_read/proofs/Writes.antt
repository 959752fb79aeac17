-- The second pass: what is written for a line. Assumes nothing.
use mathlib.Core.Path.{◌≡◌, refl, ap, ◌∙◌}
use mathlib.Core.List.{List, [], ◌∷◌, ◌++◌}
use mathlib.Core.Bool.{Bool, true, false}
use Prim.Native.Nat.{ℕ, ◌+◌, ◌≤◌, ◌<◌}
use native.Mathlib.Omega.{arith}
use lib.ListN.{length, length-append}
use Rattle.base_laws.specs.Base.{pick}
use Rattle.base_copy.specs.Put.{Put}
use Rattle.base_copy.proofs.Puts.{nothing}
use Rattle.conf_lines.specs.Lines.{Bytes}
use Rattle.conf_lines.specs.Span.{spanned}
use Rattle.conf_lines.specs.declared.cursor.Cursor.{Cursor}
use Rattle.conf_lines.specs.declared.span.Span.{Span}
use Rattle.conf_content.specs.declared.LineRead.{LineRead}
use Rattle.conf_content.specs.declared.Shape.TheVariants.{Header, Setting}
use Rattle.conf_content.specs.declared.Malformed.{Malformed}
use Rattle.std.specs.Prelude.{Some, None, Ok, Err}
use Rattle.conf_read.specs.declared.refusal.ConfRefusal.TheVariants.{NoSection, BadValue}
use Rattle.conf_read.specs.declared.refusal.ConfRefusal.TheVariants as refusal
use Rattle.conf_typed.specs.Typed.{lower, section_of, typed_of}
use Rattle.conf_typed.specs.declared.Section.{Section}
use Rattle.conf_list.specs.Listing.{entry, listing}
use Rattle.conf_list.specs.Entry.{setting_of}
use Rattle.conf_read.specs.Config.{Statement, sets, refuses, is_unknown, is_wrong, setting_in, on_content}
use Rattle.conf_read.specs.Passes.{ahead, LineAt, Sets, Good, listed, Wrote}
use Rattle.conf_read.specs.declared.Written.{Written}

-- a statement that is no refusal is the setting
sets_it : (n : ℕ) (s : Section) (k v : Bytes) → Sets (setting_in n s k v) → setting_in n s k v ≡ sets (record { section = s; key = lower k; value = v })
unfolding setting_in
sets_it n s k v = go (is_unknown s) (is_wrong (typed_of s (lower k) v))
  where
    go : (a b : Bool) → Sets (pick a (refuses NoSection n) (pick b (refuses BadValue n) (sets (record { section = s; key = lower k; value = v }))))
        → pick a (refuses NoSection n) (pick b (refuses BadValue n) (sets (record { section = s; key = lower k; value = v }))) ≡ sets (record { section = s; key = lower k; value = v })
    go true b h = absurd h
    go false true h = absurd h
    go false false h = refl

-- ---- what a line read says, by its shape

module _ {s : Bytes} {c : Cursor} {r : LineRead} (l : LineAt s c r) (t : Section) where
  pub empty_says : r.shape ≡ Ok None → ahead s c t ≡ ahead s r.next t
  unfolding on_content
  empty_says e = l.says t ∙ rw e

  pub header_says : {n : Span} {u : Section} → r.shape ≡ Ok (Some (Header n)) → u ≡ section_of (lower (spanned s n)) → ahead s c t ≡ ahead s r.next u
  unfolding on_content
  header_says e h = l.says t ∙ rw (e, h)

  pub setting_says : {k v : Span} → r.shape ≡ Ok (Some (Setting k v)) → ahead s c t ≡ setting_in (c.feeds + 1) t (spanned s k) (spanned s v) ∷ ahead s r.next t
  unfolding on_content
  setting_says e = l.says t ∙ rw e

  pub bad_says : {x : Malformed} → r.shape ≡ Err x → Good (ahead s c t) → ⊥
  unfolding on_content
  bad_says e g =
      let h : ahead s c t ≡ refuses refusal.Malformed (c.feeds + 1) ∷ ahead s r.next t = l.says t ∙ rw e in
      let k : Good (refuses refusal.Malformed (c.feeds + 1) ∷ ahead s r.next t) = rw h at g in k.0

-- ---- what is written for it

-- a line that says nothing, or opens a section: `t` is open behind it
module _ (out s : Bytes) (w : Written) (d : Cursor) (t : Section) (m : w.cursor.at < d.at) (g : Good (ahead s w.cursor w.section)) where
  pub passes : ahead s w.cursor w.section ≡ ahead s d t → w.at ≤ length out → Wrote out s w out (record { at = w.at; cursor = d; section = t })
  passes e h =
      record {
        bytes = [];
        put = nothing out w.at h;
        rest = ap (λ (ss : List Statement). listing (listed ss)) e;
        good = rw e at g;
        moved = m;
      }

-- a setting
module _ (s : Bytes) (w : Written) (d : Cursor) (k v : Span)
    (says : ahead s w.cursor w.section ≡ setting_in (w.cursor.feeds + 1) w.section (spanned s k) (spanned s v) ∷ ahead s d w.section)
    (g : Good (ahead s w.cursor w.section)) where
  both_good : Good (setting_in (w.cursor.feeds + 1) w.section (spanned s k) (spanned s v) ∷ ahead s d w.section)
  both_good = rw says at g

  one : ahead s w.cursor w.section ≡ sets (setting_of s w.section k v) ∷ ahead s d w.section
  one =
      says
      ∙ ap (λ (x : Statement). x ∷ ahead s d w.section) (sets_it (w.cursor.feeds + 1) w.section (spanned s k) (spanned s v) both_good.0)

  rest_is : listing (listed (ahead s w.cursor w.section)) ≡ entry (setting_of s w.section k v) ++ listing (listed (ahead s d w.section))
  unfolding listed listing
  rest_is = ap (λ (ss : List Statement). listing (listed ss)) one

  pub room_for_lem : {n : ℕ} → w.at + length (listing (listed (ahead s w.cursor w.section))) ≤ n → w.at + length (entry (setting_of s w.section k v)) ≤ n
  room_for_lem {n} h =
      omega (arith, h, ap length rest_is, length-append (entry (setting_of s w.section k v)) (listing (listed (ahead s d w.section))))

  pub writes : {out out' : Bytes} {at : ℕ} → w.cursor.at < d.at → Put out w.at (entry (setting_of s w.section k v)) out' at
      → Wrote out s w out' (record { at = at; cursor = d; section = w.section })
  writes m p = record { bytes = entry (setting_of s w.section k v); put = p; rest = rest_is; good = both_good.1; moved = m }
