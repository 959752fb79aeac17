-- Lists of words that are looked through in their order: the words of a value, the sections that a header can name.
use Prim.Native.Nat.{ℕ, ◌+◌, ◌≤◌, ◌<◌}
use native.Mathlib.Numerals.{add-one}
use mathlib.Core.Path.{◌≡◌, refl, sym, ap, ◌∙◌}
use mathlib.Core.List.{List, [], ◌∷◌, map}
use mathlib.Core.Bool.{true, false}
use lib.ListN.{length, drop, get_or, drop_of_length-le}
use lib.Seq.{drop-cons}
use denote.Bor.{Bor}
use Rattle.base_laws.specs.Base.{pick}
use Rattle.conf_lines.specs.Lines.{Bytes}
use Rattle.conf_typed.specs.Typed.{same, section_name, section_of, one_of}
use Rattle.conf_typed.specs.declared.Section.{Section}
use Rattle.conf_typed.specs.declared.Section.TheVariants.{Server, Relay, Iolog, Eventlog, Syslog, Logfile, Unknown}

next : {A : Type 0} (s : List A) (i : ℕ) (d : A) → i < length s → drop i s ≡ get_or s i d ∷ drop (i + 1) s
next s i d h = drop-cons s i d h ∙ ap (λ (n : ℕ). get_or s i d ∷ drop n s) (sym (add-one i))

-- ---- the words

abbrev pub words : List (Bor (List ℕ)) → List Bytes
words ws = map (λ w. w.now) ws

module _ (v : Bytes) (ws : List (Bor (List ℕ))) (i : ℕ) (d : Bor (List ℕ)) (h : i < length ws) where
  pub word_here : same v (get_or ws i d).now ≡ true → true ≡ one_of v (words (drop i ws))
  unfolding one_of
  word_here e = sym (ap (λ (l : List (Bor (List ℕ))). one_of v (words l)) (next ws i d h) ∙ rw e)

  pub word_behind : same v (get_or ws i d).now ≡ false → one_of v (words (drop (i + 1) ws)) ≡ one_of v (words (drop i ws))
  unfolding one_of
  word_behind e = sym (ap (λ (l : List (Bor (List ℕ))). one_of v (words l)) (next ws i d h) ∙ rw e)

pub no_word : (v : Bytes) (ws : List (Bor (List ℕ))) (i : ℕ) → length ws ≤ i → false ≡ one_of v (words (drop i ws))
unfolding one_of
no_word v ws i h = sym (ap (λ (l : List (Bor (List ℕ))). one_of v (words l)) (drop_of_length-le ws h))

-- ---- the sections

-- the first of these sections that has the name
unfoldable pub first_named : List Section → Bytes → Section
first_named [] n = Unknown
first_named (s ∷ ss) n = pick (same n (section_name s)) s (first_named ss n)

pub named : (n : Bytes) → first_named (Server ∷ Relay ∷ Iolog ∷ Eventlog ∷ Syslog ∷ Logfile ∷ []) n ≡ section_of n
unfolding first_named section_of section_name
named n = refl

module _ (n : Bytes) (ss : List Section) (i : ℕ) (d : Section) (h : i < length ss) where
  pub section_here : same n (section_name (get_or ss i d)) ≡ true → get_or ss i d ≡ first_named (drop i ss) n
  unfolding first_named
  section_here e = sym (ap (λ (l : List Section). first_named l n) (next ss i d h) ∙ rw e)

  pub section_behind : same n (section_name (get_or ss i d)) ≡ false → first_named (drop (i + 1) ss) n ≡ first_named (drop i ss) n
  unfolding first_named
  section_behind e = sym (ap (λ (l : List Section). first_named l n) (next ss i d h) ∙ rw e)

pub no_section : (n : Bytes) (ss : List Section) (i : ℕ) → length ss ≤ i → Unknown ≡ first_named (drop i ss) n
unfolding first_named
no_section n ss i h = sym (ap (λ (l : List Section). first_named l n) (drop_of_length-le ss h))
