-- The form in which clients send an entry (an InfoMessage): the key, then one value, and nothing else. It has a fast path.
-- These are inner definitions: they follow the code, and no sentence of document 01. An auditor can skip them, since the contract of
-- `check` (crates/wire_check/src/lib.rt) is the general `check_of` (crates/wire_check_field/specs/Check.antt). What proves them against it:
-- crates/wire_check/proofs/Entries.antt: `key_there`, `numbered`, `text`, `texts`, `numbers`.
use Rattle.std.specs.Prelude.{ℕ, ◌+◌, ◌≤◌, ◌≡◌, List, [], ◌∷◌, Option, Some, None, Ok, length, get_or, ltb, eqb}
use Rattle.base_laws.specs.Base.{pick, both, part}
use Rattle.wire_schema.specs.Schema.{InfoMessage, StringList, NumberList}
use Rattle.wire_check_field.specs.Check.{check_of}
use Rattle.wire_fields.specs.Fields.{fields_of}
use Rattle.wire_fields.specs.declared.Field.{Field}
use Rattle.wire_fields.specs.declared.Field.TheVariants as field
use Rattle.wire_check.specs.declared.entry.Plain.{Plain}
use Rattle.wire_check.specs.declared.entry.Plain.TheVariants as plain

-- the entry's fields are its key, from 2 to k, and the value v
pub record Holds (s : List ℕ) (k : ℕ) (v : Field) : Type 0 where
  pub fields : fields_of s ≡ field.Part 1 2 k ∷ v ∷ []
  pub starts : 2 ≤ k
  pub ends : k ≤ length s

-- the value's bytes go from a to the end
pub record Reaches (s : List ℕ) (k f a : ℕ) : Type 0 where
  pub holds : Holds s k (field.Part f a (length s))
  pub within : a ≤ length s

-- what is said of an entry holds of its bytes: those of a list are still to be checked. Nothing is said of another form.
unfoldable pub Formed : List ℕ → Option Plain → Type 0
Formed s (Some (plain.Number k v)) = Holds s k (field.Number 2 v (length s)) × (check_of InfoMessage s ≡ Ok tt)
Formed s (Some (plain.Text k a)) = Reaches s k 3 a × (check_of InfoMessage s ≡ Ok tt)
Formed s (Some (plain.Texts k a)) = Reaches s k 4 a × (check_of StringList (part s a (length s)) ≡ Ok tt → check_of InfoMessage s ≡ Ok tt)
Formed s (Some (plain.Numbers k a)) = Reaches s k 5 a × (check_of NumberList (part s a (length s)) ≡ Ok tt → check_of InfoMessage s ≡ Ok tt)
Formed s None = Unit

-- where the key ends that an entry begins with: its tag (0A), a length of one byte, its bytes, and more behind them; none in another form
unfoldable pub key_end : List ℕ → Option ℕ
key_end s =
    pick (both (eqb (get_or s 0 0) 10) (both (ltb (get_or s 1 0) 128) (ltb (2 + get_or s 1 0) (length s)))) (Some (2 + get_or s 1 0)) None
