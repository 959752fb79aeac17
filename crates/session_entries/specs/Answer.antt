-- What the search for the required entries answers, by document 01's numbers: a refusal, 0 for none, and the key that 8 names.
use Rattle.std.specs.Prelude.{ℕ, Result, Ok, Err}
use Rattle.session_entries.specs.declared.EntryError.{EntryError}
use Rattle.session_entries.specs.declared.EntryError.TheVariants.{NotAString, Missing}

abbrev pub number : {A : Type 0} → Result A EntryError → ℕ
number (Ok x) = 0
number (Err NotAString) = 7
number (Err (Missing k)) = 8

abbrev pub key : {A : Type 0} → Result A EntryError → ℕ
key (Ok x) = 0
key (Err NotAString) = 0
key (Err (Missing k)) = k
