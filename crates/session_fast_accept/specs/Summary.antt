-- What one pass over an accept in the form that clients send shows. It is said by properties: the pass is a fast path to an answer that
-- the general one, by `body_fits` and `entries_refusal`, would give too. Then what is known on the way, an entry after the other.
-- These are inner definitions: they follow the code, and no sentence of document 01. An auditor can skip them, since the contract of
-- `on_accept` (crates/session_events/src/lib.rt) is the general `on_member` (crates/session/specs/Step.antt). What proves them against
-- `body_fits` and `entries_refusal`: crates/session_fast_accept/proofs/KeyLaws.antt: `string_passes`, `other_passes`; Summaries.antt: `finish`.
use Rattle.std.specs.Prelude.{ℕ, ◌<◌, ◌≡◌, List, Bool, true, false, Option, Some, None, eqb}
use Rattle.base_laws.specs.Base.{pick, both}
use Rattle.wire_schema.specs.Schema.{AcceptMessage}
use Rattle.wire_fields.specs.Items.{items}
use Rattle.wire_message.specs.Message.{Bytes, Value, absent, numval, strval, strlistval, numlistval, Entry, entries, accept}
use Rattle.wire_range.specs.Limits.{entry_fits}
use Rattle.wire_range.specs.Range.{body_fits}
use Rattle.session_entries.specs.Required.{same_bytes, key_bytes, string_or_none, entries_refusal}
use Rattle.session_fast_accept.specs.declared.Keys.{Keys}

-- a sound accept has its flag, its values are in range, and its required entries are there
unfoldable pub Summarised : List ℕ → Option Bool → Type 0
Summarised s (Some x) =
    ((accept (items s)).expect_iobufs ≡ x) × (body_fits AcceptMessage (items s) ≡ true) × (entries_refusal (entries 2 (items s)) ≡ 0)
Summarised s None = Unit

-- ---- the required keys

-- the number of a required key, 0 to 3; 4 for another
unfoldable pub key_number : Bytes → ℕ
key_number d =
    pick (same_bytes d (key_bytes 0)) 0
    (pick (same_bytes d (key_bytes 1)) 1 (pick (same_bytes d (key_bytes 2)) 2 (pick (same_bytes d (key_bytes 3)) 3 4)))

-- the keys with that of number n met; 4 adds none
unfoldable pub with_key : Keys → ℕ → Keys
with_key keys n = record {
  command = pick (eqb n 0) true keys.command;
  runuser = pick (eqb n 1) true keys.runuser;
  submithost = pick (eqb n 2) true keys.submithost;
  submituser = pick (eqb n 3) true keys.submituser;
}

-- are all four met
unfoldable pub all_met : Keys → Bool
all_met keys = both keys.command (both keys.runuser (both keys.submithost keys.submituser))

-- ---- an entry

-- has an entry had the required key k
unfoldable pub is_met : ℕ → Keys → Bool
is_met k keys =
    pick (eqb k 0) keys.command (pick (eqb k 1) keys.runuser (pick (eqb k 2) keys.submithost keys.submituser))

-- the required key k at the entry e, of whose key n is the number: e has k where that is its number, and then e is a string
pub record Passed (e : Entry) (n k : ℕ) : Type 0 where
  pub named : same_bytes e.key (key_bytes k) ≡ eqb n k
  pub string : pick (same_bytes e.key (key_bytes k)) (string_or_none e.value) true ≡ true

-- an entry that is fine is in range, and each of the four keys passes it. Nothing is said of another.
unfoldable pub EntrySeen : Entry → Option ℕ → Type 0
EntrySeen e (Some n) = (entry_fits e ≡ true) × ((k : ℕ) → k < 4 → Passed e n k)
EntrySeen e None = Unit

-- is it a string
unfoldable pub is_string : Value → Bool
is_string absent = false
is_string (numval n) = false
is_string (strval d) = true
is_string (strlistval l) = false
is_string (numlistval l) = false

-- what the key d shows by itself of each entry whose value passes the test
unfoldable pub KeySeen : (Value → Bool) → Bytes → Option ℕ → Type 0
KeySeen test d r = (v : Value) → test v ≡ true → EntrySeen (record { key = d; value = v }) r
