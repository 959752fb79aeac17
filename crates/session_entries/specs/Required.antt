-- The required entries. Document 01: "Accept and reject need the entries `command`, `runuser`, `submithost`, `submituser`, each a
-- string; the last entry of a key counts. Another type is refused with 7, also where an earlier key is missing. .. The search
-- over entries stops at the first required key that is missing, in that order, and refusal 8 names it as 0 to 3."
use Rattle.std.specs.Prelude.{ℕ, zero, suc, ◌+◌, List, [], ◌∷◌, Bool, true, false, eqb}
use Rattle.base_laws.specs.Base.{pick, both}
use Rattle.wire_message.specs.Message.{Bytes, Value, absent, numval, strval, strlistval, numlistval, Entry}

unfoldable pub same_bytes : Bytes → Bytes → Bool
same_bytes [] [] = true
same_bytes [] (y ∷ ys) = false
same_bytes (x ∷ xs) [] = false
same_bytes (x ∷ xs) (y ∷ ys) = both (eqb x y) (same_bytes xs ys)

-- command, runuser, submithost, submituser: 0 to 3
unfoldable pub key_bytes : ℕ → Bytes
key_bytes k =
    pick (eqb k 0) (99 ∷ 111 ∷ 109 ∷ 109 ∷ 97 ∷ 110 ∷ 100 ∷ [])
    (pick (eqb k 1) (114 ∷ 117 ∷ 110 ∷ 117 ∷ 115 ∷ 101 ∷ 114 ∷ [])
    (pick (eqb k 2) (115 ∷ 117 ∷ 98 ∷ 109 ∷ 105 ∷ 116 ∷ 104 ∷ 111 ∷ 115 ∷ 116 ∷ [])
    (115 ∷ 117 ∷ 98 ∷ 109 ∷ 105 ∷ 116 ∷ 117 ∷ 115 ∷ 101 ∷ 114 ∷ [])))

-- the value of the last entry with the key k; absent where there is none
unfoldable pub last_value_from : ℕ → Value → List Entry → Value
last_value_from k v [] = v
last_value_from k v (e ∷ es) = last_value_from k (pick (same_bytes e.key (key_bytes k)) e.value v) es

abbrev pub last_value : ℕ → List Entry → Value
last_value k es = last_value_from k absent es

-- is it of no other type than a string
unfoldable pub string_or_none : Value → Bool
string_or_none absent = true
string_or_none (numval n) = false
string_or_none (strval d) = true
string_or_none (strlistval l) = false
string_or_none (numlistval l) = false

-- the n keys from k on are strings where they are given
unfoldable pub types_from : ℕ → ℕ → List Entry → Bool
types_from k zero es = true
types_from k (suc n) es = both (string_or_none (last_value k es)) (types_from (k + 1) n es)

abbrev pub types_fit : List Entry → Bool
types_fit es = types_from 0 4 es

-- has some entry the key k
unfoldable pub has : ℕ → List Entry → Bool
has k [] = false
has k (e ∷ es) = pick (same_bytes e.key (key_bytes k)) true (has k es)

-- the first of n keys from k on that no entry has, k + n for none
unfoldable pub missing_from : ℕ → ℕ → List Entry → ℕ
missing_from k zero es = k
missing_from k (suc n) es = pick (has k es) (missing_from (k + 1) n es) k

-- 0 to 3: the first required key that is missing; 4: none
abbrev pub missing : List Entry → ℕ
missing es = missing_from 0 4 es

-- 7 for another type, then 8 for a missing key; 0 for none
unfoldable pub entries_refusal : List Entry → ℕ
entries_refusal es = pick (types_fit es) (pick (eqb (missing es) 4) 0 8) 7

-- the key that refusal 8 names, 0 to 3; 0 where none is named
abbrev pub named_key : List Entry → ℕ
named_key es = pick (eqb (entries_refusal es) 8) (missing es) 0
