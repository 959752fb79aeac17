-- The written form of varints, fields and frames.
use Rattle.std.specs.Prelude.{ℕ, zero, suc, ◌+◌, ◌*◌, ◌/◌, ◌%◌, List, [], ◌∷◌, ◌++◌, Bool, length, ltb, eqb}
use Rattle.base_laws.specs.Base.{pick}

-- a varint of at most 1 + k bytes. Document 01: "the writer uses the shortest".
unfoldable pub shortest_from : ℕ → ℕ → List ℕ
shortest_from zero v = v ∷ []
shortest_from (suc k) v = pick (ltb v 128) (v ∷ []) ((v % 128 + 128) ∷ shortest_from k (v / 128))

abbrev pub varint : ℕ → List ℕ
varint v = shortest_from 9 v

-- the tag and the length before n bytes of the field f
unfoldable pub head : ℕ → ℕ → List ℕ
head f n = varint (f * 8 + 2) ++ varint n

-- a piece of a message, as a writer lays it. Document 01: the writer "leaves out numbers that are 0, false flags and empty
-- strings outside a oneof, writes the chosen oneof member always, writes each TimeSpec field always, and packs numbers. List
-- elements are always written, empty strings and zeros too."
pub data Piece : Type 0 where
  -- a number, always written, and one that is left out where it is 0
  number : ℕ → ℕ → Piece
  some : ℕ → ℕ → Piece
  -- bytes (a string, an embedded message, packed numbers), always written, and bytes that are left out where there are none
  bytes : ℕ → List ℕ → Piece
  text : ℕ → List ℕ → Piece
  -- every element of a list
  list : ℕ → List (List ℕ) → Piece
  -- a run of entries, as it is lent
  run : List ℕ → Piece

unfoldable pub elements : ℕ → List (List ℕ) → List ℕ
elements f [] = []
elements f (d ∷ ds) = (head f (length d) ++ d) ++ elements f ds

unfoldable pub encode : Piece → List ℕ
encode (number f v) = varint (f * 8) ++ varint v
encode (some f v) = pick (eqb v 0) [] (varint (f * 8) ++ varint v)
encode (bytes f d) = head f (length d) ++ d
encode (text f d) = pick (eqb (length d) 0) [] (head f (length d) ++ d)
encode (list f ds) = elements f ds
encode (run d) = d

-- pieces one after the other: a message gives them in rising number
abbrev pub encode_all : List Piece → List ℕ
encode_all [] = []
encode_all (p ∷ ps) = encode p ++ encode_all ps

-- numbers as a packed list has them
unfoldable pub packed : List ℕ → List ℕ
packed [] = []
packed (v ∷ vs) = varint v ++ packed vs

-- the four bytes before a frame's message, most significant first; none where it is not framed
unfoldable pub front : Bool → ℕ → List ℕ
front framed n = pick framed ((n / 16777216 % 256) ∷ (n / 65536 % 256) ∷ (n / 256 % 256) ∷ (n % 256) ∷ []) []
