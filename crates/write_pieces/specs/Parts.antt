-- The pieces that this crate puts, and lengths that stand for those of bytes: what its functions promise the writers above.
use Rattle.std.specs.Prelude.{ℕ, ◌<◌, ◌≡◌, List, [], ◌++◌, Bool, false, length, eqb}
use Rattle.base_laws.specs.Base.{pick}
use Rattle.write_forms.specs.Pieces.{Piece, number, some, bytes, run, head}
use Rattle.write_forms.specs.Draft.{Stamp, time}

-- n stands for the length of bytes: it is that, or both are above the limit of a message. A length that passes the limit
-- need not be known, and sums of such lengths can't overflow.
pub data Like (n : ℕ) (bs : List ℕ) : Type 0 where
  exact : n ≡ length bs → Like n bs
  beyond : 2097152 < n → 2097152 < length bs → Like n bs

-- a number that is left out where it is 0, unless it is always written
abbrev pub number_piece : Bool → ℕ → ℕ → Piece
number_piece always f v = pick always (number f v) (some f v)

unfoldable pub left_out : ℕ → Bool → Bool
left_out v always = pick always false (eqb v 0)

abbrev pub stamp : ℕ → ℕ → Stamp
stamp seconds nanos = record { seconds = seconds; nanos = nanos }

-- a TimeSpec as the field f; none where f is 0
abbrev pub time_piece : ℕ → Stamp → Piece
time_piece f t = pick (eqb f 0) (run []) (bytes f (time t))

-- what stands before n bytes of the field f, and bytes as that field: f is 0 where they stand by themselves
unfoldable pub cover : ℕ → ℕ → List ℕ
cover f n = pick (eqb f 0) [] (head f n)

unfoldable pub around : ℕ → List ℕ → List ℕ
around f d = cover f (length d) ++ d
