-- What the walk over two files does at a pair of places. Inner definitions, which follow the code of src/pair.rt and no sentence of
-- document 02; an auditor can skip them. Proved against Compare.antt's `differences`, in proofs/Turns.antt.
use Rattle.std.specs.Prelude.{ℕ, ◌+◌, ◌*◌, List}
use Rattle.file_format.specs.Record.{Record}
use Rattle.file_format.specs.File.{Found, whole, broken, record_at}
use Rattle.file_format.specs.declared.head.Head.{Head}
use Rattle.file_compare.specs.Compare.{Difference, between, first_only, second_only}
use Rattle.file_compare.specs.declared.pair.Step.{Step}

-- an entry as one number, whose eight bytes are stored at once
unfoldable pub entry_number : Difference → ℕ
entry_number d = d.flags * 4294967296 + d.offset

-- what is reported where these stand; behind a file's end no record stands
unfoldable pub at_pair : Found → Found → Difference
at_pair (whole r e) (whole q f) = between r q
at_pair (whole r e) broken = first_only
at_pair broken found = second_only

-- the place past what stands at a place
unfoldable pub past : ℕ → Found → ℕ
past at (whole r e) = e
past at broken = at

unfoldable pub step_of : ℕ → Found → ℕ → Found → Step
step_of i f j g = record { entry = entry_number (at_pair f g); first = past i f; second = past j g }

-- one step of the walk
unfoldable pub step_on : List ℕ → ℕ → List ℕ → ℕ → Step
step_on a i b j = step_of i (record_at a i) j (record_at b j)

abbrev pub record_with : ℕ → ℕ → List ℕ → Record
record_with kind delay contents = record { kind = kind; delay = delay; contents = contents }

-- the head of an accept with so many bytes of data
abbrev pub accept_with : ℕ → Head
accept_with len = record { kind = 1; delay = 0; len = len }
