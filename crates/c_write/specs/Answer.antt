-- What the writers for C return.
use Rattle.std.specs.Prelude.{ℕ, ◌*◌, ◌%◌, Result, Ok, Err}
use Rattle.write_message.specs.declared.outcome.WriteError.{WriteError}
use Rattle.write_message.specs.Wrote.{number_of}

-- a writer's answer as one number: the refusal above 32 bits of the size, which no message exceeds
unfoldable pub as_number : Result ℕ WriteError → ℕ
as_number (Ok size) = size % 4294967296
as_number (Err e) = number_of e * 4294967296
