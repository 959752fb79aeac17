-- What is made of a varint, by what reading it gave.
use native.Mathlib.Omega.{arith}
use mathlib.Core.Path.{◌≡◌, refl}
use Prim.Native.Nat.{ℕ}
use mathlib.Core.List.{List}
use Rattle.std.specs.Prelude.{Result, Ok, Err}
use Rattle.wire_types.specs.declared.Refused.{Refused}
use Rattle.wire_varint.specs.declared.Varint.{Varint}
use Rattle.wire_varint.specs.declared.VarintError.{VarintError}
use mathlib.Core.Bool.{Bool, true, false}
use Rattle.base_laws.specs.Base.{pick}
use Rattle.wire_value.specs.Field.{number_read, part_of}

-- a number that was read is the varint's
pub read_ok : (x : ℕ) (r : Result Varint VarintError) (v : Varint) → number_read x r ≡ Ok v → r ≡ Ok v
unfolding number_read
read_ok x (Ok w) v h = grind arith
read_ok x (Err e) v h = grind arith

-- where no number is read, no bytes are, by the same refusal
pub part_err : (s : List ℕ) (x : ℕ) (r : Result Varint VarintError) (e : Refused) → number_read x r ≡ Err e → Err e ≡ part_of s x r
unfolding number_read part_of
part_err s x (Ok w) e h = grind arith
part_err s x (Err d) e h = grind arith

-- both sides of a test that no longer matters
pub either : {A : Type 0} (t : Bool) (p : A) → p ≡ pick t p p
either true p = refl
either false p = refl
