-- The number of a writer's answer, by the refusal and the size that the definitions of `write_forms` give. Assumes nothing.
use mathlib.Core.Path.{◌≡◌, refl}
use Prim.Native.Nat.{ℕ, ◌+◌, ◌*◌, ◌%◌}
use native.Mathlib.Omega.{arith}
use mathlib.Core.List.{List}
use mathlib.Core.Bool.{Bool, true, false}
use lib.ListN.{length}
use lib.Dec.{ltb, eqb}
use borrow.Author.Tests.{eqb-true}
use Rattle.std.specs.Prelude.{Ok, Err}
use Rattle.base_laws.specs.Base.{pick}
use Rattle.write_forms.specs.Pieces.{front}
use Rattle.write_forms.specs.Outcome.{room_refusal, refusal, size}
use Rattle.write_message.specs.Wrote.{number_of, error_of, wrote}
use Rattle.write_message.specs.declared.outcome.WriteError.TheVariants.{Run, Range, TooLong, NoRoom}
use Rattle.c_write.specs.Answer.{as_number}

-- a refusal is told by its number: where `wrote` gives an error, the error's number is the refusal
room_told : (c d : Bool) → eqb (pick c 1 (pick d 12 0)) 0 ≡ false → number_of (error_of 0 (pick c 1 (pick d 12 0))) ≡ pick c 1 (pick d 12 0)
room_told true d h = refl
room_told false true h = refl
room_told false false h = let z : ◌≡◌ {A = ℕ} 0 1 = cc in absurd (omega arith)

pub told : (r : ℕ) (fits framed : Bool) (m : List ℕ) (room : ℕ) → eqb (refusal r fits framed m room) 0 ≡ false
    → number_of (error_of r (refusal r fits framed m room)) ≡ refusal r fits framed m room
unfolding refusal room_refusal
told r fits framed m room = go (eqb r 0) fits
  where
    go : (a b : Bool) → eqb (pick a (pick b (room_refusal framed (length m) room) 7) r) 0 ≡ false
        → number_of (pick a (pick (eqb (pick a (pick b (room_refusal framed (length m) room) 7) r) 7) Range (pick (eqb (pick a (pick b (room_refusal framed (length m) room) 7) r) 1) TooLong NoRoom)) (Run (pick a (pick b (room_refusal framed (length m) room) 7) r)))
        ≡ pick a (pick b (room_refusal framed (length m) room) 7) r
    go true true h = room_told (ltb 2097152 (length m)) (ltb room (length (front framed (length m)) + length m)) h
    go true false h = refl
    go false b h = refl

-- the refusal stands above 32 bits of the size
pub number : (r : ℕ) (fits framed : Bool) (m : List ℕ) (room : ℕ)
    → as_number (wrote r fits framed m room) ≡ refusal r fits framed m room * 4294967296 + size r fits framed m room % 4294967296
unfolding as_number size
number r fits framed m room = go (eqb (refusal r fits framed m room) 0) refl
  where
    go : (t : Bool) → eqb (refusal r fits framed m room) 0 ≡ t
        → as_number (pick t (Ok (pick t (length (front framed (length m)) + length m) 0)) (Err (error_of r (refusal r fits framed m room))))
        ≡ refusal r fits framed m room * 4294967296 + pick t (length (front framed (length m)) + length m) 0 % 4294967296
    go true e = let z = eqb-true _ 0 e in omega arith
    go false e = let n = told r fits framed m room e in omega arith
