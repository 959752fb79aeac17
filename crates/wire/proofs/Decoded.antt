-- What a reader by itself gives, by what a session reads: 7 comes where nothing else is refused.
use Prim.Native.Nat.{ℕ}
use native.Mathlib.Omega.{arith}
use mathlib.Core.Path.{◌≡◌, refl, sym, ap, ◌∙◌}
use mathlib.Core.List.{List}
use mathlib.Core.Bool.{Bool, true, false}
use Rattle.std.specs.Prelude.{Result, Ok, Err}
use Rattle.base_laws.specs.Base.{pick}
use Rattle.wire_types.specs.declared.Refusal.{Refusal}
use Rattle.wire_types.specs.declared.Refusal.TheVariants as refusal
use Rattle.wire_types.specs.declared.Refused.{Refused}
use Rattle.wire_check_field.specs.Check.{check_of}
use Rattle.wire_fields.specs.Items.{items}
use Rattle.wire_range.specs.Range.{in_range}
use Rattle.wire.specs.Read.{refusal_number, check_number, no_member, decode_number, read_number}

-- where reading refuses nothing, the range decides; else its refusal stands
abbrev ranged : Result Unit Refusal → ℕ → ℕ
ranged (Ok u) n = n
ranged (Err r) n = refusal_number (Err r)

by_number : (r : Result Unit Refusal) (k : Result Unit Refused) (t : Bool) (n : ℕ) → refusal_number r ≡ check_number k (pick t 6 0) → ranged r n ≡ check_number k (pick t 6 n)
unfolding check_number
by_number (Ok u) (Ok v) true n h = grind arith
by_number (Ok u) (Ok v) false n h = refl
by_number (Ok u) (Err e) t n h = none_is_zero e.refusal h
  where
    none_is_zero : (r : Refusal) {A : Type 0} → 0 ≡ refusal_number (Err r) → A
    none_is_zero refusal.Varint h = grind arith
    none_is_zero refusal.Length h = grind arith
    none_is_zero refusal.Tag h = grind arith
    none_is_zero refusal.WireType h = grind arith
    none_is_zero refusal.NoMember h = grind arith
    none_is_zero refusal.Range h = grind arith
by_number (Err r) (Ok v) true n h = h
by_number (Err r) (Ok v) false n h = grind arith
by_number (Err r) (Err e) t n h = h

module _ (m : ℕ) (s : List ℕ) where
  pub refused_too : (r : Refusal) (d : Result Unit Refusal) → refusal_number d ≡ decode_number m s → d ≡ Err r → refusal_number (Err r) ≡ read_number m s
  unfolding decode_number read_number
  refused_too r d h e =
      ap (λ (x : Result Unit Refusal). ranged x (pick (in_range m (items s)) 0 7)) (sym e)
      ∙ by_number d (check_of m s) (no_member m (items s)) (pick (in_range m (items s)) 0 7) h

  pub ranged_then : (u : Unit) (d : Result Unit Refusal) → refusal_number d ≡ decode_number m s → d ≡ Ok u → pick (in_range m (items s)) 0 7 ≡ read_number m s
  unfolding decode_number read_number
  ranged_then u d h e =
      ap (λ (x : Result Unit Refusal). ranged x (pick (in_range m (items s)) 0 7)) (sym e)
      ∙ by_number d (check_of m s) (no_member m (items s)) (pick (in_range m (items s)) 0 7) h
