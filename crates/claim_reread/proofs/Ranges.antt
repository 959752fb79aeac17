-- The two tables of ranges: what is in range by the writers' is in range by the readers', once it is read. Values of which
-- RoundTrip asks an int32 or 64 bits are in range within that.
use Prim.Native.Nat.{ℕ, ◌-◌, ◌%◌, ◌^◌, ◌≤◌, ◌<◌}
use native.Mathlib.Omega.{arith}
use mathlib.Core.Path.{◌≡◌, refl, sym, ap, ◌∙◌}
use mathlib.Core.Bool.{Bool, true, false}
use mathlib.Core.Logic.{◌⊎◌, inl, inr, ⊎_elim}
use lib.IntN.{ℤ, pos, negsuc}
use lib.Dec.{ltb, leb}
use borrow.Author.Tests.{leb-true, le-leb, ltb-true, lt-ltb, le-ltb}
use Rattle.base_laws.specs.Base.{pick}
use Rattle.base_laws.proofs.Order.{lt_or_le, both_true}
use Rattle.wire_message.specs.Signed.{signed, int64, int32}
use Rattle.wire_message.specs.Message.{Bytes}
use Rattle.wire_range.specs.Limits as l
use Rattle.wire_range.specs.Limits.{up_to}
use Rattle.write_forms.specs.Draft.{Stamp, stamp_value}
use Rattle.write_forms.specs.RoundTrip.{Stamped, Int32, Narrow}
use Rattle.write_message.specs.Fits.{date_fits, moment_fits, sized, int32_fits}

pub in_64 : (hi v : ℕ) → v ≤ hi → hi < 2 ^ 63 → up_to hi (int64 v) ≡ true
unfolding up_to int64 signed
in_64 hi v h b = rw (lt-ltb v 9223372036854775808 (omega arith), le-leb v hi h)

pub in_32 : (hi v : ℕ) → v ≤ hi → hi < 2 ^ 31 → up_to hi (int32 v) ≡ true
unfolding up_to int32 signed
in_32 hi v h b =
    let e : v % 4294967296 ≡ v = omega arith in
    rw (e, lt-ltb v 2147483648 (omega arith), le-leb v hi h)

-- ---- numbers of an int32

pub small : (v : ℕ) → v < 2 ^ 31 → Int32 v
unfolding int64 int32 signed
small v h =
    let e : v % 4294967296 ≡ v = omega arith in
    (omega arith, rw (e, lt-ltb v 9223372036854775808 (omega arith), lt-ltb v 2147483648 (omega arith)))

negative : (v : ℕ) → v < 2 ^ 64 → 18446744071562067968 ≤ v → Int32 v
unfolding int64 int32 signed
negative v b h =
    let e : v % 4294967296 ≡ v - 18446744069414584320 = omega arith in
    let same : 18446744073709551615 - v ≡ 4294967295 - (v - 18446744069414584320) = omega arith in
    (b, rw (e, le-ltb v 9223372036854775808 (omega arith), le-ltb (v - 18446744069414584320) 2147483648 (omega arith)) (ap negsuc same))

pub int32_in : (v : ℕ) → v < 2 ^ 64 → int32_fits v ≡ true → Int32 v
unfolding int32_fits
int32_in v b q = go (ltb v 2147483648) refl q
  where
    go : (t : Bool) → ltb v 2147483648 ≡ t → pick t true (leb 18446744071562067968 v) ≡ true → Int32 v
    go true e h = small v (let l = ltb-true v 2147483648 e in omega arith)
    go false e h = negative v b (leb-true 18446744071562067968 v h)

-- and no other test does: the 64 bits of an int32 are below 2^31, or from 2^64 - 2^31 on
all_bits : ℤ → ℕ
all_bits (pos n) = n
all_bits (negsuc n) = 18446744073709551615 - n

of_int64 : (v : ℕ) → v < 2 ^ 64 → all_bits (int64 v) ≡ v
unfolding all_bits int64 signed
of_int64 v b =
    ⊎_elim
    (λ (l : v < 9223372036854775808). rw (lt-ltb v 9223372036854775808 l))
    (λ (l : 9223372036854775808 ≤ v). rw (le-ltb v 9223372036854775808 l) (omega arith))
    (lt_or_le v 9223372036854775808)

of_int32 : (v : ℕ) → (all_bits (int32 v) < 2147483648) ⊎ (18446744071562067968 ≤ all_bits (int32 v))
unfolding all_bits int32 signed
of_int32 v =
    ⊎_elim
    (λ (l : v % 4294967296 < 2147483648). inl (rw (lt-ltb (v % 4294967296) 2147483648 l) l))
    (λ (l : 2147483648 ≤ v % 4294967296). inr (rw (le-ltb (v % 4294967296) 2147483648 l) (omega arith)))
    (lt_or_le (v % 4294967296) 2147483648)

pub int32_whole : (v : ℕ) → Int32 v → int32_fits v ≡ true
unfolding int32_fits
int32_whole v h =
    let e : all_bits (int32 v) ≡ v = ap all_bits (sym h.1) ∙ of_int64 v h.0 in
    ⊎_elim
    (λ (l : v < 2147483648). rw (lt-ltb v 2147483648 l))
    (λ (l : 18446744071562067968 ≤ v). rw (le-ltb v 2147483648 (omega arith), le-leb 18446744071562067968 v l))
    (rw e at (of_int32 v))

-- ---- times

pub nanos_in : (t : Stamp) → date_fits t ≡ true → t.nanos ≤ 999999999
unfolding date_fits
nanos_in t e = leb-true t.nanos 999999999 e

pub date_in : (t : Stamp) → date_fits t ≡ true → l.date_fits (stamp_value t) ≡ true
unfolding l.date_fits
date_in t e = in_32 999999999 t.nanos (nanos_in t e) (omega arith)

pub date_narrow : (t : Stamp) → t.seconds < 2 ^ 64 → date_fits t ≡ true → Narrow t
date_narrow t s e = let n = nanos_in t e in (s, small t.nanos (omega arith))

moment_parts : (t : Stamp) → moment_fits t ≡ true → (t.seconds ≤ 4294967295) × (date_fits t ≡ true)
unfolding moment_fits
moment_parts t e =
    let p = both_true (leb t.seconds 4294967295) (date_fits t) e in (leb-true t.seconds 4294967295 p.0, p.1)

pub moment_in : (t : Stamp) → moment_fits t ≡ true → l.moment_fits (stamp_value t) ≡ true
unfolding l.moment_fits
moment_in t e =
    let p = moment_parts t e in
    rw (in_64 4294967295 t.seconds p.0 (omega arith), date_in t p.1)

pub moment_narrow : (t : Stamp) → moment_fits t ≡ true → Narrow t
moment_narrow t e = let p = moment_parts t e in let s = p.0 in date_narrow t (omega arith) p.1

pub stamped : (t : Stamp) → Narrow t → Stamped t
stamped t n = (n.0, n.1.0)

-- ---- lengths

pub sized_in : (lo hi : ℕ) (d : Bytes) → sized lo hi d ≡ true → l.sized lo hi d ≡ true
unfolding sized l.sized
sized_in lo hi d e = e
