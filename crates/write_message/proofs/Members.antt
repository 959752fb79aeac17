-- The member around a message, as the writers' ranges have it. Assumes nothing.
use mathlib.Core.Path.{◌≡◌, refl, sym, ap, ◌∙◌}
use Prim.Native.Nat.{ℕ, ◌≤◌, ◌<◌}
use native.Mathlib.Omega.{arith}
use mathlib.Core.Bool.{Bool, true, false}
use lib.ListN.{length}
use lib.Dec.{ltb, leb, eqb}
use borrow.Author.Tests.{lt-ltb, le-ltb, eqb-true, leb-true}
use Rattle.base_laws.specs.Base.{pick, both}
use Rattle.base_laws.proofs.Order.{both_true}
use Rattle.wire_message.specs.Message.{Bytes}
use Rattle.write_forms.specs.Draft.{Stamp}
use Rattle.write_message.specs.Fits.{member_in, moment_fits, report_member, entry_fits, int32_fits, time_fits, note_fits}

-- a member that is taken is small
pub member_small : (lo hi f : ℕ) → hi < 256 → {b : Bool} → b ≡ member_in lo hi f → b ≡ true → f < 256
unfolding member_in
member_small lo hi f l {b} p q = go (eqb f 0) refl (sym p ∙ q)
  where
    go : (t : Bool) → eqb f 0 ≡ t → pick t true (both (leb lo f) (leb f hi)) ≡ true → f < 256
    go true e h = let z = eqb-true f 0 e in omega arith
    go false e h = let z = leb-true f hi (both_true (leb lo f) (leb f hi) h).1 in omega arith

-- the same where other tests stand behind its own
pub member_first : (lo hi f : ℕ) (rest : Bool) → hi < 256 → {b : Bool} → b ≡ both (member_in lo hi f) rest → b ≡ true → f < 256
member_first lo hi f rest l p q = member_small lo hi f l refl (both_true (member_in lo hi f) rest (sym p ∙ q)).0

-- a range that bounds its member needs no test of the member beside it
pub plain_fits : (f : ℕ) {fits fits' : Bool} → (fits ≡ true → f < 256) → fits ≡ fits' → both fits (ltb f 256) ≡ fits'
plain_fits f {fits} small e = go fits refl ∙ e
  where
    go : (b : Bool) → fits ≡ b → both b (ltb f 256) ≡ b
    go true q = lt-ltb f 256 (small q)
    go false q = refl

pub list_fits : (f : ℕ) (ends : Bool) {fits fits' : Bool} → (fits ≡ true → f < 256) → fits ≡ fits' → both fits (both (ltb f 256) ends) ≡ both fits' ends
list_fits f ends {fits} small e = go fits refl ∙ ap (λ (b : Bool). both b ends) e
  where
    go : (b : Bool) → fits ≡ b → both b (both (ltb f 256) ends) ≡ both b ends
    go true q = rw (lt-ltb f 256 (small q))
    go false q = refl

-- a range and a member of one byte
pub not_in_range : (fits small : Bool) → fits ≡ false → both fits small ≡ false
not_in_range fits small e = rw e

pub beyond_a_byte : (fits : Bool) (f : ℕ) → 256 ≤ f → both fits (ltb f 256) ≡ false
beyond_a_byte fits f h = go fits
  where
    go : (b : Bool) → both b (ltb f 256) ≡ false
    go true = le-ltb f 256 h
    go false = refl

pub in_range : (fits : Bool) (f : ℕ) → fits ≡ true → f < 256 → both fits (ltb f 256) ≡ true
in_range fits f e h = rw (e, lt-ltb f 256 h)

-- ends that fit or not, behind the other tests
pub ends_bad : (fits small ends : Bool) → ends ≡ false → both fits (both small ends) ≡ false
ends_bad true true ends e = e
ends_bad true false ends e = refl
ends_bad false small ends e = refl

pub ends_good : (fits small ends : Bool) → ends ≡ true → both fits small ≡ both fits (both small ends)
ends_good true true ends e = sym e
ends_good true false ends e = refl
ends_good false small ends e = refl

pub entry_small : (f : ℕ) (key : Bytes) {b : Bool} → b ≡ entry_fits f key → b ≡ true → f < 256
entry_small f key p q = member_first 2 3 f (leb 1 (length key)) (omega arith) p q

pub time_small : (f : ℕ) (t : Stamp) {b : Bool} → b ≡ time_fits f t → b ≡ true → f < 256
unfolding time_fits
time_small f t {b} p q = go (eqb f 0) refl (sym p ∙ q)
  where
    go : (x : Bool) → eqb f 0 ≡ x → pick x (int32_fits t.nanos) (both (eqb f 2) (moment_fits t)) ≡ true → f < 256
    go true e h = let z = eqb-true f 0 e in omega arith
    go false e h = let z = eqb-true f 2 (both_true (eqb f 2) (moment_fits t) h).0 in omega arith

pub note_member : (f : ℕ) {b : Bool} → b ≡ note_fits f → b ≡ true → (3 ≤ f) × (f ≤ 5)
note_member f p q =
    let h = both_true (leb 3 f) (leb f 5) (sym p ∙ q) in (leb-true 3 f h.0, leb-true f 5 h.1)

pub report_small : (f : ℕ) {b : Bool} → b ≡ report_member f → b ≡ true → f < 256
unfolding report_member
report_small f {b} p q = go (eqb f 2) refl (sym p ∙ q)
  where
    go : (x : Bool) → eqb f 2 ≡ x → pick x true (member_in 5 5 f) ≡ true → f < 256
    go true e h = let z = eqb-true f 2 e in omega arith
    go false e h = member_small 5 5 f (omega arith) refl h

pub report_first : (f : ℕ) (rest : Bool) {b : Bool} → b ≡ both (report_member f) rest → b ≡ true → f < 256
report_first f rest p q = report_small f refl (both_true (report_member f) rest (sym p ∙ q)).0
