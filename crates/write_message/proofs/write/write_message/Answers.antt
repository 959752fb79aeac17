-- Where the ends fit, lay_message's contract is this one's by Members.ends_good; where they do not, all is out of range, Members.ends_bad.
use Rattle.write_message.proofs.Outcomes.{same_range, same_outcome}
use Rattle.write_message.proofs.Members.{ends_good, ends_bad}
use Rattle.write_message.specs.Fits.{ends_fit}
use Rattle.write_forms.specs.Draft.{bad_ends}
use Prim.Native.Nat.{ℕ}
use native.Mathlib.Omega.{arith}
use lib.Dec.{ltb}
use mathlib.Core.Path.{◌≡◌, refl, sym}
use Rattle.write_message.proofs.write.write_message.Goals as goal

pub returns-in-Some : goal.returns-in-Some
unfolding ends_fit
returns-in-Some c =
    let a = c.args in
    let s = c.in-Some.ensures in
    let whole = rw (s.parts.0, s.parts.1) at c.lay_message.ensures in
    same_range whole (ends_good a.fits (ltb a.member 256) (ends_fit a.joined.now a.ends.now) (sym s.fit))

pub invariant_of-lay_message : goal.invariant_of-lay_message
unfolding bad_ends
invariant_of-lay_message c = record { fit = refl }

pub returns-in-None : goal.returns-in-None
unfolding ends_fit
returns-in-None c =
    let a = c.args in
    let bad = ends_bad a.fits (ltb a.member 256) (ends_fit a.joined.now a.ends.now) (sym c.in-None.ensures.fit) in
    let o = same_outcome c.lay_message-in-None.ensures a.run _ _ refl (sym bad) (λ h. let z : ◌≡◌ {A = ℕ} 0 1 = cc in absurd (omega arith)) in
    record { answer = o.0; leaves = o.1 }
