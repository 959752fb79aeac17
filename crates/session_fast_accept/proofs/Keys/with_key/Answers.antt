-- Each flag is that of `with_key`, by `met_or`.
use mathlib.Core.Path.{◌≡◌, refl}
use mathlib.Core.Bool.{Bool, true, false, ◌||◌}
use lib.Dec.{eqb}
use Rattle.base_laws.specs.Base.{pick}
use Rattle.session_fast_accept.specs.Summary.{with_key}
use Rattle.session_fast_accept.proofs.Keys.with_key.Goals as goal

met_or : (was is : Bool) → was || is ≡ pick is true was
met_or true true = refl
met_or true false = refl
met_or false true = refl
met_or false false = refl

pub returns : goal.returns
unfolding with_key
returns c = let a = c.args in
    λ j. record {
      command = met_or a.self.command (eqb a.k 0) j;
      runuser = met_or a.self.runuser (eqb a.k 1) j;
      submithost = met_or a.self.submithost (eqb a.k 2) j;
      submituser = met_or a.self.submituser (eqb a.k 3) j;
    }
