-- A session carried as 40 bytes is the session.
use native.Mathlib.Omega.{arith}
use Rattle.session_bytes.specs.Sound.{Keeping}
use Rattle.session_bytes.proofs.Limits.{step_sound}
use Rattle.session_bytes.proofs.Numbers.{back, forty, other}

pub keeping : Keeping
keeping = record {
  new_sound = record { used = omega arith; total = omega arith; low = omega arith; mark = tt };
  step_sound = λ se h area used s. step_sound se h area used s;
  back = back;
  forty = forty;
  other = other;
}
