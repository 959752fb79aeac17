-- What see_byte and its callees return is `see`. Assumes nothing.
use mathlib.Core.Path.{◌≡◌, sym, ap}
use mathlib.Core.Bool.{Bool, true, false}
use Prim.Native.Nat.{ℕ, ◌+◌}
use Rattle.std.specs.Prelude.{Option, Some, None}
use borrow.Author.Tests.{eq-eqb, ne_eqb}
use Rattle.base_laws.specs.Base.{pick}
use Rattle.conf_lines.specs.Lines.{is_blank}
use Rattle.conf_content.specs.Shape.{see}
use Rattle.conf_content.specs.declared.Equals.{Equals}
use Rattle.conf_content.specs.declared.Measure.{Measure}

module _ (m : Measure) (b f : ℕ) (p : f ≡ (see m b).first) {q : Option Equals} (r : q ≡ (see m b).equals) where
  pub see_blank : is_blank b ≡ true → ◌≡◌ {A = Measure} (record { count = m.count + 1; length = m.length; first = f; last = m.last; equals = q }) (see m b)
  unfolding see
  see_blank e i = record {
    count = m.count + 1;
    length = ap (λ (t : Bool). pick t m.length (m.count + 1)) (sym e) i;
    first = p i;
    last = ap (λ (t : Bool). pick t m.last b) (sym e) i;
    equals = r i;
  }

  pub see_other : is_blank b ≡ false → ◌≡◌ {A = Measure} (record { count = m.count + 1; length = m.count + 1; first = f; last = b; equals = q }) (see m b)
  unfolding see
  see_other e i = record {
    count = m.count + 1;
    length = ap (λ (t : Bool). pick t m.length (m.count + 1)) (sym e) i;
    first = p i;
    last = ap (λ (t : Bool). pick t m.last b) (sym e) i;
    equals = r i;
  }

-- ---- the first `=`

module _ (m : Measure) (b : ℕ) where
  pub none_opens : m.equals ≡ None → b ≡ 61 → Some (record { key = m.length; value = m.count + 1 }) ≡ (see m b).equals
  unfolding see
  none_opens e h = rw (e, eq-eqb b 61 h)

  pub none_still : m.equals ≡ None → (b ≡ 61 → ⊥) → None ≡ (see m b).equals
  unfolding see
  none_still e h = rw (e, ne_eqb b 61 h)

  module _ {q : Equals} (e : m.equals ≡ Some q) where
    pub value_moves : is_blank b ≡ true → q.value ≡ m.count → Some (record { key = q.key; value = m.count + 1 }) ≡ (see m b).equals
    unfolding see
    value_moves h v = rw (e, h, eq-eqb q.value m.count v)

    pub value_inside : is_blank b ≡ true → (q.value ≡ m.count → ⊥) → Some q ≡ (see m b).equals
    unfolding see
    value_inside h v = rw (e, h, ne_eqb q.value m.count v)

    pub value_stays : is_blank b ≡ false → Some q ≡ (see m b).equals
    unfolding see
    value_stays h = rw (e, h)
