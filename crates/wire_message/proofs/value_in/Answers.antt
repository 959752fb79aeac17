-- What last_in answers is one of the cases of `held_from`, by the field's number; it means the value by Meaning.held_means.
use mathlib.Core.Path.{◌≡◌, sym, ap, ◌∙◌}
use mathlib.Core.List.{List}
use Prim.Native.Nat.{ℕ}
use Rattle.base_laws.proofs.Tests.{tests}
use Rattle.wire_fields.specs.Items.{items, last_item}
use Rattle.wire_message.specs.Message.{value_of}
use Rattle.wire_message.specs.Places.{held_from, held_in, value_at}
use Rattle.std.specs.Prelude.{Option, Some}
use Rattle.wire_message.specs.declared.Value.{Value}
use Rattle.wire_message.proofs.Meaning.{held_means}
use Rattle.wire_message.proofs.value_in.Goals as goal

-- what the last field is, by the two steps of the match
step : {A B : Type 0} (f : A → B) {x z : A} {y : B} → y ≡ f x → x ≡ z → y ≡ f z
step f e h = e ∙ ap f h

-- what is answered means the value
told : (s : List ℕ) (v : Option Value) → v ≡ held_in s → value_at s v ≡ value_of (last_item 2 5 (items s))
told s v e = ap (value_at s) e ∙ held_means s

pub returns-in-None-clause-places : goal.returns-in-None-clause-places
unfolding held_from
returns-in-None-clause-places c = rw (sym c.last_in.ensures ∙ c.in-None.is)

pub returns-in-Some-Number-clause-places : goal.returns-in-Some-Number-clause-places
unfolding held_from
returns-in-Some-Number-clause-places c = rw (step Some (sym c.last_in.ensures ∙ c.in-Some-Number.is) c.in-Some-Number.field-0-is)

pub returns-in-3-clause-places : goal.returns-in-3-clause-places
unfolding held_from
returns-in-3-clause-places c = rw (step Some (sym c.last_in.ensures ∙ c.in-Some-Part.is) c.in-Some-Part.field-0-is, c.in-3.is)

pub returns-in-4-clause-places : goal.returns-in-4-clause-places
unfolding held_from
returns-in-4-clause-places c = rw (step Some (sym c.last_in.ensures ∙ c.in-Some-Part.is) c.in-Some-Part.field-0-is, c.in-4.is)

pub returns-in-5-clause-places : goal.returns-in-5-clause-places
unfolding held_from
returns-in-5-clause-places c = rw (step Some (sym c.last_in.ensures ∙ c.in-Some-Part.is) c.in-Some-Part.field-0-is, c.in-5.is)

pub returns-in_default-clause-places : goal.returns-in_default-clause-places
unfolding held_from
returns-in_default-clause-places c = rw (step Some (sym c.last_in.ensures ∙ c.in-Some-Part.is) c.in-Some-Part.field-0-is) (search tests)

pub returns-in-None-clause-means : goal.returns-in-None-clause-means
returns-in-None-clause-means c = told _ _ (returns-in-None-clause-places c)

pub returns-in-Some-Number-clause-means : goal.returns-in-Some-Number-clause-means
returns-in-Some-Number-clause-means c = told _ _ (returns-in-Some-Number-clause-places c)

pub returns-in-3-clause-means : goal.returns-in-3-clause-means
returns-in-3-clause-means c = told _ _ (returns-in-3-clause-places c)

pub returns-in-4-clause-means : goal.returns-in-4-clause-means
returns-in-4-clause-means c = told _ _ (returns-in-4-clause-places c)

pub returns-in-5-clause-means : goal.returns-in-5-clause-means
returns-in-5-clause-means c = told _ _ (returns-in-5-clause-places c)

pub returns-in_default-clause-means : goal.returns-in_default-clause-means
returns-in_default-clause-means c = told _ _ (returns-in_default-clause-places c)
