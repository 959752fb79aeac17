-- Which numbers a refusal can have: those of a timed record's sum, of the required entries and of the reader are all in document 01's
-- table.
use Prim.Native.Nat.{ℕ, ◌+◌, ◌≤◌}
use native.Mathlib.Omega.{arith}
use mathlib.Core.Path.{◌≡◌, refl}
use mathlib.Core.List.{List}
use lib.Dec.{leb, eqb}
use borrow.Author.Tests.{le-leb}
use Rattle.base_laws.specs.Base.{both}
use Rattle.base_laws.proofs.Order.{picked}
use Rattle.wire_message.specs.Message.{Entry, Client}
use Rattle.wire.specs.Read.{refused}
use Rattle.wire.proofs.Promises.{ReadNumbered}
use Rattle.session_entries.specs.Required.{types_fit, missing, entries_refusal}
use Rattle.file_format.specs.File.{limit}
use Rattle.session.specs.Step.{at_mark, growth_refusal}
use Rattle.session.specs.declared.Session.{Session}
use Rattle.claim_agreement.specs.Refusals.{NumberedRefusal}

-- the numbers of document 01's table
pub in_table : (n : ℕ) → 1 ≤ n → n ≤ 15 → NumberedRefusal n
in_table n lo hi = rw (le-leb 1 n lo, le-leb n 15 hi)

-- a number that is 0 where nothing is refused
abbrev pub ZeroOrNumbered : ℕ → Type 0
ZeroOrNumbered n = (n ≡ 0 → ⊥) → NumberedRefusal n

-- 10 and 11
pub growth_numbered : (se : Session) (delay : ℕ) → ZeroOrNumbered (growth_refusal se delay)
unfolding growth_refusal
growth_numbered se delay =
    picked ZeroOrNumbered (leb (se.total + delay) limit) _ _
    (λ _. picked ZeroOrNumbered (both (eqb delay 0) (at_mark se.mark se.total)) _ _ (λ _ _. refl) (λ _ z. absurd (z refl)))
    (λ _ _. refl)

-- 7 and 8
pub entries_numbered : (es : List Entry) → ZeroOrNumbered (entries_refusal es)
unfolding entries_refusal
entries_numbered es =
    picked ZeroOrNumbered (types_fit es) _ _
    (λ _. picked ZeroOrNumbered (eqb (missing es) 4) _ _ (λ _ z. absurd (z refl)) (λ _ _. refl))
    (λ _ _. refl)

-- 2 to 6
pub read_numbered : (n : ℕ) → ReadNumbered {A = Client} (refused n) → NumberedRefusal n
read_numbered n h = in_table n (omega (arith, h.0)) (omega (arith, h.1))
