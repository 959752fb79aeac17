-- The bytes are there, so the definition's test holds (le-leb), and std's reading of them is the number (Back.number_read).
use Prim.Native.Nat.{ℕ, ◌+◌, ◌-◌, ◌≤◌}
use native.Mathlib.Omega.{arith}
use mathlib.Core.Path.{◌≡◌, ap, ◌∙◌}
use mathlib.Core.List.{List}
use lib.ListN.{length, take, drop, length-drop}
use lib.Seq.{take_all}
use borrow.Author.Tests.{le-leb}
use Rattle.std.specs.Int.{from_be_bytes, w64}
use Rattle.base_numbers.proofs.Back.{number_read}
use Rattle.base_numbers.proofs.number_at.Goals as goal

pub returns-in-Some : goal.returns-in-Some
returns-in-Some c =
    let a = c.args in
    let h : a.at + 8 ≤ length a.s.now = omega (arith, length-drop a.at a.s.now, c.in-Some.ensures.cases.enough) in
    let e : c.in-Some.bytes.now ≡ take 8 (drop a.at a.s.now) =
    c.in-Some.ensures.cases.same ∙ ap (λ (l : List ℕ). take 8 l) (take_all (length a.s.now - a.at) (drop a.at a.s.now) (omega (arith, length-drop a.at a.s.now))) in
    rw (le-leb (a.at + 8) (length a.s.now) h) (c.from_be_bytes.ensures ∙ ap (λ (l : List ℕ). from_be_bytes w64 l) e ∙ number_read a.s.now a.at h)
