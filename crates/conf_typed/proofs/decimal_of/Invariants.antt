-- Invariant: v and the rest of the span give the number. A digit is Numbers.number_digit, another byte number_other, the end number_done;
-- the line cannot end before the span does.
use Prim.Native.Nat.{◌≤◌}
use mathlib.Core.Path.{◌≡◌}
use lib.ListN.{take}
use Rattle.conf_lines.specs.Span.{joined_from}
use Rattle.conf_typed.specs.Read.{decimal_of}
use Rattle.conf_typed.proofs.Reading.{rest, Reading}
use Rattle.conf_typed.proofs.Numbers.{number_from}
use Rattle.conf_typed.proofs.decimal_of.Given as goal

abbrev pub invariant-loop-i : goal.invariant-loop-i
invariant-loop-i l =
    Reading l.text l.fn.p.length l._i l.w × (l.v ≤ 4294967296) × (number_from l.v (rest l.text l.fn.p.length l._i l.w) ≡ decimal_of (take l.fn.p.length (joined_from l.text l.fn.p.at)))
