-- The definitions at document 01's marked examples 2 and 6, and at the ends of each range.
use mathlib.Core.Path.{◌≡◌, refl}
use mathlib.Core.List.{[], ◌∷◌}
use Rattle.wire_frame.specs.Frame.{length_of, cut_of, refusal_of, frame_state, count_of}
use Rattle.wire_frame.specs.declared.Cut.TheVariants.{Wait, Frame, Refused}

-- example 2: `00 00 00 0A 3A 08 0A 02 08 01 12 02 68 69`
ttyout : cut_of (0 ∷ 0 ∷ 0 ∷ 10 ∷ 58 ∷ 8 ∷ 10 ∷ 2 ∷ 8 ∷ 1 ∷ 18 ∷ 2 ∷ 104 ∷ 105 ∷ []) ≡ Frame 10
unfolding cut_of length_of
ttyout = refl

-- example 6: `00 00 00 04 12 02 08 01`
commit_point_lem : cut_of (0 ∷ 0 ∷ 0 ∷ 4 ∷ 18 ∷ 2 ∷ 8 ∷ 1 ∷ []) ≡ Frame 4
unfolding cut_of length_of
commit_point_lem = refl

-- its last byte missing
one_missing : cut_of (0 ∷ 0 ∷ 0 ∷ 4 ∷ 18 ∷ 2 ∷ 8 ∷ []) ≡ Wait 1
unfolding cut_of length_of
one_missing = refl

nothing_held : cut_of [] ≡ Wait 4
unfolding cut_of
nothing_held = refl

three_held : cut_of (0 ∷ 0 ∷ 0 ∷ []) ≡ Wait 1
unfolding cut_of
three_held = refl

empty_message : cut_of (0 ∷ 0 ∷ 0 ∷ 0 ∷ []) ≡ Frame 0
unfolding cut_of length_of
empty_message = refl

-- 2,097,152 is taken, 2,097,153 is refusal 1 with no byte of the message there
longest : cut_of (0 ∷ 32 ∷ 0 ∷ 0 ∷ []) ≡ Wait 2097152
unfolding cut_of length_of
longest = refl

too_long : cut_of (0 ∷ 32 ∷ 0 ∷ 1 ∷ []) ≡ Refused
unfolding cut_of length_of
too_long = refl

refused : (refusal_of Refused ≡ 1) × (frame_state Refused ≡ 1) × (count_of Refused ≡ 0)
unfolding refusal_of frame_state count_of
refused = (refl, refl, refl)
