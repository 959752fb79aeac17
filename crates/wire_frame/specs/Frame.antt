-- Frames: what stands at the start of a stream of bytes.
use Rattle.std.specs.Prelude.{ℕ, ◌+◌, ◌-◌, ◌*◌, List, length, get_or, ltb}
use Rattle.base_laws.specs.Base.{pick}
use Rattle.wire_frame.specs.declared.Cut.{Cut}
use Rattle.wire_frame.specs.declared.Cut.TheVariants.{Wait, Frame, Refused}

-- Document 01: "Four bytes, most significant first, give the message length; then the message."
unfoldable pub length_of : List ℕ → ℕ
length_of s = ((get_or s 0 0 * 256 + get_or s 1 0) * 256 + get_or s 2 0) * 256 + get_or s 3 0

-- "2,097,152 is the largest length taken."
abbrev pub largest : ℕ
largest = 2097152

-- "Fewer bytes than needed is no refusal: the answer is "wait" with how many bytes are missing to the next decision (to
-- four, then to the whole frame). Length 2,097,153 is refused as soon as the four bytes are there. Length 0 is a whole frame
-- with an empty message".
unfoldable pub cut_of : List ℕ → Cut
cut_of s =
    pick (ltb (length s) 4) (Wait (4 - length s))
    (pick (ltb largest (length_of s)) Refused
    (pick (ltb (length s) (4 + length_of s)) (Wait (4 + length_of s - length s)) (Frame (length_of s))))

-- a frame that is too long is document 01's refusal 1; 0 is none
unfoldable pub refusal_of : Cut → ℕ
refusal_of (Wait n) = 0
refusal_of (Frame n) = 0
refusal_of Refused = 1

-- 2 for one to wait for, else the refusal's number
unfoldable pub frame_state : Cut → ℕ
frame_state (Wait n) = 2
frame_state (Frame n) = refusal_of (Frame n)
frame_state Refused = refusal_of Refused

-- the message length of a whole frame, or the bytes missing
unfoldable pub count_of : Cut → ℕ
count_of (Wait n) = n
count_of (Frame n) = n
count_of Refused = 0
