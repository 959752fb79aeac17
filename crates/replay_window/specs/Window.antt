-- The window that a stream is read through.
use Rattle.std.specs.Prelude.{ℕ, ◌+◌, ◌≤◌, List, length, leb, ltb}
use Rattle.base_laws.specs.Base.{pick, both, part, splice}
use Rattle.wire_frame.specs.Frame.{cut_of}
use Rattle.wire_frame.specs.declared.Cut.{Cut}
use Rattle.wire_frame.specs.declared.Cut.TheVariants as cut
use Rattle.replay_window.specs.declared.Next.{Next}
use Rattle.replay_window.specs.declared.Next.TheVariants.{Wait, Frame, Beyond, Refused}

-- ---- the next decision

-- by the cut at the start of n bytes: a frame that misses bytes is waited for where the window can hold it
unfoldable pub by_cut : ℕ → ℕ → Cut → Next
by_cut n window (cut.Wait missing) = pick (ltb window (n + missing)) (Beyond (n + missing)) Wait
by_cut n window (cut.Frame size) = Frame (4 + size)
by_cut n window cut.Refused = Refused

unfoldable pub next_of : List ℕ → ℕ → Next
next_of s window = by_cut (length s) window (cut_of s)

-- a frame is within n bytes, its message behind its first four
unfoldable pub FrameWithin : ℕ → Next → Type 0
FrameWithin n Wait = Unit
FrameWithin n (Frame size) = (4 ≤ size) × (size ≤ n)
FrameWithin n (Beyond size) = Unit
FrameWithin n Refused = Unit

-- ---- the window

-- the bytes from one place up to another, moved to the start, where the window has these places
unfoldable pub slid : List ℕ → ℕ → ℕ → List ℕ
slid window from held = pick (both (leb held (length window)) (leb from held)) (splice window 0 (part window from held)) window
