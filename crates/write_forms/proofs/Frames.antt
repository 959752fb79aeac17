-- A framed message is cut as a frame, whatever stands behind it.
use Prim.Native.Nat.{ℕ, ◌+◌, ◌-◌, ◌*◌, ◌/◌, ◌%◌, ◌≤◌, ◌<◌}
use native.Mathlib.Omega.{arith}
use mathlib.Core.Path.{◌≡◌, refl, ap, ◌∙◌}
use mathlib.Core.List.{List, ◌++◌}
use mathlib.Core.Bool.{true}
use lib.ListN.{length, length-append}
use lib.Seq.{take_at}
use borrow.Author.Tests.{le-ltb}
use Rattle.base_laws.specs.Base.{part}
use Rattle.wire_frame.specs.Frame.{length_of, largest, cut_of}
use Rattle.wire_frame.specs.declared.Cut.TheVariants as cut
use Rattle.write_forms.specs.Pieces.{front}

digits : (n : ℕ) → n < 4294967296 → ((n / 16777216 % 256 * 256 + n / 65536 % 256) * 256 + n / 256 % 256) * 256 + n % 256 ≡ n
digits n h =
    let e : n / 65536 ≡ n / 256 / 256 = omega arith in
    let f : n / 16777216 ≡ n / 65536 / 256 = omega arith in
    let a : n ≡ n / 256 * 256 + n % 256 = omega arith in
    let b : n / 256 ≡ n / 65536 * 256 + n / 256 % 256 = rw e (omega arith) in
    let c : n / 65536 ≡ n / 16777216 * 256 + n / 65536 % 256 = rw f (omega arith) in
    let z : n / 16777216 % 256 ≡ n / 16777216 = omega arith in
    omega arith

length_read : (n : ℕ) (s : List ℕ) → n ≤ largest → length_of (front true n ++ s) ≡ n
unfolding length_of front
length_read n s h = digits n (omega arith)

long : (n : ℕ) (s : List ℕ) → length (front true n ++ s) ≡ 4 + length s
unfolding front
long n s = omega arith

pub frame_back : (m rest : List ℕ) → length m ≤ largest → cut_of (front true (length m) ++ (m ++ rest)) ≡ cut.Frame (length m)
unfolding cut_of
frame_back m rest h =
    let s : List ℕ = front true (length m) ++ (m ++ rest) in
    let n : length_of s ≡ length m = length_read (length m) (m ++ rest) h in
    let l : length s ≡ 4 + (length m + length rest) = long (length m) (m ++ rest) ∙ ap (λ (k : ℕ). 4 + k) (length-append m rest) in
    let a : 4 ≤ length s = omega arith in
    let b : 4 + length m ≤ length s = omega arith in
    rw (le-ltb _ _ a, n, le-ltb _ _ h, le-ltb _ _ b)

pub framed_back : (m rest : List ℕ) → part (front true (length m) ++ (m ++ rest)) 4 (4 + length m) ≡ m
unfolding front
framed_back m rest = let n : 4 + length m - 4 ≡ length m = omega arith in rw n (take_at m rest (length m) refl)
