-- Numbers laid as bytes and read back, and bytes read and laid again.
use Prim.Native.Nat.{ℕ, suc, ◌+◌, ◌*◌, ◌/◌, ◌%◌, ◌≤◌, ◌<◌}
use native.Mathlib.Omega.{arith}
use mathlib.Core.Path.{◌≡◌, sym, ap, ◌∙◌}
use mathlib.Core.List.{List, [], ◌∷◌, ◌++◌, append-nil}
use lib.ListN.{length, get_or, take, drop}
use lib.Seq.{drop-cons, drop-length}
use Rattle.std.specs.Int.{from_be_bytes, w64}
use Rattle.base_numbers.specs.Eight.{eight, eights, number_at}

-- ---- from numbers to bytes and back

-- the bytes above a byte, which it is joined to
joined : (v a b c d e f g h i j k l m n o : ℕ)
    → v ≡ a * 256 + i → a ≡ b * 256 + j → b ≡ c * 256 + k → c ≡ d * 256 + l → d ≡ e * 256 + m → e ≡ f * 256 + n → f ≡ g * 256 + o → g ≡ h
    → h * 72057594037927936 + o * 281474976710656 + n * 1099511627776 + m * 4294967296 + l * 16777216 + k * 65536 + j * 256 + i ≡ v
joined v a b c d e f g h i j k l m n o p q r s t u w x = omega arith

back : (v : ℕ) → v < 18446744073709551616
    → v / 72057594037927936 % 256 * 72057594037927936 + v / 281474976710656 % 256 * 281474976710656 + v / 1099511627776 % 256 * 1099511627776
    + v / 4294967296 % 256 * 4294967296 + v / 16777216 % 256 * 16777216 + v / 65536 % 256 * 65536 + v / 256 % 256 * 256 + v % 256
    ≡ v
back v h =
    joined v (v / 256) (v / 65536) (v / 16777216) (v / 4294967296) (v / 1099511627776) (v / 281474976710656) (v / 72057594037927936) _ _ _ _ _ _ _ _
    (omega arith) (omega arith) (omega arith) (omega arith) (omega arith) (omega arith) (omega arith) (omega arith)

-- and each of five numbers
module _ (a b c d e : ℕ) where
  abbrev five : List ℕ
  five = a ∷ b ∷ c ∷ d ∷ e ∷ []

  pub first_back : a < 18446744073709551616 → number_at (eights five) 0 ≡ a
  unfolding number_at eights
  first_back h = back a h

  pub second_back : b < 18446744073709551616 → number_at (eights five) 8 ≡ b
  unfolding number_at eights
  second_back h = back b h

  pub third_back : c < 18446744073709551616 → number_at (eights five) 16 ≡ c
  unfolding number_at eights
  third_back h = back c h

  pub fourth_back : d < 18446744073709551616 → number_at (eights five) 24 ≡ d
  unfolding number_at eights
  fourth_back h = back d h

  pub fifth_back : e < 18446744073709551616 → number_at (eights five) 32 ≡ e
  unfolding number_at eights
  fifth_back h = back e h

-- ---- from bytes to numbers and back

-- every element is a byte
abbrev pub Bytes : List ℕ → Type 0
Bytes s = (i : ℕ) → get_or s i 0 < 256

abbrev sum : (h o n m l k j i : ℕ) → ℕ
sum h o n m l k j i = h * 72057594037927936 + o * 281474976710656 + n * 1099511627776 + m * 4294967296 + l * 16777216 + k * 65536 + j * 256 + i

pub apart : (h o n m l k j i : ℕ) → h < 256 → o < 256 → n < 256 → m < 256 → l < 256 → k < 256 → j < 256 → i < 256
    → eight (sum h o n m l k j i) ≡ h ∷ o ∷ n ∷ m ∷ l ∷ k ∷ j ∷ i ∷ []
apart h o n m l k j i bh bo bn bm bl bk bj bi =
    let e : ℕ = sum h o n m l k j i in
    let eh : e / 72057594037927936 % 256 ≡ h = omega arith in
    let eo : e / 281474976710656 % 256 ≡ o = omega arith in
    let en : e / 1099511627776 % 256 ≡ n = omega arith in
    let em : e / 4294967296 % 256 ≡ m = omega arith in
    let el : e / 16777216 % 256 ≡ l = omega arith in
    let ek : e / 65536 % 256 ≡ k = omega arith in
    let ej : e / 256 % 256 ≡ j = omega arith in
    let ei : e % 256 ≡ i = omega arith in
    λ z. eh z ∷ eo z ∷ en z ∷ em z ∷ el z ∷ ek z ∷ ej z ∷ ei z ∷ []

-- one element more, and eight
next : (s : List ℕ) (n m : ℕ) → n < length s → m ≡ suc n → drop n s ≡ get_or s n 0 ∷ drop m s
next s n m h e = drop-cons s n 0 h ∙ ap (λ (k : ℕ). get_or s n 0 ∷ drop k s) (sym e)

abbrev bytes_at : List ℕ → ℕ → List ℕ
bytes_at s at =
    get_or s at 0 ∷ get_or s (at + 1) 0 ∷ get_or s (at + 2) 0 ∷ get_or s (at + 3) 0 ∷ get_or s (at + 4) 0 ∷ get_or s (at + 5) 0 ∷ get_or s (at + 6) 0 ∷ get_or s (at + 7) 0
    ∷ []

split : (s : List ℕ) (at : ℕ) → at + 8 ≤ length s → drop at s ≡ bytes_at s at ++ drop (at + 8) s
split s at h =
    rw (
      next s at (at + 1) (omega arith) (omega arith),
      next s (at + 1) (at + 2) (omega arith) (omega arith),
      next s (at + 2) (at + 3) (omega arith) (omega arith),
      next s (at + 3) (at + 4) (omega arith) (omega arith),
      next s (at + 4) (at + 5) (omega arith) (omega arith),
      next s (at + 5) (at + 6) (omega arith) (omega arith),
      next s (at + 6) (at + 7) (omega arith) (omega arith),
      next s (at + 7) (at + 8) (omega arith) (omega arith),
    )

-- std's reading of eight bytes is the number that they are
pub number_read : (s : List ℕ) (at : ℕ) → at + 8 ≤ length s → from_be_bytes w64 (take 8 (drop at s)) ≡ number_at s at
unfolding number_at
number_read s at h = ap (λ (l : List ℕ). from_be_bytes w64 (take 8 l)) (split s at h)

-- bytes are those of the number that they are
pub bytes_back : (s : List ℕ) (at : ℕ) → Bytes s → at + 8 ≤ length s → drop at s ≡ eight (number_at s at) ++ drop (at + 8) s
unfolding number_at
bytes_back s at b h =
    split s at h
    ∙ ap (λ (l : List ℕ). l ++ drop (at + 8) s) (sym (apart _ _ _ _ _ _ _ _ (b at) (b (at + 1)) (b (at + 2)) (b (at + 3)) (b (at + 4)) (b (at + 5)) (b (at + 6)) (b (at + 7))))

-- 40 bytes are those of the five numbers that they are
pub five_back : (s : List ℕ) → Bytes s → length s ≡ 40
    → s ≡ eights (number_at s 0 ∷ number_at s 8 ∷ number_at s 16 ∷ number_at s 24 ∷ number_at s 32 ∷ [])
unfolding eights
five_back s b h =
    bytes_back s 0 b (omega arith)
    ∙ ap (λ (l : List ℕ). eight (number_at s 0) ++ l) (bytes_back s 8 b (omega arith))
    ∙ ap (λ (l : List ℕ). eight (number_at s 0) ++ eight (number_at s 8) ++ l) (bytes_back s 16 b (omega arith))
    ∙ ap (λ (l : List ℕ). eight (number_at s 0) ++ eight (number_at s 8) ++ eight (number_at s 16) ++ l) (bytes_back s 24 b (omega arith))
    ∙ ap (λ (l : List ℕ). eight (number_at s 0) ++ eight (number_at s 8) ++ eight (number_at s 16) ++ eight (number_at s 24) ++ l) (bytes_back s 32 b (omega arith))
    ∙ ap (λ (l : List ℕ). eights (number_at s 0 ∷ number_at s 8 ∷ number_at s 16 ∷ number_at s 24 ∷ number_at s 32 ∷ []) ++ l)
    (ap (λ (n : ℕ). drop n s) (sym h) ∙ drop-length s)
    ∙ append-nil (eights (number_at s 0 ∷ number_at s 8 ∷ number_at s 16 ∷ number_at s 24 ∷ number_at s 32 ∷ []))
