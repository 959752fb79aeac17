-- The numbers that a varint's 64 bits stand for. Document 01: "int64 is the 64 bits in two's complement. int32 is the low 32
-- bits. bool is true for any number but 0."
use Rattle.std.specs.Prelude.{ℕ, ◌+◌, ◌-◌, ◌%◌, Bool, not, ℤ, pos, negsuc, ltb, eqb}
use Rattle.base_laws.specs.Base.{pick}

-- bits in two's complement, `half` being the first that stand for a negative number: twice half less one is -1
unfoldable pub signed : ℕ → ℕ → ℤ
signed half v = pick (ltb v half) (pos v) (negsuc (half + half - 1 - v))

unfoldable pub int64 : ℕ → ℤ
int64 v = signed 9223372036854775808 v

unfoldable pub int32 : ℕ → ℤ
int32 v = signed 2147483648 (v % 4294967296)

unfoldable pub bool : ℕ → Bool
bool v = not (eqb v 0)
