-- Where the length is exact (Lengths.like_within) no numbers put nothing, and any other are head and packed bytes, Fields.text_some.
use Rattle.write_pieces.proofs.Lengths.{like_within}
use Rattle.write_pieces.proofs.Fields.{text_none, text_some, length_text}
use Rattle.base_copy.proofs.Puts.{nothing, puts}
use Rattle.write_forms.specs.Pieces.{head, packed}
use lib.ListN.{length}
use native.Mathlib.Omega.{arith}
use Prim.Native.Nat.{ℕ}
use mathlib.Core.Path.{◌≡◌, sym, ap, ◌∙◌}
use Rattle.write_lists.proofs.put_numbers.Goals as goal

pub returns-then-n-eq0 : goal.returns-then-n-eq0
returns-then-n-eq0 c =
    let a = c.args in
    let e = like_within c.len_packed-n.ensures.0 c.requires.numbers_len_bound in
    rw (text_none 1 (packed a.numbers.now) (sym e ∙ c.if-n-eq0.true)) (nothing a.out.now a.at (omega arith))

pub put_head-a-requires : goal.put_head-a-requires
put_head-a-requires c =
    let d = packed c.args.numbers.now in
    let e = like_within c.len_packed-n.ensures.0 c.requires.numbers_len_bound in
    omega (arith, length_text 1 d (λ (z : length d ≡ 0). c.if-n-eq0.false (e ∙ z)), ap (λ (n : ℕ). length (head 1 n)) e)

pub put_packed-requires : goal.put_packed-requires
put_packed-requires c =
    let d = packed c.args.numbers.now in
    let e = like_within c.len_packed-n.ensures.0 c.requires.numbers_len_bound in
    omega (arith, length_text 1 d (λ (z : length d ≡ 0). c.if-n-eq0.false (e ∙ z)), ap (λ (n : ℕ). length (head 1 n)) e)

pub returns : goal.returns
returns c =
    let d = packed c.args.numbers.now in
    let e = like_within c.len_packed-n.ensures.0 c.requires.numbers_len_bound in
    rw (text_some 1 d (λ (z : length d ≡ 0). c.if-n-eq0.false (e ∙ z)), ← e) (search puts)
