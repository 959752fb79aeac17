-- What is returned and left, by what read_config returned. Assumes nothing.
use mathlib.Core.Path.{◌≡◌, refl, sym, ap, ◌∙◌}
use mathlib.Core.Bool.{true}
use Prim.Native.Nat.{ℕ, ◌≤◌, ◌<◌}
use lib.ListN.{length}
use lib.Dec.{leb}
use borrow.Author.Tests.{le-leb, lt-leb}
use Rattle.base_numbers.specs.Eight.{laid}
use Rattle.conf_lines.specs.Lines.{Bytes}
use Rattle.conf_read.specs.Config.{defaults, config_answer, config_out}
use Rattle.conf_read.specs.declared.values.Values.{Values}
use Rattle.conf_read.specs.declared.Config.{Config}
use Rattle.std.specs.Prelude.{Result, Ok, Err}
use Rattle.conf_read.specs.Refusals.{number_of}
use Rattle.conf_read.specs.declared.refusal.BadLine.{BadLine}
use Rattle.conf_read.specs.declared.refusal.ConfigError.{ConfigError}
use Rattle.conf_read.specs.declared.refusal.ConfigError.TheVariants.{Refused, NoRoom}
use Rattle.c_config.specs.Numbers.{refusal_of, seven_of, numbers_of, answer_with, out_with, numbers_with}

-- the answer r, the buffer o and the numbers m
abbrev pub Answers : (text out numbers : Bytes) → (r : ℕ) → (o m : Bytes) → Type 0
Answers text out numbers r o m = (r ≡ answer_with text out numbers) × ((o ≡ out_with text out numbers) × (m ≡ numbers_with text out numbers))

pub no_numbers : (text out numbers : Bytes) → length numbers < 56 → Answers text out numbers 12 out numbers
unfolding answer_with out_with numbers_with
no_numbers text out numbers h = let e = lt-leb 56 (length numbers) h in (rw e, (rw e, rw e))

module _ (text out numbers : Bytes) (h : 56 ≤ length numbers) {a : Result Config ConfigError} {o : Bytes} (is : a ≡ config_answer text out) (left : o ≡ config_out text out) where
  answered : {m : Bytes} → m ≡ numbers_of a numbers → Answers text out numbers (refusal_of a) o m
  unfolding answer_with out_with numbers_with
  answered {m} e =
      let t : leb 56 (length numbers) ≡ true = le-leb 56 (length numbers) h in
      (rw t (ap refusal_of is), (rw t left, rw t (e ∙ ap (λ (b : Result Config ConfigError). numbers_of b numbers) is)))

  pub read : {r : Config} {m : Bytes} → a ≡ Ok r → m ≡ laid (seven_of 0 r.size r.values) numbers → Answers text out numbers 0 o m
  unfolding refusal_of numbers_of
  read {r} {m} e p =
      let w : Answers text out numbers (refusal_of a) o m = answered (rw e p) in
      (sym (ap refusal_of e) ∙ w.0, w.1)

  pub refused : {b : BadLine} {n : ℕ} {v : Values} {m : Bytes} → a ≡ Err (Refused b) → n ≡ number_of b.refusal → v ≡ defaults → m ≡ laid (seven_of b.line 0 v) numbers
      → Answers text out numbers n o m
  unfolding refusal_of numbers_of
  refused {b} {n} {v} {m} e q d p =
      let w : Answers text out numbers (refusal_of a) o m = answered (rw e (p ∙ ap (λ (x : Values). laid (seven_of b.line 0 x) numbers) d)) in
      (q ∙ sym (ap refusal_of e) ∙ w.0, w.1)

  pub no_room : a ≡ Err NoRoom → Answers text out numbers 12 o numbers
  unfolding refusal_of numbers_of
  no_room e = let w : Answers text out numbers (refusal_of a) o numbers = answered (rw e refl) in (sym (ap refusal_of e) ∙ w.0, w.1)
