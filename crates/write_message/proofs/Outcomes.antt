-- What a writer answers and leaves, case by case. Assumes nothing.
use mathlib.Core.Path.{◌≡◌, refl, sym, ap, subst, ◌∙◌}
use Prim.Native.Nat.{ℕ, ◌+◌, ◌≤◌}
use native.Mathlib.Omega.{arith}
use mathlib.Core.List.{List, [], ◌∷◌, ◌++◌, append-nil}
use mathlib.Core.Bool.{Bool, true, false}
use lib.ListN.{length, length-append}
use lib.Dec.{ltb, eqb}
use borrow.Author.Tests.{lt-ltb, ltb-false, eq-eqb, ne_eqb, eqb-true, eqb-false}
use Rattle.std.specs.Prelude.{Result, Ok, Err}
use Rattle.base_laws.specs.Base.{pick}
use Rattle.write_forms.specs.Pieces.{Piece, bytes, head, encode, encode_all, front}
use Rattle.write_forms.specs.Draft.{wrapped}
use Rattle.write_forms.specs.Outcome.{room_refusal, refusal, size, buffer}
use Rattle.base_copy.specs.Put.{Put}
use Rattle.write_pieces.specs.Parts.{Like, exact, beyond, cover, around}
use Rattle.base_copy.proofs.Puts.{then}
use Rattle.write_pieces.proofs.Lengths.{like_exact, like_around}
use Rattle.write_message.specs.Wrote.{wrote, error_of, room_for, WriteOutcome}
use Rattle.write_message.specs.declared.outcome.WriteError.{WriteError}
use Rattle.write_message.specs.declared.outcome.WriteError.TheVariants.{Run, Range}

-- ---- the message as a field of the message around it

pub wrapped_around : (f : ℕ) (ps : List Piece) → wrapped f ps ≡ around f (encode_all ps)
unfolding wrapped around cover encode
wrapped_around f ps = go (eqb f 0)
  where
    go : (t : Bool) → pick t (encode_all ps) (head f (length (encode_all ps)) ++ encode_all ps ++ [])
        ≡ pick t [] (head f (length (encode_all ps))) ++ encode_all ps
    go true = refl
    go false = append-nil (head f (length (encode_all ps)) ++ encode_all ps)

-- messages of the same bytes
pub same_wrapped : (f : ℕ) (ps qs : List Piece) → encode_all ps ≡ encode_all qs → wrapped f ps ≡ wrapped f qs
same_wrapped f ps qs e = wrapped_around f ps ∙ ap (around f) e ∙ sym (wrapped_around f qs)

-- bytes that are the member themselves
pub same_note : (f : ℕ) (ps : List Piece) (d : List ℕ) → (f ≡ 0 → ⊥) → encode_all ps ≡ d ++ [] → wrapped f ps ≡ encode_all (bytes f d ∷ [])
unfolding around cover encode
same_note f ps d h e =
    wrapped_around f ps
    ∙ ap (around f) (e ∙ append-nil d)
    ∙ rw (ne_eqb f 0 h) (sym (append-nil (head f (length d) ++ d)))

module _ (f : ℕ) (ps : List Piece) {n : ℕ} where
  pub like_wrapped : {k : ℕ} → Like n (encode_all ps) → k ≡ length (cover f n) → Like (k + n) (wrapped f ps)
  like_wrapped h e = rw (wrapped_around f ps) (like_around f h e)

  pub put_wrapped : {s s₁ s₂ : List ℕ} {at a b : ℕ} → n ≡ length (encode_all ps) → Put s at (cover f n) s₁ a
      → Put s₁ a (encode_all ps) s₂ b → Put s at (wrapped f ps) s₂ b
  unfolding around
  put_wrapped e p q = rw (wrapped_around f ps, ← e) (then p q)

-- ---- the room

room_like : (framed : Bool) (room : ℕ) {n : ℕ} {m : List ℕ} → Like n m → room_refusal framed n room ≡ room_refusal framed (length m) room
unfolding room_refusal
room_like framed room (exact e) = ap (λ (x : ℕ). room_refusal framed x room) e
room_like framed room {n} {m} (beyond h l) = rw (lt-ltb 2097152 n h, lt-ltb 2097152 (length m) l)

-- no refusal: the bytes fit
pub record Fits (framed : Bool) (n room : ℕ) : Type 0 where
  pub short : n ≤ 2097152
  pub within : length (front framed n) + n ≤ room

no_refusal : (framed : Bool) (n room : ℕ) {v : Unit} → Ok v ≡ room_for framed n room → room_refusal framed n room ≡ 0
no_refusal framed n room e = go (eqb (room_refusal framed n room) 0) refl e
  where
    go : (t : Bool) → eqb (room_refusal framed n room) 0 ≡ t
        → ◌≡◌ {A = Result Unit WriteError} (Ok tt) (pick t (Ok tt) (Err (error_of 0 (room_refusal framed n room))))
        → room_refusal framed n room ≡ 0
    go true z k = eqb-true (room_refusal framed n room) 0 z
    go false z k = let w : ◌≡◌ {A = ℕ} 0 1 = cc in absurd (omega arith)

pub room_fits : (framed : Bool) (n room : ℕ) {v : Unit} → Ok v ≡ room_for framed n room → Fits framed n room
unfolding room_refusal
room_fits framed n room e = go (ltb 2097152 n) refl (ltb room (length (front framed n) + n)) refl (sym (no_refusal framed n room e))
  where
    go : (a : Bool) → ltb 2097152 n ≡ a → (b : Bool) → ltb room (length (front framed n) + n) ≡ b
        → ◌≡◌ {A = ℕ} 0 (pick a 1 (pick b 12 0)) → Fits framed n room
    go true p b q h = absurd (omega arith)
    go false p true q h = absurd (omega arith)
    go false p false q h = record { short = ltb-false 2097152 n p; within = ltb-false room (length (front framed n) + n) q }

-- ---- the outcome

-- out of range, a writer refuses whatever the message
never : (r : ℕ) → eqb (pick (eqb r 0) 7 r) 0 ≡ false
never r = go (eqb r 0) refl
  where
    go : (t : Bool) → eqb r 0 ≡ t → eqb (pick t 7 r) 0 ≡ false
    go true e = refl
    go false e = e

unfit_answer : (r room : ℕ) (framed : Bool) (m m' : List ℕ) → wrote r false framed m room ≡ wrote r false framed m' room
unfolding refusal size
unfit_answer r room framed m m' = rw (never r)

unfit_buffer : (r : ℕ) (framed : Bool) (m m' out : List ℕ) → buffer r false framed m out ≡ buffer r false framed m' out
unfolding refusal buffer
unfit_buffer r framed m m' out = rw (never r)

-- the same by equal arguments; the message counts only where the values are in range
pub same_outcome : {r : ℕ} {fits framed : Bool} {m out : List ℕ} {w : Result ℕ WriteError} {out' : List ℕ} → WriteOutcome r fits framed m out w out'
    → (r' : ℕ) (fits' : Bool) (m' : List ℕ) → r ≡ r' → fits ≡ fits' → (fits' ≡ true → m ≡ m')
    → (w ≡ wrote r' fits' framed m' (length out)) × (out' ≡ buffer r' fits' framed m' out)
same_outcome h r' true m' e f g = (rw (e, f, g refl) at h.answer, rw (e, f, g refl) at h.leaves)
same_outcome {framed = framed} {m} {out} h r' false m' e f g = (
  rw (e, f) at h.answer ∙ unfit_answer r' (length out) framed m m',
  rw (e, f) at h.leaves ∙ unfit_buffer r' framed m m' out,
)

pub same_range : {r : ℕ} {fits fits' framed : Bool} {m out : List ℕ} {w : Result ℕ WriteError} {out' : List ℕ} → WriteOutcome r fits framed m out w out'
    → fits ≡ fits' → WriteOutcome r fits' framed m out w out'
same_range h e = rw e at h

-- a refusal is the same, whatever would have been returned
abbrev err_as_size : Result Unit WriteError → Result ℕ WriteError
err_as_size (Ok v) = Ok 0
err_as_size (Err x) = Err x

in_range_lem : (r : ℕ) (fits framed : Bool) (m : List ℕ) (room : ℕ) → r ≡ 0 → fits ≡ true
    → refusal r fits framed m room ≡ room_refusal framed (length m) room
unfolding refusal
in_range_lem r fits framed m room e f = rw (eq-eqb r 0 e, f)

module _ {r : ℕ} {fits framed : Bool} {m out : List ℕ} where
  refused : {q : ℕ} → refusal r fits framed m (length out) ≡ q → (q ≡ 0 → ⊥)
      → WriteOutcome r fits framed m out (Err (error_of r q)) out
  unfolding size buffer
  refused {q} e z = record { answer = rw (e, ne_eqb q 0 z); leaves = rw (e, ne_eqb q 0 z) }

  -- the same, the refusal by its name
  refused_as : {q : ℕ} {x : WriteError} → refusal r fits framed m (length out) ≡ q → (q ≡ 0 → ⊥) → error_of r q ≡ x
      → WriteOutcome r fits framed m out (Err x) out
  refused_as e z name = subst (λ (y : WriteError). WriteOutcome r fits framed m out (Err y) out) name (refused e z)

  pub run_refused : (r ≡ 0 → ⊥) → WriteOutcome r fits framed m out (Err (Run r)) out
  unfolding refusal
  run_refused h = refused_as (rw (ne_eqb r 0 h)) h (rw (ne_eqb r 0 h))

  pub out_of_range : r ≡ 0 → fits ≡ false → WriteOutcome r fits framed m out (Err Range) out
  unfolding refusal
  out_of_range e f = refused_as {q = 7} (rw (eq-eqb r 0 e, f)) (λ (h : ◌≡◌ {A = ℕ} 7 0). omega arith) (ap (λ (x : ℕ). error_of x 7) e)

  pub no_room : {n : ℕ} {x : WriteError} → r ≡ 0 → fits ≡ true → Like n m → Err x ≡ room_for framed n (length out)
      → WriteOutcome r fits framed m out (Err x) out
  no_room {n} {x} e f l h = go (eqb (room_refusal framed n (length out)) 0) refl h
    where
      go : (t : Bool) → eqb (room_refusal framed n (length out)) 0 ≡ t
          → ◌≡◌ {A = Result Unit WriteError} (Err x) (pick t (Ok tt) (Err (error_of 0 (room_refusal framed n (length out)))))
          → WriteOutcome r fits framed m out (Err x) out
      go true z k = let w : ◌≡◌ {A = ℕ} 0 1 = cc in absurd (omega arith)
      go false z k =
          subst (λ (w : Result ℕ WriteError). WriteOutcome r fits framed m out w out)
          (ap (λ (y : ℕ). Err (error_of y (room_refusal framed n (length out)))) e ∙ ap err_as_size (sym k))
          (refused (in_range_lem r fits framed m (length out) e f ∙ sym (room_like framed (length out) l)) (eqb-false _ 0 z))

  pub written : {n a size' : ℕ} {s out' : List ℕ} {v : Unit} → r ≡ 0 → fits ≡ true → Like n m → Ok v ≡ room_for framed n (length out)
      → Put out 0 (front framed n) s a → Put s a m out' size'
      → WriteOutcome r fits framed m out (Ok size') out'
  unfolding size buffer
  written {n} {a} {size'} {s} {out'} e f l h p w =
      let none : refusal r fits framed m (length out) ≡ 0 =
      in_range_lem r fits framed m (length out) e f ∙ sym (room_like framed (length out) l) ∙ no_refusal framed n (length out) h in
      let x : n ≡ length m = like_exact l (room_fits framed n (length out) h).short in
      let all : Put out 0 (front framed (length m) ++ m) out' size' = rw x at (then p w) in
      let total : size' ≡ length (front framed (length m)) + length m = omega (arith, all.next, length-append (front framed (length m)) m) in
      record { answer = rw (none, total); leaves = rw none all.list }
