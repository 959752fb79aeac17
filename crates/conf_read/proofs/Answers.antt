-- What is answered and left, by what the first pass gave. Assumes nothing.
use mathlib.Core.Path.{◌≡◌, refl, sym, ap, ◌∙◌}
use mathlib.Core.List.{List, [], ◌∷◌}
use mathlib.Core.Bool.{true, false}
use Prim.Native.Nat.{ℕ, ◌≤◌}
use native.Mathlib.Omega.{arith}
use lib.ListN.{length}
use borrow.Author.Tests.{leb-true}
use Rattle.base_laws.specs.Base.{splice}
use Rattle.base_laws.proofs.Order.{both_true}
use Rattle.base_copy.specs.Put.{Put}
use Rattle.conf_lines.specs.Lines.{Bytes}
use Rattle.conf_list.specs.Listing.{Setting, listing, all_short}
use Rattle.conf_read.specs.Config.{Statement, sets, refuses, Verdict, refused_at, taken, after, verdict, statements_of, defaults, values_from, fits, answer_of, out_of, config_answer, config_out}
use Rattle.conf_read.specs.Passes.{start_tally, survey_of, Good, listed}
use Rattle.conf_read.specs.declared.survey.Tally.{Tally}
use Rattle.std.specs.Prelude.{Result, Ok, Err}
use Rattle.std.specs.Result.{is_ok}
use Rattle.conf_read.specs.Refusals.{bad_line, refused as as_error}
use Rattle.conf_read.specs.declared.refusal.BadLine.{BadLine}
use Rattle.conf_read.specs.declared.refusal.ConfigError.TheVariants.{NoRoom}
use Rattle.conf_read.proofs.Surveys.{tallied_all, on_verdict, all_lines, all_values, all_room}

-- ---- where no line is bad

pub record Clean (ss : List Statement) (l : List Setting) : Type 0 where
  pub good : Good ss
  pub same : listed ss ≡ l

onto : (s : Setting) (ss : List Statement) (v : Verdict) → ((l : List Setting) → v ≡ taken l → Clean ss l) → (l : List Setting) → after s v ≡ taken l → Clean (sets s ∷ ss) l
unfolding after listed
onto s ss (refused_at r n) f l e = let y : ◌≡◌ {A = ℕ} 0 1 = cc in absurd (omega arith)
onto s ss (taken k) f l e =
    let c = f k refl in
    let d : s ∷ k ≡ l = cc in
    record { good = (tt, c.good); same = ap (λ (x : List Setting). s ∷ x) c.same ∙ d }

pub clean : (ss : List Statement) (l : List Setting) → verdict ss ≡ taken l → Clean ss l
unfolding verdict listed
clean [] l e = let d : [] ≡ l = cc in record { good = tt; same = d }
clean (refuses r n ∷ ss) l e = let y : ◌≡◌ {A = ℕ} 0 1 = cc in absurd (omega arith)
clean (sets s ∷ ss) l e = onto s ss (verdict ss) (clean ss) l e

-- ---- the answer

module _ (text out : Bytes) where
  abbrev all : Verdict
  all = verdict (statements_of text)

  surveyed : (r : Result Tally BadLine) → r ≡ survey_of (start_tally (length out)) (statements_of text) → r ≡ on_verdict (start_tally (length out)) all
  surveyed r e = e ∙ all_lines (start_tally (length out)) (statements_of text)

  -- a refusal
  refused_by : (v : Verdict) (b : BadLine) → Err b ≡ on_verdict (start_tally (length out)) v → (Err (as_error b) ≡ answer_of v (length out)) × (out ≡ out_of v out)
  unfolding on_verdict answer_of out_of
  refused_by (refused_at q m) b e = let a : b ≡ bad_line q m = cc in (rw a refl, refl)
  refused_by (taken l) b e = let y : ◌≡◌ {A = ℕ} 0 1 = cc in absurd (omega arith)

  pub refused : (b : BadLine) → Err b ≡ survey_of (start_tally (length out)) (statements_of text)
      → (Err (as_error b) ≡ config_answer text out) × (out ≡ config_out text out)
  unfolding config_answer config_out
  refused b e = refused_by all b (surveyed (Err b) e)

  -- no refusal
  pub record Taken (t : Tally) : Type 0 where
    pub settings : List Setting
    pub verdict : all ≡ taken settings
    pub tally : t ≡ tallied_all (start_tally (length out)) settings

  taken_by : (v : Verdict) (t : Tally) → all ≡ v → Ok t ≡ on_verdict (start_tally (length out)) v → Taken t
  unfolding on_verdict
  taken_by (refused_at q m) t h e = let y : ◌≡◌ {A = ℕ} 0 1 = cc in absurd (omega arith)
  taken_by (taken l) t h e = let d : t ≡ tallied_all (start_tally (length out)) l = cc in record { settings = l; verdict = h; tally = d }

  pub whole : (t : Tally) → Ok t ≡ survey_of (start_tally (length out)) (statements_of text) → Taken t
  whole t e = taken_by all t refl (surveyed (Ok t) e)

  module _ {t : Tally} (k : Taken t) where
    room_is : is_ok t.room ≡ fits k.settings (length out)
    room_is = ap (λ (x : Tally). is_ok x.room) k.tally ∙ all_room (start_tally (length out)) k.settings

    values_are : t.values ≡ values_from defaults k.settings
    values_are = ap (λ (x : Tally). x.values) k.tally ∙ all_values (start_tally (length out)) k.settings

    cleaned : Clean (statements_of text) k.settings
    cleaned = clean (statements_of text) k.settings k.verdict

    pub all_good : Good (statements_of text)
    all_good = cleaned.good

    pub has_room : is_ok t.room ≡ true → length (listing (listed (statements_of text))) ≤ length out
    unfolding fits
    has_room h = rw cleaned.same (leb-true (length (listing k.settings)) (length out) (both_true (all_short k.settings) _ (sym room_is ∙ h)).1)

    pub no_room : is_ok t.room ≡ false → (Err NoRoom ≡ config_answer text out) × (out ≡ config_out text out)
    unfolding config_answer config_out answer_of out_of
    no_room h = let e : fits k.settings (length out) ≡ false = sym room_is ∙ h in (rw (k.verdict, e) refl, rw (k.verdict, e) refl)

    pub stored : {out' : Bytes} {n : ℕ} → is_ok t.room ≡ true → Put out 0 (listing (listed (statements_of text))) out' n
        → (Ok (record { size = n; values = t.values }) ≡ config_answer text out) × (out' ≡ config_out text out)
    unfolding config_answer config_out answer_of out_of
    stored {out'} {n} h p =
        let e : fits k.settings (length out) ≡ true = sym room_is ∙ h in
        let a : n ≡ length (listing k.settings) = omega (arith, p.next, ap (λ (l : List Setting). length (listing l)) cleaned.same) in
        let b : out' ≡ splice out 0 (listing k.settings) = p.list ∙ ap (λ (l : List Setting). splice out 0 (listing l)) cleaned.same in
        (rw (k.verdict, e, a, values_are) refl, rw (k.verdict, e) b)
