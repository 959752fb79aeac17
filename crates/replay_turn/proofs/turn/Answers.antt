-- A frame's line is the outcome's (Lines.same_line); where bytes are waited for there is none (Lines.silent).
use Rattle.replay_text.specs.Names.{shown_member}
use Rattle.replay_lines.specs.Wording.{frame_line, written, line_length}
use Rattle.session.specs.Step.{Outcome, outcome}
use Rattle.base_laws.specs.Base.{part}
use mathlib.Core.List.{List, []}
use mathlib.Core.Path.{◌≡◌, sym, ap, refl, ◌∙◌}
use Prim.Native.Nat.{ℕ}
use native.Mathlib.Omega.{arith}
use Rattle.replay_turn.proofs.Counted.{saturated}
use Rattle.replay_lines.proofs.Lines.{silent, same_line}
use Rattle.replay_turn.specs.Turn.{frame_answer, frame_counted, turned, by_next, handed}
use Rattle.replay_turn.proofs.turn.Goals as goal

pub returns-in-Wait-clause-size : goal.returns-in-Wait-clause-size
unfolding turned by_next
returns-in-Wait-clause-size c = rw (sym c.decide.ensures.next ∙ c.in-Wait.is) (silent c.args.out.now).1.0

pub returns-in-Frame : goal.returns-in-Frame
unfolding turned by_next handed
returns-in-Frame c =
    let a = c.args in
    let m = c.message-answer in
    let n = c.saturating_add-frames in
    let l = c.frame_line-line.ensures in
    let counted : n.result ≡ frame_counted a.re.frames = n.ensures ∙ saturated a.re.frames (omega arith) in
    let o : Outcome = frame_answer a.re a.s.now a.area.now c.in-Frame.size in
    let f : ℕ = shown_member (part a.s.now 4 c.in-Frame.size) in
    let same : frame_line n.result f (outcome m.result []) ≡ frame_line (frame_counted a.re.frames) f o =
    same_line n.result f m.result [] m.new.area
    ∙ ap (frame_line n.result f) m.ensures
    ∙ ap (λ (k : ℕ). frame_line k f o) counted in
    rw (sym c.decide.ensures.next ∙ c.in-Frame.is) (record {
      replay = λ i. record { session = (m.ensures i).session; used = (m.ensures i).used; frames = counted i };
      next = refl;
      area = ap (λ (x : Outcome). x.area) m.ensures;
      line = l.line ∙ ap (λ (t : List ℕ). written t a.out.now) same;
      size = l.size ∙ ap (λ (t : List ℕ). line_length t a.out.now) same;
      within = (l.within, c.in-Frame.ensures.within);
    })
