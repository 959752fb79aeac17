-- Entries.key_there gives the key; a value that ends the entry is Entries.numbered, text, texts or numbers; any other says nothing.
use native.Mathlib.Omega.{arith}
use mathlib.Core.Path.{sym, ◌∙◌}
use Rattle.wire_fields.proofs.Lengths.{found_part}
use Rattle.wire_check.proofs.Entries.{key_there, numbered, text, texts, numbers}
use Rattle.wire_check.proofs.entry.plain_entry.Goals as goal

pub bounds-s-key : goal.bounds-s-key
bounds-s-key c = (key_there _ _ (sym c.key_end.ensures ∙ c.in_ok-key.was)).goes_on

pub returns-then-next-s : goal.returns-then-next-s
returns-then-next-s c =
    numbered _ _ (key_there _ _ (sym c.key_end.ensures ∙ c.in_ok-key.was)) c.if-tag-eq16.true _
    (sym c.number_at.ensures ∙ c.in-Ok.is) c.if-next-s.true

pub overflow_add-key-2 : goal.overflow_add-key-2
overflow_add-key-2 c = omega (arith, (key_there _ _ (sym c.key_end.ensures ∙ c.in_ok-key.was)).goes_on)

pub returns-in-26 : goal.returns-in-26
returns-in-26 c =
    text _ _ (key_there _ _ (sym c.key_end.ensures ∙ c.in_ok-key.was)) _ (found_part _ _ _ c.part_found.ensures _ c.in_ok-start.was)
    c.if-end-s.false c.in-26.is

pub returns-in-34 : goal.returns-in-34
returns-in-34 c =
    texts _ _ (key_there _ _ (sym c.key_end.ensures ∙ c.in_ok-key.was)) _ (found_part _ _ _ c.part_found.ensures _ c.in_ok-start.was)
    c.if-end-s.false c.in-34.is

pub returns-in-42 : goal.returns-in-42
returns-in-42 c =
    numbers _ _ (key_there _ _ (sym c.key_end.ensures ∙ c.in_ok-key.was)) _ (found_part _ _ _ c.part_found.ensures _ c.in_ok-start.was)
    c.if-end-s.false c.in-42.is
