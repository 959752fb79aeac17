-- The length, then the bytes: Entries.put_counted.
use mathlib.Core.Path.{sym}
use Rattle.conf_lines.specs.Span.{spanned}
use Rattle.conf_typed.specs.Read.{cased}
use Rattle.conf_list.proofs.Spans.{length_span}
use Rattle.conf_list.proofs.Entries.{length_room, part_room, put_counted}
use Rattle.conf_list.proofs.put_counted.Goals as goal

pub put_four-start-requires : goal.put_four-start-requires
put_four-start-requires c =
    let a = c.args in
    length_room a.out.now a.at (cased a.in_lower (spanned a.text.now a.p)) c.requires.1

pub put_span-requires : goal.put_span-requires
put_span-requires c =
    let a = c.args in
    let within = c.requires.0 in
    let bs = cased a.in_lower (spanned a.text.now a.p) in
    let n = sym (length_span a.in_lower a.text.now a.p within) in
    (within, part_room a.out.now a.at bs n c.put_four-start.ensures c.requires.1)

pub returns : goal.returns
returns c =
    let a = c.args in
    let bs = cased a.in_lower (spanned a.text.now a.p) in
    let n = sym (length_span a.in_lower a.text.now a.p c.requires.0) in
    put_counted a.out.now a.at bs n c.put_four-start.ensures c.put_span.ensures
