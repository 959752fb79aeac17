-- Its three parts, one behind the other: Entries.put_entry.
use Rattle.conf_list.specs.Entry.{setting_of}
use Rattle.conf_list.proofs.Entries.{section_room, key_room, value_room, put_entry}
use Rattle.conf_list.proofs.put_setting.Goals as goal

pub put_section-first-requires : goal.put_section-first-requires
put_section-first-requires c =
    let a = c.args in
    let x = setting_of a.text.now a.section a.key a.value in
    section_room a.out.now a.at x c.requires.2

pub put_counted-second-requires : goal.put_counted-second-requires
put_counted-second-requires c =
    let a = c.args in
    let x = setting_of a.text.now a.section a.key a.value in
    (c.requires.0, key_room a.out.now a.at x c.requires.2 c.put_section-first.ensures)

pub put_counted-requires : goal.put_counted-requires
put_counted-requires c =
    let a = c.args in
    let x = setting_of a.text.now a.section a.key a.value in (
      c.requires.1,
      value_room a.out.now a.at x c.requires.2 c.put_section-first.ensures c.put_counted-second.ensures,
    )

pub returns : goal.returns
returns c =
    let a = c.args in
    let x = setting_of a.text.now a.section a.key a.value in
    put_entry a.out.now a.at x c.requires.2 c.put_section-first.ensures c.put_counted-second.ensures
    c.put_counted.ensures
