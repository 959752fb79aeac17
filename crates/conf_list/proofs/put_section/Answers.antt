-- The length, then the name: Entries.put_counted, at the bytes that `name` answers.
use mathlib.Core.Path.{refl, sym, subst}
use Prim.Native.Nat.{◌+◌, ◌≤◌}
use lib.ListN.{length}
use Rattle.base_copy.specs.Put.{Put}
use Rattle.conf_lines.specs.Lines.{Bytes}
use Rattle.conf_typed.specs.Typed.{section_name}
use Rattle.conf_list.specs.Listing.{counted}
use Rattle.conf_list.proofs.Entries.{length_room, part_room, put_counted}
use Rattle.conf_list.proofs.put_section.Goals as goal

pub put_four-start-requires : goal.put_four-start-requires
put_four-start-requires c =
    let a = c.args in
    length_room a.out.now a.at (section_name a.section) c.requires

pub put_raw-requires : goal.put_raw-requires
put_raw-requires c =
    let a = c.args in
    let name = c.name-name in
    part_room a.out.now a.at name.result.now refl c.put_four-start.ensures
    (subst (λ (bs : Bytes). a.at + length (counted bs) ≤ length a.out.now) (sym name.ensures) c.requires)

pub returns : goal.returns
returns c =
    let a = c.args in
    let name = c.name-name in
    subst (λ (bs : Bytes). Put a.out.now a.at (counted bs) c.put_raw.new.out c.put_raw.result) name.ensures
    (put_counted a.out.now a.at name.result.now refl c.put_four-start.ensures c.put_raw.ensures)
