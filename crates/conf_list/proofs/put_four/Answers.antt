-- A write to four places is a splice (Splice.part_splice), and std's bytes of the number's last 32 bits are `four`'s.
use mathlib.Core.Path.{refl, ◌∙◌}
use native.Mathlib.Omega.{arith}
use Rattle.base_laws.proofs.Splice.{part_splice}
use Rattle.conf_list.specs.Listing.{four}
use Rattle.conf_list.proofs.Entries.{four_low}
use Rattle.conf_list.proofs.put_four.Goals as goal

pub returns : goal.returns
returns c =
    let a = c.args in
    record {
      list = part_splice a.out.now a.at _ _ (four a.n) (c.copy_from_slice.ensures.after ∙ c.to_be_bytes.ensures ∙ four_low a.n) (omega arith);
      next = refl;
      fits = omega arith;
    }
