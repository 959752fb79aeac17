-- The marked examples compute.
use mathlib.Core.Path.{refl}
use Rattle.wire_message.specs.Signed.{signed, int64}
use Rattle.write_forms.specs.Pieces.{shortest_from, head, elements, encode, front}
use Rattle.write_forms.specs.Draft.{client_number, client_pieces, wrapped, written_server}
use Rattle.write_forms.specs.Examples.{WritingExamples}

pub writing_examples : WritingExamples
unfolding signed int64 shortest_from head elements encode front client_number client_pieces wrapped written_server
writing_examples = record {
  one = refl;
  two = refl;
  four_minus_one_bits = refl;
  four_minus_one = refl;
  four_least_bits = refl;
  four_least = refl;
  four_greatest_bits = refl;
  four_greatest = refl;
  six = refl;
}
