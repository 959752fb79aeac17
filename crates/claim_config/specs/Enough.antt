-- The room that a list takes, by the text that it is read of. Document 02, request 1: "A list too long for its lent buffer .. gives 12".
use Rattle.std.specs.Prelude.{◌*◌, ◌≤◌, ◌≡◌, List, length}
use Rattle.conf_lines.specs.Lines.{Bytes}
use Rattle.conf_list.specs.Listing.{Setting, listing}
use Rattle.conf_read.specs.Config.{statements_of, taken, verdict}

pub record Enough : Type 0 where
  -- the shortest line that sets something, `a=` and a line feed, is listed in 21 bytes where the section is `eventlog`
  pub enough : (text : Bytes) (ss : List Setting) → verdict (statements_of text) ≡ taken ss → length (listing ss) ≤ 7 * length text
