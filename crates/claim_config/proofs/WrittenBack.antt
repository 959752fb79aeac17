-- Settings written as a text are read as they were, line by line. Assumes nothing.
use Prim.Native.Nat.{ℕ, suc}
use mathlib.Core.Path.{◌≡◌, refl}
use mathlib.Core.List.{List, [], ◌∷◌}
use Rattle.base_laws.specs.Base.{All}
use Rattle.conf_lines.specs.Lines.{split, lines_from, lines_at}
use Rattle.conf_typed.specs.declared.Section.{Section}
use Rattle.conf_typed.specs.declared.Section.TheVariants.{Unknown}
use Rattle.conf_list.specs.Listing.{Setting}
use Rattle.conf_read.specs.Config.{statements, statements_of, taken, after, verdict}
use Rattle.claim_config.specs.WrittenBack.{written, Writable, WrittenBack}
use Rattle.claim_config.proofs.Clean.{says_header, says_setting}

written_from : (ss : List Setting) (t : Section) (n : ℕ) → All Writable ss → verdict (statements t (lines_at n (written ss))) ≡ taken ss
unfolding written verdict after statements lines_at lines_from split
written_from [] t n h = refl
written_from (s ∷ ss) t n h = rw (says_header t s.section n _, says_setting s (suc n) (written ss) h.0, written_from ss s.section (suc (suc n)) h.1)

pub written_back : WrittenBack
unfolding statements_of
written_back = record { written_back = λ ss h. written_from ss Unknown 1 h }
