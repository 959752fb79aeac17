-- What keeping a session as bytes leaves unchanged: a session that a host carries from call to call as 40 bytes is the session.
use Rattle.std.specs.Prelude.{ℕ, ◌≤◌, ◌<◌, ◌≡◌, List, ◌⊎◌, length, get_or, Option, Some, None}
use Rattle.file_format.specs.File.{limit}
use Rattle.session.specs.Step.{new_session, step}
use Rattle.session.specs.declared.Session.{Session}
use Rattle.session_bytes.specs.Saved.{session_bytes, session_of, closed}

abbrev pub MarkSound : Option ℕ → Type 0
MarkSound None = Unit
MarkSound (Some t) = t ≤ limit

-- a session whose numbers are within document 01's limits
pub record Sound (se : Session) : Type 0 where
  pub used : se.used ≤ 1073741824
  pub total : se.total ≤ limit
  pub low : se.low ≤ limit
  pub mark : MarkSound se.mark

pub record Keeping : Type 0 where
  -- every session that a host can come to is sound
  pub new_sound : Sound new_session
  pub step_sound : (se : Session) → Sound se → (area : List ℕ) (used : ℕ) (s : List ℕ) → Sound (step se area used s).session
  -- such a session reads back from its bytes, which are 40
  pub back : (se : Session) → Sound se → session_of (session_bytes se) ≡ se
  pub forty : (se : Session) → length (session_bytes se) ≡ 40
  -- bytes that are no session's count as a closed one
  pub other : (s : List ℕ) → ((i : ℕ) → get_or s i 0 < 256) → (s ≡ session_bytes (session_of s)) ⊎ (session_of s ≡ closed)
