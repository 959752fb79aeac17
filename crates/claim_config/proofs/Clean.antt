-- Lines that read as they stand: no comment, no join, no blank before them. Assumes nothing.
use Prim.Native.Nat.{ℕ, suc, ◌≤◌}
use native.Mathlib.Omega.{arith}
use mathlib.Core.Path.{◌≡◌, refl, ap, ◌∙◌}
use mathlib.Core.List.{List, [], ◌∷◌, ◌++◌}
use mathlib.Core.Bool.{Bool, true, false}
use lib.ListN.{length}
use lib.Dec.{eqb}
use Rattle.base_laws.specs.Base.{pick, both}
use Rattle.conf_lines.specs.Lines.{Bytes, is_nil, is_blank, lead, trail, is_remark, body, last, more, piece, onto, split, on_piece, lines_from, lines_at}
use Rattle.conf_content.specs.Content.{has, before, behind, last_is, but_last, section, setting, header, keyed, assignment, content_of}
use Rattle.conf_typed.specs.Typed.{same, lower_byte, lower, section_name, section_of}
use Rattle.conf_typed.specs.declared.Section.{Section}
use Rattle.conf_typed.specs.declared.Section.TheVariants.{Server, Relay, Iolog, Eventlog, Syslog, Logfile, Unknown}
use Rattle.conf_list.specs.Listing.{Setting}
use Rattle.conf_read.specs.Config.{Statement, sets, setting_in, on_content, statements}
use Rattle.claim_config.specs.WrittenBack.{header_line, setting_line, ended, is_header, Writable}

-- ---- bytes that are not among others

neither : (t u : Bool) → pick t true u ≡ false → (t ≡ false) × (u ≡ false)
neither true u e = let z : ◌≡◌ {A = ℕ} 0 1 = cc in absurd (omega arith)
neither false u e = (refl, e)

both_not : (t : Bool) → both t false ≡ false
both_not true = refl
both_not false = refl

pub has_not : (x b : ℕ) (bs : Bytes) → has x (b ∷ bs) ≡ false → (eqb b x ≡ false) × (has x bs ≡ false)
unfolding has
has_not x b bs h = neither (eqb b x) (has x bs) h

-- what stands behind bytes without x
has_behind : (x : ℕ) (a r : Bytes) → has x a ≡ false → has x (a ++ r) ≡ has x r
unfolding has
has_behind x [] r h = refl
has_behind x (b ∷ bs) r h = let p = has_not x b bs h in rw p.0 (has_behind x bs r p.1)

before_behind : (x : ℕ) (a r : Bytes) → has x a ≡ false → before x (a ++ r) ≡ a ++ before x r
unfolding before
before_behind x [] r h = refl
before_behind x (b ∷ bs) r h =
    let p = has_not x b bs h in rw p.0 (ap (λ (z : Bytes). b ∷ z) (before_behind x bs r p.1))

behind_behind : (x : ℕ) (a r : Bytes) → has x a ≡ false → behind x (a ++ r) ≡ behind x r
unfolding behind
behind_behind x [] r h = refl
behind_behind x (b ∷ bs) r h = let p = has_not x b bs h in rw p.0 (behind_behind x bs r p.1)

last_behind : (x : ℕ) (a : Bytes) (c : ℕ) (r : Bytes) → last_is x (a ++ c ∷ r) ≡ last_is x (c ∷ r)
unfolding last_is
last_behind x [] c r = refl
last_behind x (b ∷ []) c r = refl
last_behind x (b ∷ d ∷ bs) c r = last_behind x (d ∷ bs) c r

-- ---- one line of a text

split_line : (l rest : Bytes) → has 10 l ≡ false → split (l ++ 10 ∷ rest) ≡ l ∷ split rest
unfolding split onto
split_line [] rest h = refl
split_line (b ∷ bs) rest h = let p = has_not 10 b bs h in rw (p.0, split_line bs rest p.1)

body_clean : (l : Bytes) → has 35 l ≡ false → body l ≡ l
unfolding body
body_clean [] h = refl
body_clean (b ∷ bs) h = let p = has_not 35 b bs h in rw p.0 (ap (λ (z : Bytes). b ∷ z) (body_clean bs p.1))

piece_clean : (l : Bytes) → last_is 92 l ≡ false → piece l ≡ last l
unfolding piece more last_is
piece_clean [] h = refl
piece_clean (b ∷ []) h = rw h
piece_clean (b ∷ c ∷ bs) h = rw (both_not (eqb b 92)) (ap (more b) (piece_clean (c ∷ bs) h))

-- a line that reads as it stands, but for blanks at its end
record Clean (l : Bytes) : Type 0 where
  pub no_feed : has 10 l ≡ false
  pub no_comment : has 35 l ≡ false
  pub no_lead : lead l ≡ l
  pub no_remark : is_remark l ≡ false
  pub no_join : last_is 92 l ≡ false

clean_line : (n : ℕ) (l rest : Bytes) → Clean l → lines_at n (ended l rest) ≡ record { number = n; text = trail l } ∷ lines_at (suc n) rest
unfolding lines_at lines_from on_piece ended
clean_line n l rest c =
    rw (split_line l rest c.no_feed, c.no_lead, c.no_remark, body_clean l c.no_comment, piece_clean l c.no_join)

says_line : (s : Section) (n : ℕ) (l rest : Bytes) → Clean l
    → statements s (lines_at n (ended l rest)) ≡ on_content (λ (t : Section). statements t (lines_at (suc n) rest)) n s (content_of (trail l))
unfolding statements
says_line s n l rest c = rw (clean_line n l rest c)

-- ---- headers

header_clean : (s : Section) → Clean (header_line s)
unfolding header_line section_name has lead is_blank is_remark last_is
header_clean Server = record { no_feed = refl; no_comment = refl; no_lead = refl; no_remark = refl; no_join = refl }
header_clean Relay = record { no_feed = refl; no_comment = refl; no_lead = refl; no_remark = refl; no_join = refl }
header_clean Iolog = record { no_feed = refl; no_comment = refl; no_lead = refl; no_remark = refl; no_join = refl }
header_clean Eventlog = record { no_feed = refl; no_comment = refl; no_lead = refl; no_remark = refl; no_join = refl }
header_clean Syslog = record { no_feed = refl; no_comment = refl; no_lead = refl; no_remark = refl; no_join = refl }
header_clean Logfile = record { no_feed = refl; no_comment = refl; no_lead = refl; no_remark = refl; no_join = refl }
header_clean Unknown = record { no_feed = refl; no_comment = refl; no_lead = refl; no_remark = refl; no_join = refl }

header_content : (s : Section) → content_of (trail (header_line s)) ≡ section (section_name s)
unfolding header_line section_name trail is_blank content_of header last_is but_last
header_content Server = refl
header_content Relay = refl
header_content Iolog = refl
header_content Eventlog = refl
header_content Syslog = refl
header_content Logfile = refl
header_content Unknown = refl

header_opens : (s : Section) → section_of (lower (section_name s)) ≡ s
unfolding section_name section_of same lower lower_byte
header_opens Server = refl
header_opens Relay = refl
header_opens Iolog = refl
header_opens Eventlog = refl
header_opens Syslog = refl
header_opens Logfile = refl
header_opens Unknown = refl

-- a header opens its section
pub says_header : (t s : Section) (n : ℕ) (rest : Bytes)
    → statements t (lines_at n (ended (header_line s) rest)) ≡ statements s (lines_at (suc n) rest)
unfolding on_content
says_header t s n rest =
    says_line t n (header_line s) rest (header_clean s)
    ∙ ap (on_content (λ (u : Section). statements u (lines_at (suc n) rest)) n t) (header_content s)
    ∙ ap (λ (u : Section). statements u (lines_at (suc n) rest)) (header_opens s)

-- ---- blanks

lead_length : (bs : Bytes) → length (lead bs) ≤ length bs
unfolding lead
lead_length [] = omega arith
lead_length (b ∷ bs) = go (is_blank b) (lead_length bs)
  where
    go : (t : Bool) → length (lead bs) ≤ length bs → length (pick t (lead bs) (b ∷ bs)) ≤ suc (length bs)
    go true h = omega arith
    go false h = omega arith

-- a first byte that stays is no blank
first_stays : (b : ℕ) (bs : Bytes) → lead (b ∷ bs) ≡ b ∷ bs → is_blank b ≡ false
unfolding lead
first_stays b bs e = go (is_blank b) e
  where
    go : (t : Bool) → pick t (lead bs) (b ∷ bs) ≡ b ∷ bs → t ≡ false
    go true e = let h = lead_length bs in let k : length (lead bs) ≡ suc (length bs) = ap length e in absurd (omega arith)
    go false e = refl

lead_behind : (a r : Bytes) → is_nil a ≡ false → lead a ≡ a → lead (a ++ r) ≡ a ++ r
unfolding lead
lead_behind [] r h e = let z : ◌≡◌ {A = ℕ} 0 1 = cc in absurd (omega arith)
lead_behind (b ∷ bs) r h e = rw (first_stays b bs e)

remark_behind : (a r : Bytes) → is_nil a ≡ false → is_remark (a ++ r) ≡ is_remark a
unfolding is_remark
remark_behind [] r h = let z : ◌≡◌ {A = ℕ} 0 1 = cc in absurd (omega arith)
remark_behind (b ∷ bs) r h = refl

nil_behind : (a r : Bytes) → is_nil r ≡ false → is_nil (a ++ r) ≡ false
nil_behind [] r h = h
nil_behind (b ∷ bs) r h = refl

trail_behind : (a r : Bytes) → is_nil (trail r) ≡ false → trail (a ++ r) ≡ a ++ trail r
unfolding trail
trail_behind [] r h = refl
trail_behind (b ∷ bs) r h = rw (trail_behind bs r h, nil_behind bs (trail r) h, both_not (is_blank b))

trail_blank : (a : Bytes) → trail (a ++ 32 ∷ []) ≡ trail a
unfolding trail is_blank
trail_blank [] = refl
trail_blank (b ∷ bs) = rw (trail_blank bs)

-- ---- settings

-- the blank before a value goes, with the value's end as it is
value_read : (v : Bytes) → lead v ≡ v → trail v ≡ v → lead (trail (32 ∷ v)) ≡ v
unfolding lead trail is_blank
value_read [] a b = refl
value_read (c ∷ cs) a b = rw b a

line_clean : (s : Setting) → Writable s → Clean (setting_line s.key s.value)
unfolding setting_line has last_is
line_clean s w = record {
  no_feed = has_behind 10 s.key _ w.key.no_feed ∙ w.value.no_feed;
  no_comment = has_behind 35 s.key _ w.key.no_comment ∙ w.value.no_comment;
  no_lead = lead_behind s.key _ w.key_some w.key.no_lead;
  no_remark = remark_behind s.key _ w.key_some ∙ w.key_no_remark;
  no_join = last_behind 92 s.key 32 _ ∙ no_join s.value w.value_no_join;
}
  where
    no_join : (v : Bytes) → last_is 92 v ≡ false → last_is 92 (32 ∷ 61 ∷ 32 ∷ v) ≡ false
    no_join [] h = refl
    no_join (b ∷ bs) h = h

line_trail : (k v : Bytes) → trail (setting_line k v) ≡ k ++ (32 ∷ 61 ∷ trail (32 ∷ v))
unfolding setting_line trail is_blank
line_trail k v = trail_behind k (32 ∷ 61 ∷ 32 ∷ v) refl

no_header : (a r : Bytes) → is_nil a ≡ false → is_header a ≡ false → content_of (a ++ r) ≡ assignment (a ++ r)
unfolding content_of
no_header [] r h e = let z : ◌≡◌ {A = ℕ} 0 1 = cc in absurd (omega arith)
no_header (b ∷ bs) r h e = rw e

line_content : (s : Setting) → Writable s → content_of (trail (setting_line s.key s.value)) ≡ setting s.key s.value
unfolding assignment keyed has before behind
line_content s w =
    let r : Bytes = 32 ∷ 61 ∷ trail (32 ∷ s.value) in
    ap content_of (line_trail s.key s.value)
    ∙ no_header s.key r w.key_some w.key_no_header
    ∙ rw (
      has_behind 61 s.key r w.key_whole,
      before_behind 61 s.key r w.key_whole,
      behind_behind 61 s.key r w.key_whole,
      trail_blank s.key,
      w.key.no_trail,
      w.key_some,
      value_read s.value w.value.no_lead w.value.no_trail,
    )

sets_in : (n : ℕ) (s : Setting) → Writable s → setting_in n s.section s.key s.value ≡ sets s
unfolding setting_in
sets_in n s w = rw (w.known, w.key_lower, w.value_good)

-- a line `key = value` sets its value, in its section
pub says_setting : (s : Setting) (n : ℕ) (rest : Bytes) → Writable s
    → statements s.section (lines_at n (ended (setting_line s.key s.value) rest))
    ≡ sets s ∷ statements s.section (lines_at (suc n) rest)
unfolding on_content
says_setting s n rest w =
    let go : Section → List Statement = λ (u : Section). statements u (lines_at (suc n) rest) in
    says_line s.section n (setting_line s.key s.value) rest (line_clean s w)
    ∙ ap (on_content go n s.section) (line_content s w)
    ∙ ap (λ (z : Statement). z ∷ go s.section) (sets_in n s w)
