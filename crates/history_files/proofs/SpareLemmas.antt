-- What the removal of objects that are no entry's leaves.
use Rattle.std.proofs.Common.{◌≡◌, ◌≢◌, ◌⊎◌, inl, inr, ⊎_elim, ℕ, zero, suc, ◌+◌, ◌<◌, ◌≤◌, Bool, true, false, List, [], ◌∷◌, length, get_or, Option, Some, None, refl, sym, ◌∙◌, ap, subst, arith, All}
use Rattle.std.specs.Prelude.{MatchBool, not, ◌&&◌, ◌==◌, Contains, IsSome}
use Rattle.std.proofs.lemmas.Bool.{false≢true, cases_eq, cases_lt}
use Rattle.std.proofs.lemmas.Bool.Decides.{nat_tests}
use Rattle.disk_trait.specs.declared.disk.FileId.{FileId}
use Rattle.disk_trait.specs.declared.disk.FileId.TheVariants.{Index, Object, Root, LimitsFile}
use Rattle.disk_trait.specs.Disk.{Files, DiskView, Tells, Leads, Stays, Touches, MaybeGone, Removed, Lists}
use Rattle.disk_trait.proofs.Steps.{goes_on, widen, still}
use Rattle.metastore_index.specs.declared.entry.Entry.{Entry}
use Rattle.history_files.specs.History.{StandFor}
use Rattle.history_files.specs.Standing.{Spares, Fewer, KeepsLive, LosesSpares, NoneFrom, is_spare, is_spare_file}
use Rattle.history_files.proofs.HeldLemmas.{IsDead}
use Rattle.history_files.proofs.RestLemmas.{rests_stand, rests_beside, rests_still, touched_stand}

spare_dead : (id : ℕ) (xs : List Entry) → is_spare id xs ≡ true → IsDead (Object id) xs
spare_dead id [] spare = tt
spare_dead id (x ∷ xs) spare = (λ same. absurd (differs (the_id x.id id same)), spare_dead id xs (rest (not (x.id == id)) (is_spare id xs) spare))
  where
    the_id : (m n : ℕ) → Object m ≡ Object n → m ≡ n
    the_id m n same = cc

    rest : (a b : Bool) → (a && b) ≡ true → b ≡ true
    rest true b both = both
    rest false b both = absurd (false≢true both)

    differs : x.id ≡ id → ⊥
    differs same = grind (arith, nat_tests)

-- an id past all ids is no entry's
past_spare : (next id : ℕ) (xs : List Entry) → All (λ (entry : Entry). entry.id < next) xs → next ≤ id → is_spare id xs ≡ true
past_spare next id [] below le = refl
past_spare next id (x ∷ xs) below le =
    let rest = past_spare next id xs (λ k d within. below (suc k) d (omega (arith, within))) le in
    let here : x.id < id = omega (arith, below 0 x (omega arith), le) in
    grind (arith, nat_tests)

pub spares_itself : (disk : DiskView) (entries : List Entry) → Spares entries disk disk
spares_itself disk entries journal index history same it = (it, widen (still disk) (λ d image left stays. subst (λ (f : Files). StandFor journal.limit f history) (sym stays) (rests_stand disk journal index history it d left)))

pub spares_again : (old mid new : DiskView) (entries : List Entry) → Spares entries old mid → Spares entries mid new → Spares entries old new
spares_again old mid new entries one two journal index history same it =
    let a = one journal index history same it in
    let b = two journal index history same a.0 in
    (b.0, goes_on a.1 b.1 (λ d image left step. step) (λ d c image left first now step. step))

spares_touch : (old new : DiskView) (entries : List Entry) (id : ℕ) → is_spare id entries ≡ true → Tells new → Leads (Touches (Object id) MaybeGone) old new → Spares entries old new
spares_touch old new entries id spare tells run journal index history same it =
    let dead : IsDead (Object id) index.entries = subst (λ (xs : List Entry). IsDead (Object id) xs) (sym same) (spare_dead id entries spare) in
    (rests_beside old new journal index history id it dead tells run, widen run (λ d image left step. touched_stand old journal index history it id dead d image left step))

-- one removal
pub spares_step : {D : Type 0} (view : D → DiskView) (old new : D) (entries : List Entry) (file : FileId) → Tells (view new)
    → MatchBool (is_spare_file file entries) (Leads (Touches file MaybeGone) (view old) (view new)) (new ≡ old) → Spares entries (view old) (view new)
spares_step {D} view old new entries (Object id) tells step = by_test (is_spare id entries) refl step
  where
    by_test : (b : Bool) → is_spare id entries ≡ b → MatchBool b (Leads (Touches (Object id) MaybeGone) (view old) (view new)) (new ≡ old) → Spares entries (view old) (view new)
    by_test true spare run = spares_touch (view old) (view new) entries id spare tells run
    by_test false spare same = subst (λ (d : D). Spares entries (view old) (view d)) (sym same) (spares_itself (view old) entries)
spares_step {D} view old new entries (Index n) tells same = subst (λ (d : D). Spares entries (view old) (view d)) (sym same) (spares_itself (view old) entries)
spares_step {D} view old new entries Root tells same = subst (λ (d : D). Spares entries (view old) (view d)) (sym same) (spares_itself (view old) entries)
spares_step {D} view old new entries LimitsFile tells same = subst (λ (d : D). Spares entries (view old) (view d)) (sym same) (spares_itself (view old) entries)

-- after a look
pub spares_look : (old new : DiskView) (entries : List Entry) → Tells new → Leads Stays old new → Spares entries old new
spares_look old new entries tells look journal index history same it = (rests_still old new journal index history it tells look, widen look (λ d image left stays. subst (λ (f : Files). StandFor journal.limit f history) (sym stays) (rests_stand old journal index history it d left)))

-- ---- what stays

-- a step on an object that is no entry's leaves each other file
pub live_beside : {step : Option (List ℕ) → Option (List ℕ) → Type 0} (entries : List Entry) (file : FileId) (before after : Files)
    → is_spare_file file entries ≡ true → Touches file step before after → KeepsLive entries before after
live_beside entries file before after spare touch other live =
    touch.others other (λ same. absurd (false≢true (sym live ∙ ap (λ (f : FileId). is_spare_file f entries) same ∙ spare)))

module _ (entries : List Entry) where
  pub live_look : {old new : DiskView} → Leads Stays old new → Leads (KeepsLive entries) old new
  live_look look = widen look (λ before image left stays file live. ap (λ (f : Files). f file) stays)

  pub live_again : {old mid new : DiskView} → Leads (KeepsLive entries) old mid → Leads (KeepsLive entries) mid new → Leads (KeepsLive entries) old new
  live_again one two = goes_on one two (λ before image left step. step) (λ before between image left first now second file live. second file live ∙ first file live)

  module _ {D : Type 0} (view : D → DiskView) (old new : D) (file : FileId) where
    -- one removal, also one that failed
    pub live_step : MatchBool (is_spare_file file entries) (Leads (Touches file MaybeGone) (view old) (view new)) (new ≡ old) → Leads (KeepsLive entries) (view old) (view new)
    live_step step = by_test (is_spare_file file entries) refl step
      where
        by_test : (b : Bool) → is_spare_file file entries ≡ b → MatchBool b (Leads (Touches file MaybeGone) (view old) (view new)) (new ≡ old) → Leads (KeepsLive entries) (view old) (view new)
        by_test true spare run = widen run (λ before image left touch. live_beside entries file before image spare touch)
        by_test false spare same = live_look (subst (λ (d : D). Leads Stays (view old) (view d)) (sym same) (still (view old)))

    -- one that is told to have come through
    pub live_read : MatchBool (is_spare_file file entries) (Removed file (view old).files (view new).files) (new ≡ old) → KeepsLive entries (view old).files (view new).files
    live_read told = by_test (is_spare_file file entries) refl told
      where
        by_test : (b : Bool) → is_spare_file file entries ≡ b → MatchBool b (Removed file (view old).files (view new).files) (new ≡ old) → KeepsLive entries (view old).files (view new).files
        by_test true spare removed = live_beside entries file (view old).files (view new).files spare removed
        by_test false spare same = λ other live. ap (λ (d : D). (view d).files other) same

-- ---- what is gone

file_cases : (a b : FileId) → (a ≡ b) ⊎ (a ≢ b)
file_cases (Object m) (Object n) = ⊎_elim (λ same. inl (ap Object same)) (λ differs. inr (λ same. differs (cc))) (cases_eq m n)
file_cases (Index m) (Index n) = ⊎_elim (λ same. inl (ap Index same)) (λ differs. inr (λ same. differs (cc))) (cases_eq m n)
file_cases Root Root = inl refl
file_cases LimitsFile LimitsFile = inl refl
file_cases (Object m) (Index n) = inr (λ same. absurd (cc))
file_cases (Object m) Root = inr (λ same. absurd (cc))
file_cases (Object m) LimitsFile = inr (λ same. absurd (cc))
file_cases (Index m) (Object n) = inr (λ same. absurd (cc))
file_cases (Index m) Root = inr (λ same. absurd (cc))
file_cases (Index m) LimitsFile = inr (λ same. absurd (cc))
file_cases Root (Index n) = inr (λ same. absurd (cc))
file_cases Root (Object n) = inr (λ same. absurd (cc))
file_cases Root LimitsFile = inr (λ same. absurd (cc))
file_cases LimitsFile (Index n) = inr (λ same. absurd (cc))
file_cases LimitsFile (Object n) = inr (λ same. absurd (cc))
file_cases LimitsFile Root = inr (λ same. absurd (cc))

-- a step on an object that is no entry's loses no other file
loses_beside : (entries : List Entry) (file : FileId) (before after : Files) → is_spare_file file entries ≡ true → Touches file MaybeGone before after → LosesSpares entries before after
loses_beside entries file before after spare touch other = ⊎_elim
    (λ same. ⊎_elim
    (λ stays. inl (ap after same ∙ stays ∙ ap before (sym same)))
    (λ gone. inr (ap (λ (f : FileId). is_spare_file f entries) same ∙ spare, ap after same ∙ gone))
    touch.here)
    (λ differs. inl (touch.others other differs))
    (file_cases other file)

module _ (entries : List Entry) where
  pub loses_look : {old new : DiskView} → Leads Stays old new → Leads (LosesSpares entries) old new
  loses_look look = widen look (λ before image left stays file. inl (ap (λ (f : Files). f file) stays))

  pub loses_again : {old mid new : DiskView} → Leads (LosesSpares entries) old mid → Leads (LosesSpares entries) mid new → Leads (LosesSpares entries) old new
  loses_again one two = goes_on one two (λ before image left step. step) (λ before between image left first now second file. ⊎_elim
      (λ same. ⊎_elim (λ stays. inl (same ∙ stays)) (λ gone. inr (gone.0, same ∙ gone.1)) (first file))
      (λ gone. inr gone)
      (second file))

  -- one removal, also one that failed
  module _ {D : Type 0} (view : D → DiskView) (old new : D) (file : FileId) where
    pub loses_step : MatchBool (is_spare_file file entries) (Leads (Touches file MaybeGone) (view old) (view new)) (new ≡ old) → Leads (LosesSpares entries) (view old) (view new)
    loses_step step = by_test (is_spare_file file entries) refl step
      where
        by_test : (b : Bool) → is_spare_file file entries ≡ b → MatchBool b (Leads (Touches file MaybeGone) (view old) (view new)) (new ≡ old) → Leads (LosesSpares entries) (view old) (view new)
        by_test true spare run = widen run (λ before image left touch. loses_beside entries file before image spare touch)
        by_test false spare same = loses_look (subst (λ (d : D). Leads Stays (view old) (view d)) (sym same) (still (view old)))

gone_stays : (before after : Option (List ℕ)) → MaybeGone before after → before ≡ None → after ≡ None
gone_stays before after (inl same) none = same ∙ none
gone_stays before after (inr gone) none = gone

pub gone_again : (one two three : Option (List ℕ)) → MaybeGone one two → MaybeGone two three → MaybeGone one three
gone_again one two three first (inr gone) = inr gone
gone_again one two three (inl a) (inl b) = inl (b ∙ a)
gone_again one two three (inr a) (inl b) = inr (b ∙ a)

module _ {D : Type 0} (view : D → DiskView) (old new : D) (entries : List Entry) (file : FileId)
    (told : MatchBool (is_spare_file file entries) (Removed file (view old).files (view new).files) (new ≡ old)) where
  -- what a removal leaves
  pub fewer_step : Fewer (view old).files (view new).files
  fewer_step other = by_test (is_spare_file file entries) told (file_cases other file)
    where
      by_test : (b : Bool) → MatchBool b (Removed file (view old).files (view new).files) (new ≡ old) → (other ≡ file) ⊎ (other ≢ file) → MaybeGone ((view old).files other) ((view new).files other)
      by_test true removed (inl same) = inr (ap (λ (f : FileId). (view new).files f) same ∙ removed.here)
      by_test true removed (inr differs) = inl (removed.others other differs)
      by_test false same which = inl (ap (λ (d : D). (view d).files other) same)

  pub gone_step : is_spare_file file entries ≡ true → (view new).files file ≡ None
  gone_step spare = by_test (is_spare_file file entries) told spare
    where
      by_test : (b : Bool) → MatchBool b (Removed file (view old).files (view new).files) (new ≡ old) → b ≡ true → (view new).files file ≡ None
      by_test true removed is = removed.here
      by_test false same is = absurd (false≢true is)

get_or_any : (xs : List FileId) (i : ℕ) (d e : FileId) → i < length xs → get_or xs i d ≡ get_or xs i e
get_or_any [] i d e within = absurd (omega arith)
get_or_any (x ∷ xs) zero d e within = refl
get_or_any (x ∷ xs) (suc i) d e within = get_or_any xs i d e (omega arith)

-- a name more was seen
pub seen_more : (names : List FileId) (entries : List Entry) (i : ℕ) (d here : FileId) (mid new : Files) → i < length names → get_or names i d ≡ here → Fewer mid new
    → (is_spare_file here entries ≡ true → new here ≡ None)
    → ((k : ℕ) (file : FileId) → k < i → get_or names k file ≡ file → is_spare_file file entries ≡ true → mid file ≡ None)
    → (k : ℕ) (file : FileId) → k < i + 1 → get_or names k file ≡ file → is_spare_file file entries ≡ true → new file ≡ None
seen_more names entries i d here mid new within is fewer gone seen k file below at spare = ⊎_elim
    (λ earlier. gone_stays (mid file) (new file) (fewer file) (seen k file earlier at spare))
    (λ late.
    let now : k ≡ i = omega (arith, late, below) in
    let same : here ≡ file = sym is ∙ get_or_any names i d file within ∙ ap (λ (n : ℕ). get_or names n file) (sym now) ∙ at in
    ap new (sym same) ∙ gone (ap (λ (f : FileId). is_spare_file f entries) same ∙ spare))
    (cases_lt k i)

-- when all were seen, each object that is no entry's is gone
module _ (names : List FileId) (entries : List Entry) (old new : Files) (lists : Lists names old) (fewer : Fewer old new)
    (seen : (k : ℕ) (file : FileId) → k < length names → get_or names k file ≡ file → is_spare_file file entries ≡ true → new file ≡ None) where
  pub spare_gone : (id : ℕ) → is_spare id entries ≡ true → new (Object id) ≡ None
  spare_gone id spare = by_old (old (Object id)) refl
    where
      by_old : (o : Option (List ℕ)) → old (Object id) ≡ o → new (Object id) ≡ None
      by_old None is = gone_stays (old (Object id)) (new (Object id)) (fewer (Object id)) is
      by_old (Some bytes) is =
          let there : Contains names (Object id) = (lists.0 (Object id)).1 (subst (λ (o : Option (List ℕ)). IsSome o) (sym is) refl) in
          seen there.0 (Object id) there.1 there.2 spare

  -- and none has an id past those of the entries
  pub none_left : (next : ℕ) → All (λ (entry : Entry). entry.id < next) entries → NoneFrom next new
  none_left next below id le = spare_gone id (past_spare next id entries below le)
