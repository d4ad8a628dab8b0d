-- The oldest entries of a level, as a run.
use Rattle.std.proofs.Common.{◌≡◌, ◌≢◌, ℕ, ◌<◌, ◌≤◌, true, List, [], ◌∷◌, ◌++◌, length, get_or, refl, subst, sym, ap, ◌∙◌, arith, append_assoc, length-append}
use Rattle.std.specs.Prelude.{nat_eq}
use Rattle.std.specs.List.{All}
use Rattle.std.proofs.lemmas.Bool.{eqb-true}
use Rattle.std.proofs.lemmas.List.{get_or_append_left}
use Rattle.std.proofs.lemmas.List.Elements.{filter_passes}
use Rattle.metastore_index.specs.declared.entry.Entry.{Entry}
use Rattle.metastore_index.specs.Entries.{AreEntries, DivideFrom, HasRun, end_of, of_level}
use Rattle.metastore_index.proofs.DivideLemmas.{DivideFrom-first, DivideFrom-second, end_from, end_from-append, end_of-cons, end_of-from}
use Rattle.metastore_index.proofs.LevelLemmas.{levels_stand_together}
use Rattle.compaction_plan.specs.Jobs.{begin_of}

end_rises : (start : ℕ) (entries : List Entry) → DivideFrom start entries → start ≤ end_from start entries
end_rises start [] divide = omega arith
end_rises start (entry ∷ more) divide = omega (arith, divide.0, entry.some, end_rises entry.hi more divide.1)

begins_there : (start : ℕ) (run : List Entry) → run ≢ [] → DivideFrom start run → start ≡ begin_of run
begins_there start [] some divide = absurd (some refl)
begins_there start (entry ∷ more) some divide = sym divide.0

ends_there : (start : ℕ) (run : List Entry) → run ≢ [] → end_from start run ≡ end_of run
ends_there start [] some = absurd (some refl)
ends_there start (entry ∷ more) some = sym (end_of-cons entry more)

begins_before : (start : ℕ) (run : List Entry) → run ≢ [] → DivideFrom start run → begin_of run < end_of run
begins_before start [] some divide = absurd (some refl)
begins_before start (entry ∷ more) some divide = omega (arith, entry.some, end_rises entry.hi more divide.1, end_of-cons entry more)

-- where the oldest entries of a level stand
record IsPlaced (entries : List Entry) (level : ℕ) (run : List Entry) : Type 0 where
  before : List Entry
  after : List Entry
  parts : entries ≡ before ++ run ++ after
  above : All (λ entry. level < entry.level) before
  divide : DivideFrom (end_from 0 before) run

placed : (entries : List Entry) (level : ℕ) (run newer : List Entry) → AreEntries entries → of_level level entries ≡ run ++ newer → IsPlaced entries level run
placed entries level run newer are is =
    let (before, after, stretch) = levels_stand_together entries are level in
    let parts : entries ≡ before ++ run ++ (newer ++ after) =
    stretch.parts ∙ ap (λ (l : List Entry). before ++ l ++ after) is
    ∙ ap (λ (l : List Entry). l ++ after) (sym (append_assoc before run newer)) ∙ append_assoc (before ++ run) newer after in
    let whole : DivideFrom 0 (before ++ (run ++ (newer ++ after))) = subst (DivideFrom 0) (parts ∙ append_assoc before run (newer ++ after)) are.divide in
    record {
      before = before;
      after = newer ++ after;
      parts = parts;
      above = stretch.above;
      divide = DivideFrom-first (end_from 0 before) run (newer ++ after) (DivideFrom-second 0 before (run ++ (newer ++ after)) whole);
    }

pub oldest_rise : (entries : List Entry) (level : ℕ) (run newer : List Entry) → AreEntries entries → of_level level entries ≡ run ++ newer → run ≢ [] → begin_of run < end_of run
oldest_rise entries level run newer are is some =
    let place = placed entries level run newer are is in
    begins_before (end_from 0 place.before) run some place.divide

pub oldest_run : (entries : List Entry) (level : ℕ) (run newer : List Entry) → AreEntries entries → of_level level entries ≡ run ++ newer → run ≢ []
    → HasRun entries level (begin_of run) (end_of run)
oldest_run entries level run newer are is some =
    let place = placed entries level run newer are is in
    let before = place.before in
    let passes : All (λ entry. nat_eq entry.level level ≡ true) (run ++ newer) =
    subst (All (λ (entry : Entry). nat_eq entry.level level ≡ true)) is (filter_passes (λ (entry : Entry). nat_eq entry.level level) entries) in (
      before,
      run,
      place.after,
      place.parts,
      record {
        some = some;
        alike = λ k d below.
            let within : k < length (run ++ newer) = omega (arith, below, length-append run newer) in
            ap (λ (entry : Entry). entry.level) (sym (get_or_append_left run newer d k below)) ∙ eqb-true (get_or (run ++ newer) k d).level level (passes k d within);
        oldest = λ k d below same. omega (arith, same, place.above k d below);
        from = end_of-from before ∙ begins_there (end_from 0 before) run some place.divide;
        until = end_of-from (before ++ run) ∙ end_from-append 0 before run ∙ ends_there (end_from 0 before) run some;
      },
    )
