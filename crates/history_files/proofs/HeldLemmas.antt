-- What files hold at entries, as files and entries change.
use Rattle.std.proofs.Common.{◌≡◌, ◌≢◌, ℕ, ◌+◌, ◌-◌, ◌≤◌, List, [], ◌∷◌, ◌++◌, length, take, drop, Option, refl, sym, ◌∙◌, ap, subst, arith, append_assoc, append-nil, length-append}
use Rattle.std.specs.Prelude.{⊤, IsSome}
use Rattle.std.specs.List.{AllZip, flat_map}
use Rattle.std.proofs.lemmas.List.{take_at, drop_at}
use Rattle.std.proofs.lemmas.Option.{same_Some}
use Rattle.disk_trait.specs.declared.disk.FileId.{FileId}
use Rattle.disk_trait.specs.declared.disk.FileId.TheVariants.{Object}
use Rattle.disk_trait.specs.Disk.{Files}
use Rattle.metastore_index.specs.declared.entry.Entry.{Entry}
use Rattle.metastore_index.specs.Entries.{AreEntries, Becomes, DivideFrom, IsRunOver, end_of}
use Rattle.metastore_index.specs.Entries.Becomes.{follows, stands}
use Rattle.metastore_index.proofs.DivideLemmas.{DivideFrom-first, end_from, end_of-from}
use Rattle.profile_model.specs.declared.push.Push.{Push}
use Rattle.segment_file.specs.Decoded.{Spells}
use Rattle.segment_file.specs.Objects.{ObjectView}
use Rattle.segment_file.proofs.ObjectLemmas.{object_once}
use Rattle.history_files.specs.History.{AreHeld, IsObjectOf}
use Rattle.history_files.specs.Standing.{Turns}

-- a file is the object of one list of pushes
pub one_object : (entry : Entry) (content : Option (List ℕ)) (one other : List Push) → IsObjectOf entry one content → IsObjectOf entry other content → one ≡ other
one_object entry content one other first second =
    let same : first.bytes ≡ second.bytes = same_Some first.bytes second.bytes (sym first.there ∙ second.there) in
    let spells : Spells first.bytes (record { lo = entry.lo; pushes = other }) = subst (λ (l : List ℕ). Spells l (record { lo = entry.lo; pushes = other })) (sym same) second.spells in
    ap (λ (o : ObjectView). o.pushes) (object_once first.bytes (record { lo = entry.lo; pushes = one }) (record { lo = entry.lo; pushes = other }) first.spells spells)

-- the pushes of each entry's object
abbrev pub HaveParts : Files → List Entry → List (List Push) → Type 0
HaveParts files entries parts = AllZip (λ entry part. IsObjectOf entry part (files (Object entry.id))) entries parts

abbrev pub joined : List (List Push) → List Push
joined parts = flat_map (λ part. part) parts

parts_once : (files : Files) (entries : List Entry) (parts others : List (List Push)) → HaveParts files entries parts → HaveParts files entries others → parts ≡ others
parts_once files [] [] [] are other = refl
parts_once files [] [] (q ∷ qs) are other = absurd other
parts_once files [] (p ∷ ps) others are other = absurd are
parts_once files (entry ∷ more) [] others are other = absurd are
parts_once files (entry ∷ more) (p ∷ ps) [] are other = absurd other
parts_once files (entry ∷ more) (p ∷ ps) (q ∷ qs) are other =
    ap (λ (x : List Push). x ∷ ps) (one_object entry (files (Object entry.id)) p q are.0 other.0)
    ∙ ap (λ (l : List (List Push)). q ∷ l) (parts_once files more ps qs are.1 other.1)

-- files have one list of pushes at the same entries
pub held_once : (files : Files) (entries : List Entry) (one other : List Push) → AreHeld files entries one → AreHeld files entries other → one ≡ other
held_once files entries one other first second =
    first.all ∙ ap joined (parts_once files entries first.parts second.parts first.each second.each) ∙ sym second.all

-- ---- entries one by one

pub held_none : (files : Files) → AreHeld files [] []
held_none files = record { parts = []; each = tt; all = refl }

pub held_cons : (files : Files) (entry : Entry) (more : List Entry) (part pushes : List Push) → IsObjectOf entry part (files (Object entry.id)) → AreHeld files more pushes
    → AreHeld files (entry ∷ more) (part ++ pushes)
held_cons files entry more part pushes object held = record {
  parts = part ∷ held.parts;
  each = (object, held.each);
  all = ap (λ (l : List Push). part ++ l) held.all;
}

pub held_empty : (files : Files) (pushes : List Push) → AreHeld files [] pushes → pushes ≡ []
held_empty files pushes held = by_parts held.parts held.each held.all
  where
    by_parts : (parts : List (List Push)) → HaveParts files [] parts → pushes ≡ joined parts → pushes ≡ []
    by_parts [] each all = all
    by_parts (p ∷ ps) each all = absurd each

-- the pushes of the first entry, and those of the others
pub record IsFirst (files : Files) (entry : Entry) (more : List Entry) (pushes : List Push) : Type 0 where
  pub part : List Push
  pub rest : List Push
  pub object : IsObjectOf entry part (files (Object entry.id))
  pub held : AreHeld files more rest
  pub all : pushes ≡ part ++ rest

pub held_first : (files : Files) (entry : Entry) (more : List Entry) (pushes : List Push) → AreHeld files (entry ∷ more) pushes → IsFirst files entry more pushes
held_first files entry more pushes held = by_parts held.parts held.each held.all
  where
    by_parts : (parts : List (List Push)) → HaveParts files (entry ∷ more) parts → pushes ≡ joined parts → IsFirst files entry more pushes
    by_parts [] each all = absurd each
    by_parts (p ∷ ps) each all = record {
      part = p;
      rest = joined ps;
      object = each.0;
      held = record { parts = ps; each = each.1; all = refl };
      all = all;
    }

pub held_one : (files : Files) (entry : Entry) (pushes : List Push) → IsObjectOf entry pushes (files (Object entry.id)) → AreHeld files (entry ∷ []) pushes
held_one files entry pushes object =
    subst (λ (l : List Push). AreHeld files (entry ∷ []) l) (append-nil pushes) (held_cons files entry [] pushes [] object (held_none files))

-- ---- lists of entries, one behind the other

pub held_append : (files : Files) (xs ys : List Entry) (one two : List Push) → AreHeld files xs one → AreHeld files ys two → AreHeld files (xs ++ ys) (one ++ two)
held_append files [] ys one two first second =
    subst (λ (l : List Push). AreHeld files ys l) (sym (ap (λ (l : List Push). l ++ two) (held_empty files one first))) second
held_append files (x ∷ xs) ys one two first second =
    let f = held_first files x xs one first in
    subst (λ (l : List Push). AreHeld files (x ∷ xs ++ ys) l) (sym (ap (λ (l : List Push). l ++ two) f.all ∙ append_assoc f.part f.rest two))
    (held_cons files x (xs ++ ys) f.part (f.rest ++ two) f.object (held_append files xs ys f.rest two f.held second))

-- the pushes of a front, and those behind it
pub record IsSplit (files : Files) (xs ys : List Entry) (pushes : List Push) : Type 0 where
  pub one : List Push
  pub two : List Push
  pub first : AreHeld files xs one
  pub second : AreHeld files ys two
  pub all : pushes ≡ one ++ two

pub held_split : (files : Files) (xs ys : List Entry) (pushes : List Push) → AreHeld files (xs ++ ys) pushes → IsSplit files xs ys pushes
held_split files [] ys pushes held = record { one = []; two = pushes; first = held_none files; second = held; all = refl }
held_split files (x ∷ xs) ys pushes held =
    let f = held_first files x (xs ++ ys) pushes held in
    let s = held_split files xs ys f.rest f.held in record {
      one = f.part ++ s.one;
      two = s.two;
      first = held_cons files x xs f.part s.one f.object s.first;
      second = s.second;
      all = f.all ∙ ap (λ (l : List Push). f.part ++ l) s.all ∙ sym (append_assoc f.part s.one s.two);
    }

-- ---- other files

-- the file is the object of none of the entries
abbrev pub IsDead : FileId → List Entry → Type 0
IsDead file [] = ⊤
IsDead file (x ∷ xs) = (Object x.id ≢ file) × IsDead file xs

-- a call on a file that isn't live changes nothing
pub held_beside : (before after : Files) (other : FileId) (xs : List Entry) (pushes : List Push) → ((file : FileId) → file ≢ other → after file ≡ before file) → IsDead other xs
    → AreHeld before xs pushes → AreHeld after xs pushes
held_beside before after other [] pushes same dead held = subst (λ (l : List Push). AreHeld after [] l) (sym (held_empty before pushes held)) (held_none after)
held_beside before after other (x ∷ xs) pushes same dead held =
    let f = held_first before x xs pushes held in
    let object : IsObjectOf x f.part (after (Object x.id)) = subst (λ (o : Option (List ℕ)). IsObjectOf x f.part o) (sym (same (Object x.id) dead.0)) f.object in
    subst (λ (l : List Push). AreHeld after (x ∷ xs) l) (sym f.all)
    (held_cons after x xs f.part f.rest object (held_beside before after other xs f.rest same dead.1 f.held))

-- nor does one that leaves each object as it is, where it is there
pub held_alike : (before after : Files) (xs : List Entry) (pushes : List Push) → ((id : ℕ) → IsSome (before (Object id)) → after (Object id) ≡ before (Object id))
    → AreHeld before xs pushes → AreHeld after xs pushes
held_alike before after [] pushes same held = subst (λ (l : List Push). AreHeld after [] l) (sym (held_empty before pushes held)) (held_none after)
held_alike before after (x ∷ xs) pushes same held =
    let f = held_first before x xs pushes held in
    let there : IsSome (before (Object x.id)) = subst (λ (o : Option (List ℕ)). IsSome o) (sym f.object.there) refl in
    let object : IsObjectOf x f.part (after (Object x.id)) = subst (λ (o : Option (List ℕ)). IsObjectOf x f.part o) (sym (same x.id there)) f.object in
    subst (λ (l : List Push). AreHeld after (x ∷ xs) l) (sym f.all)
    (held_cons after x xs f.part f.rest object (held_alike before after xs f.rest same f.held))

-- ---- how many they are

length_from : (files : Files) (start : ℕ) (xs : List Entry) (pushes : List Push) → DivideFrom start xs → AreHeld files xs pushes → start + length pushes ≡ end_from start xs
length_from files start [] pushes divide held = omega (arith, ap length (held_empty files pushes held))
length_from files start (x ∷ xs) pushes divide held =
    let f = held_first files x xs pushes held in
    omega (arith, divide.0, f.object.until, length_from files x.hi xs f.rest divide.1 f.held, ap length f.all, length-append f.part f.rest)

-- as many as the entries say
pub length_held : (files : Files) (entries : List Entry) (pushes : List Push) → DivideFrom 0 entries → AreHeld files entries pushes → length pushes ≡ end_of entries
length_held files entries pushes divide held = omega (arith, length_from files 0 entries pushes divide held, end_of-from entries)

-- ---- what an entry makes of the history

-- one that follows the others adds its pushes
pub follows_turns : (entry : Entry) (pushes : List Push) (old new : List Entry) (history : List Push) → new ≡ old ++ entry ∷ []
    → Turns entry pushes old new history (history ++ pushes)
follows_turns entry pushes old new history is files before object =
    subst (λ (es : List Entry). AreHeld files es (history ++ pushes)) (sym is)
    (held_append files old (entry ∷ []) history pushes before (held_one files entry pushes object))

-- One that stands in for a run leaves the history, where its object has the pushes that it covers.
module _ (entry : Entry) (old new front run back : List Entry) (history : List Push) (level : ℕ) (divide : DivideFrom 0 old) (parts : old ≡ front ++ run ++ back)
    (over : IsRunOver front run back level entry.lo entry.hi) (is : new ≡ front ++ entry ∷ back) where
  pub stands_turns : Turns entry (take (entry.hi - entry.lo) (drop entry.lo history)) old new history history
  stands_turns files before object =
      let divides : DivideFrom 0 (front ++ run ++ back) = subst (DivideFrom 0) parts divide in
      let all = held_split files (front ++ run) back history (subst (λ (es : List Entry). AreHeld files es history) parts before) in
      let two = held_split files front run all.one all.first in
      let at : length two.one ≡ entry.lo = length_held files front two.one (DivideFrom-first 0 front run (DivideFrom-first 0 (front ++ run) back divides)) two.first ∙ over.from in
      let until : length all.one ≡ entry.hi = length_held files (front ++ run) all.one (DivideFrom-first 0 (front ++ run) back divides) all.first ∙ over.until in
      let whole : history ≡ two.one ++ (two.two ++ all.two) = all.all ∙ ap (λ (l : List Push). l ++ all.two) two.all ∙ append_assoc two.one two.two all.two in
      let behind : drop entry.lo history ≡ two.two ++ all.two = ap (λ (l : List Push). drop entry.lo l) whole ∙ drop_at two.one (two.two ++ all.two) entry.lo at in
      let long : length two.two ≡ entry.hi - entry.lo = omega (arith, at, until, ap length two.all, length-append two.one two.two) in
      let part : take (entry.hi - entry.lo) (drop entry.lo history) ≡ two.two =
      ap (λ (l : List Push). take (entry.hi - entry.lo) l) behind ∙ take_at two.two all.two (entry.hi - entry.lo) long in
      let mine : IsObjectOf entry two.two (files (Object entry.id)) = subst (λ (l : List Push). IsObjectOf entry l (files (Object entry.id))) part object in
      subst (λ (es : List Entry). AreHeld files es history) (sym is)
      (subst (λ (l : List Push). AreHeld files (front ++ entry ∷ back) l) (sym whole)
      (held_append files front (entry ∷ back) two.one (two.two ++ all.two) two.first (held_cons files entry back two.two all.two mine all.second)))

-- what an entry adds to a history: its pushes where it follows the others, and none where it stands in for a run
pub becomes_turns : (entry : Entry) (old new : List Entry) (history : List Push) → AreEntries old → Becomes old entry new → 1 ≤ entry.level
    → Turns entry (take (entry.hi - entry.lo) (drop entry.lo history)) old new history history
becomes_turns entry old new history are (follows place is) high = absurd (omega (arith, high, place.1))
becomes_turns entry old new history are (stands front run back parts level over is) high =
    stands_turns entry old new front run back history (entry.level - 1) are.divide parts over is

-- the same, as what is added to the history
pub none_turns : (entry : Entry) (old new : List Entry) (history : List Push) → AreEntries old → Becomes old entry new → 1 ≤ entry.level
    → Turns entry (take (entry.hi - entry.lo) (drop entry.lo history)) old new history (history ++ [])
none_turns entry old new history are becomes high =
    subst (λ (l : List Push). Turns entry (take (entry.hi - entry.lo) (drop entry.lo history)) old new history l) (sym (append-nil history))
    (becomes_turns entry old new history are becomes high)

pub push_turns : (entry : Entry) (pushes : List Push) (old new : List Entry) (history : List Push) → Becomes old entry new → entry.level ≡ 0
    → Turns entry pushes old new history (history ++ pushes)
push_turns entry pushes old new history (follows place is) low = follows_turns entry pushes old new history is
push_turns entry pushes old new history (stands front run back parts level over is) low = absurd (omega (arith, level, low))
