-- What the first of the bodies come to, and that each can be read.
use Rattle.std.proofs.Common.{ℕ, List, [], ◌∷◌, ◌++◌, refl, All}
use Rattle.std.specs.List.{AllZip}
use Rattle.std.proofs.lemmas.List.Elements.{All-nil, All-cons}
use Rattle.metastore_index.specs.declared.entry.Entry.{Entry}
use Rattle.metastore_index.specs.Entries.{IndexView}
use Rattle.metastore_index.specs.Taken.{ComesFrom, IsBodyOf, nothing}
use Rattle.metastore_index.specs.Laws.{EachBodyReads, FrontComes, Reads}

front_from : (start : IndexView) (bodies more : List (List ℕ)) (taken : List Entry) (last : IndexView) → AllZip IsBodyOf (bodies ++ more) taken → ComesFrom start taken last
    → (front : List Entry) × (index : IndexView) × AllZip IsBodyOf bodies front × ComesFrom start front index
front_from start [] more taken last are comes = ([], start, tt, (refl, refl))
front_from start (body ∷ bodies) more [] last are comes = absurd are
front_from start (body ∷ bodies) more (x ∷ xs) last are (next, takes, comes) =
    let rest = front_from next bodies more xs last are.1 comes in
    (x ∷ rest.0, rest.1, (are.0, rest.2), (next, takes, rest.3))

pub front_comes : FrontComes
front_comes bodies more last (taken, are, comes) =
    let front = front_from nothing bodies more taken last are comes in
    (front.1, (front.0, front.2, front.3))

each_reads : (bodies : List (List ℕ)) (taken : List Entry) → AllZip IsBodyOf bodies taken → All Reads bodies
each_reads [] taken are = All-nil Reads
each_reads (body ∷ more) [] are = absurd are
each_reads (body ∷ more) (x ∷ xs) are = All-cons Reads body more (x, are.0) (each_reads more xs are.1)

pub each_body_reads : EachBodyReads
each_body_reads bodies index (taken, are, comes) = each_reads bodies taken are
