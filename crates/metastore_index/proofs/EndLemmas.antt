-- Where the end stands after a record.
use Rattle.std.proofs.Common.{◌≡◌, ℕ, ◌-◌, List, ◌∷◌, ◌++◌, sym, ap, ◌∙◌, arith}
use Rattle.metastore_index.specs.declared.entry.Entry.{Entry}
use Rattle.metastore_index.specs.Entries.{IsRunOver, end_of}
use Rattle.metastore_index.specs.Entries.Becomes.{follows, stands}
use Rattle.metastore_index.specs.Laws.{EndMoves}
use Rattle.metastore_index.proofs.DivideLemmas.{end_from, end_from-append, end_of-from, end_of-push}

-- behind an entry and the run that it stands in for the same entries follow
same_end : (front run back : List Entry) (level : ℕ) (entry : Entry) → IsRunOver front run back level entry.lo entry.hi → end_of (front ++ entry ∷ back) ≡ end_of (front ++ run ++ back)
same_end front run back level entry over =
    end_of-from (front ++ entry ∷ back) ∙ end_from-append 0 front (entry ∷ back)
    ∙ ap (λ (n : ℕ). end_from n back) (sym over.until ∙ end_of-from (front ++ run))
    ∙ sym (end_from-append 0 (front ++ run) back) ∙ sym (end_of-from (front ++ run ++ back))

pub end_moves : EndMoves
end_moves entries entry next (follows place is) =
    (λ low. (place.0, ap end_of is ∙ end_of-push entries entry), λ high. absurd (omega (arith, high, place.1)))
end_moves entries entry next (stands front run back parts high over is) =
    (λ low. absurd (omega (arith, high, low)), λ _. ap end_of is ∙ same_end front run back (entry.level - 1) entry over ∙ ap end_of (sym parts))
