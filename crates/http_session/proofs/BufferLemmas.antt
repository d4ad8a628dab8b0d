-- What a buffer holds after more bytes were read behind those that it held.
use Rattle.std.proofs.Common.{◌≡◌, ℕ, ◌+◌, ◌-◌, ◌<◌, ◌≤◌, List, ◌++◌, length, take, drop, ap, ◌∙◌, arith, length-drop, length-append, append-nil, sym, subst, Ok}
use Rattle.std.proofs.lemmas.List.{length-take-le, nil_from_length, drop-take}
use Rattle.std.proofs.lemmas.List.Edits.{take-paste}
use Rattle.std.specs.List.{copy_within}
use Rattle.std.proofs.Math.Seq.{take-append-add}
use Rattle.link_trait.specs.Link.{Told, Took, ReadStep}
use Rattle.http_session.specs.Pulled.{FillStep}
use Rattle.link_trait.proofs.GoesLemmas.{took_then}
use borrow.Rule.Slice.PartMut.{post_of, put_mid}

-- the first bytes, and those that were read behind them
pub front_more : (xs into : List ℕ) (end count : ℕ) → end ≤ length xs → take (end + count) (take end xs ++ into) ≡ take end xs ++ take count into
front_more xs into end count fits =
    ap (λ n. take (n + count) (take end xs ++ into)) (let long = length-take-le end xs fits in let back : end ≡ length (take end xs) = omega (arith, long) in back)
    ∙ take-append-add (take end xs) into count

-- a read into the room behind the first bytes, as a step of what is held
pub fill_step : (before now : Told) (xs into old new : List ℕ) (end count room : ℕ) → end < length xs → 0 < room → take end xs ≡ old →
    new ≡ take (end + count) (take end xs ++ into) → ReadStep (Ok count) room into before now → FillStep (Ok count) old new before now
fill_step before now xs into old new end count room roomy open_ is becomes step =
    ((take count into, step.0, becomes ∙ front_more xs into end count (omega arith) ∙ ap (λ (ys : List ℕ). ys ++ take count into) is), step.1 open_)

-- the room behind the first bytes is all the rest
pub nothing_after : (xs into : List ℕ) (end : ℕ) → into ++ post_of end (length xs - end) xs ≡ into
nothing_after xs into end =
    ap (λ (ys : List ℕ). into ++ ys) (nil_from_length _ (omega (arith, length-drop (length xs - end) (drop end xs), length-drop end xs))) ∙ append-nil into

-- after a move to the front the bytes held are those without the first
pub moved_front : (xs : List ℕ) (count end : ℕ) → count ≤ end → end ≤ length xs →
    take (end - count) (copy_within xs count end 0) ≡ drop count (take end xs)
moved_front xs count end order fits =
    let enough : end - count ≤ length (drop count xs) = omega (arith, length-drop count xs) in
    ap (λ n. take n (copy_within xs count end 0)) (let back : end - count ≡ 0 + (end - count) = omega arith in back)
    ∙ take-paste xs 0 (drop count xs) (end - count) (omega arith) enough
    ∙ sym (drop-take count (end - count) xs)
    ∙ ap (λ n. drop count (take n xs)) (let whole : count + (end - count) ≡ end = omega arith in whole)

-- a read to the front of what is left to fill, as more that came
pub rest_more : (xs into : List ℕ) (at count room : ℕ) (a b c : Told) → at ≤ length xs → Took (take at xs) a b → ReadStep (Ok count) room into b c →
    Took (take (at + count) (put_mid at (length xs - at) xs into)) a c
rest_more xs into at count room a b c fits took step =
    let all : put_mid at (length xs - at) xs into ≡ take at xs ++ into = ap (λ (ys : List ℕ). take at xs ++ ys) (nothing_after xs into at) in
    let same : take (at + count) (put_mid at (length xs - at) xs into) ≡ take at xs ++ take count into =
    ap (λ (ys : List ℕ). take (at + count) ys) all ∙ front_more xs into at count fits in
    let P : List ℕ → Type 0 = λ piece. Took piece a c in
    subst P (sym same) (took_then (take at xs) (take count into) a b c took step.0)

pub length_filled : (xs into : List ℕ) (at : ℕ) → at ≤ length xs → length into ≡ length xs - at → length (put_mid at (length xs - at) xs into) ≡ length xs
length_filled xs into at fits size =
    ap length (ap (λ (ys : List ℕ). take at xs ++ ys) (nothing_after xs into at))
    ∙ (let long = length-take-le at xs fits in let both = length-append (take at xs) into in omega (arith, long, both, size))
