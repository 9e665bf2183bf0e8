-- What was read of a file, part by part.
use Rattle.std.proofs.Common.{◌≡◌, ◌≤◌, arith, ℕ, List, ◌++◌, Option, Some, None, length, take, drop, ap, subst, ◌∙◌, option_map, length-append}
use Rattle.std.proofs.Math.Seq.{take-add}
use Rattle.std.proofs.lemmas.List.{drop-drop, length-take}
use Rattle.ix_outside.specs.Outside.{TellsFirst}

-- the bytes before and the next part are the first bytes of all
pub take-part : (left next : Option (List ℕ)) (before part after all : List ℕ)
    → left ≡ Some all → next ≡ option_map (drop (length before)) left → TellsFirst next part
    → take (length before) all ≡ before → after ≡ before ++ part
    → take (length after) all ≡ after
take-part left next before part after all known is tells first more =
    let Tells : Option (List ℕ) → Type 0 = λ told. TellsFirst told part in
    let TellsRest : Option (List ℕ) → Type 0 = λ told. TellsFirst (option_map (drop (length before)) told) part in
    let here : take (length part) (drop (length before) all) ≡ part = subst TellsRest known (subst Tells is tells) in
    rw (more, length-append before part) (take-add (length before) (length part) all ∙ (ap (λ x. x ++ take (length part) (drop (length before) all)) first ∙ ap (λ x. before ++ x) here))

-- what is left after the next part
pub left-part : (left next last : Option (List ℕ)) (before part after : List ℕ)
    → next ≡ option_map (drop (length before)) left → last ≡ option_map (drop (length part)) next
    → after ≡ before ++ part
    → last ≡ option_map (drop (length after)) left
left-part None next last before part after is cut more = cut ∙ ap (option_map (drop (length part))) is
left-part (Some all) next last before part after is cut more =
    rw (more, length-append before part) (cut ∙ (ap (option_map (drop (length part))) is ∙ ap Some (drop-drop (length part) (length before) all)))

-- the first bytes of all are no more than all
pub part-short : (all part : List ℕ) → take (length part) all ≡ part → length part ≤ length all
part-short all part first = omega (arith, length-take (length part) all, ap length first)
