-- A list that is read from the front, one entry after the other.
use Rattle.std.proofs.Common.{◌≡◌, Option, Some, None, List, [], ◌∷◌, ◌++◌, ◌-◌, ◌<◌, ◌≤◌, length, length-drop, take, drop, get_or, refl, sym, ap, ◌∙◌, append_assoc, append-nil, arith}
use Rattle.std.proofs.Math.Seq.{drop-cons}
use Rattle.std.proofs.lemmas.List.{take_all}
use Rattle.ix_annot.specs.Arguments.{with_others, preceded_by}

pub one_more : {A : Type 0} (those : List A) (one : A) (others : Option (List A)) → preceded_by those (with_others (Some one) others) ≡ preceded_by (those ++ one ∷ []) others
one_more those one None = refl
one_more those one (Some others) = rw append_assoc refl

pub some_more : {A : Type 0} (those some : List A) (others : Option (List A)) → preceded_by those (preceded_by some others) ≡ preceded_by (those ++ some) others
some_more those some None = refl
some_more those some (Some others) = rw append_assoc refl

-- ---- a loop that reads entries from the front: one more that is found, several more, and none that is left

pub next_one : {A : Type 0} (those new : List A) (one : A) (found : Option A) (others whole : Option (List A)) → found ≡ Some one → new ≡ those ++ one ∷ []
    → preceded_by those (with_others found others) ≡ whole → preceded_by new others ≡ whole
next_one those new one found others whole is added so =
    ap (λ l. preceded_by l others) added ∙ (sym (one_more those one others) ∙ (ap (λ f. preceded_by those (with_others f others)) (sym is) ∙ so))

pub next_some : {A : Type 0} (those some new : List A) (others whole : Option (List A)) → new ≡ those ++ some
    → preceded_by those (preceded_by some others) ≡ whole → preceded_by new others ≡ whole
next_some those some new others whole added so = ap (λ l. preceded_by l others) added ∙ (sym (some_more those some others) ∙ so)

pub no_more : {A : Type 0} (those : List A) (others whole : Option (List A)) → others ≡ Some [] → preceded_by those others ≡ whole → Some those ≡ whole
no_more those others whole none so = ap (λ l. Some l) (sym (append-nil those)) ∙ (ap (λ o. preceded_by those o) (sym none) ∙ so)

pub is_empty : {A : Type 0} (all : List A) → length all < 1 → all ≡ []
is_empty [] few = refl
is_empty (x ∷ xs) few = absurd (omega arith)

pub front_of : {A : Type 0} (all : List A) (one : A) → 1 ≤ length all → one ≡ get_or all 0 one → all ≡ one ∷ take (length all - 1) (drop 1 all)
front_of all one some is =
    let within : 0 < length all = omega (arith, some) in
    let short : length (drop 1 all) ≤ length all - 1 = omega (arith, length-drop 1 all) in
    drop-cons all 0 one within ∙ (ap (λ x. x ∷ drop 1 all) (sym is) ∙ ap (λ l. one ∷ l) (sym (take_all (length all - 1) (drop 1 all) short)))
