-- The claims of a declaration are counted at its first declarator: the others have those annotations of it that count.
use Rattle.std.proofs.Common.{◌≡◌, ◌≤◌, ◌<◌, ℕ, ◌+◌, Bool, true, false, cond, nat_lt, Option, Some, None, List, [], ◌∷◌, ◌++◌, map, length, drop, get_or, refl, sym, ◌∙◌, ap, subst, arith}
use Rattle.std.proofs.lemmas.Bool.{ltb-false}
use Rattle.std.proofs.lemmas.List.{at_drop_more}
use Rattle.ix_tree.specs.declared.annot.Annot.{Annot}
use Rattle.ix_tree.specs.declared.decl.LocalDecl.{LocalDecl}
use Rattle.ix_tree.specs.declared.decl.Member.{Member}
use Rattle.ix_tree.specs.declared.decl.Member.TheVariants as member
use Rattle.ix_annot.specs.Named.{or_else}
use Rattle.ix_annot.specs.Table.{counted, most_claims}
use Rattle.ix_meaning.specs.declared.note.Which.TheVariants as which
use Rattle.ix_meaning.specs.Declarators.{counting, counting_behind, further, declarators, is_further, field_in, member_in, first_behind, members_behind, members}
use Rattle.ix_meaning.specs.Limits.{Passed, past_claims_in, past_claims, declared_annots, each_annots, member_annots}
use Rattle.ix_names.specs.Counted.{counted_on, annots_of}
use Rattle.ix_names.specs.Shown.{IsFine}
use Rattle.ix_names.proofs.FirstPassed.{past_on, past_member}

-- ---- what counts nothing passes nothing

record Counts (before : ℕ) (xs ys : List Annot) : Type 0 where
  none : past_claims_in before ys ≡ None
  same : counted_on before ys ≡ counted_on before xs
  few : counted_on before xs ≤ most_claims

counts_alike : (before : ℕ) (xs : List Annot) → before ≤ most_claims → past_claims_in before xs ≡ None → Counts before xs (counting xs)
counts_alike before [] le none = record { none = refl; same = refl; few = le }
counts_alike before (a ∷ xs) le none = by_limit (λ few rest. counts_alike (before + counted a) xs few rest) (nat_lt most_claims (before + counted a)) refl none
  where
    some_or : (n : ℕ) → nat_lt 0 n ≡ false → n ≡ 0
    some_or n e = let le = ltb-false 0 n e in omega (arith, le)

    counted_or_not : (b : Bool) → nat_lt 0 (counted a) ≡ b → nat_lt most_claims (before + counted a) ≡ false → Counts (before + counted a) xs (counting xs) → Counts before (a ∷ xs) (cond b (a ∷ counting xs) (counting xs))
    counted_or_not true e within rest = record {
      none = ap (λ b. cond b (Some (record { which = which.Claims; place = a.span.from })) (past_claims_in (before + counted a) (counting xs))) within ∙ rest.none;
      same = rest.same;
      few = rest.few;
    }
    counted_or_not false e within rest =
        let same : before + counted a ≡ before = (let z = some_or (counted a) e in omega (arith, z)) in
        let moved : Counts before xs (counting xs) = subst (λ n. Counts n xs (counting xs)) same rest in
        record { none = moved.none; same = rest_same same moved; few = rest.few }
      where
        rest_same : before + counted a ≡ before → Counts before xs (counting xs) → counted_on before (counting xs) ≡ counted_on (before + counted a) xs
        rest_same same moved = moved.same ∙ ap (λ n. counted_on n xs) (sym same)

    by_limit : (before + counted a ≤ most_claims → past_claims_in (before + counted a) xs ≡ None → Counts (before + counted a) xs (counting xs)) → (b : Bool) → nat_lt most_claims (before + counted a) ≡ b → cond b (Some (record { which = which.Claims; place = a.span.from })) (past_claims_in (before + counted a) xs) ≡ None → Counts before (a ∷ xs) (counting (a ∷ xs))
    by_limit others true e none = absurd cc
    by_limit others false e none =
        let within = ltb-false most_claims (before + counted a) e in
        counted_or_not (nat_lt 0 (counted a)) refl e (others (omega (arith, within)) none)

or_none : {A : Type 0} (a b : Option A) → or_else a b ≡ None → (a ≡ None) × (b ≡ None)
or_none None b e = (refl, e)
or_none (Some x) b e = absurd cc

both_none : {A : Type 0} (a b : Option A) → a ≡ None → b ≡ None → or_else a b ≡ None
both_none a b e f = ap (λ o. or_else o b) e ∙ f

further_passes : (before behind more : List Annot) (b : Bool) → past_claims_in 0 (before ++ behind) ≡ None → past_claims_in 0 (counting before ++ cond b (counting behind) []) ≡ None
further_passes before behind more b none =
    let parts = or_none (past_claims_in 0 before) (past_claims_in (counted_on 0 before) behind) (sym (past_on 0 before behind) ∙ none) in
    let first = counts_alike 0 before (omega arith) parts.0 in
    past_on 0 (counting before) (cond b (counting behind) [])
    ∙ both_none (past_claims_in 0 (counting before)) (past_claims_in (counted_on 0 (counting before)) (cond b (counting behind) [])) first.none
    (ap (λ n. past_claims_in n (cond b (counting behind) [])) first.same ∙ by b (counts_alike (counted_on 0 before) behind first.few parts.1))
  where
    by : (b : Bool) → Counts (counted_on 0 before) behind (counting behind) → past_claims_in (counted_on 0 before) (cond b (counting behind) []) ≡ None
    by true c = c.none
    by false c = refl

further_fine : (first d : LocalDecl) → past_claims_in 0 (declared_annots first) ≡ None → past_claims_in 0 (declared_annots (further first d)) ≡ None
further_fine first d none = further_passes first.mods.annots first.ty.annots [] (nat_lt 0 d.ty.depth) none

-- ---- locals

all_fine : (first : LocalDecl) (ds : List LocalDecl) → past_claims_in 0 (declared_annots first) ≡ None → past_claims (each_annots (map (further first) ds)) ≡ None
all_fine first [] none = refl
all_fine first (d ∷ ds) none =
    both_none (past_claims_in 0 (declared_annots (further first d))) (past_claims (each_annots (map (further first) ds))) (further_fine first d none) (all_fine first ds none)

pub first_tells : (d : LocalDecl) (ds : List LocalDecl) → past_claims_in 0 (declared_annots d) ≡ past_claims (each_annots (declarators (d ∷ ds)))
first_tells d ds = by (past_claims_in 0 (declared_annots d)) refl
  where
    by : (o : Option Passed) → past_claims_in 0 (declared_annots d) ≡ o → o ≡ or_else o (past_claims (each_annots (map (further d) ds)))
    by None e = sym (all_fine d ds e)
    by (Some p) e = refl

-- ---- fields

pub field_tells : (first : Option LocalDecl) (d : LocalDecl) → IsFine first → is_further first d ≡ true → past_claims_in 0 (declared_annots (field_in first d)) ≡ None
field_tells None d fine e = absurd cc
field_tells (Some first) d fine e =
    ap (λ b. past_claims_in 0 (cond b (counting first.mods.annots) d.mods.annots ++ cond b (counting_behind first d) d.ty.annots)) e ∙ further_fine first d fine

pub field_alone : (first : Option LocalDecl) (d : LocalDecl) → is_further first d ≡ false → past_claims_in 0 (declared_annots (field_in first d)) ≡ past_claims_in 0 (declared_annots d)
field_alone None d e = refl
field_alone (Some first) d e = ap (λ b. past_claims_in 0 (cond b (counting first.mods.annots) d.mods.annots ++ cond b (counting_behind first d) d.ty.annots)) e

-- what a member tells of the next
pub fine_behind : (first : Option LocalDecl) (m : Member) → IsFine first → past_claims (annots_of (member_in first m)) ≡ None → IsFine (first_behind first m)
fine_behind first (member.Method m) fine none = tt
fine_behind None (member.Field d) fine none = (or_none (past_claims_in 0 (declared_annots d)) None none).0
fine_behind (Some first) (member.Field d) fine none = by (is_further (Some first) d) refl
  where
    by : (b : Bool) → is_further (Some first) d ≡ b → past_claims_in 0 (declared_annots (cond b first d)) ≡ None
    by true e = fine
    by false e = sym (field_alone (Some first) d e) ∙ (or_none (past_claims_in 0 (declared_annots (field_in (Some first) d))) None none).0

-- ---- one step of a loop over members

past : Option LocalDecl → List Member → Option Passed
past first ms = past_claims (member_annots (members_behind first ms))

step : (first : Option LocalDecl) (xs : List Member) (k : ℕ) (x : Member) → k < length xs → x ≡ get_or xs k x
    → past first (drop k xs) ≡ or_else (past_claims (annots_of (member_in first x))) (past (first_behind first x) (drop (k + 1) xs))
unfolding past
step first xs k x lt is =
    at_drop_more (past first) xs k x lt
    ∙ ap (λ y. past first (y ∷ drop (k + 1) xs)) (sym is)
    ∙ past_member (member_in first x) (members_behind (first_behind first x) (drop (k + 1) xs))

pub found_in : (first : Option LocalDecl) (xs : List Member) (k : ℕ) (x : Member) (p : Passed) → k < length xs → x ≡ get_or xs k x
    → past_claims (member_annots (members_behind first (drop k xs))) ≡ past_claims (member_annots (members xs)) → past_claims (annots_of (member_in first x)) ≡ Some p
    → Some p ≡ past_claims (member_annots (members xs))
unfolding past
found_in first xs k x p lt is so here = ap (λ o. or_else o (past (first_behind first x) (drop (k + 1) xs))) (sym here) ∙ sym (step first xs k x lt is) ∙ so

pub on_in : (first : Option LocalDecl) (xs : List Member) (k : ℕ) (x : Member) → k < length xs → x ≡ get_or xs k x
    → past_claims (member_annots (members_behind first (drop k xs))) ≡ past_claims (member_annots (members xs)) → past_claims (annots_of (member_in first x)) ≡ None
    → past_claims (member_annots (members_behind (first_behind first x) (drop (k + 1) xs))) ≡ past_claims (member_annots (members xs))
unfolding past
on_in first xs k x lt is so none = ap (λ o. or_else o (past (first_behind first x) (drop (k + 1) xs))) (sym none) ∙ sym (step first xs k x lt is) ∙ so
