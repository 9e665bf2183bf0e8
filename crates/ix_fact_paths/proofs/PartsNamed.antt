-- The ints that facts in parts name are those that all name, once as many are found as there can be.
use Rattle.std.specs.Prelude.{◌≡◌, ◌≤◌, ◌<◌, ◌+◌, ℕ, zero, suc, true, nat_eq, List, [], ◌∷◌, ◌++◌, length, drop, slice_index_or, get_or, refl}
use Rattle.std.proofs.Common.{arith, add-one, inl, inr, ap, sym, ◌∙◌, subst, ⊎_elim}
use Rattle.std.proofs.Math.Seq.{drop-cons}
use Rattle.std.proofs.lemmas.Bool.Decides.{nat_tests}
use Rattle.ix_core.specs.declared.fact.Path.{Path}
use Rattle.ix_core.specs.declared.fact.Fact.{Fact}
use Rattle.ix_facts.specs.PathOrder.{path_cmp}
use Rattle.std.specs.BTreeSet.{insert_key}
use Rattle.ix_facts.specs.Exact.{ints_of, paths_of, named_ints}
use Rattle.ix_facts.specs.Facts.{IsIn}
use Rattle.ix_facts.specs.Named.{IsAmongPaths}
use Rattle.ix_fact_paths.specs.ByPath.{put_all}
use Rattle.ix_fact_paths.specs.PutLaws.{IsRising, all_rise, all_only, all_stay, all_there}
use Rattle.ix_fact_paths.specs.PutUntil.{IsPutUntil}
use Rattle.ix_fact_paths.specs.NamedLaws.{AreAmong, same_members, same_where_as_long, named_left, named_right, named_either}

pub put_more : (paths a b : List Path) → put_all paths (a ++ b) ≡ put_all (put_all paths a) b
put_more paths [] b = refl
put_more paths (p ∷ a) b = put_more (insert_key path_cmp paths p) a b

-- some paths more
pub put_kept : (facts : List Fact) (k : ℕ) (d : Fact) (old now next : List Path) → next ≡ put_all now (ints_of (slice_index_or facts k d))
    → (put : List Path) × (now ≡ put_all old put) → (put : List Path) × (next ≡ put_all old put)
put_kept facts k d old now next is put =
    let more = ints_of (slice_index_or facts k d) in
    (put.0 ++ more, is ∙ (ap (λ l. put_all l more) put.1 ∙ sym (put_more old put.0 more)))

-- the ints of one fact more
pub put_further : (facts : List Fact) (k : ℕ) (d : Fact) (old now next : List Path) → k < length facts → next ≡ put_all now (ints_of (slice_index_or facts k d))
    → put_all now (named_ints (drop k facts)) ≡ put_all old (named_ints facts) → put_all next (named_ints (drop (k + 1) facts)) ≡ put_all old (named_ints facts)
put_further facts k d old now next h is all =
    let at : drop k facts ≡ slice_index_or facts k d ∷ drop (k + 1) facts = rw add-one (drop-cons facts k d h) in
    ap (λ l. put_all l (named_ints (drop (k + 1) facts))) is
    ∙ (sym (put_more now (ints_of (slice_index_or facts k d)) (named_ints (drop (k + 1) facts)))
    ∙ (ap (λ l. put_all now (named_ints l)) (sym at) ∙ all))

module _ (of : Fact → List Path) (first between last : List Fact) where
  abbrev in_parts : List Path
  in_parts = put_all (put_all (put_all [] (paths_of of first)) (paths_of of last)) (paths_of of between)

  abbrev together : List Path
  together = put_all [] (paths_of of (first ++ (between ++ last)))

  parts_rise : IsRising in_parts
  parts_rise = all_rise (paths_of of between) _ (all_rise (paths_of of last) _ (all_rise (paths_of of first) [] tt))

  together_rise : IsRising together
  together_rise = all_rise (paths_of of (first ++ (between ++ last))) [] tt

  from_first : AreAmong (paths_of of first) in_parts
  from_first p i = all_stay (paths_of of between) _ p (all_stay (paths_of of last) _ p (all_there (paths_of of first) [] p i))

  from_last : AreAmong (paths_of of last) in_parts
  from_last p i = all_stay (paths_of of between) _ p (all_there (paths_of of last) _ p i)

  from_between : AreAmong (paths_of of between) in_parts
  from_between p i = all_there (paths_of of between) _ p i

  there : AreAmong together in_parts
  there p i =
      ⊎_elim
      (λ j. ⊎_elim (from_first p) (λ k. ⊎_elim (from_between p) (from_last p) (named_either of p between last k)) (named_either of p first (between ++ last) j))
      (λ j. absurd j)
      (all_only (paths_of of (first ++ (between ++ last))) [] p i)

  all_named : (p : Path) → IsAmongPaths p (paths_of of (first ++ (between ++ last))) → IsAmongPaths p together
  all_named p i = all_there (paths_of of (first ++ (between ++ last))) [] p i

  back : AreAmong in_parts together
  back p i =
      ⊎_elim
      (λ j. all_named p (named_right of p first (between ++ last) (named_left of p between last j)))
      (λ j.
      ⊎_elim
      (λ k. all_named p (named_right of p first (between ++ last) (named_right of p between last k)))
      (λ k. ⊎_elim (λ l. all_named p (named_left of p first (between ++ last) l)) (λ l. absurd l) (all_only (paths_of of first) [] p k))
      (all_only (paths_of of last) _ p j))
      (all_only (paths_of of between) _ p i)

  pub in_parts_same : in_parts ≡ together
  in_parts_same = same_members in_parts together parts_rise together_rise back there

-- where those between name none
pub parts_without : (of : Fact → List Path) (first between last : List Fact) → paths_of of between ≡ [] → put_all (put_all [] (paths_of of first)) (paths_of of last) ≡ put_all [] (paths_of of (first ++ (between ++ last)))
parts_without of first between last none = let same = in_parts_same of first between last in rw none at same

-- as many as there can be
as_many : (first between last : List Fact) (paths put left_over : List Path) (new : List Path) → IsRising paths
    → ((p : Path) → IsAmongPaths p (named_ints (first ++ (between ++ last))) → IsAmongPaths p paths)
    → IsRising new → put_all new left_over ≡ put_all [] (named_ints (first ++ (between ++ last))) → length paths ≤ length new → new ≡ put_all [] (named_ints (first ++ (between ++ last)))
as_many first between last paths put left_over new rising among rises all long =
    let total = named_ints (first ++ (between ++ last)) in
    let within : AreAmong new (put_all [] total) = λ p i. subst (IsAmongPaths p) all (all_stay left_over new p i) in
    let all_among : AreAmong (put_all [] total) paths = λ p i. ⊎_elim (λ j. among p j) (λ j. absurd j) (all_only total [] p i) in
    let same : new ≡ paths = same_where_as_long new paths rises rising (λ p i. all_among p (within p i)) long in
    same_members new (put_all [] total) rises (all_rise total [] tt) within (λ p i. subst (IsAmongPaths p) (sym same) (all_among p i))

pub among_named : (first between last : List Fact) (paths old new : List Path) → IsRising paths
    → ((p : Path) → IsAmongPaths p (named_ints (first ++ (between ++ last))) → IsAmongPaths p paths)
    → old ≡ put_all (put_all [] (named_ints first)) (named_ints last)
    → IsPutUntil old between (length paths) new → new ≡ put_all [] (named_ints (first ++ (between ++ last)))
among_named first between last paths old new rising among is until =
    let same = in_parts_same ints_of first between last in
    let all : put_all new until.left_over ≡ put_all [] (named_ints (first ++ (between ++ last))) = until.all ∙ ap (λ l. put_all l (named_ints between)) is ∙ same in
    let old_rises : IsRising old = subst IsRising (sym is) (all_rise (named_ints last) _ (all_rise (named_ints first) [] tt)) in
    let new_rises : IsRising new = subst IsRising (sym until.is_put) (all_rise until.put old old_rises) in
    ⊎_elim
    (λ none. ap (λ l. put_all new l) (sym none) ∙ all)
    (λ long. as_many first between last paths until.put until.left_over new rising among new_rises all long)
    until.stops

-- where each path has a range in the first part
pub ranges_named : (first between last : List Fact) (paths : List Path) → IsRising paths
    → ((p : Path) → IsAmongPaths p (named_ints (first ++ (between ++ last))) → IsAmongPaths p paths)
    → AreAmong paths (named_ints first) → paths ≡ put_all [] (named_ints (first ++ (between ++ last)))
ranges_named first between last paths rising among have =
    let total = named_ints (first ++ (between ++ last)) in
    same_members paths (put_all [] total) rising (all_rise total [] tt)
    (λ p i. all_there total [] p (named_left ints_of p first (between ++ last) (have p i)))
    (λ p i. ⊎_elim (λ j. among p j) (λ j. absurd j) (all_only total [] p i))

in_get : (facts : List Fact) (k : ℕ) (d : Fact) → k < length facts → IsIn (get_or facts k d) facts
in_get [] k d lt = absurd (omega arith)
in_get (f ∷ facts) zero d lt = inl refl
in_get (f ∷ facts) (suc k) d lt = inr (in_get facts k d (omega arith))

pub in_place : (facts : List Fact) (k : ℕ) (d : Fact) → k < length facts → IsIn (slice_index_or facts k d) facts
in_place facts k d lt = in_get facts k d lt

pub none_left : (paths : List Path) (p : Path) → nat_eq (length paths) 0 ≡ true → IsAmongPaths p paths → ⊥
none_left [] p e i = i
none_left (q ∷ paths) p e i = let none : length (q ∷ paths) ≡ 0 = grind (arith, nat_tests, e) in absurd (omega (arith, none))
