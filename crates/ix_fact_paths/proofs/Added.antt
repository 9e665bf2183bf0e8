-- Entries that are put at their paths.
use Rattle.std.specs.Prelude.{◌≡◌, ℕ, zero, suc, true, false, cond, nat_eq, List, [], ◌∷◌, ◌++◌, get_or, refl}
use Rattle.std.proofs.Common.{ap, sym, subst, ◌∙◌}
use Rattle.std.proofs.lemmas.Bool.{false≢true}
use Rattle.std.proofs.lemmas.List.{append_assoc, append-nil}
use Rattle.ix_core.specs.declared.fact.Path.{Path}
use Rattle.ix_core.specs.declared.fact.Fact.{Fact}
use Rattle.ix_facts.specs.Bounds.{is_path}
use Rattle.ix_facts.specs.PathOrder.{path_same}
use Rattle.ix_facts.specs.Forget.{names}
use Rattle.ix_core.proofs.Cases.{by_test}
use Rattle.ix_fact_paths.specs.ByPath.{Entries, Places, is_near, near_place, at_paths, paths_in, facts_at, facts_in, about, beside, on_index, on_it, Adds}
use Rattle.ix_fact_paths.proofs.EntriesAre.{about_app, one_at, if_named, fact_at, beside_is}
use Rattle.ix_fact_paths.proofs.NearPlaces.{place_tells}

pub adds_both : (first second third : Places) (a b : Entries) → Adds first second a → Adds second third b → Adds first third (a ++ b)
adds_both first second third a b x y = λ p.
    y p
    ∙ (ap (λ l. l ++ facts_in (about p b)) (x p)
    ∙ (append_assoc (facts_at first p) (facts_in (about p a)) (facts_in (about p b)) ∙ ap (λ l. facts_at first p ++ l) (sym (about_app p a b))))

-- a near path is none that is not near
apart : (x p : Path) → is_near x ≡ true → is_near p ≡ false → is_path x p ≡ false
apart x p near far = by_test (is_path x p) (λ t. absurd (false≢true (sym far ∙ subst (λ q. is_near q ≡ true) (path_same x p t) near))) (λ t. t)

apart_back : (x p : Path) → is_near x ≡ false → is_near p ≡ true → is_path x p ≡ false
apart_back x p far near = by_test (is_path x p) (λ t. absurd (false≢true (sym far ∙ subst (λ q. is_near q ≡ true) (sym (path_same x p t)) near))) (λ t. t)

pub far_adds : (slots : List (List Fact)) (others : Entries) (p : Path) (f : Fact) → is_near p ≡ false → Adds (slots, others) (slots, others ++ (p, f) ∷ []) ((p, f) ∷ [])
far_adds slots others p f far = λ x.
    by_test (is_near x) (λ t. rw t (rw (apart x p t far) (sym (append-nil (get_or slots (near_place x) []))))) (λ t. rw t (about_app x others ((p, f) ∷ [])))

pub near_adds : (old new : List (List Fact)) (others : Entries) (p : Path) (f : Fact) → is_near p ≡ true → ((at : ℕ) → get_or new at [] ≡ get_or old at [] ++ cond (nat_eq at (near_place p)) (f ∷ []) [])
    → Adds (old, others) (new, others) ((p, f) ∷ [])
near_adds old new others p f near put = λ x.
    by_test (is_near x)
    (λ t.
    let one : cond (nat_eq (near_place x) (near_place p)) (f ∷ []) [] ≡ facts_in (about x ((p, f) ∷ [])) = ap (λ b. if_named b f) (place_tells x p t near) ∙ sym (one_at x p f) in
    rw t (put (near_place x) ∙ ap (λ l. get_or old (near_place x) [] ++ l) one))
    (λ t. rw t (rw (apart_back x p t near) (sym (append-nil (facts_in (about x others))))))

-- a place without facts behind the others
pub none_behind : (near : List (List Fact)) (at : ℕ) → get_or (near ++ [] ∷ []) at [] ≡ get_or near at []
none_behind [] zero = refl
none_behind [] (suc at) = refl
none_behind (facts ∷ near) zero = refl
none_behind (facts ∷ near) (suc at) = none_behind near at

pub next_put : (x : Path) (f : Fact) (old new rest whole : List Fact) → new ≡ old ++ facts_in (about x (at_paths f)) → old ++ on_it x (f ∷ rest) ≡ whole → new ++ on_it x rest ≡ whole
next_put x f old new rest whole made so_far =
    let here : if_named (names (is_path x) f) f ++ on_it x rest ≡ on_it x (f ∷ rest) = by_test (names (is_path x) f) (λ t. rw t refl) (λ t. rw t refl) in
    rw made
    (append_assoc old (facts_in (about x (at_paths f))) (on_it x rest)
    ∙ (ap (λ l. old ++ (l ++ on_it x rest)) (fact_at x f) ∙ (ap (λ l. old ++ l) here ∙ so_far)))

-- The places with the other paths in order have the same facts at each path.
pub index_at : (slots : List (List Fact)) (others sorted : Entries) (paths : List Path) (facts all : List Fact) → paths ≡ paths_in sorted → facts ≡ facts_in sorted → ((p : Path) → about p sorted ≡ about p others)
    → ((p : Path) → facts_at (slots, others) p ≡ on_it p all) → (p : Path) → on_index (slots, (paths, facts)) p ≡ on_it p all
index_at slots others sorted paths facts all is_paths is_facts same at p =
    by_test (is_near p)
    (λ t. let here = rw t at (at p) in rw t here)
    (λ t.
    let here = rw t at (at p) in
    rw t (ap (λ l. beside p l facts) is_paths ∙ (ap (beside p (paths_in sorted)) is_facts ∙ (beside_is p sorted ∙ (ap facts_in (same p) ∙ here)))))
