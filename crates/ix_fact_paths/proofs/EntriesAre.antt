-- The facts of the entries at a path are the facts that name it.
use Rattle.std.specs.Prelude.{◌≡◌, ℕ, zero, suc, ◌<◌, ◌+◌, Bool, true, false, cond, ◌||◌, pos, List, [], ◌∷◌, ◌++◌, length, get_or, refl}
use Rattle.std.specs.List.Sorted.{IsSortedByKey}
use Rattle.std.specs.Ordering.{is_lt}
use Rattle.std.proofs.Common.{sym, ap, ◌∙◌, subst}
use Rattle.std.proofs.lemmas.Bool.{false≢true}
use Rattle.ix_core.specs.declared.fact.Path.{Path}
use Rattle.ix_core.specs.declared.fact.PathOff.{PathOff}
use Rattle.ix_core.specs.declared.fact.PathOff.TheVariants.{Nothing, Plus, Minus}
use Rattle.ix_core.specs.declared.fact.Fact.{Fact}
use Rattle.ix_core.specs.declared.fact.Fact.TheVariants.{Rng, LenRng, Low, Same, IsLen, Less, Sum, Search, Neg, Upper}
use Rattle.ix_facts.specs.Bounds.{is_path}
use Rattle.ix_facts.specs.Forget.{names, offset_names}
use Rattle.ix_facts.specs.PathOrder.{path_cmp, path_same}
use Rattle.ix_core.proofs.Cases.{by_test}
use Rattle.ix_fact_paths.specs.ByPath.{Entries, at_two, at_three, at_bound, at_paths, entries_of, paths_in, facts_in, about, beside, on_it, IsSorted}

pub about_app : (p : Path) (a b : Entries) → facts_in (about p (a ++ b)) ≡ facts_in (about p a) ++ facts_in (about p b)
about_app p [] b = refl
about_app p (e ∷ a) b = by_test (is_path p e.0) (λ t. rw t (ap (λ l. e.1 ∷ l) (about_app p a b))) (λ t. rw t (about_app p a b))

-- ---- one fact

abbrev pub if_named : Bool → Fact → List Fact
if_named t f = cond t (f ∷ []) []

pub one_at : (x p : Path) (f : Fact) → facts_in (about x ((p, f) ∷ [])) ≡ if_named (is_path x p) f
one_at x p f = by_test (is_path x p) (λ t. rw t refl) (λ t. rw t refl)

or_right : (t : Bool) → (t || true) ≡ true
or_right true = refl
or_right false = refl

or_left : (t : Bool) → (t || false) ≡ t
or_left true = refl
or_left false = refl

two_at : (x p q : Path) (f : Fact) → facts_in (about x (at_two p q f)) ≡ if_named (is_path x p || is_path x q) f
two_at x p q f =
    by_test (is_path q p)
    (λ t. let e = path_same q p t in rw t (one_at x p f ∙ ap (λ b. if_named b f) (same_or (is_path x p) (is_path x q) (ap (is_path x) e))))
    (λ t. rw t (by_test (is_path x p)
    (λ u. rw u (by_test (is_path x q) (λ v. absurd (false≢true (sym t ∙ subst (λ y. is_path y p ≡ true) (path_same x q v) u))) (λ v. rw v refl)))
    (λ u. rw u (one_at x q f))))
  where
    same_or : (a b : Bool) → b ≡ a → a ≡ (a || b)
    same_or true b e = refl
    same_or false b e = sym e

both_none : (a b : Bool) (f : Fact) → if_named (a || b) f ++ [] ≡ if_named (a || (b || false)) f
both_none true b f = refl
both_none false true f = refl
both_none false false f = refl

third_at : (x p q r : Path) (f : Fact) → if_named (is_path x p || is_path x q) f ++ facts_in (about x (cond (is_path r p || is_path r q) [] ((r, f) ∷ []))) ≡ if_named (is_path x p || (is_path x q || is_path x r)) f
third_at x p q r f =
    by_test (is_path x r)
    (λ v.
    let rp : is_path r p ≡ is_path x p = ap (λ y. is_path y p) (sym (path_same x r v)) in
    let rq : is_path r q ≡ is_path x q = ap (λ y. is_path y q) (sym (path_same x r v)) in
    rw (rp, rq) (by_test (is_path x p)
    (λ t. rw t refl)
    (λ t. rw t (by_test (is_path x q) (λ u. rw u refl) (λ u. rw u (rw v refl))))))
    (λ v. by_test (is_path r p || is_path r q) (λ w. rw w (rw v (both_none (is_path x p) (is_path x q) f))) (λ w. rw w (rw v (both_none (is_path x p) (is_path x q) f))))

three_at : (x p q r : Path) (f : Fact) → facts_in (about x (at_three p q r f)) ≡ if_named (is_path x p || (is_path x q || is_path x r)) f
three_at x p q r f =
    about_app x (at_two p q f) (cond (is_path r p || is_path r q) [] ((r, f) ∷ []))
    ∙ (ap (λ l. l ++ facts_in (about x (cond (is_path r p || is_path r q) [] ((r, f) ∷ [])))) (two_at x p q f) ∙ third_at x p q r f)

bound_at : (x p a : Path) (o : PathOff) (f : Fact) → facts_in (about x (at_bound p a o f)) ≡ if_named (is_path x p || (is_path x a || offset_names (is_path x) o)) f
bound_at x p a Nothing f = two_at x p a f ∙ ap (λ b. if_named (is_path x p || b) f) (sym (or_left (is_path x a)))
bound_at x p a (Plus q) f = three_at x p a q f
bound_at x p a (Minus q) f = three_at x p a q f

pub fact_at : (x : Path) (f : Fact) → facts_in (about x (at_paths f)) ≡ if_named (names (is_path x) f) f
fact_at x (Rng p l h) = one_at x p (Rng p l h)
fact_at x (LenRng a l h) = one_at x a (LenRng a l h)
fact_at x (Low p c) = one_at x p (Low p c)
fact_at x (Same a b) = two_at x a b (Same a b)
fact_at x (IsLen p a) = two_at x p a (IsLen p a)
fact_at x (Less p q c) = two_at x p q (Less p q c)
fact_at x (Sum t y z) = three_at x t y z (Sum t y z)
fact_at x (Search p a) = two_at x p a (Search p a)
fact_at x (Neg p a) = two_at x p a (Neg p a)
fact_at x (Upper p a o c) = bound_at x p a o (Upper p a o c)

-- ---- all facts

pub entries_at : (x : Path) (facts : List Fact) → facts_in (about x (entries_of facts)) ≡ on_it x facts
entries_at x [] = refl
entries_at x (f ∷ facts) =
    about_app x (at_paths f) (entries_of facts)
    ∙ (ap (λ l. l ++ facts_in (about x (entries_of facts))) (fact_at x f)
    ∙ (ap (λ l. if_named (names (is_path x) f) f ++ l) (entries_at x facts) ∙ here))
  where
    here : if_named (names (is_path x) f) f ++ on_it x facts ≡ on_it x (f ∷ facts)
    here = by_test (names (is_path x) f) (λ t. rw t refl) (λ t. rw t refl)

-- ---- entries as two lists

pub beside_is : (x : Path) (entries : Entries) → beside x (paths_in entries) (facts_in entries) ≡ facts_in (about x entries)
beside_is x [] = refl
beside_is x (e ∷ entries) = by_test (is_path x e.0) (λ t. rw t (ap (λ l. e.1 ∷ l) (beside_is x entries))) (λ t. rw t (beside_is x entries))

pub as_long : (entries : Entries) → length (facts_in entries) ≡ length (paths_in entries)
as_long [] = refl
as_long (e ∷ entries) = ap suc (as_long entries)

paths_long : (entries : Entries) → length (paths_in entries) ≡ length entries
paths_long [] = refl
paths_long (e ∷ entries) = ap suc (paths_long entries)

path_get : (entries : Entries) (k : ℕ) (p : Path) → get_or (paths_in entries) k p ≡ (get_or entries k (p, Low p (pos 0))).0
path_get [] k p = refl
path_get (e ∷ entries) zero p = refl
path_get (e ∷ entries) (suc k) p = path_get entries k p

pub paths_sorted : (entries : Entries) → IsSortedByKey (λ e. e.0) path_cmp entries → IsSorted (paths_in entries)
paths_sorted entries sorted k p from within =
    let d : Path × Fact = (p, Low p (pos 0)) in
    ap (λ q. is_lt (path_cmp (get_or (paths_in entries) (k + 1) p) q)) (path_get entries k p)
    ∙ (ap (λ q. is_lt (path_cmp q (get_or entries k d).0)) (path_get entries (k + 1) p) ∙ sorted k d from (subst (λ n. k + 1 < n) (paths_long entries) within))
