-- Members of the lists of which the closing list is made.
use Rattle.std.specs.Prelude.{◌≡◌, Bool, true, false, List, [], ◌∷◌, refl}
use Rattle.std.proofs.Common.{inl, inr, sym, ◌∙◌, subst, ⊎_elim}
use Rattle.std.proofs.lemmas.Bool.{false≢true}
use Rattle.ix_core.specs.declared.fact.Path.{Path}
use Rattle.ix_core.specs.declared.fact.PathOff.TheVariants.{Plus}
use Rattle.ix_core.specs.declared.fact.Fact.{Fact}
use Rattle.ix_core.specs.declared.fact.Fact.TheVariants.{Rng, LenRng, Same, Sum, Upper}
use Rattle.ix_facts.specs.declared.kind.Kind.{Kind}
use Rattle.ix_facts.specs.Bounds.{is_path}
use Rattle.ix_facts.specs.Exact.{if_so, each_path}
use Rattle.ix_facts.specs.Facts.{IsIn}
use Rattle.ix_facts.specs.Kinds.{is_of, of_kind}
use Rattle.ix_facts.specs.Named.{IsAmongPaths}
use Rattle.ix_facts.specs.PathOrder.{path_itself, path_same}
use Rattle.ix_facts.specs.Systems.{Merges}
use Rattle.ix_facts.specs.Systems as merges
use Rattle.ix_facts.proofs.FactLists.{in_left, in_right, in_either}
use Rattle.ix_core.proofs.Cases.{by_test}
use Rattle.ix_fact_table.specs.Classes.{Roots, root_of}
use Rattle.ix_fact_table.specs.Saturated.{of_class}

-- ---- members of lists that go over paths

pub in_path : (rule : Path → List Fact) (f : Fact) (paths : List Path) (p : Path) → IsAmongPaths p paths → IsIn f (rule p) → IsIn f (each_path rule paths)
in_path rule f [] p a i = absurd a
in_path rule f (q ∷ paths) p a i =
    ⊎_elim (λ e. in_left f (rule q) (each_path rule paths) (subst (λ x. IsIn f (rule x)) e i)) (λ b. in_right f (rule q) (each_path rule paths) (in_path rule f paths p b i)) a

pub from_path : (rule : Path → List Fact) (f : Fact) (paths : List Path) → IsIn f (each_path rule paths) → (p : Path) × IsAmongPaths p paths × IsIn f (rule p)
from_path rule f [] i = absurd i
from_path rule f (q ∷ paths) i =
    ⊎_elim (λ j. (q, inl refl, j)) (λ j. let x = from_path rule f paths j in (x.0, inr x.1, x.2)) (in_either f (rule q) (each_path rule paths) i)

pub if_true : (t : Bool) (f g : Fact) → IsIn f (if_so t (g ∷ [])) → (t ≡ true) × (f ≡ g)
if_true true f g i = (refl, ⊎_elim (λ e. e) (λ j. absurd j) i)
if_true false f g i = absurd i

pub so_in : (t : Bool) (g : Fact) → t ≡ true → IsIn g (if_so t (g ∷ []))
so_in true g e = inl refl
so_in false g e = absurd (false≢true e)

-- ---- the ranges among the facts

pub in_kind : (own : Kind) (f : Fact) (facts : List Fact) → IsIn f facts → is_of own f ≡ true → IsIn f (of_kind own facts)
in_kind own f [] i t = absurd i
in_kind own f (g ∷ facts) i t =
    by_test (is_of own g)
    (λ u. rw u (⊎_elim (λ e. inl e) (λ j. inr (in_kind own f facts j t)) i))
    (λ u. rw u (⊎_elim (λ e. absurd (false≢true (sym u ∙ subst (λ h. is_of own h ≡ true) e t))) (λ j. in_kind own f facts j t) i))

-- ---- what is merged of some facts is merged of more

pub merges_more : (some facts : List Fact) → ((f : Fact) → IsIn f some → IsIn f facts) → (f : Fact) → Merges some f → Merges facts f
merges_more some facts k _ (merges.given f i) = merges.given f (k f i)
merges_more some facts k _ (merges.weaker g f c r) = merges.weaker g f c (merges_more some facts k g r)
merges_more some facts k _ (merges.any_int p) = merges.any_int p
merges_more some facts k _ (merges.any_size a) = merges.any_size a
merges_more some facts k _ (merges.met p l h m n r s) = merges.met p l h m n (merges_more some facts k (Rng p l h) r) (merges_more some facts k (Rng p m n) s)
merges_more some facts k _ (merges.len_met a l h m n r s) = merges.len_met a l h m n (merges_more some facts k (LenRng a l h) r) (merges_more some facts k (LenRng a m n) s)
merges_more some facts k _ (merges.turned a b r) = merges.turned a b (merges_more some facts k (Same a b) r)
merges_more some facts k _ (merges.sum_turned t y z r) = merges.sum_turned t y z (merges_more some facts k (Sum t y z) r)
merges_more some facts k _ (merges.upper_turned p a q c r) = merges.upper_turned p a q c (merges_more some facts k (Upper p a (Plus q) c) r)

-- ---- the arrays of a class

module _ (roots : Roots) (listed : List Path) where
  pub in_class : (make : Path → Fact) (a b : Path) → root_of roots a ≡ root_of roots b → IsAmongPaths b listed → IsIn (make b) (of_class roots listed make a)
  in_class make a b e among =
      in_path (λ x. if_so (is_path (root_of roots x) (root_of roots a)) (make x ∷ [])) (make b) listed b among
      (so_in (is_path (root_of roots b) (root_of roots a)) (make b) (subst (λ r. is_path r (root_of roots a) ≡ true) e (path_itself (root_of roots a))))

  pub from_class : (make : Path → Fact) (a : Path) (f : Fact) → IsIn f (of_class roots listed make a) → (b : Path) × (root_of roots b ≡ root_of roots a) × (f ≡ make b)
  from_class make a f i =
      let x = from_path (λ b. if_so (is_path (root_of roots b) (root_of roots a)) (make b ∷ [])) f listed i in
      let y = if_true (is_path (root_of roots x.0) (root_of roots a)) f (make x.0) x.2 in
      (x.0, path_same (root_of roots x.0) (root_of roots a) y.0, y.1)
