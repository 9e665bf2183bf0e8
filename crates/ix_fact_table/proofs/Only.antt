-- Each fact of the list that closing makes follows from the facts.
use Rattle.std.specs.Prelude.{◌≡◌, ◌⊎◌, List, ◌++◌}
use Rattle.std.proofs.Common.{inl, inr, sym, ◌∙◌, subst, ⊎_elim}
use Rattle.ix_core.specs.declared.fact.Path.{Path}
use Rattle.ix_core.specs.declared.fact.Fact.{Fact}
use Rattle.ix_core.specs.declared.fact.Fact.TheVariants.{Rng, LenRng, Low, Same, IsLen, Less, Sum, Search, Neg, Upper}
use Rattle.ix_facts.specs.declared.kind.Kind.TheVariants as kind
use Rattle.ix_facts.specs.Facts.{IsIn}
use Rattle.ix_facts.specs.Closure.{Follows}
use Rattle.ix_facts.specs.Closure as closure
use Rattle.ix_facts.specs.Exact.{each}
use Rattle.ix_facts.specs.Kinds.{of_kind}
use Rattle.ix_facts.specs.Systems.{IsTable}
use Rattle.ix_facts.proofs.FactLists.{in_either}
use Rattle.ix_facts.proofs.SaidLaws.{from_each}
use Rattle.ix_fact_table.specs.Classes.{Roots, root_of, Alike, AreClasses}
use Rattle.ix_fact_table.specs.Saturated.{IsSaturated, AreListed, of_class, pairs, along, search_of, negative_of, class_of, alike, searched, saturated}
use Rattle.ix_fact_table.proofs.Members.{from_class, from_path}
use Rattle.ix_fact_table.proofs.RangesMet.{follows_range, follows_negative, follows_class}
use Rattle.ix_fact_table.proofs.Shown.{shows, merged}

-- ---- arrays that are alike to one array

alike_both : (facts : List Fact) (r a b : Path) → Alike facts r a → Alike facts r b → (a ≡ b) ⊎ Follows facts (Same a b)
alike_both facts r a b x y =
    ⊎_elim
    (λ e. ⊎_elim (λ d. inl (sym e ∙ d)) (λ g. inr (subst (λ z. Follows facts (Same z b)) e g)) y)
    (λ f. ⊎_elim (λ d. inr (subst (λ z. Follows facts (Same a z)) d (closure.turned r a f))) (λ g. inr (closure.joined a r b (closure.turned r a f) g)) y)
    x

module _ (facts : List Fact) (roots : Roots) (listed : List Path) (ranges : List Fact) (classes : AreClasses facts roots) (lists : AreListed facts listed) (table : IsTable (of_kind kind.Range facts) ranges) where
  near : (a b : Path) → root_of roots b ≡ root_of roots a → (a ≡ b) ⊎ Follows facts (Same a b)
  near a b e = alike_both facts (root_of roots a) a b (classes.sound a) (subst (λ r. Alike facts r b) e (classes.sound b))

  follows_pair : (f : Fact) → IsIn f (pairs roots listed) → Follows facts f
  follows_pair f i =
      let x = from_path (λ a. of_class roots listed (Same a) a) f listed i in
      let a = x.0 in
      let y = from_class roots listed (Same a) a f x.2 in
      subst (Follows facts) (sym y.2) (⊎_elim (λ e. subst (λ b. Follows facts (Same a b)) e (lists.only a x.1)) (λ g. g) (near a y.0 y.1))

  -- what is known of one array, of another of its length
  follows_on : (make : Path → Fact) (a b : Path) → (Follows facts (Same a b) → Follows facts (make b)) → IsIn (make a) facts → root_of roots b ≡ root_of roots a → Follows facts (make b)
  follows_on make a b move i e = ⊎_elim (λ d. subst (λ x. Follows facts (make x)) d (closure.given (make a) i)) move (near a b e)

  follows_along : (g f : Fact) → IsIn g facts → IsIn f (along roots listed g) → Follows facts f
  follows_along (LenRng a l h) f i j =
      let x = from_class roots listed (λ b. LenRng b l h) a f j in
      subst (Follows facts) (sym x.2) (follows_on (λ b. LenRng b l h) a x.0 (λ s. closure.len_along a x.0 l h s (closure.given (LenRng a l h) i)) i x.1)
  follows_along (IsLen p a) f i j =
      let x = from_class roots listed (IsLen p) a f j in
      subst (Follows facts) (sym x.2) (follows_on (IsLen p) a x.0 (λ s. closure.is_len_along p a x.0 s (closure.given (IsLen p a) i)) i x.1)
  follows_along (Search p a) f i j =
      let x = from_class roots listed (Search p) a f j in
      subst (Follows facts) (sym x.2) (follows_on (Search p) a x.0 (λ s. closure.search_along p a x.0 s (closure.given (Search p a) i)) i x.1)
  follows_along (Neg p a) f i j =
      let x = from_class roots listed (Neg p) a f j in
      subst (Follows facts) (sym x.2) (follows_on (Neg p) a x.0 (λ s. closure.neg_along p a x.0 s (closure.given (Neg p a) i)) i x.1)
  follows_along (Rng p l h) f i j = absurd j
  follows_along (Low p c) f i j = absurd j
  follows_along (Same a b) f i j = absurd j
  follows_along (Less p q c) f i j = absurd j
  follows_along (Sum t y z) f i j = absurd j
  follows_along (Upper p a o c) f i j = absurd j

  follows_alike : (f : Fact) → IsIn f (alike facts roots listed) → Follows facts f
  follows_alike f i =
      ⊎_elim
      (λ j. closure.given f j)
      (λ j.
      ⊎_elim
      (λ k. follows_pair f k)
      (λ k. let x = from_each (along roots listed) f facts k in follows_along x.0 f x.1 x.2)
      (in_either f (pairs roots listed) (each (along roots listed) facts) j))
      (in_either f facts (pairs roots listed ++ each (along roots listed) facts) i)

  follows_search : (g f : Fact) → Follows facts g → IsIn f (search_of g) → Follows facts f
  follows_search (Neg p a) f r j = ⊎_elim (λ e. subst (Follows facts) (sym e) (closure.neg_search p a r)) (λ n. absurd n) j
  follows_search (Rng p l h) f r j = absurd j
  follows_search (LenRng p l h) f r j = absurd j
  follows_search (Low p c) f r j = absurd j
  follows_search (Same a b) f r j = absurd j
  follows_search (IsLen p a) f r j = absurd j
  follows_search (Less p q c) f r j = absurd j
  follows_search (Sum t y z) f r j = absurd j
  follows_search (Search p a) f r j = absurd j
  follows_search (Upper p a o c) f r j = absurd j

  follows_searched : (f : Fact) → IsIn f (searched facts roots listed) → Follows facts f
  follows_searched f i =
      ⊎_elim
      (λ j. follows_alike f j)
      (λ j. let x = from_each search_of f (alike facts roots listed) j in follows_search x.0 f (follows_alike x.0 x.1) x.2)
      (in_either f (alike facts roots listed) (each search_of (alike facts roots listed)) i)

  follows_all : (f : Fact) → IsIn f (saturated facts roots listed ranges) → Follows facts f
  follows_all f i =
      ⊎_elim
      (λ j. follows_searched f j)
      (λ j.
      ⊎_elim
      (λ k. let x = from_each (negative_of ranges) f (searched facts roots listed) k in follows_negative facts ranges table x.0 f (follows_searched x.0 x.1) x.2)
      (λ k. let x = from_each class_of f ranges k in follows_class facts ranges table x.0 f (follows_range facts ranges table x.0 x.1) x.2)
      (in_either f (each (negative_of ranges) (searched facts roots listed)) (each class_of ranges) j))
      (in_either f (searched facts roots listed) (each (negative_of ranges) (searched facts roots listed) ++ each class_of ranges) i)

  pub is_saturated : IsSaturated facts (saturated facts roots listed ranges)
  is_saturated = record {
    says = λ f r. merged facts roots listed ranges classes lists table f (shows facts roots listed ranges classes lists table f r);
    only = follows_all;
  }
