-- To forget paths told in two ways that agree is the same.
use Rattle.std.specs.Prelude.{◌≡◌, Bool, cond, ◌||◌, List, [], ◌∷◌, refl}
use Rattle.std.proofs.Common.{ap, ◌∙◌, subst}
use Rattle.ix_core.specs.declared.fact.Path.{Path}
use Rattle.ix_core.specs.declared.fact.PathOff.{PathOff}
use Rattle.ix_core.specs.declared.fact.PathOff.TheVariants.{Nothing, Plus, Minus}
use Rattle.ix_core.specs.declared.fact.Fact.{Fact}
use Rattle.ix_core.specs.declared.fact.Fact.TheVariants.{Rng, LenRng, Low, Same, IsLen, Less, Sum, Search, Neg, Upper}
use Rattle.ix_facts.specs.Forget.{offset_names, names, without}
use Rattle.ix_facts.specs.Stores.{Stored, Unreachable, Reached, IsStoreOf, IsForgotten}

module _ (is other : Path → Bool) (alike : (p : Path) → is p ≡ other p) where
  or_alike : (p q : Path) → (is p || is q) ≡ (other p || other q)
  or_alike p q = ap (λ b. b || is q) (alike p) ∙ ap (λ b. other p || b) (alike q)

  offset_alike : (o : PathOff) → offset_names is o ≡ offset_names other o
  offset_alike Nothing = refl
  offset_alike (Plus q) = alike q
  offset_alike (Minus q) = alike q

  names_alike : (f : Fact) → names is f ≡ names other f
  names_alike (Rng p l h) = alike p
  names_alike (LenRng a l h) = alike a
  names_alike (Low p c) = alike p
  names_alike (Same a b) = or_alike a b
  names_alike (IsLen p a) = or_alike p a
  names_alike (Less p q c) = or_alike p q
  names_alike (Sum t y z) = ap (λ b. b || (is y || is z)) (alike t) ∙ ap (λ b. other t || b) (or_alike y z)
  names_alike (Search p a) = or_alike p a
  names_alike (Neg p a) = or_alike p a
  names_alike (Upper p a o c) = ap (λ b. b || (is a || offset_names is o)) (alike p) ∙ ap (λ b. other p || b) (ap (λ b. b || offset_names is o) (alike a) ∙ ap (λ b. other a || b) (offset_alike o))

  without_alike : (facts : List Fact) → without is facts ≡ without other facts
  without_alike [] = refl
  without_alike (f ∷ facts) = ap (λ b. cond b (without is facts) (f ∷ without is facts)) (names_alike f) ∙ ap (λ l. cond (names other f) l (f ∷ l)) (without_alike facts)

  pub forgotten_alike : (s t : Stored) → IsForgotten is s t → IsForgotten other s t
  forgotten_alike Unreachable t forgotten = forgotten
  forgotten_alike (Reached facts) t forgotten = subst (λ l. IsStoreOf l t) (without_alike facts) forgotten
