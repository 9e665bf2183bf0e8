-- What an int is at least in the closing list is -1, 0 or 1.
use Rattle.std.specs.Prelude.{pos, negsuc, ◌≤ℤ◌, int_le, List, ◌++◌}
use Rattle.std.specs.Int.{int_min}
use Rattle.std.proofs.Common.{arith, sym, subst, ⊎_elim}
use Rattle.std.proofs.lemmas.Int.{ints, clamps}
use Rattle.ix_core.specs.declared.fact.Path.{Path}
use Rattle.ix_core.specs.declared.fact.Fact.{Fact}
use Rattle.ix_core.specs.declared.fact.Fact.TheVariants.{Rng, LenRng, Low, Same, IsLen, Less, Sum, Search, Neg, Upper}
use Rattle.ix_facts.specs.Bounds.{range_high}
use Rattle.ix_facts.specs.Exact.{each}
use Rattle.ix_facts.specs.Facts.{IsIn}
use Rattle.ix_facts.specs.Systems.{HasClass, HaveClasses}
use Rattle.ix_facts.proofs.FactLists.{in_either}
use Rattle.ix_facts.proofs.SaidLaws.{from_each}
use Rattle.ix_fact_table.specs.Classes.{Roots}
use Rattle.ix_fact_table.specs.Saturated.{of_class, pairs, along, search_of, negative_of, class_of, alike, searched, saturated}
use Rattle.ix_fact_table.proofs.Members.{from_class, from_path, if_true}

pub negative_class : (ranges : List Fact) (g f : Fact) → IsIn f (negative_of ranges g) → HasClass f
negative_class ranges (Search p a) f j = subst HasClass (sym (if_true (int_le (range_high ranges p) (negsuc 0)) f (Neg p a) j).1) tt
negative_class ranges (Rng p l h) f j = absurd j
negative_class ranges (LenRng p l h) f j = absurd j
negative_class ranges (Low p c) f j = absurd j
negative_class ranges (Same a b) f j = absurd j
negative_class ranges (IsLen p a) f j = absurd j
negative_class ranges (Less p q c) f j = absurd j
negative_class ranges (Sum t y z) f j = absurd j
negative_class ranges (Neg p a) f j = absurd j
negative_class ranges (Upper p a o c) f j = absurd j

pub class_class : (g f : Fact) → IsIn f (class_of g) → HasClass f
class_class (Rng p l h) f j =
    let x = if_true (int_le (negsuc 0) l) f (Low p (int_min l (pos 1))) j in
    let from : negsuc 0 ≤ℤ l = grind (arith, ints, x.0) in
    subst HasClass (sym x.1) (record { above = omega (arith, ints, clamps, from); below = omega (arith, ints, clamps) })
class_class (Search p a) f j = absurd j
class_class (LenRng p l h) f j = absurd j
class_class (Low p c) f j = absurd j
class_class (Same a b) f j = absurd j
class_class (IsLen p a) f j = absurd j
class_class (Less p q c) f j = absurd j
class_class (Sum t y z) f j = absurd j
class_class (Neg p a) f j = absurd j
class_class (Upper p a o c) f j = absurd j

module _ (facts : List Fact) (roots : Roots) (listed : List Path) (ranges : List Fact) (have : HaveClasses facts) where
  along_class : (g f : Fact) → IsIn f (along roots listed g) → HasClass f
  along_class (LenRng a l h) f j = subst HasClass (sym (from_class roots listed (λ b. LenRng b l h) a f j).2) tt
  along_class (IsLen p a) f j = subst HasClass (sym (from_class roots listed (IsLen p) a f j).2) tt
  along_class (Search p a) f j = subst HasClass (sym (from_class roots listed (Search p) a f j).2) tt
  along_class (Neg p a) f j = subst HasClass (sym (from_class roots listed (Neg p) a f j).2) tt
  along_class (Rng p l h) f j = absurd j
  along_class (Low p c) f j = absurd j
  along_class (Same a b) f j = absurd j
  along_class (Less p q c) f j = absurd j
  along_class (Sum t y z) f j = absurd j
  along_class (Upper p a o c) f j = absurd j

  search_class : (g f : Fact) → IsIn f (search_of g) → HasClass f
  search_class (Neg p a) f j = ⊎_elim (λ e. subst HasClass (sym e) tt) (λ n. absurd n) j
  search_class (Rng p l h) f j = absurd j
  search_class (LenRng p l h) f j = absurd j
  search_class (Low p c) f j = absurd j
  search_class (Same a b) f j = absurd j
  search_class (IsLen p a) f j = absurd j
  search_class (Less p q c) f j = absurd j
  search_class (Sum t y z) f j = absurd j
  search_class (Search p a) f j = absurd j
  search_class (Upper p a o c) f j = absurd j

  pair_class : (f : Fact) → IsIn f (pairs roots listed) → HasClass f
  pair_class f i = let x = from_path (λ a. of_class roots listed (Same a) a) f listed i in subst HasClass (sym (from_class roots listed (Same x.0) x.0 f x.2).2) tt

  alike_class : (f : Fact) → IsIn f (alike facts roots listed) → HasClass f
  alike_class f i =
      ⊎_elim
      (λ j. have f j)
      (λ j. ⊎_elim (λ k. pair_class f k) (λ k. let x = from_each (along roots listed) f facts k in along_class x.0 f x.2) (in_either f (pairs roots listed) (each (along roots listed) facts) j))
      (in_either f facts (pairs roots listed ++ each (along roots listed) facts) i)

  searched_class : (f : Fact) → IsIn f (searched facts roots listed) → HasClass f
  searched_class f i =
      ⊎_elim (λ j. alike_class f j) (λ j. let x = from_each search_of f (alike facts roots listed) j in search_class x.0 f x.2) (in_either f (alike facts roots listed) (each search_of (alike facts roots listed)) i)

  pub have_classes : HaveClasses (saturated facts roots listed ranges)
  have_classes f i =
      ⊎_elim
      (λ j. searched_class f j)
      (λ j.
      ⊎_elim
      (λ k. let x = from_each (negative_of ranges) f (searched facts roots listed) k in negative_class ranges x.0 f x.2)
      (λ k. let x = from_each class_of f ranges k in class_class x.0 f x.2)
      (in_either f (each (negative_of ranges) (searched facts roots listed)) (each class_of ranges) j))
      (in_either f (searched facts roots listed) (each (negative_of ranges) (searched facts roots listed) ++ each class_of ranges) i)
