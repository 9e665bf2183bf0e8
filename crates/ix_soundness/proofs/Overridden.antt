-- The method that runs where a named one is called is that one or overrides it, and stands for it.
use Rattle.std.specs.Prelude.{◌≡◌, ◌⊎◌, ℕ, zero, suc, ◌<◌, Bool, true, false, not, List, length, flat_map, Option, None, Some, unwrap_or, refl}
use Rattle.std.proofs.Common.{sym, ◌∙◌, subst, inl, inr, ⊎_elim, arith}
use Rattle.std.proofs.lemmas.Bool.{and_parts, false≢true}
use Rattle.std.proofs.lemmas.Bool.Decides.{nat_tests}
use Rattle.ix_core.specs.declared.claim.Type_.{Type_}
use Rattle.ix_core.specs.declared.error.Error.{Error}
use Rattle.ix_core.specs.declared.program.Program.{Program}
use Rattle.ix_core.specs.Formed.{is_formed, is_there, overrides_fit}
use Rattle.ix_core.specs.Tables.{method_at, class_at, way_up, most_on_way, overridden, ancestors, is_among, first_where, found_method}
use Rattle.ix_core.proofs.Ancestors.{among_parts}
use Rattle.ix_core.proofs.Cases.{equal}
use Rattle.ix_core.proofs.FormedParts.{method_listed, flat_parts, first_is}
use Rattle.ix_core.proofs.TypedCalls.{method_has}
use Rattle.ix_sign.specs.RuleErrors.{TextErrors, OverridesBy}
use Rattle.ix_soundness.specs.Direct.{direct}
use Rattle.ix_soundness.specs.Known.{Overrides, Itself, Over}
use Rattle.ix_soundness.specs.Stands.{StandsFor}
use Rattle.ix_soundness.proofs.Overriding.{over_stands, itself_stands, stands_stands}

pub overrides_overrides : (program : Program) (first second third : ℕ) → Overrides program first second → Overrides program second third → Overrides program first third
overrides_overrides program first second third (Itself _) rest = rest
overrides_overrides program first second third (Over _ over _ lt is more) rest = Over first over third lt is (overrides_overrides program over second third more rest)

module _ (program : Program) (locals : List (List Type_)) (formed : is_formed program locals ≡ true) where
  abbrev pub NoTexts : Type 0
  NoTexts = (number : ℕ) → number < length program.methods → (error : Error) (rank : ℕ) → TextErrors program (method_at program number) number error rank → ⊥

  pub overrides_stands : NoTexts → (runs named : ℕ) → Overrides program runs named → StandsFor (direct program) (method_at program named) (method_at program runs)
  overrides_stands none runs named (Itself _) = itself_stands (direct program) (method_at program named)
  overrides_stands none runs named (Over _ over _ lt is rest) =
      stands_stands (direct program) (method_at program named) (method_at program over) (method_at program runs) (overrides_stands none over named rest)
      (over_stands program locals formed runs over lt is (λ error rank x. none runs lt error rank (inl (subst (λ o. OverridesBy program (method_at program runs) runs o error rank) (sym is) x))))

  -- an overriding method is no constructor, and the overridden one is there
  over_parts : (number over : ℕ) → number < length program.methods → (method_at program number).overrides ≡ Some over → ((method_at program number).constructor ≡ false) × (over < length program.methods)
  over_parts number over lt is =
      let e = subst (λ o. overrides_fit program (method_at program number) o ≡ true) is (method_has program locals formed number lt).overrides in
      let a = and_parts (is_there program.methods over) _ e in
      let b = and_parts (not (method_at program number).is_static) _ a.1 in
      let c = and_parts (not (method_at program number).constructor) _ b.1 in
      (is_false (method_at program number).constructor c.0, (let t = a.0 in grind (arith, nat_tests)))
    where
      is_false : (t : Bool) → not t ≡ true → t ≡ false
      is_false true e = absurd (false≢true e)
      is_false false e = refl

  pub constructor_itself : (runs named : ℕ) → Overrides program runs named → (method_at program runs).constructor ≡ true → named ≡ runs
  constructor_itself runs named (Itself _) made = refl
  constructor_itself runs named (Over _ over _ lt is rest) made = absurd (false≢true (sym (over_parts runs over lt is).0 ∙ made))

  abbrev over_of : ℕ → Option ℕ
  over_of number = (method_at program number).overrides

  none_up : {A : Type 0} (most number : ℕ) → is_among (way_up over_of most None) number ≡ true → A
  none_up zero number e = absurd (false≢true e)
  none_up (suc most) number e = absurd (false≢true e)

  among_overrides : (most runs named : ℕ) → runs < length program.methods → is_among (way_up over_of most (Some runs)) named ≡ true → Overrides program runs named
  among_overrides zero runs named lt e = absurd (false≢true e)
  among_overrides (suc most) runs named lt e =
      ⊎_elim
      (λ here. subst (Overrides program runs) (equal runs named here) (Itself runs))
      (λ up. over_found most runs named (over_of runs) refl lt (λ over there h. among_overrides most over named there h) up)
      (among_parts runs named (way_up over_of most (over_of runs)) e)
    where
      over_found : (most runs named : ℕ) (found : Option ℕ) → over_of runs ≡ found → runs < length program.methods → ((over : ℕ) → over < length program.methods → is_among (way_up over_of most (Some over)) named ≡ true → Overrides program over named)
          → is_among (way_up over_of most found) named ≡ true → Overrides program runs named
      over_found most runs named None is lt rec e = none_up most named e
      over_found most runs named (Some over) is lt rec e = Over runs over named lt is (rec over (over_parts runs over lt is).1 e)

  -- the method that runs for an object of a class
  pub found_overrides : (class named : ℕ) → Overrides program (found_method program class named) named × ((found_method program class named ≡ named) ⊎ (found_method program class named < length program.methods))
  found_overrides class named = by_found (first_where (λ method. is_among (overridden program method) named) (flat_map (λ above. (class_at program above).methods) (ancestors program class))) refl
    where
      by_found : (found : Option ℕ) → first_where (λ method. is_among (overridden program method) named) (flat_map (λ above. (class_at program above).methods) (ancestors program class)) ≡ found
          → Overrides program (unwrap_or found named) named × ((unwrap_or found named ≡ named) ⊎ (unwrap_or found named < length program.methods))
      by_found None is = (Itself named, inl refl)
      by_found (Some method) is =
          let parts = first_is (λ m. is_among (overridden program m) named) (flat_map (λ above. (class_at program above).methods) (ancestors program class)) method is in
          let place = flat_parts (λ above. (class_at program above).methods) (ancestors program class) method parts.1 in
          let listed = method_listed program locals formed place.0 method place.2 in
          (among_overrides most_on_way method named listed.0 parts.0, inr listed.0)
