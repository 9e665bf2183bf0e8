-- What is found of a source's names, and that nothing else is.
use Rattle.std.proofs.Common.{◌≡◌, inl, inr, ℕ, List, [], Option, Some, None, Result, Ok, Err, refl, sym, ap, subst, ◌∙◌}
use Rattle.ix_tree.specs.declared.decl.Unit.{Unit as Source}
use Rattle.ix_tree.specs.Placed.{Placed}
use Rattle.ix_meaning.specs.declared.note.NameError.{NameError}
use Rattle.ix_meaning.specs.declared.note.NameErrors.TheVariants as refusal
use Rattle.ix_meaning.specs.declared.note.Which.{Which}
use Rattle.ix_meaning.specs.Limits.{Passed, limit, inheritance_limit}
use Rattle.ix_meaning.specs.Resolved.{name_errors, Accepts, IsRefused, IsPassed, Refuses, names}
use Rattle.ix_core.specs.declared.program.Program.{Program}
use Rattle.ix_source.specs.LowerError.{LowerError}
use Rattle.ix_source.specs.LowerError.TheVariants as lowering
use Rattle.ix_plain.specs.Program.{program}
use Rattle.ix_formed.proofs.PlacedPrograms.{placed_limit}
use Rattle.ix_report.specs.Names.{limit_name}
use Rattle.ix_formed.proofs.RefusalsStand.{refusal_within}
use Rattle.ix_report.proofs.OneList.{one_list, none_listed}
use Rattle.ix_front.specs.Findings.{IsPlaced, HasFormed}
use Rattle.ix_meaning.specs.declared.note.NameErrors.{NameErrors}
use Rattle.ix_front.specs.Found.{Finding, Past, Misnamed, Whole, FoundIn, passes_limit, misnames, inherits, too_big, named, of_limit, of_name_errors, of_lower_error}

not_none : (o : Option Passed) (p : Passed) → o ≡ None → o ≡ Some p → ⊥
not_none o p none some = cc

same_passed : (o : Option Passed) (p q : Passed) → o ≡ Some p → o ≡ Some q → p ≡ q
same_passed o p q a b = cc

-- a list that is refused is not the list of a source without errors
no_list : (source : Source) (errors : List NameError) → IsRefused source errors → name_errors source ≡ [] → ⊥
no_list source errors refused none = refused.some (none_listed (name_errors source) errors refused.listed none)

some_is : (a b : Finding) → Some a ≡ Some b → a ≡ b
some_is a b h = cc

-- ---- names that are resolved

not_both : (o : Result Program Passed) (made : Program) (p : Passed) → o ≡ Ok made → o ≡ Err p → ⊥
not_both o made p good bad = cc

same_limit : (o : Result Program Passed) (p q : Passed) → o ≡ Err p → o ≡ Err q → p ≡ q
same_limit o p q a b = cc

same_program : (o : Result Program Passed) (one other : Program) → o ≡ Ok one → o ≡ Ok other → one ≡ other
same_program o one other is also = let e : Ok one ≡ Ok other = sym is ∙ also in cc

pub accepted_only : (source : Source) (made : Program) (other : Finding) → Accepts source → program (names source) source.classes ≡ Ok made → FoundIn source other → Whole made ≡ other
accepted_only source made _ accepts good (passes_limit p is) = absurd (not_none (limit source.classes) p accepts.within is)
accepted_only source made _ accepts good (misnames errors refused) = absurd (no_list source errors refused accepts.no_errors)
accepted_only source made _ accepts good (inherits p none no_errors is) = absurd (not_none (inheritance_limit source.classes) p accepts.few_inherited is)
accepted_only source made _ accepts good (too_big p also is) = absurd (not_both (program (names source) source.classes) made p good is)
accepted_only source made _ accepts good (named other also is) = ap (λ p. Whole p) (same_program (program (names source) source.classes) made other good is)

-- a limit of a method
pub big_only : (source : Source) (q : Passed) (other : Finding) → Accepts source → program (names source) source.classes ≡ Err q → FoundIn source other → of_limit q ≡ other
big_only source q _ accepts bad (passes_limit p is) = absurd (not_none (limit source.classes) p accepts.within is)
big_only source q _ accepts bad (misnames errors refused) = absurd (no_list source errors refused accepts.no_errors)
big_only source q _ accepts bad (inherits p none no_errors is) = absurd (not_none (inheritance_limit source.classes) p accepts.few_inherited is)
big_only source q _ accepts bad (too_big p also is) = ap of_limit (same_limit (program (names source) source.classes) q p bad is)
big_only source q _ accepts bad (named made also is) = absurd (not_both (program (names source) source.classes) made q is bad)

pub unlowered_found : (source : Source) (why : LowerError) (finding : Finding) → Accepts source
    → ((which : Which) (place : ℕ) → why ≡ lowering.Limit which place → program (names source) source.classes ≡ Err (record { which = which; place = place }))
    → Some finding ≡ of_lower_error why → FoundIn source finding
unlowered_found source (lowering.Limit which place) finding accepts bad is =
    subst (λ f. FoundIn source f) (sym (some_is finding (Past place (limit_name which)) is)) (too_big (record { which = which; place = place }) accepts (bad which place refl))
unlowered_found source lowering.Memory finding accepts bad is = cc

pub unlowered_only : (source : Source) (why : LowerError) (finding other : Finding) → Accepts source
    → ((which : Which) (place : ℕ) → why ≡ lowering.Limit which place → program (names source) source.classes ≡ Err (record { which = which; place = place }))
    → Some finding ≡ of_lower_error why → FoundIn source other → finding ≡ other
unlowered_only source (lowering.Limit which place) finding other accepts bad is found =
    some_is finding (Past place (limit_name which)) is ∙ big_only source (record { which = which; place = place }) other accepts (bad which place refl) found
unlowered_only source lowering.Memory finding other accepts bad is found = cc

pub unlowered_placed : (end : ℕ) (source : Source) (why : LowerError) (finding : Finding) → Placed end source
    → ((which : Which) (place : ℕ) → why ≡ lowering.Limit which place → program (names source) source.classes ≡ Err (record { which = which; place = place }))
    → Some finding ≡ of_lower_error why → IsPlaced end finding
unlowered_placed end source (lowering.Limit which place) finding placed bad is =
    subst (IsPlaced end) (sym (some_is finding (Past place (limit_name which)) is)) (placed_limit end source placed (names source) (record { which = which; place = place }) (bad which place refl))
unlowered_placed end source lowering.Memory finding placed bad is = cc

pub unlowered_formed : (why : LowerError) (finding : Finding) → Some finding ≡ of_lower_error why → HasFormed finding
unlowered_formed (lowering.Limit which place) finding is = subst HasFormed (sym (some_is finding (Past place (limit_name which)) is)) tt
unlowered_formed lowering.Memory finding is = cc

-- ---- errors

pub errors_only : (source : Source) (errors : List NameError) (other : Finding) → IsRefused source errors → FoundIn source other → Misnamed errors ≡ other
errors_only source errors _ refused (passes_limit p is) = absurd (not_none (limit source.classes) p refused.within is)
errors_only source errors _ refused (misnames others also) = ap Misnamed (one_list (name_errors source) errors others refused.listed also.listed)
errors_only source errors _ refused (inherits p none no_errors is) = absurd (no_list source errors refused no_errors)
errors_only source errors _ refused (too_big p accepts is) = absurd (no_list source errors refused accepts.no_errors)
errors_only source errors _ refused (named made accepts is) = absurd (no_list source errors refused accepts.no_errors)

-- ---- limits

-- a limit of the source
pub passed_only : (source : Source) (q : Passed) (other : Finding) → limit source.classes ≡ Some q → FoundIn source other → of_limit q ≡ other
passed_only source q _ over (passes_limit p is) = ap of_limit (same_passed (limit source.classes) q p over is)
passed_only source q _ over (misnames errors refused) = absurd (not_none (limit source.classes) q refused.within over)
passed_only source q _ over (inherits p none no_errors is) = absurd (not_none (limit source.classes) q none over)
passed_only source q _ over (too_big p accepts is) = absurd (not_none (limit source.classes) q accepts.within over)
passed_only source q _ over (named made accepts is) = absurd (not_none (limit source.classes) q accepts.within over)

-- the limit of inheritance
pub inherited_only : (source : Source) (q : Passed) (other : Finding) → limit source.classes ≡ None → name_errors source ≡ [] → inheritance_limit source.classes ≡ Some q → FoundIn source other
    → of_limit q ≡ other
inherited_only source q _ within clean over (passes_limit p is) = absurd (not_none (limit source.classes) p within is)
inherited_only source q _ within clean over (misnames errors refused) = absurd (no_list source errors refused clean)
inherited_only source q _ within clean over (inherits p none no_errors is) = ap of_limit (same_passed (inheritance_limit source.classes) q p over is)
inherited_only source q _ within clean over (too_big p accepts is) = absurd (not_none (inheritance_limit source.classes) q accepts.few_inherited over)
inherited_only source q _ within clean over (named made accepts is) = absurd (not_none (inheritance_limit source.classes) q accepts.few_inherited over)

record Passes (o : Option Passed) (which : Which) (place : ℕ) : Type 0 where
  pub p : Passed
  pub is : o ≡ Some p
  pub which_is : p.which ≡ which
  pub place_is : p.place ≡ place

passes : (o : Option Passed) (which : Which) (place : ℕ) → IsPassed o (refusal.Limit which place) → Passes o which place
passes None which place h = absurd h
passes (Some p) which place h = record { p = p; is = refl; which_is = cc; place_is = cc }

shown : (o : Option Passed) (which : Which) (place : ℕ) (h : Passes o which place) → of_limit h.p ≡ Past place (limit_name which)
shown o which place h = ap (λ n. Past n (limit_name h.p.which)) h.place_is ∙ ap (λ w. Past place (limit_name w)) h.which_is

pub limit_found : (source : Source) (which : Which) (place : ℕ) → Refuses source (refusal.Limit which place) → FoundIn source (Past place (limit_name which))
limit_found source which place (inl h) =
    let q = passes (limit source.classes) which place h in
    subst (λ f. FoundIn source f) (shown (limit source.classes) which place q) (passes_limit q.p q.is)
limit_found source which place (inr (none, no_errors, h)) =
    let q = passes (inheritance_limit source.classes) which place h in
    subst (λ f. FoundIn source f) (shown (inheritance_limit source.classes) which place q) (inherits q.p none no_errors q.is)

pub limit_only : (source : Source) (which : Which) (place : ℕ) (other : Finding) → Refuses source (refusal.Limit which place) → FoundIn source other
    → Past place (limit_name which) ≡ other
limit_only source which place _ (inl h) (passes_limit p is) =
    let q = passes (limit source.classes) which place h in
    sym (shown (limit source.classes) which place q) ∙ ap of_limit (same_passed (limit source.classes) q.p p q.is is)
limit_only source which place _ (inl h) (misnames errors refused) =
    let q = passes (limit source.classes) which place h in absurd (not_none (limit source.classes) q.p refused.within q.is)
limit_only source which place _ (inl h) (inherits p none no_errors is) =
    let q = passes (limit source.classes) which place h in absurd (not_none (limit source.classes) q.p none q.is)
limit_only source which place _ (inl h) (too_big p accepts is) =
    let q = passes (limit source.classes) which place h in absurd (not_none (limit source.classes) q.p accepts.within q.is)
limit_only source which place _ (inl h) (named made accepts is) =
    let q = passes (limit source.classes) which place h in absurd (not_none (limit source.classes) q.p accepts.within q.is)
limit_only source which place _ (inr (none, no_errors, h)) (passes_limit p is) = absurd (not_none (limit source.classes) p none is)
limit_only source which place _ (inr (none, no_errors, h)) (misnames errors refused) = absurd (no_list source errors refused no_errors)
limit_only source which place _ (inr (none, no_errors, h)) (inherits p also none_too is) =
    let q = passes (inheritance_limit source.classes) which place h in
    sym (shown (inheritance_limit source.classes) which place q) ∙ ap of_limit (same_passed (inheritance_limit source.classes) q.p p q.is is)
limit_only source which place _ (inr (none, no_errors, h)) (too_big p accepts is) =
    let q = passes (inheritance_limit source.classes) which place h in absurd (not_none (inheritance_limit source.classes) q.p accepts.few_inherited q.is)
limit_only source which place _ (inr (none, no_errors, h)) (named made accepts is) =
    let q = passes (inheritance_limit source.classes) which place h in absurd (not_none (inheritance_limit source.classes) q.p accepts.few_inherited q.is)

-- ---- names that are not resolved

pub refused_found : (source : Source) (why : NameErrors) (finding : Finding) → Refuses source why → Some finding ≡ of_name_errors why → FoundIn source finding
refused_found source (refusal.Errors errors) finding refused is = subst (λ f. FoundIn source f) (sym (some_is finding (Misnamed errors) is)) (misnames errors refused)
refused_found source (refusal.Limit which place) finding refused is =
    subst (λ f. FoundIn source f) (sym (some_is finding (Past place (limit_name which)) is)) (limit_found source which place refused)
refused_found source refusal.Memory finding refused is = cc

pub refused_only : (source : Source) (why : NameErrors) (finding other : Finding) → Refuses source why → Some finding ≡ of_name_errors why → FoundIn source other → finding ≡ other
refused_only source (refusal.Errors errors) finding other refused is found = some_is finding (Misnamed errors) is ∙ errors_only source errors other refused found
refused_only source (refusal.Limit which place) finding other refused is found =
    some_is finding (Past place (limit_name which)) is ∙ limit_only source which place other refused found
refused_only source refusal.Memory finding other refused is found = cc

pub refused_placed : (end : ℕ) (source : Source) (why : NameErrors) (finding : Finding) → Placed end source → Refuses source why → Some finding ≡ of_name_errors why → IsPlaced end finding
refused_placed end source (refusal.Errors errors) finding placed refused is =
    subst (IsPlaced end) (sym (some_is finding (Misnamed errors) is)) (refusal_within end source (refusal.Errors errors) placed refused)
refused_placed end source (refusal.Limit which place) finding placed refused is =
    subst (IsPlaced end) (sym (some_is finding (Past place (limit_name which)) is)) (refusal_within end source (refusal.Limit which place) placed refused)
refused_placed end source refusal.Memory finding placed refused is = cc

pub refused_formed : (why : NameErrors) (finding : Finding) → Some finding ≡ of_name_errors why → HasFormed finding
refused_formed (refusal.Errors errors) finding is = subst HasFormed (sym (some_is finding (Misnamed errors) is)) tt
refused_formed (refusal.Limit which place) finding is = subst HasFormed (sym (some_is finding (Past place (limit_name which)) is)) tt
refused_formed refusal.Memory finding is = cc
