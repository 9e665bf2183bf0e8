-- The errors of a write of a field, tried on the least store in which what the object's claims say is known.
use Rattle.std.specs.Prelude.{◌≡◌, ◌⊎◌, ◌↔◌, ℕ, ◌+◌, true, false, ◌==◌, slice_get, unwrap_or, Option, Some, None, List, [], ◌++◌, refl}
use Rattle.std.proofs.Common.{arith, ap, sym, ◌∙◌, subst}
use Rattle.ix_text.specs.declared.span.Span.{Span}
use Rattle.ix_core.specs.declared.claim.Claim.{Claim}
use Rattle.ix_core.specs.declared.error.Error.{Error}
use Rattle.ix_core.specs.declared.error.Subject.TheVariants.{FieldNamed}
use Rattle.ix_core.specs.declared.fact.Fact.{Fact}
use Rattle.ix_core.specs.declared.fact.Path.{Path}
use Rattle.ix_core.specs.declared.fact.Path.TheVariants.{Slot, FieldOf}
use Rattle.ix_core.specs.declared.fact.PathClaim.{PathClaim}
use Rattle.ix_core.specs.declared.program.Field.{Field}
use Rattle.ix_core.specs.declared.program.Method.{Method}
use Rattle.ix_core.specs.declared.program.Program.{Program}
use Rattle.ix_core.specs.Tables.{field_at, no_field}
use Rattle.ix_facts.specs.Stores.{Stored, IsAdded, with_facts}
use Rattle.ix_rules_hold.specs.MachineSteps.{on_paths}
use Rattle.ix_errors.specs.Exactly.{AreExactly}
use Rattle.ix_signatures.specs.Names.{written_path, is_built, names_field}
use Rattle.ix_errors.specs.Refusals.{refusals, not_proved, dependent_refusals}
use Rattle.ix_signatures.specs.Signs.{Adds, write_facts}
use Rattle.ix_signatures.specs.SignErrors.{Refuses, AllRefuse, Unproved, FieldClaim, FieldDependent}
use Rattle.ix_signatures.proofs.LeastSteps.{least_given, all_refuse, refuse_least}
use Rattle.ix_errors.proofs.Refused.{fails_refused, exactly_same, exactly_both, refusals_exact, dependents_exact, SomeDependent}

-- another claim's failure in place of one's own
pub other_failure : (First Second : Claim → Type 0) (claims : List Claim) (rule : ℕ) (span : Span) (subject : _) (error : Error) (rank : ℕ) → ((claim : Claim) → First claim → Second claim)
    → Unproved First claims rule span subject error rank → Unproved Second claims rule span subject error rank
other_failure First Second claims rule span subject error rank more u = record { claim = u.claim; claimed = u.claimed; refused = more u.claim u.refused; is = u.is }

-- a store to which facts are added refuses what all refuse that have them
pub added_refuses : (new : List Fact) (s known : Stored) → IsAdded new s known → (claim : PathClaim) (p : Path) → Refuses known claim p ↔ AllRefuse (Adds new s) claim p
added_refuses new s known added claim p =
    let least = least_given (with_facts new) s known added in
    (all_refuse (Adds new s) known claim p least.least, refuse_least (Adds new s) known claim p least.above)

module _ (program : Program) (method : Method) (object field value : ℕ) (place : Span) (s known : Stored) (built : is_built method object ≡ true) (added : IsAdded (write_facts program object field) s known) where
  pub owns_are : AreExactly (FieldClaim program method object field value place s) (refusals (not_proved known (written_path object field value) (Slot value)) 7 place (FieldNamed field) 0 (field_at program field).claims)
  owns_are =
      exactly_same (Unproved (λ claim. Refuses known (on_paths (written_path object field value) claim) (Slot value)) (field_at program field).claims 7 place (FieldNamed field)) (FieldClaim program method object field value place s) _
      (λ error rank. (
        λ u. record { built = built; of = other_failure _ _ (field_at program field).claims 7 place (FieldNamed field) error rank (λ claim. (added_refuses (write_facts program object field) s known added (on_paths (written_path object field value) claim) (Slot value)).0) u },
        λ r. other_failure _ _ (field_at program field).claims 7 place (FieldNamed field) error rank (λ claim. (added_refuses (write_facts program object field) s known added (on_paths (written_path object field value) claim) (Slot value)).1) r.of,
      ))
      (refusals_exact (λ claim. Refuses known (on_paths (written_path object field value) claim) (Slot value)) (not_proved known (written_path object field value) (Slot value)) (λ claim. fails_refused (on_paths (written_path object field value) claim) (Slot value) known)
      7 place (FieldNamed field) (field_at program field).claims)

  abbrev Fails : ℕ → Claim → Type 0
  Fails number claim = (names_field field claim ≡ true) × AllRefuse (Adds (write_facts program object field) s) (on_paths (written_path object field value) claim) (FieldOf object number)

  abbrev FailsThere : ℕ → Claim → Type 0
  FailsThere number claim = (names_field field claim ≡ true) × Refuses known (on_paths (written_path object field value) claim) (FieldOf object number)

  there : (number : ℕ) (claim : Claim) → FailsThere number claim ↔ Fails number claim
  there number claim =
      let both = added_refuses (write_facts program object field) s known added (on_paths (written_path object field value) claim) (FieldOf object number) in
      (λ d. (d.0, both.0 d.1), λ d. (d.0, both.1 d.1))

  to_dependent : (error : Error) (rank : ℕ) → SomeDependent known object field value place 0 program.fields error rank → FieldDependent program method object field value place s error rank
  to_dependent error rank d =
      let e : 0 + d.0 ≡ d.0 = omega arith in
      let is : d.1 ≡ field_at program d.0 = sym (ap (λ o. unwrap_or o no_field) d.2) in
      let moved : Unproved (FailsThere d.0) d.1.claims 8 place (FieldNamed d.0) error rank = subst (λ n. Unproved (FailsThere n) d.1.claims 8 place (FieldNamed n) error rank) e d.4 in
      record {
        built = built;
        other = d.0;
        apart = subst (λ n. (n == field) ≡ false) e d.3;
        of = other_failure (FailsThere d.0) (Fails d.0) (field_at program d.0).claims 8 place (FieldNamed d.0) error rank (λ claim. (there d.0 claim).0)
            (subst (λ (f : Field). Unproved (FailsThere d.0) f.claims 8 place (FieldNamed d.0) error rank) is moved);
      }

  from_by : (number : ℕ) (error : Error) (rank : ℕ) (found : Option Field) → slice_get program.fields number ≡ found → (number == field) ≡ false
      → Unproved (Fails number) (unwrap_or found no_field).claims 8 place (FieldNamed number) error rank → SomeDependent known object field value place 0 program.fields error rank
  from_by number error rank None missing apart u = let none : None ≡ Some u.claim = u.claimed in absurd cc
  from_by number error rank (Some other) there_is apart u =
      let e : number ≡ 0 + number = omega arith in
      let moved : Unproved (FailsThere number) other.claims 8 place (FieldNamed number) error rank = other_failure (Fails number) (FailsThere number) other.claims 8 place (FieldNamed number) error rank (λ claim. (there number claim).1) u in
      (number, other, there_is, subst (λ n. (n == field) ≡ false) e apart, subst (λ n. Unproved (FailsThere n) other.claims 8 place (FieldNamed n) error rank) e moved)

  pub dependents_are : AreExactly (FieldDependent program method object field value place s) (dependent_refusals known object field value place 0 program.fields)
  dependents_are =
      exactly_same (SomeDependent known object field value place 0 program.fields) (FieldDependent program method object field value place s) (dependent_refusals known object field value place 0 program.fields)
      (λ error rank. (to_dependent error rank, λ r. from_by r.other error rank (slice_get program.fields r.other) refl r.apart r.of))
      (dependents_exact known object field value place 0 program.fields)

  pub writes_are : AreExactly (λ error rank. FieldClaim program method object field value place s error rank ⊎ FieldDependent program method object field value place s error rank)
      (refusals (not_proved known (written_path object field value) (Slot value)) 7 place (FieldNamed field) 0 (field_at program field).claims ++ dependent_refusals known object field value place 0 program.fields)
  writes_are =
      exactly_both (FieldClaim program method object field value place s) (FieldDependent program method object field value place s) (λ error rank. FieldClaim program method object field value place s error rank ⊎ FieldDependent program method object field value place s error rank)
      (refusals (not_proved known (written_path object field value) (Slot value)) 7 place (FieldNamed field) 0 (field_at program field).claims) (dependent_refusals known object field value place 0 program.fields)
      (λ error rank d. d) (λ error rank d. Rattle.std.proofs.Common.inl d) (λ error rank d. Rattle.std.proofs.Common.inr d) owns_are dependents_are

pub no_writes : (program : Program) (method : Method) (object field value : ℕ) (place : Span) (s : Stored) → is_built method object ≡ false
    → AreExactly (λ error rank. FieldClaim program method object field value place s error rank ⊎ FieldDependent program method object field value place s error rank) []
no_writes program method object field value place s apart = record {
  all = λ error rank d. absurd (Rattle.std.proofs.lemmas.Bool.false≢true (sym apart ∙ Rattle.std.proofs.Common.⊎_elim (λ x. x.built) (λ x. x.built) d));
  only = λ found i. absurd i;
}
