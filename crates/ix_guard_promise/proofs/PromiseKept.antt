-- All bytes have what is promised of their guarded text.
use Rattle.std.proofs.Common.{ℕ, List, [], ◌∷◌, inl, inr, refl, sym, subst}
use Rattle.ix_core.specs.declared.error.Error.{Error}
use Rattle.ix_core.specs.declared.fact.Profile.{Profile}
use Rattle.ix_core.specs.declared.program.Program.{Program}
use Rattle.ix_meaning.specs.Resolved.{names}
use Rattle.ix_formed.specs.Additions.{AllOf}
use Rattle.ix_meaning.proofs.FewDeclarations.{few_members}
use Rattle.ix_guard_promise.specs.Guards.{Guards}
use Rattle.ix_guard_promise.proofs.NoBoundErrors.{all_guards_avoid}
use Rattle.ix_core.specs.Tables.{method_at, body_of}
use Rattle.ix_guard.specs.Accesses.{Access}
use Rattle.ix_guard.specs.GuardedAccesses.{guarded_accesses}
use Rattle.ix_guard.specs.Guards.{insertions}
use Rattle.ix_guard_text.specs.Inserted.{added}
use Rattle.ix_guard_text.proofs.MovingApart.{moving_is_injective}
use Rattle.ix_guard_promise.specs.SourceGuards.{IsAmong}
use Rattle.ix_guard_promise.proofs.GuardedPrograms.{program_guards}
use Rattle.ix_guard_promise.proofs.GuardedSources.{parsed_guards}
use Rattle.ix_guard_promise.proofs.GuardedRuns.{guarded_runs_follow}
use Rattle.ix_guard_text.specs.Guarding.{IsGuarded}
use Rattle.ix_guard_promise.specs.Promise.{HaveProgram, GuardsWell, AvoidsAt, into_guarded}
use Rattle.ix_guard_promise.proofs.GuardedTrees.{TreesParsed, site, old_parsed, new_parsed, says, meant}

all_of_each : {A : Type 0} (P : A → Type 0) (xs : List A) → ((x : A) → IsAmong x xs → P x) → AllOf P xs
all_of_each P [] each = tt
all_of_each P (x ∷ xs) each = (each x (inl refl), all_of_each P xs (λ y among. each y (inr among)))

-- What is parsed has what a parsed tree has: `tree_parsed` of `ix_front`.
module _ (parsing : TreesParsed) (profile : Profile) (bytes : List ℕ) where
  avoided : (errors : List Error) (text : List ℕ) (is : IsGuarded bytes errors text) (program : Program) → HaveProgram text program → (access : Access)
      → IsAmong access (guarded_accesses is.named.tree.source (names is.named.tree.source) errors) → AvoidsAt profile is.named.tree.source errors program access
  avoided errors text is program whole access among error rank bounds there derived =
      let old = is.named.tree.source in
      let parsed = new_parsed parsing bytes errors text is whole.unit whole.tree_of in
      let apart = moving_is_injective (added (insertions (site parsing bytes errors text is) old)) in
      let behind = parsed_guards is.named.tokens old (names old) errors access is.named.tree.parsed (old_parsed parsing bytes errors text is).can among in
      let guards = program_guards old whole.unit errors (into_guarded old errors) access.index.span program parsed whole.accepts (few_members whole.unit parsed.can) whole.made
      (meant parsing bytes errors text is whole.unit whole.tree_of) (says parsing bytes errors text is whole.unit whole.tree_of) apart.same behind in
      all_guards_avoid program profile error rank bounds (λ number below. subst (λ place. Guards place (body_of (method_at program number))) (sym there) (guards number)) derived

  -- The promise.
  pub guards_well : GuardsWell profile bytes
  guards_well = record {
    avoids = λ errors text is program whole.
        let old = is.named.tree.source in
        all_of_each (AvoidsAt profile old errors program) (guarded_accesses old (names old) errors) (avoided errors text is program whole);
    follows = λ errors text is new has.
        guarded_runs_follow (into_guarded is.named.tree.source errors) (site parsing bytes errors text is) is.named.tree.source new (says parsing bytes errors text is new has) (meant parsing bytes errors text is new has);
  }
