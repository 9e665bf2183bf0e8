use Rattle.std.proofs.Common.{◌≡◌, ℕ, List, map, sym, subst, ◌∙◌}
use Rattle.std.proofs.lemmas.Result.{IfOk-weaker}
use Rattle.ix_symbols.specs.Numbered.{shown}
use Rattle.ix_guard.specs.declared.insertion.Insertion.{Insertion}
use Rattle.ix_guard.specs.Guards.{source_insertions, texts, with_texts}
use Rattle.ix_guard.specs.Kept.{IsSourceWith}
use Rattle.ix_guard.proofs.KeptSources.{source_kept}
use Rattle.ix_guard.proofs.guards.guard.Goals as goal

pub returns-clause-kept : goal.returns-clause-kept
returns-clause-kept c =
    let source = c.args.source.now in
    let list : List Insertion = c.deref.result.now in
    let is : list ≡ source_insertions c.args.unit.now (shown c.args.table.now) c.args.errors.now = c.deref.ensures.value ∙ c.in_ok-insertions.ensures in
    let kept : IsSourceWith source (texts c.args.unit.now (shown c.args.table.now) c.args.errors.now) (with_texts 0 source list) =
    subst (λ (l : List Insertion). IsSourceWith source (map (λ (i : Insertion). i.text) l) (with_texts 0 source list)) is (source_kept 0 source list) in
    IfOk-weaker c.with_texts.result _ _ (λ out made. subst (λ (bytes : List ℕ). IsSourceWith source (texts c.args.unit.now (shown c.args.table.now) c.args.errors.now) bytes) (sym made) kept) c.with_texts.ensures
