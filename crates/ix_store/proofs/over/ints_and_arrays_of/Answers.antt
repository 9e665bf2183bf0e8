use Rattle.std.specs.Prelude.{[]}
use Rattle.std.proofs.Common.{sym, subst, ap, ◌∙◌}
use Rattle.std.proofs.lemmas.Result.{IfOk-weaker}
use Rattle.ix_facts.specs.Exact.{named_ints, named_arrays}
use Rattle.ix_facts.specs.Named.{IsAmongPaths}
use Rattle.ix_fact_paths.specs.ByPath.{put_all}
use Rattle.ix_fact_paths.specs.PutLaws.{IsRising}
use Rattle.ix_fact_table.specs.FactTables.{facts_of}
use Rattle.ix_store.proofs.OverInts.{differences_name_none}
use Rattle.ix_store.proofs.over.ints_and_arrays_of.Goals as goal

pub ints_and_arrays_among-requires-clause-rising : goal.ints_and_arrays_among-requires-clause-rising
ints_and_arrays_among-requires-clause-rising c = subst IsRising (sym c.deref.ensures.value) c.over.invariant.rising

pub ints_and_arrays_among-requires-clause-among : goal.ints_and_arrays_among-requires-clause-among
ints_and_arrays_among-requires-clause-among c p i =
    subst (IsAmongPaths p) (sym c.deref.ensures.value) (c.over.invariant.among c.if-not-over.false p (subst (λ l. IsAmongPaths p (named_ints l)) (sym c.around_differences.ensures.whole) i))

pub ints_and_arrays_among-requires-clause-between : goal.ints_and_arrays_among-requires-clause-between
ints_and_arrays_among-requires-clause-between c = differences_name_none c.around_differences.result.1.now c.around_differences.ensures.differences

pub returns-clause-ints : goal.returns-clause-ints
returns-clause-ints c =
    let whole = ap (λ l. put_all [] (named_ints l)) (sym c.around_differences.ensures.whole) ∙ ap (λ t. put_all [] (named_ints (facts_of t))) c.over.view_is in
    IfOk-weaker c.ints_and_arrays_among.result _ _ (λ paths is. is ∙ whole) c.ints_and_arrays_among.ensures.ints

pub returns-clause-arrays : goal.returns-clause-arrays
returns-clause-arrays c =
    let whole = ap (λ l. put_all [] (named_arrays l)) (sym c.around_differences.ensures.whole) ∙ ap (λ t. put_all [] (named_arrays (facts_of t))) c.over.view_is in
    IfOk-weaker c.ints_and_arrays_among.result _ _ (λ paths is. is ∙ whole) c.ints_and_arrays_among.ensures.arrays
