use Rattle.std.proofs.Common.{ap, sym, subst, ◌∙◌}
use Rattle.std.proofs.lemmas.Result.{IfOk-weaker}
use Rattle.ix_facts.specs.Exact.{named_ints}
use Rattle.ix_fact_paths.specs.ByPath.{put_all}
use Rattle.ix_fact_paths.specs.PutLaws.{IsRising}
use Rattle.ix_store.proofs.OverInts.{known_rising, grown_rising}
use Rattle.ix_store.proofs.known.Known.ints_with.Goals as goal

pub with_ints-requires : goal.with_ints-requires
with_ints-requires c = record { rising = subst IsRising (sym c.deref.ensures.value) (known_rising c.args.self.now) }

pub returns-clause-rising : goal.returns-clause-rising
returns-clause-rising c =
    let new = named_ints c.args.new.now in
    IfOk-weaker c.with_ints.result _ _ (λ ints is. subst IsRising (sym (is ∙ ap (λ l. put_all l new) c.deref.ensures.value)) (grown_rising c.args.self.now c.args.new.now)) c.with_ints.ensures

pub returns-clause-told : goal.returns-clause-told
returns-clause-told c = IfOk-weaker c.with_ints.result _ _ (λ ints is told. is ∙ ap (λ l. put_all l (named_ints c.args.new.now)) c.deref.ensures.value) c.with_ints.ensures
