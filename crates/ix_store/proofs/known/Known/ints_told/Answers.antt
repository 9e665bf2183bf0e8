use Rattle.std.proofs.Common.{sym, subst, ◌∙◌}
use Rattle.std.proofs.lemmas.Result.{IfOk-weaker}
use Rattle.ix_fact_paths.specs.PutLaws.{IsRising}
use Rattle.ix_store.proofs.OverInts.{known_rising}
use Rattle.ix_store.proofs.known.Known.ints_told.Goals as goal

pub returns-clause-rising : goal.returns-clause-rising
returns-clause-rising c = IfOk-weaker c.from_slice.result _ _ (λ ints is. subst IsRising (sym (is ∙ c.deref.ensures.value)) (known_rising c.args.self.now)) c.from_slice.ensures.items
