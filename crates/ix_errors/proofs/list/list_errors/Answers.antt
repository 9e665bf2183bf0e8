use Rattle.std.proofs.Common.{rules, map, List, subst, sym}
use Rattle.std.proofs.lemmas.Result.{IfOk-weaker}
use Rattle.ix_core.specs.declared.error.Error.{Error}
use Rattle.ix_errors.specs.declared.ranked.Ranked.{Ranked}
use Rattle.ix_errors.specs.ErrorList.{In, IsErrorList}
use Rattle.ix_errors.proofs.InOrder.{listed_without_ranks}
use Rattle.ix_errors.proofs.list.list_errors.Goals as goal

pub returns : goal.returns
returns c =
    let is : IsErrorList (In c.args.found.items) (map (λ (f : Ranked). f.error) c.as_slice.result.now) = search (rules, listed_without_ranks) in
    IfOk-weaker c.without_ranks.result _ _ (λ errors h. subst (λ (v : List Error). IsErrorList (In c.args.found.items) v) (sym h) is) c.without_ranks.ensures
