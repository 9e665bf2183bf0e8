use Rattle.std.proofs.Common.{rules, List, subst, sym}
use Rattle.std.proofs.lemmas.Result.{IfOk-weaker}
use Rattle.ix_meaning.specs.declared.note.NameError.{NameError}
use Rattle.ix_meaning.specs.Listed as spec
use Rattle.ix_symbols.proofs.SortedErrors.{none_listed}
use Rattle.ix_symbols.proofs.listing.errors_of.Goals as goal

pub returns-clause-none : goal.returns-clause-none
returns-clause-none c =
    let is : spec.IsListed (spec.derived c.args.notes.now) c.as_slice.result.now = search rules in
    IfOk-weaker c.listed.result _ _ (λ list h. none_listed _ list (subst (λ (l : List NameError). spec.IsListed (spec.derived c.args.notes.now) l) (sym h) is)) c.listed.ensures
