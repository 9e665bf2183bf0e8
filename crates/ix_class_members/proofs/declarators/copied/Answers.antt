use Rattle.std.proofs.lemmas.Result.{MatchResult-weaker}
use Rattle.std.proofs.lemmas.List.Elements.{same_from_all_zip}
use Rattle.ix_class_members.proofs.declarators.copied.Goals as goal

pub returns : goal.returns
returns c = MatchResult-weaker c.clone.result c.clone.ensures.cases (λ list same. same_from_all_zip _ _ list same (λ x y is. is)) (λ error failed. tt)
