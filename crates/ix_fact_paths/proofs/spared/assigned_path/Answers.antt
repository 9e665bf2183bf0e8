use Rattle.std.proofs.Common.{ap}
use Rattle.ix_facts.specs.After.{of_target}
use Rattle.ix_fact_paths.proofs.OnePath.{not_all, not_none}
use Rattle.ix_fact_paths.proofs.spared.assigned_path.Goals as goal

pub returns-in-Store-clause-none : goal.returns-in-Store-clause-none
returns-in-Store-clause-none c = not_none (of_target c.args.kind.now) (λ p. ap (λ k. of_target k p) c.in-Store.is)

pub returns-in-Print-clause-none : goal.returns-in-Print-clause-none
returns-in-Print-clause-none c = not_none (of_target c.args.kind.now) (λ p. ap (λ k. of_target k p) c.in-Print.is)

pub returns-in-ReadField-clause-none : goal.returns-in-ReadField-clause-none
returns-in-ReadField-clause-none c = not_all (of_target c.args.kind.now) (λ p. ap (λ k. of_target k p) c.in-ReadField.is)

pub returns-in-WriteField-clause-none : goal.returns-in-WriteField-clause-none
returns-in-WriteField-clause-none c = not_all (of_target c.args.kind.now) (λ p. ap (λ k. of_target k p) c.in-WriteField.is)

pub returns-in-NewObject-clause-none : goal.returns-in-NewObject-clause-none
returns-in-NewObject-clause-none c = not_all (of_target c.args.kind.now) (λ p. ap (λ k. of_target k p) c.in-NewObject.is)

pub returns-in-StaticCall-clause-none : goal.returns-in-StaticCall-clause-none
returns-in-StaticCall-clause-none c = not_all (of_target c.args.kind.now) (λ p. ap (λ k. of_target k p) c.in-StaticCall.is)

pub returns-in-InstanceCall-clause-none : goal.returns-in-InstanceCall-clause-none
returns-in-InstanceCall-clause-none c = not_all (of_target c.args.kind.now) (λ p. ap (λ k. of_target k p) c.in-InstanceCall.is)

pub returns-in-SuperCall-clause-none : goal.returns-in-SuperCall-clause-none
returns-in-SuperCall-clause-none c = not_all (of_target c.args.kind.now) (λ p. ap (λ k. of_target k p) c.in-SuperCall.is)
