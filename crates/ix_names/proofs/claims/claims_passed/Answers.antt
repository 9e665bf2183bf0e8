use Rattle.std.proofs.Common.{rules}
use Rattle.ix_meaning.specs.Declarators.{members}
use Rattle.ix_meaning.specs.Limits as spec
use Rattle.ix_names.specs.Shown.{shown}
use Rattle.ix_names.proofs.FirstPassed.{found, on, past_class}
use Rattle.ix_names.proofs.claims.claims_passed.Goals as goal

pub returns-in-Some : goal.returns-in-Some
returns-in-Some c =
    found (λ x. spec.past_claims (spec.member_annots (members x.members))) (λ xs. spec.past_claims (spec.all_annots xs)) past_class
    c.args.classes.now c.loop-class.class-index c.class-item.result (shown c.in-Some.passed) (search rules) (search rules) (search rules) (search rules)

pub loop-class-preserved : goal.loop-class-preserved
loop-class-preserved c =
    on (λ x. spec.past_claims (spec.member_annots (members x.members))) (λ xs. spec.past_claims (spec.all_annots xs)) past_class
    c.args.classes.now c.loop-class.class-index c.class-item.result (search rules) (search rules) (search rules) (search rules)
