use Rattle.std.proofs.Common.{rules}
use Rattle.ix_meaning.specs.Limits as spec
use Rattle.ix_names.specs.Shown.{shown}
use Rattle.ix_names.proofs.FirstPassed.{found, on, past_params_class}
use Rattle.ix_names.proofs.counts.all_params_passed.Goals as goal

pub returns-in-Some : goal.returns-in-Some
returns-in-Some c =
    found (λ x. spec.past_params (spec.methods_of x.members)) (λ xs. spec.past_params (spec.all_methods xs)) past_params_class
    c.args.classes.now c.loop-class.class-index c.class-item.result (shown c.in-Some.passed) (search rules) (search rules) (search rules) (search rules)

pub loop-class-preserved : goal.loop-class-preserved
loop-class-preserved c =
    on (λ x. spec.past_params (spec.methods_of x.members)) (λ xs. spec.past_params (spec.all_methods xs)) past_params_class
    c.args.classes.now c.loop-class.class-index c.class-item.result (search rules) (search rules) (search rules) (search rules)
