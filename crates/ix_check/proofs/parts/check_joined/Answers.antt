use Rattle.ix_check.proofs.TwoParts.{all_parts}
use Rattle.ix_check.proofs.parts.check_joined.Goals as goal

pub returns-clause-all : goal.returns-clause-all
returns-clause-all c = λ error rank. all_parts c.args.first c.args.program.now c.args.profile error rank

pub returns-in_err-own-clause-all : goal.returns-in_err-own-clause-all
returns-in_err-own-clause-all c = λ error rank. all_parts c.args.first c.args.program.now c.args.profile error rank

pub returns-in_err-others-clause-all : goal.returns-in_err-others-clause-all
returns-in_err-others-clause-all c = λ error rank. all_parts c.args.first c.args.program.now c.args.profile error rank
