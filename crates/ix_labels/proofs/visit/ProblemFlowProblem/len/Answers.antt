use Rattle.ix_labels.proofs.visit.ProblemFlowProblem.len.Goals as goal

pub returns-clause-readers_in_range : goal.returns-clause-readers_in_range
returns-clause-readers_in_range c k d within = c.args.self.now.through.in_range k d within
