use Rattle.std.specs.Prelude.{is_ok}
use Rattle.ix_fact_paths.proofs.Unmarked.{longer}
use Rattle.ix_fact_paths.proofs.marks.reach.Goals as goal

pub returns-then-place-lt-MANY-clause-same : goal.returns-then-place-lt-MANY-clause-same
returns-then-place-lt-MANY-clause-same c = longer c.args.marks.now.items c.extend_from_slice.new.self.items (is_ok c.extend_from_slice.result) 256 c.extend_from_slice.ensures.items

pub returns-clause-same : goal.returns-clause-same
returns-clause-same c = longer c.args.marks.now.items c.extend_from_slice-2.new.self.items (is_ok c.extend_from_slice-2.result) 2048 c.extend_from_slice-2.ensures.items
