use Rattle.std.proofs.Common.{◌≡◌, length}
use Rattle.ix_grammar.specs.Patterns.{one_of as is_one_of}
use Rattle.ix_grammar_rules.specs.Rule.{look}
use Rattle.ix_parse_base.proofs.operators.one_of.Given as goal

abbrev pub invariant-looking : goal.invariant-looking
invariant-looking g l = look (is_one_of l.initial.table) l.cursor ≡ look (is_one_of l.table) l.cursor

abbrev pub decreases-looking : goal.decreases-looking
decreases-looking g l = length l.table
