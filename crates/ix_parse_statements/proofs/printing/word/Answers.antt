use Rattle.std.proofs.Common.{rules, sym}
use Rattle.std.specs.Cmp.Lexicographic.{same_text, other_text}
use Rattle.ix_parse_statements.proofs.Words.{this_word, other_word}
use Rattle.ix_parse_statements.proofs.printing.word.Goals as goal

pub returns-then-eq-clause-found : goal.returns-then-eq-clause-found
returns-then-eq-clause-found c = sym (this_word c.args.text.now c.args.cursor.now c.in-Some.name (search rules) (same_text c.in-Some.name.text c.args.text.now (search rules)))

pub returns-else-eq-clause-found : goal.returns-else-eq-clause-found
returns-else-eq-clause-found c = sym (other_word c.args.text.now c.args.cursor.now c.in-Some.name (search rules) (other_text c.in-Some.name.text c.args.text.now (search rules)))
