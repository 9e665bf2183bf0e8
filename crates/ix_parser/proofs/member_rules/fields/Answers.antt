use Rattle.std.proofs.Common.{subst, sym}
use Rattle.ix_grammar_rules.specs.Reading.{GoesOn}
use Rattle.ix_parser.proofs.OntoFields.{same_fields}
use Rattle.ix_parser.proofs.member_rules.fields.Goals as goal

pub returns-clause-reads : goal.returns-clause-reads
returns-clause-reads c =
    subst (λ o. GoesOn o c.each_field.result c.each_field.new.cursor) (sym (same_fields c.args.left c.args.all.now c.args.name c.args.before c.args.cursor.now)) c.each_field.ensures.reads
