use Rattle.std.proofs.Common.{rules, refl, sym, ◌∙◌, arith}
use Rattle.ix_grammar_rules.specs.Onto.{with_field}
use Rattle.ix_grammar_rules.specs.DeclRules as spec
use Rattle.ix_grammar_rules.specs.ExprRules.{init}
use Rattle.ix_grammar_rules.specs.ListRules.{next_of, more_of}
use Rattle.ix_grammar_rules.proofs.Runs.{loop_on}
use Rattle.ix_parse_base.proofs.Takes.{taken_here}
use Rattle.ix_parse_base.proofs.Turns.{one_more}
use Rattle.ix_parser.proofs.member_rules.more_fields.Goals as goal

pub reading-preserved : goal.reading-preserved
unfolding more_of spec.decl
reading-preserved c = record {
  leads =
      c.reading.invariant.leads
      ∙ loop_on (next_of (spec.decl init c.args.left c.args.all.now) with_field) c.reading.found c.in_ok-found.found c.reading.cursor c.decl_behind.new.cursor
      (one_more (spec.decl init c.args.left c.args.all.now) with_field _ _ c.in_ok-next.next _ _ c.advance.new.self _ c.in-Some.ensures.found c.advance.ensures.rest
      (taken_here _ _ _ _ _ c.in_ok-name.name c.take_name.new.self (sym c.in_ok-name.ensures.found) refl c.in_ok-name.ensures.behind ∙ c.in_ok-next.ensures.reads)
      c.in_ok-found.ensures)
      (omega (arith, c.in-Some.ensures.there, c.advance.ensures.one_less, c.in_ok-name.ensures.shorter, c.in_ok-next.ensures.no_longer));
  no_longer = omega (arith, c.reading.invariant.no_longer, c.advance.ensures.one_less, c.in_ok-name.ensures.shorter, c.in_ok-next.ensures.no_longer);
  fits = search rules;
}
