use Rattle.std.proofs.Common.{rules, refl, sym, ◌∙◌, arith}
use Rattle.ix_grammar.specs.DeclGrammar.{with_decl}
use Rattle.ix_grammar_rules.specs.DeclRules as spec
use Rattle.ix_grammar_rules.specs.ExprRules.{init}
use Rattle.ix_grammar_rules.specs.ListRules.{next_of, more_of}
use Rattle.ix_grammar_rules.proofs.Runs.{loop_on}
use Rattle.ix_parse_base.proofs.Takes.{taken_here}
use Rattle.ix_parse_base.proofs.Turns.{one_more}
use Rattle.ix_parse_expressions.proofs.declarators.more_decls.Goals as goal

pub reading-preserved : goal.reading-preserved
unfolding more_of spec.decl
reading-preserved c = record {
  leads =
      c.reading.invariant.leads
      ∙ loop_on (next_of (spec.decl init c.args.left c.args.all.now) with_decl) c.reading.found c.in_ok-found-2.found c.reading.cursor c.decl_behind.new.cursor
      (one_more (spec.decl init c.args.left c.args.all.now) with_decl _ _ c.in_ok-decl.decl _ _ c.advance.new.self _ c.in-Some.ensures.found c.advance.ensures.rest
      (taken_here _ _ _ _ _ c.in_ok-name.name c.take_name.new.self (sym c.in_ok-name.ensures.found) refl c.in_ok-name.ensures.behind ∙ c.in_ok-decl.ensures.reads)
      c.in_ok-found-2.ensures)
      (omega (arith, c.in-Some.ensures.there, c.advance.ensures.one_less, c.in_ok-name.ensures.shorter, c.in_ok-decl.ensures.no_longer));
  no_longer = omega (arith, c.reading.invariant.no_longer, c.advance.ensures.one_less, c.in_ok-name.ensures.shorter, c.in_ok-decl.ensures.no_longer);
  fits = search rules;
}
