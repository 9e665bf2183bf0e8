use Rattle.std.proofs.Common.{rules, ◌∙◌, arith}
use Rattle.ix_grammar_rules.specs.ExprRules as spec
use Rattle.ix_parse_expressions.proofs.Entries.{first_entry, an_entry, behind_comma}
use Rattle.ix_parse_expressions.proofs.grammar.Grammar.+initialisers.Goals as goal

pub items_within-reading-init : goal.items_within-reading-init
items_within-reading-init g t c = record {
  leads = first_entry (spec.init c.args.height) c.args.left c.no_inits-entries.result c.args.cursor.now c.no_inits-entries.ensures;
  no_longer = omega arith;
  fits = search rules;
}

pub items_within-reading-preserved : goal.items_within-reading-preserved
items_within-reading-preserved g t c = record {
  leads =
      c.reading.invariant.leads
      ∙ an_entry (spec.init c.args.height) c.reading.entries c.in_ok-entries.entries c.in_ok-next.next c.reading.cursor c.init.new.cursor c.in_default.ensures.found c.in_ok-next.ensures.reads c.in_ok-entries.ensures
      ∙ behind_comma (spec.init c.args.height) c.in_ok-entries.entries c.init.new.cursor c.advance-in-reading.new.self _ c.in-Some-sign.ensures.found c.advance-in-reading.ensures.rest;
  no_longer = omega (arith, c.reading.invariant.no_longer, c.in_ok-next.ensures.no_longer, c.advance-in-reading.ensures.one_less);
  fits = search rules;
}
