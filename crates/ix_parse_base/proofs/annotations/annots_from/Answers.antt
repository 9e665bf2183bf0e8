use Rattle.std.proofs.Common.{rules, ◌∙◌, arith}
use Rattle.ix_grammar_rules.specs.AnnotRules as spec
use Rattle.ix_grammar_rules.proofs.Runs.{loop_on}
use Rattle.ix_parse_base.proofs.Turns.{one_annot_more}
use Rattle.ix_parse_base.proofs.annotations.annots_from.Goals as goal

pub reading-preserved : goal.reading-preserved
unfolding spec.annots_from
reading-preserved c = record {
  leads =
      c.reading.invariant.leads
      ∙ loop_on (spec.next_annot c.args.left) c.reading.notes c.in_ok-notes.notes c.reading.cursor c.annot_behind.new.cursor
      (one_annot_more _ _ _ c.in_ok-annot.annot _ _ c.advance.new.self _ c.in-Some.ensures.found (search rules) c.advance.ensures.rest c.in_ok-annot.ensures.reads c.in_ok-notes.ensures)
      (omega (arith, c.in-Some.ensures.there, c.advance.ensures.one_less, c.in_ok-annot.ensures.no_longer));
  no_longer = omega (arith, c.reading.invariant.no_longer, c.advance.ensures.one_less, c.in_ok-annot.ensures.no_longer);
  low = search rules;
  fits = search rules;
}
