use Rattle.std.proofs.Common.{rules, ◌∙◌, arith}
use Rattle.ix_grammar_rules.specs.DeclRules as spec
use Rattle.ix_grammar_rules.specs.Reading.{words_of}
use Rattle.ix_grammar_rules.proofs.Runs.{loop_on}
use Rattle.ix_parse_base.proofs.Turns.{one_word_more, one_noted_more}
use Rattle.ix_parse_base.proofs.modifiers.mods_from.Goals as goal

pub reading-preserved-in-Some : goal.reading-preserved-in-Some
reading-preserved-in-Some c = record {
  leads =
      c.reading.invariant.leads
      ∙ loop_on (spec.next_mod (words_of c.args.words) c.args.left) c.reading.found c.with_word-found.result c.reading.cursor c.advance.new.self
      (one_word_more _ _ _ _ c.in-Some.word _ _ c.in-Some.ensures.found (search rules) c.advance.ensures.rest c.with_word-found.ensures)
      (omega (arith, c.in-Some.ensures.there, c.advance.ensures.one_less));
  no_longer = omega (arith, c.reading.invariant.no_longer, c.advance.ensures.one_less);
  low = search rules;
  fits = search rules;
}

pub reading-preserved : goal.reading-preserved
reading-preserved c = record {
  leads =
      c.reading.invariant.leads
      ∙ loop_on (spec.next_mod (words_of c.args.words) c.args.left) c.reading.found c.in_ok-found.found c.reading.cursor c.annot_behind.new.cursor
      (one_noted_more _ _ _ _ c.in_ok-annot.annot _ _ c.advance-in-Some-sign.new.self _ c.in_default.ensures.found c.in-Some-sign.ensures.found (search rules) c.advance-in-Some-sign.ensures.rest c.in_ok-annot.ensures.reads
      c.in_ok-found.ensures)
      (omega (arith, c.in-Some-sign.ensures.there, c.advance-in-Some-sign.ensures.one_less, c.in_ok-annot.ensures.no_longer));
  no_longer = omega (arith, c.reading.invariant.no_longer, c.advance-in-Some-sign.ensures.one_less, c.in_ok-annot.ensures.no_longer);
  low = search rules;
  fits = search rules;
}
