use Rattle.std.proofs.Common.{arith, sym, ◌∙◌, refl}
use Rattle.ix_lexer.specs.declared.elements.Element.TheVariants as element
use Rattle.ix_lexer.proofs.ReadingSteps.{longest_take, longest_as, bad_number, bad_char, too_many}
use Rattle.ix_lexer.proofs.lexer.step.Goals as goal

pub returns-in-None-clause-stops : goal.returns-in-None-clause-stops
returns-in-None-clause-stops c = λ _. bad_char c.args.at c.args.count c.args.text.now (sym c.element_at.ensures.value ∙ c.in-None.is) c.requires.some

pub returns-in-Gap-clause-step : goal.returns-in-Gap-clause-step
returns-in-Gap-clause-step c = longest_as c.in-Some.element element.Gap c.in-Some.len c.args.text.now (sym c.element_at.ensures.value ∙ c.in-Some.is) c.in-Gap.is

pub returns-in-OpenComment-clause-stops : goal.returns-in-OpenComment-clause-stops
returns-in-OpenComment-clause-stops c =
    λ _. (refl, (_, longest_as c.in-Some.element element.OpenComment c.in-Some.len c.args.text.now (sym c.element_at.ensures.value ∙ c.in-Some.is) c.in-OpenComment.is))

pub returns-in-OpenString-clause-stops : goal.returns-in-OpenString-clause-stops
returns-in-OpenString-clause-stops c =
    λ _. (refl, (_, longest_as c.in-Some.element element.OpenString c.in-Some.len c.args.text.now (sym c.element_at.ensures.value ∙ c.in-Some.is) c.in-OpenString.is))

pub returns-in-None-2 : goal.returns-in-None-2
returns-in-None-2 c = record {
  step = tt;
  within = tt;
  room = tt;
  stops = λ _. bad_number c.in-Some.element c.in-Some.len c.args.at c.args.count c.args.text.now (sym c.element_at.ensures.value ∙ c.in-Some.is)
      (sym c.in_ok-kind_of-in_default.ensures ∙ c.in-None-2.is) c.in_default.not-Gap c.in_default.not-OpenComment c.in_default.not-OpenString;
}

pub returns-then-count-eq-MOST_TOKENS : goal.returns-then-count-eq-MOST_TOKENS
returns-then-count-eq-MOST_TOKENS c = record {
  step = tt;
  within = tt;
  room = tt;
  stops = λ _. too_many c.in-Some.element c.in-Some.len c.args.at c.args.count c.args.text.now c.in-Some-2.kind (sym c.element_at.ensures.value ∙ c.in-Some.is)
      (sym c.in_ok-kind_of-in_default.ensures ∙ c.in-Some-2.is) c.if-count-eq-MOST_TOKENS.true;
}

pub returns-else-count-eq-MOST_TOKENS : goal.returns-else-count-eq-MOST_TOKENS
returns-else-count-eq-MOST_TOKENS c = record {
  step = (c.in-Some.element, longest_take c.in-Some.element c.in-Some.len c.args.text.now (sym c.element_at.ensures.value ∙ c.in-Some.is), sym c.in_ok-kind_of-in_default.ensures ∙ c.in-Some-2.is);
  within = c.in-Some.ensures.within;
  room = omega (arith, c.if-count-eq-MOST_TOKENS.false);
  stops = tt;
}
