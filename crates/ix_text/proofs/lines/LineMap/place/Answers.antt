use Rattle.std.proofs.Common.{arith, sym, ap, subst, length, ◌∙◌}
use Rattle.std.specs.List.Sorted.{IsNonDecreasing}
use Rattle.ix_text.specs.Lines.{column_of, place}
use Rattle.ix_text.proofs.LineStarts.{line_starts_rise, few_lines, some_line, line_is, start_is, start_within}
use Rattle.ix_text.proofs.Characters.{counted, line_before_place, column_is}
use Rattle.ix_text.proofs.lines.LineMap.place.Goals as goal

pub lines_up_to-line-requires : goal.lines_up_to-line-requires
lines_up_to-line-requires c = let e = c.deref.ensures.value ∙ c.self.invariant.0 in subst IsNonDecreasing (sym e) (line_starts_rise c.self.inside.text.items)

pub overflow_sub-line : goal.overflow_sub-line
overflow_sub-line c =
    omega (
      arith,
      some_line c.self.inside.text.items c.args.at,
      line_is c.self.inside.text.items c.self.inside.line_starts.items c.deref.result.now c.args.at c.lines_up_to-line.result c.lines_up_to-line.ensures.value c.deref.ensures.value c.self.invariant.0,
    )

pub overflow_cast-result : goal.overflow_cast-result
overflow_cast-result c = omega (arith, c.lines_up_to-line.ensures.within, ap length (c.deref.ensures.value ∙ c.self.invariant.0), few_lines c.self.inside.text.items, c.self.invariant.2)

pub overflow_sub-result : goal.overflow_sub-result
overflow_sub-result c =
    let text = c.self.inside.text.items in
    let line = line_is text c.self.inside.line_starts.items c.deref.result.now c.args.at c.lines_up_to-line.result c.lines_up_to-line.ensures.value c.deref.ensures.value c.self.invariant.0 in
    let within = start_within c.self.inside.line_starts.items c.deref.result.now c.args.at c.lines_up_to-line.result c.index.result.now c.deref.ensures.value (omega (arith, line, some_line text c.args.at)) c.lines_up_to-line.ensures.within c.lines_up_to-line.ensures.before c.index.ensures in
    omega (
      arith,
      line_before_place (counted text c.deref-4.result.now c.deref-2.result.now c.args.at c.index.result.now c.characters_before-before.result c.characters_before-before_line.result
          within c.characters_before-before.ensures c.characters_before-before_line.ensures c.deref-4.ensures.value c.deref-2.ensures.value),
    )

pub returns : goal.returns
returns c =
    let text = c.self.inside.text.items in
    let line = line_is text c.self.inside.line_starts.items c.deref.result.now c.args.at c.lines_up_to-line.result c.lines_up_to-line.ensures.value c.deref.ensures.value c.self.invariant.0 in
    let within = start_within c.self.inside.line_starts.items c.deref.result.now c.args.at c.lines_up_to-line.result c.index.result.now c.deref.ensures.value (omega (arith, line, some_line text c.args.at)) c.lines_up_to-line.ensures.within c.lines_up_to-line.ensures.before c.index.ensures in
    let start = start_is text c.self.inside.line_starts.items c.args.at c.lines_up_to-line.result c.index.result.now c.self.invariant.0 line
    (omega (arith, c.lines_up_to-line.ensures.within, ap length c.deref.ensures.value)) c.index.ensures in
    let column = column_is (counted text c.deref-4.result.now c.deref-2.result.now c.args.at c.index.result.now c.characters_before-before.result c.characters_before-before_line.result
    within c.characters_before-before.ensures c.characters_before-before_line.ensures c.deref-4.ensures.value c.deref-2.ensures.value) start in
    ap (λ n. (c.lines_up_to-line.result, n)) column ∙ ap (λ n. (n, column_of text c.args.at)) line ∙ ap (λ t. place t c.args.at) c.self.view_is
