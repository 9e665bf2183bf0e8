use Rattle.std.proofs.Common.{◌≡◌, vec_len, length, eq-eqb, arith, ap, sym, ◌∙◌}
use Rattle.std.proofs.lemmas.Bool.{false≢true}
use Rattle.ix_verify.proofs.Programs.{not_empty}
use Rattle.ix_verify.proofs.audited.answer.Goals as goal

pub returns : goal.returns
returns c = (
  c.in_ok-errors.ensures,
  not_empty c.args.found.items c.in_ok-errors.errors.items
      (λ none.
      let zero : vec_len c.args.found ≡ 0 = omega (arith, c.args.found.ok.0, ap length none) in
      false≢true (sym c.if-is_empty.false ∙ (c.is_empty.ensures ∙ eq-eqb (vec_len c.args.found) 0 zero)))
      c.in_ok-errors.ensures,
)
