use Rattle.std.proofs.Common.{◌≡◌, ◌∙◌, sym, ap, Some, FitsSigned, rules}
use Rattle.std.specs.Int.{w32, w128}
use Rattle.std.specs.Option.{option_map}
use Rattle.std.proofs.lemmas.Int.{to_z-of_z}
use Rattle.ix_num.specs.Arithmetic.{exact_of, wrap_of}
use Rattle.ix_num.proofs.WideResults.{exact_none}
use Rattle.ix_num.proofs.arith.java.Goals as goal

pub returns-in-Some : goal.returns-in-Some
returns-in-Some c =
    let wide : FitsSigned w128 c.in-Some.n = search rules in
    let small : FitsSigned w32 c.wrap.result = search rules in
    let narrow = c.exact.ensures.value ∙ (λ i. exact_of c.args.op (to_z-of_z w32 c.args.x c.ranges.x i) (to_z-of_z w32 c.args.y c.ranges.y i)) in
    let is : exact_of c.args.op c.args.x c.args.y ≡ Some c.in-Some.n = sym narrow ∙ c.in-Some.is in
    record {
      value = ap Some (to_z-of_z w32 c.wrap.result small ∙ c.wrap.ensures ∙ ap wrap_of (to_z-of_z w128 c.in-Some.n wide)) ∙ sym (ap (option_map wrap_of) is);
      none = rw is at (exact_none c.args.op c.args.x c.args.y);
    }
