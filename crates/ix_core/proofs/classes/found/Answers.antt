use Rattle.std.proofs.Common.{◌-◌, arith, ap, sym, subst, ◌∙◌, ◌≡◌, None, Some}
use Rattle.std.specs.Prelude.{unwrap_or, flat_map}
use Rattle.ix_core.specs.Tables.{class_at, is_among, overridden, way_up, first_where, found_method}
use Rattle.ix_core.proofs.Ways.{find_some, find_next}
use Rattle.ix_core.proofs.classes.found.Goals as goal

pub returns-in-Some-first_over : goal.returns-in-Some-first_over
returns-in-Some-first_over c =
    let here : first_where (λ method. is_among (overridden c.args.program.now method) c.args.named) (class_at c.args.program.now c.in-Some.number).methods ≡ Some c.in-Some-first_over.method =
    ap (first_where (λ method. is_among (overridden c.args.program.now method) c.args.named)) (sym c.methods_of.ensures) ∙ (sym c.first_over.ensures ∙ c.in-Some-first_over.is) in
    find_some (λ method. is_among (overridden c.args.program.now method) c.args.named) (λ above. (class_at c.args.program.now above).methods) (λ below. (class_at c.args.program.now below).parent) c.loop-left.left c.loop-left.above c.in-Some.number c.args.named _ _ c.in-Some.is (omega arith) here c.loop-left.invariant

pub loop-left-preserved : goal.loop-left-preserved
loop-left-preserved c =
    let none : first_where (λ method. is_among (overridden c.args.program.now method) c.args.named) (class_at c.args.program.now c.in-Some.number).methods ≡ None =
    ap (first_where (λ method. is_among (overridden c.args.program.now method) c.args.named)) (sym c.methods_of.ensures) ∙ (sym c.first_over.ensures ∙ c.in-None-first_over.is) in
    subst (λ at. unwrap_or (first_where (λ method. is_among (overridden c.args.program.now method) c.args.named) (flat_map (λ above. (class_at c.args.program.now above).methods) (way_up (λ below. (class_at c.args.program.now below).parent) (c.loop-left.left - 1) at))) c.args.named ≡ found_method c.args.program.now c.args.class c.args.named) (sym c.parent_of-above.ensures)
    (find_next (λ method. is_among (overridden c.args.program.now method) c.args.named) (λ above. (class_at c.args.program.now above).methods) (λ below. (class_at c.args.program.now below).parent) c.loop-left.left c.loop-left.above c.in-Some.number c.args.named _ c.in-Some.is (omega arith) none c.loop-left.invariant)
