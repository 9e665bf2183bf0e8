use Rattle.std.proofs.Common.{rules, Bool, if◌then◌else◌, List, [], ◌∷◌, ◌++◌, map, ap, refl, sym, ◌∙◌}
use Rattle.ix_tree.specs.declared.expr.Expr.{Expr}
use Rattle.ix_tree.specs.declared.expr.Init.{Init}
use Rattle.ix_guard.specs.declared.parts.Access.{Access}
use Rattle.ix_guard.specs.Accesses as spec
use Rattle.ix_guard.specs.Accesses.{Parts}
use Rattle.ix_guard.specs.Shown.{seen}
use Rattle.std.proofs.lemmas.List.{map-append}
use Rattle.ix_guard.proofs.Inside.{joined, index_assigned, index_accesses, binary_assigned, binary_accesses, assign_parts, index_own}
use Rattle.ix_text.proofs.Chained.{both_ok, on_mapped}
use Rattle.ix_guard.proofs.Sums.{one_more}
use Rattle.ix_guard.proofs.Truncated.{cut_where, vec_length}
use Rattle.ix_guard.proofs.parts.+parts.Goals as goal

pub add_right-returns-then-not-is_always-clause-accesses : goal.add_right-returns-then-not-is_always-clause-accesses
add_right-returns-then-not-is_always-clause-accesses t c =
    cut_where seen c.args.found.now.accesses.items c.add_parts.new.found.accesses.items c.truncate.new.self.items (spec.parts_of c.args.right.now).accesses c.len-count.result (spec.is_always c.args.operator)
    c.in_ok-add_parts.ensures.accesses c.truncate.ensures.items (c.len-count.ensures ∙ vec_length c.args.found.now.accesses) (sym c.is_always.ensures ∙ c.if-not-is_always.true)

pub add_args-loop-arg-preserved : goal.add_args-loop-arg-preserved
add_args-loop-arg-preserved t c = (
  one_more (λ (l : List Expr). (spec.all_parts l).accesses) (λ (x : Expr). (spec.parts_of x).accesses) (λ _ _. refl) c.args.args.now c.loop-arg.arg-index c.arg-item.result _ _ _ (search rules) (search rules) c.in_ok-add_parts.ensures.accesses c.loop-arg.invariant.0,
  one_more (λ (l : List Expr). (spec.all_parts l).assigned) (λ (x : Expr). (spec.parts_of x).assigned) (λ _ _. refl) c.args.args.now c.loop-arg.arg-index c.arg-item.result _ _ _ (search rules) (search rules) c.in_ok-add_parts.ensures.assigned c.loop-arg.invariant.1,
)

pub add_items-loop-item-preserved : goal.add_items-loop-item-preserved
add_items-loop-item-preserved t c = (
  one_more (λ (l : List Init). (spec.all_init_parts l).accesses) (λ (x : Init). (spec.init_parts x).accesses) (λ _ _. refl) c.args.items.now c.loop-item.item-index c.item-item.result _ _ _ (search rules) (search rules) c.in_ok-add_initial.ensures.accesses c.loop-item.invariant.0,
  one_more (λ (l : List Init). (spec.all_init_parts l).assigned) (λ (x : Init). (spec.init_parts x).assigned) (λ _ _. refl) c.args.items.now c.loop-item.item-index c.item-item.result _ _ _ (search rules) (search rules) c.in_ok-add_initial.ensures.assigned c.loop-item.invariant.1,
)

pub add_parts-returns-in-Binary-clause-accesses : goal.add_parts-returns-in-Binary-clause-accesses
add_parts-returns-in-Binary-clause-accesses t c = both_ok c.add_parts-in-Binary.result c.add_right.result c.and-in-Binary.result _ _ _ c.and-in-Binary.ensures c.add_parts-in-Binary.ensures.accesses c.add_right.ensures.accesses (λ one two. joined _ _ _ _ _ _ one two (binary_accesses c.args.expr.now c.in-Binary.left c.in-Binary.right _ _ c.in-Binary.operator c.in-Binary.is c.get-in-Binary.ensures c.get-in-Binary-2.ensures))

pub add_parts-returns-in-Binary-clause-assigned : goal.add_parts-returns-in-Binary-clause-assigned
add_parts-returns-in-Binary-clause-assigned t c = both_ok c.add_parts-in-Binary.result c.add_right.result c.and-in-Binary.result _ _ _ c.and-in-Binary.ensures c.add_parts-in-Binary.ensures.assigned c.add_right.ensures.assigned (λ one two. joined _ _ _ _ _ _ one two (binary_assigned c.args.expr.now c.in-Binary.left c.in-Binary.right _ _ c.in-Binary.operator c.in-Binary.is c.get-in-Binary.ensures c.get-in-Binary-2.ensures))

pub add_parts-returns-in_default-clause-assigned : goal.add_parts-returns-in_default-clause-assigned
add_parts-returns-in_default-clause-assigned t c = both_ok c.add_parts.result c.add_parts-in-Index.result c.and.result _ _ _ c.and.ensures c.add_parts.ensures.assigned c.add_parts-in-Index.ensures.assigned (λ one two. joined _ _ _ _ _ _ one two (index_assigned c.args.expr.now c.in-Index.array c.in-Index.index _ _ c.in-Index.is c.get-in-Index-2.ensures c.get-in-Index-3.ensures))

pub add_parts-returns-in_default-clause-accesses : goal.add_parts-returns-in_default-clause-accesses
add_parts-returns-in_default-clause-accesses t c = both_ok c.add_parts.result c.add_parts-in-Index.result c.and.result _ _ _ c.and.ensures c.add_parts.ensures.accesses c.add_parts-in-Index.ensures.accesses (λ one two. joined _ _ _ _ _ _ one two (index_accesses c.args.expr.now c.in-Index.array c.in-Index.index _ _ _ _ c.in-Index.is c.get.ensures c.get-in-Index.ensures c.in_default.ensures c.get-in-Index-2.ensures c.get-in-Index-3.ensures))

pub add_parts-returns-in-Assign-clause-accesses : goal.add_parts-returns-in-Assign-clause-accesses
add_parts-returns-in-Assign-clause-accesses t c = both_ok c.add_as_target.result c.add_parts-in-Assign.result c.and-in-Assign.result _ _ _ c.and-in-Assign.ensures c.add_as_target.ensures.accesses c.add_parts-in-Assign.ensures.accesses (λ one two. joined _ _ _ _ _ _ one two (ap (λ (p : Parts). p.accesses) (assign_parts c.args.expr.now c.in-Assign.target c.in-Assign.value _ _ _ c.in-Assign.is c.get-in-Assign.ensures c.get-in-Assign-2.ensures)))

pub add_parts-returns-in-Assign-clause-assigned : goal.add_parts-returns-in-Assign-clause-assigned
add_parts-returns-in-Assign-clause-assigned t c = both_ok c.add_as_target.result c.add_parts-in-Assign.result c.and-in-Assign.result _ _ _ c.and-in-Assign.ensures c.add_as_target.ensures.assigned c.add_parts-in-Assign.ensures.assigned (λ one two. joined _ _ _ _ _ _ one two (ap (λ (p : Parts). p.assigned) (assign_parts c.args.expr.now c.in-Assign.target c.in-Assign.value _ _ _ c.in-Assign.is c.get-in-Assign.ensures c.get-in-Assign-2.ensures)))

pub add_parts-returns-in-Some-clause-accesses : goal.add_parts-returns-in-Some-clause-accesses
add_parts-returns-in-Some-clause-accesses t c =
    let items : List Access = c.args.found.now.accesses.items in
    let access : Access = c.in-Some.access in
    on_mapped c.push.result c.map_err.result _ c.map_err.ensures.variant (λ well. ap (map seen) (c.push.ensures.items ∙ ap (λ (b : Bool). if b then items ++ access ∷ [] else items) well)
    ∙ (map-append seen items (access ∷ []) ∙ ap (λ l. map seen items ++ l) (sym (index_own c.args.expr.now c.in-Index.array c.in-Index.index _ _ (seen access) c.in-Index.is c.get.ensures c.get-in-Index.ensures c.in-Some.ensures))))
