use Rattle.std.proofs.Common.{arith, ◌≡◌, ◌+◌, ◌-◌, ◌<◌, ◌≤◌, ◌^◌, [], ◌∷◌, List, OnOk, length, get_or, take, drop, take_all, map, subst, sym, ap, ◌∙◌}
use Rattle.std.proofs.lemmas.Result.{on_ok_weaker}
use Rattle.ix_tree.specs.declared.decl.LocalDecl.{LocalDecl}
use Rattle.ix_meaning.specs.Bodies.{declared, all_declared}
use Rattle.ix_meaning.specs.Declarators.{declarators, further}
use Rattle.ix_expression_types.specs.Here.{here}
use Rattle.ix_names.specs.Told.{Told}
use Rattle.ix_names.proofs.Told.{told_then, room_behind}
use Rattle.ix_names.proofs.body.declare_all.Goals as goal

first_and_rest : (ds : List LocalDecl) (first : LocalDecl) → first ≡ get_or ds 0 first → 1 ≤ length ds → ds ≡ first ∷ take (length ds - 1) (drop 1 ds)
first_and_rest [] first is some = let never : ⊥ = omega (arith, some) in absurd never
first_and_rest (d ∷ ds) first is some =
    ap (λ (x : LocalDecl). x ∷ ds) (sym is) ∙ ap (λ (rest : List LocalDecl). first ∷ rest) (sym (take_all (length (d ∷ ds) - 1) ds (omega arith)))

pub declare_further-requires : goal.declare_further-requires
declare_further-requires c =
    let parts = first_and_rest c.args.decls.now c.first-item.result c.first-item.is c.in-len1-up.len_at_least in
    let rest = take (length c.args.decls.now - 1) (drop 1 c.args.decls.now) in
    room_behind c.args.world.now (declared c.first-item.result) (all_declared (map (further c.first-item.result) rest)) c.args.scopes.now c.declare_first.new.scopes c.args.notes.now c.declare_first.new.notes c.in_ok-declare_first-in-len1-up.ensures
    (subst (λ (ds : List LocalDecl). c.args.scopes.now.next + (all_declared (declarators ds)).declares < 2 ^ 32) parts c.requires)

pub returns-in_ok-declare_first-in-len1-up : goal.returns-in_ok-declare_first-in-len1-up
returns-in_ok-declare_first-in-len1-up c =
    let parts = first_and_rest c.args.decls.now c.first-item.result c.first-item.is c.in-len1-up.len_at_least in
    subst
    (λ (ds : List LocalDecl).
    OnOk c.declare_further.result (Told (here c.args.world.now) (all_declared (declarators ds)) c.args.scopes.now c.declare_further.new.scopes c.args.notes.now c.declare_further.new.notes))
    (sym parts) (on_ok_weaker c.declare_further.result (told_then c.in_ok-declare_first-in-len1-up.ensures) c.declare_further.ensures)
