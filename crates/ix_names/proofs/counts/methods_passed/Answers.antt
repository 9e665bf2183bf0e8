use Rattle.std.proofs.Common.{rules, ◌≡◌, ◌<◌, ◌≤◌, ◌+◌, ◌-◌, ◌++◌, ℕ, List, option_map, slice_get, length, drop, get_or, sym, ap, ◌∙◌}
use Rattle.std.proofs.lemmas.List.{at_drop_more, at_drop_all}
use Rattle.ix_tree.specs.declared.decl.ClassDecl.{ClassDecl}
use Rattle.ix_meaning.specs.declared.note.Which.TheVariants as which
use Rattle.ix_meaning.specs.Limits as spec
use Rattle.ix_names.proofs.PlacesPassed.{past_method_at, get_front, get_behind}
use Rattle.ix_names.proofs.counts.methods_passed.Goals as goal

-- the methods of the class at hand, and those of the classes behind it
here : (cs : List ClassDecl) (k : ℕ) (c : ClassDecl) → k < length cs → c ≡ get_or cs k c → spec.all_methods (drop k cs) ≡ spec.methods_of c.members ++ spec.all_methods (drop (k + 1) cs)
here cs k c lt is = at_drop_more spec.all_methods cs k c lt ∙ ap (λ (d : ClassDecl). spec.methods_of d.members ++ spec.all_methods (drop (k + 1) cs)) (sym is)

pub returns-then-left-count : goal.returns-then-left-count
returns-then-left-count c =
    let all = c.args.classes.now in
    let so : slice_get (spec.all_methods (drop c.loop-class.class-index all)) c.loop-class.left ≡ slice_get (spec.all_methods all) spec.most_methods = search rules in
    let is = here all c.loop-class.class-index c.class-item.result (search rules) (search rules) in
    let found : option_map _ c.method_passed.result ≡ option_map (λ m. spec.passed which.Methods m.name) (slice_get (spec.methods_of c.class-item.result.members) c.loop-class.left) = search rules in
    found ∙ sym (past_method_at which.Methods spec.most_methods (spec.all_methods all) ∙ ap (option_map (λ m. spec.passed which.Methods m.name))
    (sym so ∙ ap (λ ms. slice_get ms c.loop-class.left) is ∙ get_front (spec.methods_of c.class-item.result.members) (spec.all_methods (drop (c.loop-class.class-index + 1) all)) c.loop-class.left (search rules)))

pub loop-class-preserved : goal.loop-class-preserved
loop-class-preserved c =
    let all = c.args.classes.now in
    let so : slice_get (spec.all_methods (drop c.loop-class.class-index all)) c.loop-class.left ≡ slice_get (spec.all_methods all) spec.most_methods = search rules in
    let is = here all c.loop-class.class-index c.class-item.result (search rules) (search rules) in
    let count : c.count_methods-count.result ≡ length (spec.methods_of c.class-item.result.members) = search rules in
    ap (λ n. slice_get (spec.all_methods (drop (c.loop-class.class-index + 1) all)) (c.loop-class.left - n)) count
    ∙ sym (get_behind (spec.methods_of c.class-item.result.members) (spec.all_methods (drop (c.loop-class.class-index + 1) all)) c.loop-class.left (search rules))
    ∙ ap (λ ms. slice_get ms c.loop-class.left) (sym is) ∙ so

pub returns : goal.returns
returns c =
    let all = c.args.classes.now in
    let so : slice_get (spec.all_methods (drop c.loop-class.class-index all)) c.loop-class.left ≡ slice_get (spec.all_methods all) spec.most_methods = search rules in
    let ended : length all ≤ c.loop-class.class-index = search rules in
    sym (past_method_at which.Methods spec.most_methods (spec.all_methods all) ∙ ap (option_map (λ m. spec.passed which.Methods m.name))
    (sym so ∙ ap (λ ms. slice_get ms c.loop-class.left) (at_drop_all spec.all_methods all c.loop-class.class-index ended)))
