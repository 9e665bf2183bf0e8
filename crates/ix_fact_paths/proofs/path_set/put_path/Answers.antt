use Rattle.std.proofs.Common.{rules, ◌≡◌, length, ◌≤◌, sym, subst, ◌∙◌}
use Rattle.std.specs.Prelude.{List, Err}
use Rattle.std.specs.List.Sorted.{IsBinarySearchResult}
use Rattle.std.specs.BTreeSet.{insert_key}
use Rattle.std.proofs.lemmas.Fn.{always_returns_same}
use Rattle.ix_core.specs.declared.fact.Path.{Path}
use Rattle.ix_facts.specs.PathOrder.{path_cmp}
use Rattle.ix_fact_paths.specs.PutLaws.{IsRising}
use Rattle.ix_fact_paths.proofs.Places.{found, placed}
use Rattle.ix_fact_paths.proofs.path_set.put_path.Goals as goal

pub returns-in-Ok-clause-put : goal.returns-in-Ok-clause-put
returns-in-Ok-clause-put c =
    let p = c.args.p.now in
    let e = c.deref-2.ensures.value in
    let rising : IsRising c.deref-2.result.now = subst IsRising (sym e) c.requires.rising in
    let here = c.in-Ok.ensures.position (λ q. path_cmp q p) (always_returns_same _ _ _ (λ a r next called. search rules)) in
    subst (λ l. l ≡ insert_key path_cmp l p) e (sym (found c.deref-2.result.now c.in-Ok.field-0 p rising c.in-Ok.ensures.bound here))

pub returns-in_ok-insert-in-Err-clause-put : goal.returns-in_ok-insert-in-Err-clause-put
returns-in_ok-insert-in-Err-clause-put c =
    let p = c.args.p.now in
    let e = c.deref-2.ensures.value in
    let items = c.args.paths.now.items in
    let here = c.in-Err.ensures.position (λ q. path_cmp q p) (always_returns_same _ _ _ (λ a r next called. search rules)) in
    let parted : IsBinarySearchResult (λ q. path_cmp q p) items (Err c.in-Err.place) = subst (λ (l : List Path). IsBinarySearchResult (λ q. path_cmp q p) l (Err c.in-Err.place)) e here in
    let within : c.in-Err.place ≤ length items = subst (λ (l : List Path). c.in-Err.place ≤ length l) e c.in-Err.ensures.bound in
    c.in_ok-insert-in-Err.ensures.items ∙ sym (placed items c.in-Err.place p c.requires.rising within parted)
