-- A set stays in order, and its marks true, when a path is put into it and marked.
use Rattle.std.specs.Prelude.{◌≡◌, ◌⊎◌, List}
use Rattle.std.proofs.Common.{sym, subst, ⊎_elim}
use Rattle.std.specs.BTreeSet.{insert_key}
use Rattle.ix_core.specs.declared.fact.Path.{Path}
use Rattle.ix_facts.specs.Named.{IsAmongPaths}
use Rattle.ix_facts.specs.PathOrder.{path_cmp}
use Rattle.ix_fact_paths.specs.declared.marks.Marks.{Marks}
use Rattle.ix_fact_paths.specs.Marks.{IsMarked, AreMarked}
use Rattle.ix_fact_paths.specs.PutLaws.{IsRising, put_here, put_stays, put_rises, put_again}

-- to put a marked path changes nothing
pub marked_again : (paths : List Path) (marks : Marks) (p : Path) → IsRising paths × AreMarked marks paths → IsMarked marks p → insert_key path_cmp paths p ≡ paths
marked_again paths marks p kept marked = put_again paths p kept.0 (kept.1 p marked)

pub put_marked : (paths next : List Path) (marks marked : Marks) (p : Path) → IsRising paths × AreMarked marks paths → next ≡ insert_key path_cmp paths p
    → ((q : Path) → IsMarked marked q → IsMarked marks q ⊎ (q ≡ p)) → IsRising next × AreMarked marked next
put_marked paths next marks marked p kept put told = (
  subst IsRising (sym put) (put_rises paths p kept.0),
  (λ q m.
      subst (IsAmongPaths q) (sym put)
      (⊎_elim (λ old. put_stays paths p q (kept.1 q old)) (λ e. subst (λ x. IsAmongPaths x (insert_key path_cmp paths p)) (sym e) (put_here paths p)) (told q m))),
)
