-- The new facts that the code collects are those of the rules.
use Rattle.std.specs.Prelude.{◌≡◌, List, ◌++◌}
use Rattle.ix_core.specs.declared.claim.Type_.{Type_}
use Rattle.ix_core.specs.declared.fact.Path.{Path}
use Rattle.ix_core.specs.declared.fact.Fact.{Fact}
use Rattle.ix_core.specs.declared.fact.Profile.{Profile}
use Rattle.ix_core.specs.declared.op.OpKind.{OpKind}
use Rattle.ix_facts.specs.Closure.{kept}
use Rattle.ix_facts.specs.Exact.{named_ints, named_arrays}
use Rattle.ix_facts.specs.AfterOperation as after
use Rattle.ix_facts.specs.After.{kept_new, finished, finished_by}
use Rattle.ix_facts.specs.Named.{IsEachOnce}
use Rattle.ix_facts.specs.OnPaths.{HasNamed}
use Rattle.ix_transfer_rules.specs.OverParts as parts
use Rattle.ix_transfer.specs.OverNamed as over
use Rattle.ix_facts.specs.SameFacts.{AreSame}
use Rattle.ix_facts.proofs.Members.{same_equal, same_trans, same_app, same_kept}
use Rattle.ix_transfer.proofs.SameRules.{new_same, copied_same}
use Rattle.ix_transfer.proofs.SameFinish.{finished_same, finished_by_same}

module _ (facts : List Fact) (on : Path → List Fact) (ints arrays : List Path) (named : (p : Path) → HasNamed p (on p) facts) (ints_once : IsEachOnce (named_ints facts) ints) (arrays_once : IsEachOnce (named_arrays facts) arrays) where
  pub after_is : (profile : Profile) (kind : OpKind) (new more : List Fact) → new ≡ kept (parts.new_facts facts on arrays profile kind) → more ≡ kept (over.finished facts on ints arrays new kind)
      → AreSame (new ++ more) (kept_new facts profile kind ++ kept (finished facts (kept_new facts profile kind) kind))
  after_is profile kind new more e d =
      let s : AreSame new (kept_new facts profile kind) = same_trans new _ _ (same_equal new _ e) (same_kept _ _ (new_same facts on arrays named arrays_once profile kind)) in
      same_app new more _ _ s (same_trans more _ _ (same_equal more _ d) (same_kept _ _ (finished_same facts on named ints arrays ints_once arrays_once new (kept_new facts profile kind) s kind)))

  pub copy_is : (ty : Type_) (t s : Path) (new more : List Fact) → new ≡ kept (after.copied (on s) ty t s) → more ≡ kept (over.finished_by facts on ints arrays new ty t)
      → AreSame (new ++ more) (kept (after.copied facts ty t s) ++ kept (finished_by ty facts (kept (after.copied facts ty t s)) t))
  copy_is ty t s new more e d =
      let k : AreSame new (kept (after.copied facts ty t s)) = same_trans new _ _ (same_equal new _ e) (same_kept _ _ (same_equal _ _ (copied_same facts (on s) ty t s (named s)))) in
      same_app new more _ _ k (same_trans more _ _ (same_equal more _ d) (same_kept _ _ (finished_by_same facts on named ints arrays ints_once arrays_once new (kept (after.copied facts ty t s)) k ty t)))
