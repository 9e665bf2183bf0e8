-- The new facts of a rule.
use Rattle.std.specs.Prelude.{List, ◌++◌}
use Rattle.ix_core.specs.declared.claim.Type_.{Type_}
use Rattle.ix_core.specs.declared.fact.Path.{Path}
use Rattle.ix_core.specs.declared.fact.Profile.{Profile}
use Rattle.ix_core.specs.declared.op.OpKind.{OpKind}
use Rattle.ix_core.specs.declared.fact.Fact.{Fact}
use Rattle.ix_facts.specs.AfterOperation.{copied}
use Rattle.ix_facts.specs.After.{kept_new, finished, finished_by}
use Rattle.ix_facts.specs.Closure.{kept}
use Rattle.ix_facts.specs.Facts.{in_orders}

-- of an operation, by what is known beside its target
abbrev pub after_new : List Fact → Profile → OpKind → List Fact
after_new beside profile kind = kept_new beside profile kind ++ kept (finished beside (kept_new beside profile kind) kind)

-- of a copy from one path to another
abbrev pub copy_new : List Fact → Type_ → Path → Path → List Fact
copy_new facts ty t s = kept (copied (in_orders facts) ty t s) ++ kept (finished_by ty (in_orders facts) (kept (copied (in_orders facts) ty t s)) t)
