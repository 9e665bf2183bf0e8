-- Ints that facts name, put into a set of paths until there are so many.
use Rattle.std.specs.Prelude.{◌≡◌, ◌⊎◌, ◌≤◌, ℕ, List, [], length}
use Rattle.ix_core.specs.declared.fact.Path.{Path}
use Rattle.ix_core.specs.declared.fact.Fact.{Fact}
use Rattle.ix_facts.specs.Exact.{named_ints}
use Rattle.ix_fact_paths.specs.ByPath.{put_all}

-- some are left to be put: none, or there are so many paths already
pub record IsPutUntil (paths : List Path) (facts : List Fact) (count : ℕ) (more : List Path) : Type 0 where
  pub put : List Path
  pub is_put : more ≡ put_all paths put
  pub left_over : List Path
  pub all : put_all more left_over ≡ put_all paths (named_ints facts)
  pub stops : (left_over ≡ []) ⊎ (count ≤ length more)
