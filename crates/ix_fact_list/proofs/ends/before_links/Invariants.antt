use Rattle.std.proofs.Common.{◌≡◌, drop}
use Rattle.ix_bounds.specs.Links.{links_in}
use Rattle.ix_fact_list.proofs.ends.before_links.Given as goal

abbrev pub invariant-loop-fact : goal.invariant-loop-fact
invariant-loop-fact l = record {
  seen : l.seen ≡ l.fact-index;
  links : links_in (drop l.fact-index l.facts) ≡ links_in l.facts;
}
