use Rattle.std.proofs.Common.{refl, sym, subst, ◌∙◌}
use Rattle.std.proofs.lemmas.Bool.{false≢true}
use Rattle.ix_core.specs.Code.{block_code}
use Rattle.ix_labels.specs.Runs.{AreLinked, AreRuns, readers_through}
use Rattle.ix_labels.proofs.Visited.{are_linked}
use Rattle.ix_labels.proofs.run_labels.problem_of.Goals.{then-passing, else-passing}
use Rattle.ix_labels.proofs.run_labels.problem_of.Goals as goal

pub runs_in-requires : goal.runs_in-requires
runs_in-requires c =
    subst AreLinked (sym c.as_slice.ensures.value) (are_linked (block_code c.args.within.now.body) c.in_ok-graph.graph.nodes.items c.in_ok-graph.ensures.size c.in_ok-graph.ensures.edges)

pub invariant_of-result : goal.invariant_of-result
invariant_of-result c = record {
  small = c.requires.program;
  own = c.requires.method;
  size = c.in_ok-graph.ensures.size;
  through = subst (λ ns. AreRuns ns c.in_ok-runs.runs.kept.items (readers_through c.in_ok-runs.runs.readers.items)) c.as_slice.ensures.value c.in_ok-runs.ensures.runs;
  edges = c.in_ok-graph.ensures.edges;
}

pub returns : goal.returns
returns c = record {
  problem = record { program_is = refl; method_is = refl; profile_is = refl; landmarks = c.in_ok-marks.ensures.landmarks; kinds = c.in_ok-graph.ensures.kinds };
  all = λ no. c.in_ok-runs.ensures.all (elim c.if-passing.branch [ then-passing w ↦ absurd (false≢true (sym no ∙ w.if-passing.true)) | else-passing w ↦ w.wanted-is ∙ no ]);
}
