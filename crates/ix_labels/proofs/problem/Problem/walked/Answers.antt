use Rattle.std.proofs.Common.{◌≡◌, ◌<◌, ◌+◌, suc, length, map, arith, sym, ap, subst, ◌∙◌}
use Rattle.ix_facts.specs.Stores.{IsBelow}
use Rattle.ix_store.specs.StoredFacts.{stored}
use Rattle.ix_solve.specs.Solutions.{IsLeastOf}
use Rattle.ix_labels.specs.Problem.{kept_in}
use Rattle.ix_labels.specs.Runs.{IsStart}
use Rattle.ix_labels.proofs.Visited.{To, run_goes_on}
use Rattle.ix_labels.proofs.problem.Problem.walked.Goals as goal

pub start_of-start-requires : goal.start_of-start-requires
start_of-start-requires c =
    let all = c.args.self.now.through.all in
    record {
      node = subst (λ ns. c.args.at < length ns) (sym c.as_slice.ensures.value) c.requires.node;
      all = ap length c.as_slice-2.ensures.value ∙ all ∙ sym (ap length c.as_slice.ensures.value);
    }

pub begun-requires : goal.begun-requires
begun-requires c =
    let problem = c.args.self.now in
    let start = c.start_of-start.result in
    let is = subst (λ ns. IsStart ns (kept_in problem) c.args.at start) c.as_slice.ensures.value (subst (λ kept. IsStart c.as_slice.result.now kept c.args.at start) c.as_slice-2.ensures.value c.start_of-start.ensures) in
    let on = is.on in
    record { node = omega (arith, on, c.requires.node); labels = c.requires.labels; begins = is.begins }

pub loop-before-init : goal.loop-before-init
loop-before-init c =
    let on = c.start_of-start.ensures.on in
    (omega arith, on, c.in_ok-store.ensures.least)

pub loop-before-preserved : goal.loop-before-preserved
loop-before-preserved c =
    let problem = c.args.self.now in
    let said = map stored c.args.labels.now in
    let start = c.start_of-start.result in
    let before = c.loop-before.before in
    let is = subst (λ ns. IsStart ns (kept_in problem) c.args.at start) c.as_slice.ensures.value (subst (λ kept. IsStart c.as_slice.result.now kept c.args.at start) c.as_slice-2.ensures.value c.start_of-start.ensures) in
    let low = c.loop-before.invariant.0 in
    let more : before < c.args.at = c.loop-before-test.true in
    let continues = is.continues (suc before) (omega (arith, low)) (omega (arith, more)) in
    let e : suc before ≡ before + 1 = omega arith in (
      omega (arith, low),
      omega (arith, more),
      subst (λ n. IsLeastOf IsBelow (To problem said n) (stored c.in_ok-store-2.store)) e
          (run_goes_on problem said before (stored c.loop-before.store) (stored c.in_ok-store-2.store) (omega (arith, more, c.requires.node)) continues c.loop-before.invariant.2 c.in_ok-store-2.ensures.least),
    )
