use Rattle.std.proofs.Common.{length, refl}
use Rattle.std.proofs.lemmas.Option.{slice_get_read}
use Rattle.ix_labels.proofs.KeptNodes.{not_false}
use Rattle.ix_labels.proofs.runs.is_kept.Goals as goal

pub returns-clause-passed : goal.returns-clause-passed
returns-clause-passed c = λ passed.
    let nodes = c.args.nodes.now in
    let node = c.index-nodes-at.result in
    let there = slice_get_read nodes (length nodes) c.args.at node refl c.requires.node c.index-nodes-at.is in
    let of_run = c.if-not-is_of_run.false in (
      node,
      there,
      record {
        plain = c.is_of_run.ensures.plain of_run;
        single = c.is_of_run.ensures.single of_run;
        begins = c.is_of_run.ensures.begins of_run;
        leads = c.leads_on.ensures (not_false c.leads_on.result passed) node there;
      },
    )
