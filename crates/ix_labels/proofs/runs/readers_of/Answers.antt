use Rattle.std.proofs.Common.{length, arith, sym, ap, ◌∙◌}
use Rattle.std.proofs.lemmas.Bool.{false≢true}
use Rattle.std.proofs.lemmas.Result.{IfOk-weaker}
use Rattle.ix_labels.proofs.KeptNodes.{kept_index}
use Rattle.ix_labels.proofs.runs.readers_of.Goals as goal

pub returns-then-kept-at : goal.returns-then-kept-at
returns-then-kept-at c =
    let holds = kept_index c.args.kept.now c.args.at c.requires.node ∙ c.if-kept-at.true in
    record {
      within = c.ends_of.ensures.within;
      through = IfOk-weaker c.ends_of.result _ _ (λ by are. record { ends = λ kept. are; none = λ passed. absurd (false≢true (sym passed ∙ holds)) }) c.ends_of.ensures.ends;
    }

pub returns-else-kept-at : goal.returns-else-kept-at
returns-else-kept-at c =
    let passed = kept_index c.args.kept.now c.args.at c.requires.node ∙ c.if-kept-at.false in
    record {
      within = λ k d within. absurd (omega (arith, within, ap length c.new.ensures.items));
      through = record { ends = λ holds. absurd (false≢true (sym passed ∙ holds)); none = λ no. c.new.ensures.items };
    }
