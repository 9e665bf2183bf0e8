use Rattle.std.proofs.Common.{rules, ◌≡◌, None, ◌++◌, ap, ◌∙◌}
use Rattle.std.proofs.lemmas.Result.{on_ok_weaker}
use Rattle.std.specs.HashMap.{get}
use Rattle.ix_text.specs.declared.span.Span.{Span}
use Rattle.ix_meaning.specs.Listed as spec
use Rattle.ix_symbols.specs.Ranks as tested
use Rattle.ix_symbols.proofs.LeastRanks.{firsts_by_rank}
use Rattle.ix_symbols.proofs.errors.push_annots.Goals as goal

pub returns : goal.returns
returns c =
    let annots = spec.wrong_annots c.args.notes.now in
    let least : (p : Span) → get spec.same_span c.in_ok-least.least p ≡ tested.least_rank p None annots = search rules in
    on_ok_weaker c.push_firsts.result (λ h. h ∙ ap (λ l. c.args.errors.now.items ++ l) (firsts_by_rank _ annots annots least)) c.push_firsts.ensures
