use Rattle.std.proofs.Common.{◌++◌, reverse, ap, ◌∙◌}
use Rattle.std.specs.Prelude.{flat_map}
use Rattle.ix_core.specs.Tables.{class_at}
use Rattle.ix_core.proofs.classes.instance_fields.Goals as goal

pub loop-number-init : goal.loop-number-init
loop-number-init c =
    ap (λ l. l ++ flat_map (λ above. (class_at c.args.program.now above).fields) (reverse c.in_ok-classes.classes.items)) c.new-fields.ensures.items
    ∙ ap (λ l. flat_map (λ above. (class_at c.args.program.now above).fields) (reverse l)) c.in_ok-classes.ensures
