use Rattle.std.proofs.Common.{rules, w32, ◌++◌, ap, ◌∙◌, append_assoc}
use Rattle.std.proofs.lemmas.Int.{to_z-of_z}
use Rattle.ix_report.specs.Outcomes.{at_place}
use Rattle.ix_text.proofs.Chained.{both_ok}
use Rattle.ix_report.proofs.runs.add_access.Goals as goal

pub returns : goal.returns
returns c =
    let index = to_z-of_z w32 c.args.index (search rules) in
    let size = to_z-of_z w32 c.args.size (search rules) in
    both_ok c.and.result c.write-2.result c.and-2.result _ _ _ c.and-2.ensures
    (both_ok c.write.result c.add_place.result c.and.result _ _ _ c.and.ensures c.write.ensures.bytes c.add_place.ensures (λ one two. two ∙ ap (λ t. t ++ at_place c.args.lines.now c.args.at) one))
    c.write-2.ensures.bytes (λ two is. is ∙ simp (append_assoc, two, index, size))
