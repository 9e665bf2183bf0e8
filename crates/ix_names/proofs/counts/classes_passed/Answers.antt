use Rattle.std.proofs.Common.{rules, ◌≡◌, None, Some, option_map, slice_get, sym, ap, ◌∙◌}
use Rattle.ix_meaning.specs.declared.note.Which.TheVariants as which
use Rattle.ix_meaning.specs.Limits as spec
use Rattle.ix_names.proofs.PlacesPassed.{past_class_at}
use Rattle.ix_names.proofs.counts.classes_passed.Goals as goal

pub returns-in-None : goal.returns-in-None
returns-in-None c =
    let none : slice_get c.args.classes.now spec.most_classes ≡ None = search rules in
    sym (past_class_at which.Classes spec.most_classes c.args.classes.now ∙ ap (option_map (λ class. spec.passed which.Classes class.name)) none)

pub returns-in-Some : goal.returns-in-Some
returns-in-Some c =
    let some : slice_get c.args.classes.now spec.most_classes ≡ Some c.in-Some.class.now = search rules in
    ap Some c.passed_at.ensures ∙ sym (past_class_at which.Classes spec.most_classes c.args.classes.now ∙ ap (option_map (λ class. spec.passed which.Classes class.name)) some)
