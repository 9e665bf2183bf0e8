use Rattle.std.proofs.Common.{lit<, ◌∙◌, None, Some}
use Rattle.std.proofs.lemmas.Str.Pattern.{strip_prefix_char}
use Rattle.ix_machine_inputs.proofs.Named.{behind, no_dot, dotted}
use Rattle.ix_machine_inputs.proofs.entries.is_name.Goals as goal

pub returns-in_default-strip_prefix : goal.returns-in_default-strip_prefix
returns-in_default-strip_prefix c =
    no_dot c.args.entry.now c.args.class.now c.in-Some.rest.now c.args.method.now (behind c.args.entry.now c.args.class.now c.in-Some.rest.now c.in-Some.ensures.cases)
    (strip_prefix_char 46 c.in-Some.rest.now None c.in_default-strip_prefix.ensures.cases (lit< tt))

pub returns : goal.returns
returns c =
    c.eq.ensures ∙ dotted c.args.entry.now c.args.class.now c.in-Some.rest.now c.in-Some-strip_prefix.name.now c.args.method.now (behind c.args.entry.now c.args.class.now c.in-Some.rest.now c.in-Some.ensures.cases)
    (strip_prefix_char 46 c.in-Some.rest.now (Some c.in-Some-strip_prefix.name) c.in-Some-strip_prefix.ensures.cases (lit< tt))
