use Rattle.std.proofs.Common.{◌∙◌, refl, [], None, Some, codes}
use Rattle.ix_words.specs.Commands.{run_options, run_of, has_library, has_trace}
use Rattle.ix_words.proofs.Found.{said, some_rest, no_rest, some_text, no_run, one_run, says_text, says_has}
use Rattle.ix_words.proofs.commands.run.Goals as goal

pub returns-in_default-clause-command : goal.returns-in_default-clause-command
returns-in_default-clause-command c = λ q says. said run_options run_of q c.args.matches.now [] _ says (no_rest c.args.matches.now c.in_default.ensures) refl

pub returns-then-words-lt2-clause-command : goal.returns-then-words-lt2-clause-command
returns-then-words-lt2-clause-command c = λ q says.
    said run_options run_of q c.args.matches.now c.in-Some.words.now None says (some_rest c.args.matches.now c.in-Some.words.now c.in-Some.ensures) (no_run q c.in-Some.words.now c.if-words-lt2.true)

pub returns-in_default-read_limits-clause-command : goal.returns-in_default-read_limits-clause-command
returns-in_default-read_limits-clause-command c = λ q says.
    let m = c.args.matches.now in
    let list = c.in-Some.words.now in
    said run_options run_of q m list _ says (some_rest m list c.in-Some.ensures)
    (one_run q list some_text None _ _ _ _ (has_trace q) (has_library q) c.if-words-lt2.false c.in_default-read_limits.ensures.limits
    (c.get_str.ensures ∙ says_text run_options q m (codes "steps") refl says) (c.get_str-2.ensures ∙ says_text run_options q m (codes "cells") refl says) (c.get_str-3.ensures ∙ says_text run_options q m (codes "frames") refl says) refl refl refl)

pub returns-clause-command : goal.returns-clause-command
returns-clause-command c = λ q says.
    let m = c.args.matches.now in
    let list = c.in-Some.words.now in
    said run_options run_of q m list _ says (some_rest m list c.in-Some.ensures)
    (one_run q list some_text (Some c.in-Some-read_limits.limits) _ _ _ _ c.contains_id.result c.contains_id-2.result c.if-words-lt2.false c.in-Some-read_limits.ensures.limits
    (c.get_str.ensures ∙ says_text run_options q m (codes "steps") refl says) (c.get_str-2.ensures ∙ says_text run_options q m (codes "cells") refl says) (c.get_str-3.ensures ∙ says_text run_options q m (codes "frames") refl says) c.in_ok-inputs.ensures
    (c.contains_id.ensures ∙ says_has run_options q m (codes "trace") refl says) (c.contains_id-2.ensures ∙ says_has run_options q m (codes "library") refl says))
