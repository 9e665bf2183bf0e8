use Rattle.std.proofs.Common.{◌∙◌, refl, ap, [], None, Some, codes, option_map}
use Rattle.ix_words.specs.Shown.{shown}
use Rattle.ix_words.specs.Commands.{guard_options, guard_of}
use Rattle.ix_words.proofs.Found.{said, some_rest, no_rest, some_text, no_guard, one_guard, says_text}
use Rattle.ix_words.proofs.commands.guard.Goals as goal

pub returns-in_err-words-clause-command : goal.returns-in_err-words-clause-command
returns-in_err-words-clause-command c = λ q says. ap (option_map shown) c.from_residual.ensures ∙ said guard_options guard_of q c.args.matches.now [] None says (no_rest c.args.matches.now c.in_err-words.ensures) refl

pub returns-then-words-ne1-clause-command : goal.returns-then-words-ne1-clause-command
returns-then-words-ne1-clause-command c = λ q says.
    said guard_options guard_of q c.args.matches.now c.in_ok-words.words.now None says (some_rest c.args.matches.now c.in_ok-words.words.now c.in_ok-words.ensures) (no_guard q c.in_ok-words.words.now c.if-words-ne1.true)

pub returns-in_err-sums-clause-command : goal.returns-in_err-sums-clause-command
returns-in_err-sums-clause-command c = λ q says.
    let m = c.args.matches.now in
    let list = c.in_ok-words.words.now in
    ap (option_map shown) c.from_residual-in_err-sums.ensures ∙ said guard_options guard_of q m list _ says (some_rest m list c.in_ok-words.ensures)
    (one_guard q list some_text None _ c.if-words-ne1.false c.in_err-sums.ensures (c.get_str.ensures ∙ says_text guard_options q m (codes "sums") refl says))

pub returns-clause-command : goal.returns-clause-command
returns-clause-command c = λ q says.
    let m = c.args.matches.now in
    let list = c.in_ok-words.words.now in
    said guard_options guard_of q m list _ says (some_rest m list c.in_ok-words.ensures)
    (one_guard q list some_text (Some c.in_ok-sums.sums) _ c.if-words-ne1.false c.in_ok-sums.ensures (c.get_str.ensures ∙ says_text guard_options q m (codes "sums") refl says))
