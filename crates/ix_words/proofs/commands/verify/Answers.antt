use Rattle.std.proofs.Common.{◌∙◌, refl, ap, [], None, codes, option_map}
use Rattle.ix_words.specs.Shown.{shown}
use Rattle.ix_words.specs.Commands.{verify_options, verify_of}
use Rattle.ix_words.proofs.Found.{said, some_rest, no_rest, some_text, no_verify, one_verify, says_has}
use Rattle.ix_words.proofs.commands.verify.Goals as goal

pub returns-in_err-words-clause-command : goal.returns-in_err-words-clause-command
returns-in_err-words-clause-command c = λ q says. ap (option_map shown) c.from_residual.ensures ∙ said verify_options verify_of q c.args.matches.now [] None says (no_rest c.args.matches.now c.in_err-words.ensures) refl

pub returns-then-words-ne2-clause-command : goal.returns-then-words-ne2-clause-command
returns-then-words-ne2-clause-command c = λ q says.
    said verify_options verify_of q c.args.matches.now c.in_ok-words.words.now None says (some_rest c.args.matches.now c.in_ok-words.words.now c.in_ok-words.ensures) (no_verify q c.in_ok-words.words.now c.if-words-ne2.true)

pub returns-clause-command : goal.returns-clause-command
returns-clause-command c = λ q says.
    let m = c.args.matches.now in
    let list = c.in_ok-words.words.now in
    said verify_options verify_of q m list _ says (some_rest m list c.in_ok-words.ensures)
    (one_verify q list some_text c.contains_id.result c.if-words-ne2.false (c.contains_id.ensures ∙ says_has verify_options q m (codes "library") refl says))
