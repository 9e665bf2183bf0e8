use Rattle.std.proofs.Common.{◌∙◌, refl, ap, [], None, Some, codes, option_map}
use Rattle.ix_words.specs.Shown.{shown}
use Rattle.ix_words.specs.Commands.{check_options, check_of, has_library, has_certificate}
use Rattle.ix_words.proofs.Found.{said, some_rest, no_rest, some_text, no_check, one_check, says_text, says_has}
use Rattle.ix_words.proofs.commands.check.Goals as goal

pub returns-in_err-words-clause-command : goal.returns-in_err-words-clause-command
returns-in_err-words-clause-command c = λ q says. ap (option_map shown) c.from_residual.ensures ∙ said check_options check_of q c.args.matches.now [] None says (no_rest c.args.matches.now c.in_err-words.ensures) refl

pub returns-then-words-ne1-clause-command : goal.returns-then-words-ne1-clause-command
returns-then-words-ne1-clause-command c = λ q says.
    said check_options check_of q c.args.matches.now c.in_ok-words.words.now None says (some_rest c.args.matches.now c.in_ok-words.words.now c.in_ok-words.ensures) (no_check q c.in_ok-words.words.now c.if-words-ne1.true)

pub returns-in_err-sums-clause-command : goal.returns-in_err-sums-clause-command
returns-in_err-sums-clause-command c = λ q says.
    let m = c.args.matches.now in
    let list = c.in_ok-words.words.now in
    ap (option_map shown) c.from_residual-in_err-sums.ensures ∙ said check_options check_of q m list _ says (some_rest m list c.in_ok-words.ensures)
    (one_check q list some_text None _ (has_certificate q) (has_library q) c.if-words-ne1.false c.in_err-sums.ensures (c.get_str.ensures ∙ says_text check_options q m (codes "sums") refl says) refl refl)

pub returns-clause-command : goal.returns-clause-command
returns-clause-command c = λ q says.
    let m = c.args.matches.now in
    let list = c.in_ok-words.words.now in
    said check_options check_of q m list _ says (some_rest m list c.in_ok-words.ensures)
    (one_check q list some_text (Some c.in_ok-sums.sums) _ c.contains_id.result c.contains_id-2.result c.if-words-ne1.false c.in_ok-sums.ensures (c.get_str.ensures ∙ says_text check_options q m (codes "sums") refl says)
    (c.contains_id.ensures ∙ says_has check_options q m (codes "certificate") refl says) (c.contains_id-2.ensures ∙ says_has check_options q m (codes "library") refl says))
