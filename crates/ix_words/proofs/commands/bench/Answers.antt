use Rattle.std.proofs.Common.{◌∙◌, refl, ap, [], None, Some, option_map}
use Rattle.ix_words.specs.Shown.{shown}
use Rattle.ix_words.specs.Commands.{bench_options, bench_of}
use Rattle.ix_words.proofs.Found.{said, some_rest, no_rest, some_text, no_bench, one_bench}
use Rattle.ix_words.proofs.commands.bench.Goals as goal

pub returns-in_err-words-clause-command : goal.returns-in_err-words-clause-command
returns-in_err-words-clause-command c = λ q says. ap (option_map shown) c.from_residual.ensures ∙ said bench_options bench_of q c.args.matches.now [] None says (no_rest c.args.matches.now c.in_err-words.ensures) refl

pub returns-then-words-ne1-clause-command : goal.returns-then-words-ne1-clause-command
returns-then-words-ne1-clause-command c = λ q says.
    said bench_options bench_of q c.args.matches.now c.in_ok-words.words.now None says (some_rest c.args.matches.now c.in_ok-words.words.now c.in_ok-words.ensures) (no_bench q c.in_ok-words.words.now c.if-words-ne1.true)

pub returns-in-Some-clause-command : goal.returns-in-Some-clause-command
returns-in-Some-clause-command c = λ q says.
    let m = c.args.matches.now in
    let list = c.in_ok-words.words.now in
    said bench_options bench_of q m list _ says (some_rest m list c.in_ok-words.ensures)
    (one_bench q list some_text (Some c.in-Some.count) c.if-words-ne1.false c.in-Some.ensures.value)

pub returns-in-None-clause-command : goal.returns-in-None-clause-command
returns-in-None-clause-command c = λ q says.
    let m = c.args.matches.now in
    let list = c.in_ok-words.words.now in
    said bench_options bench_of q m list _ says (some_rest m list c.in_ok-words.ensures)
    (one_bench q list some_text None c.if-words-ne1.false c.in-None.ensures.value)
