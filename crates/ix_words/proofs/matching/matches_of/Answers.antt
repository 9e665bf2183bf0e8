use Rattle.std.proofs.Common.{◌≡◌, ◌∙◌, true, drop, map, string_bytes, arith, ap, sym}
use Rattle.clap.specs.Words.{app_of, found_of, rows_of, rule_of, with_rule, Rule, kind_of, subcommand_of, subcommand_rows_of}
use Rattle.ix_words.specs.Words.{are_fit}
use Rattle.ix_words.specs.Clap.{option_named}
use Rattle.ix_words.proofs.Apps.{app_step, app_whole, first_word, rest_words, some_name, whole_app, accepted_by, refused_by}
use Rattle.ix_words.proofs.matching.matches_of.Goals as goal

pub loop-name-preserved : goal.loop-name-preserved
loop-name-preserved c =
    app_step c.args.options.now c.loop-name.name-index some_name (omega arith) (app_of c.loop-name.command) (app_of c.in_ok-command.command) c.loop-name.invariant
    (c.in_ok-command.ensures.shape c.option.ensures.local ∙ ap (λ (r : Rule). with_rule (app_of c.loop-name.command) r) c.option.ensures.rule)

pub returns-in-Ok : goal.returns-in-Ok
returns-in-Ok c =
    let options = map option_named c.args.options.now in
    let xs = map string_bytes c.args.words.now in
    let app_is : app_of c.in_ok-command-2.command ≡ whole_app options =
    app_whole c.args.options.now c.loop-name.name-index (omega arith) (app_of c.loop-name.command) (app_of c.in_ok-command-2.command) (rule_of c.positionals.result) c.loop-name.invariant
    (c.in_ok-command-2.ensures.shape c.positionals.ensures.local) c.positionals.ensures.rule in
    let f : c.are_words_fit.result ≡ true = c.if-not-are_words_fit.false in
    let fit : are_fit (drop 1 xs) ≡ true = ap are_fit (sym (rest_words string_bytes c.args.words.now)) ∙ (sym c.are_words_fit.ensures ∙ f) in
    accepted_by options xs c.requires.free (first_word string_bytes c.args.words.now c.requires.some) fit (app_of c.in_ok-command-2.command) app_is
    (subcommand_rows_of c.in-Ok.matches ≡ subcommand_of (app_of c.in_ok-command-2.command) xs) (rows_of (found_of c.in-Ok.matches)) c.in-Ok.ensures.kinds c.in-Ok.ensures.matches

pub returns : goal.returns
returns c =
    let options = map option_named c.args.options.now in
    let xs = map string_bytes c.args.words.now in
    let app_is : app_of c.in_ok-command-2.command ≡ whole_app options =
    app_whole c.args.options.now c.loop-name.name-index (omega arith) (app_of c.loop-name.command) (app_of c.in_ok-command-2.command) (rule_of c.positionals.result) c.loop-name.invariant
    (c.in_ok-command-2.ensures.shape c.positionals.ensures.local) c.positionals.ensures.rule in
    let f : c.are_words_fit.result ≡ true = c.if-not-are_words_fit.false in
    let fit : are_fit (drop 1 xs) ≡ true = ap are_fit (sym (rest_words string_bytes c.args.words.now)) ∙ (sym c.are_words_fit.ensures ∙ f) in
    refused_by options xs c.requires.free (first_word string_bytes c.args.words.now c.requires.some) fit (app_of c.in_ok-command-2.command) app_is
    (kind_of c.in-Err.error) (λ m. c.in_default.not-OutOfMemory (c.kind.ensures ∙ m)) c.in-Err.ensures.kinds
