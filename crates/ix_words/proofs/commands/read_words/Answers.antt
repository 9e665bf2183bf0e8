use Rattle.std.proofs.Common.{◌≡◌, ◌∙◌, sym, ap, subst, false, Bool, List, [], ◌∷◌, drop, length, get_or, string_bytes}
use Rattle.std.specs.Bool.{◌==◌}
use Rattle.std.specs.Prelude.{IfOk, String, option_map}
use Rattle.std.specs.declared.alloc.Global.{Global}
use Rattle.ix_words.specs.Commands.{command_of}
use Rattle.ix_words.specs.Kinds.{options_in, made_in}
use Rattle.ix_words.specs.Clap.{Reads}
use Rattle.ix_words.specs.Shown.{shown, words_of}
use Rattle.ix_words.proofs.Found.{answered, refused}
use Rattle.ix_words.proofs.commands.read_words.Goals as goal

-- the first word, and those behind it
parted : (words : List (String Global)) (first : String Global) (none : Bool) → none ≡ (length words == 0) → none ≡ false → first ≡ get_or words 0 first → string_bytes first ∷ drop 1 (words_of words) ≡ words_of words
parted [] first none are is at = cc
parted (word ∷ words) first none are is at = ap (λ w. string_bytes w ∷ words_of words) at

pub returns-clause-command : goal.returns-clause-command
returns-clause-command c =
    let words = c.args.words.now in
    let whole : c.as_str.result.now ∷ drop 1 (words_of words) ≡ words_of words = ap (λ first. first ∷ drop 1 (words_of words)) c.as_str.ensures.value ∙ parted words c.index-words-0.result c.is_empty.result c.is_empty.ensures c.if-is_empty.false c.index-words-0.is in
    subst (λ all. IfOk c.made.result (λ r. option_map shown r ≡ command_of all)) whole
    (answered c.in-Some.kind c.as_str.result.now (drop 1 (words_of words)) _ c.in_ok-matches.field-0 c.in-Some-2.matches c.made.result c.options.ensures c.in_ok-matches.ensures c.in-Some-2.is (c.in-Some.ensures.some (drop 1 (words_of words))) c.made.ensures.command)

pub returns-in_default-2-clause-command : goal.returns-in_default-2-clause-command
returns-in_default-2-clause-command c =
    let kind = c.in-Some.kind in
    let words = c.args.words.now in
    let rest = drop 1 (words_of words) in
    let whole : c.as_str.result.now ∷ rest ≡ words_of words = ap (λ first. first ∷ rest) c.as_str.ensures.value ∙ parted words c.index-words-0.result c.is_empty.result c.is_empty.ensures c.if-is_empty.false c.index-words-0.is in
    refused (options_in kind) (made_in kind) rest c.in_ok-matches.field-0 (subst (λ names. Reads names rest c.in_ok-matches.field-0) c.options.ensures c.in_ok-matches.ensures) c.in_default-2.is ∙ sym (c.in-Some.ensures.some rest) ∙ ap command_of whole
