use Rattle.std.proofs.Common.{lit<, ◌++◌, ◌∷◌, [], None, Some}
use Rattle.std.proofs.lemmas.Str.Pattern.{strip_prefix_char, strip_suffix_char}
use Rattle.ix_machine_inputs.proofs.Written.{bracketed}
use Rattle.ix_machine_inputs.proofs.words.within.Goals as goal

pub returns-in_default : goal.returns-in_default
returns-in_default c = λ inner e. strip_prefix_char 91 c.args.word.now None c.in_default.ensures.cases (lit< tt) (inner ++ 93 ∷ []) e

pub returns : goal.returns
returns c = bracketed c.args.word.now c.in-Some.rest.now c.strip_suffix.result (strip_prefix_char 91 c.args.word.now (Some c.in-Some.rest) c.in-Some.ensures.cases (lit< tt)) (strip_suffix_char 93 c.in-Some.rest.now c.strip_suffix.result c.strip_suffix.ensures.cases (lit< tt))
