use Rattle.std.proofs.Common.{sym, ◌∙◌, arith}
use Rattle.ix_cert.specs.Lines.{path_text}
use Rattle.ix_cert.proofs.Bytes.{lacks_no, cut_once, path_lacks, none_some, some_same}
use Rattle.ix_cert.proofs.words.first_path.Goals as goal

pub returns-in_err-word : goal.returns-in_err-word
returns-in_err-word c = λ p rest small e. absurd (lacks_no 32 c.args.text.now (path_text p) rest c.in_err-word.ensures.none e)

pub returns-in_err-path : goal.returns-in_err-path
returns-in_err-path c = λ p rest small e.
    let cut = c.in_ok-word.ensures.found in
    let same = cut_once 32 c.in_ok-word.word.now c.in_ok-word.rest.now (path_text p) rest cut.0 (path_lacks 32 p (omega arith) small) (sym cut.1 ∙ e) in
    absurd (none_some p (c.in_err-path.ensures p small same.0))

pub returns : goal.returns
returns c = λ p rest small e.
    let cut = c.in_ok-word.ensures.found in
    let same = cut_once 32 c.in_ok-word.word.now c.in_ok-word.rest.now (path_text p) rest cut.0 (path_lacks 32 p (omega arith) small) (sym cut.1 ∙ e) in
    (some_same c.in_ok-path.field-0 p (c.in_ok-path.ensures p small same.0), same.1)
