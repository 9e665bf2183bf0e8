use Rattle.std.proofs.Common.{sym, ap, ◌∙◌, subst, arith}
use Rattle.std.specs.Result.{result_ok}
use Rattle.std.specs.Str.{IsAscii}
use Rattle.std.proofs.lemmas.Fmt.{IsAscii-decimal, parse-decimal}
use Rattle.ix_cert.proofs.words.number.Goals as goal

pub returns-in_err-text : goal.returns-in_err-text
returns-in_err-text c = λ n small e. absurd (c.in_err-text.ensures (subst IsAscii (sym e) (IsAscii-decimal n (omega arith))))

pub returns : goal.returns
returns c = λ n small e.
    let same = c.in_ok-text.ensures (subst IsAscii (sym e) (IsAscii-decimal n (omega arith))) in
    let parsed = parse-decimal 32 n c.in_ok-text.text.now c.parse.result small (omega arith) (same ∙ e) c.parse.ensures.value.0 in
    c.ok.ensures.value ∙ ap result_ok parsed
