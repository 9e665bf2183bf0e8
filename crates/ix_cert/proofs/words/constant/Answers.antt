use Rattle.std.proofs.Common.{sym, ap, ◌∙◌, subst, w32}
use Rattle.std.specs.Result.{result_ok}
use Rattle.std.specs.Str.{IsAscii}
use Rattle.std.proofs.lemmas.Fmt.{IsAscii-signed, parse-signed_decimal}
use Rattle.ix_cert.proofs.Numbers.{int_small, fits_w32}
use Rattle.ix_cert.proofs.words.constant.Goals as goal

pub returns-in_err-text : goal.returns-in_err-text
returns-in_err-text c = λ n int e. absurd (c.in_err-text.ensures (subst IsAscii (sym e) (IsAscii-signed n (int_small n int))))

pub returns : goal.returns
returns c = λ n int e.
    let same = c.in_ok-text.ensures (subst IsAscii (sym e) (IsAscii-signed n (int_small n int))) in
    let parsed = parse-signed_decimal w32 n c.in_ok-text.text.now c.parse.result (fits_w32 n int) (int_small n int) (same ∙ e) c.parse.ensures.value.0 in
    c.ok.ensures.value ∙ ap result_ok parsed
