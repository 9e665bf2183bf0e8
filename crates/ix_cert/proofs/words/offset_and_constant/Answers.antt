use Rattle.std.proofs.Common.{sym, ◌∙◌, arith}
use Rattle.std.specs.Fmt.{signed_decimal}
use Rattle.ix_cert.specs.Reading.{offset_text}
use Rattle.ix_cert.proofs.Bytes.{lacks_no, cut_once, none_some, some_same}
use Rattle.ix_cert.proofs.Orders.{offset_lacks}
use Rattle.ix_cert.proofs.Numbers.{read_w32}
use Rattle.ix_cert.proofs.words.offset_and_constant.Goals as goal

pub returns-in_err-first : goal.returns-in_err-first
returns-in_err-first c = λ o k x y e. absurd (lacks_no 32 c.args.text.now (offset_text o) (signed_decimal k) c.in_err-first.ensures.none e)

pub returns-in_err-offset : goal.returns-in_err-offset
returns-in_err-offset c = λ o k x y e.
    let cut = c.in_ok-first.ensures.found in
    let same = cut_once 32 _ _ (offset_text o) (signed_decimal k) cut.0 (offset_lacks 32 o (omega arith) (omega arith) x) (sym cut.1 ∙ e) in
    absurd (none_some o (c.in_err-offset.ensures o x same.0))

pub returns-in_err-constant : goal.returns-in_err-constant
returns-in_err-constant c = λ o k x y e.
    let cut = c.in_ok-first.ensures.found in
    let same = cut_once 32 _ _ (offset_text o) (signed_decimal k) cut.0 (offset_lacks 32 o (omega arith) (omega arith) x) (sym cut.1 ∙ e) in
    absurd (none_some k (c.in_err-constant.ensures k y same.1))

pub returns : goal.returns
returns c = λ o k x y e.
    let cut = c.in_ok-first.ensures.found in
    let same = cut_once 32 _ _ (offset_text o) (signed_decimal k) cut.0 (offset_lacks 32 o (omega arith) (omega arith) x) (sym cut.1 ∙ e) in
    (some_same c.in_ok-offset.field-0 o (c.in_ok-offset.ensures o x same.0), read_w32 _ k y (some_same c.in_ok-constant.field-0 k (c.in_ok-constant.ensures k y same.1)))
