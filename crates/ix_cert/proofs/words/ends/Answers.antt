use Rattle.std.proofs.Common.{sym, ◌∙◌, arith}
use Rattle.std.specs.Fmt.{signed_decimal}
use Rattle.ix_cert.proofs.Bytes.{lacks_no, cut_once, signed_lacks, none_some, some_same}
use Rattle.ix_cert.proofs.Numbers.{read_w64}
use Rattle.ix_cert.proofs.words.ends.Goals as goal

pub returns-in_err-first : goal.returns-in_err-first
returns-in_err-first c = λ l k x y e. absurd (lacks_no 32 c.args.text.now (signed_decimal l) (signed_decimal k) c.in_err-first.ensures.none e)

pub returns-in_err-end : goal.returns-in_err-end
returns-in_err-end c = λ l k x y e.
    let cut = c.in_ok-first.ensures.found in
    let same = cut_once 32 _ _ (signed_decimal l) (signed_decimal k) cut.0 (signed_lacks 32 l (omega arith) (λ k. omega arith) x) (sym cut.1 ∙ e) in
    absurd (none_some l (c.in_err-end.ensures l x same.0))

pub returns-in_err-end-2 : goal.returns-in_err-end-2
returns-in_err-end-2 c = λ l k x y e.
    let cut = c.in_ok-first.ensures.found in
    let same = cut_once 32 _ _ (signed_decimal l) (signed_decimal k) cut.0 (signed_lacks 32 l (omega arith) (λ k. omega arith) x) (sym cut.1 ∙ e) in
    absurd (none_some k (c.in_err-end-2.ensures k y same.1))

pub returns : goal.returns
returns c = λ l k x y e.
    let cut = c.in_ok-first.ensures.found in
    let same = cut_once 32 _ _ (signed_decimal l) (signed_decimal k) cut.0 (signed_lacks 32 l (omega arith) (λ k. omega arith) x) (sym cut.1 ∙ e) in (
      read_w64 _ l x (some_same c.in_ok-end.field-0 l (c.in_ok-end.ensures l x same.0)),
      read_w64 _ k y (some_same c.in_ok-end-2.field-0 k (c.in_ok-end-2.ensures k y same.1)),
    )
