use Rattle.std.proofs.Common.{◌≡◌, ℕ, List, ◌++◌, ap, ◌∙◌, string_bytes}
use Rattle.std.specs.Str.{bytes_eq}
use Rattle.ix_report.specs.Reports.{detail_text}
use Rattle.ix_text.proofs.Chained.{both_ok, ok_then}
use Rattle.ix_report.proofs.once.same_detail.Goals as goal

pub returns : goal.returns
returns c =
    let first : List ℕ = detail_text c.args.program.now c.args.one in
    let second : List ℕ = detail_text c.args.program.now c.args.other in
    ok_then c.and.result c.eq.result c.and-2.result ((string_bytes c.add_detail.new.text ≡ first) × (string_bytes c.add_detail-2.new.text ≡ second)) _ c.and-2.ensures
    (both_ok c.add_detail.result c.add_detail-2.result c.and.result _ _ _ c.and.ensures c.add_detail.ensures c.add_detail-2.ensures
    (λ one two. (one ∙ ap (λ t. t ++ first) c.new-first.ensures.bytes, two ∙ ap (λ t. t ++ second) c.new-second.ensures.bytes)))
    (λ both. c.eq.ensures ∙ ap (λ t. bytes_eq t c.as_str-2.result.now) (c.as_str.ensures.value ∙ both.0) ∙ ap (λ t. bytes_eq first t) (c.as_str-2.ensures.value ∙ both.1))
