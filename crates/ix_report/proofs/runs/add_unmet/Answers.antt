use Rattle.std.proofs.Common.{◌≡◌, ℕ, List, [], ◌∷◌, ◌++◌, ap, ◌∙◌, string_bytes}
use Rattle.std.specs.Prelude.{codes, decimal}
use Rattle.ix_report.specs.Claims as spec
use Rattle.ix_text.proofs.Chained.{both_ok}
use Rattle.ix_report.proofs.Regrouped.{refused_input}
use Rattle.ix_report.proofs.runs.add_unmet.Goals as goal

pub returns : goal.returns
returns c =
    let text : List ℕ = string_bytes c.args.text.now in
    let claim : List ℕ = spec.claim c.args.program.now c.args.method c.args.claim in
    both_ok c.and.result c.write-2.result c.and-2.result (string_bytes c.add_claim.new.text ≡ (text ++ (codes "inputs: input " ++ (decimal c.args.number ++ codes " does not meet "))) ++ claim) _ _ c.and-2.ensures
    (both_ok c.write.result c.add_claim.result c.and.result _ _ _ c.and.ensures c.write.ensures.bytes c.add_claim.ensures (λ one two. two ∙ ap (λ t. t ++ claim) one))
    c.write-2.ensures.bytes (λ two is. is ∙ ap (λ t. t ++ 10 ∷ []) two ∙ refused_input text (codes "inputs: input ") (decimal c.args.number) (codes " does not meet ") claim (10 ∷ []))
