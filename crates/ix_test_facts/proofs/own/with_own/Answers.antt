use Rattle.std.proofs.Common.{◌≡◌, Bool, [], ◌∷◌, ◌++◌, if◌then◌else◌, append_assoc, take, ap, ◌∙◌}
use Rattle.ix_text.proofs.Chained.{both_ok, ok_then, where_ok, on_mapped}
use Rattle.ix_test_facts.proofs.own.with_own.Goals as goal

pub returns : goal.returns
returns c =
    let own = c.args.own in
    let lesser = c.split_at.result.0.now in
    let rest = c.split_at.result.1.now in
    let first = c.extend_from_slice.new.self.items in
    let second = c.push.new.self.items in
    let front = c.split_at.ensures.front in
    let back = c.split_at.ensures.back in
    ok_then c.and-2.result c.extend_from_slice-2.new.self c.and-3.result _ _ c.and-3.ensures
    (both_ok c.and.result c.extend_from_slice-2.result c.and-2.result _ _ _ c.and-2.ensures
    (both_ok c.extend_from_slice.result c.map_err.result c.and.result _ _ _ c.and.ensures (where_ok c.extend_from_slice.result _ _ _ c.extend_from_slice.ensures.items)
    (on_mapped c.push.result c.map_err.result (second ≡ first ++ own ∷ []) c.map_err.ensures.variant (λ well. c.push.ensures.items ∙ ap (λ (b : Bool). if b then first ++ own ∷ [] else first) well))
    (λ one two. two ∙ ap (λ l. l ++ own ∷ []) (one ∙ ap (λ l. l ++ lesser) c.in_ok-all.ensures.items)))
    (where_ok c.extend_from_slice-2.result _ _ _ c.extend_from_slice-2.ensures.items)
    (λ before is. is ∙ (ap (λ l. l ++ rest) before ∙ (append_assoc lesser (own ∷ []) rest ∙ (ap (λ l. l ++ own ∷ rest) front ∙ ap (λ l. take c.args.count c.args.facts.now ++ own ∷ l) back)))))
    (λ all. all)
