use Rattle.std.proofs.Common.{◌≡◌, Bool, if◌then◌else◌, List, [], ◌∷◌, ◌++◌, ap, ◌∙◌}
use Rattle.ix_guard.specs.Shown.{seen, site_of, changes_of}
use Rattle.ix_guard.specs.Tests.{Pair, is_tested}
use Rattle.ix_text.proofs.Chained.{both_ok, on_mapped}
use Rattle.ix_guard.proofs.Tested.{tested_one}
use Rattle.ix_guard.proofs.test.add_tested.Goals as goal

pub returns : goal.returns
returns c =
    let pairs : List Pair = c.args.pairs.now.items in
    let pair : Pair = c.pair_of.result in
    both_ok c.add_test.result c.map_err.result c.and.result _ (c.push.new.self.items ≡ pairs ++ pair ∷ []) _ c.and.ensures c.add_test.ensures
    (on_mapped c.push.result c.map_err.result _ c.map_err.ensures.variant (λ well. c.push.ensures.items ∙ ap (λ (b : Bool). if b then pairs ++ pair ∷ [] else pairs) well))
    (λ written added rest. tested_one (site_of c.args.site.now) (changes_of c.args.changes.now) pairs c.push.new.self.items pair (seen c.args.access.now) rest c.is_tested.result _ _
    (c.is_tested.ensures ∙ ap (λ p. is_tested (site_of c.args.site.now) (changes_of c.args.changes.now) p (seen c.args.access.now)) c.deref.ensures.value) c.if-not-is_tested.false written added c.pair_of.ensures)
