use Rattle.std.proofs.Common.{◌≡◌, ◌≢◌, ℕ, List, ◌++◌}
use Rattle.std.proofs.lemmas.Bool.Decides.{Decides-eqb}
use Rattle.std.proofs.lemmas.Slice.Eq.{strip_prefix_is}
use Rattle.ix_cert.proofs.Found.{some_of, none_of}
use Rattle.ix_cert.proofs.cut.behind.Goals as goal

pub returns-clause-found : goal.returns-clause-found
returns-clause-found c =
    let text = c.args.text.now in
    let first = c.args.first.now in
    some_of c.strip_prefix.result ((rest : List ℕ) → text ≢ first ++ rest) (λ x. text ≡ first ++ x.now) (strip_prefix_is Decides-eqb text first c.strip_prefix.result c.strip_prefix.ensures.cases)

pub returns-clause-none : goal.returns-clause-none
returns-clause-none c =
    let text = c.args.text.now in
    let first = c.args.first.now in
    none_of c.strip_prefix.result ((rest : List ℕ) → text ≢ first ++ rest) (λ x. text ≡ first ++ x.now) (strip_prefix_is Decides-eqb text first c.strip_prefix.result c.strip_prefix.ensures.cases)
