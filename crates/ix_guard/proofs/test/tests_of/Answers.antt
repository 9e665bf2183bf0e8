use Rattle.std.proofs.Common.{rules, ◌≡◌, ℕ, ◌<◌, ◌+◌, suc, List, ◌∷◌, ◌++◌, drop, get_or, length, map, arith, add-one, ap, sym, refl, ◌∙◌}
use Rattle.std.proofs.Math.Seq.{drop-cons}
use Rattle.std.specs.Prelude.{string_bytes}
use Rattle.ix_guard.specs.declared.parts.Access.{Access}
use Rattle.ix_guard.specs.Shown.{seen, site_of, changes_of}
use Rattle.ix_guard.specs.Tests as spec
use Rattle.ix_guard.proofs.Sums.{none_left}
use Rattle.ix_guard.proofs.test.tests_of.Goals as goal

cut : (accesses : List Access) (index : ℕ) (access : Access) → index < length accesses → access ≡ get_or accesses index access → drop index accesses ≡ access ∷ drop (index + 1) accesses
cut accesses index access within is = drop-cons accesses index access within ∙ (ap (λ a. a ∷ drop (suc index) accesses) (sym is) ∙ rw add-one refl)

pub loop-access-preserved : goal.loop-access-preserved
loop-access-preserved c =
    let site = site_of c.args.site.now in
    let changes = changes_of c.args.changes.now in
    let accesses = c.args.accesses.now in
    let index = c.loop-access.access-index in
    c.in_ok-add_tested.ensures (map seen (drop (index + 1) accesses))
    ∙ (ap (λ rest. string_bytes c.loop-access.text ++ spec.tests_behind site changes c.loop-access.pairs.items (map seen rest)) (sym (cut accesses index c.access-item.result (omega (arith, c.loop-access-test.true)) c.access-item.is))
    ∙ c.loop-access.invariant)

pub returns : goal.returns
returns c =
    let site = site_of c.args.site.now in
    let changes = changes_of c.args.changes.now in
    none_left (λ (rest : List Access). spec.tests_behind site changes c.loop-access.pairs.items (map seen rest)) refl c.args.accesses.now c.loop-access.access-index _ _ (search rules) c.loop-access.invariant
