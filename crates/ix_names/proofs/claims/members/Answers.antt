use Rattle.std.proofs.Common.{rules, ◌≡◌, ◌+◌, Option, None, option_map, drop, sym, subst}
use Rattle.ix_tree.specs.declared.decl.LocalDecl.{LocalDecl}
use Rattle.ix_meaning.specs.Declarators as joint
use Rattle.ix_meaning.specs.Limits as spec
use Rattle.ix_names.specs.Counted as counts
use Rattle.ix_names.specs.Shown.{IsFine, shown}
use Rattle.ix_names.proofs.JointClaims.{found_in, on_in, fine_behind}
use Rattle.ix_names.proofs.claims.members.Goals as goal

pub returns-in-Some : goal.returns-in-Some
returns-in-Some c =
    found_in (option_map (λ first. first.now) c.loop-each.first) c.args.members.now c.loop-each.each-index c.each-item.result (shown c.in-Some.passed)
    (search rules) (search rules) (search rules) (search rules)

pub loop-each-preserved : goal.loop-each-preserved
loop-each-preserved c =
    let first = option_map (λ first. first.now) c.loop-each.first in
    let none : spec.past_claims (counts.annots_of (joint.member_in first c.each-item.result)) ≡ None = search rules in
    let passed = on_in first c.args.members.now c.loop-each.each-index c.each-item.result (search rules) (search rules) c.loop-each.invariant.passed none in
    record {
      fine = subst IsFine (sym c.first_behind-first.ensures) (fine_behind first c.each-item.result c.loop-each.invariant.fine none);
      passed = subst (λ (o : Option LocalDecl). spec.past_claims (spec.member_annots (joint.members_behind o (drop (c.loop-each.each-index + 1) c.args.members.now))) ≡ spec.past_claims (spec.member_annots (joint.members c.args.members.now)))
          (sym c.first_behind-first.ensures) passed;
    }
