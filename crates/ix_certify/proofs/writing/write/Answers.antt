use Rattle.std.proofs.Common.{rules, ◌≡◌, [], vec_len, arith, sym, ◌∙◌}
use Rattle.ix_core.proofs.Cases.{equal}
use Rattle.ix_check.specs.MethodErrors.{IsError}
use Rattle.ix_check.proofs.Lists.{none_listed}
use Rattle.ix_certify.proofs.Least.{no_items, some_error, accepted}
use Rattle.ix_certify.proofs.writing.write.Goals as goal

pub returns-clause-none : goal.returns-clause-none
returns-clause-none c =
    let some : c.in_ok-errors.errors.items ≡ [] → ⊥ = search rules in
    some_error (IsError c.args.program.now c.args.profile) c.in_ok-errors.errors.items c.in_ok-errors.ensures.errors some

pub returns-then-is_empty-clause-some : goal.returns-then-is_empty-clause-some
returns-then-is_empty-clause-some c =
    let zero : vec_len c.in_ok-errors.errors ≡ 0 = equal (vec_len c.in_ok-errors.errors) 0 (sym c.is_empty.ensures ∙ c.if-is_empty.true) in
    let empty = no_items c.in_ok-errors.errors.items (omega (arith, zero, c.in_ok-errors.errors.ok.0)) in
    none_listed (IsError c.args.program.now c.args.profile) c.in_ok-errors.errors.items c.in_ok-errors.ensures.errors empty

pub returns-then-is_empty-clause-accepted : goal.returns-then-is_empty-clause-accepted
returns-then-is_empty-clause-accepted c =
    let zero : vec_len c.in_ok-errors.errors ≡ 0 = equal (vec_len c.in_ok-errors.errors) 0 (sym c.is_empty.ensures ∙ c.if-is_empty.true) in
    let empty = no_items c.in_ok-errors.errors.items (omega (arith, zero, c.in_ok-errors.errors.ok.0)) in
    let none = none_listed (IsError c.args.program.now c.args.profile) c.in_ok-errors.errors.items c.in_ok-errors.ensures.errors empty in
    accepted c.args.program.now c.args.profile c.in_ok-text.text.items c.requires.formed (c.can_verify.ensures.can c.args.program.now c.requires.formed c.requires.can) none c.in_ok-text.ensures
