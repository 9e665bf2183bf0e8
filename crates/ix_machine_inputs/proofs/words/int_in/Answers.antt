use Rattle.std.proofs.Common.{sym, ◌∙◌, subst, to_z-of_z}
use Rattle.ix_num.specs.Ints.{IsInt}
use Rattle.ix_machine_inputs.proofs.Written.{read_back, no_error, one_value, not_written, fits}
use Rattle.ix_machine_inputs.proofs.words.int_in.Goals as goal

pub returns-in_default : goal.returns-in_default
returns-in_default c = λ n is e. no_error n c.parse.result c.in_default.field-0 c.in_default.is (read_back n c.args.word.now c.parse.result is e c.parse.ensures.value.0)

pub returns : goal.returns
returns c = λ n is e. let value = one_value n c.in-Ok.n c.parse.result c.in-Ok.is (read_back n c.args.word.now c.parse.result is e c.parse.ensures.value.0) in
    let own = subst IsInt (sym value) is in let fit = fits c.in-Ok.n own in let told = c.in_ok-written.ensures.ok in let shown = simp to_z-of_z at told in
    not_written c.as_str.result.now c.args.word.now n c.in-Ok.n c.if-eq.ensures (c.as_str.ensures.value ∙ shown) value e
