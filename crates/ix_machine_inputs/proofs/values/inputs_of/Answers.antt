use Rattle.std.proofs.Common.{◌≡◌, ◌<◌, ◌+◌, arith, map, ℕ, List, Bor, length, refl, ◌∙◌}
use Rattle.std.proofs.lemmas.Option.{slice_get-get_or, slice_get_read}
use Rattle.ix_machine_inputs.specs.Shown.{input_of}
use Rattle.ix_machine_inputs.proofs.Listed.{first_wrong, more_listed, one_more, as_many}
use Rattle.ix_machine_inputs.proofs.Parameters.{shown_at}
use Rattle.ix_machine_inputs.proofs.values.inputs_of.Goals as goal

pub returns-in_default-clause-wrong : goal.returns-in_default-clause-wrong
returns-in_default-clause-wrong c = λ number is.
    let told = c.in_ok-input.ensures in let none = rw c.in_default.is at told in
    let within : c.loop-number.number < length c.args.words.now = omega (arith, c.loop-number-test.true) in
    let counted : number ≡ c.loop-number.number + 1 = cc in
    first_wrong c.args.types.now (map (λ (word : Bor (List ℕ)). word.now) c.args.words.now) (map input_of c.loop-number.inputs) c.loop-number.number number c.index-types-number.result _
    (slice_get_read c.args.types.now _ c.loop-number.number c.index-types-number.result refl c.loop-number-test.true c.index-types-number.is)
    (shown_at (λ (word : Bor (List ℕ)). word.now) c.args.words.now c.loop-number.number _ (slice_get-get_or c.args.words.now c.loop-number.number _ within))
    none c.loop-number.invariant.values (as_many input_of c.loop-number.inputs ∙ c.loop-number.invariant.count) counted

pub loop-number-preserved : goal.loop-number-preserved
loop-number-preserved c =
    let told = c.in_ok-input.ensures in let value = rw c.in-Some.is at told in
    let within : c.loop-number.number < length c.args.words.now = omega (arith, c.loop-number-test.true) in
    record {
      values = rw c.in_ok-push.ensures.added (more_listed input_of c.args.types.now (map (λ (word : Bor (List ℕ)). word.now) c.args.words.now) c.loop-number.inputs c.loop-number.number c.index-types-number.result _ c.in-Some.input
          (slice_get_read c.args.types.now _ c.loop-number.number c.index-types-number.result refl c.loop-number-test.true c.index-types-number.is)
          (shown_at (λ (word : Bor (List ℕ)). word.now) c.args.words.now c.loop-number.number _ (slice_get-get_or c.args.words.now c.loop-number.number _ within)) value c.loop-number.invariant.values);
      count = rw c.in_ok-push.ensures.added (one_more c.loop-number.inputs c.in-Some.input c.loop-number.number c.loop-number.invariant.count);
    }
