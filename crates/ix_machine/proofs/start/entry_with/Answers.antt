use Rattle.std.proofs.Common.{arith, ap, sym, ℕ, List, Bor, Err, ◌∙◌}
use Rattle.ix_core.specs.declared.program.Method.{Method}
use Rattle.ix_machine.specs.Starts.{no_entry, wrong_count, wrong_kind}
use Rattle.ix_machine.proofs.Begun.{method_found, entry_found, counts, counts_not, values_found, wrong_found}
use Rattle.ix_machine.proofs.start.entry_with.Goals as goal

pub returns-in_default-clause-refused : goal.returns-in_default-clause-refused
returns-in_default-clause-refused c = λ cells. no_entry (sym c.in_default.ensures.place)

pub returns-then-words-types-clause-refused : goal.returns-then-words-types-clause-refused
returns-then-words-types-clause-refused c =
    let lookup = c.in-Some-get.ensures.lookup in let at = rw c.as_slice.ensures at lookup in
    let same = method_found c.args.program.now c.in-Some.place c.in-Ok.method c.in-Some-get.found.now c.in-Some.ensures.within at.1 c.in-Ok.ensures.1 in
    λ cells. wrong_count c.in-Ok.method (entry_found _ c.in-Some.place c.in-Ok.method c.in-Some.ensures.place c.in-Ok.ensures.1)
    (counts_not (λ (word : Bor (List ℕ)). word.now) c.args.words.now c.as_slice-types.result.now _ (c.as_slice-types.ensures ∙ ap (λ (m : Method). m.param_types) same) c.if-words-types.true)

pub returns-in-Ok-inputs_of-clause-given : goal.returns-in-Ok-inputs_of-clause-given
returns-in-Ok-inputs_of-clause-given c =
    let lookup = c.in-Some-get.ensures.lookup in let at = rw c.as_slice.ensures at lookup in
    let same = method_found c.args.program.now c.in-Some.place c.in-Ok.method c.in-Some-get.found.now c.in-Some.ensures.within at.1 c.in-Ok.ensures.1 in
    record {
      found = entry_found _ c.in-Some.place c.in-Ok.method c.in-Some.ensures.place c.in-Ok.ensures.1;
      values = values_found c.args.program.now c.in-Ok.method c.as_slice-types.result.now c.in-Some-get.found.now _ _ c.as_slice-types.ensures same c.in-Ok-inputs_of.ensures.inputs;
    }

pub returns-in-Ok-inputs_of-clause-found : goal.returns-in-Ok-inputs_of-clause-found
returns-in-Ok-inputs_of-clause-found c =
    let lookup = c.in-Some-get.ensures.lookup in let at = rw c.as_slice.ensures at lookup in
    method_found c.args.program.now c.in-Some.place c.in-Ok.method c.in-Some-get.found.now c.in-Some.ensures.within at.1 c.in-Ok.ensures.1

pub returns-in-Err-WrongKind-clause-refused : goal.returns-in-Err-WrongKind-clause-refused
returns-in-Err-WrongKind-clause-refused c =
    let lookup = c.in-Some-get.ensures.lookup in let at = rw c.as_slice.ensures at lookup in
    let same = method_found c.args.program.now c.in-Some.place c.in-Ok.method c.in-Some-get.found.now c.in-Some.ensures.within at.1 c.in-Ok.ensures.1 in
    λ cells. wrong_kind c.in-Ok.method _ (entry_found _ c.in-Some.place c.in-Ok.method c.in-Some.ensures.place c.in-Ok.ensures.1)
    (counts (λ (word : Bor (List ℕ)). word.now) c.args.words.now c.as_slice-types.result.now _ (c.as_slice-types.ensures ∙ ap (λ (m : Method). m.param_types) same) (omega (arith, c.if-words-types.false)))
    (wrong_found c.args.program.now c.in-Ok.method c.as_slice-types.result.now c.in-Some-get.found.now _ c.in-Err-WrongKind.number _ c.as_slice-types.ensures same
    (c.in-Err-WrongKind.ensures.wrong c.in-Err-WrongKind.number (ap Err c.in-Err-WrongKind.field-0-is)) c.in-Err-WrongKind.number-is)
