-- A formed program has small paths.
use Rattle.std.specs.Prelude.{◌≡◌, ℕ, ◌<◌, ◌^◌, true, length}
use Rattle.std.proofs.Common.{arith}
use Rattle.std.proofs.lemmas.Bool.{and_parts}
use Rattle.std.proofs.lemmas.Bool.Decides.{nat_tests}
use Rattle.ix_core.specs.declared.program.Program.{Program}
use Rattle.ix_core.specs.Formed.{Formed, at_most, params_fit}
use Rattle.ix_core.specs.Tables.{method_at, param_slots}
use Rattle.ix_core.specs.Types.{is_class}
use Rattle.ix_core.proofs.FormedParts.{method_is}
use Rattle.ix_cert.specs.SameLabels.{HasSmallPaths}

few_small : (slots : ℕ) → at_most slots 512 ≡ true → slots < 2 ^ 32
few_small slots few =
    let within : slots < 513 = grind (arith, nat_tests, few) in
    omega (arith, within)

pub formed_small : (program : Program) → Formed program → length program.fields < 2 ^ 32 → HasSmallPaths program
formed_small program formed few = record {
  slots = λ number within.
      let method = method_at program number in
      let a = and_parts (is_class program method.class) _ (method_is program formed.0 formed.1 number within) in
      let b = and_parts (params_fit program method 0 method.params method.param_types) _ a.1 in
      let c = and_parts (at_most (param_slots method) method.slots) _ b.1 in
      few_small method.slots (and_parts (at_most method.slots 512) _ c.1).0;
  fields = few;
}
