-- A formed program is ready to be judged, method by method.
use Rattle.std.specs.Prelude.{◌≡◌, ℕ, ◌≤◌, ◌<◌, ◌^◌, nat_lt, true, List, length, Option, None, Some, unwrap_or}
use Rattle.std.specs.Option.{ForSome}
use Rattle.std.proofs.Common.{arith, sym, ap, subst}
use Rattle.std.proofs.lemmas.Bool.{and_parts}
use Rattle.std.proofs.lemmas.Bool.Decides.{nat_tests}
use Rattle.std.proofs.lemmas.Option.{slice_get_past}
use Rattle.ix_core.specs.declared.claim.Type_.{Type_}
use Rattle.ix_core.specs.declared.program.Method.{Method}
use Rattle.ix_core.specs.declared.program.Program.{Program}
use Rattle.ix_core.specs.Formed.{Formed, at_most, params_fit, locals_fit, result_fits, constructor_fits, overrides_fit, same_numbers, loop_numbers, numbers_from, code_size, super_calls_fit, body_fits, entry_type, is_there}
use Rattle.ix_core.specs.Tables.{no_method, method_at, body_of, param_slots}
use Rattle.ix_core.specs.Types.{is_class}
use Rattle.ix_core.proofs.Cases.{by_test}
use Rattle.ix_core.proofs.FormedParts.{locals_of, method_is, posts_are, fields_all}
use Rattle.ix_signatures.specs.Naming.{HasSmallNames, HaveSmallNames}
use Rattle.ix_core.specs.Ready.{HasFew}
use Rattle.ix_soundness.proofs.NamesInRange.{params_small, locals_small, result_small, promises_small, as_many_types, few_params, fields_small}

module _ (program : Program) (formed : Formed program) where
  abbrev pub at : ℕ → Method
  at number = method_at program number

  abbrev pub types_at : ℕ → List Type_
  types_at number = locals_of program formed.0 formed.1 number

  -- what is asked of a method
  pub record Parts (number : ℕ) : Type 0 where
    pub params : params_fit program (at number) 0 (at number).params (at number).param_types ≡ true
    pub room : at_most (param_slots (at number)) (at number).slots ≡ true
    pub few : at_most (at number).slots 512 ≡ true
    pub locals : locals_fit program (at number) (types_at number) 0 (at number).locals (types_at number) ≡ true
    pub result : result_fits program (at number) ≡ true
    pub overrides : overrides_fit program (at number) (at number).overrides ≡ true
    pub loops : same_numbers (loop_numbers (body_of (at number))) (numbers_from 0 (length (loop_numbers (body_of (at number))))) ≡ true
    pub body : body_fits program (at number) (types_at number) ≡ true

  pub parts : (number : ℕ) → number < length program.methods → Parts number
  parts number lt =
      let method = at number in
      let types = types_at number in
      let numbers = loop_numbers (body_of method) in
      let a = and_parts (is_class program method.class) _ (method_is program formed.0 formed.1 number lt) in
      let b = and_parts (params_fit program method 0 method.params method.param_types) _ a.1 in
      let c = and_parts (at_most (param_slots method) method.slots) _ b.1 in
      let d = and_parts (at_most method.slots 512) _ c.1 in
      let e = and_parts (locals_fit program method types 0 method.locals types) _ d.1 in
      let f = and_parts (result_fits program method) _ e.1 in
      let g = and_parts (constructor_fits program method) _ f.1 in
      let h = and_parts (overrides_fit program method method.overrides) _ g.1 in
      let i = and_parts (same_numbers numbers (numbers_from 0 (length numbers))) _ h.1 in
      let j = and_parts (at_most (length numbers) 128) _ i.1 in
      let k = and_parts (nat_lt (code_size (body_of method)) 268435456) _ j.1 in
      let l = and_parts (super_calls_fit program method) (body_fits program method types) k.1 in
      record { params = b.0; room = c.0; few = d.0; locals = e.0; result = f.0; overrides = h.0; loops = i.0; body = l.1 }

  -- ---- names

  past_method : (number : ℕ) → length program.methods ≤ number → at number ≡ no_method
  past_method number le = ap (λ o. unwrap_or o no_method) (slice_get_past program.methods number le)

  no_names : HasSmallNames no_method
  no_names = record { few = omega arith; types = omega arith; params = λ n p is. absurd cc; result = tt; posts = tt; few_locals = omega arith; locals = λ n l is. absurd cc }

  method_small : (number : ℕ) → number < length program.methods → length (at number).locals < 2 ^ 32 → HasSmallNames (at number)
  method_small number lt few_locals =
      let method = at number in
      let has = parts number lt in
      let count = few_params program method has.room has.few in
      let same = as_many_types program method 0 method.params method.param_types has.params in
      let types_few : length method.param_types ≤ 512 = omega (arith, count, same) in
      record {
        few = omega (arith, count);
        types = omega (arith, types_few);
        params = params_small program method types_few 0 method.params method.param_types has.params;
        result = result_small program method types_few has.result;
        posts = promises_small program method types_few (posts_are program formed.0 formed.1 number lt);
        few_locals = few_locals;
        locals = locals_small program method types_few (types_at number) 0 method.locals (types_at number) has.locals;
      }

  pub ready : HasFew program → HaveSmallNames program
  ready few = record {
    methods = λ number.
        by_test (nat_lt number (length program.methods))
        (λ t. method_small number (let lt : number < length program.methods = grind (arith, nat_tests) in lt) (few.locals number))
        (λ t. let le : length program.methods ≤ number = grind (arith, nat_tests) in subst HasSmallNames (sym (past_method number le)) no_names);
    few_fields = few.fields;
    fields = λ number. fields_small program 0 program.fields number (fields_all program formed.0 formed.1);
  }

  -- ---- overriding

  pub upper_in_range : (number : ℕ) → number < length program.methods → ForSome (at number).overrides (λ over. over < length program.methods)
  upper_in_range number lt = over_there (at number) (at number).overrides (parts number lt).overrides
    where
      over_there : (method : Method) (overrides : Option ℕ) → overrides_fit program method overrides ≡ true → ForSome overrides (λ over. over < length program.methods)
      over_there method None fits x is = absurd cc
      over_there method (Some over) fits x is =
          let there = (and_parts (is_there program.methods over) _ fits).0 in
          let lt : over < length program.methods = grind (arith, nat_tests) in
          subst (λ n. n < length program.methods) (ap (λ (o : Option ℕ). unwrap_or o over) is) lt
