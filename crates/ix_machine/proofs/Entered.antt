-- A run that begins is one that the promise speaks of.
use Rattle.std.proofs.Common.{◌≡◌, ◌<◌, ℕ, Bool, true, false, List, [], ◌∷◌, length, refl, ap, sym, ◌∙◌, subst, cond, get_or, slice_get, unwrap_or, Option, None, Some}
use Rattle.std.specs.Prelude.{position}
use borrow.Author.Tests.{ltb-true}
use Rattle.std.proofs.lemmas.Bool.{and_parts}
use Rattle.std.proofs.lemmas.List.Sums.{passes_at_first}
use Rattle.std.proofs.lemmas.Option.{slice_get-get_or}
use Rattle.ix_core.specs.declared.claim.Type_.{Type_}
use Rattle.ix_core.specs.declared.program.Method.{Method}
use Rattle.ix_core.specs.declared.program.Program.{Program}
use Rattle.ix_core.specs.Inputs.{first_unmet}
use Rattle.ix_core.specs.Safe.{Input, HaveTypes, Begins}
use Rattle.ix_core.specs.Tables.{method_at, no_method}
use Rattle.ix_core.proofs.MetInputs.{none_unmet}
use Rattle.ix_machine_inputs.specs.Entries.{is_entry}
use Rattle.ix_machine_inputs.specs.Words.{AreValues}
use Rattle.ix_machine.specs.Starts.{Given}

of_some : (test : Bool) (place number : ℕ) → cond test (Some place) None ≡ Some number → (test ≡ true) × (place ≡ number)
of_some true place number is = (refl, cc)
of_some false place number is = absurd cc

-- the first that passes
record First {A : Type 0} (test : A → Bool) (items : List A) (default : A) (place : ℕ) : Type 0 where
  within : place < length items
  passes : test (get_or items place default) ≡ true

first_is : {A : Type 0} (test : A → Bool) (items : List A) (default : A) (place : ℕ) → position test items ≡ Some place → First test items default place
first_is test items default place is =
    let parts = of_some _ _ place is in let within = ltb-true _ _ parts.0 in
    subst (First test items default) parts.1 (record { within = within; passes = passes_at_first test items default within })

have_types : (types : List Type_) (words : List (List ℕ)) (inputs : List Input) → AreValues types words inputs → HaveTypes inputs types
have_types [] [] [] values = tt
have_types [] [] (input ∷ inputs) values = absurd values
have_types [] (word ∷ words) inputs values = absurd values
have_types (ty ∷ types) [] inputs values = absurd values
have_types (ty ∷ types) (word ∷ words) [] values = absurd values
have_types (ty ∷ types) (word ∷ words) (input ∷ inputs) values = (values.0.typed, have_types types words inputs values.1)

pub entered : (program : Program) (entry : List ℕ) (words : List (List ℕ)) (method : ℕ) (inputs : List Input) → Given program entry words method inputs → first_unmet (method_at program method) inputs ≡ None → Begins program method inputs
entered program entry words method inputs given met =
    let first = first_is (is_entry program entry) program.methods no_method method given.found in
    let there : slice_get program.methods method ≡ Some (get_or program.methods method no_method) = slice_get-get_or program.methods method no_method first.within in
    let same : method_at program method ≡ get_or program.methods method no_method = ap (λ (m : Option Method). unwrap_or m no_method) there in
    let passes = subst (λ (m : Method). is_entry program entry m ≡ true) (sym same) first.passes in
    record {
      entry = record {
        found = method_at program method;
        at = there ∙ ap Some (sym same);
        static = (and_parts _ _ passes).0;
        typed = have_types (method_at program method).param_types words inputs given.values;
      };
      meets = (none_unmet (method_at program method) inputs).0 met;
    }
