-- One beginning: a run begins in one state alone, or one refusal stands in its way.
use Rattle.std.proofs.Common.{◌≡◌, ◌≢◌, ◌≤◌, ◌<◌, ℕ, List, length, Option, None, Some, Result, Ok, Err, refl, ap, sym, subst, ◌∙◌, arith}
use Rattle.ix_core.specs.declared.program.Program.{Program}
use Rattle.ix_core.specs.Heap.{cells_used}
use Rattle.ix_core.specs.Inputs.{Unmet, first_unmet}
use Rattle.ix_core.specs.Machine.{State}
use Rattle.ix_core.specs.Safe.{Input, input_heap, start}
use Rattle.ix_core.specs.Tables.{method_at}
use Rattle.ix_machine_inputs.specs.Entries.{entry_of}
use Rattle.ix_machine_inputs.specs.Words.{AreValues, IsFirstWrong}
use Rattle.ix_machine_inputs.proofs.OneValue.{one_list, as_many_words, none_wrong, one_wrong}
use Rattle.ix_machine.specs.declared.start.StartError.{StartError}
use Rattle.ix_machine.specs.declared.start.StartError.TheVariants as error
use Rattle.ix_machine.specs.Starts.{Starts, Given, types_at, refusal_of, no_entry, wrong_count, wrong_kind, not_met, too_large, begins}

none_found : (o : Option ℕ) (method : ℕ) → o ≡ None → o ≡ Some method → ⊥
none_found o method none some = cc

one_found : (o : Option ℕ) (one other : ℕ) → o ≡ Some one → o ≡ Some other → one ≡ other
one_found o one other is also = cc

-- What is given by an entry and words: the method, and its inputs.
pub record Same (one other : ℕ) (inputs others : List Input) : Type 0 where
  pub same_method : one ≡ other
  pub same_inputs : inputs ≡ others

same_given : (program : Program) (entry : List ℕ) (words : List (List ℕ)) (one other : ℕ) (inputs others : List Input) → Given program entry words one inputs → Given program entry words other others
    → Same one other inputs others
same_given program entry words one other inputs others a b =
    let method = one_found (entry_of program entry) one other a.found b.found in
    record {
      same_method = method;
      same_inputs = one_list (types_at program other) words inputs others (subst (λ (m : ℕ). AreValues (types_at program m) words inputs) method a.values) b.values;
    }

-- a case with a method against what is given
counts : (program : Program) (entry : List ℕ) (words : List (List ℕ)) (one other : ℕ) (inputs : List Input) → entry_of program entry ≡ Some one → Given program entry words other inputs
    → length words ≡ length (types_at program one)
counts program entry words one other inputs is given =
    as_many_words (types_at program other) words inputs given.values ∙ ap (λ (m : ℕ). length (types_at program m)) (one_found (entry_of program entry) other one given.found is)

not_wrong : (program : Program) (entry : List ℕ) (words : List (List ℕ)) (one other number : ℕ) (inputs : List Input) → entry_of program entry ≡ Some one → IsFirstWrong (types_at program one) words number
    → Given program entry words other inputs → ⊥
not_wrong program entry words one other number inputs is wrong given =
    none_wrong (types_at program one) words inputs number
    (subst (λ (m : ℕ). AreValues (types_at program m) words inputs) (one_found (entry_of program entry) other one given.found is) given.values) wrong

abbrev unmet_of : Program → ℕ → List Input → Option Unmet
unmet_of program method inputs = first_unmet (method_at program method) inputs

abbrev cells_of : Program → ℕ → List Input → ℕ
cells_of program method inputs = cells_used (input_heap inputs (types_at program method))

none_unmet : (o other : Option Unmet) (unmet : Unmet) → o ≡ other → o ≡ None → other ≡ Some unmet → ⊥
none_unmet o other unmet same none some = cc

one_unmet : (o other : Option Unmet) (one two : Unmet) → o ≡ other → o ≡ Some one → other ≡ Some two → one ≡ two
one_unmet o other one two same is also = cc

same_unmet : (program : Program) (one other : ℕ) (inputs others : List Input) → Same one other inputs others → unmet_of program one inputs ≡ unmet_of program other others
same_unmet program one other inputs others s = rw (s.same_method, s.same_inputs) refl

same_cells : (program : Program) (one other : ℕ) (inputs others : List Input) → Same one other inputs others → cells_of program one inputs ≡ cells_of program other others
same_cells program one other inputs others s = rw (s.same_method, s.same_inputs) refl

only_no_entry : (program : Program) (entry : List ℕ) (words : List (List ℕ)) (cells : ℕ) (other : Result State StartError) → entry_of program entry ≡ None → Starts program entry words cells other → Err error.NotEntry ≡ other
only_no_entry program entry words cells _ absent (no_entry none) = refl
only_no_entry program entry words cells _ absent (wrong_count method found differ) = absurd (none_found (entry_of program entry) method absent found)
only_no_entry program entry words cells _ absent (wrong_kind method number found same wrong) = absurd (none_found (entry_of program entry) method absent found)
only_no_entry program entry words cells _ absent (not_met method inputs unmet given is) = absurd (none_found (entry_of program entry) method absent given.found)
only_no_entry program entry words cells _ absent (too_large method inputs given met large) = absurd (none_found (entry_of program entry) method absent given.found)
only_no_entry program entry words cells _ absent (begins method inputs given met fits) = absurd (none_found (entry_of program entry) method absent given.found)

only_wrong_count : (program : Program) (entry : List ℕ) (words : List (List ℕ)) (cells : ℕ) (m : ℕ) (other : Result State StartError) → entry_of program entry ≡ Some m → length words ≢ length (types_at program m) → Starts program entry words cells other → Err error.WrongCount ≡ other
only_wrong_count program entry words cells m _ at apart (no_entry none) = absurd (none_found (entry_of program entry) m none at)
only_wrong_count program entry words cells m _ at apart (wrong_count method found differ) = refl
only_wrong_count program entry words cells m _ at apart (wrong_kind method number found same wrong) = absurd (apart (same ∙ ap (λ (x : ℕ). length (types_at program x)) (one_found (entry_of program entry) method m found at)))
only_wrong_count program entry words cells m _ at apart (not_met method inputs unmet given is) = absurd (apart (counts program entry words m method inputs at given))
only_wrong_count program entry words cells m _ at apart (too_large method inputs given met large) = absurd (apart (counts program entry words m method inputs at given))
only_wrong_count program entry words cells m _ at apart (begins method inputs given met fits) = absurd (apart (counts program entry words m method inputs at given))

only_wrong_kind : (program : Program) (entry : List ℕ) (words : List (List ℕ)) (cells : ℕ) (m n : ℕ) (other : Result State StartError) → entry_of program entry ≡ Some m → length words ≡ length (types_at program m) → IsFirstWrong (types_at program m) words n → Starts program entry words cells other → Err (error.WrongKind n) ≡ other
only_wrong_kind program entry words cells m n _ at count first (no_entry none) = absurd (none_found (entry_of program entry) m none at)
only_wrong_kind program entry words cells m n _ at count first (wrong_count method found differ) = absurd (differ (count ∙ ap (λ (x : ℕ). length (types_at program x)) (one_found (entry_of program entry) m method at found)))
only_wrong_kind program entry words cells m n _ at count first (wrong_kind method number found same wrong) = ap (λ (x : ℕ). Err (error.WrongKind x)) (one_wrong (types_at program method) words n number
    (subst (λ (x : ℕ). IsFirstWrong (types_at program x) words n) (one_found (entry_of program entry) m method at found) first) wrong)
only_wrong_kind program entry words cells m n _ at count first (not_met method inputs unmet given is) = absurd (not_wrong program entry words m method n inputs at first given)
only_wrong_kind program entry words cells m n _ at count first (too_large method inputs given met large) = absurd (not_wrong program entry words m method n inputs at first given)
only_wrong_kind program entry words cells m n _ at count first (begins method inputs given met fits) = absurd (not_wrong program entry words m method n inputs at first given)

only_not_met : (program : Program) (entry : List ℕ) (words : List (List ℕ)) (cells : ℕ) (m : ℕ) (ins : List Input) (u : Unmet) (other : Result State StartError) → Given program entry words m ins → unmet_of program m ins ≡ Some u → Starts program entry words cells other → Err (refusal_of m u) ≡ other
only_not_met program entry words cells m ins u _ has told (no_entry none) = absurd (none_found (entry_of program entry) m none has.found)
only_not_met program entry words cells m ins u _ has told (wrong_count method found differ) = absurd (differ (counts program entry words method m ins found has))
only_not_met program entry words cells m ins u _ has told (wrong_kind method number found same wrong) = absurd (not_wrong program entry words method m number ins found wrong has)
only_not_met program entry words cells m ins u _ has told (not_met method inputs unmet given is) =
    let s = (same_given program entry words m method ins inputs has given) in rw (s.same_method, one_unmet (unmet_of program m ins) (unmet_of program method inputs) u unmet (same_unmet program m method ins inputs s) told is) refl
only_not_met program entry words cells m ins u _ has told (too_large method inputs given met large) = absurd (none_unmet (unmet_of program method inputs) (unmet_of program m ins) u (sym (same_unmet program m method ins inputs (same_given program entry words m method ins inputs has given))) met told)
only_not_met program entry words cells m ins u _ has told (begins method inputs given met fits) = absurd (none_unmet (unmet_of program method inputs) (unmet_of program m ins) u (sym (same_unmet program m method ins inputs (same_given program entry words m method ins inputs has given))) met told)

only_too_large : (program : Program) (entry : List ℕ) (words : List (List ℕ)) (cells : ℕ) (m : ℕ) (ins : List Input) (other : Result State StartError) → Given program entry words m ins → unmet_of program m ins ≡ None → cells < cells_of program m ins → Starts program entry words cells other → Err error.InputsTooLarge ≡ other
only_too_large program entry words cells m ins _ has fine past (no_entry none) = absurd (none_found (entry_of program entry) m none has.found)
only_too_large program entry words cells m ins _ has fine past (wrong_count method found differ) = absurd (differ (counts program entry words method m ins found has))
only_too_large program entry words cells m ins _ has fine past (wrong_kind method number found same wrong) = absurd (not_wrong program entry words method m number ins found wrong has)
only_too_large program entry words cells m ins _ has fine past (not_met method inputs unmet given is) = absurd (none_unmet (unmet_of program m ins) (unmet_of program method inputs) unmet (same_unmet program m method ins inputs (same_given program entry words m method ins inputs has given)) fine is)
only_too_large program entry words cells m ins _ has fine past (too_large method inputs given met large) = refl
only_too_large program entry words cells m ins _ has fine past (begins method inputs given met fits) = let cells_are = same_cells program m method ins inputs (same_given program entry words m method ins inputs has given) in absurd (omega (arith, past, fits, cells_are))

only_begins : (program : Program) (entry : List ℕ) (words : List (List ℕ)) (cells : ℕ) (m : ℕ) (ins : List Input) (other : Result State StartError) → Given program entry words m ins → unmet_of program m ins ≡ None → cells_of program m ins ≤ cells → Starts program entry words cells other → Ok (start program m ins) ≡ other
only_begins program entry words cells m ins _ has fine within (no_entry none) = absurd (none_found (entry_of program entry) m none has.found)
only_begins program entry words cells m ins _ has fine within (wrong_count method found differ) = absurd (differ (counts program entry words method m ins found has))
only_begins program entry words cells m ins _ has fine within (wrong_kind method number found same wrong) = absurd (not_wrong program entry words method m number ins found wrong has)
only_begins program entry words cells m ins _ has fine within (not_met method inputs unmet given is) = absurd (none_unmet (unmet_of program m ins) (unmet_of program method inputs) unmet (same_unmet program m method ins inputs (same_given program entry words m method ins inputs has given)) fine is)
only_begins program entry words cells m ins _ has fine within (too_large method inputs given met large) = let cells_are = same_cells program m method ins inputs (same_given program entry words m method ins inputs has given) in absurd (omega (arith, within, large, cells_are))
only_begins program entry words cells m ins _ has fine within (begins method inputs given met fits) = let s = (same_given program entry words m method ins inputs has given) in rw (s.same_method, s.same_inputs) refl

-- A run begins in one way alone.
pub starts_one : (program : Program) (entry : List ℕ) (words : List (List ℕ)) (cells : ℕ) (one other : Result State StartError) → Starts program entry words cells one → Starts program entry words cells other → one ≡ other
starts_one program entry words cells _ other (no_entry none) also = only_no_entry program entry words cells other none also
starts_one program entry words cells _ other (wrong_count method found differ) also = only_wrong_count program entry words cells method other found differ also
starts_one program entry words cells _ other (wrong_kind method number found same wrong) also = only_wrong_kind program entry words cells method number other found same wrong also
starts_one program entry words cells _ other (not_met method inputs unmet given is) also = only_not_met program entry words cells method inputs unmet other given is also
starts_one program entry words cells _ other (too_large method inputs given met large) also = only_too_large program entry words cells method inputs other given met large also
starts_one program entry words cells _ other (begins method inputs given met fits) also = only_begins program entry words cells method inputs other given met fits also
