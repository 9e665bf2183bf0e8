-- A run that is asked for begins, or a refusal stands in its way: it can't be that neither is so.
use Rattle.std.proofs.Common.{◌≡◌, ℕ, suc, ◌==◌, Bool, true, false, List, [], ◌∷◌, length, Option, Some, None, Result, refl, arith, ◌⊎◌, inl, inr}
use Rattle.std.proofs.lemmas.Bool.{cases_lt, eqb-false}
use borrow.Author.Tests.{eqb-true}
use Rattle.ix_core.specs.declared.claim.Type_.{Type_}
use Rattle.ix_core.specs.declared.program.Program.{Program}
use Rattle.ix_core.specs.Heap.{cells_used}
use Rattle.ix_core.specs.Inputs.{Unmet, IsValueOf, first_unmet}
use Rattle.ix_core.specs.Machine.{State}
use Rattle.ix_core.specs.Safe.{Input, input_heap}
use Rattle.ix_core.specs.Tables.{method_at}
use Rattle.ix_machine_inputs.specs.Entries.{entry_of}
use Rattle.ix_machine_inputs.specs.Words.{AreValues, IsFirstWrong}
use Rattle.ix_machine.specs.declared.start.StartError.{StartError}
use Rattle.ix_machine.specs.Starts.{Starts, no_entry, wrong_count, wrong_kind, not_met, too_large, begins, types_at}

-- ---- what can't fail to be, though no law finds it

abbrev pub Is : Type 0 → Type 0
Is A = (A → ⊥) → ⊥

or_not : (A : Type 0) → Is (A ⊎ (A → ⊥))
or_not A never = never (inr (λ a. never (inl a)))

-- ---- words that are values, or the first that is none

abbrev Read : List Type_ → List (List ℕ) → Type 0
Read types words = ((inputs : List Input) × AreValues types words inputs) ⊎ ((number : ℕ) × IsFirstWrong types words number)

one_more : (ty : Type_) (types : List Type_) (word : List ℕ) (words : List (List ℕ)) (input : Input) → IsValueOf ty word input → Read types words → Read (ty ∷ types) (word ∷ words)
one_more ty types word words input is (inl r) = inl (input ∷ r.0, (is, r.1))
one_more ty types word words input is (inr r) =
    inr (
      suc r.0,
      record {
        before = input ∷ r.1.before;
        ty = r.1.ty;
        word = r.1.word;
        values = (is, r.1.values);
        ty_at = r.1.ty_at;
        word_at = r.1.word_at;
        none = r.1.none;
        counted = omega (arith, r.1.counted);
      },
    )

read : (types : List Type_) (words : List (List ℕ)) → length words ≡ length types → Is (Read types words)
read [] [] same never = never (inl ([], tt))
read [] (word ∷ words) same never = omega (arith, same)
read (ty ∷ types) [] same never = omega (arith, same)
read (ty ∷ types) (word ∷ words) same never =
    or_not ((input : Input) × IsValueOf ty word input)
    (λ h. elim h [
      | inl some ↦ read types words (omega (arith, same)) (λ r. never (one_more ty types word words some.0 some.1 r))
      | inr none ↦ never (inr (1, record { before = []; ty = ty; word = word; values = tt; ty_at = refl; word_at = refl; none = λ input is. none (input, is); counted = refl }))
    ])

-- ---- a run that is asked for begins, or a refusal stands in its way

module _ (program : Program) (entry : List ℕ) (words : List (List ℕ)) (cells : ℕ) where
  abbrev pub Begun : Type 0
  Begun = (begun : Result State StartError) × Starts program entry words cells begun

  by_room : (method : ℕ) → entry_of program entry ≡ Some method → (inputs : List Input) → AreValues (types_at program method) words inputs → first_unmet (method_at program method) inputs ≡ None → Begun
  by_room method found inputs values met =
      elim (cases_lt cells (cells_used (input_heap inputs (types_at program method)))) [
        | inl few ↦ (_, too_large method inputs (record { found = found; values = values }) met few)
        | inr room ↦ (_, begins method inputs (record { found = found; values = values }) met room)
      ]

  by_claims : (method : ℕ) → entry_of program entry ≡ Some method → (inputs : List Input) → AreValues (types_at program method) words inputs → (o : Option Unmet)
      → first_unmet (method_at program method) inputs ≡ o → Begun
  by_claims method found inputs values None h = by_room method found inputs values h
  by_claims method found inputs values (Some unmet) h = (_, not_met method inputs unmet (record { found = found; values = values }) h)

  by_words : (method : ℕ) → entry_of program entry ≡ Some method → length words ≡ length (types_at program method) → Read (types_at program method) words → Begun
  by_words method found same (inl r) = by_claims method found r.0 r.1 (first_unmet (method_at program method) r.0) refl
  by_words method found same (inr r) = (_, wrong_kind method r.0 found same r.1)

  by_count : (method : ℕ) → entry_of program entry ≡ Some method → (b : Bool) → (length words == length (types_at program method)) ≡ b → Is Begun
  by_count method found false h never = never (_, wrong_count method found (eqb-false _ _ h))
  by_count method found true h never =
      let same = eqb-true (length words) (length (types_at program method)) h in
      read (types_at program method) words same (λ r. never (by_words method found same r))

  begun_by : (o : Option ℕ) → entry_of program entry ≡ o → Is Begun
  begun_by None h never = never (_, no_entry h)
  begun_by (Some method) h never = by_count method h (length words == length (types_at program method)) refl never

  pub some_start : Is Begun
  some_start = begun_by (entry_of program entry) refl
