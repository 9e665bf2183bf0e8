-- Arguments and entries keep their meaning: they are evaluated from left to right, and their slots hold their values.
use Rattle.std.proofs.Common.{◌≡◌, ◌≤◌, ℕ, List, [], ◌∷◌, ◌++◌, map, refl, sym, ap, ◌∙◌, arith}
use Rattle.std.proofs.lemmas.List.{map-append}
use Rattle.ix_text.specs.declared.span.Span.{Span}
use Rattle.ix_core.specs.declared.claim.Type_.{Type_}
use Rattle.ix_core.specs.declared.op.Arg.{Arg}
use Rattle.ix_core.specs.declared.op.OpKind.TheVariants as op
use Rattle.ix_core.specs.Heap.{Held, ArrayOf, value_at}
use Rattle.ix_core.specs.Types.{cell_type}
use Rattle.ix_plain.specs.declared.made.Made.{Made}
use Rattle.ix_plain.specs.Parts.{Value}
use Rattle.ix_plain.specs.Values as values
use Rattle.ix_plain.specs.Values.{Lowering, Filling, Arguments, Entries}
use Rattle.ix_source.specs.Context.{Context, Members, Calls}
use Rattle.ix_source.specs.Values as source
use Rattle.ix_source.specs.Values.{Evaluation, Initial}
use Rattle.ix_source.specs.Along.{Setting, IsSet}
use Rattle.ix_source.specs.Kept.{Makes, Fact, And, IsIn, nothing_known, Stays, Done, Kept, KeptInit, context}
use Rattle.ix_source.specs.Calling.{AreIn}
use Rattle.ix_source.proofs.Made.{makes_more, stays_more, whatever, then_done}
use Rattle.ix_source.proofs.Operations.{at_hand, takes_parts, fill_given}

-- the slots hold these values
abbrev pub AllIn : List ℕ → Fact (List Held)
AllIn entries values slots = map (value_at slots) entries ≡ values

module _ (z : Setting) (set : IsSet z) (members : Members) (calls : Calls) (turns : ℕ) where
  abbrev here : Context
  here = context z members calls turns

  -- ---- arguments

  abbrev pub AllKept : List Lowering → List Evaluation → Type 0
  AllKept [] [] = Unit {0}
  AllKept (l ∷ ls) (e ∷ es) = Kept z members calls turns l e × AllKept ls es
  AllKept _ _ = ⊥

  arg_stays : (args : List Arg) (arg : Arg) (free : ℕ) → Stays z free (AreIn args) → Stays z free (IsIn arg.slot) → Stays z free (AreIn (args ++ arg ∷ []))
  arg_stays args arg free a b given slots behind keeps is =
      map-append (λ (arg : Arg). value_at behind arg.slot) args (arg ∷ [])
      ∙ ap (λ held. held ++ value_at behind arg.slot ∷ []) (a (map (λ (arg : Arg). value_at slots arg.slot) args) slots behind keeps refl)
      ∙ ap (λ held. map (λ (arg : Arg). value_at slots arg.slot) args ++ held ∷ []) (b (value_at slots arg.slot) slots behind keeps refl)
      ∙ sym (map-append (λ (arg : Arg). value_at slots arg.slot) args (arg ∷ [])) ∙ is

  arg_in : (args : List Arg) (arg : Arg) (slots : List Held) (given : List Held) (value : Held) → AreIn args given slots → IsIn arg.slot value slots → AreIn (args ++ arg ∷ []) (given ++ value ∷ []) slots
  arg_in args arg slots given value a b =
      map-append (λ (arg : Arg). value_at slots arg.slot) args (arg ∷ []) ∙ ap (λ held. held ++ value_at slots arg.slot ∷ []) a ∙ ap (λ held. given ++ held ∷ []) b

  -- the arguments behind those that are known to be in their slots
  pub arguments_done : {X : Type 0} (known : Fact X) (given : X → List Held) (args : List Arg) (ls : List Lowering) (es : List Evaluation) (made : Made) → z.base ≤ made.free → AllKept ls es → Stays z made.free known → Stays z made.free (AreIn args)
      → ((x : X) (slots : List Held) → known x slots → AreIn args (given x) slots)
      → Makes (λ (a : Arguments). Done z known made a.made (λ x. source.arguments_from (given x) es here) (AreIn a.args)) (values.arguments_from args ls z.scope made)
  arguments_done known given args [] [] made le kept stays args_stay implied = at_hand z known made given (AreIn args) args_stay implied
  arguments_done known given args (l ∷ ls) (e ∷ es) made le (k, more) stays args_stay implied =
      then_done z (λ (v : Value). v.made) (λ v. IsIn v.slot) (λ (a : Arguments). a.made) (λ a. AreIn a.args) known made (λ x. e.value here) (λ p. source.arguments_from (given p.0 ++ p.1 ∷ []) es here) stays (l.value z.scope made) _
      (makes_more _ _ (λ v d. whatever z known made v.made (e.value here) (IsIn v.slot) d) (l.value z.scope made) (k.value made le))
      (λ v up both own. arguments_done (And known (IsIn v.slot)) (λ p. given p.0 ++ p.1 ∷ []) (args ++ record { slot = v.slot; span = l.span } ∷ []) ls es v.made (omega (arith, le, up)) more both
      (arg_stays args (record { slot = v.slot; span = l.span }) v.made.free (stays_more z made.free v.made.free (AreIn args) up args_stay) own)
      (λ p slots knows. arg_in args (record { slot = v.slot; span = l.span }) slots (given p.0) p.1 (implied p.0 slots knows.0) knows.1))
  arguments_done known given args [] (e ∷ es) made le none stays args_stay implied = absurd none
  arguments_done known given args (l ∷ ls) [] made le none stays args_stay implied = absurd none

  pub no_args_stay : (free : ℕ) → Stays z free (AreIn [])
  no_args_stay free given slots behind keeps is = is

  -- ---- entries of an array

  abbrev pub AllInitKept : List Filling → List Initial → Type 0
  AllInitKept [] [] = Unit {0}
  AllInitKept (l ∷ ls) (e ∷ es) = KeptInit z members calls turns l e × AllInitKept ls es
  AllInitKept _ _ = ⊥

  entry_stays : (entries : List ℕ) (entry : ℕ) (free : ℕ) → Stays z free (AllIn entries) → Stays z free (IsIn entry) → Stays z free (AllIn (entries ++ entry ∷ []))
  entry_stays entries entry free a b given slots behind keeps is =
      map-append (value_at behind) entries (entry ∷ [])
      ∙ ap (λ held. held ++ value_at behind entry ∷ []) (a (map (value_at slots) entries) slots behind keeps refl)
      ∙ ap (λ held. map (value_at slots) entries ++ held ∷ []) (b (value_at slots entry) slots behind keeps refl)
      ∙ sym (map-append (value_at slots) entries (entry ∷ [])) ∙ is

  entry_in : (entries : List ℕ) (entry : ℕ) (slots : List Held) (given : List Held) (value : Held) → AllIn entries given slots → IsIn entry value slots → AllIn (entries ++ entry ∷ []) (given ++ value ∷ []) slots
  entry_in entries entry slots given value a b = map-append (value_at slots) entries (entry ∷ []) ∙ ap (λ held. held ++ value_at slots entry ∷ []) a ∙ ap (λ held. given ++ held ∷ []) b

  pub entries_done : {X : Type 0} (known : Fact X) (given : X → List Held) (entries : List ℕ) (ls : List Filling) (es : List Initial) (ty : Type_) (made : Made) → z.base ≤ made.free → AllInitKept ls es → Stays z made.free known → Stays z made.free (AllIn entries)
      → ((x : X) (slots : List Held) → known x slots → AllIn entries (given x) slots)
      → Makes (λ (a : Entries). Done z known made a.made (λ x. source.entries_from (given x) es here ty) (AllIn a.slots)) (values.entries_from entries ls z.scope ty made)
  entries_done known given entries [] [] ty made le kept stays all_stay implied = at_hand z known made given (AllIn entries) all_stay implied
  entries_done known given entries (l ∷ ls) (e ∷ es) ty made le (k, more) stays all_stay implied =
      then_done z (λ (v : Value). v.made) (λ v. IsIn v.slot) (λ (a : Entries). a.made) (λ a. AllIn a.slots) known made (λ x. e.value here ty) (λ p. source.entries_from (given p.0 ++ p.1 ∷ []) es here ty) stays (l.value z.scope ty made) _
      (makes_more _ _ (λ v d. whatever z known made v.made (e.value here ty) (IsIn v.slot) d) (l.value z.scope ty made) (k ty made le))
      (λ v up both own. entries_done (And known (IsIn v.slot)) (λ p. given p.0 ++ p.1 ∷ []) (entries ++ v.slot ∷ []) ls es ty v.made (omega (arith, le, up)) more both
      (entry_stays entries v.slot v.made.free (stays_more z made.free v.made.free (AllIn entries) up all_stay) own)
      (λ p slots knows. entry_in entries v.slot slots (given p.0) p.1 (implied p.0 slots knows.0) knows.1))
  entries_done known given entries [] (e ∷ es) ty made le none stays all_stay implied = absurd none
  entries_done known given entries (l ∷ ls) [] ty made le none stays all_stay implied = absurd none

  -- the entries, and an array that holds them
  pub filled_done : (ls : List Filling) (es : List Initial) (span : Span) (ty : Type_) (made : Made) → z.base ≤ made.free → AllInitKept ls es
      → Makes (λ (v : Value). Done z nothing_known made v.made (λ x. source.filled es here ty) (IsIn v.slot)) (values.filled ls span z.scope ty made)
  filled_done ls es span ty made le kept =
      then_done z (λ (a : Entries). a.made) (λ a. AllIn a.slots) (λ (v : Value). v.made) (λ v. IsIn v.slot) nothing_known made (λ x. source.entries_from [] es here (cell_type ty)) (λ p. source.made (record { kind = ArrayOf ty; cells = p.1 })) (λ x slots behind keeps known. tt)
      (values.entries_from [] ls z.scope (cell_type ty) made) _
      (entries_done nothing_known (λ x. []) [] ls es (cell_type ty) made le kept (λ x slots behind keeps known. tt) (λ given slots behind keeps is. is) (λ x slots known. refl))
      (λ given up both own. takes_parts z set (And nothing_known (AllIn given.slots)) given.made (op.Fill given.made.free ty given.slots) span (values.spans ls) (λ p. source.made (record { kind = ArrayOf ty; cells = p.1 })) (omega (arith, le, up))
      (λ p f rest tasks slots now room agrees knows. fill_given z set f given.made.free ty given.slots span (values.spans ls) rest tasks slots now (omega (arith, le, up)) room agrees p.1 knows.1))
