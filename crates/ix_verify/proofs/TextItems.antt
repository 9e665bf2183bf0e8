-- The errors of the text of an item or a condition, by those of its parts.
use Rattle.std.proofs.Common.{◌≡◌, ◌⊎◌, inl, inr, ⊎_elim, ◌↔◌, ℕ, suc, Bool, List, ◌∷◌, length, drop, get_or, ◌<◌, ◌+◌, Option, refl, sym, ap, subst, ◌∙◌}
use Rattle.std.proofs.Common.{add-one}
use Rattle.std.proofs.Math.Seq.{drop-cons}
use Rattle.ix_text.specs.declared.span.Span.{Span}
use Rattle.ix_core.specs.declared.code.Item.{Item}
use Rattle.ix_core.specs.declared.op.Op.{Op}
use Rattle.ix_core.specs.declared.error.Error.{Error}
use Rattle.ix_core.specs.declared.program.Method.{Method}
use Rattle.ix_core.specs.declared.program.Program.{Program}
use Rattle.ix_core.specs.Code.{Code, End, Do, If, Break, Continue, Return, Throw, Loop, Condition, item_code, items_code}
use Rattle.ix_sign.specs.RuleErrors.{OpText}
use Rattle.ix_errors.specs.declared.ranked.Ranked.{Ranked}
use Rattle.ix_errors.specs.Exactly.{IsListed}
use Rattle.ix_verify.specs.Walking.{AddsTo, SomewhereIn, SomewhereOf, AddsItem}
use Rattle.ix_verify.proofs.Lists.{to_both}

module _ (program : Program) (method : Method) where
  pub item_as : (one other : Code → Code) (old new : List Ranked) → ((rest : Code) → one rest ≡ other rest) → AddsItem program method other old new → AddsItem program method one old new
  item_as one other old new same adds = λ rest found. subst (λ code. (IsListed found new ⊎ SomewhereIn program method rest found.error found.rank) ↔ (IsListed found old ⊎ SomewhereIn program method code found.error found.rank)) (sym (same rest)) (adds rest found)

  pub break_adds : (old : List Ranked) → AddsItem program method Break old old
  break_adds old = λ rest found. (λ has. has, λ has. has)

  pub continue_adds : (old : List Ranked) → AddsItem program method Continue old old
  continue_adds old = λ rest found. (λ has. has, λ has. has)

  pub return_adds : (value : Option ℕ) (span : Span) (old : List Ranked) → AddsItem program method (Return value span) old old
  return_adds value span old = λ rest found. (λ has. has, λ has. has)

  pub throw_adds : (name : List ℕ) (span : Span) (old : List Ranked) → AddsItem program method (Throw name span) old old
  throw_adds name span old = λ rest found. (λ has. has, λ has. has)

  -- what is added before the rest
  pub item_adds : (item : Code → Code) (Own : Error → ℕ → Type 0) (old new : List Ranked)
      → ((rest : Code) (error : Error) (rank : ℕ) → SomewhereIn program method (item rest) error rank ↔ (Own error rank ⊎ SomewhereIn program method rest error rank)) → AddsTo Own old new → AddsItem program method item old new
  item_adds item Own old new parts adds = λ rest found. (
    λ either. ⊎_elim (λ has. ⊎_elim (λ a. inl a) (λ own. inr ((parts rest found.error found.rank).1 (inl own))) ((adds found).0 has)) (λ later. inr ((parts rest found.error found.rank).1 (inr later))) either,
    λ either. ⊎_elim (λ a. inl ((adds found).1 (inl a))) (λ some. ⊎_elim (λ own. inl ((adds found).1 (inr own))) (λ later. inr later) ((parts rest found.error found.rank).0 some)) either,
  )

  pub do_adds : (op : Op) (old new : List Ranked) → AddsTo (OpText program method op) old new → AddsItem program method (Do op) old new
  do_adds op old new adds = item_adds (Do op) (OpText program method op) old new (λ rest error rank. (λ has. has, λ has. has)) adds

  module _ (asked : Condition) (first second : Code) (old one two new : List Ranked)
      (a : AddsTo (SomewhereOf program method asked) old one) (b : AddsTo (SomewhereIn program method first) one two) (c : AddsTo (SomewhereIn program method second) two new) where
    -- three parts
    abbrev Three : Error → ℕ → Type 0
    Three error rank = SomewhereOf program method asked error rank ⊎ (SomewhereIn program method first error rank ⊎ SomewhereIn program method second error rank)

    three : AddsTo Three old new
    three =
        to_both (SomewhereOf program method asked) (λ error rank. SomewhereIn program method first error rank ⊎ SomewhereIn program method second error rank) old one new a
        (to_both (SomewhereIn program method first) (SomewhereIn program method second) one two new b c)

    apart : (rest : Code) (error : Error) (rank : ℕ)
        → (SomewhereOf program method asked error rank ⊎ (SomewhereIn program method first error rank ⊎ (SomewhereIn program method second error rank ⊎ SomewhereIn program method rest error rank)))
        ↔ (Three error rank ⊎ SomewhereIn program method rest error rank)
    apart rest error rank = (
      λ has. ⊎_elim (λ x. inl (inl x)) (λ y. ⊎_elim (λ x. inl (inr (inl x))) (λ z. ⊎_elim (λ x. inl (inr (inr x))) (λ x. inr x) z) y) has,
      λ either. ⊎_elim (λ own. ⊎_elim (λ x. inl x) (λ y. ⊎_elim (λ x. inr (inl x)) (λ x. inr (inr (inl x))) y) own) (λ x. inr (inr (inr x))) either,
    )

    pub if_adds : AddsItem program method (If asked first second) old new
    if_adds = item_adds (If asked first second) Three old new apart three

    pub loop_adds : (test_first : Bool) (number scope : ℕ) → AddsItem program method (Loop test_first asked first second number scope) old new
    loop_adds test_first number scope = item_adds (Loop test_first asked first second number scope) Three old new apart three

  -- ---- blocks

  abbrev pub AddsSome : Code → List Ranked → Code → List Ranked → Type 0
  AddsSome whole old rest now = (found : Ranked) → (IsListed found now ⊎ SomewhereIn program method rest found.error found.rank) ↔ (IsListed found old ⊎ SomewhereIn program method whole found.error found.rank)

  pub some_goes : (items : List Item) (index : ℕ) (item : Item) (old now new : List Ranked) → index < length items → item ≡ get_or items index item
      → AddsSome (items_code items) old (items_code (drop index items)) now → AddsItem program method (item_code item) now new → AddsSome (items_code items) old (items_code (drop (index + 1) items)) new
  some_goes items index item old now new within is so_far adds = λ found.
      let cut : drop index items ≡ item ∷ drop (index + 1) items = drop-cons items index item within ∙ (ap (λ s. s ∷ drop (suc index) items) (sym is) ∙ rw add-one refl) in
      let before = subst (λ code. (IsListed found now ⊎ SomewhereIn program method code found.error found.rank) ↔ (IsListed found old ⊎ SomewhereIn program method (items_code items) found.error found.rank)) (ap items_code cut) (so_far found) in
      let one = adds (items_code (drop (index + 1) items)) found in
      (λ has. before.0 (one.0 has), λ has. one.1 (before.1 has))

  pub some_ends : (whole rest : Code) (old now : List Ranked) → rest ≡ End → AddsSome whole old rest now → AddsTo (SomewhereIn program method whole) old now
  some_ends whole rest old now none so_far = λ found.
      let all = subst (λ code. (IsListed found now ⊎ SomewhereIn program method code found.error found.rank) ↔ (IsListed found old ⊎ SomewhereIn program method whole found.error found.rank)) none (so_far found) in
      (λ has. all.0 (inl has), λ has. ⊎_elim (λ here. here) (λ never. absurd never) (all.1 has))

  -- ---- conditions

  pub code_as : (one other : Code) (old new : List Ranked) → one ≡ other → AddsTo (SomewhereIn program method other) old new → AddsTo (SomewhereIn program method one) old new
  code_as one other old new is adds = subst (λ code. AddsTo (SomewhereIn program method code) old new) (sym is) adds

  pub ask_as : (one other : Condition) (old new : List Ranked) → one ≡ other → AddsTo (SomewhereOf program method other) old new → AddsTo (SomewhereOf program method one) old new
  ask_as one other old new is adds = subst (λ asked. AddsTo (SomewhereOf program method asked) old new) (sym is) adds
