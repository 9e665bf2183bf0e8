-- The lists of errors have exactly the errors of the rules.
use Rattle.std.specs.Prelude.{drop, min, Result, Ok, Err, OnOk, ◌≤◌, ◌≡◌, ◌⊎◌, ◌↔◌, ℕ, zero, suc, ◌+◌, Bool, true, false, cond, not, ◌&&◌, ◌==◌, IsTrue, slice_get, Some, None, List, [], ◌∷◌, ◌++◌, length, refl}
use Rattle.std.proofs.Common.{arith, append_assoc, inl, inr, ap, sym, ◌∙◌, subst, ⊎_elim}
use Rattle.std.proofs.lemmas.Bool.{false≢true}
use Rattle.std.specs.declared.alloc.AllocError.{AllocError}
use Rattle.ix_text.specs.declared.span.Span.{Span}
use Rattle.ix_core.specs.declared.claim.Claim.{Claim}
use Rattle.ix_core.specs.declared.claim.Name.{Name}
use Rattle.ix_core.specs.declared.error.Error.{Error}
use Rattle.ix_core.specs.declared.error.Subject.{Subject}
use Rattle.ix_core.specs.declared.error.Subject.TheVariants.{Param, FieldNamed, Result as ResultOf}
use Rattle.ix_core.specs.declared.fact.Path.{Path}
use Rattle.ix_core.specs.declared.fact.Path.TheVariants.{Slot, FieldOf}
use Rattle.ix_core.specs.declared.fact.PathClaim.{PathClaim}
use Rattle.ix_core.specs.declared.op.Arg.{Arg}
use Rattle.ix_core.specs.declared.op.CallOp.{CallOp}
use Rattle.ix_core.specs.declared.program.Field.{Field}
use Rattle.ix_core.specs.declared.program.Local.{Local as Variable}
use Rattle.ix_core.specs.declared.program.Method.{Method}
use Rattle.ix_core.specs.declared.program.Program.{Program}
use Rattle.ix_core.specs.Tables.{method_at, field_at, all_fields, param_slot}
use Rattle.ix_facts.specs.Stores.{Stored, Unreachable, Reached, IsProved}
use Rattle.ix_rules_hold.specs.MachineSteps.{on_paths, own_path}
use Rattle.ix_errors.specs.declared.ranked.Ranked.{Ranked}
use Rattle.ix_errors.specs.Exactly.{IsListed, AreExactly, AddsExactly}
use Rattle.ix_signatures.specs.Names.{call_path, object_path, written_path, names_field}
use Rattle.ix_errors.specs.Refusals.{is_proved, refusals, not_proved, not_proved_of, argument_refusals, field_refusals, dependent_refusals, param_refusals}
use Rattle.ix_signatures.specs.SignErrors.{Refuses, unproved, Unproved, ArgumentClaim, ReturnClaim, ConstructorClaim}

-- ---- what is proved, as a test

pub proved_is : (claim : PathClaim) (p : Path) (s : Stored) (r : Bool) → IsTrue r ↔ IsProved claim p s → r ≡ is_proved claim p s
proved_is claim p Unreachable r both = both.1 tt
proved_is claim p (Reached facts) true both = sym (both.0 refl)
proved_is claim p (Reached facts) false both = by (is_proved claim p (Reached facts)) refl
  where
    by : (t : Bool) → is_proved claim p (Reached facts) ≡ t → false ≡ t
    by true so = both.1 so
    by false so = refl

-- the test fails exactly where the claim is refused
pub fails_refused : (claim : PathClaim) (p : Path) (s : Stored) → (not (is_proved claim p s) ≡ true) ↔ Refuses s claim p
fails_refused claim p Unreachable = (λ t. absurd (false≢true t), λ refused. absurd (refused tt))
fails_refused claim p (Reached facts) = (λ t proved. by (is_proved claim p (Reached facts)) t proved, λ refused. back (is_proved claim p (Reached facts)) refl refused)
  where
    by : (b : Bool) → not b ≡ true → b ≡ true → ⊥
    by true t proved = false≢true t
    by false t proved = false≢true proved

    back : (b : Bool) → is_proved claim p (Reached facts) ≡ b → Refuses (Reached facts) claim p → not b ≡ true
    back true so refused = absurd (refused so)
    back false so refused = refl

-- ---- lists

pub listed_left : (x : Ranked) (a b : List Ranked) → IsListed x a → IsListed x (a ++ b)
listed_left x [] b i = absurd i
listed_left x (y ∷ a) b i = ⊎_elim (λ e. inl e) (λ j. inr (listed_left x a b j)) i

pub listed_right : (x : Ranked) (a b : List Ranked) → IsListed x b → IsListed x (a ++ b)
listed_right x [] b i = i
listed_right x (y ∷ a) b i = inr (listed_right x a b i)

pub listed_either : (x : Ranked) (a b : List Ranked) → IsListed x (a ++ b) → IsListed x a ⊎ IsListed x b
listed_either x [] b i = inr i
listed_either x (y ∷ a) b i = ⊎_elim (λ e. inl (inl e)) (λ j. ⊎_elim (λ k. inl (inr k)) (λ k. inr k) (listed_either x a b j)) i

pub exactly_none : (Derived : Error → ℕ → Type 0) → ((error : Error) (rank : ℕ) → Derived error rank → ⊥) → AreExactly Derived []
exactly_none Derived none = record { all = λ error rank d. none error rank d; only = λ found i. absurd i }

pub exactly_both : (First Second Both : Error → ℕ → Type 0) (a b : List Ranked) → ((error : Error) (rank : ℕ) → Both error rank → First error rank ⊎ Second error rank)
    → ((error : Error) (rank : ℕ) → First error rank → Both error rank) → ((error : Error) (rank : ℕ) → Second error rank → Both error rank) → AreExactly First a → AreExactly Second b → AreExactly Both (a ++ b)
exactly_both First Second Both a b apart one two x y = record {
  all = λ error rank d. ⊎_elim (λ f. listed_left (record { error = error; rank = rank }) a b (x.all error rank f)) (λ s. listed_right (record { error = error; rank = rank }) a b (y.all error rank s)) (apart error rank d);
  only = λ found i. ⊎_elim (λ j. one found.error found.rank (x.only found j)) (λ j. two found.error found.rank (y.only found j)) (listed_either found a b i);
}

pub exactly_same : (First Second : Error → ℕ → Type 0) (a : List Ranked) → ((error : Error) (rank : ℕ) → First error rank ↔ Second error rank) → AreExactly First a → AreExactly Second a
exactly_same First Second a same x = record { all = λ error rank d. x.all error rank ((same error rank).1 d); only = λ found i. (same found.error found.rank).0 (x.only found i) }

-- ---- the claims of one declaration

module _ (Fails : Claim → Type 0) (fails : Claim → Bool) (decides : (claim : Claim) → (fails claim ≡ true) ↔ Fails claim) (rule : ℕ) (span : Span) (subject : Subject) where
  -- from a claim of this rank on
  abbrev From : ℕ → List Claim → Error → ℕ → Type 0
  From first claims error rank = (k : ℕ) × (rank ≡ first + k) × (claim : Claim) × (slice_get claims k ≡ Some claim) × Fails claim × (error ≡ unproved rule span subject claim)

  later : (first : ℕ) (claim : Claim) (claims : List Claim) (error : Error) (rank : ℕ) → From (suc first) claims error rank → From first (claim ∷ claims) error rank
  later first claim claims error rank d = (suc d.0, d.1 ∙ omega arith, d.2, d.3, d.4, d.5)

  -- the first claim, or a later one
  parts : (first : ℕ) (claim : Claim) (claims : List Claim) (error : Error) (rank : ℕ) → From first (claim ∷ claims) error rank
      → ((rank ≡ first) × Fails claim × (error ≡ unproved rule span subject claim)) ⊎ From (suc first) claims error rank
  parts first claim claims error rank (zero, e, other, at, f, is) =
      let same : other ≡ claim = cc in
      inl (e ∙ omega arith, subst Fails same f, is ∙ ap (unproved rule span subject) same)
  parts first claim claims error rank (suc k, e, other, at, f, is) = inr (k, e ∙ omega arith, other, at, f, is)

  refusals_by : (first : ℕ) (claim : Claim) (claims : List Claim) (rest : List Ranked) → AreExactly (From (suc first) claims) rest → (t : Bool) → fails claim ≡ t
      → AreExactly (From first (claim ∷ claims)) (cond t (record { error = unproved rule span subject claim; rank = first } ∷ rest) rest)
  refusals_by first claim claims rest ih true so = record {
    all = λ error rank d. ⊎_elim (λ x. inl (let e = x.0 in let i = x.2 in cc)) (λ x. inr (ih.all error rank x)) (parts first claim claims error rank d);
    only = λ found i. ⊎_elim
        (λ e. subst (λ (x : Ranked). From first (claim ∷ claims) x.error x.rank) (sym e) (0, omega arith, claim, refl, (decides claim).0 so, refl))
        (λ j. later first claim claims found.error found.rank (ih.only found j))
        i;
  }
  refusals_by first claim claims rest ih false so = record {
    all = λ error rank d. ⊎_elim (λ x. absurd (false≢true (sym so ∙ (decides claim).1 x.1))) (λ x. ih.all error rank x) (parts first claim claims error rank d);
    only = λ found i. later first claim claims found.error found.rank (ih.only found i);
  }

  refusals_from : (first : ℕ) (claims : List Claim) → AreExactly (From first claims) (refusals fails rule span subject first claims)
  refusals_from first [] = exactly_none (From first []) (λ error rank d. let none : None ≡ Some d.2 = d.3 in absurd cc)
  refusals_from first (claim ∷ claims) = refusals_by first claim claims (refusals fails rule span subject (suc first) claims) (refusals_from (suc first) claims) (fails claim) refl

  pub refusals_exact : (claims : List Claim) → AreExactly (Unproved Fails claims rule span subject) (refusals fails rule span subject 0 claims)
  refusals_exact claims =
      exactly_same (From 0 claims) (Unproved Fails claims rule span subject) (refusals fails rule span subject 0 claims)
      (λ error rank. (
        λ d. record { claim = d.2; claimed = let e : rank ≡ d.0 = d.1 ∙ omega arith in subst (λ k. slice_get claims k ≡ Some d.2) (sym e) d.3; refused = d.4; is = d.5 },
        λ u. (rank, omega arith, u.claim, u.claimed, u.refused, u.is),
      ))
      (refusals_from 0 claims)

-- ---- arguments

module _ (store : Stored) (call : CallOp) where
  -- an argument of this number or a later one
  abbrev Argument : ℕ → List Variable → List Arg → Error → ℕ → Type 0
  Argument first params args error rank = (k : ℕ) × (param : Variable) × (slice_get params k ≡ Some param) × (arg : Arg) × (slice_get args k ≡ Some arg)
      × Unproved (λ claim. Refuses store (on_paths (call_path call) claim) (Slot arg.slot)) param.claims 5 arg.span (Param call.method (first + k)) error rank

  abbrev One : ℕ → Variable → Arg → Error → ℕ → Type 0
  One number param arg = Unproved (λ claim. Refuses store (on_paths (call_path call) claim) (Slot arg.slot)) param.claims 5 arg.span (Param call.method number)

  argument_parts : (first : ℕ) (param : Variable) (params : List Variable) (arg : Arg) (args : List Arg) (error : Error) (rank : ℕ) → Argument first (param ∷ params) (arg ∷ args) error rank
      → One first param arg error rank ⊎ Argument (suc first) params args error rank
  argument_parts first param params arg args error rank (zero, p, at, a, given, u) =
      let same : p ≡ param = cc in
      let equal : a ≡ arg = cc in
      let e : first + 0 ≡ first = omega arith in
      inl (subst (λ n. One n param arg error rank) e (subst (λ x. One (first + 0) param x error rank) equal (subst (λ x. One (first + 0) x a error rank) same u)))
  argument_parts first param params arg args error rank (suc k, p, at, a, given, u) =
      let e : first + suc k ≡ suc first + k = omega arith in
      inr (k, p, at, a, given, subst (λ n. One n p a error rank) e u)

  argument_one : (first : ℕ) (param : Variable) (params : List Variable) (arg : Arg) (args : List Arg) (error : Error) (rank : ℕ) → One first param arg error rank → Argument first (param ∷ params) (arg ∷ args) error rank
  argument_one first param params arg args error rank u = let e : first ≡ first + 0 = omega arith in (0, param, refl, arg, refl, subst (λ n. One n param arg error rank) e u)

  argument_later : (first : ℕ) (param : Variable) (params : List Variable) (arg : Arg) (args : List Arg) (error : Error) (rank : ℕ) → Argument (suc first) params args error rank → Argument first (param ∷ params) (arg ∷ args) error rank
  argument_later first param params arg args error rank d =
      let e : suc first + d.0 ≡ first + suc d.0 = omega arith in
      (suc d.0, d.1, d.2, d.3, d.4, subst (λ n. One n d.1 d.3 error rank) e d.5)

  pub arguments_exact : (first : ℕ) (params : List Variable) (args : List Arg) → AreExactly (Argument first params args) (argument_refusals store call first params args)
  arguments_exact first [] args = exactly_none (Argument first [] args) (λ error rank d. let none : None ≡ Some d.1 = d.2 in absurd cc)
  arguments_exact first (param ∷ params) [] = exactly_none (Argument first (param ∷ params) []) (λ error rank d. let none : None ≡ Some d.3 = d.4 in absurd cc)
  arguments_exact first (param ∷ params) (arg ∷ args) =
      exactly_both (One first param arg) (Argument (suc first) params args) (Argument first (param ∷ params) (arg ∷ args))
      (refusals (not_proved store (call_path call) (Slot arg.slot)) 5 arg.span (Param call.method first) 0 param.claims) (argument_refusals store call (suc first) params args)
      (argument_parts first param params arg args) (argument_one first param params arg args) (argument_later first param params arg args)
      (refusals_exact (λ claim. Refuses store (on_paths (call_path call) claim) (Slot arg.slot)) (not_proved store (call_path call) (Slot arg.slot)) (λ claim. fails_refused (on_paths (call_path call) claim) (Slot arg.slot) store)
      5 arg.span (Param call.method first) param.claims)
      (arguments_exact (suc first) params args)

-- ---- fields of `this`

module _ (program : Program) (store : Stored) (span : Span) where
  abbrev OneField : ℕ → Error → ℕ → Type 0
  OneField field = Unproved (λ claim. Refuses store (on_paths (object_path 0) claim) (FieldOf 0 field)) (field_at program field).claims 9 span (FieldNamed field)

  abbrev SomeField : List ℕ → Error → ℕ → Type 0
  SomeField fields error rank = (k : ℕ) × (field : ℕ) × (slice_get fields k ≡ Some field) × OneField field error rank

  field_parts : (field : ℕ) (fields : List ℕ) (error : Error) (rank : ℕ) → SomeField (field ∷ fields) error rank → OneField field error rank ⊎ SomeField fields error rank
  field_parts field fields error rank (zero, f, at, u) = let same : f ≡ field = cc in inl (subst (λ x. OneField x error rank) same u)
  field_parts field fields error rank (suc k, f, at, u) = inr (k, f, at, u)

  pub fields_exact : (fields : List ℕ) → AreExactly (SomeField fields) (field_refusals program store span fields)
  fields_exact [] = exactly_none (SomeField []) (λ error rank d. let none : None ≡ Some d.1 = d.2 in absurd cc)
  fields_exact (field ∷ fields) =
      exactly_both (OneField field) (SomeField fields) (SomeField (field ∷ fields))
      (refusals (not_proved store (object_path 0) (FieldOf 0 field)) 9 span (FieldNamed field) 0 (field_at program field).claims) (field_refusals program store span fields)
      (field_parts field fields) (λ error rank u. (0, field, refl, u)) (λ error rank d. (suc d.0, d.1, d.2, d.3))
      (refusals_exact (λ claim. Refuses store (on_paths (object_path 0) claim) (FieldOf 0 field)) (not_proved store (object_path 0) (FieldOf 0 field)) (λ claim. fails_refused (on_paths (object_path 0) claim) (FieldOf 0 field) store)
      9 span (FieldNamed field) (field_at program field).claims)
      (fields_exact fields)

-- ---- fields whose claims name a written one

and_parts : (a b : Bool) → (a && b) ≡ true → (a ≡ true) × (b ≡ true)
and_parts true b t = (refl, t)
and_parts false b t = absurd (false≢true t)

and_from : (a b : Bool) → a ≡ true → b ≡ true → (a && b) ≡ true
and_from true b s t = t
and_from false b s t = absurd (false≢true s)

pub naming_refused : (field : ℕ) (store : Stored) (path : Name → Path) (p : Path) (claim : Claim) → (not_proved_of (Some field) store path p claim ≡ true) ↔ ((names_field field claim ≡ true) × Refuses store (on_paths path claim) p)
naming_refused field store path p claim = (
  λ t. let x = and_parts (names_field field claim) (not_proved store path p claim) t in (x.0, (fails_refused (on_paths path claim) p store).0 x.1),
  λ d. and_from (names_field field claim) (not_proved store path p claim) d.0 ((fails_refused (on_paths path claim) p store).1 d.1),
)

module _ (store : Stored) (object field value : ℕ) (span : Span) where
  abbrev pub Dependent : ℕ → Field → Error → ℕ → Type 0
  Dependent number other =
      Unproved (λ claim. (names_field field claim ≡ true) × Refuses store (on_paths (written_path object field value) claim) (FieldOf object number)) other.claims 8 span (FieldNamed number)

  abbrev pub SomeDependent : ℕ → List Field → Error → ℕ → Type 0
  SomeDependent first fields error rank = (k : ℕ) × (other : Field) × (slice_get fields k ≡ Some other) × (((first + k) == field) ≡ false) × Dependent (first + k) other error rank

  abbrev ThisDependent : ℕ → Field → Error → ℕ → Type 0
  ThisDependent number other error rank = ((number == field) ≡ false) × Dependent number other error rank

  dependent_parts : (first : ℕ) (other : Field) (fields : List Field) (error : Error) (rank : ℕ) → SomeDependent first (other ∷ fields) error rank → ThisDependent first other error rank ⊎ SomeDependent (suc first) fields error rank
  dependent_parts first other fields error rank (zero, o, at, apart, u) =
      let same : o ≡ other = cc in
      let e : first + 0 ≡ first = omega arith in
      inl (subst (λ n. (n == field) ≡ false) e apart, subst (λ n. Dependent n other error rank) e (subst (λ x. Dependent (first + 0) x error rank) same u))
  dependent_parts first other fields error rank (suc k, o, at, apart, u) =
      let e : first + suc k ≡ suc first + k = omega arith in
      inr (k, o, at, subst (λ n. (n == field) ≡ false) e apart, subst (λ n. Dependent n o error rank) e u)

  dependent_one : (first : ℕ) (other : Field) (fields : List Field) (error : Error) (rank : ℕ) → ThisDependent first other error rank → SomeDependent first (other ∷ fields) error rank
  dependent_one first other fields error rank d =
      let e : first ≡ first + 0 = omega arith in
      (0, other, refl, subst (λ n. (n == field) ≡ false) e d.0, subst (λ n. Dependent n other error rank) e d.1)

  dependent_later : (first : ℕ) (other : Field) (fields : List Field) (error : Error) (rank : ℕ) → SomeDependent (suc first) fields error rank → SomeDependent first (other ∷ fields) error rank
  dependent_later first other fields error rank d =
      let e : suc first + d.0 ≡ first + suc d.0 = omega arith in
      (suc d.0, d.1, d.2, subst (λ n. (n == field) ≡ false) e d.3, subst (λ n. Dependent n d.1 error rank) e d.4)

  dependents_by : (first : ℕ) (other : Field) (fields : List Field) (rest : List Ranked) → AreExactly (SomeDependent (suc first) fields) rest → (t : Bool) → (first == field) ≡ t
      → AreExactly (SomeDependent first (other ∷ fields)) (cond t [] (refusals (not_proved_of (Some field) store (written_path object field value) (FieldOf object first)) 8 span (FieldNamed first) 0 other.claims) ++ rest)
  dependents_by first other fields rest ih true so =
      exactly_same (SomeDependent (suc first) fields) (SomeDependent first (other ∷ fields)) rest
      (λ error rank. (dependent_later first other fields error rank, λ d. ⊎_elim (λ x. absurd (false≢true (sym x.0 ∙ so))) (λ x. x) (dependent_parts first other fields error rank d)))
      ih
  dependents_by first other fields rest ih false so =
      exactly_both (Dependent first other) (SomeDependent (suc first) fields) (SomeDependent first (other ∷ fields))
      (refusals (not_proved_of (Some field) store (written_path object field value) (FieldOf object first)) 8 span (FieldNamed first) 0 other.claims) rest
      (λ error rank d. ⊎_elim (λ x. inl x.1) (λ x. inr x) (dependent_parts first other fields error rank d))
      (λ error rank u. dependent_one first other fields error rank (so, u)) (dependent_later first other fields)
      (refusals_exact (λ claim. (names_field field claim ≡ true) × Refuses store (on_paths (written_path object field value) claim) (FieldOf object first)) (not_proved_of (Some field) store (written_path object field value) (FieldOf object first))
      (naming_refused field store (written_path object field value) (FieldOf object first)) 8 span (FieldNamed first) other.claims)
      ih

  pub dependents_exact : (first : ℕ) (fields : List Field) → AreExactly (SomeDependent first fields) (dependent_refusals store object field value span first fields)
  dependents_exact first [] = exactly_none (SomeDependent first []) (λ error rank d. let none : None ≡ Some d.1 = d.2 in absurd cc)
  dependents_exact first (other ∷ fields) = dependents_by first other fields (dependent_refusals store object field value span (suc first) fields) (dependents_exact (suc first) fields) (first == field) refl

-- ---- parameters of an overriding method

module _ (store : Stored) (method : Method) (own : ℕ) where
  abbrev pub OneParam : ℕ → Variable → Error → ℕ → Type 0
  OneParam number param = Unproved (λ claim. Refuses store (on_paths (own_path method) claim) (Slot (param_slot method number))) param.claims 10 method.span (Param own number)

  abbrev pub SomeParam : ℕ → List Variable → Error → ℕ → Type 0
  SomeParam first params error rank = (k : ℕ) × (param : Variable) × (slice_get params k ≡ Some param) × OneParam (first + k) param error rank

  param_parts : (first : ℕ) (param : Variable) (params : List Variable) (error : Error) (rank : ℕ) → SomeParam first (param ∷ params) error rank → OneParam first param error rank ⊎ SomeParam (suc first) params error rank
  param_parts first param params error rank (zero, p, at, u) =
      let same : p ≡ param = cc in
      let e : first + 0 ≡ first = omega arith in
      inl (subst (λ n. OneParam n param error rank) e (subst (λ x. OneParam (first + 0) x error rank) same u))
  param_parts first param params error rank (suc k, p, at, u) = let e : first + suc k ≡ suc first + k = omega arith in inr (k, p, at, subst (λ n. OneParam n p error rank) e u)

  param_later : (first : ℕ) (param : Variable) (params : List Variable) (error : Error) (rank : ℕ) → SomeParam (suc first) params error rank → SomeParam first (param ∷ params) error rank
  param_later first param params error rank d = let e : suc first + d.0 ≡ first + suc d.0 = omega arith in (suc d.0, d.1, d.2, subst (λ n. OneParam n d.1 error rank) e d.3)

  pub params_exact : (first : ℕ) (params : List Variable) → AreExactly (SomeParam first params) (param_refusals store method own first params)
  params_exact first [] = exactly_none (SomeParam first []) (λ error rank d. let none : None ≡ Some d.1 = d.2 in absurd cc)
  params_exact first (param ∷ params) =
      exactly_both (OneParam first param) (SomeParam (suc first) params) (SomeParam first (param ∷ params))
      (refusals (not_proved store (own_path method) (Slot (param_slot method first))) 10 method.span (Param own first) 0 param.claims) (param_refusals store method own (suc first) params)
      (param_parts first param params) (λ error rank u. let e : first ≡ first + 0 = omega arith in (0, param, refl, subst (λ n. OneParam n param error rank) e u)) (param_later first param params)
      (refusals_exact (λ claim. Refuses store (on_paths (own_path method) claim) (Slot (param_slot method first))) (not_proved store (own_path method) (Slot (param_slot method first)))
      (λ claim. fails_refused (on_paths (own_path method) claim) (Slot (param_slot method first)) store) 10 method.span (Param own first) param.claims)
      (params_exact (suc first) params)

-- ---- arguments, one by one

no_arguments : (store : Stored) (call : CallOp) (first : ℕ) (params : List Variable) → argument_refusals store call first params [] ≡ []
no_arguments store call first [] = refl
no_arguments store call first (param ∷ params) = refl

-- behind the last argument or the last parameter there is none
pub arguments_past : (store : Stored) (call : CallOp) (first k : ℕ) (params : List Variable) (args : List Arg) → min (length params) (length args) ≤ k → argument_refusals store call first (drop k params) (drop k args) ≡ []
arguments_past store call first zero [] args past = refl
arguments_past store call first zero (param ∷ params) [] past = refl
arguments_past store call first zero (param ∷ params) (arg ∷ args) past = absurd (omega (arith, past))
arguments_past store call first (suc k) [] args past = refl
arguments_past store call first (suc k) (param ∷ params) [] past = no_arguments store call first (drop k params)
arguments_past store call first (suc k) (param ∷ params) (arg ∷ args) past = arguments_past store call first k params args (omega (arith, past))

-- ---- as clauses say it

pub ok_adds : (Derived : Error → ℕ → Type 0) (old new more : List Ranked) (r : Result (Unit {0}) AllocError) → OnOk r (new ≡ old ++ more) → AreExactly Derived more → OnOk r (AddsExactly Derived old new)
ok_adds Derived old new more (Ok u) e x = (more, e, x)
ok_adds Derived old new more (Err a) e x = tt

pub arguments_are : (program : Program) (call : CallOp) (store : Stored) → AreExactly (ArgumentClaim program call store) (argument_refusals store call 0 (method_at program call.method).params call.args)
arguments_are program call store =
    exactly_same (Argument store call 0 (method_at program call.method).params call.args) (ArgumentClaim program call store) (argument_refusals store call 0 (method_at program call.method).params call.args)
    (λ error rank. (
      λ d. record { number = d.0; param = d.1; declared = d.2; arg = d.3; given = d.4; of = let e : 0 + d.0 ≡ d.0 = omega arith in subst (λ n. One store call n d.1 d.3 error rank) e d.5 },
      λ a. let e : a.number ≡ 0 + a.number = omega arith in (a.number, a.param, a.declared, a.arg, a.given, subst (λ n. One store call n a.param a.arg error rank) e a.of),
    ))
    (arguments_exact store call 0 (method_at program call.method).params call.args)

nothing_more : (a : List Ranked) → a ++ [] ≡ a
nothing_more [] = refl
nothing_more (x ∷ a) = ap (λ l. x ∷ l) (nothing_more a)

-- what was still to come is nothing
pub ended : (a rest whole : List Ranked) → rest ≡ [] → a ++ rest ≡ whole → a ≡ whole
ended a rest whole none all = sym (nothing_more a) ∙ (ap (λ l. a ++ l) (sym none) ∙ all)

pub returns_are : (method : Method) (number slot : ℕ) (span : Span) (store : Stored) → AreExactly (ReturnClaim method number (Some slot) span store) (refusals (not_proved store (own_path method) (Slot slot)) 6 span (ResultOf number) 0 method.result_claims)
returns_are method number slot span store =
    exactly_same (Unproved (λ claim. Refuses store (on_paths (own_path method) claim) (Slot slot)) method.result_claims 6 span (ResultOf number)) (ReturnClaim method number (Some slot) span store) _
    (λ error rank. (
      λ u. record { slot = slot; returned = refl; of = u },
      λ r. let e = r.returned in let same : r.slot ≡ slot = cc in subst (λ s. Unproved (λ claim. Refuses store (on_paths (own_path method) claim) (Slot s)) method.result_claims 6 span (ResultOf number) error rank) same r.of,
    ))
    (refusals_exact (λ claim. Refuses store (on_paths (own_path method) claim) (Slot slot)) (not_proved store (own_path method) (Slot slot)) (λ claim. fails_refused (on_paths (own_path method) claim) (Slot slot) store) 6 span (ResultOf number) method.result_claims)

pub constructors_are : (program : Program) (method : Method) (store : Stored) → method.constructor ≡ true → AreExactly (ConstructorClaim program method store) (field_refusals program store method.span (all_fields program method.class))
constructors_are program method store constructor =
    exactly_same (SomeField program store method.span (all_fields program method.class)) (ConstructorClaim program method store) (field_refusals program store method.span (all_fields program method.class))
    (λ error rank. (λ d. record { constructor = constructor; at = d.0; field = d.1; has = d.2; of = d.3 }, λ r. (r.at, r.field, r.has, r.of)))
    (fields_exact program store method.span (all_fields program method.class))

-- two lists added one behind the other
pub ok_both : (old middle new first later : List Ranked) (r : Result (Unit {0}) AllocError) → middle ≡ old ++ first → OnOk r (new ≡ middle ++ later) → OnOk r (new ≡ old ++ (first ++ later))
ok_both old middle new first later (Ok u) m e = e ∙ (ap (λ l. l ++ later) m ∙ append_assoc old first later)
ok_both old middle new first later (Err a) m e = tt

-- two lists, each with exactly its errors
pub adds_both : (First Second : Error → ℕ → Type 0) (old middle new : List Ranked) → AddsExactly First old middle → AddsExactly Second middle new → AddsExactly (λ error rank. First error rank ⊎ Second error rank) old new
adds_both First Second old middle new x y =
    (x.0 ++ y.0, y.1 ∙ (ap (λ l. l ++ y.0) x.1 ∙ append_assoc old x.0 y.0), exactly_both First Second (λ error rank. First error rank ⊎ Second error rank) x.0 y.0 (λ error rank d. d) (λ error rank d. inl d) (λ error rank d. inr d) x.2 y.2)

pub ok_adds_both : (First Second : Error → ℕ → Type 0) (old middle new : List Ranked) (r : Result (Unit {0}) AllocError) → AddsExactly First old middle → OnOk r (AddsExactly Second middle new) → OnOk r (AddsExactly (λ error rank. First error rank ⊎ Second error rank) old new)
ok_adds_both First Second old middle new (Ok u) x y = adds_both First Second old middle new x y
ok_adds_both First Second old middle new (Err a) x y = tt
