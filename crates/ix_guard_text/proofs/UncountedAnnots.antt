-- An annotation on a variable that counts no claim claims nothing, and what is wrong with it depends on no name.
use Rattle.std.proofs.Common.{◌≡◌, ℕ, Bool, true, false, List, [], ◌∷◌, length, Option, Some, None, option_map, Result, Ok, Err, codes, refl, sym, ap, ap₂, ◌∙◌, subst, arith}
use Rattle.std.specs.Option.{option_and_then}
use Rattle.std.specs.Prelude.{if◌then◌else◌, bytes_eq, ◌&&◌, ◌||◌, ◌==◌}
use Rattle.std.proofs.lemmas.Bool.{false≢true}
use Rattle.ix_core.specs.declared.claim.Claim.{Claim}
use Rattle.ix_tree.specs.declared.annot.Annot.{Annot}
use Rattle.ix_tree.specs.declared.annot.AnnotArg.{AnnotArg}
use Rattle.ix_tree.specs.declared.annot.AnnotValue.{AnnotValue}
use Rattle.ix_tree.specs.declared.annot.AnnotValue.TheVariants.{Number, Truth, Texts}
use Rattle.ix_annot.specs.declared.arguments.Plan.{Plan}
use Rattle.ix_annot.specs.declared.arguments.Promise.{Promise}
use Rattle.ix_annot.specs.declared.arguments.Written.{Written}
use Rattle.ix_annot.specs.declared.scope.AnnotError.{AnnotError}
use Rattle.ix_annot.specs.declared.scope.AnnotError.TheVariants.{InheritedName, WrongTarget}
use Rattle.ix_annot.specs.declared.scope.Claims.{Claims}
use Rattle.ix_annot.specs.declared.scope.Target.{Target}
use Rattle.ix_annot.specs.declared.scope.Target.TheVariants as on
use Rattle.ix_annot.specs.declared.table.Says.{Says}
use Rattle.ix_annot.specs.declared.table.Says.TheVariants.{Nothing, EffectFree, AtLeast, Between, LengthAtLeast, Arrays, Offsets, Bounds, Ensures, EnsuresIf}
use Rattle.ix_annot.specs.declared.table.Targets.{Targets}
use Rattle.ix_annot.specs.declared.table.Targets.TheVariants as targets
use Rattle.ix_annot.specs.Arguments.{Text, are_taken, texts, texts_or_none, matched, claims_written, plan_with, plan_of, plan}
use Rattle.ix_annot.specs.Expansion.{claims_of, with_claims, with_plan, with_row, expanded, is_field}
use Rattle.ix_annot.specs.Named.{Names}
use Rattle.ix_annot.specs.Table.{table, row_in, row_named, fits, argument, entries_in, counted_of, counted_in, counted}
use Rattle.ix_meaning.specs.Annotated.{names_nothing, claims_from}

-- what an annotation on a variable, or before or behind its type, stands on
abbrev pub is_variable : Target → Bool
is_variable on.Int = true
is_variable on.Element = true
is_variable on.Array = true
is_variable on.Other = true
is_variable _ = false

-- ---- which annotations promise something: those of methods

abbrev is_of_methods : Targets → Bool
is_of_methods targets.Method = true
is_of_methods targets.BooleanMethod = true
is_of_methods _ = false

abbrev row_is : Targets → Says → Bool
row_is ts Ensures = is_of_methods ts
row_is ts EnsuresIf = is_of_methods ts
row_is ts _ = true

abbrev Row : Type 0
Row = List ℕ × Targets × Says

abbrev rows_are : List Row → Bool
rows_are [] = true
rows_are (row ∷ rows) = row_is row.1 row.2 && rows_are rows

and_both : (a b : Bool) → (a && b) ≡ true → (a ≡ true) × (b ≡ true)
and_both true b e = (refl, e)
and_both false b e = absurd (false≢true e)

found_is : (rows : List Row) (name : List ℕ) (row : Targets × Says) → rows_are rows ≡ true → row_in rows name ≡ Some row → row_is row.0 row.1 ≡ true
found_is [] name row all e = absurd cc
found_is (r ∷ rows) name row all e = by (bytes_eq r.0 name) e (found_is rows name row (and_both (row_is r.1 r.2) (rows_are rows) all).1)
  where
    by : (b : Bool) → ◌≡◌ {A = Option (Targets × Says)} (if b then Some (r.1, r.2) else row_in rows name) (Some row) → (row_in rows name ≡ Some row → row_is row.0 row.1 ≡ true) → row_is row.0 row.1 ≡ true
    by true e rest = let same : ◌≡◌ {A = Targets × Says} (r.1, r.2) row = cc in subst (λ (x : Targets × Says). row_is x.0 x.1 ≡ true) same (and_both (row_is r.1 r.2) (rows_are rows) all).0
    by false e rest = rest e

named_is : (name : List ℕ) (row : Targets × Says) → row_named name ≡ Some row → row_is row.0 row.1 ≡ true
unfolding row_named
named_is name row e = found_is table name row refl e

not_on_variables : (ts : Targets) (t : Target) → is_of_methods ts ≡ true → is_variable t ≡ true → fits ts t ≡ true → ⊥
not_on_variables targets.IntOrElement t a b c = false≢true a
not_on_variables targets.Int t a b c = false≢true a
not_on_variables targets.Array t a b c = false≢true a
not_on_variables targets.Callable t a b c = false≢true a
not_on_variables targets.Method on.Int a b c = false≢true c
not_on_variables targets.Method on.Element a b c = false≢true c
not_on_variables targets.Method on.Array a b c = false≢true c
not_on_variables targets.Method on.Other a b c = false≢true c
not_on_variables targets.Method on.Method a b c = false≢true b
not_on_variables targets.Method on.BooleanMethod a b c = false≢true b
not_on_variables targets.Method on.Constructor a b c = false≢true b
not_on_variables targets.BooleanMethod on.Int a b c = false≢true c
not_on_variables targets.BooleanMethod on.Element a b c = false≢true c
not_on_variables targets.BooleanMethod on.Array a b c = false≢true c
not_on_variables targets.BooleanMethod on.Other a b c = false≢true c
not_on_variables targets.BooleanMethod on.Method a b c = false≢true b
not_on_variables targets.BooleanMethod on.BooleanMethod a b c = false≢true b
not_on_variables targets.BooleanMethod on.Constructor a b c = false≢true b

-- ---- the plan of such an annotation

record IsEmpty (p : Plan) : Type 0 where
  pub first : p.first ≡ []
  pub written : p.written ≡ []
  pub promise : p.promise ≡ None

none_written : (says : Says) (x : Option AnnotValue) (offsets : Option (List Text)) (ws : List Written) → entries_in x ≡ 0
    → option_and_then (λ entries. option_and_then (matched says entries) offsets) (texts x) ≡ Some ws → ws ≡ []
none_written says None offsets ws few e = absurd cc
none_written says (Some (Number n)) offsets ws few e = absurd cc
none_written says (Some (Truth b)) offsets ws few e = absurd cc
none_written says (Some (Texts (t ∷ ts))) offsets ws few e = absurd (omega (arith, few))
none_written says (Some (Texts [])) None ws few e = absurd cc
none_written says (Some (Texts [])) (Some os) ws few e = by (length os == 0 || length os == 0) e
  where
    by : (b : Bool) → ◌≡◌ {A = Option (List Written)} (if b then Some [] else None) (Some ws) → ws ≡ []
    by true e = cc
    by false e = absurd cc

listed_plan : (says : Says) (args : List AnnotArg) (p : Plan) → entries_in (argument (codes "value") args) ≡ 0 → (o : Option (List Written))
    → ((ws : List Written) → o ≡ Some ws → ws ≡ []) → option_map (plan_with false []) o ≡ Some p → IsEmpty p
listed_plan says args p few None none e = absurd cc
listed_plan says args p few (Some ws) none e =
    let same : plan_with false [] ws ≡ p = cc in
    subst IsEmpty same (record { first = refl; written = none ws refl; promise = refl })

plan_of_empty : (ts : Targets) (t : Target) (says : Says) (args : List AnnotArg) (p : Plan) → row_is ts says ≡ true → is_variable t ≡ true → fits ts t ≡ true → counted_of says args ≡ 0
    → plan_of says args ≡ Some p → IsEmpty p
plan_of_empty ts t Nothing args p row variable fit few e = let same : plan_with false [] [] ≡ p = cc in subst IsEmpty same (record { first = refl; written = refl; promise = refl })
plan_of_empty ts t EffectFree args p row variable fit few e = let same : plan_with true [] [] ≡ p = cc in subst IsEmpty same (record { first = refl; written = refl; promise = refl })
plan_of_empty ts t (AtLeast least) args p row variable fit few e = absurd (omega (arith, few))
plan_of_empty ts t Between args p row variable fit few e = absurd (omega (arith, few))
plan_of_empty ts t LengthAtLeast args p row variable fit few e = absurd (omega (arith, few))
plan_of_empty ts t (Arrays (Some least) each) args p row variable fit few e = absurd (omega (arith, few))
plan_of_empty ts t (Arrays None each) args p row variable fit few e =
    let none : entries_in (argument (codes "value") args) ≡ 0 = omega (arith, few) in
    listed_plan (Arrays None each) args p none (claims_written (Arrays None each) args)
    (λ ws h. none_written (Arrays None each) (argument (codes "value") args) (texts_or_none (argument (codes "offset") args)) ws none h) e
plan_of_empty ts t Offsets args p row variable fit few e =
    listed_plan Offsets args p few (claims_written Offsets args) (λ ws h. none_written Offsets (argument (codes "value") args) (texts_or_none (argument (codes "offset") args)) ws few h) e
plan_of_empty ts t Bounds args p row variable fit few e =
    listed_plan Bounds args p few (claims_written Bounds args) (λ ws h. none_written Bounds (argument (codes "value") args) (texts_or_none (argument (codes "offset") args)) ws few h) e
plan_of_empty ts t Ensures args p row variable fit few e = absurd (not_on_variables ts t row variable fit)
plan_of_empty ts t EnsuresIf args p row variable fit few e = absurd (not_on_variables ts t row variable fit)

plan_empty : (ts : Targets) (t : Target) (says : Says) (args : List AnnotArg) (p : Plan) → row_is ts says ≡ true → is_variable t ≡ true → fits ts t ≡ true → counted_of says args ≡ 0
    → plan says args ≡ Some p → IsEmpty p
unfolding plan
plan_empty ts t says args p row variable fit few e = by (are_taken says args) e
  where
    by : (b : Bool) → (if b then plan_of says args else None) ≡ Some p → IsEmpty p
    by true e = plan_of_empty ts t says args p row variable fit few e
    by false e = absurd cc

-- ---- what it gives

abbrev nothing_claimed : Bool → Claims
nothing_claimed free = record { list = []; effect_free = free; posts = [] }

empty_plan : (free : Bool) (names : Names) → let p : Plan = record { first = []; written = []; effect_free = free; promise = None } in with_claims names p (claims_of names p.written) ≡ Ok (nothing_claimed free)
empty_plan free names = by (is_field names.own)
  where
    by : (b : Bool) → ◌≡◌ {A = Result Claims AnnotError} (if b && false then Err InheritedName else Ok (nothing_claimed free)) (Ok (nothing_claimed free))
    by true = refl
    by false = refl

gives_nothing : (p : Plan) → IsEmpty p → (names : Names) → with_claims names p (claims_of names p.written) ≡ Ok (nothing_claimed p.effect_free)
gives_nothing p h names =
    let as_empty : p ≡ record { first = []; written = []; effect_free = p.effect_free; promise = None } =
    ap₂ (λ (first : List Claim) (written : List Written). let q : Plan = record { first = first; written = written; effect_free = p.effect_free; promise = p.promise } in q) h.first h.written
    ∙ ap (λ (promise : Option Promise). let q : Plan = record { first = []; written = []; effect_free = p.effect_free; promise = promise } in q) h.promise in
    ap (λ (q : Plan). with_claims names q (claims_of names q.written)) as_empty ∙ empty_plan p.effect_free names

-- The same is given whatever names mean, and no claim.
pub record Uncounted (annot : Annot) (names : Names) : Type 0 where
  pub same : expanded annot names ≡ expanded annot (names_nothing names.target)
  pub nothing : claims_from (expanded annot names) ≡ []

record Settled (a b : Result Claims AnnotError) : Type 0 where
  pub same : a ≡ b
  pub nothing : claims_from a ≡ []

plan_settled : (ts : Targets) (says : Says) (args : List AnnotArg) (names : Names) → row_is ts says ≡ true → is_variable names.target ≡ true → counted_of says args ≡ 0 → (o : Option Plan) → plan says args ≡ o
    → Settled (with_plan names ts o) (with_plan (names_nothing names.target) ts o)
plan_settled ts says args names row variable few None e = record { same = refl; nothing = refl }
plan_settled ts says args names row variable few (Some p) e = by (fits ts names.target) (λ f. plan_empty ts names.target says args p row variable f few e)
  where
    by : (b : Bool) → (b ≡ true → IsEmpty p)
        → Settled (if b then with_claims names p (claims_of names p.written) else Err WrongTarget)
        (if b then with_claims (names_nothing names.target) p (claims_of (names_nothing names.target) p.written) else Err WrongTarget)
    by true empty = record {
      same = gives_nothing p (empty refl) names ∙ sym (gives_nothing p (empty refl) (names_nothing names.target));
      nothing = ap claims_from (gives_nothing p (empty refl) names);
    }
    by false empty = record { same = refl; nothing = refl }

row_settled : (annot : Annot) (names : Names) → is_variable names.target ≡ true → (row : Option (Targets × Says)) → row_named annot.name.text ≡ row → counted_in row annot.args ≡ 0
    → Settled (with_row annot names row) (with_row annot (names_nothing names.target) row)
row_settled annot names variable None e few = record { same = refl; nothing = refl }
row_settled annot names variable (Some row) e few = plan_settled row.0 row.1 annot.args names (named_is annot.name.text row e) variable few (plan row.1 annot.args) refl

pub uncounted : (annot : Annot) (names : Names) → is_variable names.target ≡ true → counted annot ≡ 0 → Uncounted annot names
unfolding expanded
uncounted annot names variable few = let h = row_settled annot names variable (row_named annot.name.text) refl few in record { same = h.same; nothing = h.nothing }
