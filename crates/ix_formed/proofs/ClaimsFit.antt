-- The claims and posts that annotations give fit the type of their declaration and the types of what they name.
use Rattle.std.proofs.Common.{◌≡◌, ℕ, ℤ, Bool, true, false, List, [], ◌∷◌, ◌++◌, Option, Some, None, Result, Err, refl, sym, ap, subst, ◌∙◌}
use Rattle.std.specs.Prelude.{if◌then◌else◌, ◌&&◌, ◌||◌, not, option_map, int_le, pos, length, drop, codes, bytes_eq, filter, ◌==◌}
use Rattle.std.specs.Option.{option_and_then}
use Rattle.std.specs.Str.{chars}
use Rattle.std.specs.List.{list_all, list_any}
use Rattle.std.proofs.lemmas.Bool.{false≢true}
use Rattle.ix_core.specs.declared.claim.Claim.{Claim}
use Rattle.ix_core.specs.declared.claim.Claim.TheVariants as claim
use Rattle.ix_core.specs.declared.claim.Name.{Name}
use Rattle.ix_core.specs.declared.claim.Off.{Off}
use Rattle.ix_core.specs.declared.claim.Off.TheVariants as off
use Rattle.ix_core.specs.declared.claim.Post.{Post}
use Rattle.ix_core.specs.declared.claim.Type_.{Type_}
use Rattle.ix_core.specs.Formed.{claim_fits, offset_fits, is_int_of, is_array_of}
use Rattle.ix_core.specs.Types.{int_type, is_int_type, is_array_type, is_element_claim}
use Rattle.ix_core.specs.Posts.{is_answer, is_conditional, same_post}
use Rattle.ix_core.specs.SameClaims.{distinct, same_claim}
use Rattle.ix_tree.specs.declared.annot.Annot.{Annot}
use Rattle.ix_tree.specs.declared.annot.AnnotArg.{AnnotArg}
use Rattle.ix_annot.specs.declared.texts.Naming.{Naming}
use Rattle.ix_annot.specs.declared.texts.Offset.{Offset}
use Rattle.ix_annot.specs.declared.texts.Offset.TheVariants.{Constant, Plus, Minus}
use Rattle.ix_annot.specs.declared.table.Targets.{Targets}
use Rattle.ix_annot.specs.declared.table.Targets.TheVariants.{IntOrElement, Int, Array, Callable, Method, BooleanMethod}
use Rattle.ix_annot.specs.declared.table.EachArray.{EachArray}
use Rattle.ix_annot.specs.declared.table.EachArray.TheVariants.{Below, SameLength, SearchResult, NotFound}
use Rattle.ix_annot.specs.declared.table.Says.{Says}
use Rattle.ix_annot.specs.declared.table.Says.TheVariants.{Nothing, EffectFree, AtLeast, Between, LengthAtLeast, Arrays, Offsets, Bounds, Ensures, EnsuresIf}
use Rattle.ix_annot.specs.declared.arguments.Written.{Written}
use Rattle.ix_annot.specs.declared.arguments.Written.TheVariants.{OfArray, Upper, Less}
use Rattle.ix_annot.specs.declared.arguments.Plan.{Plan}
use Rattle.ix_annot.specs.declared.arguments.Promise.{Promise}
use Rattle.ix_annot.specs.declared.scope.Target.{Target}
use Rattle.ix_annot.specs.declared.scope.Target.TheVariants as on
use Rattle.ix_annot.specs.declared.scope.Holds.TheVariants as holds
use Rattle.ix_annot.specs.declared.scope.Claims.{Claims}
use Rattle.ix_annot.specs.declared.scope.AnnotError.{AnnotError}
use Rattle.ix_annot.specs.declared.scope.AnnotError.TheVariants.{WrongTarget, InheritedName}
use Rattle.ix_annot.specs.Named.{Names, named}
use Rattle.ix_annot.specs.Table.{table, row_in, row_named, fits, argument}
use Rattle.ix_annot.specs.Arguments.{plan, plan_of, plan_with, one_claim, lowest, range, range_of, length_from, length_of, written, upper, first_offset, all_written, matched, claims_written, listed_in, truth, promised_on, promised, promised_if, with_others, texts, texts_or_none, int_or, are_taken, greatest_int, least_int}
use Rattle.ix_annot.specs.Texts.{array_text, bound_text}
use Rattle.ix_annot.specs.Expansion.{expanded, claim_of, claims_of, array_claim, upper_claim, offset_named, given, posts_on, posts_of_first, posts_of, or_bad_name, with_claims, with_plan, with_row, is_field, names_inherited, may_change, offset_may_change}
use Rattle.ix_meaning.specs.Annotated.{claims_from, posts_from, distinct_posts}
use Rattle.ix_formed.specs.Additions.{AllOf}
use Rattle.ix_formed.proofs.NumberLists.{all_joined, all_so, both_true}

-- ---- lists of claims

pub all_true : {A : Type 0} (is : A → Bool) (xs : List A) → AllOf (λ x. is x ≡ true) xs → list_all is xs ≡ true
all_true is [] all = refl
all_true is (x ∷ xs) all = both_true (is x) (list_all is xs) all.0 (all_true is xs all.1)

filtered : {A : Type 0} (P : A → Type 0) (keep : A → Bool) (xs : List A) → AllOf P xs → AllOf P (filter keep xs)
filtered P keep [] all = tt
filtered P keep (x ∷ xs) all = kept (keep x) (filtered P keep xs all.1)
  where
    kept : (b : Bool) → AllOf P (filter keep xs) → AllOf P (if b then x ∷ filter keep xs else filter keep xs)
    kept true rest = (all.0, rest)
    kept false rest = rest

pub distinct_so : (P : Claim → Type 0) (claims : List Claim) → AllOf P claims → AllOf P (distinct claims)
distinct_so P [] all = tt
distinct_so P (c ∷ claims) all = (all.0, filtered P (λ other. not (same_claim c other)) (distinct claims) (distinct_so P claims all.1))

pub distinct_posts_so : (P : Post → Type 0) (posts : List Post) → AllOf P posts → AllOf P (distinct_posts posts)
distinct_posts_so P [] all = tt
distinct_posts_so P (post ∷ posts) all = (all.0, filtered P (λ other. not (same_post post other)) (distinct_posts posts) (distinct_posts_so P posts all.1))

-- ---- the table

abbrev FitsSays : Targets → Says → Type 0
FitsSays IntOrElement (AtLeast least) = Unit {0}
FitsSays IntOrElement Between = Unit {0}
FitsSays Int Offsets = Unit {0}
FitsSays Int Bounds = Unit {0}
FitsSays Int (Arrays least (Below c)) = Unit {0}
FitsSays Int (Arrays least SearchResult) = Unit {0}
FitsSays Int (Arrays least NotFound) = Unit {0}
FitsSays Array (Arrays None SameLength) = Unit {0}
FitsSays Array LengthAtLeast = Unit {0}
FitsSays Callable EffectFree = Unit {0}
FitsSays Method Nothing = Unit {0}
FitsSays Method Ensures = Unit {0}
FitsSays BooleanMethod EnsuresIf = Unit {0}
FitsSays _ _ = ⊥

table_fits : AllOf (λ (row : List ℕ × Targets × Says). FitsSays row.1 row.2) table
table_fits = (tt, (tt, (tt, (tt, (tt, (tt, (tt, (tt, (tt, (tt, (tt, (tt, (tt, (tt, (tt, (tt, (tt, (tt, (tt, (tt, tt))))))))))))))))))))

row_fits : (rows : List (List ℕ × Targets × Says)) (name : List ℕ) (row : Targets × Says) → AllOf (λ (row : List ℕ × Targets × Says). FitsSays row.1 row.2) rows → row_in rows name ≡ Some row → FitsSays row.0 row.1
row_fits [] name row all e = absurd cc
row_fits (first ∷ rows) name row all e = here (bytes_eq first.0 name) e (λ f. row_fits rows name row all.1 f)
  where
    here : (b : Bool) → (if b then Some (first.1, first.2) else row_in rows name) ≡ Some row → (row_in rows name ≡ Some row → FitsSays row.0 row.1) → FitsSays row.0 row.1
    here true e rest = subst (λ (o : Option (Targets × Says)). fits_in o) e all.0
      where
        fits_in : Option (Targets × Says) → Type 0
        fits_in None = Unit {0}
        fits_in (Some r) = FitsSays r.0 r.1
    here false e rest = rest e

-- ---- plans

-- where there is one it is so
abbrev pub Whenever : {A : Type 0} → (A → Type 0) → Option A → Type 0
Whenever P None = Unit {0}
Whenever P (Some x) = P x

whenever_map : {A B : Type 0} (P : A → Type 0) (Q : B → Type 0) (f : A → B) (o : Option A) → ((x : A) → P x → Q (f x)) → Whenever P o → Whenever Q (option_map f o)
whenever_map P Q f None more holds = tt
whenever_map P Q f (Some x) more holds = more x holds

whenever_then : {A B : Type 0} (Q : B → Type 0) (f : A → Option B) (o : Option A) → ((x : A) → Whenever Q (f x)) → Whenever Q (option_and_then f o)
whenever_then Q f None more = tt
whenever_then Q f (Some x) more = more x

any_is : {A : Type 0} (o : Option A) → Whenever (λ x. Unit {0}) o
any_is None = tt
any_is (Some x) = tt

-- a claim that names nothing
abbrev IsLength : Claim → Type 0
IsLength (claim.Length least) = Unit {0}
IsLength _ = ⊥

abbrev IsFirst : Says → Claim → Type 0
IsFirst LengthAtLeast c = IsLength c
IsFirst (AtLeast least) c = is_element_claim c ≡ true
IsFirst Between c = is_element_claim c ≡ true
IsFirst (Arrays (Some least) each) c = is_element_claim c ≡ true
IsFirst _ c = ⊥

abbrev IsUpper : Written → Type 0
IsUpper w = (array : Naming) × (offset : Offset) × (w ≡ Upper array offset)

abbrev IsWritten : Says → Written → Type 0
IsWritten (Arrays least each) w = (array : Naming) × (w ≡ OfArray each array)
IsWritten Offsets w = IsUpper w
IsWritten Ensures w = IsUpper w
IsWritten EnsuresIf w = IsUpper w
IsWritten Bounds w = (bound : Naming) × (c : ℤ) × (w ≡ Less bound c)
IsWritten _ w = ⊥

-- the annotation promises something of its method
abbrev IsPromise : Says → Bool
IsPromise Ensures = true
IsPromise EnsuresIf = true
IsPromise _ = false

abbrev HasPromise : Bool → Option Promise → Type 0
HasPromise true (Some promise) = Unit {0}
HasPromise false None = Unit {0}
HasPromise _ _ = ⊥

-- only one of them speaks of one answer
abbrev Speaks : Says → Option Promise → Type 0
Speaks Ensures (Some promise) = promise.when ≡ None
Speaks _ _ = Unit {0}

abbrev IsPlan : Says → Plan → Type 0
IsPlan says p = AllOf (IsFirst says) p.first × AllOf (IsWritten says) p.written × HasPromise (IsPromise says) p.promise × Speaks says p.promise

range_is : (low high : ℤ) → Whenever (IsFirst Between) (range low high)
range_is low high = less_or_not (int_le low high)
  where
    less_or_not : (b : Bool) → Whenever (IsFirst Between) (if b then Some (claim.Range low high) else None)
    less_or_not true = refl
    less_or_not false = tt

length_is : (least : ℤ) → Whenever (IsFirst LengthAtLeast) (length_from least)
length_is least = less_or_not (int_le (pos 0) least)
  where
    less_or_not : (b : Bool) → Whenever (IsFirst LengthAtLeast) (if b then Some (claim.Length least) else None)
    less_or_not true = tt
    less_or_not false = tt

upper_is : (array : Option Naming) (offset : Option Offset) → Whenever IsUpper (upper array offset)
upper_is None offset = tt
upper_is (Some array) None = tt
upper_is (Some array) (Some offset) = (array, offset, refl)

abbrev TakesTexts : Says → Type 0
TakesTexts (Arrays least each) = Unit {0}
TakesTexts Offsets = Unit {0}
TakesTexts Bounds = Unit {0}
TakesTexts Ensures = Unit {0}
TakesTexts EnsuresIf = Unit {0}
TakesTexts _ = ⊥

written_is : (says : Says) → TakesTexts says → (entry : List ℕ) (offsets : List (List ℕ)) → Whenever (IsWritten says) (written says entry offsets)
written_is (Arrays least each) takes entry offsets = whenever_map (λ x. Unit {0}) (IsWritten (Arrays least each)) (λ array. OfArray each array) (array_text (chars entry)) (λ array h. (array, refl)) (any_is (array_text (chars entry)))
written_is Offsets takes entry offsets = upper_is (array_text (chars entry)) (first_offset offsets)
written_is Ensures takes entry offsets = upper_is (array_text (chars entry)) (first_offset offsets)
written_is EnsuresIf takes entry offsets = upper_is (array_text (chars entry)) (first_offset offsets)
written_is Bounds takes entry offsets = whenever_map (λ x. Unit {0}) (IsWritten Bounds) (λ (bound : Naming × ℤ). Less bound.0 bound.1) (bound_text (chars entry)) (λ bound h. (bound.0, bound.1, refl)) (any_is (bound_text (chars entry)))
written_is Nothing takes entry offsets = absurd takes
written_is EffectFree takes entry offsets = absurd takes
written_is (AtLeast least) takes entry offsets = absurd takes
written_is Between takes entry offsets = absurd takes
written_is LengthAtLeast takes entry offsets = absurd takes

others_are : {A : Type 0} (P : A → Type 0) (one : Option A) (others : Option (List A)) → Whenever P one → Whenever (AllOf P) others → Whenever (AllOf P) (with_others one others)
others_are P None others a b = tt
others_are P (Some x) None a b = tt
others_are P (Some x) (Some xs) a b = (a, b)

all_written_are : (says : Says) → TakesTexts says → (entries offsets : List (List ℕ)) → Whenever (AllOf (IsWritten says)) (all_written says entries offsets)
all_written_are says takes [] offsets = tt
all_written_are says takes (entry ∷ entries) offsets =
    others_are (IsWritten says) (written says entry offsets) (all_written says entries (drop 1 offsets)) (written_is says takes entry offsets) (all_written_are says takes entries (drop 1 offsets))

matched_are : (says : Says) → TakesTexts says → (entries offsets : List (List ℕ)) → Whenever (AllOf (IsWritten says)) (matched says entries offsets)
matched_are says takes entries offsets = many_or_not (length offsets == 0 || length offsets == length entries)
  where
    many_or_not : (b : Bool) → Whenever (AllOf (IsWritten says)) (if b then all_written says entries offsets else None)
    many_or_not true = all_written_are says takes entries offsets
    many_or_not false = tt

texts_are : (says : Says) → TakesTexts says → (args : List AnnotArg) → Whenever (AllOf (IsWritten says)) (claims_written says args)
texts_are says takes args =
    whenever_then (AllOf (IsWritten says)) (λ entries. option_and_then (matched says entries) (texts_or_none (argument (codes "offset") args))) (texts (argument (listed_in says) args))
    (λ entries. whenever_then (AllOf (IsWritten says)) (matched says entries) (texts_or_none (argument (codes "offset") args)) (λ offsets. matched_are says takes entries offsets))

lowest_are : (least : Option ℤ) (each : EachArray) → AllOf (IsFirst (Arrays least each)) (lowest least)
lowest_are None each = tt
lowest_are (Some least) each = (refl, tt)

abbrev promising : Option Bool → List Naming → List Written → Plan
promising when on ws = record { first = []; written = ws; effect_free = false; promise = Some (record { when = when; on = on }) }

promised_is : (says : Says) (when : Option Bool) (on : Option (List Naming)) (ws : Option (List Written))
    → ((on : List Naming) (ws : List Written) → AllOf (IsWritten says) ws → IsPlan says (promising when on ws)) → Whenever (AllOf (IsWritten says)) ws → Whenever (IsPlan says) (promised when on ws)
promised_is says when None ws is h = tt
promised_is says when (Some on) None is h = tt
promised_is says when (Some on) (Some ws) is h = is on ws h

promised_if_is : (answer : Option Bool) (on : Option (List Naming)) (ws : Option (List Written)) → Whenever (AllOf (IsWritten EnsuresIf)) ws → Whenever (IsPlan EnsuresIf) (promised_if answer on ws)
promised_if_is None on ws h = tt
promised_if_is (Some answer) on ws h = promised_is EnsuresIf (Some answer) on ws (λ on ws h. (tt, h, tt, tt)) h

plan_of_is : (says : Says) (args : List AnnotArg) → Whenever (IsPlan says) (plan_of says args)
plan_of_is Nothing args = (tt, tt, tt, tt)
plan_of_is EffectFree args = (tt, tt, tt, tt)
plan_of_is (AtLeast least) args = ((refl, tt), tt, tt, tt)
plan_of_is Between args =
    whenever_map (IsFirst Between) (IsPlan Between) one_claim (range_of args) (λ c h. ((h, tt), tt, tt, tt))
    (whenever_then (IsFirst Between) (λ low. option_and_then (range low) (int_or greatest_int (argument (codes "to") args))) (int_or least_int (argument (codes "from") args))
    (λ low. whenever_then (IsFirst Between) (range low) (int_or greatest_int (argument (codes "to") args)) (λ high. range_is low high)))
plan_of_is LengthAtLeast args =
    whenever_map (IsFirst LengthAtLeast) (IsPlan LengthAtLeast) one_claim (length_of args) (λ c h. ((h, tt), tt, tt, tt))
    (whenever_then (IsFirst LengthAtLeast) length_from (int_or (pos 0) (argument (codes "value") args)) (λ least. length_is least))
plan_of_is (Arrays least each) args =
    whenever_map (AllOf (IsWritten (Arrays least each))) (IsPlan (Arrays least each)) (plan_with false (lowest least)) (claims_written (Arrays least each) args) (λ ws h. (lowest_are least each, h, tt, tt)) (texts_are (Arrays least each) tt args)
plan_of_is Offsets args = whenever_map (AllOf (IsWritten Offsets)) (IsPlan Offsets) (plan_with false []) (claims_written Offsets args) (λ ws h. (tt, h, tt, tt)) (texts_are Offsets tt args)
plan_of_is Bounds args = whenever_map (AllOf (IsWritten Bounds)) (IsPlan Bounds) (plan_with false []) (claims_written Bounds args) (λ ws h. (tt, h, tt, tt)) (texts_are Bounds tt args)
plan_of_is Ensures args = promised_is Ensures None (promised_on (codes "value") args) (claims_written Ensures args) (λ on ws h. (tt, h, tt, refl)) (texts_are Ensures tt args)
plan_of_is EnsuresIf args =
    promised_if_is (truth (argument (codes "result") args)) (promised_on (codes "expression") args) (claims_written EnsuresIf args) (texts_are EnsuresIf tt args)

plan_is : (says : Says) (args : List AnnotArg) → Whenever (IsPlan says) (plan says args)
unfolding plan
plan_is says args = taken_or_not (are_taken says args)
  where
    taken_or_not : (b : Bool) → Whenever (IsPlan says) (if b then plan_of says args else None)
    taken_or_not true = plan_of_is says args
    taken_or_not false = tt

-- ---- claims

-- What a name in an annotation means is an int or an array, as its place needs; in a field's annotation it is no inherited field that may change.
pub record Knows (names : Names) (types : Name → Option Type_) : Type 0 where
  pub ints : (naming : Naming) → (is_field names.own && may_change (names.found naming)) ≡ false → Whenever (λ name. is_int_of (types name) ≡ true) (named names holds.Int naming)
  pub arrays : (naming : Naming) → (is_field names.own && may_change (names.found naming)) ≡ false → Whenever (λ name. is_array_of (types name) ≡ true) (named names holds.Array naming)

-- what a declaration of that type is for its annotations
abbrev pub StandsOn : Target → Type_ → Type 0
StandsOn on.Int ty = is_int_type ty ≡ true
StandsOn on.Element ty = is_int_type ty ≡ true
StandsOn on.Array ty = is_array_type ty ≡ true
StandsOn _ ty = Unit {0}

abbrev IsIntRow : Targets → Bool
IsIntRow IntOrElement = true
IsIntRow Int = true
IsIntRow _ = false

module _ (names : Names) (ty : Type_) (types : Name → Option Type_) (knows : Knows names types) where
  abbrev Fits : Claim → Type 0
  Fits c = claim_fits ty types c ≡ true

  -- names no inherited field that may change, where a field's annotation must not
  abbrev Free : Bool → Type 0
  Free inherited = (is_field names.own && inherited) ≡ false

  free_parts : (a b : Bool) → Free (a || b) → Free a × Free b
  free_parts a b free = by_own (is_field names.own) a b free
    where
      by_own : (own a b : Bool) → (own && (a || b)) ≡ false → ((own && a) ≡ false) × ((own && b) ≡ false)
      by_own true true b e = absurd (false≢true (sym e))
      by_own true false b e = (refl, e)
      by_own false a b e = (refl, refl)

  offset_is : (offset : Offset) → Free (offset_may_change names offset) → Whenever (λ (o : Off × ℤ). offset_fits types o.0 ≡ true) (offset_named names offset)
  offset_is (Constant c) free = refl
  offset_is (Plus naming c) free = whenever_map (λ name. is_int_of (types name) ≡ true) (λ (o : Off × ℤ). offset_fits types o.0 ≡ true) (λ name. (off.Plus name, c)) (named names holds.Int naming) (λ name h. h) (knows.ints naming free)
  offset_is (Minus naming c) free = whenever_map (λ name. is_int_of (types name) ≡ true) (λ (o : Off × ℤ). offset_fits types o.0 ≡ true) (λ name. (off.Minus name, c)) (named names holds.Int naming) (λ name h. h) (knows.ints naming free)

  upper_fits : is_int_type ty ≡ true → (array : Option Name) (offset : Option (Off × ℤ)) → Whenever (λ name. is_array_of (types name) ≡ true) array → Whenever (λ (o : Off × ℤ). offset_fits types o.0 ≡ true) offset
      → Whenever Fits (upper_claim array offset)
  upper_fits int None offset a o = tt
  upper_fits int (Some array) None a o = tt
  upper_fits int (Some array) (Some offset) a o = both_true (is_int_type ty) (is_array_of (types array) && offset_fits types offset.0) int (both_true (is_array_of (types array)) (offset_fits types offset.0) a o)

  int_array_fits : is_int_type ty ≡ true → (least : Option ℤ) (each : EachArray) → FitsSays Int (Arrays least each) → (name : Name) → is_array_of (types name) ≡ true → Fits (array_claim each name)
  int_array_fits int least (Below c) row name a = both_true (is_int_type ty) (is_array_of (types name) && true) int (both_true (is_array_of (types name)) true a refl)
  int_array_fits int least SearchResult row name a = both_true (is_int_type ty) (is_array_of (types name)) int a
  int_array_fits int least NotFound row name a = both_true (is_int_type ty) (is_array_of (types name)) int a
  int_array_fits int least SameLength row name a = absurd row

  -- an upper bound
  pub upper_of_fits : is_int_type ty ≡ true → (w : Written) → IsUpper w → Free (names_inherited names w) → Whenever Fits (claim_of names w)
  upper_of_fits int w is free = subst (λ w. Free (names_inherited names w) → Whenever Fits (claim_of names w)) (sym is.2)
      (λ free. upper_fits int (named names holds.Array is.0) (offset_named names is.1) (knows.arrays is.0 (free_parts (may_change (names.found is.0)) (offset_may_change names is.1) free).0) (offset_is is.1 (free_parts (may_change (names.found is.0)) (offset_may_change names is.1) free).1)) free

  -- a claim with names
  claim_of_fits : (targets : Targets) (says : Says) → FitsSays targets says → (IsIntRow targets ≡ true → is_int_type ty ≡ true) → (targets ≡ Array → is_array_type ty ≡ true) → (IsPromise says ≡ true → is_int_type ty ≡ true) → (w : Written) → IsWritten says w → Free (names_inherited names w)
      → Whenever Fits (claim_of names w)
  claim_of_fits Int (Arrays least (Below c)) row int array post w is free = subst (λ w. Free (names_inherited names w) → Whenever Fits (claim_of names w)) (sym is.1)
      (λ free. whenever_map (λ name. is_array_of (types name) ≡ true) Fits (array_claim (Below c)) (named names holds.Array is.0) (λ name h. int_array_fits (int refl) least (Below c) row name h) (knows.arrays is.0 free)) free
  claim_of_fits Int (Arrays least SearchResult) row int array post w is free = subst (λ w. Free (names_inherited names w) → Whenever Fits (claim_of names w)) (sym is.1)
      (λ free. whenever_map (λ name. is_array_of (types name) ≡ true) Fits (array_claim SearchResult) (named names holds.Array is.0) (λ name h. int_array_fits (int refl) least SearchResult row name h) (knows.arrays is.0 free)) free
  claim_of_fits Int (Arrays least NotFound) row int array post w is free = subst (λ w. Free (names_inherited names w) → Whenever Fits (claim_of names w)) (sym is.1)
      (λ free. whenever_map (λ name. is_array_of (types name) ≡ true) Fits (array_claim NotFound) (named names holds.Array is.0) (λ name h. int_array_fits (int refl) least NotFound row name h) (knows.arrays is.0 free)) free
  claim_of_fits Int Offsets row int array post w is free = upper_of_fits (int refl) w is free
  claim_of_fits Int Bounds row int array post w is free = subst (λ w. Free (names_inherited names w) → Whenever Fits (claim_of names w)) (sym is.2)
      (λ free. whenever_map (λ name. is_int_of (types name) ≡ true) Fits (λ name. claim.Less name is.1) (named names holds.Int is.0)
      (λ name h. both_true (is_int_type ty) (is_int_of (types name)) (int refl) h) (knows.ints is.0 free)) free
  claim_of_fits Array (Arrays None SameLength) row int array post w is free = subst (λ w. Free (names_inherited names w) → Whenever Fits (claim_of names w)) (sym is.1)
      (λ free. whenever_map (λ name. is_array_of (types name) ≡ true) Fits (array_claim SameLength) (named names holds.Array is.0)
      (λ name h. both_true (is_array_type ty) (is_array_of (types name)) (array refl) h) (knows.arrays is.0 free)) free
  claim_of_fits Int (Arrays least SameLength) row int array post w is free = absurd row
  claim_of_fits Array (Arrays (Some least) each) row int array post w is free = absurd row
  claim_of_fits Array (Arrays None (Below c)) row int array post w is free = absurd row
  claim_of_fits Array (Arrays None SearchResult) row int array post w is free = absurd row
  claim_of_fits Array (Arrays None NotFound) row int array post w is free = absurd row
  claim_of_fits Array Offsets row int array post w is free = absurd row
  claim_of_fits Array Bounds row int array post w is free = absurd row
  claim_of_fits IntOrElement (Arrays least each) row int array post w is free = absurd row
  claim_of_fits IntOrElement Offsets row int array post w is free = absurd row
  claim_of_fits IntOrElement Bounds row int array post w is free = absurd row
  claim_of_fits Callable (Arrays least each) row int array post w is free = absurd row
  claim_of_fits Callable Offsets row int array post w is free = absurd row
  claim_of_fits Callable Bounds row int array post w is free = absurd row
  claim_of_fits Method (Arrays least each) row int array post w is free = absurd row
  claim_of_fits Method Offsets row int array post w is free = absurd row
  claim_of_fits Method Bounds row int array post w is free = absurd row
  claim_of_fits BooleanMethod (Arrays least each) row int array post w is free = absurd row
  claim_of_fits BooleanMethod Offsets row int array post w is free = absurd row
  claim_of_fits BooleanMethod Bounds row int array post w is free = absurd row
  claim_of_fits targets Nothing row int array post w is free = absurd is
  claim_of_fits targets EffectFree row int array post w is free = absurd is
  claim_of_fits targets (AtLeast least) row int array post w is free = absurd is
  claim_of_fits targets Between row int array post w is free = absurd is
  claim_of_fits targets LengthAtLeast row int array post w is free = absurd is
  claim_of_fits targets Ensures row int array post w is free = upper_of_fits (post refl) w is free
  claim_of_fits targets EnsuresIf row int array post w is free = upper_of_fits (post refl) w is free

  -- a claim without names
  element_fits : is_int_type ty ≡ true → (c : Claim) → is_element_claim c ≡ true → Fits c
  element_fits int (claim.Range low high) is = int
  element_fits int (claim.Low low) is = int
  element_fits int (claim.Length n) is = absurd (false≢true is)
  element_fits int (claim.Same other) is = absurd (false≢true is)
  element_fits int (claim.Less name c) is = absurd (false≢true is)
  element_fits int (claim.Upper a o c) is = absurd (false≢true is)
  element_fits int (claim.Search a) is = absurd (false≢true is)
  element_fits int (claim.Negative a) is = absurd (false≢true is)

  length_fits : is_array_type ty ≡ true → (c : Claim) → IsLength c → Fits c
  length_fits array (claim.Length n) is = array
  length_fits array (claim.Range low high) is = absurd is
  length_fits array (claim.Low low) is = absurd is
  length_fits array (claim.Same other) is = absurd is
  length_fits array (claim.Less name c) is = absurd is
  length_fits array (claim.Upper a o c) is = absurd is
  length_fits array (claim.Search a) is = absurd is
  length_fits array (claim.Negative a) is = absurd is

  first_fits : (targets : Targets) (says : Says) → FitsSays targets says → (IsIntRow targets ≡ true → is_int_type ty ≡ true) → (targets ≡ Array → is_array_type ty ≡ true) → (c : Claim) → IsFirst says c → Fits c
  first_fits IntOrElement (AtLeast least) row int array c is = element_fits (int refl) c is
  first_fits IntOrElement Between row int array c is = element_fits (int refl) c is
  first_fits Int (Arrays (Some least) each) row int array c is = element_fits (int refl) c is
  first_fits Array LengthAtLeast row int array c is = length_fits (array refl) c is
  first_fits Array (Arrays (Some least) each) row int array c is = absurd row
  first_fits IntOrElement (Arrays (Some least) each) row int array c is = absurd row
  first_fits Callable (Arrays (Some least) each) row int array c is = absurd row
  first_fits Method (Arrays (Some least) each) row int array c is = absurd row
  first_fits BooleanMethod (Arrays (Some least) each) row int array c is = absurd row
  first_fits Int (AtLeast least) row int array c is = absurd row
  first_fits Int Between row int array c is = absurd row
  first_fits Int LengthAtLeast row int array c is = absurd row
  first_fits IntOrElement LengthAtLeast row int array c is = absurd row
  first_fits Callable LengthAtLeast row int array c is = absurd row
  first_fits Method LengthAtLeast row int array c is = absurd row
  first_fits BooleanMethod LengthAtLeast row int array c is = absurd row
  first_fits Array (AtLeast least) row int array c is = absurd row
  first_fits Array Between row int array c is = absurd row
  first_fits Callable (AtLeast least) row int array c is = absurd row
  first_fits Callable Between row int array c is = absurd row
  first_fits Method (AtLeast least) row int array c is = absurd row
  first_fits Method Between row int array c is = absurd row
  first_fits BooleanMethod (AtLeast least) row int array c is = absurd row
  first_fits BooleanMethod Between row int array c is = absurd row
  first_fits targets Nothing row int array c is = absurd is
  first_fits targets EffectFree row int array c is = absurd is
  first_fits targets Offsets row int array c is = absurd is
  first_fits targets Bounds row int array c is = absurd is
  first_fits targets Ensures row int array c is = absurd is
  first_fits targets EnsuresIf row int array c is = absurd is
  first_fits targets (Arrays None each) row int array c is = absurd is

  -- where the annotation may stand the type is as it needs
  row_int : (targets : Targets) (target : Target) → fits targets target ≡ true → StandsOn target ty → IsIntRow targets ≡ true → is_int_type ty ≡ true
  row_int IntOrElement on.Int f stands e = stands
  row_int IntOrElement on.Element f stands e = stands
  row_int IntOrElement on.Array f stands e = absurd (false≢true f)
  row_int IntOrElement on.Method f stands e = absurd (false≢true f)
  row_int IntOrElement on.BooleanMethod f stands e = absurd (false≢true f)
  row_int IntOrElement on.Constructor f stands e = absurd (false≢true f)
  row_int IntOrElement on.Other f stands e = absurd (false≢true f)
  row_int Int on.Int f stands e = stands
  row_int Int on.Element f stands e = absurd (false≢true f)
  row_int Int on.Array f stands e = absurd (false≢true f)
  row_int Int on.Method f stands e = absurd (false≢true f)
  row_int Int on.BooleanMethod f stands e = absurd (false≢true f)
  row_int Int on.Constructor f stands e = absurd (false≢true f)
  row_int Int on.Other f stands e = absurd (false≢true f)
  row_int Array target f stands e = absurd (false≢true e)
  row_int Callable target f stands e = absurd (false≢true e)
  row_int Method target f stands e = absurd (false≢true e)
  row_int BooleanMethod target f stands e = absurd (false≢true e)

  row_array : (target : Target) → fits Array target ≡ true → StandsOn target ty → is_array_type ty ≡ true
  row_array on.Array f stands = stands
  row_array on.Int f stands = absurd (false≢true f)
  row_array on.Element f stands = absurd (false≢true f)
  row_array on.Method f stands = absurd (false≢true f)
  row_array on.BooleanMethod f stands = absurd (false≢true f)
  row_array on.Constructor f stands = absurd (false≢true f)
  row_array on.Other f stands = absurd (false≢true f)

  -- ---- whole annotations

  claims_of_fit : (targets : Targets) (says : Says) → FitsSays targets says → (IsIntRow targets ≡ true → is_int_type ty ≡ true) → (targets ≡ Array → is_array_type ty ≡ true) → (IsPromise says ≡ true → is_int_type ty ≡ true) → (ws : List Written) → AllOf (IsWritten says) ws
      → Free (list_any (names_inherited names) ws) → Whenever (AllOf Fits) (claims_of names ws)
  claims_of_fit targets says row int array post [] all free = tt
  claims_of_fit targets says row int array post (w ∷ ws) all free =
      let parts = free_parts (names_inherited names w) (list_any (names_inherited names) ws) free in
      others_are Fits (claim_of names w) (claims_of names ws) (claim_of_fits targets says row int array post w all.0 parts.0) (claims_of_fit targets says row int array post ws all.1 parts.1)

  abbrev ResultFits : Result Claims AnnotError → Type 0
  ResultFits r = AllOf Fits (claims_from r)

  with_claims_fit : (promises : Bool) (p : Plan) (claims : Option (List Claim)) → HasPromise promises p.promise → AllOf Fits p.first → (promises ≡ false → Free (list_any (names_inherited names) p.written) → Whenever (AllOf Fits) claims)
      → ResultFits (with_claims names p claims)
  with_claims_fit promises p None has first all = tt
  with_claims_fit promises p (Some claims) has first all = inherited_or_not (is_field names.own && list_any (names_inherited names) p.written) refl
    where
      posts_or_none : (o : Option (List Post)) → ResultFits (or_bad_name (option_map (λ posts. record { list = []; effect_free = p.effect_free; posts = posts }) o))
      posts_or_none None = tt
      posts_or_none (Some posts) = tt

      by_promise : (b : Bool) (promise : Option Promise) → HasPromise b promise → (b ≡ false → AllOf Fits claims) → ResultFits (or_bad_name (given names p.effect_free promise (p.first ++ claims)))
      by_promise false None has fit = all_joined Fits p.first claims first (fit refl)
      by_promise true (Some promise) has fit = posts_or_none (posts_of names promise.when (p.first ++ claims) promise.on)
      by_promise true None has fit = absurd has
      by_promise false (Some promise) has fit = absurd has

      inherited_or_not : (b : Bool) → (is_field names.own && list_any (names_inherited names) p.written) ≡ b
          → ResultFits (if b then Err InheritedName else or_bad_name (given names p.effect_free p.promise (p.first ++ claims)))
      inherited_or_not true e = tt
      inherited_or_not false e = by_promise promises p.promise has (λ f. all f e)

  all_first : (targets : Targets) (says : Says) → FitsSays targets says → (IsIntRow targets ≡ true → is_int_type ty ≡ true) → (targets ≡ Array → is_array_type ty ≡ true) → (cs : List Claim) → AllOf (IsFirst says) cs → AllOf Fits cs
  all_first targets says row int array cs all = all_so (IsFirst says) Fits (λ c is. first_fits targets says row int array c is) cs all

  with_plan_fit : (targets : Targets) (says : Says) → FitsSays targets says → StandsOn names.target ty → (p : Option Plan) → Whenever (IsPlan says) p → ResultFits (with_plan names targets p)
  with_plan_fit targets says row stands None is = tt
  with_plan_fit targets says row stands (Some p) is = fits_or_not (fits targets names.target) refl
    where
      fits_or_not : (b : Bool) → fits targets names.target ≡ b → ResultFits (if b then with_claims names p (claims_of names p.written) else Err WrongTarget)
      fits_or_not true e =
          let int = row_int targets names.target e stands in
          let array : targets ≡ Array → is_array_type ty ≡ true = λ same. row_array names.target (subst (λ (t : Targets). fits t names.target ≡ true) same e) stands in
          with_claims_fit (IsPromise says) p (claims_of names p.written) is.2 (all_first targets says row int array p.first is.0)
          (λ f free. claims_of_fit targets says row int array (λ h. absurd (false≢true (sym f ∙ h))) p.written is.1 free)
      fits_or_not false e = tt

  with_row_fit : (annot : Annot) (row : Option (Targets × Says)) → Whenever (λ (row : Targets × Says). FitsSays row.0 row.1) row → StandsOn names.target ty → ResultFits (with_row annot names row)
  with_row_fit annot None is stands = tt
  with_row_fit annot (Some row) is stands = with_plan_fit row.0 row.1 is stands (plan row.1 annot.args) (plan_is row.1 annot.args)

  row_whenever : (name : List ℕ) (o : Option (Targets × Says)) → row_in table name ≡ o → Whenever (λ (row : Targets × Says). FitsSays row.0 row.1) o
  row_whenever name None e = tt
  row_whenever name (Some row) e = row_fits table name row table_fits e

  -- The claims of an annotation fit.
  pub expanded_fits : (annot : Annot) → StandsOn names.target ty → ResultFits (expanded annot names)
  unfolding expanded row_named
  expanded_fits annot stands = with_row_fit annot (row_in table annot.name.text) (row_whenever annot.name.text (row_in table annot.name.text) refl) stands

-- ---- posts

module _ (names : Names) (types : Name → Option Type_) (knows : Knows names types) (own : is_field names.own ≡ false) where
  abbrev Said : Claim → Type 0
  Said c = claim_fits int_type types c ≡ true

  -- on an int, with a claim on an int; one of one answer stands on a method that has a boolean one
  pub record PostSaid (post : Post) : Type 0 where
    pub fits : (is_int_of (types post.on) && claim_fits int_type types post.claim) ≡ true
    pub answers : is_conditional post ≡ true → names.target ≡ on.BooleanMethod

  all_free : (b : Bool) → (is_field names.own && b) ≡ false
  all_free b = ap (λ a. a && b) own

  -- a post of one answer needs this
  abbrev Answers : Option Bool → Type 0
  Answers when = is_answer when ≡ true → names.target ≡ on.BooleanMethod

  posts_on_said : (when : Option Bool) (claims : List Claim) (name : Name) → Answers when → is_int_of (types name) ≡ true → AllOf Said claims → AllOf PostSaid (posts_on when claims name)
  posts_on_said when [] name answers int all = tt
  posts_on_said when (c ∷ claims) name answers int all =
      (record { fits = both_true (is_int_of (types name)) (claim_fits int_type types c) int all.0; answers = answers }, posts_on_said when claims name answers int all.1)

  posts_of_said : (when : Option Bool) (claims : List Claim) (ons : List Naming) → Answers when → AllOf Said claims → Whenever (AllOf PostSaid) (posts_of names when claims ons)
  posts_of_said when claims [] answers all = tt
  posts_of_said when claims (one ∷ ons) answers all = first (named names holds.Int one) (posts_of names when claims ons) (knows.ints one (all_free (may_change (names.found one)))) (posts_of_said when claims ons answers all)
    where
      first : (o : Option Name) (rest : Option (List Post)) → Whenever (λ name. is_int_of (types name) ≡ true) o → Whenever (AllOf PostSaid) rest → Whenever (AllOf PostSaid) (posts_of_first when claims o rest)
      first None rest int h = tt
      first (Some name) None int h = tt
      first (Some name) (Some rest) int h = all_joined PostSaid (posts_on when claims name) rest (posts_on_said when claims name answers int all) h

  abbrev PostsSaid : Result Claims AnnotError → Type 0
  PostsSaid r = AllOf PostSaid (posts_from r)

  none_posts : (effect_free : Bool) (o : Option (List Post)) → Whenever (AllOf PostSaid) o → PostsSaid (or_bad_name (option_map (λ posts. record { list = []; effect_free = effect_free; posts = posts }) o))
  none_posts effect_free None h = tt
  none_posts effect_free (Some posts) h = h

  with_claims_said : (says : Says) (p : Plan) (claims : Option (List Claim)) → HasPromise (IsPromise says) p.promise → Speaks says p.promise → (EnsuresIf ≡ says → names.target ≡ on.BooleanMethod)
      → (IsPromise says ≡ true → AllOf Said p.first) → (IsPromise says ≡ true → Whenever (AllOf Said) claims) → PostsSaid (with_claims names p claims)
  with_claims_said says p None has speaks target first all = tt
  with_claims_said says p (Some claims) has speaks target first all = inherited_or_not (is_field names.own && list_any (names_inherited names) p.written)
    where
      when_answers : (says : Says) (promise : Promise) → IsPromise says ≡ true → Speaks says (Some promise) → (EnsuresIf ≡ says → names.target ≡ on.BooleanMethod) → Answers promise.when
      when_answers Ensures promise e speaks target answer = absurd (false≢true (sym (ap is_answer speaks) ∙ answer))
      when_answers EnsuresIf promise e speaks target answer = target refl
      when_answers Nothing promise e speaks target answer = absurd (false≢true e)
      when_answers EffectFree promise e speaks target answer = absurd (false≢true e)
      when_answers (AtLeast least) promise e speaks target answer = absurd (false≢true e)
      when_answers Between promise e speaks target answer = absurd (false≢true e)
      when_answers LengthAtLeast promise e speaks target answer = absurd (false≢true e)
      when_answers (Arrays least each) promise e speaks target answer = absurd (false≢true e)
      when_answers Offsets promise e speaks target answer = absurd (false≢true e)
      when_answers Bounds promise e speaks target answer = absurd (false≢true e)

      by_promise : (b : Bool) (promise : Option Promise) → b ≡ IsPromise says → HasPromise b promise → Speaks says promise → PostsSaid (or_bad_name (given names p.effect_free promise (p.first ++ claims)))
      by_promise false None e has speaks = tt
      by_promise true (Some promise) e has speaks =
          none_posts p.effect_free (posts_of names promise.when (p.first ++ claims) promise.on)
          (posts_of_said promise.when (p.first ++ claims) promise.on (when_answers says promise (sym e) speaks target) (all_joined Said p.first claims (first (sym e)) (all (sym e))))
      by_promise true None e has speaks = absurd has
      by_promise false (Some promise) e has speaks = absurd has

      inherited_or_not : (b : Bool) → PostsSaid (if b then Err InheritedName else or_bad_name (given names p.effect_free p.promise (p.first ++ claims)))
      inherited_or_not true = tt
      inherited_or_not false = by_promise (IsPromise says) p.promise refl has speaks

  -- an annotation that promises something claims nothing without names
  promised_first : (says : Says) → IsPromise says ≡ true → (cs : List Claim) → AllOf (IsFirst says) cs → AllOf Said cs
  promised_first Ensures e cs all = all_so (IsFirst Ensures) Said (λ c is. absurd is) cs all
  promised_first EnsuresIf e cs all = all_so (IsFirst EnsuresIf) Said (λ c is. absurd is) cs all
  promised_first Nothing e cs all = absurd (false≢true e)
  promised_first EffectFree e cs all = absurd (false≢true e)
  promised_first (AtLeast least) e cs all = absurd (false≢true e)
  promised_first Between e cs all = absurd (false≢true e)
  promised_first LengthAtLeast e cs all = absurd (false≢true e)
  promised_first (Arrays least each) e cs all = absurd (false≢true e)
  promised_first Offsets e cs all = absurd (false≢true e)
  promised_first Bounds e cs all = absurd (false≢true e)

  upper_claims_said : (ws : List Written) → AllOf IsUpper ws → Whenever (AllOf Said) (claims_of names ws)
  upper_claims_said [] all = tt
  upper_claims_said (w ∷ ws) all =
      others_are Said (claim_of names w) (claims_of names ws) (upper_of_fits names int_type types knows refl w all.0 (all_free (names_inherited names w))) (upper_claims_said ws all.1)

  promised_claims : (says : Says) → IsPromise says ≡ true → (ws : List Written) → AllOf (IsWritten says) ws → Whenever (AllOf Said) (claims_of names ws)
  promised_claims Ensures e ws all = upper_claims_said ws all
  promised_claims EnsuresIf e ws all = upper_claims_said ws all
  promised_claims Nothing e ws all = absurd (false≢true e)
  promised_claims EffectFree e ws all = absurd (false≢true e)
  promised_claims (AtLeast least) e ws all = absurd (false≢true e)
  promised_claims Between e ws all = absurd (false≢true e)
  promised_claims LengthAtLeast e ws all = absurd (false≢true e)
  promised_claims (Arrays least each) e ws all = absurd (false≢true e)
  promised_claims Offsets e ws all = absurd (false≢true e)
  promised_claims Bounds e ws all = absurd (false≢true e)

  -- what speaks of one answer stands on a method with a boolean one
  stands_on : (targets : Targets) (says : Says) → FitsSays targets says → fits targets names.target ≡ true → EnsuresIf ≡ says → names.target ≡ on.BooleanMethod
  stands_on targets says row e same = by_targets targets (subst (λ (says : Says). FitsSays targets says) (sym same) row) e
    where
      by_target : (target : Target) → fits BooleanMethod target ≡ true → target ≡ on.BooleanMethod
      by_target on.BooleanMethod e = refl
      by_target on.Int e = absurd (false≢true e)
      by_target on.Element e = absurd (false≢true e)
      by_target on.Array e = absurd (false≢true e)
      by_target on.Method e = absurd (false≢true e)
      by_target on.Constructor e = absurd (false≢true e)
      by_target on.Other e = absurd (false≢true e)

      by_targets : (targets : Targets) → FitsSays targets EnsuresIf → fits targets names.target ≡ true → names.target ≡ on.BooleanMethod
      by_targets BooleanMethod row e = by_target names.target e
      by_targets IntOrElement row e = absurd row
      by_targets Int row e = absurd row
      by_targets Array row e = absurd row
      by_targets Callable row e = absurd row
      by_targets Method row e = absurd row

  with_plan_said : (targets : Targets) (says : Says) → FitsSays targets says → (p : Option Plan) → Whenever (IsPlan says) p → PostsSaid (with_plan names targets p)
  with_plan_said targets says row None is = tt
  with_plan_said targets says row (Some p) is = fits_or_not (fits targets names.target) refl
    where
      fits_or_not : (b : Bool) → fits targets names.target ≡ b → PostsSaid (if b then with_claims names p (claims_of names p.written) else Err WrongTarget)
      fits_or_not true e =
          with_claims_said says p (claims_of names p.written) is.2 is.3 (stands_on targets says row e) (λ h. promised_first says h p.first is.0) (λ h. promised_claims says h p.written is.1)
      fits_or_not false e = tt

  with_row_said : (annot : Annot) (row : Option (Targets × Says)) → Whenever (λ (row : Targets × Says). FitsSays row.0 row.1) row → PostsSaid (with_row annot names row)
  with_row_said annot None is = tt
  with_row_said annot (Some row) is = with_plan_said row.0 row.1 is (plan row.1 annot.args) (plan_is row.1 annot.args)

  row_there : (name : List ℕ) (o : Option (Targets × Says)) → row_in table name ≡ o → Whenever (λ (row : Targets × Says). FitsSays row.0 row.1) o
  row_there name None e = tt
  row_there name (Some row) e = row_fits table name row table_fits e

  -- The posts of an annotation are so.
  pub expanded_said : (annot : Annot) → PostsSaid (expanded annot names)
  unfolding expanded row_named
  expanded_said annot = with_row_said annot (row_in table annot.name.text) (row_there annot.name.text (row_in table annot.name.text) refl)

-- a constructor promises nothing
posts_without : (names : Names) (says : Says) (p : Plan) (claims : Option (List Claim)) → IsPromise says ≡ false → HasPromise (IsPromise says) p.promise → posts_from (with_claims names p claims) ≡ []
posts_without names says p None none has = refl
posts_without names says p (Some claims) none has = inherited_or_not (is_field names.own && list_any (names_inherited names) p.written)
  where
    by_promise : (promise : Option Promise) → HasPromise false promise → posts_from (or_bad_name (given names p.effect_free promise (p.first ++ claims))) ≡ []
    by_promise None has = refl
    by_promise (Some promise) has = absurd has

    inherited_or_not : (b : Bool) → posts_from (if b then Err InheritedName else or_bad_name (given names p.effect_free p.promise (p.first ++ claims))) ≡ []
    inherited_or_not true = refl
    inherited_or_not false = by_promise p.promise (subst (λ b. HasPromise b p.promise) none has)

with_row_constructor : (names : Names) (annot : Annot) (row : Option (Targets × Says)) → Whenever (λ (row : Targets × Says). FitsSays row.0 row.1) row → names.target ≡ on.Constructor → posts_from (with_row annot names row) ≡ []
with_row_constructor names annot None is e = refl
with_row_constructor names annot (Some row) is e = planned row.0 row.1 is (plan row.1 annot.args) (plan_is row.1 annot.args)
  where
    unfit : (targets : Targets) (p : Plan) → fits targets on.Constructor ≡ false → posts_from (with_plan names targets (Some p)) ≡ []
    unfit targets p f =
        ap (λ (t : Target). posts_from (if fits targets t then with_claims names p (claims_of names p.written) else Err WrongTarget)) e
        ∙ ap (λ b. posts_from (if b then with_claims names p (claims_of names p.written) else Err WrongTarget)) f

    callable : (says : Says) (p : Plan) → IsPromise says ≡ false → HasPromise (IsPromise says) p.promise → (b : Bool) → posts_from (if b then with_claims names p (claims_of names p.written) else Err WrongTarget) ≡ []
    callable says p none has true = posts_without names says p (claims_of names p.written) none has
    callable says p none has false = refl

    planned : (targets : Targets) (says : Says) → FitsSays targets says → (p : Option Plan) → Whenever (IsPlan says) p → posts_from (with_plan names targets p) ≡ []
    planned targets says row None is = refl
    planned IntOrElement says row (Some p) is = unfit IntOrElement p refl
    planned Int says row (Some p) is = unfit Int p refl
    planned Array says row (Some p) is = unfit Array p refl
    planned Method says row (Some p) is = unfit Method p refl
    planned BooleanMethod says row (Some p) is = unfit BooleanMethod p refl
    planned Callable EffectFree row (Some p) is = callable EffectFree p refl is.2 (fits Callable names.target)
    planned Callable Nothing row (Some p) is = absurd row
    planned Callable (AtLeast least) row (Some p) is = absurd row
    planned Callable Between row (Some p) is = absurd row
    planned Callable LengthAtLeast row (Some p) is = absurd row
    planned Callable (Arrays least each) row (Some p) is = absurd row
    planned Callable Offsets row (Some p) is = absurd row
    planned Callable Bounds row (Some p) is = absurd row
    planned Callable Ensures row (Some p) is = absurd row
    planned Callable EnsuresIf row (Some p) is = absurd row

pub expanded_constructor : (names : Names) (annot : Annot) → names.target ≡ on.Constructor → posts_from (expanded annot names) ≡ []
unfolding expanded row_named
expanded_constructor names annot e = with_row_constructor names annot (row_in table annot.name.text) (row_found annot.name.text (row_in table annot.name.text) refl) e
  where
    row_found : (name : List ℕ) (o : Option (Targets × Says)) → row_in table name ≡ o → Whenever (λ (row : Targets × Says). FitsSays row.0 row.1) o
    row_found name None e = tt
    row_found name (Some row) e = row_fits table name row table_fits e

-- ---- claims on elements

with_plan_elements : (names : Names) (targets : Targets) (says : Says) → FitsSays targets says → names.target ≡ on.Element → (p : Option Plan) → Whenever (IsPlan says) p
    → AllOf (λ c. is_element_claim c ≡ true) (claims_from (with_plan names targets p))
with_plan_elements names targets says row e None is = tt
with_plan_elements names targets says row e (Some p) is =
    subst (λ (t : Target). AllOf (λ c. is_element_claim c ≡ true) (claims_from (if fits targets t then with_claims names p (claims_of names p.written) else Err WrongTarget))) (sym e) (by_row targets says row is)
  where
    inherited : (claims : Option (List Claim)) (b : Bool) → AllOf (λ c. is_element_claim c ≡ true) p.first → Whenever (AllOf (λ c. is_element_claim c ≡ true)) claims
        → AllOf (λ c. is_element_claim c ≡ true) (claims_from (with_claims names p claims))
    inherited None b first all = tt
    inherited (Some claims) b first all = either (is_field names.own && list_any (names_inherited names) p.written)
      where
        posts_or_none : (o : Option (List Post)) → AllOf (λ c. is_element_claim c ≡ true) (claims_from (or_bad_name (option_map (λ posts. record { list = []; effect_free = p.effect_free; posts = posts }) o)))
        posts_or_none None = tt
        posts_or_none (Some posts) = tt

        by_promise : (promise : Option Promise) → AllOf (λ c. is_element_claim c ≡ true) (claims_from (or_bad_name (given names p.effect_free promise (p.first ++ claims))))
        by_promise None = all_joined (λ c. is_element_claim c ≡ true) p.first claims first all
        by_promise (Some promise) = posts_or_none (posts_of names promise.when (p.first ++ claims) promise.on)

        either : (b : Bool) → AllOf (λ c. is_element_claim c ≡ true) (claims_from (if b then Err InheritedName else or_bad_name (given names p.effect_free p.promise (p.first ++ claims))))
        either true = tt
        either false = by_promise p.promise

    none_written : (ws : List Written) → AllOf (λ w. ⊥) ws → Whenever (AllOf (λ c. is_element_claim c ≡ true)) (claims_of names ws)
    none_written [] all = tt
    none_written (w ∷ ws) all = absurd all.0

    by_row : (targets : Targets) (says : Says) → FitsSays targets says → IsPlan says p
        → AllOf (λ c. is_element_claim c ≡ true) (claims_from (if fits targets on.Element then with_claims names p (claims_of names p.written) else Err WrongTarget))
    by_row IntOrElement (AtLeast least) row is = inherited (claims_of names p.written) true is.0 (none_written p.written is.1)
    by_row IntOrElement Between row is = inherited (claims_of names p.written) true is.0 (none_written p.written is.1)
    by_row IntOrElement Nothing row is = absurd row
    by_row IntOrElement EffectFree row is = absurd row
    by_row IntOrElement LengthAtLeast row is = absurd row
    by_row IntOrElement (Arrays least each) row is = absurd row
    by_row IntOrElement Offsets row is = absurd row
    by_row IntOrElement Bounds row is = absurd row
    by_row IntOrElement Ensures row is = absurd row
    by_row IntOrElement EnsuresIf row is = absurd row
    by_row Int says row is = tt
    by_row Array says row is = tt
    by_row Callable says row is = tt
    by_row Method says row is = tt
    by_row BooleanMethod says row is = tt

with_row_elements : (names : Names) (annot : Annot) (row : Option (Targets × Says)) → Whenever (λ (row : Targets × Says). FitsSays row.0 row.1) row → names.target ≡ on.Element
    → AllOf (λ c. is_element_claim c ≡ true) (claims_from (with_row annot names row))
with_row_elements names annot None is e = tt
with_row_elements names annot (Some row) is e = with_plan_elements names row.0 row.1 is e (plan row.1 annot.args) (plan_is row.1 annot.args)

pub expanded_elements : (names : Names) (annot : Annot) → names.target ≡ on.Element → AllOf (λ c. is_element_claim c ≡ true) (claims_from (expanded annot names))
unfolding expanded row_named
expanded_elements names annot e = with_row_elements names annot (row_in table annot.name.text) (row_found annot.name.text (row_in table annot.name.text) refl) e
  where
    row_found : (name : List ℕ) (o : Option (Targets × Says)) → row_in table name ≡ o → Whenever (λ (row : Targets × Says). FitsSays row.0 row.1) o
    row_found name None e = tt
    row_found name (Some row) e = row_fits table name row table_fits e

-- where nothing fits there is no claim
with_row_other : (names : Names) (annot : Annot) (row : Option (Targets × Says)) → names.target ≡ on.Other → claims_from (with_row annot names row) ≡ []
with_row_other names annot None e = refl
with_row_other names annot (Some row) e = planned (plan row.1 annot.args)
  where
    never_fits : (targets : Targets) → fits targets on.Other ≡ false
    never_fits IntOrElement = refl
    never_fits Int = refl
    never_fits Array = refl
    never_fits Callable = refl
    never_fits Method = refl
    never_fits BooleanMethod = refl

    planned : (p : Option Plan) → claims_from (with_plan names row.0 p) ≡ []
    planned None = refl
    planned (Some p) =
        ap (λ (t : Target). claims_from (if fits row.0 t then with_claims names p (claims_of names p.written) else Err WrongTarget)) e
        ∙ ap (λ b. claims_from (if b then with_claims names p (claims_of names p.written) else Err WrongTarget)) (never_fits row.0)

pub expanded_other : (names : Names) (annot : Annot) → names.target ≡ on.Other → claims_from (expanded annot names) ≡ []
unfolding expanded row_named
expanded_other names annot e = with_row_other names annot (row_in table annot.name.text) e
