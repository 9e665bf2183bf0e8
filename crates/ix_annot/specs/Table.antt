-- The annotations: what each may stand on and what it claims (Checker Framework manual, Index Checker and Constant Value Checker).
use Rattle.std.specs.Prelude.{ℕ, ◌+◌, ◌*◌, ℤ, pos, neg_ℤ, Bool, true, false, if◌then◌else◌, Option, Some, None, List, [], ◌∷◌, length, codes, bytes_eq}
use Rattle.ix_tree.specs.declared.annot.Annot.{Annot}
use Rattle.ix_tree.specs.declared.annot.AnnotArg.{AnnotArg}
use Rattle.ix_tree.specs.declared.annot.AnnotValue.{AnnotValue}
use Rattle.ix_tree.specs.declared.annot.AnnotValue.TheVariants.{Texts}
use Rattle.ix_tree.specs.declared.annot.Ident.{Ident}
use Rattle.ix_annot.specs.declared.scope.Target.{Target}
use Rattle.ix_annot.specs.declared.scope.Target.TheVariants as on
use Rattle.ix_annot.specs.declared.table.Targets.{Targets}
use Rattle.ix_annot.specs.declared.table.Targets.TheVariants.{IntOrElement, Int, Array, Callable, Method, BooleanMethod}
use Rattle.ix_annot.specs.declared.table.EachArray.TheVariants.{Below, SameLength, SearchResult, NotFound}
use Rattle.ix_annot.specs.declared.table.Says.{Says}
use Rattle.ix_annot.specs.declared.table.Says.TheVariants.{Nothing, EffectFree, AtLeast, Between, LengthAtLeast, Arrays, Offsets, Bounds, Ensures, EnsuresIf}

abbrev pub minus_one : ℤ
minus_one = neg_ℤ (pos 1)

-- the name, what the annotation may stand on, and what it says
abbrev pub table : List (List ℕ × Targets × Says)
table =
    (codes "NonNegative", IntOrElement, AtLeast (pos 0))
    ∷ (codes "Positive", IntOrElement, AtLeast (pos 1))
    ∷ (codes "GTENegativeOne", IntOrElement, AtLeast minus_one)
    ∷ (codes "IntRange", IntOrElement, Between)
    ∷ (codes "LTLengthOf", Int, Offsets)
    ∷ (codes "LTEqLengthOf", Int, Arrays None (Below minus_one))
    ∷ (codes "LTOMLengthOf", Int, Arrays None (Below (pos 1)))
    ∷ (codes "IndexFor", Int, Arrays (Some (pos 0)) (Below (pos 0)))
    ∷ (codes "IndexOrHigh", Int, Arrays (Some (pos 0)) (Below minus_one))
    ∷ (codes "IndexOrLow", Int, Arrays (Some minus_one) (Below (pos 0)))
    ∷ (codes "SearchIndexFor", Int, Arrays None SearchResult)
    ∷ (codes "NegativeIndexFor", Int, Arrays None NotFound)
    ∷ (codes "LessThan", Int, Bounds)
    ∷ (codes "SameLen", Array, Arrays None SameLength)
    ∷ (codes "MinLen", Array, LengthAtLeast)
    ∷ (codes "SideEffectFree", Callable, EffectFree)
    ∷ (codes "Pure", Callable, EffectFree)
    ∷ (codes "Override", Method, Nothing)
    ∷ (codes "EnsuresLTLengthOf", Method, Ensures)
    ∷ (codes "EnsuresLTLengthOfIf", BooleanMethod, EnsuresIf)
    ∷ []

abbrev pub row_in : List (List ℕ × Targets × Says) → List ℕ → Option (Targets × Says)
row_in [] name = None
row_in (row ∷ rows) name = if bytes_eq row.0 name then Some (row.1, row.2) else row_in rows name

-- what the annotation of that name may stand on, and what it says
unfoldable pub row_named : List ℕ → Option (Targets × Says)
row_named name = row_in table name

-- whether an annotation with these targets may stand there
abbrev pub fits : Targets → Target → Bool
fits IntOrElement on.Int = true
fits IntOrElement on.Element = true
fits Int on.Int = true
fits Array on.Array = true
fits Callable on.Method = true
fits Callable on.BooleanMethod = true
fits Callable on.Constructor = true
fits Method on.Method = true
fits Method on.BooleanMethod = true
fits BooleanMethod on.BooleanMethod = true
fits _ _ = false

-- Such an annotation speaks of its method or constructor, and each other one of a variable, a result or a new array.
abbrev pub is_of_method : Targets → Bool
is_of_method Callable = true
is_of_method Method = true
is_of_method BooleanMethod = true
is_of_method _ = false

-- ---- arguments: one without a name is `value`

abbrev pub arg_name : Option Ident → List ℕ
arg_name None = codes "value"
arg_name (Some name) = name.text

-- the first argument of that name
abbrev pub argument : List ℕ → List AnnotArg → Option AnnotValue
argument name [] = None
argument name (arg ∷ args) = if bytes_eq (arg_name arg.name) name then Some arg.value else argument name args

-- ---- how many claims an annotation counts, before anything of it is tested

abbrev pub entries_in : Option AnnotValue → ℕ
entries_in (Some (Texts texts)) = length texts
entries_in _ = 0

abbrev pub first_counted : Option ℤ → ℕ
first_counted None = 0
first_counted (Some least) = 1

-- how many texts the argument of that name lists
abbrev pub entries : List AnnotArg → List ℕ → ℕ
entries args name = entries_in (argument name args)

abbrev pub counted_of : Says → List AnnotArg → ℕ
counted_of Nothing args = 0
counted_of EffectFree args = 0
counted_of (AtLeast least) args = 1
counted_of Between args = 1
counted_of LengthAtLeast args = 1
counted_of (Arrays least each) args = first_counted least + entries args (codes "value")
counted_of Offsets args = entries args (codes "value")
counted_of Bounds args = entries args (codes "value")
counted_of Ensures args = entries args (codes "value") * entries args (codes "targetValue")
counted_of EnsuresIf args = entries args (codes "expression") * entries args (codes "targetValue")

abbrev pub counted_in : Option (Targets × Says) → List AnnotArg → ℕ
counted_in None args = 0
counted_in (Some row) args = counted_of row.1 args

-- An annotation that is not in the table counts nothing.
abbrev pub counted : Annot → ℕ
counted annot = counted_in (row_named annot.name.text) annot.args

-- how many claims a declaration may have
abbrev pub most_claims : ℕ
most_claims = 16
