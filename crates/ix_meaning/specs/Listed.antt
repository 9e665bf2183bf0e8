-- The list of errors: which are derived, and how they are listed.
use Rattle.std.specs.Prelude.{◌≡◌, ◌⊎◌, ◌<◌, ℕ, ◌==◌, Bool, ◌&&◌, ◌||◌, if◌then◌else◌, nat_lt, List, [], ◌∷◌, ◌++◌}
use Rattle.std.specs.List.{Contains, AllByRecursion, list_any}
use Rattle.ix_text.specs.declared.span.Span.{Span}
use Rattle.ix_meaning.specs.declared.note.NameError.{NameError}
use Rattle.ix_meaning.specs.declared.note.Rule.{Rule}
use Rattle.ix_meaning.specs.declared.note.Rule.TheVariants as rule
use Rattle.ix_meaning.specs.declared.note.Note.{Note}
use Rattle.ix_meaning.specs.declared.note.Note.TheVariants.{Wrong, WrongAnnot}

-- ---- which errors are derived

abbrev pub wrongs : List Note → List NameError
wrongs [] = []
wrongs (Wrong e ∷ ns) = e ∷ wrongs ns
wrongs (_ ∷ ns) = wrongs ns

abbrev pub wrong_annots : List Note → List NameError
wrong_annots [] = []
wrong_annots (WrongAnnot e ∷ ns) = e ∷ wrong_annots ns
wrong_annots (_ ∷ ns) = wrong_annots ns

-- the rules on annotations in the order in which one annotation is tested
abbrev pub rank : Rule → ℕ
rank rule.UnknownAnnotation = 0
rank rule.BadArgument = 1
rank rule.WrongTarget = 2
rank rule.BadName = 3
rank _ = 4

-- the rules in the order in which errors at one place are listed
abbrev pub order : Rule → ℕ
order rule.UnknownName = 1
order rule.DuplicateName = 2
order rule.TypeMismatch = 3
order rule.WrongArguments = 4
order rule.CyclicClass = 5
order rule.NotStatic = 6
order rule.FinalAssigned = 7
order rule.NotAssignable = 8
order rule.BreakOutside = 9
order rule.UnknownAnnotation = 10
order rule.BadArgument = 11
order rule.BadName = 12
order rule.WrongTarget = 13
order rule.InheritedName = 14

abbrev pub same_span : Span → Span → Bool
same_span a b = a.from == b.from && a.to == b.to

-- an earlier error of the same annotation: one declaration may have several declarators, and each says it again
abbrev pub comes_before : NameError → NameError → Bool
comes_before e other = same_span other.span e.span && nat_lt (rank other.rule) (rank e.rule)

-- Of one annotation only the first error is derived.
abbrev pub firsts : List NameError → List NameError → List NameError
firsts all [] = []
firsts all (e ∷ es) = if list_any (comes_before e) all then firsts all es else e ∷ firsts all es

abbrev pub derived : List Note → List NameError
derived ns = wrongs ns ++ firsts (wrong_annots ns) (wrong_annots ns)

-- ---- how they are listed: by their start, their rule and their end, each once

abbrev pub IsBefore : NameError → NameError → Type 0
IsBefore x y = (x.span.from < y.span.from)
    ⊎ ((x.span.from ≡ y.span.from) × ((order x.rule < order y.rule) ⊎ ((order x.rule ≡ order y.rule) × (x.span.to < y.span.to))))

abbrev pub Rises : List NameError → Type 0
Rises [] = Unit {0}
Rises (x ∷ xs) = AllByRecursion (IsBefore x) xs × Rises xs

pub record IsListed (es ys : List NameError) : Type 0 where
  pub rises : Rises ys
  pub found : (y : NameError) → Contains ys y → Contains es y
  pub all : (e : NameError) → Contains es e → Contains ys e

-- ---- the same list, computed

abbrev pub is_same : NameError → NameError → Bool
is_same e y = same_span e.span y.span && order e.rule == order y.rule

abbrev pub goes_before : NameError → NameError → Bool
goes_before e y =
    nat_lt e.span.from y.span.from
    || (e.span.from == y.span.from && (nat_lt (order e.rule) (order y.rule) || (order e.rule == order y.rule && nat_lt e.span.to y.span.to)))

abbrev pub insert : NameError → List NameError → List NameError
insert e [] = e ∷ []
insert e (y ∷ ys) = if is_same e y then y ∷ ys else if goes_before e y then e ∷ y ∷ ys else y ∷ insert e ys

abbrev pub listed : List NameError → List NameError
listed [] = []
listed (e ∷ es) = insert e (listed es)
