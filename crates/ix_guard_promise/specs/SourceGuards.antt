-- At a place of a source each access is guarded: it is made by a statement before which stands a test of its variables.
use Rattle.std.specs.Prelude.{◌≡◌, ◌⊎◌, true, List, [], ◌∷◌, Option, Some}
use Rattle.ix_text.specs.declared.span.Span.{Span}
use Rattle.ix_tree.specs.declared.annot.Ident.{Ident}
use Rattle.ix_tree.specs.declared.decl.ClassDecl.{ClassDecl}
use Rattle.ix_tree.specs.declared.decl.Member.{Member}
use Rattle.ix_tree.specs.declared.decl.Member.TheVariants.{Field, Method}
use Rattle.ix_tree.specs.declared.decl.Unit.{Unit as Source}
use Rattle.ix_tree.specs.declared.stmt.Stmt.{Stmt}
use Rattle.ix_tree.specs.declared.expr.Expr.{Expr}
use Rattle.ix_formed.specs.Additions.{AllOf}
use Rattle.ix_guard.specs.Accesses.{Access}
use Rattle.ix_guard.specs.Tests.{Site, Changes, pair_of, same_pair, is_kept}
use Rattle.ix_guard_promise.specs.AllAccesses.{AnyAccess, all_accesses, decl_accesses, maybe, each_of}
use Rattle.ix_guard_promise.specs.AtPlace.{HasNone}
use Rattle.ix_guard_promise.specs.Outlines.{Outline, nothing, node, outlines}

-- one of these
abbrev pub IsAmong : {A : Type 0} → A → List A → Type 0
IsAmong x [] = ⊥
IsAmong x (first ∷ rest) = (x ≡ first) ⊎ IsAmong x rest

abbrev pub args_accesses : Option (List Expr) → List AnyAccess
args_accesses args = maybe (each_of all_accesses) args

-- Both are kept by what a statement changes.
pub record AreKept (site : Site) (changes : Changes) (test : Access) : Type 0 where
  pub array : is_kept site changes test.array ≡ true
  pub index : is_kept site changes test.index ≡ true

module _ (site : Site) (place : Span) where
  -- The access is one on names, which mean the variables of the tested one.
  pub record IsOf (test : Access) (access : AnyAccess) : Type 0 where
    pub array : Ident
    pub index : Ident
    pub array_named : access.array ≡ Some array
    pub index_named : access.index ≡ Some index
    pub same : same_pair (pair_of site (record { array = array; index = index })) (pair_of site test) ≡ true

  -- Those of these accesses that are at the place are of the variables of the tested one.
  abbrev pub HasOnly : Access → List AnyAccess → Type 0
  HasOnly test accesses = AllOf (λ access. access.place ≡ place → IsOf test access) accesses

  -- What stands behind tests of these accesses has no access at the place, or only such of the variables of one of the tests. A statement keeps the variables of its tests.
  pub data IsBehind (tests : List Access) (own : List AnyAccess) : Type 0 where
    free : HasNone place own → IsBehind tests own
    tested : (test : Access) → IsAmong test tests → HasOnly test own → IsBehind tests own

  -- So of each statement, and what isn't behind tests has no access at the place.
  abbrev pub Guards : Outline → Type 0
  Guards nothing = Unit {0}
  Guards (node tests own others inner later) = IsBehind tests own × (HasNone place others × (Guards inner × Guards later))

  abbrev pub GuardsAt : List Stmt → Type 0
  GuardsAt statements = Guards (outlines site statements)

  -- ---- whole sources, where neither initialisers of fields nor arguments of `super(..)` have an access at the place

  abbrev pub MemberGuards : Member → Type 0
  MemberGuards (Field decl) = HasNone place (decl_accesses decl)
  MemberGuards (Method method) = HasNone place (args_accesses method.parent_args) × GuardsAt method.body

  abbrev pub ClassGuards : ClassDecl → Type 0
  ClassGuards class = AllOf MemberGuards class.members

  abbrev pub SourceGuards : Source → Type 0
  SourceGuards unit = AllOf ClassGuards unit.classes
