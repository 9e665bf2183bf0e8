-- The counts that are limited, each over the whole source before the next, and the first place that passes one.
use Rattle.std.specs.Prelude.{ℕ, ◌+◌, nat_lt, if◌then◌else◌, Option, Some, None, option_map, List, [], ◌∷◌, ◌++◌, length, slice_get}
use Rattle.ix_tree.specs.declared.annot.Annot.{Annot}
use Rattle.ix_tree.specs.declared.annot.Ident.{Ident}
use Rattle.ix_tree.specs.declared.annot.TypeTree.{TypeTree}
use Rattle.ix_tree.specs.declared.decl.ClassDecl.{ClassDecl}
use Rattle.ix_tree.specs.declared.decl.LocalDecl.{LocalDecl}
use Rattle.ix_tree.specs.declared.decl.MethodDecl.{MethodDecl}
use Rattle.ix_tree.specs.declared.decl.Member.{Member}
use Rattle.ix_tree.specs.declared.decl.Member.TheVariants as member
use Rattle.ix_tree.specs.declared.stmt.Stmt.{Stmt, fold-Stmt}
use Rattle.ix_tree.specs.declared.stmt.StmtKind.{StmtKind-F}
use Rattle.ix_annot.specs.Named.{or_else}
use Rattle.ix_annot.specs.Table.{counted, most_claims}
use Rattle.ix_meaning.specs.declared.note.Which.{Which}
use Rattle.ix_meaning.specs.declared.note.Which.TheVariants as which
use Rattle.ix_meaning.specs.Classes.{supers, parents}
use Rattle.ix_meaning.specs.Declarators.{declarators, members}

pub record Passed : Type 0 where
  pub which : Which
  pub place : ℕ

abbrev pub passed : Which → Ident → Passed
passed w name = record { which = w; place = name.span.from }

abbrev pub most_classes : ℕ
most_classes = 256

abbrev pub most_methods : ℕ
most_methods = 4096

abbrev pub most_params : ℕ
most_params = 32

abbrev pub most_inherited : ℕ
most_inherited = 32

-- ---- what is counted, in the order of the text

abbrev pub class_names : List ClassDecl → List Ident
class_names [] = []
class_names (c ∷ cs) = c.name ∷ class_names cs

abbrev pub methods_of : List Member → List MethodDecl
methods_of [] = []
methods_of (member.Field d ∷ ms) = methods_of ms
methods_of (member.Method m ∷ ms) = m ∷ methods_of ms

abbrev pub all_methods : List ClassDecl → List MethodDecl
all_methods [] = []
all_methods (c ∷ cs) = methods_of c.members ++ all_methods cs

abbrev pub method_names : List MethodDecl → List Ident
method_names [] = []
method_names (m ∷ ms) = m.name ∷ method_names ms

abbrev pub param_names : List LocalDecl → List Ident
param_names [] = []
param_names (d ∷ ds) = d.name ∷ param_names ds

-- the annotations of a declaration
abbrev pub declared_annots : LocalDecl → List Annot
declared_annots d = d.mods.annots ++ d.ty.annots

abbrev pub each_annots : List LocalDecl → List (List Annot)
each_annots [] = []
each_annots (d ∷ ds) = declared_annots d ∷ each_annots ds

abbrev pub together : List (List (List Annot)) → List (List Annot)
together [] = []
together (x ∷ xs) = x ++ together xs

abbrev pub maybe : Option (List (List Annot)) → List (List Annot)
maybe None = []
maybe (Some x) = x

abbrev pub stmt_kind_step : StmtKind-F (List (List Annot)) (List (List Annot)) → List (List Annot)
stmt_kind_step (StmtKind-F.Block body) = together body
stmt_kind_step (StmtKind-F.Local ds) = each_annots (declarators ds)
stmt_kind_step (StmtKind-F.If c t e) = t ++ maybe e
stmt_kind_step (StmtKind-F.While c t) = t
stmt_kind_step (StmtKind-F.Do t c) = t
stmt_kind_step (StmtKind-F.For first c update t) = together first ++ t
stmt_kind_step _ = []

abbrev pub stmt_annots : Stmt → List (List Annot)
stmt_annots = fold-Stmt (List (List Annot)) (List (List Annot)) stmt_kind_step (λ s. s.kind)

abbrev pub body_annots : List Stmt → List (List Annot)
body_annots [] = []
body_annots (s ∷ ss) = stmt_annots s ++ body_annots ss

abbrev pub result_annots : Option TypeTree → List Annot
result_annots None = []
result_annots (Some ty) = ty.annots

abbrev pub member_annots : List Member → List (List Annot)
member_annots [] = []
member_annots (member.Field d ∷ ms) = declared_annots d ∷ member_annots ms
member_annots (member.Method m ∷ ms) =
    (m.mods.annots ++ result_annots m.result) ∷ (each_annots m.params ++ (body_annots m.body ++ member_annots ms))

abbrev pub all_annots : List ClassDecl → List (List Annot)
all_annots [] = []
all_annots (c ∷ cs) = member_annots (members c.members) ++ all_annots cs

-- ---- the first place past each limit

abbrev pub past_names : Which → ℕ → List Ident → Option Passed
past_names w most names = option_map (λ name. passed w name) (slice_get names most)

abbrev pub past_params : List MethodDecl → Option Passed
past_params [] = None
past_params (m ∷ ms) = or_else (past_names which.Parameters most_params (param_names m.params)) (past_params ms)

-- the annotation with which the claims of a declaration pass the limit
abbrev pub past_claims_in : ℕ → List Annot → Option Passed
past_claims_in before [] = None
past_claims_in before (a ∷ annots) =
    if nat_lt most_claims (before + counted a) then Some (record { which = which.Claims; place = a.span.from }) else past_claims_in (before + counted a) annots

abbrev pub past_claims : List (List Annot) → Option Passed
past_claims [] = None
past_claims (annots ∷ more) = or_else (past_claims_in 0 annots) (past_claims more)

-- What is passed before any rule is asked.
abbrev pub limit : List ClassDecl → Option Passed
limit all =
    or_else (past_names which.Classes most_classes (class_names all))
    (or_else (past_names which.Methods most_methods (method_names (all_methods all)))
    (or_else (past_params (all_methods all)) (past_claims (all_annots all))))

abbrev pub past_inheritance : List (Option ℕ) → ℕ → List ClassDecl → Option Passed
past_inheritance ps c [] = None
past_inheritance ps c (k ∷ ks) =
    if nat_lt most_inherited (1 + length (supers ps c)) then Some (passed which.Inheritance k.name) else past_inheritance ps (c + 1) ks

-- More classes on a path of inheritance than may be.
abbrev pub inheritance_limit : List ClassDecl → Option Passed
inheritance_limit all = past_inheritance (parents all) 0 all
