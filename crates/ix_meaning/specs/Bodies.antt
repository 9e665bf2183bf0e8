-- What statements say, and which names are in scope behind them (JLS 14, 6.3).
use Rattle.std.specs.Prelude.{ℕ, ◌+◌, nat_lt, Bool, true, ◌&&◌, if◌then◌else◌, Option, Some, None, is_some, List, [], ◌∷◌, ◌++◌}
use Rattle.ix_text.specs.declared.span.Span.{Span}
use Rattle.ix_tree.specs.declared.annot.Ident.{Ident}
use Rattle.ix_tree.specs.declared.decl.LocalDecl.{LocalDecl}
use Rattle.ix_tree.specs.declared.expr.Expr.{Expr}
use Rattle.ix_tree.specs.declared.expr.Init.{Init}
use Rattle.ix_tree.specs.declared.stmt.Stmt.{Stmt, Stmt-F, fold-Stmt}
use Rattle.ix_tree.specs.declared.stmt.StmtKind.{StmtKind, StmtKind-F, fold-StmtKind}
use Rattle.ix_core.specs.declared.claim.Name.TheVariants as name
use Rattle.ix_core.specs.declared.claim.Type_.{Type_ as Ty}
use Rattle.ix_annot.specs.Named.{Names}
use Rattle.ix_annot.specs.declared.scope.Claims.{Claims}
use Rattle.ix_meaning.specs.declared.note.Meaning.TheVariants.{Local}
use Rattle.ix_meaning.specs.declared.note.Note.{Note}
use Rattle.ix_meaning.specs.declared.note.Note.TheVariants.{Declares}
use Rattle.ix_meaning.specs.Types.{boolean, Need, never, printed, of}
use Rattle.ix_meaning.specs.Annotated.{Declaration, variable, of_variable}
use Rattle.ix_meaning.specs.Declarators.{declarators}
use Rattle.ix_meaning.specs.Scope.{Scope, Known, meant, annot_names}
use Rattle.ix_meaning.specs.Rules.{duplicate_name, no_value, break_outside}
use Rattle.ix_meaning.specs.Values.{reading, filling, check}

-- What a statement does with the scope that it stands in.
pub record Telling : Type 0 where
  -- how many locals it declares
  pub declares : ℕ
  -- the names in scope behind it
  pub names : Scope → List Known
  pub notes : Scope → List Note

abbrev pub after : Telling → Scope → Scope
after t s = record s { names = t.names s; next = s.next + t.declares }

abbrev pub nothing : Telling
nothing = record { declares = 0; names = λ s. s.names; notes = λ s. [] }

abbrev pub noting : (Scope → List Note) → Telling
noting f = record { declares = 0; names = λ s. s.names; notes = f }

abbrev pub then_told : Telling → Telling → Telling
then_told t u = record { declares = t.declares + u.declares; names = λ s. u.names (after t s); notes = λ s. t.notes s ++ u.notes (after t s) }

abbrev pub all_told : List Telling → Telling
all_told [] = nothing
all_told (t ∷ ts) = then_told t (all_told ts)

-- The scope of a local ends with its block or `for` statement.
abbrev pub closed : Telling → Telling
closed t = record { declares = t.declares; names = λ s. s.names; notes = t.notes }

abbrev pub inside : Scope → Scope
inside s = record s { in_loop = true }

abbrev pub looped : Telling → Telling
looped t = record { declares = t.declares; names = λ s. t.names (inside s); notes = λ s. t.notes (inside s) }

-- an expression stands before, or behind, and leaves the scope as it is
abbrev pub noted_then : (Scope → List Note) → Telling → Telling
noted_then f t = record { declares = t.declares; names = t.names; notes = λ s. f s ++ t.notes s }

abbrev pub then_noted : Telling → (Scope → List Note) → Telling
then_noted t f = record { declares = t.declares; names = t.names; notes = λ s. t.notes s ++ f (after t s) }

-- ---- declarations of locals (JLS 14.4)

abbrev pub local_known : LocalDecl → Scope → Option Ty → Known
local_known d s ty = record { name = d.name.text; meaning = Local s.next; ty = ty; is_fixed = d.mods.is_final && is_some d.init }

-- An annotation on a local may name what is in scope before it.
abbrev pub own_names : LocalDecl → Scope → Names
own_names d s = annot_names s (Some (name.Local s.next)) (Some d.name.text)

abbrev pub local_declaration : LocalDecl → Scope → Declaration
local_declaration d s = variable s.world.class (own_names d s) d.mods.annots d.ty

abbrev pub declares_note : Span → Option Ty → Claims → List Note
declares_note p None claims = []
declares_note p (Some t) claims = Declares p (record { ty = t; claims = claims }) ∷ []

abbrev pub is_taken : Scope → Ident → Bool
is_taken s name = is_some (meant name.text s.names)

abbrev pub init_notes : Option Init → Scope → Option Ty → List Note
init_notes None s ty = []
init_notes (Some i) s ty = filling i s ty

-- A local is no name of its own initialiser.
abbrev pub pending : LocalDecl → Scope → Scope
pending d s = record s { pending = Some d.name.text }

abbrev pub declared : LocalDecl → Telling
declared d = record {
  declares = 1;
  names = λ s. if is_taken s d.name then s.names else s.names ++ local_known d s (local_declaration d s).ty ∷ [];
  notes = λ s.
      (local_declaration d s).notes
      ++ (duplicate_name (is_taken s d.name) d.name.span
      ++ (declares_note d.name.span (local_declaration d s).ty (of_variable (local_declaration d s).claims)
      ++ init_notes d.init (pending d s) (local_declaration d s).ty));
}

abbrev pub all_declared : List LocalDecl → Telling
all_declared [] = nothing
all_declared (d ∷ ds) = then_told (declared d) (all_declared ds)

-- ---- expressions in statements

abbrev pub needed : Expr → Need → Scope → List Note
needed e need s = (check (reading e) s need).notes

abbrev pub condition : Expr → Scope → List Note
condition e s = needed e (of boolean) s

abbrev pub condition_or_none : Option Expr → Scope → List Note
condition_or_none None s = []
condition_or_none (Some e) s = condition e s

abbrev pub run : Expr → Scope → List Note
run e s = ((reading e).judge s).notes

abbrev pub all_run : List Expr → Scope → List Note
all_run [] s = []
all_run (e ∷ es) s = run e s ++ all_run es s

-- the first so many bytes of a statement: its keyword
abbrev pub keyword : Span → ℕ → Span
keyword p n = if nat_lt (p.from + n) p.to then record { from = p.from; to = p.from + n } else p

-- The value of a `return` where there is no result never fits.
abbrev pub result_need : Option Need → Need
result_need None = never
result_need (Some need) = need

abbrev pub returned : Option Expr → Span → Scope → List Note
returned None p s = no_value s.result (keyword p 6)
returned (Some e) p s = needed e (result_need s.result) s

-- ---- the fold: a statement's place is told with the scope

abbrev pub or_else : Telling → Option Telling → Telling
or_else t None = t
or_else t (Some u) = then_told t u

abbrev pub stmt_kind_step : StmtKind-F (Span → Telling) Telling → Span → Telling
stmt_kind_step (StmtKind-F.Block ts) p = closed (all_told ts)
stmt_kind_step StmtKind-F.Empty p = nothing
stmt_kind_step (StmtKind-F.Local ds) p = all_declared (declarators ds)
stmt_kind_step (StmtKind-F.If c t e) p = noted_then (condition c) (or_else t e)
stmt_kind_step (StmtKind-F.While c t) p = noted_then (condition c) (looped t)
stmt_kind_step (StmtKind-F.Do t c) p = then_noted (looped t) (condition c)
stmt_kind_step (StmtKind-F.For ts c es t) p = closed (then_told (all_told ts) (noted_then (λ s. condition_or_none c s ++ all_run es s) (looped t)))
stmt_kind_step StmtKind-F.Break p = noting (λ s. break_outside s (keyword p 5))
stmt_kind_step StmtKind-F.Continue p = noting (λ s. break_outside s (keyword p 8))
stmt_kind_step (StmtKind-F.Return e) p = noting (λ s. returned e p s)
stmt_kind_step (StmtKind-F.Throw name) p = nothing
stmt_kind_step (StmtKind-F.Print e) p = noting (needed e printed)
stmt_kind_step (StmtKind-F.Run e) p = noting (run e)

abbrev pub stmt_step : Stmt-F (Span → Telling) Telling → Telling
stmt_step s = s.kind s.span

abbrev pub telling : Stmt → Telling
telling = fold-Stmt (Span → Telling) Telling stmt_kind_step stmt_step

abbrev pub kind_telling : StmtKind → Span → Telling
kind_telling = fold-StmtKind (Span → Telling) Telling stmt_kind_step stmt_step
