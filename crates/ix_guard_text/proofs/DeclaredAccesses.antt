-- Of a declaration of locals and of an expression the accesses that are tested are those of arrays at ints where the statement stands.
use Rattle.std.proofs.Common.{◌≡◌, Bool, true, false, List, [], ◌∷◌, ◌++◌, map, refl}
use Rattle.std.specs.Prelude.{if◌then◌else◌, not, ◌&&◌}
use Rattle.std.specs.List.{list_any}
use Rattle.std.proofs.lemmas.Bool.{false≢true, and_parts}
use Rattle.ix_tree.specs.declared.annot.Ident.{Ident}
use Rattle.ix_tree.specs.declared.decl.LocalDecl.{LocalDecl}
use Rattle.ix_tree.specs.declared.expr.Expr.{Expr}
use Rattle.ix_meaning.specs.Bodies.{all_declared}
use Rattle.ix_meaning.specs.Declarators.{declarators}
use Rattle.ix_meaning.specs.Scope.{Scope}
use Rattle.ix_formed.specs.NoErrors.{IsClean}
use Rattle.ix_guard.specs.Accesses.{Access, parts_of, all_decl_parts}
use Rattle.ix_guard.specs.Tests.{Site, Changes, Pair, is_variable, same_variable, is_bound_error, is_kept, is_called, is_guarded, is_tested, pair_of, same_pair}
use Rattle.ix_guard.specs.Trees.{tested_behind, expression_tested, declaration_tested}
use Rattle.ix_guard_text.proofs.AccessesFit.{no_error, Clean, Fits, AllFit}
use Rattle.ix_guard_text.proofs.DeclaredSaid as said
use Rattle.ix_guard_text.proofs.KeptScopes.{IsOpen}

-- an access on names that aren't declared is one of an array at an int
abbrev pub MayFit : Scope → List LocalDecl → Access → Type 0
MayFit s decls access = said.MayFit IsClean no_error s decls access

abbrev pub AllMayFit : Scope → List LocalDecl → List Access → Type 0
AllMayFit s decls list = said.AllMayFit IsClean no_error s decls list

-- ---- those that are tested

not_called : (b : Bool) → not b ≡ true → b ≡ false
not_called true e = absurd (false≢true e)
not_called false e = refl

kept_undeclared : (site : Site) (changes : Changes) (name : Ident) → is_kept site changes name ≡ true → list_any (is_called name) changes.declared ≡ false
kept_undeclared site changes name e =
    let called = list_any (is_called name) changes.declared in
    let assigned = list_any (same_variable (site.names.meaning name.span)) changes.assigned in
    let later = (and_parts (is_variable (site.names.meaning name.span)) (not assigned && not called) e).1 in
    not_called called (and_parts (not assigned) (not called) later).1

tested_fits : (site : Site) (changes : Changes) (before : List Pair) (s : Scope) (access : Access) → is_tested site changes before access ≡ true → MayFit s changes.declared access → Fits s access
tested_fits site changes before s access e f =
    let guarded = (and_parts (is_guarded site changes access) (not (list_any (same_pair (pair_of site access)) before)) e).0 in
    let kept = (and_parts (list_any (is_bound_error access.index.span) site.errors) (is_kept site changes access.array && is_kept site changes access.index) guarded).1 in
    let names = and_parts (is_kept site changes access.array) (is_kept site changes access.index) kept in
    f (kept_undeclared site changes access.array names.0) (kept_undeclared site changes access.index names.1)

behind_fit : (site : Site) (changes : Changes) (s : Scope) (before : List Pair) (xs : List Access) → AllMayFit s changes.declared xs → AllFit s (tested_behind site changes before xs)
behind_fit site changes s before [] f = tt
behind_fit site changes s before (x ∷ xs) f = tested_or_not (λ pairs. behind_fit site changes s pairs xs f.1) (is_tested site changes before x) refl
  where
    tested_or_not : ((pairs : List Pair) → AllFit s (tested_behind site changes pairs xs)) → (b : Bool) → is_tested site changes before x ≡ b
        → AllFit s (if b then x ∷ tested_behind site changes (before ++ pair_of site x ∷ []) xs else tested_behind site changes before xs)
    tested_or_not rest true e = (tested_fits site changes before s x e f.0, rest (before ++ pair_of site x ∷ []))
    tested_or_not rest false e = rest before

all_may : (s : Scope) (xs : List Access) → AllFit s xs → AllMayFit s [] xs
all_may s [] f = tt
all_may s (x ∷ xs) f = ((λ a i. f.0), all_may s xs f.1)

pub expression_fit : (site : Site) (e : Expr) (s : Scope) → AllFit s (parts_of e).accesses → AllFit s (expression_tested site e)
expression_fit site e s f = behind_fit site (record { assigned = map site.names.meaning (parts_of e).assigned; declared = [] }) s [] (parts_of e).accesses (all_may s (parts_of e).accesses f)

pub declaration_fit : (site : Site) (ds : List LocalDecl) (s : Scope) → IsOpen s → Clean ((all_declared (declarators ds)).notes s) → AllFit s (declaration_tested site ds)
declaration_fit site ds s o c =
    behind_fit site (record { assigned = map site.names.meaning (all_decl_parts ds).assigned; declared = ds }) s [] (all_decl_parts ds).accesses (said.declaration_may_fit IsClean no_error ds s o c)
