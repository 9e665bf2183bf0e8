-- What the statements of a guarded text are built over holds: code behind a test keeps what the test tells, and code without an access at the place has none there.
use Rattle.std.proofs.Common.{◌≡◌, ℕ, true, false, List, [], ◌∷◌, map, Option, Some, refl, sym, ap, ap₂, subst, ◌∙◌}
use Rattle.std.specs.List.{list_any}
use Rattle.std.proofs.lemmas.Bool.{and_parts, false≢true}
use Rattle.ix_text.specs.declared.span.Span.{Span}
use Rattle.ix_core.specs.declared.op.Op.{Op}
use Rattle.ix_core.proofs.Cases.{equal}
use Rattle.ix_tree.specs.declared.annot.Ident.{Ident}
use Rattle.ix_tree.specs.declared.decl.LocalDecl.{LocalDecl}
use Rattle.ix_tree.specs.declared.expr.Expr.{Expr}
use Rattle.ix_meaning.specs.declared.note.Meaning.{Meaning}
use Rattle.ix_meaning.specs.declared.note.Meaning.TheVariants as meaning
use Rattle.ix_plain.specs.declared.body.Body.{Body}
use Rattle.ix_plain.specs.declared.made.Made.{Made}
use Rattle.ix_plain.specs.Scope.{Scope}
use Rattle.ix_plain.specs.Assigned.{assigns}
use Rattle.ix_plain.specs.Values.{lowering}
use Rattle.ix_plain.specs.Statements.{scope_for, declarations}
use Rattle.ix_formed.specs.Additions.{Makes}
use Rattle.ix_formed.specs.Readable.{is_readable_expr, is_readable_decl}
use Rattle.ix_formed.specs.Written.{each_true}
use Rattle.ix_source.specs.Running.{Ground}
use Rattle.ix_source.specs.SoundStatements.{ran_at, declared_sound}
use Rattle.ix_guard_text.specs.Bare.{bare_maybe}
use Rattle.ix_guard.specs.Accesses.{Access, parts_of, all_decl_parts}
use Rattle.ix_guard.specs.Tests.{Site, is_variable, same_variable}
use Rattle.ix_guard_promise.specs.Pieces.{IsElsewhere, Keeps}
use Rattle.ix_guard_text.specs.GuardedNames.{SaysMoved}
use Rattle.ix_guard_text.proofs.PartsMoved.{assigned_moved, decls_assigned_moved}
use Rattle.ix_guard_text.specs.Moved.{Move, moved_span, moved_name, moved_expr, moved_init, moved_decl, moved_stmt}
use Rattle.ix_guard_promise.specs.AllAccesses.{AnyAccess, all_accesses, init_accesses, decl_accesses, each_of}
use Rattle.ix_guard_promise.specs.AtPlace.{HasNone, stmt_accesses}
use Rattle.ix_guard_promise.specs.InScope.{IsAt, IsUnnamed, Calls, OnlyOf}
use Rattle.ix_guard_promise.specs.KeptSlots.{AreBelow, Leaves, Leaving}
use Rattle.ix_guard_promise.proofs.AccessesMoved.{moved_any, accesses_moved, init_accesses_moved, decls_accesses_moved}
use Rattle.ix_guard_promise.proofs.StatementsMoved.{stmt_accesses_moved}
use Rattle.ix_guard_promise.proofs.KeptNames.{kept_variable, kept_unassigned}
use Rattle.ix_guard_promise.proofs.SoundKept.{named_at, variable_some, Spares, AreAt, are_below, sound_kept, declared_kept}
use Rattle.ix_guard_promise.proofs.KeptPieces.{kept_leaving, kept_declarations}
use Rattle.ix_guard_promise.proofs.Elsewhere.{expression_elsewhere, initialiser_elsewhere}
use Rattle.ix_guard_promise.proofs.ElsewhereStatements.{statement_elsewhere}
use Rattle.ix_guard_promise.specs.SourceGuards.{AreKept, HasOnly}
use Rattle.ix_guard_promise.specs.Laws.{LowersEach, IsInSlot, AreInSlots, changes_of, Laws}
use Rattle.ix_guard_promise.proofs.NoneInOutlines.{none_in_statement}

-- ---- what is added

lowers : (P : Op → Type 0) (Low : ℕ → Type 0) (scope : Scope) (made : Made) (expr : Expr) → Low made.free → Leaving P Low scope (lowering expr) → LowersEach P scope made expr
lowers P Low scope made expr low l = record { value = l.value made low; condition = l.condition made.free low }

-- ---- variables

variables_same : (m o : Option Meaning) → same_variable m o ≡ true → m ≡ o
variables_same (Some (meaning.Local n)) (Some (meaning.Local k)) e = ap (λ n. Some (meaning.Local n)) (equal n k e)
variables_same (Some (meaning.Param n)) (Some (meaning.Param k)) e = ap (λ n. Some (meaning.Param n)) (equal n k e)
variables_same (Some (meaning.Local n)) _ e = absurd (false≢true e)
variables_same (Some (meaning.Param n)) _ e = absurd (false≢true e)
variables_same _ _ e = absurd (false≢true e)

module _ (site : Site) (move : Move) (place : Span) (g : Ground) (apart : (span other : Span) → moved_span move span ≡ moved_span move other → span ≡ other) (says : SaysMoved site.names g.site.names move) where
  abbrev at : Span
  at = moved_span move place

  -- ---- no access at the place

  none_moved : (accesses : List AnyAccess) → HasNone place accesses → HasNone at (map (moved_any move) accesses)
  none_moved [] none = tt
  none_moved (access ∷ accesses) none = (λ here. none.0 (apart access.place place here), none_moved accesses none.1)

  none_there : (accesses there : List AnyAccess) → there ≡ map (moved_any move) accesses → HasNone place accesses → HasNone at there
  none_there accesses there same none = subst (HasNone at) (sym same) (none_moved accesses none)

  -- ---- the variables of a test

  meanings_moved : (spans : List Span) → map g.site.names.meaning (map (moved_span move) spans) ≡ map site.names.meaning spans
  meanings_moved [] = refl
  meanings_moved (span ∷ spans) = ap₂ (λ (m : Option Meaning) (ms : List (Option Meaning)). m ∷ ms) (says.meaning span) (meanings_moved spans)

  unnamed_there : (variable : Meaning) (m : Option Meaning) (spans there : List Span) → m ≡ Some variable → there ≡ map (moved_span move) spans
      → list_any (same_variable m) (map site.names.meaning spans) ≡ false → IsUnnamed g.site.names variable there
  unnamed_there variable m spans there is same none =
      ap (λ (l : List Span). list_any (same_variable (Some variable)) (map g.site.names.meaning l)) same ∙ ap (list_any (same_variable (Some variable))) (meanings_moved spans)
      ∙ ap (λ (o : Option Meaning). list_any (same_variable o) (map site.names.meaning spans)) (sym is) ∙ none

  module _ (test : Access) (first second : Meaning) (first_is : site.names.meaning test.array.span ≡ Some first) (second_is : site.names.meaning test.index.span ≡ Some second) where
    calls_there : (variable : Meaning) (tested : Option Meaning) (name : Option Ident) (ident : Ident) → tested ≡ Some variable → name ≡ Some ident → same_variable (site.names.meaning ident.span) tested ≡ true
        → Calls g.site.names variable (bare_maybe (moved_name move) name)
    calls_there variable tested name ident is named same =
        subst (λ (o : Option Ident). Calls g.site.names variable (bare_maybe (moved_name move) o)) (sym named)
        (says.meaning ident.span ∙ variables_same (site.names.meaning ident.span) tested same ∙ is)

    only_moved : (accesses : List AnyAccess) → HasOnly site place test accesses → OnlyOf g.site.names at first second (map (moved_any move) accesses)
    only_moved [] only = tt
    only_moved (access ∷ accesses) only = (
      λ here.
          let of = only.0 (apart access.place place here) in
          let one = same_variable (site.names.meaning of.array.span) (site.names.meaning test.array.span) in
          let two = same_variable (site.names.meaning of.index.span) (site.names.meaning test.index.span) in
          let both = and_parts one two of.same in (
            calls_there first (site.names.meaning test.array.span) access.array of.array first_is of.array_named both.0,
            calls_there second (site.names.meaning test.index.span) access.index of.index second_is of.index_named both.1,
          ),
      only_moved accesses only.1,
    )

    only_at : (accesses there : List AnyAccess) → there ≡ map (moved_any move) accesses → HasOnly site place test accesses → OnlyOf g.site.names at first second there
    only_at accesses there same only = subst (OnlyOf g.site.names at first second) (sym same) (only_moved accesses only)

  in_slot_at : (body : Body) (m : Option Meaning) (variable : Meaning) (slot : ℕ) → m ≡ Some variable → is_variable m ≡ true → IsInSlot g body.locals body.made.free m slot → IsAt g body variable slot
  in_slot_at body m variable slot is variable_is there =
      let here : IsInSlot g body.locals body.made.free (Some variable) slot = subst (λ (o : Option Meaning). IsInSlot g body.locals body.made.free o slot) is there in
      subst (IsAt g body variable) here.in_slot (named_at g body [] variable (ap is_variable (sym is) ∙ variable_is) (here.sound []))

  -- ---- what a statement behind a test is

  pub kept_law : (expr : Expr) (test : Access) (array index : ℕ) (body : Body) → AreKept site (changes_of site [] (parts_of expr)) test → HasOnly site place test (all_accesses expr)
      → AreInSlots site g body.locals body.made.free test array index → is_readable_expr (moved_expr move expr) ≡ true → ran_at (moved_expr move expr) g body ≡ true
      → LowersEach (Keeps at array index) (scope_for g.site body (assigns (moved_expr move expr)).inside) body.made (moved_expr move expr)
  kept_law expr test array index body kept only in_slots fine sound =
      let changes = changes_of site [] (parts_of expr) in
      let one = kept_variable site changes test.array kept.array in
      let two = kept_variable site changes test.index kept.index in
      let f = variable_some (site.names.meaning test.array.span) one in
      let s = variable_some (site.names.meaning test.index.span) two in
      let there = moved_expr move expr in
      let v1 = ap is_variable (sym f.1) ∙ one in
      let v2 = ap is_variable (sym s.1) ∙ two in
      let spares : Spares g at f.0 s.0 v1 v2 (parts_of there).assigned (all_accesses there) = record {
        first_free = unnamed_there f.0 (site.names.meaning test.array.span) (parts_of expr).assigned (parts_of there).assigned f.1 (assigned_moved move expr) (kept_unassigned site changes test.array kept.array);
        second_free = unnamed_there s.0 (site.names.meaning test.index.span) (parts_of expr).assigned (parts_of there).assigned s.1 (assigned_moved move expr) (kept_unassigned site changes test.index kept.index);
        only = only_at test f.0 s.0 f.1 s.1 (all_accesses expr) (all_accesses there) (accesses_moved move expr) only;
      } in
      let are : AreAt g at f.0 s.0 v1 v2 array index body = record {
        first_at = in_slot_at body (site.names.meaning test.array.span) f.0 array f.1 one in_slots.array_is;
        second_at = in_slot_at body (site.names.meaning test.index.span) s.0 index s.1 two in_slots.index_is;
      } in
      lowers (Keeps at array index) (AreBelow array index) (scope_for g.site body (assigns there).inside) body.made there (are_below g at f.0 s.0 v1 v2 array index body are)
      (kept_leaving at array index g.site there body fine (sound_kept g at f.0 s.0 v1 v2 array index body there are spares sound))

  pub kept_locals_law : (decls : List LocalDecl) (test : Access) (array index end : ℕ) (body : Body) → AreKept site (changes_of site decls (all_decl_parts decls)) test
      → HasOnly site place test (each_of decl_accesses decls) → AreInSlots site g body.locals body.made.free test array index
      → each_true is_readable_decl (map (moved_decl move) decls) ≡ true → declared_sound (map (moved_decl move) decls) g end body ≡ true
      → Makes (λ after. Leaves (Keeps at array index) body.made after.made) (declarations (map (moved_decl move) decls) g.site end body)
  kept_locals_law decls test array index end body kept only in_slots fine sound =
      let changes = changes_of site decls (all_decl_parts decls) in
      let one = kept_variable site changes test.array kept.array in
      let two = kept_variable site changes test.index kept.index in
      let f = variable_some (site.names.meaning test.array.span) one in
      let s = variable_some (site.names.meaning test.index.span) two in
      let there = map (moved_decl move) decls in
      let v1 = ap is_variable (sym f.1) ∙ one in
      let v2 = ap is_variable (sym s.1) ∙ two in
      let spares : Spares g at f.0 s.0 v1 v2 (all_decl_parts there).assigned (each_of decl_accesses there) = record {
        first_free = unnamed_there f.0 (site.names.meaning test.array.span) (all_decl_parts decls).assigned (all_decl_parts there).assigned f.1 (decls_assigned_moved move decls) (kept_unassigned site changes test.array kept.array);
        second_free = unnamed_there s.0 (site.names.meaning test.index.span) (all_decl_parts decls).assigned (all_decl_parts there).assigned s.1 (decls_assigned_moved move decls) (kept_unassigned site changes test.index kept.index);
        only = only_at test f.0 s.0 f.1 s.1 (each_of decl_accesses decls) (each_of decl_accesses there) (decls_accesses_moved move decls) only;
      } in
      let are : AreAt g at f.0 s.0 v1 v2 array index body = record {
        first_at = in_slot_at body (site.names.meaning test.array.span) f.0 array f.1 one in_slots.array_is;
        second_at = in_slot_at body (site.names.meaning test.index.span) s.0 index s.1 two in_slots.index_is;
      } in
      kept_declarations at array index g.site end there body (are_below g at f.0 s.0 v1 v2 array index body are) fine (declared_kept g at f.0 s.0 v1 v2 array index end there body are spares sound)

  -- They hold of a guarded text: its names say at each place moved what the source's say, and no two places are moved to one.
  pub laws_hold : Laws site move place g
  laws_hold = record {
    kept = kept_law;
    kept_locals = kept_locals_law;
    elsewhere = λ expr scope made none fine. lowers (IsElsewhere at) (λ free. Unit {0}) scope made (moved_expr move expr) tt
        (expression_elsewhere at scope (moved_expr move expr) fine (none_there (all_accesses expr) (all_accesses (moved_expr move expr)) (accesses_moved move expr) none));
    init_elsewhere = λ init scope ty made none fine.
        initialiser_elsewhere at scope (moved_init move init) fine (none_there (init_accesses init) (init_accesses (moved_init move init)) (init_accesses_moved move init) none) ty made tt;
    statement_elsewhere = λ stmt end body none fine.
        statement_elsewhere at (moved_stmt move stmt) fine
        (none_there (stmt_accesses stmt) (stmt_accesses (moved_stmt move stmt)) (stmt_accesses_moved move stmt) (none_in_statement site place stmt none)) g.site end body;
  }
