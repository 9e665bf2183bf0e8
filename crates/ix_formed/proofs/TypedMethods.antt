-- The body of a method without errors on names fits, and so do its locals.
use Rattle.std.proofs.Common.{◌≡◌, ◌≤◌, ℕ, zero, suc, ◌+◌, true, false, List, [], ◌∷◌, ◌++◌, length, map, Some, slice_get, arith, refl, sym, ap, subst, ◌∙◌}
use Rattle.std.specs.List.{list_all}
use Rattle.std.proofs.lemmas.Bool.{false≢true}
use Rattle.std.proofs.lemmas.List.{append-nil}
use Rattle.ix_text.specs.declared.span.Span.{Span}
use Rattle.ix_core.specs.declared.claim.Name.TheVariants as name
use Rattle.ix_core.specs.declared.claim.Type_.{Type_}
use Rattle.ix_core.specs.declared.program.Local.{Local}
use Rattle.ix_core.specs.Code.{End, items_code}
use Rattle.ix_core.specs.Formed.{code_ways, locals_fit, is_target, claim_fits, others, local_named_type}
use Rattle.ix_core.specs.Types.{Point, is_type}
use Rattle.ix_tree.specs.declared.stmt.Stmt.{Stmt}
use Rattle.ix_tree.specs.Parts.{stmt_parts, together}
use Rattle.ix_tree.specs.Placed.{LaidOut, row, stmt_piece}
use Rattle.ix_meaning.specs.Bodies.{after, all_told, telling}
use Rattle.ix_meaning.specs.Scope.{Scope as Names}
use Rattle.ix_plain.specs.declared.body.Body.{Body}
use Rattle.ix_plain.specs.Statements as statements
use Rattle.ix_plain.specs.Statements.{statement}
use Rattle.ix_formed.specs.Additions.{Makes, AllOf}
use Rattle.ix_formed.specs.LocalTypes.{stmt_types, local_types}
use Rattle.ix_formed.specs.OwnSlots.{HasOwnSlot, HaveOwnSlots}
use Rattle.ix_formed.specs.Readable.{stmt_shape, each_fine}
use Rattle.ix_formed.specs.TypedStatements.{Ground, IsGround, Says, IsKnown, Scoped, Stands, Begins, DoFit, Adds, Tells}
use Rattle.ix_formed.specs.Written.{is_written_stmt, all_true}
use Rattle.ix_formed.proofs.NumberLists.{both_true}
use Rattle.ix_formed.proofs.PlainItems.{items_before}
use Rattle.ix_formed.proofs.StatementsTell.{statements_are}
use Rattle.ix_formed.proofs.TypedFor.{each_tells}

module _ (g : Ground) (ground : IsGround g) where
  -- ---- statements from the entry of a method on

  -- A body that is all that was added from the entry on fits, where the method has its slots, locals and types.
  pub whole_fits : (s next : Names) (from to until : ℕ) (start : Body) (point : Point) (after_body : Body) (a : Adds g s from to until start [] point after_body) → start.made.items ≡ [] → start.locals ≡ [] → g.method.locals ≡ after_body.locals → g.locals ≡ a.added_types
      → after_body.most ≤ g.method.slots → s.in_loop ≡ false → (code_ways g.program g.method g.locals false (items_code after_body.made.items) point).fits ≡ true
  whole_fits s next from to until start point after_body a none no_locals locals types few outside =
      let all : after_body.made.items ≡ a.items = a.appended ∙ ap (λ l. l ++ a.items) none in
      let begins : Begins g after_body.locals a.added_types to = record { later = []; later_types = []; locals = locals ∙ sym (append-nil after_body.locals); types = types ∙ sym (append-nil a.added_types); behind = tt } in
      let leaves = a.leaves begins few false (λ e. absurd (false≢true (sym outside ∙ e))) in
      ap (λ l. (code_ways g.program g.method g.locals false (items_code l) point).fits) all ∙ ap (λ code. (code_ways g.program g.method g.locals false code point).fits) (items_before a.items) ∙ leaves.fits End refl

  -- and its locals do
  fit_locals : (number : ℕ) (locals : List (Local × Span)) (types : List Type_) → DoFit g number locals types → AllOf (λ (local : Local × Span). is_target g.program g.method local.0.slot ≡ true) locals
      → locals_fit g.program g.method g.locals number locals types ≡ true
  fit_locals number [] [] fit targets = refl
  fit_locals number [] (ty ∷ types) fit targets = absurd fit
  fit_locals number (local ∷ locals) [] fit targets = absurd fit
  fit_locals number (local ∷ locals) (ty ∷ types) fit targets =
      both_true (is_target g.program g.method local.0.slot) _ targets.0 (both_true (is_type g.program ty) _ fit.0
      (both_true (list_all (claim_fits ty (others (name.Local number) (local_named_type g.program g.method g.locals local.1))) local.0.claims) _ fit.1 (fit_locals (number + 1) locals types fit.3 targets.1)))

  pub whole_locals_fit : (s : Names) (from to until : ℕ) (start : Body) (point : Point) (after_body : Body) (a : Adds g s from to until start [] point after_body) → start.locals ≡ [] → g.method.locals ≡ after_body.locals → g.locals ≡ a.added_types
      → AllOf (λ (local : Local × Span). is_target g.program g.method local.0.slot ≡ true) g.method.locals → locals_fit g.program g.method g.locals 0 g.method.locals g.locals ≡ true
  whole_locals_fit s from to until start point after_body a none locals types targets =
      let begins : Begins g after_body.locals a.added_types to = record { later = []; later_types = []; locals = locals ∙ sym (append-nil after_body.locals); types = types ∙ sym (append-nil a.added_types); behind = tt } in
      let own : g.method.locals ≡ a.added = locals ∙ a.grown ∙ ap (λ l. l ++ a.added) none in
      let fit = subst (λ n. DoFit g n a.added a.added_types) (ap (λ (l : List (Local × Span)). length l) none) (a.do_fit begins) in
      let targets_own = subst (AllOf (λ (local : Local × Span). is_target g.program g.method local.0.slot ≡ true)) own targets in
      ap (λ l. locals_fit g.program g.method g.locals 0 l g.locals) own ∙ ap (locals_fit g.program g.method g.locals 0 a.added) types ∙ fit_locals 0 a.added a.added_types fit targets_own

  own_slots : (number : ℕ) (locals : List (Local × Span)) (types : List Type_) → DoFit g number locals types → (k : ℕ) (local : Local × Span) → slice_get locals k ≡ Some local → HasOwnSlot g.method.locals (number + k) local
  own_slots number [] types fit k local is = absurd cc
  own_slots number (first ∷ locals) [] fit k local is = absurd fit
  own_slots number (first ∷ locals) (ty ∷ types) fit zero local is =
      let at : first ≡ local = cc in
      let h : number ≡ number + 0 = omega arith in
      subst (HasOwnSlot g.method.locals (number + 0)) at (subst (λ n. HasOwnSlot g.method.locals n first) h fit.2)
  own_slots number (first ∷ locals) (ty ∷ types) fit (suc k) local is =
      let h : (number + 1) + k ≡ number + suc k = omega arith in
      subst (λ n. HasOwnSlot g.method.locals n local) h (own_slots (number + 1) locals types fit.3 k local is)

  -- and each of them has a slot of its own
  pub whole_locals_own : (s : Names) (from to until : ℕ) (start : Body) (point : Point) (after_body : Body) (a : Adds g s from to until start [] point after_body) → start.locals ≡ [] → g.method.locals ≡ after_body.locals → g.locals ≡ a.added_types
      → HaveOwnSlots g.method.locals
  whole_locals_own s from to until start point after_body a none locals types number local is =
      let begins : Begins g after_body.locals a.added_types to = record { later = []; later_types = []; locals = locals ∙ sym (append-nil after_body.locals); types = types ∙ sym (append-nil a.added_types); behind = tt } in
      let own : g.method.locals ≡ a.added = locals ∙ a.grown ∙ ap (λ l. l ++ a.added) none in
      let fit = subst (λ n. DoFit g n a.added a.added_types) (ap (λ (l : List (Local × Span)). length l) none) (a.do_fit begins) in
      let h : 0 + number ≡ number = omega arith in
      subst (λ n. HasOwnSlot g.method.locals n local) h (own_slots 0 a.added a.added_types fit number local (subst (λ ls. slice_get ls number ≡ Some local) own is))

  -- all statements of a body
  pub body_tells : (xs : List Stmt) (s : Names) (start lo hi end : ℕ) (body : Body) (types : List Type_) (point : Point) → Scoped g s body.locals types body.made.free lo end → Stands g s body.locals point → s.next ≡ length body.locals
      → LaidOut start lo hi (row (map stmt_piece xs)) → hi ≤ end → AllOf (IsKnown g) (together (map stmt_parts xs)) → all_true (map is_written_stmt xs) ≡ true → each_fine (map stmt_shape xs) ≡ true → Says g ((all_told (map telling xs)).notes s)
      → Makes (Tells g s (after (all_told (map telling xs)) s) lo hi end end body types (local_types g.site.names xs) point) (statements.each (map statement xs) g.site end body)
  body_tells xs = each_tells g ground (map statement xs) (map telling xs) (map stmt_piece xs) (map stmt_parts xs) (map is_written_stmt xs) (map stmt_shape xs) (map (stmt_types g.site.names) xs) (statements_are g ground xs)
