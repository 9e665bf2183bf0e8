-- What the names of a tested access mean where its statement stands in the guarded text.
use Rattle.std.proofs.Common.{◌≡◌, ◌≤◌, ℕ, Bool, true, false, List, [], ◌∷◌, ◌++◌, map, Option, Some, None, refl, sym, ap, subst, ◌∙◌}
use Rattle.std.specs.Prelude.{if◌then◌else◌, not, ◌&&◌, ◌||◌, bytes_eq}
use Rattle.std.specs.List.{list_any}
use Rattle.std.proofs.lemmas.Bool.{false≢true, and_parts}
use Rattle.ix_text.specs.declared.span.Span.{Span}
use Rattle.ix_core.specs.declared.claim.Base.TheVariants as base
use Rattle.ix_core.specs.declared.claim.Type_.{Type_}
use Rattle.ix_core.specs.declared.claim.Type_.TheVariants as type
use Rattle.ix_core.specs.Types.{is_array_type, int_type}
use Rattle.ix_tree.specs.declared.annot.Ident.{Ident}
use Rattle.ix_tree.specs.declared.decl.LocalDecl.{LocalDecl}
use Rattle.ix_tree.specs.declared.expr.Expr.{Expr}
use Rattle.ix_tree.specs.Parts as parts
use Rattle.ix_tree.specs.Parts.{Part, elsewhere, together, expr_parts}
use Rattle.ix_meaning.specs.declared.members.Field.{Field}
use Rattle.ix_meaning.specs.declared.note.NameError.{NameError}
use Rattle.ix_meaning.specs.declared.note.Meaning.{Meaning}
use Rattle.ix_meaning.specs.declared.note.Note.{Note}
use Rattle.ix_meaning.specs.declared.note.Note.TheVariants.{Wrong}
use Rattle.ix_meaning.specs.declared.note.Rule.TheVariants as rule
use Rattle.ix_meaning.specs.Bodies.{all_declared}
use Rattle.ix_meaning.specs.Declarators.{declarators}
use Rattle.ix_meaning.specs.Members.{World, nearest, or_nearest, field_named}
use Rattle.ix_meaning.specs.Resolved.{Names}
use Rattle.ix_meaning.specs.Rules as rules
use Rattle.ix_meaning.specs.Scope.{Scope, Known, meant, is_pending}
use Rattle.ix_meaning.specs.Types.{int, of, fits, Judged, judged}
use Rattle.ix_meaning.specs.Values as values
use Rattle.ix_formed.specs.Additions.{AllOf}
use Rattle.ix_formed.specs.NoErrors.{Agrees, named_at}
use Rattle.ix_formed.specs.Weights.{total}
use Rattle.ix_formed.proofs.EachMember.{said_parts, not_broken}
use Rattle.ix_guard.specs.Accesses.{Access, parts_of, all_decl_parts}
use Rattle.ix_guard.specs.Tests.{Site, Changes, Pair, is_variable, same_variable, is_bound_error, is_kept, is_called, is_guarded, is_tested, pair_of, same_pair}
use Rattle.ix_guard.specs.Trees.{tested_behind, expression_tested, declaration_tested}
use Rattle.ix_guard_text.specs.Moved.{Move, moved_span, moved_name, moved_expr, moved_decl}
use Rattle.ix_guard_text.specs.GuardedNames.{SaysMoved}
use Rattle.ix_guard_text.proofs.PartsMoved.{moved_access, accesses_moved, declared_moved}
use Rattle.ix_guard_text.proofs.AccessesKnown.{IsKnown, AllKnown, accesses_known, declared_known}
use Rattle.ix_guard_text.proofs.AccessesSaid.{Fits, AllFit}
use Rattle.ix_guard_text.proofs.DeclaredSaid.{AllMayFit, declaration_may_fit}
use Rattle.ix_guard_text.proofs.TypedScopes.{IsTyped, AllTyped, IsNoVariable, NoFieldVariable}

-- a name that means a parameter or a local in scope reads as this
pub variable_known : (s : Scope) (name : Ident) (k : Known) → s.pending ≡ None → meant name.text s.names ≡ Some k → values.variable s false name ≡ judged k.ty (values.known_notes false k name.span)
variable_known s name k none found =
    let unknown = judged None (rules.unknown_name name.span) in
    ap (λ (p : Option (List ℕ)). if is_pending p name.text then unknown else values.known_or s false name (meant name.text s.names)) none ∙ ap (values.known_or s false name) found

meant_so : (So : Known → Type 0) (text : List ℕ) (ks : List Known) → AllOf So ks → (k : Known) → meant text ks ≡ Some k → So k
meant_so So text [] all k e = absurd cc
meant_so So text (x ∷ ks) all k e = here (bytes_eq x.name text) (meant_so So text ks all.1 k) e
  where
    here : (b : Bool) → (meant text ks ≡ Some k → So k) → (if b then Some x else meant text ks) ≡ Some k → So k
    here true rest e = let same : x ≡ k = cc in subst So same all.0
    here false rest e = rest e

nearest_so : (So : Field → Type 0) (own : ℕ → Option Field) → ((a : ℕ) (f : Field) → own a ≡ Some f → So f) → (cs : List ℕ) (f : Field) → nearest own cs ≡ Some f → So f
nearest_so So own h [] f e = absurd cc
nearest_so So own h (c ∷ cs) f e = here (own c) refl (nearest_so So own h cs f) e
  where
    here : (o : Option Field) → own c ≡ o → (nearest own cs ≡ Some f → So f) → or_nearest o (nearest own cs) ≡ Some f → So f
    here None d rest e = rest e
    here (Some g) d rest e = h c f (d ∙ e)

-- A guarded text beside its source: at places moved its table says what the source's does. These are the parts of its tree, and this is its world, in which no field means a variable.
pub record Beside : Type 0 where
  pub site : Site
  pub move : Move
  pub others : Names
  pub says : SaysMoved site.names others move
  pub tree : List Part
  pub world : World
  pub no_variable : NoFieldVariable world

module _ (b : Beside) where
  -- the guarded text's table says what the note says, where a name stands outside types
  abbrev pub Agreed : Note → Type 0
  Agreed note = Agrees b.others b.tree note

  pub no_error : (error : NameError) → Agreed (Wrong error) → ⊥
  no_error error wrong = wrong

  abbrev pub Said : List Note → Type 0
  Said notes = AllOf Agreed notes

  -- a name outside types is one of the tree's
  abbrev pub IsThere : Part → Type 0
  IsThere (elsewhere name) = 1 ≤ total (named_at name.span) b.tree
  IsThere _ = Unit {0}

  abbrev pub AllThere : List Part → Type 0
  AllThere ps = AllOf IsThere ps

  -- A scope of the guarded text, outside the initialiser of a local.
  pub record Stands (s : Scope) : Type 0 where
    pub world : s.world ≡ b.world
    pub not_pending : s.pending ≡ None
    pub typed : AllTyped s.names

  -- The name means a parameter or a local among these names, as the source's table says, and this has a type.
  pub record Reads (names : List Known) (name : Ident) : Type 0 where
    pub known : Known
    pub found : meant name.text names ≡ Some known
    pub means : b.site.names.meaning name.span ≡ Some known.meaning
    pub ty : Type_
    pub typed : known.ty ≡ Some ty

  no_field : (s : Scope) (name : Ident) → is_variable (b.site.names.meaning name.span) ≡ true → IsThere (elsewhere (moved_name b.move name)) → (f : Option Field) → ((g : Field) → f ≡ Some g → IsNoVariable g)
      → Said (values.bare_field s false (moved_span b.move name.span) f).notes → ⊥
  no_field s name is there None means said = said.0
  no_field s name is there (Some g) means said =
      let p = moved_span b.move name.span in
      let m = means g refl in
      let assigned = rules.final_assigned s.in_constructor s.class false true g p in
      let uses = (said_parts Agreed (rules.not_static s g.is_static p) (values.field_use s false true p g) said).1 in
      let own = subst (λ (o : Option Meaning). Said (rules.use_of o p ++ assigned)) m.1 uses in
      let table : b.site.names.meaning name.span ≡ Some m.0 = sym (b.says.meaning name.span) ∙ own.0 there in
      false≢true (sym m.2 ∙ sym (ap is_variable table) ∙ is)

  read_name : (s : Scope) → Stands s → (name : Ident) → is_variable (b.site.names.meaning name.span) ≡ true → IsThere (elsewhere (moved_name b.move name))
      → Said (values.variable s false (moved_name b.move name)).notes → Reads s.names name
  read_name s stands name is there said =
      by (meant name.text s.names) refl
      (subst (λ (p : Option (List ℕ)). Said (if is_pending p name.text then judged None (rules.unknown_name (moved_span b.move name.span)) else values.known_or s false (moved_name b.move name) (meant name.text s.names)).notes)
      stands.not_pending said)
    where
      by : (o : Option Known) → meant name.text s.names ≡ o → Said (values.known_or s false (moved_name b.move name) o).notes → Reads s.names name
      by None e said =
          absurd (no_field s name is there (field_named s.world s.class name.text)
          (nearest_so IsNoVariable (λ a. s.world.field a name.text) (λ a f e. b.no_variable a name.text f (sym (ap (λ (x : World). x.field a name.text) stands.world) ∙ e)) (s.class ∷ s.world.supers s.class)) said)
      by (Some k) e said =
          let has = meant_so IsTyped name.text s.names stands.typed k e in
          record { known = k; found = e; means = sym (b.says.meaning name.span) ∙ said.0 there; ty = has.0; typed = has.1 }

  -- Both names of an access do: the array has an array's type, the index is an int.
  pub record IsRead (names : List Known) (access : Access) : Type 0 where
    pub array : Reads names access.array
    pub index : Reads names access.index
    pub is_array : is_array_type array.ty ≡ true
    pub is_int : index.ty ≡ int_type

  array_is : (ty : Type_) (p : Span) → Said (values.no_array (Some ty) p) → is_array_type ty ≡ true
  array_is type.Void p said = absurd said.0
  array_is (type.Plain plain) p said = absurd said.0
  array_is (type.Array elements depth claims) p said = refl

  int_is : (ty : Type_) → fits b.world.supers ty int ≡ true → ty ≡ int_type
  int_is type.Void e = absurd (false≢true e)
  int_is (type.Plain base.Int) e = refl
  int_is (type.Plain base.Bool) e = absurd (false≢true e)
  int_is (type.Plain (base.Class c)) e = absurd (false≢true e)
  int_is (type.Array elements depth claims) e = absurd (false≢true e)

  not_false : (c : Bool) → not c ≡ false → c ≡ true
  not_false true e = refl
  not_false false e = absurd (false≢true (sym e))

  read_access : (s : Scope) → Stands s → (access : Access) → is_variable (b.site.names.meaning access.array.span) ≡ true → is_variable (b.site.names.meaning access.index.span) ≡ true
      → IsKnown IsThere (moved_access b.move access) → Fits Agreed no_error s (moved_access b.move access) → IsRead s.names access
  read_access s stands access a i there fit =
      let array = read_name s stands access.array a there.0 fit.array in
      let index = read_name s stands access.index i there.1 fit.index in
      let p = moved_span b.move access.array.span in
      let q = moved_span b.move access.index.span in
      let array_typed = ap (λ (j : Judged). j.ty) (variable_known s (moved_name b.move access.array) array.known stands.not_pending array.found) ∙ array.typed in
      let index_typed = ap (λ (j : Judged). j.ty) (variable_known s (moved_name b.move access.index) index.known stands.not_pending index.found) ∙ index.typed in
      let no_array = subst (λ (o : Option Type_). Said (values.no_array o p)) array_typed fit.is_array in
      let mismatch = subst (λ (x : World). Said (rules.type_mismatch x (of int) (Some index.ty) q)) stands.world
      (subst (λ (o : Option Type_). Said (rules.type_mismatch s.world (of int) o q)) index_typed fit.is_int) in
      record {
        array = array;
        index = index;
        is_array = array_is array.ty p no_array;
        is_int = int_is index.ty (not_false (fits b.world.supers index.ty int) (not_broken Agreed no_error (not (fits b.world.supers index.ty int)) rule.TypeMismatch q mismatch));
      }

  -- ---- those that are tested

  abbrev AllRead : List Known → List Access → Type 0
  AllRead names list = AllOf (IsRead names) list

  -- An access does whose names are those of variables that aren't declared.
  abbrev MayRead : List LocalDecl → List Known → Access → Type 0
  MayRead decls names access =
      is_variable (b.site.names.meaning access.array.span) ≡ true → is_variable (b.site.names.meaning access.index.span) ≡ true → list_any (is_called access.array) decls ≡ false → list_any (is_called access.index) decls ≡ false
      → IsRead names access

  not_called : (c : Bool) → not c ≡ true → c ≡ false
  not_called true e = absurd (false≢true e)
  not_called false e = refl

  kept_is : (changes : Changes) (name : Ident) → is_kept b.site changes name ≡ true → (is_variable (b.site.names.meaning name.span) ≡ true) × (list_any (is_called name) changes.declared ≡ false)
  kept_is changes name e =
      let called = list_any (is_called name) changes.declared in
      let assigned = list_any (same_variable (b.site.names.meaning name.span)) changes.assigned in
      let both = and_parts (is_variable (b.site.names.meaning name.span)) (not assigned && not called) e in
      (both.0, not_called called (and_parts (not assigned) (not called) both.1).1)

  tested_reads : (changes : Changes) (before : List Pair) (names : List Known) (access : Access) → is_tested b.site changes before access ≡ true → MayRead changes.declared names access → IsRead names access
  tested_reads changes before names access e may =
      let guarded = (and_parts (is_guarded b.site changes access) (not (list_any (same_pair (pair_of b.site access)) before)) e).0 in
      let kept = (and_parts (list_any (is_bound_error access.index.span) b.site.errors) (is_kept b.site changes access.array && is_kept b.site changes access.index) guarded).1 in
      let both = and_parts (is_kept b.site changes access.array) (is_kept b.site changes access.index) kept in
      let array = kept_is changes access.array both.0 in
      let index = kept_is changes access.index both.1 in may array.0 index.0 array.1 index.1

  behind_read : (changes : Changes) (names : List Known) (before : List Pair) (xs : List Access) → AllOf (MayRead changes.declared names) xs → AllRead names (tested_behind b.site changes before xs)
  behind_read changes names before [] may = tt
  behind_read changes names before (x ∷ xs) may = tested_or_not (λ pairs. behind_read changes names pairs xs may.1) (is_tested b.site changes before x) refl
    where
      tested_or_not : ((pairs : List Pair) → AllRead names (tested_behind b.site changes pairs xs)) → (c : Bool) → is_tested b.site changes before x ≡ c
          → AllRead names (if c then x ∷ tested_behind b.site changes (before ++ pair_of b.site x ∷ []) xs else tested_behind b.site changes before xs)
      tested_or_not rest true e = (tested_reads changes before names x e may.0, rest (before ++ pair_of b.site x ∷ []))
      tested_or_not rest false e = rest before

  expression_may : (s : Scope) → Stands s → (xs : List Access) → AllFit Agreed no_error s (map (moved_access b.move) xs) → AllKnown IsThere (map (moved_access b.move) xs) → AllOf (MayRead [] s.names) xs
  expression_may s stands [] fit there = tt
  expression_may s stands (x ∷ xs) fit there = ((λ a i c d. read_access s stands x a i there.0 fit.0), expression_may s stands xs fit.1 there.1)

  -- The accesses that are tested before a statement with this expression mean where it stands what the source's table says.
  pub expression_read : (s : Scope) → Stands s → (x : Expr) → AllThere (expr_parts (moved_expr b.move x)) → AllFit Agreed no_error s (parts_of (moved_expr b.move x)).accesses → AllRead s.names (expression_tested b.site x)
  expression_read s stands x there fit =
      let xs = (parts_of x).accesses in
      behind_read (record { assigned = map b.site.names.meaning (parts_of x).assigned; declared = [] }) s.names [] xs
      (expression_may s stands xs (subst (AllFit Agreed no_error s) (accesses_moved b.move x) fit) (subst (AllKnown IsThere) (accesses_moved b.move x) (accesses_known IsThere (moved_expr b.move x) there)))

  moved_called : (name : Ident) (ds : List LocalDecl) → list_any (is_called (moved_name b.move name)) (map (moved_decl b.move) ds) ≡ list_any (is_called name) ds
  moved_called name [] = refl
  moved_called name (d ∷ ds) = ap (λ (c : Bool). is_called name d || c) (moved_called name ds)

  declaration_may : (s : Scope) → Stands s → (ds : List LocalDecl) (xs : List Access) → AllMayFit Agreed no_error s (map (moved_decl b.move) ds) (map (moved_access b.move) xs) → AllKnown IsThere (map (moved_access b.move) xs)
      → AllOf (MayRead ds s.names) xs
  declaration_may s stands ds [] fit there = tt
  declaration_may s stands ds (x ∷ xs) fit there =
      ((λ a i c d. read_access s stands x a i there.0 (fit.0 (moved_called x.array ds ∙ c) (moved_called x.index ds ∙ d))), declaration_may s stands ds xs fit.1 there.1)

  -- those before a declaration
  pub declaration_read : (s : Scope) → Stands s → (ds : List LocalDecl) → AllThere (together (parts.each parts.decl_parts (map (moved_decl b.move) ds)))
      → Said ((all_declared (declarators (map (moved_decl b.move) ds))).notes s) → AllRead s.names (declaration_tested b.site ds)
  declaration_read s stands ds there said =
      let xs = (all_decl_parts ds).accesses in
      let made = map (moved_decl b.move) ds in
      behind_read (record { assigned = map b.site.names.meaning (all_decl_parts ds).assigned; declared = ds }) s.names [] xs
      (declaration_may s stands ds xs (subst (AllMayFit Agreed no_error s made) (declared_moved b.move ds) (declaration_may_fit Agreed no_error made s stands.not_pending said))
      (subst (AllKnown IsThere) (declared_moved b.move ds) (declared_known IsThere made there)))
