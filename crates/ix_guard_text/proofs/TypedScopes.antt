-- Where no note is an error, each parameter and local in scope has a type, and each field means something that is no variable.
use Rattle.std.proofs.Common.{◌≡◌, ℕ, ◌+◌, Bool, true, false, List, [], ◌∷◌, ◌++◌, map, Option, Some, None, refl, sym, subst}
use Rattle.std.specs.Prelude.{if◌then◌else◌, ◌==◌, ◌&&◌, not, is_some, option_map, bytes_eq, ℤ}
use Rattle.std.proofs.lemmas.Bool.{false≢true}
use Rattle.ix_text.specs.declared.span.Span.{Span}
use Rattle.ix_core.specs.declared.claim.Claim.{Claim}
use Rattle.ix_core.specs.declared.claim.Type_.{Type_}
use Rattle.ix_tree.specs.declared.decl.ClassDecl.{ClassDecl}
use Rattle.ix_tree.specs.declared.decl.LocalDecl.{LocalDecl}
use Rattle.ix_tree.specs.declared.decl.Member.{Member}
use Rattle.ix_tree.specs.declared.decl.Member.TheVariants as member
use Rattle.ix_tree.specs.declared.stmt.Stmt.{Stmt, Stmt-F, ind-Stmt, map-Stmt, roll-Stmt, fold-roll-Stmt}
use Rattle.ix_tree.specs.declared.stmt.StmtKind.{StmtKind, StmtKind-F, map-StmtKind, roll-StmtKind, fold-roll-StmtKind}
use Rattle.ix_meaning.specs.declared.members.Field.{Field}
use Rattle.ix_meaning.specs.declared.members.Signature.{Signature}
use Rattle.ix_meaning.specs.declared.note.Meaning.{Meaning}
use Rattle.ix_meaning.specs.declared.note.Meaning.TheVariants.{FieldNamed, Constant}
use Rattle.ix_meaning.specs.declared.note.NameError.{NameError}
use Rattle.ix_meaning.specs.declared.note.Note.{Note}
use Rattle.ix_meaning.specs.declared.note.Note.TheVariants.{Wrong}
use Rattle.ix_meaning.specs.declared.note.Rule.TheVariants as rule
use Rattle.ix_meaning.specs.Annotated.{written, element_claims, target_before, of_variable}
use Rattle.ix_meaning.specs.Bodies as bodies
use Rattle.ix_meaning.specs.Bodies.{Telling, telling, kind_telling, all_told, all_declared, after, inside, then_told, looped, noted_then, then_noted}
use Rattle.ix_meaning.specs.Classes.{parents}
use Rattle.ix_meaning.specs.Declarators as declarators
use Rattle.ix_meaning.specs.Members as members
use Rattle.ix_meaning.specs.Members.{World, world, constant}
use Rattle.ix_meaning.specs.Rules.{duplicate_name}
use Rattle.ix_meaning.specs.Scope.{Scope, Known}
use Rattle.ix_meaning.specs.Source as source
use Rattle.ix_meaning.specs.Source.{Place, place, notes}
use Rattle.ix_meaning.specs.Types.{wrong_if}
use Rattle.ix_formed.specs.Additions.{AllOf}
use Rattle.ix_formed.specs.NoErrors.{AllSay, ClassesSay}
use Rattle.ix_formed.proofs.EachMember.{said_parts, not_broken, type_known, classes_say}
use Rattle.ix_formed.proofs.NumberLists.{all_joined}
use Rattle.ix_guard.specs.Tests.{is_variable}

-- it has a type
abbrev pub IsTyped : Known → Type 0
IsTyped k = (ty : Type_) × (k.ty ≡ Some ty)

abbrev pub AllTyped : List Known → Type 0
AllTyped names = AllOf IsTyped names

-- It means a field or a constant.
abbrev pub IsNoVariable : Field → Type 0
IsNoVariable f = (m : Meaning) × (f.meaning ≡ Some m) × (is_variable (Some m) ≡ false)

-- no field of that world means a variable
abbrev pub NoFieldVariable : World → Type 0
NoFieldVariable w = (c : ℕ) (name : List ℕ) (f : Field) → w.field c name ≡ Some f → IsNoVariable f

module _ (So : Note → Type 0) (no_error : (error : NameError) → So (Wrong error) → ⊥) where
  abbrev Said : List Note → Type 0
  Said notes = AllOf So notes

  -- ---- statements

  -- It leaves names that have types.
  abbrev pub LeavesTyped : Telling → Type 0
  LeavesTyped t = (s : Scope) → AllTyped s.names → Said (t.notes s) → AllTyped (t.names s)

  declared_leaves : (d : LocalDecl) → LeavesTyped (bodies.declared d)
  declared_leaves d s typed said = taken_or_not (bodies.is_taken s d.name)
    where
      claims : List Claim
      claims = element_claims (target_before d.ty) d.mods.annots

      has_type : (ty : Type_) × ((written s.world.class d.ty claims).ty ≡ Some ty)
      has_type =
          let l = bodies.local_declaration d s in
          let own = (said_parts So l.notes _ said).0 in
          type_known So no_error s.world.class d.ty claims (said_parts So (written s.world.class d.ty []).notes _ own).0

      taken_or_not : (b : Bool) → AllTyped (if b then s.names else s.names ++ bodies.local_known d s (bodies.local_declaration d s).ty ∷ [])
      taken_or_not true = typed
      taken_or_not false = all_joined IsTyped s.names (bodies.local_known d s (bodies.local_declaration d s).ty ∷ []) typed (has_type, tt)

  then_leaves : (t u : Telling) → LeavesTyped t → LeavesTyped u → LeavesTyped (then_told t u)
  then_leaves t u a b s typed said = let parts = said_parts So (t.notes s) (u.notes (after t s)) said in b (after t s) (a s typed parts.0) parts.1

  all_declared_leave : (ds : List LocalDecl) → LeavesTyped (all_declared ds)
  all_declared_leave [] s typed said = typed
  all_declared_leave (d ∷ ds) s typed said = then_leaves (bodies.declared d) (all_declared ds) (declared_leaves d) (all_declared_leave ds) s typed said

  looped_leaves : (t : Telling) → LeavesTyped t → LeavesTyped (looped t)
  looped_leaves t a s typed said = a (inside s) typed said

  noted_leaves : (f : Scope → List Note) (t : Telling) → LeavesTyped t → LeavesTyped (noted_then f t)
  noted_leaves f t a s typed said = a s typed (said_parts So (f s) (t.notes s) said).1

  leaves_noted : (t : Telling) (f : Scope → List Note) → LeavesTyped t → LeavesTyped (then_noted t f)
  leaves_noted t f a s typed said = a s typed (said_parts So (t.notes s) (f (after t s)) said).0

  abbrev KindIs : StmtKind → Type 0
  KindIs k = (p : Span) → LeavesTyped (kind_telling k p)

  abbrev StmtIs : Stmt → Type 0
  StmtIs x = LeavesTyped (telling x)

  module _ {K S : Type 0} (kind : K → StmtKind) (stmt : S → Stmt) (stmt_is : (x : S) → StmtIs (stmt x)) where
    kind_layer : (y : StmtKind-F K S) (p : Span) → LeavesTyped (bodies.stmt_kind_step (map-StmtKind StmtKind Stmt (Span → Telling) Telling kind_telling telling (map-StmtKind K S StmtKind Stmt kind stmt y)) p)
    kind_layer (StmtKind-F.Block xs) p s typed said = typed
    kind_layer StmtKind-F.Empty p s typed said = typed
    kind_layer (StmtKind-F.Local ds) p s typed said = all_declared_leave (declarators.declarators ds) s typed said
    kind_layer (StmtKind-F.If c x None) p s typed said = noted_leaves (bodies.condition c) (telling (stmt x)) (stmt_is x) s typed said
    kind_layer (StmtKind-F.If c x (Some y)) p s typed said =
        noted_leaves (bodies.condition c) (then_told (telling (stmt x)) (telling (stmt y))) (then_leaves (telling (stmt x)) (telling (stmt y)) (stmt_is x) (stmt_is y)) s typed said
    kind_layer (StmtKind-F.While c x) p s typed said = noted_leaves (bodies.condition c) (looped (telling (stmt x))) (looped_leaves (telling (stmt x)) (stmt_is x)) s typed said
    kind_layer (StmtKind-F.Do x c) p s typed said = leaves_noted (looped (telling (stmt x))) (bodies.condition c) (looped_leaves (telling (stmt x)) (stmt_is x)) s typed said
    kind_layer (StmtKind-F.For first c update x) p s typed said = typed
    kind_layer StmtKind-F.Break p s typed said = typed
    kind_layer StmtKind-F.Continue p s typed said = typed
    kind_layer (StmtKind-F.Return value) p s typed said = typed
    kind_layer (StmtKind-F.Throw name) p s typed said = typed
    kind_layer (StmtKind-F.Print value) p s typed said = typed
    kind_layer (StmtKind-F.Run value) p s typed said = typed

    kind_rolled : (y : StmtKind-F K S) → KindIs (roll-StmtKind (map-StmtKind K S StmtKind Stmt kind stmt y))
    kind_rolled y =
        let layer = map-StmtKind K S StmtKind Stmt kind stmt y in
        let a = fold-roll-StmtKind (Span → Telling) Telling bodies.stmt_kind_step bodies.stmt_step layer in subst (λ (t : Span → Telling). (p : Span) → LeavesTyped (t p)) (sym a) (kind_layer y)

    stmt_rolled : ((k : K) → KindIs (kind k)) → (y : Stmt-F K S) → StmtIs (roll-Stmt (map-Stmt K S StmtKind Stmt kind stmt y))
    stmt_rolled kind_is y =
        let layer = map-Stmt K S StmtKind Stmt kind stmt y in
        let a = fold-roll-Stmt (Span → Telling) Telling bodies.stmt_kind_step bodies.stmt_step layer in subst LeavesTyped (sym a) (kind_is y.kind y.span)

  pub statement_leaves : (x : Stmt) → LeavesTyped (telling x)
  statement_leaves = ind-Stmt KindIs StmtIs
      (λ x y e. subst (λ layer. KindIs (roll-StmtKind layer)) e (kind_rolled (λ k. k.0) (λ s. s.0) (λ s. s.1) y))
      (λ x y e. subst (λ layer. StmtIs (roll-Stmt layer)) e (stmt_rolled (λ k. k.0) (λ s. s.0) (λ s. s.1) (λ k. k.1) y))

  pub statements_leave : (xs : List Stmt) → LeavesTyped (all_told (map telling xs))
  statements_leave [] s typed said = typed
  statements_leave (x ∷ xs) s typed said = then_leaves (telling x) (all_told (map telling xs)) (statement_leaves x) (statements_leave xs) s typed said

  -- ---- parameters

  pub params_typed : (l : Place) (s : Scope) (before : List LocalDecl) (k : ℕ) (ds : List LocalDecl) → Said (source.param_notes l s before k ds) → AllTyped (source.params_from l k ds)
  params_typed l s before k [] said = tt
  params_typed l s before k (d ∷ ds) said =
      let claims = element_claims (target_before d.ty) d.mods.annots in
      let own = source.param_declaration l s k d in
      let a = said_parts So (duplicate_name (source.is_named_in before d.name.text) d.name.span) _ said in
      let b = said_parts So own.notes _ a.1 in
      let c = said_parts So (bodies.declares_note d.name.span own.ty (of_variable own.claims)) _ b.1 in
      let w = (said_parts So (written l.world.class d.ty []).notes _ b.0).0 in (type_known So no_error l.world.class d.ty claims w, params_typed l s (before ++ d ∷ []) (k + 1) ds c.1)

  -- ---- fields

  field_means : (l : Place) (c next : ℕ) (d : LocalDecl) → Said (source.field_notes l (members.field_of l.world.class c next d) d) → IsNoVariable (members.field_of l.world.class c next d)
  field_means l c next d said =
      let f = members.field_of l.world.class c next d in
      let fine = not_broken So no_error (source.is_refused f) rule.NotStatic d.name.span (said_parts So (wrong_if (source.is_refused f) rule.NotStatic d.name.span) _ said).0 in
      by d.mods.is_static (constant d) fine
    where
      by : (b : Bool) (o : Option ℤ) → (b && not (is_some (if b then option_map (λ n. Constant n) o else Some (FieldNamed next)))) ≡ false
          → (m : Meaning) × ((if b then option_map (λ n. Constant n) o else Some (FieldNamed next)) ≡ Some m) × (is_variable (Some m) ≡ false)
      by true None fine = absurd (false≢true (sym fine))
      by true (Some n) fine = (Constant n, refl, refl)
      by false o fine = (FieldNamed next, refl, refl)

  fields_in_mean : (l : Place) (named : List ℕ → Option ℕ) (i next : ℕ) (ms : List Member) → AllSay So l named i next ms → AllOf IsNoVariable (members.fields_in l.world.class l.class next ms)
  fields_in_mean l named i next [] said = tt
  fields_in_mean l named i next (member.Method m ∷ ms) said = fields_in_mean l named (i + 1) next ms said.2
  fields_in_mean l named i next (member.Field d ∷ ms) said = (field_means l l.class next d said.1, fields_in_mean l named (i + 1) (members.next_field next d) ms said.2)

  fields_from_mean : (w : World) (ps : List (Option ℕ)) (ss : List Signature) (c next : ℕ) (ks : List ClassDecl) → ClassesSay So w ps ss c next ks → AllOf IsNoVariable (members.fields_from w.class c next ks)
  fields_from_mean w ps ss c next [] said = tt
  fields_from_mean w ps ss c next (k ∷ ks) said =
      all_joined IsNoVariable (members.fields_in w.class c next (declarators.members k.members)) (members.fields_from w.class (c + 1) (members.next_fields next k.members) ks)
      (fields_in_mean (place w ss c k) (source.member_named k.members) 0 next (declarators.members k.members) said.0.fields) (fields_from_mean w ps ss (c + 1) (members.next_fields next k.members) ks said.1)

  pub fields_mean : (ks : List ClassDecl) → Said (notes ks) → NoFieldVariable (world ks)
  fields_mean ks said c name =
      among (members.fields ks) (fields_from_mean (world ks) (parents ks) (members.methods ks) 0 0 ks (classes_say So (world ks) (parents ks) (members.methods ks) 0 0 ks said))
    where
      among : (fs : List Field) → AllOf IsNoVariable fs → (f : Field) → members.own_field fs c name ≡ Some f → IsNoVariable f
      among [] all f e = absurd cc
      among (g ∷ fs) all f e = here (g.class == c && bytes_eq g.name name) (among fs all.1 f) e
        where
          here : (b : Bool) → (members.own_field fs c name ≡ Some f → IsNoVariable f) → (if b then Some g else members.own_field fs c name) ≡ Some f → IsNoVariable f
          here true rest e = let same : g ≡ f = cc in subst IsNoVariable same all.0
          here false rest e = rest e
