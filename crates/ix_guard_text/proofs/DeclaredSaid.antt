-- What is so of all notes of a declaration of locals is so, where the declaration stands, of those of the names of its accesses that it doesn't declare.
use Rattle.std.proofs.Common.{◌≡◌, ℕ, Bool, true, false, List, [], ◌∷◌, ◌++◌, map, Option, Some, None, refl, sym, ap, subst, ◌∙◌}
use Rattle.std.specs.Prelude.{if◌then◌else◌, ◌||◌, bytes_eq}
use Rattle.std.specs.List.{list_any}
use Rattle.std.proofs.lemmas.Bool.{false≢true}
use Rattle.ix_core.specs.declared.claim.Type_.{Type_}
use Rattle.ix_tree.specs.declared.annot.Ident.{Ident}
use Rattle.ix_tree.specs.declared.decl.LocalDecl.{LocalDecl}
use Rattle.ix_tree.specs.declared.expr.Init.{Init}
use Rattle.ix_meaning.specs.declared.note.NameError.{NameError}
use Rattle.ix_meaning.specs.declared.note.Note.{Note}
use Rattle.ix_meaning.specs.declared.note.Note.TheVariants.{Wrong}
use Rattle.ix_meaning.specs.Annotated.{of_variable}
use Rattle.ix_meaning.specs.Bodies as bodies
use Rattle.ix_meaning.specs.Bodies.{all_declared, declared, after, init_notes, local_known, local_declaration, pending}
use Rattle.ix_meaning.specs.Declarators.{further, declarators}
use Rattle.ix_meaning.specs.Members.{World}
use Rattle.ix_meaning.specs.Rules as rules
use Rattle.ix_meaning.specs.Scope.{Scope, Known, meant, is_pending}
use Rattle.ix_meaning.specs.Types.{int, of, Judged, judged}
use Rattle.ix_meaning.specs.Values as values
use Rattle.ix_formed.specs.Additions.{AllOf}
use Rattle.ix_formed.proofs.EachMember.{said_parts}
use Rattle.ix_guard.specs.Accesses.{Access, Parts, both, maybe, decl_parts, all_decl_parts}
use Rattle.ix_guard.specs.Tests.{is_called}
use Rattle.ix_guard_text.proofs.AccessesSaid.{Fits, AllFit, initialiser_finds}

module _ (So : Note → Type 0) (no_error : (error : NameError) → So (Wrong error) → ⊥) where
  abbrev Said : List Note → Type 0
  Said notes = AllOf So notes

  abbrev IsFit : Scope → Access → Type 0
  IsFit s access = Fits So no_error s access

  abbrev AllAreFit : Scope → List Access → Type 0
  AllAreFit s list = AllFit So no_error s list

  -- ---- names that aren't declared

  either_false : (a b : Bool) → (a || b) ≡ false → (a ≡ false) × (b ≡ false)
  either_false true b e = absurd (false≢true (sym e))
  either_false false b e = (refl, e)

  meant_behind : (text : List ℕ) (names : List Known) (k : Known) → bytes_eq k.name text ≡ false → meant text (names ++ k ∷ []) ≡ meant text names
  meant_behind text [] k e = ap (λ b. if b then Some k else None) e
  meant_behind text (x ∷ names) k e = ap (λ (o : Option Known). if bytes_eq x.name text then Some x else o) (meant_behind text names k e)

  -- in a scope in which the names of an access mean what they do in another
  fits_as : (s z : Scope) (access : Access) → z.world ≡ s.world → values.variable z false access.array ≡ values.variable s false access.array → values.variable z false access.index ≡ values.variable s false access.index
      → IsFit z access → IsFit s access
  fits_as s z access w a i f = record {
    array = subst (λ (j : Judged). Said j.notes) a f.array;
    is_array = subst (λ (j : Judged). Said (values.no_array j.ty access.array.span)) a f.is_array;
    index = subst (λ (j : Judged). Said j.notes) i f.index;
    is_int = subst (λ (x : World). Said (rules.type_mismatch x (of int) (values.variable s false access.index).ty access.index.span)) w
        (subst (λ (j : Judged). Said (rules.type_mismatch z.world (of int) j.ty access.index.span)) i f.is_int);
  }

  -- in the initialiser of a local of another name
  in_initialiser : (s : Scope) (d : LocalDecl) (name : Ident) → s.pending ≡ None → is_called name d ≡ false → values.variable (pending d s) false name ≡ values.variable s false name
  in_initialiser s d name o e =
      let j = values.known_or s false name (meant name.text s.names) in
      let unknown = judged None (rules.unknown_name name.span) in
      ap (λ (b : Bool). if b then unknown else j) e ∙ sym (ap (λ (p : Option (List ℕ)). if is_pending p name.text then unknown else j) o)

  -- behind the declaration of a local of another name
  behind_local : (s : Scope) (d : LocalDecl) (name : Ident) → is_called name d ≡ false → values.variable (after (declared d) s) false name ≡ values.variable s false name
  behind_local s d name e =
      ap (λ (k : Option Known). if is_pending s.pending name.text then judged None (rules.unknown_name name.span) else values.known_or s false name k) (taken_or_not (bodies.is_taken s d.name))
    where
      taken_or_not : (b : Bool) → meant name.text (if b then s.names else s.names ++ local_known d s (local_declaration d s).ty ∷ []) ≡ meant name.text s.names
      taken_or_not true = refl
      taken_or_not false = meant_behind name.text s.names (local_known d s (local_declaration d s).ty) e

  -- ---- the accesses of declarations

  -- an access on names that aren't declared is one of an array at an int
  abbrev pub MayFit : Scope → List LocalDecl → Access → Type 0
  MayFit s decls access = list_any (is_called access.array) decls ≡ false → list_any (is_called access.index) decls ≡ false → IsFit s access

  abbrev pub AllMayFit : Scope → List LocalDecl → List Access → Type 0
  AllMayFit s decls list = AllOf (MayFit s decls) list

  may_both : (s : Scope) (decls : List LocalDecl) (xs ys : List Access) → AllMayFit s decls xs → AllMayFit s decls ys → AllMayFit s decls (xs ++ ys)
  may_both s decls [] ys a b = b
  may_both s decls (x ∷ xs) ys a b = (a.0, may_both s decls xs ys a.1 b)

  in_own : (s : Scope) (d : LocalDecl) (ds : List LocalDecl) → s.pending ≡ None → (xs : List Access) → AllAreFit (pending d s) xs → AllMayFit s (d ∷ ds) xs
  in_own s d ds o [] f = tt
  in_own s d ds o (x ∷ xs) f = (
    (λ a i. fits_as s (pending d s) x refl (in_initialiser s d x.array o (either_false (is_called x.array d) (list_any (is_called x.array) ds) a).0)
        (in_initialiser s d x.index o (either_false (is_called x.index d) (list_any (is_called x.index) ds) i).0) f.0),
    in_own s d ds o xs f.1,
  )

  in_later : (s : Scope) (d : LocalDecl) (ds : List LocalDecl) (xs : List Access) → AllMayFit (after (declared d) s) ds xs → AllMayFit s (d ∷ ds) xs
  in_later s d ds [] f = tt
  in_later s d ds (x ∷ xs) f = (
    (λ a i.
        let first = either_false (is_called x.array d) (list_any (is_called x.array) ds) a in
        let second = either_false (is_called x.index d) (list_any (is_called x.index) ds) i in
        fits_as s (after (declared d) s) x refl (behind_local s d x.array first.0) (behind_local s d x.index second.0) (f.0 first.1 second.1)),
    in_later s d ds xs f.1,
  )

  init_fit : (init : Option Init) (s : Scope) (ty : Option Type_) → Said (init_notes init s ty) → AllAreFit s (maybe init).accesses
  init_fit None s ty c = tt
  init_fit (Some init) s ty c = initialiser_finds So no_error init s ty c

  decls_fit : (ds : List LocalDecl) (s : Scope) → s.pending ≡ None → Said ((all_declared ds).notes s) → AllMayFit s ds (all_decl_parts ds).accesses
  decls_fit [] s o c = tt
  decls_fit (d ∷ ds) s o c =
      let parts = said_parts So ((declared d).notes s) ((all_declared ds).notes (after (declared d) s)) c in
      let l = local_declaration d s in
      let declares = bodies.declares_note d.name.span l.ty (of_variable l.claims) in
      let taken = rules.duplicate_name (bodies.is_taken s d.name) d.name.span in
      let init = init_notes d.init (pending d s) l.ty in
      let said = (said_parts So declares init (said_parts So taken (declares ++ init) (said_parts So l.notes (taken ++ (declares ++ init)) parts.0).1).1).1 in
      may_both s (d ∷ ds) (decl_parts d).accesses (all_decl_parts ds).accesses (in_own s d ds o (decl_parts d).accesses (init_fit d.init (pending d s) l.ty said))
      (in_later s d ds (all_decl_parts ds).accesses (decls_fit ds (after (declared d) s) o parts.1))

  -- further declarators have other annotations alone
  further_parts : (first : LocalDecl) (ds : List LocalDecl) → all_decl_parts (map (further first) ds) ≡ all_decl_parts ds
  further_parts first [] = refl
  further_parts first (d ∷ ds) = ap (λ (p : Parts). both (decl_parts d) p) (further_parts first ds)

  further_called : (name : Ident) (first : LocalDecl) (ds : List LocalDecl) → list_any (is_called name) (map (further first) ds) ≡ list_any (is_called name) ds
  further_called name first [] = refl
  further_called name first (d ∷ ds) = ap (λ (b : Bool). is_called name d || b) (further_called name first ds)

  declarator_parts : (ds : List LocalDecl) → all_decl_parts (declarators ds) ≡ all_decl_parts ds
  declarator_parts [] = refl
  declarator_parts (d ∷ ds) = ap (λ (p : Parts). both (decl_parts d) p) (further_parts d ds)

  declarator_called : (name : Ident) (ds : List LocalDecl) → list_any (is_called name) (declarators ds) ≡ list_any (is_called name) ds
  declarator_called name [] = refl
  declarator_called name (d ∷ ds) = ap (λ (b : Bool). is_called name d || b) (further_called name d ds)

  as_declarators : (s : Scope) (ds : List LocalDecl) (xs : List Access) → AllMayFit s (declarators ds) xs → AllMayFit s ds xs
  as_declarators s ds [] f = tt
  as_declarators s ds (x ∷ xs) f = ((λ a i. f.0 (declarator_called x.array ds ∙ a) (declarator_called x.index ds ∙ i)), as_declarators s ds xs f.1)

  -- The accesses of a declaration fit where it stands.
  pub declaration_may_fit : (ds : List LocalDecl) (s : Scope) → s.pending ≡ None → Said ((all_declared (declarators ds)).notes s) → AllMayFit s ds (all_decl_parts ds).accesses
  declaration_may_fit ds s o said = as_declarators s ds (all_decl_parts ds).accesses (subst (λ (p : Parts). AllMayFit s (declarators ds) p.accesses) (declarator_parts ds) (decls_fit (declarators ds) s o said))
