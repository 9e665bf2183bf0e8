-- Tests add nothing that is limited.
use Rattle.std.proofs.Common.{◌≡◌, ℕ, ◌+◌, List, [], ◌∷◌, ◌++◌, map, Option, Some, None, refl, sym, ap, ap₂, subst, ◌∙◌, append_assoc, append-nil}
use Rattle.std.specs.Prelude.{if◌then◌else◌, nat_lt, length}
use Rattle.ix_text.specs.declared.span.Span.{Span}
use Rattle.ix_annot.specs.Named.{or_else}
use Rattle.ix_tree.specs.declared.annot.Annot.{Annot}
use Rattle.ix_tree.specs.declared.annot.Ident.{Ident}
use Rattle.ix_tree.specs.declared.decl.ClassDecl.{ClassDecl}
use Rattle.ix_tree.specs.declared.decl.Member.{Member}
use Rattle.ix_tree.specs.declared.decl.Member.TheVariants as member
use Rattle.ix_tree.specs.declared.decl.MethodDecl.{MethodDecl}
use Rattle.ix_tree.specs.declared.stmt.Stmt.{Stmt, Stmt-F, ind-Stmt, map-Stmt, roll-Stmt, fold-roll-Stmt}
use Rattle.ix_tree.specs.declared.stmt.StmtKind.{StmtKind, StmtKind-F, map-StmtKind, roll-StmtKind, fold-StmtKind, fold-roll-StmtKind}
use Rattle.ix_tree.specs.declared.stmt.StmtKind.TheVariants as s
use Rattle.ix_tree.proofs.FoldsOfForms as fold
use Rattle.ix_meaning.specs.declared.note.Which.TheVariants as which
use Rattle.ix_meaning.specs.Classes.{parents, supers}
use Rattle.ix_meaning.specs.Declarators as declared
use Rattle.ix_meaning.specs.Limits as limits
use Rattle.ix_meaning.specs.Limits.{Passed, passed, most_classes, most_methods, most_params, most_inherited, class_names, methods_of, all_methods, method_names, param_names, declared_annots, each_annots, together, stmt_annots, body_annots, result_annots, member_annots, all_annots, past_names, past_params, past_claims, past_inheritance, limit, inheritance_limit}
use Rattle.ix_guard.specs.Accesses.{Access}
use Rattle.ix_guard.specs.Tests.{Site}
use Rattle.ix_guard.specs.Trees as tree
use Rattle.ix_guard.specs.Trees.{Guarded, guarding, guarded_body, alone, in_list, in_block, each_in_list, statement, untested, with_tests, test_tree, test_trees, expression_tested, declaration_tested, returning}
use Rattle.std.proofs.lemmas.List.{map-append}
use Rattle.ix_guard_text.proofs.KeptWorlds.{guarded_members, guarded_classes, parents_kept, members_kept}

abbrev Annots : Type 0
Annots = List (List Annot)

-- ---- annotations of locals in a body

abbrev kind_annots : StmtKind → Annots
kind_annots = fold-StmtKind Annots Annots limits.stmt_kind_step (λ s. s.kind)

annots_of : (k : StmtKind) (p : Span) (l : Annots) → kind_annots k ≡ l → stmt_annots (statement k p) ≡ l
annots_of k p l e = fold.stmt_is limits.stmt_kind_step (λ s. s.kind) k p ∙ e

test_annots : (p : Span) (access : Access) → stmt_annots (test_tree p access) ≡ []
test_annots p access =
    annots_of _ p _ (fold.if_kind limits.stmt_kind_step (λ s. s.kind) _ _) ∙ ap (λ (l : Annots). l ++ []) (annots_of _ p _ (fold.throw_kind limits.stmt_kind_step (λ s. s.kind) _))

body_both : (xs ys : List Stmt) → body_annots (xs ++ ys) ≡ body_annots xs ++ body_annots ys
body_both [] ys = refl
body_both (x ∷ xs) ys = ap (λ (l : Annots). stmt_annots x ++ l) (body_both xs ys) ∙ sym (append_assoc (stmt_annots x) (body_annots xs) (body_annots ys))

body_together : (xs : List Stmt) → together (map stmt_annots xs) ≡ body_annots xs
body_together [] = refl
body_together (x ∷ xs) = ap (λ (l : Annots). stmt_annots x ++ l) (body_together xs)

tests_annots : (p : Span) (list : List Access) (itself : Stmt) → body_annots (test_trees p list ++ itself ∷ []) ≡ stmt_annots itself
tests_annots p [] itself = append-nil (stmt_annots itself)
tests_annots p (access ∷ rest) itself = ap (λ (l : Annots). l ++ body_annots (test_trees p rest ++ itself ∷ [])) (test_annots p access) ∙ tests_annots p rest itself

-- A statement with these annotations of locals is made into one with the same.
pub record SameAnnots (l : Annots) (made : Guarded) : Type 0 where
  pub itself : stmt_annots made.itself ≡ l
  pub alone : stmt_annots (alone made) ≡ l
  pub listed : body_annots (in_list made) ≡ l

untested_annots : (k : StmtKind) (p : Span) (l : Annots) → kind_annots k ≡ l → SameAnnots l (untested k p)
untested_annots k p l e = record { itself = annots_of k p l e; alone = annots_of k p l e; listed = append-nil (stmt_annots (statement k p)) ∙ annots_of k p l e }

wrapped_annots : (k : StmtKind) (p : Span) (list : List Access) (l : Annots) → kind_annots k ≡ l → stmt_annots (in_block (test_trees p list) (statement k p)) ≡ l
wrapped_annots k p [] l e = annots_of k p l e
wrapped_annots k p (access ∷ rest) l e =
    let body = test_trees p (access ∷ rest) ++ statement k p ∷ [] in
    annots_of (s.Block body) p _ (fold.block_kind limits.stmt_kind_step (λ s. s.kind) body) ∙ body_together body ∙ tests_annots p (access ∷ rest) (statement k p) ∙ annots_of k p l e

tested_annots : (k : StmtKind) (p : Span) (list : List Access) (l : Annots) → kind_annots k ≡ l → SameAnnots l (with_tests k p list)
tested_annots k p list l e =
    let around = wrapped_annots k p list l e in record { itself = annots_of k p l e; alone = around; listed = append-nil (stmt_annots (in_block (test_trees p list) (statement k p))) ∙ around }

module _ (site : Site) where
  abbrev kind_guarding : StmtKind → Span → Guarded
  kind_guarding = fold-StmtKind (Span → Guarded) Guarded (tree.kind_step site) tree.stmt_step

  abbrev KindIs : StmtKind → Type 0
  KindIs k = (p : Span) → SameAnnots (kind_annots k) (kind_guarding k p)

  abbrev StmtIs : Stmt → Type 0
  StmtIs x = SameAnnots (stmt_annots x) (guarding site x)

  module _ {K S : Type 0} (kind : K → StmtKind) (stmt : S → Stmt) (stmt_is : (x : S) → StmtIs (stmt x)) where
    abbrev made : S → Guarded
    made x = guarding site (stmt x)

    all_listed : (xs : List S) → together (map stmt_annots (each_in_list (map (guarding site) (map stmt xs)))) ≡ together (map stmt_annots (map stmt xs))
    all_listed [] = refl
    all_listed (x ∷ xs) =
        let first = in_list (made x) in
        let rest = each_in_list (map (guarding site) (map stmt xs)) in
        body_together (first ++ rest) ∙ body_both first rest ∙ ap₂ (λ (l : Annots) (m : Annots). l ++ m) (stmt_is x).listed (sym (body_together rest) ∙ all_listed xs)

    all_itself : (xs : List S) → together (map stmt_annots (map (λ (part : Guarded). part.itself) (map (guarding site) (map stmt xs)))) ≡ together (map stmt_annots (map stmt xs))
    all_itself [] = refl
    all_itself (x ∷ xs) = ap₂ (λ (l : Annots) (m : Annots). l ++ m) (stmt_is x).itself (all_itself xs)

    kind_layer : (y : StmtKind-F K S) (p : Span) → let layer = map-StmtKind K S StmtKind Stmt kind stmt y in
        SameAnnots (limits.stmt_kind_step (map-StmtKind StmtKind Stmt Annots Annots kind_annots stmt_annots layer))
        (tree.kind_step site (map-StmtKind StmtKind Stmt (Span → Guarded) Guarded kind_guarding (guarding site) layer) p)
    kind_layer (StmtKind-F.Block xs) p =
        let inner = each_in_list (map (guarding site) (map stmt xs)) in
        untested_annots (s.Block inner) p _ (fold.block_kind limits.stmt_kind_step (λ s. s.kind) inner ∙ all_listed xs)
    kind_layer StmtKind-F.Empty p = untested_annots s.Empty p _ (fold.empty_kind limits.stmt_kind_step (λ s. s.kind))
    kind_layer (StmtKind-F.Local ds) p =
        let h = annots_of (s.Local ds) p _ (fold.local_kind limits.stmt_kind_step (λ s. s.kind) ds) in
        record { itself = h; alone = h; listed = tests_annots p (declaration_tested site ds) (statement (s.Local ds) p) ∙ h }
    kind_layer (StmtKind-F.If c x None) p =
        tested_annots (s.If c (alone (made x)) None) p (expression_tested site c) _
        (fold.if_kind limits.stmt_kind_step (λ s. s.kind) c (alone (made x)) ∙ ap (λ (l : Annots). l ++ []) (stmt_is x).alone)
    kind_layer (StmtKind-F.If c x (Some y)) p =
        tested_annots (s.If c (alone (made x)) (Some (alone (made y)))) p (expression_tested site c) _
        (fold.if_else_kind limits.stmt_kind_step (λ s. s.kind) c (alone (made x)) (alone (made y)) ∙ ap₂ (λ (l : Annots) (m : Annots). l ++ m) (stmt_is x).alone (stmt_is y).alone)
    kind_layer (StmtKind-F.While c x) p =
        untested_annots (s.While c (alone (made x))) p _ (fold.while_kind limits.stmt_kind_step (λ s. s.kind) c (alone (made x)) ∙ (stmt_is x).alone)
    kind_layer (StmtKind-F.Do x c) p =
        untested_annots (s.Do (alone (made x)) c) p _ (fold.do_kind limits.stmt_kind_step (λ s. s.kind) (alone (made x)) c ∙ (stmt_is x).alone)
    kind_layer (StmtKind-F.For first c update x) p =
        let itself = map (λ (part : Guarded). part.itself) (map (guarding site) (map stmt first)) in
        untested_annots (s.For itself c update (alone (made x))) p _
        (fold.for_kind limits.stmt_kind_step (λ s. s.kind) itself c update (alone (made x)) ∙ ap₂ (λ (l : Annots) (m : Annots). l ++ m) (all_itself first) (stmt_is x).alone)
    kind_layer StmtKind-F.Break p = untested_annots s.Break p _ (fold.break_kind limits.stmt_kind_step (λ s. s.kind))
    kind_layer StmtKind-F.Continue p = untested_annots s.Continue p _ (fold.continue_kind limits.stmt_kind_step (λ s. s.kind))
    kind_layer (StmtKind-F.Return value) p = tested_annots (s.Return value) p (returning site value) _ (fold.return_kind limits.stmt_kind_step (λ s. s.kind) value)
    kind_layer (StmtKind-F.Throw thrown) p = untested_annots (s.Throw thrown) p _ (fold.throw_kind limits.stmt_kind_step (λ s. s.kind) thrown)
    kind_layer (StmtKind-F.Print value) p = tested_annots (s.Print value) p (expression_tested site value) _ (fold.print_kind limits.stmt_kind_step (λ s. s.kind) value)
    kind_layer (StmtKind-F.Run value) p = tested_annots (s.Run value) p (expression_tested site value) _ (fold.run_kind limits.stmt_kind_step (λ s. s.kind) value)

    kind_rolled : (y : StmtKind-F K S) → KindIs (roll-StmtKind (map-StmtKind K S StmtKind Stmt kind stmt y))
    kind_rolled y p =
        let layer = map-StmtKind K S StmtKind Stmt kind stmt y in
        let a = fold-roll-StmtKind Annots Annots limits.stmt_kind_step (λ s. s.kind) layer in
        let b = fold-roll-StmtKind (Span → Guarded) Guarded (tree.kind_step site) tree.stmt_step layer in
        subst (λ (l : Annots). SameAnnots l (kind_guarding (roll-StmtKind layer) p)) (sym a)
        (subst (λ (f : Span → Guarded). SameAnnots (limits.stmt_kind_step (map-StmtKind StmtKind Stmt Annots Annots kind_annots stmt_annots layer)) (f p)) (sym b) (kind_layer y p))

    stmt_rolled : ((k : K) → KindIs (kind k)) → (y : Stmt-F K S) → StmtIs (roll-Stmt (map-Stmt K S StmtKind Stmt kind stmt y))
    stmt_rolled kind_is y =
        let layer = map-Stmt K S StmtKind Stmt kind stmt y in
        let a = fold-roll-Stmt Annots Annots limits.stmt_kind_step (λ s. s.kind) layer in
        let b = fold-roll-Stmt (Span → Guarded) Guarded (tree.kind_step site) tree.stmt_step layer in
        subst (λ (l : Annots). SameAnnots l (guarding site (roll-Stmt layer))) (sym a) (subst (λ (g : Guarded). SameAnnots (kind_annots (kind y.kind)) g) (sym b) (kind_is y.kind y.span))

  statement_annots : (x : Stmt) → StmtIs x
  statement_annots = ind-Stmt KindIs StmtIs
      (λ x y e. subst (λ layer. KindIs (roll-StmtKind layer)) e (kind_rolled (λ k. k.0) (λ s. s.0) (λ s. s.1) y))
      (λ x y e. subst (λ layer. StmtIs (roll-Stmt layer)) e (stmt_rolled (λ k. k.0) (λ s. s.0) (λ s. s.1) (λ k. k.1) y))

  body_kept : (xs : List Stmt) → body_annots (guarded_body site xs) ≡ body_annots xs
  body_kept [] = refl
  body_kept (x ∷ xs) = body_both (in_list (guarding site x)) (guarded_body site xs) ∙ ap₂ (λ (l : Annots) (m : Annots). l ++ m) (statement_annots x).listed (body_kept xs)

  -- ---- members and classes

  member_annots_kept : (ms : List Member) → member_annots (guarded_members site ms) ≡ member_annots ms
  member_annots_kept [] = refl
  member_annots_kept (member.Field d ∷ ms) = ap (λ (l : Annots). declared_annots d ∷ l) (member_annots_kept ms)
  member_annots_kept (member.Method m ∷ ms) =
      ap₂ (λ (l : Annots) (rest : Annots). (m.mods.annots ++ result_annots m.result) ∷ (each_annots m.params ++ (l ++ rest))) (body_kept m.body) (member_annots_kept ms)

  all_annots_kept : (ks : List ClassDecl) → all_annots (guarded_classes site ks) ≡ all_annots ks
  all_annots_kept [] = refl
  all_annots_kept (k ∷ ks) = ap₂ (λ (l : Annots) (m : Annots). l ++ m) (ap member_annots (members_kept site k.members) ∙ member_annots_kept (declared.members k.members)) (all_annots_kept ks)

  class_names_kept : (ks : List ClassDecl) → class_names (guarded_classes site ks) ≡ class_names ks
  class_names_kept [] = refl
  class_names_kept (k ∷ ks) = ap (λ (l : List Ident). k.name ∷ l) (class_names_kept ks)

  abbrev guarded_method : MethodDecl → MethodDecl
  guarded_method m = record m { body = guarded_body site m.body }

  methods_of_kept : (ms : List Member) → methods_of (guarded_members site ms) ≡ map guarded_method (methods_of ms)
  methods_of_kept [] = refl
  methods_of_kept (member.Field d ∷ ms) = methods_of_kept ms
  methods_of_kept (member.Method m ∷ ms) = ap (λ (l : List MethodDecl). guarded_method m ∷ l) (methods_of_kept ms)

  all_methods_kept : (ks : List ClassDecl) → all_methods (guarded_classes site ks) ≡ map guarded_method (all_methods ks)
  all_methods_kept [] = refl
  all_methods_kept (k ∷ ks) =
      ap₂ (λ (l : List MethodDecl) (m : List MethodDecl). l ++ m) (methods_of_kept k.members) (all_methods_kept ks) ∙ sym (map-append guarded_method (methods_of k.members) (all_methods ks))

  method_names_kept : (ms : List MethodDecl) → method_names (map guarded_method ms) ≡ method_names ms
  method_names_kept [] = refl
  method_names_kept (m ∷ ms) = ap (λ (l : List Ident). m.name ∷ l) (method_names_kept ms)

  past_params_kept : (ms : List MethodDecl) → past_params (map guarded_method ms) ≡ past_params ms
  past_params_kept [] = refl
  past_params_kept (m ∷ ms) = ap (λ (o : Option Passed). or_else (past_names which.Parameters most_params (param_names m.params)) o) (past_params_kept ms)

  -- ---- limits

  abbrev limit_of : List Ident → List Ident → Option Passed → Annots → Option Passed
  limit_of classes methods params annots = or_else (past_names which.Classes most_classes classes) (or_else (past_names which.Methods most_methods methods) (or_else params (past_claims annots)))

  pub limit_kept : (ks : List ClassDecl) → limit (guarded_classes site ks) ≡ limit ks
  limit_kept ks =
      let made = guarded_classes site ks in
      ap₂ (λ (names : List Ident) (methods : List MethodDecl). limit_of names (method_names methods) (past_params methods) (all_annots made)) (class_names_kept ks) (all_methods_kept ks)
      ∙ ap₂ (λ (names : List Ident) (params : Option Passed). limit_of (class_names ks) names params (all_annots made)) (method_names_kept (all_methods ks)) (past_params_kept (all_methods ks))
      ∙ ap (λ (annots : Annots). limit_of (class_names ks) (method_names (all_methods ks)) (past_params (all_methods ks)) annots) (all_annots_kept ks)

  past_inheritance_kept : (ps : List (Option ℕ)) (c : ℕ) (ks : List ClassDecl) → past_inheritance ps c (guarded_classes site ks) ≡ past_inheritance ps c ks
  past_inheritance_kept ps c [] = refl
  past_inheritance_kept ps c (k ∷ ks) =
      ap (λ (o : Option Passed). if nat_lt most_inherited (1 + length (supers ps c)) then Some (passed which.Inheritance k.name) else o) (past_inheritance_kept ps (c + 1) ks)

  pub inheritance_limit_kept : (ks : List ClassDecl) → inheritance_limit (guarded_classes site ks) ≡ inheritance_limit ks
  inheritance_limit_kept ks = ap (λ (ps : List (Option ℕ)). past_inheritance ps 0 (guarded_classes site ks)) (parents_kept site ks) ∙ past_inheritance_kept (parents ks) 0 ks
