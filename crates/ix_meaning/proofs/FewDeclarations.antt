-- A source in which names can be looked up by places declares little: its parts count each declaration.
use Rattle.std.specs.List.{All}
use Rattle.std.proofs.lemmas.List.Elements.{All-nil, All-cons}
use Rattle.std.proofs.Common.{◌≡◌, ◌≤◌, ◌<◌, ◌^◌, ℕ, ◌+◌, List, [], ◌∷◌, ◌++◌, map, length, Option, Some, None, refl, subst, arith}
use Rattle.ix_text.specs.declared.span.Span.{Span}
use Rattle.ix_tree.specs.declared.decl.LocalDecl.{LocalDecl}
use Rattle.ix_tree.specs.declared.annot.Ident.{Ident}
use Rattle.ix_tree.specs.declared.decl.ClassDecl.{ClassDecl}
use Rattle.ix_tree.specs.declared.decl.MethodDecl.{MethodDecl}
use Rattle.ix_tree.specs.declared.decl.Member.{Member}
use Rattle.ix_tree.specs.declared.decl.Member.TheVariants.{Field, Method}
use Rattle.ix_tree.specs.declared.decl.Unit.{Unit as Source}
use Rattle.ix_tree.specs.declared.stmt.Stmt.{Stmt, Stmt-F, ind-Stmt, map-Stmt, roll-Stmt, fold-roll-Stmt}
use Rattle.ix_tree.specs.declared.stmt.StmtKind.{StmtKind, StmtKind-F, map-StmtKind, roll-StmtKind, fold-StmtKind, fold-roll-StmtKind}
use Rattle.ix_tree.specs.Parts as parts
use Rattle.ix_tree.specs.Parts.{Part, expression, statement, declaration, in_type, elsewhere, entries, declarations, together, listed, each, maybe, most_entries, mods_parts, type_parts, args_parts, expr_parts, decl_parts, stmt_parts, method_parts, member_parts, other_name, class_parts, CanResolve}
use Rattle.ix_meaning.specs.Source.{members_in}
use Rattle.ix_meaning.specs.Few.{DeclaresFew, DeclaresFewInClass}
use Rattle.ix_meaning.proofs.DeclaratorNumbers.{declarators_number}
use Rattle.ix_meaning.specs.Bodies as bodies
use Rattle.ix_meaning.specs.Bodies.{Telling, telling, kind_telling, all_told, all_declared}

declared_append : (xs ys : List Part) → declarations (xs ++ ys) ≡ declarations xs + declarations ys
declared_append [] ys = omega arith
declared_append (expression span ∷ xs) ys = declared_append xs ys
declared_append (statement span ∷ xs) ys = declared_append xs ys
declared_append (declaration ∷ xs) ys = let e = declared_append xs ys in omega (arith, e)
declared_append (in_type name ∷ xs) ys = declared_append xs ys
declared_append (elsewhere name ∷ xs) ys = declared_append xs ys
declared_append (entries n ∷ xs) ys = declared_append xs ys

-- ---- locals

abbrev kind_parts : StmtKind → List Part
kind_parts = fold-StmtKind (List Part) (List Part) parts.stmt_kind_step parts.stmt_step

abbrev FewInStmt : Stmt → Type 0
FewInStmt s = (telling s).declares ≤ declarations (stmt_parts s)

abbrev FewInKind : StmtKind → Type 0
FewInKind k = (p : Span) → (kind_telling k p).declares ≤ declarations (kind_parts k)

few_declared : (ds : List LocalDecl) → (all_declared ds).declares ≤ declarations (together (each decl_parts ds))
few_declared [] = omega arith
few_declared (d ∷ ds) = let e = few_declared ds in let a = declared_append (decl_parts d) (together (each decl_parts ds)) in omega (arith, e, a)

module _ {K S : Type 0} (kind : K → StmtKind) (stmt : S → Stmt) (few_stmt : (s : S) → FewInStmt (stmt s)) where
  few_in_all : (ss : List S) → (all_told (map telling (map stmt ss))).declares ≤ declarations (together (map stmt_parts (map stmt ss)))
  few_in_all [] = omega arith
  few_in_all (s ∷ ss) =
      let a = declared_append (stmt_parts (stmt s)) (together (map stmt_parts (map stmt ss))) in
      omega (arith, few_stmt s, few_in_all ss, a)

  few_in_layer : (y : StmtKind-F K S) (p : Span)
      → (bodies.stmt_kind_step (map-StmtKind StmtKind Stmt (Span → Telling) Telling kind_telling telling (map-StmtKind K S StmtKind Stmt kind stmt y)) p).declares
      ≤ declarations (parts.stmt_kind_step (map-StmtKind StmtKind Stmt (List Part) (List Part) kind_parts stmt_parts (map-StmtKind K S StmtKind Stmt kind stmt y)))
  few_in_layer (StmtKind-F.Block ss) p = few_in_all ss
  few_in_layer StmtKind-F.Empty p = omega arith
  few_in_layer (StmtKind-F.Local ds) p = let e = declarators_number ds in omega (arith, e, few_declared ds)
  few_in_layer (StmtKind-F.If c t None) p = let a = declared_append (expr_parts c) (stmt_parts (stmt t)) in omega (arith, few_stmt t, a)
  few_in_layer (StmtKind-F.If c t (Some u)) p =
      let a = declared_append (expr_parts c) (stmt_parts (stmt t) ++ stmt_parts (stmt u)) in
      let b = declared_append (stmt_parts (stmt t)) (stmt_parts (stmt u)) in
      omega (arith, few_stmt t, few_stmt u, a, b)
  few_in_layer (StmtKind-F.While c t) p = let a = declared_append (expr_parts c) (stmt_parts (stmt t)) in omega (arith, few_stmt t, a)
  few_in_layer (StmtKind-F.Do t c) p = let a = declared_append (stmt_parts (stmt t)) (expr_parts c) in omega (arith, few_stmt t, a)
  few_in_layer (StmtKind-F.For ss c es t) p =
      let updates = together (each expr_parts es) in
      let a = declared_append (together (map stmt_parts (map stmt ss))) (maybe expr_parts c ++ entries (length (each expr_parts es)) ∷ (updates ++ stmt_parts (stmt t))) in
      let b = declared_append (maybe expr_parts c) (entries (length (each expr_parts es)) ∷ (updates ++ stmt_parts (stmt t))) in
      let d = declared_append updates (stmt_parts (stmt t)) in
      omega (arith, few_in_all ss, few_stmt t, a, b, d)
  few_in_layer StmtKind-F.Break p = omega arith
  few_in_layer StmtKind-F.Continue p = omega arith
  few_in_layer (StmtKind-F.Return e) p = omega arith
  few_in_layer (StmtKind-F.Throw name) p = omega arith
  few_in_layer (StmtKind-F.Print e) p = omega arith
  few_in_layer (StmtKind-F.Run e) p = omega arith

  few_in_rolled : (y : StmtKind-F K S) → FewInKind (roll-StmtKind (map-StmtKind K S StmtKind Stmt kind stmt y))
  few_in_rolled y p =
      let layer = map-StmtKind K S StmtKind Stmt kind stmt y in
      let a = fold-roll-StmtKind (Span → Telling) Telling bodies.stmt_kind_step bodies.stmt_step layer in
      let b = fold-roll-StmtKind (List Part) (List Part) parts.stmt_kind_step parts.stmt_step layer in
      rw (a, b) (few_in_layer y p)

  few_in_spanned : ((k : K) → FewInKind (kind k)) → (y : Stmt-F K S) → FewInStmt (roll-Stmt (map-Stmt K S StmtKind Stmt kind stmt y))
  few_in_spanned few_kind y =
      let layer = map-Stmt K S StmtKind Stmt kind stmt y in
      let a = fold-roll-Stmt (Span → Telling) Telling bodies.stmt_kind_step bodies.stmt_step layer in
      let b = fold-roll-Stmt (List Part) (List Part) parts.stmt_kind_step parts.stmt_step layer in
      rw (a, b) (few_kind y.kind y.span)

few_in_stmt : (s : Stmt) → FewInStmt s
few_in_stmt = ind-Stmt FewInKind FewInStmt
    (λ x y e. subst (λ layer. FewInKind (roll-StmtKind layer)) e (few_in_rolled (λ k. k.0) (λ s. s.0) (λ s. s.1) y))
    (λ x y e. subst (λ layer. FewInStmt (roll-Stmt layer)) e (few_in_spanned (λ k. k.0) (λ s. s.0) (λ s. s.1) (λ k. k.1) y))

few_locals : (body : List Stmt) → (all_told (map telling body)).declares ≤ declarations (together (each stmt_parts body))
few_locals [] = omega arith
few_locals (s ∷ ss) =
    let a = declared_append (stmt_parts s) (together (each stmt_parts ss)) in
    omega (arith, few_in_stmt s, few_locals ss, a)

-- ---- members

params_counted : (ds : List LocalDecl) → length ds ≤ declarations (together (each decl_parts ds))
params_counted [] = omega arith
params_counted (d ∷ ds) = let a = declared_append (decl_parts d) (together (each decl_parts ds)) in omega (arith, params_counted ds, a)

-- What a method or constructor declares is counted in its parts.
few_in_method : (m : MethodDecl) → length m.params + (all_told (map telling m.body)).declares ≤ declarations (method_parts m)
few_in_method m =
    let params = together (each decl_parts m.params) in
    let body = together (each stmt_parts m.body) in
    let args = maybe args_parts m.parent_args in
    let from_args = args ++ listed (each stmt_parts m.body) in
    let from_name = elsewhere m.name ∷ (listed (each decl_parts m.params) ++ from_args) in
    let from_result = maybe type_parts m.result ++ from_name in
    let a = declared_append (mods_parts m.mods) from_result in
    let b = declared_append (maybe type_parts m.result) from_name in
    let c = declared_append params from_args in
    let d = declared_append args (listed (each stmt_parts m.body)) in
    omega (arith, params_counted m.params, few_locals m.body, a, b, c, d)

counted_once : (m : Member) → 1 ≤ declarations (member_parts m)
counted_once (Field d) = omega arith
counted_once (Method m) = omega arith

members_counted : (ms : List Member) → length ms ≤ declarations (together (each member_parts ms))
members_counted [] = omega arith
members_counted (m ∷ ms) =
    let a = declared_append (member_parts m) (together (each member_parts ms)) in
    omega (arith, counted_once m, members_counted ms, a)

none_named : (name : Option Ident) → declarations (maybe other_name name) ≡ 0
none_named None = refl
none_named (Some name) = refl

class_counted : (k : ClassDecl) → declarations (class_parts k) ≡ 1 + declarations (together (each member_parts k.members))
class_counted k =
    let a = declared_append (maybe other_name k.parent) (listed (each member_parts k.members)) in
    omega (arith, none_named k.parent, a)

classes_counted : (ks : List ClassDecl) → members_in ks ≤ declarations (together (each class_parts ks))
classes_counted [] = omega arith
classes_counted (k ∷ ks) =
    let a = declared_append (class_parts k) (together (each class_parts ks)) in
    omega (arith, members_counted k.members, class_counted k, classes_counted ks, a)

-- ---- the whole source

each_length : {A : Type 0} (parts : A → List Part) (xs : List A) → length (each parts xs) ≡ length xs
each_length parts [] = refl
each_length parts (x ∷ xs) = let e = each_length parts xs in omega (arith, e)

pub few_classes : (unit : Source) → CanResolve unit → length unit.classes < 2 ^ 32
few_classes unit c = let e = each_length class_parts unit.classes in omega (arith, c.short.0, e)

pub few_members : (unit : Source) → CanResolve unit → members_in unit.classes + 1 < 2 ^ 32
few_members unit c = omega (arith, classes_counted unit.classes, c.few_declarations)

few_in_members : (n : ℕ) (ms : List Member) → declarations (together (each member_parts ms)) ≤ n → All (λ m. declarations (member_parts m) ≤ n) ms
few_in_members n [] le = All-nil (λ m. declarations (member_parts m) ≤ n)
few_in_members n (m ∷ ms) le =
    let a = declared_append (member_parts m) (together (each member_parts ms)) in
    All-cons (λ m. declarations (member_parts m) ≤ n) m ms (omega (arith, le, a)) (few_in_members n ms (omega (arith, le, a)))

few_in_classes : (n : ℕ) (ks : List ClassDecl) → declarations (together (each class_parts ks)) ≤ n → All (λ k. All (λ m. declarations (member_parts m) ≤ n) k.members) ks
few_in_classes n [] le = All-nil (λ k. All (λ m. declarations (member_parts m) ≤ n) k.members)
few_in_classes n (k ∷ ks) le =
    let a = declared_append (class_parts k) (together (each class_parts ks)) in
    All-cons (λ k. All (λ m. declarations (member_parts m) ≤ n) k.members) k ks
    (few_in_members n k.members (omega (arith, le, a, class_counted k))) (few_in_classes n ks (omega (arith, le, a)))

pub each_member_few : (unit : Source) → CanResolve unit → All DeclaresFewInClass unit.classes
each_member_few unit c = few_in_classes most_entries unit.classes c.few_declarations

pub few_params : (m : MethodDecl) → DeclaresFew (Method m) → length m.params < 2 ^ 32
few_params m few = omega (arith, few, few_in_method m)

pub few_in_body : (m : MethodDecl) → DeclaresFew (Method m) → (all_told (map telling m.body)).declares < 2 ^ 32
few_in_body m few = omega (arith, few, few_in_method m)
