-- A source within the limits is within them at other places.
use Rattle.std.proofs.Common.{◌≡◌, ℕ, ◌+◌, Bool, true, false, List, [], ◌∷◌, ◌++◌, map, length, Option, Some, None, option_map, refl, sym, ap, ap₂, ◌∙◌, subst}
use Rattle.std.proofs.lemmas.Option.{slice_get-map}
use Rattle.std.specs.Prelude.{if◌then◌else◌, nat_lt, slice_get}
use Rattle.std.proofs.lemmas.List.{map-append}
use Rattle.ix_annot.specs.Named.{or_else}
use Rattle.ix_annot.specs.Table.{counted, most_claims}
use Rattle.ix_tree.specs.declared.annot.Annot.{Annot}
use Rattle.ix_tree.specs.declared.annot.Ident.{Ident}
use Rattle.ix_tree.specs.declared.annot.TypeTree.{TypeTree}
use Rattle.ix_tree.specs.declared.decl.ClassDecl.{ClassDecl}
use Rattle.ix_tree.specs.declared.decl.LocalDecl.{LocalDecl}
use Rattle.ix_tree.specs.declared.decl.Member.{Member}
use Rattle.ix_tree.specs.declared.decl.Member.TheVariants as member
use Rattle.ix_tree.specs.declared.decl.MethodDecl.{MethodDecl}
use Rattle.ix_tree.specs.declared.decl.Unit.{Unit as Source}
use Rattle.ix_tree.specs.declared.stmt.Stmt.{Stmt, Stmt-F, ind-Stmt, map-Stmt, roll-Stmt, fold-roll-Stmt}
use Rattle.ix_tree.specs.declared.stmt.StmtKind.{StmtKind, StmtKind-F, map-StmtKind, roll-StmtKind, fold-StmtKind, fold-roll-StmtKind}
use Rattle.ix_tree.proofs.FoldsOfForms as fold
use Rattle.ix_meaning.specs.declared.note.Which.{Which}
use Rattle.ix_meaning.specs.declared.note.Which.TheVariants as which
use Rattle.ix_meaning.specs.Classes.{supers, parents}
use Rattle.ix_meaning.specs.Declarators as declared
use Rattle.ix_meaning.specs.Declarators.{declarators}
use Rattle.ix_meaning.specs.Limits as limits
use Rattle.ix_meaning.specs.Limits.{Passed, passed, most_classes, most_methods, most_params, most_inherited, class_names, methods_of, all_methods, method_names, param_names, declared_annots, each_annots, together, stmt_annots, body_annots, result_annots, member_annots, all_annots, past_names, past_params, past_claims_in, past_claims, limit, past_inheritance, inheritance_limit}
use Rattle.ix_meaning.specs.Resolved.{Accepts}
use Rattle.ix_guard_text.specs.Bare as bare
use Rattle.ix_guard_text.specs.Bare.{nowhere, bare_maybe, bare_name, bare_annot, bare_type, bare_expr, bare_decl, bare_stmt, bare_method, bare_member, bare_class}
use Rattle.ix_guard_text.proofs.AnnotsMove.{counted_moved}
use Rattle.ix_guard_text.proofs.DeclaratorsMove.{declarators_moved}
use Rattle.ix_guard_text.specs.Alike.{joined, AreSame}
use Rattle.ix_guard_text.specs.Gathered.{gathered}
use Rattle.ix_guard_text.proofs.FieldsAgain.{members_again}
use Rattle.ix_guard_text.proofs.WorldsAgain.{parents_again}
use Rattle.ix_guard_text.proofs.ErrorsAgain.{no_errors_again}

-- which limit is passed, if one is
abbrev pub passed_which : Option Passed → Option Which
passed_which None = None
passed_which (Some p) = Some p.which

pub or_else_which : (a b : Option Passed) → passed_which (or_else a b) ≡ or_else (passed_which a) (passed_which b)
or_else_which None b = refl
or_else_which (Some p) b = refl

pub either_which : (a b c d : Option Passed) → passed_which a ≡ passed_which b → passed_which c ≡ passed_which d → passed_which (or_else a c) ≡ passed_which (or_else b d)
either_which a b c d e f = or_else_which a c ∙ ap₂ (λ (x : Option Which) (y : Option Which). or_else x y) e f ∙ sym (or_else_which b d)

-- ---- names

name_which : (w : Which) (name : Option Ident) → passed_which (option_map (λ name. passed w name) (option_map bare_name name)) ≡ passed_which (option_map (λ name. passed w name) name)
name_which w None = refl
name_which w (Some name) = refl

names_which : (w : Which) (most : ℕ) (names : List Ident) → passed_which (past_names w most (map bare_name names)) ≡ passed_which (past_names w most names)
names_which w most names = ap (λ (o : Option Ident). passed_which (option_map (λ name. passed w name) o)) (slice_get-map bare_name names most) ∙ name_which w (slice_get names most)

class_names_bare : (cs : List ClassDecl) → class_names (map bare_class cs) ≡ map bare_name (class_names cs)
class_names_bare [] = refl
class_names_bare (c ∷ cs) = ap (λ (l : List Ident). bare_name c.name ∷ l) (class_names_bare cs)

methods_of_bare : (ms : List Member) → methods_of (map bare_member ms) ≡ map bare_method (methods_of ms)
methods_of_bare [] = refl
methods_of_bare (member.Field d ∷ ms) = methods_of_bare ms
methods_of_bare (member.Method m ∷ ms) = ap (λ (l : List MethodDecl). bare_method m ∷ l) (methods_of_bare ms)

all_methods_bare : (cs : List ClassDecl) → all_methods (map bare_class cs) ≡ map bare_method (all_methods cs)
all_methods_bare [] = refl
all_methods_bare (c ∷ cs) = ap₂ (λ (x : List MethodDecl) (y : List MethodDecl). x ++ y) (methods_of_bare c.members) (all_methods_bare cs) ∙ sym (map-append bare_method (methods_of c.members) (all_methods cs))

method_names_bare : (ms : List MethodDecl) → method_names (map bare_method ms) ≡ map bare_name (method_names ms)
method_names_bare [] = refl
method_names_bare (m ∷ ms) = ap (λ (l : List Ident). bare_name m.name ∷ l) (method_names_bare ms)

param_names_bare : (ds : List LocalDecl) → param_names (map bare_decl ds) ≡ map bare_name (param_names ds)
param_names_bare [] = refl
param_names_bare (d ∷ ds) = ap (λ (l : List Ident). bare_name d.name ∷ l) (param_names_bare ds)

params_which : (ms : List MethodDecl) → passed_which (past_params (map bare_method ms)) ≡ passed_which (past_params ms)
params_which [] = refl
params_which (m ∷ ms) =
    either_which _ _ _ _
    (ap (λ (l : List Ident). passed_which (past_names which.Parameters most_params l)) (param_names_bare m.params) ∙ names_which which.Parameters most_params (param_names m.params))
    (params_which ms)

-- ---- claims

claims_in_which : (before : ℕ) (annots : List Annot) → passed_which (past_claims_in before (map bare_annot annots)) ≡ passed_which (past_claims_in before annots)
claims_in_which before [] = refl
claims_in_which before (a ∷ annots) =
    ap (λ n. passed_which (if nat_lt most_claims (before + n) then Some (record { which = which.Claims; place = 0 }) else past_claims_in (before + n) (map bare_annot annots))) (counted_moved gathered a)
    ∙ by (nat_lt most_claims (before + counted a)) (claims_in_which (before + counted a) annots)
  where
    by : (b : Bool) → passed_which (past_claims_in (before + counted a) (map bare_annot annots)) ≡ passed_which (past_claims_in (before + counted a) annots)
        → passed_which (if b then Some (record { which = which.Claims; place = 0 }) else past_claims_in (before + counted a) (map bare_annot annots))
        ≡ passed_which (if b then Some (record { which = which.Claims; place = a.span.from }) else past_claims_in (before + counted a) annots)
    by true rest = refl
    by false rest = rest

abbrev pub all_bare : List (List Annot) → List (List Annot)
all_bare lists = map (map bare_annot) lists

pub claims_which : (lists : List (List Annot)) → passed_which (past_claims (all_bare lists)) ≡ passed_which (past_claims lists)
claims_which [] = refl
claims_which (annots ∷ lists) = either_which _ _ _ _ (claims_in_which 0 annots) (claims_which lists)

declared_bare : (d : LocalDecl) → declared_annots (bare_decl d) ≡ map bare_annot (declared_annots d)
declared_bare d = sym (map-append bare_annot d.mods.annots d.ty.annots)

each_bare : (ds : List LocalDecl) → each_annots (map bare_decl ds) ≡ all_bare (each_annots ds)
each_bare [] = refl
each_bare (d ∷ ds) = ap₂ (λ (l : List Annot) (ls : List (List Annot)). l ∷ ls) (declared_bare d) (each_bare ds)

joined_bare : (xs ys us vs : List (List Annot)) → xs ≡ all_bare us → ys ≡ all_bare vs → xs ++ ys ≡ all_bare (us ++ vs)
joined_bare xs ys us vs e f = ap₂ (λ (x : List (List Annot)) (y : List (List Annot)). x ++ y) e f ∙ sym (map-append (map bare_annot) us vs)

-- ---- claims in statements

abbrev Annots : Type 0
Annots = List (List Annot)

abbrev stmt_of : Stmt-F Annots Annots → Annots
stmt_of s = s.kind

abbrev kind_annots : StmtKind → Annots
kind_annots = fold-StmtKind Annots Annots limits.stmt_kind_step stmt_of

abbrev kind_bare : StmtKind → StmtKind
kind_bare = fold-StmtKind StmtKind Stmt bare.stmt_kind_step bare.stmt_step

abbrev KindIs : StmtKind → Type 0
KindIs k = kind_annots (kind_bare k) ≡ all_bare (kind_annots k)

abbrev StmtIs : Stmt → Type 0
StmtIs s = stmt_annots (bare_stmt s) ≡ all_bare (stmt_annots s)

module _ {K S : Type 0} (kind : K → StmtKind) (stmt : S → Stmt) (stmt_is : (x : S) → StmtIs (stmt x)) where
  together_bare : (xs : List S) → together (map stmt_annots (map bare_stmt (map stmt xs))) ≡ all_bare (together (map stmt_annots (map stmt xs)))
  together_bare [] = refl
  together_bare (x ∷ xs) = joined_bare _ _ (stmt_annots (stmt x)) (together (map stmt_annots (map stmt xs))) (stmt_is x) (together_bare xs)

  kind_layer : (y : StmtKind-F K S) → let layer = map-StmtKind K S StmtKind Stmt kind stmt y in
      kind_annots (bare.stmt_kind_step (map-StmtKind StmtKind Stmt StmtKind Stmt kind_bare bare_stmt layer))
      ≡ all_bare (limits.stmt_kind_step (map-StmtKind StmtKind Stmt Annots Annots kind_annots stmt_annots layer))
  kind_layer (StmtKind-F.Block ss) = fold.block_kind limits.stmt_kind_step stmt_of (map bare_stmt (map stmt ss)) ∙ together_bare ss
  kind_layer StmtKind-F.Empty = fold.empty_kind limits.stmt_kind_step stmt_of
  kind_layer (StmtKind-F.Local ds) = fold.local_kind limits.stmt_kind_step stmt_of (map bare_decl ds) ∙ ap each_annots (declarators_moved gathered ds) ∙ each_bare (declarators ds)
  kind_layer (StmtKind-F.If c t None) =
      fold.if_kind limits.stmt_kind_step stmt_of (bare_expr c) (bare_stmt (stmt t)) ∙ joined_bare _ [] (stmt_annots (stmt t)) [] (stmt_is t) refl
  kind_layer (StmtKind-F.If c t (Some u)) =
      fold.if_else_kind limits.stmt_kind_step stmt_of (bare_expr c) (bare_stmt (stmt t)) (bare_stmt (stmt u)) ∙ joined_bare _ _ (stmt_annots (stmt t)) (stmt_annots (stmt u)) (stmt_is t) (stmt_is u)
  kind_layer (StmtKind-F.While c t) = fold.while_kind limits.stmt_kind_step stmt_of (bare_expr c) (bare_stmt (stmt t)) ∙ stmt_is t
  kind_layer (StmtKind-F.Do t c) = fold.do_kind limits.stmt_kind_step stmt_of (bare_stmt (stmt t)) (bare_expr c) ∙ stmt_is t
  kind_layer (StmtKind-F.For first c update t) =
      fold.for_kind limits.stmt_kind_step stmt_of (map bare_stmt (map stmt first)) (bare_maybe bare_expr c) (map bare_expr update) (bare_stmt (stmt t))
      ∙ joined_bare _ _ (together (map stmt_annots (map stmt first))) (stmt_annots (stmt t)) (together_bare first) (stmt_is t)
  kind_layer StmtKind-F.Break = fold.break_kind limits.stmt_kind_step stmt_of
  kind_layer StmtKind-F.Continue = fold.continue_kind limits.stmt_kind_step stmt_of
  kind_layer (StmtKind-F.Return value) = fold.return_kind limits.stmt_kind_step stmt_of (bare_maybe bare_expr value)
  kind_layer (StmtKind-F.Throw thrown) = fold.throw_kind limits.stmt_kind_step stmt_of (bare_name thrown)
  kind_layer (StmtKind-F.Print value) = fold.print_kind limits.stmt_kind_step stmt_of (bare_expr value)
  kind_layer (StmtKind-F.Run e) = fold.run_kind limits.stmt_kind_step stmt_of (bare_expr e)

  kind_rolled : (y : StmtKind-F K S) → KindIs (roll-StmtKind (map-StmtKind K S StmtKind Stmt kind stmt y))
  kind_rolled y =
      let layer = map-StmtKind K S StmtKind Stmt kind stmt y in
      ap kind_annots (fold-roll-StmtKind StmtKind Stmt bare.stmt_kind_step bare.stmt_step layer)
      ∙ kind_layer y
      ∙ ap all_bare (sym (fold-roll-StmtKind Annots Annots limits.stmt_kind_step stmt_of layer))

  stmt_rolled : ((k : K) → KindIs (kind k)) → (y : Stmt-F K S) → StmtIs (roll-Stmt (map-Stmt K S StmtKind Stmt kind stmt y))
  stmt_rolled kind_is y =
      let layer = map-Stmt K S StmtKind Stmt kind stmt y in
      ap stmt_annots (fold-roll-Stmt StmtKind Stmt bare.stmt_kind_step bare.stmt_step layer)
      ∙ fold.stmt_is limits.stmt_kind_step stmt_of (kind_bare (kind y.kind)) nowhere
      ∙ kind_is y.kind
      ∙ ap all_bare (sym (fold-roll-Stmt Annots Annots limits.stmt_kind_step stmt_of layer))

stmt_bare : (s : Stmt) → stmt_annots (bare_stmt s) ≡ all_bare (stmt_annots s)
stmt_bare = ind-Stmt KindIs StmtIs
    (λ x y e. subst (λ layer. KindIs (roll-StmtKind layer)) e (kind_rolled (λ k. k.0) (λ s. s.0) (λ s. s.1) y))
    (λ x y e. subst (λ layer. StmtIs (roll-Stmt layer)) e (stmt_rolled (λ k. k.0) (λ s. s.0) (λ s. s.1) (λ k. k.1) y))

body_bare : (ss : List Stmt) → body_annots (map bare_stmt ss) ≡ all_bare (body_annots ss)
body_bare [] = refl
body_bare (s ∷ ss) = joined_bare _ _ (stmt_annots s) (body_annots ss) (stmt_bare s) (body_bare ss)

-- ---- claims in members and classes

result_bare : (result : Option TypeTree) → result_annots (bare_maybe bare_type result) ≡ map bare_annot (result_annots result)
result_bare None = refl
result_bare (Some ty) = refl

pub members_bare : (ms : List Member) → member_annots (map bare_member ms) ≡ all_bare (member_annots ms)
members_bare [] = refl
members_bare (member.Field d ∷ ms) = ap₂ (λ (l : List Annot) (ls : Annots). l ∷ ls) (declared_bare d) (members_bare ms)
members_bare (member.Method m ∷ ms) =
    ap₂ (λ (l : List Annot) (ls : Annots). l ∷ ls)
    (ap (λ (l : List Annot). map bare_annot m.mods.annots ++ l) (result_bare m.result) ∙ sym (map-append bare_annot m.mods.annots (result_annots m.result)))
    (joined_bare _ _ (each_annots m.params) (body_annots m.body ++ member_annots ms) (each_bare m.params) (joined_bare _ _ (body_annots m.body) (member_annots ms) (body_bare m.body) (members_bare ms)))

annots_again : (us vs : List ClassDecl) → map bare_class us ≡ map bare_class vs → map joined us ≡ map joined vs → all_bare (all_annots us) ≡ all_bare (all_annots vs)
annots_again [] [] e j = refl
annots_again [] (v ∷ vs) e j = cc
annots_again (u ∷ us) [] e j = cc
annots_again (u ∷ us) (v ∷ vs) e j =
    let here : bare_class u ≡ bare_class v = cc in
    let later : map bare_class us ≡ map bare_class vs = cc in
    let here_joined : joined u ≡ joined v = cc in
    let later_joined : map joined us ≡ map joined vs = cc in
    let same : map bare_member u.members ≡ map bare_member v.members = ap (λ (k : ClassDecl). k.members) here in
    let first : all_bare (member_annots (declared.members u.members)) ≡ all_bare (member_annots (declared.members v.members)) =
    sym (members_bare (declared.members u.members)) ∙ ap member_annots (members_again u.members v.members same here_joined) ∙ members_bare (declared.members v.members) in
    map-append (map bare_annot) (member_annots (declared.members u.members)) (all_annots us)
    ∙ ap₂ (λ (x : Annots) (y : Annots). x ++ y) first (annots_again us vs later later_joined)
    ∙ sym (map-append (map bare_annot) (member_annots (declared.members v.members)) (all_annots vs))

-- ---- the limits

abbrev class_limit : List Ident → Option Which
class_limit names = passed_which (past_names which.Classes most_classes names)

abbrev method_limit : List Ident → Option Which
method_limit names = passed_which (past_names which.Methods most_methods names)

classes_which : (cs : List ClassDecl) → class_limit (class_names (map bare_class cs)) ≡ class_limit (class_names cs)
classes_which cs = ap class_limit (class_names_bare cs) ∙ names_which which.Classes most_classes (class_names cs)

methods_which : (cs : List ClassDecl) → method_limit (method_names (all_methods (map bare_class cs))) ≡ method_limit (method_names (all_methods cs))
methods_which cs =
    ap (λ (ms : List MethodDecl). method_limit (method_names ms)) (all_methods_bare cs) ∙ ap method_limit (method_names_bare (all_methods cs)) ∙ names_which which.Methods most_methods (method_names (all_methods cs))

all_params_which : (cs : List ClassDecl) → passed_which (past_params (all_methods (map bare_class cs))) ≡ passed_which (past_params (all_methods cs))
all_params_which cs = ap (λ (ms : List MethodDecl). passed_which (past_params ms)) (all_methods_bare cs) ∙ params_which (all_methods cs)

-- The same limit is passed, or none.
pub limit_with : (us vs : List ClassDecl) → map bare_class us ≡ map bare_class vs → passed_which (past_claims (all_annots us)) ≡ passed_which (past_claims (all_annots vs)) → passed_which (limit us) ≡ passed_which (limit vs)
limit_with us vs e claims =
    either_which _ _ _ _ (sym (classes_which us) ∙ ap (λ (cs : List ClassDecl). class_limit (class_names cs)) e ∙ classes_which vs)
    (either_which _ _ _ _ (sym (methods_which us) ∙ ap (λ (cs : List ClassDecl). method_limit (method_names (all_methods cs))) e ∙ methods_which vs)
    (either_which _ _ _ _ (sym (all_params_which us) ∙ ap (λ (cs : List ClassDecl). passed_which (past_params (all_methods cs))) e ∙ all_params_which vs)
    claims))

pub limit_again : (us vs : List ClassDecl) → map bare_class us ≡ map bare_class vs → map joined us ≡ map joined vs → passed_which (limit us) ≡ passed_which (limit vs)
limit_again us vs e j =
    limit_with us vs e (sym (claims_which (all_annots us)) ∙ ap (λ (l : Annots). passed_which (past_claims l)) (annots_again us vs e j) ∙ claims_which (all_annots vs))

inheritance_which : (ps : List (Option ℕ)) (c : ℕ) (cs : List ClassDecl) → passed_which (past_inheritance ps c (map bare_class cs)) ≡ passed_which (past_inheritance ps c cs)
inheritance_which ps c [] = refl
inheritance_which ps c (k ∷ ks) = by (nat_lt most_inherited (1 + length (supers ps c))) (inheritance_which ps (c + 1) ks)
  where
    by : (b : Bool) → passed_which (past_inheritance ps (c + 1) (map bare_class ks)) ≡ passed_which (past_inheritance ps (c + 1) ks)
        → passed_which (if b then Some (passed which.Inheritance (bare_name k.name)) else past_inheritance ps (c + 1) (map bare_class ks))
        ≡ passed_which (if b then Some (passed which.Inheritance k.name) else past_inheritance ps (c + 1) ks)
    by true rest = refl
    by false rest = rest

pub inheritance_limit_again : (us vs : List ClassDecl) → map bare_class us ≡ map bare_class vs → passed_which (inheritance_limit us) ≡ passed_which (inheritance_limit vs)
inheritance_limit_again us vs e =
    sym (inheritance_which (parents us) 0 us)
    ∙ ap₂ (λ (ps : List (Option ℕ)) (cs : List ClassDecl). passed_which (past_inheritance ps 0 cs)) (parents_again us vs e) e
    ∙ inheritance_which (parents vs) 0 vs

pub none_passed : (p q : Option Passed) → passed_which p ≡ passed_which q → p ≡ None → q ≡ None
none_passed p None e none = refl
none_passed None (Some q) e none = cc
none_passed (Some p) (Some q) e none = cc

-- A source is accepted at other places too.
pub accepts_again : (unit other : Source) → AreSame unit other → Accepts unit → Accepts other
accepts_again unit other h accepts =
    let e : map bare_class unit.classes ≡ map bare_class other.classes = ap (λ (source : Source). source.classes) h.bare in
    record {
      within = none_passed _ _ (limit_again unit.classes other.classes e h.joined) accepts.within;
      no_errors = no_errors_again unit other h accepts.no_errors;
      few_inherited = none_passed _ _ (inheritance_limit_again unit.classes other.classes e) accepts.few_inherited;
    }
