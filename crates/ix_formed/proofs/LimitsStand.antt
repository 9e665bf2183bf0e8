-- A limit of names is passed at a place in the text.
use Rattle.std.proofs.Common.{◌≤◌, ℕ, zero, suc, ◌+◌, Bool, true, false, List, [], ◌∷◌, ◌++◌, map, length, Option, Some, None, sym, subst, arith}
use Rattle.std.specs.List.{AllByRecursion}
use Rattle.std.specs.Prelude.{if◌then◌else◌, nat_lt}
use Rattle.ix_annot.specs.Named.{or_else}
use Rattle.ix_annot.specs.Table.{counted, most_claims}
use Rattle.ix_tree.specs.declared.annot.Annot.{Annot}
use Rattle.ix_tree.specs.declared.annot.Ident.{Ident}
use Rattle.ix_tree.specs.declared.annot.TypeTree.{TypeTree}
use Rattle.ix_tree.specs.declared.decl.ClassDecl.{ClassDecl}
use Rattle.ix_tree.specs.declared.decl.LocalDecl.{LocalDecl}
use Rattle.ix_tree.specs.declared.decl.Member.{Member}
use Rattle.ix_tree.specs.declared.decl.Member.TheVariants as member
use Rattle.ix_tree.specs.declared.decl.MethodDecl.{MethodDecl}
use Rattle.ix_tree.specs.declared.decl.Unit.{Unit as Source}
use Rattle.ix_tree.specs.declared.stmt.Stmt.{Stmt, Stmt-F, ind-Stmt, map-Stmt, roll-Stmt, fold-roll-Stmt}
use Rattle.ix_tree.specs.declared.stmt.StmtKind.{StmtKind, StmtKind-F, map-StmtKind, roll-StmtKind, fold-StmtKind, fold-roll-StmtKind}
use Rattle.ix_tree.specs.Placed as placed
use Rattle.ix_tree.specs.Placed.{Layout, row, expr_piece, stmt_piece}
use Rattle.ix_meaning.specs.declared.note.Which.{Which}
use Rattle.ix_meaning.specs.declared.note.Which.TheVariants as which
use Rattle.ix_meaning.specs.Classes.{supers, parents}
use Rattle.ix_meaning.specs.Declarators.{declarators, members}
use Rattle.ix_meaning.specs.Limits as limits
use Rattle.ix_meaning.specs.Limits.{Passed, passed, past_names, past_params, past_claims_in, past_claims, past_inheritance, limit, inheritance_limit, class_names, methods_of, all_methods, method_names, param_names, declared_annots, each_annots, together, maybe, stmt_annots, body_annots, result_annots, member_annots, all_annots}
use Rattle.ix_formed.specs.EachNode.{InText, IfSome, TypeNodes, StmtNodes, DeclNodes, MethodNodes, MemberNodes, ClassNodes, SourceNodes}
use Rattle.ix_formed.proofs.PlacedNodes.{locals_nodes}
use Rattle.ix_formed.proofs.DeclaratorsStand.{declarators_nodes, members_nodes}
use Rattle.ix_formed.proofs.ListsJoin.{all_joined}
use Rattle.ix_formed.proofs.PiecesLie.{Lies, AllLie, row_lies, pieces_parted}
use Rattle.ix_formed.proofs.TypesStand.{AnnotsStand, type_stands}

module _ (end : ℕ) where
  -- where a limit is passed, this is in the text
  abbrev pub IsWithin : Option Passed → Type 0
  IsWithin o = IfSome (λ p. p.place ≤ end) o

  either_within : (a b : Option Passed) → IsWithin a → IsWithin b → IsWithin (or_else a b)
  either_within None b x y = y
  either_within (Some p) b x y = x

  -- ---- names

  abbrev NamesStand : List Ident → Type 0
  NamesStand names = AllByRecursion (λ name. InText end name.span) names

  abbrev MethodsStand : List MethodDecl → Type 0
  MethodsStand ms = AllByRecursion (MethodNodes (InText end)) ms

  past_within : (w : Which) (most : ℕ) (names : List Ident) → NamesStand names → IsWithin (past_names w most names)
  past_within w most [] h = tt
  past_within w zero (name ∷ names) h = let at = h.0 in omega (arith, at.0, at.1)
  past_within w (suc most) (name ∷ names) h = past_within w most names h.1

  class_names_stand : (ks : List ClassDecl) → AllByRecursion (ClassNodes (InText end)) ks → NamesStand (class_names ks)
  class_names_stand [] h = tt
  class_names_stand (k ∷ ks) h = (h.0.name, class_names_stand ks h.1)

  methods_stand : (ms : List Member) → AllByRecursion (MemberNodes (InText end)) ms → MethodsStand (methods_of ms)
  methods_stand [] h = tt
  methods_stand (member.Field d ∷ ms) h = methods_stand ms h.1
  methods_stand (member.Method m ∷ ms) h = (h.0, methods_stand ms h.1)

  all_methods_stand : (ks : List ClassDecl) → AllByRecursion (ClassNodes (InText end)) ks → MethodsStand (all_methods ks)
  all_methods_stand [] h = tt
  all_methods_stand (k ∷ ks) h = all_joined (MethodNodes (InText end)) (methods_of k.members) (all_methods ks) (methods_stand k.members h.0.members) (all_methods_stand ks h.1)

  method_names_stand : (ms : List MethodDecl) → MethodsStand ms → NamesStand (method_names ms)
  method_names_stand [] h = tt
  method_names_stand (m ∷ ms) h = (h.0.name, method_names_stand ms h.1)

  param_names_stand : (ds : List LocalDecl) → AllByRecursion (DeclNodes (InText end)) ds → NamesStand (param_names ds)
  param_names_stand [] h = tt
  param_names_stand (d ∷ ds) h = (h.0.name, param_names_stand ds h.1)

  params_within : (ms : List MethodDecl) → MethodsStand ms → IsWithin (past_params ms)
  params_within [] h = tt
  params_within (m ∷ ms) h =
      either_within (past_names which.Parameters limits.most_params (param_names m.params)) (past_params ms)
      (past_within which.Parameters limits.most_params (param_names m.params) (param_names_stand m.params h.0.params)) (params_within ms h.1)

  -- ---- claims

  abbrev ListsStand : List (List Annot) → Type 0
  ListsStand lists = AllByRecursion (AnnotsStand end) lists

  lists_both : (xs ys : List (List Annot)) → ListsStand xs → ListsStand ys → ListsStand (xs ++ ys)
  lists_both xs ys a b = all_joined (AnnotsStand end) xs ys a b

  claims_in_within : (before : ℕ) (annots : List Annot) → AnnotsStand end annots → IsWithin (past_claims_in before annots)
  claims_in_within before [] h = tt
  claims_in_within before (a ∷ annots) h = past_or_not (claims_in_within (before + counted a) annots h.1) (nat_lt most_claims (before + counted a))
    where
      past_or_not : IsWithin (past_claims_in (before + counted a) annots) → (b : Bool)
          → IsWithin (if b then Some (record { which = which.Claims; place = a.span.from }) else past_claims_in (before + counted a) annots)
      past_or_not later true = let at = h.0.0 in omega (arith, at.0, at.1)
      past_or_not later false = later

  claims_within : (lists : List (List Annot)) → ListsStand lists → IsWithin (past_claims lists)
  claims_within [] h = tt
  claims_within (annots ∷ more) h = either_within (past_claims_in 0 annots) (past_claims more) (claims_in_within 0 annots h.0) (claims_within more h.1)

  declared_stand : (d : LocalDecl) → DeclNodes (InText end) d → AnnotsStand end (declared_annots d)
  declared_stand d h = all_joined _ d.mods.annots d.ty.annots h.annots (type_stands end d.ty h.ty).annots

  each_stand : (ds : List LocalDecl) → AllByRecursion (DeclNodes (InText end)) ds → ListsStand (each_annots ds)
  each_stand [] h = tt
  each_stand (d ∷ ds) h = (declared_stand d h.0, each_stand ds h.1)

  -- ---- claims of locals

  abbrev kind_pieces : StmtKind → List Layout
  kind_pieces = fold-StmtKind (List Layout) Layout placed.stmt_kind_pieces placed.stmt_of

  abbrev kind_annots : StmtKind → List (List Annot)
  kind_annots = fold-StmtKind (List (List Annot)) (List (List Annot)) limits.stmt_kind_step (λ s. s.kind)

  abbrev KindIs : StmtKind → Type 0
  KindIs k = Lies end (row (kind_pieces k)) → ListsStand (kind_annots k)

  abbrev StmtIs : Stmt → Type 0
  StmtIs x = Lies end (stmt_piece x) → ListsStand (stmt_annots x)

  module _ {K S : Type 0} (kind : K → StmtKind) (stmt : S → Stmt) (stmt_is : (x : S) → StmtIs (stmt x)) where
    all_stand : (xs : List S) → AllLie end (map stmt_piece (map stmt xs)) → ListsStand (together (map stmt_annots (map stmt xs)))
    all_stand [] h = tt
    all_stand (x ∷ xs) h = lists_both (stmt_annots (stmt x)) (together (map stmt_annots (map stmt xs))) (stmt_is x h.0) (all_stand xs h.1)

    kind_layer : (y : StmtKind-F K S) → let layer = map-StmtKind K S StmtKind Stmt kind stmt y in
        let pieces = placed.stmt_kind_pieces (map-StmtKind StmtKind Stmt (List Layout) Layout kind_pieces stmt_piece layer) in
        Lies end (row pieces) → AllLie end pieces
        → ListsStand (limits.stmt_kind_step (map-StmtKind StmtKind Stmt (List (List Annot)) (List (List Annot)) kind_annots stmt_annots layer))
    kind_layer (StmtKind-F.Block ss) whole h = all_stand ss h
    kind_layer StmtKind-F.Empty whole h = tt
    kind_layer (StmtKind-F.Local ds) whole h = each_stand (declarators ds) (declarators_nodes end ds (locals_nodes (InText end) ds whole))
    kind_layer (StmtKind-F.If c t None) whole h = lists_both (stmt_annots (stmt t)) [] (stmt_is t h.1.0) tt
    kind_layer (StmtKind-F.If c t (Some u)) whole h = lists_both (stmt_annots (stmt t)) (stmt_annots (stmt u)) (stmt_is t h.1.0) (stmt_is u h.1.1.0)
    kind_layer (StmtKind-F.While c t) whole h = stmt_is t h.1.0
    kind_layer (StmtKind-F.Do t c) whole h = stmt_is t h.0
    kind_layer (StmtKind-F.For first c update t) whole h =
        let q = pieces_parted end (map stmt_piece (map stmt first)) (placed.maybe expr_piece c ++ (map expr_piece update ++ stmt_piece (stmt t) ∷ [])) h in
        let r = pieces_parted end (placed.maybe expr_piece c) (map expr_piece update ++ stmt_piece (stmt t) ∷ []) q.1 in
        let u = pieces_parted end (map expr_piece update) (stmt_piece (stmt t) ∷ []) r.1 in
        lists_both (together (map stmt_annots (map stmt first))) (stmt_annots (stmt t)) (all_stand first q.0) (stmt_is t u.1.0)
    kind_layer StmtKind-F.Break whole h = tt
    kind_layer StmtKind-F.Continue whole h = tt
    kind_layer (StmtKind-F.Return value) whole h = tt
    kind_layer (StmtKind-F.Throw thrown) whole h = tt
    kind_layer (StmtKind-F.Print value) whole h = tt
    kind_layer (StmtKind-F.Run e) whole h = tt

    kind_rolled : (y : StmtKind-F K S) → KindIs (roll-StmtKind (map-StmtKind K S StmtKind Stmt kind stmt y))
    kind_rolled y h =
        let layer = map-StmtKind K S StmtKind Stmt kind stmt y in
        let a = fold-roll-StmtKind (List (List Annot)) (List (List Annot)) limits.stmt_kind_step (λ s. s.kind) layer in
        let b = fold-roll-StmtKind (List Layout) Layout placed.stmt_kind_pieces placed.stmt_of layer in
        let whole = subst (λ (pieces : List Layout). Lies end (row pieces)) b h in
        subst ListsStand (sym a) (kind_layer y whole (row_lies end _ whole))

    stmt_rolled : ((k : K) → KindIs (kind k)) → (y : Stmt-F K S) → StmtIs (roll-Stmt (map-Stmt K S StmtKind Stmt kind stmt y))
    stmt_rolled kind_is y h =
        let layer = map-Stmt K S StmtKind Stmt kind stmt y in
        let a = fold-roll-Stmt (List (List Annot)) (List (List Annot)) limits.stmt_kind_step (λ s. s.kind) layer in
        let b = fold-roll-Stmt (List Layout) Layout placed.stmt_kind_pieces placed.stmt_of layer in
        subst ListsStand (sym a) (kind_is y.kind (subst (Lies end) b h).1)

  statement_stands : (x : Stmt) → StmtIs x
  statement_stands = ind-Stmt KindIs StmtIs
      (λ x y e. subst (λ layer. KindIs (roll-StmtKind layer)) e (kind_rolled (λ k. k.0) (λ s. s.0) (λ s. s.1) y))
      (λ x y e. subst (λ layer. StmtIs (roll-Stmt layer)) e (stmt_rolled (λ k. k.0) (λ s. s.0) (λ s. s.1) (λ k. k.1) y))

  body_stands : (ss : List Stmt) → AllByRecursion (StmtNodes (InText end)) ss → ListsStand (body_annots ss)
  body_stands [] h = tt
  body_stands (x ∷ ss) h = lists_both (stmt_annots x) (body_annots ss) (statement_stands x h.0) (body_stands ss h.1)

  -- ---- claims of members

  result_stands : (ty : Option TypeTree) → IfSome (TypeNodes (InText end)) ty → AnnotsStand end (result_annots ty)
  result_stands None h = tt
  result_stands (Some ty) h = (type_stands end ty h).annots

  members_stand : (ms : List Member) → AllByRecursion (MemberNodes (InText end)) ms → ListsStand (member_annots ms)
  members_stand [] h = tt
  members_stand (member.Field d ∷ ms) h = (declared_stand d h.0, members_stand ms h.1)
  members_stand (member.Method m ∷ ms) h = (
    all_joined _ m.mods.annots (result_annots m.result) h.0.annots (result_stands m.result h.0.result),
    lists_both (each_annots m.params) (body_annots m.body ++ member_annots ms) (each_stand m.params h.0.params)
        (lists_both (body_annots m.body) (member_annots ms) (body_stands m.body h.0.body) (members_stand ms h.1)),
  )

  all_annots_stand : (ks : List ClassDecl) → AllByRecursion (ClassNodes (InText end)) ks → ListsStand (all_annots ks)
  all_annots_stand [] h = tt
  all_annots_stand (k ∷ ks) h =
      lists_both (member_annots (members k.members)) (all_annots ks) (members_stand (members k.members) (members_nodes end None k.members tt h.0.members)) (all_annots_stand ks h.1)

  -- ---- all limits

  pub limit_within : (unit : Source) → SourceNodes (InText end) unit → IsWithin (limit unit.classes)
  limit_within unit h =
      let classes = past_names which.Classes limits.most_classes (class_names unit.classes) in
      let methods = past_names which.Methods limits.most_methods (method_names (all_methods unit.classes)) in
      let ms = all_methods_stand unit.classes h in
      either_within classes _ (past_within which.Classes limits.most_classes (class_names unit.classes) (class_names_stand unit.classes h))
      (either_within methods _ (past_within which.Methods limits.most_methods (method_names (all_methods unit.classes)) (method_names_stand (all_methods unit.classes) ms))
      (either_within (past_params (all_methods unit.classes)) (past_claims (all_annots unit.classes)) (params_within (all_methods unit.classes) ms)
      (claims_within (all_annots unit.classes) (all_annots_stand unit.classes h))))

  inheritance_within : (ps : List (Option ℕ)) (c : ℕ) (ks : List ClassDecl) → AllByRecursion (ClassNodes (InText end)) ks → IsWithin (past_inheritance ps c ks)
  inheritance_within ps c [] h = tt
  inheritance_within ps c (k ∷ ks) h = past_or_not (inheritance_within ps (c + 1) ks h.1) (nat_lt limits.most_inherited (1 + length (supers ps c)))
    where
      past_or_not : IsWithin (past_inheritance ps (c + 1) ks) → (b : Bool) → IsWithin (if b then Some (passed which.Inheritance k.name) else past_inheritance ps (c + 1) ks)
      past_or_not later true = let at = h.0.name in omega (arith, at.0, at.1)
      past_or_not later false = later

  pub inheritance_limit_within : (unit : Source) → SourceNodes (InText end) unit → IsWithin (inheritance_limit unit.classes)
  inheritance_limit_within unit h = inheritance_within (parents unit.classes) 0 unit.classes h
