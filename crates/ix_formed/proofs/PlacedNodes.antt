-- Each node of a placed source stands in its text.
use Rattle.std.proofs.Common.{ℕ, Bool, true, false, List, [], ◌∷◌, ◌++◌, map, Option, Some, None, arith}
use Rattle.std.specs.Prelude.{if◌then◌else◌}
use Rattle.std.specs.List.{AllByRecursion}
use Rattle.ix_text.specs.declared.span.Span.{Span}
use Rattle.ix_tree.specs.declared.decl.ClassDecl.{ClassDecl}
use Rattle.ix_tree.specs.declared.decl.LocalDecl.{LocalDecl}
use Rattle.ix_tree.specs.declared.decl.Member.{Member}
use Rattle.ix_tree.specs.declared.decl.Member.TheVariants.{Field, Method}
use Rattle.ix_tree.specs.declared.decl.MethodDecl.{MethodDecl}
use Rattle.ix_tree.specs.declared.decl.Unit.{Unit as Source}
use Rattle.ix_tree.specs.declared.expr.Expr.{Expr}
use Rattle.ix_tree.specs.Placed.{Placed, row, again, maybe, name_piece, annot_piece, type_piece, expr_piece, init_piece, shared_pieces, own_pieces, decl_pieces, params_pieces, further_pieces, locals_pieces, stmt_piece, parent_pieces, method_piece, same_span, field_shared, members_pieces, class_piece}
use Rattle.ix_formed.specs.EachNode.{EachNode, IfSome, InText, DeclNodes, ArgsNodes, MethodNodes, MemberNodes, ClassNodes, SourceNodes}
use Rattle.ix_formed.proofs.LaidNodes.{laid_nodes, nodes_first, nodes_rows, nodes_piece, nodes_again, nodes_maybe, nodes_each}

module _ (P : Span → Type 0) where
  -- ---- declarations of variables

  pub decl_nodes : (decl : LocalDecl) → EachNode P (row (shared_pieces decl)) → EachNode P (row (own_pieces decl)) → DeclNodes P decl
  decl_nodes decl shared own =
      let s = nodes_rows P (map annot_piece decl.mods.annots) (type_piece decl.ty ∷ []) shared in
      let o = nodes_first P (name_piece decl.name) (maybe init_piece decl.init) own in
      record {
        annots = nodes_each P annot_piece decl.mods.annots s.0;
        ty = (nodes_first P (type_piece decl.ty) [] s.1).0;
        name = (nodes_piece P decl.name.span [] o.0).0;
        init = nodes_maybe P init_piece decl.init o.1;
      }

  pub whole_decl_nodes : (decl : LocalDecl) → EachNode P (row (decl_pieces decl)) → DeclNodes P decl
  whole_decl_nodes decl all = let r = nodes_rows P (shared_pieces decl) (own_pieces decl) all in decl_nodes decl r.0 r.1

  pub params_nodes : (params : List LocalDecl) → EachNode P (row (params_pieces params)) → AllByRecursion (DeclNodes P) params
  params_nodes [] all = tt
  params_nodes (param ∷ params) all = let r = nodes_rows P (decl_pieces param) (params_pieces params) all in (whole_decl_nodes param r.0, params_nodes params r.1)

  further_nodes : (decls : List LocalDecl) → EachNode P (row (further_pieces decls)) → AllByRecursion (DeclNodes P) decls
  further_nodes [] all = tt
  further_nodes (decl ∷ decls) all =
      let f = nodes_first P (again (shared_pieces decl)) (own_pieces decl ++ further_pieces decls) all in
      let r = nodes_rows P (own_pieces decl) (further_pieces decls) f.1 in
      (decl_nodes decl (nodes_again P (shared_pieces decl) f.0) r.0, further_nodes decls r.1)

  pub locals_nodes : (decls : List LocalDecl) → EachNode P (row (locals_pieces decls)) → AllByRecursion (DeclNodes P) decls
  locals_nodes [] all = tt
  locals_nodes (decl ∷ decls) all = let r = nodes_rows P (decl_pieces decl) (further_pieces decls) all in (whole_decl_nodes decl r.0, further_nodes decls r.1)

  -- ---- members

  parent_nodes : (args : Option (List Expr)) → EachNode P (row (parent_pieces args)) → IfSome (ArgsNodes P) args
  parent_nodes None all = tt
  parent_nodes (Some args) all = nodes_each P expr_piece args all

  pub method_nodes : (method : MethodDecl) → EachNode P (method_piece method) → MethodNodes P method
  method_nodes method all =
      let body = map stmt_piece method.body in
      let parent = parent_pieces method.parent_args ++ body in
      let params = params_pieces method.params ++ parent in
      let named = name_piece method.name ∷ params in
      let typed = maybe type_piece method.result ++ named in
      let whole = nodes_piece P method.span (map annot_piece method.mods.annots ++ typed) all in
      let a = nodes_rows P (map annot_piece method.mods.annots) typed whole.1 in
      let t = nodes_rows P (maybe type_piece method.result) named a.1 in
      let n = nodes_first P (name_piece method.name) params t.1 in
      let p = nodes_rows P (params_pieces method.params) parent n.1 in
      let b = nodes_rows P (parent_pieces method.parent_args) body p.1 in
      record {
        span = whole.0;
        annots = nodes_each P annot_piece method.mods.annots a.0;
        result = nodes_maybe P type_piece method.result t.0;
        name = (nodes_piece P method.name.span [] n.0).0;
        params = params_nodes method.params p.0;
        parent_args = parent_nodes method.parent_args b.0;
        body = nodes_each P stmt_piece method.body b.1;
      }

  shared_nodes : (again_or_not : Bool) (decl : LocalDecl) → EachNode P (row (if again_or_not then again (shared_pieces decl) ∷ [] else shared_pieces decl)) → EachNode P (row (shared_pieces decl))
  shared_nodes true decl all = nodes_again P (shared_pieces decl) (nodes_first P (again (shared_pieces decl)) [] all).0
  shared_nodes false decl all = all

  pub members_nodes : (before : Option Span) (members : List Member) → EachNode P (row (members_pieces before members)) → AllByRecursion (MemberNodes P) members
  members_nodes before [] all = tt
  members_nodes before (Field decl ∷ members) all =
      let f = nodes_rows P (field_shared before decl) (own_pieces decl ++ members_pieces (Some decl.ty.span) members) all in
      let r = nodes_rows P (own_pieces decl) (members_pieces (Some decl.ty.span) members) f.1 in
      (decl_nodes decl (shared_nodes (same_span before decl.ty.span) decl f.0) r.0, members_nodes (Some decl.ty.span) members r.1)
  members_nodes before (Method method ∷ members) all = let r = nodes_first P (method_piece method) (members_pieces None members) all in (method_nodes method r.0, members_nodes None members r.1)

  -- ---- classes and sources

  pub class_nodes : (class : ClassDecl) → EachNode P (class_piece class) → ClassNodes P class
  class_nodes class all =
      let members = members_pieces None class.members in
      let whole = nodes_piece P class.span (name_piece class.name ∷ (maybe name_piece class.parent ++ members)) all in
      let n = nodes_first P (name_piece class.name) (maybe name_piece class.parent ++ members) whole.1 in
      let p = nodes_rows P (maybe name_piece class.parent) members n.1 in
      record {
        span = whole.0;
        name = (nodes_piece P class.name.span [] n.0).0;
        parent = named class.parent (nodes_maybe P name_piece class.parent p.0);
        members = members_nodes None class.members p.1;
      }
    where
      named : (parent : Option _) → IfSome (λ name. EachNode P (name_piece name)) parent → IfSome (λ name. P name.span) parent
      named None all = tt
      named (Some name) all = all.0

  pub source_nodes : (source : Source) → EachNode P (row (map class_piece source.classes)) → SourceNodes P source
  source_nodes source all = classes source.classes (nodes_each P class_piece source.classes all)
    where
      classes : (cs : List ClassDecl) → AllByRecursion (λ c. EachNode P (class_piece c)) cs → AllByRecursion (ClassNodes P) cs
      classes [] all = tt
      classes (class ∷ cs) all = (class_nodes class all.0, classes cs all.1)

-- ---- each node of a placed source stands in its text

pub placed_nodes : (end : ℕ) (source : Source) → Placed end source → SourceNodes (InText end) source
placed_nodes end source placed = source_nodes (InText end) source (laid_nodes end 0 0 end (row (map class_piece source.classes)) (omega arith) placed)
