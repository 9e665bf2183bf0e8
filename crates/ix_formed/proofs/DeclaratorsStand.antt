-- Of the declarators of a declaration each stands, with the annotations that it has, where the whole is laid out.
use Rattle.std.proofs.Common.{ℕ, Bool, true, false, List, [], ◌∷◌, ◌++◌, map, Option, Some, None}
use Rattle.std.specs.List.{AllByRecursion}
use Rattle.std.specs.Prelude.{nat_lt, if◌then◌else◌}
use Rattle.ix_tree.specs.declared.annot.Annot.{Annot}
use Rattle.ix_tree.specs.declared.annot.TypeTree.{TypeTree}
use Rattle.ix_tree.specs.declared.decl.LocalDecl.{LocalDecl}
use Rattle.ix_tree.specs.declared.decl.Member.{Member}
use Rattle.ix_tree.specs.declared.decl.Member.TheVariants as member
use Rattle.ix_tree.specs.Placed.{Layout, nothing, node, copy, followed, row, annot_piece, base_pieces}
use Rattle.ix_annot.specs.Table.{counted}
use Rattle.ix_meaning.specs.Declarators.{counting, counting_behind, further, declarators, is_further, annots_before, annots_behind, first_of, members_behind}
use Rattle.ix_formed.specs.EachNode.{InText, IfSome, TypeNodes, DeclNodes, MemberNodes}
use Rattle.ix_formed.proofs.ListsJoin.{all_joined}
use Rattle.ix_formed.proofs.PiecesLie.{Lies, AllLie}
use Rattle.ix_formed.proofs.TypesStand.{AnnotsStand, some_stand, type_stands}

module _ (end : ℕ) where
  followed_lies : (a b : Layout) → Lies end a → Lies end b → Lies end (followed a b)
  followed_lies nothing b x y = y
  followed_lies (node span parts later) b x y = (x.0, x.1, followed_lies later b x.2 y)
  followed_lies (copy parts later) b x y = (x.0, followed_lies later b x.1 y)

  rows_lie : (pieces : List Layout) → AllLie end pieces → Lies end (row pieces)
  rows_lie [] h = tt
  rows_lie (piece ∷ pieces) h = followed_lies piece (row pieces) h.0 (rows_lie pieces h.1)

  annots_lie : (annots : List Annot) → AnnotsStand end annots → AllLie end (map annot_piece annots)
  annots_lie [] h = tt
  annots_lie (annot ∷ annots) h = (h.0, annots_lie annots h.1)

  type_with : (ty : TypeTree) (annots : List Annot) → TypeNodes (InText end) ty → AnnotsStand end annots → TypeNodes (InText end) (record ty { annots = annots })
  type_with ty annots h a =
      (h.0, rows_lie (base_pieces ty.base ++ map annot_piece annots) (all_joined (Lies end) (base_pieces ty.base) (map annot_piece annots) (type_stands end ty h).base (annots_lie annots a)), tt)

  counting_stand : (annots : List Annot) → AnnotsStand end annots → AnnotsStand end (counting annots)
  counting_stand annots h = some_stand end (λ annot. nat_lt 0 (counted annot)) annots h

  counting_behind_stand : (first d : LocalDecl) → DeclNodes (InText end) first → AnnotsStand end (counting_behind first d)
  counting_behind_stand first d f = array_or_not (nat_lt 0 d.ty.depth)
    where
      array_or_not : (b : Bool) → AnnotsStand end (if b then counting first.ty.annots else [])
      array_or_not true = counting_stand first.ty.annots (type_stands end first.ty f.ty).annots
      array_or_not false = tt

  -- ---- locals

  further_nodes : (first d : LocalDecl) → DeclNodes (InText end) first → DeclNodes (InText end) d → DeclNodes (InText end) (further first d)
  further_nodes first d f h = record {
    annots = counting_stand first.mods.annots f.annots;
    ty = type_with d.ty (counting_behind first d) h.ty (counting_behind_stand first d f);
    name = h.name;
    init = h.init;
  }

  all_further : (first : LocalDecl) (ds : List LocalDecl) → DeclNodes (InText end) first → AllByRecursion (DeclNodes (InText end)) ds → AllByRecursion (DeclNodes (InText end)) (map (further first) ds)
  all_further first [] f h = tt
  all_further first (d ∷ ds) f h = (further_nodes first d f h.0, all_further first ds f h.1)

  pub declarators_nodes : (ds : List LocalDecl) → AllByRecursion (DeclNodes (InText end)) ds → AllByRecursion (DeclNodes (InText end)) (declarators ds)
  declarators_nodes [] h = tt
  declarators_nodes (d ∷ ds) h = (h.0, all_further d ds h.0 h.1)

  -- ---- fields

  before_stands : (first : Option LocalDecl) (d : LocalDecl) → IfSome (DeclNodes (InText end)) first → DeclNodes (InText end) d → AnnotsStand end (annots_before first d)
  before_stands None d f h = h.annots
  before_stands (Some first) d f h = further_or_not (is_further (Some first) d)
    where
      further_or_not : (b : Bool) → AnnotsStand end (if b then counting first.mods.annots else d.mods.annots)
      further_or_not true = counting_stand first.mods.annots f.annots
      further_or_not false = h.annots

  behind_stands : (first : Option LocalDecl) (d : LocalDecl) → IfSome (DeclNodes (InText end)) first → DeclNodes (InText end) d → AnnotsStand end (annots_behind first d)
  behind_stands None d f h = (type_stands end d.ty h.ty).annots
  behind_stands (Some first) d f h = further_or_not (is_further (Some first) d)
    where
      further_or_not : (b : Bool) → AnnotsStand end (if b then counting_behind first d else d.ty.annots)
      further_or_not true = counting_behind_stand first d f
      further_or_not false = (type_stands end d.ty h.ty).annots

  first_nodes : (first : Option LocalDecl) (d : LocalDecl) → IfSome (DeclNodes (InText end)) first → DeclNodes (InText end) d → DeclNodes (InText end) (first_of first d)
  first_nodes None d f h = h
  first_nodes (Some first) d f h = further_or_not (is_further (Some first) d)
    where
      further_or_not : (b : Bool) → DeclNodes (InText end) (if b then first else d)
      further_or_not true = f
      further_or_not false = h

  pub members_nodes : (first : Option LocalDecl) (ms : List Member) → IfSome (DeclNodes (InText end)) first → AllByRecursion (MemberNodes (InText end)) ms
      → AllByRecursion (MemberNodes (InText end)) (members_behind first ms)
  members_nodes first [] f h = tt
  members_nodes first (member.Field d ∷ ms) f h = (
    record { annots = before_stands first d f h.0; ty = type_with d.ty (annots_behind first d) h.0.ty (behind_stands first d f h.0); name = h.0.name; init = h.0.init },
    members_nodes (Some (first_of first d)) ms (first_nodes first d f h.0) h.1,
  )
  members_nodes first (member.Method m ∷ ms) f h = (h.0, members_nodes None ms tt h.1)
