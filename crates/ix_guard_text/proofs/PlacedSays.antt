-- The notes of a guarded text are those of its source, each at its place moved, with new ones between them: its names say at each place moved what the source's say at the place.
use Rattle.std.proofs.Common.{◌≡◌, ℕ, ◌+◌, Bool, List, [], ◌++◌, map, Option, None, sym, ap, ap₂, subst, ◌∙◌}
use Rattle.std.specs.Prelude.{if◌then◌else◌}
use Rattle.ix_text.specs.declared.span.Span.{Span}
use Rattle.ix_tree.specs.declared.annot.Ident.{Ident}
use Rattle.ix_tree.specs.declared.annot.Mods.{Mods}
use Rattle.ix_tree.specs.declared.annot.TypeTree.{TypeTree}
use Rattle.ix_tree.specs.declared.decl.ClassDecl.{ClassDecl}
use Rattle.ix_tree.specs.declared.decl.LocalDecl.{LocalDecl}
use Rattle.ix_tree.specs.declared.decl.Member.{Member}
use Rattle.ix_tree.specs.declared.decl.Member.TheVariants as member
use Rattle.ix_tree.specs.declared.decl.MethodDecl.{MethodDecl}
use Rattle.ix_tree.specs.declared.decl.Unit.{Unit as Source}
use Rattle.ix_tree.specs.declared.expr.Expr.{Expr}
use Rattle.ix_tree.specs.declared.stmt.Stmt.{Stmt}
use Rattle.ix_meaning.specs.declared.members.Signature.{Signature}
use Rattle.ix_meaning.specs.declared.note.Note.{Note}
use Rattle.ix_meaning.specs.Annotated.{marked}
use Rattle.ix_meaning.specs.Bodies.{declares_note}
use Rattle.ix_meaning.specs.Classes.{parents, is_cyclic}
use Rattle.ix_meaning.specs.Declarators as declared
use Rattle.ix_meaning.specs.Members.{World, world, methods, signature, next_member, next_fields}
use Rattle.ix_meaning.specs.Resolved.{names}
use Rattle.ix_meaning.specs.Rules.{duplicate_name}
use Rattle.ix_meaning.specs.Source as source
use Rattle.ix_meaning.specs.Source.{Place, place, member_named, is_taken, named_member, member_notes, method_notes, class_notes, head_notes, has_constructor, implicit_super_of, notes_from, notes}
use Rattle.ix_guard_text.specs.Bare.{bare_maybe as maybe}
use Rattle.ix_guard.specs.Tests.{Site}
use Rattle.ix_guard_text.specs.Moved.{Move, moved_name, moved_type, moved_mods, moved_decl, moved_method, moved_member, moved_class, moved_source}
use Rattle.ix_guard_text.specs.TestParts.{IsWritten}
use Rattle.ix_guard_text.specs.GuardedNames.{SaysMoved}
use Rattle.ix_guard_text.specs.GuardedPlaces as q
use Rattle.ix_guard_text.specs.GuardedPlaces.{Each, PlacedMethod, PlacedMember, PlacedClass, PlacedSource}
use Rattle.ix_guard_text.specs.WithNew.{WithNew}
use Rattle.ix_guard_text.proofs.GrownWorlds.{GrownMethod, GrownClass, GrownMembers, GrownClasses, same_field, grown_method, parents_same, methods_same, behind_grown, next_fields_same, world_same, member_named_same, has_constructor_same}
use Rattle.ix_guard_text.proofs.NotesWithNew.{all_kept, kept_both, meaning_kept, type_kept, declared_kept}
use Rattle.ix_guard_text.proofs.StatementsWithNew.{list_grows}

module _ (move : Move) where
  -- ---- notes of a source whose bodies have grown

  behind : (xs : List Note) {ys zs : List Note} → WithNew move ys zs → WithNew move (xs ++ ys) (xs ++ zs)
  behind xs a = kept_both move (all_kept move xs) a

  method_grows : (l : Place) (m : Signature) (old new : MethodDecl) → GrownMethod move old new → WithNew move (method_notes l m old) (method_notes l m new)
  method_grows l m old new is =
      let head = source.head_scope l m old in
      let body = source.body_scope l m old in
      let result = source.result_given l head m old in
      let given = source.method_given l head m old.mods.annots in
      subst (λ (x : MethodDecl). WithNew move (method_notes l m old) (method_notes l m x)) (sym is.like)
      (behind (source.constructor_notes l old) (behind (source.inherited_notes l m) (behind result.notes (behind given.notes (behind (declares_note old.name.span m.result (marked result.claims given))
      (behind (source.param_notes l head [] 0 old.params) (behind (source.super_notes l body old) (is.body.notes body))))))))

  members_grow : (l : Place) (named : List ℕ → Option ℕ) (i next : ℕ) {olds news : List Member} → GrownMembers move olds news → WithNew move (member_notes l named i next olds) (member_notes l named i next news)
  members_grow l named i next q.none = all_kept move []
  members_grow l named i next (q.one_more (same_field d) rest) = behind (named_member l named i next (member.Field d)) (members_grow l named (i + 1) (next_member next (member.Field d)) rest)
  members_grow l named i next (q.one_more {x} {y} {xs} {ys} (grown_method {old} {new} is) rest) =
      let taken = λ (d : MethodDecl). duplicate_name (is_taken (named d.name.text) i) d.name.span in
      let of = λ (d : MethodDecl). signature l.world.class l.class d in
      let own : WithNew move (taken old ++ method_notes l (of old) old) (taken new ++ method_notes l (of new) new) =
      subst (λ (x : MethodDecl). WithNew move (taken old ++ method_notes l (of old) old) (taken x ++ method_notes l (of x) new)) (sym is.like) (behind (taken old) (method_grows l (of old) old new is)) in
      kept_both move own (members_grow l named (i + 1) next rest)

  class_grows : (w : World) (ps : List (Option ℕ)) (ms : List Signature) (c next : ℕ) (old new : ClassDecl) → GrownClass move old new → WithNew move (class_notes w ps ms c next old) (class_notes w ps ms c next new)
  class_grows w ps ms c next old new is =
      let l = place w ms c old in
      let head = head_notes w (is_cyclic ps c) c old in
      let default = λ (b : Bool). if b then [] else implicit_super_of w (w.parent c) old.name.span in
      let all = λ (named : List ℕ → Option ℕ) (b : Bool). head ++ (member_notes l named 0 next (declared.members new.members) ++ default b) in
      let before = class_notes w ps ms c next old in
      let here : WithNew move before (all (member_named old.members) (has_constructor old.members)) =
      behind head (kept_both move (members_grow l (member_named old.members) 0 next (behind_grown move None is.members)) (all_kept move (default (has_constructor old.members)))) in
      subst (λ (x : ClassDecl). WithNew move before (class_notes w ps ms c next x)) (sym is.like)
      (subst (λ (n : List ℕ → Option ℕ). WithNew move before (all n (has_constructor new.members))) (sym (member_named_same move is.members))
      (subst (λ (b : Bool). WithNew move before (all (member_named old.members) b)) (sym (has_constructor_same move is.members)) here))

  classes_grow : (w : World) (ps : List (Option ℕ)) (ms : List Signature) (c next : ℕ) {olds news : List ClassDecl} → GrownClasses move olds news → WithNew move (notes_from w ps ms c next olds) (notes_from w ps ms c next news)
  classes_grow w ps ms c next q.none = all_kept move []
  classes_grow w ps ms c next (q.one_more {x} {y} {xs} {ys} is rest) =
      kept_both move (class_grows w ps ms c next x y is)
      (subst (λ (n : ℕ). WithNew move (notes_from w ps ms (c + 1) (next_fields next x.members) xs) (notes_from w ps ms (c + 1) n ys)) (sym (next_fields_same move next is.members))
      (classes_grow w ps ms (c + 1) (next_fields next x.members) rest))

  notes_grow : {olds news : List ClassDecl} → GrownClasses move olds news → WithNew move (notes olds) (notes news)
  notes_grow {olds} {news} are =
      let same : notes news ≡ notes_from (world olds) (parents olds) (methods olds) 0 0 news =
      ap₂ (λ (w : World) (ps : List (Option ℕ)). notes_from w ps (methods news) 0 0 news) (world_same move are) (parents_same move are)
      ∙ ap (λ (ms : List Signature). notes_from (world olds) (parents olds) ms 0 0 news) (methods_same move are) in
      subst (λ (ns : List Note). WithNew move (notes olds) ns) (sym same) (classes_grow (world olds) (parents olds) (methods olds) 0 0 are)

  -- ---- beside a source

  module _ (site : Site) where
    abbrev as_method : Mods → Option TypeTree → Bool → Ident → List LocalDecl → Option (List Expr) → List Stmt → Span → MethodDecl
    as_method mods result constructor name params parent_args body span =
        record { mods = mods; result = result; constructor = constructor; name = name; params = params; parent_args = parent_args; body = body; span = span }

    method_grown : (old new : MethodDecl) → PlacedMethod site move (IsWritten move) old new → GrownMethod move (moved_method move old) new
    method_grown old new is = record {
      like = ap₂ (λ (mods : Mods) (result : Option TypeTree). as_method mods result new.constructor new.name new.params new.parent_args new.body new.span) is.mods is.result
          ∙ ap₂ (λ (constructor : Bool) (name : Ident). as_method (moved_mods move old.mods) (maybe (moved_type move) old.result) constructor name new.params new.parent_args new.body new.span) is.constructor is.name
          ∙ ap₂ (λ (params : List LocalDecl) (args : Option (List Expr)). as_method (moved_mods move old.mods) (maybe (moved_type move) old.result) old.constructor (moved_name move old.name) params args new.body new.span)
          is.params is.parent_args;
      body = list_grows move site is.body;
    }

    members_grown : {olds news : List Member} → Each (PlacedMember site move (IsWritten move)) olds news → GrownMembers move (map (moved_member move) olds) news
    members_grown q.none = q.none
    members_grown (q.one_more (q.field d) rest) = q.one_more (same_field (moved_decl move d)) (members_grown rest)
    members_grown (q.one_more (q.method {old} {new} is) rest) = q.one_more (grown_method (method_grown old new is)) (members_grown rest)

    abbrev as_class : Ident → Option Ident → List Member → Span → ClassDecl
    as_class name parent members span = record { name = name; parent = parent; members = members; span = span }

    pub classes_grown : {olds news : List ClassDecl} → Each (PlacedClass site move (IsWritten move)) olds news → GrownClasses move (map (moved_class move) olds) news
    classes_grown q.none = q.none
    classes_grown (q.one_more {x} {y} is rest) =
        q.one_more (record { like = ap₂ (λ (name : Ident) (parent : Option Ident). as_class name parent y.members y.span) is.name is.parent; members = members_grown is.members }) (classes_grown rest)

    -- The notes of a guarded text are those of the moved source with new ones between them.
    pub placed_notes : (unit other : Source) → PlacedSource site move (IsWritten move) unit other → WithNew move (notes (moved_source move unit).classes) (notes other.classes)
    placed_notes unit other placed = notes_grow (classes_grown placed)

    -- Its names say at each place moved what the source's say at the place, where those of the moved source do.
    pub placed_says : (unit other : Source) → PlacedSource site move (IsWritten move) unit other → SaysMoved (names unit) (names (moved_source move unit)) move → SaysMoved (names unit) (names other) move
    placed_says unit other placed says =
        let more = placed_notes unit other placed in
        record {
          meaning = λ span. meaning_kept move span more ∙ says.meaning span;
          type_of = λ span. type_kept move span more ∙ says.type_of span;
          declared = λ span. declared_kept move span more ∙ says.declared span;
        }
