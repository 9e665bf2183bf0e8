-- The guarded tree of an accepted source is accepted, and so is the tree of its guarded text.
use Rattle.std.proofs.Common.{◌≡◌, ℕ, ◌+◌, Bool, true, List, [], ◌∷◌, ◌++◌, map, Option, Some, None, refl, sym, ap, ap₂, subst, ◌∙◌}
use Rattle.std.specs.Prelude.{if◌then◌else◌}
use Rattle.std.proofs.lemmas.Bool.{and_parts}
use Rattle.ix_core.specs.declared.error.Error.{Error}
use Rattle.ix_tree.specs.declared.decl.ClassDecl.{ClassDecl}
use Rattle.ix_tree.specs.declared.decl.LocalDecl.{LocalDecl}
use Rattle.ix_tree.specs.declared.decl.Member.{Member}
use Rattle.ix_tree.specs.declared.decl.Member.TheVariants as member
use Rattle.ix_tree.specs.declared.decl.MethodDecl.{MethodDecl}
use Rattle.ix_tree.specs.declared.decl.Unit.{Unit as Source}
use Rattle.ix_meaning.specs.declared.members.Signature.{Signature}
use Rattle.ix_meaning.specs.declared.note.Note.{Note}
use Rattle.ix_meaning.specs.Annotated.{marked}
use Rattle.ix_meaning.specs.Bodies.{telling, all_told, declares_note}
use Rattle.ix_meaning.specs.Classes.{parents, is_cyclic}
use Rattle.ix_meaning.specs.Declarators as declared
use Rattle.ix_meaning.specs.Declarators.{first_of, field_in, members_behind}
use Rattle.ix_meaning.specs.Members.{World, world, methods, signature, next_member, next_fields}
use Rattle.ix_meaning.specs.Resolved.{Accepts, Names, names}
use Rattle.ix_meaning.specs.Rules.{duplicate_name}
use Rattle.ix_meaning.specs.Source as source
use Rattle.ix_meaning.specs.Source.{Place, place, member_named, is_taken, named_member, member_notes, method_notes, class_notes, head_notes, has_constructor, implicit_super_of, notes_from, notes}
use Rattle.ix_formed.specs.Readable.{is_readable_expr, is_readable_stmt, is_readable_method, is_readable_member, is_readable, is_readable_decl}
use Rattle.ix_formed.specs.Written.{each_true, maybe_true}
use Rattle.ix_formed.proofs.CleanNotes.{all_clean, clean_parts}
use Rattle.ix_guard.specs.Tests.{Site}
use Rattle.ix_guard.specs.Trees.{guarded_body, guarded_class, guarded_tree}
use Rattle.ix_guard_text.proofs.ErrorsAgain.{none_derived}
use Rattle.ix_guard_text.proofs.AccessesFit.{Clean}
use Rattle.ix_guard_text.proofs.TestsClean.{clean_both}
use Rattle.ix_guard_text.proofs.StatementsAccepted.{body_guards}
use Rattle.ix_guard_text.proofs.KeptWorlds.{guarded_members, guarded_classes, parents_kept, methods_kept, members_kept, next_fields_kept, world_kept, member_named_kept, has_constructor_kept}
use Rattle.ix_guard_text.proofs.KeptLimits.{limit_kept, inheritance_limit_kept}

-- notes in front stay
behind : (xs ys zs : List Note) → (Clean ys → Clean zs) → Clean (xs ++ ys) → Clean (xs ++ zs)
behind xs ys zs of c = let parts = clean_parts xs ys c in clean_both xs zs parts.0 (of parts.1)

module _ (site : Site) where
  method_clean : (l : Place) (m : Signature) (d : MethodDecl) → is_readable_method d ≡ true → Clean (method_notes l m d) → Clean (method_notes l m (record d { body = guarded_body site d.body }))
  method_clean l m d e =
      let head = source.head_scope l m d in
      let body = source.body_scope l m d in
      let result = source.result_given l head m d in
      let given = source.method_given l head m d.mods.annots in
      let told = (all_told (map telling d.body)).notes body in
      let made = (all_told (map telling (guarded_body site d.body))).notes body in
      let supers = source.super_notes l body d in
      let params = source.param_notes l head [] 0 d.params in
      let declares = declares_note d.name.span m.result (marked result.claims given) in
      let fine = (and_parts (maybe_true (each_true is_readable_expr) d.parent_args) (each_true is_readable_stmt d.body) e).1 in
      let a = behind supers told made ((body_guards site d.body fine).clean body refl) in
      let b = behind params (supers ++ told) (supers ++ made) a in
      let c = behind declares (params ++ (supers ++ told)) (params ++ (supers ++ made)) b in
      let f = behind given.notes (declares ++ (params ++ (supers ++ told))) (declares ++ (params ++ (supers ++ made))) c in
      let g = behind result.notes (given.notes ++ (declares ++ (params ++ (supers ++ told)))) (given.notes ++ (declares ++ (params ++ (supers ++ made)))) f in
      let h = behind (source.inherited_notes l m) (result.notes ++ (given.notes ++ (declares ++ (params ++ (supers ++ told))))) (result.notes ++ (given.notes ++ (declares ++ (params ++ (supers ++ made))))) g in
      behind (source.constructor_notes l d) (source.inherited_notes l m ++ (result.notes ++ (given.notes ++ (declares ++ (params ++ (supers ++ told))))))
      (source.inherited_notes l m ++ (result.notes ++ (given.notes ++ (declares ++ (params ++ (supers ++ made)))))) h

  -- ---- members and classes

  members_clean : (l : Place) (named : List ℕ → Option ℕ) (i next : ℕ) (first : Option LocalDecl) (ms : List Member) → each_true is_readable_member ms ≡ true
      → Clean (member_notes l named i next (members_behind first ms)) → Clean (member_notes l named i next (guarded_members site (members_behind first ms)))
  members_clean l named i next first [] e c = tt
  members_clean l named i next first (member.Field d ∷ ms) e c =
      let own = member.Field (field_in first d) in
      let later = Some (first_of first d) in
      let after = next_member next own in
      behind (named_member l named i next own) (member_notes l named (i + 1) after (members_behind later ms)) (member_notes l named (i + 1) after (guarded_members site (members_behind later ms)))
      (members_clean l named (i + 1) after later ms (and_parts (is_readable_decl d) (each_true is_readable_member ms) e).1) c
  members_clean l named i next first (member.Method m ∷ ms) e c =
      let fine = and_parts (is_readable_method m) (each_true is_readable_member ms) e in
      let of = signature l.world.class l.class m in
      let taken = duplicate_name (is_taken (named m.name.text) i) m.name.span in
      let made = method_notes l of (record m { body = guarded_body site m.body }) in
      let parts = clean_parts (taken ++ method_notes l of m) (member_notes l named (i + 1) next (members_behind None ms)) c in
      clean_both (taken ++ made) (member_notes l named (i + 1) next (guarded_members site (members_behind None ms))) (behind taken (method_notes l of m) made (method_clean l of m fine.0) parts.0)
      (members_clean l named (i + 1) next None ms fine.1 parts.1)

  class_clean : (w : World) (ps : List (Option ℕ)) (ms : List Signature) (c next : ℕ) (k : ClassDecl) → each_true is_readable_member k.members ≡ true
      → Clean (class_notes w ps ms c next k) → Clean (class_notes w ps ms c next (guarded_class site k))
  class_clean w ps ms c next k e said =
      let l = place w ms c k in
      let head = head_notes w (is_cyclic ps c) c k in
      let default = λ (b : Bool). if b then [] else implicit_super_of w (w.parent c) k.name.span in
      let own = declared.members k.members in
      let all = λ (named : List ℕ → Option ℕ) (members : List Member) (b : Bool). head ++ (member_notes l named 0 next members ++ default b) in
      let named = member_named k.members in
      let has = has_constructor k.members in
      let first = clean_parts head (member_notes l named 0 next own ++ default has) said in
      let second = clean_parts (member_notes l named 0 next own) (default has) first.1 in
      let here : Clean (all named (guarded_members site own) has) =
      clean_both head (member_notes l named 0 next (guarded_members site own) ++ default has) first.0
      (clean_both (member_notes l named 0 next (guarded_members site own)) (default has) (members_clean l named 0 next None k.members e second.0) second.1) in
      subst (λ (n : List ℕ → Option ℕ). Clean (all n (declared.members (guarded_members site k.members)) (has_constructor (guarded_members site k.members)))) (sym (member_named_kept site k.members))
      (subst (λ (members : List Member). Clean (all named members (has_constructor (guarded_members site k.members)))) (sym (members_kept site k.members))
      (subst (λ (b : Bool). Clean (all named (guarded_members site own) b)) (sym (has_constructor_kept site k.members)) here))

  classes_clean : (w : World) (ps : List (Option ℕ)) (ms : List Signature) (c next : ℕ) (ks : List ClassDecl) → is_readable ks ≡ true
      → Clean (notes_from w ps ms c next ks) → Clean (notes_from w ps ms c next (guarded_classes site ks))
  classes_clean w ps ms c next [] e said = tt
  classes_clean w ps ms c next (k ∷ ks) e said =
      let fine = and_parts (each_true is_readable_member k.members) (is_readable ks) e in
      let parts = clean_parts (class_notes w ps ms c next k) (notes_from w ps ms (c + 1) (next_fields next k.members) ks) said in
      let made = class_notes w ps ms c next (guarded_class site k) in
      subst (λ n. Clean (made ++ notes_from w ps ms (c + 1) n (guarded_classes site ks))) (sym (next_fields_kept site next k.members))
      (clean_both made (notes_from w ps ms (c + 1) (next_fields next k.members) (guarded_classes site ks)) (class_clean w ps ms c next k fine.0 parts.0)
      (classes_clean w ps ms (c + 1) (next_fields next k.members) ks fine.1 parts.1))

  notes_are : (ks : List ClassDecl) → notes (guarded_classes site ks) ≡ notes_from (world ks) (parents ks) (methods ks) 0 0 (guarded_classes site ks)
  notes_are ks =
      let made = guarded_classes site ks in
      ap₂ (λ (w : World) (ps : List (Option ℕ)). notes_from w ps (methods made) 0 0 made) (world_kept site ks) (parents_kept site ks)
      ∙ ap (λ (ms : List Signature). notes_from (world ks) (parents ks) ms 0 0 made) (methods_kept site ks)

  notes_clean : (ks : List ClassDecl) → is_readable ks ≡ true → Clean (notes ks) → Clean (notes (guarded_classes site ks))
  notes_clean ks e said = subst Clean (sym (notes_are ks)) (classes_clean (world ks) (parents ks) (methods ks) 0 0 ks e said)

-- The guarded tree of an accepted source is accepted, whatever its errors and whatever its names are taken to mean.
pub guarded_accepts_with : (unit : Source) (meanings : Names) (errors : List Error) → is_readable unit.classes ≡ true → Accepts unit → Accepts (guarded_tree unit meanings errors)
guarded_accepts_with unit meanings errors fine accepts =
    let site : Site = record { names = meanings; errors = errors } in
    let ks = unit.classes in
    record {
      within = limit_kept site ks ∙ accepts.within;
      no_errors = none_derived (notes (guarded_classes site ks)) (notes_clean site ks fine (all_clean (notes ks) accepts.no_errors));
      few_inherited = inheritance_limit_kept site ks ∙ accepts.few_inherited;
    }

-- The guarded tree of an accepted source is accepted.
pub guarded_accepts : (unit : Source) (errors : List Error) → is_readable unit.classes ≡ true → Accepts unit → Accepts (guarded_tree unit (names unit) errors)
guarded_accepts unit errors fine accepts = guarded_accepts_with unit (names unit) errors fine accepts
