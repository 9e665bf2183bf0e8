-- What a test says stands at its parts, which are new.
use Rattle.std.proofs.Common.{ℕ, Bool, true, false, List, [], ◌∷◌, ◌++◌, Option, Some, None}
use Rattle.std.specs.Prelude.{if◌then◌else◌, not, ◌&&◌, bytes_eq, codes}
use Rattle.ix_text.specs.declared.span.Span.{Span}
use Rattle.ix_core.specs.declared.claim.Base.TheVariants as base
use Rattle.ix_core.specs.declared.claim.Type_.{Type_}
use Rattle.ix_core.specs.declared.claim.Type_.TheVariants as type
use Rattle.ix_tree.specs.declared.annot.Ident.{Ident}
use Rattle.ix_meaning.specs.declared.members.Field.{Field}
use Rattle.ix_meaning.specs.declared.note.Meaning.{Meaning}
use Rattle.ix_meaning.specs.declared.note.Meaning.TheVariants.{LengthOf}
use Rattle.ix_meaning.specs.declared.note.Note.{Note}
use Rattle.ix_meaning.specs.declared.note.Note.TheVariants.{Use}
use Rattle.ix_meaning.specs.declared.note.Rule.{Rule}
use Rattle.ix_meaning.specs.declared.note.Rule.TheVariants as rule
use Rattle.ix_meaning.specs.Members.{World, field_named}
use Rattle.ix_meaning.specs.Rules as rules
use Rattle.ix_meaning.specs.Scope.{Scope, Known, meant, is_pending}
use Rattle.ix_meaning.specs.Types.{int, boolean, Need, unknown, never, printed, of, need_like, is_reference, Judged, judged, typed, type_note, wrong_if}
use Rattle.ix_meaning.specs.Values as values
use Rattle.ix_meaning.specs.Values.{Reading, Object, no_object, of_class, value, check, fitted, as_object}
use Rattle.ix_formed.specs.Additions.{AllOf}
use Rattle.ix_guard.specs.Accesses.{Access}
use Rattle.ix_guard_text.specs.Moved.{Move}
use Rattle.ix_guard_text.specs.TestParts.{Parts, begins, IsNew, IsWritten}
use Rattle.ix_guard_text.proofs.NotesWithNew.{AllNew}
use Rattle.ix_guard_text.proofs.TestsRead.{name_reading, zero_reading, length_reading, null_test, negative_test, high_test, first_two, condition_reading}

module _ (move : Move) where
  abbrev New : List Note → Type 0
  New notes = AllNew move notes

  pub new_both : (xs ys : List Note) → New xs → New ys → New (xs ++ ys)
  new_both [] ys a b = b
  new_both (x ∷ xs) ys a b = (a.0, new_both xs ys a.1 b)

  -- ---- rules

  broken_new : (broken : Bool) (r : Rule) (p : Span) → IsNew move p.from → New (wrong_if broken r p)
  broken_new true r p n = (n, tt)
  broken_new false r p n = tt

  type_new : (ty : Option Type_) (p : Span) → IsNew move p.from → New (type_note ty p)
  type_new None p n = tt
  type_new (Some ty) p n = (n, tt)

  mismatch_new : (w : World) (need : Need) (ty : Option Type_) (p : Span) → IsNew move p.from → New (rules.type_mismatch w need ty p)
  mismatch_new w need None p n = tt
  mismatch_new w need (Some ty) p n = broken_new (not (rules.has_fitting_type w need ty)) rule.TypeMismatch p n

  null_mismatch_new : (need : Need) (p : Span) → IsNew move p.from → New (rules.null_mismatch need p)
  null_mismatch_new unknown p n = tt
  null_mismatch_new never p n = (n, tt)
  null_mismatch_new printed p n = (n, tt)
  null_mismatch_new (of ty) p n = broken_new (not (is_reference ty)) rule.TypeMismatch p n

  null_new : (need : Need) (p : Span) → IsNew move p.from → New (values.null_at need p).notes
  null_new need p n = new_both (rules.null_mismatch need p) (type_note (values.null_type need) p) (null_mismatch_new need p n) (type_new (values.null_type need) p n)

  use_new : (m : Option Meaning) (p : Span) → IsNew move p.from → New (rules.use_of m p)
  use_new None p n = tt
  use_new (Some m) p n = (n, tt)

  typed_new : (p : Span) (j : Judged) → New j.notes → IsNew move p.from → New (typed p j).notes
  typed_new p j a n = new_both j.notes (type_note j.ty p) a (type_new j.ty p n)

  fitted_new : (w : World) (need : Need) (p : Span) (j : Judged) → New j.notes → IsNew move p.from → New (fitted w need p j).notes
  fitted_new w need p j a n = new_both j.notes (rules.type_mismatch w need j.ty p) a (mismatch_new w need j.ty p n)

  -- ---- names

  field_use_new : (s : Scope) (through : Bool) (p : Span) (f : Field) → IsNew move p.from → New (values.field_use s false through p f)
  field_use_new s through p f n = new_both (rules.use_of f.meaning p) (rules.final_assigned s.in_constructor s.class false through f p) (use_new f.meaning p n) tt

  variable_new : (s : Scope) (name : Ident) → IsNew move name.span.from → New (values.variable s false name).notes
  variable_new s name n = by_pending (is_pending s.pending name.text)
    where
      by_field : (f : Option Field) → New (values.bare_field s false name.span f).notes
      by_field None = (n, tt)
      by_field (Some f) = new_both (rules.not_static s f.is_static name.span) (values.field_use s false true name.span f)
          (broken_new (not s.has_object && not f.is_static) rule.NotStatic name.span n) (field_use_new s true name.span f n)

      by_known : (k : Option Known) → New (values.known_or s false name k).notes
      by_known None = by_field (field_named s.world s.class name.text)
      by_known (Some k) = (n, tt)

      by_pending : (b : Bool) → New (if b then judged None (rules.unknown_name name.span) else values.known_or s false name (meant name.text s.names)).notes
      by_pending true = (n, tt)
      by_pending false = by_known (meant name.text s.names)

  reference_new : (ty : Option Type_) (p : Span) → IsNew move p.from → New (values.no_reference ty p)
  reference_new None p n = tt
  reference_new (Some ty) p n = broken_new (not (is_reference ty)) rule.TypeMismatch p n

  object_new : (j : Judged) (p : Span) → New j.notes → IsNew move p.from → New (as_object j p).notes
  object_new j p a n = new_both j.notes (values.object_notes j.ty p) a (new_both (type_note j.ty p) (values.no_reference j.ty p) (type_new j.ty p n) (reference_new j.ty p n))

  before_dot_new : (s : Scope) (name : Ident) (p : Span) → IsNew move name.span.from → IsNew move p.from → New (values.name_before_dot s name p).notes
  before_dot_new s name p a n = by_variable (values.is_variable s name.text)
    where
      object : New (as_object (values.variable s false name) p).notes
      object = object_new (values.variable s false name) p (variable_new s name a) n

      by_class : (c : Option ℕ) → New (values.class_or s name p c).notes
      by_class None = object
      by_class (Some c) = (a, tt)

      by_variable : (b : Bool) → New (if b then as_object (values.variable s false name) p else values.class_or s name p (s.world.class name.text)).notes
      by_variable true = object
      by_variable false = by_class (s.world.class name.text)

  length_new : (name : Ident) → IsNew move name.span.from → New (values.array_length false name).notes
  length_new name n = by (bytes_eq name.text (codes "length"))
    where
      by : (b : Bool) → New (if b then judged (Some int) (Use name.span LengthOf ∷ rules.not_assignable false name.span) else judged None (rules.unknown_name name.span)).notes
      by true = (n, tt)
      by false = (n, tt)

  selected_new : (s : Scope) (through : Bool) (name : Ident) → IsNew move name.span.from → (object : Object) → New (values.selected s false through name object).notes
  selected_new s through name n no_object = tt
  selected_new s through name n (of_class c) = by_field (field_named s.world c name.text)
    where
      by_field : (f : Option Field) → New (values.class_field s false name f).notes
      by_field None = (n, tt)
      by_field (Some f) =
          new_both (rules.not_static_in_class f.is_static name.span) (values.field_use s false false name.span f) (broken_new (not f.is_static) rule.NotStatic name.span n) (field_use_new s false name.span f n)
  selected_new s through name n (value (type.Plain (base.Class c))) = by_field (field_named s.world c name.text)
    where
      by_field : (f : Option Field) → New (values.instance_field s false through name f).notes
      by_field None = (n, tt)
      by_field (Some f) = field_use_new s through name.span f n
  selected_new s through name n (value (type.Plain base.Int)) = length_new name n
  selected_new s through name n (value (type.Plain base.Bool)) = length_new name n
  selected_new s through name n (value type.Void) = length_new name n
  selected_new s through name n (value (type.Array element depth claims)) = length_new name n

  -- ---- the test

  -- each part of a test is new
  record AreNew (p : Parts) : Type 0 where
    null_array : IsNew move p.null_array.span.from
    negative_index : IsNew move p.negative_index.span.from
    high_index : IsNew move p.high_index.span.from
    length_array : IsNew move p.length_array.span.from
    length : IsNew move p.length.span.from
    null : IsNew move p.null.from
    zero : IsNew move p.zero.from
    selection : IsNew move p.selection.from
    is_null : IsNew move p.is_null.from
    is_negative : IsNew move p.is_negative.from
    is_too_high : IsNew move p.is_too_high.from
    first_two : IsNew move p.first_two.from
    condition : IsNew move p.condition.from

  are_new : (p : Parts) → AllOf (IsNew move) (begins p) → AreNew p
  are_new p all = record {
    null_array = all.0;
    negative_index = all.1.0;
    high_index = all.1.1.0;
    length_array = all.1.1.1.0;
    length = all.1.1.1.1.0;
    null = all.1.1.1.1.1.1.0;
    zero = all.1.1.1.1.1.1.1.0;
    selection = all.1.1.1.1.1.1.1.1.0;
    is_null = all.1.1.1.1.1.1.1.1.1.0;
    is_negative = all.1.1.1.1.1.1.1.1.1.1.0;
    is_too_high = all.1.1.1.1.1.1.1.1.1.1.1.0;
    first_two = all.1.1.1.1.1.1.1.1.1.1.1.1.0;
    condition = all.1.1.1.1.1.1.1.1.1.1.1.1.1.0;
  }

  module _ (s : Scope) (p : Parts) (n : AreNew p) where
    array_new : New (typed p.null_array.span (values.variable s false p.null_array)).notes
    array_new = typed_new p.null_array.span (values.variable s false p.null_array) (variable_new s p.null_array n.null_array) n.null_array

    index_new : (name : Ident) → IsNew move name.span.from → New (check (name_reading name) s (of int)).notes
    index_new name new = fitted_new s.world (of int) name.span (typed name.span (values.variable s false name)) (typed_new name.span (values.variable s false name) (variable_new s name new) new) new

    truth_new : (span : Span) (notes : List Note) → IsNew move span.from → New notes → New (fitted s.world (of boolean) span (typed span (judged (Some boolean) notes))).notes
    truth_new span notes new a = fitted_new s.world (of boolean) span (typed span (judged (Some boolean) notes)) (typed_new span (judged (Some boolean) notes) a new) new

    two_new : (a b : Reading) (need : Need) → New (check a s need).notes → New (check b s need).notes → New (values.both a b s need boolean).notes
    two_new a b need x y = new_both (check a s need).notes (check b s need).notes x y

    null_says_new : New (check (null_test p) s (of boolean)).notes
    null_says_new =
        let array = typed p.null_array.span (values.variable s false p.null_array) in
        let null = (values.null_at (need_like array.ty) p.null).notes in
        truth_new p.is_null (array.notes ++ null) n.is_null (new_both array.notes null array_new (null_new (need_like array.ty) p.null n.null))

    zero_new : New (check (zero_reading p.zero) s (of int)).notes
    zero_new = fitted_new s.world (of int) p.zero (typed p.zero (judged (Some int) [])) (typed_new p.zero (judged (Some int) []) tt n.zero) n.zero

    negative_says_new : New (check (negative_test p) s (of boolean)).notes
    negative_says_new =
        truth_new p.is_negative _ n.is_negative (two_new (name_reading p.negative_index) (zero_reading p.zero) (of int) (index_new p.negative_index n.negative_index) zero_new)

    length_says_new : New (check (length_reading p.selection p.length_array p.length) s (of int)).notes
    length_says_new =
        let object = values.name_before_dot s p.length_array p.length_array.span in
        let selected = values.selected s false false p.length object.object in
        let j = values.behind object.notes selected in
        let a = new_both object.notes selected.notes (before_dot_new s p.length_array p.length_array.span n.length_array n.length_array) (selected_new s false p.length n.length object.object) in
        fitted_new s.world (of int) p.selection (typed p.selection j) (typed_new p.selection j a n.selection) n.selection

    high_says_new : New (check (high_test p) s (of boolean)).notes
    high_says_new =
        truth_new p.is_too_high _ n.is_too_high (two_new (name_reading p.high_index) (length_reading p.selection p.length_array p.length) (of int) (index_new p.high_index n.high_index) length_says_new)

    condition_says_new : New (check (condition_reading p) s (of boolean)).notes
    condition_says_new =
        let first = truth_new p.first_two _ n.first_two (two_new (null_test p) (negative_test p) (of boolean) null_says_new negative_says_new) in
        truth_new p.condition _ n.condition (two_new (first_two p) (high_test p) (of boolean) first high_says_new)

  -- All that the condition of a test says is new.
  pub condition_new : (s : Scope) (p : Parts) (access : Access) → IsWritten move access p → New (check (condition_reading p) s (of boolean)).notes
  condition_new s p access is = condition_says_new s p (are_new p is.new)
