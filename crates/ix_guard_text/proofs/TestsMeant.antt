-- The names of a test mean what those of its access mean, where both stand in one scope.
use Rattle.std.proofs.Common.{◌≡◌, ℕ, Bool, true, false, List, [], ◌∷◌, ◌++◌, Option, Some, None, sym, ap, subst, ◌∙◌}
use Rattle.std.specs.Prelude.{if◌then◌else◌, ◌||◌, is_some, codes, bytes_eq, pos}
use Rattle.std.proofs.lemmas.Bool.{false≢true}
use Rattle.ix_text.specs.declared.span.Span.{Span}
use Rattle.ix_num.specs.declared.rel.Rel.TheVariants.{Eq, Lt, Ge}
use Rattle.ix_core.specs.declared.claim.Type_.{Type_}
use Rattle.ix_core.specs.declared.claim.Type_.TheVariants as type
use Rattle.ix_core.specs.Types.{is_array_type}
use Rattle.ix_tree.specs.declared.annot.Ident.{Ident}
use Rattle.ix_tree.specs.declared.expr.BinaryOp.{BinaryOp}
use Rattle.ix_tree.specs.declared.expr.BinaryOp.TheVariants.{Compare, OrElse}
use Rattle.ix_tree.specs.declared.expr.Expr.{Expr}
use Rattle.ix_tree.specs.declared.expr.ExprKind.{ExprKind}
use Rattle.ix_tree.specs.declared.expr.ExprKind.TheVariants as e
use Rattle.ix_tree.specs.declared.stmt.StmtKind.TheVariants as s
use Rattle.ix_tree.specs.Parts as parts
use Rattle.ix_tree.specs.Parts.{Part, elsewhere, expr_parts, stmt_parts}
use Rattle.ix_tree.proofs.FoldsOfForms as fold
use Rattle.ix_meaning.specs.declared.note.Meaning.TheVariants.{LengthOf}
use Rattle.ix_meaning.specs.declared.note.Note.TheVariants.{Use}
use Rattle.ix_meaning.specs.Members.{field_named}
use Rattle.ix_meaning.specs.Rules as rules
use Rattle.ix_meaning.specs.Scope.{Scope, Known, meant}
use Rattle.ix_meaning.specs.Types.{int, boolean, Need, of, need_like, Judged, judged, typed, type_note}
use Rattle.ix_meaning.specs.Values as values
use Rattle.ix_meaning.specs.Values.{Reading, Received, check, as_object}
use Rattle.ix_formed.proofs.EachMember.{said_parts}
use Rattle.ix_guard.specs.Accesses.{Access}
use Rattle.ix_guard.specs.Trees.{expression, named}
use Rattle.ix_guard_text.specs.TestParts as test
use Rattle.ix_guard_text.specs.TestParts.{Parts, guard_of, condition_of, throw_of, IsWritten}
use Rattle.ix_guard_text.specs.GuardedNames.{IsMeant}
use Rattle.ix_guard_text.proofs.AccessesKnown.{so_parts}
use Rattle.ix_guard_text.proofs.AccessesRead.{Beside, Agreed, Said, IsThere, AllThere, Stands, IsRead, variable_known}
use Rattle.ix_guard_text.proofs.TestsRead.{name_reading, null_reading, zero_reading, length_reading, null_test, negative_test, high_test, first_two, condition_reading}

-- ---- the names of a test are among its parts

abbrev kind_parts : ExprKind → List Part
kind_parts = fold.of_kind parts.kind_step parts.init_step parts.expr_step

has_parts : (k : ExprKind) (span : Span) (ps : List Part) → kind_parts k ≡ ps → expr_parts (expression k span) ≡ parts.expression span ∷ ps
has_parts k span ps e = fold.expr_is parts.kind_step parts.init_step parts.expr_step k span ∙ ap (λ (qs : List Part). parts.expression span ∷ qs) e

name_parts : (name : Ident) → expr_parts (named name) ≡ parts.expression name.span ∷ elsewhere name ∷ []
name_parts name = has_parts (e.Name name) name.span _ (fold.name_kind parts.kind_step parts.init_step parts.expr_step name)

binary_parts : (span : Span) (op : BinaryOp) (x y : Expr) → expr_parts (expression (e.Binary op x y) span) ≡ parts.expression span ∷ (expr_parts x ++ expr_parts y)
binary_parts span op x y = has_parts (e.Binary op x y) span _ (fold.binary_kind parts.kind_step parts.init_step parts.expr_step op x y)

module _ (b : Beside) where
  -- each name of a test is one of the tree's
  record NamesThere (p : Parts) : Type 0 where
    null_array : IsThere b (elsewhere p.null_array)
    negative_index : IsThere b (elsewhere p.negative_index)
    high_index : IsThere b (elsewhere p.high_index)
    length_array : IsThere b (elsewhere p.length_array)
    length : IsThere b (elsewhere p.length)

  two_there : (span : Span) (op : BinaryOp) (x y : Expr) → AllThere b (expr_parts (expression (e.Binary op x y) span)) → AllThere b (expr_parts x) × AllThere b (expr_parts y)
  two_there span op x y there = so_parts (IsThere b) (expr_parts x) (expr_parts y) (subst (AllThere b) (binary_parts span op x y) there).1

  name_there : (name : Ident) → AllThere b (expr_parts (named name)) → IsThere b (elsewhere name)
  name_there name there = (subst (AllThere b) (name_parts name) there).1.0

  condition_there : (p : Parts) → AllThere b (expr_parts (condition_of p)) → NamesThere p
  condition_there p there =
      let null = expression e.Null p.null in
      let zero = expression (e.Int (pos 0)) p.zero in
      let length = expression (e.Select (named p.length_array) p.length) p.selection in
      let first = expression (e.Binary OrElse (test.null_test p) (test.negative_test p)) p.first_two in
      let outer = two_there p.condition OrElse first (test.high_test p) there in
      let inner = two_there p.first_two OrElse (test.null_test p) (test.negative_test p) outer.0 in
      let a = two_there p.is_null (Compare Eq) (named p.null_array) null inner.0 in
      let c = two_there p.is_negative (Compare Lt) (named p.negative_index) zero inner.1 in
      let d = two_there p.is_too_high (Compare Ge) (named p.high_index) length outer.1 in
      let selected = subst (AllThere b) (has_parts (e.Select (named p.length_array) p.length) p.selection _ (fold.select_kind parts.kind_step parts.init_step parts.expr_step (named p.length_array) p.length)) d.1 in
      let both = so_parts (IsThere b) (expr_parts (named p.length_array)) (elsewhere p.length ∷ []) selected.1 in
      record {
        null_array = name_there p.null_array a.0;
        negative_index = name_there p.negative_index c.0;
        high_index = name_there p.high_index d.0;
        length_array = name_there p.length_array both.0;
        length = both.1.0;
      }

  guard_there : (p : Parts) → AllThere b (stmt_parts (guard_of p)) → NamesThere p
  guard_there p there =
      let is : stmt_parts (guard_of p) ≡ parts.statement p.whole ∷ (expr_parts (condition_of p) ++ stmt_parts (throw_of p)) =
      fold.stmt_is parts.stmt_kind_step parts.stmt_step (s.If (condition_of p) (throw_of p) None) p.whole
      ∙ ap (λ (qs : List Part). parts.statement p.whole ∷ qs) (fold.if_kind parts.stmt_kind_step parts.stmt_step (condition_of p) (throw_of p)) in
      condition_there p (so_parts (IsThere b) (expr_parts (condition_of p)) (stmt_parts (throw_of p)) (subst (AllThere b) is there).1).0

  -- ---- what a test says

  -- what a name says that means a variable in scope
  record Told (name : Ident) (k : Known) (ty : Type_) : Type 0 where
    pub meaning : b.others.meaning name.span ≡ Some k.meaning
    pub type_of : b.others.type_of name.span ≡ Some ty

  name_told : (s : Scope) → s.pending ≡ None → (name : Ident) (k : Known) (ty : Type_) → meant name.text s.names ≡ Some k → k.ty ≡ Some ty → IsThere b (elsewhere name)
      → Said b (typed name.span (values.variable s false name)).notes → Told name k ty
  name_told s none name k ty found is there said =
      let known = subst (λ (j : Judged). Said b (typed name.span j).notes) (variable_known s name k none found) said in
      let types = subst (λ (o : Option Type_). Said b (type_note o name.span)) is known.1 in
      record { meaning = known.0 there; type_of = types.0 }

  -- a check of what has a type
  checked : (s : Scope) (need : Need) (span : Span) (j : Judged) → Said b (values.fitted s.world need span (typed span j)).notes → Said b (typed span j).notes
  checked s need span j said = (said_parts (Agreed b) (typed span j).notes (rules.type_mismatch s.world need j.ty span) said).0

  inside : (s : Scope) (span : Span) (j : Judged) → Said b (values.fitted s.world (of boolean) span (typed span j)).notes → Said b j.notes
  inside s span j said = (said_parts (Agreed b) j.notes (type_note j.ty span) (checked s (of boolean) span j said)).0

  -- what the operands of a test's comparison say
  two_said : (s : Scope) (span : Span) (x y : Reading) (need : Need) → Said b (values.fitted s.world (of boolean) span (typed span (values.both x y s need boolean))).notes
      → Said b (check x s need).notes × Said b (check y s need).notes
  two_said s span x y need said = said_parts (Agreed b) (check x s need).notes (check y s need).notes (inside s span (values.both x y s need boolean) said)

  name_before_dot_is : (s : Scope) (name : Ident) (k : Known) → s.pending ≡ None → meant name.text s.names ≡ Some k
      → values.name_before_dot s name name.span ≡ as_object (judged k.ty (values.known_notes false k name.span)) name.span
  name_before_dot_is s name k none found =
      let is : values.is_variable s name.text ≡ true = ap (λ (o : Option Known). is_some o || is_some (field_named s.world s.class name.text)) found in
      ap (λ (c : Bool). if c then as_object (values.variable s false name) name.span else values.class_or s name name.span (s.world.class name.text)) is
      ∙ ap (λ (j : Judged). as_object j name.span) (variable_known s name k none found)

  -- the length of an array
  record LengthTold (array length : Ident) (k : Known) : Type 0 where
    pub array_meaning : b.others.meaning array.span ≡ Some k.meaning
    pub meaning : b.others.meaning length.span ≡ Some LengthOf

  abbrev length_of : Scope → Ident → Received → Judged
  length_of s length object = values.behind object.notes (values.selected s false false length object.object)

  length_told : (s : Scope) → s.pending ≡ None → (span : Span) (array length : Ident) (k : Known) (ty : Type_) → meant array.text s.names ≡ Some k → k.ty ≡ Some ty → is_array_type ty ≡ true → length.text ≡ codes "length"
      → IsThere b (elsewhere array) → IsThere b (elsewhere length) → Said b (check (length_reading span array length) s (of int)).notes → LengthTold array length k
  length_told s none span array length k type.Void found is array_is text there has said = absurd (false≢true array_is)
  length_told s none span array length k (type.Plain plain) found is array_is text there has said = absurd (false≢true array_is)
  length_told s none span array length k (type.Array elements depth claims) found is array_is text there has said =
      let ty = type.Array elements depth claims in
      let object = values.name_before_dot s array array.span in
      let j = length_of s length object in
      let own = (said_parts (Agreed b) j.notes (type_note j.ty span) (checked s (of int) span j said)).0 in
      let known = as_object (judged k.ty (values.known_notes false k array.span)) array.span in
      let read = subst (λ (o : Received). Said b (length_of s length o).notes) (name_before_dot_is s array k none found) own in
      let at = subst (λ (o : Option Type_). Said b (length_of s length (as_object (judged o (values.known_notes false k array.span)) array.span)).notes) is read in
      let object_said = as_object (judged (Some ty) (values.known_notes false k array.span)) array.span in
      let both = said_parts (Agreed b) object_said.notes (values.array_length false length).notes at in
      let named : bytes_eq length.text (codes "length") ≡ true = ap (λ (t : List ℕ). bytes_eq t (codes "length")) text in
      let uses = subst (λ (c : Bool). Said b (if c then judged (Some int) (Use length.span LengthOf ∷ rules.not_assignable false length.span) else judged None (rules.unknown_name length.span)).notes)
      named both.1 in
      record { array_meaning = both.0.0 there; meaning = uses.0 has }

  -- ---- the whole

  pub test_meant : (s : Scope) → Stands b s → (access : Access) (p : Parts) → IsWritten b.move access p → IsRead b s.names access → AllThere b (stmt_parts (guard_of p)) → Said b (check (condition_reading p) s (of boolean)).notes
      → IsMeant b.site.names b.others b.move access p
  test_meant s stands access p written read all said =
      let there = guard_there p all in
      let none = stands.not_pending in
      let array = read.array in
      let index = read.index in
      let texts = written.names in
      let outer = two_said s p.condition (first_two p) (high_test p) (of boolean) said in
      let two = two_said s p.first_two (null_test p) (negative_test p) (of boolean) outer.0 in
      let first = values.equality (name_reading p.null_array) (null_reading p.null) s p.is_null in
      let null = inside s p.is_null first two.0 in
      let variable = typed p.null_array.span (values.variable s false p.null_array) in
      let null_said = (said_parts (Agreed b) variable.notes (values.null_at (need_like variable.ty) p.null).notes null).0 in
      let negative = two_said s p.is_negative (name_reading p.negative_index) (zero_reading p.zero) (of int) two.1 in
      let high = two_said s p.is_too_high (name_reading p.high_index) (length_reading p.selection p.length_array p.length) (of int) outer.1 in
      let found_at = λ (names : List Known) (text other : List ℕ) (k : Known) (e : other ≡ text) (f : meant text names ≡ Some k). (ap (λ (t : List ℕ). meant t names) e ∙ f) in
      let at_null = name_told s none p.null_array array.known array.ty (found_at s.names access.array.text p.null_array.text array.known texts.null_array array.found) array.typed there.null_array null_said in
      let at_negative = name_told s none p.negative_index index.known index.ty (found_at s.names access.index.text p.negative_index.text index.known texts.negative_index index.found) index.typed there.negative_index
      (checked s (of int) p.negative_index.span (values.variable s false p.negative_index) negative.0) in
      let at_high = name_told s none p.high_index index.known index.ty (found_at s.names access.index.text p.high_index.text index.known texts.high_index index.found) index.typed there.high_index
      (checked s (of int) p.high_index.span (values.variable s false p.high_index) high.0) in
      let at_length = length_told s none p.selection p.length_array p.length array.known array.ty (found_at s.names access.array.text p.length_array.text array.known texts.length_array array.found) array.typed read.is_array texts.length
      there.length_array there.length high.1 in
      record {
        written = written;
        null_array = at_null.meaning ∙ sym array.means;
        negative_index = at_negative.meaning ∙ sym index.means;
        high_index = at_high.meaning ∙ sym index.means;
        length_array = at_length.array_meaning ∙ sym array.means;
        length = at_length.meaning;
        ty = array.ty;
        array_type = at_null.type_of;
        is_array = read.is_array;
        negative_type = at_negative.type_of ∙ ap (λ (t : Type_). Some t) read.is_int;
        high_type = at_high.type_of ∙ ap (λ (t : Type_). Some t) read.is_int;
      }
