-- A test says nothing wrong where its access is one of an array at an int.
use Rattle.std.proofs.Common.{◌≡◌, Bool, true, false, List, [], ◌∷◌, ◌++◌, Option, Some, None, refl, sym, ap, ap₂, subst, ◌∙◌}
use Rattle.std.specs.Prelude.{if◌then◌else◌, codes, pos, is_some, ◌||◌}
use Rattle.ix_text.specs.declared.span.Span.{Span}
use Rattle.ix_num.specs.declared.rel.Rel.TheVariants.{Eq, Lt, Ge}
use Rattle.ix_core.specs.declared.claim.Type_.{Type_}
use Rattle.ix_core.specs.declared.claim.Type_.TheVariants as type
use Rattle.ix_tree.specs.declared.annot.Ident.{Ident}
use Rattle.ix_tree.specs.declared.expr.BinaryOp.{BinaryOp}
use Rattle.ix_tree.specs.declared.expr.BinaryOp.TheVariants.{Compare, OrElse}
use Rattle.ix_tree.specs.declared.expr.Expr.{Expr}
use Rattle.ix_tree.specs.declared.expr.ExprKind.{ExprKind, ExprKind-F}
use Rattle.ix_tree.specs.declared.expr.ExprKind.TheVariants as e
use Rattle.ix_meaning.specs.declared.members.Field.{Field}
use Rattle.ix_meaning.specs.declared.note.Note.{Note}
use Rattle.ix_meaning.specs.Bodies.{Telling, telling, condition, noted_then, nothing}
use Rattle.ix_meaning.specs.Members.{field_named}
use Rattle.ix_meaning.specs.Rules as rules
use Rattle.ix_meaning.specs.Scope.{Scope, Known, meant, is_pending}
use Rattle.ix_meaning.specs.Types.{int, boolean, Need, of, need_like, Judged, judged, type_note}
use Rattle.ix_meaning.specs.Values as values
use Rattle.ix_meaning.specs.Values.{Reading, KindReading, Received, reading, kind_reading, check, null_at, as_object}
use Rattle.ix_meaning.proofs.Equations as equations
use Rattle.ix_guard.specs.Accesses.{Access}
use Rattle.ix_guard.specs.Trees.{expression, named, ident, is_null, is_negative, is_too_high, either, is_outside, test_tree}
use Rattle.ix_guard_text.proofs.AccessesFit.{Clean, Fits}

pub clean_both : (xs ys : List Note) → Clean xs → Clean ys → Clean (xs ++ ys)
clean_both [] ys a b = b
clean_both (x ∷ xs) ys a b = (a.0, clean_both xs ys a.1 b)

-- ---- how a test reads

abbrev at : KindReading → Span → Reading
at k p = values.expr_step (record { kind = k; span = p })

abbrev name_reading : Ident → Reading
name_reading name = at (values.kind_step (ExprKind-F.Name name)) name.span

abbrev null_reading : Span → Reading
null_reading span = at (values.kind_step ExprKind-F.Null) span

abbrev zero_reading : Span → Reading
zero_reading span = at (values.kind_step (ExprKind-F.Int (pos 0))) span

abbrev length_name : Span → Ident
length_name span = ident (codes "length") span

abbrev length_reading : Span → Ident → Reading
length_reading span array = at (values.kind_step (ExprKind-F.Select (name_reading array) (length_name span))) span

abbrev binary_reading : Span → BinaryOp → Reading → Reading → Reading
binary_reading span op a b = at (values.kind_step (ExprKind-F.Binary op a b)) span

read_at : (k : ExprKind) (span : Span) (is : KindReading) → kind_reading k ≡ is → reading (expression k span) ≡ at is span
read_at k span is e = equations.expr_is k span ∙ ap (λ (k : KindReading). at k span) e

name_is : (name : Ident) → reading (named name) ≡ name_reading name
name_is name = read_at (e.Name name) name.span _ (equations.name_kind name)

length_is : (span : Span) (array : Ident) → reading (expression (e.Select (named array) (length_name span)) span) ≡ length_reading span array
length_is span array = read_at (e.Select (named array) (length_name span)) span _ (equations.select_kind (named array) (length_name span))
    ∙ ap (λ (r : Reading). at (values.kind_step (ExprKind-F.Select r (length_name span))) span) (name_is array)

binary_is : (span : Span) (op : BinaryOp) (x y : Expr) (a b : Reading) → reading x ≡ a → reading y ≡ b → reading (expression (e.Binary op x y) span) ≡ binary_reading span op a b
binary_is span op x y a b f g = read_at (e.Binary op x y) span _ (equations.binary_kind op x y) ∙ ap₂ (λ (r : Reading) (t : Reading). binary_reading span op r t) f g

abbrev null_test : Span → Ident → Reading
null_test span array = binary_reading span (Compare Eq) (name_reading array) (null_reading span)

abbrev negative_test : Span → Ident → Reading
negative_test span index = binary_reading span (Compare Lt) (name_reading index) (zero_reading span)

abbrev high_test : Span → Ident → Ident → Reading
high_test span array index = binary_reading span (Compare Ge) (name_reading index) (length_reading span array)

abbrev outside_reading : Span → Access → Reading
outside_reading span access =
    binary_reading span OrElse (binary_reading span OrElse (null_test span access.array) (negative_test span access.index)) (high_test span access.array access.index)

outside_is : (span : Span) (access : Access) → reading (is_outside span access) ≡ outside_reading span access
outside_is span access =
    let array = access.array in
    let index = access.index in
    let null = binary_is span (Compare Eq) (named array) (expression e.Null span) (name_reading array) (null_reading span) (name_is array) (read_at e.Null span _ equations.null_kind) in
    let negative = binary_is span (Compare Lt) (named index) (expression (e.Int (pos 0)) span) (name_reading index) (zero_reading span) (name_is index) (read_at (e.Int (pos 0)) span _ (equations.int_kind (pos 0))) in
    let high = binary_is span (Compare Ge) (named index) (expression (e.Select (named array) (length_name span)) span) (name_reading index) (length_reading span array) (name_is index) (length_is span array) in
    binary_is span OrElse (either span (is_null span array) (is_negative span index)) (is_too_high span array index) _ _
    (binary_is span OrElse (is_null span array) (is_negative span index) (null_test span array) (negative_test span index) null negative) high

-- ---- what it says

noted_clean : (ty : Option Type_) (p : Span) → Clean (type_note ty p)
noted_clean None p = tt
noted_clean (Some ty) p = (tt, tt)

-- a name without errors is that of a variable
is_known : (s : Scope) (name : Ident) → Clean (values.variable s false name).notes → values.is_variable s name.text ≡ true
is_known s name = by_pending (is_pending s.pending name.text)
  where
    by_field : (f : Option Field) → Clean (values.bare_field s false name.span f).notes → is_some f ≡ true
    by_field None c = absurd c.0
    by_field (Some f) c = refl

    by_known : (k : Option Known) → Clean (values.known_or s false name k).notes → (is_some k || is_some (field_named s.world s.class name.text)) ≡ true
    by_known None c = by_field (field_named s.world s.class name.text) c
    by_known (Some k) c = refl

    by_pending : (b : Bool) → Clean (if b then judged None (rules.unknown_name name.span) else values.known_or s false name (meant name.text s.names)).notes → values.is_variable s name.text ≡ true
    by_pending true c = absurd c.0
    by_pending false c = by_known (meant name.text s.names) c

-- a `null` beside an array
null_clean : (ty : Option Type_) (p q : Span) → Clean (values.no_array ty p) → Clean (null_at (need_like ty) q).notes
null_clean None p q c = tt
null_clean (Some type.Void) p q c = absurd c.0
null_clean (Some (type.Plain element)) p q c = absurd c.0
null_clean (Some (type.Array element depth claims)) p q c = (tt, tt)

-- the length of an array
abbrev length_of : Scope → Span → Received → Judged
length_of s span object = values.behind object.notes (values.selected s false false (length_name span) object.object)

length_clean : (s : Scope) (span p q : Span) (notes : List Note) (ty : Option Type_) → Clean notes → Clean (values.no_array ty p) → let j = length_of s span (as_object (judged ty notes) q) in
    Clean j.notes × Clean (rules.type_mismatch s.world (of int) j.ty span)
length_clean s span p q notes None c d = (clean_both (notes ++ []) [] (clean_both notes [] c tt) tt, tt)
length_clean s span p q notes (Some type.Void) c d = absurd d.0
length_clean s span p q notes (Some (type.Plain element)) c d = absurd d.0
length_clean s span p q notes (Some (type.Array element depth claims)) c d =
    let object = as_object (judged (Some (type.Array element depth claims)) notes) q in
    (clean_both object.notes (values.array_length false (length_name span)).notes (clean_both notes (values.object_notes (Some (type.Array element depth claims)) q) c (tt, tt)) (tt, tt), tt)

module _ (s : Scope) (span : Span) where
  -- two operands that are right where they stand
  two_clean : (a b : Reading) (need : Need) → Clean (check a s need).notes → Clean (check b s need).notes
      → Clean ((((check a s need).notes ++ (check b s need).notes) ++ type_note (Some boolean) span) ++ rules.type_mismatch s.world (of boolean) (Some boolean) span)
  two_clean a b need x y =
      clean_both (((check a s need).notes ++ (check b s need).notes) ++ type_note (Some boolean) span) [] (clean_both ((check a s need).notes ++ (check b s need).notes) (type_note (Some boolean) span)
      (clean_both (check a s need).notes (check b s need).notes x y) (tt, tt)) tt

  module _ (access : Access) (fits : Fits s access) where
    abbrev array : Judged
    array = values.variable s false access.array

    abbrev index : Judged
    index = values.variable s false access.index

    array_says : Clean (array.notes ++ type_note array.ty access.array.span)
    array_says = clean_both array.notes (type_note array.ty access.array.span) fits.array (noted_clean array.ty access.array.span)

    index_says : Clean (check (name_reading access.index) s (of int)).notes
    index_says =
        let p = access.index.span in
        clean_both (index.notes ++ type_note index.ty p) (rules.type_mismatch s.world (of int) index.ty p) (clean_both index.notes (type_note index.ty p) fits.index (noted_clean index.ty p)) fits.is_int

    null_says : Clean (check (null_test span access.array) s (of boolean)).notes
    null_says =
        let said = array.notes ++ type_note array.ty access.array.span in
        let nulls = (null_at (need_like array.ty) span).notes in
        clean_both ((said ++ nulls) ++ type_note (Some boolean) span) [] (clean_both (said ++ nulls) (type_note (Some boolean) span)
        (clean_both said nulls array_says (null_clean array.ty access.array.span span fits.is_array)) (tt, tt)) tt

    negative_says : Clean (check (negative_test span access.index) s (of boolean)).notes
    negative_says = two_clean (name_reading access.index) (zero_reading span) (of int) index_says (tt, tt)

    length_says : Clean (check (length_reading span access.array) s (of int)).notes
    length_says = subst (λ b. Clean (judge_of (if b then as_object array access.array.span else values.class_or s access.array access.array.span (s.world.class access.array.text)))) (sym (is_known s access.array fits.array))
        (clean_both (j.notes ++ type_note j.ty span) (rules.type_mismatch s.world (of int) j.ty span) (clean_both j.notes (type_note j.ty span) said.0 (noted_clean j.ty span)) said.1)
      where
        judge_of : Received → List Note
        judge_of object = ((length_of s span object).notes ++ type_note (length_of s span object).ty span) ++ rules.type_mismatch s.world (of int) (length_of s span object).ty span

        j : Judged
        j = length_of s span (as_object array access.array.span)

        said : Clean j.notes × Clean (rules.type_mismatch s.world (of int) j.ty span)
        said = length_clean s span access.array.span access.array.span array.notes array.ty fits.array fits.is_array

    high_says : Clean (check (high_test span access.array access.index) s (of boolean)).notes
    high_says = two_clean (name_reading access.index) (length_reading span access.array) (of int) index_says length_says

    outside_says : Clean (check (outside_reading span access) s (of boolean)).notes
    outside_says =
        let first = binary_reading span OrElse (null_test span access.array) (negative_test span access.index) in
        two_clean first (high_test span access.array access.index) (of boolean) (two_clean (null_test span access.array) (negative_test span access.index) (of boolean) null_says negative_says) high_says

    pub condition_clean : Clean (condition (is_outside span access) s)
    condition_clean = subst (λ (r : Reading). Clean (check r s (of boolean)).notes) (sym (outside_is span access)) outside_says

-- A test declares nothing, and says what its condition does.
pub test_is : (span : Span) (access : Access) → telling (test_tree span access) ≡ noted_then (condition (is_outside span access)) nothing
test_is span access = equations.stmt_is _ span ∙ equations.if_stmt _ _ span ∙ ap (λ (t : Telling). noted_then (condition (is_outside span access)) t) (equations.stmt_is _ span ∙ equations.throw_stmt _ span)
