-- Where the parts of types stand.
use Rattle.std.proofs.Common.{◌+◌, ℕ, List, [], ◌∷◌, ◌++◌, length, Option, Some, None, arith, length-append}
use Rattle.ix_lexer.specs.declared.token.Token.{Token}
use Rattle.ix_lexer.specs.declared.fixed.TheConstants.{OPEN_BRACKET, CLOSE_BRACKET}
use Rattle.ix_lexer.specs.Spans.{InOrder}
use Rattle.ix_tree.specs.declared.annot.Annot.{Annot}
use Rattle.ix_tree.specs.declared.annot.AnnotArg.{AnnotArg}
use Rattle.ix_tree.specs.declared.annot.AnnotValue.{AnnotValue}
use Rattle.ix_tree.specs.declared.annot.AnnotValue.TheVariants.{Number, Truth, Texts}
use Rattle.ix_tree.specs.declared.annot.BaseTree.{BaseTree}
use Rattle.ix_tree.specs.declared.annot.BaseTree.TheVariants.{Int, Boolean, Named}
use Rattle.ix_tree.specs.declared.annot.Ident.{Ident}
use Rattle.ix_tree.specs.declared.annot.TypeTree.{TypeTree}
use Rattle.ix_tree.specs.Parts.{Part, in_type, entries, All, together, listed, each, maybe, type_name, value_parts, arg_parts, annot_parts, base_parts, type_parts}
use Rattle.ix_grammar.specs.declared.found.At.{At}
use Rattle.ix_grammar.specs.declared.found.FoundType.{FoundType}
use Rattle.ix_grammar.specs.Patterns.{sign}
use Rattle.ix_grammar.specs.TypeGrammar as grammar
use Rattle.ix_grammar.specs.TypeGrammar.{IsBase, IsPairs, IsTypeRest, IsType}
use Rattle.ix_lexer.proofs.SplitInOrder.{order_both}
use Rattle.ix_tree.proofs.PartPlaces.{stand_two, stand_no_entries, Stand, stand_more, stand_none, stand_in_type}
use Rattle.ix_tree.proofs.Layouts.{Lies}
use Rattle.ix_grammar_rules.proofs.AnnotPlaces.{notes_stand}

-- ---- all of them are identifiers in types and lists

abbrev pub InTypes : Part → Type 0
InTypes (in_type name) = Unit {0}
InTypes (entries n) = Unit {0}
InTypes _ = ⊥

in_types_both : (ps qs : List Part) → All InTypes ps → All InTypes qs → All InTypes (ps ++ qs)
in_types_both [] qs a b = b
in_types_both (p ∷ ps) qs (a, c) b = (a, in_types_both ps qs c b)

each_in_type : {A : Type 0} (parts : A → List Part) → ((x : A) → All InTypes (parts x)) → (xs : List A) → All InTypes (together (each parts xs))
each_in_type parts one [] = tt
each_in_type parts one (x ∷ xs) = in_types_both (parts x) (together (each parts xs)) (one x) (each_in_type parts one xs)

name_in_type : (name : Option Ident) → All InTypes (maybe type_name name)
name_in_type None = tt
name_in_type (Some name) = (tt, tt)

value_in_type : (value : AnnotValue) → All InTypes (value_parts value)
value_in_type (Number n) = tt
value_in_type (Truth b) = tt
value_in_type (Texts texts) = (tt, tt)

arg_in_type : (arg : AnnotArg) → All InTypes (arg_parts arg)
arg_in_type arg = in_types_both (maybe type_name arg.name) (value_parts arg.value) (name_in_type arg.name) (value_in_type arg.value)

annot_in_type : (annot : Annot) → All InTypes (annot_parts annot)
annot_in_type annot = (tt, (tt, each_in_type arg_parts arg_in_type annot.args))

pub notes_in_type : (annots : List Annot) → All InTypes (listed (each annot_parts annots))
notes_in_type annots = (tt, each_in_type annot_parts annot_in_type annots)

base_in_type : (base : BaseTree) → All InTypes (base_parts base)
base_in_type Int = tt
base_in_type Boolean = tt
base_in_type (Named name) = (tt, tt)

pub type_in_type : (ty : TypeTree) → All InTypes (type_parts ty)
type_in_type ty = in_types_both (base_parts ty.base) (listed (each annot_parts ty.annots)) (base_in_type ty.base) (notes_in_type ty.annots)

-- ---- types

pub base_stands : (lo hi : ℕ) (ts : List Token) (base : At BaseTree) → IsBase ts base → InOrder lo hi ts → Lies lo hi base.span × Stand lo hi (length ts) (base_parts base.value)
base_stands lo hi _ _ (grammar.int span) o = (o, stand_none lo hi 1)
base_stands lo hi _ _ (grammar.boolean span) o = (o, stand_none lo hi 1)
base_stands lo hi _ _ (grammar.named name) o = (o, stand_in_type lo hi 1 name o)

-- the last bracket
pub pairs_lie : (lo hi : ℕ) (ts : List Token) (pairs : At ℕ) → IsPairs ts pairs → InOrder lo hi ts → Lies lo hi pairs.span
pairs_lie lo hi _ _ (grammar.pair left right) (a, b, (c, d, e)) = (omega (arith, a, b, c), d, e)
pairs_lie lo hi _ _ (grammar.more_pairs {tokens} left right p) o =
    let (mid, a, b, c, d) = order_both lo hi tokens (sign OPEN_BRACKET left ∷ sign CLOSE_BRACKET right ∷ []) o in
    (omega (arith, a, d.0, d.1, d.2.0), d.2.1, d.2.2)

-- behind a base
pub type_rest_stands : (lo mid hi n : ℕ) (base : At BaseTree) (ts : List Token) (ty : FoundType) → IsTypeRest base ts ty → Lies lo mid base.span → Stand lo mid n (base_parts base.value) → InOrder mid hi ts
    → Lies lo hi ty.ty.span × Stand lo hi (n + length ts) (type_parts ty.ty)
type_rest_stands lo mid hi n base _ _ grammar.no_rest l s o = (
  (l.0, l.1, omega (arith, l.2, o)),
  stand_two lo mid hi hi n 0 (n + 0) (base_parts base.value) (listed (each annot_parts [])) s (stand_no_entries annot_parts hi hi 0) (omega (arith, l.0, l.1, l.2)) o (omega arith) (omega arith),
)
type_rest_stands lo mid hi n base _ _ (grammar.array {before} {tokens} {notes} {pairs} d p) l s o =
    let (next, a, b, q, r) = order_both mid hi before tokens o in
    let last = pairs_lie next hi tokens pairs p r in (
      (l.0, omega (arith, l.1, l.2, a, last.0, last.1), last.2),
      stand_two lo mid mid hi n (length before) (n + length (before ++ tokens)) (base_parts base.value) (listed (each annot_parts notes.annots)) s
          (stand_more mid next (length before) mid hi (length before) (listed (each annot_parts notes.annots)) (omega arith) b (omega arith) (notes_stand mid next before notes d q))
          (omega (arith, l.0, l.1, l.2)) (omega arith) (omega (arith, a, b)) (omega (arith, length-append before tokens)),
    )

pub type_stands : (lo hi : ℕ) (ts : List Token) (ty : FoundType) → IsType ts ty → InOrder lo hi ts → Lies lo hi ty.ty.span × Stand lo hi (length ts) (type_parts ty.ty)
type_stands lo hi _ _ (grammar.type {before} {tokens} {base} {ty} b d) o =
    let (mid, a, c, p, q) = order_both lo hi before tokens o in
    let (l, s) = base_stands lo mid before base b p in
    let (lies, stands) = type_rest_stands lo mid hi (length before) base tokens ty d l s q in
    (lies, stand_more lo hi (length before + length tokens) lo hi (length (before ++ tokens)) (type_parts ty.ty) (omega arith) (omega arith) (omega (arith, length-append before tokens)) stands)
