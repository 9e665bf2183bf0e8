-- Types stand where their tokens are, with their bases and annotations in them.
use Rattle.std.proofs.Common.{◌≤◌, ◌<◌, ℕ, List, [], ◌∷◌, ◌++◌, map, arith}
use Rattle.ix_text.specs.declared.span.Span.{Span}
use Rattle.ix_lexer.specs.declared.token.Token.{Token}
use Rattle.ix_lexer.specs.Spans.{InOrder}
use Rattle.ix_tree.specs.declared.annot.Annot.{Annot}
use Rattle.ix_tree.specs.declared.annot.BaseTree.{BaseTree}
use Rattle.ix_tree.specs.declared.annot.TypeTree.{TypeTree}
use Rattle.ix_tree.specs.Placed.{Layout, LaidOut, row, name_piece, annot_piece, base_pieces, type_piece, new_type_piece}
use Rattle.ix_tree.proofs.Layouts.{Lies, Laid, laid_ends, laid_more, laid_rows, laid_one, laid_node, laid_name}
use Rattle.ix_grammar.specs.declared.found.At.{At}
use Rattle.ix_grammar.specs.declared.found.FoundType.{FoundType}
use Rattle.ix_grammar.specs.declared.found.Notes.{Notes}
use Rattle.ix_grammar.specs.AnnotGrammar.{IsNotes}
use Rattle.ix_grammar.specs.TypeGrammar as grammar
use Rattle.ix_grammar.specs.TypeGrammar.{IsBase, IsTypeRest, IsType, array_of}
use Rattle.ix_grammar.specs.ExprNodes.{created_type, type_start}
use Rattle.ix_lexer.proofs.SplitInOrder.{order_both}
use Rattle.ix_grammar_rules.proofs.TypePlaces.{pairs_lie}
use Rattle.ix_grammar_rules.proofs.AnnotLaid.{notes_laid}

pub base_lies : (lo hi : ℕ) (ts : List Token) (base : At BaseTree) → IsBase ts base → InOrder lo hi ts → Lies lo hi base.span
base_lies lo hi _ _ (grammar.int span) o = o
base_lies lo hi _ _ (grammar.boolean span) o = o
base_lies lo hi _ _ (grammar.named name) o = o

-- what stands in a base
pub base_laid : (lo hi : ℕ) (ts : List Token) (base : At BaseTree) → IsBase ts base → InOrder lo hi ts → (start : ℕ) → Laid start base.span.from base.span.to (base_pieces base.value)
base_laid lo hi _ _ (grammar.int span) o start = omega (arith, o.1)
base_laid lo hi _ _ (grammar.boolean span) o start = omega (arith, o.1)
base_laid lo hi _ _ (grammar.named name) o start =
    laid_one start name.span.from name.span.to (name_piece name) (laid_name start name.span.from name.span.to name (omega arith, o.1, omega arith))

pub type_rest_laid : (start lo mid hi : ℕ) (base : At BaseTree) (ts : List Token) (ty : FoundType) → IsTypeRest base ts ty → Lies lo mid base.span
    → Laid base.span.from base.span.from base.span.to (base_pieces base.value) → InOrder mid hi ts → LaidOut start lo hi (type_piece ty.ty)
type_rest_laid start lo mid hi base _ _ grammar.no_rest l s o =
    laid_node start lo hi base.span (base_pieces base.value ++ []) (l.0, l.1, omega (arith, l.2, o))
    (laid_rows base.span.from base.span.from base.span.to base.span.to base.span.to (base_pieces base.value) [] s (omega arith) (omega arith))
type_rest_laid start lo mid hi base _ _ (grammar.array {before} {tokens} {notes} {pairs} d p) l s o =
    let (next, a, b, q, r) = order_both mid hi before tokens o in
    let last = pairs_lie next hi tokens pairs p r in
    let notes_in = laid_more base.span.from mid next base.span.from mid pairs.span.to _ (omega arith) (omega arith) (omega (arith, last.0, last.1)) (notes_laid base.span.from mid next before notes d q) in
    laid_node start lo hi (array_of base notes pairs).ty.span (base_pieces base.value ++ map annot_piece notes.annots) (l.0, omega (arith, l.1, l.2, a, last.0, last.1), last.2)
    (laid_rows base.span.from base.span.from base.span.to mid pairs.span.to (base_pieces base.value) (map annot_piece notes.annots) s notes_in l.2)

pub type_laid : (start lo hi : ℕ) (ts : List Token) (ty : FoundType) → IsType ts ty → InOrder lo hi ts → LaidOut start lo hi (type_piece ty.ty)
type_laid start lo hi _ _ (grammar.type {before} {tokens} {base} {ty} b d) o =
    let (mid, a, c, p, q) = order_both lo hi before tokens o in
    type_rest_laid start lo mid hi base tokens ty d (base_lies lo mid before base b p) (base_laid lo mid before base b p base.span.from) q

-- ---- the types of new arrays, which begin with their first annotation, or with their base

-- where it begins, what stands from there on
record Starts (lo hi from : ℕ) (xs : List Layout) : Type 0 where
  pub behind : lo ≤ from
  pub before : from ≤ hi
  pub laid : (start : ℕ) → Laid start from hi xs

started : (lo hi : ℕ) (annots : List Annot) (base : Span) (inner : List Layout) → lo ≤ base.from → base.from ≤ hi → ((start : ℕ) → Laid start base.from hi inner) → ((start : ℕ) → Laid start lo hi (map annot_piece annots ++ inner))
    → Starts lo hi (type_start annots base).from (map annot_piece annots ++ inner)
started lo hi [] base inner a b c d = record { behind = a; before = b; laid = c }
started lo hi (annot ∷ annots) base inner a b c d =
    let (e, f, g, h) = d 0 in record {
      behind = e;
      before = omega (arith, f, laid_ends 0 annot.span.to hi (row (map annot_piece annots ++ inner)) h);
      laid = λ start. let (i, j, k, l) = d start in (omega arith, j, k, l);
    }

-- The type of a new array, in whose brackets `size` stands: its piece from its first token on, and what begins and ends there.
pub record NewType (lo hi : ℕ) (ty : TypeTree) (size : List Layout) : Type 0 where
  pub lies : Lies lo hi ty.span
  pub laid : (start : ℕ) → LaidOut start ty.span.from hi (new_type_piece ty size)

pub new_type_laid : (lo one two next hi : ℕ) (before base_tokens : List Token) (notes : Notes) (base : At BaseTree) (brackets : At ℕ) (size : List Layout) → IsNotes before notes → IsBase base_tokens base
    → InOrder lo one before → InOrder one two base_tokens → lo ≤ one → two ≤ next → Lies next hi brackets.span → ((start : ℕ) → Laid start next brackets.span.to size)
    → NewType lo hi (created_type base notes brackets).ty size
new_type_laid lo one two next hi before base_tokens notes base brackets size d b o p a c last s =
    let l = base_lies one two base_tokens base b p in
    let end = brackets.span.to in
    let inner : (start : ℕ) → Laid start base.span.from end (base_pieces base.value ++ size) =
    λ start. laid_rows start base.span.from base.span.to next end (base_pieces base.value) size (base_laid one two base_tokens base b p start) (s start) (omega (arith, l.2, c)) in
    let all : (start : ℕ) → Laid start lo end (map annot_piece notes.annots ++ (base_pieces base.value ++ size)) =
    λ start. laid_rows start lo one base.span.from end (map annot_piece notes.annots) (base_pieces base.value ++ size) (notes_laid start lo one before notes d o) (inner start) l.0 in
    let st = started lo end notes.annots base.span (base_pieces base.value ++ size) (omega (arith, a, l.0)) (omega (arith, l.1, l.2, c, last.0, last.1)) inner all in
    let ty = (created_type base notes brackets).ty in
    record {
      lies = (st.behind, first_before notes.annots base.span lo end (base_pieces base.value ++ size) (omega (arith, l.1, l.2, c, last.0, last.1)) (all 0), last.2);
      laid = λ start. laid_node start ty.span.from hi ty.span (map annot_piece notes.annots ++ (base_pieces base.value ++ size)) (omega arith, first_before notes.annots base.span lo end (base_pieces base.value ++ size) (omega (arith, l.1, l.2, c, last.0, last.1)) (all 0), last.2) (st.laid ty.span.from);
    }
  where
    first_before : (annots : List Annot) (base : Span) (lo end : ℕ) (inner : List Layout) → base.from < end → Laid 0 lo end (map annot_piece annots ++ inner) → (type_start annots base).from < end
    first_before [] base lo end inner a b = a
    first_before (annot ∷ annots) base lo end inner a (e, f, g, h) = omega (arith, f, laid_ends 0 annot.span.to end (row (map annot_piece annots ++ inner)) h)
