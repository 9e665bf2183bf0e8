-- The tokens of a test are a statement, whose tree is the test's up to places.
use Rattle.std.proofs.Common.{◌≡◌, ℕ, suc, true, List, [], ◌∷◌, ◌++◌, refl, sym}
use Rattle.std.specs.Prelude.{codes, pos}
use Rattle.ix_text.specs.declared.span.Span.{Span}
use Rattle.ix_num.specs.declared.rel.Rel.TheVariants.{Eq, Lt, Ge}
use Rattle.ix_lexer.specs.declared.token.Token.{Token}
use Rattle.ix_lexer.specs.declared.fixed.TheConstants.{IF, NULL, THROW, NEW, DOT, SEMICOLON, OPEN_PAREN, CLOSE_PAREN, EQUAL, LESS, GREATER_OR_EQUAL, OR_ELSE}
use Rattle.ix_tree.specs.declared.annot.Ident.{Ident}
use Rattle.ix_tree.specs.declared.expr.BinaryOp.TheVariants.{Compare, OrElse}
use Rattle.ix_tree.specs.declared.expr.Expr.{Expr}
use Rattle.ix_tree.specs.declared.expr.ExprKind.TheVariants as e
use Rattle.ix_tree.specs.declared.stmt.StmtKind.TheVariants as s
use Rattle.ix_grammar.specs.declared.found.Found.{Found}
use Rattle.ix_grammar.specs.declared.found.FoundStmt.{FoundStmt}
use Rattle.ix_grammar.specs.Patterns.{sign, name_token, number_token, string_token}
use Rattle.ix_grammar.specs.ExprGrammar as g
use Rattle.ix_grammar.specs.ExprGrammar.{IsExpr}
use Rattle.ix_grammar.specs.StmtGrammar as t
use Rattle.ix_grammar.specs.StmtGrammar.{IsStmt}
use Rattle.ix_guard_text.specs.Bare.{nowhere, bare_expr, bare_stmt}
use Rattle.ix_guard_text.proofs.ExprsAgain as again
use Rattle.ix_guard_text.proofs.StmtsAgain.{node_same, if_same, throw_same}
use Rattle.ix_guard.specs.Accesses.{Access}
use Rattle.ix_guard.specs.Trees.{named, is_null, is_negative, is_too_high, either, is_outside, test_tree}

abbrev placed : Ident → Ident
placed name = record { text = name.text; span = nowhere }

abbrev word : List ℕ → Ident
word text = record { text = text; span = nowhere }

-- ---- the tokens

abbrev pub null_tokens : Ident → List Token
null_tokens array = name_token (placed array) ∷ sign EQUAL nowhere ∷ sign NULL nowhere ∷ []

abbrev pub low_tokens : Ident → List Token
low_tokens index = name_token (placed index) ∷ sign LESS nowhere ∷ number_token (pos 0) nowhere ∷ []

abbrev pub high_tokens : Ident → Ident → List Token
high_tokens array index = name_token (placed index) ∷ sign GREATER_OR_EQUAL nowhere ∷ name_token (placed array) ∷ sign DOT nowhere ∷ name_token (word (codes "length")) ∷ []

abbrev pub condition_tokens : Access → List Token
condition_tokens access = (null_tokens access.array ++ sign OR_ELSE nowhere ∷ low_tokens access.index) ++ sign OR_ELSE nowhere ∷ high_tokens access.array access.index

abbrev pub throw_tokens : List Token
throw_tokens =
    sign THROW nowhere ∷ sign NEW nowhere ∷ name_token (word (codes "IndexOutOfBoundsException")) ∷ sign OPEN_PAREN nowhere ∷ string_token (codes "guard") nowhere ∷ sign CLOSE_PAREN nowhere ∷ sign SEMICOLON nowhere ∷ []

abbrev pub test_tokens : Access → List Token
test_tokens access = sign IF nowhere ∷ sign OPEN_PAREN nowhere ∷ (condition_tokens access ++ sign CLOSE_PAREN nowhere ∷ throw_tokens)

-- ---- expressions

-- an expression of these tokens, which is this one up to places
record Makes (level : ℕ) (ts : List Token) (x : Expr) : Type 0 where
  pub found : Found
  pub is : IsExpr (g.Level level) ts found
  pub same : bare_expr found.expr ≡ bare_expr x

wider : {level : ℕ} {ts : List Token} {x : Expr} → Makes level ts x → Makes (suc level) ts x
wider m = record { found = m.found; is = g.wider m.is; same = m.same }

name_made : (x : Ident) → Makes 0 (name_token (placed x) ∷ []) (named x)
name_made x = record { found = _; is = g.primary (g.variable (placed x)); same = again.node_same (e.Name (placed x)) (e.Name x) nowhere x.span (sym (again.name_same x nowhere)) }

null_made : (span : Span) → Makes 0 (sign NULL nowhere ∷ []) (record { kind = e.Null; span = span })
null_made span = record { found = _; is = g.primary (g.null nowhere); same = again.node_same e.Null e.Null nowhere span refl }

zero_made : (span : Span) → Makes 0 (number_token (pos 0) nowhere ∷ []) (record { kind = e.Int (pos 0); span = span })
zero_made span = record { found = _; is = g.primary (g.number (pos 0) nowhere); same = again.node_same (e.Int (pos 0)) (e.Int (pos 0)) nowhere span refl }

length_made : (span : Span) (array : Ident) → Makes 0 (name_token (placed array) ∷ sign DOT nowhere ∷ name_token (word (codes "length")) ∷ []) (record { kind = e.Select (named array) (record { text = codes "length"; span = span }); span = span })
length_made span array =
    let one = g.variable (placed array) in
    let base : bare_expr (named (placed array)) ≡ bare_expr (named array) = again.node_same (e.Name (placed array)) (e.Name array) nowhere array.span (sym (again.name_same array nowhere)) in
    record {
      found = _;
      is = g.primary (g.select nowhere (word (codes "length")) one);
      same = again.node_same (e.Select (named (placed array)) (word (codes "length"))) (e.Select (named array) (record { text = codes "length"; span = span })) nowhere span
          (again.select_same (named (placed array)) (named array) (word (codes "length")) span base);
    }

up5 : {level : ℕ} {ts : List Token} {x : Expr} → Makes level ts x → Makes (suc (suc (suc (suc (suc level))))) ts x
up5 m = wider (wider (wider (wider (wider m))))

null_test : (span : Span) (array : Ident) → Makes 5 (null_tokens array) (is_null span array)
null_test span array =
    let left = wider (wider (wider (wider (wider (name_made array))))) in
    let right = wider (wider (wider (wider (null_made span)))) in
    record {
      found = _;
      is = g.operators 4 EQUAL (Compare Eq) nowhere refl left.is right.is;
      same = again.node_same _ (e.Binary (Compare Eq) (named array) (record { kind = e.Null; span = span })) _ span
          (again.binary_same (Compare Eq) left.found.expr right.found.expr (named array) (record { kind = e.Null; span = span }) left.same right.same);
    }

low_test : (span : Span) (index : Ident) → Makes 4 (low_tokens index) (is_negative span index)
low_test span index =
    let left = wider (wider (wider (wider (name_made index)))) in
    let right = wider (wider (wider (zero_made span))) in
    record {
      found = _;
      is = g.operators 3 LESS (Compare Lt) nowhere refl left.is right.is;
      same = again.node_same _ (e.Binary (Compare Lt) (named index) (record { kind = e.Int (pos 0); span = span })) _ span
          (again.binary_same (Compare Lt) left.found.expr right.found.expr (named index) (record { kind = e.Int (pos 0); span = span }) left.same right.same);
    }

high_test : (span : Span) (array index : Ident) → Makes 4 (high_tokens array index) (is_too_high span array index)
high_test span array index =
    let left = wider (wider (wider (wider (name_made index)))) in
    let right = wider (wider (wider (length_made span array))) in
    record {
      found = _;
      is = g.operators 3 GREATER_OR_EQUAL (Compare Ge) nowhere refl left.is right.is;
      same = again.node_same _ (e.Binary (Compare Ge) (named index) (record { kind = e.Select (named array) (record { text = codes "length"; span = span }); span = span })) _ span
          (again.binary_same (Compare Ge) left.found.expr right.found.expr (named index) (record { kind = e.Select (named array) (record { text = codes "length"; span = span }); span = span }) left.same right.same);
    }

either_made : (span : Span) (ts us : List Token) (x y : Expr) → Makes 10 ts x → Makes 9 us y → Makes 10 (ts ++ sign OR_ELSE nowhere ∷ us) (either span x y)
either_made span ts us x y left right = record {
  found = _;
  is = g.operators 9 OR_ELSE OrElse nowhere refl left.is right.is;
  same = again.node_same _ (e.Binary OrElse x y) _ span (again.binary_same OrElse left.found.expr right.found.expr x y left.same right.same);
}

condition_made : (span : Span) (access : Access) → Makes 10 (condition_tokens access) (is_outside span access)
condition_made span access =
    let first = either_made span (null_tokens access.array) (low_tokens access.index) (is_null span access.array) (is_negative span access.index) (up5 (null_test span access.array)) (up5 (low_test span access.index)) in
    either_made span (null_tokens access.array ++ sign OR_ELSE nowhere ∷ low_tokens access.index) (high_tokens access.array access.index) (either span (is_null span access.array) (is_negative span access.index))
    (is_too_high span access.array access.index) first (up5 (high_test span access.array access.index))

-- ---- the statement

-- A statement of these tokens, which is this one up to places.
pub record IsTest (span : Span) (access : Access) : Type 0 where
  pub found : FoundStmt
  pub is : IsStmt true (test_tokens access) found
  pub same : bare_stmt found.stmt ≡ bare_stmt (test_tree span access)

pub test_made : (span : Span) (access : Access) → IsTest span access
test_made span access =
    let condition = condition_made span access in
    let thrown = t.throws nowhere nowhere (word (codes "IndexOutOfBoundsException")) nowhere nowhere nowhere (t.reason (codes "guard") nowhere) in
    let throw_kind = s.Throw (record { text = codes "IndexOutOfBoundsException"; span = span }) in
    record {
      found = _;
      is = t.if_then nowhere nowhere nowhere (g.binary condition.is) thrown;
      same = node_same _ _ _ span (if_same condition.found.expr (is_outside span access) _ (record { kind = throw_kind; span = span }) condition.same
          (node_same (s.Throw (word (codes "IndexOutOfBoundsException"))) throw_kind _ span (throw_same (word (codes "IndexOutOfBoundsException")) span)));
    }
