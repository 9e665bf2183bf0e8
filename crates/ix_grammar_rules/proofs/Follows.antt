-- What may follow an expression that goes no further, and with what an expression begins.
use Rattle.std.proofs.Common.{◌≡◌, ℕ, suc, ◌<◌, ◌≤◌, Bool, List, ◌∷◌, ◌++◌, Option, Some, None, refl, append_assoc, arith}
use Rattle.ix_text.specs.declared.span.Span.{Span}
use Rattle.ix_num.specs.declared.arith.Arith.{Arith}
use Rattle.ix_lexer.specs.declared.token.Token.{Token}
use Rattle.ix_lexer.specs.declared.fixed.TheConstants.{FINAL, AT, INT, BOOLEAN, MINUS, DOT, COMMA, SEMICOLON, OPEN_PAREN, CLOSE_PAREN, OPEN_BRACKET, CLOSE_BRACKET, OPEN_BRACE, CLOSE_BRACE}
use Rattle.ix_tree.specs.declared.expr.BinaryOp.{BinaryOp}
use Rattle.ix_grammar.specs.declared.found.Found.{Found}
use Rattle.ix_grammar.specs.declared.found.FoundInit.{FoundInit}
use Rattle.ix_grammar.specs.declared.found.FoundItems.{FoundItems}
use Rattle.ix_grammar.specs.declared.found.Several.{Several}
use Rattle.ix_grammar.specs.declared.found.Form.TheVariants as form
use Rattle.ix_grammar_rules.specs.Rule.{look}
use Rattle.ix_grammar.specs.Patterns.{sign, a_sign, a_least, row, one_of, an_operator, binary_signs, unary_signs, step_signs, assign_signs}
use Rattle.ix_grammar.specs.ExprGrammar as g
use Rattle.ix_grammar.specs.ExprGrammar.{Kind, Primary, Whole, Level, IsExpr, IsExprs, IsInit, IsInits}
use Rattle.ix_grammar_rules.proofs.Tables.{other_sign, other_table, no_operator, other_level}

-- this sign doesn't come next
abbrev pub Free : ℕ → List Token → Type 0
Free n us = look (a_sign n) us ≡ None

pub record AfterPrimary (us : List Token) : Type 0 where
  pub paren : Free OPEN_PAREN us
  pub dot : Free DOT us
  pub bracket : Free OPEN_BRACKET us

pub record AfterUnary (us : List Token) : Type 0 where
  pub primary : AfterPrimary us
  pub step : look (one_of step_signs) us ≡ None

pub record AfterLevel (n : ℕ) (us : List Token) : Type 0 where
  pub unary : AfterUnary us
  pub operators : (m : ℕ) → m < n → look (an_operator m) us ≡ None

pub record AfterWhole (us : List Token) : Type 0 where
  pub level : AfterLevel 10 us
  pub assign : look (one_of assign_signs) us ≡ None

pub tighter : (n m : ℕ) (us : List Token) → m < suc n → AfterLevel n us → AfterLevel m us
tighter n m us lt a = record { unary = a.unary; operators = λ k l. a.operators k (omega (arith, l, lt)) }

-- ---- closing signs

pub after_close_paren : (s : Span) (us : List Token) → AfterWhole (sign CLOSE_PAREN s ∷ us)
after_close_paren s us = record { level = record { unary = record { primary = record { paren = refl; dot = refl; bracket = refl }; step = refl }; operators = λ m l. refl }; assign = refl }

pub after_close_bracket : (s : Span) (us : List Token) → AfterWhole (sign CLOSE_BRACKET s ∷ us)
after_close_bracket s us = record { level = record { unary = record { primary = record { paren = refl; dot = refl; bracket = refl }; step = refl }; operators = λ m l. refl }; assign = refl }

pub after_close_brace : (s : Span) (us : List Token) → AfterWhole (sign CLOSE_BRACE s ∷ us)
after_close_brace s us = record { level = record { unary = record { primary = record { paren = refl; dot = refl; bracket = refl }; step = refl }; operators = λ m l. refl }; assign = refl }

pub after_comma : (s : Span) (us : List Token) → AfterWhole (sign COMMA s ∷ us)
after_comma s us = record { level = record { unary = record { primary = record { paren = refl; dot = refl; bracket = refl }; step = refl }; operators = λ m l. refl }; assign = refl }

pub after_semicolon : (s : Span) (us : List Token) → AfterWhole (sign SEMICOLON s ∷ us)
after_semicolon s us = record { level = record { unary = record { primary = record { paren = refl; dot = refl; bracket = refl }; step = refl }; operators = λ m l. refl }; assign = refl }

-- ---- operators

pub before_step : (number : ℕ) (up : Bool) (s : Span) (us : List Token) → row step_signs number ≡ Some up → AfterPrimary (sign number s ∷ us)
before_step number up s us h = record { paren = other_sign step_signs number OPEN_PAREN up s us refl h; dot = other_sign step_signs number DOT up s us refl h; bracket = other_sign step_signs number OPEN_BRACKET up s us refl h }

pub before_operator : (number n : ℕ) (op : BinaryOp) (s : Span) (us : List Token) → row binary_signs number ≡ Some (n, op) → AfterLevel n (sign number s ∷ us)
before_operator number n op s us h = record {
  unary = record {
    primary = record { paren = other_sign binary_signs number OPEN_PAREN (n, op) s us refl h; dot = other_sign binary_signs number DOT (n, op) s us refl h; bracket = other_sign binary_signs number OPEN_BRACKET (n, op) s us refl h };
    step = other_table binary_signs step_signs number (n, op) s us refl h;
  };
  operators = λ m l. other_level number n m op s us l h;
}

pub before_assign : (number : ℕ) (op : Option Arith) (s : Span) (us : List Token) → row assign_signs number ≡ Some op → AfterLevel 10 (sign number s ∷ us)
before_assign number op s us h = record {
  unary = record {
    primary = record { paren = other_sign assign_signs number OPEN_PAREN op s us refl h; dot = other_sign assign_signs number DOT op s us refl h; bracket = other_sign assign_signs number OPEN_BRACKET op s us refl h };
    step = other_table assign_signs step_signs number op s us refl h;
  };
  operators = λ m l. no_operator assign_signs number op s us m refl h;
}

-- ---- how expressions begin

pub record Starts (us : List Token) : Type 0 where
  pub paren : Free CLOSE_PAREN us
  pub bracket : Free CLOSE_BRACKET us
  pub brace : Free CLOSE_BRACE us
  pub items : Free OPEN_BRACE us
  pub semicolon : Free SEMICOLON us
  pub least : look a_least us ≡ None
  pub final : Free FINAL us
  pub at : Free AT us
  pub int : Free INT us
  pub boolean : Free BOOLEAN us

pub record StartsPrimary (us : List Token) : Type 0 where
  pub starts : Starts us
  pub minus : Free MINUS us
  pub unary : look (one_of unary_signs) us ≡ None
  pub step : look (one_of step_signs) us ≡ None

any_start : {V : Type 0} (table : List (ℕ × V)) (number : ℕ) (v : V) (s : Span) (us : List Token) → row table CLOSE_PAREN ≡ None → row table CLOSE_BRACKET ≡ None → row table CLOSE_BRACE ≡ None → row table OPEN_BRACE ≡ None → row table SEMICOLON ≡ None → row table FINAL ≡ None → row table AT ≡ None → row table INT ≡ None → row table BOOLEAN ≡ None
    → row table number ≡ Some v → Starts (sign number s ∷ us)
any_start table number v s us a b c d e f i j l h = record { paren = other_sign table number CLOSE_PAREN v s us a h; bracket = other_sign table number CLOSE_BRACKET v s us b h; brace = other_sign table number CLOSE_BRACE v s us c h; items = other_sign table number OPEN_BRACE v s us d h; semicolon = other_sign table number SEMICOLON v s us e h; least = refl; final = other_sign table number FINAL v s us f h; at = other_sign table number AT v s us i h; int = other_sign table number INT v s us j h; boolean = other_sign table number BOOLEAN v s us l h }

pub starts_primary : {ts : List Token} {f : Found} → IsExpr Primary ts f → (us : List Token) → StartsPrimary (ts ++ us)
starts_primary (g.number n s) us = record { starts = record { paren = refl; bracket = refl; brace = refl; items = refl; semicolon = refl; least = refl; final = refl; at = refl; int = refl; boolean = refl }; minus = refl; unary = refl; step = refl }
starts_primary (g.truth s) us = record { starts = record { paren = refl; bracket = refl; brace = refl; items = refl; semicolon = refl; least = refl; final = refl; at = refl; int = refl; boolean = refl }; minus = refl; unary = refl; step = refl }
starts_primary (g.falsity s) us = record { starts = record { paren = refl; bracket = refl; brace = refl; items = refl; semicolon = refl; least = refl; final = refl; at = refl; int = refl; boolean = refl }; minus = refl; unary = refl; step = refl }
starts_primary (g.null s) us = record { starts = record { paren = refl; bracket = refl; brace = refl; items = refl; semicolon = refl; least = refl; final = refl; at = refl; int = refl; boolean = refl }; minus = refl; unary = refl; step = refl }
starts_primary (g.this s) us = record { starts = record { paren = refl; bracket = refl; brace = refl; items = refl; semicolon = refl; least = refl; final = refl; at = refl; int = refl; boolean = refl }; minus = refl; unary = refl; step = refl }
starts_primary (g.variable x) us = record { starts = record { paren = refl; bracket = refl; brace = refl; items = refl; semicolon = refl; least = refl; final = refl; at = refl; int = refl; boolean = refl }; minus = refl; unary = refl; step = refl }
starts_primary (g.call x a) us = record { starts = record { paren = refl; bracket = refl; brace = refl; items = refl; semicolon = refl; least = refl; final = refl; at = refl; int = refl; boolean = refl }; minus = refl; unary = refl; step = refl }
starts_primary (g.paren l r d) us = record { starts = record { paren = refl; bracket = refl; brace = refl; items = refl; semicolon = refl; least = refl; final = refl; at = refl; int = refl; boolean = refl }; minus = refl; unary = refl; step = refl }
starts_primary (g.new_object s x a) us = record { starts = record { paren = refl; bracket = refl; brace = refl; items = refl; semicolon = refl; least = refl; final = refl; at = refl; int = refl; boolean = refl }; minus = refl; unary = refl; step = refl }
starts_primary (g.array_of_length s l r n b d p) us = record { starts = record { paren = refl; bracket = refl; brace = refl; items = refl; semicolon = refl; least = refl; final = refl; at = refl; int = refl; boolean = refl }; minus = refl; unary = refl; step = refl }
starts_primary (g.array_of_items s o n b p i) us = record { starts = record { paren = refl; bracket = refl; brace = refl; items = refl; semicolon = refl; least = refl; final = refl; at = refl; int = refl; boolean = refl }; minus = refl; unary = refl; step = refl }
starts_primary (g.select dot x d) us = rw append_assoc (starts_primary d _)
starts_primary (g.call_on dot x d a) us = rw append_assoc (starts_primary d _)
starts_primary (g.index l r d n x) us = rw append_assoc (starts_primary d _)

pub starts : {kind : Kind} {ts : List Token} {f : Found} → IsExpr kind ts f → (us : List Token) → Starts (ts ++ us)
starts (g.primary d) us = let p = starts_primary d us in p.starts
starts (g.least m l) us = record { paren = refl; bracket = refl; brace = refl; items = refl; semicolon = refl; least = refl; final = refl; at = refl; int = refl; boolean = refl }
starts (g.signed number op s h d) us = any_start unary_signs number op s _ refl refl refl refl refl refl refl refl refl h
starts (g.step_before number up s h d v) us = any_start step_signs number up s _ refl refl refl refl refl refl refl refl refl h
starts (g.step_after number up s h d v) us = rw append_assoc (let p = starts_primary d _ in p.starts)
starts (g.wider d) us = starts d us
starts (g.operators n number op s h d e) us = rw append_assoc (starts d _)
starts (g.binary d) us = starts d us
starts (g.assign number op s h d v e) us = rw append_assoc (let p = starts_primary d _ in p.starts)
starts (g.number n s) us = record { paren = refl; bracket = refl; brace = refl; items = refl; semicolon = refl; least = refl; final = refl; at = refl; int = refl; boolean = refl }
starts (g.truth s) us = record { paren = refl; bracket = refl; brace = refl; items = refl; semicolon = refl; least = refl; final = refl; at = refl; int = refl; boolean = refl }
starts (g.falsity s) us = record { paren = refl; bracket = refl; brace = refl; items = refl; semicolon = refl; least = refl; final = refl; at = refl; int = refl; boolean = refl }
starts (g.null s) us = record { paren = refl; bracket = refl; brace = refl; items = refl; semicolon = refl; least = refl; final = refl; at = refl; int = refl; boolean = refl }
starts (g.this s) us = record { paren = refl; bracket = refl; brace = refl; items = refl; semicolon = refl; least = refl; final = refl; at = refl; int = refl; boolean = refl }
starts (g.variable x) us = record { paren = refl; bracket = refl; brace = refl; items = refl; semicolon = refl; least = refl; final = refl; at = refl; int = refl; boolean = refl }
starts (g.call x a) us = record { paren = refl; bracket = refl; brace = refl; items = refl; semicolon = refl; least = refl; final = refl; at = refl; int = refl; boolean = refl }
starts (g.paren l r d) us = record { paren = refl; bracket = refl; brace = refl; items = refl; semicolon = refl; least = refl; final = refl; at = refl; int = refl; boolean = refl }
starts (g.new_object s x a) us = record { paren = refl; bracket = refl; brace = refl; items = refl; semicolon = refl; least = refl; final = refl; at = refl; int = refl; boolean = refl }
starts (g.array_of_length s l r n b d p) us = record { paren = refl; bracket = refl; brace = refl; items = refl; semicolon = refl; least = refl; final = refl; at = refl; int = refl; boolean = refl }
starts (g.array_of_items s o n b p i) us = record { paren = refl; bracket = refl; brace = refl; items = refl; semicolon = refl; least = refl; final = refl; at = refl; int = refl; boolean = refl }
starts (g.select dot x d) us = rw append_assoc (starts d _)
starts (g.call_on dot x d a) us = rw append_assoc (starts d _)
starts (g.index l r d n x) us = rw append_assoc (starts d _)

-- every expression has a height
pub tall : {kind : Kind} {ts : List Token} {f : Found} → IsExpr kind ts f → 0 < f.height
tall (g.primary d) = tall d
tall (g.wider d) = tall d
tall (g.binary d) = tall d
tall (g.least m l) = omega arith
tall (g.signed number op s h d) = omega arith
tall (g.step_before number up s h d v) = omega arith
tall (g.step_after number up s h d v) = omega arith
tall (g.operators n number op s h d e) = omega arith
tall (g.assign number op s h d v e) = omega arith
tall (g.number n s) = omega arith
tall (g.truth s) = omega arith
tall (g.falsity s) = omega arith
tall (g.null s) = omega arith
tall (g.this s) = omega arith
tall (g.variable x) = omega arith
tall (g.call x a) = omega arith
tall (g.paren l r d) = omega arith
tall (g.new_object s x a) = omega arith
tall (g.array_of_length s l r n b d p) = omega arith
tall (g.array_of_items s o n b p i) = omega arith
tall (g.select dot x d) = omega arith
tall (g.call_on dot x d a) = omega arith
tall (g.index l r d n x) = omega arith

-- a variable is no literal
pub variable_tall : {ts : List Token} {f : Found} → IsExpr Primary ts f → f.form ≡ form.Variable → 2 ≤ f.height
variable_tall (g.variable x) v = omega arith
variable_tall (g.select dot x d) v = omega arith
variable_tall (g.index l r d n x) v = let t = tall d in omega (arith, t)
variable_tall (g.number n s) v = absurd (cc)
variable_tall (g.truth s) v = absurd (cc)
variable_tall (g.falsity s) v = absurd (cc)
variable_tall (g.null s) v = absurd (cc)
variable_tall (g.this s) v = absurd (cc)
variable_tall (g.call x a) v = absurd (cc)
variable_tall (g.paren l r d) v = absurd (cc)
variable_tall (g.new_object s x a) v = absurd (cc)
variable_tall (g.array_of_length s l r n b d p) v = absurd (cc)
variable_tall (g.array_of_items s o n b p i) v = absurd (cc)
variable_tall (g.call_on dot x d a) v = absurd (cc)

pub starts_exprs : {ts : List Token} {s : Several} → IsExprs ts s → (us : List Token) → Starts (ts ++ us)
starts_exprs (g.one d) us = starts d us
starts_exprs (g.and c d e) us = rw append_assoc (starts_exprs d _)

pub init_starts : {ts : List Token} {i : FoundInit} → IsInit ts i → (us : List Token) → Free CLOSE_BRACE (ts ++ us)
init_starts (g.value d) us = let s = starts d us in s.brace
init_starts (g.entries o d) us = refl

pub inits_start : {ts : List Token} {s : FoundItems} → IsInits ts s → (us : List Token) → Free CLOSE_BRACE (ts ++ us)
inits_start (g.first d) us = init_starts d us
inits_start (g.later c d e) us = rw append_assoc (inits_start d _)
