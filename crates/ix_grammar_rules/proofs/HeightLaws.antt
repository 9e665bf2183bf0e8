-- A tree of the grammar is at most as high as its derivation, which counts parentheses too.
use Rattle.std.proofs.Common.{◌≡◌, ◌≤◌, ℕ, max, suc, negsuc, true, false, List, [], ◌∷◌, ◌++◌, Option, Some, None, refl, ap, arith}
use Rattle.ix_lexer.specs.declared.token.Token.{Token}
use Rattle.ix_tree.specs.declared.annot.Annot.{Annot}
use Rattle.ix_tree.specs.declared.annot.AnnotArg.{AnnotArg}
use Rattle.ix_tree.specs.declared.annot.BaseTree.{BaseTree}
use Rattle.ix_tree.specs.declared.annot.BaseTree.TheVariants.{Int, Boolean, Named}
use Rattle.ix_tree.specs.declared.annot.Ident.{Ident}
use Rattle.ix_tree.specs.declared.expr.ExprKind.TheVariants as e
use Rattle.ix_tree.specs.Heights as t
use Rattle.ix_tree.specs.Heights.{of_maybe, of_all, mods_height, type_height, expr_height, init_height, decl_height}
use Rattle.ix_tree.proofs.HeightParts.{expr_is, int_kind, bool_kind, null_kind, this_kind, name_kind, select_kind, index_kind, call_kind, call_on_kind, new_kind, new_array_kind, new_items_kind, unary_kind, binary_kind, assign_kind, step_is, value_is, items_are, of_joined}
use Rattle.ix_grammar.specs.declared.declarations.FoundDecl.{FoundDecl}
use Rattle.ix_grammar.specs.declared.declarations.FoundMods.{FoundMods}
use Rattle.ix_grammar.specs.declared.declarations.Params.{Params}
use Rattle.ix_grammar.specs.declared.declarations.Shared.{Shared}
use Rattle.ix_grammar.specs.declared.declarations.Word.{Word}
use Rattle.ix_grammar.specs.declared.found.Args.{Args}
use Rattle.ix_grammar.specs.declared.found.At.{At}
use Rattle.ix_grammar.specs.declared.found.Found.{Found}
use Rattle.ix_grammar.specs.declared.found.FoundDecls.{FoundDecls}
use Rattle.ix_grammar.specs.declared.found.FoundInit.{FoundInit}
use Rattle.ix_grammar.specs.declared.found.FoundItems.{FoundItems}
use Rattle.ix_grammar.specs.declared.found.FoundType.{FoundType}
use Rattle.ix_grammar.specs.declared.found.Notes.{Notes}
use Rattle.ix_grammar.specs.declared.found.Several.{Several}
use Rattle.ix_grammar.specs.Nodes.{across}
use Rattle.ix_grammar.specs.Lists.{IsSeparated, IsRepeated, first_item, next_item, no_item, one_more}
use Rattle.ix_grammar.specs.AnnotGrammar.{IsAnnot, IsNotes, annot_height, args_height, name_height, no_notes, with_note}
use Rattle.ix_grammar.specs.TypeGrammar as types
use Rattle.ix_grammar.specs.TypeGrammar.{IsType}
use Rattle.ix_grammar.specs.ExprNodes.{created_type}
use Rattle.ix_grammar.specs.ExprGrammar as g
use Rattle.ix_grammar.specs.ExprGrammar.{Kind, IsExpr, IsExprs, IsArgs, IsInit, IsInits, IsItems}
use Rattle.ix_grammar.specs.DeclGrammar as d
use Rattle.ix_grammar.specs.DeclGrammar.{IsMods, IsDecl, IsDecls, IsParam, IsParams, shared, one_decl, with_decl, one_param, with_param}
use Rattle.ix_grammar_rules.proofs.DeclLaid.{marked_annots}

-- ---- repetitions, whose items are at most so high

module _ {A B : Type 0} (Item : List Token → A → Type 0) (tree : A → B) (height : B → ℕ) (high : A → ℕ) (low : (ts : List Token) (x : A) → Item ts x → height (tree x) ≤ high x) {S : Type 0} (list : S → List B) (bound : S → ℕ) (add : S → A → S)
    (adds : (s : S) (x : A) → list (add s x) ≡ list s ++ tree x ∷ []) (bounds : (s : S) (x : A) → bound (add s x) ≡ max (bound s) (high x)) where
  pub repeated_low : (none : S) → list none ≡ [] → (ts : List Token) (s : S) → IsRepeated Item none add ts s → of_all height (list s) ≤ bound s
  repeated_low none empty _ _ no_item = omega (arith, ap (λ l. of_all height l) empty)
  repeated_low none empty _ _ (one_more {before} {tokens} {items} {item} r i) =
      omega (arith, ap (λ l. of_all height l) (adds items item), of_joined height (list items) (tree item), repeated_low none empty before items r, low tokens item i, bounds items item)

  pub separated_low : (first : A → S) → ((x : A) → list (first x) ≡ tree x ∷ []) → ((x : A) → bound (first x) ≡ high x) → (ts : List Token) (s : S) → IsSeparated Item first add ts s → of_all height (list s) ≤ bound s
  separated_low first starts begins _ _ (first_item {tokens} {item} i) = omega (arith, ap (λ l. of_all height l) (starts item), begins item, low tokens item i)
  separated_low first starts begins _ _ (next_item {before} {tokens} {items} {item} comma r i) =
      omega (arith, ap (λ l. of_all height l) (adds items item), of_joined height (list items) (tree item), separated_low first starts begins before items r, low tokens item i, bounds items item)

-- ---- annotations, modifiers, types

name_low : (name : Option Ident) → of_maybe t.name_height name ≤ name_height name
name_low None = omega arith
name_low (Some name) = omega arith

args_low_too : (args : List AnnotArg) → of_all t.arg_height args ≤ args_height args
args_low_too [] = omega arith
args_low_too (arg ∷ args) = omega (arith, name_low arg.name, args_low_too args)

annot_low : (annot : Annot) → t.annot_height annot ≤ annot_height annot
annot_low annot = omega (arith, args_low_too annot.args)

notes_low : (ts : List Token) (notes : Notes) → IsNotes ts notes → of_all t.annot_height notes.annots ≤ notes.height
notes_low ts notes r = repeated_low IsAnnot (λ x. x) t.annot_height annot_height (λ ts x i. annot_low x) (λ n. n.annots) (λ n. n.height) with_note (λ n x. refl) (λ n x. refl) no_notes refl ts notes r

pub mods_low : (words : List (ℕ × Word)) (ts : List Token) (found : FoundMods) → IsMods words ts found → mods_height found.mods ≤ found.height
mods_low words _ _ d.none = omega arith
mods_low words _ _ (d.word {tokens} {found} number span {word} r m) = omega (arith, ap (λ l. of_all t.annot_height l) (marked_annots found word), mods_low words tokens found m)
mods_low words _ _ (d.annot {before} {tokens} {found} {annot} m x) = omega (arith, of_joined t.annot_height found.mods.annots annot, mods_low words before found m, annot_low annot)

base_low : (base : BaseTree) → t.base_height base ≤ types.base_height base
base_low Int = omega arith
base_low Boolean = omega arith
base_low (Named name) = omega arith

pub type_low : (ts : List Token) (ty : FoundType) → IsType ts ty → type_height ty.ty ≤ ty.height
type_low _ _ (types.type {tokens} {base} b types.no_rest) = omega (arith, base_low base.value)
type_low _ _ (types.type {base} b (types.array {before} {notes} n p)) = omega (arith, base_low base.value, notes_low before notes n)

created_low : (base : At BaseTree) (before : List Token) (notes : Notes) (brackets : At ℕ) → IsNotes before notes → type_height (created_type base notes brackets).ty ≤ (created_type base notes brackets).height
created_low base before notes brackets n = omega (arith, base_low base.value, notes_low before notes n)

-- ---- expressions and initialisers

mutual
  pub expr_low : (k : Kind) (ts : List Token) (f : Found) → IsExpr k ts f → expr_height f.expr ≤ f.height
  expr_low _ _ _ (g.number n s) = omega (arith, expr_is (e.Int n) s, int_kind n)
  expr_low _ _ _ (g.truth s) = omega (arith, expr_is (e.Bool true) s, bool_kind true)
  expr_low _ _ _ (g.falsity s) = omega (arith, expr_is (e.Bool false) s, bool_kind false)
  expr_low _ _ _ (g.null s) = omega (arith, expr_is e.Null s, null_kind)
  expr_low _ _ _ (g.this s) = omega (arith, expr_is e.This s, this_kind)
  expr_low _ _ _ (g.variable x) = omega (arith, expr_is (e.Name x) x.span, name_kind x)
  expr_low _ _ _ (g.call x {ts} {a} r) = omega (arith, expr_is (e.Call None x a.items) (across x.span a.end), call_kind x a.items, args_low ts a r)
  expr_low _ _ _ (g.paren left right {ts} {f} r) = omega (arith, expr_low g.Whole ts f r)
  expr_low _ _ _ (g.new_object start x {ts} {a} r) = omega (arith, expr_is (e.New x a.items) (across start a.end), new_kind x a.items, args_low ts a r)
  expr_low _ _ _ (g.array_of_length start left right {before} {base_tokens} {us} {tokens} {notes} {base} {g = h} {brackets} n b x m) =
      let ty = (created_type base notes brackets).ty in
      omega (arith, expr_is (e.NewArray ty h.expr) (across start brackets.span), new_array_kind ty h.expr, created_low base before notes brackets n, expr_low g.Whole us h x)
  expr_low _ _ _ (g.array_of_items start open_at {before} {base_tokens} {tokens} {us} {notes} {base} {brackets} {s} n b m x) =
      let ty = (created_type base notes brackets).ty in
      omega (arith, expr_is (e.NewItems ty s.items) (across start s.end), new_items_kind ty s.items, created_low base before notes brackets n, items_low us s x)
  expr_low _ _ _ (g.select dot x {ts} {f} r) = omega (arith, expr_is (e.Select f.expr x) (across f.outer x.span), select_kind f.expr x, expr_low g.Primary ts f r)
  expr_low _ _ _ (g.call_on dot x {ts} {us} {f} {a} r c) =
      omega (arith, expr_is (e.Call (Some f.expr) x a.items) (across f.outer a.end), call_on_kind f.expr x a.items, expr_low g.Primary ts f r, args_low us a c)
  expr_low _ _ _ (g.index left right {ts} {us} {f} {g = h} r n x) =
      omega (arith, expr_is (e.Index f.expr h.expr) (across f.outer right), index_kind f.expr h.expr, expr_low g.Primary ts f r, expr_low g.Whole us h x)
  expr_low _ _ _ (g.primary {ts} {f} r) = expr_low g.Primary ts f r
  expr_low _ _ _ (g.least minus literal) = omega (arith, expr_is (e.Int (negsuc 2147483647)) (across minus literal), int_kind (negsuc 2147483647))
  expr_low _ _ _ (g.signed number op s {ts} {f} r x) = omega (arith, expr_is (e.Unary op f.expr) (across s f.outer), unary_kind op f.expr, expr_low (g.Level 0) ts f x)
  expr_low _ _ _ (g.step_before number up s {ts} {f} r x v) = omega (arith, expr_is (e.Step up false f.expr) (across s f.outer), step_is up false f.expr, expr_low g.Primary ts f x)
  expr_low _ _ _ (g.step_after number up s {ts} {f} r x v) = omega (arith, expr_is (e.Step up true f.expr) (across f.outer s), step_is up true f.expr, expr_low g.Primary ts f x)
  expr_low _ _ _ (g.wider {level} {ts} {f} r) = expr_low (g.Level level) ts f r
  expr_low _ _ _ (g.operators level number op s {ts} {us} {f} {g = h} r x y) =
      omega (arith, expr_is (e.Binary op f.expr h.expr) (across f.outer h.outer), binary_kind op f.expr h.expr, expr_low (g.Level (suc level)) ts f x, expr_low (g.Level level) us h y)
  expr_low _ _ _ (g.binary {ts} {f} r) = expr_low (g.Level 10) ts f r
  expr_low _ _ _ (g.assign number op s {ts} {us} {f} {g = h} r x v y) =
      omega (arith, expr_is (e.Assign op f.expr h.expr) (across f.outer h.outer), assign_kind op f.expr h.expr, expr_low g.Primary ts f x, expr_low g.Whole us h y)

  exprs_low : (ts : List Token) (s : Several) → IsExprs ts s → of_all expr_height s.items ≤ s.height
  exprs_low _ _ (g.one {ts} {f} r) = omega (arith, expr_low g.Whole ts f r)
  exprs_low _ _ (g.and comma {ts} {us} {s} {f} r x) = omega (arith, of_joined expr_height s.items f.expr, exprs_low ts s r, expr_low g.Whole us f x)

  pub args_low : (ts : List Token) (a : Args) → IsArgs ts a → of_all expr_height a.items ≤ a.height
  args_low _ _ (g.no_args left right) = omega arith
  args_low _ _ (g.some_args left right {ts} {s} x) = exprs_low ts s x

  pub init_low : (ts : List Token) (i : FoundInit) → IsInit ts i → init_height i.init ≤ i.height
  init_low _ _ (g.value {ts} {f} r) = omega (arith, value_is f.expr, expr_low g.Whole ts f r)
  init_low _ _ (g.entries open_at {ts} {s} r) = omega (arith, items_are s.items (across open_at s.end), items_low ts s r)

  inits_low : (ts : List Token) (s : FoundItems) → IsInits ts s → of_all init_height s.items ≤ s.height
  inits_low _ _ (g.first {ts} {i} r) = omega (arith, init_low ts i r)
  inits_low _ _ (g.later comma {ts} {us} {s} {i} r x) = omega (arith, of_joined init_height s.items i.init, inits_low ts s r, init_low us i x)

  items_low : (ts : List Token) (s : FoundItems) → IsItems ts s → of_all init_height s.items ≤ s.height
  items_low _ _ (g.no_items right) = omega arith
  items_low _ _ (g.some_items right {ts} {s} r) = inits_low ts s r
  items_low _ _ (g.with_comma comma right {ts} {s} r) = inits_low ts s r

-- ---- declarators and parameters

-- what all declarators share is at most as high
abbrev pub LowShared : Shared → Type 0
LowShared all = (mods_height all.mods ≤ all.height) × (type_height all.ty ≤ all.height) × (1 ≤ all.height)

pub shared_low : (words : List (ℕ × Word)) (first second : List Token) (mods : FoundMods) (ty : FoundType) → IsMods words first mods → IsType second ty → LowShared (shared mods ty)
shared_low words first second mods ty m r = (omega (arith, mods_low words first mods m), omega (arith, type_low second ty r), omega arith)

decl_low : (all : Shared) → LowShared all → (ts : List Token) (found : FoundDecl) → IsDecl IsInit all ts found → decl_height found.decl ≤ found.height
decl_low all (a, b, c) _ _ (d.plain name) = omega (arith, a, b, c)
decl_low all (a, b, c) _ _ (d.with_init name assign {tokens} {found} r) = omega (arith, a, b, c, init_low tokens found r)

pub decls_low : (all : Shared) → LowShared all → (ts : List Token) (found : FoundDecls) → IsDecls IsInit all ts found → of_all decl_height found.decls ≤ found.height
decls_low all low ts found r = separated_low (IsDecl IsInit all) (λ x. x.decl) decl_height (λ x. x.height) (decl_low all low) (λ s. s.decls) (λ s. s.height) with_decl (λ s x. refl) (λ s x. refl) one_decl (λ x. refl) (λ x. refl) ts found r

param_low : (ts : List Token) (found : FoundDecl) → IsParam ts found → decl_height found.decl ≤ found.height
param_low _ _ (d.param {before} {tokens} {mods} {ty} name m r) = let (a, b, c) = shared_low d.local_words before tokens mods ty m r in omega (arith, a, b, c)

pub params_low : (ts : List Token) (params : Params) → IsParams ts params → of_all decl_height params.params ≤ params.height
params_low _ _ (d.none left right) = omega arith
params_low _ _ (d.some left right {tokens} {params} r) = separated_low IsParam (λ x. x.decl) decl_height (λ x. x.height) param_low (λ s. s.params) (λ s. s.height) with_param (λ s x. refl) (λ s x. refl) one_param (λ x. refl) (λ x. refl) tokens params r
