-- Names can be looked up by their places in the tree of a source.
use Rattle.std.proofs.Common.{◌≤◌, ℕ, List, ◌++◌, length, refl, length-append, arith}
use Rattle.ix_lexer.specs.declared.token.Token.{Token}
use Rattle.ix_lexer.specs.Spans.{InOrder}
use Rattle.ix_tree.specs.declared.decl.Unit.{Unit as Source}
use Rattle.ix_tree.specs.Parts.{Part, expression, statement, declaration, in_type, elsewhere, entries, IsShort, class_parts, unit_parts, CanResolve}
use Rattle.ix_grammar.specs.declared.classes.FoundUnit.{FoundUnit}
use Rattle.ix_grammar.specs.ClassGrammar.{IsClass, program, no_classes, with_class}
use Rattle.ix_grammar.specs.SourceGrammar.{source_parts, IsSource}
use Rattle.ix_lexer.proofs.SplitInOrder.{order_both}
use Rattle.ix_tree.proofs.PartPlaces.{Short, Stand, all_more}
use Rattle.ix_grammar_rules.proofs.DeclPlaces.{wider, repeated_trees}
use Rattle.ix_grammar_rules.proofs.ClassPlaces.{class_stands}

source_stands : (lo hi : ℕ) (tokens : List Token) (found : FoundUnit) → IsSource tokens found → InOrder lo hi tokens → Stand lo hi (length tokens) (unit_parts found.unit)
source_stands lo hi _ _ (program {first} {second} {third} {name} {imports} {classes} p i d) o =
    let (one, a, b, q, r) = order_both lo hi first (second ++ third) o in
    let (two, c, e, s, t) = order_both one hi second third r in
    wider (repeated_trees (IsClass source_parts) (λ x. x.class) class_parts (λ x. x.classes) with_class (λ x y. refl) no_classes refl class_stands two hi third classes d t)
    lo hi (length (first ++ (second ++ third))) (omega (arith, a, c)) (omega arith) (omega (arith, length-append first (second ++ third), length-append second third))

is_short : (n : ℕ) → n ≤ 200000 → (part : Part) → Short n part → IsShort part
is_short n le (entries m) few = omega (arith, le, few)
is_short n le (expression span) few = tt
is_short n le (statement span) few = tt
is_short n le declaration few = tt
is_short n le (in_type name) few = tt
is_short n le (elsewhere name) few = tt

resolves : (lo hi n : ℕ) (unit : Source) → Stand lo hi n (unit_parts unit) → n ≤ 200000 → CanResolve unit
resolves lo hi n unit s le = record {
  apart = s.apart;
  short = all_more (Short n) IsShort (is_short n le) (unit_parts unit) s.short;
  few_declarations = omega (arith, s.few_declarations, le);
  few_nodes = omega (arith, s.few_nodes, le);
}

pub source_can_resolve : (tokens : List Token) (found : FoundUnit) (end : ℕ) → IsSource tokens found → InOrder 0 end tokens → length tokens ≤ 200000 → CanResolve found.unit
source_can_resolve tokens found end d o few = resolves 0 end (length tokens) found.unit (source_stands 0 end tokens found d o) few
