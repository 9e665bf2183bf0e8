-- The moved tokens of a source are a source, whose tree is the moved one.
use Rattle.std.proofs.Common.{◌≡◌, max, List, [], ◌∷◌, ◌++◌, refl, sym, ap}
use Rattle.ix_lexer.specs.declared.token.Token.{Token}
use Rattle.ix_lexer.specs.declared.fixed.TheConstants.{SEMICOLON, DOT, TIMES}
use Rattle.ix_tree.specs.declared.decl.ClassDecl.{ClassDecl}
use Rattle.ix_grammar.specs.declared.classes.Classes.{Classes}
use Rattle.ix_grammar.specs.declared.classes.FoundClass.{FoundClass}
use Rattle.ix_grammar.specs.Patterns.{sign}
use Rattle.ix_grammar.specs.Lists.{IsRepeated}
use Rattle.ix_grammar.specs.DeclGrammar.{nothing_more}
use Rattle.ix_grammar.specs.ClassGrammar as g
use Rattle.ix_grammar.specs.ClassGrammar.{IsDotName, IsDotted, IsPackage, IsImported, IsImport, IsClass, no_classes, with_class}
use Rattle.ix_grammar.specs.SourceGrammar.{source_parts, IsSource}
use Rattle.ix_guard_text.proofs.ListsAgain.{map_joined}
use Rattle.ix_guard_text.specs.Moved.{Move, moved_span, moved_tokens, moved_name, moved_class}
use Rattle.ix_guard_text.specs.MovedFound.{moved_found_class, moved_classes, moved_unit}
use Rattle.ix_guard_text.proofs.ListsMoved.{both, Moves, repeated}
use Rattle.ix_guard_text.proofs.ClassesMoved.{class_moves}

module _ (move : Move) where
  -- ---- package and import lines

  dot_name_moves : Moves move IsDotName IsDotName (moved_name move)
  dot_name_moves _ _ (g.dot_name dot name) = g.dot_name (moved_span move dot) (moved_name move name)

  dotted_moves : (ts : List Token) → IsDotted ts → IsDotted (moved_tokens move ts)
  dotted_moves _ (g.dotted {tokens} {names} name d) =
      g.dotted (moved_name move name) (repeated move IsDotName IsDotName (moved_name move) dot_name_moves (λ x. x) nothing_more (λ s x. refl) tt refl tokens names d)

  pub package_moves : Moves move IsPackage IsPackage (λ x. x)
  package_moves _ _ g.none = g.none
  package_moves _ _ (g.package_line {tokens} span end d) =
      rw (both move tokens (sign SEMICOLON end ∷ [])) (g.package_line (moved_span move span) (moved_span move end) (dotted_moves tokens d))

  imported_moves : (ts : List Token) → IsImported ts → IsImported (moved_tokens move ts)
  imported_moves _ (g.one {tokens} end d) = rw (both move tokens (sign SEMICOLON end ∷ [])) (g.one (moved_span move end) (dotted_moves tokens d))
  imported_moves _ (g.each {tokens} dot times end d) =
      rw (both move tokens (sign DOT dot ∷ sign TIMES times ∷ sign SEMICOLON end ∷ [])) (g.each (moved_span move dot) (moved_span move times) (moved_span move end) (dotted_moves tokens d))

  import_moves : Moves move IsImport IsImport (λ x. x)
  import_moves _ _ (g.plain {tokens} span d) = g.plain (moved_span move span) (imported_moves tokens d)
  import_moves _ _ (g.static {tokens} span static d) = g.static (moved_span move span) (moved_span move static) (imported_moves tokens d)

  pub imports_move : Moves move (IsRepeated IsImport tt nothing_more) (IsRepeated IsImport tt nothing_more) (λ x. x)
  imports_move = repeated move IsImport IsImport (λ x. x) import_moves (λ x. x) nothing_more (λ s x. refl) tt refl

  -- ---- whole sources

  classes_joined : (s : Classes) (x : FoundClass) → with_class (moved_classes move s) (moved_found_class move x) ≡ moved_classes move (with_class s x)
  classes_joined s x = ap (λ (l : List ClassDecl). let y : Classes = record { classes = l; height = max s.height x.height } in y) (sym (map_joined (moved_class move) s.classes x.class))

  pub source_moves : Moves move IsSource IsSource (moved_unit move)
  source_moves _ _ (g.program {first} {second} {third} {name} {imports} {classes} p i r) =
      rw (both move first (second ++ third), both move second third)
      (g.program (package_moves first name p)
      (imports_move second imports i)
      (repeated move (IsClass source_parts) (IsClass source_parts) (moved_found_class move) (class_moves move) (moved_classes move) with_class classes_joined no_classes refl third classes r))
