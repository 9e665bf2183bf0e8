-- Each place that the program of a placed source names lies in its text, and so does the place of a limit that a method passes.
use Rattle.std.proofs.Common.{◌≡◌, ◌≤◌, ℕ, map, Result, Ok, Err, subst, arith}
use Rattle.ix_core.specs.declared.program.Program.{Program}
use Rattle.ix_tree.specs.declared.decl.Unit.{Unit as Source}
use Rattle.ix_tree.specs.Placed.{Placed, row, class_piece}
use Rattle.ix_meaning.specs.Limits.{Passed}
use Rattle.ix_meaning.specs.Resolved.{Names}
use Rattle.ix_plain.specs.Program.{program}
use Rattle.ix_formed.specs.EachNode.{InText, SourceNodes}
use Rattle.ix_formed.proofs.LaidNodes.{laid_nodes, nodes_more}
use Rattle.ix_formed.proofs.PlacedNodes.{source_nodes}
use Rattle.ix_core.specs.CodePlaces.{IsIn, PlacesWithin}
use Rattle.ix_formed.proofs.ProgramPlaces.{Tells, program_places}

abbrev StartsBy : ℕ → ℕ → Type 0
StartsBy end at = at ≤ end

abbrev Answers : ℕ → Result Program Passed → Type 0
Answers end answer = Tells (PlacesWithin end) (λ (passed : Passed). StartsBy end passed.place) answer

module _ (end : ℕ) (source : Source) (placed : Placed end source) where
  nodes : SourceNodes (IsIn end) source
  nodes = source_nodes (IsIn end) source (nodes_more (InText end) (IsIn end) (λ span s. let a = s.0 in let b = s.1 in ((omega (arith, a, b)), b)) (row (map class_piece source.classes))
      (laid_nodes end 0 0 end (row (map class_piece source.classes)) (omega arith) placed))

  answers : (names : Names) → Answers end (program names source.classes)
  answers names = program_places (IsIn end) (StartsBy end) (λ span s. s.0) names source.classes nodes

  pub placed_program : (names : Names) (made : Program) → program names source.classes ≡ Ok made → PlacesWithin end made
  placed_program names made is = subst (Answers end) is (answers names)

  pub placed_limit : (names : Names) (passed : Passed) → program names source.classes ≡ Err passed → passed.place ≤ end
  placed_limit names passed is = subst (Answers end) is (answers names)
