-- Which annotations of a list are meant.
use Rattle.std.specs.Prelude.{nat_lt, Bool, true, not, List}
use Rattle.ix_tree.specs.declared.annot.Annot.{Annot}
use Rattle.ix_tree.specs.declared.annot.TypeTree.{TypeTree}
use Rattle.ix_annot.specs.Table.{counted}
use Rattle.ix_meaning.specs.Annotated.{is_of_method, of_method, of_result}
use Rattle.ix_meaning.specs.Declarators.{counting}
use Rattle.ix_class_members.specs.declared.part.Part.{Part}
use Rattle.ix_class_members.specs.declared.part.Part.TheVariants.{All, OfMethod, OfResult, Counting}

abbrev pub is_chosen : Part → Annot → Bool
is_chosen All annot = true
is_chosen OfMethod annot = is_of_method annot
is_chosen OfResult annot = not (is_of_method annot)
is_chosen Counting annot = nat_lt 0 (counted annot)

abbrev pub chosen : Part → List Annot → List Annot
chosen All annots = annots
chosen OfMethod annots = of_method annots
chosen OfResult annots = of_result annots
chosen Counting annots = counting annots

-- a type with these annotations behind its base
abbrev pub behind_base : List Annot → TypeTree → TypeTree
behind_base annots ty = record ty { annots = annots }
