-- What annotations count together, and the declarations of one member.
use Rattle.std.specs.Prelude.{ℕ, ◌+◌, List, [], ◌∷◌, ◌++◌, map}
use Rattle.ix_tree.specs.declared.annot.Annot.{Annot}
use Rattle.ix_tree.specs.declared.decl.MethodDecl.{MethodDecl}
use Rattle.ix_tree.specs.declared.decl.Member.{Member}
use Rattle.ix_tree.specs.declared.decl.Member.TheVariants as member
use Rattle.ix_tree.specs.declared.stmt.Stmt.{Stmt}
use Rattle.ix_annot.specs.Table.{counted}
use Rattle.ix_meaning.specs.Limits.{declared_annots, each_annots, result_annots, stmt_annots, together}

-- what annotations count behind `before`
abbrev pub counted_on : ℕ → List Annot → ℕ
counted_on before [] = before
counted_on before (a ∷ annots) = counted_on (before + counted a) annots

abbrev pub all_statements : List Stmt → List (List Annot)
all_statements body = together (map stmt_annots body)

abbrev pub method_annots : MethodDecl → List (List Annot)
method_annots m = (m.mods.annots ++ result_annots m.result) ∷ (each_annots m.params ++ all_statements m.body)

abbrev pub annots_of : Member → List (List Annot)
annots_of (member.Field d) = declared_annots d ∷ []
annots_of (member.Method m) = method_annots m
