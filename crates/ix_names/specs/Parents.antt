-- The call of the parent's constructor, by the scope that it stands in, which has no object.
use Rattle.std.specs.Prelude.{ℕ, Bool, if◌then◌else◌, Option, Some, None, List, [], map}
use Rattle.ix_text.specs.declared.span.Span.{Span}
use Rattle.ix_tree.specs.declared.decl.MethodDecl.{MethodDecl}
use Rattle.ix_tree.specs.declared.expr.Expr.{Expr}
use Rattle.ix_meaning.specs.declared.note.Note.{Note}
use Rattle.ix_meaning.specs.Members.{constructor_params}
use Rattle.ix_meaning.specs.Scope.{Scope}
use Rattle.ix_meaning.specs.Source.{implicit_super_of}
use Rattle.ix_meaning.specs.Values.{arguments, given_to, reading}

abbrev pub super_args : Scope → Bool → List Expr → Option ℕ → Span → List Note
super_args s extends args (Some p) at = given_to s (map reading args) (constructor_params s.world p) at
super_args s extends args None at = if extends then arguments s (map reading args) [] else given_to s (map reading args) [] at

abbrev pub super_given : Scope → Bool → Option (List Expr) → Span → List Note
super_given s extends None at = implicit_super_of s.world (s.world.parent s.class) at
super_given s extends (Some args) at = super_args s extends args (s.world.parent s.class) at

abbrev pub super_notes : Scope → Bool → MethodDecl → List Note
super_notes s extends d = if d.constructor then super_given s extends d.parent_args d.name.span else []
