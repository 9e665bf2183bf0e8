-- In each class of a source all bodies are sound. The law is `sound_source` of `proofs/SourcesSound`: so it is in an accepted source, however a run sees them.
use Rattle.std.specs.Prelude.{◌≡◌, false, List, [], ◌∷◌}
use Rattle.ix_core.specs.declared.program.Program.{Program}
use Rattle.ix_tree.specs.declared.decl.ClassDecl.{ClassDecl}
use Rattle.ix_meaning.specs.Limits.{methods_of}
use Rattle.ix_meaning.specs.Source.{has_constructor}
use Rattle.ix_plain.specs.declared.numbers.Next.{Next}
use Rattle.ix_plain.specs.Members.{next_behind}
use Rattle.ix_plain.specs.Program.{Tables, home}
use Rattle.ix_formed.specs.Additions.{AllOf}
use Rattle.ix_source.specs.SoundBodies.{IsSoundMethod, IsSoundDefault}

-- in each class from the one with these numbers on
abbrev pub AreSoundClasses : Program → Tables → Next → List ClassDecl → Type 0
AreSoundClasses p tables next [] = Unit {0}
AreSoundClasses p tables next (decl ∷ decls) =
    AllOf (IsSoundMethod p tables (home tables next decl)) (methods_of decl.members)
    × (has_constructor decl.members ≡ false → IsSoundDefault p tables (home tables next decl) decl.name.span)
    × AreSoundClasses p tables (next_behind next decl) decls
