-- In an expression without errors each access on names is one of an array at an int, by what the names mean where the expression stands.
use Rattle.std.proofs.Common.{List}
use Rattle.ix_tree.specs.declared.expr.Expr.{Expr}
use Rattle.ix_tree.specs.declared.expr.Init.{Init}
use Rattle.ix_meaning.specs.declared.note.Note.{Note}
use Rattle.ix_meaning.specs.declared.note.Note.TheVariants.{Wrong}
use Rattle.ix_meaning.specs.declared.note.NameError.{NameError}
use Rattle.ix_meaning.specs.Scope.{Scope}
use Rattle.ix_meaning.specs.Types.{Need}
use Rattle.ix_meaning.specs.Values.{reading, filling, check}
use Rattle.ix_formed.specs.NoErrors.{IsClean}
use Rattle.ix_guard.specs.Accesses as accesses
use Rattle.ix_guard.specs.Accesses.{Access, init_parts, parts_of}
use Rattle.ix_guard_text.proofs.AccessesSaid as said

-- what is clean is no error
abbrev pub no_error : (error : NameError) → IsClean (Wrong error) → ⊥
no_error error wrong = wrong

-- none of the notes is an error
abbrev pub Clean : List Note → Type 0
Clean notes = said.Said IsClean no_error notes

-- In that scope the names of an access are those of an array and an int, without an error.
abbrev pub Fits : Scope → Access → Type 0
Fits s access = said.Fits IsClean no_error s access

abbrev pub AllFit : Scope → List Access → Type 0
AllFit s list = said.AllFit IsClean no_error s list

pub expression_finds : (e : Expr) → said.Finds IsClean no_error (reading e) (accesses.reading e)
expression_finds e = said.expression_finds IsClean no_error e

pub initialiser_finds : (i : Init) → said.FillFinds IsClean no_error (filling i) (init_parts i)
initialiser_finds i = said.initialiser_finds IsClean no_error i

-- what a place in a statement needs
pub needed_fit : (e : Expr) (need : Need) (s : Scope) → Clean (check (reading e) s need).notes → AllFit s (parts_of e).accesses
needed_fit e need s c = said.needed_fit IsClean no_error e need s c
