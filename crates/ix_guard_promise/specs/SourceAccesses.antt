-- All accesses of a source.
use Rattle.std.specs.Prelude.{◌++◌, List, Some}
use Rattle.ix_tree.specs.declared.decl.ClassDecl.{ClassDecl}
use Rattle.ix_tree.specs.declared.decl.Member.{Member}
use Rattle.ix_tree.specs.declared.decl.Member.TheVariants.{Field, Method}
use Rattle.ix_tree.specs.declared.decl.Unit.{Unit as Source}
use Rattle.ix_guard.specs.Accesses.{Access}
use Rattle.ix_guard.specs.Tests.{Site}
use Rattle.ix_guard_promise.specs.AllAccesses.{AnyAccess, each_of, decl_accesses}
use Rattle.ix_guard_promise.specs.Outlines.{everything, outlines}
use Rattle.ix_guard_promise.specs.SourceGuards.{args_accesses}

-- an access on names as one of all
abbrev pub any_of : Access → AnyAccess
any_of access = record { array = Some access.array; index = Some access.index; place = access.index.span }

-- those in initialisers, in arguments of `super(..)` and in bodies
module _ (site : Site) where
  abbrev pub member_accesses : Member → List AnyAccess
  member_accesses (Field decl) = decl_accesses decl
  member_accesses (Method method) = each_of decl_accesses method.params ++ (args_accesses method.parent_args ++ everything (outlines site method.body))

  abbrev pub class_accesses : ClassDecl → List AnyAccess
  class_accesses class = each_of member_accesses class.members

  abbrev pub source_accesses : Source → List AnyAccess
  source_accesses unit = each_of class_accesses unit.classes
