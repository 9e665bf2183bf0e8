-- An access on names has its index's name where its index stands: a name is an expression with no parentheses and nothing else in it.
use Rattle.std.specs.Prelude.{◌≡◌, List, Option, Some, None}
use Rattle.ix_text.specs.declared.span.Span.{Span}
use Rattle.ix_tree.specs.declared.annot.Ident.{Ident}
use Rattle.ix_tree.specs.declared.decl.ClassDecl.{ClassDecl}
use Rattle.ix_tree.specs.declared.decl.Member.{Member}
use Rattle.ix_tree.specs.declared.decl.Member.TheVariants.{Field, Method}
use Rattle.ix_tree.specs.declared.decl.Unit.{Unit as Source}
use Rattle.ix_formed.specs.Additions.{AllOf}
use Rattle.ix_guard.specs.Tests.{Site}
use Rattle.ix_guard_promise.specs.AllAccesses.{AnyAccess}
use Rattle.ix_guard_promise.specs.Outlines.{everything, outlines}

-- The name, where there is one, stands there.
abbrev pub NamedAt : Option Ident → Span → Type 0
NamedAt None span = Unit {0}
NamedAt (Some name) span = name.span ≡ span

abbrev pub IndexStands : AnyAccess → Type 0
IndexStands access = NamedAt access.index access.place

abbrev pub IndicesStand : List AnyAccess → Type 0
IndicesStand accesses = AllOf IndexStands accesses

-- so of all accesses in the bodies of a source
module _ (site : Site) where
  abbrev pub MemberStands : Member → Type 0
  MemberStands (Field decl) = Unit {0}
  MemberStands (Method method) = IndicesStand (everything (outlines site method.body))

  abbrev pub ClassStands : ClassDecl → Type 0
  ClassStands class = AllOf MemberStands class.members

  abbrev pub SourceStands : Source → Type 0
  SourceStands source = AllOf ClassStands source.classes
