-- In a source of the grammar an index that is a name stands where its name does.
use Rattle.std.proofs.Common.{Bool, true, false, List, [], ◌∷◌, Option, Some, None, refl}
use Rattle.ix_text.specs.declared.span.Span.{Span}
use Rattle.ix_lexer.specs.declared.token.Token.{Token}
use Rattle.ix_tree.specs.declared.decl.LocalDecl.{LocalDecl}
use Rattle.ix_grammar.specs.declared.classes.Behind.{Behind}
use Rattle.ix_grammar.specs.declared.classes.Body.{Body}
use Rattle.ix_grammar.specs.declared.classes.FoundClass.{FoundClass}
use Rattle.ix_grammar.specs.declared.classes.FoundUnit.{FoundUnit}
use Rattle.ix_grammar.specs.declared.classes.Members.{Members}
use Rattle.ix_grammar.specs.declared.classes.Stmts.{Stmts}
use Rattle.ix_grammar.specs.declared.declarations.FoundMods.{FoundMods}
use Rattle.ix_grammar.specs.declared.found.FoundType.{FoundType}
use Rattle.ix_grammar.specs.Lists.{IsRepeated, no_item, one_more}
use Rattle.ix_grammar.specs.DeclGrammar.{begins}
use Rattle.ix_grammar.specs.StmtGrammar.{IsBlockStmt}
use Rattle.ix_grammar.specs.ClassGrammar as c
use Rattle.ix_grammar.specs.ClassGrammar.{IsBody, IsBehind, IsMember, IsClass, method_of, fields, no_stmts, with_stmt, no_members, with_members, no_classes, with_class}
use Rattle.ix_grammar.specs.SourceGrammar.{source_parts, IsSource}
use Rattle.ix_formed.specs.Additions.{AllOf}
use Rattle.ix_formed.proofs.NumberLists.{all_joined}
use Rattle.ix_guard.specs.Tests.{Site}
use Rattle.ix_guard_promise.specs.Outlines.{outline, outlines}
use Rattle.ix_guard_promise.specs.StandingIndices.{MemberStands, ClassStands, SourceStands}
use Rattle.ix_guard_promise.proofs.StandingOutlines.{joined_stand}
use Rattle.ix_guard_promise.proofs.StandingStatements.{OutlineStands, StmtStands, repeated_stand, block_stmt_stands}

module _ (site : Site) where
  stmts_stand : (ts : List Token) (found : Stmts) → c.IsStmts source_parts ts found → OutlineStands (outlines site found.stmts)
  stmts_stand ts found r =
      joined_stand (outline site) found.stmts (repeated_stand IsBlockStmt (λ x. x.stmt) (StmtStands site) (block_stmt_stands site) (λ x. x.stmts) with_stmt (λ s x. refl) no_stmts refl ts found r)

  body_stands : (constructor : Bool) (ts : List Token) (body : Body) → IsBody source_parts constructor ts body → OutlineStands (outlines site body.stmts)
  body_stands constructor _ _ (c.block {tokens} {stmts} left right r) = stmts_stand tokens stmts r
  body_stands _ _ _ (c.with_super {before} {tokens} {args} {stmts} left super end right x r) = stmts_stand tokens stmts r

  method_stands : (kind : Bool) (ts : List Token) (rest : Behind) → IsBehind source_parts kind ts rest → (start : Span) (mods : FoundMods) (result : Option FoundType) (constructor : Bool) (name : _)
      → AllOf (MemberStands site) (method_of start mods result constructor name rest).members
  method_stands kind _ _ (c.behind {first} {second} {third} {params} {names} {body} p t b) start mods result constructor name = (body_stands kind third body b, tt)

  fields_stand : (decls : List LocalDecl) → AllOf (MemberStands site) (fields decls)
  fields_stand [] = tt
  fields_stand (decl ∷ decls) = (tt, fields_stand decls)

  member_stands : (ts : List Token) (found : Members) → IsMember source_parts ts found → AllOf (MemberStands site) found.members
  member_stands _ _ (c.some_fields {first} {second} {third} {mods} {ty} {decls} end m t r) = fields_stand decls.decls
  member_stands _ _ (c.method {first} {second} {third} {mods} {ty} {rest} name m t r) = method_stands false third rest r (begins mods.first ty.ty.span) mods (Some ty) false name
  member_stands _ _ (c.void_method {first} {second} {mods} {rest} void name m r) = method_stands false second rest r (begins mods.first void) mods None false name
  member_stands _ _ (c.constructor_of {first} {second} {mods} {rest} name m r) = method_stands true second rest r (begins mods.first name.span) mods None true name

  members_stand : (ts : List Token) (found : Members) → IsRepeated (IsMember source_parts) no_members with_members ts found → AllOf (MemberStands site) found.members
  members_stand _ _ no_item = tt
  members_stand _ _ (one_more {before} {tokens} {items} {item} r x) = all_joined (MemberStands site) items.members item.members (members_stand before items r) (member_stands tokens item x)

  class_stands : (ts : List Token) (found : FoundClass) → IsClass source_parts ts found → ClassStands site found.class
  class_stands _ _ (c.class {first} {second} {third} {start} {parent} {members} span name left right w x r) = members_stand third members r

  pub source_stands : (tokens : List Token) (found : FoundUnit) → IsSource tokens found → SourceStands site found.unit
  source_stands _ _ (c.program {first} {second} {third} {name} {imports} {classes} p i r) =
      repeated_stand (IsClass source_parts) (λ x. x.class) (ClassStands site) class_stands (λ x. x.classes) with_class (λ x y. refl) no_classes refl third classes r
