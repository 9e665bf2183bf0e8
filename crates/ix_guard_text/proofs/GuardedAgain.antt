-- The tree of an accepted source's guarded text is accepted.
use Rattle.std.proofs.Common.{◌≡◌, ℕ, true, List, [], ◌∷◌, Option, Some, None, sym}
use Rattle.ix_lexer.specs.declared.token.Token.{Token}
use Rattle.ix_lexer.specs.Tokens.{Tokens}
use Rattle.ix_core.specs.declared.error.Error.{Error}
use Rattle.ix_tree.specs.declared.decl.ClassDecl.{ClassDecl}
use Rattle.ix_tree.specs.declared.decl.LocalDecl.{LocalDecl}
use Rattle.ix_tree.specs.declared.decl.Member.{Member}
use Rattle.ix_tree.specs.declared.decl.Member.TheVariants as member
use Rattle.ix_tree.specs.declared.decl.Unit.{Unit as Source}
use Rattle.ix_grammar.specs.Refusals.{HasTree}
use Rattle.ix_meaning.specs.Declarators.{first_of}
use Rattle.ix_meaning.specs.Resolved.{Accepts, Names, names}
use Rattle.ix_formed.specs.Additions.{AllOf}
use Rattle.ix_formed.specs.Readable.{is_readable}
use Rattle.ix_guard.specs.Tests.{Site}
use Rattle.ix_guard.specs.Guards.{guarded}
use Rattle.ix_guard.specs.Trees.{guarded_tree}
use Rattle.ix_guard_text.specs.Derived.{Derives}
use Rattle.ix_guard_text.proofs.DerivedAnswers.{derived_only}
use Rattle.ix_guard_text.proofs.GuardedSources.{guarded_derives}
use Rattle.ix_guard_text.specs.Joint.{AllShare, ClassShares, IsJoint}
use Rattle.ix_guard_text.proofs.AcceptsAnywhere.{accepts_anywhere}
use Rattle.ix_guard_text.proofs.KeptWorlds.{guarded_members, guarded_classes}
use Rattle.ix_guard_text.proofs.GuardedAccepts.{guarded_accepts_with}
use Rattle.ix_guard_text.proofs.ParsedJoint.{parsed_joint}

module _ (site : Site) where
  members_share : (first : Option LocalDecl) (ms : List Member) → AllShare first ms → AllShare first (guarded_members site ms)
  members_share first [] h = tt
  members_share first (member.Field d ∷ ms) h = (h.0, h.1, members_share (Some (first_of first d)) ms h.2)
  members_share first (member.Method m ∷ ms) h = members_share None ms h

  classes_share : (ks : List ClassDecl) → AllOf ClassShares ks → AllOf ClassShares (guarded_classes site ks)
  classes_share [] h = tt
  classes_share (k ∷ ks) h = (members_share None k.members h.0, classes_share ks h.1)

-- Fields are kept with their places.
pub guarded_joint : (unit : Source) (meanings : Names) (errors : List Error) → IsJoint unit → IsJoint (guarded_tree unit meanings errors)
guarded_joint unit meanings errors h = classes_share (record { names = meanings; errors = errors }) unit.classes h

-- A tree of bytes that derive the guarded tree of an accepted source is accepted.
pub derived_accepts : (bytes : List ℕ) (unit : Source) (meanings : Names) (errors : List Error) → Derives bytes (guarded_tree unit meanings errors) → is_readable unit.classes ≡ true → IsJoint unit → Accepts unit
    → (tokens : List Token) (other : Source) → Tokens bytes tokens → HasTree tokens other → Accepts other
derived_accepts bytes unit meanings errors derives fine joint accepts tokens other text tree =
    accepts_anywhere (guarded_tree unit meanings errors) other (sym (derived_only bytes (guarded_tree unit meanings errors) derives tokens other text tree)) (guarded_joint unit meanings errors joint)
    (parsed_joint bytes tokens other text tree) (guarded_accepts_with unit meanings errors fine accepts)

-- The tree of an accepted source's guarded text is accepted.
pub guarded_again : (bytes : List ℕ) (tokens : List Token) (unit : Source) (errors : List Error) → Tokens bytes tokens → HasTree tokens unit → is_readable unit.classes ≡ true → Accepts unit
    → (more : List Token) (other : Source) → Tokens (guarded bytes unit (names unit) errors) more → HasTree more other → Accepts other
guarded_again bytes tokens unit errors text tree fine accepts =
    derived_accepts (guarded bytes unit (names unit) errors) unit (names unit) errors (guarded_derives bytes tokens unit errors text tree) fine (parsed_joint bytes tokens unit text tree) accepts
