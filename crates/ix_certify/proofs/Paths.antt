-- Facts that speak of certain paths alone, as a property of each path.
use Rattle.std.specs.Prelude.{◌≡◌, ◌⊎◌, false, List}
use Rattle.ix_core.specs.declared.fact.Path.{Path}
use Rattle.ix_core.specs.declared.fact.Path.TheVariants.{Slot}
use Rattle.ix_core.specs.declared.fact.PathClaim.{PathClaim}
use Rattle.ix_core.specs.declared.fact.PathClaim.TheVariants as claim
use Rattle.ix_core.specs.declared.fact.PathOff.{PathOff}
use Rattle.ix_core.specs.declared.fact.PathOff.TheVariants.{Nothing, Plus, Minus}
use Rattle.ix_core.specs.declared.fact.Fact.{Fact}
use Rattle.ix_core.specs.declared.fact.Fact.TheVariants.{Rng, LenRng, Low, Same, IsLen, Less, Sum, Search, Neg, Upper}
use Rattle.ix_core.specs.declared.op.OpKind.{OpKind}
use Rattle.ix_core.specs.declared.op.OpKind.TheVariants as op
use Rattle.ix_facts.specs.AfterTest.{Outcome, Below, Apart, Equal, OneArray}
use Rattle.ix_facts.specs.Bounds.{is_path}
use Rattle.ix_facts.specs.Closure.{Default}
use Rattle.ix_facts.specs.Facts.{IsIn}

module _ (In : Path → Type 0) where
  abbrev pub OffsetWithin : PathOff → Type 0
  OffsetWithin Nothing = Unit {0}
  OffsetWithin (Plus q) = In q
  OffsetWithin (Minus q) = In q

  -- each path of the fact is one of these, and a difference is one of two paths
  abbrev pub Within : Fact → Type 0
  Within (Rng p l h) = In p
  Within (LenRng a l h) = In a
  Within (Low p c) = In p
  Within (Same a b) = In a × In b
  Within (IsLen p a) = In p × In a
  Within (Less p q c) = In p × In q × (is_path p q ≡ false)
  Within (Sum t y z) = In t × In y × In z
  Within (Search p a) = In p × In a
  Within (Neg p a) = In p × In a
  Within (Upper p a o c) = In p × In a × OffsetWithin o

  -- of each fact, but for the ranges that are said of every path
  abbrev pub AreWithin : List Fact → Type 0
  AreWithin facts = (f : Fact) → IsIn f facts → Default f ⊎ Within f

  -- the slots that an operation's own rule reads and writes are such paths; calls and accesses to fields have other rules
  abbrev pub OperationWithin : OpKind → Type 0
  OperationWithin (op.Const t value) = In (Slot t)
  OperationWithin (op.Copy t s ty) = In (Slot t) × In (Slot s)
  OperationWithin (op.Num t arith y z) = In (Slot t) × In (Slot y) × In (Slot z)
  OperationWithin (op.Unary t unary y) = In (Slot t) × In (Slot y)
  OperationWithin (op.Length t a) = In (Slot t) × In (Slot a)
  OperationWithin (op.NewArray t ty n) = In (Slot t) × In (Slot n)
  OperationWithin (op.Fill t ty entries) = In (Slot t)
  OperationWithin (op.Load t a i ty) = In (Slot t)
  OperationWithin _ = Unit {0}

  abbrev pub OutcomeWithin : Outcome → Type 0
  OutcomeWithin (Below p q k) = In p × In q
  OutcomeWithin (Apart p q) = In p × In q
  OutcomeWithin (Equal p q) = In p × In q
  OutcomeWithin (OneArray a b) = In a × In b

  abbrev pub ClaimWithin : PathClaim → Type 0
  ClaimWithin (claim.Same other) = In other
  ClaimWithin (claim.Less q c) = In q
  ClaimWithin (claim.Upper a o c) = In a × OffsetWithin o
  ClaimWithin (claim.Search a) = In a
  ClaimWithin (claim.Negative a) = In a
  ClaimWithin _ = Unit {0}
