-- What holds of all operations and tests of a body, and maps of stores that keep the rules of flow of such a body.
use Rattle.std.specs.Prelude.{◌≡◌, ℕ, Bool, Option, None, Some}
use Rattle.ix_core.specs.declared.op.Op.{Op}
use Rattle.ix_core.specs.declared.op.Test.{Test}
use Rattle.ix_core.specs.Code.{Code, End, Do, If, Break, Continue, Return, Throw, Loop, Condition, Known, Compare, Truth, Both, Either, Opposite}
use Rattle.ix_flow.specs.Flow.{Rules}

module _ (Fits : Op → Type 0) (Asked : Test → Type 0) where
  abbrev mutual
    pub AllFit : Code → Type 0
    AllFit End = Unit {0}
    AllFit (Do op code) = Fits op × AllFit code
    AllFit (If asked first second code) = AllAsked asked × AllFit first × AllFit second × AllFit code
    AllFit (Break code) = AllFit code
    AllFit (Continue code) = AllFit code
    AllFit (Return value span code) = AllFit code
    AllFit (Throw name span code) = AllFit code
    AllFit (Loop test_first asked body next number scope code) = AllAsked asked × AllFit body × AllFit next × AllFit code

    pub AllAsked : Condition → Type 0
    AllAsked (Known answer) = Unit {0}
    AllAsked (Compare code test) = AllFit code × Asked test
    AllAsked (Truth code slot) = AllFit code
    AllAsked (Both asked later) = AllAsked asked × AllAsked later
    AllAsked (Either asked later) = AllAsked asked × AllAsked later
    AllAsked (Opposite asked) = AllAsked asked

  abbrev pub LastFits : Option Op → Type 0
  LastFits None = Unit {0}
  LastFits (Some op) = Fits op

  -- Where a rule allows a store behind another, it allows what the map gives of the one behind what it gives of the other.
  pub record Maps (R : Rules) (map : R.Store → R.Store) : Type 0 where
    pub nowhere : map R.nowhere ≡ R.nowhere
    pub below : (s t : R.Store) → R.Below s t → R.Below (map s) (map t)
    pub entry : (s : R.Store) → R.Entry s → R.Entry (map s)
    pub after : (op : Op) → Fits op → (s t : R.Store) → R.After op s t → R.After op (map s) (map t)
    pub tested : (answer : Bool) (test : Test) → Asked test → (s t : R.Store) → R.Tested answer test s t → R.Tested answer test (map s) (map t)
    pub told : (answer : Bool) (last : Option Op) (slot : ℕ) → LastFits last → (s t : R.Store) → R.Told answer last slot s t → R.Told answer last slot (map s) (map t)
    pub rounded : (scope : ℕ) (s t : R.Store) → R.Rounded scope s t → R.Rounded scope (map s) (map t)
