-- The methods and constructors of a program run as the source says. The law is `callees_run` of `proofs/Depths`.
use Rattle.std.specs.Prelude.{◌≡◌, ℕ, true, false, List, Option, Some, is_some}
use Rattle.ix_core.specs.Heap.{Held}
use Rattle.ix_core.specs.Tables.{Tables}
use Rattle.ix_plain.specs.Scope.{Site, head_at, constructor_at}
use Rattle.ix_source.specs.Runs.{Now, Gives, Action, ◌>>=◌, gives}
use Rattle.ix_source.specs.Context.{Members, Calls}
use Rattle.ix_source.specs.Called.{RunsMethod}
use Rattle.ix_source.specs.Sound.{is_method, is_class}

-- a constructor's frame comes back with the object
abbrev pub with_object : Held → Unit {0} → Action (Option Held)
with_object o done = gives (Some o)

module _ (tables : Tables) (site : Site) where
  -- What lowering and the machine see of methods and classes is what the source says.
  pub record AreMembers (members : Members) : Type 0 where
    pub is_static : (method : ℕ) → is_method tables site method ≡ true → members.is_static method ≡ (head_at site method).is_static
    pub found : (class named : ℕ) → is_method tables site named ≡ true → tables.found class named ≡ members.found class named
    -- the method that is found is called in the same way, and gives back as much
    pub found_method : (class named : ℕ) → is_method tables site named ≡ true → is_method tables site (tables.found class named) ≡ true
    pub found_static : (class named : ℕ) → is_method tables site named ≡ true → members.is_static (tables.found class named) ≡ members.is_static named
    pub found_gives : (class named : ℕ) → is_method tables site named ≡ true → (tables.routines (tables.found class named)).default ≡ (tables.routines named).default
    pub fresh : (class : ℕ) → tables.fresh_fields class ≡ members.fresh class
    pub place : members.place ≡ tables.place

  -- Each method and each constructor runs as these calls say, whoever calls it.
  pub record CalleesRun (members : Members) (depth : ℕ) (calls : Calls) : Type 0 where
    pub method : (method : ℕ) → is_method tables site method ≡ true → (this : Held) → RunsMethod tables depth method (members.is_static method) (λ this given. calls.method method this given) this
    -- it gives something back where its routine does
    pub gives_back : (method : ℕ) → is_method tables site method ≡ true → (this : Held) (given : List Held) (now later : Now) (result : Option Held) → calls.method method this given now ≡ Gives result later → is_some result ≡ is_some (tables.routines method).default
    pub construct : (class : ℕ) → is_class site class ≡ true → (o : Held) → RunsMethod tables depth (constructor_at site class) false (λ o given. calls.construct class o given >>= with_object o) o
