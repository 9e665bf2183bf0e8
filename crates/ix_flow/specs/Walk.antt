-- The walk over a body with given labels: at each place the least store that comes there, where a loop's head has its label; which loops' labels fail, and the errors at
-- the points that are passed. It goes as `Flows` does.
use Rattle.std.specs.Prelude.{◌≡◌, ◌⊎◌, ◌↔◌, ℕ, true, false, List, [], ◌∷◌, Option, None, Some}
use Rattle.ix_core.specs.declared.op.Op.{Op}
use Rattle.ix_core.specs.Code.{Code, End, Do, If, Break, Continue, Return, Throw, Loop, Condition, Known, Compare, Truth, Both, Either, Opposite}
use Rattle.ix_core.specs.Posts.{last_done, written_answer}
use Rattle.ix_flow.specs.Flow.{Point, Doing, Returning, Ending, Rules}

-- What was found so far: the stores at `break`s and at `continue`s, the loops whose labels failed, the errors.
pub record Notes (Store Errors : Type 0) : Type 0 where
  pub breaks : Store
  pub continues : Store
  pub failed : List ℕ
  pub errors : Errors

abbrev pub IsIn : ℕ → List ℕ → Type 0
IsIn n [] = ⊥
IsIn n (first ∷ rest) = (n ≡ first) ⊎ IsIn n rest

module _ (R : Rules) where
  abbrev pub IsLeast : (R.Store → Type 0) → R.Store → Type 0
  IsLeast Allowed s = Allowed s × ((t : R.Store) → Allowed t → R.Below s t)

  abbrev pub Joins : R.Store → R.Store → R.Store → Type 0
  Joins s t joined = IsLeast (λ above. R.Below s above × R.Below t above) joined

-- `Derives` says which errors a store gives at a point, `Lists` which errors a collection has.
module _ (R : Rules) {E Errors : Type 0} (Derives : Point → R.Store → E → Type 0) (Lists : E → Errors → Type 0) (labels : ℕ → R.Store) where
  -- the second collection has what the first has, and the errors that the store gives at the point
  abbrev pub Adds : Point → R.Store → Errors → Errors → Type 0
  Adds point s old new = (error : E) → Lists error new ↔ (Lists error old ⊎ Derives point s error)

  -- the label of a loop is judged by what comes to its head
  abbrev pub Judges : (number scope : ℕ) → (entry back : R.Store) → (old new : List ℕ) → Type 0
  Judges number scope entry back old new =
      (joined : R.Store) × Joins R entry back joined
      × ((R.Rounded scope joined (labels number) × (new ≡ old)) ⊎ ((R.Rounded scope joined (labels number) → ⊥) × ((n : ℕ) → IsIn n new ↔ (IsIn n old ⊎ (n ≡ number)))))

  abbrev mutual
    -- From the store before the code and what was found before it: the store at its end, and what was found behind it.
    pub Walks : (last : Option Op) → Code → R.Store → Notes R.Store Errors → R.Store → Notes R.Store Errors → Type 0
    Walks last End before n end m = (end ≡ before) × (m ≡ n)
    Walks last (Do op rest) before n end m =
        (errors : Errors) × (after : R.Store)
        × Adds (Doing op) before n.errors errors × IsLeast R (R.After op before) after
        × Walks (Some op) rest after (record n { errors = errors }) end m
    Walks last (If asked first second rest) before n end m =
        (holds : R.Store) × (fails : R.Store) × (n1 : Notes R.Store Errors) × (one : R.Store) × (n2 : Notes R.Store Errors) × (two : R.Store) × (n3 : Notes R.Store Errors) × (joined : R.Store)
        × Splits last asked before n holds fails n1
        × Walks None first holds n1 one n2
        × Walks None second fails n2 two n3
        × Joins R one two joined
        × Walks None rest joined n3 end m
    Walks last (Break rest) before n end m = (breaks : R.Store) × Joins R n.breaks before breaks × Walks None rest R.nowhere (record n { breaks = breaks }) end m
    Walks last (Continue rest) before n end m = (continues : R.Store) × Joins R n.continues before continues × Walks None rest R.nowhere (record n { continues = continues }) end m
    Walks last (Return value span rest) before n end m =
        (errors : Errors) × Adds (Returning value (written_answer last value) span) before n.errors errors × Walks None rest R.nowhere (record n { errors = errors }) end m
    Walks last (Throw name span rest) before n end m = Walks None rest R.nowhere n end m
    -- in the loop `breaks` is the store behind it, in the body `continues` that before the next part
    Walks last (Loop true asked body next number scope rest) before n end m =
        (turn : R.Store) × (fails : R.Store) × (n1 : Notes R.Store Errors) × (left : R.Store) × (done : R.Store) × (n2 : Notes R.Store Errors) × (again : R.Store) × (back : R.Store) × (n3 : Notes R.Store Errors) × (failed : List ℕ)
        × Splits None asked (labels number) (record n { breaks = R.nowhere }) turn fails n1
        × Joins R n1.breaks fails left
        × Walks None body turn (record n1 { breaks = left; continues = R.nowhere }) done n2
        × Joins R n2.continues done again
        × Walks None next again (record n2 { continues = n1.continues }) back n3
        × Judges number scope before back n3.failed failed
        × Walks None rest n3.breaks (record n3 { breaks = n.breaks; failed = failed }) end m
    Walks last (Loop false asked body next number scope rest) before n end m =
        (done : R.Store) × (n1 : Notes R.Store Errors) × (again : R.Store) × (tested : R.Store) × (n2 : Notes R.Store Errors) × (back : R.Store) × (fails : R.Store) × (n3 : Notes R.Store Errors) × (left : R.Store) × (failed : List ℕ)
        × Walks None body (labels number) (record n { breaks = R.nowhere; continues = R.nowhere }) done n1
        × Joins R n1.continues done again
        × Walks None next again (record n1 { continues = n.continues }) tested n2
        × Splits None asked tested n2 back fails n3
        × Joins R n3.breaks fails left
        × Judges number scope before back n3.failed failed
        × Walks None rest left (record n3 { breaks = n.breaks; failed = failed }) end m

    -- From the store before the condition: those where it holds and where it doesn't.
    pub Splits : (last : Option Op) → Condition → R.Store → Notes R.Store Errors → (holds fails : R.Store) → Notes R.Store Errors → Type 0
    Splits last (Known true) before n holds fails m = (holds ≡ before) × (fails ≡ R.nowhere) × (m ≡ n)
    Splits last (Known false) before n holds fails m = (holds ≡ R.nowhere) × (fails ≡ before) × (m ≡ n)
    Splits last (Compare code test) before n holds fails m =
        (after : R.Store) × Walks last code before n after m × IsLeast R (R.Tested true test after) holds × IsLeast R (R.Tested false test after) fails
    Splits last (Truth code slot) before n holds fails m =
        (after : R.Store) × Walks last code before n after m × IsLeast R (R.Told true (last_done None code) slot after) holds × IsLeast R (R.Told false (last_done None code) slot after) fails
    Splits last (Both first second) before n holds fails m =
        (between : R.Store) × (one : R.Store) × (n1 : Notes R.Store Errors) × (two : R.Store)
        × Splits last first before n between one n1 × Splits None second between n1 holds two m × Joins R one two fails
    Splits last (Either first second) before n holds fails m =
        (one : R.Store) × (between : R.Store) × (n1 : Notes R.Store Errors) × (two : R.Store)
        × Splits last first before n one between n1 × Splits None second between n1 two fails m × Joins R one two holds
    Splits last (Opposite asked) before n holds fails m = Splits last asked before n fails holds m

  -- Over a whole body, from the store at its start: the loops whose labels fail, and the errors. A `break` or a `continue` outside all loops would end the method.
  pub record WalksBody (none : Errors) (body : Code) (failed : List ℕ) (errors : Errors) : Type 0 where
    pub entry : R.Store
    pub behind : R.Store
    pub found : Notes R.Store Errors
    pub end : R.Store
    pub begins : IsLeast R R.Entry entry
    pub nothing : (error : E) → Lists error none → ⊥
    pub walks : Walks None body entry (record { breaks = R.nowhere; continues = R.nowhere; failed = []; errors = none }) behind found
    pub ends : IsLeast R (λ above. R.Below behind above × R.Below found.breaks above × R.Below found.continues above) end
    pub is : failed ≡ found.failed
    pub last : Adds Ending end found.errors errors
