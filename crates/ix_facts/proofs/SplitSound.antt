-- A state that meets the store before a condition meets the one of the branch that it takes.
use Rattle.std.specs.Prelude.{◌≡◌, Bool, true, false, not, refl}
use Rattle.std.proofs.Common.{subst}
use Rattle.ix_core.specs.Code.{Code, Condition}
use Rattle.ix_core.specs.Numbers.{Numbers}
use Rattle.ix_facts.specs.Stores.{Stored, Meets, IsJoined, left, right, both, Splits}
use Rattle.ix_facts.specs.Stores as split
use Rattle.ix_facts.specs.Decisions.{Decides}
use Rattle.ix_facts.specs.Decisions as decision
use Rattle.ix_facts.proofs.FactLists.{all_hold_each}
use Rattle.ix_facts.proofs.SplitLaws.{told_meets}
use Rattle.ix_facts.proofs.StoreLaws.{below_meets, said_holds}

joined_first : (s t j : Stored) (v : Numbers) → IsJoined s t j → Meets s v → Meets j v
joined_first _ _ j v (left s _ same) m = below_meets s j v same.1 m
joined_first _ _ j v (right s _ same) m = absurd m
joined_first _ _ _ v (both x y c is) m = all_hold_each v c (λ f i. said_holds x v m f (is.left f i))

joined_second : (s t j : Stored) (v : Numbers) → IsJoined s t j → Meets t v → Meets j v
joined_second _ _ j v (left s _ same) m = absurd m
joined_second _ _ j v (right s _ same) m = below_meets s j v same.1 m
joined_second _ _ _ v (both x y c is) m = all_hold_each v c (λ f i. said_holds y v m f (is.right f i))

-- the store of an answer
branch : Bool → Stored → Stored → Stored
branch true holds fails = holds
branch false holds fails = fails

turned : (answer : Bool) (holds fails : Stored) → branch answer fails holds ≡ branch (not answer) holds fails
unfolding branch
turned true holds fails = refl
turned false holds fails = refl

module _ (Runs : Code → Stored → Stored → Type 0) (Leads : Code → Numbers → Numbers → Type 0)
    (sound : (code : Code) (s t : Stored) (v w : Numbers) → Runs code s t → Leads code v w → Meets s v → Meets t w) where
  split_branch : (asked : Condition) (answer : Bool) (s holds fails : Stored) (v w : Numbers) → Splits Runs asked s holds fails → Decides Leads asked answer v w → Meets s v → Meets (branch answer holds fails) w
  unfolding branch
  split_branch _ _ s _ _ v _ (split.yes _) (decision.known _ _) m = m
  split_branch _ _ s _ _ v _ (split.no _) (decision.known _ _) m = m
  split_branch _ true s h f v w (split.compared block test _ between _ _ run first second) (decision.compared _ _ _ _ _ lead so) m = told_meets _ between h w first so (sound block s between v w run lead m)
  split_branch _ false s h f v w (split.compared block test _ between _ _ run first second) (decision.compared _ _ _ _ _ lead so) m = told_meets _ between f w second so (sound block s between v w run lead m)
  split_branch _ true s h f v w (split.truth block slot _ between run) (decision.truth _ _ _ _ _ lead) m = sound block s between v w run lead m
  split_branch _ false s h f v w (split.truth block slot _ between run) (decision.truth _ _ _ _ _ lead) m = sound block s between v w run lead m
  split_branch _ true s h j v w (split.and first second _ between _ fails later _ x y join) (decision.both_asked _ _ _ _ u _ a b) m =
      split_branch second true between h later u w y b (split_branch first true s between fails v u x a m)
  split_branch _ false s h j v w (split.and first second _ between _ fails later _ x y join) (decision.both_asked _ _ _ _ u _ a b) m =
      joined_second fails later j w join (split_branch second false between h later u w y b (split_branch first true s between fails v u x a m))
  split_branch _ _ s h j v w (split.and first second _ between _ fails later _ x y join) (decision.both_false _ _ _ _ a) m =
      joined_first fails later j w join (split_branch first false s between fails v w x a m)
  split_branch _ true s j f v w (split.or first second _ between holds _ later _ x y join) (decision.either_asked _ _ _ _ u _ a b) m =
      joined_second holds later j w join (split_branch second true between later f u w y b (split_branch first false s holds between v u x a m))
  split_branch _ false s j f v w (split.or first second _ between holds _ later _ x y join) (decision.either_asked _ _ _ _ u _ a b) m =
      split_branch second false between later f u w y b (split_branch first false s holds between v u x a m)
  split_branch _ _ s j f v w (split.or first second _ between holds _ later _ x y join) (decision.either_true _ _ _ _ a) m =
      joined_first holds later j w join (split_branch first true s holds between v w x a m)
  split_branch _ _ s h f v w (split.opposite asked _ _ _ x) (decision.opposite _ answer _ _ a) m =
      subst (λ b. Meets b w) (turned answer h f) (split_branch asked answer s f h v w x a m)

  pub split_true : (asked : Condition) (s holds fails : Stored) (v w : Numbers) → Splits Runs asked s holds fails → Decides Leads asked true v w → Meets s v → Meets holds w
  unfolding branch
  split_true asked s holds fails v w x a m = split_branch asked true s holds fails v w x a m

  pub split_false : (asked : Condition) (s holds fails : Stored) (v w : Numbers) → Splits Runs asked s holds fails → Decides Leads asked false v w → Meets s v → Meets fails w
  unfolding branch
  split_false asked s holds fails v w x a m = split_branch asked false s holds fails v w x a m
