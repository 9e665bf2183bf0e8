-- Each method of the program has no error from the facts at its entry on.
use Rattle.std.specs.Prelude.{◌≡◌, ℕ, zero, suc, pos, false, true, List, [], ◌∷◌, slice_get, Option, Some, None, unwrap_or, ◌<◌, refl}
use Rattle.std.proofs.Common.{arith, sym, ap, ◌∙◌, subst, inl, inr}
use Rattle.std.proofs.lemmas.Bool.{false≢true}
use Rattle.std.proofs.lemmas.Int.{ints}
use Rattle.ix_core.specs.declared.claim.Claim.{Claim}
use Rattle.ix_core.specs.declared.claim.Claim.TheVariants.{Range, Low, Length, Same, Less, Upper, Search, Negative}
use Rattle.ix_core.specs.declared.claim.Name.{Name}
use Rattle.ix_core.specs.declared.claim.Post.{Post}
use Rattle.ix_core.specs.declared.code.Cond.TheBlock.{hidden-the_row-Item-0, hidden-the_row-Cond-1}
use Rattle.ix_core.specs.declared.fact.Path.TheVariants.{Slot, FieldOf}
use Rattle.ix_core.specs.declared.program.Local.{Local as Variable}
use Rattle.ix_core.specs.declared.op.CallOp.{CallOp}
use Rattle.ix_core.specs.declared.claim.Name.TheVariants.{Param}
use Rattle.ix_core.proofs.Programs.{span, param, arg, calls}
use Rattle.ix_core.proofs.WorldTables.{IsThere, there}
use Rattle.ix_core.proofs.Entered.{none_some}
use Rattle.ix_core.specs.declared.program.Method.{Method}
use Rattle.ix_core.specs.Machine.{Super, Instance, New}
use Rattle.ix_core.specs.Objects.{IsInput, This, Named, Promised, Names, PostsName, claim_names, HasField}
use Rattle.ix_core.specs.Heap.{ObjectOf}
use Rattle.ix_core.specs.Tables.{body_of}
use Rattle.ix_core.specs.Tasks.{Empty, code_then}
use Rattle.ix_core.specs.Waits.{FitsCall}
use Rattle.ix_core_example.specs.Facts.{IsFresh, Fact, NotNegative, Below, IsIn, AreLow, Proves}
use Rattle.ix_core_example.specs.Rules.{MayAssign, IsGiven, constant, copy, load, read, store, write, of_fresh, of_path, of_slot, Fine, ends, returns, does, enters, chooses, asks, decides, knows}
use Rattle.ix_core_example.specs.Rules as rules
use Rattle.ix_core_example.specs.Counter.{counter_world, counter_fields, facts_at_entry}

-- claims that are lower bounds name nothing
low_claim : (claims : List Claim) (k : ℕ) (claim : Claim) → AreLow claims → slice_get claims k ≡ Some claim → claim_names claim ≡ []
low_claim [] k claim low at = absurd cc
low_claim (Low n ∷ claims) zero claim low at = sym (ap (λ (o : Option Claim). claim_names (unwrap_or o (Low n))) at)
low_claim (Low n ∷ claims) (suc k) claim low at = low_claim claims k claim low at
low_claim (Range least most ∷ claims) k claim low at = absurd low
low_claim (Length least ∷ claims) k claim low at = absurd low
low_claim (Same other ∷ claims) k claim low at = absurd low
low_claim (Less other most ∷ claims) k claim low at = absurd low
low_claim (Upper array offset most ∷ claims) k claim low at = absurd low
low_claim (Search array ∷ claims) k claim low at = absurd low
low_claim (Negative array ∷ claims) k claim low at = absurd low

pub none_there : {A T : Type 0} (k : ℕ) (x : T) → slice_get [] k ≡ Some x → A
none_there k x e = absurd cc

low_names_nothing : (claims : List Claim) (name : Name) → AreLow claims → Names claims name → ⊥
low_names_nothing claims name low is = none_there is.1 name (subst (λ (names : List Name). slice_get names is.1 ≡ Some name) (low_claim claims is.0 is.2 low is.3) is.4)

no_posts_name : (posts : List Post) (name : Name) → posts ≡ [] → PostsName posts name → ⊥
no_posts_name posts name none is = none_there is.0 is.2 (subst (λ posts. slice_get posts is.0 ≡ Some is.2) none is.3)

-- a slot that isn't the first is no input, where the result's claims name nothing and there are no posts
no_input : (method : Method) (slot : ℕ) → AreLow method.result_claims → method.posts ≡ [] → (slot ≡ 0 → ⊥) → IsInput method slot → ⊥
no_input method slot low silent apart (This static) = apart refl
no_input method slot low silent apart (Named number names) = low_names_nothing method.result_claims (Param number) low names
no_input method slot low silent apart (Promised number names) = no_posts_name method.posts (Param number) silent names

may_assign : (method : Method) (target : ℕ) → AreLow method.result_claims → method.posts ≡ [] → (target ≡ 0 → ⊥) → target < method.slots → MayAssign method target
may_assign method target low silent apart lt = record { within = lt; input = no_input method target low silent apart; own = λ own. apart own.1 }

-- ---- calls

abbrev methods : ℕ → Method
methods = counter_world.methods

no_target : (target at : ℕ) → (target ≡ 0 → ⊥) → ◌≡◌ {A = Option ℕ} (Some target) (Some at) → IsInput (methods 2) at → ⊥
no_target target at apart e is = no_input (methods 2) at tt refl (λ zero. apart (ap (λ (o : Option ℕ). unwrap_or o 0) e ∙ zero)) is

abbrev new_counter : CallOp
new_counter = calls 3 5 None [] 2 (span 261 274)

abbrev set_call : CallOp
set_call = calls 3 0 (Some 2) (arg 1 282 283 ∷ []) 2 (span 278 281)

abbrev get_call : CallOp
get_call = calls 4 1 (Some 2) [] 2 (span 327 330)

no_static : {A : Type 0} → true ≡ false → A
no_static e = absurd (false≢true (sym e))

target_within : (target at : ℕ) → target < 7 → ◌≡◌ {A = Option ℕ} (Some target) (Some at) → at < 7
target_within target at lt e = (let is : target ≡ at = ap (λ (o : Option ℕ). unwrap_or o 0) e in omega (arith, is, lt))

new_fits : FitsCall counter_world (methods 2) (methods 5) (New 2) new_counter
new_fits = record {
  kinds = (refl, refl);
  hidden = tt;
  count = refl;
  room = omega (arith);
  effect = λ e. absurd (false≢true e);
  within = λ at e. target_within 3 at (omega (arith)) e;
  target = λ at e is. no_target 3 at (λ z. omega (arith, z)) e is;
}

set_fits : FitsCall counter_world (methods 2) (methods 0) Instance set_call
set_fits = record {
  kinds = (refl, 2, refl, λ own. false≢true own.0);
  hidden = ((λ own. false≢true own.0), tt);
  count = refl;
  room = omega (arith);
  effect = λ e. absurd (false≢true e);
  within = λ at e. none_some at e;
  target = λ at e is. none_some at e;
}

get_fits : FitsCall counter_world (methods 2) (methods 1) Instance get_call
get_fits = record {
  kinds = (refl, 2, refl, λ own. false≢true own.0);
  hidden = tt;
  count = refl;
  room = omega (arith);
  effect = λ e. absurd (false≢true e);
  within = λ at e. target_within 4 at (omega (arith)) e;
  target = λ at e is. no_target 4 at (λ z. omega (arith, z)) e is;
}

set_given : (facts : List Fact) → IsIn (NotNegative (Slot 1)) facts → (number : ℕ) (variable : Variable) → slice_get (methods 0).params number ≡ Some variable
    → (slot : ℕ) × IsGiven Instance set_call (methods 0) number slot × Proves facts (Slot slot) variable.claims
set_given facts is zero variable at =
    (1, (λ next slots. refl), subst (λ (claims : List Claim). Proves facts (Slot 1) claims) (ap (λ (o : Option Variable). (unwrap_or o (param 1 (Low (pos 0) ∷ []))).claims) at) (omega (arith, ints), is, tt))
set_given facts is (suc number) variable at = none_there number variable at

-- ---- bodies

set_fine : Fine counter_world counter_fields 0 (code_then (body_of (methods 0)) Empty) (facts_at_entry 0)
unfolding hidden-the_row-Item-0 hidden-the_row-Cond-1 denote.Hole.Carrier.hidden
set_fine =
    does _ _ _ _ _
    (write _ 0 0 1 (record { quiet = λ e. absurd (false≢true e); final = λ e. absurd (false≢true e); own = λ own. absurd (false≢true own.0) }) (λ own. false≢true own.0) (omega (arith, ints), inl refl, tt))
    (ends _ refl (λ c. absurd (false≢true c)))

get_fine : Fine counter_world counter_fields 1 (code_then (body_of (methods 1)) Empty) (facts_at_entry 1)
unfolding hidden-the_row-Item-0 hidden-the_row-Cond-1 denote.Hole.Carrier.hidden
get_fine =
    does _ _ _ _ _ (read _ 1 0 0 (may_assign (methods 1) 1 tt refl (λ z. omega (arith, z)) (omega (arith))) (λ z. omega (arith, z)) (λ own. false≢true own.0))
    (returns _ 1 _ _ _ refl (omega (arith, ints), inl refl, tt))

pick_assigns : (target : ℕ) → (target ≡ 0 → ⊥) → target < 7 → MayAssign (methods 2) target
pick_assigns target apart lt = may_assign (methods 2) target tt refl apart lt

pick_fine : Fine counter_world counter_fields 2 (code_then (body_of (methods 2)) Empty) (facts_at_entry 2)
unfolding hidden-the_row-Item-0 hidden-the_row-Cond-1 denote.Hole.Carrier.hidden
pick_fine =
    enters _ _ (New 2) new_counter _ _ (λ limits tables place slots heap. refl) (λ super. absurd (false≢true super)) new_fits (λ number variable at. none_there number variable at)
    (does _ _ _ _ _ (copy _ 2 3 _ (pick_assigns 2 (λ z. omega (arith, z)) (omega (arith))) (λ own. false≢true own.0))
    (enters _ _ Instance set_call _ _ (λ limits tables place slots heap. refl) (λ super. absurd (false≢true super)) set_fits (set_given (NotNegative (Slot 1) ∷ []) (inl refl))
    (chooses _ _ _ _ _ _
    (asks _ _ _ _ _
    (does _ _ _ _ _ (read _ 3 2 0 (pick_assigns 3 (λ z. omega (arith, z)) (omega (arith))) (λ z. omega (arith, z)) (λ own. false≢true own.0))
    (does _ _ _ _ _ (rules.length _ 4 0 (pick_assigns 4 (λ z. omega (arith, z)) (omega (arith))) (λ z. omega (arith, z)))
    (decides _ _ 0 _ _ _ refl refl (inl refl)
    (knows _ (Below (FieldOf 2 0) 0) _ (of_path 3 0 (FieldOf 2 0) (inr (inr (inr (inl refl)))) (inl refl))
    (does _ _ _ _ _ (read _ 3 2 0 (pick_assigns 3 (λ z. omega (arith, z)) (omega (arith))) (λ z. omega (arith, z)) (λ own. false≢true own.0))
    (knows _ (Below (Slot 3) 0) _ (of_slot 3 0 (FieldOf 2 0) (inr (inl refl)) (inr (inr (inl refl))))
    (enters _ _ Instance get_call _ _ (λ limits tables place slots heap. refl) (λ super. absurd (false≢true super)) get_fits (λ number variable at. none_there number variable at)
    (does _ _ _ _ _ (rules.new_array _ 5 4 _ (pick_assigns 5 (λ z. omega (arith, z)) (omega (arith))) refl (inl refl))
    (does _ _ _ _ _ (rules.length _ 6 5 (pick_assigns 6 (λ z. omega (arith, z)) (omega (arith))) (λ z. omega (arith, z)))
    (does _ _ _ _ _ (store _ 0 3 6 _ (λ own. false≢true own.0) (inr (inr (inr (inl refl)))) (inr (inr (inl refl))) tt)
    (does _ _ _ _ _ (read _ 3 2 0 (pick_assigns 3 (λ z. omega (arith, z)) (omega (arith))) (λ z. omega (arith, z)) (λ own. false≢true own.0))
    (knows _ (Below (Slot 3) 0) _ (of_slot 3 0 (FieldOf 2 0) (inr (inl refl)) (inr (inr (inr (inr (inl refl))))))
    (does _ _ _ _ _ (load _ 4 0 3 _ (pick_assigns 4 (λ z. omega (arith, z)) (omega (arith))) (inr (inl refl)) (inl refl))
    (returns _ 4 _ _ _ refl tt)))))))))))
    (does _ _ _ _ _ (constant _ 3 (pos 0) (record { from = omega (arith, ints); to = omega (arith, ints) }) (pick_assigns 3 (λ z. omega (arith, z)) (omega (arith))))
    (returns _ 3 _ _ _ refl tt)))))))))

abbrev super_call : CallOp
super_call = calls 1 3 (Some 0) [] 0 (span 144 151)

super_fits : FitsCall counter_world (methods 5) (methods 3) Super super_call
super_fits = record {
  kinds = (refl, refl, refl, refl);
  hidden = tt;
  count = refl;
  room = omega (arith);
  effect = λ e. absurd (false≢true e);
  within = λ at e. none_some at e;
  target = λ at e is. none_some at e;
}

-- the fields of a class's objects: no other field has a place there
base_built : (facts : List Fact) → IsIn (NotNegative (FieldOf 0 0)) facts → (field : ℕ) → HasField counter_world (ObjectOf 0) field → Proves facts (FieldOf 0 field) (counter_world.field_claims field)
base_built facts is zero has = (omega (arith, ints), is, tt)
base_built facts is (suc zero) has = none_some has.0 has.1
base_built facts is (suc (suc field)) has = tt

not_there : (field place : ℕ) → IsThere (0 ∷ 1 ∷ []) (suc (suc field)) place → ⊥
not_there field zero is = (let e = is.1 in omega (arith, e))
not_there field (suc zero) is = (let e = is.1 in omega (arith, e))
not_there field (suc (suc place)) is = (let lt = is.0 in omega (arith, lt))

counter_fresh : (facts : List Fact) → IsIn (IsFresh (FieldOf 0 0)) facts → IsIn (IsFresh (FieldOf 0 1)) facts → (field : ℕ) → HasField counter_world (ObjectOf 2) field → IsIn (IsFresh (FieldOf 0 field)) facts
counter_fresh facts first second zero has = first
counter_fresh facts first second (suc zero) has = second
counter_fresh facts first second (suc (suc field)) has = absurd (not_there field has.0 (there (0 ∷ 1 ∷ []) (suc (suc field)) has.0 has.1))

counter_built : (facts : List Fact) → IsIn (NotNegative (FieldOf 0 0)) facts → IsIn (NotNegative (FieldOf 0 1)) facts → (field : ℕ) → HasField counter_world (ObjectOf 2) field
    → Proves facts (FieldOf 0 field) (counter_world.field_claims field)
counter_built facts first second zero has = (omega (arith, ints), first, tt)
counter_built facts first second (suc zero) has = (omega (arith, ints), second, tt)
counter_built facts first second (suc (suc field)) has = tt

base_fine : Fine counter_world counter_fields 3 (code_then (body_of (methods 3)) Empty) (facts_at_entry 3)
base_fine = knows _ (NotNegative (FieldOf 0 0)) _ (of_fresh (FieldOf 0 0) (inl refl)) (ends _ refl (λ c field has. base_built (NotNegative (FieldOf 0 0) ∷ facts_at_entry 3) (inl refl) field has))

counter_fine : Fine counter_world counter_fields 5 (code_then (body_of (methods 5)) Empty) (facts_at_entry 5)
unfolding hidden-the_row-Item-0 hidden-the_row-Cond-1 denote.Hole.Carrier.hidden
counter_fine =
    enters _ _ Super super_call _ _ (λ limits tables place slots heap. refl) (λ super field has. counter_fresh (facts_at_entry 5) (inl refl) (inr (inl refl)) field has) super_fits (λ number variable at. none_there number variable at)
    (knows _ (NotNegative (FieldOf 0 1)) _ (of_fresh (FieldOf 0 1) (inr (inl refl)))
    (ends _ refl (λ c field has. counter_built (NotNegative (FieldOf 0 1) ∷ NotNegative (FieldOf 0 0) ∷ IsFresh (FieldOf 0 1) ∷ []) (inr (inl refl)) (inl refl) field has)))

pub bodies_fine : (method : ℕ) → Fine counter_world counter_fields method (code_then (body_of (methods method)) Empty) (facts_at_entry method)
bodies_fine zero = set_fine
bodies_fine (suc zero) = get_fine
bodies_fine (suc (suc zero)) = pick_fine
bodies_fine (suc (suc (suc zero))) = base_fine
bodies_fine (suc (suc (suc (suc zero)))) = ends _ refl (λ c field has. none_some has.0 has.1)
bodies_fine (suc (suc (suc (suc (suc zero))))) = counter_fine
bodies_fine (suc (suc (suc (suc (suc (suc method)))))) = ends _ refl (λ c. absurd (false≢true c))
