-- The end of a method without errors, and a `return`, show what the laws ask of a frame's end.
use Rattle.std.specs.Prelude.{◌≡◌, ℕ, ◌<◌, Bool, true, false, List, length, slice_get, option_map, Option, None, Some, refl}
use Rattle.std.proofs.Common.{sym, ap, ◌∙◌, subst}
use Rattle.std.proofs.lemmas.Bool.{false≢true}
use Rattle.ix_text.specs.declared.span.Span.{Span}
use Rattle.ix_core.specs.declared.claim.Name.{Name}
use Rattle.ix_core.specs.declared.claim.Name.TheVariants.{Param, Local, FieldNamed}
use Rattle.ix_core.specs.declared.claim.Post.{Post}
use Rattle.ix_core.specs.declared.claim.Type_.{Type_}
use Rattle.ix_core.specs.declared.claim.Type_.TheVariants as type
use Rattle.ix_core.specs.declared.error.Error.{Error}
use Rattle.ix_core.specs.declared.error.Subject.TheVariants as subject
use Rattle.ix_core.specs.declared.fact.Path.TheVariants.{Slot, FieldOf}
use Rattle.ix_core.specs.declared.fact.Profile.{Profile}
use Rattle.ix_core.specs.declared.program.Method.{Method}
use Rattle.ix_core.specs.declared.program.Program.{Program}
use Rattle.ix_core.specs.Analysis.{Leaves, IsFreeIf, ResultTrue, Results}
use Rattle.ix_core.specs.Formed.{is_formed, return_fits}
use Rattle.ix_core.specs.Heap.{Held, Boolean, At, Heap, ObjectOf, value_at, reading_of}
use Rattle.ix_core.specs.Machine.{result_of, returned_or}
use Rattle.ix_core.specs.Numbers.{Numbers, HasInts, numbers_of}
use Rattle.ix_core.specs.Posts.{PostsHold, speaks_of}
use Rattle.ix_core.specs.Objects.{HasField, MeetsField, field_readings, FrameKeeps}
use Rattle.ix_core.specs.Tables.{method_at, field_at, routine_of, default_result, all_fields}
use Rattle.ix_core.specs.Types.{Types, is_void}
use Rattle.ix_core.specs.Waits.{Knowledge, param_readings}
use Rattle.ix_core.specs.World.{World}
use Rattle.ix_core.proofs.Cases.{by_test}
use Rattle.ix_facts.specs.Assume.{ClaimHolds}
use Rattle.ix_facts.specs.Stores.{Stored, Unreachable, Reached, Meets}
use Rattle.ix_rules_hold.specs.MachineSteps.{on_paths, own_path, reading_at, IsDeclared}
use Rattle.ix_rules_hold.proofs.MachineTests.{parameter_is, field_is}
use Rattle.ix_signatures.specs.Names.{object_path}
use Rattle.ix_signatures.specs.SignErrors.{Refuses, IsReached, ReturnClaim, ConstructorClaim, MissingReturn, PostClaim, counts_at, value_place, post_subject, plain, unproved}
use Rattle.ix_soundness.specs.Direct.{direct}
use Rattle.ix_soundness.proofs.ClaimTruths.{claims_true, none_fails}
use Rattle.ix_soundness.proofs.FieldPlaces.{placed_among, among_at}
use Rattle.ix_soundness.proofs.NamedClaims.{MayName, result_names, promised_names, field_names}
use Rattle.ix_soundness.proofs.Promises.{posts_true, counts_nothing, counts_value}
use Rattle.ix_soundness.proofs.Stable.{unrefused}

-- a store that is met is reached
met_reached : (s : Stored) (v : Numbers) → Meets s v → IsReached s
met_reached Unreachable v meets = absurd meets
met_reached (Reached facts) v meets = tt

module _ (program : Program) (locals : List (List Type_)) (formed : is_formed program locals ≡ true) (profile : Profile) (know : Knowledge) (number : ℕ) (lt : number < length program.methods) (slots : List Held) (heap : Heap) (building : ℕ → Type 0)
    (frame : FrameKeeps building (method_at program number) slots heap) (ints_ : HasInts (direct program).place slots heap) (s : Stored) (meets : Meets s (numbers_of (direct program).place slots heap ints_)) where
  abbrev world : World
  world = direct program

  abbrev method : Method
  method = method_at program number

  abbrev v : Numbers
  v = numbers_of world.place slots heap ints_

  -- ---- constructors

  pub built_shown : ((error : Error) (rank : ℕ) → ConstructorClaim program method s error rank → ⊥) → method.constructor ≡ true → (object field : ℕ) → value_at slots 0 ≡ At object → HasField world (ObjectOf method.class) field → MeetsField world heap object field
  built_shown none made object field at has =
      let there = among_at (all_fields program method.class) field (placed_among (all_fields program method.class) field has.0 has.1) in
      claims_true (object_path 0) (FieldOf 0 field) (field_at program field).claims v (field_readings world heap object (FieldNamed field)) (field_readings world heap object) (field_is world slots heap ints_ 0 object field at)
      (λ name named. let found = field_names program locals formed field name named in
      subst (λ n. field_readings world heap object n ≡ reading_at v (object_path 0 n)) (sym found.is) (field_is world slots heap ints_ 0 object found.other at))
      (λ k c is. unrefused s v (on_paths (object_path 0) c) (FieldOf 0 field)
      (none_fails (λ claim. Refuses s (on_paths (object_path 0) claim) (FieldOf 0 field)) (field_at program field).claims 9 method.span (subject.FieldNamed field)
      (λ error rank failed. none error rank (record { constructor = made; at = there.0; field = field; has = there.1; of = failed })) k c is) meets)

  -- ---- posts

  declared : (name : Name) → MayName method name → IsDeclared name
  declared (Param n) may = tt
  declared (Local n) may = absurd may
  declared (FieldNamed f) may = tt

  abbrev NoPost : Option ℕ → Option Bool → Span → Type 0
  NoPost value known span = (error : Error) (rank : ℕ) → PostClaim method number value known span s error rank → ⊥

  -- a post that counts where the method leaves holds
  post_holds : (value : Option ℕ) (known : Option Bool) (span : Span) → NoPost value known span → (k : ℕ) (post : Post) → slice_get method.posts k ≡ Some post → counts_at post.when value known ≡ true
      → ClaimHolds (on_paths (own_path method) post.claim) (own_path method post.on) v
  post_holds value known span none k post is counts =
      unrefused s v (on_paths (own_path method) post.claim) (own_path method post.on)
      (λ refused. none (unproved 18 (value_place method value span) (post_subject number post.on) post.claim) k (record { post = post; promised = is; counts = counts; refused = refused; is = refl })) meets

  -- so the posts that speak of what is returned are true
  posts_shown : (value : Option ℕ) (known : Option Bool) (span : Span) (returned : Option Held) → NoPost value known span → ((when : Option Bool) → speaks_of when returned ≡ true → counts_at when value known ≡ true)
      → PostsHold method.posts (param_readings world method slots heap) returned
  posts_shown value known span returned none counts =
      posts_true (own_path method) method.posts v (param_readings world method slots heap) returned
      (λ name named. parameter_is world method slots heap ints_ name (declared name (promised_names program locals formed number lt name named)))
      (λ k post is speaks. post_holds value known span none k post is (counts post.when speaks))

  -- ---- methods

  -- a method without a result ends with nothing
  no_default : (ty : Type_) → is_void ty ≡ true → default_result ty ≡ None
  no_default type.Void e = refl
  no_default (type.Plain of) e = absurd (false≢true e)
  no_default (type.Array of depth element) e = absurd (false≢true e)

  no_result : (returned : Option ℕ) → method.constructor ≡ false → is_void method.result ≡ true → result_of (routine_of method) slots returned ≡ None
  no_result returned not_made void = rw not_made (ap (option_map (λ default. returned_or default slots returned)) (no_default method.result void))

  nothing_left : (returned : Option ℕ) (known : Option Bool) (span : Span) → ((error : Error) (rank : ℕ) → ConstructorClaim program method s error rank → ⊥) → NoPost returned known span → is_void method.result ≡ true
      → Leaves profile world know building method slots heap (result_of (routine_of method) slots returned)
  nothing_left returned known span none no_post void = record {
    free = λ c. subst (IsFreeIf building heap) (sym (no_result returned c void)) tt;
    results = λ c. subst (Results world method slots heap) (sym (no_result returned c void)) (record { claims = tt; posts = posts_shown returned known span None no_post (λ when speaks. counts_nothing when returned known speaks) });
    built = built_shown none;
  }

  pub ends_shown : ((error : Error) (rank : ℕ) → ConstructorClaim program method s error rank → ⊥) → ((error : Error) (rank : ℕ) → MissingReturn method s error rank → ⊥) → NoPost None None method.span
      → Leaves profile world know building method slots heap (result_of (routine_of method) slots None)
  ends_shown none missing no_post =
      nothing_left None None method.span none no_post
      (by_test (is_void method.result) (λ t. t) (λ t. absurd (missing (plain 17 method.span) 0 (record { result = t; reached = met_reached s v meets; is = refl; first = refl }))))

  -- the claims of the result are true of what a slot holds
  result_true : (slot : ℕ) (span : Span) → ((error : Error) (rank : ℕ) → ReturnClaim method number (Some slot) span s error rank → ⊥) → ResultTrue world method slots heap (Some (value_at slots slot))
  result_true slot span none =
      claims_true (own_path method) (Slot slot) method.result_claims v (reading_of heap (value_at slots slot)) (param_readings world method slots heap) refl
      (λ name named. parameter_is world method slots heap ints_ name (declared name (result_names program locals formed number lt name named)))
      (λ k c is. unrefused s v (on_paths (own_path method) c) (Slot slot)
      (none_fails (λ claim. Refuses s (on_paths (own_path method) claim) (Slot slot)) method.result_claims 6 span (subject.Result number)
      (λ error rank failed. none error rank (record { slot = slot; returned = refl; of = failed })) k c is) meets)

  given_free : (slot : ℕ) (default : Option Held) → method.constructor ≡ false → IsFreeIf building heap (option_map (λ of. value_at slots slot) default)
  given_free slot None not_made = tt
  given_free slot (Some of) not_made = frame.free slot (λ own. false≢true (sym not_made ∙ own.0))

  -- the answer that is written out at a `return` is the value
  abbrev IsWritten : ℕ → Option Bool → Type 0
  IsWritten slot known = (answer : Bool) → known ≡ Some answer → value_at slots slot ≡ Boolean answer

  given_true : (slot : ℕ) (known : Option Bool) (span : Span) (default : Option Held) → IsWritten slot known → NoPost (Some slot) known span → ResultTrue world method slots heap (Some (value_at slots slot))
      → Results world method slots heap (option_map (λ of. value_at slots slot) default)
  given_true slot known span None written no_post is = record { claims = tt; posts = posts_shown (Some slot) known span None no_post (λ when speaks. counts_nothing when (Some slot) known speaks) }
  given_true slot known span (Some of) written no_post is =
      record { claims = is; posts = posts_shown (Some slot) known span (Some (value_at slots slot)) no_post (λ when speaks. counts_value when slot known (value_at slots slot) written speaks) }

  the_result : (slot : ℕ) → method.constructor ≡ false → result_of (routine_of method) slots (Some slot) ≡ option_map (λ of. value_at slots slot) (default_result method.result)
  the_result slot not_made = rw not_made refl

  pub returns_shown : (types : Types) (value : Option ℕ) (known : Option Bool) (span : Span) → return_fits program method (Some types) value ≡ true → ((slot : ℕ) → value ≡ Some slot → IsWritten slot known)
      → ((error : Error) (rank : ℕ) → ReturnClaim method number value span s error rank → ⊥) → ((error : Error) (rank : ℕ) → ConstructorClaim program method s error rank → ⊥) → NoPost value known span
      → Leaves profile world know building method slots heap (result_of (routine_of method) slots value)
  returns_shown types None known span fits written none none_built no_post = nothing_left None known span none_built no_post fits
  returns_shown types (Some slot) known span fits written none none_built no_post = record {
    free = λ c. subst (IsFreeIf building heap) (sym (the_result slot c)) (given_free slot (default_result method.result) c);
    results = λ c. subst (Results world method slots heap) (sym (the_result slot c)) (given_true slot known span (default_result method.result) (written slot refl) no_post (result_true slot span none));
    built = built_shown none_built;
  }
