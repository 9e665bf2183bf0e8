-- The rules of a method of a formed program keep what its stores name; so its least labels name its own slots and the program's fields alone.
use Rattle.std.specs.Prelude.{◌≡◌, ℕ, ◌<◌, ◌==◌, nat_lt, Bool, true, false, not, ◌&&◌, ℤ, List, ◌++◌, length, Option, None, Some, unwrap_or, refl}
use Rattle.std.proofs.Common.{arith, sym, inl, inr, ⊎_elim, ◌∙◌}
use Rattle.std.proofs.lemmas.Bool.{and_parts, false≢true, not-true}
use Rattle.std.proofs.lemmas.Bool.Decides.{nat_tests}
use Rattle.ix_num.specs.declared.rel.Rel.{Rel}
use Rattle.ix_num.specs.declared.rel.Rel.TheVariants.{Lt, Le, Gt, Ge, Eq, Ne}
use Rattle.ix_core.specs.declared.claim.Base.TheVariants as base
use Rattle.ix_core.specs.declared.claim.Type_.{Type_}
use Rattle.ix_core.specs.declared.claim.Type_.TheVariants as type
use Rattle.ix_core.specs.declared.fact.Fact.{Fact}
use Rattle.ix_core.specs.declared.fact.Path.{Path}
use Rattle.ix_core.specs.declared.fact.Path.TheVariants.{Slot, FieldOf}
use Rattle.ix_core.specs.declared.fact.Profile.{Profile}
use Rattle.ix_core.specs.declared.op.CallOp.{CallOp}
use Rattle.ix_core.specs.declared.op.Op.{Op}
use Rattle.ix_core.specs.declared.op.OpKind.{OpKind}
use Rattle.ix_core.specs.declared.op.OpKind.TheVariants as op
use Rattle.ix_core.specs.declared.op.Test.{Test}
use Rattle.ix_core.specs.declared.program.Method.{Method}
use Rattle.ix_core.specs.declared.program.Program.{Program}
use Rattle.ix_core.specs.Formed.{is_formed, at_most, is_slot, is_target, reads, literal_fits, op_fits, operand_fits, copy_fits, variable_type, is_array_at, are_entries, field_fits, call_fits, new_fits, static_fits, instance_fits, super_fits, args_fit, receiver_fits, is_there, has_this, is_this}
use Rattle.ix_core.specs.Tables.{method_at, class_at, field_at, body_of, is_among, param_slots}
use Rattle.ix_core.specs.Types.{Point, is_array, is_class, is_void, int_type, cell_type, class_type}
use Rattle.ix_core.proofs.TypedCalls.{method_has, params_count, not_static}
use Rattle.ix_facts.specs.After.{TargetApart}
use Rattle.ix_facts.specs.AfterOperation as after
use Rattle.ix_facts.specs.AfterTest.{outcomes_by, int_outcomes, array_outcomes, opposite}
use Rattle.ix_facts.specs.Closure.{kept}
use Rattle.ix_facts.specs.Forget.{of_path, without}
use Rattle.ix_facts.specs.Round.{rounded}
use Rattle.ix_facts.specs.Stores.{Stored, Gives, operated, with_facts, with_copy, outcomes_of}
use Rattle.ix_facts.proofs.RoundLaws.{rounded_weaker}
use Rattle.ix_facts.proofs.SaidLaws.{default_weaker}
use Rattle.ix_flow.specs.Flow.{IsLeastFlow}
use Rattle.ix_signatures.specs.Names.{is_built}
use Rattle.ix_signatures.specs.Signs.{Adds, Forgets, Copies, entry_facts, read_facts, write_facts, result_facts, answer_facts, told_by, told_by_call, told_facts, own_fields, inherited_fields, fields_above, zero_fields, fields_facts, has_no_parent}
use Rattle.ix_sign.specs.MethodRules.{method_rules, KindGives, AfterGives}
use Rattle.ix_certify.specs.Within.{StoreWithin, is_inside}
use Rattle.ix_certify.proofs.Paths.{OperationWithin}
use Rattle.ix_certify.proofs.Cut.{cut, AllOutcomesWithin, cut_below, cut_gives, cut_then, cut_outcomes, above_cut, within_cut}
use Rattle.ix_certify.proofs.Fitting.{Maps, LastFits}
use Rattle.ix_certify.proofs.After.{after_within, copy_within}
use Rattle.ix_certify.proofs.Closing.{covered_within}
use Rattle.ix_certify.proofs.Declared.{received_within, copied_within, params_within, received_all, field_facts, dependent_within, zero_fields_within, fields_within, result_within, posts_within}
use Rattle.ix_certify.proofs.Inside.{method, local_types, In, field_is, own_field_is, field_within, this_is}
use Rattle.ix_certify.proofs.ListsWithin.{Each, none, both, if_within, so_within, kept_within}
use Rattle.ix_certify.proofs.Mapped.{least_mapped}
use Rattle.ix_certify.proofs.Stored.{without_within, app_within, each_are}
use Rattle.ix_certify.proofs.Typed.{OpTyped, TestTyped, body_typed}

-- ---- single rules

module _ (is_in : Path → Bool) where
  abbrev Of : Path → Type 0
  Of p = is_in p ≡ true

  adds : (new : List Fact) → Each Of new → (s t : Stored) → Adds new s t → Adds new (cut is_in s) (cut is_in t)
  adds new all s t gives = cut_gives is_in (with_facts new) (λ facts within. app_within Of facts (kept new) within (each_are Of (kept new) (kept_within Of new all))) s t gives

  forgets : (is : Path → Bool) (s t : Stored) → Forgets is s t → Forgets is (cut is_in s) (cut is_in t)
  forgets is s t gives = cut_gives is_in (without is) (λ facts within. without_within Of is facts within) s t gives

  copies : (ty : Type_) (target source : Path) → Of target → Of source → of_path target source ≡ false → (s t : Stored) → Copies ty target source s t → Copies ty target source (cut is_in s) (cut is_in t)
  copies ty target source i j apart s t gives = cut_gives is_in (with_copy ty target source) (λ facts within. copy_within Of ty target source i j apart facts within) s t gives

  rounds : (marks : List ℤ) (scope : ℕ) (s t : Stored) → Gives (rounded marks scope) s t → Gives (rounded marks scope) (cut is_in s) (cut is_in t)
  rounds marks scope s t gives =
      cut_gives is_in (rounded marks scope)
      (λ facts within f i. let by = (rounded_weaker marks scope facts).met f i in ⊎_elim (λ d. inl (default_weaker by.0 f by.2 d)) (λ w. inr (covered_within Of by.0 f by.2 w)) (within by.0 by.1))
      s t gives

apart_slots : (t s : ℕ) → not (t == s) ≡ true → (s == t) ≡ false
apart_slots t s h = grind (arith, nat_tests)

-- ---- all rules of a method

module _ (program : Program) (locals : List (List Type_)) (formed : is_formed program locals ≡ true) (profile : Profile) (number : ℕ) (lt : number < length program.methods) where
  abbrev own : Method
  own = method program locals formed number lt

  abbrev types_of : List Type_
  types_of = local_types program locals formed number lt

  abbrev inside : Path → Bool
  inside = is_inside own.slots (length program.fields)

  abbrev Inside : Path → Type 0
  Inside = In program locals formed number lt

  target_in : (t : ℕ) → is_target program own t ≡ true → Inside (Slot t)
  target_in t h = (and_parts (is_slot program own t) (at_most (param_slots own) t) h).0

  read_in : (types : Point) (slot : ℕ) (ty : Type_) → reads program own types slot ty ≡ true → Inside (Slot slot)
  read_in types slot ty h = (and_parts (is_slot program own slot) _ h).0

  -- an operation whose rule is its own
  operated_cut : (kind : OpKind) → OperationWithin Inside kind → TargetApart kind → (s t : Stored) → Gives (operated profile kind) s t → Gives (operated profile kind) (cut inside s) (cut inside t)
  operated_cut kind i a s t gives = cut_gives inside (operated profile kind) (λ facts within. after_within Inside profile kind i a facts within) s t gives

  copy_target : (variable : Option Type_) (t s : ℕ) (ty : Type_) (parts : List Rattle.ix_text.specs.declared.span.Span.Span) → copy_fits program own types_of variable t s ty parts ≡ true → Inside (Slot t)
  copy_target (Some variable) t s ty parts h =
      let a = and_parts (length parts == 2) _ h in
      let b = and_parts _ (is_slot program own t && _) a.1 in
      (and_parts (is_slot program own t) _ b.1).0
  copy_target None t s ty parts h = let a = and_parts (length parts == 0) _ h in target_in t (and_parts (is_target program own t) _ a.1).0

  -- ---- calls

  call_parts : (types : Point) (call : CallOp) → call_fits program own types call ≡ true
      → (call.method < length program.methods) × (args_fit program own types call.args (method_at program call.method).param_types ≡ true) × Inside (Slot call.target)
  call_parts types call h =
      let a = and_parts (is_there program.methods call.method) _ h in
      let b = and_parts (is_class program call.class) _ a.1 in
      let c = and_parts (args_fit program own types call.args (method_at program call.method).param_types) _ b.1 in
      let d = and_parts (is_target program own call.target) _ c.1 in
      let e = a.0 in
      (grind (arith, nat_tests, e), c.0, target_in call.target d.0)

  result_in : (types : Point) (call : CallOp) → call_fits program own types call ≡ true → (has_this program (method_at program call.method) ≡ true → is_slot program own (unwrap_or call.receiver 0) ≡ true) → Each Inside (result_facts program call)
  result_in types call h receiver =
      let parts = call_parts types call h in
      both Inside _ _ (received_within Inside (method_at program call.method).result (Slot call.target) parts.2)
      (both Inside _ _ (result_within program locals formed number lt types call parts.0 parts.1 receiver (Slot call.target) parts.2)
      (posts_within program locals formed number lt types call parts.0 parts.1 receiver None))

  told_in : (types : Point) (call : CallOp) (slot : ℕ) (answer : Bool) → call_fits program own types call ≡ true
      → (has_this program (method_at program call.method) ≡ true → is_slot program own (unwrap_or call.receiver 0) ≡ true) → Each Inside (told_by_call program call slot answer)
  told_in types call slot answer h receiver =
      let parts = call_parts types call h in
      if_within Inside (call.target == slot && not (is_void (method_at program call.method).result)) (answer_facts program call answer)
      (posts_within program locals formed number lt types call parts.0 parts.1 receiver (Some answer))

  call_cut : (types : Point) (call : CallOp) → call_fits program own types call ≡ true → (has_this program (method_at program call.method) ≡ true → is_slot program own (unwrap_or call.receiver 0) ≡ true)
      → (s t : Stored) → Rattle.ix_signatures.specs.Signs.CallGives program own call s t → Rattle.ix_signatures.specs.Signs.CallGives program own call (cut inside s) (cut inside t)
  call_cut types call h receiver s t gives = cut_then inside _ _ (forgets inside _) (adds inside (result_facts program call) (result_in types call h receiver)) s t gives

  no_this : (callee : Method) → callee.constructor ≡ true → has_this program callee ≡ true → ⊥
  no_this callee c h = let a = and_parts (not callee.is_static) (not callee.constructor) h in false≢true (sym (not-true callee.constructor a.1) ∙ c)

  not_this : (callee : Method) → callee.is_static ≡ true → has_this program callee ≡ true → ⊥
  not_this callee c h = let a = and_parts (not callee.is_static) (not callee.constructor) h in false≢true (sym (not-true callee.is_static a.0) ∙ c)

  receiver_in : (types : Point) (receiver : Option ℕ) (target class : ℕ) → receiver_fits program own types receiver target class ≡ true → is_slot program own (unwrap_or receiver 0) ≡ true
  receiver_in types None target class h = absurd (false≢true h)
  receiver_in types (Some slot) target class h = let a = and_parts (reads program own types slot (class_type class)) _ h in read_in types slot (class_type class) a.0

  inherited : (parent : Option ℕ) (field : ℕ) → is_among (fields_above program parent) field ≡ true → nat_lt field (length program.fields) ≡ true
  inherited None field h = absurd (false≢true h)
  inherited (Some parent) field h = field_is program locals formed parent field h

  super_facts : is_slot program own 0 ≡ true → Each Inside (zero_fields program (own_fields program own) ++ fields_facts program (inherited_fields program own))
  super_facts this =
      both Inside (zero_fields program (own_fields program own)) (fields_facts program (inherited_fields program own))
      (zero_fields_within program locals formed number lt this (own_fields program own) (λ field h. own_field_is program locals formed own.class field h))
      (fields_within program locals formed number lt this (inherited_fields program own) (λ field h. inherited (class_at program own.class).parent field h))

  -- ---- fields

  written_facts : (object field : ℕ) → is_slot program own object ≡ true → nat_lt field (length program.fields) ≡ true → Each Inside (write_facts program object field)
  written_facts object field o f = both Inside _ _ (field_facts program locals formed number lt object o field f) (dependent_within program locals formed number lt object o field)

  field_parts : (types : Point) (object field : ℕ) → field_fits program own types object field ≡ true → (nat_lt field (length program.fields) ≡ true) × (is_slot program own object ≡ true)
  field_parts types object field h =
      let a = and_parts (is_there program.fields field) (reads program own types object (class_type (field_at program field).class)) h in (a.0, read_in types object _ a.1)

  -- ---- each operation

  kind_cut : (done : Op) (kind : OpKind) (types : Point) → op_fits program own types_of types done kind ≡ true → (s t : Stored) → KindGives program own profile kind done.span.from s t
      → KindGives program own profile kind done.span.from (cut inside s) (cut inside t)
  kind_cut done (op.Const target value) types h s t gives =
      let a = and_parts (literal_fits program own value) _ h in
      let b = and_parts (is_target program own target) _ a.1 in
      operated_cut (op.Const target value) (target_in target b.0) tt s t gives
  kind_cut done (op.Copy target source ty) types h s t gives =
      let a = and_parts (reads program own types source ty) _ h in
      let b = and_parts (not (target == source)) (copy_fits program own types_of (variable_type program own types_of target done.span) target source ty done.parts) a.1 in
      let to = copy_target (variable_type program own types_of target done.span) target source ty done.parts b.1 in
      cut_then inside _ _ (operated_cut (op.Copy target source ty) (to, read_in types source ty a.0) (apart_slots target source b.0)) (adds inside _ (copied_within program locals formed number lt target done.span.from to)) s t gives
  kind_cut done (op.Num target arith_op left right) types h s t gives =
      let a = and_parts (reads program own types left int_type) _ h in
      let b = and_parts (reads program own types right int_type) _ a.1 in
      let c = and_parts (is_target program own target) _ b.1 in
      let d = and_parts (not (target == left)) _ c.1 in
      let e = and_parts (not (target == right)) _ d.1 in
      operated_cut (op.Num target arith_op left right) (target_in target c.0, read_in types left int_type a.0, read_in types right int_type b.0) (apart_slots target left d.0, apart_slots target right e.0) s t gives
  kind_cut done (op.Unary target unary operand) types h s t gives =
      let a = and_parts (reads program own types operand int_type) _ h in
      let b = and_parts (is_target program own target) _ a.1 in
      let c = and_parts (not (target == operand)) _ b.1 in
      operated_cut (op.Unary target unary operand) (target_in target b.0, read_in types operand int_type a.0) (apart_slots target operand c.0) s t gives
  kind_cut done (op.Length target array) types h s t gives =
      let a = and_parts (is_slot program own array) _ h in
      let b = and_parts (is_array_at types array) _ a.1 in
      let c = and_parts (is_target program own target) _ b.1 in
      let d = and_parts (not (target == array)) _ c.1 in
      operated_cut (op.Length target array) (target_in target c.0, a.0) (apart_slots target array d.0) s t gives
  kind_cut done (op.NewArray target ty size) types h s t gives =
      let a = and_parts (reads program own types size int_type) _ h in
      let b = and_parts (is_array program ty) _ a.1 in
      let c = and_parts (is_target program own target) _ b.1 in
      let d = and_parts (not (target == size)) _ c.1 in
      operated_cut (op.NewArray target ty size) (target_in target c.0, read_in types size int_type a.0) (apart_slots target size d.0) s t gives
  kind_cut done (op.Fill target ty entries) types h s t gives =
      let a = and_parts (is_array program ty) _ h in
      let b = and_parts (are_entries program own types target entries (cell_type ty)) _ a.1 in
      let c = and_parts (is_target program own target) _ b.1 in
      operated_cut (op.Fill target ty entries) (target_in target c.0) tt s t gives
  kind_cut done (op.Load target array index ty) types h s t gives =
      let a = and_parts (is_array program ty) _ h in
      let b = and_parts (reads program own types array ty) _ a.1 in
      let c = and_parts (reads program own types index int_type) _ b.1 in
      let d = and_parts (is_target program own target) _ c.1 in
      operated_cut (op.Load target array index ty) (target_in target d.0) tt s t gives
  kind_cut done (op.Store array index value ty) types h s t gives = operated_cut (op.Store array index value ty) tt tt s t gives
  kind_cut done (op.Print value) types h s t gives = operated_cut (op.Print value) tt tt s t gives
  kind_cut done (op.ReadField target object field) types h s t gives =
      let a = and_parts (field_fits program own types object field) _ h in
      let b = and_parts (is_target program own target) _ a.1 in
      let c = and_parts (not (target == object)) _ b.1 in
      let f = field_parts types object field a.0 in
      cut_then inside _ _ (adds inside _ (if_within Inside (is_built own object) (read_facts program object field) (field_facts program locals formed number lt object f.1 field f.0)))
      (copies inside (field_at program field).ty (Slot target) (FieldOf object field) (target_in target b.0) (field_within program locals formed number lt object field f.1 f.0) (apart_slots target object c.0)) s t gives
  kind_cut done (op.WriteField object field value) types h s t gives =
      let a = and_parts (field_fits program own types object field) _ h in
      let b = and_parts (reads program own types value (field_at program field).ty) _ a.1 in
      let f = field_parts types object field a.0 in
      cut_then inside _ _ (adds inside _ (if_within Inside (is_built own object) (write_facts program object field) (written_facts object field f.1 f.0)))
      (cut_then inside _ _ (forgets inside _)
      (copies inside (field_at program field).ty (FieldOf object field) (Slot value) (field_within program locals formed number lt object field f.1 f.0) (read_in types value (field_at program field).ty b.0) refl)) s t gives
  kind_cut done (op.NewObject call) types h s t gives =
      let a = and_parts (new_fits program own types call) _ h in
      let b = and_parts (call_fits program own types call) _ a.0 in
      let c = and_parts (method_at program call.method).constructor _ b.1 in
      call_cut types call b.0 (λ this. absurd (no_this (method_at program call.method) c.0 this)) s t gives
  kind_cut done (op.StaticCall call) types h s t gives =
      let a = and_parts (static_fits program own types call) _ h in
      let b = and_parts (call_fits program own types call) _ a.0 in
      let c = and_parts (method_at program call.method).is_static _ b.1 in
      call_cut types call b.0 (λ this. absurd (not_this (method_at program call.method) c.0 this)) s t gives
  kind_cut done (op.InstanceCall call) types h s t gives =
      let a = and_parts (instance_fits program own types call) _ h in
      let b = and_parts (call_fits program own types call) _ a.0 in
      let c = and_parts (receiver_fits program own types call.receiver call.target call.class) _ b.1 in
      call_cut types call b.0 (λ this. receiver_in types call.receiver call.target call.class c.0) s t gives
  kind_cut done (op.SuperCall call) types h s t gives =
      let a = and_parts (super_fits program own types call) _ h in
      let b = and_parts (call_fits program own types call) _ a.0 in
      let c = and_parts (is_this call.receiver) _ b.1 in
      let d = and_parts own.constructor _ c.1 in
      let this = this_is program locals formed number lt (not_static program locals formed number lt d.0) in
      cut_then inside _ _ (forgets inside _) (adds inside _ (super_facts this)) s t gives

  after_cut : (done : Op) → OpTyped program own types_of done → (s t : Stored) → AfterGives program own profile done s t → AfterGives program own profile done (cut inside s) (cut inside t)
  after_cut done (types, fits) s t gives = kind_cut done done.kind types fits s t gives

  -- ---- what a boolean slot tells

  told_kind : (done : Op) (kind : OpKind) (types : Point) (slot : ℕ) (answer : Bool) → op_fits program own types_of types done kind ≡ true → Each Inside (told_by program kind slot answer)
  told_kind done (op.StaticCall call) types slot answer h =
      let a = and_parts (static_fits program own types call) _ h in
      let b = and_parts (call_fits program own types call) _ a.0 in
      let c = and_parts (method_at program call.method).is_static _ b.1 in
      told_in types call slot answer b.0 (λ this. absurd (not_this (method_at program call.method) c.0 this))
  told_kind done (op.InstanceCall call) types slot answer h =
      let a = and_parts (instance_fits program own types call) _ h in
      let b = and_parts (call_fits program own types call) _ a.0 in
      let c = and_parts (receiver_fits program own types call.receiver call.target call.class) _ b.1 in
      told_in types call slot answer b.0 (λ this. receiver_in types call.receiver call.target call.class c.0)
  told_kind done (op.Const target value) types slot answer h = none
  told_kind done (op.Copy target source ty) types slot answer h = none
  told_kind done (op.Num target arith_op left right) types slot answer h = none
  told_kind done (op.Unary target unary operand) types slot answer h = none
  told_kind done (op.Length target array) types slot answer h = none
  told_kind done (op.NewArray target ty size) types slot answer h = none
  told_kind done (op.Fill target ty entries) types slot answer h = none
  told_kind done (op.Load target array index ty) types slot answer h = none
  told_kind done (op.Store array index value ty) types slot answer h = none
  told_kind done (op.Print value) types slot answer h = none
  told_kind done (op.ReadField target object field) types slot answer h = none
  told_kind done (op.WriteField object field value) types slot answer h = none
  told_kind done (op.NewObject call) types slot answer h = none
  told_kind done (op.SuperCall call) types slot answer h = none

  last_told : (last : Option Op) (slot : ℕ) (answer : Bool) → LastFits (OpTyped program own types_of) (TestTyped program own types_of) last → Each Inside (told_facts program last slot answer)
  last_told None slot answer fits = none
  last_told (Some done) slot answer (types, fits) = told_kind done done.kind types slot answer fits

  -- ---- tests

  operand_in : (types : Point) (slot : ℕ) (ty : Type_) → operand_fits program own types slot ty ≡ true → Inside (Slot slot)
  operand_in types slot (type.Plain (base.Class class)) h = (and_parts (is_slot program own slot) _ h).0
  operand_in types slot (type.Plain base.Int) h = read_in types slot (type.Plain base.Int) h
  operand_in types slot (type.Plain base.Bool) h = read_in types slot (type.Plain base.Bool) h
  operand_in types slot (type.Array of depth element) h = read_in types slot (type.Array of depth element) h
  operand_in types slot type.Void h = read_in types slot type.Void h

  ints_told : (rel : Rel) (y z : Path) → Inside y → Inside z → AllOutcomesWithin Inside (int_outcomes rel y z)
  ints_told Lt y z i j = ((i, j), tt)
  ints_told Le y z i j = ((i, j), tt)
  ints_told Gt y z i j = ((j, i), tt)
  ints_told Ge y z i j = ((j, i), tt)
  ints_told Eq y z i j = ((i, j), ((j, i), ((i, j), tt)))
  ints_told Ne y z i j = ((i, j), ((j, i), tt))

  arrays_told : (rel : Rel) (y z : Path) → Inside y → Inside z → AllOutcomesWithin Inside (array_outcomes rel y z)
  arrays_told Eq y z i j = ((i, j), tt)
  arrays_told Lt y z i j = tt
  arrays_told Le y z i j = tt
  arrays_told Gt y z i j = tt
  arrays_told Ge y z i j = tt
  arrays_told Ne y z i j = tt

  by_told : (ints arrays : Bool) (rel : Rel) (y z : Path) → Inside y → Inside z → AllOutcomesWithin Inside (outcomes_by ints arrays rel y z)
  by_told true arrays rel y z i j = ints_told rel y z i j
  by_told false true rel y z i j = arrays_told rel y z i j
  by_told false false rel y z i j = tt

  told : (answer : Bool) (test : Test) → Inside (Slot test.left) → Inside (Slot test.right) → AllOutcomesWithin Inside (outcomes_of answer test)
  told true test i j = by_told (after.is_int test.ty) (after.is_array test.ty) test.rel (Slot test.left) (Slot test.right) i j
  told false test i j = by_told (after.is_int test.ty) (after.is_array test.ty) (opposite test.rel) (Slot test.left) (Slot test.right) i j

  -- ---- the entry

  entry_within : Each Inside (entry_facts program own)
  entry_within =
      let has = method_has program locals formed number lt in
      let count = params_count program locals formed own 0 own.params own.param_types has.params in
      both Inside _ _ (received_all program locals formed number lt 0 own.param_types (let e = count in omega (arith, e)))
      (both Inside _ _ (params_within program locals formed number lt 0 own.params own.param_types has.params (omega (arith)))
      (so_within Inside (own.constructor && has_no_parent (class_at program own.class).parent) _
      (λ h.
      let c = and_parts own.constructor _ h in
      zero_fields_within program locals formed number lt (this_is program locals formed number lt (not_static program locals formed number lt c.0)) (own_fields program own)
      (λ field h. own_field_is program locals formed own.class field h))))

  -- ---- together

  method_maps : Maps (OpTyped program own types_of) (TestTyped program own types_of) (method_rules program own profile) (cut inside)
  method_maps = record {
    nowhere = refl;
    below = cut_below inside;
    entry = λ s entry. above_cut inside (entry_facts program own) (each_are Inside (entry_facts program own) entry_within) s entry;
    after = after_cut;
    tested = λ answer test typed s t gives. cut_outcomes inside (outcomes_of answer test) (told answer test (operand_in typed.0 test.left test.ty typed.1) (operand_in typed.0 test.right test.ty typed.2)) s t gives;
    told = λ answer last slot fits s t gives. adds inside (told_facts program last slot answer) (last_told last slot answer fits) s t gives;
    rounded = λ scope s t gives. (gives.0, gives.1, rounds inside gives.0 scope s t gives.2);
  }

  -- The least labels of a method name its own slots, and the program's fields of the objects in them; and compare no int with itself.
  pub labels_within : (loops : ℕ) (labels : ℕ → Stored) → IsLeastFlow (method_rules program own profile) (body_of own) loops labels → (loop : ℕ) → loop < loops → StoreWithin inside (labels loop)
  labels_within loops labels least loop before =
      within_cut inside (labels loop)
      (least_mapped (OpTyped program own types_of) (TestTyped program own types_of) (method_rules program own profile) (cut inside) method_maps labels (body_of own) loops
      (body_typed program own types_of (body_of own) _ (method_has program locals formed number lt).body) least loop before)
