-- Where no error is derived from a method's text, each of its operations is clean.
use Rattle.std.specs.Prelude.{◌≡◌, ℕ, zero, suc, ◌==◌, Bool, true, false, if◌then◌else◌, List, [], ◌∷◌, ◌++◌, slice_get, Option, None, Some, unwrap_or, refl}
use Rattle.std.proofs.Common.{ap, ◌∙◌, inl, inr, arith}
use Rattle.std.proofs.lemmas.Bool.{and_parts, false≢true}
use Rattle.std.proofs.lemmas.Bool.Decides.{nat_tests}
use Rattle.ix_text.specs.declared.span.Span.{Span}
use Rattle.ix_core.specs.declared.error.Error.{Error}
use Rattle.ix_core.specs.declared.op.Arg.{Arg}
use Rattle.ix_core.specs.declared.op.Op.{Op}
use Rattle.ix_core.specs.declared.op.OpKind.{OpKind}
use Rattle.ix_core.specs.declared.op.OpKind.TheVariants as op
use Rattle.ix_core.specs.declared.program.Method.{Method}
use Rattle.ix_core.specs.declared.program.Program.{Program}
use Rattle.ix_core.specs.Code.{Code, End, Do, If, Break, Continue, Return, Throw, Loop, Condition, Known, Compare, Truth, Both, Either, Opposite}
use Rattle.ix_core.specs.Objects.{IsOwn}
use Rattle.ix_core.specs.Tables.{method_at}
use Rattle.ix_core.specs.Waits.{AreNotOwn}
use Rattle.ix_core.proofs.Cases.{by_test, equal}
use Rattle.ix_rules_hold.specs.MachineSteps.{own_slot}
use Rattle.ix_signatures.specs.Names.{is_built}
use Rattle.ix_signatures.specs.SignErrors.{plain, part, HasEffect}
use Rattle.ix_sign.specs.RuleErrors.{Somewhere, SomewhereAsked, OpText, TestEscapes, escapes_by, this_args, this_entries, is_this}
use Rattle.ix_soundness.specs.Chain.{Each, EachAsked}
use Rattle.ix_soundness.specs.Clean.{Hides, IsQuiet, IsClean}

-- ---- slot 0 of a constructor

same_true : (n : ℕ) → n ≡ 0 → (n == 0) ≡ true
same_true n e = grind (arith, nat_tests, e)

none_in : {A : Type 0} (items : List A) → ((at : ℕ) (x : A) → slice_get items at ≡ Some x → ⊥) → items ≡ []
none_in [] none = refl
none_in (x ∷ items) none = absurd (none 0 x refl)

one_if : {A : Type 0} (b : Bool) (x : A) → (if b then x ∷ [] else []) ≡ [] → b ≡ true → ⊥
one_if true x e is = absurd cc
one_if false x e is = false≢true is

more_if : {A : Type 0} (b : Bool) (x : A) (items : List A) → (if b then x ∷ items else items) ≡ [] → (b ≡ true → ⊥) × (items ≡ [])
more_if true x items e = absurd cc
more_if false x items e = ((λ is. false≢true is), e)

append_none : {A : Type 0} (front back : List A) → front ++ back ≡ [] → (front ≡ []) × (back ≡ [])
append_none [] back e = (refl, e)
append_none (x ∷ front) back e = absurd cc

module _ (program : Program) (method : Method) where
  args_hidden : (args : List Arg) → (method.constructor ≡ true → this_args args ≡ []) → AreNotOwn method args
  args_hidden [] none = tt
  args_hidden (arg ∷ args) none = (
    (λ own. (more_if (arg.slot == 0) arg.span (this_args args) (none own.0)).0 (same_true arg.slot own.1)),
    args_hidden args (λ made. (more_if (arg.slot == 0) arg.span (this_args args) (none made)).1),
  )

  entries_hidden : (done : Op) (number : ℕ) (entries : List ℕ) → (method.constructor ≡ true → this_entries done number entries ≡ []) → (at entry : ℕ) → slice_get entries at ≡ Some entry → IsOwn method entry → ⊥
  entries_hidden done number [] none at entry is own = absurd cc
  entries_hidden done number (first ∷ entries) none zero entry is own =
      let same : first ≡ entry = ap (λ (o : Option ℕ). unwrap_or o first) is in
      (more_if (first == 0) (part done number) (this_entries done (suc number) entries) (none own.0)).0 (same_true first (same ∙ own.1))
  entries_hidden done number (first ∷ entries) none (suc at) entry is own =
      entries_hidden done (suc number) entries (λ made. (more_if (first == 0) (part done number) (this_entries done (suc number) entries) (none made)).1) at entry is own

  receiver_hidden : (receiver : Option ℕ) (span : Span) → (method.constructor ≡ true → (if is_this receiver then span ∷ [] else []) ≡ []) → (slot : ℕ) → receiver ≡ Some slot → IsOwn method slot → ⊥
  receiver_hidden None span none slot is own = absurd cc
  receiver_hidden (Some other) span none slot is own =
      let same : other ≡ slot = ap (λ (o : Option ℕ). unwrap_or o other) is in
      one_if (other == 0) span (none own.0) (same_true other (same ∙ own.1))

  hides_of : (done : Op) (kind : OpKind) → (method.constructor ≡ true → escapes_by done kind ≡ []) → Hides method kind
  hides_of done (op.Copy t s ty) none = λ own. one_if (s == 0) (part done 1) (none own.0) (same_true s own.1)
  hides_of done (op.Fill t ty entries) none = entries_hidden done 0 entries none
  hides_of done (op.Store a i v ty) none = λ own. one_if (v == 0) (part done 0) (none own.0) (same_true v own.1)
  hides_of done (op.WriteField o f v) none = λ own. one_if (v == 0) (part done 1) (none own.0) (same_true v own.1)
  hides_of done (op.NewObject call) none = args_hidden call.args none
  hides_of done (op.StaticCall call) none = args_hidden call.args none
  hides_of done (op.InstanceCall call) none = (
    args_hidden call.args (λ made. (append_none (if is_this call.receiver then done.span ∷ [] else []) (this_args call.args) (none made)).1),
    receiver_hidden call.receiver done.span (λ made. (append_none (if is_this call.receiver then done.span ∷ [] else []) (this_args call.args) (none made)).0),
  )
  hides_of done (op.SuperCall call) none = args_hidden call.args none
  hides_of done (op.Const t value) none = tt
  hides_of done (op.Num t arith_ y z) none = tt
  hides_of done (op.Unary t unary y) none = tt
  hides_of done (op.Length t a) none = tt
  hides_of done (op.NewArray t ty n) none = tt
  hides_of done (op.Load t a i ty) none = tt
  hides_of done (op.ReadField t o f) none = tt
  hides_of done (op.Print value) none = tt

  -- ---- effects

  is_true : (b : Bool) → (b ≡ false → ⊥) → b ≡ true
  is_true true none = refl
  is_true false none = absurd (none refl)

  own_of : (slot : ℕ) → (is_built method slot ≡ true → ⊥) → IsOwn method slot
  own_of slot none = by_test (own_slot method slot)
      (λ t. let parts = and_parts method.constructor (slot == 0) t in (parts.0, equal slot 0 parts.1))
      (λ t. absurd (none (rw t refl)))

  quiet_of : (kind : OpKind) → (HasEffect program method kind → ⊥) → IsQuiet program method kind
  quiet_of (op.WriteField o f v) none = own_of o none
  quiet_of (op.NewObject call) none = is_true (method_at program call.method).effect_free none
  quiet_of (op.StaticCall call) none = is_true (method_at program call.method).effect_free none
  quiet_of (op.InstanceCall call) none = is_true (method_at program call.method).effect_free none
  quiet_of (op.SuperCall call) none = is_true (method_at program call.method).effect_free none
  quiet_of (op.Const t value) none = tt
  quiet_of (op.Copy t s ty) none = tt
  quiet_of (op.Num t arith_ y z) none = tt
  quiet_of (op.Unary t unary y) none = tt
  quiet_of (op.Length t a) none = tt
  quiet_of (op.NewArray t ty n) none = tt
  quiet_of (op.Fill t ty entries) none = tt
  quiet_of (op.Load t a i ty) none = tt
  quiet_of (op.Store a i v ty) none = tt
  quiet_of (op.ReadField t o f) none = tt
  quiet_of (op.Print value) none = tt

  -- ---- all operations

  op_clean : (done : Op) → ((error : Error) (rank : ℕ) → OpText program method done error rank → ⊥) → IsClean program method done.kind
  op_clean done none = record {
    hides = hides_of done done.kind (λ made. none_in (escapes_by done done.kind) (λ at span is. none (plain 14 span) 0 (inr (inr (made, record { at = at; span = span; place = is; is = refl; first = refl })))));
    named = λ number source ty named is. none (plain 15 (part done 0)) 0 (inr (inl (record { number = number; named = named; source = source; ty = ty; assigns = is; is = refl; first = refl })));
    quiet = λ marked. quiet_of done.kind (λ does. none (plain 13 done.span) 0 (inl (record { marked = marked; does = does; is = refl; first = refl })));
  }

  abbrev Clean : Op → Type 0
  Clean done = IsClean program method done.kind

  abbrev NoText : Code → Type 0
  NoText code = (error : Error) (rank : ℕ) → Somewhere (λ done. OpText program method done error rank) (λ test. TestEscapes method test error rank) code → ⊥

  abbrev NoTextAsked : Condition → Type 0
  NoTextAsked asked = (error : Error) (rank : ℕ) → SomewhereAsked (λ done. OpText program method done error rank) (λ test. TestEscapes method test error rank) asked → ⊥

  mutual
    pub each_clean : (code : Code) → NoText code → Each Clean code
    each_clean End none = tt
    each_clean (Do done rest) none = (op_clean done (λ error rank x. none error rank (inl x)), each_clean rest (λ error rank x. none error rank (inr x)))
    each_clean (If asked first second rest) none = (
      asked_clean asked (λ error rank x. none error rank (inl x)),
      each_clean first (λ error rank x. none error rank (inr (inl x))),
      each_clean second (λ error rank x. none error rank (inr (inr (inl x)))),
      each_clean rest (λ error rank x. none error rank (inr (inr (inr x)))),
    )
    each_clean (Break rest) none = each_clean rest none
    each_clean (Continue rest) none = each_clean rest none
    each_clean (Return value span rest) none = each_clean rest none
    each_clean (Throw thrown span rest) none = each_clean rest none
    each_clean (Loop test_first asked body next number scope rest) none = (
      asked_clean asked (λ error rank x. none error rank (inl x)),
      each_clean body (λ error rank x. none error rank (inr (inl x))),
      each_clean next (λ error rank x. none error rank (inr (inr (inl x)))),
      each_clean rest (λ error rank x. none error rank (inr (inr (inr x)))),
    )

    asked_clean : (asked : Condition) → NoTextAsked asked → EachAsked Clean asked
    asked_clean (Known answer) none = tt
    asked_clean (Compare code test) none = each_clean code (λ error rank x. none error rank (inl x))
    asked_clean (Truth code slot) none = each_clean code none
    asked_clean (Both first second) none = (asked_clean first (λ error rank x. none error rank (inl x)), asked_clean second (λ error rank x. none error rank (inr x)))
    asked_clean (Either first second) none = (asked_clean first (λ error rank x. none error rank (inl x)), asked_clean second (λ error rank x. none error rank (inr x)))
    asked_clean (Opposite asked) none = asked_clean asked none
