-- Calls and creations of objects fit, as each place wants them.
use Rattle.std.proofs.Common.{◌≡◌, ◌≤◌, ◌<◌, ℕ, Bool, true, false, List, [], ◌∷◌, ◌++◌, map, length, Option, Some, None, refl, sym, ap, subst, ◌∙◌, arith, append_assoc}
use Rattle.std.specs.Prelude.{if◌then◌else◌, ◌&&◌, ◌||◌, not, ◌==◌}
use Rattle.std.proofs.lemmas.Bool.{false≢true}
use Rattle.std.proofs.lemmas.Bool.Decides.{nat_tests}
use Rattle.ix_text.specs.declared.span.Span.{Span}
use Rattle.ix_core.specs.declared.claim.Base.TheVariants as base
use Rattle.ix_core.specs.declared.claim.Type_.{Type_}
use Rattle.ix_core.specs.declared.claim.Type_.TheVariants as type
use Rattle.ix_core.specs.declared.code.Item.TheVariants as item
use Rattle.ix_core.specs.declared.op.Arg.{Arg}
use Rattle.ix_core.specs.declared.op.CallOp.{CallOp}
use Rattle.ix_core.specs.declared.op.Op.{Op}
use Rattle.ix_core.specs.declared.op.OpKind.TheVariants as op
use Rattle.ix_core.specs.Formed.{assigned, is_there, is_target, is_argument, is_super_call, args_fit, call_fits, receiver_fits, new_fits, static_fits, instance_fits, op_fits, op_types, reads}
use Rattle.ix_core.specs.Tables.{method_at}
use Rattle.ix_core.specs.Types.{Point, class_type, is_void, is_type, is_class, is_below}
use Rattle.ix_core.proofs.Cases.{equal}
use Rattle.ix_tree.specs.declared.annot.Ident.{Ident}
use Rattle.ix_tree.specs.Parts.{elsewhere}
use Rattle.ix_meaning.specs.declared.note.Rule.TheVariants as rule
use Rattle.ix_meaning.specs.Members.{Callee, method_named, constructor_params}
use Rattle.ix_meaning.specs.Rules as rules
use Rattle.ix_meaning.specs.Types.{of}
use Rattle.ix_meaning.specs.Values as reading
use Rattle.ix_meaning.specs.Values.{Reading, KindReading, Object, no_object, of_class, value, check, valued}
use Rattle.ix_plain.specs.declared.made.Made.{Made}
use Rattle.ix_plain.specs.Scope.{Scope, meaning_at, or_void, class_of, head_at, constructor_at}
use Rattle.ix_plain.specs.Parts.{Within, ◌>>=◌, Value, taking}
use Rattle.ix_plain.specs.Values as values
use Rattle.ix_plain.specs.Values.{Lowering, Arguments}
use Rattle.ix_formed.specs.Additions.{Makes, AllOf}
use Rattle.ix_formed.specs.Points.{Keeps}
use Rattle.ix_formed.specs.Typed.{Steps, Runs, Gives, Holds, Setting, Told, IsHere, IsSet, TakesTypes, MethodIs, ConstructorIs, Ready, Yields, ReceiverIs, Fits}
use Rattle.ix_formed.proofs.NumberLists.{both_true, is_itself}
use Rattle.ix_formed.proofs.PlainItems.{makes_more, makes_then}
use Rattle.ix_formed.proofs.TypedChecks.{parted, kept, unbroken, Speaks, check_fits, computes_fits, lowering_at, reading_at}
use Rattle.ix_formed.proofs.TypedNames.{new_target, there_is, this_held}
use Rattle.ix_formed.proofs.TypedPoints.{keeps_none}
use Rattle.ix_formed.proofs.TypedSteps.{steps_none, steps_both, value_after, value_in_place, op_leads_to, op_given, new_apart, this_apart, reads_held, holds_on, holds_up, ready_on}

pub both_false : (a b : Bool) → a ≡ false → b ≡ false → (a || b) ≡ false
both_false a b x y = ap (λ a. a || b) x ∙ y

module _ (z : Setting) (set : IsSet z) where
  -- ---- arguments

  abbrev pub AllFits : List Lowering → List Reading → Type 0
  AllFits [] [] = Unit {0}
  AllFits (l ∷ ls) (r ∷ rs) = Fits z l r × AllFits ls rs
  AllFits _ _ = ⊥

  -- arguments in slots below a number, with values of these types
  abbrev pub ArgsHold : Point → ℕ → List Arg → List Type_ → Type 0
  ArgsHold point free [] [] = Unit {0}
  ArgsHold point free (arg ∷ args) (ty ∷ types) = (arg.slot < free) × Holds z.program point arg.slot ty × ArgsHold point free args types
  ArgsHold point free _ _ = ⊥

  pub record ArgsGive (made : Made) (point : Point) (types : List Type_) (a : Arguments) : Type 0 where
    pub behind : Point
    pub steps : Steps z.program z.method z.locals z.fixed made point a.made behind
    pub holds : ArgsHold behind a.made.free a.args types

  args_on : (before after : Point) (free more : ℕ) (args : List Arg) (types : List Type_) → free ≤ more → Keeps free before after → ArgsHold before free args types → ArgsHold after more args types
  args_on before after free more [] [] le keeps held = tt
  args_on before after free more [] (ty ∷ types) le keeps held = absurd held
  args_on before after free more (arg ∷ args) [] le keeps held = absurd held
  args_on before after free more (arg ∷ args) (ty ∷ types) le keeps held = (
    (let low = held.0 in omega (arith, low, le)),
    holds_on z.program free before after arg.slot ty held.0 keeps held.1,
    args_on before after free more args types le keeps held.2,
  )

  args_more : (point : Point) (free : ℕ) (args : List Arg) (types : List Type_) (arg : Arg) (ty : Type_) → arg.slot < free → Holds z.program point arg.slot ty → ArgsHold point free args types
      → ArgsHold point free (args ++ arg ∷ []) (types ++ ty ∷ [])
  args_more point free [] [] arg ty lt one held = (lt, one, tt)
  args_more point free [] (other ∷ types) arg ty lt one held = absurd held
  args_more point free (other ∷ args) [] arg ty lt one held = absurd held
  args_more point free (other ∷ args) (t ∷ types) arg ty lt one held = (held.0, held.1, args_more point free args types arg ty lt one held.2)

  pub arguments_give : (given : List Arg) (ls : List Lowering) (rs : List Reading) → AllFits ls rs → (before types : List Type_) → AllOf (λ ty. is_type z.program ty ≡ true) types → length rs ≡ length types
      → Told z (reading.arguments z.names rs (map (λ t. Some t) types)) → (made : Made) (point : Point) → Ready z made point → ArgsHold point made.free given before
      → Makes (ArgsGive made point (before ++ types)) (values.arguments_from given ls z.scope made)
  arguments_give given [] [] all before [] real count said made point ready held =
      record { behind = point; steps = steps_none z.program z.method z.locals z.fixed made point; holds = subst (ArgsHold point made.free given) (sym (Rattle.std.proofs.lemmas.List.append-nil before)) held }
  arguments_give given [] [] all before (ty ∷ types) real count said made point ready held = absurd (omega (arith, count))
  arguments_give given [] (r ∷ rs) all before types real count said made point ready held = absurd all
  arguments_give given (l ∷ ls) [] all before types real count said made point ready held = absurd all
  arguments_give given (l ∷ ls) (r ∷ rs) all before [] real count said made point ready held = absurd (omega (arith, count))
  arguments_give given (l ∷ ls) (r ∷ rs) all before (ty ∷ types) real count said made point ready held =
      let q = parted z (check r z.names (of ty)).notes (reading.arguments z.names rs (map (λ t. Some t) types)) said in
      let c = check_fits z set l r all.0 ty real.0 q.0 in
      makes_then (Gives z.program z.method z.locals z.fixed z.avoided made point c.ty) (ArgsGive made point (before ++ ty ∷ types)) (l.value z.scope made) _ (c.yields made point ready)
      (λ v g.
      let arg : Arg = record { slot = v.slot; span = l.span } in
      let one = holds_up z set g.behind v.slot c.ty ty (g.holds c.real) c.fits in
      let held_v = args_more g.behind v.made.free given before arg ty g.low one (args_on point g.behind made.free v.made.free given before g.steps.up g.steps.keeps held) in
      makes_more (ArgsGive v.made g.behind ((before ++ ty ∷ []) ++ types)) (ArgsGive made point (before ++ ty ∷ types))
      (λ a x. record {
        behind = x.behind;
        steps = steps_both z.program z.method z.locals z.fixed made point v.made g.behind a.made x.behind g.steps x.steps;
        holds = subst (ArgsHold x.behind a.made.free a.args) (append_assoc before (ty ∷ []) types) x.holds;
      }) _
      (arguments_give (given ++ arg ∷ []) ls rs all.1 (before ++ ty ∷ []) types real.1 (omega (arith, count)) q.1 v.made g.behind (ready_on z set made point v.made g.behind ready g.steps) held_v))

  args_do_fit : (point : Point) (free : ℕ) (args : List Arg) (types : List Type_) → free ≤ z.method.slots → ArgsHold point free args types → args_fit z.program z.method point args types ≡ true
  args_do_fit point free [] [] le held = refl
  args_do_fit point free [] (ty ∷ types) le held = absurd held
  args_do_fit point free (arg ∷ args) [] le held = absurd held
  args_do_fit point free (arg ∷ args) (ty ∷ types) le held =
      both_true (reads z.program z.method point arg.slot ty) _ (reads_held z.program z.method z.locals z.fixed point arg.slot free ty held.0 le held.1) (args_do_fit point free args types le held.2)

  no_argument : (point : Point) (free : ℕ) (args : List Arg) (types : List Type_) → ArgsHold point free args types → is_argument args free ≡ false
  no_argument point free [] [] held = refl
  no_argument point free [] (ty ∷ types) held = absurd held
  no_argument point free (arg ∷ args) [] held = absurd held
  no_argument point free (arg ∷ args) (ty ∷ types) held = both_false (arg.slot == free) (is_argument args free) (is_other arg.slot free held.0) (no_argument point free args types held.2)
    where
      is_other : (slot free : ℕ) → slot < free → (slot == free) ≡ false
      is_other slot free lt = grind (arith, nat_tests)

  -- what all calls have
  pub calls_fit : (made : Made) (point : Point) → Ready z made point → made.free < z.method.slots → (number class : ℕ) (receiver : Option ℕ) (args : List Arg) (span : Span) → number < length z.program.methods → is_class z.program class ≡ true
      → ArgsHold point made.free args (method_at z.program number).param_types
      → call_fits z.program z.method point (record { target = made.free; method = number; receiver = receiver; args = args; class = class; span = span }) ≡ true
  calls_fit made point ready lt number class receiver args span there is held =
      both_true (is_there z.program.methods number) _ (there_is number (length z.program.methods) there) (both_true (is_class z.program class) _ is
      (both_true (args_fit z.program z.method point args (method_at z.program number).param_types) _ (args_do_fit point made.free args (method_at z.program number).param_types (omega (arith, lt)) held)
      (both_true (is_target z.program z.method made.free) _ (new_target z set made point ready lt) (ap not (no_argument point made.free args (method_at z.program number).param_types held)))))

  -- a call with a result, or without one
  call_given : (made : Made) (point : Point) → Ready z made point → (o : Op) (ty : Type_) → is_super_call o.kind ≡ false → op_types z.program z.method z.locals point o o.kind ≡ (if is_void ty then point else assigned made.free ty point)
      → (made.free < z.method.slots → op_fits z.program z.method z.locals point o o.kind ≡ true) → Makes (Gives z.program z.method z.locals z.fixed z.avoided made point ty) (taking made (item.Do o))
  call_given made point ready o ty not_super types fits = by_void (is_void ty) refl types
    where
      no_type : (t : Type_) → is_void t ≡ true → is_type z.program t ≡ true → ⊥
      no_type type.Void e real = false≢true real
      no_type (type.Plain b) e real = false≢true e
      no_type (type.Array b depth claims) e real = false≢true e

      by_void : (b : Bool) → is_void ty ≡ b → op_types z.program z.method z.locals point o o.kind ≡ (if b then point else assigned made.free ty point) → Makes (Gives z.program z.method z.locals z.fixed z.avoided made point ty) (taking made (item.Do o))
      by_void true e types = op_leads_to z.program z.method z.locals z.fixed z.avoided made point point o ty (new_apart z set made.free ready.0) not_super (λ now. types) (keeps_none made.free point) (λ real. absurd (no_type ty e real)) (λ now. fits)
      by_void false e types = op_given z set made point ready o ty not_super types fits

  -- ---- calls of methods

  module _ (ls : List Lowering) (rs : List Reading) (all : AllFits ls rs) where
    -- the arguments of a call of a method that takes these
    pub given_args : (number : ℕ) (params : List (Option Type_)) → TakesTypes z.program z.scope.site number params → (span : Span) → Told z (reading.given_to z.names rs params span) → (made : Made) (point : Point) → Ready z made point
        → Makes (ArgsGive made point (method_at z.program number).param_types) (values.arguments_from [] ls z.scope made)
    given_args number params takes span said made point ready =
        let q = parted z (rules.wrong_arguments (length rs) (length params) span) (reading.arguments z.names rs params) said in
        let same = takes.same in
        let types = (method_at z.program number).param_types in
        let long = kept z (length rs == length params) rule.WrongArguments span q.0 in
        let count : length rs ≡ length types = equal (length rs) (length params) long ∙ ap (λ (l : List (Option Type_)). length l) (sym same) ∙ mapped types in
        arguments_give [] ls rs all [] types takes.types count (subst (λ (l : List (Option Type_)). Told z (reading.arguments z.names rs l)) (sym same) q.1) made point ready tt
      where
        mapped : (types : List Type_) → length (map (λ (t : Type_). Some t) types) ≡ length types
        mapped [] = refl
        mapped (ty ∷ types) = let a = mapped types in omega (arith, a)

    module _ (class : ℕ) (m : Callee) (is : MethodIs z.program z.scope.site class m) (object : Option Lowering) (span : Span) (said : Told z (reading.given_to z.names rs m.signature.params span)) where
      abbrev result : Type_
      result = (method_at z.program m.number).result

      static_yields : m.signature.is_static ≡ true → ((made : Made) (point : Point) → Ready z made point → Makes (Runs z.program z.method z.locals z.fixed made point) (values.unused_object object z.scope made))
          → Yields z result (λ scope made. values.static_call object m.number ls (head_at scope.site m.number).class span scope made)
      static_yields static unused made point ready =
          makes_then (Runs z.program z.method z.locals z.fixed made point) (Gives z.program z.method z.locals z.fixed z.avoided made point result) (values.unused_object object z.scope made) _ (unused made point ready)
          (λ before q.
          let ready_q = ready_on z set made point before q.behind ready q.steps in
          makes_then (ArgsGive before q.behind (method_at z.program m.number).param_types) (Gives z.program z.method z.locals z.fixed z.avoided made point result) (values.arguments_from [] ls z.scope before) _
          (given_args m.number m.signature.params is.takes span said before q.behind ready_q)
          (λ a x.
          let ready_a = ready_on z set before q.behind a.made x.behind ready_q x.steps in
          let head = head_at z.scope.site m.number in
          let call : CallOp = record { target = a.made.free; method = m.number; receiver = None; args = a.args; class = head.class; span = span } in
          value_after z.program z.method z.locals z.fixed z.avoided made point a.made x.behind result _ (steps_both z.program z.method z.locals z.fixed made point before q.behind a.made x.behind q.steps x.steps)
          (call_given a.made x.behind ready_a (record { kind = op.StaticCall call; span = span; parts = [] }) result refl refl
          (λ lt. both_true (static_fits z.program z.method x.behind call) true
          (both_true (call_fits z.program z.method x.behind call) _ (calls_fit a.made x.behind ready_a lt m.number head.class None a.args span is.takes.there is.head_class x.holds) (both_true (method_at z.program m.number).is_static true (is.static ∙ static) refl)) refl))))

      instance_yields : m.signature.is_static ≡ false → is_class z.program class ≡ true → values.object_class object z.scope ≡ class → Yields z (class_type class) (λ scope made. values.object_value object scope made)
          → Yields z result (λ scope made. values.instance_call object m.number ls span scope made)
      instance_yields static there same receiver made point ready =
          makes_then (Gives z.program z.method z.locals z.fixed z.avoided made point (class_type class)) (Gives z.program z.method z.locals z.fixed z.avoided made point result) (values.object_value object z.scope made) _ (receiver made point ready)
          (λ o q.
          let ready_q = ready_on z set made point o.made q.behind ready q.steps in
          makes_then (ArgsGive o.made q.behind (method_at z.program m.number).param_types) (Gives z.program z.method z.locals z.fixed z.avoided made point result) (values.arguments_from [] ls z.scope o.made) _
          (given_args m.number m.signature.params is.takes span said o.made q.behind ready_q)
          (λ a x.
          let ready_a = ready_on z set o.made q.behind a.made x.behind ready_q x.steps in
          let named = values.object_class object z.scope in
          let call : CallOp = record { target = a.made.free; method = m.number; receiver = Some o.slot; args = a.args; class = named; span = span } in
          let low : o.slot < a.made.free = (let lo = q.low in let up = x.steps.up in omega (arith, lo, up)) in
          let held : Holds z.program x.behind o.slot (class_type named) = subst (λ c. Holds z.program x.behind o.slot (class_type c)) (sym same)
          (holds_on z.program o.made.free q.behind x.behind o.slot (class_type class) q.low x.steps.keeps (q.holds there)) in
          value_after z.program z.method z.locals z.fixed z.avoided made point a.made x.behind result _ (steps_both z.program z.method z.locals z.fixed made point o.made q.behind a.made x.behind q.steps x.steps)
          (call_given a.made x.behind ready_a (record { kind = op.InstanceCall call; span = span; parts = [] }) result refl refl
          (λ lt.
          let calls = calls_fit a.made x.behind ready_a lt m.number named (Some o.slot) a.args span is.takes.there (ap (is_class z.program) same ∙ there) x.holds in
          let read = reads_held z.program z.method z.locals z.fixed x.behind o.slot a.made.free (class_type named) low (omega (arith, lt)) held in
          let receives : receiver_fits z.program z.method x.behind (Some o.slot) a.made.free named ≡ true =
          both_true (reads z.program z.method x.behind o.slot (class_type named)) _ read (ap not (is_other o.slot a.made.free low)) in
          let instance : (not (method_at z.program m.number).is_static) ≡ true = ap not (is.static ∙ static) in
          let no_constructor : (not (method_at z.program m.number).constructor) ≡ true = ap not is.constructor in
          let below : is_below z.program named (method_at z.program m.number).class ≡ true = ap (λ c. is_below z.program c (method_at z.program m.number).class) same ∙ is.below in
          both_true (instance_fits z.program z.method x.behind call) true
          (both_true (call_fits z.program z.method x.behind call) _ calls (both_true (receiver_fits z.program z.method x.behind (Some o.slot) a.made.free named) _ receives
          (both_true (not (method_at z.program m.number).is_static) _ instance (both_true (not (method_at z.program m.number).constructor) _ no_constructor below)))) refl))))
        where
          is_other : (slot free : ℕ) → slot < free → (slot == free) ≡ false
          is_other slot free lt = grind (arith, nat_tests)

      called_yields : ((made : Made) (point : Point) → Ready z made point → Makes (Runs z.program z.method z.locals z.fixed made point) (values.unused_object object z.scope made))
          → (m.signature.is_static ≡ false → (is_class z.program class ≡ true) × (values.object_class object z.scope ≡ class) × Yields z (class_type class) (λ scope made. values.object_value object scope made))
          → Yields z result (λ scope made. values.called (head_at scope.site m.number) object m.number ls span scope made)
      called_yields unused receiver made point ready = by_static (head_at z.scope.site m.number).is_static refl
        where
          by_static : (b : Bool) → (head_at z.scope.site m.number).is_static ≡ b
              → Makes (Gives z.program z.method z.locals z.fixed z.avoided made point result)
              (if b then values.static_call object m.number ls (head_at z.scope.site m.number).class span z.scope made else values.instance_call object m.number ls span z.scope made)
          by_static true e = static_yields (sym is.head_static ∙ e) unused made point ready
          by_static false e = let r = receiver (sym is.head_static ∙ e) in instance_yields (sym is.head_static ∙ e) r.0 r.1 r.2 made point ready

    -- ---- as expressions

    module _ (ident : Ident) (span : Span) (named : IsHere z (elsewhere ident)) where
      abbrev call_run : Option Lowering → Scope → Made → Within Value
      call_run object = λ scope made. values.called (head_at scope.site (values.method_number (meaning_at scope ident.span))) object (values.method_number (meaning_at scope ident.span)) ls ident.span scope made

      -- what is called is the method that the name means
      called_speaks : (class : ℕ) (m : Callee) → MethodIs z.program z.scope.site class m → (object : Option Lowering)
          → ((made : Made) (point : Point) → Ready z made point → Makes (Runs z.program z.method z.locals z.fixed made point) (values.unused_object object z.scope made))
          → (m.signature.is_static ≡ false → (is_class z.program class ≡ true) × (values.object_class object z.scope ≡ class) × Yields z (class_type class) (λ scope made. values.object_value object scope made))
          → Told z (reading.called z.names ident.span rs m).notes → Speaks z set m.signature.result (call_run object)
      called_speaks class m is object unused receiver said = record {
        ty = (method_at z.program m.number).result;
        typed = is.result;
        of_type = is.of_type;
        yields = λ made point ready.
            subst (λ o. Makes (Gives z.program z.method z.locals z.fixed z.avoided made point (method_at z.program m.number).result) (values.called (head_at z.scope.site (values.method_number o)) object (values.method_number o) ls ident.span z.scope made))
            (sym (said.0 named)) (called_yields class m is object ident.span said.1 unused receiver made point ready);
      }

      -- without a dot
      abbrev bare_reading : KindReading
      bare_reading = valued (λ s p. reading.bare_call s ident rs (method_named s.world s.class ident.text))

      bare_speaks : (o : Option Callee) → method_named z.names.world z.names.class ident.text ≡ o → Told z (reading.bare_call z.names ident rs o).notes → Speaks z set (reading.bare_call z.names ident rs o).ty (call_run None)
      bare_speaks None e said = absurd said.0
      bare_speaks (Some m) e said =
          let q = parted z (rules.not_static z.names m.signature.is_static ident.span) (reading.called z.names ident.span rs m).notes said in
          called_speaks z.names.class m (set.members.methods z.names.class ident.text m set.class_there e) None (λ made point ready. record { behind = point; steps = steps_none z.program z.method z.locals z.fixed made point })
          (λ static.
          let has = by_has z.names.has_object (ap (λ b. not z.names.has_object && not b) (sym static) ∙ unbroken z (not z.names.has_object && not m.signature.is_static) rule.NotStatic ident.span q.0) in (
            set.class_there,
            set.class,
            (λ made point ready. value_in_place z.program z.method z.locals z.fixed z.avoided made point 0 (class_type z.names.class)
                (let a = set.static has in let b = ready.0 in omega (arith, a, b)) (this_apart z set has) (λ real. this_held z set point has ready.1)),
          )) q.1
        where
          by_has : (b : Bool) → (not b && true) ≡ false → b ≡ true
          by_has true e = refl
          by_has false e = absurd (false≢true (sym e))

      pub bare_fits : Fits z (lowering_at z set (values.call None ident ls span) span) (reading_at z set bare_reading span)
      bare_fits = computes_fits z set span bare_reading (call_run None) refl refl (λ s at. refl) (λ said table. bare_speaks (method_named z.names.world z.names.class ident.text) refl said)

      -- behind a dot
      module _ (l : Lowering) (r : Reading) (f : Fits z l r) where
        abbrev dot_reading : KindReading
        dot_reading = valued (λ s p. reading.behind (r.receiver s).notes (reading.call_on s ident rs (r.receiver s).object))

        abbrev Unused : Type 0
        Unused = (made : Made) (point : Point) → Ready z made point → Makes (Runs z.program z.method z.locals z.fixed made point) (l.unused z.scope made)

        class_speaks : (class : ℕ) (o : Option Callee) → is_class z.program class ≡ true → method_named z.names.world class ident.text ≡ o → Unused → Told z (reading.class_call z.names ident rs o).notes
            → Speaks z set (reading.class_call z.names ident rs o).ty (call_run (Some l))
        class_speaks class None is e unused said = absurd said.0
        class_speaks class (Some m) is e unused said =
            let q = parted z (rules.not_static_in_class m.signature.is_static ident.span) (reading.called z.names ident.span rs m).notes said in
            called_speaks class m (set.members.methods class ident.text m is e) (Some l) unused (λ no. absurd (false≢true (sym no ∙ kept z m.signature.is_static rule.NotStatic ident.span q.0))) q.1

        object_speaks : (class : ℕ) (o : Option Callee) → is_class z.program class ≡ true → method_named z.names.world class ident.text ≡ o → Unused → z.scope.site.names.type_of r.span ≡ Some (class_type class) → Yields z (class_type class) l.value
            → Told z (reading.instance_call z.names ident rs o).notes → Speaks z set (reading.instance_call z.names ident rs o).ty (call_run (Some l))
        object_speaks class None is e unused table yields said = absurd said.0
        object_speaks class (Some m) is e unused table yields said =
            called_speaks class m (set.members.methods class ident.text m is e) (Some l) unused
            (λ no. (is, ap class_of (ap or_void (ap z.scope.site.names.type_of f.same ∙ table)), yields)) said

        by_object : (o : Object) → ReceiverIs z r.span l o → Unused → Told z (reading.call_on z.names ident rs o).notes → Speaks z set (reading.call_on z.names ident rs o).ty (call_run (Some l))
        by_object no_object is unused said = absurd is
        by_object (of_class class) is unused said = class_speaks class (method_named z.names.world class ident.text) is refl unused said
        by_object (value (type.Plain (base.Class class))) is unused said = object_speaks class (method_named z.names.world class ident.text) is.0 refl unused is.2 is.3 said
        by_object (value (type.Array b depth claims)) is unused said = absurd said.0
        by_object (value (type.Plain base.Int)) is unused said = absurd (false≢true is.1)
        by_object (value (type.Plain base.Bool)) is unused said = absurd (false≢true is.1)
        by_object (value type.Void) is unused said = absurd (false≢true is.1)

        pub dot_fits : Fits z (lowering_at z set (values.call (Some l) ident ls span) span) (reading_at z set dot_reading span)
        dot_fits = computes_fits z set span dot_reading (call_run (Some l)) refl refl (λ s at. refl)
            (λ said table.
            let q = parted z (r.receiver z.names).notes (reading.call_on z.names ident rs (r.receiver z.names).object).notes said in
            by_object (r.receiver z.names).object (f.receiver q.0) (f.unused q.0) q.1)

      -- ---- new objects

      new_yields : (class : ℕ) → is_class z.program class ≡ true → ConstructorIs z.program z.scope.site class (constructor_params z.names.world class) → Told z (reading.given_to z.names rs (constructor_params z.names.world class) ident.span)
          → Yields z (class_type class) (λ scope made. values.arguments_from [] ls scope made >>= (λ given. values.calling op.NewObject (constructor_at scope.site class) None class span given))
      new_yields class there is said made point ready =
          let number = constructor_at z.scope.site class in
          makes_then (ArgsGive made point (method_at z.program number).param_types) (Gives z.program z.method z.locals z.fixed z.avoided made point (class_type class)) (values.arguments_from [] ls z.scope made) _
          (given_args number (constructor_params z.names.world class) is.takes ident.span said made point ready)
          (λ a x.
          let ready_a = ready_on z set made point a.made x.behind ready x.steps in
          let call : CallOp = record { target = a.made.free; method = number; receiver = None; args = a.args; class = class; span = span } in
          value_after z.program z.method z.locals z.fixed z.avoided made point a.made x.behind (class_type class) _ x.steps
          (op_given z set a.made x.behind ready_a (record { kind = op.NewObject call; span = span; parts = [] }) (class_type class) refl refl
          (λ lt.
          let calls = calls_fit a.made x.behind ready_a lt number class None a.args span is.takes.there there x.holds in
          let same : ((method_at z.program number).class == class) ≡ true = ap (λ c. c == class) is.of_class ∙ is_itself class in
          both_true (new_fits z.program z.method x.behind call) true
          (both_true (call_fits z.program z.method x.behind call) _ calls (both_true (method_at z.program number).constructor _ is.constructor (both_true ((method_at z.program number).class == class) true same refl))) refl)))

      abbrev new_reading : KindReading
      new_reading = valued (λ s p. reading.creation s ident rs (s.world.class ident.text))

      creation_speaks : (o : Option ℕ) → z.names.world.class ident.text ≡ o → Told z (reading.creation z.names ident rs o).notes → Speaks z set (reading.creation z.names ident rs o).ty (values.new_object ident ls span).value
      creation_speaks None e said = absurd said.0
      creation_speaks (Some class) e said =
          let there = set.members.classes ident.text class e in
          record {
            ty = class_type class;
            typed = refl;
            of_type = there;
            yields = λ made point ready.
                subst (λ o. Makes (Gives z.program z.method z.locals z.fixed z.avoided made point (class_type class))
                (values.arguments_from [] ls z.scope made >>= (λ given. values.calling op.NewObject (constructor_at z.scope.site (values.class_number o)) None (values.class_number o) span given)))
                (sym (said.0 named)) (new_yields class there (set.members.constructors class there) said.1 made point ready);
          }

      pub new_fits_too : Fits z (lowering_at z set (values.new_object ident ls span) span) (reading_at z set new_reading span)
      new_fits_too = computes_fits z set span new_reading (values.new_object ident ls span).value refl refl (λ s at. refl) (λ said table. creation_speaks (z.names.world.class ident.text) refl said)
