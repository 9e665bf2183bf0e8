-- The call of the parent's constructor, with which a constructor begins, fits, and `this` is known behind it.
use Rattle.std.proofs.Common.{◌≡◌, ◌≤◌, ◌<◌, ℕ, ◌+◌, Bool, true, false, List, [], ◌∷◌, ◌++◌, length, Some, Ok, Err, refl, sym, ap, subst, ◌∙◌, arith, append_assoc}
use Rattle.std.specs.Prelude.{if◌then◌else◌, ◌&&◌, nat_lt, ◌==◌}
use Rattle.ix_text.specs.declared.span.Span.{Span}
use Rattle.ix_core.specs.declared.claim.Type_.{Type_}
use Rattle.ix_core.specs.declared.code.Item.{Item}
use Rattle.ix_core.specs.declared.code.Item.TheVariants as item
use Rattle.ix_core.specs.declared.op.CallOp.{CallOp}
use Rattle.ix_core.specs.declared.op.Op.{Op}
use Rattle.ix_core.specs.declared.op.OpKind.TheVariants as op
use Rattle.ix_core.specs.Formed.{assigned, call_fits, super_fits, is_this, is_parent}
use Rattle.ix_core.specs.Tables.{class_at, method_at}
use Rattle.ix_core.specs.Types.{Point, class_type, is_class}
use Rattle.ix_meaning.specs.declared.note.Which.TheVariants as which
use Rattle.ix_meaning.specs.Members.{constructor_params}
use Rattle.ix_meaning.specs.Values as reading
use Rattle.ix_meaning.specs.Values.{Reading}
use Rattle.ix_plain.specs.declared.made.Made.{Made}
use Rattle.ix_plain.specs.Scope.{constructor_at}
use Rattle.ix_plain.specs.Parts.{◌>>=◌, Value, most_slots}
use Rattle.ix_plain.specs.Values as values
use Rattle.ix_plain.specs.Values.{Lowering}
use Rattle.ix_formed.specs.Additions.{Makes}
use Rattle.ix_formed.specs.Points.{Known, Keeps, Leads}
use Rattle.ix_formed.specs.Typed.{Setting, IsSet, Told, Ready, ConstructorIs}
use Rattle.ix_formed.proofs.NumberLists.{both_true, is_itself}
use Rattle.ix_formed.proofs.PlainItems.{makes_then}
use Rattle.ix_formed.proofs.TypedCalls.{AllFits, ArgsGive, given_args, calls_fit}
use Rattle.ix_formed.proofs.TypedPoints.{assigned_known, assigned_keeps, leads_both, op_leads}
use Rattle.ix_formed.proofs.TypedSteps.{ready_on}

module _ (z : Setting) (set : IsSet z) where
  -- behind the call `this` is known, and what was
  pub record SuperGives (made : Made) (point : Point) (v : Value) : Type 0 where
    pub items : List Item
    pub appended : v.made.items ≡ made.items ++ items
    pub up : made.free ≤ v.made.free
    pub behind : Point
    pub leads : z.fixed → v.made.free ≤ z.method.slots → Leads z.program z.method z.locals items point behind
    pub keeps : Keeps made.free point behind
    pub this : Known behind 0 (class_type z.method.class)

  module _ (ls : List Lowering) (rs : List Reading) (all : AllFits z set ls rs) where
    pub super_gives : (above : ℕ) → is_class z.program above ≡ true → ConstructorIs z.program z.scope.site above (constructor_params z.names.world above) → z.method.constructor ≡ true
        → (class_at z.program z.method.class).parent ≡ Some above → (at span : Span) → Told z (reading.given_to z.names rs (constructor_params z.names.world above) at) → (made : Made) (point : Point) → Ready z made point
        → ((ty : Type_) → Known point 0 ty → ⊥)
        → Makes (SuperGives made point) (values.arguments_from [] ls z.scope made >>= values.calling op.SuperCall (constructor_at z.scope.site above) (Some 0) above span)
    super_gives above there is constructor parent at span said made point ready unknown =
        let number = constructor_at z.scope.site above in
        makes_then (ArgsGive z set made point (method_at z.program number).param_types) (SuperGives made point) (values.arguments_from [] ls z.scope made) _
        (given_args z set ls rs all number (constructor_params z.names.world above) is.takes at said made point ready)
        (λ a x.
        let ready_a = ready_on z set made point a.made x.behind ready x.steps in
        let call : CallOp = record { target = a.made.free; method = number; receiver = Some 0; args = a.args; class = above; span = span } in
        let o : Op = record { kind = op.SuperCall call; span = span; parts = [] } in
        let below : is_parent (class_at z.program z.method.class).parent (method_at z.program number).class ≡ true =
        ap (λ p. is_parent p (method_at z.program number).class) parent ∙ ap (λ c. above == c) is.of_class ∙ is_itself above in
        let fits : a.made.free < z.method.slots → (super_fits z.program z.method x.behind call && (length {A = Span} [] == 0)) ≡ true = (λ lt.
        both_true (super_fits z.program z.method x.behind call) true
        (both_true (call_fits z.program z.method x.behind call) _ (calls_fit z set a.made x.behind ready_a lt number above (Some 0) a.args span is.takes.there there x.holds)
        (both_true (is_this call.receiver) _ refl (both_true z.method.constructor _ constructor (both_true (method_at z.program number).constructor _ is.constructor below)))) refl) in
        taken (nat_lt a.made.free most_slots) a x call o refl fits)
      where
        taken : (b : Bool) (a : values.Arguments) (x : ArgsGive z set made point (method_at z.program (constructor_at z.scope.site above)).param_types a) (call : CallOp) (o : Op) → o ≡ record { kind = op.SuperCall call; span = span; parts = [] }
            → (a.made.free < z.method.slots → (super_fits z.program z.method x.behind call && (length {A = Span} [] == 0)) ≡ true)
            → Makes (SuperGives made point) (if b then Ok (record { made = record { items = a.made.items ++ item.Do o ∷ []; free = a.made.free + 1 }; slot = a.made.free }) else Err which.Slots)
        taken false a x call o same fits = tt
        taken true a x call o same fits =
            let done : Op = record { kind = op.SuperCall call; span = span; parts = [] } in
            record {
              items = x.steps.items ++ item.Do o ∷ [];
              appended = ap (λ (l : List Item). l ++ item.Do o ∷ []) x.steps.appended ∙ append_assoc made.items x.steps.items (item.Do o ∷ []);
              up = let u = x.steps.up in omega (arith, u);
              behind = assigned 0 (class_type z.method.class) x.behind;
              leads = λ now le.
                  leads_both z.program z.method z.locals x.steps.items (item.Do o ∷ []) point x.behind (assigned 0 (class_type z.method.class) x.behind) (x.steps.leads now (omega (arith, le)))
                  (subst (λ (o : Op). Leads z.program z.method z.locals (item.Do o ∷ []) x.behind (assigned 0 (class_type z.method.class) x.behind)) (sym same)
                  (op_leads z.program z.method z.locals done x.behind (fits (omega (arith, le)))));
              keeps = λ slot lt ty known. assigned_keeps 0 (class_type z.method.class) x.behind slot ty (λ e. absurd (unknown ty (subst (λ n. Known point n ty) e known))) (x.steps.keeps slot lt ty known);
              this = assigned_known 0 (class_type z.method.class) x.behind;
            }
