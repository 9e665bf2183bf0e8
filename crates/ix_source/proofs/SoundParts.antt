-- An expression at a place that needs a type is used: it is sound, and has a value.
use Rattle.std.proofs.Common.{◌≡◌, Bool, true, false, List, [], ◌∷◌, map, length, Option, Some, refl, sym, ap, subst, ◌∙◌, arith}
use Rattle.std.specs.Prelude.{not, ◌==◌}
use Rattle.std.proofs.lemmas.Bool.{false≢true}
use Rattle.ix_text.specs.declared.span.Span.{Span}
use Rattle.ix_core.specs.declared.claim.Type_.{Type_}
use Rattle.ix_core.specs.declared.claim.Type_.TheVariants as type
use Rattle.ix_core.specs.declared.program.Program.{Program}
use Rattle.ix_core.specs.Types.{is_void, is_type}
use Rattle.ix_core.proofs.Cases.{equal}
use Rattle.ix_meaning.specs.declared.note.Rule.TheVariants as rule
use Rattle.ix_meaning.specs.Rules as rules
use Rattle.ix_meaning.specs.Types.{of, type_note}
use Rattle.ix_meaning.specs.Values as reading
use Rattle.ix_meaning.specs.Values.{Reading, KindReading, Received, as_object, object_notes, no_reference, check}
use Rattle.ix_plain.specs.Scope.{type_at, or_void}
use Rattle.ix_plain.specs.Values.{Lowering}
use Rattle.ix_formed.specs.Additions.{AllOf}
use Rattle.ix_formed.specs.Typed as typed
use Rattle.ix_formed.specs.Typed.{Told, TakesTypes, Fits}
use Rattle.ix_formed.proofs.NumberLists.{both_true}
use Rattle.ix_formed.proofs.TypedChecks.{parted, kept, tabled, Tabled, check_fits, reading_at}
use Rattle.ix_source.specs.Along.{Setting}
use Rattle.ix_source.specs.Sound.{Soundness, used, all_used}
use Rattle.ix_source.specs.WellNamed.{View, viewed, IsSound}

pub no_void : (p : Program) (ty : Type_) → is_type p ty ≡ true → is_void ty ≡ false
no_void p type.Void real = absurd (false≢true real)
no_void p (type.Plain b) real = refl
no_void p (type.Array b depth claims) real = refl

module _ (y : typed.Setting) (set : typed.IsSet y) (v : View) where
  abbrev z : Setting
  z = viewed y v

  -- an expression with a type of the program
  pub used_is : (s : Soundness) (span : Span) → s.span ≡ span → s.value z ≡ true → (ty : Type_) → y.scope.site.names.type_of span ≡ Some ty → is_type y.program ty ≡ true → used s z ≡ true
  used_is s span same sound ty table real =
      both_true (s.value z) _ sound (ap not (ap (λ at. is_void (type_at y.scope at)) same ∙ ap (λ o. is_void (or_void o)) table ∙ no_void y.program ty real))

  -- what stands where a type is needed is used
  pub check_used : (l : Lowering) (r : Reading) (s : Soundness) → Fits y l r → IsSound y v s r → (need : Type_) → is_type y.program need ≡ true → Told y (check r y.names (of need)).notes → used s z ≡ true
  check_used l r s f k need real said =
      let c = check_fits y set l r f need real said in
      used_is s r.span k.span (by_null r.is_null refl c.judged) c.ty c.table c.real
    where
      by_null : (b : Bool) → r.is_null ≡ b → (r.is_null ≡ false → ((r.judge y.names).ty ≡ Some (check_fits y set l r f need real said).ty) × Told y (r.judge y.names).notes) → s.value z ≡ true
      by_null true e judged = k.null e
      by_null false e judged = k.value (judged e).1

  -- ---- arguments

  abbrev pub AllAre : List Lowering → List Reading → List Soundness → Type 0
  AllAre [] [] [] = Unit {0}
  AllAre (l ∷ ls) (r ∷ rs) (s ∷ ss) = (Fits y l r × IsSound y v s r) × AllAre ls rs ss
  AllAre _ _ _ = ⊥

  arguments_used : (ls : List Lowering) (rs : List Reading) (ss : List Soundness) → AllAre ls rs ss → (types : List Type_) → AllOf (λ ty. is_type y.program ty ≡ true) types → length rs ≡ length types
      → Told y (reading.arguments y.names rs (map (λ t. Some t) types)) → all_used ss z ≡ true
  arguments_used [] [] [] all types real count said = refl
  arguments_used (l ∷ ls) (r ∷ rs) (s ∷ ss) all [] real count said = absurd (omega (arith, count))
  arguments_used (l ∷ ls) (r ∷ rs) (s ∷ ss) all (ty ∷ types) real count said =
      let q = parted y (check r y.names (of ty)).notes (reading.arguments y.names rs (map (λ t. Some t) types)) said in
      both_true (used s z) _ (check_used l r s all.0.0 all.0.1 ty real.0 q.0) (arguments_used ls rs ss all.1 types real.1 (omega (arith, count)) q.1)
  arguments_used _ _ _ all types real count said = absurd all

  -- the arguments of a method or constructor
  pub given_used : (ls : List Lowering) (rs : List Reading) (ss : List Soundness) → AllAre ls rs ss → (number : _) (params : List (Option Type_)) → TakesTypes y.program y.scope.site number params → (span : Span) → Told y (reading.given_to y.names rs params span) → all_used ss z ≡ true
  given_used ls rs ss all number params takes span said =
      let q = parted y (rules.wrong_arguments (length rs) (length params) span) (reading.arguments y.names rs params) said in
      let same = takes.same in
      let types = (Rattle.ix_core.specs.Tables.method_at y.program number).param_types in
      let long = kept y (length rs == length params) rule.WrongArguments span q.0 in
      let count : length rs ≡ length types = equal (length rs) (length params) long ∙ ap (λ (l : List (Option Type_)). length l) (sym same) ∙ mapped types in
      arguments_used ls rs ss all types takes.types count (subst (λ (l : List (Option Type_)). Told y (reading.arguments y.names rs l)) (sym same) q.1)
    where
      mapped : (types : List Type_) → length (map (λ (t : Type_). Some t) types) ≡ length types
      mapped [] = refl
      mapped (ty ∷ types) = let a = mapped types in omega (arith, a)

  -- ---- what an expression says at its place

  -- an expression that computes a value, and is no `null`
  pub computed_sound : (span : Span) (k : KindReading) (s : Soundness) → s.span ≡ span → ((at : Setting) → s.unused at ≡ s.value at) → k.is_null ≡ false
      → (k.receiver y.names span ≡ as_object (k.judge y.names span) span) → (Told y (k.judge y.names span).notes → Tabled y span (k.judge y.names span).ty → s.value z ≡ true) → IsSound y v s (reading_at y set k span)
  computed_sound span k s same unused no_null receives sound = record {
    span = same;
    value = λ said. let a = parted y (k.judge y.names span).notes (type_note (k.judge y.names span).ty span) said in sound a.0 (tabled y span (k.judge y.names span).ty a.1);
    null = λ e. absurd (false≢true (sym no_null ∙ e));
    unused = λ said. unused z ∙ behind said;
    object = λ ty said e. behind said;
  }
    where
      behind : Told y (k.receiver y.names span).notes → s.value z ≡ true
      behind said =
          let j = k.judge y.names span in
          let a = parted y j.notes (object_notes j.ty span) (subst (λ (o : Received). Told y o.notes) receives said) in
          sound a.0 (tabled y span j.ty (parted y (type_note j.ty span) (no_reference j.ty span) a.1).0)
