-- Tables and the answers of systems, in the order of what facts say.
use Rattle.std.specs.Prelude.{◌≡◌, Bool, ℤ, List, [], ◌∷◌, ◌++◌, refl}
use Rattle.std.proofs.Common.{ap, ⊎_elim}
use Rattle.ix_core.specs.declared.claim.Type_.{Type_}
use Rattle.ix_core.specs.declared.fact.Path.{Path}
use Rattle.ix_core.specs.declared.fact.PathOff.TheVariants.{Plus}
use Rattle.ix_core.specs.declared.fact.Fact.{Fact}
use Rattle.ix_core.specs.declared.fact.Fact.TheVariants.{Rng, LenRng, Same, Sum, Upper}
use Rattle.ix_core.specs.declared.fact.Profile.{Profile}
use Rattle.ix_core.specs.declared.op.OpKind.{OpKind}
use Rattle.ix_core.proofs.Cases.{by_test}
use Rattle.ix_facts.specs.Facts.{IsIn, Covers, in_orders}
use Rattle.ix_facts.specs.Closure.{Said, SaysAll, kept}
use Rattle.ix_facts.specs.Forget.{of_path, names, without}
use Rattle.ix_facts.specs.AfterOperation.{HasExact, copied}
use Rattle.ix_facts.specs.After.{of_target, finished_by, finished, beside_target, kept_new}
use Rattle.ix_facts.specs.Round.{rounded_fact}
use Rattle.ix_facts.specs.declared.kind.Kind.{Kind}
use Rattle.ix_facts.specs.Kinds.{of_kind}
use Rattle.ix_facts.specs.Systems.{Merges, given, weaker, any_int, any_size, met, len_met, turned, sum_turned, upper_turned, IsTable, system_after, system_copy, system_rounded, system_added}
use Rattle.ix_facts.proofs.AfterLaws.{finished_by_mono, finished_mono}
use Rattle.ix_facts.proofs.ClosureLaws.{kept_stronger}
use Rattle.ix_facts.proofs.FactLists.{stronger_app, stronger_one}
use Rattle.ix_facts.proofs.Frame.{in_without}
use Rattle.ix_facts.proofs.OperationsMonotone.{new_facts_mono}
use Rattle.ix_facts.proofs.RoundLaws.{each_weaker}
use Rattle.ix_facts.proofs.RulesMonotone.{copied_mono}
use Rattle.ix_facts.proofs.SaidLaws.{says_stronger, listed_says, says_app, without_says, each_says, said_itself}
use Rattle.ix_facts.proofs.SaidRules.{round_by_fact}
use Rattle.ix_facts.proofs.SystemLaws.{kind_stronger, default_merges, in_orders_merges}

said_merges : (facts table : List Fact) → ((f : Fact) → IsIn f table → Merges facts f) → (f : Fact) → Said table f → Merges facts f
said_merges facts table k f said = ⊎_elim (λ d. default_merges facts f d) (λ x. weaker x.0 f x.2 (in_orders_merges facts table k x.0 x.1)) said

module _ (facts others : List Fact) (k : (f : Fact) → IsIn f others → Merges facts f) where
  merges_from : (f : Fact) → Merges others f → Merges facts f
  merges_from _ (given f i) = k f i
  merges_from _ (weaker g f c r) = weaker g f c (merges_from g r)
  merges_from _ (any_int p) = any_int p
  merges_from _ (any_size a) = any_size a
  merges_from _ (met p l h m n r t) = met p l h m n (merges_from (Rng p l h) r) (merges_from (Rng p m n) t)
  merges_from _ (len_met a l h m n r t) = len_met a l h m n (merges_from (LenRng a l h) r) (merges_from (LenRng a m n) t)
  merges_from _ (turned a b r) = turned a b (merges_from (Same a b) r)
  merges_from _ (sum_turned t y z r) = sum_turned t y z (merges_from (Sum t y z) r)
  merges_from _ (upper_turned p a q c r) = upper_turned p a q c (merges_from (Upper p a (Plus q) c) r)

merges_says : (strong weak : List Fact) → SaysAll strong weak → (f : Fact) → Merges weak f → Merges strong f
merges_says strong weak s = merges_from strong weak (λ f i. said_merges strong strong (λ g j. given g j) f (s f (said_itself weak f i)))

pub table_says : (strong weak table other : List Fact) → SaysAll strong weak → IsTable strong table → IsTable weak other → SaysAll table other
table_says strong weak table other s is also f said = is.says f (merges_says strong weak s f (said_merges weak other also.only f said))

-- ---- systems

pub system_says : (own : Kind) (known more table other : List Fact) (profile : Profile) (kind : OpKind) → SaysAll known more → SaysAll table other
    → HasExact (beside_target kind known) kind → SaysAll (system_after own known table profile kind) (system_after own more other profile kind)
system_says own known more table other profile kind s t some =
    let beside = says_stronger (without (of_target kind) known) (without (of_target kind) more) (without_says (of_target kind) known more s) in
    let new = kept_stronger _ _ (new_facts_mono (beside_target kind known) (beside_target kind more) beside profile kind some) in
    let rest = kept_stronger _ _ (finished_mono (beside_target kind known) (beside_target kind more) (kept_new (beside_target kind known) profile kind) (kept_new (beside_target kind more) profile kind) beside new kind) in
    let first = of_kind own (kept_new (beside_target kind known) profile kind ++ kept (finished (beside_target kind known) (kept_new (beside_target kind known) profile kind) kind)) in
    let second = of_kind own (kept_new (beside_target kind more) profile kind ++ kept (finished (beside_target kind more) (kept_new (beside_target kind more) profile kind) kind)) in
    says_app (without (of_target kind) table) first (without (of_target kind) other) second (without_says (of_target kind) table other t) (listed_says first second (kind_stronger own _ _ (stronger_app _ _ _ _ new rest)))

pub system_copy_says : (own : Kind) (known more table other : List Fact) (ty : Type_) (t s : Path) → SaysAll known more → SaysAll table other
    → SaysAll (system_copy own known table ty t s) (system_copy own more other ty t s)
system_copy_says own known more table other ty t p s u =
    let strong = in_orders (without (of_path t) known) in
    let weak = in_orders (without (of_path t) more) in
    let beside = says_stronger (without (of_path t) known) (without (of_path t) more) (without_says (of_path t) known more s) in
    let new = kept_stronger _ _ (copied_mono (in_orders (without (of_path t) known)) (in_orders (without (of_path t) more)) beside ty t p) in
    let rest = kept_stronger _ _ (finished_by_mono (in_orders (without (of_path t) known)) (in_orders (without (of_path t) more)) (kept (copied (in_orders (without (of_path t) known)) ty t p)) (kept (copied (in_orders (without (of_path t) more)) ty t p)) beside new ty t) in
    let first = of_kind own (kept (copied strong ty t p) ++ kept (finished_by ty strong (kept (copied strong ty t p)) t)) in
    let second = of_kind own (kept (copied weak ty t p) ++ kept (finished_by ty weak (kept (copied weak ty t p)) t)) in
    says_app (without (of_path t) table) first (without (of_path t) other) second (without_says (of_path t) table other u) (listed_says first second (kind_stronger own _ _ (stronger_app _ _ _ _ new rest)))

pub system_round_says : (marks : List ℤ) (table other : List Fact) → SaysAll table other → SaysAll (system_rounded marks table) (system_rounded marks other)
system_round_says marks table other s = each_says (rounded_fact marks) (round_by_fact marks) table other s

pub system_round_weaker : (marks : List ℤ) (table : List Fact) → SaysAll table (system_rounded marks table)
system_round_weaker marks table = listed_says table (system_rounded marks table) (each_weaker marks table)

pub system_add_says : (own : Kind) (table other : List Fact) (strong weak : Fact) → SaysAll table other → Covers strong weak
    → SaysAll (system_added own table strong) (system_added own other weak)
system_add_says own table other strong weak s c =
    let first = of_kind own (kept (strong ∷ [])) in
    let second = of_kind own (kept (weak ∷ [])) in
    says_app table first other second s (listed_says first second (kind_stronger own (kept (strong ∷ [])) (kept (weak ∷ [])) (kept_stronger (strong ∷ []) (weak ∷ []) (stronger_one strong weak c))))

pub without_weaker : (is : Path → Bool) (facts : List Fact) → SaysAll facts (without is facts)
without_weaker is facts = listed_says facts (without is facts) (record { met = λ f i. (f, (in_without is f facts i).0, Rattle.ix_facts.proofs.FactLists.covers_itself f) })

pub without_twice : (is : Path → Bool) (facts : List Fact) → without is (without is facts) ≡ without is facts
without_twice is [] = refl
without_twice is (f ∷ facts) = by_test (names is f) (λ t. rw t (without_twice is facts)) (λ t. rw (t, t) (ap (λ l. f ∷ l) (without_twice is facts)))
