-- The facts that code puts together behind a rule are those of the rule.
use Rattle.std.specs.Prelude.{◌≡◌, List, ◌++◌}
use Rattle.std.proofs.Common.{sym, subst}
use Rattle.ix_core.specs.declared.claim.Type_.{Type_}
use Rattle.ix_core.specs.declared.fact.Path.{Path}
use Rattle.ix_core.specs.declared.fact.Profile.{Profile}
use Rattle.ix_core.specs.declared.op.OpKind.{OpKind}
use Rattle.ix_core.specs.declared.fact.Fact.{Fact}
use Rattle.ix_facts.specs.AfterTest.{Outcome, outcome_facts}
use Rattle.ix_facts.specs.After.{of_target, beside_target}
use Rattle.ix_facts.specs.Closure.{kept}
use Rattle.ix_facts.specs.Facts.{in_orders}
use Rattle.ix_facts.specs.Forget.{of_path, without}
use Rattle.ix_facts.specs.Stores.{Stored, Reached, IsStoreOf, IsGiven, operated, with_copy, with_outcome}
use Rattle.ix_facts.specs.Systems.{HaveClasses}
use Rattle.ix_facts.proofs.ClassesStay.{after_classes, copy_classes}
use Rattle.ix_facts.proofs.Frame.{in_without}
use Rattle.ix_facts.specs.SameFacts.{AreSame}
use Rattle.ix_facts.proofs.Members.{same_itself, same_equal, same_trans, same_app}
use Rattle.ix_store.specs.NewFacts.{after_new, copy_new}
use Rattle.ix_store.proofs.SameStores.{same_store, same_classes}
use Rattle.ix_store.proofs.ClassesAfter.{told_classes}

-- The store behind a rule is the closed store of any list that has the facts that the rule gives.
pub given_by : (rule : List Fact → List Fact) (before after : Stored) (known all : List Fact) → before ≡ Reached known → AreSame all (rule known) → IsStoreOf all after → IsGiven rule before after
given_by rule before after known all is same made = subst (λ s. IsGiven rule s after) (sym is) (same_store all (rule known) after same made)

-- ---- an operation

pub after_is : (known rest new all : List Fact) (profile : Profile) (kind : OpKind) → rest ≡ without (of_target kind) known → AreSame new (after_new (in_orders rest) profile kind) → all ≡ rest ++ new → AreSame all (operated profile kind known)
after_is known rest new all profile kind is same made =
    same_trans all (rest ++ new) (operated profile kind known) (same_equal all (rest ++ new) made)
    (same_app rest new (without (of_target kind) known) (after_new (beside_target kind known) profile kind) (same_equal rest (without (of_target kind) known) is) (subst (λ l. AreSame new (after_new (in_orders l) profile kind)) is same))

pub after_have : (known all : List Fact) (profile : Profile) (kind : OpKind) → AreSame all (operated profile kind known) → HaveClasses known → HaveClasses all
after_have known all profile kind same have = same_classes all (operated profile kind known) same (after_classes known profile kind have)

-- ---- a copy

pub copy_is : (known rest new all : List Fact) (ty : Type_) (t s : Path) → rest ≡ without (of_path t) known → AreSame new (copy_new rest ty t s) → all ≡ rest ++ new → AreSame all (with_copy ty t s known)
copy_is known rest new all ty t s is same made =
    same_trans all (rest ++ new) (with_copy ty t s known) (same_equal all (rest ++ new) made)
    (same_app rest new (without (of_path t) known) (copy_new (without (of_path t) known) ty t s) (same_equal rest (without (of_path t) known) is) (subst (λ l. AreSame new (copy_new l ty t s)) is same))

pub without_have : (t : Path) (known : List Fact) → HaveClasses known → HaveClasses (without (of_path t) known)
without_have t known have f i = have f (in_without (of_path t) f known i).0

pub copy_have : (known all : List Fact) (ty : Type_) (t s : Path) → AreSame all (with_copy ty t s known) → HaveClasses known → HaveClasses all
copy_have known all ty t s same have = same_classes all (with_copy ty t s known) same (copy_classes (without (of_path t) known) ty t s (without_have t known have))

-- ---- an outcome

pub told_is : (known list new all : List Fact) (outcome : Outcome) → list ≡ known → AreSame new (kept (outcome_facts (in_orders list) outcome)) → all ≡ list ++ new → AreSame all (with_outcome outcome known)
told_is known list new all outcome is same made =
    subst (λ l. AreSame all (with_outcome outcome l)) is
    (same_trans all (list ++ new) (with_outcome outcome list) (same_equal all (list ++ new) made) (same_app list new list (kept (outcome_facts (in_orders list) outcome)) (same_itself list) same))

pub told_have : (known all : List Fact) (outcome : Outcome) → AreSame all (with_outcome outcome known) → HaveClasses known → HaveClasses all
told_have known all outcome same have = same_classes all (with_outcome outcome known) same (told_classes known outcome have)
