-- The guarded text of bytes derives their tree with the tests, up to places.
use Rattle.std.proofs.Common.{ℕ, List, refl, sym, subst}
use Rattle.ix_core.specs.declared.error.Error.{Error}
use Rattle.ix_guard_text.specs.Derived.{Derives}
use Rattle.ix_guard_text.proofs.GuardedSources.{guarded_derives}
use Rattle.ix_guard_text.specs.Guarding.{IsGuarded, IsNamed, guarded_by, tree_by}
use Rattle.ix_guard_text.proofs.OneGuardedText.{one_guarded}

pub text_derives : (bytes : List ℕ) (errors : List Error) (text : List ℕ) → IsGuarded bytes errors text → (named : IsNamed bytes) → Derives text (tree_by named errors)
text_derives bytes errors text is named =
    let other : IsGuarded bytes errors (guarded_by bytes named.tree.source errors) = record { named = named; text_is = refl } in
    let same = one_guarded bytes errors text (guarded_by bytes named.tree.source errors) is other in
    subst (λ (b : List ℕ). Derives b (tree_by named errors)) (sym same) (guarded_derives bytes named.tokens named.tree.source errors named.lexed named.tree.parsed)
