-- Bytes and errors have one guarded text.
use Rattle.std.proofs.Common.{◌≡◌, ℕ, List, sym, ap, subst, ◌∙◌}
use Rattle.ix_core.specs.declared.error.Error.{Error}
use Rattle.ix_tree.specs.declared.decl.Unit.{Unit as Source}
use Rattle.ix_grammar.specs.Refusals.{HasTree}
use Rattle.ix_parser.proofs.Laws.{one_tree}
use Rattle.ix_guard_text.proofs.DerivedAnswers.{one_lexing}
use Rattle.ix_guard_text.specs.Guarding.{IsGuarded, guarded_by}

pub one_guarded : (bytes : List ℕ) (errors : List Error) (one other : List ℕ) → IsGuarded bytes errors one → IsGuarded bytes errors other → one ≡ other
one_guarded bytes errors one other a b =
    let tokens : a.named.tokens ≡ b.named.tokens = one_lexing bytes a.named.tokens b.named.tokens a.named.lexed b.named.lexed in
    let source : a.named.tree.source ≡ b.named.tree.source = one_tree b.named.tokens a.named.tree.source b.named.tree.source (subst (λ ts. HasTree ts a.named.tree.source) tokens a.named.tree.parsed) b.named.tree.parsed in
    a.text_is ∙ ap (λ (s : Source). guarded_by bytes s errors) source ∙ sym b.text_is
