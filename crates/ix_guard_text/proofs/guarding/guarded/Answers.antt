use Rattle.std.proofs.Common.{◌≡◌, ◌∙◌, List, sym, subst}
use Rattle.std.specs.Prelude.{IfOk}
use Rattle.std.proofs.lemmas.Result.{IfOk-weaker}
use Rattle.ix_lexer.specs.declared.token.Token.{Token}
use Rattle.ix_guard_text.specs.Guarding.{HaveNamedTree, IsGuarded, guarded_by}
use Rattle.ix_guard_text.proofs.DerivedGuards.{text_derives}
use Rattle.ix_guard_text.proofs.guarding.guarded.Goals as goal

pub of_tokens-requires-clause-tree : goal.of_tokens-requires-clause-tree
of_tokens-requires-clause-tree c =
    let named = c.requires.named in
    subst HaveNamedTree (sym (c.deref.ensures.value ∙ c.in-Ok.ensures.only_tokens named.tokens named.lexed named.few)) named.tree

made : (c : goal.After-drop-tokens) → IfOk c.of_tokens.result (λ text. IsGuarded c.args.bytes.now c.args.errors.now text.items)
made c =
    let named = c.requires.named in
    let same : c.deref.result.now ≡ named.tokens = c.deref.ensures.value ∙ c.in-Ok.ensures.only_tokens named.tokens named.lexed named.few in
    let written =
    subst (λ (tokens : List Token). (tree : HaveNamedTree tokens) → IfOk c.of_tokens.result (λ text. text.items ≡ guarded_by c.args.bytes.now tree.source c.args.errors.now)) same c.of_tokens.ensures named.tree
    in
    IfOk-weaker c.of_tokens.result _ _ (λ text is. record { named = named; text_is = is }) written

pub returns-in-Ok-clause-text : goal.returns-in-Ok-clause-text
returns-in-Ok-clause-text c = made c

pub returns-in-Ok-clause-derives : goal.returns-in-Ok-clause-derives
returns-in-Ok-clause-derives c = IfOk-weaker c.of_tokens.result _ _ (λ text is. text_derives c.args.bytes.now c.args.errors.now text.items is) (made c)
