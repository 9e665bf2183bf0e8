use Rattle.std.proofs.Common.{rules, length, sym, subst, ◌∙◌, inl}
use Rattle.ix_grammar.specs.Refusals.{Refused, IsWithin}
use Rattle.ix_parser.proofs.Answered as answered
use Rattle.ix_parser.proofs.Refusing as trees
use Rattle.ix_parser.proofs.parse_tree.parse.Goals as goal

pub returns-in-Err-clause-only : goal.returns-in-Err-clause-only
returns-in-Err-clause-only c = λ unit d. c.error_at.ensures ∙ answered.stop_only _ _ _ unit (answered.from_stop _ _ _ _ c.new-cursor.ensures c.in-Err.ensures.reads) d

pub returns-in-Err-clause-refused : goal.returns-in-Err-clause-refused
returns-in-Err-clause-refused c = λ some. subst (λ e. Refused c.args.tokens.now e) (sym c.error_at.ensures)
    (answered.stop_refused _ _ _ (answered.from_stop _ _ _ _ c.new-cursor.ensures c.in-Err.ensures.reads) (λ same. some (c.error_at.ensures ∙ same)))

pub returns-in-Err-clause-only_refused : goal.returns-in-Err-clause-only_refused
returns-in-Err-clause-only_refused c = λ e d. rw c.error_at.ensures (answered.stop_only_refused _ _ _ e (answered.from_stop _ _ _ _ c.new-cursor.ensures c.in-Err.ensures.reads) d)

pub returns-in-Err-clause-within : goal.returns-in-Err-clause-within
returns-in-Err-clause-within c = subst (λ e. IsWithin (length c.args.tokens.now) c.args.end e) (sym c.error_at.ensures)
    (answered.stop_within _ _ _ _ (answered.from_stop _ _ _ _ c.new-cursor.ensures c.in-Err.ensures.reads) c.requires.in_order)

pub returns-then-left-eq0-clause-found : goal.returns-then-left-eq0-clause-found
returns-then-left-eq0-clause-found c = trees.has_tree _ _ _ (search rules) (answered.from_whole _ _ _ _ c.new-cursor.ensures c.in-Ok.ensures.reads)

pub returns-then-left-eq0-clause-only : goal.returns-then-left-eq0-clause-only
returns-then-left-eq0-clause-only c = λ unit d. let o = trees.only_tree _ _ _ unit (answered.from_whole _ _ _ _ c.new-cursor.ensures c.in-Ok.ensures.reads) d in o.1

pub returns-then-left-eq0-clause-placed : goal.returns-then-left-eq0-clause-placed
returns-then-left-eq0-clause-placed c = trees.placed _ _ _ _ (search rules) (answered.from_whole _ _ _ _ c.new-cursor.ensures c.in-Ok.ensures.reads) c.requires.in_order

pub returns-then-left-eq0-clause-low : goal.returns-then-left-eq0-clause-low
returns-then-left-eq0-clause-low c = trees.low_tree _ _ _ (search rules) (answered.from_whole _ _ _ _ c.new-cursor.ensures c.in-Ok.ensures.reads)

pub returns-then-left-eq0-clause-resolvable : goal.returns-then-left-eq0-clause-resolvable
returns-then-left-eq0-clause-resolvable c =
    trees.can_resolve _ _ _ _ (search rules) (answered.from_whole _ _ _ _ c.new-cursor.ensures c.in-Ok.ensures.reads) c.requires.in_order c.requires.few

pub returns-then-left-eq0-clause-only_refused : goal.returns-then-left-eq0-clause-only_refused
returns-then-left-eq0-clause-only_refused c = λ e d.
    absurd (answered.tree_refused _ _ e (trees.has_tree _ _ _ (search rules) (answered.from_whole _ _ _ _ c.new-cursor.ensures c.in-Ok.ensures.reads)) d)

pub returns-else-left-eq0-clause-only : goal.returns-else-left-eq0-clause-only
returns-else-left-eq0-clause-only c = λ unit d.
    let o = trees.only_tree _ _ _ unit (answered.from_whole _ _ _ _ c.new-cursor.ensures c.in-Ok.ensures.reads) d in absurd (c.if-left-eq0.false (c.left.ensures ∙ o.0))

pub returns-else-left-eq0-clause-refused : goal.returns-else-left-eq0-clause-refused
returns-else-left-eq0-clause-refused c = λ some. subst (λ e. Refused c.args.tokens.now e) (sym c.error_at-else-left-eq0.ensures)
    (answered.over_refused _ _ _ (λ none. c.if-left-eq0.false (c.left.ensures ∙ none)) (answered.from_whole _ _ _ _ c.new-cursor.ensures c.in-Ok.ensures.reads))

pub returns-else-left-eq0-clause-only_refused : goal.returns-else-left-eq0-clause-only_refused
returns-else-left-eq0-clause-only_refused c = λ e d. inl (c.error_at-else-left-eq0.ensures ∙ answered.over_only_refused _ _ _ e
    (λ none. c.if-left-eq0.false (c.left.ensures ∙ none)) (answered.from_whole _ _ _ _ c.new-cursor.ensures c.in-Ok.ensures.reads) d)

pub returns-else-left-eq0-clause-within : goal.returns-else-left-eq0-clause-within
returns-else-left-eq0-clause-within c = subst (λ e. IsWithin (length c.args.tokens.now) c.args.end e) (sym c.error_at-else-left-eq0.ensures)
    (answered.over_within _ _ _ _ (λ none. c.if-left-eq0.false (c.left.ensures ∙ none)) (answered.from_whole _ _ _ _ c.new-cursor.ensures c.in-Ok.ensures.reads) c.requires.in_order)
