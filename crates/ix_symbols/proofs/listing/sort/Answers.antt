use Rattle.std.proofs.Common.{rules}
use Rattle.std.proofs.lemmas.Fn.{dedup_same}
use Rattle.std.proofs.lemmas.List.Sorted.{answers_always}
use Rattle.ix_meaning.specs.declared.note.NameError.{NameError}
use Rattle.ix_meaning.specs.Listed as spec
use Rattle.ix_symbols.proofs.SortedErrors.{sorted_listed, same_key}
use Rattle.ix_symbols.proofs.listing.sort.Goals as goal

pub returns : goal.returns
returns c =
    sorted_listed c.args.errors.now.items c.sort_by_key.new.self.items c.dedup_by_key.new.self.items
    c.in_ok-sort_by_key.ensures.permutation
    (c.in_ok-sort_by_key.ensures.sorted (λ (e : NameError). (e.span.from, spec.order e.rule, e.span.to)) (answers_always _ _ _ (λ f a r g h. search rules)))
    (dedup_same _ same_key _ (λ x y b f x2 y2 k. search rules) _ _ c.dedup_by_key.ensures.filtered)
