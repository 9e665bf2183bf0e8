use Rattle.std.proofs.Common.{◌≡◌, ℕ, ◌-◌, List, ◌∷◌, length, take, drop, sym, ap, ◌∙◌}
use Rattle.std.specs.Str.{chars}
use Rattle.ix_annot.specs.Texts.{array_text}
use Rattle.ix_annot.specs.Arguments.{preceded_by, all_named}
use Rattle.ix_annot.proofs.WithOthers.{next_one, no_more, is_empty, front_of}
use Rattle.ix_annot.proofs.arguments.all_named.Goals as goal

pub loop-entries-preserved : goal.loop-entries-preserved
loop-entries-preserved c =
    let entries = c.loop-entries.entries.now in
    let left : List (List ℕ) = take (length entries - 1) (drop 1 entries) in
    let cut : entries ≡ c.entry-item.result ∷ left = front_of entries c.entry-item.result c.in-len1-up.len_at_least c.entry-item.is in
    next_one c.loop-entries.all c.push.new.self c.in-Some.naming (array_text (chars c.entry-item.result)) (all_named left) (all_named c.args.entries.now)
    (sym c.in_ok-naming.ensures ∙ c.in-Some.is) c.in_ok-push.ensures.added
    (ap (λ (these : List (List ℕ)). preceded_by c.loop-entries.all (all_named these)) (sym cut) ∙ c.loop-entries.invariant)

pub returns : goal.returns
returns c =
    no_more c.loop-entries.all (all_named c.loop-entries.entries.now) (all_named c.args.entries.now) (ap all_named (is_empty c.loop-entries.entries.now c.in_default.len_below)) c.loop-entries.invariant
