use Rattle.std.proofs.Common.{◌≡◌, ℕ, ◌-◌, List, ◌∷◌, length, take, drop, sym, ap, ◌∙◌}
use Rattle.ix_annot.specs.Arguments.{preceded_by, with_others, all_written, written}
use Rattle.ix_annot.proofs.WithOthers.{next_one, no_more, is_empty, front_of}
use Rattle.ix_annot.proofs.arguments.all_written.Goals as goal

pub loop-entries-preserved : goal.loop-entries-preserved
loop-entries-preserved c =
    let entries = c.loop-entries.entries.now in
    let offsets = c.loop-entries.offsets.now in
    let says = c.args.says in
    let left : List (List ℕ) = take (length entries - 1) (drop 1 entries) in
    let cut : entries ≡ c.entry-item.result ∷ left = front_of entries c.entry-item.result c.in-len1-up.len_at_least c.entry-item.is in
    next_one c.loop-entries.all c.push.new.self c.in-Some.written (written says c.entry-item.result offsets) (all_written says left c.behind_first-offsets.result.now) (all_written says c.args.entries.now c.args.offsets.now)
    (sym c.in_ok-written.ensures ∙ c.in-Some.is) c.in_ok-push.ensures.added
    (ap (λ (behind : List (List ℕ)). preceded_by c.loop-entries.all (with_others (written says c.entry-item.result offsets) (all_written says left behind))) c.behind_first-offsets.ensures
    ∙ (ap (λ (these : List (List ℕ)). preceded_by c.loop-entries.all (all_written says these offsets)) (sym cut) ∙ c.loop-entries.invariant))

pub returns : goal.returns
returns c =
    no_more c.loop-entries.all (all_written c.args.says c.loop-entries.entries.now c.loop-entries.offsets.now) (all_written c.args.says c.args.entries.now c.args.offsets.now)
    (ap (λ (these : List (List ℕ)). all_written c.args.says these c.loop-entries.offsets.now) (is_empty c.loop-entries.entries.now c.in_default.len_below)) c.loop-entries.invariant
