use Rattle.std.proofs.Common.{◌≡◌, ◌-◌, List, ◌∷◌, length, take, drop, sym, ap, ◌∙◌}
use Rattle.ix_annot.specs.declared.arguments.Written.{Written}
use Rattle.ix_annot.specs.Arguments.{preceded_by}
use Rattle.ix_annot.specs.Expansion.{claim_of, claims_of}
use Rattle.ix_annot.proofs.WithOthers.{next_one, no_more, is_empty, front_of}
use Rattle.ix_annot.proofs.expansion.claims_behind.Goals as goal

pub loop-written-preserved : goal.loop-written-preserved
loop-written-preserved g c =
    let names = g.N.Names.names c.args.names.now in
    let written = c.loop-written.written.now in
    let left : List Written = take (length written - 1) (drop 1 written) in
    let cut : written ≡ c.one-item.result ∷ left = front_of written c.one-item.result c.in-len1-up.len_at_least c.one-item.is in
    next_one c.loop-written.claims c.push.new.self c.in-Some.claim (claim_of names c.one-item.result) (claims_of names left) (preceded_by c.args.claims (claims_of names c.args.written.now))
    (sym c.in-Some.ensures) c.in_ok-push.ensures.added
    (ap (λ (these : List Written). preceded_by c.loop-written.claims (claims_of names these)) (sym cut) ∙ c.loop-written.invariant)

pub returns : goal.returns
returns g c =
    let names = g.N.Names.names c.args.names.now in
    no_more c.loop-written.claims (claims_of names c.loop-written.written.now) (preceded_by c.args.claims (claims_of names c.args.written.now))
    (ap (claims_of names) (is_empty c.loop-written.written.now c.in_default.len_below)) c.loop-written.invariant
