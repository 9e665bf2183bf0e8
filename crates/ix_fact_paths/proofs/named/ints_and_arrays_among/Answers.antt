use Rattle.std.proofs.Common.{◌∙◌, refl}
use Rattle.ix_facts.specs.Exact.{arrays_of}
use Rattle.ix_fact_paths.proofs.PartsNamed.{among_named, ranges_named, parts_without}
use Rattle.ix_fact_paths.proofs.named.ints_and_arrays_among.Goals as goal

pub returns-then-have_ranges-clause-ints : goal.returns-then-have_ranges-clause-ints
returns-then-have_ranges-clause-ints c =
    c.in_ok-ints.ensures.items ∙ ranges_named c.args.first.now c.args.between.now c.args.last.now c.args.paths.now c.requires.rising c.requires.among (c.have_ranges.ensures c.if-have_ranges.true)

pub returns-then-have_ranges-clause-arrays : goal.returns-then-have_ranges-clause-arrays
returns-then-have_ranges-clause-arrays c = c.in_ok-arrays.ensures ∙ parts_without arrays_of c.args.first.now c.args.between.now c.args.last.now c.requires.between

pub returns-clause-ints : goal.returns-clause-ints
returns-clause-ints c = among_named c.args.first.now c.args.between.now c.args.last.now c.args.paths.now _ _ c.requires.rising c.requires.among refl c.in_ok-ints-2.ensures

pub returns-clause-arrays : goal.returns-clause-arrays
returns-clause-arrays c = c.in_ok-arrays.ensures ∙ parts_without arrays_of c.args.first.now c.args.between.now c.args.last.now c.requires.between
