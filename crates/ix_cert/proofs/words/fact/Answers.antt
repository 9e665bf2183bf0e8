use Rattle.ix_cert.proofs.FirstWords.{read_Rng, read_LenRng, read_Low, read_Same, read_IsLen, read_Less, read_Sum, read_Search, read_Neg, read_Upper, no_word}
use Rattle.ix_cert.proofs.words.fact.Goals as goal

pub returns-in-Some : goal.returns-in-Some
returns-in-Some c = record { given = read_Rng c.args.line.now c.in-Some.rest.now c.range.result c.in-Some.ensures.found c.range.ensures }

pub returns-in-Some-behind : goal.returns-in-Some-behind
returns-in-Some-behind c = record { given = read_LenRng c.args.line.now c.in-Some-behind.rest.now c.length_range.result c.in-Some-behind.ensures.found c.length_range.ensures }

pub returns-in-Some-behind-2 : goal.returns-in-Some-behind-2
returns-in-Some-behind-2 c = record { given = read_Low c.args.line.now c.in-Some-behind-2.rest.now c.low.result c.in-Some-behind-2.ensures.found c.low.ensures }

pub returns-in-Some-behind-3 : goal.returns-in-Some-behind-3
returns-in-Some-behind-3 c = record { given = read_Same c.args.line.now c.in-Some-behind-3.rest.now c.same.result c.in-Some-behind-3.ensures.found c.same.ensures }

pub returns-in-Some-behind-4 : goal.returns-in-Some-behind-4
returns-in-Some-behind-4 c = record { given = read_IsLen c.args.line.now c.in-Some-behind-4.rest.now c.is_length.result c.in-Some-behind-4.ensures.found c.is_length.ensures }

pub returns-in-Some-behind-5 : goal.returns-in-Some-behind-5
returns-in-Some-behind-5 c = record { given = read_Less c.args.line.now c.in-Some-behind-5.rest.now c.less.result c.in-Some-behind-5.ensures.found c.less.ensures }

pub returns-in-Some-behind-6 : goal.returns-in-Some-behind-6
returns-in-Some-behind-6 c = record { given = read_Sum c.args.line.now c.in-Some-behind-6.rest.now c.sum.result c.in-Some-behind-6.ensures.found c.sum.ensures }

pub returns-in-Some-behind-7 : goal.returns-in-Some-behind-7
returns-in-Some-behind-7 c = record { given = read_Search c.args.line.now c.in-Some-behind-7.rest.now c.search.result c.in-Some-behind-7.ensures.found c.search.ensures }

pub returns-in-Some-behind-8 : goal.returns-in-Some-behind-8
returns-in-Some-behind-8 c = record { given = read_Neg c.args.line.now c.in-Some-behind-8.rest.now c.negative.result c.in-Some-behind-8.ensures.found c.negative.ensures }

pub returns-in-Some-behind-9 : goal.returns-in-Some-behind-9
returns-in-Some-behind-9 c = record { given = read_Upper c.args.line.now c.in-Some-behind-9.rest.now c.upper.result c.in-Some-behind-9.ensures.found c.upper.ensures }

pub returns : goal.returns
returns c = record { given = λ fact small is. absurd (no_word c.args.line.now c.in_default.ensures.none c.in_default-behind.ensures.none c.in_default-behind-2.ensures.none c.in_default-behind-3.ensures.none c.in_default-behind-4.ensures.none c.in_default-behind-5.ensures.none c.in_default-behind-6.ensures.none c.in_default-behind-7.ensures.none c.in_default-behind-8.ensures.none c.in_default-behind-9.ensures.none fact is) }
