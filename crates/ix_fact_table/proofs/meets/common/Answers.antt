use Rattle.std.proofs.Common.{rules, ap, ap₂, w32, w64}
use Rattle.std.specs.Int.{int_min, int_max}
use Rattle.ix_core.specs.declared.fact.Fact.TheVariants.{Rng, LenRng, Low, Less, Upper}
use Rattle.ix_fact_table.proofs.NumbersMet.{number_of}
use Rattle.ix_fact_table.proofs.meets.common.Goals as goal

pub returns-in-Rng-Rng : goal.returns-in-Rng-Rng
returns-in-Rng-Rng c =
    let now = c.in-Rng-Rng in
    rw (now.is-0, now.is-1)
    (ap₂ (Rng now.p) (number_of w64 int_min _ now.l now.m (search rules) (search rules) (search rules) c.min.ensures.value) (number_of w64 int_max _ now.h now.k (search rules) (search rules) (search rules) c.max.ensures.value))

pub returns-in-LenRng-LenRng : goal.returns-in-LenRng-LenRng
returns-in-LenRng-LenRng c =
    let now = c.in-LenRng-LenRng in
    rw (now.is-0, now.is-1)
    (ap₂ (LenRng now.a) (number_of w64 int_min _ now.l now.m (search rules) (search rules) (search rules) c.min-in-LenRng-LenRng.ensures.value)
    (number_of w64 int_max _ now.h now.k (search rules) (search rules) (search rules) c.max-in-LenRng-LenRng.ensures.value))

pub returns-in-Low-Low : goal.returns-in-Low-Low
returns-in-Low-Low c =
    let now = c.in-Low-Low in
    rw (now.is-0, now.is-1) (ap (Low now.p) (number_of w32 int_min _ now.c now.d (search rules) (search rules) (search rules) c.min-in-Low-Low.ensures.value))

pub returns-in-Less-Less : goal.returns-in-Less-Less
returns-in-Less-Less c =
    let now = c.in-Less-Less in
    rw (now.is-0, now.is-1) (ap (Less now.p now.q) (number_of w32 int_max _ now.c now.d (search rules) (search rules) (search rules) c.max-in-Less-Less.ensures.value))

pub returns-in-Upper-Upper : goal.returns-in-Upper-Upper
returns-in-Upper-Upper c =
    let now = c.in-Upper-Upper in
    rw (now.is-0, now.is-1) (ap (Upper now.p now.a now.o) (number_of w32 int_min _ now.c now.d (search rules) (search rules) (search rules) c.min-in-Upper-Upper.ensures.value))
