use Rattle.ix_front.proofs.NamesFound.{refused_found, refused_only, refused_placed, refused_formed}
use Rattle.ix_front.proofs.finding.of_unit.Goals as goal

pub returns-in-Some-clause-right : goal.returns-in-Some-clause-right
returns-in-Some-clause-right c = refused_found _ _ _ c.in-Err.ensures.refused c.in-Some.ensures

pub returns-in-Some-clause-only : goal.returns-in-Some-clause-only
returns-in-Some-clause-only c = λ other found. refused_only _ _ _ other c.in-Err.ensures.refused c.in-Some.ensures found

pub returns-in-Some-clause-placed : goal.returns-in-Some-clause-placed
returns-in-Some-clause-placed c = λ end placed. refused_placed end _ _ _ placed c.in-Err.ensures.refused c.in-Some.ensures

pub returns-in-Some-clause-formed : goal.returns-in-Some-clause-formed
returns-in-Some-clause-formed c = refused_formed _ _ c.in-Some.ensures
