use Rattle.ix_facts.specs.Forget.{of_path}
use Rattle.ix_tests.proofs.KnownBeside.{says_own, names_none}
use Rattle.ix_tests.proofs.known.known_beside_path.Goals as goal

pub returns : goal.returns
returns g c =
    let list = c.in_ok-list.list in
    let know = c.in_ok-know.know in
    record {
      known = says_own (of_path c.args.path.now) c.args.own.now c.args.others.now list know c.in_ok-list.ensures.facts c.in_ok-know.ensures.facts;
      beside = names_none (of_path c.args.path.now) list know c.in_ok-know.ensures.facts;
    }
