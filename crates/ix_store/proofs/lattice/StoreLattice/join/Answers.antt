use Rattle.std.specs.Prelude.{Some, refl}
use Rattle.ix_store.specs.declared.store.Store.{Store}
use Rattle.ix_store.specs.StoreLaws.{is_join}
use Rattle.ix_store.proofs.JoinedStores.{first_joined, second_joined, both_joined, least_joined}
use Rattle.ix_store.proofs.lattice.StoreLattice.join.Goals as goal

pub returns-in_default-None : goal.returns-in_default-None
returns-in_default-None c =
    let is = first_joined c.args.self.now c.args.other.now c.share.result c.in_default-None.is-1 c.share.ensures.shared in
    record { least_above = least_joined c.args.self.now c.args.other.now c.share.result is; joined = is }

pub returns-in-None-Some : goal.returns-in-None-Some
returns-in-None-Some c =
    let is = second_joined c.args.self.now c.args.other.now c.share-in-None-Some.result c.in-None-Some.is-0 c.share-in-None-Some.ensures.shared in
    record { least_above = least_joined c.args.self.now c.args.other.now c.share-in-None-Some.result is; joined = is }

pub returns-in_ok-common-in-Some-Some : goal.returns-in_ok-common-in-Some-Some
returns-in_ok-common-in-Some-Some c =
    let first = c.in-Some-Some.known in
    let second = c.in-Some-Some.others in
    let common = c.in_ok-common-in-Some-Some.common in
    let joined : Store = record { known = Some common } in
    let is = both_joined c.args.self.now c.args.other.now joined first second common c.in-Some-Some.is-0 c.in-Some-Some.is-1 c.in_ok-common-in-Some-Some.ensures.common refl in
    record { least_above = is_join c.args.self.now c.args.other.now joined is; joined = is }
