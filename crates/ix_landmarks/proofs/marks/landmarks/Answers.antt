use Rattle.std.proofs.Common.{sym, subst, ◌∙◌}
use Rattle.ix_facts.specs.Round.{IsAmong, IsLandmark}
use Rattle.ix_landmarks.specs.Items.{IsAscending}
use Rattle.ix_landmarks.proofs.Ascending.{sorted_ascends, same_members}
use Rattle.ix_landmarks.proofs.marks.landmarks.Goals as goal

pub each_once-requires : goal.each_once-requires
each_once-requires c = subst IsAscending (sym c.deref-2.ensures.value) (sorted_ascends c.sort_unstable.new.self.items c.sort_unstable.ensures.sorted)

pub returns : goal.returns
returns c =
    let marks = c.in_ok-marks.marks.items in
    let sorted = c.sort_unstable.new.self.items in
    let numbers = c.deref.ensures.value ∙ c.in_ok-numbers.ensures in
    record {
      landmarks = record {
        rises = c.in_ok-ints.ensures.rises;
        only = λ n has.
            let found = (same_members marks sorted n c.sort_unstable.ensures.permutation).1 (subst (IsAmong n) c.deref-2.ensures.value ((c.in_ok-ints.ensures.same n).0 has)) in
            subst (λ ns. IsLandmark ns n) numbers ((c.in_ok-marks.ensures n).0 found);
        all = λ n is.
            let found = (c.in_ok-marks.ensures n).1 (subst (λ ns. IsLandmark ns n) (sym numbers) is) in
            (c.in_ok-ints.ensures.same n).1 (subst (IsAmong n) (sym c.deref-2.ensures.value) ((same_members marks sorted n c.sort_unstable.ensures.permutation).0 found));
      };
    }
