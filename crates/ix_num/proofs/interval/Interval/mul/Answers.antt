use Rattle.std.proofs.Common.{◌∙◌}
use Rattle.ix_num.specs.Intervals.{hull_of}
use Rattle.ix_num.specs.OpRanges.{hull_of_two}
use Rattle.ix_num.proofs.Casts.{low_int, high_int, product_is, product_fits}
use Rattle.ix_num.proofs.interval.Interval.mul.Goals as goal

pub overflow_mul-p : goal.overflow_mul-p
overflow_mul-p c = product_fits c.args.self.lo c.args.other.lo (low_int _ c.requires.left) (low_int _ c.requires.right)

pub overflow_mul-q : goal.overflow_mul-q
overflow_mul-q c = product_fits c.args.self.lo c.args.other.hi (low_int _ c.requires.left) (high_int _ c.requires.right)

pub overflow_mul-r : goal.overflow_mul-r
overflow_mul-r c = product_fits c.args.self.hi c.args.other.lo (high_int _ c.requires.left) (low_int _ c.requires.right)

pub overflow_mul-s : goal.overflow_mul-s
overflow_mul-s c = product_fits c.args.self.hi c.args.other.hi (high_int _ c.requires.left) (high_int _ c.requires.right)

pub returns : goal.returns
returns c =
    let x = c.args.self in
    let y = c.args.other in
    let p = product_is x.lo y.lo (low_int x c.requires.left) (low_int y c.requires.right) in
    let q = product_is x.lo y.hi (low_int x c.requires.left) (high_int y c.requires.right) in
    let r = product_is x.hi y.lo (high_int x c.requires.left) (low_int y c.requires.right) in
    let s = product_is x.hi y.hi (high_int x c.requires.left) (high_int y c.requires.right) in
    let from_low = c.hull_of_two.ensures ∙ (λ i. hull_of_two (p i) (q i)) in
    let from_high = c.hull_of_two-2.ensures ∙ (λ i. hull_of_two (r i) (s i)) in
    c.hull.ensures.value ∙ (λ i. hull_of (from_low i) (from_high i))
