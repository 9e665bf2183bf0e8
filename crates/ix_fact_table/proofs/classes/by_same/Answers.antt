use Rattle.std.proofs.Common.{arith, ◌≡◌, slice_get, slice_index_or, Some, pos, ⊎_elim, subst, sym}
use Rattle.std.proofs.lemmas.List.{take_all}
use Rattle.std.proofs.lemmas.Option.{slice_get-get_or}
use Rattle.ix_core.specs.declared.fact.Path.TheVariants.{Slot}
use Rattle.ix_core.specs.declared.fact.Fact.TheVariants.{Rng, Same}
use Rattle.ix_facts.specs.Facts.{IsIn}
use Rattle.ix_fact_table.proofs.JoinedClasses.{in_next, in_at}
use Rattle.ix_fact_table.proofs.classes.by_same.Goals as goal

pub loop-link-preserved : goal.loop-link-preserved
loop-link-preserved c =
    let links = c.args.links.now in
    let k = c.loop-link.link-index in
    let f = slice_index_or links k (Rng (Slot 0) (pos 0) (pos 0)) in
    let at : slice_get links k ≡ Some f = slice_get-get_or links k (Rng (Slot 0) (pos 0) (pos 0)) (omega (arith, c.loop-link-test.true)) in
    record {
      roots_are = c.in_ok-roots.ensures.roots;
      coarser = λ a b e. c.in_ok-roots.ensures.coarser a b (c.loop-link.invariant.coarser a b e);
      sound = λ facts follow sound. c.in_ok-roots.ensures.sound facts (follow f (in_at links k f at)) (c.loop-link.invariant.sound facts follow sound);
      same = λ a b i.
          ⊎_elim
          (λ j. c.in_ok-roots.ensures.coarser a b (c.loop-link.invariant.same a b j))
          (λ e. c.in_ok-roots.ensures.same a b e)
          (in_next links k f (Same a b) at i);
    }

pub returns : goal.returns
returns c =
    let all = c.loop-link.invariant in
    let whole = take_all c.loop-link.link-index c.args.links.now c.loop-link-test.false in
    record { roots = all.roots_are; coarser = all.coarser; sound = all.sound; same = λ a b i. all.same a b (subst (IsIn (Same a b)) (sym whole) i) }
