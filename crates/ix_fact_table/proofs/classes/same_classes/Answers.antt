use Rattle.std.proofs.Common.{◌≡◌, subst, sym, ◌∙◌, inl, refl, [], None}
use Rattle.ix_core.specs.declared.fact.Fact.{Fact}
use Rattle.ix_core.specs.declared.fact.Fact.TheVariants.{Same}
use Rattle.ix_facts.specs.Facts.{IsIn}
use Rattle.ix_facts.specs.Closure.{Follows, given}
use Rattle.ix_fact_table.specs.Classes.{root_of, AreSound}
use Rattle.ix_fact_table.specs.Links.{links}
use Rattle.ix_fact_table.proofs.LengthLinks.{links_follow, one_root}
use Rattle.ix_fact_table.proofs.classes.same_classes.Goals as goal

pub returns : goal.returns
returns c =
    let facts = c.args.facts.now in
    let roots = c.in_ok-roots.roots.items in
    let found : c.deref.result.now ≡ links [] facts = c.deref.ensures.value ∙ c.in_ok-length_links.ensures.links in
    let same_path = c.path_order_laws.ensures.same in
    let itself = c.path_order_laws.ensures.itself in
    let none : c.new.result.items ≡ [] = c.new.ensures.items in
    let start : AreSound facts c.new.result.items = subst (λ l. AreSound facts l) (sym none) (λ a. inl refl) in
    let told : AreSound facts c.in_ok-told.told.items = c.in_ok-told.ensures.sound facts (λ f i. given f i) start in
    let follow : (f : Fact) → IsIn f c.deref.result.now → Follows facts f = λ f i. links_follow same_path itself facts [] facts (λ p b e. absurd (let y : None ≡ Rattle.std.proofs.Common.Some b = e in cc)) (λ g j. given g j) f (subst (λ l. IsIn f l) found i) in
    record {
      classes = record {
        roots_are = c.in_ok-roots.ensures.roots;
        sound = c.in_ok-roots.ensures.sound facts follow told;
        same = λ a b i. c.in_ok-roots.ensures.coarser a b (c.in_ok-told.ensures.same a b i);
        lengths = λ p a b i j. one_root same_path itself (root_of roots) [] facts (λ x y k. c.in_ok-roots.ensures.same x y (subst (λ l. IsIn (Same x y) l) (sym found) k)) p a b i j;
      };
    }
