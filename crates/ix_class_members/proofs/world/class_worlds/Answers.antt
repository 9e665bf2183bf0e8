use Rattle.std.proofs.Common.{rules, subst, ◌≡◌, ◌∙◌, ap, ◌+◌, ◌++◌, ◌∷◌, [], length, sym}
use Rattle.std.proofs.lemmas.List.{length-append}
use Rattle.ix_class_members.specs.World as spec
use Rattle.ix_class_members.proofs.Worlds.{pushed}
use Rattle.ix_class_members.proofs.world.class_worlds.Goals as goal

pub loop-c-preserved : goal.loop-c-preserved
loop-c-preserved c =
    let made : spec.IsClass c.args.parents.now c.args.fields.now c.args.methods.now c.args.decls.now c.loop-c.c c.in_ok-world.world = search rules in
    let all : length c.loop-c.worlds ≡ c.loop-c.c = c.loop-c.invariant.all in
    let count : c.loop-c.c ≡ 0 + length c.loop-c.worlds = search rules in
    let is : spec.IsClass c.args.parents.now c.args.fields.now c.args.methods.now c.args.decls.now (0 + length c.loop-c.worlds) c.in_ok-world.world =
    subst (λ n. spec.IsClass c.args.parents.now c.args.fields.now c.args.methods.now c.args.decls.now n c.in_ok-world.world) count made in
    let added : c.push.new.self ≡ c.loop-c.worlds ++ c.in_ok-world.world ∷ [] = search rules in
    record {
      each = subst (λ ws. spec.AreClasses c.args.parents.now c.args.fields.now c.args.methods.now c.args.decls.now 0 ws) (sym added)
          (pushed c.args.parents.now c.args.fields.now c.args.methods.now c.args.decls.now 0 c.loop-c.worlds c.in_ok-world.world c.loop-c.invariant.each is);
      all = ap length added ∙ length-append c.loop-c.worlds (c.in_ok-world.world ∷ []) ∙ ap (λ n. n + 1) c.loop-c.invariant.all;
    }
