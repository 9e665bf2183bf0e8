use Rattle.std.proofs.Common.{length, length-append, arith, ap, ◌∙◌}
use Rattle.ix_lexer.specs.declared.token.Token.{Token}
use Rattle.ix_lexer.specs.Tokens.{size}
use Rattle.ix_lexer.proofs.ReadingSteps.{few_characters, begun, size_split, step_gap, step_token, room_for, left_size}
use Rattle.ix_lexer.proofs.lexer.tokens_of.Goals as goal
use Rattle.ix_lexer.proofs.lexer.tokens_of.Goals.{in-Some+in_ok-push-in-Some, in-None}

pub loop-text-init : goal.loop-text-init
loop-text-init c = record {
  reads = begun c.args.text.now c.new-tokens.result.items c.new-tokens.ensures.items;
  few = omega (arith, ap length c.new-tokens.ensures.items);
  within = omega arith;
}

pub step-requires-clause-small : goal.step-requires-clause-small
step-requires-clause-small c = few_characters c.loop-text.text.now c.args.text.now c.loop-text.at c.loop-text.invariant.within c.requires

pub behind-text-requires-clause-small : goal.behind-text-requires-clause-small
behind-text-requires-clause-small c = few_characters c.loop-text.text.now c.args.text.now c.loop-text.at c.loop-text.invariant.within c.requires

pub size-requires : goal.size-requires
size-requires c = rw c.front.ensures (omega (arith, size_split c.in_ok-kind.len c.loop-text.text.now, c.loop-text.invariant.within))

pub overflow_add-to : goal.overflow_add-to
overflow_add-to c = omega (arith, size_split c.in_ok-kind.len c.loop-text.text.now, c.loop-text.invariant.within, c.size.ensures ∙ ap size c.front.ensures)

pub loop-text-preserved : goal.loop-text-preserved
loop-text-preserved c =
    let taken = c.size.ensures ∙ ap size c.front.ensures in
    let within = left_size c.loop-text.text.now c.behind-text.result.now c.args.text.now c.loop-text.at c.in_ok-kind.len c.size.result c.loop-text.invariant.within c.behind-text.ensures taken in
    elim c.match-kind.branch [
      | in-None w ↦ record {
        reads = step_gap c.args.text.now c.loop-text.text.now c.behind-text.result.now c.loop-text.tokens.items c.match-kind.tokens.items c.loop-text.at c.in_ok-kind.len c.size.result c.in_ok-kind.kind
            c.loop-text.invariant.reads c.in_ok-kind.ensures.step w.in-None.is (ap (λ v. v.items) w.tokens-is) c.behind-text.ensures taken;
        few = omega (arith, c.loop-text.invariant.few, ap (λ v. length v.items) w.tokens-is);
        within = within;
      }
      | in-Some+in_ok-push-in-Some w ↦
          let items = ap (λ v. v.items) w.tokens-is ∙ w.in_ok-push-in-Some.ensures.items in
          let room = room_for c.in_ok-kind.kind w.in-Some.kind c.len.result c.in_ok-kind.ensures.room w.in-Some.is in
          record {
            reads = step_token c.args.text.now c.loop-text.text.now c.behind-text.result.now c.loop-text.tokens.items c.match-kind.tokens.items c.loop-text.at c.in_ok-kind.len c.size.result c.in_ok-kind.kind w.in-Some.kind
                c.loop-text.invariant.reads c.in_ok-kind.ensures.step w.in-Some.is items c.behind-text.ensures taken;
            few = omega (arith, ap length items, length-append {A = Token}, room, c.len.ensures, c.loop-text.tokens.ok.0);
            within = within;
          }
    ]
