use Rattle.std.proofs.Common.{◌≡◌, ℕ, List, length, take, rules, arith, ap, sym, refl, ◌∙◌, ◌++◌}
use Rattle.std.proofs.lemmas.List.{length-take-le}
use Rattle.ix_outside.specs.Outside.{add_last}
use Rattle.ix_outside.proofs.PartsRead.{take-part, left-part, part-short}
use Rattle.ix_outside.proofs.PartsGiven.{add_none, add_more}
use Rattle.ix_outside.proofs.reading.read_rest.Goals as goal

pub reading-init : goal.reading-init
reading-init g c = record {
  files = search rules;
  opened = search rules;
  keeps_sure = search rules;
  opened_sure = search rules;
  names = search rules;
  given = add_none (g.S.Source.given c.args.files.now) ∙ ap (λ b. add_last b (g.S.Source.given c.args.files.now)) (sym c.new-bytes.ensures.items);
  read = search rules;
  left = search rules;
  faults = search rules;
  before = search rules;
  counted = search rules;
  turns = search rules;
  each_takes = search rules;
}

pub reading-preserved : goal.reading-preserved
reading-preserved g c =
    let part : List ℕ = take c.in-Ok.n c.read.new.buf in
    let long : length part ≡ c.in-Ok.n = length-take-le _ _ (omega (arith, c.in-Ok.ensures.within)) in
    record {
      files = search rules;
      opened = search rules;
      keeps_sure = search rules;
      opened_sure = search rules;
      names = search rules;
      given = c.in-Ok.ensures.given ∙ ap (add_last part) c.reading.invariant.given ∙ add_more c.reading.bytes.items part (g.S.Source.given c.args.files.now) ∙ ap (λ b. add_last b (g.S.Source.given c.args.files.now)) (sym c.in-Ok-extend_from_slice.ensures.items);
      read = λ all known. take-part _ _ _ part _ all known c.reading.invariant.left c.in-Ok.ensures.moved (c.reading.invariant.read all known) c.in-Ok-extend_from_slice.ensures.items;
      left = left-part _ _ _ _ part _ c.reading.invariant.left (rw long c.in-Ok.ensures.left) c.in-Ok-extend_from_slice.ensures.items;
      faults = search rules;
      before = search rules;
      counted = search rules;
      turns = search rules;
      each_takes = search rules;
    }

pub returns-in-Err-clause-each_takes : goal.returns-in-Err-clause-each_takes
returns-in-Err-clause-each_takes g c = λ all known.
    omega (arith, c.in-Err.ensures.reads, c.reading.invariant.each_takes, part-short all c.reading.bytes.items (c.reading.invariant.read all known))

pub returns-then-n-eq0-clause-each_takes : goal.returns-then-n-eq0-clause-each_takes
returns-then-n-eq0-clause-each_takes g c = λ all known.
    omega (arith, c.in-Ok.ensures.reads, c.reading.invariant.each_takes, part-short all c.reading.bytes.items (c.reading.invariant.read all known))

pub returns-clause-each_takes : goal.returns-clause-each_takes
returns-clause-each_takes g c = λ all known.
    omega (arith, c.reading.invariant.each_takes, part-short all c.reading.bytes.items (c.reading.invariant.read all known))

pub returns-then-n-eq0-clause-given : goal.returns-then-n-eq0-clause-given
returns-then-n-eq0-clause-given g c =
    c.in-Ok.ensures.given ∙ ap (λ n. add_last (take n c.read.new.buf) (g.S.Source.given c.reading.files)) c.if-n-eq0.true ∙ sym (add_none (g.S.Source.given c.reading.files)) ∙ c.reading.invariant.given

pub returns-in-Err-clause-front : goal.returns-in-Err-clause-front
returns-in-Err-clause-front g c = (c.reading.bytes.items, c.in-Err.ensures.given_nothing ∙ c.reading.invariant.given, c.reading.invariant.read)

pub returns-then-n-eq0-clause-front : goal.returns-then-n-eq0-clause-front
returns-then-n-eq0-clause-front g c = (
  c.reading.bytes.items,
  c.in-Ok.ensures.given ∙ ap (λ n. add_last (take n c.read.new.buf) (g.S.Source.given c.reading.files)) c.if-n-eq0.true ∙ sym (add_none (g.S.Source.given c.reading.files)) ∙ c.reading.invariant.given,
  c.reading.invariant.read,
)

pub returns-clause-front : goal.returns-clause-front
returns-clause-front g c = (c.reading.bytes.items, c.reading.invariant.given, c.reading.invariant.read)

pub returns-in-Err-extend_from_slice-clause-front :
    goal.returns-in-Err-extend_from_slice-clause-front
returns-in-Err-extend_from_slice-clause-front g c =
    let part : List ℕ = take c.in-Ok.n c.read.new.buf in (
      c.reading.bytes.items ++ part,
      c.in-Ok.ensures.given ∙ ap (add_last part) c.reading.invariant.given ∙ add_more c.reading.bytes.items part (g.S.Source.given c.args.files.now),
      λ all known. take-part _ _ _ part _ all known c.reading.invariant.left c.in-Ok.ensures.moved (c.reading.invariant.read all known) refl,
    )
