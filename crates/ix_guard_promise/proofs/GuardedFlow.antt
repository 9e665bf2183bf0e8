-- Guarded code flows with the stores of what is known along it, by rules that these stores keep.
use Rattle.std.proofs.Common.{◌≡◌, ℕ, Bool, true, false, Option, Some, None, sym, subst}
use Rattle.ix_text.specs.declared.span.Span.{Span}
use Rattle.ix_core.specs.declared.op.Op.{Op}
use Rattle.ix_core.specs.declared.op.Test.{Test}
use Rattle.ix_core.specs.Code.{Code, Condition}
use Rattle.ix_core.specs.Posts.{last_done, written_answer}
use Rattle.ix_flow.specs.Flow.{Point, Doing, Returning, Rules, Flows, Asks}
use Rattle.ix_guard_promise.specs.Known.{Known, Nowhere, Unknown, Inside, Says, behind}
use Rattle.ix_guard_promise.specs.Guards.{Guarded, GuardedAsked, IsGuarded, IsTest, outside, ends, does, chooses, breaks, continues, returns, throws, loops, tests, certain, compares, reads, both, either, opposite}
use Rattle.ix_guard_promise.proofs.Saying.{says_unknown}

-- The rules are kept by the stores of what is known: what stays known is above what each rule gives, at each guarded operation all is fine, and so it is at each
-- `return` and at the end, whatever is known.
pub record Keep (R : Rules) (Fine : Point → R.Store → Type 0) (place : Span) (store : Known → R.Store) : Type 0 where
  pub nowhere : R.nowhere ≡ store Nowhere
  pub below : (known other : Known) → Says known other → R.Below (store known) (store other)
  pub entry : R.Entry (store Unknown)
  pub after : (done : Op) (known : Known) → R.After done (store known) (store (behind done.kind known))
  pub tested : (answer : Bool) (test : Test) (known : Known) → R.Tested answer test (store known) (store known)
  pub told : (answer : Bool) (last : Option Op) (slot : ℕ) (known : Known) → R.Told answer last slot (store known) (store known)
  pub rounded : (scope : ℕ) → R.Rounded scope (store Unknown) (store Unknown)
  pub guarded : (done : Op) (known : Known) → IsGuarded place known done → Fine (Doing done) (store known)
  pub returning : (value : Option ℕ) (answer : Option Bool) (span : Span) (known : Known) → Fine (Returning value answer span) (store known)
  pub ending : (known : Known) → Fine Rattle.ix_flow.specs.Flow.Ending (store known)
  -- what a guard's test tells where it fails
  pub fails : (labels : ℕ → R.Store) (last : Option Op) (array index : ℕ) (null_op zero_op length_op : Op) (is_null is_negative is_too_high : Test) (known : Known) → IsTest array index null_op zero_op length_op is_null is_negative is_too_high
      → Asks R Fine labels last (outside null_op zero_op length_op is_null is_negative is_too_high) (store known) (store Unknown) (store (Inside array index)) (store Unknown) (store Unknown)

module _ (R : Rules) (Fine : Point → R.Store → Type 0) (place : Span) (store : Known → R.Store) (keep : Keep R Fine place store) where
  -- nothing is known at a loop's head
  abbrev pub no_labels : ℕ → R.Store
  no_labels number = store Unknown

  abbrev Flow : Option Op → Code → R.Store → Known → Type 0
  Flow last code before end = Flows R Fine no_labels last code before (store end) (store Unknown) (store Unknown)

  unreached : (code : Code) (end : Known) → Flow None code (store Nowhere) end → Flow None code R.nowhere end
  unreached code end flow = subst (λ before. Flows R Fine no_labels None code before (store end) (store Unknown) (store Unknown)) (sym keep.nowhere) flow

  mutual
    pub flows : (last : Option Op) (code : Code) (before end : Known) → Guarded place before code end → Flows R Fine no_labels last code (store before) (store end) (store Unknown) (store Unknown)
    flows last _ _ _ (ends before end says) = keep.below before end says
    flows last _ _ _ (does done rest before end guarded next) = (keep.guarded done before guarded, store (behind done.kind before), keep.after done before, flows (Some done) rest (behind done.kind before) end next)
    flows last _ _ _ (chooses asked first second rest before holds fails joined end question one two next) =
        (store holds, store fails, store joined, asks last asked before holds fails question, flows None first holds joined one, flows None second fails joined two, flows None rest joined end next)
    flows last _ _ _ (breaks rest before end next) = (keep.below before Unknown (says_unknown before), unreached rest end (flows None rest Nowhere end next))
    flows last _ _ _ (continues rest before end next) = (keep.below before Unknown (says_unknown before), unreached rest end (flows None rest Nowhere end next))
    flows last _ _ _ (returns value span rest before end next) = (keep.returning value (written_answer last value) span before, unreached rest end (flows None rest Nowhere end next))
    flows last _ _ _ (throws name span rest before end next) = unreached rest end (flows None rest Nowhere end next)
    flows last _ _ _ (loops true asked body turn number scope rest before end question one two next) = (
      store Unknown,
      store Unknown,
      store Unknown,
      store Unknown,
      (store Unknown, keep.below before Unknown (says_unknown before), keep.below Unknown Unknown tt, keep.rounded scope),
      asks None asked Unknown Unknown Unknown question,
      flows None body Unknown Unknown one,
      flows None turn Unknown Unknown two,
      flows None rest Unknown end next,
    )
    flows last _ _ _ (loops false asked body turn number scope rest before end question one two next) = (
      store Unknown,
      store Unknown,
      store Unknown,
      store Unknown,
      (store Unknown, keep.below before Unknown (says_unknown before), keep.below Unknown Unknown tt, keep.rounded scope),
      flows None body Unknown Unknown one,
      flows None turn Unknown Unknown two,
      asks None asked Unknown Unknown Unknown question,
      flows None rest Unknown end next,
    )

    pub asks : (last : Option Op) (asked : Condition) (before holds fails : Known) → GuardedAsked place before asked holds fails
        → Asks R Fine no_labels last asked (store before) (store holds) (store fails) (store Unknown) (store Unknown)
    asks last _ _ _ _ (tests array index null_op zero_op length_op is_null is_negative is_too_high before test) =
        keep.fails no_labels last array index null_op zero_op length_op is_null is_negative is_too_high before test
    asks last _ _ _ _ (certain true before after says) = keep.below before after says
    asks last _ _ _ _ (certain false before after says) = keep.below before after says
    asks last _ _ _ _ (compares code test before after flow) = (store after, flows last code before after flow, keep.tested true test after, keep.tested false test after)
    asks last _ _ _ _ (reads code slot before after flow) =
        (store after, flows last code before after flow, keep.told true (last_done None code) slot after, keep.told false (last_done None code) slot after)
    asks last _ _ _ _ (both first second before between holds fails one two) = (store between, asks last first before between fails one, asks None second between holds fails two)
    asks last _ _ _ _ (either first second before between holds fails one two) = (store between, asks last first before holds between one, asks None second between holds fails two)
    asks last _ _ _ _ (opposite asked before holds fails one) = asks last asked before fails holds one

  -- a whole body with guards flows
  pub body_flows : (body : Code) → Guarded place Unknown body Unknown → Rattle.ix_flow.specs.Flow.IsFlow R Fine no_labels body
  body_flows body guards = (store Unknown, store Unknown, keep.entry, flows None body Unknown Unknown guards, keep.ending Unknown)
