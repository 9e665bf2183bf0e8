-- Labels that are given, by anyone: which of them fail, and which errors the rules derive with them. Nothing is solved: the head of each loop has its label, whatever
-- comes there, and what comes there is then judged by it (checking a solution where another program computed it: Necula, "Proof-carrying code", POPL 1997; the stack
-- maps of JVMS 4.10.1).
use Rattle.std.specs.Prelude.{◌≡◌, ℕ}
use Rattle.ix_core.specs.Code.{Code}
use Rattle.ix_flow.specs.Flow.{Point, Rules, IsFlow, Anything, Avoids}

module _ (R : Rules) where
  -- The rules with which the labels of some loops are judged, and those of all others taken as they are given. Beside a store stands a number: beside a label that
  -- of its loop, and beside any other store one that says nothing.
  abbrev pub judging : (ℕ → Type 0) → Rules
  judging Judged = record {
    Store = R.Store × ℕ;
    Below = λ s t. R.Below s.0 t.0;
    nowhere = (R.nowhere, 0);
    Entry = λ s. R.Entry s.0;
    After = λ op s t. R.After op s.0 t.0;
    Tested = λ answer test s t. R.Tested answer test s.0 t.0;
    Told = λ answer last slot s t. R.Told answer last slot s.0 t.0;
    Rounded = λ scope joined label. Judged label.1 → R.Rounded scope joined.0 label.0;
  }

  -- the labels of loops, beside the loops' numbers
  abbrev pub numbered : (ℕ → R.Store) → ℕ → R.Store × ℕ
  numbered labels number = (labels number, number)

  -- A loop's label fails: in no flow with these labels, where this one alone is judged, is it above what comes to the loop's head.
  abbrev pub Fails : (ℕ → R.Store) → Code → ℕ → Type 0
  Fails labels body loop = IsFlow (judging (λ number. number ≡ loop)) (Anything (judging (λ number. number ≡ loop))) (numbered labels) body → ⊥

  -- The rules derive an error at these labels: no flow with them, where none is judged, avoids it.
  abbrev pub IsDerivedAt : {E : Type 0} → (Point → R.Store → E → Type 0) → (ℕ → R.Store) → Code → E → Type 0
  IsDerivedAt Derives labels body error = IsFlow (judging (λ number. ⊥)) (λ point store. Avoids R Derives error point store.0) (numbered labels) body → ⊥
