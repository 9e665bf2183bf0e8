-- The labels of the heads in a solution of the graph are a solution of the flow.
use Rattle.std.proofs.Common.{ℕ, suc, true, false, ◌≡◌, sym, subst, List, [], None}
use Rattle.ix_core.specs.Code.{Code, End, Do, If, Break, Continue, Return, Throw, Loop, Condition, Known, Compare, Truth, Both, Either, Opposite}
use Rattle.ix_core.specs.Posts.{last_done}
use Rattle.ix_flow.specs.Flow.{Point, Ending, Rules, RulesLaws, Flows, Asks, IsFlow}
use Rattle.ix_graph.specs.Graph.{done_at, Pass, Onward, Through, Testing, Telling, Part, Source, Unreached, From, leads, behind_code, behind_condition, code_parts, condition_parts, method_parts}
use Rattle.ix_graph.specs.GraphSolutions.{Carries, AllKeep}
use Rattle.ix_flow.proofs.FlowWeaker.{flows_weaker, asks_weaker}

module _ (R : Rules) (L : RulesLaws R) (Fine : Point → R.Store → Type 0) (finer : (point : Point) (s t : R.Store) → R.Below s t → Fine point t → Fine point s)
    (labels J M : ℕ → R.Store) where
  abbrev Kept : List Part → Type 0
  Kept parts = AllKeep R Fine labels J M parts

  -- the store is above what comes from the source
  abbrev pub Comes : Source → R.Store → Type 0
  Comes Unreached s = Unit {0}
  Comes (From node pass) s = Carries R Fine labels pass (M node) s

  pub carries_up : (pass : Pass) (s t u : R.Store) → Carries R Fine labels pass s t → R.Below t u → Carries R Fine labels pass s u
  carries_up Onward s t u carries below = L.transitive s t u carries below
  carries_up (Through op) s t u carries below = L.after op s s t u (L.reflexive s) carries below
  carries_up (Testing answer test) s t u carries below = L.tested answer test s s t u (L.reflexive s) carries below
  carries_up (Telling answer code slot) s t u carries below = L.told answer (last_done None code) slot s s t u (L.reflexive s) carries below

  pub comes_up : (source : Source) (s t : R.Store) → Comes source s → R.Below s t → Comes source t
  comes_up Unreached s t comes below = tt
  comes_up (From node pass) s t comes below = carries_up pass (M node) s t comes below

  came : (source : Source) (target : ℕ) (parts : List Part) → Kept (leads source target parts) → Comes source (J target) × Kept parts
  came Unreached target parts kept = (tt, kept)
  came (From node pass) target parts kept = kept

  -- from some store to which the source leads the code flows, and the other parts are kept
  abbrev FlowFrom : Code → Source → ℕ → ℕ → ℕ → List Part → Type 0
  FlowFrom code source end break continue parts = ((s : R.Store) × Comes source s × Flows R Fine labels (done_at source) code s (J end) (J break) (J continue)) × Kept parts

  abbrev AskFrom : Condition → Source → ℕ → ℕ → ℕ → ℕ → List Part → Type 0
  AskFrom asked source holds fails break continue parts = ((s : R.Store) × Comes source s × Asks R Fine labels (done_at source) asked s (J holds) (J fails) (J break) (J continue)) × Kept parts

  -- the same from the store of a join
  from_join : (code : Code) (at end break continue : ℕ) → R.Below (J at) (M at) → (s : R.Store) × Comes (From at Onward) s × Flows R Fine labels None code s (J end) (J break) (J continue)
      → Flows R Fine labels None code (J at) (J end) (J break) (J continue)
  from_join code at end break continue settled (s, comes, flow) =
      flows_weaker R L Fine finer labels None code (J at) s (J end) (J break) (J continue) (L.transitive (J at) (M at) s settled comes) flow

  ask_join : (asked : Condition) (at holds fails break continue : ℕ) → R.Below (J at) (M at) → (s : R.Store) × Comes (From at Onward) s × Asks R Fine labels None asked s (J holds) (J fails) (J break) (J continue)
      → Asks R Fine labels None asked (J at) (J holds) (J fails) (J break) (J continue)
  ask_join asked at holds fails break continue settled (s, comes, asks) =
      asks_weaker R L Fine finer labels None asked (J at) s (J holds) (J fails) (J break) (J continue) (L.transitive (J at) (M at) s settled comes) asks

  -- the same from the label of a head
  from_head : (code : Code) (at number end break continue : ℕ) → labels number ≡ M at → (s : R.Store) × Comes (From at Onward) s × Flows R Fine labels None code s (J end) (J break) (J continue)
      → Flows R Fine labels None code (labels number) (J end) (J break) (J continue)
  from_head code at number end break continue is (s, comes, flow) =
      flows_weaker R L Fine finer labels None code (labels number) s (J end) (J break) (J continue) (subst (λ label. R.Below label s) (sym is) comes) flow

  ask_head : (asked : Condition) (at number holds fails break continue : ℕ) → labels number ≡ M at → (s : R.Store) × Comes (From at Onward) s × Asks R Fine labels None asked s (J holds) (J fails) (J break) (J continue)
      → Asks R Fine labels None asked (labels number) (J holds) (J fails) (J break) (J continue)
  ask_head asked at number holds fails break continue is (s, comes, asks) =
      asks_weaker R L Fine finer labels None asked (labels number) s (J holds) (J fails) (J break) (J continue) (subst (λ label. R.Below label s) (sym is) comes) asks

  dead : (code : Code) (end break continue : ℕ) → (s : R.Store) × Comes Unreached s × Flows R Fine labels None code s (J end) (J break) (J continue) → Flows R Fine labels None code R.nowhere (J end) (J break) (J continue)
  dead code end break continue (s, comes, flow) = flows_weaker R L Fine finer labels None code R.nowhere s (J end) (J break) (J continue) (L.nowhere_below s) flow

  mutual
    pub code_flows : (code : Code) (at : ℕ) (source : Source) (end break continue : ℕ) (parts : List Part)
        → Kept (code_parts code at source end break continue parts) → FlowFrom code source end break continue parts
    code_flows End at source end break continue parts kept =
        let c = came source end parts kept in
        ((J end, c.0, L.reflexive (J end)), c.1)
    code_flows (Do op code) at source end break continue parts (node, kept) =
        let c = came source at (code_parts code (suc at) (From at (Through op)) end break continue parts) kept in
        let r = code_flows code (suc at) (From at (Through op)) end break continue parts c.1 in
        ((M at, comes_up source (J at) (M at) c.0 node.0, (node.1, r.0.0, r.0.1, r.0.2)), r.1)
    code_flows (If asked first second code) at source end break continue parts (one, (two, (three, kept))) =
        let third = suc (suc (suc at)) in
        let holds = behind_condition asked third in
        let fails = behind_code first holds in
        let rest = code_parts code (behind_code second fails) (From (suc (suc at)) Onward) end break continue parts in
        let other = code_parts second fails (From (suc at) Onward) (suc (suc at)) break continue rest in
        let a = condition_flows asked third source at (suc at) break continue (code_parts first holds (From at Onward) (suc (suc at)) break continue other) kept in
        let f = code_flows first holds (From at Onward) (suc (suc at)) break continue other a.1 in
        let g = code_flows second fails (From (suc at) Onward) (suc (suc at)) break continue rest f.1 in
        let r = code_flows code (behind_code second fails) (From (suc (suc at)) Onward) end break continue parts g.1 in (
          (
            a.0.0,
            a.0.1,
            (
              J at,
              J (suc at),
              J (suc (suc at)),
              a.0.2,
              from_join first at (suc (suc at)) break continue one f.0,
              from_join second (suc at) (suc (suc at)) break continue two g.0,
              from_join code (suc (suc at)) end break continue three r.0,
            ),
          ),
          r.1,
        )
    code_flows (Break code) at source end break continue parts kept =
        let c = came source break (code_parts code at Unreached end break continue parts) kept in
        let r = code_flows code at Unreached end break continue parts c.1 in
        ((J break, c.0, (L.reflexive (J break), dead code end break continue r.0)), r.1)
    code_flows (Continue code) at source end break continue parts kept =
        let c = came source continue (code_parts code at Unreached end break continue parts) kept in
        let r = code_flows code at Unreached end break continue parts c.1 in
        ((J continue, c.0, (L.reflexive (J continue), dead code end break continue r.0)), r.1)
    code_flows (Return value span code) at source end break continue parts (node, kept) =
        let c = came source at (code_parts code (suc at) Unreached end break continue parts) kept in
        let r = code_flows code (suc at) Unreached end break continue parts c.1 in
        ((M at, comes_up source (J at) (M at) c.0 node.0, (node.1, dead code end break continue r.0)), r.1)
    code_flows (Throw name span code) at source end break continue parts (node, kept) =
        let c = came source at (code_parts code (suc at) Unreached end break continue parts) kept in
        let r = code_flows code (suc at) Unreached end break continue parts c.1 in
        ((J at, c.0, dead code end break continue r.0), r.1)
    code_flows (Loop true asked body next number scope code) at source end break continue parts (head, (one, (two, (three, kept)))) =
        let turn = suc at in
        let out = suc turn in
        let again = suc out in
        let second = behind_condition asked (suc again) in
        let third = behind_code body second in
        let rest = code_parts code (behind_code next third) (From out Onward) end break continue parts in
        let nexts = code_parts next third (From again Onward) at out continue rest in
        let bodies = code_parts body second (From turn Onward) again out again nexts in
        let c = came source at (condition_parts asked (suc again) (From at Onward) turn out out continue bodies) kept in
        let a = condition_flows asked (suc again) (From at Onward) turn out out continue bodies c.1 in
        let f = code_flows body second (From turn Onward) again out again nexts a.1 in
        let g = code_flows next third (From again Onward) at out continue rest f.1 in
        let r = code_flows code (behind_code next third) (From out Onward) end break continue parts g.1 in (
          (
            J at,
            c.0,
            (
              J turn,
              J again,
              J at,
              J out,
              (J at, L.reflexive (J at), L.reflexive (J at), subst (R.Rounded scope (J at)) (sym head.1) head.0),
              ask_head asked at number turn out out continue head.1 a.0,
              from_join body turn again out again one f.0,
              from_join next again at out continue three g.0,
              from_join code out end break continue two r.0,
            ),
          ),
          r.1,
        )
    code_flows (Loop false asked body next number scope code) at source end break continue parts (head, (one, (two, (three, kept)))) =
        let turn = suc at in
        let out = suc turn in
        let again = suc out in
        let second = behind_condition asked (suc again) in
        let third = behind_code body second in
        let rest = code_parts code (behind_code next third) (From out Onward) end break continue parts in
        let nexts = code_parts next third (From again Onward) turn out continue rest in
        let bodies = code_parts body second (From at Onward) again out again nexts in
        let c = came source at (condition_parts asked (suc again) (From turn Onward) at out out continue bodies) kept in
        let a = condition_flows asked (suc again) (From turn Onward) at out out continue bodies c.1 in
        let f = code_flows body second (From at Onward) again out again nexts a.1 in
        let g = code_flows next third (From again Onward) turn out continue rest f.1 in
        let r = code_flows code (behind_code next third) (From out Onward) end break continue parts g.1 in (
          (
            J at,
            c.0,
            (
              J again,
              J turn,
              J at,
              J out,
              (J at, L.reflexive (J at), L.reflexive (J at), subst (R.Rounded scope (J at)) (sym head.1) head.0),
              from_head body at number again out again head.1 f.0,
              from_join next again turn out continue three g.0,
              ask_join asked turn at out out continue one a.0,
              from_join code out end break continue two r.0,
            ),
          ),
          r.1,
        )

    pub condition_flows : (asked : Condition) (at : ℕ) (source : Source) (holds fails break continue : ℕ) (parts : List Part)
        → Kept (condition_parts asked at source holds fails break continue parts) → AskFrom asked source holds fails break continue parts
    condition_flows (Known true) at source holds fails break continue parts kept =
        let c = came source holds parts kept in
        ((J holds, c.0, L.reflexive (J holds)), c.1)
    condition_flows (Known false) at source holds fails break continue parts kept =
        let c = came source fails parts kept in
        ((J fails, c.0, L.reflexive (J fails)), c.1)
    condition_flows (Compare code test) at source holds fails break continue parts (node, (so, (fail, kept))) =
        let r = code_flows code (suc at) source at break continue parts kept in
        ((r.0.0, r.0.1, (J at, r.0.2, L.tested true test (J at) (M at) (J holds) (J holds) node so (L.reflexive (J holds)), L.tested false test (J at) (M at) (J fails) (J fails) node fail (L.reflexive (J fails)))), r.1)
    condition_flows (Truth code slot) at source holds fails break continue parts (node, (so, (fail, kept))) =
        let r = code_flows code (suc at) source at break continue parts kept in
        ((r.0.0, r.0.1, (J at, r.0.2, L.told true (last_done None code) slot (J at) (M at) (J holds) (J holds) node so (L.reflexive (J holds)), L.told false (last_done None code) slot (J at) (M at) (J fails) (J fails) node fail (L.reflexive (J fails)))), r.1)
    condition_flows (Both asked later) at source holds fails break continue parts (node, kept) =
        let rest = condition_parts later (behind_condition asked (suc at)) (From at Onward) holds fails break continue parts in
        let a = condition_flows asked (suc at) source at fails break continue rest kept in
        let b = condition_flows later (behind_condition asked (suc at)) (From at Onward) holds fails break continue parts a.1 in
        ((a.0.0, a.0.1, (J at, a.0.2, ask_join later at holds fails break continue node b.0)), b.1)
    condition_flows (Either asked later) at source holds fails break continue parts (node, kept) =
        let rest = condition_parts later (behind_condition asked (suc at)) (From at Onward) holds fails break continue parts in
        let a = condition_flows asked (suc at) source holds at break continue rest kept in
        let b = condition_flows later (behind_condition asked (suc at)) (From at Onward) holds fails break continue parts a.1 in
        ((a.0.0, a.0.1, (J at, a.0.2, ask_join later at holds fails break continue node b.0)), b.1)
    condition_flows (Opposite asked) at source holds fails break continue parts kept = condition_flows asked at source fails holds break continue parts kept

  -- a solution of the method's graph gives a flow of the method
  pub graph_flows : (body : Code) → Kept (method_parts body) → IsFlow R Fine labels body
  graph_flows body (start, (ends, kept)) =
      let r = code_flows body 2 (From 0 Onward) 1 1 1 [] kept in (
        M 0,
        J 1,
        start,
        flows_weaker R L Fine finer labels None body (M 0) r.0.0 (J 1) (J 1) (J 1) r.0.1 r.0.2,
        finer Ending (J 1) (M 1) ends.0 ends.1,
      )
