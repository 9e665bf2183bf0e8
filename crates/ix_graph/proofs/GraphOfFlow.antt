-- A flow of a method gives a solution of its graph, with the flow's labels at the heads.
use Rattle.std.proofs.Common.{ℕ, suc, true, false, ◌≡◌, sym, subst, List, [], ◌∷◌, Option, None, Some}
use Rattle.ix_core.specs.declared.op.Op.{Op}
use Rattle.ix_core.specs.Code.{Code, End, Do, If, Break, Continue, Return, Throw, Loop, Condition, Known, Compare, Truth, Both, Either, Opposite}
use Rattle.ix_core.specs.Posts.{last_done, written_answer}
use Rattle.ix_flow.specs.Flow.{Point, Doing, Returning, Ending, Rules, RulesLaws, Flows, Asks, IsFlow}
use Rattle.ix_graph.specs.Graph.{done_at, Onward, Through, Part, Source, Unreached, From, leads, behind_code, behind_condition, code_parts, condition_parts, method_parts}
use Rattle.ix_graph.specs.GraphSolutions.{AllKeep}
use Rattle.ix_graph.proofs.FlowOfGraph.{Comes, comes_up}

module _ (R : Rules) (L : RulesLaws R) (Fine : Point → R.Store → Type 0) (finer : (point : Point) (s t : R.Store) → R.Below s t → Fine point t → Fine point s)
    (labels : ℕ → R.Store) where
  -- of each node in the order of the numbers: the store that its edges join to, and its label
  pub record Place : Type 0 where
    pub joined : R.Store
    pub label : R.Store

  abbrev pub both : R.Store → Place
  both s = record { joined = s; label = s }

  abbrev mutual
    pub flow_places : (last : Option Op) (code : Code) (s e b k : R.Store) → Flows R Fine labels last code s e b k → List Place → List Place
    flow_places last End s e b k flow more = more
    flow_places last (Do op code) s e b k (fine, u, after, flow) more = both s ∷ flow_places (Some op) code u e b k flow more
    flow_places last (If asked first second code) s e b k (h, f, j, asks, one, two, three) more =
        both h ∷ both f ∷ both j ∷ ask_places last asked s h f b k asks (flow_places None first h j b k one (flow_places None second f j b k two (flow_places None code j e b k three more)))
    flow_places last (Break code) s e b k (jump, flow) more = flow_places None code R.nowhere e b k flow more
    flow_places last (Continue code) s e b k (jump, flow) more = flow_places None code R.nowhere e b k flow more
    flow_places last (Return value span code) s e b k (fine, flow) more = both s ∷ flow_places None code R.nowhere e b k flow more
    flow_places last (Throw name span code) s e b k flow more = both s ∷ flow_places None code R.nowhere e b k flow more
    flow_places last (Loop true asked body next number scope code) s e b k (turn, again, back, out, (j, entry, way, mark), asks, one, two, three) more =
        record { joined = j; label = labels number } ∷ both turn ∷ both out ∷ both again
        ∷ ask_places None asked (labels number) turn out out k asks (flow_places None body turn again out again one (flow_places None next again back out k two (flow_places None code out e b k three more)))
    flow_places last (Loop false asked body next number scope code) s e b k (again, tested, back, out, (j, entry, way, mark), one, two, asks, three) more =
        record { joined = j; label = labels number } ∷ both tested ∷ both out ∷ both again
        ∷ ask_places None asked tested back out out k asks (flow_places None body (labels number) again out again one (flow_places None next again tested out k two (flow_places None code out e b k three more)))

    pub ask_places : (last : Option Op) (asked : Condition) (s h f b k : R.Store) → Asks R Fine labels last asked s h f b k → List Place → List Place
    ask_places last (Known true) s h f b k asks more = more
    ask_places last (Known false) s h f b k asks more = more
    ask_places last (Compare code test) s h f b k (u, flow, so, fail) more = both u ∷ flow_places last code s u b k flow more
    ask_places last (Truth code slot) s h f b k (u, flow, so, fail) more = both u ∷ flow_places last code s u b k flow more
    ask_places last (Both asked later) s h f b k (u, one, two) more = both u ∷ ask_places last asked s u f b k one (ask_places None later u h f b k two more)
    ask_places last (Either asked later) s h f b k (u, one, two) more = both u ∷ ask_places last asked s h u b k one (ask_places None later u h f b k two more)
    ask_places last (Opposite asked) s h f b k asks more = ask_places last asked s f h b k asks more

  module _ (J M : ℕ → R.Store) where
    -- the two functions have these places from a number on
    abbrev pub Agree : ℕ → List Place → Type 0
    Agree at [] = Unit {0}
    Agree at (place ∷ places) = ((J at ≡ place.joined) × (M at ≡ place.label)) × Agree (suc at) places

    abbrev Kept : List Part → Type 0
    Kept parts = AllKeep R Fine labels J M parts

    abbrev Reaches : Source → R.Store → Type 0
    Reaches = Comes R L Fine finer labels J M

    lead : (source : Source) (target : ℕ) (parts : List Part) → Reaches source (J target) → Kept parts → Kept (leads source target parts)
    lead Unreached target parts comes kept = kept
    lead (From node pass) target parts comes kept = (comes, kept)

    lead_to : (source : Source) (target : ℕ) (s : R.Store) (parts : List Part) → Reaches source s → R.Below s (J target) → Kept parts → Kept (leads source target parts)
    lead_to source target s parts comes below kept = lead source target parts (comes_up R L Fine finer labels J M source s (J target) comes below) kept

    same : (s t : R.Store) → s ≡ t → R.Below s t
    same s t is = subst (R.Below s) is (L.reflexive s)

    settled : (at : ℕ) (s : R.Store) → (J at ≡ s) × (M at ≡ s) → R.Below (J at) (M at)
    settled at s is = subst (R.Below (J at)) (sym is.1) (same (J at) s is.0)

    -- at a node the label and the joined store are the flow's store
    into : (at : ℕ) (s : R.Store) → J at ≡ s → R.Below s (J at)
    into at s is = subst (λ t. R.Below t (J at)) is (L.reflexive (J at))

    out_of : (at : ℕ) (s : R.Store) → M at ≡ s → R.Below (M at) s
    out_of at s is = same (M at) s is

    mutual
      pub code_kept : (code : Code) (at : ℕ) (source : Source) (end break continue : ℕ) (parts : List Part) (s e b k : R.Store) (flow : Flows R Fine labels (done_at source) code s e b k) (more : List Place)
          → Agree at (flow_places (done_at source) code s e b k flow more) → Reaches source s → R.Below e (J end) → R.Below b (J break) → R.Below k (J continue)
          → (Agree (behind_code code at) more → Kept parts) → Kept (code_parts code at source end break continue parts)
      code_kept End at source end break continue parts s e b k flow more agree comes es bs ks rest =
          lead_to source end s parts comes (L.transitive s e (J end) flow es) (rest agree)
      code_kept (Do op code) at source end break continue parts s e b k (fine, u, after, flow) more (is, agree) comes es bs ks rest = (
        (settled at s is, subst (Fine (Doing op)) (sym is.1) fine),
        lead_to source at s (code_parts code (suc at) (From at (Through op)) end break continue parts) comes (into at s is.0)
            (code_kept code (suc at) (From at (Through op)) end break continue parts u e b k flow more agree (subst (λ t. R.After op t u) (sym is.1) after) es bs ks rest),
      )
      code_kept (If asked first second code) at source end break continue parts s e b k (h, f, j, asks, one, two, three) more (is_h, (is_f, (is_j, agree))) comes es bs ks rest =
          let third = suc (suc (suc at)) in
          let holds = behind_condition asked third in
          let fails = behind_code first holds in
          let join = suc (suc at) in
          let last = code_parts code (behind_code second fails) (From join Onward) end break continue parts in
          let other = code_parts second fails (From (suc at) Onward) join break continue last in
          let more3 = flow_places None code j e b k three more in
          let more2 = flow_places None second f j b k two more3 in (
            settled at h is_h,
            (
              settled (suc at) f is_f,
              (
                settled join j is_j,
                condition_kept asked third source at (suc at) break continue (code_parts first holds (From at Onward) join break continue other) s h f b k asks (flow_places None first h j b k one more2) agree comes
                    (into at h is_h.0) (into (suc at) f is_f.0) bs ks
                    (λ agree1. code_kept first holds (From at Onward) join break continue other h j b k one more2 agree1 (out_of at h is_h.1) (into join j is_j.0) bs ks
                    (λ agree2. code_kept second fails (From (suc at) Onward) join break continue last f j b k two more3 agree2 (out_of (suc at) f is_f.1) (into join j is_j.0) bs ks
                    (λ agree3. code_kept code (behind_code second fails) (From join Onward) end break continue parts j e b k three more agree3 (out_of join j is_j.1) es bs ks rest))),
              ),
            ),
          )
      code_kept (Break code) at source end break continue parts s e b k (jump, flow) more agree comes es bs ks rest =
          lead_to source break s (code_parts code at Unreached end break continue parts) comes (L.transitive s b (J break) jump bs)
          (code_kept code at Unreached end break continue parts R.nowhere e b k flow more agree tt es bs ks rest)
      code_kept (Continue code) at source end break continue parts s e b k (jump, flow) more agree comes es bs ks rest =
          lead_to source continue s (code_parts code at Unreached end break continue parts) comes (L.transitive s k (J continue) jump ks)
          (code_kept code at Unreached end break continue parts R.nowhere e b k flow more agree tt es bs ks rest)
      code_kept (Return value span code) at source end break continue parts s e b k (fine, flow) more (is, agree) comes es bs ks rest = (
        (settled at s is, subst (Fine (Returning value (written_answer (done_at source) value) span)) (sym is.1) fine),
        lead_to source at s (code_parts code (suc at) Unreached end break continue parts) comes (into at s is.0)
            (code_kept code (suc at) Unreached end break continue parts R.nowhere e b k flow more agree tt es bs ks rest),
      )
      code_kept (Throw name span code) at source end break continue parts s e b k flow more (is, agree) comes es bs ks rest = (
        settled at s is,
        lead_to source at s (code_parts code (suc at) Unreached end break continue parts) comes (into at s is.0)
            (code_kept code (suc at) Unreached end break continue parts R.nowhere e b k flow more agree tt es bs ks rest),
      )
      code_kept (Loop true asked body next number scope code) at source end break continue parts s e b k (turn, again, back, out, (j, entry, way, mark), asks, one, two, three) more (is, (is_t, (is_o, (is_a, agree)))) comes es bs ks rest =
          let at_turn = suc at in
          let at_out = suc at_turn in
          let at_again = suc at_out in
          let second = behind_condition asked (suc at_again) in
          let third = behind_code body second in
          let last = code_parts code (behind_code next third) (From at_out Onward) end break continue parts in
          let nexts = code_parts next third (From at_again Onward) at at_out continue last in
          let bodies = code_parts body second (From at_turn Onward) at_again at_out at_again nexts in
          let more3 = flow_places None code out e b k three more in
          let more2 = flow_places None next again back out k two more3 in
          let to_out = into at_out out is_o.0 in
          let to_again = into at_again again is_a.0 in
          let to_head : R.Below j (J at) = into at j is.0 in (
            (subst (λ t. R.Rounded scope t (M at)) (sym is.0) (subst (R.Rounded scope j) (sym is.1) mark), sym is.1),
            (
              settled at_turn turn is_t,
              (
                settled at_out out is_o,
                (
                  settled at_again again is_a,
                  lead_to source at s (condition_parts asked (suc at_again) (From at Onward) at_turn at_out at_out continue bodies) comes (L.transitive s j (J at) entry to_head)
                      (condition_kept asked (suc at_again) (From at Onward) at_turn at_out at_out continue bodies (labels number) turn out out k asks (flow_places None body turn again out again one more2) agree
                      (out_of at (labels number) is.1) (into at_turn turn is_t.0) to_out to_out ks
                      (λ agree1. code_kept body second (From at_turn Onward) at_again at_out at_again nexts turn again out again one more2 agree1 (out_of at_turn turn is_t.1) to_again to_out to_again
                      (λ agree2. code_kept next third (From at_again Onward) at at_out continue last again back out k two more3 agree2 (out_of at_again again is_a.1) (L.transitive back j (J at) way to_head) to_out ks
                      (λ agree3. code_kept code (behind_code next third) (From at_out Onward) end break continue parts out e b k three more agree3 (out_of at_out out is_o.1) es bs ks rest)))),
                ),
              ),
            ),
          )
      code_kept (Loop false asked body next number scope code) at source end break continue parts s e b k (again, tested, back, out, (j, entry, way, mark), one, two, asks, three) more (is, (is_t, (is_o, (is_a, agree)))) comes es bs ks rest =
          let at_turn = suc at in
          let at_out = suc at_turn in
          let at_again = suc at_out in
          let second = behind_condition asked (suc at_again) in
          let third = behind_code body second in
          let last = code_parts code (behind_code next third) (From at_out Onward) end break continue parts in
          let nexts = code_parts next third (From at_again Onward) at_turn at_out continue last in
          let bodies = code_parts body second (From at Onward) at_again at_out at_again nexts in
          let more3 = flow_places None code out e b k three more in
          let more2 = flow_places None next again tested out k two more3 in
          let to_out = into at_out out is_o.0 in
          let to_again = into at_again again is_a.0 in
          let to_head : R.Below j (J at) = into at j is.0 in (
            (subst (λ t. R.Rounded scope t (M at)) (sym is.0) (subst (R.Rounded scope j) (sym is.1) mark), sym is.1),
            (
              settled at_turn tested is_t,
              (
                settled at_out out is_o,
                (
                  settled at_again again is_a,
                  lead_to source at s (condition_parts asked (suc at_again) (From at_turn Onward) at at_out at_out continue bodies) comes (L.transitive s j (J at) entry to_head)
                      (condition_kept asked (suc at_again) (From at_turn Onward) at at_out at_out continue bodies tested back out out k asks (flow_places None body (labels number) again out again one more2) agree
                      (out_of at_turn tested is_t.1) (L.transitive back j (J at) way to_head) to_out to_out ks
                      (λ agree1. code_kept body second (From at Onward) at_again at_out at_again nexts (labels number) again out again one more2 agree1 (out_of at (labels number) is.1) to_again to_out to_again
                      (λ agree2. code_kept next third (From at_again Onward) at_turn at_out continue last again tested out k two more3 agree2 (out_of at_again again is_a.1) (into at_turn tested is_t.0) to_out ks
                      (λ agree3. code_kept code (behind_code next third) (From at_out Onward) end break continue parts out e b k three more agree3 (out_of at_out out is_o.1) es bs ks rest)))),
                ),
              ),
            ),
          )

      pub condition_kept : (asked : Condition) (at : ℕ) (source : Source) (holds fails break continue : ℕ) (parts : List Part) (s h f b k : R.Store) (asks : Asks R Fine labels (done_at source) asked s h f b k) (more : List Place)
          → Agree at (ask_places (done_at source) asked s h f b k asks more) → Reaches source s → R.Below h (J holds) → R.Below f (J fails) → R.Below b (J break) → R.Below k (J continue)
          → (Agree (behind_condition asked at) more → Kept parts) → Kept (condition_parts asked at source holds fails break continue parts)
      condition_kept (Known true) at source holds fails break continue parts s h f b k asks more agree comes hs fs bs ks rest =
          lead_to source holds s parts comes (L.transitive s h (J holds) asks hs) (rest agree)
      condition_kept (Known false) at source holds fails break continue parts s h f b k asks more agree comes hs fs bs ks rest =
          lead_to source fails s parts comes (L.transitive s f (J fails) asks fs) (rest agree)
      condition_kept (Compare code test) at source holds fails break continue parts s h f b k (u, flow, so, fail) more (is, agree) comes hs fs bs ks rest = (
        settled at u is,
        (
          L.tested true test (M at) u h (J holds) (out_of at u is.1) so hs,
          (
            L.tested false test (M at) u f (J fails) (out_of at u is.1) fail fs,
            code_kept code (suc at) source at break continue parts s u b k flow more agree comes (into at u is.0) bs ks rest,
          ),
        ),
      )
      condition_kept (Truth code slot) at source holds fails break continue parts s h f b k (u, flow, so, fail) more (is, agree) comes hs fs bs ks rest = (
        settled at u is,
        (
          L.told true (last_done None code) slot (M at) u h (J holds) (out_of at u is.1) so hs,
          (
            L.told false (last_done None code) slot (M at) u f (J fails) (out_of at u is.1) fail fs,
            code_kept code (suc at) source at break continue parts s u b k flow more agree comes (into at u is.0) bs ks rest,
          ),
        ),
      )
      condition_kept (Both asked later) at source holds fails break continue parts s h f b k (u, one, two) more (is, agree) comes hs fs bs ks rest =
          let second = behind_condition asked (suc at) in (
            settled at u is,
            condition_kept asked (suc at) source at fails break continue (condition_parts later second (From at Onward) holds fails break continue parts) s u f b k one (ask_places None later u h f b k two more) agree comes
                (into at u is.0) fs bs ks
                (λ agree1. condition_kept later second (From at Onward) holds fails break continue parts u h f b k two more agree1 (out_of at u is.1) hs fs bs ks rest),
          )
      condition_kept (Either asked later) at source holds fails break continue parts s h f b k (u, one, two) more (is, agree) comes hs fs bs ks rest =
          let second = behind_condition asked (suc at) in (
            settled at u is,
            condition_kept asked (suc at) source holds at break continue (condition_parts later second (From at Onward) holds fails break continue parts) s h u b k one (ask_places None later u h f b k two more) agree comes
                hs (into at u is.0) bs ks
                (λ agree1. condition_kept later second (From at Onward) holds fails break continue parts u h f b k two more agree1 (out_of at u is.1) hs fs bs ks rest),
          )
      condition_kept (Opposite asked) at source holds fails break continue parts s h f b k asks more agree comes hs fs bs ks rest =
          condition_kept asked at source fails holds break continue parts s f h b k asks more agree comes fs hs bs ks rest

  -- all places of a method's nodes
  abbrev pub method_places : (body : Code) → IsFlow R Fine labels body → List Place
  method_places body (entry, end, begins, flow, fine) = both entry ∷ both end ∷ flow_places None body entry end end end flow []

  pub flow_kept : (body : Code) (flow : IsFlow R Fine labels body) (J M : ℕ → R.Store) → Agree J M 0 (method_places body flow) → AllKeep R Fine labels J M (method_parts body)
  flow_kept body (entry, end, begins, flow, fine) J M (is, (is_end, agree)) = (
    subst R.Entry (sym is.1) begins,
    (
      (settled J M 1 end is_end, subst (Fine Ending) (sym is_end.1) fine),
      code_kept J M body 2 (From 0 Onward) 1 1 1 [] entry end end end flow [] agree (out_of J M 0 entry is.1) (into J M 1 end is_end.0) (into J M 1 end is_end.0) (into J M 1 end is_end.0) (λ _. tt),
    ),
  )
