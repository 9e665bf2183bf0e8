-- Each edge of a method's graph carries what the node that it comes from gives.
use Rattle.std.proofs.Common.{◌≡◌, ◌+◌, ℕ, suc, true, false, List, [], ◌∷◌, slice_get, unwrap_or, arith, refl, sym, ap, ◌∙◌}
use Rattle.ix_core.specs.Code.{Code, End, Do, If, Break, Continue, Return, Throw, Loop, Condition, Known, Compare, Truth, Both, Either, Opposite}
use Rattle.ix_graph.specs.Built.{kinds_of, edge_of}
use Rattle.ix_graph.specs.Graph.{Kind, Does, Compares, Tells, Joins, Heads, Starts, Pass, Onward, Through, Testing, Telling, Part, NodePart, EdgePart, Source, Unreached, From, leads, behind_code, behind_condition, code_parts, condition_parts, method_parts, AreNumbered}
use Rattle.ix_graph.proofs.Numbers.{method_numbered}
use Rattle.ix_graph.specs.Brought.{pass_of, kind_at}

module _ (kinds : ℕ → Kind) where
  -- the nodes stand for what these say
  abbrev pub NodesAre : List Part → Type 0
  NodesAre [] = Unit {0}
  NodesAre (NodePart at kind ∷ parts) = (kinds at ≡ kind) × NodesAre parts
  NodesAre (EdgePart node pass target ∷ parts) = NodesAre parts

  abbrev pub Fits : ℕ → Pass → Type 0
  Fits node pass = pass_of (kinds node) (edge_of pass) ≡ pass

  abbrev pub EdgesFit : List Part → Type 0
  EdgesFit [] = Unit {0}
  EdgesFit (NodePart at kind ∷ parts) = EdgesFit parts
  EdgesFit (EdgePart node pass target ∷ parts) = Fits node pass × EdgesFit parts

  abbrev SourceFits : Source → Type 0
  SourceFits Unreached = Unit {0}
  SourceFits (From node pass) = Fits node pass

  -- from a node of this kind
  fits : (node : ℕ) (kind : Kind) (pass : Pass) → kinds node ≡ kind → pass_of kind (edge_of pass) ≡ pass → Fits node pass
  fits node kind pass is carries = ap (λ k. pass_of k (edge_of pass)) is ∙ carries

  leads_fit : (source : Source) (target : ℕ) (parts : List Part) → SourceFits source → NodesAre (leads source target parts) → (NodesAre parts → EdgesFit parts) → EdgesFit (leads source target parts)
  leads_fit Unreached target parts from nodes rest = rest nodes
  leads_fit (From node pass) target parts from nodes rest = (from, rest nodes)

  mutual
    code_fits : (code : Code) (at : ℕ) (source : Source) (end break continue : ℕ) (parts : List Part) → SourceFits source → NodesAre (code_parts code at source end break continue parts) → (NodesAre parts → EdgesFit parts)
        → EdgesFit (code_parts code at source end break continue parts)
    code_fits End at source end break continue parts from nodes rest = leads_fit source end parts from nodes rest
    code_fits (Do op code) at source end break continue parts from nodes rest =
        leads_fit source at _ from nodes.1 (λ more. code_fits code (suc at) (From at (Through op)) end break continue parts (fits at (Does op) (Through op) nodes.0 refl) more rest)
    code_fits (If asked first second code) at source end break continue parts from nodes rest =
        let holds = behind_condition asked (suc (suc (suc at))) in
        let fails = behind_code first holds in
        condition_fits asked (suc (suc (suc at))) source at (suc at) break continue _ from nodes.1.1.1
        (λ one. code_fits first holds (From at Onward) (suc (suc at)) break continue _ (fits at Joins Onward nodes.0 refl) one
        (λ two. code_fits second fails (From (suc at) Onward) (suc (suc at)) break continue _ (fits (suc at) Joins Onward nodes.1.0 refl) two
        (λ more. code_fits code (behind_code second fails) (From (suc (suc at)) Onward) end break continue parts (fits (suc (suc at)) Joins Onward nodes.1.1.0 refl) more rest)))
    code_fits (Break code) at source end break continue parts from nodes rest = leads_fit source break _ from nodes (λ more. code_fits code at Unreached end break continue parts tt more rest)
    code_fits (Continue code) at source end break continue parts from nodes rest = leads_fit source continue _ from nodes (λ more. code_fits code at Unreached end break continue parts tt more rest)
    code_fits (Return value span code) at source end break continue parts from nodes rest = leads_fit source at _ from nodes.1 (λ more. code_fits code (suc at) Unreached end break continue parts tt more rest)
    code_fits (Throw name span code) at source end break continue parts from nodes rest = leads_fit source at _ from nodes.1 (λ more. code_fits code (suc at) Unreached end break continue parts tt more rest)
    code_fits (Loop true asked body next number scope code) at source end break continue parts from nodes rest =
        let first = suc (suc (suc (suc at))) in
        let second = behind_condition asked first in
        let third = behind_code body second in
        leads_fit source at _ from nodes.1.1.1.1
        (λ zero. condition_fits asked first (From at Onward) (suc at) (suc (suc at)) (suc (suc at)) continue _ (fits at (Heads number scope) Onward nodes.0 refl) zero
        (λ one. code_fits body second (From (suc at) Onward) (suc (suc (suc at))) (suc (suc at)) (suc (suc (suc at))) _ (fits (suc at) Joins Onward nodes.1.0 refl) one
        (λ two. code_fits next third (From (suc (suc (suc at))) Onward) at (suc (suc at)) continue _ (fits (suc (suc (suc at))) Joins Onward nodes.1.1.1.0 refl) two
        (λ more. code_fits code (behind_code next third) (From (suc (suc at)) Onward) end break continue parts (fits (suc (suc at)) Joins Onward nodes.1.1.0 refl) more rest))))
    code_fits (Loop false asked body next number scope code) at source end break continue parts from nodes rest =
        let first = suc (suc (suc (suc at))) in
        let second = behind_condition asked first in
        let third = behind_code body second in
        leads_fit source at _ from nodes.1.1.1.1
        (λ zero. condition_fits asked first (From (suc at) Onward) at (suc (suc at)) (suc (suc at)) continue _ (fits (suc at) Joins Onward nodes.1.0 refl) zero
        (λ one. code_fits body second (From at Onward) (suc (suc (suc at))) (suc (suc at)) (suc (suc (suc at))) _ (fits at (Heads number scope) Onward nodes.0 refl) one
        (λ two. code_fits next third (From (suc (suc (suc at))) Onward) (suc at) (suc (suc at)) continue _ (fits (suc (suc (suc at))) Joins Onward nodes.1.1.1.0 refl) two
        (λ more. code_fits code (behind_code next third) (From (suc (suc at)) Onward) end break continue parts (fits (suc (suc at)) Joins Onward nodes.1.1.0 refl) more rest))))

    condition_fits : (asked : Condition) (at : ℕ) (source : Source) (holds fails break continue : ℕ) (parts : List Part) → SourceFits source → NodesAre (condition_parts asked at source holds fails break continue parts)
        → (NodesAre parts → EdgesFit parts) → EdgesFit (condition_parts asked at source holds fails break continue parts)
    condition_fits (Known true) at source holds fails break continue parts from nodes rest = leads_fit source holds parts from nodes rest
    condition_fits (Known false) at source holds fails break continue parts from nodes rest = leads_fit source fails parts from nodes rest
    condition_fits (Compare code test) at source holds fails break continue parts from nodes rest =
        (fits at (Compares test) (Testing true test) nodes.0 refl, (fits at (Compares test) (Testing false test) nodes.0 refl, code_fits code (suc at) source at break continue parts from nodes.1 rest))
    condition_fits (Truth code slot) at source holds fails break continue parts from nodes rest =
        (fits at (Tells code slot) (Telling true code slot) nodes.0 refl, (fits at (Tells code slot) (Telling false code slot) nodes.0 refl, code_fits code (suc at) source at break continue parts from nodes.1 rest))
    condition_fits (Both first second) at source holds fails break continue parts from nodes rest =
        condition_fits first (suc at) source at fails break continue _ from nodes.1
        (λ more. condition_fits second (behind_condition first (suc at)) (From at Onward) holds fails break continue parts (fits at Joins Onward nodes.0 refl) more rest)
    condition_fits (Either first second) at source holds fails break continue parts from nodes rest =
        condition_fits first (suc at) source holds at break continue _ from nodes.1
        (λ more. condition_fits second (behind_condition first (suc at)) (From at Onward) holds fails break continue parts (fits at Joins Onward nodes.0 refl) more rest)
    condition_fits (Opposite asked) at source holds fails break continue parts from nodes rest = condition_fits asked at source fails holds break continue parts from nodes rest

-- the nodes of numbered parts stand for what is found by their numbers
numbered_are : (all parts : List Part) (at : ℕ) → AreNumbered at parts → ((k : ℕ) → slice_get (kinds_of parts) k ≡ slice_get (kinds_of all) (at + k)) → NodesAre (kind_at all) parts
numbered_are all [] at numbered same = tt
numbered_are all (NodePart number kind ∷ parts) at numbered same = (
  (let e : at + 0 ≡ number = omega (arith, numbered.0) in ap (λ o. unwrap_or o Joins) (ap (slice_get (kinds_of all)) (sym e) ∙ sym (same 0))),
  numbered_are all parts (suc at) numbered.1 (λ k. same (suc k) ∙ (let e : at + suc k ≡ suc at + k = omega arith in ap (slice_get (kinds_of all)) e)),
)
numbered_are all (EdgePart node pass target ∷ parts) at numbered same = numbered_are all parts at numbered same

pub method_nodes : (body : Code) → NodesAre (kind_at (method_parts body)) (method_parts body)
method_nodes body = numbered_are (method_parts body) (method_parts body) 0 (method_numbered body) (λ k. let e : k ≡ 0 + k = omega arith in ap (slice_get (kinds_of (method_parts body))) e)

pub method_fits : (body : Code) → EdgesFit (kind_at (method_parts body)) (method_parts body)
method_fits body =
    let nodes = method_nodes body in
    code_fits (kind_at (method_parts body)) body 2 (From 0 Onward) 1 1 1 [] (fits (kind_at (method_parts body)) 0 Starts Onward nodes.0 refl) nodes.1.1 (λ none. tt)
