-- What is found with given landmarks is the least solution by the rules of the method.
use Rattle.std.proofs.Common.{◌≡◌, ◌<◌, ℕ, ℤ, List, [], ◌∷◌, length, sym, subst, ◌∙◌, arith}
use Rattle.std.proofs.lemmas.Option.{slice_get_within}
use Rattle.ix_core.specs.declared.fact.Profile.{Profile}
use Rattle.ix_core.specs.declared.program.Method.{Method}
use Rattle.ix_core.specs.declared.program.Program.{Program}
use Rattle.ix_core.specs.Code.{Code}
use Rattle.ix_facts.specs.MethodLandmarks.{method_numbers, AreLandmarksOf}
use Rattle.ix_facts.specs.Round.{rounded}
use Rattle.ix_facts.specs.Stores.{Stored, IsBelow, Gives}
use Rattle.ix_flow.specs.Flow.{Rules, Anything}
use Rattle.ix_graph.specs.declared.node.Edge.{Edge}
use Rattle.ix_graph.specs.Graph.{Kind, Starts, Does, Compares, Tells, Joins, Heads, Returns, Ends, Pass, Onward, Through, Testing, Telling, method_parts}
use Rattle.ix_graph.specs.GraphSolutions.{Carries, Settles, NodeAsks, label_at}
use Rattle.ix_graph.specs.Brought.{pass_of, kind_at, AllBring, Gathers}
use Rattle.ix_graph.specs.Built.{kinds_of, edges_of, edges_to}
use Rattle.ix_graph.proofs.NodesAsk.{asks, asked}
use Rattle.ix_sign.specs.MethodRules.{method_rules}
use Rattle.ix_sign.proofs.MethodLaws.{method_laws}
use Rattle.ix_solve.specs.Solutions.{IsSolution, IsLeast}
use Rattle.ix_labels.specs.Problem.{rules_with}
use Rattle.ix_labels.proofs.SameLandmarks.{one_landmarks}

module _ (program : Program) (method : Method) (profile : Profile) (marks : List ℤ) (landmarks : AreLandmarksOf program method marks) where
  abbrev W : Rules
  W = rules_with program method profile marks

  abbrev M : Rules
  M = method_rules program method profile

  carried : (one other : ℕ → Stored) (pass : Pass) (s t : Stored) → Carries W (Anything W) one pass s t → Carries M (Anything M) other pass s t
  carried one other Onward s t carries = carries
  carried one other (Through op) s t carries = carries
  carried one other (Testing answer test) s t carries = carries
  carried one other (Telling answer code slot) s t carries = carries

  carried_back : (one other : ℕ → Stored) (pass : Pass) (s t : Stored) → Carries M (Anything M) one pass s t → Carries W (Anything W) other pass s t
  carried_back one other Onward s t carries = carries
  carried_back one other (Through op) s t carries = carries
  carried_back one other (Testing answer test) s t carries = carries
  carried_back one other (Telling answer code slot) s t carries = carries

  module _ (kinds : ℕ → Kind) (labels : List Stored) where
    brought : (edges : List (ℕ × Edge)) (store : Stored) → AllBring (rules_with program method profile marks) kinds labels edges store → AllBring (method_rules program method profile) kinds labels edges store
    brought [] store all = tt
    brought (from ∷ edges) store all =
        (carried (λ number. store) (λ number. store) (pass_of (kinds from.0) from.1) (label_at (rules_with program method profile marks) labels from.0) store all.0, brought edges store all.1)

    brought_back : (edges : List (ℕ × Edge)) (store : Stored) → AllBring (method_rules program method profile) kinds labels edges store → AllBring (rules_with program method profile marks) kinds labels edges store
    brought_back [] store all = tt
    brought_back (from ∷ edges) store all =
        (carried_back (λ number. store) (λ number. store) (pass_of (kinds from.0) from.1) (label_at (method_rules program method profile) labels from.0) store all.0, brought_back edges store all.1)

  settled : (kind : Kind) (joined label : Stored) → Settles W (Anything W) (λ number. label) kind joined label → Settles M (Anything M) (λ number. label) kind joined label
  settled Starts joined label settles = settles
  settled (Does op) joined label settles = settles
  settled (Compares test) joined label settles = settles
  settled (Tells code slot) joined label settles = settles
  settled Joins joined label settles = settles
  settled (Heads number scope) joined label settles = ((marks, landmarks, settles.0), settles.1)
  settled (Returns value known span) joined label settles = settles
  settled Ends joined label settles = settles

  settled_back : (kind : Kind) (joined label : Stored) → Settles M (Anything M) (λ number. label) kind joined label → Settles W (Anything W) (λ number. label) kind joined label
  settled_back Starts joined label settles = settles
  settled_back (Does op) joined label settles = settles
  settled_back (Compares test) joined label settles = settles
  settled_back (Tells code slot) joined label settles = settles
  settled_back Joins joined label settles = settles
  settled_back (Heads number scope) joined label ((others, are, gives), same) =
      (subst (λ ms. Gives (rounded ms scope) joined label) (one_landmarks (method_numbers program method) others marks are landmarks) gives, same)
  settled_back (Returns value known span) joined label settles = settles
  settled_back Ends joined label settles = settles

  module _ (body : Code) (kinds : ℕ → Kind) (are : (at : ℕ) → kinds at ≡ kind_at (method_parts body) at) where
    -- kinds by another list of them
    brought_by : (R : List ℤ) (one other : ℕ → Kind) (labels : List Stored) (edges : List (ℕ × Edge)) (store : Stored) → ((at : ℕ) → one at ≡ other at) → AllBring (rules_with program method profile R) one labels edges store → AllBring (rules_with program method profile R) other labels edges store
    brought_by R one other labels [] store same all = tt
    brought_by R one other labels (from ∷ edges) store same all = (
      subst (λ k. Carries (rules_with program method profile R) (Anything (rules_with program method profile R)) (λ number. store) (pass_of k from.1) (label_at (rules_with program method profile R) labels from.0) store) (same from.0) all.0,
      brought_by R one other labels edges store same all.1,
    )

    abbrev GathersAt : ℕ → List Stored → Stored → Type 0
    GathersAt = Gathers (rules_with program method profile marks) kinds (λ at. edges_to at (edges_of (method_parts body)))

    pub asks_of : (at : ℕ) (labels : List Stored) (label : Stored) → GathersAt at labels label → NodeAsks (method_rules program method profile) (method_parts body) at labels label
    asks_of at labels label (joined, all, settles) =
        asks (method_rules program method profile) (method_laws program method profile) labels body at joined label
        (brought (kind_at (method_parts body)) labels (edges_to at (edges_of (method_parts body))) joined (brought_by marks kinds (kind_at (method_parts body)) labels (edges_to at (edges_of (method_parts body))) joined are all))
        (subst (λ k. Settles M (Anything M) (λ number. label) k joined label) (are at) (settled (kinds at) joined label settles))

    pub gathers_of : (at : ℕ) (labels : List Stored) (label : Stored) → at < length (kinds_of (method_parts body)) → NodeAsks (method_rules program method profile) (method_parts body) at labels label → GathersAt at labels label
    gathers_of at labels label within enough =
        let r = asked (method_rules program method profile) (method_laws program method profile) labels body at label within enough in (
          r.0,
          brought_by marks (kind_at (method_parts body)) kinds labels (edges_to at (edges_of (method_parts body))) r.0 (λ n. sym (are n)) (brought_back (kind_at (method_parts body)) labels (edges_to at (edges_of (method_parts body))) r.0 r.1),
          subst (λ k. Settles W (Anything W) (λ number. label) k r.0 label) (sym (are at)) (settled_back (kind_at (method_parts body) at) r.0 label r.2),
        )

    module _ (size count : ℕ) (stores : List Stored) (same : size ≡ count) (many : length (kinds_of (method_parts body)) ≡ count) where
      pub solved : IsSolution IsBelow size GathersAt stores → IsSolution IsBelow count (NodeAsks (method_rules program method profile) (method_parts body)) stores
      solved solution = record { len = solution.len ∙ same; above = λ at label found. asks_of at stores label (solution.above at label found) }

      pub least : IsLeast IsBelow size GathersAt stores → IsLeast IsBelow count (NodeAsks (method_rules program method profile) (method_parts body)) stores
      least is other solution = is other (record {
        len = solution.len ∙ sym same;
        above = λ at label found.
            let within : at < length (kinds_of (method_parts body)) = omega (arith, slice_get_within other at label found, solution.len, many) in
            gathers_of at other label within (solution.above at label found);
      })
