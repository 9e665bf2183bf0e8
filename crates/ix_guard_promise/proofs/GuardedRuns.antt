-- What a run of a guarded source shows is what the run of the source shows, or as much of it as was printed before a guard threw.
use Rattle.std.proofs.Common.{◌≡◌, ℕ, List, [], ◌∷◌, map, Option, Some, None, refl, sym, ap, ◌∙◌}
use Rattle.std.specs.Prelude.{slice_get}
use Rattle.std.proofs.lemmas.List.{append-nil}
use Rattle.ix_text.specs.declared.span.Span.{Span}
use Rattle.ix_core.specs.declared.claim.Type_.{Type_}
use Rattle.ix_core.specs.Heap.{Held, Null}
use Rattle.ix_core.specs.Machine.{Ended, result_shown}
use Rattle.ix_core.specs.Safe.{Input, input_values, input_heap}
use Rattle.ix_tree.specs.declared.decl.ClassDecl.{ClassDecl}
use Rattle.ix_tree.specs.declared.decl.Unit.{Unit as Source}
use Rattle.ix_meaning.specs.Resolved.{Names, names}
use Rattle.ix_meaning.specs.Classes as classes
use Rattle.ix_source.specs.Runs.{Result, Gives, Stops, Cuts}
use Rattle.ix_source.specs.Context.{type_declared}
use Rattle.ix_source.specs.Bodies.{Written, Whole, whole, method_run, context_of, calls_within}
use Rattle.ix_source.specs.Source.{shown_by, types_of, begun, run_of, source}
use Rattle.ix_guard.specs.Tests.{Site}
use Rattle.ix_guard_text.specs.Moved.{Move, moved_span}
use Rattle.ix_guard_text.specs.GuardedNames.{SaysMoved, IsMeant}
use Rattle.ix_guard_text.specs.GuardedPlaces.{Each, PlacedClass, PlacedSource}
use Rattle.ix_guard_promise.specs.Follows.{printed, FollowsRun, same, cut}
use Rattle.ix_guard_promise.specs.Follows as follows
use Rattle.ix_guard_promise.specs.Behind.{Like, now_of, Behind, both_give, both_stop, both_cut, thrown}
use Rattle.ix_guard_promise.proofs.WorldsBeside.{parents_same, outlines_same}
use Rattle.ix_guard_promise.proofs.MembersBeside.{Beside, entry_beside, WrittenFollows, WholeFollows, written_from_follow, classes_follow}
use Rattle.ix_guard_promise.proofs.BodiesFollow.{method_follows, context_follows, calls_follow}

module _ (move : Move) where
  shown_printed : (r : Result (Option Held)) → (shown_by r).events ≡ (now_of r).events
  shown_printed (Gives result now) = refl
  shown_printed (Stops ending now) = refl
  shown_printed (Cuts now) = refl

  shown_follows : (new old : Result (Option Held)) → Behind move (λ value other. value ≡ other) new old → FollowsRun move (shown_by new) (shown_by old)
  shown_follows _ _ (both_give value other n o is like) =
      same (Ended (result_shown n.heap value)) (Ended (result_shown o.heap other)) refl refl (ap (λ heap. result_shown heap value) like.heap ∙ ap (result_shown o.heap) is) like.events
  shown_follows _ _ (both_stop ending other n o is like) = same ending other refl refl is like.events
  shown_follows _ _ (both_cut n o like) = cut refl ([], sym like.events ∙ sym (append-nil (printed n.events)))
  shown_follows _ _ (thrown ending n old is (rest, e)) = follows.thrown ending refl is (rest, ap printed (shown_printed old) ∙ e)

  module _ (others : Names) (new old : Whole) (beside : WholeFollows move others new old) where
    types_moved : (params : List Span) → map (λ (param : Span). type_declared (new.names.declared param)) (map (moved_span move) params) ≡ map (λ (param : Span). type_declared (old.names.declared param)) params
    types_moved [] = refl
    types_moved (param ∷ params) = ap (λ ty. ty ∷ map (λ (param : Span). type_declared (new.names.declared param)) (map (moved_span move) params)) (ap type_declared (beside.names.declared param))
        ∙ ap (λ (tys : List Type_). type_declared (old.names.declared param) ∷ tys) (types_moved params)

    types_same : (kept made : Option Written) → Beside (WrittenFollows move others) kept made → types_of new.names made ≡ types_of old.names kept
    types_same None None is = refl
    types_same (Some kept) (Some made) is = ap (map (λ (param : Span). type_declared (new.names.declared param))) is.params ∙ types_moved kept.params
    types_same None (Some made) is = absurd is
    types_same (Some kept) None is = absurd is

    begun_like : (kept made : Option Written) → Beside (WrittenFollows move others) kept made → (inputs : List Input) → Like (begun new.names made inputs) (begun old.names kept inputs)
    begun_like kept made is inputs = record { variables = refl; heap = ap (input_heap inputs) (types_same kept made is); wrapped = refl; events = refl }

    -- Whatever stands beside each other.
    pub whole_follows : (method : ℕ) (inputs : List Input) (n : ℕ) → FollowsRun move (run_of new method inputs n) (run_of old method inputs n)
    whole_follows method inputs n =
        let here = context_of new n (calls_within new n n) in
        let there = context_of old n (calls_within old n n) in
        let kept = slice_get old.methods method in
        let made = slice_get new.methods method in
        let is = entry_beside (WrittenFollows move others) old.methods new.methods beside.methods method in
        shown_follows (method_run here made Null (input_values 0 inputs) (begun new.names made inputs)) (method_run there kept Null (input_values 0 inputs) (begun old.names kept inputs))
        (method_follows move others here there (context_follows move others new old beside n (calls_within new n n) (calls_within old n n)
        (calls_follow move others new old beside n n)) beside.these kept made is
        Null (input_values 0 inputs) (begun new.names made inputs) (begun old.names kept inputs) (begun_like kept made is inputs))

  -- ---- a guarded source beside the source

  whole_beside : (site : Site) (own others : Names) (cs ds : List ClassDecl) → SaysMoved own others move → Each (PlacedClass site move (IsMeant site.names others move)) cs ds
      → WholeFollows move others (whole others ds) (whole own cs)
  whole_beside site own others cs ds moved placed =
      let parents = parents_same site move (IsMeant site.names others move) cs ds placed in
      record {
        names = moved;
        these = refl;
        same = record {
          outlines = outlines_same site move (IsMeant site.names others move) cs ds placed;
          supers = λ class. ap (λ ps. classes.supers ps class) parents;
          new_methods = λ class name. refl;
          old_methods = λ class name. refl;
        };
        parent = λ class. ap (λ ps. classes.parent ps class) parents;
        methods = written_from_follow move others site 0 cs ds placed;
        classes = classes_follow move others site 0 0 cs ds placed;
      }

  -- Each run of T follows that of S where all that S has stands in T at its place moved, with tests before the statements: every method, on all inputs, with any number of turns and nested calls.
  pub guarded_runs_follow : (site : Site) (S T : Source) → SaysMoved (names S) (names T) move → PlacedSource site move (IsMeant site.names (names T) move) S T
      → (method : ℕ) (inputs : List Input) (n : ℕ) → FollowsRun move (source T method inputs n) (source S method inputs n)
  guarded_runs_follow site S T moved placed = whole_follows (names T) (whole (names T) T.classes) (whole (names S) S.classes) (whole_beside site (names S) (names T) S.classes T.classes moved placed)
