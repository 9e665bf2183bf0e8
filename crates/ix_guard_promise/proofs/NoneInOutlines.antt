-- Where no access of a statement's outline is at a place, no access in the statement is.
use Rattle.std.proofs.Common.{◌≡◌, List, [], ◌∷◌, ◌++◌, map, Some, None, sym, subst}
use Rattle.ix_text.specs.declared.span.Span.{Span}
use Rattle.ix_tree.specs.declared.stmt.Stmt.{Stmt, Stmt-F, ind-Stmt, map-Stmt, roll-Stmt, fold-roll-Stmt}
use Rattle.ix_tree.specs.declared.stmt.StmtKind.{StmtKind, StmtKind-F, map-StmtKind, roll-StmtKind, fold-StmtKind, fold-roll-StmtKind}
use Rattle.ix_formed.proofs.NumberLists.{all_joined}
use Rattle.ix_guard.specs.Tests.{Site}
use Rattle.ix_guard_promise.specs.AllAccesses.{AnyAccess, all, maybe, each_of, all_accesses, decl_accesses}
use Rattle.ix_guard_promise.specs.AtPlace as at_place
use Rattle.ix_guard_promise.specs.AtPlace.{IsOff, HasNone, stmt_accesses}
use Rattle.ix_guard_promise.specs.Outlines as outlines
use Rattle.ix_guard_promise.specs.Outlines.{Outline, followed, joined, everything, outline}
use Rattle.ix_guard_promise.proofs.Outlined.{none_split, none_followed}

module _ (site : Site) (place : Span) where
  join : (xs ys : List AnyAccess) → HasNone place xs → HasNone place ys → HasNone place (xs ++ ys)
  join xs ys a b = all_joined (IsOff place) xs ys a b

  -- it stands at the end of a list
  alone : (xs : List AnyAccess) → HasNone place (xs ++ []) → HasNone place xs
  alone xs none = (none_split place xs [] none).0

  abbrev kind_outline : StmtKind → Outline
  kind_outline = fold-StmtKind Outline Outline (outlines.kind_step site) outlines.stmt_step

  abbrev kind_accesses : StmtKind → List AnyAccess
  kind_accesses = fold-StmtKind (List AnyAccess) (List AnyAccess) at_place.stmt_kind_step at_place.stmt_step

  abbrev Holds : Outline → List AnyAccess → Type 0
  Holds o accesses = HasNone place (everything o) → HasNone place accesses

  abbrev KindIs : StmtKind → Type 0
  KindIs k = Holds (kind_outline k) (kind_accesses k)

  abbrev StmtIs : Stmt → Type 0
  StmtIs s = Holds (outline site s) (stmt_accesses s)

  moved : {o q : Outline} {xs ys : List AnyAccess} → o ≡ q → xs ≡ ys → Holds q ys → Holds o xs
  moved {o} {q} {xs} {ys} a b holds = subst (λ x. Holds x xs) (sym a) (subst (λ x. Holds q x) (sym b) holds)

  module _ {K S : Type 0} (kind : K → StmtKind) (stmt : S → Stmt) (stmt_is : (s : S) → StmtIs (stmt s)) where
    all_none : (ss : List S) → HasNone place (everything (joined (map (outline site) (map stmt ss)))) → HasNone place (all (map stmt_accesses (map stmt ss)))
    all_none [] none = tt
    all_none (s ∷ ss) none =
        let q = none_followed place (outline site (stmt s)) (joined (map (outline site) (map stmt ss))) none in
        join (stmt_accesses (stmt s)) (all (map stmt_accesses (map stmt ss))) (stmt_is s q.0) (all_none ss q.1)

    kind_layer : (y : StmtKind-F K S) → Holds
        (outlines.kind_step site (map-StmtKind StmtKind Stmt Outline Outline kind_outline (outline site) (map-StmtKind K S StmtKind Stmt kind stmt y)))
        (at_place.stmt_kind_step (map-StmtKind StmtKind Stmt (List AnyAccess) (List AnyAccess) kind_accesses stmt_accesses (map-StmtKind K S StmtKind Stmt kind stmt y)))
    kind_layer (StmtKind-F.Block ss) none = all_none ss (alone (everything (joined (map (outline site) (map stmt ss)))) none)
    kind_layer StmtKind-F.Empty none = tt
    kind_layer (StmtKind-F.Local decls) none = alone (each_of decl_accesses decls) none
    kind_layer (StmtKind-F.If condition first None) none =
        let q = none_split place (all_accesses condition) (everything (outline site (stmt first)) ++ []) none in
        join (all_accesses condition) (stmt_accesses (stmt first) ++ []) q.0
        (join (stmt_accesses (stmt first)) [] (stmt_is first (alone (everything (outline site (stmt first))) q.1)) tt)
    kind_layer (StmtKind-F.If condition first (Some second)) none =
        let both = followed (outline site (stmt first)) (outline site (stmt second)) in
        let q = none_split place (all_accesses condition) (everything both ++ []) none in
        let r = none_followed place (outline site (stmt first)) (outline site (stmt second)) (alone (everything both) q.1) in
        join (all_accesses condition) (stmt_accesses (stmt first) ++ stmt_accesses (stmt second)) q.0
        (join (stmt_accesses (stmt first)) (stmt_accesses (stmt second)) (stmt_is first r.0) (stmt_is second r.1))
    kind_layer (StmtKind-F.While condition turn) none =
        let q = none_split place (all_accesses condition) (everything (outline site (stmt turn)) ++ []) none in
        join (all_accesses condition) (stmt_accesses (stmt turn)) q.0 (stmt_is turn (alone (everything (outline site (stmt turn))) q.1))
    kind_layer (StmtKind-F.Do turn condition) none =
        let q = none_split place (all_accesses condition) (everything (outline site (stmt turn)) ++ []) none in
        join (stmt_accesses (stmt turn)) (all_accesses condition) (stmt_is turn (alone (everything (outline site (stmt turn))) q.1)) q.0
    kind_layer (StmtKind-F.For first condition update turn) none =
        let begun = everything (joined (map (outline site) (map stmt first))) in
        let head = maybe all_accesses condition ++ each_of all_accesses update in
        let q = none_split place (begun ++ head) (everything (outline site (stmt turn)) ++ []) none in
        let r = none_split place begun head q.0 in
        let h = none_split place (maybe all_accesses condition) (each_of all_accesses update) r.1 in
        join (all (map stmt_accesses (map stmt first))) (maybe all_accesses condition ++ (each_of all_accesses update ++ stmt_accesses (stmt turn))) (all_none first r.0)
        (join (maybe all_accesses condition) (each_of all_accesses update ++ stmt_accesses (stmt turn)) h.0
        (join (each_of all_accesses update) (stmt_accesses (stmt turn)) h.1 (stmt_is turn (alone (everything (outline site (stmt turn))) q.1))))
    kind_layer StmtKind-F.Break none = tt
    kind_layer StmtKind-F.Continue none = tt
    kind_layer (StmtKind-F.Return value) none = alone (maybe all_accesses value) none
    kind_layer (StmtKind-F.Throw name) none = tt
    kind_layer (StmtKind-F.Print value) none = alone (all_accesses value) none
    kind_layer (StmtKind-F.Run expr) none = alone (all_accesses expr) none

    kind_rolled : (y : StmtKind-F K S) → KindIs (roll-StmtKind (map-StmtKind K S StmtKind Stmt kind stmt y))
    kind_rolled y =
        let a = fold-roll-StmtKind Outline Outline (outlines.kind_step site) outlines.stmt_step (map-StmtKind K S StmtKind Stmt kind stmt y) in
        let b = fold-roll-StmtKind (List AnyAccess) (List AnyAccess) at_place.stmt_kind_step at_place.stmt_step (map-StmtKind K S StmtKind Stmt kind stmt y) in
        moved a b (kind_layer y)

    stmt_rolled : ((k : K) → KindIs (kind k)) → (y : Stmt-F K S) → StmtIs (roll-Stmt (map-Stmt K S StmtKind Stmt kind stmt y))
    stmt_rolled kind_is y =
        let a = fold-roll-Stmt Outline Outline (outlines.kind_step site) outlines.stmt_step (map-Stmt K S StmtKind Stmt kind stmt y) in
        let b = fold-roll-Stmt (List AnyAccess) (List AnyAccess) at_place.stmt_kind_step at_place.stmt_step (map-Stmt K S StmtKind Stmt kind stmt y) in
        moved a b (kind_is y.kind)

  pub none_in_statement : (s : Stmt) → HasNone place (everything (outline site s)) → HasNone place (stmt_accesses s)
  none_in_statement = ind-Stmt KindIs StmtIs
      (λ x y e. subst (λ layer. KindIs (roll-StmtKind layer)) e (kind_rolled (λ k. k.0) (λ s. s.0) (λ s. s.1) y))
      (λ x y e. subst (λ layer. StmtIs (roll-Stmt layer)) e (stmt_rolled (λ k. k.0) (λ s. s.0) (λ s. s.1) (λ k. k.1) y))
