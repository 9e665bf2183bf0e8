-- What holds of each node of a layout holds of its parts, and each node of what is laid out stands there.
use Rattle.std.proofs.Common.{◌≤◌, ℕ, max, List, [], ◌∷◌, ◌++◌, map, Option, Some, None, subst, arith}
use Rattle.std.specs.List.{AllByRecursion}
use Rattle.ix_text.specs.declared.span.Span.{Span}
use Rattle.ix_tree.specs.Placed.{Layout, nothing, node, copy, LaidOut, followed, row, piece, again, maybe}
use Rattle.ix_tree.proofs.Layouts.{rows_are, laid_ends}
use Rattle.ix_formed.specs.EachNode.{EachNode, IfSome, InText}

-- ---- a layout stands in its text

pub laid_nodes : (end start lo hi : ℕ) (l : Layout) → hi ≤ end → LaidOut start lo hi l → EachNode (InText end) l
laid_nodes end start lo hi nothing le laid = tt
laid_nodes end start lo hi (node span parts later) le laid =
    let up = laid_ends start span.to hi later laid.3 in
    let filled = laid.1 in
    ((filled, omega (arith, up, le)), laid_nodes end span.from span.from span.to parts (omega (arith, up, le)) laid.2, laid_nodes end start span.to hi later le laid.3)
laid_nodes end start lo hi (copy parts later) le laid =
    let up = laid_ends start (max lo laid.0) hi later laid.2 in
    (laid_nodes end start start laid.0 parts (omega (arith, up, le)) laid.1, laid_nodes end start (max lo laid.0) hi later le laid.2)

-- ---- what follows of it

pub nodes_more : (P Q : Span → Type 0) → ((span : Span) → P span → Q span) → (l : Layout) → EachNode P l → EachNode Q l
nodes_more P Q more nothing all = tt
nodes_more P Q more (node span parts later) all = (more span all.0, nodes_more P Q more parts all.1, nodes_more P Q more later all.2)
nodes_more P Q more (copy parts later) all = (nodes_more P Q more parts all.0, nodes_more P Q more later all.1)

-- ---- parts of layouts

module _ (P : Span → Type 0) where
  pub nodes_followed : (x y : Layout) → EachNode P (followed x y) → EachNode P x × EachNode P y
  nodes_followed nothing y all = (tt, all)
  nodes_followed (node span parts later) y all = let r = nodes_followed later y all.2 in ((all.0, all.1, r.0), r.1)
  nodes_followed (copy parts later) y all = let r = nodes_followed later y all.1 in ((all.0, r.0), r.1)

  pub nodes_first : (x : Layout) (xs : List Layout) → EachNode P (row (x ∷ xs)) → EachNode P x × EachNode P (row xs)
  nodes_first x xs all = nodes_followed x (row xs) all

  pub nodes_rows : (xs ys : List Layout) → EachNode P (row (xs ++ ys)) → EachNode P (row xs) × EachNode P (row ys)
  nodes_rows xs ys all = nodes_followed (row xs) (row ys) (subst (EachNode P) (rows_are xs ys) all)

  pub nodes_piece : (span : Span) (parts : List Layout) → EachNode P (piece span parts) → P span × EachNode P (row parts)
  nodes_piece span parts all = (all.0, all.1)

  pub nodes_again : (parts : List Layout) → EachNode P (again parts) → EachNode P (row parts)
  nodes_again parts all = all.0

  pub nodes_alone : (x : Layout) → EachNode P (row (x ∷ [])) → EachNode P x
  nodes_alone x all = (nodes_first x [] all).0

  pub nodes_maybe : {A : Type 0} (of : A → Layout) (x : Option A) → EachNode P (row (maybe of x)) → IfSome (λ y. EachNode P (of y)) x
  nodes_maybe of None all = tt
  nodes_maybe of (Some x) all = nodes_alone (of x) all

  pub nodes_each : {A : Type 0} (of : A → Layout) (xs : List A) → EachNode P (row (map of xs)) → AllByRecursion (λ x. EachNode P (of x)) xs
  nodes_each of [] all = tt
  nodes_each of (x ∷ xs) all = let r = nodes_first (of x) (map of xs) all in (r.0, nodes_each of xs r.1)
