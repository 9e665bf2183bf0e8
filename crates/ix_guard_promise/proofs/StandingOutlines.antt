-- The accesses of statements one behind the other, and where their indices stand.
use Rattle.std.proofs.Common.{◌≡◌, List, [], ◌∷◌, ◌++◌, map, refl, sym, ap, ◌∙◌, append_assoc}
use Rattle.ix_formed.specs.Additions.{AllOf}
use Rattle.ix_formed.proofs.NumberLists.{all_split, all_joined}
use Rattle.ix_guard.specs.Accesses.{Access}
use Rattle.ix_guard_promise.specs.AllAccesses.{AnyAccess, all, each_of}
use Rattle.ix_guard_promise.specs.Outlines.{Outline, nothing, node, followed, joined, everything}
use Rattle.ix_guard_promise.specs.StandingIndices.{IndexStands, IndicesStand}

-- What is made in statements one behind the other.
pub everything_followed : (x y : Outline) → everything (followed x y) ≡ everything x ++ everything y
everything_followed nothing y = refl
everything_followed (node tests own others inner later) y =
    let own_first = λ (rest : List AnyAccess). own ++ (others ++ rest) in
    ap (λ rest. own_first (everything inner ++ rest)) (everything_followed later y)
    ∙ ap own_first (sym (append_assoc (everything inner) (everything later) (everything y)))
    ∙ ap (λ rest. own ++ rest) (sym (append_assoc others (everything inner ++ everything later) (everything y)))
    ∙ sym (append_assoc own (others ++ (everything inner ++ everything later)) (everything y))

pub node_stands : (tests : List Access) (own others : List AnyAccess) (inner later : Outline) → IndicesStand (everything (node tests own others inner later))
    → IndicesStand own × IndicesStand others × IndicesStand (everything inner) × IndicesStand (everything later)
node_stands tests own others inner later stand =
    let a = all_split IndexStands own (others ++ (everything inner ++ everything later)) stand in
    let b = all_split IndexStands others (everything inner ++ everything later) a.1 in
    let c = all_split IndexStands (everything inner) (everything later) b.1 in (a.0, b.0, c.0, c.1)

pub node_stand : (tests : List Access) (own others : List AnyAccess) (inner later : Outline) → IndicesStand own → IndicesStand others → IndicesStand (everything inner) → IndicesStand (everything later)
    → IndicesStand (everything (node tests own others inner later))
node_stand tests own others inner later a b c d =
    all_joined IndexStands own (others ++ (everything inner ++ everything later)) a
    (all_joined IndexStands others (everything inner ++ everything later) b (all_joined IndexStands (everything inner) (everything later) c d))

pub followed_stands : (x y : Outline) → IndicesStand (everything (followed x y)) → IndicesStand (everything x) × IndicesStand (everything y)
followed_stands nothing y stand = (tt, stand)
followed_stands (node tests own others inner later) y stand =
    let s = node_stands tests own others inner (followed later y) stand in
    let r = followed_stands later y s.3 in (node_stand tests own others inner later s.0 s.1 s.2 r.0, r.1)

pub followed_stand : (x y : Outline) → IndicesStand (everything x) → IndicesStand (everything y) → IndicesStand (everything (followed x y))
followed_stand nothing y a b = b
followed_stand (node tests own others inner later) y a b =
    let s = node_stands tests own others inner later a in node_stand tests own others inner (followed later y) s.0 s.1 s.2 (followed_stand later y s.3 b)

pub joined_stand : {A : Type 0} (of : A → Outline) (xs : List A) → AllOf (λ x. IndicesStand (everything (of x))) xs → IndicesStand (everything (joined (map of xs)))
joined_stand of [] all = tt
joined_stand of (x ∷ xs) all = followed_stand (of x) (joined (map of xs)) all.0 (joined_stand of xs all.1)

pub each_stands : {A : Type 0} (of : A → List AnyAccess) (xs : List A) → AllOf (λ x. IndicesStand (of x)) xs → IndicesStand (all (map of xs))
each_stands of [] all = tt
each_stands of (x ∷ xs) all = all_joined IndexStands (of x) (each_of of xs) all.0 (each_stands of xs all.1)
