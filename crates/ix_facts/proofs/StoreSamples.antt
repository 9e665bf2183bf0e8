-- Stores by example: that of no facts, one that no state meets, and a range that is said of every path, which no rule can tell from none.
use Rattle.std.specs.Prelude.{◌≡◌, pos, negsuc, [], ◌∷◌, refl}
use Rattle.std.proofs.Common.{arith, inl, inr, ⊎_elim}
use Rattle.std.proofs.lemmas.Int.{ints, clamps}
use Rattle.ix_core.specs.declared.fact.Path.TheVariants.{Slot}
use Rattle.ix_core.specs.declared.fact.PathOff.TheVariants.{Nothing, Plus}
use Rattle.ix_core.specs.declared.fact.Fact.{Fact}
use Rattle.ix_core.specs.declared.fact.Fact.TheVariants.{Rng, LenRng, Same, IsLen, Sum, Search, Neg, Upper}
use Rattle.ix_core.specs.declared.fact.Profile.TheVariants.{Ideal}
use Rattle.ix_core.specs.declared.op.Literal.TheVariants as literal
use Rattle.ix_core.specs.declared.op.OpKind.TheVariants as op
use Rattle.ix_facts.specs.Facts.{IsIn}
use Rattle.ix_facts.specs.Closure.{Default, Follows}
use Rattle.ix_facts.specs.Closure as closure
use Rattle.ix_facts.specs.After.{after_facts}
use Rattle.ix_facts.proofs.SaidLaws.{default_weaker}
use Rattle.ix_facts.specs.Stores.{Reached, Unreachable, IsStoreOf, unreachable, reached}

pub nothing_follows : (f : Fact) → Follows [] f → Default f
nothing_follows _ (closure.given f i) = absurd i
nothing_follows _ (closure.weaker g f c r) = default_weaker g f c (nothing_follows g r)
nothing_follows _ (closure.any_int p) = (omega (arith, ints), omega (arith, ints))
nothing_follows _ (closure.any_size a) = (omega (arith, ints), omega (arith, ints))
nothing_follows _ (closure.met p l h m k r s) =
    let x = nothing_follows (Rng p l h) r in let y = nothing_follows (Rng p m k) s in
    let a = x.0 in let b = x.1 in let c = y.0 in let d = y.1 in (omega (arith, ints, clamps), omega (arith, ints, clamps))
nothing_follows _ (closure.len_met p l h m k r s) =
    let x = nothing_follows (LenRng p l h) r in let y = nothing_follows (LenRng p m k) s in
    let a = x.0 in let b = x.1 in let c = y.0 in let d = y.1 in (omega (arith, ints, clamps), omega (arith, ints, clamps))
nothing_follows _ (closure.class p l h r x y) = let d = nothing_follows (Rng p l h) r in let a = d.0 in (let z : ⊥ = omega (arith, ints) in absurd z)
nothing_follows _ (closure.class_one p l h r x) = let d = nothing_follows (Rng p l h) r in let a = d.0 in (let z : ⊥ = omega (arith, ints) in absurd z)
nothing_follows _ (closure.turned a b r) = absurd (nothing_follows (Same a b) r)
nothing_follows _ (closure.joined a b c r s) = absurd (nothing_follows (Same a b) r)
nothing_follows _ (closure.both_len p a b r s) = absurd (nothing_follows (IsLen p a) r)
nothing_follows _ (closure.len_along a b l h r s) = absurd (nothing_follows (Same a b) r)
nothing_follows _ (closure.is_len_along p a b r s) = absurd (nothing_follows (Same a b) r)
nothing_follows _ (closure.search_along p a b r s) = absurd (nothing_follows (Same a b) r)
nothing_follows _ (closure.neg_along p a b r s) = absurd (nothing_follows (Same a b) r)
nothing_follows _ (closure.neg_search p a r) = absurd (nothing_follows (Neg p a) r)
nothing_follows _ (closure.search_neg p a l h r s x) = absurd (nothing_follows (Search p a) r)
nothing_follows _ (closure.sum_turned t y z r) = absurd (nothing_follows (Sum t y z) r)
nothing_follows _ (closure.upper_turned p a q c r) = absurd (nothing_follows (Upper p a (Plus q) c) r)

-- the store at a place of which nothing is known
empty_store : IsStoreOf [] (Reached [])
empty_store =
    reached []
    (λ c.
    let e = c.4 in
    ⊎_elim
    (λ r. let d = nothing_follows (Rng c.0 c.1 c.2) r in let a = d.0 in let b = d.1 in omega (arith, ints))
    (λ r. let d = nothing_follows (LenRng c.0 c.1 c.2) r in let a = d.0 in let b = d.1 in omega (arith, ints))
    c.3)
    (record { says = λ f r. inl (nothing_follows f r); only = λ f i. absurd i; tells = λ f i. absurd i })

-- an int from 1 to 0
no_state : IsStoreOf (Rng (Slot 0) (pos 1) (pos 0) ∷ []) Unreachable
no_state = unreachable (Slot 0, pos 1, pos 0, inl (closure.given (Rng (Slot 0) (pos 1) (pos 0)) (inl refl)), omega (arith, ints))

-- `t = 0` beside the range that every length has: no bound of t by the length
after_default : after_facts (LenRng (Slot 5) (pos 0) (pos 2147483647) ∷ []) Ideal (op.Const 3 (literal.Int (pos 0))) ≡ LenRng (Slot 5) (pos 0) (pos 2147483647) ∷ Rng (Slot 3) (pos 0) (pos 0) ∷ []
after_default = refl

-- and beside a range that tells something: t is at most the length
after_told : IsIn (Upper (Slot 3) (Slot 5) Nothing (negsuc 0)) (after_facts (LenRng (Slot 5) (pos 0) (pos 7) ∷ []) Ideal (op.Const 3 (literal.Int (pos 0))))
after_told = inr (inr (inl refl))
