-- The rules for the parts of a node are the rules of a lower height.
use Rattle.std.proofs.Common.{◌≡◌, ℕ, zero, suc, ◌+◌, ◌≤◌, refl, arith}
use Rattle.ix_grammar_rules.specs.ExprRules.{below, parts_of, inner, inner_init, expr, level, variable, init}

pub whole_below : (left k : ℕ) → left ≡ suc k → (below left).lower.whole ≡ expr k
unfolding below parts_of
whole_below left k e = rw e refl

pub level_below : (left k n : ℕ) → left ≡ suc k → (below left).lower.level n ≡ level k n
unfolding below parts_of
level_below left k n e = rw e refl

pub variable_below : (left k : ℕ) → left ≡ suc k → (below left).lower.variable ≡ variable k
unfolding below parts_of
variable_below left k e = rw e refl

pub init_below : (left k : ℕ) → left ≡ suc k → (below left).lower.init ≡ init k
unfolding below parts_of
init_below left k e = rw e refl

pub inner_below : (left k n : ℕ) → n ≤ 1 → left ≡ k + (n + 1) → inner (below left) n ≡ expr k
unfolding below parts_of
inner_below left k zero one e = let d : left ≡ suc k = omega (arith, e) in rw d refl
inner_below left k (suc zero) one e = let d : left ≡ suc (suc k) = omega (arith, e) in rw d refl
inner_below left k (suc (suc n)) one e = absurd (omega (arith, one))

pub inner_init_below : (left k n : ℕ) → n ≤ 1 → left ≡ k + (n + 1) → inner_init (below left) n ≡ init k
unfolding below parts_of
inner_init_below left k zero one e = let d : left ≡ suc k = omega (arith, e) in rw d refl
inner_init_below left k (suc zero) one e = let d : left ≡ suc (suc k) = omega (arith, e) in rw d refl
inner_init_below left k (suc (suc n)) one e = absurd (omega (arith, one))
