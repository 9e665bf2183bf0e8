-- What `?` hands on from a part that stopped: its error, and no result.
use Rattle.std.proofs.Common.{◌≡◌, true, Result, Ok, Err, is_err, IfOk, IsErrAnd, MatchResult}
use Rattle.ix_meaning.specs.declared.note.Which.{Which}
use Rattle.ix_plain.specs.declared.made.Stop.{Stop}
use Rattle.ix_plain.specs.declared.made.Stop.TheVariants as stop

-- the error is that of the part
pub same_error : {T U E : Type 0} {cause given : E} (r : Result T E) → IsErrAnd r (λ own. own ≡ cause) → r ≡ Err given → ◌≡◌ {A = Result U E} (Err cause) (Err given)
same_error (Ok made) same is = cc
same_error (Err own) same is = cc

pub not_made : {T E : Type 0} (r : Result T E) (P : T → Type 0) → is_err r ≡ true → IfOk r P
not_made (Ok made) P err = let never : ⊥ = cc in absurd never
not_made (Err own) P err = tt

-- want of memory is no limit
pub no_limit : {T A : Type 0} (P : T → Type 0) (r : Result T Stop) (which : Which) (x y : A) → MatchResult r P (λ cause. cause ≡ stop.Memory) → r ≡ Err (stop.Limit which) → x ≡ y
no_limit P (Ok added) which x y given is = cc
no_limit P (Err cause) which x y given is = cc
