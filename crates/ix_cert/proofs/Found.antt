-- What is known of a value that may be found.
use Rattle.std.specs.Prelude.{◌≡◌, MatchResult, Option, MatchOption, Some, None, Result, Ok, Err, IfOk, IfSome, IfNone}
use Rattle.std.specs.Result.{IsErrAnd}
use Rattle.std.proofs.Common.{◌∙◌}
use Rattle.ix_cert.specs.declared.stop.Stop.{Stop}
use Rattle.ix_cert.specs.Reading.{IsMemory}

pub found_more : {A E : Type 0} (r : Result (Option A) E) (P Q : A → Type 0) → ((x : A) → P x → Q x) → IfOk r (λ o. IfSome o P) → IfOk r (λ o. IfSome o Q)
found_more (Ok (Some x)) P Q more h = more x h
found_more (Ok None) P Q more h = h
found_more (Err e) P Q more h = h

pub none_more : {A E P Q : Type 0} (r : Result (Option A) E) → (P → Q) → IfOk r (λ o. IfNone o P) → IfOk r (λ o. IfNone o Q)
none_more (Ok (Some x)) more h = h
none_more (Ok None) more h = more h
none_more (Err e) more h = h

pub some_of : {A : Type 0} (r : Option A) (P : Type 0) (Q : A → Type 0) → MatchOption r P Q → IfSome r Q
some_of None P Q h = tt
some_of (Some x) P Q h = h

pub none_of : {A : Type 0} (r : Option A) (P : Type 0) (Q : A → Type 0) → MatchOption r P Q → IfNone r P
none_of None P Q h = h
none_of (Some x) P Q h = tt

-- an error that is passed on
pub err_memory : {T : Type 0} (r : Result T Stop) (stop : Stop) (P : T → Type 0) → IsErrAnd r (λ error. error ≡ stop) → IsMemory stop → MatchResult r P IsMemory
err_memory (Ok x) stop P passed memory = absurd passed
err_memory (Err error) stop P passed memory = passed ∙ memory
