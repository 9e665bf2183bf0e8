-- Calls behind one another: what each says where it went well, and what they say together. Functions that join calls by `and`, or map an error, cite these, in crates above.
use Rattle.std.proofs.Common.{◌≡◌, true, if◌then◌else◌, Result, Ok, Err, sym, subst}
use Rattle.std.specs.Result.{OnOk, IfOk, result_and, is_ok}

cases : {T U E : Type 0} (one : Result T E) (two : Result U E) (A B C : Type 0) → OnOk one A → OnOk two B → (A → B → C) → OnOk (result_and one two) C
cases (Ok x) (Ok y) A B C first second so = so first second
cases (Ok x) (Err e) A B C first second so = tt
cases (Err e) two A B C first second so = tt

pub both_ok : {T U E : Type 0} (one : Result T E) (two whole : Result U E) (A B C : Type 0) → whole ≡ result_and one two → OnOk one A → OnOk two B → (A → B → C) → OnOk whole C
both_ok one two whole A B C is first second so = subst (λ r. OnOk r C) (sym is) (cases one two A B C first second so)

ends : {T X E : Type 0} (one : Result T E) (x : X) (A : Type 0) (P : X → Type 0) → OnOk one A → (A → P x) → IfOk (result_and one (Ok x)) P
ends (Ok y) x A P first so = so first
ends (Err e) x A P first so = tt

-- a call, and then an answer
pub ok_then : {T X E : Type 0} (one : Result T E) (x : X) (whole : Result X E) (A : Type 0) (P : X → Type 0) → whole ≡ result_and one (Ok x) → OnOk one A → (A → P x) → IfOk whole P
ok_then one x whole A P is first so = subst (λ r. IfOk r P) (sym is) (ends one x A P first so)

-- what changes only where the call went well
pub where_ok : {T E X : Type 0} (one : Result T E) (now good bad : X) → now ≡ (if is_ok one then good else bad) → OnOk one (now ≡ good)
where_ok (Ok x) now good bad is = is
where_ok (Err e) now good bad is = tt

-- a call whose error is made another
pub on_mapped : {T E F : Type 0} (one : Result T E) (two : Result T F) (A : Type 0) → is_ok two ≡ is_ok one → (is_ok one ≡ true → A) → OnOk two A
on_mapped one (Ok y) A same so = so (sym same)
on_mapped one (Err e) A same so = tt
