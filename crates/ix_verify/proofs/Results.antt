-- A result of which several facts are known.
use Rattle.std.specs.Prelude.{Result, Ok, Err, IfOk}

pub if_ok_both : {T E : Type 0} (r : Result T E) (P Q S : T → Type 0) → ((x : T) → P x → Q x → S x) → IfOk r P → IfOk r Q → IfOk r S
if_ok_both (Ok x) P Q S f p q = f x p q
if_ok_both (Err e) P Q S f p q = tt

pub if_ok_three : {T E : Type 0} (r : Result T E) (P Q R S : T → Type 0) → ((x : T) → P x → Q x → R x → S x) → IfOk r P → IfOk r Q → IfOk r R → IfOk r S
if_ok_three (Ok x) P Q R S f p q r = f x p q r
if_ok_three (Err e) P Q R S f p q r = tt
