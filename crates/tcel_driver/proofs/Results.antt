-- What is known of an answer.
use Rattle.std.proofs.Common.{IfOk, IfErr, Result, Ok, Err}

pub ok_then : {T E : Type 0} (r : Result T E) (P Q R : T → Type 0) → IfOk r P → IfOk r Q → ((x : T) → P x → Q x → R x) → IfOk r R
ok_then (Ok x) P Q R h g f = f x h g
ok_then (Err e) P Q R h g f = tt

pub err_then : {T E : Type 0} (r : Result T E) (P Q : E → Type 0) → IfErr r P → ((e : E) → P e → Q e) → IfErr r Q
err_then (Ok x) P Q h f = tt
err_then (Err e) P Q h f = f e h
