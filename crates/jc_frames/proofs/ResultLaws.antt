-- What an answer says, and what follows from it.
use Rattle.std.proofs.Common.{Result, Ok, Err, OnOk, IfErr}

module _ {X E : Type 0} where
  pub ok_then : (P Q : Type 0) (r : Result X E) → (P → Q) → OnOk r P → OnOk r Q
  ok_then P Q (Ok x) f p = f p
  ok_then P Q (Err e) f p = p

  pub err_then : (P Q : E → Type 0) (r : Result X E) → ((e : E) → P e → Q e) → IfErr r P → IfErr r Q
  err_then P Q (Ok x) f p = p
  err_then P Q (Err e) f p = f e p
