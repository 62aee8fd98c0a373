-- What is said of a refusal, step by step.
use Rattle.std.proofs.Common.{List, Result, Ok, Err}
use Rattle.std.specs.Prelude.{IfOk}
use Rattle.jc_methods.specs.declared.body.Body.{Body}
use Rattle.jc_bytes.specs.declared.fail.Fail.{Fail}
use Rattle.jc_bytes.specs.declared.fail.Fail.TheVariants as fails
use Rattle.jc_bytes.specs.declared.refusal.Refusal.{Refusal}
use Rattle.jc_bytes.specs.Failing.{Said}

pub said_more : (P Q : Refusal → Type 0) (e : Fail Refusal) → ((r : Refusal) → P r → Q r) → Said e P → Said e Q
said_more P Q fails.Memory more said = tt
said_more P Q (fails.Said r) more said = more r said

pub ok_more : (P Q : List Body → Type 0) (r : Result (List Body) (Fail Refusal)) → ((bodies : List Body) → P bodies → Q bodies) → IfOk r P → IfOk r Q
ok_more P Q (Ok bodies) more is = more bodies is
ok_more P Q (Err e) more is = tt
