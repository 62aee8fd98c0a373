-- Lists, item by item: the only item, and one more item.
use Rattle.std.proofs.Common.{◌≡◌, zero, suc, false, List, [], ◌∷◌, ◌++◌, Option, Some, None, Result, Ok, Err, is_err, sym, subst, arith, true≢false}
use Rattle.std.specs.Prelude.{All, IfOk}
use Rattle.std.proofs.lemmas.List.Elements.{All-append}
use Rattle.jc_link_programs.specs.Statics.{single}

-- the only item, where this one stands in front of the list, if one does
abbrev pub single_behind : {X : Type 0} → Option X → List X → Option X
single_behind None xs = single xs
single_behind (Some x) [] = Some x
single_behind (Some x) (y ∷ ys) = None

pub all_put : {X : Type 0} (P : X → Type 0) (xs new : List X) (x : X) → All P xs → P x → new ≡ xs ++ x ∷ [] → All P new
all_put {X} P xs new x all is e = subst (All P) (sym e) (All-append P xs (x ∷ []) all one)
  where
    one : All P (x ∷ [])
    one zero d less = is
    one (suc k) d less = absurd (omega (arith, less))

-- what holds where a call succeeded, if it did
pub of_ok : {X E : Type 0} (P : X → Type 0) (r : Result X E) → is_err r ≡ false → IfOk r P → (x : X) × P x
of_ok P (Ok x) e is = (x, is)
of_ok P (Err x) e is = absurd (true≢false e)
