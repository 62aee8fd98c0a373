-- Bytes of no form are refused where they stand.
use Rattle.std.proofs.Common.{◌≡◌, ℕ, None, ap, arith}
use Rattle.jc_bytes.specs.Reader.{Reading}
use Rattle.jc_bytes.specs.Parsing.{RefusedAt}
use Rattle.jc_bytes.specs.declared.refusal.Refusal.{Refusal}
use Rattle.jc_bytes.specs.declared.refusal.RefusalKind.TheVariants as kinds

pub refused_here : (old : Reading) (refusal : Refusal) (place : ℕ) → refusal ≡ record { kind = kinds.NotAClass; method = None; place = place } → place ≡ old.place
    → RefusedAt refusal old old.left
refused_here old refusal place is same = record {
  kind = ap (λ (r : Refusal). r.kind) is;
  method = ap (λ (r : Refusal). r.method) is;
  place = let at : refusal.place ≡ place = ap (λ (r : Refusal). r.place) is in omega (arith, at, same);
}
