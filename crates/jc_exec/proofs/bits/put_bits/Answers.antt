use Rattle.std.proofs.Common.{◌≢◌, sym, ◌∙◌, ℕ, ◌∷◌, ◌++◌, [], length, refl, ap}
use Rattle.std.proofs.lemmas.Bool.{eqb-false}
use Rattle.jc_exec.proofs.PackingLaws.{goes_on, few}
use Rattle.jc_exec.proofs.bits.put_bits.Goals as goal

pub packing-preserved : goal.packing-preserved
packing-preserved c =
    let some : length c.packing.rest.now ≢ 0 = eqb-false _ _ (sym c.packing-test.ensures) in
    let parts = few c.packing.rest.now c.split_at.result.0.now c.split_at.result.1.now (length c.packing.rest.now) c.min.result refl some
    c.min.ensures c.split_at.ensures.front c.split_at.ensures.back in
    goes_on c.packing.out.items c.push.new.self.items _ c.packing.rest.now c.split_at.result.0.now c.split_at.result.1.now some parts.0 parts.1
    (c.in_ok-push.ensures.items ∙ ap (λ (b : ℕ). c.packing.out.items ++ b ∷ []) c.byte_of.ensures) c.packing.invariant
