-- References that stay the same from one call to the next: those to the files and to the texts.
use Rattle.std.proofs.Common.{◌≡◌, ◌∙◌}

pub references_then : {F O E : Type 0} {f f' f'' : F} {o o' o'' : O} {e e' e'' : E} → (f' ≡ f) × (o' ≡ o) × (e' ≡ e) → (f'' ≡ f') × (o'' ≡ o') × (e'' ≡ e')
    → (f'' ≡ f) × (o'' ≡ o) × (e'' ≡ e)
references_then first second = (second.0 ∙ first.0, second.1 ∙ first.1, second.2 ∙ first.2)
