-- What the words of a closed board have to do with the hits of the seat that closed it.
use Rattle.std.proofs.Common.{◌≡◌, ℕ, List, sym, subst}
use Rattle.std.specs.Prelude.{Contains}
use Rattle.atomic_table.specs.Table.{State, Final, Seen}
use Rattle.jc_board.specs.declared.seat.View.{View}
use Rattle.jc_programs.specs.Probes.{InRange}
use Rattle.jc_board.specs.Rule.{IsProbe, IsSet, IsKept}
use Rattle.jc_board.specs.Views.{whole}
use Rattle.jc_board.proofs.StepLaws.{alone}

module _ {S : Type 0} (counts words : List ℕ) (slots : List S) (id : ℕ) (v : View) (f : Final (Seen (λ (s : State S View). IsKept counts s.words s.views) id v) words slots) where
  pub hit_in_range : (c i : ℕ) → Contains v.hits (c, i) → IsProbe counts c i
  hit_in_range c i h = f.1.0.in_range c i (id, v, f.1.1, h)

  pub hit_is_set : (c i : ℕ) → Contains v.hits (c, i) → IsSet counts words c i
  hit_is_set c i h = subst (λ (ws : List ℕ). IsSet counts ws c i) f.2 (f.1.0.hit_is_set c i (id, v, f.1.1, h))

  pub set_is_hit : v.part ≡ whole → (c i : ℕ) → InRange counts c i → IsSet counts words c i → Contains v.hits (c, i)
  set_is_hit all c i r s = alone counts f.0.words f.0.views id c i v f.1.0 f.1.1 all (f.1.0.set_only_hit c i r (subst (λ (ws : List ℕ). IsSet counts ws c i) (sym f.2) s))
