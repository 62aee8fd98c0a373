-- What the words of a closed board have to do with what the seat that closed it has hit and taken.
use Rattle.std.proofs.Common.{◌≡◌, ◌⊎◌, ◌^◌, ◌<◌, ℕ, List, Bool, true, sym, inl, inr, ⊎_elim, subst}
use Rattle.std.specs.Prelude.{Contains, ◌↔◌}
use Rattle.atomic_table.specs.Table.{State, Final, Seen}
use Rattle.jc_programs.specs.Probes.{InRange, IsHit}
use Rattle.jc_board.specs.Rule.{IsProbe, IsSet}
use Rattle.jc_board.specs.Views.{whole}
use Rattle.jc_dump_board.specs.declared.seat.View.{View}
use Rattle.jc_dump_board.specs.Rule.{IsKept}
use Rattle.jc_dump_board.proofs.ViewLaws.{only_mine}

module _ {S : Type 0} (counts words : List ℕ) (slots : List S) (id : ℕ) (v : View) (f : Final (Seen (λ (s : State S View). IsKept counts s.words s.views) id v) words slots)
    (into : List (List Bool)) (copied : (c i : ℕ) → IsHit into c i → InRange counts c i × IsSet counts words c i)
    (gained : (c i : ℕ) → c < 2 ^ 32 → InRange counts c i → IsSet counts words c i → IsHit into c i) where
  was_set : (c i : ℕ) → IsSet counts words c i → IsSet counts f.0.words c i
  was_set c i s = subst (λ (ws : List ℕ). IsSet counts ws c i) (sym f.2) s

  is_set : (c i : ℕ) → IsSet counts f.0.words c i → IsSet counts words c i
  is_set c i s = subst (λ (ws : List ℕ). IsSet counts ws c i) f.2 s

  put : (c i : ℕ) → IsProbe counts c i → IsSet counts f.0.words c i → IsHit into c i
  put c i r s = gained c i r.1 r.0 (is_set c i s)

  pub closed_settled : v.part ≡ whole → (c i : ℕ) → Contains v.settled (c, i) → Contains v.taken (c, i)
  closed_settled all c i h = only_mine (λ u. u.taken) f.0.views id v f.1.1 f.1.0.all_parts all (λ j u e z. (f.1.0.spent j u e z).1) c i (f.1.0.settled_is_taken c i (id, v, f.1.1, h))

  pub closed_whole : v.part ≡ whole → (c i : ℕ) → Contains v.hits (c, i) ↔ (Contains v.taken (c, i) ⊎ IsHit into c i)
  closed_whole all c i = (
    λ h. ⊎_elim
        (λ s. inr (put c i (f.1.0.in_range c i (id, v, f.1.1, h)) s))
        (λ t. inl (only_mine (λ u. u.taken) f.0.views id v f.1.1 f.1.0.all_parts all (λ j u e z. (f.1.0.spent j u e z).1) c i t))
        (f.1.0.hit_is_set_or_taken c i (id, v, f.1.1, h)),
    λ h. only_mine (λ u. u.hits) f.0.views id v f.1.1 f.1.0.all_parts all (λ j u e z. (f.1.0.spent j u e z).0) c i (⊎_elim
        (λ t. f.1.0.taken_is_hit c i (id, v, f.1.1, t))
        (λ x. let t = copied c i x in f.1.0.set_is_hit c i t.0 (was_set c i t.1))
        h),
  )

  pub closed_alone : v.alone ≡ true → (c i : ℕ) → IsHit into c i ↔ Contains v.pending (c, i)
  closed_alone is c i = (
    λ h. let t = copied c i h in (f.1.0.alone id v f.1.1 is).set_is_pending c i t.0 (was_set c i t.1),
    λ h. put c i (f.1.0.pending_in_range c i (id, v, f.1.1, h)) ((f.1.0.alone id v f.1.1 is).pending_is_set c i h),
  )
