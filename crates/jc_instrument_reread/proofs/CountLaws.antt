-- The number of probes, which an instruction pushes, or loads from its Integer.
use Rattle.std.proofs.Common.{◌≡◌, ℕ, ◌<◌, Bool, true, false, List, Some, nat_le, pos, refl, sym, subst}
use Rattle.std.proofs.lemmas.Bool.{leb-false, leb-true}
use Rattle.jc_methods.specs.ProbeMembers.{most_short}
use Rattle.jc_methods.specs.WellMade.{what_used}
use Rattle.jc_methods.specs.declared.body.Use.{Use}
use Rattle.jc_methods.specs.declared.body.What.TheVariants as whats
use Rattle.jc_pool.specs.Pool.{PoolValue}
use Rattle.jc_pool.specs.declared.constant.ConstText.TheVariants as constants
use Rattle.jc_body.specs.Standing.{of_constant, found_at, HasRightEntry}
use Rattle.jc_emit.specs.Added.{HasCount}
use Rattle.jc_emit.specs.Marks.{push_by}
use Rattle.jc_instrument_reread.specs.Written.{HasCountEntry}
use Rattle.jc_instrument_reread.proofs.KeptEntryLaws.{integer_found_at, integer_right}
use Rattle.jc_instrument_reread.proofs.PushLaws.{loaded_so, pushed_so}
use Rattle.jc_instrument_reread.proofs.RightEntryLaws.{push_right}

module _ (pool : PoolValue) (integer count : ℕ) where
  -- what it names is of the kind that it needs
  pub count_named : (major : ℕ) → HasCountEntry (nat_le count most_short) pool count integer → HasRightEntry major pool (push_by (λ n. integer) count)
  count_named major entry = by (nat_le count most_short) refl entry
    where
      by : (small : Bool) → nat_le count most_short ≡ small → HasCountEntry small pool count integer
          → HasRightEntry major pool (push_by (λ n. integer) count)
      by true is there = subst (HasRightEntry major pool) (sym (pushed_so (λ n. integer) count (leb-true count most_short is))) (push_right major pool count)
      by false is there =
          subst (HasRightEntry major pool) (sym (loaded_so (λ n. integer) count (leb-false count most_short is)))
          (integer_right pool integer count major there)

  -- and is used, where what is loaded is
  pub count_used : (uses : List Use) → HasCountEntry (nat_le count most_short) pool count integer
      → (most_short < count → found_at pool integer ≡ Some (of_constant (constants.Int (pos count))) → what_used uses integer ≡ Some (whats.Int (pos count)))
      → HasCount (nat_le count most_short) uses count integer
  count_used uses entry used = by (nat_le count most_short) refl entry
    where
      by : (small : Bool) → nat_le count most_short ≡ small → HasCountEntry small pool count integer → HasCount small uses count integer
      by true is there = tt
      by false is there = used (leb-false count most_short is) (integer_found_at pool integer (pos count) there)
