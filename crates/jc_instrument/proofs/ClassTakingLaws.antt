-- The classes that frames name, as contents that a pool takes.
use Rattle.std.proofs.Common.{inl, inr, ℕ, List, [], ◌∷◌, map, refl}
use Rattle.std.specs.List.{AllByRecursion}
use Rattle.jc_methods.specs.VerificationTypes.{Names, TypeStateAt}
use Rattle.jc_bytes.specs.declared.fail.Fail.{Fail}
use Rattle.jc_bytes.specs.declared.fail.Fail.TheVariants as fails
use Rattle.jc_frames.specs.FullTable.{IsFullAt, RefusesClasses, TakesClasses, named_by_all}
use Rattle.jc_pool.specs.Pool.{PoolValue}
use Rattle.jc_pool.specs.declared.add.PoolFull.{PoolFull}
use Rattle.jc_instrument.specs.Contents.{class_entry, TakesEach}
use Rattle.jc_instrument.specs.Needed.{frame_needs}
use Rattle.jc_instrument.specs.Taking.{IsTooMuch, RefusesEach}
use Rattle.jc_instrument.proofs.TakingLaws.{takes_one, too_much_before, too_much_behind, too_much_one}

pub classes_taken : (old new : PoolValue) (names : Names) → TakesClasses old names new → (places : List ℕ) × TakesEach old (map class_entry names) new places
classes_taken old new [] takes = ([], (takes, refl))
classes_taken old new (name ∷ names) takes =
    let rest = classes_taken takes.0 new names takes.2 in
    let first = takes.1 in
    (first.place ∷ rest.0, (takes.0, first.place, rest.0, refl, first.class, rest.1))

classes_much : (old new : PoolValue) (names : Names) (count : ℕ) → IsFullAt old names new count → IsTooMuch old (map class_entry names)
classes_much old new [] count full = absurd full
classes_much old new (name ∷ names) count (inl here) =
    too_much_before old (class_entry name ∷ []) (map class_entry names) (too_much_one old (class_entry name) count here.1)
classes_much old new (name ∷ names) count (inr later) =
    let first = later.1 in
    too_much_behind old later.0 (class_entry name ∷ []) (map class_entry names) (first.place ∷ [])
    (takes_one old later.0 (class_entry name) first.place first.class) (classes_much later.0 new names count later.2)

pub classes_refused : (old new : PoolValue) (names : Names) (fail : Fail PoolFull) → RefusesClasses old names new fail → RefusesEach old (map class_entry names) fail
classes_refused old new names fails.Memory refused = tt
classes_refused old new names (fails.Said full) refused = classes_much old new names full.count refused
