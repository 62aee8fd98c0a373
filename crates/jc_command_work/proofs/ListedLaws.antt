-- The paths that files hold are in order, and so are those that a folder lists.
use Rattle.std.proofs.Common.{◌≡◌, Bool, true, false, T, ◌&&◌, List, [], ◌∷◌, map, Some, refl}
use Rattle.std.proofs.lemmas.List.Elements.{filter_passes}
use Rattle.std.proofs.lemmas.List.Kept.{IsStrictlySortedBy-filter}
use Rattle.std.specs.Cmp.Lexicographic.{slice_cmp}
use Rattle.std.specs.FinMap.{keys, entries_sorted, entries}
use Rattle.std.specs.FinMap.Entries.{is_sorted, below_all}
use Rattle.std.specs.List.{AllByRecursion, filter}
use Rattle.std.specs.List.Sorted.{IsStrictlySortedBy}
use Rattle.std.specs.Ordering.{nat_cmp, is_lt}
use Rattle.std.specs.declared.cmp.Ordering.{Ordering}
use Rattle.std.specs.declared.cmp.Ordering.TheVariants.{Less, Equal, Greater}
use Rattle.jc_outside.specs.Folder.{front_of, is_class_file}
use Rattle.jc_outside.specs.Outside.{FileMap, IsListing}
use Rattle.jc_command_work.specs.Step.{Word}

first_holds : (a b : Bool) → T (a && b) → T a
first_holds true b h = tt
first_holds false b h = h

second_holds : (a b : Bool) → T (a && b) → T b
second_holds true b h = h
second_holds false b h = absurd h

less_is : (o : Ordering) → T (is_lt o) → o ≡ Less
less_is Less h = refl
less_is Equal h = absurd h
less_is Greater h = absurd h

module _ {K X : Type 0} (R : K → K → Ordering) where
  keys_below : (k : K) (es : List (K × X)) → T (below_all R k es) → AllByRecursion (λ y. R k y ≡ Less) (map (λ (e : K × X). e.0) es)
  keys_below k [] h = tt
  keys_below k (e ∷ es) h = (less_is (R k e.0) (first_holds _ _ h), keys_below k es (second_holds (is_lt (R k e.0)) _ h))

  keys_rise : (es : List (K × X)) → T (is_sorted R es) → IsStrictlySortedBy R (map (λ (e : K × X). e.0) es)
  unfolding IsStrictlySortedBy
  keys_rise [] h = tt
  keys_rise (e ∷ es) h = (keys_below e.0 es (first_holds _ _ h), keys_rise es (second_holds (below_all R e.0 es) _ h))

-- what a folder lists
abbrev pub listed : FileMap → Word → List Word
listed m folder = filter (is_class_file (front_of folder)) (keys m)

pub is_listing : (m : FileMap) (folder : Word) → IsListing (Some m) folder (listed m folder)
is_listing m folder = record {
  sorted = IsStrictlySortedBy-filter (slice_cmp nat_cmp) (is_class_file (front_of folder)) (keys m) (keys_rise (slice_cmp nat_cmp) (entries m) (entries_sorted m));
  own = filter_passes (is_class_file (front_of folder)) (keys m);
  told = refl;
}
