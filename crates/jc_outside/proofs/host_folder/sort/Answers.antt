use Rattle.std.proofs.Common.{◌≡◌, ℕ, List, true, map, string_bytes, sym, subst}
use Rattle.std.proofs.lemmas.List.Filters.{dedup_is}
use Rattle.std.proofs.lemmas.Map.Views.{All-map-IsPermutation}
use Rattle.std.specs.Cmp.Lexicographic.{slice_cmp}
use Rattle.std.specs.List.{All}
use Rattle.std.specs.List.Sorted.{IsStrictlySortedBy}
use Rattle.std.specs.Ordering.{nat_cmp}
use Rattle.std.specs.String.{string_eq}
use Rattle.jc_outside.specs.Folder.{is_class_file}
use Rattle.jc_outside.proofs.FolderLaws.{mapped_dedup, dedup_in_order}
use Rattle.jc_outside.proofs.host_folder.sort.Goals as goal

pub returns-clause-own : goal.returns-clause-own
returns-clause-own c =
    let P : List ℕ → Type 0 = λ path. is_class_file c.args.front.now path ≡ true in
    let sorted = All-map-IsPermutation string_bytes P _ _ c.in_ok-sort.ensures.permutation c.requires in
    subst (λ paths. All P (map string_bytes paths)) (sym (dedup_is string_eq _ _ c.dedup.ensures.filtered)) (mapped_dedup P _ sorted)

pub returns-clause-sorted : goal.returns-clause-sorted
returns-clause-sorted c =
    subst (λ paths. IsStrictlySortedBy (slice_cmp nat_cmp) (map string_bytes paths)) (sym (dedup_is string_eq _ _ c.dedup.ensures.filtered)) (dedup_in_order _ c.in_ok-sort.ensures.sorted)
