-- Paths of class files: joined, in order, and in files in memory.
use Rattle.std.proofs.Common.{◌≡◌, ℕ, nat_eq, Bool, true, false, T, ◌&&◌, List, [], ◌∷◌, ◌++◌, map, length, take, drop, String, Vec, string_bytes, Some, refl, sym, ◌∙◌, ap, subst}
use Rattle.std.proofs.Math.Seq.{drop-append_seam, take-append_seam}
use Rattle.std.proofs.lemmas.List.{map-append, append-nil}
use Rattle.std.proofs.lemmas.List.Elements.{All-nil, All-cons, All-head, All-tail, All-map, All-push, filter_passes}
use Rattle.std.proofs.lemmas.List.Filters.{All-dedup}
use Rattle.std.proofs.lemmas.List.Kept.{IsStrictlySortedBy-dedup, IsStrictlySortedBy-filter}
use Rattle.std.proofs.lemmas.Map.Lookups.{exact_bytes}
use Rattle.std.proofs.lemmas.Map.Text.{is_eq-slice_cmp}
use Rattle.std.proofs.lemmas.Cmp.{nat_list_cmp_total}
use Rattle.std.proofs.lemmas.Slice.Eq.{bytes_eq-Decides}
use Rattle.std.specs.BTreeMap.{IsOrdered}
use Rattle.std.specs.BTreeMap as tree
use Rattle.std.specs.Cmp.Lexicographic.{slice_cmp}
use Rattle.std.specs.FinMap.{keys, entries, from_entries, from_sorted, get-from_entries, get-from_sorted, entries-from_sorted, same_map, is_sorted}
use Rattle.std.specs.FinMap.Entries.{below_all}
use Rattle.std.specs.List.{All, AllPass, AllByRecursion, starts_with, dedup, filter}
use Rattle.std.specs.List.Sorted.{IsSorted, IsStrictlySortedBy}
use Rattle.std.specs.Map.{keys_of}
use Rattle.std.specs.Ordering.{nat_cmp, is_lt}
use Rattle.std.specs.String.{string_cmp, string_eq, string_cmp_total}
use Rattle.std.specs.declared.alloc.Global.{Global}
use Rattle.std.specs.declared.cmp.Ordering.TheVariants.{Less}
use Rattle.jc_outside.specs.Folder.{front_of, is_class_name, is_class_file}
use Rattle.jc_outside.specs.InMemory.{Kept, entry_of, held}
use Rattle.jc_outside.specs.Outside.{FileMap, IsListing}

-- such a name behind what stands before it
pub class_file_joined : (front name : List ℕ) → is_class_name name ≡ true → is_class_file front (front ++ name) ≡ true
unfolding is_class_file
class_file_joined front name class =
    let begins : starts_with nat_eq (front ++ name) front ≡ true = (bytes_eq-Decides front (take (length front) (front ++ name))).1 (sym (take-append_seam front name)) in
    let rest : drop (length front) (front ++ name) ≡ name = drop-append_seam front name in
    rw (begins, rest, class) refl

-- one more class file
pub class_file_put : (front name : List ℕ) (old new : List (String Global)) (path : String Global) → is_class_name name ≡ true
    → string_bytes path ≡ front ++ name → new ≡ old ++ path ∷ [] → AllPass (is_class_file front) (map string_bytes old)
    → AllPass (is_class_file front) (map string_bytes new)
class_file_put front name old new path class joined put h =
    let P : List ℕ → Type 0 = λ bytes. is_class_file front bytes ≡ true in
    let here : P (string_bytes path) = subst P (sym joined) (class_file_joined front name class) in
    let mapped : map string_bytes new ≡ map string_bytes old ++ string_bytes path ∷ [] = ap (map string_bytes) put ∙ map-append string_bytes old (path ∷ []) in
    subst (All P) (sym mapped) (All-push P (map string_bytes old) (string_bytes path) h here)

unmapped : {X Y : Type 0} (P : X → Type 0) (f : Y → X) (ys : List Y) → All P (map f ys) → All (λ y. P (f y)) ys
unmapped P f [] h = All-nil (λ y. P (f y))
unmapped P f (y ∷ ys) h = All-cons (λ y. P (f y)) y ys (All-head P (f y) (map f ys) h) (unmapped P f ys (All-tail P (f y) (map f ys) h))

-- each path once
pub mapped_dedup : (P : List ℕ → Type 0) (paths : List (String Global)) → All P (map string_bytes paths) → All P (map string_bytes (dedup string_eq paths))
mapped_dedup P paths h = All-map P string_bytes (dedup string_eq paths) (All-dedup string_eq (λ s. P (string_bytes s)) paths (unmapped P string_bytes paths h))

below_bytes : (x : String Global) (paths : List (String Global)) → AllByRecursion (λ y. string_cmp x y ≡ Less) paths
    → AllByRecursion (λ bytes. slice_cmp nat_cmp (string_bytes x) bytes ≡ Less) (map string_bytes paths)
below_bytes x [] h = tt
below_bytes x (y ∷ ys) h = (h.0, below_bytes x ys h.1)

-- texts in order have their bytes in order
pub bytes_in_order : (paths : List (String Global)) → IsStrictlySortedBy string_cmp paths → IsStrictlySortedBy (slice_cmp nat_cmp) (map string_bytes paths)
unfolding IsStrictlySortedBy
bytes_in_order [] h = tt
bytes_in_order (x ∷ xs) h = (below_bytes x xs h.0, bytes_in_order xs h.1)

pub dedup_in_order : (paths : List (String Global)) → IsSorted string_cmp paths → IsStrictlySortedBy (slice_cmp nat_cmp) (map string_bytes (dedup string_eq paths))
dedup_in_order paths h = bytes_in_order (dedup string_eq paths) (IsStrictlySortedBy-dedup string_cmp_total (λ x y. sym (is_eq-slice_cmp (string_bytes x) (string_bytes y))) paths h)

-- ---- files in memory

both : (a b : Bool) → T a → T b → T (a && b)
both true b p q = q
both false b p q = p

below_entries : (x : String Global) (es : List (String Global × Vec ℕ Global)) → AllByRecursion (λ y. string_cmp x y ≡ Less) (keys_of es)
    → T (below_all (slice_cmp nat_cmp) (string_bytes x) (map entry_of es))
below_entries x [] h = tt
below_entries x (e ∷ es) h = both _ _ (subst (λ r. T (is_lt r)) (sym h.0) tt) (below_entries x es h.1)

rising : (es : List (String Global × Vec ℕ Global)) → IsStrictlySortedBy string_cmp (keys_of es) → T (is_sorted (slice_cmp nat_cmp) (map entry_of es))
unfolding IsStrictlySortedBy
rising [] h = tt
rising (e ∷ es) h = both _ _ (below_entries e.0 es h.0) (rising es h.1)

entries_of_rising : (es : List (List ℕ × List ℕ)) → T (is_sorted (slice_cmp nat_cmp) es) → entries (from_entries {R = slice_cmp nat_cmp} es) ≡ es
entries_of_rising es h =
    ap entries (same_map nat_list_cmp_total exact_bytes (from_entries es) (from_sorted es) (λ q. get-from_entries nat_list_cmp_total es q ∙ sym (get-from_sorted (slice_cmp nat_cmp) es q h)))
    ∙ entries-from_sorted (slice_cmp nat_cmp) es h

firsts : (es : List (String Global × Vec ℕ Global)) → map (λ (e : List ℕ × List ℕ). e.0) (map entry_of es) ≡ map string_bytes (keys_of es)
firsts [] = refl
firsts (e ∷ es) = ap (λ l. string_bytes e.0 ∷ l) (firsts es)

-- the paths of files in memory, in order
pub keys_held : (m : Kept) → IsOrdered string_cmp m → map string_bytes (tree.keys m) ≡ keys (held m)
keys_held m ordered = sym (ap (map (λ (e : List ℕ × List ℕ). e.0)) (entries_of_rising (map entry_of m.entries) (rising m.entries ordered)) ∙ firsts m.entries)

-- a listing that has come to its end
pub listed : (p : List ℕ → Bool) (m : Kept) (done : List (List ℕ)) (left : List (String Global)) → IsOrdered string_cmp m → left ≡ [] → done
    ++ filter p (map string_bytes left) ≡ filter p (map string_bytes (tree.keys m)) → done ≡ filter p (keys (held m))
listed p m done left ordered none all = sym (append-nil done) ∙ sym (ap (λ l. done ++ filter p (map string_bytes l)) none) ∙ all ∙ ap (filter p) (keys_held m ordered)

pub listed_in_order : (p : List ℕ → Bool) (m : Kept) (done : List (List ℕ)) → IsOrdered string_cmp m → done ≡ filter p (keys (held m)) → IsStrictlySortedBy (slice_cmp nat_cmp) done
listed_in_order p m done ordered all =
    subst (IsStrictlySortedBy (slice_cmp nat_cmp)) (sym (all ∙ sym (ap (filter p) (keys_held m ordered)))) (IsStrictlySortedBy-filter (slice_cmp nat_cmp) p _ (bytes_in_order (tree.keys m) ordered))

pub listing_given : (files : FileMap) (folder front : List ℕ) (paths : List (List ℕ)) → front ≡ front_of folder
    → paths ≡ filter (is_class_file front) (keys files) → IsStrictlySortedBy (slice_cmp nat_cmp) paths → IsListing (Some files) folder paths
listing_given files folder front paths is told sorted =
    let here : paths ≡ filter (is_class_file (front_of folder)) (keys files) = told ∙ ap (λ f. filter (is_class_file f) (keys files)) is in
    record {
      sorted = sorted;
      own = subst (AllPass (is_class_file (front_of folder))) (sym here) (filter_passes (is_class_file (front_of folder)) (keys files));
      told = here;
    }
