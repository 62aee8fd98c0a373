-- What files in memory hold at a path, before and after a change.
use Rattle.std.proofs.Common.{◌≡◌, ◌≢◌, ℕ, Bool, true, false, cond, List, [], ◌∷◌, map, Option, None, Some, is_some, option_map, string_bytes, String, Vec, Result, Ok, Err, OnOk, OnErr, refl, sym, ◌∙◌, ap, subst}
use Rattle.std.proofs.lemmas.Slice.Eq.{bytes_eq-Decides}
use Rattle.std.proofs.lemmas.Map.Text.{is_eq-slice_cmp, btree_map_updates_text}
use Rattle.std.proofs.lemmas.Map.Lookups.{exact_bytes}
use Rattle.std.proofs.lemmas.Cmp.{nat_list_cmp_total}
use Rattle.std.specs.Map.{lookup}
use Rattle.std.specs.BTreeMap.{is_at, get_by_text, UpdatesBy}
use Rattle.std.specs.String.{string_cmp}
use Rattle.std.specs.declared.alloc.Global.{Global}
use Rattle.std.specs.Ordering.{nat_cmp}
use Rattle.std.specs.Cmp.Lexicographic.{slice_cmp}
use Rattle.std.specs.Str.{bytes_eq}
use Rattle.std.specs.FinMap.{get, insert, find, get-from_entries, get-insert, same_map}
use Rattle.jc_bytes.proofs.TextEqualLaws.{turned, same_bytes}
use Rattle.jc_outside.specs.Outside.{FileMap, Begins, IsPart, LeavesPart}
use Rattle.jc_outside.specs.InMemory.{Kept, entry_of, held, emptied}

-- the bytes that were found
abbrev found : Option (Vec ℕ Global) → Option (List ℕ)
found o = option_map (λ (v : Vec ℕ Global). v.items) o

found_cond : (b : Bool) (v : Vec ℕ Global) (o : Option (Vec ℕ Global)) → found (cond b (Some v) o) ≡ cond b (Some v.items) (found o)
found_cond true v o = refl
found_cond false v o = refl

module _ (path : List ℕ) where
  find_found : (es : List (String Global × Vec ℕ Global)) → find (slice_cmp nat_cmp) path (map entry_of es) ≡ found (lookup (is_at (λ k. slice_cmp nat_cmp path (string_bytes k))) es)
  find_found [] = refl
  find_found (e ∷ es) = ap (λ (o : Option (List ℕ)). cond (is_at (λ k. slice_cmp nat_cmp path (string_bytes k)) e.0) (Some e.1.items) o)
      (find_found es) ∙ sym (found_cond (is_at (λ k. slice_cmp nat_cmp path (string_bytes k)) e.0) e.1 (lookup (is_at (λ k. slice_cmp nat_cmp path (string_bytes k))) es))

  pub get_held : (m : Kept) → get (held m) path ≡ found (get_by_text m path)
  get_held m = get-from_entries nat_list_cmp_total (map entry_of m.entries) path ∙ find_found m.entries

-- what a map that was written at a path holds
pub get_inserted : (m : FileMap) (path bytes q : List ℕ) → get (insert m path bytes) q ≡ cond (bytes_eq path q) (Some bytes) (get m q)
get_inserted m path bytes q = get-insert nat_list_cmp_total m path bytes q ∙ ap (λ b. cond b (Some bytes) (get m q)) (is_eq-slice_cmp q path ∙ turned q path)

pub get_here : (m : FileMap) (path bytes : List ℕ) → get (insert m path bytes) path ≡ Some bytes
get_here m path bytes = get_inserted m path bytes path ∙ ap (λ b. cond b (Some bytes) (get m path)) (same_bytes path path refl)

pub get_there : (m : FileMap) (path bytes q : List ℕ) → q ≢ path → get (insert m path bytes) q ≡ get m q
get_there m path bytes q other = get_inserted m path bytes q ∙ ap (λ b. cond b (Some bytes) (get m q)) (differ (bytes_eq path q) refl)
  where
    differ : (b : Bool) → bytes_eq path q ≡ b → bytes_eq path q ≡ false
    differ true e = absurd (other (sym ((bytes_eq-Decides path q).0 e)))
    differ false e = e

-- a value was put at a path
pub held_updated : (path : List ℕ) (m n : Kept) (v : Vec ℕ Global) → UpdatesBy string_cmp (λ k. slice_cmp nat_cmp path (string_bytes k)) m n (Some v) → held n ≡ insert (held m) path v.items
held_updated path m n v updates = same_map nat_list_cmp_total exact_bytes _ _ (λ q.
    get_held q n ∙ ap found (btree_map_updates_text path m n (Some v) updates q) ∙ found_cond (bytes_eq path q) v (get_by_text m q)
    ∙ ap (cond (bytes_eq path q) (Some v.items)) (sym (get_held q m)) ∙ sym (get_inserted (held m) path v.items q))

-- the file at a path was emptied, or none is there
pub held_emptied : (path : List ℕ) (m n : Kept) (v old : Vec ℕ Global) → UpdatesBy string_cmp (λ k. slice_cmp nat_cmp path (string_bytes k)) m n
    (Some v) → v.items ≡ [] → Some old ≡ get_by_text m path → held n ≡ emptied (held m) path
held_emptied path m n v old updates none there =
    held_updated path m n v updates ∙ ap (insert (held m) path) none
    ∙ ap (λ b. cond b (insert (held m) path []) (held m)) (sym (ap is_some (get_held path m ∙ ap found (sym there))))

pub held_lacks : (path : List ℕ) (m : Kept) → None ≡ get_by_text m path → held m ≡ emptied (held m) path
held_lacks path m there = ap (λ b. cond b (insert (held m) path []) (held m)) (sym (ap is_some (get_held path m ∙ ap found (sym there))))

-- ---- what a failed write leaves

part_written : (m n : FileMap) (path part bytes : List ℕ) → n ≡ insert m path part → Begins part bytes → LeavesPart bytes path m n
part_written m n path part bytes e front = subst (LeavesPart bytes path m) (sym e) (record {
  part = subst (IsPart bytes (get m path)) (sym (get_here m path part)) front;
  others = get_there m path part;
})

emptied_leaves : (m n : FileMap) (path bytes : List ℕ) → n ≡ emptied m path → LeavesPart bytes path m n
emptied_leaves m n path bytes e = by (get m path) refl
  where
    by : (o : Option (List ℕ)) → get m path ≡ o → LeavesPart bytes path m n
    by (Some old) is = part_written m n path [] bytes (e ∙ ap (λ (o : Option (List ℕ)). cond (is_some o) (insert m path []) m) is) (bytes, refl)
    by None is =
        let same : n ≡ m = e ∙ ap (λ (o : Option (List ℕ)). cond (is_some o) (insert m path []) m) is in
        subst (LeavesPart bytes path m) (sym same) (record {
          part = subst (IsPart bytes (get m path)) (sym is) is;
          others = λ q other. refl;
        })

-- a front of the bytes was to be written
pub write_failed : {E : Type 0} (r : Result (Unit {0}) E) (m n : FileMap) (path part bytes : List ℕ) → Begins part bytes
    → OnOk r (n ≡ insert m path part) → OnErr r (n ≡ emptied m path) → LeavesPart bytes path m n
write_failed (Ok u) m n path part bytes front done stopped = part_written m n path part bytes done front
write_failed (Err e) m n path part bytes front done stopped = emptied_leaves m n path bytes stopped
