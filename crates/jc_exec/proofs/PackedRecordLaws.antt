-- Packed records, one more merged in or put last.
use Rattle.std.proofs.Common.{◌≡◌, ℕ, ◌+◌, ◌/◌, ◌^◌, ◌<◌, ◌≤◌, Bool, true, List, [], ◌∷◌, ◌++◌, length, take, drop, get_or, slice_index, nat_eq, Option, Some, None, Result, Ok, Err, refl, sym, ◌∙◌, ap, subst, arith, length-append}
use Rattle.std.specs.Map.{lookup}
use Rattle.std.proofs.Math.ListN.{set}
use Rattle.std.proofs.lemmas.List.{set-get_or, length-take, length-map}
use Rattle.std.proofs.lemmas.Option.{same_Some}
use Rattle.indexmap.specs.IndexMap.{insert_entry}
use Rattle.jc_bytes.specs.declared.fail.Fail.{Fail}
use Rattle.jc_bytes.proofs.OptionLaws.{some_none}
use Rattle.jc_exec.specs.declared.hits.ClassHits.{ClassHits}
use Rattle.jc_exec.specs.declared.packed_records.Row.{Row}
use Rattle.jc_exec.specs.declared.refusal.ExecRefusal.{ExecRefusal}
use Rattle.jc_exec.specs.Adding.{MergesInto}
use Rattle.jc_exec.specs.Packed.{packed}
use Rattle.jc_exec.specs.Places.{IsFront, IsPlaceOf}
use Rattle.jc_exec.specs.Rows.{part, with_part, bits_from, bits_size, end_of, hits_at, hits_of, AreLaid, ArePacked, TakesIn}
use Rattle.jc_exec.specs.Store.{IsSmall, entries_of}
use Rattle.jc_exec.specs.Union.{agree, either_bits, either_hits}
use Rattle.jc_exec.proofs.BitsLaws.{length_unpack}
use Rattle.jc_exec.proofs.EntriesLaws.{front_at, lookup_nowhere, lookup_place, push_entry}
use Rattle.jc_exec.proofs.MergingLaws.{length_either, agree_agrees}
use Rattle.jc_exec.proofs.PackedLaws.{made_own, bytes_size}
use Rattle.jc_exec.proofs.RowLaws.{hits_own, hits_last, laid_more, laid_push, of_more, of_take, of_size, of_push, of_at, of_set, ids_front, with_part_size}

pub packed_size : (bits : List Bool) → length (packed bits) ≡ (length bits + 7) / 8
packed_size bits = bytes_size (length bits) (packed bits) (made_own (length bits) bits (packed bits) refl refl)

-- a record whose row's numbers fit is small
pub small_at : (bytes : List ℕ) (id : ℕ) (r : Row) → id < 2 ^ 64 → r.name < 65536 → r.count < 65536 → IsSmall (hits_at bytes id r)
small_at bytes id r here name count = record {
  id = here;
  name = omega (arith, name, length-take r.name (drop r.from bytes));
  bits = omega (arith, count, length_unpack r.count (part bytes (bits_from r) (bits_size r)));
}

pub entries_size : (bytes ids : List ℕ) (rows : List Row) → ArePacked bytes ids rows → length (entries_of (hits_of bytes ids rows)) ≡ length rows
entries_size bytes ids rows p = length-map (hits_of bytes ids rows) (λ (c : ClassHits). (c.id, c)) ∙ of_size bytes ids rows p.known

-- a record that took bits has as many
pub count_taken : (there hits v : ClassHits) (n : ℕ) → agree there hits ≡ true → v ≡ either_hits there hits → length there.bits ≡ n → length v.bits ≡ n
count_taken there hits v n agrees is count =
    ap (λ (c : ClassHits). length c.bits) is ∙ length_either there.bits hits.bits (sym (agree_agrees there hits agrees).count) ∙ count

-- ---- the place of an id

module _ (bytes ids : List ℕ) (rows : List Row) (p : ArePacked bytes ids rows) (id : ℕ) (r : Option ℕ)
    (only : (k : ℕ) → k < length rows → slice_index ids k ≡ id → r ≡ Some k) where
  size : length (hits_of bytes ids rows) ≡ length rows
  size = of_size bytes ids rows p.known

  front : IsFront ids (hits_of bytes ids rows)
  front = ids_front bytes ids rows p.known

  pub row_place : (place : ℕ) → r ≡ Some place → place < length rows → slice_index ids place ≡ id → IsPlaceOf (hits_of bytes ids rows) id place
  row_place place found lt is = record {
    within = omega (arith, lt, size);
    is = front_at ids (hits_of bytes ids rows) place front (omega (arith, lt, size)) ∙ is;
    front = λ j below same. (
        let within : j < length rows = omega (arith, below, lt) in
        let here = sym (front_at ids (hits_of bytes ids rows) j front (omega (arith, within, size))) ∙ same in
        let two : place ≡ j = same_Some place j (sym found ∙ only j within here) in
        omega (arith, two, below));
  }

  pub row_none : r ≡ None → lookup (nat_eq id) (entries_of (hits_of bytes ids rows)) ≡ None
  row_none none = lookup_nowhere (hits_of bytes ids rows) id (λ j lt same.
      some_none (sym (only j (omega (arith, lt, size)) (sym (front_at ids (hits_of bytes ids rows) j front lt) ∙ same)) ∙ none))

  -- the record at the place
  pub row_found : (place : ℕ) (row : Row) → r ≡ Some place → place < length rows → slice_index ids place ≡ id → row ≡ get_or rows place row
      → lookup (nat_eq id) (entries_of (hits_of bytes ids rows)) ≡ Some (hits_at bytes id row)
  row_found place row found lt is there =
      lookup_place (hits_of bytes ids rows) id place (hits_at bytes id row) (row_place place found lt is)
      ∙ ap (λ (c : ClassHits). Some c) (of_at bytes ids rows place (hits_at bytes id row) row lt p.known ∙ (λ i. hits_at bytes (is i) (sym there i)))

-- ---- a record that takes the bits of another

-- what stands then
pub record Taken (r : Result (Unit {0}) (Fail ExecRefusal)) (bytes later ids : List ℕ) (rows : List Row) (row : Row) (place : ℕ) (hits : ClassHits) : Type 0 where
  pub v : ClassHits
  pub merges : MergesInto r (hits_at bytes hits.id row) v hits
  pub same_id : v.id ≡ hits.id
  pub is : hits_of later ids rows ≡ set (hits_of bytes ids rows) place v
  pub size : length later ≡ length bytes
  pub stands : ArePacked later ids rows

module _ (bytes ids : List ℕ) (rows : List Row) (p : ArePacked bytes ids rows) (hits : ClassHits) (place : ℕ) (row : Row)
    (lt : place < length rows) (is : slice_index ids place ≡ hits.id) (there : row ≡ get_or rows place row) (room : end_of row ≤ length bytes) where
  takes : (done : Unit {0}) → agree (hits_at bytes hits.id row) hits ≡ true
      → Taken (Ok done) bytes (with_part bytes (bits_from row) (packed (either_bits (hits_at bytes hits.id row).bits hits.bits))) ids rows row place hits
  takes done agrees =
      let c = hits_at bytes hits.id row in
      let both = either_bits c.bits hits.bits in
      let a = agree_agrees c hits agrees in
      let count : length both ≡ row.count = length_either c.bits hits.bits (sym a.count) ∙ length_unpack row.count _ in
      let size : length (packed both) ≡ bits_size row = packed_size both ∙ ap (λ (n : ℕ). (n + 7) / 8) count in
      let later = with_part bytes (bits_from row) (packed both) in
      let one : hits_at later (get_or ids place 0) row ≡ either_hits c hits =
      (λ i. hits_at later (is i) row) ∙ hits_own bytes both hits.id row count size room in
      let same : length later ≡ length bytes = with_part_size bytes (packed both) (bits_from row) (omega (arith, room, size)) in
      record {
        v = either_hits c hits;
        merges = (agrees, refl);
        same_id = refl;
        is = of_set bytes (packed both) ids rows 0 place row p.laid lt p.known there size ∙ ap (set (hits_of bytes ids rows) place) one;
        size = same;
        stands = record { known = p.known; laid = subst (AreLaid 0 rows) (sym same) p.laid };
      }

  pub taken : (r : Result (Unit {0}) (Fail ExecRefusal)) (later : List ℕ) → TakesIn r bytes later row hits → Taken r bytes later ids rows row place hits
  taken (Ok done) later t = subst (λ (l : List ℕ). Taken (Ok done) bytes l ids rows row place hits) (sym t.1) (takes done t.0)
  taken (Err e) later t =
      let c = hits_at bytes hits.id row in
      let cs = hits_of bytes ids rows in
      let at : get_or cs place c ≡ c = of_at bytes ids rows place c row lt p.known ∙ (λ i. hits_at bytes (is i) (sym there i)) in
      subst (λ (l : List ℕ). Taken (Err e) bytes l ids rows row place hits) (sym t.0) (record {
        v = c;
        merges = (refl, t.1);
        same_id = refl;
        is = sym (set-get_or cs place c) ∙ ap (set cs place) at;
        size = refl;
        stands = p;
      })

-- ---- a record that is put last

pub packed_as : (bytes later ids ids' : List ℕ) (rows rows' : List Row) → later ≡ bytes → ids' ≡ ids → rows' ≡ rows → ArePacked bytes ids rows
    → ArePacked later ids' rows'
packed_as bytes later ids ids' rows rows' b i r p =
    subst (λ (rs : List Row). ArePacked later ids' rs) (sym r) (subst (λ (is : List ℕ). ArePacked later is rows) (sym i)
    (subst (λ (bs : List ℕ). ArePacked bs ids rows) (sym b) p))

pub packed_front : (bytes ids : List ℕ) (rows : List Row) → ArePacked bytes ids rows → ArePacked bytes (take (length rows) ids) rows
packed_front bytes ids rows p = record { known = omega (arith, p.known, length-take (length rows) ids); laid = p.laid }

pub packed_ids : (bytes ids more : List ℕ) (rows : List Row) → ArePacked bytes ids rows → ArePacked bytes (ids ++ more) rows
packed_ids bytes ids more rows p = record { known = omega (arith, p.known, length-append ids more); laid = p.laid }

pub packed_more : (bytes more ids : List ℕ) (rows : List Row) → ArePacked bytes ids rows → ArePacked (bytes ++ more) ids rows
packed_more bytes more ids rows p = record {
  known = p.known;
  laid = laid_more 0 (length bytes) (length (bytes ++ more)) rows p.laid (omega (arith, length-append bytes more));
}

module _ (bytes ids : List ℕ) (rows : List Row) (p : ArePacked bytes ids rows) (hits : ClassHits) (row : Row)
    (from : row.from ≡ length bytes) (name : row.name ≡ length hits.name) (count : row.count ≡ length hits.bits) where
  text_size : length (packed hits.bits) ≡ bits_size row
  text_size = packed_size hits.bits ∙ ap (λ (n : ℕ). (n + 7) / 8) (sym count)

  all : length (take (length rows) ids) ≡ length rows
  all = omega (arith, p.known, length-take (length rows) ids)

  pub put_last : ArePacked (bytes ++ (hits.name ++ packed hits.bits)) (take (length rows) ids ++ hits.id ∷ []) (rows ++ row ∷ [])
  put_last =
      let text = hits.name ++ packed hits.bits in
      let long : length (bytes ++ text) ≡ length bytes + (length hits.name + length (packed hits.bits)) =
      omega (arith, length-append bytes text, length-append hits.name (packed hits.bits)) in
      record {
        known = omega (arith, all, length-append (take (length rows) ids) (hits.id ∷ []), length-append rows (row ∷ []));
        laid = laid_push 0 (length bytes) (length (bytes ++ text)) rows row p.laid (omega (arith, from)) (omega (arith, long, from, name, text_size));
      }

  pub last_entry : lookup (nat_eq hits.id) (entries_of (hits_of bytes ids rows)) ≡ None
      → entries_of (hits_of (bytes ++ (hits.name ++ packed hits.bits)) (take (length rows) ids ++ hits.id ∷ []) (rows ++ row ∷ []))
      ≡ insert_entry nat_eq (entries_of (hits_of bytes ids rows)) hits.id hits
  last_entry none =
      let text = hits.name ++ packed hits.bits in
      let before : hits_of (bytes ++ text) (take (length rows) ids) rows ≡ hits_of bytes ids rows =
      of_more 0 bytes text (take (length rows) ids) rows p.laid ∙ of_take bytes ids rows in
      let last = hits_last bytes hits row from name count text_size in
      ap entries_of (of_push (bytes ++ text) (take (length rows) ids) rows hits.id row (sym all) ∙ (λ i. before i ++ last i ∷ []))
      ∙ push_entry (hits_of bytes ids rows) hits none
