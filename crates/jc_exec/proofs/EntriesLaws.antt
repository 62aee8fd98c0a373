-- Records under their ids, and the list of ids that begins with theirs.
use Rattle.std.proofs.Common.{◌≡◌, ◌≢◌, ℕ, zero, suc, ◌+◌, ◌<◌, ◌≤◌, Bool, true, false, cond, List, [], ◌∷◌, ◌++◌, length, map, take, get_or, slice_index, nat_eq, Option, Some, None, IfNone, Result, Ok, Err, refl, sym, ◌∙◌, ap, subst, arith}
use Rattle.std.specs.Map.{lookup, set_value}
use Rattle.std.proofs.Math.ListN.{set}
use Rattle.std.proofs.Math.Seq.{map-set_same}
use Rattle.std.proofs.lemmas.Bool.{eqb-false, ne_eqb, eq-eqb}
use Rattle.std.proofs.lemmas.List.{get_or-take, get_or-map, length-map, length-take, length-set, map-append, take_all, take_more}
use Rattle.std.proofs.lemmas.Option.{same_Some}
use Rattle.indexmap.specs.IndexMap.{insert_entry}
use Rattle.jc_exec.specs.declared.hits.ClassHits.{ClassHits}
use Rattle.jc_bytes.specs.declared.fail.Fail.{Fail}
use Rattle.jc_exec.specs.declared.refusal.ExecRefusal.{ExecRefusal}
use Rattle.jc_exec.specs.Adding.{Entries, MergesInto}
use Rattle.jc_exec.specs.Places.{with_id, ids_with, IsFront, IsPlaceOf}
use Rattle.jc_exec.specs.Store.{entries_of, classes_of, IsNew, IsSmall, Keyed}
use Rattle.jc_exec.proofs.RecordLaws.{none_first, set_is_insert}
use Rattle.jc_exec.proofs.StoreLaws.{new_and_there, all_fit}

-- ---- looking up

lookup_at : (cs : List ClassHits) (k id : ℕ) (d : ClassHits) → k < length cs → slice_index (map (λ c. c.id) cs) k ≡ id
    → ((j : ℕ) → j < k → slice_index (map (λ c. c.id) cs) j ≢ id) → lookup (nat_eq id) (entries_of cs) ≡ Some (get_or cs k d)
lookup_at [] k id d lt is front = absurd (omega (arith, lt))
lookup_at (c ∷ cs) zero id d lt is front = rw (eq-eqb id c.id (sym is)) refl
lookup_at (c ∷ cs) (suc k) id d lt is front =
    rw (ne_eqb id c.id (λ same. front 0 (omega arith) (sym same))) (lookup_at cs k id d (omega (arith, lt)) is (λ j below. front (suc j) (omega (arith, below))))

pub lookup_place : (cs : List ClassHits) (id place : ℕ) (d : ClassHits) → IsPlaceOf cs id place → lookup (nat_eq id) (entries_of cs) ≡ Some (get_or cs place d)
lookup_place cs id place d p = lookup_at cs place id d p.within p.is p.front

pub lookup_nowhere : (cs : List ClassHits) (id : ℕ) → ((j : ℕ) → j < length cs → slice_index (map (λ c. c.id) cs) j ≢ id) → lookup (nat_eq id) (entries_of cs) ≡ None
lookup_nowhere [] id none = refl
lookup_nowhere (c ∷ cs) id none =
    rw (ne_eqb id c.id (λ same. none 0 (omega arith) (sym same))) (lookup_nowhere cs id (λ j below. none (suc j) (omega (arith, below))))

pub nowhere : (cs : List ClassHits) (id : ℕ) → lookup (nat_eq id) (entries_of cs) ≡ None → (j : ℕ) → j < length cs → slice_index (map (λ c. c.id) cs) j ≢ id
nowhere [] id none j lt = absurd (omega (arith, lt))
nowhere (c ∷ cs) id none zero lt = λ same. eqb-false id c.id (none_first id (c.id, c) (entries_of cs) none).0 (sym same)
nowhere (c ∷ cs) id none (suc j) lt = nowhere cs id (none_first id (c.id, c) (entries_of cs) none).1 j (omega (arith, lt))

-- ---- ids that begin with those of records

front_long : (all : List ℕ) (cs : List ClassHits) → IsFront all cs → length cs ≤ length all
front_long all cs front = omega (arith, length-take (length cs) all, ap length front, length-map cs (λ (c : ClassHits). c.id))

pub front_at : (all : List ℕ) (cs : List ClassHits) (j : ℕ) → IsFront all cs → j < length cs → slice_index (map (λ c. c.id) cs) j ≡ slice_index all j
front_at all cs j front lt = ap (λ (l : List ℕ). slice_index l j) (sym front) ∙ get_or-take (length cs) all j 0 lt

pub place_found : (all : List ℕ) (cs : List ClassHits) (id place : ℕ) (r : Option ℕ) → IsFront all cs → r ≡ Some place
    → ((k : ℕ) → k < length all → slice_index all k ≡ id → r ≡ Some k) → place < length cs → slice_index all place ≡ id → IsPlaceOf cs id place
place_found all cs id place r front found only lt is = record {
  within = lt;
  is = front_at all cs place front lt ∙ is;
  front = λ j below same. (
      let within : j < length cs = omega (arith, below, lt) in
      let two : place ≡ j = same_Some place j (sym found ∙ only j (omega (arith, within, front_long all cs front)) (sym (front_at all cs j front within) ∙ same)) in
      omega (arith, two, below));
}

pub place_none : (all : List ℕ) (cs : List ClassHits) (id : ℕ) (r : Option ℕ) → IsFront all cs
    → ((k : ℕ) → k < length all → slice_index all k ≡ id → r ≡ Some k) → ((k : ℕ) → k < length cs → r ≢ Some k) → lookup (nat_eq id) (entries_of cs) ≡ None
place_none all cs id r front only none = lookup_nowhere cs id (λ j lt same.
    none j lt (only j (omega (arith, lt, front_long all cs front)) (sym (front_at all cs j front lt) ∙ same)))

pub if_none : {X : Type 0} (r : Option X) (P : Type 0) → P → IfNone r P
if_none None P holds = holds
if_none (Some x) P holds = tt

-- ---- a record in the place of another

pub set_entry : (cs : List ClassHits) (k id : ℕ) (v : ClassHits) → k < length cs → slice_index (map (λ c. c.id) cs) k ≡ id
    → ((j : ℕ) → j < k → slice_index (map (λ c. c.id) cs) j ≢ id) → v.id ≡ id → entries_of (set cs k v) ≡ set_value (nat_eq id) (entries_of cs) v
set_entry [] k id v lt is front same = absurd (omega (arith, lt))
set_entry (c ∷ cs) zero id v lt is front same = rw (eq-eqb id c.id (sym is)) (ap (λ (n : ℕ). (n, v) ∷ entries_of cs) (same ∙ sym is))
set_entry (c ∷ cs) (suc k) id v lt is front same =
    rw (ne_eqb id c.id (λ here. front 0 (omega arith) (sym here))) (ap (λ (l : Entries). (c.id, c) ∷ l)
    (set_entry cs k id v (omega (arith, lt)) is (λ j below. front (suc j) (omega (arith, below))) same))

pub place_set : (cs : List ClassHits) (id place : ℕ) (v : ClassHits) → IsPlaceOf cs id place → v.id ≡ id
    → entries_of (set cs place v) ≡ set_value (nat_eq id) (entries_of cs) v
place_set cs id place v p same = set_entry cs place id v p.within p.is p.front same

pub place_insert : (cs : List ClassHits) (id place : ℕ) (v : ClassHits) → IsPlaceOf cs id place → v.id ≡ id
    → entries_of (set cs place v) ≡ insert_entry nat_eq (entries_of cs) id v
place_insert cs id place v p same = place_set cs id place v p same ∙ set_is_insert id v (entries_of cs) (get_or cs place v) (lookup_place cs id place v p)

pub front_set : (all : List ℕ) (cs : List ClassHits) (id place : ℕ) (v : ClassHits) → IsFront all cs → IsPlaceOf cs id place → v.id ≡ id → IsFront all (set cs place v)
front_set all cs id place v front p same =
    ap (λ (n : ℕ). take n all) (length-set cs place v) ∙ front
    ∙ sym (map-set_same (λ (c : ClassHits). c.id) cs place v v (same ∙ sym p.is ∙ get_or-map (λ (c : ClassHits). c.id) cs place v 0 p.within))

-- ---- a record behind the others

insert_last : (k : ℕ) (v : ClassHits) (es : Entries) → lookup (nat_eq k) es ≡ None → insert_entry nat_eq es k v ≡ es ++ (k, v) ∷ []
insert_last k v [] none = refl
insert_last k v (e ∷ es) none =
    let n = none_first k e es none in
    rw n.0 (ap (λ (l : Entries). e ∷ l) (insert_last k v es n.1))

pub push_entry : (cs : List ClassHits) (v : ClassHits) → lookup (nat_eq v.id) (entries_of cs) ≡ None → entries_of (cs ++ v ∷ []) ≡ insert_entry nat_eq (entries_of cs) v.id v
push_entry cs v none = map-append (λ (c : ClassHits). (c.id, c)) cs (v ∷ []) ∙ sym (insert_last v.id v (entries_of cs) none)

-- an id that no record has is none of theirs
pub absent : (all : List ℕ) (cs : List ClassHits) (id : ℕ) → all ≡ map (λ c. c.id) cs → lookup (nat_eq id) (entries_of cs) ≡ None
    → (k : ℕ) → k < length all → slice_index all k ≢ id
absent all cs id is none k lt same =
    nowhere cs id none k (omega (arith, lt, ap length is, length-map cs (λ (c : ClassHits). c.id))) (ap (λ (l : List ℕ). slice_index l k) (sym is) ∙ same)

pub classes_are : (cs : List ClassHits) → classes_of (entries_of cs) ≡ cs
classes_are [] = refl
classes_are (c ∷ cs) = ap (λ (l : List ClassHits). c ∷ l) (classes_are cs)

-- no record in front of another has its id
pub none_in_front : (cs : List ClassHits) (k : ℕ) (r : ClassHits) → Keyed (entries_of cs) → k < length cs → get_or cs k r ≡ r
    → lookup (nat_eq r.id) (entries_of (take k cs)) ≡ None
none_in_front [] k r keyed lt is = absurd (omega (arith, lt))
none_in_front (c ∷ cs) zero r keyed lt is = refl
none_in_front (c ∷ cs) (suc k) r keyed lt is =
    let new : IsNew c.id cs = subst (IsNew c.id) (classes_are cs) keyed.3 in
    let below : k < length cs = omega (arith, lt) in
    rw (ne_eqb r.id c.id (λ same. new_and_there c.id cs r k new below is (sym same))) (none_in_front cs k r keyed.4 below is)

pub small_at : (cs : List ClassHits) (k : ℕ) (d : ClassHits) → Keyed (entries_of cs) → k < length cs → IsSmall (get_or cs k d)
small_at cs k d keyed lt =
    let below : k < length (classes_of (entries_of cs)) = omega (arith, lt, ap length (classes_are cs)) in
    subst (λ (l : List ClassHits). IsSmall (get_or l k d)) (classes_are cs) (all_fit (entries_of cs) keyed k d below).0

-- one record more of some
pub entries_next : (cs : List ClassHits) (k : ℕ) (r : ClassHits) → Keyed (entries_of cs) → k < length cs → get_or cs k r ≡ r
    → insert_entry nat_eq (entries_of (take k cs)) r.id r ≡ entries_of (take (k + 1) cs)
entries_next cs k r keyed lt is =
    sym (push_entry (take k cs) r (none_in_front cs k r keyed lt is))
    ∙ ap (λ (x : ClassHits). entries_of (take k cs ++ x ∷ [])) (sym is)
    ∙ ap entries_of (sym (take_more cs k r lt))

-- ---- ids with others behind them

pub with_present : (all : List ℕ) (id k : ℕ) → k < length all → slice_index all k ≡ id → with_id all id ≡ all
with_present [] id k lt is = absurd (omega (arith, lt))
with_present (x ∷ all) id zero lt is = rw (eq-eqb id x (sym is)) refl
with_present (x ∷ all) id (suc k) lt is = by (nat_eq id x) (with_present all id k (omega (arith, lt)) is)
  where
    by : (b : Bool) → with_id all id ≡ all → cond b (x ∷ all) (x ∷ with_id all id) ≡ x ∷ all
    by true rest = refl
    by false rest = ap (λ (l : List ℕ). x ∷ l) rest

pub with_absent : (all : List ℕ) (id : ℕ) → ((k : ℕ) → k < length all → slice_index all k ≢ id) → with_id all id ≡ all ++ id ∷ []
with_absent [] id none = refl
with_absent (x ∷ all) id none =
    rw (ne_eqb id x (λ same. none 0 (omega arith) (sym same))) (ap (λ (l : List ℕ). x ∷ l) (with_absent all id (λ k lt. none (suc k) (omega (arith, lt)))))

with_front : (all : List ℕ) (id n : ℕ) → n ≤ length all → take n (with_id all id) ≡ take n all
with_front all id zero le = refl
with_front [] id (suc n) le = absurd (omega (arith, le))
with_front (x ∷ all) id (suc n) le = by (nat_eq id x) (with_front all id n (omega (arith, le)))
  where
    by : (b : Bool) → take n (with_id all id) ≡ take n all → take (suc n) (cond b (x ∷ all) (x ∷ with_id all id)) ≡ x ∷ take n all
    by true rest = refl
    by false rest = ap (λ (l : List ℕ). x ∷ l) rest

with_longer : (all : List ℕ) (id : ℕ) → length all ≤ length (with_id all id)
with_longer [] id = omega arith
with_longer (x ∷ all) id = by (nat_eq id x) (with_longer all id)
  where
    by : (b : Bool) → length all ≤ length (with_id all id) → suc (length all) ≤ length (cond b (x ∷ all) (x ∷ with_id all id))
    by true rest = omega arith
    by false rest = omega (arith, rest)

ids_front : (all : List ℕ) (cs : List ClassHits) (n : ℕ) → n ≤ length all → take n (ids_with all cs) ≡ take n all
ids_front all [] n le = refl
ids_front all (c ∷ cs) n le = ids_front (with_id all c.id) cs n (omega (arith, le, with_longer all c.id)) ∙ with_front all c.id n le

pub ids_stay : (all : List ℕ) (cs : List ClassHits) → take (length all) (ids_with all cs) ≡ all
ids_stay all cs = ids_front all cs (length all) (omega arith) ∙ take_all (length all) all (omega arith)

ids_push : (all : List ℕ) (cs : List ClassHits) (c : ClassHits) → ids_with all (cs ++ c ∷ []) ≡ with_id (ids_with all cs) c.id
ids_push all [] c = refl
ids_push all (d ∷ cs) c = ids_push (with_id all d.id) cs c

-- one record more
pub ids_next : (all now later : List ℕ) (cs : List ClassHits) (i : ℕ) (c : ClassHits) → now ≡ ids_with all (take i cs) → i < length cs → c ≡ get_or cs i c
    → later ≡ with_id now c.id → later ≡ ids_with all (take (i + 1) cs)
ids_next all now later cs i c is lt item step =
    step
    ∙ ap (λ (l : List ℕ). with_id l c.id) is
    ∙ sym (ids_push all (take i cs) c)
    ∙ ap (λ (x : ClassHits). ids_with all (take i cs ++ x ∷ [])) item
    ∙ ap (ids_with all) (sym (take_more cs i c lt))

-- ---- the ids of records that were put

keys_of_entries : (cs : List ClassHits) → map (λ e. e.0) (entries_of cs) ≡ map (λ c. c.id) cs
keys_of_entries [] = refl
keys_of_entries (c ∷ cs) = ap (λ (l : List ℕ). c.id ∷ l) (keys_of_entries cs)

keys_insert : (es : Entries) (k : ℕ) (v : ClassHits) → map (λ e. e.0) (insert_entry nat_eq es k v) ≡ with_id (map (λ e. e.0) es) k
keys_insert [] k v = refl
keys_insert (e ∷ es) k v = by (nat_eq k e.0) (keys_insert es k v)
  where
    by : (b : Bool) → map (λ x. x.0) (insert_entry nat_eq es k v) ≡ with_id (map (λ x. x.0) es) k
        → map (λ x. x.0) (cond b ((e.0, v) ∷ es) (e ∷ insert_entry nat_eq es k v)) ≡ cond b (e.0 ∷ map (λ x. x.0) es) (e.0 ∷ with_id (map (λ x. x.0) es) k)
    by true rest = refl
    by false rest = ap (λ (l : List ℕ). e.0 ∷ l) rest

-- records of whose ids the later ones are known begin the ids
pub front_now : (all : List ℕ) (now rest : List ClassHits) → ids_with (map (λ c. c.id) now) rest ≡ all → IsFront all now
front_now all now rest is =
    ap (take (length now)) (sym is)
    ∙ ap (λ (n : ℕ). take n (ids_with (map (λ (c : ClassHits). c.id) now) rest)) (sym (length-map now (λ (c : ClassHits). c.id)))
    ∙ ids_stay (map (λ (c : ClassHits). c.id) now) rest

-- a record was put
pub ids_put : (now later : List ClassHits) (c : ClassHits) → entries_of later ≡ insert_entry nat_eq (entries_of now) c.id c
    → map (λ d. d.id) later ≡ with_id (map (λ d. d.id) now) c.id
ids_put now later c put =
    sym (keys_of_entries later) ∙ ap (map (λ (e : ℕ × ClassHits). e.0)) put ∙ keys_insert (entries_of now) c.id c
    ∙ ap (λ (l : List ℕ). with_id l c.id) (keys_of_entries now)

-- what was merged into a record has its id
pub merged_id : (r : Result (Unit {0}) (Fail ExecRefusal)) (c v hits : ClassHits) → MergesInto r c v hits → v.id ≡ c.id
merged_id (Ok done) c v hits m = ap (λ (x : ClassHits). x.id) m.1
merged_id (Err e) c v hits m = ap (λ (x : ClassHits). x.id) m.0

-- the record at the place has the id
pub id_there : (cs : List ClassHits) (id place : ℕ) (d : ClassHits) → IsPlaceOf cs id place → d ≡ get_or cs place d → d.id ≡ id
id_there cs id place d p is = ap (λ (x : ClassHits). x.id) is ∙ sym (get_or-map (λ (c : ClassHits). c.id) cs place d 0 p.within) ∙ p.is
