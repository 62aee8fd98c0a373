-- Records that are merged one after the other make the union, and nothing but records that do not agree stops it.
use Rattle.std.proofs.Common.{◌≡◌, ◌≢◌, ◌⊎◌, inl, inr, ℕ, zero, suc, ◌<◌, Bool, true, false, not, cond, ◌||◌, List, [], ◌∷◌, ◌++◌, length, filter, Contains, Option, Some, None, option_map, option_and_then, nat_eq, get_or, bytes_eq, refl, sym, ◌∙◌, ap, subst, arith, append_assoc}
use Rattle.std.specs.List.{AllByRecursion}
use Rattle.std.proofs.lemmas.Bool.{eqb-true, eqb-false, eq-eqb, and_parts, or_cases, or_left, or_right}
use Rattle.std.proofs.lemmas.List.{append-nil, map-append}
use Rattle.std.proofs.lemmas.List.Elements.{Contains-append_left, Contains-push, Contains-push_cases}
use Rattle.std.proofs.lemmas.Slice.Eq.{bytes_eq-Decides}
use Rattle.std.proofs.lemmas.Option.{same_Some}
use Rattle.jc_exec.specs.declared.hits.ClassHits.{ClassHits}
use Rattle.jc_exec.specs.declared.session.Session.{Session}
use Rattle.jc_exec.specs.Format.{Block, header, session, class}
use Rattle.jc_exec.specs.Store.{Store, IsNew}
use Rattle.jc_bytes.specs.FirstSeen.{first_seen}
use Rattle.jc_exec.specs.Union.{sessions_of, records_of, ids_of, Agrees, IsHitAt, IsMerged, IsUnion, either_bits, agree, either_hits, with_record, with_block, union_of}
use Rattle.jc_exec.specs.Refusing.{OneOfEachId}
use Rattle.jc_exec.proofs.UnionLaws.{sessions-append, records-append, all_filter, among, first_seen-append, among_first_seen, merged_other, merged_first, all_merged_other, union_none, union_header, one_union, in_union, among_there, HasRecord, seen_has_record}

-- ---- two records of one id

pub length_either : (xs ys : List Bool) → length xs ≡ length ys → length (either_bits xs ys) ≡ length xs
length_either [] [] e = refl
length_either [] (y ∷ ys) e = absurd (omega (arith, e))
length_either (x ∷ xs) [] e = refl
length_either (x ∷ xs) (y ∷ ys) e = ap suc (length_either xs ys (omega (arith, e)))

get_either : (xs ys : List Bool) (k : ℕ) → length xs ≡ length ys → get_or (either_bits xs ys) k false ≡ (get_or xs k false || get_or ys k false)
get_either [] [] k e = refl
get_either [] (y ∷ ys) k e = absurd (omega (arith, e))
get_either (x ∷ xs) [] k e = absurd (omega (arith, e))
get_either (x ∷ xs) (y ∷ ys) zero e = refl
get_either (x ∷ xs) (y ∷ ys) (suc k) e = get_either xs ys k (omega (arith, e))

pub agree_agrees : (c r : ClassHits) → agree c r ≡ true → Agrees r c
agree_agrees c r e =
    let both = and_parts (bytes_eq c.name r.name) (nat_eq (length c.bits) (length r.bits)) e in
    record { name = sym ((bytes_eq-Decides c.name r.name).0 both.0); count = sym (eqb-true (length c.bits) (length r.bits) both.1) }

pub agrees_agree : (c r : ClassHits) → Agrees r c → agree c r ≡ true
agrees_agree c r a = rw ((bytes_eq-Decides c.name r.name).1 (sym a.name), eq-eqb (length c.bits) (length r.bits) (sym a.count)) refl

-- a record of the same id is merged in
merged_same : (rs : List ClassHits) (r c : ClassHits) → c.id ≡ r.id → Agrees r c → IsMerged rs c → IsMerged (rs ++ r ∷ []) (either_hits c r)
merged_same rs r c id a m =
    let long = length_either c.bits r.bits (sym a.count) in
    record {
      agrees = λ x there same. elim (Contains-push_cases rs r x there) [
        | inl before ↦ (let b = m.agrees x before same in record { name = b.name; count = b.count ∙ sym long })
        | inr last ↦ subst (λ (y : ClassHits). Agrees y (either_hits c r)) last (record { name = a.name; count = a.count ∙ sym long })
      ];
      hits = λ k lt.
          let is = get_either c.bits r.bits k (sym a.count) in
          let below : k < length c.bits = omega (arith, lt, long) in (
            λ hit. elim (or_cases (get_or c.bits k false) (get_or r.bits k false) (sym is ∙ hit)) [
              | inl first ↦ (let some = (m.hits k below).0 first in (some.0, Contains-append_left rs (r ∷ []) some.0 some.1, some.2, some.3))
              | inr second ↦ (r, Contains-push rs r, sym id, second)
            ],
            λ some. elim (Contains-push_cases rs r some.0 some.1) [
              | inl before ↦ is ∙ or_left (get_or c.bits k false) (get_or r.bits k false) ((m.hits k below).1 (some.0, before, some.2, some.3))
              | inr last ↦ is ∙ or_right (get_or c.bits k false) (get_or r.bits k false) (subst (λ (y : ClassHits). IsHitAt y k) (sym last) some.3)
            ],
          );
    }

-- ---- records with one more

-- the records with one more, by whether the first has its id and agrees with it, and by what comes of those behind
abbrev pub with_first : ClassHits → ClassHits → List ClassHits → Bool → Bool → Option (List ClassHits) → Option (List ClassHits)
with_first c r cs same agrees rest = cond same (cond agrees (Some (either_hits c r ∷ cs)) None) (option_map (λ (l : List ClassHits). c ∷ l) rest)

-- the first record has the id, and took the bits
abbrev MergedAtFirst : ClassHits → ClassHits → List ClassHits → List ClassHits → Type 0
MergedAtFirst c r cs ds = (c.id ≡ r.id) × Agrees r c × (ds ≡ either_hits c r ∷ cs)

-- the first record has another id, and the one more is among those behind
abbrev MergedBehind : ClassHits → ClassHits → List ClassHits → List ClassHits → Type 0
MergedBehind c r cs ds = (nat_eq c.id r.id ≡ false) × (es : List ClassHits) × (with_record cs r ≡ Some es) × (ds ≡ c ∷ es)

-- what comes of a step over the first record
first_step : (c r : ClassHits) (cs ds : List ClassHits) → with_record (c ∷ cs) r ≡ Some ds → MergedAtFirst c r cs ds ⊎ MergedBehind c r cs ds
first_step c r cs ds e = by (nat_eq c.id r.id) (agree c r) (with_record cs r) refl refl refl e
  where
    by : (a b : Bool) (rest : Option (List ClassHits)) → nat_eq c.id r.id ≡ a → agree c r ≡ b → with_record cs r ≡ rest
        → with_first c r cs a b rest ≡ Some ds → MergedAtFirst c r cs ds ⊎ MergedBehind c r cs ds
    by true true rest id agrees is e = inl (eqb-true c.id r.id id, agree_agrees c r agrees, sym (same_Some (either_hits c r ∷ cs) ds e))
    by true false rest id agrees is e = absurd cc
    by false b (Some es) id agrees is e = inr (id, es, is, sym (same_Some (c ∷ es) ds e))
    by false b None id agrees is e = absurd cc

ids_with : (cs ds : List ClassHits) (r : ClassHits) → with_record cs r ≡ Some ds → ids_of ds ≡ ids_of cs ++ cond (among r.id (ids_of cs)) [] (r.id ∷ [])
ids_with [] ds r e = ap ids_of (sym (same_Some (r ∷ []) ds e))
ids_with (c ∷ cs) ds r e = elim (first_step c r cs ds e) [
  | inl same ↦
      let here : nat_eq c.id r.id ≡ true = eq-eqb c.id r.id same.0 in
      ap ids_of same.2 ∙ sym (append-nil (c.id ∷ ids_of cs)) ∙ ap (λ (b : Bool). (c.id ∷ ids_of cs) ++ cond (b || among r.id (ids_of cs)) [] (r.id ∷ [])) (sym here)
  | inr other ↦
      ap ids_of other.3 ∙ ap (λ (l : List ℕ). c.id ∷ l) (ids_with cs other.1 r other.2)
      ∙ ap (λ (b : Bool). (c.id ∷ ids_of cs) ++ cond (b || among r.id (ids_of cs)) [] (r.id ∷ [])) (sym other.0)
]

merged_with : (rs cs ds : List ClassHits) (r : ClassHits) → OneOfEachId cs → AllByRecursion (IsMerged rs) cs
    → (among r.id (ids_of cs) ≡ false → among r.id (ids_of rs) ≡ false) → with_record cs r ≡ Some ds → AllByRecursion (IsMerged (rs ++ r ∷ [])) ds
merged_with rs [] ds r apart a none e = subst (AllByRecursion (IsMerged (rs ++ r ∷ []))) (same_Some (r ∷ []) ds e) (merged_first rs r (none refl), tt)
merged_with rs (c ∷ cs) ds r apart a none e = elim (first_step c r cs ds e) [
  | inl same ↦ subst (AllByRecursion (IsMerged (rs ++ r ∷ []))) (sym same.2) (merged_same rs r c same.0 same.1 a.0, all_merged_other rs cs r (subst (λ (id : ℕ). IsNew id cs) same.0 apart.0) a.1)
  | inr other ↦
      let later : among r.id (ids_of cs) ≡ false → among r.id (ids_of rs) ≡ false = (λ not_later. none (rw (other.0, not_later) refl)) in
      subst (AllByRecursion (IsMerged (rs ++ r ∷ []))) (sym other.3) (merged_other rs r c (λ id. eqb-false c.id r.id other.0 id) a.0, merged_with rs cs other.1 r apart.1 a.1 later other.2)
]

-- ---- ids that are first seen differ

abbrev Apart : List ℕ → Type 0
Apart [] = Unit {0}
Apart (x ∷ xs) = AllByRecursion (λ y. x ≢ y) xs × Apart xs

filter_apart : (p : ℕ → Bool) (xs : List ℕ) → Apart xs → Apart (filter p xs)
filter_apart p [] a = tt
filter_apart p (x ∷ xs) a = by (p x) (filter_apart p xs a.1)
  where
    by : (b : Bool) → Apart (filter p xs) → Apart (cond b (x ∷ filter p xs) (filter p xs))
    by true rest = (all_filter (λ y. x ≢ y) p xs a.0, rest)
    by false rest = rest

filter_others : (x : ℕ) (xs : List ℕ) → AllByRecursion (λ y. x ≢ y) (filter (λ y. not (nat_eq x y)) xs)
filter_others x [] = tt
filter_others x (y ∷ ys) = by (nat_eq x y) refl (filter_others x ys)
  where
    by : (b : Bool) → nat_eq x y ≡ b → AllByRecursion (λ z. x ≢ z) (filter (λ z. not (nat_eq x z)) ys)
        → AllByRecursion (λ z. x ≢ z) (cond (not b) (y ∷ filter (λ z. not (nat_eq x z)) ys) (filter (λ z. not (nat_eq x z)) ys))
    by true is rest = rest
    by false is rest = (eqb-false x y is, rest)

first_seen_apart : (xs : List ℕ) → Apart (first_seen xs)
first_seen_apart [] = tt
first_seen_apart (x ∷ xs) = (filter_others x (first_seen xs), filter_apart (λ y. not (nat_eq x y)) (first_seen xs) (first_seen_apart xs))

apart_distinct : (cs : List ClassHits) → Apart (ids_of cs) → OneOfEachId cs
apart_distinct [] a = tt
apart_distinct (c ∷ cs) a = (new cs a.0, apart_distinct cs a.1)
  where
    new : (ds : List ClassHits) → AllByRecursion (λ y. c.id ≢ y) (ids_of ds) → IsNew c.id ds
    new [] a = tt
    new (d ∷ ds) a = (a.0, new ds a.1)

pub union_distinct : (bs : List Block) (s : Store) → IsUnion bs s → OneOfEachId s.classes
union_distinct bs s u = apart_distinct s.classes (subst Apart (sym u.ids) (first_seen_apart (ids_of (records_of bs))))

-- ---- one block more

pub union_session : (bs : List Block) (s : Store) (t : Session) → IsUnion bs s → IsUnion (bs ++ session t ∷ []) (record { sessions = s.sessions ++ t ∷ []; classes = s.classes })
union_session bs s t u =
    let records : records_of (bs ++ session t ∷ []) ≡ records_of bs = records-append bs (session t ∷ []) ∙ append-nil (records_of bs) in
    record {
      sessions = ap (λ (l : List Session). l ++ t ∷ []) u.sessions ∙ sym (sessions-append bs (session t ∷ []));
      ids = u.ids ∙ ap (λ (l : List ClassHits). first_seen (ids_of l)) (sym records);
      merged = subst (λ (l : List ClassHits). AllByRecursion (IsMerged l) s.classes) (sym records) u.merged;
    }

union_record : (bs : List Block) (s : Store) (r : ClassHits) (ds : List ClassHits) → IsUnion bs s → with_record s.classes r ≡ Some ds
    → IsUnion (bs ++ class r ∷ []) (record { sessions = s.sessions; classes = ds })
union_record bs s r ds u e =
    let rs = records_of bs in
    let records : records_of (bs ++ class r ∷ []) ≡ rs ++ r ∷ [] = records-append bs (class r ∷ []) in
    let there : among r.id (ids_of s.classes) ≡ among r.id (ids_of rs) = ap (among r.id) u.ids ∙ among_first_seen (ids_of rs) r.id in
    record {
      sessions = u.sessions ∙ sym (sessions-append bs (class r ∷ []) ∙ append-nil (sessions_of bs));
      ids =
          ids_with s.classes ds r e
          ∙ (λ i. u.ids i ++ cond (there i) [] (r.id ∷ []))
          ∙ sym (first_seen-append (ids_of rs) r.id)
          ∙ sym (ap (λ (l : List ClassHits). first_seen (ids_of l)) records ∙ ap first_seen (map-append (λ (d : ClassHits). d.id) rs (r ∷ [])));
      merged = subst (λ (l : List ClassHits). AllByRecursion (IsMerged l) ds) (sym records) (merged_with rs s.classes ds r (union_distinct bs s u) u.merged (λ none. sym there ∙ none) e);
    }

pub union_block : (bs : List Block) (b : Block) (s t : Store) → IsUnion bs s → with_block s b ≡ Some t → IsUnion (bs ++ b ∷ []) t
union_block bs header s t u e = subst (IsUnion (bs ++ header ∷ [])) (same_Some s t e) (union_header bs s u)
union_block bs (session x) s t u e = subst (IsUnion (bs ++ session x ∷ [])) (same_Some (record { sessions = s.sessions ++ x ∷ []; classes = s.classes }) t e) (union_session bs s x u)
union_block bs (class r) s t u e = by (with_record s.classes r) refl e
  where
    by : (o : Option (List ClassHits)) → with_record s.classes r ≡ o → option_map (λ (cs : List ClassHits). record s { classes = cs }) o ≡ Some t → IsUnion (bs ++ class r ∷ []) t
    by (Some ds) is e = subst (IsUnion (bs ++ class r ∷ [])) (same_Some (record { sessions = s.sessions; classes = ds }) t e) (union_record bs s r ds u is)
    by None is e = absurd cc

pub union_blocks : (bs more : List Block) (s t : Store) → IsUnion bs s → union_of s more ≡ Some t → IsUnion (bs ++ more) t
union_blocks bs [] s t u e = subst (λ (l : List Block). IsUnion l t) (sym (append-nil bs)) (subst (IsUnion bs) (same_Some s t e) u)
union_blocks bs (b ∷ more) s t u e = by (with_block s b) refl e (λ s1 u1 e1. union_blocks (bs ++ b ∷ []) more s1 t u1 e1)
  where
    by : (o : Option Store) → with_block s b ≡ o → option_and_then (λ (x : Store). union_of x more) o ≡ Some t
        → ((x : Store) → IsUnion (bs ++ b ∷ []) x → union_of x more ≡ Some t → IsUnion ((bs ++ b ∷ []) ++ more) t) → IsUnion (bs ++ b ∷ more) t
    by (Some x) is e next = subst (λ (l : List Block). IsUnion l t) (append_assoc bs (b ∷ []) more) (next x (union_block bs b s x u is) e)
    by None is e next = absurd cc

pub merging_makes_union : (bs : List Block) (s : Store) → union_of (record { sessions = []; classes = [] }) bs ≡ Some s → IsUnion bs s
merging_makes_union bs s e = union_blocks [] bs (record { sessions = []; classes = [] }) s union_none e

-- ---- and where there is a union, merging makes it

-- records of one id agree
abbrev pub Consistent : List ClassHits → Type 0
Consistent rs = (x y : ClassHits) → Contains rs x → Contains rs y → x.id ≡ y.id → Agrees x y

pub union_consistent : (bs : List Block) (s : Store) → IsUnion bs s → Consistent (records_of bs)
union_consistent bs s u = λ x y there_x there_y same.
    let rs = records_of bs in
    let some : among x.id (ids_of s.classes) ≡ true = ap (among x.id) u.ids ∙ among_first_seen (ids_of rs) x.id ∙ among_there rs x there_x.0 there_x.1 there_x.2 in
    let d = in_union rs s.classes x.id some u.merged in
    let a = d.1.agrees x there_x (sym d.2) in
    let b = d.1.agrees y there_y (sym same ∙ sym d.2) in
    record { name = a.name ∙ sym b.name; count = a.count ∙ sym b.count }

-- the record agrees with each merged one of its id
agrees_all : (rs cs : List ClassHits) (r : ClassHits) → Consistent (rs ++ r ∷ []) → AllByRecursion (IsMerged rs) cs
    → AllByRecursion (HasRecord rs) (ids_of cs) → AllByRecursion (λ c. c.id ≡ r.id → Agrees r c) cs
agrees_all rs [] r same a there = tt
agrees_all rs (c ∷ cs) r same a there = (
  λ id.
      let x = there.0 in
      let of_x = a.0.agrees x.0 x.1 x.2 in
      let of_r = same r x.0 (Contains-push rs r) (Contains-append_left rs (r ∷ []) x.0 x.1) (sym id ∙ sym x.2) in
      record { name = of_r.name ∙ of_x.name; count = of_r.count ∙ of_x.count },
  agrees_all rs cs r same a.1 there.1,
)

record_fits : (cs : List ClassHits) (r : ClassHits) → AllByRecursion (λ c. c.id ≡ r.id → Agrees r c) cs → (ds : List ClassHits) × (with_record cs r ≡ Some ds)
record_fits [] r a = (r ∷ [], refl)
record_fits (c ∷ cs) r a = by (nat_eq c.id r.id) refl (record_fits cs r a.1)
  where
    by : (b : Bool) → nat_eq c.id r.id ≡ b → (ds : List ClassHits) × (with_record cs r ≡ Some ds)
        → (ds : List ClassHits) × (with_first c r cs b (agree c r) (with_record cs r) ≡ Some ds)
    by true is rest = (either_hits c r ∷ cs, rw (agrees_agree c r (a.0 (eqb-true c.id r.id is))) refl)
    by false is (es, e) = (c ∷ es, rw e refl)

pub front_consistent : (rs more : List ClassHits) → Consistent (rs ++ more) → Consistent rs
front_consistent rs more same = λ x y there_x there_y id. same x y (Contains-append_left rs more x there_x) (Contains-append_left rs more y there_y) id

merging_runs : (bs more : List Block) (s : Store) → IsUnion bs s → Consistent (records_of (bs ++ more)) → (t : Store) × (union_of s more ≡ Some t)
merging_runs bs [] s u same = (s, refl)
merging_runs bs (header ∷ more) s u same = merging_runs (bs ++ header ∷ []) more s (union_header bs s u)
    (subst (λ (l : List Block). Consistent (records_of l)) (sym (append_assoc bs (header ∷ []) more)) same)
merging_runs bs (session x ∷ more) s u same =
    merging_runs (bs ++ session x ∷ []) more (record { sessions = s.sessions ++ x ∷ []; classes = s.classes }) (union_session bs s x u)
    (subst (λ (l : List Block). Consistent (records_of l)) (sym (append_assoc bs (session x ∷ []) more)) same)
merging_runs bs (class r ∷ more) s u same =
    let rs = records_of bs in
    let later : Consistent (records_of ((bs ++ class r ∷ []) ++ more)) = subst (λ (l : List Block). Consistent (records_of l)) (sym (append_assoc bs (class r ∷ []) more)) same in
    let one : Consistent (rs ++ r ∷ []) = subst Consistent (records-append bs (class r ∷ []))
    (front_consistent (records_of (bs ++ class r ∷ [])) (records_of more) (subst Consistent (records-append (bs ++ class r ∷ []) more) later)) in
    let there : AllByRecursion (HasRecord rs) (ids_of s.classes) = subst (AllByRecursion (HasRecord rs)) (sym u.ids) (seen_has_record rs) in
    let fits = record_fits s.classes r (agrees_all rs s.classes r one u.merged there) in
    let rest = merging_runs (bs ++ class r ∷ []) more (record { sessions = s.sessions; classes = fits.0 }) (union_record bs s r fits.0 u fits.1) later in
    (rest.0, rw fits.1 rest.1)

pub union_is_merged : (bs : List Block) (s : Store) → IsUnion bs s → union_of (record { sessions = []; classes = [] }) bs ≡ Some s
union_is_merged bs s u =
    let run = merging_runs [] bs (record { sessions = []; classes = [] }) union_none (union_consistent bs s u) in
    run.1 ∙ ap (λ (t : Store). Some t) (one_union bs run.0 s (merging_makes_union bs run.0 run.1) u)

-- blocks whose records of one id agree have a union
pub union_exists : (bs : List Block) → Consistent (records_of bs) → (s : Store) × IsUnion bs s
union_exists bs same =
    let run = merging_runs [] bs (record { sessions = []; classes = [] }) union_none same in
    (run.0, merging_makes_union bs run.0 run.1)
