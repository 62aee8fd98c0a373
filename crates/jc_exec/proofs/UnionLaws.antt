-- The union of a list of blocks, one block more at a time.
use Rattle.std.proofs.Common.{◌≡◌, inl, inr, ℕ, zero, suc, ◌<◌, Bool, true, false, not, cond, ◌||◌, List, [], ◌∷◌, ◌++◌, length, filter, Contains, nat_eq, get_or, drop, refl, sym, ◌∙◌, ap, subst, arith}
use Rattle.std.specs.List.{AllByRecursion, list_any}
use Rattle.std.proofs.lemmas.Bool.{eqb-true, eqb-false, ne_eqb, eq-eqb, or_parts, or_right}
use Rattle.std.proofs.lemmas.List.{append-nil, map-append}
use Rattle.std.proofs.lemmas.List.Elements.{filter-append, All-from_recursion, recursion_from_All, All-filter, Contains-append_left, Contains-push, Contains-push_cases}
use Rattle.jc_bytes.proofs.EachLaws.{all_push, all_weaker}
use Rattle.jc_exec.specs.declared.hits.ClassHits.{ClassHits}
use Rattle.jc_exec.specs.declared.session.Session.{Session}
use Rattle.jc_exec.specs.Format.{Block, header, session, class}
use Rattle.jc_exec.specs.Store.{Store, IsNew}
use Rattle.jc_bytes.specs.FirstSeen.{first_seen}
use Rattle.jc_bytes.proofs.FirstSeenLaws.{either_way}
use Rattle.jc_bytes.proofs.BooleanLaws.{same_tests}
use Rattle.jc_exec.specs.Union.{sessions_of, records_of, ids_of, Agrees, IsHitAt, IsMerged, IsUnion}

-- ---- what the blocks hold

pub sessions-append : (bs more : List Block) → sessions_of (bs ++ more) ≡ sessions_of bs ++ sessions_of more
sessions-append [] more = refl
sessions-append (header ∷ bs) more = sessions-append bs more
sessions-append (session s ∷ bs) more = ap (λ (l : List Session). s ∷ l) (sessions-append bs more)
sessions-append (class c ∷ bs) more = sessions-append bs more

pub records-append : (bs more : List Block) → records_of (bs ++ more) ≡ records_of bs ++ records_of more
records-append [] more = refl
records-append (header ∷ bs) more = records-append bs more
records-append (session s ∷ bs) more = records-append bs more
records-append (class c ∷ bs) more = ap (λ (l : List ClassHits). c ∷ l) (records-append bs more)

-- ---- elements of a list

pub all_filter : {X : Type 0} (P : X → Type 0) (p : X → Bool) (xs : List X) → AllByRecursion P xs → AllByRecursion P (filter p xs)
all_filter P p xs all = recursion_from_All P (filter p xs) (All-filter p P xs (All-from_recursion P xs all))

-- ---- numbers where they are first seen

-- the number is in the list
abbrev pub among : ℕ → List ℕ → Bool
among y xs = list_any (λ x. nat_eq x y) xs

among_filter : (x y : ℕ) → nat_eq x y ≡ false → (xs : List ℕ) → among y (filter (λ z. not (nat_eq x z)) xs) ≡ among y xs
among_filter x y apart [] = refl
among_filter x y apart (z ∷ zs) = by (nat_eq x z) refl (among_filter x y apart zs)
  where
    by : (b : Bool) → nat_eq x z ≡ b → among y (filter (λ z. not (nat_eq x z)) zs) ≡ among y zs
        → among y (cond (not b) (z ∷ filter (λ z. not (nat_eq x z)) zs) (filter (λ z. not (nat_eq x z)) zs)) ≡ (nat_eq z y || among y zs)
    by true is rest = let other : nat_eq z y ≡ false = sym (ap (λ (n : ℕ). nat_eq n y) (eqb-true x z is)) ∙ apart in rw other rest
    by false is rest = ap (λ (b : Bool). nat_eq z y || b) rest

pub among_first_seen : (xs : List ℕ) (y : ℕ) → among y (first_seen xs) ≡ among y xs
among_first_seen [] y = refl
among_first_seen (x ∷ xs) y = either_way (nat_eq x y) (among y (filter (λ z. not (nat_eq x z)) (first_seen xs))) (among y xs) (λ apart. among_filter x y apart (first_seen xs) ∙ among_first_seen xs y)

-- a number more at the end
pub first_seen-append : (xs : List ℕ) (y : ℕ) → first_seen (xs ++ y ∷ []) ≡ first_seen xs ++ cond (among y xs) [] (y ∷ [])
first_seen-append [] y = refl
first_seen-append (x ∷ xs) y =
    ap (λ (l : List ℕ). x ∷ filter (λ z. not (nat_eq x z)) l) (first_seen-append xs y)
    ∙ ap (λ (l : List ℕ). x ∷ l) (filter-append (λ z. not (nat_eq x z)) (first_seen xs) (cond (among y xs) [] (y ∷ []))
    ∙ ap (λ (l : List ℕ). filter (λ z. not (nat_eq x z)) (first_seen xs) ++ l) (by (nat_eq x y) (among y xs) refl))
  where
    by : (a b : Bool) → nat_eq x y ≡ a → filter (λ z. not (nat_eq x z)) (cond b [] (y ∷ [])) ≡ cond (a || b) [] (y ∷ [])
    by true true is = refl
    by true false is = rw is refl
    by false true is = refl
    by false false is = rw is refl

-- ---- ids

pub new_is_not_among : (id : ℕ) (cs : List ClassHits) → IsNew id cs → among id (ids_of cs) ≡ false
new_is_not_among id [] new = refl
new_is_not_among id (c ∷ cs) new = let apart : nat_eq c.id id ≡ false = ne_eqb c.id id (λ e. new.0 (sym e)) in rw apart (new_is_not_among id cs new.1)

not_among_at : (id : ℕ) (cs : List ClassHits) (c : ClassHits) → among id (ids_of cs) ≡ false → (k : ℕ) → k < length cs → get_or cs k c ≡ c → c.id ≡ id → ⊥
not_among_at id [] c none k lt is same = omega (arith, lt)
not_among_at id (d ∷ cs) c none zero lt is same = eqb-false d.id id (or_parts (nat_eq d.id id) (among id (ids_of cs)) none).0 (ap (λ (x : ClassHits). x.id) is ∙ same)
not_among_at id (d ∷ cs) c none (suc k) lt is same = not_among_at id cs c (or_parts (nat_eq d.id id) (among id (ids_of cs)) none).1 k (omega (arith, lt)) is same

pub not_among : (id : ℕ) (cs : List ClassHits) → among id (ids_of cs) ≡ false → (c : ClassHits) → Contains cs c → c.id ≡ id → ⊥
not_among id cs none c there same = not_among_at id cs c none there.0 there.1 there.2 same

-- a record that is new to the union is new to its records
pub new_to_records : (bs : List Block) (s : Store) (id : ℕ) → IsUnion bs s → IsNew id s.classes → among id (ids_of (records_of bs)) ≡ false
new_to_records bs s id u new = sym (among_first_seen (ids_of (records_of bs)) id) ∙ sym (ap (among id) u.ids) ∙ new_is_not_among id s.classes new

-- ---- one record more

-- a merged record of another id stays
pub merged_other : (rs : List ClassHits) (r c : ClassHits) → (c.id ≡ r.id → ⊥) → IsMerged rs c → IsMerged (rs ++ r ∷ []) c
merged_other rs r c apart m = record {
  agrees = λ x there same. elim (Contains-push_cases rs r x there) [
    | inl before ↦ m.agrees x before same
    | inr last ↦ absurd (apart (sym (ap (λ (y : ClassHits). y.id) last ∙ same)))
  ];
  hits = λ k lt. (
    λ hit. let some = (m.hits k lt).0 hit in (some.0, Contains-append_left rs (r ∷ []) some.0 some.1, some.2, some.3),
    λ some. elim (Contains-push_cases rs r some.0 some.1) [
      | inl before ↦ (m.hits k lt).1 (some.0, before, some.2, some.3)
      | inr last ↦ absurd (apart (sym (ap (λ (y : ClassHits). y.id) last ∙ some.2)))
    ],
  );
}

-- the first record of an id is merged by itself
pub merged_first : (rs : List ClassHits) (r : ClassHits) → among r.id (ids_of rs) ≡ false → IsMerged (rs ++ r ∷ []) r
merged_first rs r none = record {
  agrees = λ x there same. elim (Contains-push_cases rs r x there) [
    | inl before ↦ absurd (not_among r.id rs none x before same)
    | inr last ↦ subst (λ (y : ClassHits). Agrees y r) last (record { name = refl; count = refl })
  ];
  hits = λ k lt. (
    λ hit. (r, Contains-push rs r, refl, hit),
    λ some. elim (Contains-push_cases rs r some.0 some.1) [
      | inl before ↦ absurd (not_among r.id rs none some.0 before some.2)
      | inr last ↦ subst (λ (y : ClassHits). IsHitAt y k) (sym last) some.3
    ],
  );
}

pub all_merged_other : (rs cs : List ClassHits) (r : ClassHits) → IsNew r.id cs → AllByRecursion (IsMerged rs) cs → AllByRecursion (IsMerged (rs ++ r ∷ [])) cs
all_merged_other rs [] r new a = tt
all_merged_other rs (c ∷ cs) r new a = (merged_other rs r c (λ e. new.0 (sym e)) a.0, all_merged_other rs cs r new.1 a.1)

-- a union is one of the sessions and the records of its blocks
pub same_union : (bs ds : List Block) (s : Store) → sessions_of bs ≡ sessions_of ds → records_of bs ≡ records_of ds → IsUnion bs s → IsUnion ds s
same_union bs ds s sessions records u = record {
  sessions = u.sessions ∙ sessions;
  ids = u.ids ∙ ap (λ (l : List ClassHits). first_seen (ids_of l)) records;
  merged = subst (λ (l : List ClassHits). AllByRecursion (IsMerged l) s.classes) records u.merged;
}

pub union_none : IsUnion [] (record { sessions = []; classes = [] })
union_none = record { sessions = refl; ids = refl; merged = tt }

pub union_header : (bs : List Block) (s : Store) → IsUnion bs s → IsUnion (bs ++ header ∷ []) s
union_header bs s u = same_union bs (bs ++ header ∷ []) s
    (sym (sessions-append bs (header ∷ []) ∙ append-nil (sessions_of bs)))
    (sym (records-append bs (header ∷ []) ∙ append-nil (records_of bs))) u

pub union_class : (bs : List Block) (s : Store) (c : ClassHits) → IsUnion bs s → IsNew c.id s.classes → IsUnion (bs ++ class c ∷ []) (record { sessions = s.sessions; classes = s.classes ++ c ∷ [] })
union_class bs s c u new =
    let rs = records_of bs in
    let records : records_of (bs ++ class c ∷ []) ≡ rs ++ c ∷ [] = records-append bs (class c ∷ []) in
    let none = new_to_records bs s c.id u new in
    let merged : AllByRecursion (IsMerged (rs ++ c ∷ [])) (s.classes ++ c ∷ []) = all_push (IsMerged (rs ++ c ∷ [])) s.classes c
    (all_merged_other rs s.classes c new u.merged) (merged_first rs c none) in
    record {
      sessions = u.sessions ∙ sym (sessions-append bs (class c ∷ []) ∙ append-nil (sessions_of bs));
      ids =
          map-append (λ (d : ClassHits). d.id) s.classes (c ∷ [])
          ∙ ap (λ (l : List ℕ). l ++ c.id ∷ []) u.ids
          ∙ sym (first_seen-append (ids_of rs) c.id ∙ ap (λ (b : Bool). first_seen (ids_of rs) ++ cond b [] (c.id ∷ [])) none)
          ∙ sym (ap (λ (l : List ClassHits). first_seen (ids_of l)) records ∙ ap first_seen (map-append (λ (d : ClassHits). d.id) rs (c ∷ [])));
      merged = subst (λ (l : List ClassHits). AllByRecursion (IsMerged l) (s.classes ++ c ∷ [])) (sym records) merged;
    }

-- ---- one union of each list

same_bits : (xs ys : List Bool) → length xs ≡ length ys
    → ((k : ℕ) → k < length xs → (get_or xs k false ≡ true → get_or ys k false ≡ true) × (get_or ys k false ≡ true → get_or xs k false ≡ true)) → xs ≡ ys
same_bits [] [] long same = refl
same_bits [] (y ∷ ys) long same = absurd (omega (arith, long))
same_bits (x ∷ xs) [] long same = absurd (omega (arith, long))
same_bits (x ∷ xs) (y ∷ ys) long same =
    let first = same 0 (omega arith) in
    let head = same_tests x y first.0 first.1 in
    let tail = same_bits xs ys (omega (arith, long)) (λ k lt. same (suc k) (omega (arith, lt))) in
    λ i. head i ∷ tail i

abbrev pub HasRecord : List ClassHits → ℕ → Type 0
HasRecord rs id = (r : ClassHits) × Contains rs r × (r.id ≡ id)

pub same_record : (rs : List ClassHits) (c d : ClassHits) → c.id ≡ d.id → HasRecord rs c.id → IsMerged rs c → IsMerged rs d → c ≡ d
same_record rs c d id there a b =
    let of_c = a.agrees there.0 there.1 there.2 in
    let of_d = b.agrees there.0 there.1 (there.2 ∙ id) in
    let name : c.name ≡ d.name = sym of_c.name ∙ of_d.name in
    let count : length c.bits ≡ length d.bits = sym of_c.count ∙ of_d.count in
    let bits : c.bits ≡ d.bits = same_bits c.bits d.bits count (λ k lt. (
      λ hit. let some = (a.hits k lt).0 hit in (b.hits k (omega (arith, lt, count))).1 (some.0, some.1, some.2 ∙ id, some.3),
      λ hit. let some = (b.hits k (omega (arith, lt, count))).0 hit in (a.hits k lt).1 (some.0, some.1, some.2 ∙ sym id, some.3),
    )) in
    λ i. record { id = id i; name = name i; bits = bits i }

pub same_records : (rs cs ds : List ClassHits) → ids_of cs ≡ ids_of ds → AllByRecursion (HasRecord rs) (ids_of cs) → AllByRecursion (IsMerged rs) cs → AllByRecursion (IsMerged rs) ds → cs ≡ ds
same_records rs [] [] ids there a b = refl
same_records rs [] (d ∷ ds) ids there a b = absurd (omega (arith, ap length ids))
same_records rs (c ∷ cs) [] ids there a b = absurd (omega (arith, ap length ids))
same_records rs (c ∷ cs) (d ∷ ds) ids there a b =
    let id : c.id ≡ d.id = ap (λ (l : List ℕ). get_or l 0 0) ids in
    let head = same_record rs c d id there.0 a.0 b.0 in
    let tail = same_records rs cs ds (ap (λ (l : List ℕ). drop 1 l) ids) there.1 a.1 b.1 in
    λ i. head i ∷ tail i

has_weaker : (rs : List ClassHits) (r : ClassHits) (id : ℕ) → HasRecord rs id → HasRecord (r ∷ rs) id
has_weaker rs r id (x, there, same) = (x, (suc there.0, omega (arith, there.1), there.2), same)

-- an id that is seen is one of a record
pub seen_has_record : (rs : List ClassHits) → AllByRecursion (HasRecord rs) (first_seen (ids_of rs))
seen_has_record [] = tt
seen_has_record (r ∷ rs) = (
  (r, (0, omega arith, refl), refl),
  all_filter (HasRecord (r ∷ rs)) (λ y. not (nat_eq r.id y)) (first_seen (ids_of rs)) (all_weaker (HasRecord rs) (HasRecord (r ∷ rs)) (has_weaker rs r) (first_seen (ids_of rs)) (seen_has_record rs)),
)

pub one_union : (bs : List Block) (s t : Store) → IsUnion bs s → IsUnion bs t → s ≡ t
one_union bs s t u v =
    let rs = records_of bs in
    let sessions : s.sessions ≡ t.sessions = u.sessions ∙ sym v.sessions in
    let there : AllByRecursion (HasRecord rs) (ids_of s.classes) = subst (AllByRecursion (HasRecord rs)) (sym u.ids) (seen_has_record rs) in
    let classes : s.classes ≡ t.classes = same_records rs s.classes t.classes (u.ids ∙ sym v.ids) there u.merged v.merged in
    λ i. record { sessions = sessions i; classes = classes i }

-- ---- ids that are there

-- a record of the id is in the union
pub in_union : (rs cs : List ClassHits) (id : ℕ) → among id (ids_of cs) ≡ true → AllByRecursion (IsMerged rs) cs → (d : ClassHits) × IsMerged rs d × (d.id ≡ id)
in_union rs [] id some a = absurd cc
in_union rs (c ∷ cs) id some a = by (nat_eq c.id id) refl some (λ later. in_union rs cs id later a.1)
  where
    by : (b : Bool) → nat_eq c.id id ≡ b → (b || among id (ids_of cs)) ≡ true
        → (among id (ids_of cs) ≡ true → (d : ClassHits) × IsMerged rs d × (d.id ≡ id)) → (d : ClassHits) × IsMerged rs d × (d.id ≡ id)
    by true is some rest = (c, a.0, eqb-true c.id id is)
    by false is some rest = rest some

pub among_there : (rs : List ClassHits) (r : ClassHits) (k : ℕ) → k < length rs → get_or rs k r ≡ r → among r.id (ids_of rs) ≡ true
among_there [] r k lt is = absurd (omega (arith, lt))
among_there (x ∷ rs) r zero lt is = rw (eq-eqb x.id r.id (ap (λ (y : ClassHits). y.id) is)) refl
among_there (x ∷ rs) r (suc k) lt is = or_right (nat_eq x.id r.id) (among r.id (ids_of rs)) (among_there rs r k (omega (arith, lt)) is)

merged_at : (rs cs : List ClassHits) (c : ClassHits) (k : ℕ) → k < length cs → get_or cs k c ≡ c → AllByRecursion (IsMerged rs) cs
    → AllByRecursion (HasRecord rs) (ids_of cs) → IsMerged rs c × HasRecord rs c.id
merged_at rs [] c k lt is a b = absurd (omega (arith, lt))
merged_at rs (d ∷ cs) c zero lt is a b = (subst (IsMerged rs) is a.0, subst (λ (x : ClassHits). HasRecord rs x.id) is b.0)
merged_at rs (d ∷ cs) c (suc k) lt is a b = merged_at rs cs c k (omega (arith, lt)) is a.1 b.1

-- what is known of a record of the union
pub merged_of : (bs : List Block) (s : Store) (c : ClassHits) → IsUnion bs s → Contains s.classes c → IsMerged (records_of bs) c × HasRecord (records_of bs) c.id
merged_of bs s c u there =
    let rs = records_of bs in
    merged_at rs s.classes c there.0 there.1 there.2 u.merged (subst (AllByRecursion (HasRecord rs)) (sym u.ids) (seen_has_record rs))
