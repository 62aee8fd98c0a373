-- The slow program that tests compare the store with.
use Rattle.std.proofs.Common.{◌≡◌, ◌↔◌, ℕ, zero, suc, ◌+◌, ◌*◌, ◌<◌, ◌≤◌, Bool, true, false, cond, ◌&&◌, ◌||◌, List, [], ◌∷◌, ◌++◌, length, map, take, drop, Contains, nat_eq, get_or, refl, sym, ◌∙◌, ap, subst, arith, add-zero}
use mir.Val.{bool_byte}
use Rattle.std.specs.List.{AllByRecursion, list_any}
use Rattle.std.proofs.lemmas.List.FromFn.{map-range_with_len_more, get_or-map-range_with_len, length-map-range_with_len}
use Rattle.std.proofs.lemmas.Bool.{eqb-true, eq-eqb, and_parts, or_right}
use Rattle.std.proofs.lemmas.List.{append-nil, map-append, get_or-take, get_or-drop, drop-drop, take_all}
use Rattle.std.proofs.Math.Seq.{take-suc}
use Rattle.jc_bytes.proofs.EachLaws.{all_push, all_weaker}
use Rattle.jc_exec.specs.declared.hits.ClassHits.{ClassHits}
use Rattle.jc_exec.specs.Format.{class}
use Rattle.examples_methods.specs.SlowUnion.{some_hit, all_hits, merged_record}
use Rattle.jc_exec.specs.Store.{Store}
use Rattle.jc_bytes.specs.FirstSeen.{first_seen}
use Rattle.jc_exec.specs.Union.{records_of, ids_of, IsHitAt, SomeIsHitAt, IsMerged, IsUnion}
use Rattle.jc_exec.specs.Writing.{low_first, pack}
use Rattle.jc_exec.proofs.UnionLaws.{among, among_first_seen, same_records, seen_has_record, first_seen-append, in_union, among_there, HasRecord}

-- ---- bytes

bit_number : (b : Bool) → (cond b 1 0) ≡ bool_byte b
bit_number true = refl
bit_number false = refl

low_at : (bits : List Bool) (k : ℕ) → low_first (drop k bits) ≡ bool_byte (get_or bits k false) + 2 * low_first (drop (suc k) bits)
low_at [] zero = refl
low_at [] (suc k) = refl
low_at (b ∷ bits) zero = ap (λ (n : ℕ). n + 2 * low_first bits) (bit_number b)
low_at (b ∷ bits) (suc k) = low_at bits k

-- the byte of eight bits
pub low_of_eight : (bits : List Bool) (p a b c d e f g h : ℕ) → a ≡ bool_byte (get_or bits p false) → b ≡ bool_byte (get_or bits (p + 1) false)
    → c ≡ bool_byte (get_or bits (p + 2) false) → d ≡ bool_byte (get_or bits (p + 3) false)
    → e ≡ bool_byte (get_or bits (p + 4) false) → f ≡ bool_byte (get_or bits (p + 5) false) → g ≡ bool_byte (get_or bits (p + 6) false) → h ≡ bool_byte (get_or bits (p + 7) false)
    → (a + 2 * b) + 4 * (c + 2 * d) + 16 * (e + 2 * f) + 64 * (g + 2 * h) ≡ low_first (take 8 (drop p bits))
low_of_eight bits p a b c d e f g h ia ib ic id ie iff ig ih =
    let eight = take 8 (drop p bits) in
    let bit : (k : ℕ) → k < 8 → bool_byte (get_or bits (p + k) false) ≡ bool_byte (get_or eight k false) =
    (λ k lt. ap bool_byte (sym (get_or-take 8 (drop p bits) k false lt ∙ get_or-drop p bits k false))) in
    let s0 = low_at eight 0 in let t0 = bit 0 (omega arith) in
    let s1 = low_at eight 1 in let t1 = bit 1 (omega arith) in
    let s2 = low_at eight 2 in let t2 = bit 2 (omega arith) in
    let s3 = low_at eight 3 in let t3 = bit 3 (omega arith) in
    let s4 = low_at eight 4 in let t4 = bit 4 (omega arith) in
    let s5 = low_at eight 5 in let t5 = bit 5 (omega arith) in
    let s6 = low_at eight 6 in let t6 = bit 6 (omega arith) in
    let s7 = low_at eight 7 in let t7 = bit 7 (omega arith) in
    let end : low_first (drop 8 eight) ≡ 0 = ap low_first (nothing_behind (drop p bits)) in
    let h_is : h ≡ low_first (drop 7 eight) = omega (arith, s7, end, ih, t7) in
    let g_is : g + 2 * h ≡ low_first (drop 6 eight) = omega (arith, s6, h_is, ig, t6) in
    let f_is : f + 2 * (g + 2 * h) ≡ low_first (drop 5 eight) = omega (arith, s5, g_is, iff, t5) in
    let e_is : e + 2 * (f + 2 * (g + 2 * h)) ≡ low_first (drop 4 eight) = omega (arith, s4, f_is, ie, t4) in
    let d_is : d + 2 * (e + 2 * (f + 2 * (g + 2 * h))) ≡ low_first (drop 3 eight) = omega (arith, s3, e_is, id, t3) in
    let c_is : c + 2 * (d + 2 * (e + 2 * (f + 2 * (g + 2 * h)))) ≡ low_first (drop 2 eight) = omega (arith, s2, d_is, ic, t2) in
    let b_is : b + 2 * (c + 2 * (d + 2 * (e + 2 * (f + 2 * (g + 2 * h))))) ≡ low_first (drop 1 eight) = omega (arith, s1, c_is, ib, t1) in
    let first : a ≡ bool_byte (get_or bits (p + 0) false) = ia ∙ ap (λ (q : ℕ). bool_byte (get_or bits q false)) (sym (add-zero p)) in
    omega (arith, s0, b_is, first, t0)
  where
    nothing_behind : (xs : List Bool) → drop 8 (take 8 xs) ≡ []
    nothing_behind [] = refl
    nothing_behind (a ∷ []) = refl
    nothing_behind (a ∷ b ∷ []) = refl
    nothing_behind (a ∷ b ∷ c ∷ []) = refl
    nothing_behind (a ∷ b ∷ c ∷ d ∷ []) = refl
    nothing_behind (a ∷ b ∷ c ∷ d ∷ e ∷ []) = refl
    nothing_behind (a ∷ b ∷ c ∷ d ∷ e ∷ f ∷ []) = refl
    nothing_behind (a ∷ b ∷ c ∷ d ∷ e ∷ f ∷ g ∷ []) = refl
    nothing_behind (a ∷ b ∷ c ∷ d ∷ e ∷ f ∷ g ∷ h ∷ xs) = refl

-- one byte more
pub pack_more : (n : ℕ) (bits : List Bool) → pack (n + 1) bits ≡ pack n bits ++ low_first (take 8 (drop (8 * n) bits)) ∷ []
pack_more zero bits = refl
pack_more (suc n) bits =
    let one : suc n + 1 ≡ suc (n + 1) = omega arith in
    let more : 8 + 8 * n ≡ 8 * suc n = omega arith in
    ap (λ (k : ℕ). pack k bits) one
    ∙ ap (λ (l : List ℕ). low_first (take 8 bits) ∷ l) (pack_more n (drop 8 bits))
    ∙ ap (λ (l : List Bool). (low_first (take 8 bits) ∷ pack n (drop 8 bits)) ++ low_first (take 8 l) ∷ []) (drop-drop (8 * n) 8 bits ∙ ap (λ (k : ℕ). drop k bits) more)

-- ---- bits of all records of an id

pub all_hits_more : (rs : List ClassHits) (id n : ℕ) → all_hits rs id (n + 1) ≡ all_hits rs id n ++ some_hit rs id n ∷ []
unfolding all_hits
all_hits_more rs id n = map-range_with_len_more (some_hit rs id) 0 n n (omega arith)

pub all_hits_none : (rs : List ClassHits) (id : ℕ) → [] ≡ all_hits rs id 0
unfolding all_hits
all_hits_none rs id = refl

length_all_hits : (rs : List ClassHits) (id n : ℕ) → length (all_hits rs id n) ≡ n
unfolding all_hits
length_all_hits rs id n = length-map-range_with_len (some_hit rs id) 0 n

get_all_hits : (rs : List ClassHits) (id n k : ℕ) → k < n → get_or (all_hits rs id n) k false ≡ some_hit rs id k
unfolding all_hits
get_all_hits rs id n k lt = get_or-map-range_with_len (some_hit rs id) 0 n k k false lt (omega arith)

some_hit_found : (rs : List ClassHits) (id k : ℕ) → some_hit rs id k ≡ true → SomeIsHitAt rs id k
some_hit_found [] id k e = absurd cc
some_hit_found (r ∷ rs) id k e = by (nat_eq r.id id && get_or r.bits k false) refl e (λ later. some_hit_found rs id k later)
  where
    by : (b : Bool) → (nat_eq r.id id && get_or r.bits k false) ≡ b → (b || some_hit rs id k) ≡ true → (some_hit rs id k ≡ true → SomeIsHitAt rs id k) → SomeIsHitAt (r ∷ rs) id k
    by true is e rest = let both = and_parts (nat_eq r.id id) (get_or r.bits k false) is in (r, (0, omega arith, refl), eqb-true r.id id both.0, both.1)
    by false is e rest = let some = rest e in (some.0, (suc some.1.0, omega (arith, some.1.1), some.1.2), some.2, some.3)

found_at : (rs : List ClassHits) (id k : ℕ) (r : ClassHits) (j : ℕ) → j < length rs → get_or rs j r ≡ r → r.id ≡ id → IsHitAt r k → some_hit rs id k ≡ true
found_at [] id k r j lt is same hit = absurd (omega (arith, lt))
found_at (x ∷ rs) id k r zero lt is same hit =
    let here : nat_eq x.id id ≡ true = eq-eqb x.id id (ap (λ (y : ClassHits). y.id) is ∙ same) in
    let on : get_or x.bits k false ≡ true = ap (λ (y : ClassHits). get_or y.bits k false) is ∙ hit in
    rw (here, on) refl
found_at (x ∷ rs) id k r (suc j) lt is same hit = or_right (nat_eq x.id id && get_or x.bits k false) (some_hit rs id k) (found_at rs id k r j (omega (arith, lt)) is same hit)

-- the merged record has the bits of all
merged_hits : (rs : List ClassHits) (r : ClassHits) (k : ℕ) → k < length (merged_record rs r).bits → IsHitAt (merged_record rs r) k ↔ SomeIsHitAt rs r.id k
merged_hits rs r k lt =
    let is = get_all_hits rs r.id (length r.bits) k (omega (arith, lt, length_all_hits rs r.id (length r.bits))) in
    (λ hit. some_hit_found rs r.id k (sym is ∙ hit), λ some. is ∙ found_at rs r.id k some.0 some.1.0 some.1.1 some.1.2 some.2 some.3)

-- ---- the union

pub record Came (records : List ClassHits) (c : ClassHits) : Type 0 where
  pub from : ClassHits
  pub there : Contains records from
  pub merges : c ≡ merged_record records from

-- the records that were made of the first i
pub record Made (records : List ClassHits) (i : ℕ) (out : List ClassHits) : Type 0 where
  pub ids : ids_of out ≡ first_seen (ids_of (take i records))
  pub all : AllByRecursion (Came records) out

records_of_classes : (rs : List ClassHits) → records_of (map class rs) ≡ rs
records_of_classes [] = refl
records_of_classes (r ∷ rs) = ap (λ (l : List ClassHits). r ∷ l) (records_of_classes rs)

among_ids : (id : ℕ) (rs : List ClassHits) → among id (ids_of rs) ≡ list_any (λ r. nat_eq r.id id) rs
among_ids id [] = refl
among_ids id (r ∷ rs) = ap (λ (b : Bool). nat_eq r.id id || b) (among_ids id rs)

take_next : (rs : List ClassHits) (i : ℕ) (d : ClassHits) → i < length rs → take (i + 1) rs ≡ take i rs ++ get_or rs i d ∷ []
take_next rs i d lt = let one : i + 1 ≡ suc i = omega arith in ap (λ (k : ℕ). take k rs) one ∙ take-suc rs i d lt

ids_next : (rs : List ClassHits) (i : ℕ) (r : ClassHits) → i < length rs → get_or rs i r ≡ r → first_seen (ids_of (take (i + 1) rs))
    ≡ first_seen (ids_of (take i rs)) ++ cond (list_any (λ x. nat_eq x.id r.id) (take i rs)) [] (r.id ∷ [])
ids_next rs i r lt is =
    ap (λ (l : List ClassHits). first_seen (ids_of l)) (take_next rs i r lt ∙ ap (λ (x : ClassHits). take i rs ++ x ∷ []) is)
    ∙ ap first_seen (map-append (λ (c : ClassHits). c.id) (take i rs) (r ∷ []))
    ∙ first_seen-append (ids_of (take i rs)) r.id
    ∙ ap (λ (b : Bool). first_seen (ids_of (take i rs)) ++ cond b [] (r.id ∷ [])) (among_ids r.id (take i rs))

pub made_new : (rs out later : List ClassHits) (i : ℕ) (r c : ClassHits) → Made rs i out → i < length rs → get_or rs i r ≡ r
    → list_any (λ x. nat_eq x.id r.id) (take i rs) ≡ false → c ≡ merged_record rs r → later ≡ out ++ c ∷ [] → Made rs (i + 1) later
made_new rs out later i r c m lt is none merges e = subst (Made rs (i + 1)) (sym e) (record {
  ids = map-append (λ (d : ClassHits). d.id) out (c ∷ []) ∙ (λ j. m.ids j ++ (merges j).id ∷ [])
      ∙ sym (ids_next rs i r lt is ∙ ap (λ (b : Bool). first_seen (ids_of (take i rs)) ++ cond b [] (r.id ∷ [])) none);
  all = all_push (Came rs) out c m.all (record { from = r; there = (i, lt, is); merges = merges });
})

pub made_known : (rs out : List ClassHits) (i : ℕ) (r : ClassHits) → Made rs i out → i < length rs → get_or rs i r ≡ r → list_any (λ x. nat_eq x.id r.id) (take i rs) ≡ true → Made rs (i + 1) out
made_known rs out i r m lt is some = record {
  ids = m.ids ∙ sym (append-nil (first_seen (ids_of (take i rs)))) ∙ sym (ids_next rs i r lt is ∙ ap (λ (b : Bool). first_seen (ids_of (take i rs)) ++ cond b [] (r.id ∷ [])) some);
  all = m.all;
}

came_merged : (rs : List ClassHits) (s : Store) → IsUnion (map class rs) s → (c : ClassHits) → Came rs c → IsMerged rs c
came_merged rs s u c came =
    let r = came.from in
    let merged : AllByRecursion (IsMerged rs) s.classes = subst (λ (l : List ClassHits). AllByRecursion (IsMerged l) s.classes) (records_of_classes rs) u.merged in
    let ids : ids_of s.classes ≡ first_seen (ids_of rs) = u.ids ∙ ap (λ (l : List ClassHits). first_seen (ids_of l)) (records_of_classes rs) in
    let some : among r.id (ids_of s.classes) ≡ true = ap (among r.id) ids ∙ among_first_seen (ids_of rs) r.id ∙ among_there rs r came.there.0 came.there.1 came.there.2 in
    let d = in_union rs s.classes r.id some merged in
    let own = d.1.agrees r came.there (sym d.2) in
    let long = length_all_hits rs r.id (length r.bits) in
    subst (IsMerged rs) (sym came.merges) (record {
      agrees = λ x there same. (let other = d.1.agrees x there (same ∙ sym d.2) in record { name = other.name ∙ sym own.name; count = other.count ∙ sym own.count ∙ sym long });
      hits = merged_hits rs r;
    })

pub made_union : (rs out : List ClassHits) (i : ℕ) → Made rs i out → length rs ≤ i → (s : Store) → IsUnion (map class rs) s → out ≡ s.classes
made_union rs out i m whole s u =
    let merged : AllByRecursion (IsMerged rs) s.classes = subst (λ (l : List ClassHits). AllByRecursion (IsMerged l) s.classes) (records_of_classes rs) u.merged in
    let ids : ids_of s.classes ≡ first_seen (ids_of rs) = u.ids ∙ ap (λ (l : List ClassHits). first_seen (ids_of l)) (records_of_classes rs) in
    let own : ids_of out ≡ first_seen (ids_of rs) = m.ids ∙ ap (λ (l : List ClassHits). first_seen (ids_of l)) (take_all i rs whole) in
    same_records rs out s.classes (own ∙ sym ids) (subst (AllByRecursion (HasRecord rs)) (sym own) (seen_has_record rs)) (all_weaker (Came rs) (IsMerged rs) (came_merged rs s u) out m.all) merged
