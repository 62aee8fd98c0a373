-- Records of classes with probes, one after the other.
use Rattle.std.proofs.Common.{◌≡◌, ◌≢◌, ℕ, ◌+◌, ◌<◌, Bool, true, false, cond, filter, List, [], ◌∷◌, ◌++◌, map, length, take, drop, get_or, Option, None, Some, option_map, slice_get, slice_index_or, refl, sym, ◌∙◌, ap, subst, arith, append_assoc, append-nil}
use Rattle.std.specs.List.{AllByRecursion}
use Rattle.std.proofs.lemmas.List.Elements.{filter-append}
use Rattle.std.proofs.lemmas.List.{take_more, take-append-drop, length-take-le, length-append, length-map, get_or-map}
use Rattle.jc_exec.specs.declared.hits.ClassHits.{ClassHits}
use Rattle.jc_exec.specs.Format.{Block, class}
use Rattle.jc_exec.specs.Refusing.{OneOfEachId, blocks_of}
use Rattle.jc_exec.specs.Store.{Store, IsNew}
use Rattle.jc_exec.specs.Union.{IsUnion}
use Rattle.jc_exec.specs.Writing.{is_hit}
use Rattle.jc_exec.proofs.StoringLaws.{own_union}
use Rattle.jc_exec.proofs.UnionLaws.{union_class, one_union}
use Rattle.jc_programs.specs.declared.program.Linked.{Linked}
use Rattle.jc_programs.specs.declared.program.ProbeInit.{ProbeInit}
use Rattle.jc_link_programs.specs.Pairs.{HaveOneId, NoPair, id_of}
use Rattle.jc_command_run.specs.HitStore.{set_record, with_set, set_records, count_of, counts_in, AddsLast}

-- ---- one record

-- what a store that has no record of the id becomes
pub added : (old new : Store) (c : ClassHits) → OneOfEachId old.classes → IsNew c.id old.classes
    → ((blocks : List Block) → IsUnion blocks old → IsUnion (blocks ++ class c ∷ []) new) → AddsLast c old new
added old new c one fresh adds =
    let own = own_union old one in
    let same = one_union (blocks_of old ++ class c ∷ []) new (record { sessions = old.sessions; classes = old.classes ++ c ∷ [] })
    (adds (blocks_of old) own) (union_class (blocks_of old) old c own fresh) in
    record { sessions = ap (λ (s : Store). s.sessions) same; classes = ap (λ (s : Store). s.classes) same }

-- ---- the records of the first classes

module _ (hits : List (List Bool)) where
  records_more : (k : ℕ) (cs : List Linked) (c : Linked) → set_records hits k (cs ++ c ∷ []) ≡ set_records hits k cs ++ with_set hits (k + length cs) c c.probes []
  records_more k [] c = ap (λ (n : ℕ). with_set hits n c c.probes []) (let n : k ≡ k + length {A = Linked} [] = omega arith in n)
  records_more k (d ∷ cs) c =
      ap (with_set hits k d d.probes)
      (records_more (k + 1) cs c ∙ ap (λ (n : ℕ). set_records hits (k + 1) cs ++ with_set hits n c c.probes [])
      (let n : k + 1 + length cs ≡ k + length (d ∷ cs) = omega arith in n))
      ∙ by d.probes
    where
      by : (o : Option ProbeInit) → with_set hits k d o (set_records hits (k + 1) cs ++ with_set hits (k + length (d ∷ cs)) c c.probes [])
          ≡ with_set hits k d o (set_records hits (k + 1) cs) ++ with_set hits (k + length (d ∷ cs)) c c.probes []
      by None = refl
      by (Some init) = refl

  -- no class has the id
  abbrev pub NoneHas : ℕ → List Linked → Type 0
  NoneHas id cs = AllByRecursion (λ (c : Linked). id_of c ≢ Some id) cs

  new_of : (k : ℕ) (cs : List Linked) (id : ℕ) → NoneHas id cs → IsNew id (set_records hits k cs)
  new_of k [] id none = tt
  new_of k (c ∷ cs) id none = by c.probes refl (new_of (k + 1) cs id none.1)
    where
      by : (o : Option ProbeInit) → c.probes ≡ o → IsNew id (set_records hits (k + 1) cs) → IsNew id (with_set hits k c o (set_records hits (k + 1) cs))
      by None is rest = rest
      by (Some init) is rest = ((λ same. none.0 (ap (option_map (λ (p : ProbeInit). p.id)) is ∙ ap (λ (n : ℕ). Some n) (sym same))), rest)

-- ---- classes apart

at_length : (xs : List Linked) (c : Linked) (ys : List Linked) → slice_get (xs ++ c ∷ ys) (length xs) ≡ Some c
at_length [] c ys = refl
at_length (x ∷ xs) c ys = at_length xs c ys

-- no class in front has the id of one behind it
none_before : (xs front : List Linked) (c : Linked) (ys : List Linked) (id : ℕ) → NoPair (HaveOneId (xs ++ (front ++ c ∷ ys))) → id_of c ≡ Some id → NoneHas [] id front
none_before xs [] c ys id apart has = tt
none_before xs (d ∷ front) c ys id apart has = (
  (λ same.
      apart (length xs) (length (xs ++ d ∷ front)) (shorter xs)
      (record { a = d; b = c; shared = id; first_is = at_length xs d (front ++ c ∷ ys); second_is = second; first_key = same; second_key = has })),
  none_before (xs ++ d ∷ []) front c ys id (subst (λ (l : List Linked). NoPair (HaveOneId l)) (sym (append_assoc xs (d ∷ []) (front ++ c ∷ ys))) apart) has,
)
  where
    second : slice_get (xs ++ (d ∷ front ++ c ∷ ys)) (length (xs ++ d ∷ front)) ≡ Some c
    second = ap (λ (l : List Linked). slice_get l (length (xs ++ d ∷ front))) (sym (append_assoc xs (d ∷ front) (c ∷ ys))) ∙ at_length (xs ++ d ∷ front) c ys

    shorter : (zs : List Linked) → length zs < length (zs ++ d ∷ front)
    shorter zs = let l = length-append zs (d ∷ front) in omega (arith, l)

-- ---- the records that have a hit

new_among : (id : ℕ) (cs : List ClassHits) → IsNew id cs → IsNew id (filter is_hit cs)
new_among id [] new = tt
new_among id (c ∷ cs) new = by (is_hit c) (new_among id cs new.1)
  where
    by : (t : Bool) → IsNew id (filter is_hit cs) → IsNew id (cond t (c ∷ filter is_hit cs) (filter is_hit cs))
    by true rest = (new.0, rest)
    by false rest = rest

-- ---- the loop

module _ (hits : List (List Bool)) (cs : List Linked) (i : ℕ) (c : Linked) (within : i < length cs) (is : c ≡ get_or cs i c) (apart : NoPair (HaveOneId cs)) where
  parts_at : cs ≡ take i cs ++ c ∷ drop (i + 1) cs
  parts_at =
      sym (take-append-drop (i + 1) cs)
      ∙ ap (λ (ys : List Linked). ys ++ drop (i + 1) cs) (take_more cs i c within ∙ ap (λ (d : Linked). take i cs ++ d ∷ []) (sym is))
      ∙ append_assoc (take i cs) (c ∷ []) (drop (i + 1) cs)

  more : set_records hits 0 (take (i + 1) cs) ≡ set_records hits 0 (take i cs) ++ with_set hits i c c.probes []
  more =
      ap (set_records hits 0) (take_more cs i c within ∙ ap (λ (d : Linked). take i cs ++ d ∷ []) (sym is)) ∙ records_more hits 0 (take i cs) c
      ∙ ap (λ (n : ℕ). set_records hits 0 (take i cs) ++ with_set hits n c c.probes []) (let l = length-take-le i cs (omega (arith, within)) in omega (arith, l))

  -- the record of the class is the first of its id
  pub is_new : (init : ProbeInit) → c.probes ≡ Some init → IsNew init.id (filter is_hit (set_records hits 0 (take i cs)))
  is_new init has =
      new_among init.id (set_records hits 0 (take i cs))
      (new_of hits 0 (take i cs) init.id
      (none_before [] (take i cs) c (drop (i + 1) cs) init.id (subst (λ (l : List Linked). NoPair (HaveOneId l)) parts_at apart) (ap (option_map (λ (p : ProbeInit). p.id)) has)))

  pub none_put : (store : List ClassHits) → c.probes ≡ None → store ≡ filter is_hit (set_records hits 0 (take i cs))
      → store ≡ filter is_hit (set_records hits 0 (take (i + 1) cs))
  none_put store none so_far =
      so_far
      ∙ ap (filter is_hit)
      (sym (more ∙ ap (λ (o : Option ProbeInit). set_records hits 0 (take i cs) ++ with_set hits i c o []) none ∙ append-nil (set_records hits 0 (take i cs))))

  pub record_put : (old new : List ClassHits) (init : ProbeInit) → c.probes ≡ Some init → old ≡ filter is_hit (set_records hits 0 (take i cs))
      → new ≡ old ++ filter is_hit (set_record hits i c init ∷ []) → new ≡ filter is_hit (set_records hits 0 (take (i + 1) cs))
  record_put old new init has so_far grows =
      grows ∙ ap (λ (l : List ClassHits). l ++ filter is_hit (set_record hits i c init ∷ [])) so_far
      ∙ sym (ap (filter is_hit) (more ∙ ap (λ (o : Option ProbeInit). set_records hits 0 (take i cs) ++ with_set hits i c o []) has)
      ∙ filter-append is_hit (set_records hits 0 (take i cs)) (set_record hits i c init ∷ []))

-- one more record of a new id
one_more : (cs : List ClassHits) (c : ClassHits) → OneOfEachId cs → IsNew c.id cs → OneOfEachId (cs ++ c ∷ [])
one_more [] c one new = (tt, tt)
one_more (d ∷ cs) c one new = (apart cs one.0 (λ same. new.0 (sym same)), one_more cs c one.1 new.1)
  where
    apart : (xs : List ClassHits) → IsNew d.id xs → d.id ≢ c.id → IsNew d.id (xs ++ c ∷ [])
    apart [] fresh other = (other, tt)
    apart (x ∷ xs) fresh other = (fresh.0, apart xs fresh.1 other)

pub one_more_hit : (cs : List ClassHits) (c : ClassHits) → OneOfEachId cs → IsNew c.id cs → OneOfEachId (cs ++ filter is_hit (c ∷ []))
one_more_hit cs c one new = by (is_hit c)
  where
    by : (t : Bool) → OneOfEachId (cs ++ cond t (c ∷ []) [])
    by true = one_more cs c one new
    by false = subst OneOfEachId (sym (append-nil cs)) one

-- a class has as many truth values as probes
pub count_at : (hits : List (List Bool)) (cs : List Linked) (i : ℕ) (c : Linked) (init : ProbeInit) → map length hits ≡ counts_in cs → i < length cs → c ≡ get_or cs i c → c.probes ≡ Some init
    → init.count ≡ length (slice_index_or hits i [])
count_at hits cs i c init same within is has =
    let many : length hits ≡ length cs = sym (length-map hits length) ∙ ap length same ∙ length-map cs (λ (d : Linked). count_of d.probes) in
    let there : get_or (map length hits) i 0 ≡ length (get_or hits i []) = get_or-map length hits i [] 0 (omega (arith, many, within)) in
    let counted : get_or (counts_in cs) i 0 ≡ count_of (get_or cs i c).probes = get_or-map (λ (d : Linked). count_of d.probes) cs i c 0 within in
    sym (sym there ∙ ap (λ (ns : List ℕ). get_or ns i 0) same ∙ counted ∙ ap (λ (d : Linked). count_of d.probes) (sym is) ∙ ap count_of has)
