-- What the union of some blocks, written and read again, carries of them.
use Rattle.std.proofs.Common.{◌≡◌, ◌⊎◌, inl, inr, ℕ, zero, suc, ◌<◌, Bool, true, false, cond, List, [], ◌∷◌, ◌++◌, length, filter, Contains, get_or, not, nat_eq, refl, sym, ◌∙◌, ap, subst, arith}
use Rattle.std.specs.List.{AllByRecursion, list_any}
use Rattle.std.proofs.lemmas.Bool.{false≢true}
use Rattle.std.proofs.lemmas.List.Elements.{All-contains, All-contains_itself, All-filter, filter_passes, recursion_from_All, All-from_recursion, Contains-get_or, Contains-append_left, Contains-append_right, Contains-append_cases}
use Rattle.jc_bytes.specs.FirstSeen.{first_seen, seen_behind}
use Rattle.jc_bytes.proofs.BooleanLaws.{first_in, later_in, which_in, none_in, in_map, of_map}
use Rattle.jc_bytes.proofs.FirstSeenLaws.{first_seen_all, seen-append, seen_anew}
use Rattle.jc_exec.specs.declared.hits.ClassHits.{ClassHits}
use Rattle.jc_exec.specs.Format.{Block}
use Rattle.jc_exec.specs.Store.{Store}
use Rattle.jc_exec.specs.Union.{records_of, ids_of, Agrees, IsHitAt, SomeIsHitAt, IsMerged, IsUnion}
use Rattle.jc_exec.specs.Writing.{is_hit}
use Rattle.jc_exec.proofs.UnionLaws.{HasRecord, merged_of, same_record}
use Rattle.jc_exec.proofs.MergingLaws.{Consistent}

-- ---- hits of one record

hit_within : (xs : List Bool) (k : ℕ) → get_or xs k false ≡ true → k < length xs
hit_within [] k hit = absurd (false≢true hit)
hit_within (x ∷ xs) zero hit = omega arith
hit_within (x ∷ xs) (suc k) hit = let less = hit_within xs k hit in omega (arith, less)

some_hit : (xs : List Bool) (k : ℕ) → get_or xs k false ≡ true → list_any (λ b. b) xs ≡ true
some_hit [] k hit = absurd (false≢true hit)
some_hit (true ∷ xs) k hit = refl
some_hit (false ∷ xs) zero hit = absurd (false≢true hit)
some_hit (false ∷ xs) (suc k) hit = some_hit xs k hit

which_hit : (xs : List Bool) → list_any (λ b. b) xs ≡ true → (k : ℕ) × (get_or xs k false ≡ true)
which_hit [] some = absurd (false≢true some)
which_hit (true ∷ xs) some = (0, refl)
which_hit (false ∷ xs) some = let rest = which_hit xs some in (suc rest.0, rest.1)

pub hit_at : (c : ClassHits) → is_hit c ≡ true → (k : ℕ) × (k < length c.bits) × IsHitAt c k
hit_at c hit = let some = which_hit c.bits hit in (some.0, hit_within c.bits some.0 some.1, some.1)

-- ---- what passes a test

module _ {X : Type 0} (p : X → Bool) where
  in_filter : (xs : List X) (y : X) → p y ≡ true → Contains xs y → Contains (filter p xs) y
  in_filter [] y passes there = absurd (none_in y there)
  in_filter (x ∷ xs) y passes there = by (p x) refl (which_in x xs y there) (λ later. in_filter xs y passes later)
    where
      by : (b : Bool) → p x ≡ b → (x ≡ y) ⊎ Contains xs y → (Contains xs y → Contains (filter p xs) y) → Contains (cond b (x ∷ filter p xs) (filter p xs)) y
      by true is (inl same) rest = subst (Contains (x ∷ filter p xs)) same (first_in x (filter p xs))
      by true is (inr later) rest = later_in x (filter p xs) y (rest later)
      by false is (inl same) rest = absurd (false≢true (sym is ∙ ap p same ∙ passes))
      by false is (inr later) rest = rest later

  of_filter : (xs : List X) (y : X) → Contains (filter p xs) y → (p y ≡ true) × Contains xs y
  of_filter xs y there = (
    All-contains (λ x. p x ≡ true) (filter p xs) y (filter_passes p xs) there,
    All-contains (Contains xs) (filter p xs) y (All-filter p (Contains xs) xs (All-contains_itself xs)) there,
  )

  pub all_pass : (xs : List X) → AllByRecursion (λ x. p x ≡ true) xs → filter p xs ≡ xs
  all_pass [] all = refl
  all_pass (x ∷ xs) all = rw (all.0) (ap (λ (l : List X). x ∷ l) (all_pass xs all.1))

-- ---- records that carry the hits of others

-- each of the later records has the id, the name and the number of probes of one of the earlier, and of each id the same
-- probes are hit
pub record Carries (rs ws : List ClassHits) : Type 0 where
  pub from : (w : ClassHits) → Contains ws w → (r : ClassHits) × Contains rs r × (r.id ≡ w.id) × Agrees r w
  pub hits_from : (w : ClassHits) (k : ℕ) → Contains ws w → IsHitAt w k → SomeIsHitAt rs w.id k
  pub hits_to : (r : ClassHits) (k : ℕ) → Contains rs r → IsHitAt r k → SomeIsHitAt ws r.id k

pub carries_none : Carries [] []
carries_none = record { from = λ w there. absurd (none_in w there); hits_from = λ w k there hit. absurd (none_in w there); hits_to = λ r k there hit. absurd (none_in r there) }

some_left : (rs ss : List ClassHits) (id k : ℕ) → SomeIsHitAt rs id k → SomeIsHitAt (rs ++ ss) id k
some_left rs ss id k (r, there, same, hit) = (r, Contains-append_left rs ss r there, same, hit)

some_right : (rs ss : List ClassHits) (id k : ℕ) → SomeIsHitAt ss id k → SomeIsHitAt (rs ++ ss) id k
some_right rs ss id k (r, there, same, hit) = (r, Contains-append_right rs ss r there, same, hit)

pub carries_both : (rs ws ss vs : List ClassHits) → Carries rs ws → Carries ss vs → Carries (rs ++ ss) (ws ++ vs)
carries_both rs ws ss vs a b = record {
  from = λ w there. elim (Contains-append_cases ws vs w there) [
    | inl front ↦ let r = a.from w front in (r.0, Contains-append_left rs ss r.0 r.1, r.2, r.3)
    | inr back ↦ let r = b.from w back in (r.0, Contains-append_right rs ss r.0 r.1, r.2, r.3)
  ];
  hits_from = λ w k there hit. elim (Contains-append_cases ws vs w there) [
    | inl front ↦ some_left rs ss w.id k (a.hits_from w k front hit)
    | inr back ↦ some_right rs ss w.id k (b.hits_from w k back hit)
  ];
  hits_to = λ r k there hit. elim (Contains-append_cases rs ss r there) [
    | inl front ↦ some_left ws vs r.id k (a.hits_to r k front hit)
    | inr back ↦ some_right ws vs r.id k (b.hits_to r k back hit)
  ];
}

-- a record of each id that is seen is in the union
in_union_of : (bs : List Block) (s : Store) (r : ClassHits) → IsUnion bs s → Contains (records_of bs) r → (c : ClassHits) × Contains s.classes c × (r.id ≡ c.id)
in_union_of bs s r u there = of_map (λ (c : ClassHits). c.id) s.classes r.id
    (subst (λ (l : List ℕ). Contains l r.id) (sym u.ids) (first_seen_all (ids_of (records_of bs)) r.id (in_map (λ (c : ClassHits). c.id) (records_of bs) r there)))

-- the records of a union that have a hit carry those of its blocks
pub union_carries : (bs : List Block) (s : Store) → IsUnion bs s → Carries (records_of bs) (filter is_hit s.classes)
union_carries bs s u = record {
  from = λ w there.
      let m = merged_of bs s w u (of_filter is_hit s.classes w there).1 in
      (m.1.0, m.1.1, m.1.2, m.0.agrees m.1.0 m.1.1 m.1.2);
  hits_from = λ w k there hit.
      let m = merged_of bs s w u (of_filter is_hit s.classes w there).1 in
      (m.0.hits k (hit_within w.bits k hit)).0 hit;
  hits_to = λ r k there hit.
      let c = in_union_of bs s r u there in
      let m = merged_of bs s c.0 u c.1 in
      let count = (m.0.agrees r there c.2).count in
      let within = hit_within r.bits k hit in
      let own = (m.0.hits k (omega (arith, count, within))).1 (r, there, c.2, hit) in
      (c.0, in_filter is_hit s.classes c.0 (some_hit c.0.bits k own) c.1, sym c.2, own);
}

-- where each record has a hit, so has each of the union
pub union_has_hits : (bs : List Block) (s : Store) → IsUnion bs s → AllByRecursion (λ r. is_hit r ≡ true) (records_of bs) → filter is_hit s.classes ≡ s.classes
union_has_hits bs s u all = all_pass is_hit s.classes (recursion_from_All (λ c. is_hit c ≡ true) s.classes (λ k d lt.
    let c = get_or s.classes k d in
    let m = merged_of bs s c u (Contains-get_or s.classes k d lt) in
    let r = m.1.0 in
    let hit = hit_at r (All-contains (λ (x : ClassHits). is_hit x ≡ true) (records_of bs) r (All-from_recursion (λ (x : ClassHits). is_hit x ≡ true) (records_of bs) all) m.1.1) in
    let count = (m.0.agrees r m.1.1 m.1.2).count in
    let within = hit.1 in
    some_hit c.bits hit.0 ((m.0.hits hit.0 (omega (arith, count, within))).1 (r, m.1.1, m.1.2, hit.2))))

-- ---- unions of both

pub carried_consistent : (rs ws : List ClassHits) → Carries rs ws → Consistent rs → Consistent ws
carried_consistent rs ws c same = λ x y there_x there_y id.
    let a = c.from x there_x in
    let b = c.from y there_y in
    let both = same a.0 b.0 a.1 b.1 (a.2 ∙ id ∙ sym b.2) in
    record { name = sym a.3.name ∙ both.name ∙ b.3.name; count = sym a.3.count ∙ both.count ∙ b.3.count }

carried_has : (rs ws : List ClassHits) (id : ℕ) → Carries rs ws → HasRecord ws id → HasRecord rs id
carried_has rs ws id c (w, there, same) = let r = c.from w there in (r.0, r.1, r.2 ∙ same)

-- what is merged of the later records is merged of the earlier
carried_merged : (rs ws : List ClassHits) (x : ClassHits) → Carries rs ws → Consistent rs → HasRecord ws x.id → IsMerged ws x → IsMerged rs x
carried_merged rs ws x c same (w, there, id) m =
    let of_w = m.agrees w there id in
    let first = c.from w there in
    record {
      agrees = λ r at is.
          let both = same r first.0 at first.1 (is ∙ sym id ∙ sym first.2) in
          record { name = both.name ∙ first.3.name ∙ of_w.name; count = both.count ∙ first.3.count ∙ of_w.count };
      hits = λ k lt. (
        λ hit. let v = (m.hits k lt).0 hit in subst (λ (n : ℕ). SomeIsHitAt rs n k) v.2 (c.hits_from v.0 k v.1 v.3),
        λ some. let v = c.hits_to some.0 k some.1 some.3 in (m.hits k lt).1 (v.0, v.1, v.2 ∙ some.2, v.3),
      );
    }

-- what is in a union of the later records is merged of the earlier
pub later_merged : (rs : List ClassHits) (bs : List Block) (t : Store) (c : ClassHits) → Carries rs (records_of bs) → Consistent rs → IsUnion bs t
    → Contains t.classes c → IsMerged rs c × HasRecord rs c.id
later_merged rs bs t c carries same u there =
    let m = merged_of bs t c u there in
    (carried_merged rs (records_of bs) c carries same m.1 m.0, carried_has rs (records_of bs) c.id carries m.1)

-- a record of the later union is one of the earlier
pub later_in_earlier : (bs ds : List Block) (s t : Store) (c : ClassHits) → Carries (records_of bs) (records_of ds) → Consistent (records_of bs) → IsUnion bs s → IsUnion ds t
    → Contains t.classes c → Contains s.classes c
later_in_earlier bs ds s t c carries same u v there =
    let m = later_merged (records_of bs) ds t c carries same v there in
    let d = in_union_of bs s m.1.0 u m.1.1 in
    let own = merged_of bs s d.0 u d.1 in
    subst (Contains s.classes) (sym (same_record (records_of bs) c d.0 (sym m.1.2 ∙ d.2) m.1 m.0 own.0)) d.1

-- and one of the earlier that has a hit is one of the later
pub earlier_in_later : (bs ds : List Block) (s t : Store) (c : ClassHits) → Carries (records_of bs) (records_of ds) → Consistent (records_of bs) → IsUnion bs s → IsUnion ds t
    → is_hit c ≡ true → Contains s.classes c → Contains t.classes c
earlier_in_later bs ds s t c carries same u v hit there =
    let own = merged_of bs s c u there in
    let at = hit_at c hit in
    let r = (own.0.hits at.0 at.1).0 at.2 in
    let w = carries.hits_to r.0 at.0 r.1 r.3 in
    let d = in_union_of ds t w.0 v w.1 in
    let m = later_merged (records_of bs) ds t d.0 carries same v d.1 in
    subst (Contains t.classes) (same_record (records_of bs) d.0 c (sym d.2 ∙ w.2 ∙ r.2) m.1 m.0 own.0) d.1

-- ---- ids in the order in which they are seen

behind_alike : (l c d : List ℕ) → first_seen c ≡ first_seen d → first_seen (l ++ c) ≡ first_seen (l ++ d)
behind_alike [] c d same = same
behind_alike (x ∷ l) c d same = ap (λ (m : List ℕ). x ∷ filter (λ y. not (nat_eq x y)) m) (behind_alike l c d same)

front_alike : (a b c : List ℕ) → first_seen a ≡ first_seen b → first_seen (a ++ c) ≡ first_seen (b ++ c)
front_alike a b c same =
    sym (seen_anew (a ++ c)) ∙ seen-append [] a c
    ∙ ap (λ (l : List ℕ). seen_behind l c) (seen_anew a ∙ same ∙ sym (seen_anew b))
    ∙ sym (seen-append [] b c) ∙ seen_anew (b ++ c)

pub seen_alike : (a b c d : List ℕ) → first_seen a ≡ first_seen b → first_seen c ≡ first_seen d → first_seen (a ++ c) ≡ first_seen (b ++ d)
seen_alike a b c d first rest = front_alike a b c first ∙ behind_alike b c d rest
