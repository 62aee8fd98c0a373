-- Records under their ids, with one more merged in.
use Rattle.std.proofs.Common.{◌≡◌, ℕ, zero, suc, ◌<◌, Bool, true, false, cond, [], ◌∷◌, Contains, Option, Some, None, is_some, Result, Ok, Err, IfErr, OnOk, OnErr, IfSome, IsSomeAnd, IsErrAnd, length, get_or, nat_eq, refl, sym, ◌∙◌, ap, subst, arith}
use Rattle.std.proofs.lemmas.Bool.{eqb-true, eqb-false, ne_eqb, eq-eqb}
use denote.Bor.{Bor}
use Rattle.std.specs.Option.{option_copied}
use Rattle.std.proofs.lemmas.Map.Steps.{set_value_same}
use Rattle.std.specs.Map.{lookup, set_value}
use Rattle.std.proofs.lemmas.Option.{same_Some}
use Rattle.indexmap.specs.IndexMap.{insert_entry, insert_all}
use Rattle.jc_bytes.specs.declared.fail.Fail.{Fail}
use Rattle.jc_bytes.specs.declared.fail.Fail.TheVariants as fails
use Rattle.jc_bytes.specs.Modified.{IsModified}
use Rattle.jc_bytes.proofs.OptionLaws.{some_none}
use Rattle.jc_exec.specs.declared.hits.ClassHits.{ClassHits}
use Rattle.jc_exec.specs.declared.refusal.ExecRefusal.{ExecRefusal}
use Rattle.jc_exec.specs.Adding.{Entries, over, Merges, Puts, RefusesMerging, GivesMerged, MergesInto}
use Rattle.jc_exec.specs.Answers.{IsConflict, RefusesRecord, SaysOnly, conflict_of}
use Rattle.jc_exec.specs.Store.{IsSmall, IsWritableClass, classes_of, entries_of, Keyed, IsNew}
use Rattle.jc_exec.specs.Union.{agree, either_hits, with_record}
use Rattle.jc_exec.proofs.RecordBitsLaws.{small_either, agree_apart, apart_agree}
use Rattle.jc_exec.proofs.StoreLaws.{new_and_there}

-- ---- looking up

-- what is known of a record that was found
pub record Found (k : ℕ) (es : Entries) (c : ClassHits) : Type 0 where
  pub there : Contains (classes_of es) c
  pub id : c.id ≡ k
  pub small : IsSmall c
  pub text : IsModified c.name

pub found : (k : ℕ) (es : Entries) (c : ClassHits) → Keyed es → lookup (nat_eq k) es ≡ Some c → Found k es c
found k [] c keyed is = absurd cc
found k (e ∷ es) c keyed is = by (nat_eq k e.0) refl is (λ later. found k es c keyed.4 later)
  where
    by : (b : Bool) → nat_eq k e.0 ≡ b → cond b (Some e.1) (lookup (nat_eq k) es) ≡ Some c → (lookup (nat_eq k) es ≡ Some c → Found k es c) → Found k (e ∷ es) c
    by true same is rest = subst (Found k (e ∷ es)) (same_Some e.1 c is) (record { there = (0, omega arith, refl); id = sym keyed.0 ∙ sym (eqb-true k e.0 same); small = keyed.1; text = keyed.2 })
    by false same is rest = let r = rest is in record { there = (suc r.there.0, omega (arith, r.there.1), r.there.2); id = r.id; small = r.small; text = r.text }

-- nothing was found at the first, nor behind it
pub none_first : (k : ℕ) (e : ℕ × ClassHits) (es : Entries) → lookup (nat_eq k) (e ∷ es) ≡ None → (nat_eq k e.0 ≡ false) × (lookup (nat_eq k) es ≡ None)
none_first k e es none = by (nat_eq k e.0) refl none
  where
    by : (b : Bool) → nat_eq k e.0 ≡ b → cond b (Some e.1) (lookup (nat_eq k) es) ≡ None → (nat_eq k e.0 ≡ false) × (lookup (nat_eq k) es ≡ None)
    by true is none = absurd cc
    by false is none = (is, none)

pub none_by_new : (k : ℕ) (es : Entries) → Keyed es → IsNew k (classes_of es) → lookup (nat_eq k) es ≡ None
none_by_new k [] keyed new = refl
none_by_new k (e ∷ es) keyed new = let apart : nat_eq k e.0 ≡ false = ne_eqb k e.0 (λ same. new.0 (same ∙ keyed.0)) in rw apart (none_by_new k es keyed.4 new.1)

lookup_insert : (q k : ℕ) (w : ClassHits) (es : Entries) → lookup (nat_eq q) (insert_entry nat_eq es k w) ≡ cond (nat_eq q k) (Some w) (lookup (nat_eq q) es)
lookup_insert q k w [] = refl
lookup_insert q k w (e ∷ es) = by (nat_eq k e.0) refl (lookup_insert q k w es)
  where
    same : (a b : Bool) → a ≡ b → cond a (Some w) (lookup (nat_eq q) es) ≡ cond b (Some w) (cond a (Some e.1) (lookup (nat_eq q) es))
    same true true is = refl
    same true false is = absurd cc
    same false true is = absurd cc
    same false false is = refl

    other : (a b : Bool) → nat_eq q e.0 ≡ a → nat_eq q k ≡ b → nat_eq k e.0 ≡ false → cond a (Some e.1) (cond b (Some w) (lookup (nat_eq q) es))
        ≡ cond b (Some w) (cond a (Some e.1) (lookup (nat_eq q) es))
    other true true p r apart = absurd (eqb-false k e.0 apart (sym (eqb-true q k r) ∙ eqb-true q e.0 p))
    other true false p r apart = refl
    other false true p r apart = refl
    other false false p r apart = refl

    by : (b : Bool) → nat_eq k e.0 ≡ b → lookup (nat_eq q) (insert_entry nat_eq es k w) ≡ cond (nat_eq q k) (Some w) (lookup (nat_eq q) es)
        → lookup (nat_eq q) (cond b ((e.0, w) ∷ es) (e ∷ insert_entry nat_eq es k w)) ≡ cond (nat_eq q k) (Some w) (cond (nat_eq q e.0) (Some e.1) (lookup (nat_eq q) es))
    by true is rest = same (nat_eq q e.0) (nat_eq q k) (ap (nat_eq q) (sym (eqb-true k e.0 is)))
    by false is rest = ap (cond (nat_eq q e.0) (Some e.1)) rest ∙ other (nat_eq q e.0) (nat_eq q k) refl refl is

-- a record that was not gathered is the known one
pub lookup_known : (k : ℕ) (es fs : Entries) → lookup (nat_eq k) fs ≡ None → lookup (nat_eq k) (insert_all nat_eq es fs) ≡ lookup (nat_eq k) es
lookup_known k es [] none = refl
lookup_known k es (f ∷ fs) none =
    let n = none_first k f fs none in
    lookup_known k (insert_entry nat_eq es f.0 f.1) fs n.1 ∙ lookup_insert k f.0 f.1 es ∙ ap (λ (b : Bool). cond b (Some f.1) (lookup (nat_eq k) es)) n.0

-- a record that was gathered stands over the known one
pub lookup_gathered : (k : ℕ) (es fs : Entries) (c : ClassHits) → Keyed fs → lookup (nat_eq k) fs ≡ Some c → lookup (nat_eq k) (insert_all nat_eq es fs) ≡ Some c
lookup_gathered k es [] c keyed is = absurd cc
lookup_gathered k es (f ∷ fs) c keyed is = by (nat_eq k f.0) refl is (λ later. lookup_gathered k (insert_entry nat_eq es f.0 f.1) fs c keyed.4 later)
  where
    by : (b : Bool) → nat_eq k f.0 ≡ b → cond b (Some f.1) (lookup (nat_eq k) fs) ≡ Some c
        → (lookup (nat_eq k) fs ≡ Some c → lookup (nat_eq k) (insert_all nat_eq (insert_entry nat_eq es f.0 f.1) fs) ≡ Some c)
        → lookup (nat_eq k) (insert_all nat_eq (insert_entry nat_eq es f.0 f.1) fs) ≡ Some c
    by true same is rest =
        let id : f.1.id ≡ k = sym keyed.0 ∙ sym (eqb-true k f.0 same) in
        lookup_known k (insert_entry nat_eq es f.0 f.1) fs (none_by_new k fs keyed.4 (subst (λ (n : ℕ). IsNew n (classes_of fs)) id keyed.3))
        ∙ lookup_insert k f.0 f.1 es ∙ ap (λ (b : Bool). cond b (Some f.1) (lookup (nat_eq k) es)) same ∙ is
    by false same is rest = rest is

-- ---- a record more

insert_again : (k : ℕ) (v w : ClassHits) (es : Entries) → insert_entry nat_eq (insert_entry nat_eq es k v) k w ≡ insert_entry nat_eq es k w
insert_again k v w [] = rw (eq-eqb k k refl) refl
insert_again k v w (e ∷ es) = by (nat_eq k e.0) refl (insert_again k v w es)
  where
    by : (b : Bool) → nat_eq k e.0 ≡ b → insert_entry nat_eq (insert_entry nat_eq es k v) k w ≡ insert_entry nat_eq es k w
        → insert_entry nat_eq (cond b ((e.0, v) ∷ es) (e ∷ insert_entry nat_eq es k v)) k w ≡ cond b ((e.0, w) ∷ es) (e ∷ insert_entry nat_eq es k w)
    by true is rest = rw is refl
    by false is rest = rw is (ap (λ (l : Entries). e ∷ l) rest)

-- two records of other ids change places, where one has an entry already
insert_swap : (k j : ℕ) (v w : ClassHits) (es : Entries) → nat_eq k j ≡ false → is_some (lookup (nat_eq k) es) ≡ true
    → insert_entry nat_eq (insert_entry nat_eq es k w) j v ≡ insert_entry nat_eq (insert_entry nat_eq es j v) k w
insert_swap k j v w [] apart some = absurd cc
insert_swap k j v w (e ∷ es) apart some = by (nat_eq k e.0) (nat_eq j e.0) refl refl some (λ later. insert_swap k j v w es apart later)
  where
    by : (a b : Bool) → nat_eq k e.0 ≡ a → nat_eq j e.0 ≡ b → is_some (cond a (Some e.1) (lookup (nat_eq k) es)) ≡ true
        → (is_some (lookup (nat_eq k) es) ≡ true → insert_entry nat_eq (insert_entry nat_eq es k w) j v ≡ insert_entry nat_eq (insert_entry nat_eq es j v) k w)
        → insert_entry nat_eq (cond a ((e.0, w) ∷ es) (e ∷ insert_entry nat_eq es k w)) j v ≡ insert_entry nat_eq (cond b ((e.0, v) ∷ es) (e ∷ insert_entry nat_eq es j v)) k w
    by true true p r some rest = absurd (eqb-false k j apart (eqb-true k e.0 p ∙ sym (eqb-true j e.0 r)))
    by true false p r some rest = rw (p, r) refl
    by false true p r some rest = rw (p, r) refl
    by false false p r some rest = rw (p, r) (ap (λ (l : Entries). e ∷ l) (rest some))

insert_past : (k : ℕ) (w : ClassHits) (es fs : Entries) → Keyed fs → IsNew k (classes_of fs) → is_some (lookup (nat_eq k) es) ≡ true
    → insert_all nat_eq (insert_entry nat_eq es k w) fs ≡ insert_entry nat_eq (insert_all nat_eq es fs) k w
insert_past k w es [] keyed new some = refl
insert_past k w es (f ∷ fs) keyed new some =
    let apart : nat_eq k f.0 ≡ false = ne_eqb k f.0 (λ same. new.0 (same ∙ keyed.0)) in
    let still : is_some (lookup (nat_eq k) (insert_entry nat_eq es f.0 f.1)) ≡ true =
    ap is_some (lookup_insert k f.0 f.1 es ∙ ap (λ (b : Bool). cond b (Some f.1) (lookup (nat_eq k) es)) apart) ∙ some in
    ap (λ (l : Entries). insert_all nat_eq l fs) (insert_swap k f.0 f.1 w es apart some) ∙ insert_past k w (insert_entry nat_eq es f.0 f.1) fs keyed.4 new.1 still

-- to gather a record is to put it into the whole
pub insert_gathered : (k : ℕ) (w : ClassHits) (es fs : Entries) → Keyed fs → insert_all nat_eq es (insert_entry nat_eq fs k w) ≡ insert_entry nat_eq (insert_all nat_eq es fs) k w
insert_gathered k w es [] keyed = refl
insert_gathered k w es (f ∷ fs) keyed = by (nat_eq k f.0) refl (insert_gathered k w (insert_entry nat_eq es f.0 f.1) fs keyed.4)
  where
    by : (b : Bool) → nat_eq k f.0 ≡ b → insert_all nat_eq (insert_entry nat_eq es f.0 f.1) (insert_entry nat_eq fs k w) ≡ insert_entry nat_eq
        (insert_all nat_eq (insert_entry nat_eq es f.0 f.1) fs) k w
        → insert_all nat_eq es (cond b ((f.0, w) ∷ fs) (f ∷ insert_entry nat_eq fs k w)) ≡ insert_entry nat_eq (insert_all nat_eq (insert_entry nat_eq es f.0 f.1) fs) k w
    by true is rest =
        let same : k ≡ f.0 = eqb-true k f.0 is in
        let some : is_some (lookup (nat_eq k) (insert_entry nat_eq es k f.1)) ≡ true =
        ap is_some (lookup_insert k k f.1 es ∙ ap (λ (b : Bool). cond b (Some f.1) (lookup (nat_eq k) es)) (eq-eqb k k refl)) in
        ap (λ (n : ℕ). insert_all nat_eq (insert_entry nat_eq es n w) fs) (sym same)
        ∙ ap (λ (l : Entries). insert_all nat_eq l fs) (sym (insert_again k f.1 w es))
        ∙ insert_past k w (insert_entry nat_eq es k f.1) fs keyed.4 (subst (λ (n : ℕ). IsNew n (classes_of fs)) (sym keyed.0 ∙ sym same) keyed.3) some
        ∙ ap (λ (n : ℕ). insert_entry nat_eq (insert_all nat_eq (insert_entry nat_eq es n f.1) fs) k w) same
    by false is rest = rest

pub set_is_insert : (k : ℕ) (w : ClassHits) (es : Entries) (c : ClassHits) → lookup (nat_eq k) es ≡ Some c → set_value (nat_eq k) es w ≡ insert_entry nat_eq es k w
set_is_insert k w [] c is = absurd cc
set_is_insert k w (e ∷ es) c is = by (nat_eq k e.0) is (λ later. set_is_insert k w es c later)
  where
    by : (b : Bool) → cond b (Some e.1) (lookup (nat_eq k) es) ≡ Some c → (lookup (nat_eq k) es ≡ Some c → set_value (nat_eq k) es w ≡ insert_entry nat_eq es k w)
        → cond b ((e.0, w) ∷ es) (e ∷ set_value (nat_eq k) es w) ≡ cond b ((e.0, w) ∷ es) (e ∷ insert_entry nat_eq es k w)
    by true is rest = refl
    by false is rest = ap (λ (l : Entries). e ∷ l) (rest is)

-- ---- ids stay apart

new_insert : (id k : ℕ) (v : ClassHits) (es : Entries) → IsNew id (classes_of es) → (id ≡ v.id → ⊥) → IsNew id (classes_of (insert_entry nat_eq es k v))
new_insert id k v [] new apart = (apart, tt)
new_insert id k v (e ∷ es) new apart = by (nat_eq k e.0) (new_insert id k v es new.1 apart)
  where
    by : (b : Bool) → IsNew id (classes_of (insert_entry nat_eq es k v)) → IsNew id (classes_of (cond b ((e.0, v) ∷ es) (e ∷ insert_entry nat_eq es k v)))
    by true rest = (apart, new.1)
    by false rest = (new.0, rest)

pub keyed_insert : (k : ℕ) (v : ClassHits) (es : Entries) → Keyed es → v.id ≡ k → IsSmall v → IsModified v.name → Keyed (insert_entry nat_eq es k v)
keyed_insert k v [] keyed id small text = (sym id, small, text, tt, tt)
keyed_insert k v (e ∷ es) keyed id small text = by (nat_eq k e.0) refl (keyed_insert k v es keyed.4 id small text)
  where
    by : (b : Bool) → nat_eq k e.0 ≡ b → Keyed (insert_entry nat_eq es k v) → Keyed (cond b ((e.0, v) ∷ es) (e ∷ insert_entry nat_eq es k v))
    by true is rest =
        let same : e.0 ≡ v.id = sym (eqb-true k e.0 is) ∙ sym id in
        (same, small, text, subst (λ (n : ℕ). IsNew n (classes_of es)) (sym keyed.0 ∙ same) keyed.3, keyed.4)
    by false is rest = (keyed.0, keyed.1, keyed.2, new_insert e.1.id k v es keyed.3 (λ same. eqb-false k e.0 is (sym id ∙ sym same ∙ sym keyed.0)), rest)

pub keyed_over : (es fs : Entries) → Keyed es → Keyed fs → Keyed (insert_all nat_eq es fs)
keyed_over es [] a b = a
keyed_over es (f ∷ fs) a b = keyed_over (insert_entry nat_eq es f.0 f.1) fs (keyed_insert f.0 f.1 es a (sym b.0) b.1 b.2) b.4

-- ---- the records that were gathered over none

insert_behind : (e : ℕ × ClassHits) (es fs : Entries) → Keyed fs → IsNew e.0 (classes_of fs) → insert_all nat_eq (e ∷ es) fs ≡ e ∷ insert_all nat_eq es fs
insert_behind e es [] keyed new = refl
insert_behind e es (f ∷ fs) keyed new =
    let apart : nat_eq f.0 e.0 ≡ false = ne_eqb f.0 e.0 (λ same. new.0 (sym same ∙ keyed.0)) in
    ap (λ (b : Bool). insert_all nat_eq (cond b ((e.0, f.1) ∷ es) (e ∷ insert_entry nat_eq es f.0 f.1)) fs) apart
    ∙ insert_behind e (insert_entry nat_eq es f.0 f.1) fs keyed.4 new.1

pub insert_none : (fs : Entries) → Keyed fs → insert_all nat_eq [] fs ≡ fs
insert_none [] keyed = refl
insert_none (f ∷ fs) keyed =
    insert_behind f [] fs keyed.4 (subst (λ (n : ℕ). IsNew n (classes_of fs)) (sym keyed.0) keyed.3)
    ∙ ap (λ (l : Entries). f ∷ l) (insert_none fs keyed.4)

-- ---- the records with one more

record_new : (es : Entries) (r : ClassHits) → Keyed es → lookup (nat_eq r.id) es ≡ None → with_record (classes_of es) r ≡ Some (classes_of (insert_entry nat_eq es r.id r))
record_new [] r keyed none = refl
record_new (e ∷ es) r keyed none =
    let n = none_first r.id e es none in
    let apart : nat_eq e.1.id r.id ≡ false = ne_eqb e.1.id r.id (λ same. eqb-false r.id e.0 n.0 (sym same ∙ sym keyed.0)) in
    rw (apart, n.0, record_new es r keyed.4 n.1) refl

record_known : (es : Entries) (r c : ClassHits) → Keyed es → lookup (nat_eq r.id) es ≡ Some c → agree c r ≡ true
    → with_record (classes_of es) r ≡ Some (classes_of (insert_entry nat_eq es r.id (either_hits c r)))
record_known [] r c keyed is agrees = absurd cc
record_known (e ∷ es) r c keyed is agrees = by (nat_eq r.id e.0) refl is (λ later. record_known es r c keyed.4 later agrees)
  where
    by : (b : Bool) → nat_eq r.id e.0 ≡ b → cond b (Some e.1) (lookup (nat_eq r.id) es) ≡ Some c
        → (lookup (nat_eq r.id) es ≡ Some c → with_record (classes_of es) r ≡ Some (classes_of (insert_entry nat_eq es r.id (either_hits c r))))
        → with_record (classes_of (e ∷ es)) r ≡ Some (classes_of (cond b ((e.0, either_hits c r) ∷ es) (e ∷ insert_entry nat_eq es r.id (either_hits c r))))
    by true same is rest =
        let here : e.1 ≡ c = same_Some e.1 c is in
        let id : nat_eq e.1.id r.id ≡ true = eq-eqb e.1.id r.id (sym keyed.0 ∙ sym (eqb-true r.id e.0 same)) in
        let agrees_here : agree e.1 r ≡ true = ap (λ (x : ClassHits). agree x r) here ∙ agrees in
        rw (id, agrees_here) (ap (λ (x : ClassHits). Some (either_hits x r ∷ classes_of es)) here)
    by false same is rest =
        let apart : nat_eq e.1.id r.id ≡ false = ne_eqb e.1.id r.id (λ id. eqb-false r.id e.0 same (sym id ∙ sym keyed.0)) in
        rw (apart, rest is) refl

-- ---- what was gathered with a record more

module _ (es fs : Entries) (r : ClassHits) (known : Keyed es) (fresh : Keyed fs) (small : IsSmall r) (text : IsModified r.name) where
  merges : (v : ClassHits) (later : Entries) → v.id ≡ r.id → IsSmall v → IsModified v.name
      → with_record (over es fs) r ≡ Some (classes_of (insert_entry nat_eq (insert_all nat_eq es fs) r.id v)) → later ≡ insert_entry nat_eq fs r.id v → Merges es fs later r
  merges v later id v_small v_text one is = subst (λ (l : Entries). Merges es fs l r) (sym is) (record {
    merged = one ∙ ap (λ (l : Entries). Some (classes_of l)) (sym (insert_gathered r.id v es fs fresh));
    keyed = keyed_insert r.id v fs fresh id v_small v_text;
  })

  -- the record is the first of its id
  pub merges_new : (later : Entries) → lookup (nat_eq r.id) fs ≡ None → lookup (nat_eq r.id) es ≡ None → later ≡ insert_entry nat_eq fs r.id r → Merges es fs later r
  merges_new later none new is = merges r later refl small text (record_new (insert_all nat_eq es fs) r (keyed_over es fs known fresh) (lookup_known r.id es fs none ∙ new)) is

  merges_in : (c v : ClassHits) (later : Entries) → Found r.id (insert_all nat_eq es fs) c → lookup (nat_eq r.id) (insert_all nat_eq es fs) ≡ Some c
      → GivesMerged c r v → later ≡ insert_entry nat_eq fs r.id v → Merges es fs later r
  merges_in c v later f found gives is =
      merges (either_hits c r) later f.id (small_either c r f.small gives.0) f.text
      (record_known (insert_all nat_eq es fs) r c (keyed_over es fs known fresh) found gives.0)
      (is ∙ ap (insert_entry nat_eq fs r.id) gives.1)

  -- a record of its id is known, and none was gathered
  pub merges_known : (c v : ClassHits) (later : Entries) → lookup (nat_eq r.id) fs ≡ None → lookup (nat_eq r.id) es ≡ Some c → GivesMerged c r v
      → later ≡ insert_entry nat_eq fs v.id v → Merges es fs later r
  merges_known c v later none there gives is =
      let at = lookup_known r.id es fs none ∙ there in
      let f = found r.id (insert_all nat_eq es fs) c (keyed_over es fs known fresh) at in
      merges_in c v later f at gives (is ∙ ap (λ (n : ℕ). insert_entry nat_eq fs n v) (ap (λ (x : ClassHits). x.id) gives.1 ∙ f.id))

  -- a record of its id was gathered
  pub merges_gathered : (c v : ClassHits) (later : Entries) → lookup (nat_eq r.id) fs ≡ Some c → GivesMerged c r v → later ≡ set_value (nat_eq r.id) fs v → Merges es fs later r
  merges_gathered c v later there gives is =
      let at = lookup_gathered r.id es fs c fresh there in
      let f = found r.id (insert_all nat_eq es fs) c (keyed_over es fs known fresh) at in
      merges_in c v later f at gives (is ∙ set_is_insert r.id v fs c there)

-- the record that is there and another of its id do not agree
pub refuses_record : (es : Entries) (c r : ClassHits) (e : Fail ExecRefusal) → Found r.id es c → RefusesMerging c r e → RefusesRecord e (classes_of es) r
refuses_record es c r fails.Memory f why = tt
refuses_record es c r (fails.Said refusal) f why = (c, record { holds = f.there; same_id = f.id; differs = agree_apart c r why.0 }, why.1)

pub refuses_known : (es fs : Entries) (c r : ClassHits) (e : Fail ExecRefusal) → Keyed es → Keyed fs → lookup (nat_eq r.id) fs ≡ None
    → lookup (nat_eq r.id) es ≡ Some c → RefusesMerging c r e → RefusesRecord e (over es fs) r
refuses_known es fs c r e known fresh none there why =
    refuses_record (insert_all nat_eq es fs) c r e (found r.id (insert_all nat_eq es fs) c (keyed_over es fs known fresh) (lookup_known r.id es fs none ∙ there)) why

pub refuses_gathered : (es fs : Entries) (c r : ClassHits) (e : Fail ExecRefusal) → Keyed es → Keyed fs → lookup (nat_eq r.id) fs ≡ Some c → RefusesMerging c r e → RefusesRecord e (over es fs) r
refuses_gathered es fs c r e known fresh there why =
    refuses_record (insert_all nat_eq es fs) c r e (found r.id (insert_all nat_eq es fs) c (keyed_over es fs known fresh) (lookup_gathered r.id es fs c fresh there)) why

pub gathered_ok : (result : Result (Unit {0}) (Fail ExecRefusal)) (es fs later : Entries) (c v r : ClassHits) → Keyed es → Keyed fs → IsSmall r
    → IsModified r.name → lookup (nat_eq r.id) fs ≡ Some c → MergesInto result c v r
    → later ≡ set_value (nat_eq r.id) fs v → OnOk result (Merges es fs later r)
gathered_ok (Ok done) es fs later c v r known fresh small text there merges is = merges_gathered es fs r known fresh small text c v later there merges is
gathered_ok (Err e) es fs later c v r known fresh small text there merges is = tt

pub gathered_err : (result : Result (Unit {0}) (Fail ExecRefusal)) (es fs : Entries) (c v r : ClassHits) → Keyed es → Keyed fs → lookup (nat_eq r.id) fs ≡ Some c → MergesInto result c v r
    → IfErr result (λ e. RefusesRecord e (over es fs) r)
gathered_err (Ok done) es fs c v r known fresh there merges = tt
gathered_err (Err e) es fs c v r known fresh there merges = refuses_gathered es fs c r e known fresh there merges.1

-- ---- the records of a store with one more

puts : (es later : Entries) (v r : ClassHits) → Keyed es → v.id ≡ r.id → IsSmall v → IsModified v.name
    → with_record (classes_of es) r ≡ Some (classes_of (insert_entry nat_eq es r.id v)) → later ≡ insert_entry nat_eq es r.id v → Puts es later r
puts es later v r keyed id small text one is = subst (λ (l : Entries). Puts es l r) (sym is) (record { merged = one; keyed = keyed_insert r.id v es keyed id small text })

pub puts_new : (es later : Entries) (r : ClassHits) → Keyed es → IsSmall r → IsModified r.name → lookup (nat_eq r.id) es ≡ None → later ≡ insert_entry nat_eq es r.id r → Puts es later r
puts_new es later r keyed small text none is = puts es later r r keyed refl small text (record_new es r keyed none) is

pub puts_known : (result : Result (Unit {0}) (Fail ExecRefusal)) (es later : Entries) (c v r : ClassHits) → Keyed es
    → lookup (nat_eq r.id) es ≡ Some c → MergesInto result c v r → later ≡ set_value (nat_eq r.id) es v → OnOk result (Puts es later r)
puts_known (Ok done) es later c v r keyed there merges is =
    let f = found r.id es c keyed there in
    puts es later (either_hits c r) r keyed f.id (small_either c r f.small merges.0) f.text (record_known es r c keyed there merges.0)
    (is ∙ set_is_insert r.id v es c there ∙ ap (insert_entry nat_eq es r.id) merges.1)
puts_known (Err e) es later c v r keyed there merges is = tt

pub known_refused : (result : Result (Unit {0}) (Fail ExecRefusal)) (es : Entries) (c v r : ClassHits) → Keyed es → lookup (nat_eq r.id) es ≡ Some c
    → MergesInto result c v r → IfErr result (λ e. RefusesRecord e (classes_of es) r)
known_refused (Ok done) es c v r keyed there merges = tt
known_refused (Err e) es c v r keyed there merges = refuses_record es c r e (found r.id es c keyed there) merges.1

pub known_unchanged : (result : Result (Unit {0}) (Fail ExecRefusal)) (es later : Entries) (c v r : ClassHits) → lookup (nat_eq r.id) es ≡ Some c
    → MergesInto result c v r → later ≡ set_value (nat_eq r.id) es v → OnErr result (later ≡ es)
known_unchanged (Ok done) es later c v r there merges is = tt
known_unchanged (Err e) es later c v r there merges is = is ∙ set_value_same (nat_eq r.id) es v (there ∙ ap (λ (x : ClassHits). Some x) (sym merges.0))

-- ---- the only record of its id

at_is_found : (es : Entries) (c : ClassHits) (k : ℕ) → Keyed es → k < length (classes_of es) → get_or (classes_of es) k c ≡ c → lookup (nat_eq c.id) es ≡ Some c
at_is_found [] c k keyed lt is = absurd (omega (arith, lt))
at_is_found (e ∷ es) c zero keyed lt is = let same : nat_eq c.id e.0 ≡ true = eq-eqb c.id e.0 (sym (ap (λ (x : ClassHits). x.id) is) ∙ sym keyed.0) in rw same (ap (λ (x : ClassHits). Some x) is)
at_is_found (e ∷ es) c (suc k) keyed lt is =
    let below : k < length (classes_of es) = omega (arith, lt) in
    let apart : nat_eq c.id e.0 ≡ false = ne_eqb c.id e.0 (λ same. new_and_there e.1.id (classes_of es) c k keyed.3 below is (sym keyed.0 ∙ sym same)) in
    rw apart (at_is_found es c k keyed.4 below is)

pub there_is_found : (id : ℕ) (es : Entries) (c : ClassHits) → Keyed es → Contains (classes_of es) c → c.id ≡ id → lookup (nat_eq id) es ≡ Some c
there_is_found id es c keyed there same = ap (λ (n : ℕ). lookup (nat_eq n) es) (sym same) ∙ at_is_found es c there.0 keyed there.1 there.2

-- what a look-up answers fits the format
pub found_fits : (r : Option ClassHits) (id : ℕ) (es : Entries) → Keyed es → r ≡ lookup (nat_eq id) es → IfSome r IsWritableClass
found_fits None id es keyed is = tt
found_fits (Some c) id es keyed is = let f = found id es c keyed (sym is) in (f.small, f.text)

pub got_fits : (r : Option (Bor ClassHits)) (id : ℕ) (es : Entries) → Keyed es → option_copied r ≡ lookup (nat_eq id) es → IfSome r (λ c. IsWritableClass c.now)
got_fits None id es keyed is = tt
got_fits (Some c) id es keyed is = found_fits (Some c.now) id es keyed is

-- what a look-up answers
pub got : (r : Option (Bor ClassHits)) (id : ℕ) (es : Entries) → Keyed es → option_copied r ≡ lookup (nat_eq id) es → IfSome r (λ c. Contains (classes_of es) c.now × (c.now.id ≡ id))
got None id es keyed is = tt
got (Some c) id es keyed is = let f = found id es c.now keyed (sym is) in (f.there, f.id)

pub got_only : (r : Option (Bor ClassHits)) (id : ℕ) (es : Entries) → Keyed es → option_copied r ≡ lookup (nat_eq id) es → (c : ClassHits)
    → Contains (classes_of es) c → c.id ≡ id → IsSomeAnd r (λ d. d.now ≡ c)
got_only None id es keyed is c there same = some_none (sym (there_is_found id es c keyed there same) ∙ sym is)
got_only (Some d) id es keyed is c there same = same_Some d.now c (is ∙ there_is_found id es c keyed there same)

refused_record : (es : Entries) (r c : ClassHits) → Keyed es → lookup (nat_eq r.id) es ≡ Some c → agree c r ≡ false → with_record (classes_of es) r ≡ None
refused_record [] r c keyed is apart = absurd cc
refused_record (e ∷ es) r c keyed is apart = by (nat_eq r.id e.0) refl is (λ later. refused_record es r c keyed.4 later apart)
  where
    by : (b : Bool) → nat_eq r.id e.0 ≡ b → cond b (Some e.1) (lookup (nat_eq r.id) es) ≡ Some c
        → (lookup (nat_eq r.id) es ≡ Some c → with_record (classes_of es) r ≡ None) → with_record (classes_of (e ∷ es)) r ≡ None
    by true same is rest =
        let here : e.1 ≡ c = same_Some e.1 c is in
        let id : nat_eq e.1.id r.id ≡ true = eq-eqb e.1.id r.id (sym keyed.0 ∙ sym (eqb-true r.id e.0 same)) in
        let differ : agree e.1 r ≡ false = ap (λ (x : ClassHits). agree x r) here ∙ apart in
        rw (id, differ) refl
    by false same is rest =
        let other : nat_eq e.1.id r.id ≡ false = ne_eqb e.1.id r.id (λ id. eqb-false r.id e.0 same (sym id ∙ sym keyed.0)) in
        rw (other, rest is) refl

-- a record that does not agree with the one of its id is not put
pub not_put : (es later : Entries) (c r : ClassHits) → Keyed es → IsConflict (classes_of es) c r → Puts es later r → ⊥
not_put es later c r keyed conflict puts = some_none (sym puts.merged ∙ refused_record es r c keyed (there_is_found r.id es c keyed conflict.holds conflict.same_id) (apart_agree c r conflict.differs))

-- what is said of a record that does not agree with the one of its id
pub says_conflict : (es : Entries) (c r : ClassHits) (e : Fail ExecRefusal) → Keyed es → IsConflict (classes_of es) c r → RefusesRecord e (classes_of es) r → SaysOnly (conflict_of c r) e
says_conflict es c r fails.Memory keyed conflict why = tt
says_conflict es c r (fails.Said refusal) keyed conflict why =
    let one = there_is_found r.id es why.0 keyed why.1.holds why.1.same_id in
    let other = there_is_found r.id es c keyed conflict.holds conflict.same_id in
    why.2 ∙ ap (λ (x : ClassHits). conflict_of x r) (same_Some why.0 c (sym one ∙ other))

pub put_refuses : (result : Result (Unit {0}) (Fail ExecRefusal)) (es later : Entries) (r : ClassHits) → Keyed es → OnOk result (Puts es later r)
    → IfErr result (λ e. RefusesRecord e (classes_of es) r)
    → (c : ClassHits) → IsConflict (classes_of es) c r → IsErrAnd result (SaysOnly (conflict_of c r))
put_refuses (Ok done) es later r keyed puts refused c conflict = not_put es later c r keyed conflict puts
put_refuses (Err e) es later r keyed puts refused c conflict = says_conflict es c r e keyed conflict refused

-- records under their ids are those that their list gives
pub entries_again : (es : Entries) → Keyed es → entries_of (classes_of es) ≡ es
entries_again [] keyed = refl
entries_again (e ∷ es) keyed = λ i. (sym keyed.0 i, e.1) ∷ entries_again es keyed.4 i
