-- The record of a class of a program in the execution data of a run plan.
use Rattle.std.proofs.Common.{◌≡◌, ℕ, zero, suc, ◌+◌, Bool, true, false, cond, nat_eq, ◌||◌, List, [], ◌∷◌, Option, None, Some, refl, sym, ◌∙◌, ap, subst, arith}
use Rattle.std.specs.Prelude.{slice_get, filter, option_map}
use Rattle.std.specs.List.{list_any}
use Rattle.std.proofs.lemmas.Bool.{eq-eqb, eqb-true}
use Rattle.std.proofs.lemmas.Option.{none-some, same_Some}
use Rattle.jc_programs.specs.declared.program.Linked.{Linked}
use Rattle.jc_programs.specs.declared.program.ProbeInit.{ProbeInit}
use Rattle.jc_cover.specs.Covered.{is_hit, hits_or_none}
use Rattle.jc_exec.specs.declared.hits.ClassHits.{ClassHits}
use Rattle.jc_exec.specs.Refusing.{OneOfEachId}
use Rattle.jc_exec.specs.Store.{IsNew}
use Rattle.jc_exec.specs.Writing.{is_hit as has_hit}
use Rattle.jc_link_programs.specs.Pairs.{HaveOneId, NoPair, id_of as class_id_of}
use Rattle.jc_machine_model.specs.World.{Hit}
use Rattle.jc_command_classes.specs.Report.{record_of}
use Rattle.jc_command_run.specs.RunStore.{hit_record, with_record, hit_records}

-- ---- classes of different ids

pub tail_pairs : (n : Linked) (ns : List Linked) → NoPair (HaveOneId (n ∷ ns)) → NoPair (HaveOneId ns)
tail_pairs n ns none = λ a b less h. none (suc a) (suc b) (omega (arith, less)) (record {
  a = h.a;
  b = h.b;
  shared = h.shared;
  first_is = h.first_is;
  second_is = h.second_is;
  first_key = h.first_key;
  second_key = h.second_key;
})

abbrev pub id_key : Option ProbeInit → Option ℕ
id_key o = option_map (λ (p : ProbeInit). p.id) o

-- ---- the record of a class

pub record_there : (hits : List Hit) (k : ℕ) (ns : List Linked) → NoPair (HaveOneId ns) → (i : ℕ) (n : Linked) (init : ProbeInit) → slice_get ns i ≡ Some n → n.probes ≡ Some init
    → record_of (hit_records hits k ns) init.id ≡ Some (hit_record hits (k + i) n init)
record_there hits k [] none i n init at probes = absurd (none-some n at)
record_there hits k (m ∷ ns) none zero n init at probes =
    let e : k ≡ k + 0 = omega arith in
    by m.probes (ap (λ (x : Linked). x.probes) (same_Some m n at) ∙ probes) ∙ ap (λ (j : ℕ). Some (hit_record hits j n init)) e
  where
    head : (t : Bool) → t ≡ true → (rest : Option ClassHits) → cond t (Some (hit_record hits k m init)) rest ≡ Some (hit_record hits k n init)
    head true e rest = ap (λ (x : Linked). Some (hit_record hits k x init)) (same_Some m n at)
    head false e rest = absurd (false_or_true e)
      where
        false_or_true : false ≡ true → ⊥
        false_or_true e = cc

    by : (o : Option ProbeInit) → o ≡ Some init → record_of (with_record hits k m o (hit_records hits (k + 1) ns)) init.id ≡ Some (hit_record hits k n init)
    by None e = absurd (none-some init e)
    by (Some j) e =
        subst (λ (x : ProbeInit). record_of (hit_record hits k m x ∷ hit_records hits (k + 1) ns) init.id ≡ Some (hit_record hits k n init)) (sym (same_Some j init e))
        (head (nat_eq init.id init.id) (eq-eqb init.id init.id refl) (record_of (hit_records hits (k + 1) ns) init.id))
record_there hits k (m ∷ ns) none (suc i) n init at probes =
    let e : (k + 1) + i ≡ k + suc i = omega arith in
    by m.probes refl (record_there hits (k + 1) ns (tail_pairs m ns none) i n init at probes) ∙ ap (λ (j : ℕ). Some (hit_record hits j n init)) e
  where
    skip : (t : Bool) (j : ProbeInit) → t ≡ false → (rest : Option ClassHits) → cond t (Some (hit_record hits k m j)) rest ≡ rest
    skip true j e rest = absurd (true_or_false e)
      where
        true_or_false : true ≡ false → ⊥
        true_or_false e = cc
    skip false j e rest = refl

    apart : (j : ProbeInit) → m.probes ≡ Some j → (t : Bool) → nat_eq j.id init.id ≡ t → t ≡ false
    apart j is true e =
        absurd (none zero (suc i) (omega arith) (record {
          a = m;
          b = n;
          shared = init.id;
          first_is = refl;
          second_is = at;
          first_key = ap id_key is ∙ ap Some (eqb-true j.id init.id e);
          second_key = ap id_key probes;
        }))
    apart j is false e = refl

    by : (o : Option ProbeInit) → m.probes ≡ o → record_of (hit_records hits (k + 1) ns) init.id ≡ Some (hit_record hits ((k + 1) + i) n init)
        → record_of (with_record hits k m o (hit_records hits (k + 1) ns)) init.id ≡ Some (hit_record hits ((k + 1) + i) n init)
    by None is later = later
    by (Some j) is later = skip (nat_eq j.id init.id) j (apart j is (nat_eq j.id init.id) refl) (record_of (hit_records hits (k + 1) ns) init.id) ∙ later

-- ---- the records that have a hit

-- the records are of different ids
new_behind : (hits : List Hit) (k : ℕ) (ns : List Linked) (id : ℕ) → ((j : ℕ) (n : Linked) → slice_get ns j ≡ Some n → class_id_of n ≡ Some id → ⊥)
    → IsNew id (hit_records hits k ns)
new_behind hits k [] id none = tt
new_behind hits k (n ∷ ns) id none = by n.probes refl (new_behind hits (k + 1) ns id (λ j m at has. none (suc j) m at has))
  where
    by : (o : Option ProbeInit) → n.probes ≡ o → IsNew id (hit_records hits (k + 1) ns) → IsNew id (with_record hits k n o (hit_records hits (k + 1) ns))
    by None is rest = rest
    by (Some init) is rest = (λ same. none zero n refl (ap id_key is ∙ ap Some (sym same)), rest)

one_of_each : (hits : List Hit) (k : ℕ) (ns : List Linked) → NoPair (HaveOneId ns) → OneOfEachId (hit_records hits k ns)
one_of_each hits k [] none = tt
one_of_each hits k (n ∷ ns) none = by n.probes refl (one_of_each hits (k + 1) ns (tail_pairs n ns none))
  where
    by : (o : Option ProbeInit) → n.probes ≡ o → OneOfEachId (hit_records hits (k + 1) ns) → OneOfEachId (with_record hits k n o (hit_records hits (k + 1) ns))
    by None is rest = rest
    by (Some init) is rest = (
      new_behind hits (k + 1) ns init.id
          (λ j m at has. none zero (suc j) (omega arith) (record {
            a = n;
            b = m;
            shared = init.id;
            first_is = refl;
            second_is = at;
            first_key = ap id_key is;
            second_key = has;
          })),
      rest,
    )

-- no record of a new id
none_of : (id : ℕ) (rs : List ClassHits) → IsNew id rs → record_of (filter has_hit rs) id ≡ None
none_of id [] new = refl
none_of id (r ∷ rs) new = by (has_hit r) (nat_eq r.id id) refl (none_of id rs new.1)
  where
    by : (t u : Bool) → nat_eq r.id id ≡ u → record_of (filter has_hit rs) id ≡ None → record_of (cond t (r ∷ filter has_hit rs) (filter has_hit rs)) id ≡ None
    by false u e rest = rest
    by true true e rest = absurd (new.0 (sym (eqb-true r.id id e)))
    by true false e rest = ap (λ (u : Bool). cond u (Some r) (record_of (filter has_hit rs) id)) e ∙ rest

-- the record of an id, if it has a hit
kept_record : (id : ℕ) (rs : List ClassHits) → OneOfEachId rs → (r : ClassHits) → record_of rs id ≡ Some r
    → record_of (filter has_hit rs) id ≡ cond (has_hit r) (Some r) None
kept_record id [] one r is = absurd (none-some r is)
kept_record id (x ∷ rs) one r is = by (nat_eq x.id id) refl (λ e. kept_record id rs one.1 r e)
  where
    -- it is the first one
    first : nat_eq x.id id ≡ true → x ≡ r → (t : Bool) → record_of (cond t (x ∷ filter has_hit rs) (filter has_hit rs)) id ≡ cond t (Some r) None
    first e same true = ap (λ (u : Bool). cond u (Some x) (record_of (filter has_hit rs) id)) e ∙ ap Some same
    first e same false = none_of id rs (subst (λ (i : ℕ). IsNew i rs) (eqb-true x.id id e) one.0)

    -- it is a later one
    later : nat_eq x.id id ≡ false → record_of (filter has_hit rs) id ≡ cond (has_hit r) (Some r) None → (t : Bool)
        → record_of (cond t (x ∷ filter has_hit rs) (filter has_hit rs)) id ≡ cond (has_hit r) (Some r) None
    later e rest true = ap (λ (u : Bool). cond u (Some x) (record_of (filter has_hit rs) id)) e ∙ rest
    later e rest false = rest

    by : (u : Bool) → nat_eq x.id id ≡ u → (record_of rs id ≡ Some r → record_of (filter has_hit rs) id ≡ cond (has_hit r) (Some r) None)
        → record_of (filter has_hit (x ∷ rs)) id ≡ cond (has_hit r) (Some r) None
    by true e rest =
        let same : x ≡ r = same_Some x r (sym (ap (λ (u : Bool). cond u (Some x) (record_of rs id)) e) ∙ is) in
        first e same (has_hit x) ∙ ap (λ (c : ClassHits). cond (has_hit c) (Some r) None) same
    by false e rest = later e (rest (sym (ap (λ (u : Bool). cond u (Some x) (record_of rs id)) e) ∙ is)) (has_hit x)

-- that of a class of the program
pub hit_there : (hits : List Hit) (ns : List Linked) → NoPair (HaveOneId ns) → (k : ℕ) (n : Linked) (init : ProbeInit) → slice_get ns k ≡ Some n → n.probes ≡ Some init
    → record_of (filter has_hit (hit_records hits 0 ns)) init.id ≡ cond (has_hit (hit_record hits k n init)) (Some (hit_record hits k n init)) None
hit_there hits ns none k n init at probes =
    let e : 0 + k ≡ k = omega arith in
    kept_record init.id (hit_records hits 0 ns) (one_of_each hits 0 ns none) (hit_record hits k n init)
    (record_there hits 0 ns none k n init at probes ∙ ap (λ (j : ℕ). Some (hit_record hits j n init)) e)

-- a record without a hit has no bit
none_set : (bits : List Bool) (id : ℕ) → list_any (λ b. b) bits ≡ false → is_hit bits id ≡ false
none_set [] id none = refl
none_set (b ∷ bits) zero none = by b none
  where
    by : (t : Bool) → (t || list_any (λ b. b) bits) ≡ false → t ≡ false
    by true e = absurd cc
    by false e = refl
none_set (b ∷ bits) (suc id) none = none_set bits id (by b none)
  where
    by : (t : Bool) → (t || list_any (λ b. b) bits) ≡ false → list_any (λ b. b) bits ≡ false
    by true e = absurd cc
    by false e = e

-- so by its bits, or by none, the same is hit
pub same_hits : (r : ClassHits) (t : Bool) → has_hit r ≡ t → (id : ℕ) → is_hit (hits_or_none (option_map (λ (c : ClassHits). c.bits) (cond t (Some r) None))) id ≡ is_hit r.bits id
same_hits r true hit id = refl
same_hits r false hit id = sym (none_set r.bits id hit)
