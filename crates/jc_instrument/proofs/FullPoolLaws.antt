-- A class is written with one pool, whatever the names with which its bodies are read; so one that has a twin class has no full pool.
use Rattle.std.proofs.Common.{◌≡◌, ◌++◌, ◌∙◌, ℕ, List, length, sym, ap, subst, arith}
use Rattle.jc_methods.specs.VerificationTypes.{Names, TypeStateAt}
use Rattle.jc_pool.specs.Pool.{PoolValue}
use Rattle.jc_class.specs.declared.class_file.ClassFile.{ClassFile}
use Rattle.jc_plan.specs.Analysed.{all_probes}
use Rattle.jc_instrument.specs.BodiesWithStates.{BodyWithStates, AreBodiesWithStates, all_frames, bodies_of}
use Rattle.jc_instrument.specs.Causes.{Never}
use Rattle.jc_instrument.specs.Constants.{AreConstants}
use Rattle.jc_instrument.specs.Contents.{Content, TakesEach}
use Rattle.jc_instrument.specs.Needed.{early_list, early_needs, member_needs, name_of, needed, place_list, signed_id}
use Rattle.jc_instrument.specs.RoomCauses.{HasFullPool, NeedsTooMuch}
use Rattle.jc_instrument.specs.TwinText.{IsReadyFor, IsWritten, Writing, constants_of, needs_of}
use Rattle.jc_instrument.specs.declared.constants.ProbeConstants.{ProbeConstants}
use Rattle.jc_instrument.proofs.ConstantsLaws.{one_constants}
use Rattle.jc_instrument.proofs.GrownPoolLaws.{one_taking}
use Rattle.jc_instrument.proofs.SameAnalysisLaws.{same_below, same_probes}
use Rattle.jc_instrument.proofs.SameWorksLaws.{same_frames}
use Rattle.jc_instrument.proofs.TakenNeedsLaws.{TakesParts, ready_constants, takes_parts}

-- the bodies of a class have one number of probes, whatever the names with which they are read
pub one_probe_count : (names others : Names) (array other : ℕ) (c : ClassFile) (works more : List BodyWithStates)
    → AreBodiesWithStates names array c works → AreBodiesWithStates others other c more → all_probes (bodies_of works) ≡ all_probes (bodies_of more)
one_probe_count names others array other c works more a b =
    same_probes (bodies_of works)
    ∙ ap all_probes (same_below names others c (length c.methods) (bodies_of works) (bodies_of more) a.bodies b.bodies)
    ∙ sym (same_probes (bodies_of more))

-- what takes equal contents of one pool
same_taking : (old new other : PoolValue) (needs more : List Content) (places others : List ℕ) → needs ≡ more → TakesEach old needs new places → TakesEach old more other others
    → (new ≡ other) × (places ≡ others)
same_taking old new other needs more places others same p q =
    one_taking needs old new other places others p (subst (λ (cs : List Content). TakesEach old cs other others) (sym same) q)

-- ---- a class that is ready with other names is written with the same

module _ (id : ℕ) (names others : Names) (array other : ℕ) (works more : List BodyWithStates) (c : ClassFile) (w v : Writing)
    (p : IsReadyFor id names array works c w) (q : IsReadyFor id others other more c v) where
  abbrev count : ℕ
  count = all_probes (bodies_of works)

  abbrev pub frames : List TypeStateAt
  frames = all_frames names (constants_of w) array works

  abbrev too : List TypeStateAt
  too = all_frames others (constants_of v) other more

  pub count_same : all_probes (bodies_of works) ≡ all_probes (bodies_of more)
  count_same = one_probe_count names others array other c works more p.are q.are

  loads : (constants_of w ≡ constants_of v) × (w.bootstrap ≡ v.bootstrap)
  loads =
      one_constants c count w.bootstrap v.bootstrap (constants_of w) (constants_of v) (ready_constants id names array works c w p)
      (subst (λ (n : ℕ). AreConstants c n v.bootstrap (constants_of v)) (sym count_same) (ready_constants id others other more c v q))

  pub constants_same : constants_of w ≡ constants_of v
  constants_same = loads.0

  pub bootstrap_same : w.bootstrap ≡ v.bootstrap
  bootstrap_same = loads.1

  pub fetch_same : w.fetch ≡ v.fetch
  fetch_same = ap (λ (k : ProbeConstants). k.fetch) constants_same

  pub frames_same : all_frames names (constants_of w) array works ≡ all_frames others (constants_of v) other more
  frames_same =
      same_frames (constants_of w) names others array other c works more p.are q.are ∙ ap (λ (k : ProbeConstants). all_frames others k other more) constants_same

  needs_same : needs_of id names array c works w ≡ needs_of id others other c more v
  needs_same = λ i. needed (fetch_same i) (bootstrap_same i) (name_of c) (signed_id id) (count_same i) (frames_same i)

  pub pool_same : w.pool ≡ v.pool
  pool_same =
      (same_taking c.pool w.pool v.pool (needs_of id names array c works w) (needs_of id others other c more v)
      (early_list w.fetch w.early ++ (place_list w.fetch count frames w.places ++ p.takes.class_places))
      (early_list v.fetch v.early ++ (place_list v.fetch (all_probes (bodies_of more)) too v.places ++ q.takes.class_places)) needs_same p.takes.takes q.takes.takes).0

  parts : TakesParts c.pool w.pool w.fetch w.bootstrap (name_of c) (signed_id id) count frames w.early w.places p.takes.class_places
  parts = takes_parts c.pool w.pool w.fetch w.bootstrap (name_of c) (signed_id id) count frames w.early w.places p.takes

  other_parts : TakesParts c.pool v.pool v.fetch v.bootstrap (name_of c) (signed_id id) (all_probes (bodies_of more)) too v.early v.places q.takes.class_places
  other_parts = takes_parts c.pool v.pool v.fetch v.bootstrap (name_of c) (signed_id id) (all_probes (bodies_of more)) too v.early v.places q.takes

  first_same : parts.mid ≡ other_parts.mid
  first_same =
      (same_taking c.pool parts.mid other_parts.mid (early_needs w.fetch w.bootstrap count) (early_needs v.fetch v.bootstrap (all_probes (bodies_of more)))
      (early_list w.fetch w.early) (early_list v.fetch v.early) (λ i. early_needs (fetch_same i) (bootstrap_same i) (count_same i)) parts.first other_parts.first).0

  -- what the members need stands at the same places
  pub places_same : place_list w.fetch (all_probes (bodies_of works)) (all_frames names (constants_of w) array works) w.places
      ≡ place_list v.fetch (all_probes (bodies_of more)) (all_frames others (constants_of v) other more) v.places
  places_same =
      let mine = member_needs w.fetch (name_of c) (signed_id id) count frames in
      let yours = member_needs v.fetch (name_of c) (signed_id id) (all_probes (bodies_of more)) too in
      (same_taking parts.mid parts.more other_parts.more mine yours (place_list w.fetch count frames w.places)
      (place_list v.fetch (all_probes (bodies_of more)) too v.places) (λ i. member_needs (fetch_same i) (name_of c) (signed_id id) (count_same i) (frames_same i)) parts.members
      (subst (λ (pool : PoolValue). TakesEach pool yours other_parts.more (place_list v.fetch (all_probes (bodies_of more)) too v.places)) (sym first_same) other_parts.members)).1

-- ---- a full pool

not_too_much : (id : ℕ) (names : Names) (array : ℕ) (works : List BodyWithStates) (c twin : ClassFile)
    → IsWritten id names array works c twin → NeedsTooMuch id c → ⊥
not_too_much id names array works c twin w much =
    let pools = pool_same id names much.names array much.array works much.works c w.with much.with w.ready much.ready in
    let few = w.few in
    let many = much.many in
    let count = ap (λ (pool : PoolValue). length pool) pools in
    omega (arith, few, many, count)

pub no_full_pool : (id : ℕ) (names : Names) (array : ℕ) (works : List BodyWithStates) (c twin : ClassFile)
    → IsWritten id names array works c twin → Never (HasFullPool id c)
no_full_pool id names array works c twin w r full = not_too_much id names array works c twin w full.full
