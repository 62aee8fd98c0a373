-- Where method handles and computed constants stand, by their keys.
use Rattle.std.proofs.Common.{◌≡◌, ℕ, ◌≤◌, List, length, option_map, Option, Some, None, refl, sym, ◌∙◌, ap, subst, arith}
use Rattle.std.proofs.lemmas.Option.{none-some, same_Some}
use Rattle.jc_bytes.specs.Decoder.{◌>>=◌}
use Rattle.jc_pool.specs.declared.entry.Entry.{Entry}
use Rattle.jc_pool.specs.declared.entry.Entry.TheVariants as entry
use Rattle.jc_pool.specs.declared.index.Key.{Key}
use Rattle.jc_pool.specs.declared.index.Key.TheVariants as key
use Rattle.jc_pool.specs.Pool.{PoolValue}
use Rattle.jc_pool.specs.Lookup.{entry_of, utf8_of, Signature, signature_of, Member, ref_in, reference_of, member_in, member_of}
use Rattle.jc_pool.specs.Lookup.{Computed, computed_in, computed_of, Handle, handle_in, handle_of}
use Rattle.jc_pool.specs.Adding.{IsNowhere, IsMemberTag}
use Rattle.jc_pool.specs.Index.{key_at, AreTables, member_key_at, texts_key, handle, signature_key, handle_key, computed_key, linked_key, linked_key_at}
use Rattle.jc_pool.proofs.FirstPlaceLaws.{is_first, is_nowhere}
use Rattle.jc_pool.proofs.OneMoreEntryLaws.{utf8_past, past}
use Rattle.jc_pool.proofs.KeyPlaceLaws.{AreAsOne, has_signature, signature_as_one}
use Rattle.jc_pool.proofs.MemberKeyLaws.{no_dynamic, keyed_as_one, unkeyed}

-- ---- fields and methods

refers : (pool : PoolValue) (m : Member) (e : Entry) → ref_in pool e ≡ Some m → member_in pool e ≡ Some m
refers pool m (entry.Fieldref class sig) is = is
refers pool m (entry.Methodref class sig) is = is
refers pool m (entry.InterfaceMethodref class sig) is = is
refers pool m e is = absurd (none-some m is)

referred : (pool : PoolValue) (m : Member) (e : Entry) → IsMemberTag m.tag → member_in pool e ≡ Some m → ref_in pool e ≡ Some m
referred pool m (entry.Dynamic bootstrap sig) tagged is = absurd (no_dynamic pool m 17 sig (omega arith) tagged is)
referred pool m (entry.InvokeDynamic bootstrap sig) tagged is = absurd (no_dynamic pool m 18 sig (omega arith) tagged is)
referred pool m e tagged is = is

-- a field or a method of a class is found alike
pub reference_member : (pool : PoolValue) (m : Member) (place : ℕ) → reference_of pool place ≡ Some m → member_of pool place ≡ Some m
unfolding reference_of member_of
reference_member pool m place is = by (entry_of pool place) is
  where
    by : (slot : Option Entry) → (slot >>= ref_in pool) ≡ Some m → (slot >>= member_in pool) ≡ Some m
    by None is = absurd (none-some m is)
    by (Some e) is = refers pool m e is

pub member_reference : (pool : PoolValue) (m : Member) (place : ℕ) → IsMemberTag m.tag → member_of pool place ≡ Some m → reference_of pool place ≡ Some m
unfolding reference_of member_of
member_reference pool m place tagged is = by (entry_of pool place) is
  where
    by : (slot : Option Entry) → (slot >>= member_in pool) ≡ Some m → (slot >>= ref_in pool) ≡ Some m
    by None is = absurd (none-some m is)
    by (Some e) is = referred pool m e tagged is

-- ---- what the entries name

abbrev computed_by : ℕ → Signature → Computed
computed_by bootstrap s = record { signed = s; bootstrap = bootstrap }

handle_named : (pool : PoolValue) (h : Handle) (slot : Option Entry) → (slot >>= handle_in pool) ≡ Some h
    → (at : ℕ) × (slot ≡ Some (entry.MethodHandle h.kind at)) × (reference_of pool at ≡ Some h.target)
handle_named pool h None is = absurd (none-some h is)
handle_named pool h (Some (entry.MethodHandle kind at)) is = by (reference_of pool at) refl is
  where
    by : (r : Option Member) → reference_of pool at ≡ r → option_map (handle kind) r ≡ Some h
        → (to : ℕ) × (Some (entry.MethodHandle kind at) ≡ Some (entry.MethodHandle h.kind to)) × (reference_of pool to ≡ Some h.target)
    by None there is = absurd (none-some h is)
    by (Some m) there is =
        let same = same_Some (handle kind m) h is in
        (at, ap (λ (x : Handle). Some (entry.MethodHandle x.kind at)) same, there ∙ ap (λ (x : Handle). Some x.target) same)
handle_named pool h (Some e) is = absurd (none-some h is)

-- a handle of this kind that names the member stands at the place
pub has_handle : (pool : PoolValue) (place : ℕ) (h : Handle) → handle_of pool place ≡ Some h
    → (at : ℕ) × (entry_of pool place ≡ Some (entry.MethodHandle h.kind at)) × (reference_of pool at ≡ Some h.target)
unfolding handle_of
has_handle pool place h is = handle_named pool h (entry_of pool place) is

pub is_handled : (pool : PoolValue) (place at : ℕ) (h : Handle) → entry_of pool place ≡ Some (entry.MethodHandle h.kind at)
    → reference_of pool at ≡ Some h.target → handle_of pool place ≡ Some h
unfolding handle_of
is_handled pool place at h is there = ap (λ (e : Option Entry). e >>= handle_in pool) is ∙ ap (option_map (handle h.kind)) there

pub handle_past : (pool : PoolValue) (place : ℕ) → length pool ≤ place → handle_of pool place ≡ None
unfolding handle_of
handle_past pool place behind = past (handle_in pool) pool place behind

computed_named : (pool : PoolValue) (c : Computed) (slot : Option Entry) → (slot >>= computed_in pool) ≡ Some c
    → (at : ℕ) × (slot ≡ Some (entry.Dynamic c.bootstrap at)) × (signature_of pool at ≡ Some c.signed)
computed_named pool c None is = absurd (none-some c is)
computed_named pool c (Some (entry.Dynamic bootstrap at)) is = by (signature_of pool at) refl is
  where
    by : (r : Option Signature) → signature_of pool at ≡ r → option_map (computed_by bootstrap) r ≡ Some c
        → (to : ℕ) × (Some (entry.Dynamic bootstrap at) ≡ Some (entry.Dynamic c.bootstrap to)) × (signature_of pool to ≡ Some c.signed)
    by None there is = absurd (none-some c is)
    by (Some s) there is =
        let same = same_Some (computed_by bootstrap s) c is in
        (at, ap (λ (x : Computed). Some (entry.Dynamic x.bootstrap at)) same, there ∙ ap (λ (x : Computed). Some x.signed) same)
computed_named pool c (Some e) is = absurd (none-some c is)

-- a constant of this bootstrap method with the name and the descriptor stands at the place
pub has_computed : (pool : PoolValue) (place : ℕ) (c : Computed) → computed_of pool place ≡ Some c
    → (at : ℕ) × (entry_of pool place ≡ Some (entry.Dynamic c.bootstrap at)) × (signature_of pool at ≡ Some c.signed)
unfolding computed_of
has_computed pool place c is = computed_named pool c (entry_of pool place) is

pub is_computed : (pool : PoolValue) (place at : ℕ) (c : Computed) → entry_of pool place ≡ Some (entry.Dynamic c.bootstrap at)
    → signature_of pool at ≡ Some c.signed → computed_of pool place ≡ Some c
unfolding computed_of
is_computed pool place at c is there = ap (λ (e : Option Entry). e >>= computed_in pool) is ∙ ap (option_map (computed_by c.bootstrap)) there

pub computed_past : (pool : PoolValue) (place : ℕ) → length pool ≤ place → computed_of pool place ≡ None
unfolding computed_of
computed_past pool place behind = past (computed_in pool) pool place behind

-- ---- their keys

handle_keyed : (kind : ℕ) (r : Option Key) (k t c n d : ℕ) → handle_key kind r ≡ Some (key.Handle k t c n d) → (kind ≡ k) × (r ≡ Some (key.Member t c n d))
handle_keyed kind (Some (key.Member tag class name desc)) k t c n d is = (cc, cc)
handle_keyed kind r k t c n d is = absurd cc

no_handle : (bootstrap : ℕ) (r : Option Key) (k t c n d : ℕ) → computed_key bootstrap r ≡ Some (key.Handle k t c n d) → ⊥
no_handle bootstrap (Some (key.Signature name desc)) k t c n d is = cc
no_handle bootstrap r k t c n d is = cc

computed_keyed : (bootstrap : ℕ) (r : Option Key) (b n d : ℕ) → computed_key bootstrap r ≡ Some (key.Computed b n d) → (bootstrap ≡ b) × (r ≡ Some (key.Signature n d))
computed_keyed bootstrap (Some (key.Signature name desc)) b n d is = (cc, cc)
computed_keyed bootstrap r b n d is = absurd cc

no_computed : (kind : ℕ) (r : Option Key) (b n d : ℕ) → handle_key kind r ≡ Some (key.Computed b n d) → ⊥
no_computed kind (Some (key.Member tag class name desc)) b n d is = cc
no_computed kind r b n d is = cc

module _ (pool : PoolValue) (firsts : List ℕ) where
  handle_linked : (slot : Option Entry) (k t c n d : ℕ) → (slot >>= linked_key firsts pool) ≡ Some (key.Handle k t c n d)
      → (at : ℕ) × (slot ≡ Some (entry.MethodHandle k at)) × (member_key_at firsts pool at ≡ Some (key.Member t c n d))
  handle_linked None k t c n d is = absurd (none-some (key.Handle k t c n d) is)
  handle_linked (Some (entry.MethodHandle kind at)) k t c n d is =
      let parts = handle_keyed kind (member_key_at firsts pool at) k t c n d is in
      (at, ap (λ (x : ℕ). Some (entry.MethodHandle x at)) parts.0, parts.1)
  handle_linked (Some (entry.Dynamic bootstrap at)) k t c n d is = absurd (no_handle bootstrap (key_at firsts pool at) k t c n d is)
  handle_linked (Some e) k t c n d is = absurd (none-some (key.Handle k t c n d) is)

  computed_linked : (slot : Option Entry) (b n d : ℕ) → (slot >>= linked_key firsts pool) ≡ Some (key.Computed b n d)
      → (at : ℕ) × (slot ≡ Some (entry.Dynamic b at)) × (key_at firsts pool at ≡ Some (key.Signature n d))
  computed_linked None b n d is = absurd (none-some (key.Computed b n d) is)
  computed_linked (Some (entry.Dynamic bootstrap at)) b n d is =
      let parts = computed_keyed bootstrap (key_at firsts pool at) b n d is in
      (at, ap (λ (x : ℕ). Some (entry.Dynamic x at)) parts.0, parts.1)
  computed_linked (Some (entry.MethodHandle kind at)) b n d is = absurd (no_computed kind (member_key_at firsts pool at) b n d is)
  computed_linked (Some e) b n d is = absurd (none-some (key.Computed b n d) is)

  -- a handle is found by its key where its member is
  handle_as_one : (h : Handle) (t c n d : ℕ) → IsMemberTag h.target.tag
      → AreAsOne (member_of pool) h.target (member_key_at firsts pool) (key.Member t c n d)
      → AreAsOne (handle_of pool) h (linked_key_at firsts pool) (key.Handle h.kind t c n d)
  handle_as_one h t c n d tagged member_one = record {
    to_key = λ place is.
        let p = has_handle pool place h is in
        ap (λ (e : Option Entry). e >>= linked_key firsts pool) p.1
        ∙ ap (handle_key h.kind) (member_one.to_key p.0 (reference_member pool h.target p.0 p.2));
    of_key = λ place keyed.
        let p = handle_linked (entry_of pool place) h.kind t c n d keyed in
        is_handled pool place p.0 h p.1 (member_reference pool h.target p.0 tagged (member_one.of_key p.0 p.2));
  }

  -- and a constant where its name and descriptor are
  computed_as_one : (c : Computed) (n d : ℕ) → AreAsOne (signature_of pool) c.signed (key_at firsts pool) (key.Signature n d)
      → AreAsOne (computed_of pool) c (linked_key_at firsts pool) (key.Computed c.bootstrap n d)
  computed_as_one c n d sig_one = record {
    to_key = λ place is.
        let p = has_computed pool place c is in
        ap (λ (e : Option Entry). e >>= linked_key firsts pool) p.1 ∙ ap (computed_key c.bootstrap) (sig_one.to_key p.0 p.2);
    of_key = λ place keyed.
        let p = computed_linked (entry_of pool place) c.bootstrap n d keyed in
        is_computed pool place p.0 c p.1 (sig_one.of_key p.0 p.2);
  }

-- ---- by the first places of the texts

module _ (pool : PoolValue) (texts : List ℕ → Option ℕ) (firsts : List ℕ) (keys : Key → Option ℕ) (are : AreTables pool texts firsts keys) where
  -- where the texts have first places, the handle is found by its key
  pub handle_by_key : (h : Handle) (c n d : Option ℕ) (k : Key) → IsMemberTag h.target.tag
      → c ≡ texts h.target.class → n ≡ texts h.target.name → d ≡ texts h.target.desc
      → handle_key h.kind (texts_key h.target.tag c n d) ≡ Some k → AreAsOne (handle_of pool) h (linked_key_at firsts pool) k
  handle_by_key h (Some c) (Some n) (Some d) k tagged classed named described is =
      let m = h.target in
      let member_one = keyed_as_one pool texts firsts keys are m tagged (Some c) (Some n) (Some d) (key.Member m.tag c n d) classed named described refl in
      subst (AreAsOne (handle_of pool) h (linked_key_at firsts pool)) (same_Some (key.Handle h.kind m.tag c n d) k is)
      (handle_as_one pool firsts h m.tag c n d tagged member_one)
  handle_by_key h None n d k tagged classed named described is = absurd (none-some k is)
  handle_by_key h (Some c) None d k tagged classed named described is = absurd (none-some k is)
  handle_by_key h (Some c) (Some n) None k tagged classed named described is = absurd (none-some k is)

  handle_missing : (h : Handle) → IsNowhere (member_of pool) h.target → IsNowhere (handle_of pool) h
  handle_missing h none place is = let p = has_handle pool place h is in none p.0 (reference_member pool h.target p.0 p.2)

  -- and it is nowhere where one of them is
  pub handle_unkeyed : (h : Handle) (c n d : Option ℕ) → IsMemberTag h.target.tag
      → c ≡ texts h.target.class → n ≡ texts h.target.name → d ≡ texts h.target.desc
      → handle_key h.kind (texts_key h.target.tag c n d) ≡ None → IsNowhere (handle_of pool) h
  handle_unkeyed h c n d tagged classed named described is =
      handle_missing h (unkeyed pool texts firsts keys are h.target tagged c n d classed named described (keyless c n d is))
    where
      keyless : (c n d : Option ℕ) → handle_key h.kind (texts_key h.target.tag c n d) ≡ None → texts_key h.target.tag c n d ≡ None
      keyless (Some c) (Some n) (Some d) is = absurd (none-some (key.Handle h.kind h.target.tag c n d) (sym is))
      keyless None n d is = refl
      keyless (Some c) None d is = refl
      keyless (Some c) (Some n) None is = refl

  -- the same of a constant
  pub computed_by_key : (c : Computed) (n d : Option ℕ) (k : Key) → n ≡ texts c.signed.name → d ≡ texts c.signed.desc
      → computed_key c.bootstrap (signature_key n d) ≡ Some k → AreAsOne (computed_of pool) c (linked_key_at firsts pool) k
  computed_by_key c (Some n) (Some d) k named described is =
      let s = c.signed in
      let name = is_first (utf8_of pool) (length pool) s.name n (texts s.name) (sym named) (are.texts s.name) in
      let desc = is_first (utf8_of pool) (length pool) s.desc d (texts s.desc) (sym described) (are.texts s.desc) in
      subst (AreAsOne (computed_of pool) c (linked_key_at firsts pool)) (same_Some (key.Computed c.bootstrap n d) k is)
      (computed_as_one pool firsts c n d (signature_as_one pool texts firsts keys are s n d name desc))
  computed_by_key c None d k named described is = absurd (none-some k is)
  computed_by_key c (Some n) None k named described is = absurd (none-some k is)

  pub computed_unkeyed : (c : Computed) (n d : Option ℕ) → n ≡ texts c.signed.name → d ≡ texts c.signed.desc
      → computed_key c.bootstrap (signature_key n d) ≡ None → IsNowhere (computed_of pool) c
  computed_unkeyed c (Some n) (Some d) named described is = absurd (none-some (key.Computed c.bootstrap n d) (sym is))
  computed_unkeyed c None d named described is = λ place there.
      let p = has_computed pool place c there in
      let s = has_signature pool p.0 c.signed p.2 in
      is_nowhere (utf8_of pool) (length pool) c.signed.name (texts c.signed.name) (utf8_past pool) (sym named) (are.texts c.signed.name) s.0 s.3
  computed_unkeyed c (Some n) None named described is = λ place there.
      let p = has_computed pool place c there in
      let s = has_signature pool p.0 c.signed p.2 in
      is_nowhere (utf8_of pool) (length pool) c.signed.desc (texts c.signed.desc) (utf8_past pool) (sym described) (are.texts c.signed.desc) s.1 s.4
