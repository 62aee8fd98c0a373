-- Method handles and computed constants that are put behind the entries of a pool, and what they lack.
use Rattle.std.proofs.Common.{◌≡◌, inl, inr, ℕ, ◌+◌, ◌++◌, Bool, List, length, IfOk, Option, Result, Ok, Err, refl, sym, ◌∙◌, ap, arith}
use Rattle.std.specs.Str.{bytes_eq}
use Rattle.jc_pool.specs.declared.entry.Entry.{Entry}
use Rattle.jc_pool.specs.declared.entry.Entry.TheVariants as entry
use Rattle.jc_pool.specs.declared.index.Index.{Index}
use Rattle.jc_pool.specs.Pool.{PoolValue, slots_of}
use Rattle.jc_pool.specs.Lookup.{Member, member_of, Computed, Handle}
use Rattle.jc_pool.specs.Adding.{IsFirst, IsNowhere, IsPut, HasSignature, HasMember, PutsHandle, PutsComputed}
use Rattle.jc_pool.specs.Index.{text_place, key_place, signature_place, missing_signature, IsIndexOf, GrowsBy, Lacks}
use Rattle.jc_pool.proofs.OneMoreEntryLaws.{grown_length}
use Rattle.jc_pool.proofs.AddingLaws.{put_at_end}
use Rattle.jc_pool.proofs.MemberLaws.{signature_had}

-- ---- computed constants

-- what a constant lacks is what its name and descriptor lack, and one place
pub computed_lacks : (pool : PoolValue) (index : Index) (c : Computed) (count : ℕ) (name desc found : Option ℕ) (same : Bool) → IsIndexOf pool index
    → name ≡ text_place index.texts.entries (λ x. x.items) c.signed.name → desc ≡ text_place index.texts.entries (λ x. x.items) c.signed.desc
    → found ≡ signature_place (key_place index.keys.entries) name desc → same ≡ bytes_eq c.signed.desc c.signed.name
    → count ≡ missing_signature found same name desc + 1 → GrowsBy pool (PutsComputed pool c) count
computed_lacks pool index c count name desc found same is named described place_is same_is counts =
    let texts : List ℕ → Option ℕ = text_place index.texts.entries (λ x. x.items) in
    let there : signature_place (key_place index.keys.entries) (texts c.signed.name) (texts c.signed.desc) ≡ found =
    sym (place_is ∙ (λ i. signature_place (key_place index.keys.entries) (named i) (described i))) in
    let signed = signature_had pool texts index.firsts.items (key_place index.keys.entries) c.signed is.tables found there in
    let last : Entry = entry.Dynamic c.bootstrap signed.1 in
    let lacks : missing_signature found same name desc ≡ missing_signature found (bytes_eq c.signed.desc c.signed.name) (texts c.signed.name) (texts c.signed.desc) =
    (λ i. missing_signature found (same_is i) (named i) (described i)) in (
      signed.0 ++ slots_of last,
      length signed.0,
      (signed.0, signed.1, signed.2, put_at_end signed.0 last),
      grown_length signed.0 last
          ∙ total (length signed.0) (length pool) (missing_signature found (bytes_eq c.signed.desc c.signed.name) (texts c.signed.name) (texts c.signed.desc))
          (missing_signature found same name desc) count signed.3 lacks counts,
    )
  where
    total : (l p s t n : ℕ) → l ≡ p + s → t ≡ s → n ≡ t + 1 → l + 1 ≡ p + n
    total l p s t n signed same counts = omega (arith, signed, same, counts)

pub computed_put : {E : Type 0} (old signed new : PoolValue) (c : Computed) (at : ℕ) (r : Result ℕ E) → HasSignature old c.signed signed at
    → IfOk r (IsPut signed new (entry.Dynamic c.bootstrap at)) → IfOk r (PutsComputed old c new)
computed_put old signed new c at (Ok place) has put = (signed, at, has, put)
computed_put old signed new c at (Err e) has put = tt

-- ---- method handles

handle_at_end : (pool named : PoolValue) (h : Handle) (at missing : ℕ) → HasMember pool h.target named at → length named ≡ length pool + missing
    → GrowsBy pool (PutsHandle pool h) (missing + 1)
handle_at_end pool named h at missing has size =
    let last : Entry = entry.MethodHandle h.kind at in
    let more = grown_length named last in
    (named ++ slots_of last, length named, (named, at, has, put_at_end named last), omega (arith, more, size))

-- where its member stands, a handle lacks its own place
pub handle_lacks_one : (pool : PoolValue) (h : Handle) (at : ℕ) → IsFirst (member_of pool) h.target at → GrowsBy pool (PutsHandle pool h) 1
handle_lacks_one pool h at first = handle_at_end pool pool h at 0 (inl (first, refl)) (omega arith)

-- else what its member lacks too
pub handle_lacks : (pool : PoolValue) (h : Handle) (missing : ℕ) → IsNowhere (member_of pool) h.target → Lacks pool h.target missing
    → GrowsBy pool (PutsHandle pool h) (missing + 1)
handle_lacks pool h missing none lacks = handle_at_end pool lacks.0 h lacks.1 missing (inr (none, lacks.2)) lacks.3

pub handle_put : {E : Type 0} (old named new : PoolValue) (h : Handle) (at : ℕ) (r : Result ℕ E) → HasMember old h.target named at
    → IfOk r (IsPut named new (entry.MethodHandle h.kind at)) → IfOk r (PutsHandle old h new)
handle_put old named new h at (Ok place) has put = (named, at, has, put)
handle_put old named new h at (Err e) has put = tt
