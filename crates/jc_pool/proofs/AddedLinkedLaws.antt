-- What stands in a pool to which method handles and computed constants were added.
use Rattle.std.proofs.Common.{◌≡◌, inl, inr, ℕ, ◌+◌, ◌==◌, Bool, ◌&&◌, List, length, Option, Some, None, Decides, refl, sym, ◌∙◌, ap, arith}
use Rattle.std.proofs.lemmas.Bool.{cases_lt}
use Rattle.std.proofs.lemmas.Bool.Decides.{Decides-eqb}
use Rattle.jc_bytes.specs.Decoder.{◌>>=◌}
use Rattle.jc_pool.specs.declared.entry.Entry.{Entry}
use Rattle.jc_pool.specs.declared.entry.Entry.TheVariants as entry
use Rattle.jc_pool.specs.Pool.{PoolValue, width, slots_of}
use Rattle.jc_pool.specs.Lookup.{integer_in, integer_of, Signature, Computed, computed_of, Handle, handle_of}
use Rattle.jc_pool.specs.Adding.{IsPut, HasUtf8, HasSignature, PutsHandle, HasHandle, PutsComputed, HasComputed, IsMemberTag, Extends}
use Rattle.jc_pool.proofs.FirstPlaceMapLaws.{and_decided}
use Rattle.jc_pool.proofs.OneMoreEntryLaws.{grown_length, read_off, stays, past}
use Rattle.jc_pool.proofs.AddingLaws.{put_extends, more_extends, adds_extends, signature_extends, member_extends}
use Rattle.jc_pool.proofs.AddedLaws.{entry_kept, put_stands, added_there, AreOne, one_put, one_added, end_put, some_added}
use Rattle.jc_pool.proofs.AddedMemberLaws.{signature_kept, reference_kept, member_kept, signature_there, member_there, one_signature, one_member, some_signature, some_member, same_texts}
use Rattle.jc_pool.proofs.AddedMemberLaws.{texts_decided, same_member, member_decided}
use Rattle.jc_pool.proofs.LinkedKeyLaws.{member_reference, has_handle, is_handled, handle_past, has_computed, is_computed, computed_past}

-- ---- what stood there

pub handle_kept : (old new : PoolValue) (h : Handle) (place : ℕ) → Extends old new → handle_of old place ≡ Some h → handle_of new place ≡ Some h
handle_kept old new h place more is =
    let p = has_handle old place h is in
    is_handled new place p.0 h (entry_kept old new (entry.MethodHandle h.kind p.0) place more p.1) (reference_kept old new h.target p.0 more p.2)

pub computed_kept : (old new : PoolValue) (c : Computed) (place : ℕ) → Extends old new → computed_of old place ≡ Some c → computed_of new place ≡ Some c
computed_kept old new c place more is =
    let p = has_computed old place c is in
    is_computed new place p.0 c (entry_kept old new (entry.Dynamic c.bootstrap p.0) place more p.1) (signature_kept old new c.signed p.0 more p.2)

pub handle_extends : (old new : PoolValue) (h : Handle) (place : ℕ) → HasHandle old h new place → Extends old new
handle_extends old new h place has =
    adds_extends handle_of h old (PutsHandle old h)
    (λ l p put. more_extends old put.0 l (entry.MethodHandle h.kind put.1) p (member_extends old put.0 h.target put.1 put.2) put.3) new place has

pub computed_extends : (old new : PoolValue) (c : Computed) (place : ℕ) → HasComputed old c new place → Extends old new
computed_extends old new c place has =
    adds_extends computed_of c old (PutsComputed old c)
    (λ l p put. more_extends old put.0 l (entry.Dynamic c.bootstrap put.1) p (signature_extends old put.0 c.signed put.1 put.2) put.3) new place has

-- ---- what was added

pub handle_there : (old new : PoolValue) (h : Handle) (place : ℕ) → IsMemberTag h.target.tag → HasHandle old h new place → handle_of new place ≡ Some h
handle_there old new h place tagged has = added_there handle_of h old (PutsHandle old h) new place there has
  where
    there : PutsHandle old h new place → handle_of new place ≡ Some h
    there put =
        let last = put_extends put.0 new (entry.MethodHandle h.kind put.1) place put.3 in
        is_handled new place put.1 h (put_stands put.0 new (entry.MethodHandle h.kind put.1) place put.3)
        (member_reference new h.target put.1 tagged (member_kept put.0 new h.target put.1 last (member_there old put.0 h.target put.1 tagged put.2)))

pub computed_there : (old new : PoolValue) (c : Computed) (place : ℕ) → HasComputed old c new place → computed_of new place ≡ Some c
computed_there old new c place has = added_there computed_of c old (PutsComputed old c) new place there has
  where
    there : PutsComputed old c new place → computed_of new place ≡ Some c
    there put =
        let last = put_extends put.0 new (entry.Dynamic c.bootstrap put.1) place put.3 in
        is_computed new place put.1 c (put_stands put.0 new (entry.Dynamic c.bootstrap put.1) place put.3)
        (signature_kept put.0 new c.signed put.1 last (signature_there old c.signed put.0 put.1 put.2))

-- ---- ints

-- an entry of one place that is no int
ints_put : (old new : PoolValue) (e : Entry) (place : ℕ) → width e ≡ 1 → integer_in e ≡ None → IsPut old new e place → (at : ℕ) → integer_of new at ≡ integer_of old at
unfolding integer_of
ints_put old new e place narrow none put at = elim (cases_lt at (length old)) [
  | inl less ↦ ap (λ (l : PoolValue). read_off integer_in l at) put.grown ∙ stays integer_in old (slots_of e) at less
  | inr behind ↦ elim (cases_lt (length old) at) [
    | inl beyond ↦
        let size : length new ≡ length old + width e = ap length put.grown ∙ grown_length old e in
        past integer_in new at (omega (arith, beyond, size, narrow)) ∙ sym (past integer_in old at behind)
    | inr no_more ↦
        let here : at ≡ place = omega (arith, behind, no_more, put.last) in
        ap (read_off integer_in new) here ∙ ap (λ (s : Option Entry). s >>= integer_in) (put_stands old new e place put) ∙ none ∙ sym (past integer_in old at behind)
  ]
]

ints_text : (old new : PoolValue) (text : List ℕ) (place : ℕ) → HasUtf8 old text new place → (at : ℕ) → integer_of new at ≡ integer_of old at
ints_text old new text place (inl has) at = ap (λ (l : PoolValue). integer_of l at) has.1
ints_text old new text place (inr put) at = ints_put old new (entry.Utf8 text) place refl refl put.1 at

ints_signed : (old new : PoolValue) (s : Signature) (place : ℕ) → HasSignature old s new place → (at : ℕ) → integer_of new at ≡ integer_of old at
ints_signed old new s place (inl has) at = ap (λ (l : PoolValue). integer_of l at) has.1
ints_signed old new s place (inr put) at =
    let p = put.1 in
    ints_put p.3 new (entry.NameAndType p.1 p.4) place refl refl p.6 at ∙ ints_text p.0 p.3 s.desc p.4 p.5 at ∙ ints_text old p.0 s.name p.1 p.2 at

-- a computed constant brings no int
pub computed_ints : (old new : PoolValue) (c : Computed) (place : ℕ) → HasComputed old c new place → (at : ℕ) → integer_of new at ≡ integer_of old at
computed_ints old new c place (inl has) at = ap (λ (l : PoolValue). integer_of l at) has.1
computed_ints old new c place (inr put) at =
    let p = put.1 in
    ints_put p.0 new (entry.Dynamic c.bootstrap p.1) place refl refl p.3 at ∙ ints_signed old p.0 c.signed p.1 p.2 at

-- ---- there is one such pool

pub one_handle : (old new other : PoolValue) (h : Handle) (place at : ℕ) → HasHandle old h new place → HasHandle old h other at → AreOne new other place at
one_handle old new other h place at p q = one_added handle_of h old (PutsHandle old h) one new other place at p q
  where
    one : (new other : PoolValue) (place at : ℕ) → PutsHandle old h new place → PutsHandle old h other at → AreOne new other place at
    one new other place at p q =
        let member = one_member old p.0 q.0 h.target p.1 q.1 p.2 q.2 in
        one_put p.0 q.0 new other (entry.MethodHandle h.kind p.1) (entry.MethodHandle h.kind q.1) place at member.pool (ap (entry.MethodHandle h.kind) member.place_is) p.3 q.3

pub one_computed : (old new other : PoolValue) (c : Computed) (place at : ℕ) → HasComputed old c new place → HasComputed old c other at → AreOne new other place at
one_computed old new other c place at p q = one_added computed_of c old (PutsComputed old c) one new other place at p q
  where
    one : (new other : PoolValue) (place at : ℕ) → PutsComputed old c new place → PutsComputed old c other at → AreOne new other place at
    one new other place at p q =
        let signed = one_signature old c.signed p.0 q.0 p.1 q.1 p.2 q.2 in
        one_put p.0 q.0 new other (entry.Dynamic c.bootstrap p.1) (entry.Dynamic c.bootstrap q.1) place at signed.pool (ap (entry.Dynamic c.bootstrap) signed.place_is) p.3 q.3

-- ---- and there is always one

abbrev same_handle : Handle → Handle → Bool
same_handle a b = (a.kind == b.kind) && same_member a.target b.target

handle_decided : (a b : Handle) → Decides (same_handle a b) (a ≡ b)
handle_decided a b =
    let told = and_decided (a.kind == b.kind) (same_member a.target b.target) (a.kind ≡ b.kind) (a.target ≡ b.target) (Decides-eqb a.kind b.kind) (member_decided a.target b.target) in (
      λ is. (let same = told.0 is in λ i. record { kind = same.0 i; target = same.1 i }),
      λ same. told.1 (ap (λ (h : Handle). h.kind) same, ap (λ (h : Handle). h.target) same),
    )

abbrev same_computed : Computed → Computed → Bool
same_computed a b = (a.bootstrap == b.bootstrap) && same_texts a.signed b.signed

computed_decided : (a b : Computed) → Decides (same_computed a b) (a ≡ b)
computed_decided a b =
    let told = and_decided (a.bootstrap == b.bootstrap) (same_texts a.signed b.signed) (a.bootstrap ≡ b.bootstrap) (a.signed ≡ b.signed)
    (Decides-eqb a.bootstrap b.bootstrap) (texts_decided a.signed b.signed) in (
      λ is. (let same = told.0 is in λ i. record { signed = same.1 i; bootstrap = same.0 i }),
      λ same. told.1 (ap (λ (c : Computed). c.bootstrap) same, ap (λ (c : Computed). c.signed) same),
    )

pub some_handle : (old : PoolValue) (h : Handle) → (new : PoolValue) × (place : ℕ) × HasHandle old h new place
some_handle old h =
    let member = some_member old h.target in
    let put = end_put member.0 (entry.MethodHandle h.kind member.1) in
    some_added same_handle handle_decided handle_of h old (PutsHandle old h) (handle_past old) (put.0, put.1, (member.0, member.1, member.2, put.2))

pub some_computed : (old : PoolValue) (c : Computed) → (new : PoolValue) × (place : ℕ) × HasComputed old c new place
some_computed old c =
    let signed = some_signature old c.signed in
    let put = end_put signed.0 (entry.Dynamic c.bootstrap signed.1) in
    some_added same_computed computed_decided computed_of c old (PutsComputed old c) (computed_past old) (put.0, put.1, (signed.0, signed.1, signed.2, put.2))
