-- Where entries would stand that are added next.
use Rattle.std.proofs.Common.{◌≡◌, inl, inr, ℕ, ℤ, pos, nat_abs, zero, suc, ◌+◌, ◌<◌, ◌≤◌, List, [], ◌∷◌, ◌++◌, length, IfSome, IfNone, Option, Some, None, refl, sym, ◌∙◌, ap, subst, arith}
use Rattle.std.proofs.lemmas.Bool.{cases_lt}
use Rattle.std.proofs.lemmas.Option.{none-some, same_Some}
use Rattle.jc_bytes.specs.Decoder.{◌>>=◌}
use Rattle.jc_pool.specs.declared.entry.Entry.{Entry}
use Rattle.jc_pool.specs.declared.entry.Entry.TheVariants as entry
use Rattle.jc_pool.specs.declared.index.Index.{Index}
use Rattle.jc_pool.specs.declared.index.Key.TheVariants as key
use Rattle.jc_pool.specs.Pool.{PoolValue, slots_of}
use Rattle.jc_pool.specs.Lookup.{integer_in, integer_of, Computed, computed_of}
use Rattle.jc_pool.specs.Adding.{IsFirst, IsNowhere, PutsComputed, HasComputed, HasInteger, HasIntegers, WouldStand, AreSameInts, WouldHaveInts}
use Rattle.jc_pool.specs.Index.{key_at, key_place, IsIndexOf, GrowsBy}
use Rattle.jc_pool.proofs.KeyPlaceLaws.{AreAsOne, first_as_one, nowhere_as_one, integer_as_one, key_found, key_nowhere}
use Rattle.jc_pool.proofs.OneMoreEntryLaws.{grown_length, read_off, stays, past, put_there}
use Rattle.jc_pool.proofs.AddingLaws.{put_at_end}
use Rattle.jc_pool.proofs.AddedLaws.{integer_kept}

-- ---- computed constants

-- the constant has the last place
pub computed_planned : (pool : PoolValue) (c : Computed) (missing place count : ℕ) → IsNowhere (computed_of pool) c → GrowsBy pool (PutsComputed pool c) missing
    → count ≡ length pool + missing → place + 1 ≡ count → WouldStand (HasComputed pool c) place count
computed_planned pool c missing place count none grows counts last =
    let put = grows.2.3 in
    let size = ap length put.grown ∙ grown_length grows.2.0 (entry.Dynamic c.bootstrap grows.2.1) in
    let same : grows.1 ≡ place = omega (arith, size, put.last, grows.3, counts, last) in
    (grows.0, inr (none, subst (PutsComputed pool c grows.0) same grows.2), grows.3 ∙ sym counts)

-- ---- ints

-- one more int behind so many
more_ints : (old : PoolValue) (first n : ℕ) (mid new : PoolValue) (places : List ℕ) (place : ℕ) → HasIntegers old first n mid places → HasInteger mid (pos (first + n)) new place
    → HasIntegers old first (suc n) new (places ++ place ∷ [])
more_ints old first zero mid new places place has next =
    let here : first + zero ≡ first = omega arith in
    let start : HasInteger old (pos first) new place = subst (λ (v : ℕ). HasInteger old (pos v) new place) here (subst (λ (l : PoolValue). HasInteger l (pos (first + zero)) new place) has.0 next) in
    (new, place, [], ap (λ (l : List ℕ). l ++ place ∷ []) has.1, start, (refl, refl))
more_ints old first (suc n) mid new places place has next =
    let here : first + suc n ≡ (first + 1) + n = omega arith in
    let value : HasInteger mid (pos ((first + 1) + n)) new place = subst (λ (v : ℕ). HasInteger mid (pos v) new place) here next in
    (has.0, has.1, has.2 ++ place ∷ [], ap (λ (l : List ℕ). l ++ place ∷ []) has.3, has.4, more_ints has.0 (first + 1) n mid new has.2 place has.5 value)

next_ints : (old : PoolValue) (first n : ℕ) (mid new : PoolValue) (places : List ℕ) (place : ℕ) → HasIntegers old first n mid places → HasInteger mid (pos (first + n)) new place
    → HasIntegers old first (n + 1) new (places ++ place ∷ [])
next_ints old first n mid new places place has next =
    let one : suc n ≡ n + 1 = omega arith in
    subst (λ (m : ℕ). HasIntegers old first m new (places ++ place ∷ [])) one (more_ints old first n mid new places place has next)

-- so many ints stand, and all further ones where they stood
pub record IntsSoFar (old : PoolValue) (first n count : ℕ) (places : List ℕ) : Type 0 where
  pub now : PoolValue
  pub has : HasIntegers old first n now places
  pub size : length now ≡ count
  pub others : (value : ℕ) → first + n ≤ value → AreAsOne (integer_of now) (pos value) (integer_of old) (pos value)

same_value : (a b : ℕ) → Some (pos a) ≡ Some (pos b) → a ≡ b
same_value a b is = ap nat_abs (same_Some (pos a) (pos b) is)

-- an int of another value is put
others_stay : (now : PoolValue) (put value : ℕ) → put < value → AreAsOne (integer_of (now ++ slots_of (entry.Integer (pos put)))) (pos value) (integer_of now) (pos value)
unfolding integer_of
others_stay now put value less = record { to_key = back; of_key = λ place is. integer_kept now new (pos value) place (slots_of last, refl) is }
  where
    last : Entry
    last = entry.Integer (pos put)

    new : PoolValue
    new = now ++ slots_of last

    back : (place : ℕ) → read_off integer_in new place ≡ Some (pos value) → read_off integer_in now place ≡ Some (pos value)
    back place is = elim (cases_lt place (length now)) [
      | inl before ↦ sym (stays integer_in now (slots_of last) place before) ∙ is
      | inr behind ↦ elim (cases_lt (length now) place) [
        | inl beyond ↦ (let size : length new ≡ length now + 1 = grown_length now last in absurd (none-some (pos value) (sym (past integer_in new place (omega (arith, beyond, size))) ∙ is)))
        | inr no_more ↦
            let here : place ≡ length now = omega (arith, behind, no_more) in
            let same = same_value put value (sym (put_there integer_in now last) ∙ ap (read_off integer_in new) (sym here) ∙ is) in
            absurd (omega (arith, same, less))
      ]
    ]

as_one_by : {X Y Z : Type 0} (f : ℕ → Option X) (x : X) (g : ℕ → Option Y) (y : Y) (h : ℕ → Option Z) (z : Z) → AreAsOne f x g y → AreAsOne g y h z → AreAsOne f x h z
as_one_by f x g y h z one two = record { to_key = λ place is. two.to_key place (one.to_key place is); of_key = λ place is. one.of_key place (two.of_key place is) }

module _ (pool old : PoolValue) (index : Index) (indexed : IsIndexOf pool index) (same : AreSameInts pool old) (first n count : ℕ) (places : List ℕ) (so_far : IntsSoFar old first n count places) where
  -- the next value is found where its key is
  next_as_one : (value : ℕ) → value ≡ first + n → AreAsOne (integer_of so_far.now) (pos value) (key_at index.firsts.items pool) (key.Integer (pos value))
  next_as_one value is =
      as_one_by (integer_of so_far.now) (pos value) (integer_of old) (pos value) (key_at index.firsts.items pool) (key.Integer (pos value))
      (so_far.others value (omega (arith, is)))
      (as_one_by (integer_of old) (pos value) (integer_of pool) (pos value) (key_at index.firsts.items pool) (key.Integer (pos value))
      (record { to_key = λ place there. sym (same place) ∙ there; of_key = λ place there. same place ∙ there })
      (integer_as_one pool index.firsts.items (pos value)))

  next_by : (value : ℕ) (r : Option ℕ) (place more : ℕ) → value ≡ first + n → r ≡ key_place index.keys.entries (key.Integer (pos value))
      → IfSome r (λ at. (place ≡ at) × (more ≡ count)) → IfNone r ((place ≡ count) × (more ≡ count + 1)) → IntsSoFar old first (n + 1) more (places ++ place ∷ [])
  next_by value (Some at) place more is read found new =
      let firstly = first_as_one (integer_of so_far.now) (pos value) (key_at index.firsts.items pool) (key.Integer (pos value)) (next_as_one value is) place
      (key_found pool index (key.Integer (pos value)) place (Some at) indexed read (ap Some (sym found.0))) in record {
        now = so_far.now;
        has = next_ints old first n so_far.now so_far.now places place so_far.has (inl (subst (λ (v : ℕ). IsFirst (integer_of so_far.now) (pos v) place) is firstly, refl));
        size = so_far.size ∙ sym found.1;
        others = λ other behind. so_far.others other (omega (arith, behind));
      }
  next_by value None place more is read found new =
      let nowhere = nowhere_as_one (integer_of so_far.now) (pos value) (key_at index.firsts.items pool) (key.Integer (pos value)) (next_as_one value is)
      (key_nowhere pool index (key.Integer (pos value)) None indexed read refl) in
      let last : Entry = entry.Integer (pos (first + n)) in
      let put : HasInteger so_far.now (pos (first + n)) (so_far.now ++ slots_of last) (length so_far.now) =
      inr (subst (λ (v : ℕ). IsNowhere (integer_of so_far.now) (pos v)) is nowhere, put_at_end so_far.now last) in
      let here : length so_far.now ≡ place = so_far.size ∙ sym new.0 in record {
        now = so_far.now ++ slots_of last;
        has = next_ints old first n so_far.now (so_far.now ++ slots_of last) places place so_far.has (subst (HasInteger so_far.now (pos (first + n)) (so_far.now ++ slots_of last)) here put);
        size = grown_length so_far.now last ∙ ap (λ (l : ℕ). l + 1) so_far.size ∙ sym new.1;
        others = λ other behind.
            as_one_by (integer_of (so_far.now ++ slots_of last)) (pos other) (integer_of so_far.now) (pos other) (integer_of old) (pos other)
            (others_stay so_far.now (first + n) other (omega (arith, behind))) (so_far.others other (omega (arith, behind)));
      }

  pub next_planned : (value place more : ℕ) → value ≡ first + n
      → IfSome (key_place index.keys.entries (key.Integer (pos value))) (λ at. (place ≡ at) × (more ≡ count))
      → IfNone (key_place index.keys.entries (key.Integer (pos value))) ((place ≡ count) × (more ≡ count + 1))
      → IntsSoFar old first (n + 1) more (places ++ place ∷ [])
  next_planned value place more is found new = next_by value (key_place index.keys.entries (key.Integer (pos value))) place more is refl found new

pub none_planned : (old : PoolValue) (first start : ℕ) → length old ≡ start → IntsSoFar old first 0 start []
none_planned old first start size = record {
  now = old;
  has = (refl, refl);
  size = size;
  others = λ value behind. record { to_key = λ place is. is; of_key = λ place is. is };
}

pub all_planned : (old : PoolValue) (first n many count : ℕ) (places : List ℕ) → n ≡ many → IntsSoFar old first n count places → WouldHaveInts old first many places count
all_planned old first n many count places whole so_far =
    (so_far.now, subst (λ (m : ℕ). HasIntegers old first m so_far.now places) whole so_far.has, so_far.size)
