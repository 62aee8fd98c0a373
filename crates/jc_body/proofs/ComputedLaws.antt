-- Computed constants among the members of a constant pool.
use Rattle.std.proofs.Common.{◌≡◌, ℕ, [], Option, Some, None, refl, sym, ◌∙◌, ap, ap₂, arith}
use Rattle.std.specs.Option.{option_map}
use Rattle.std.proofs.lemmas.Option.{none-some, same_Some}
use Rattle.jc_bytes.specs.Decoder.{◌>>=◌}
use Rattle.jc_pool.specs.declared.entry.Entry.{Entry}
use Rattle.jc_pool.specs.declared.entry.Entry.TheVariants as entry
use Rattle.jc_pool.specs.Lookup.{entry_of, Signature, signature_of, Member, signature, dynamic_of, member_in, member_of, Computed, computed_in, computed_of, bootstrap_in, bootstrap_of}
use Rattle.jc_pool.specs.Pool.{PoolValue}

-- a name and a descriptor as what an entry with this tag names, and as a computed constant
abbrev pub linked_by : (tag : ℕ) → Signature → Member
linked_by tag s = record { tag = tag; class = []; name = s.name; desc = s.desc }

abbrev pub computed_by : (bootstrap : ℕ) → Signature → Computed
computed_by bootstrap s = record { signed = s; bootstrap = bootstrap }

abbrev linked_in : ℕ → Option Signature → Option Member
linked_in tag o = o >>= λ s. Some (linked_by tag s)

-- ---- where none stands

none_in : (bootstrap : ℕ) (o : Option Signature) → linked_in 17 o ≡ None → option_map (computed_by bootstrap) o ≡ None
none_in bootstrap None h = refl
none_in bootstrap (Some s) h = absurd (none-some (linked_by 17 s) (sym h))

none_entry : (pool : PoolValue) (e : Entry) → member_in pool e ≡ None → computed_in pool e ≡ None
unfolding dynamic_of
none_entry pool (entry.Dynamic bootstrap sig) none = none_in bootstrap (signature_of pool sig) none
none_entry pool e none = refl

-- a computed constant is a member
pub none_computed : (pool : PoolValue) (place : ℕ) → member_of pool place ≡ None → computed_of pool place ≡ None
unfolding member_of computed_of
none_computed pool place none = by (entry_of pool place) none
  where
    by : (o : Option Entry) → (o >>= member_in pool) ≡ None → (o >>= computed_in pool) ≡ None
    by None h = refl
    by (Some e) h = none_entry pool e h

other_in : (bootstrap : ℕ) (m : Member) (o : Option Signature) → linked_in 17 o ≡ Some m → (m.tag ≡ 17 → ⊥) → option_map (computed_by bootstrap) o ≡ None
other_in bootstrap m None is other = refl
other_in bootstrap m (Some s) is other = absurd (other (sym (ap (λ (x : Member). x.tag) (same_Some (linked_by 17 s) m is))))

other_entry : (pool : PoolValue) (e : Entry) (m : Member) → member_in pool e ≡ Some m → (m.tag ≡ 17 → ⊥) → computed_in pool e ≡ None
unfolding dynamic_of
other_entry pool (entry.Dynamic bootstrap sig) m is other = other_in bootstrap m (signature_of pool sig) is other
other_entry pool e m is other = refl

-- its entry has the tag 17
pub not_computed : (pool : PoolValue) (place : ℕ) (m : Member) → member_of pool place ≡ Some m → (m.tag ≡ 17 → ⊥) → computed_of pool place ≡ None
unfolding member_of computed_of
not_computed pool place m is other = by (entry_of pool place) is
  where
    by : (o : Option Entry) → (o >>= member_in pool) ≡ Some m → (o >>= computed_in pool) ≡ None
    by None h = refl
    by (Some e) h = other_entry pool e m h other

unnumbered_in : (bootstrap : ℕ) (o : Option Signature) → option_map (λ (s : Signature). bootstrap) o ≡ None → option_map (computed_by bootstrap) o ≡ None
unnumbered_in bootstrap None h = refl
unnumbered_in bootstrap (Some s) h = absurd (none-some bootstrap (sym h))

unnumbered_entry : (pool : PoolValue) (e : Entry) → bootstrap_in pool e ≡ None → computed_in pool e ≡ None
unnumbered_entry pool (entry.Dynamic bootstrap sig) none = unnumbered_in bootstrap (signature_of pool sig) none
unnumbered_entry pool e none = refl

-- it has a bootstrap method
pub not_bootstrapped : (pool : PoolValue) (place : ℕ) → bootstrap_of pool place ≡ None → computed_of pool place ≡ None
unfolding bootstrap_of computed_of
not_bootstrapped pool place none = by (entry_of pool place) none
  where
    by : (o : Option Entry) → (o >>= bootstrap_in pool) ≡ None → (o >>= computed_in pool) ≡ None
    by None h = refl
    by (Some e) h = unnumbered_entry pool e h

-- ---- where one stands

one_in : (bootstrap n : ℕ) (m : Member) (o : Option Signature) → linked_in 17 o ≡ Some m → option_map (λ (s : Signature). bootstrap) o ≡ Some n
    → option_map (computed_by bootstrap) o ≡ Some (computed_by n (signature m))
one_in bootstrap n m None is numbered = absurd (none-some m is)
one_in bootstrap n m (Some s) is numbered =
    ap₂ (λ (x : Member) (k : ℕ). Some (computed_by k (signature x))) (same_Some (linked_by 17 s) m is) (same_Some bootstrap n numbered)

call_in : (m : Member) (o : Option Signature) → linked_in 18 o ≡ Some m → m.tag ≡ 17 → ⊥
call_in m None is tag = none-some m is
call_in m (Some s) is tag = let e = ap (λ (x : Member). x.tag) (same_Some (linked_by 18 s) m is) in omega (arith, e, tag)

one_entry : (pool : PoolValue) (e : Entry) (m : Member) (n : ℕ) → member_in pool e ≡ Some m → m.tag ≡ 17 → bootstrap_in pool e ≡ Some n
    → computed_in pool e ≡ Some (computed_by n (signature m))
unfolding dynamic_of
one_entry pool (entry.Dynamic bootstrap sig) m n is tag numbered = one_in bootstrap n m (signature_of pool sig) is numbered
one_entry pool (entry.InvokeDynamic bootstrap sig) m n is tag numbered = absurd (call_in m (signature_of pool sig) is tag)
one_entry pool e m n is tag numbered = absurd (none-some n numbered)

-- the member with this tag, and the number of its bootstrap method
pub computed_is : (pool : PoolValue) (place : ℕ) (m : Member) (n : ℕ) → member_of pool place ≡ Some m → m.tag ≡ 17 → bootstrap_of pool place ≡ Some n
    → computed_of pool place ≡ Some (computed_by n (signature m))
unfolding member_of bootstrap_of computed_of
computed_is pool place m n is tag numbered = by (entry_of pool place) is numbered
  where
    by : (o : Option Entry) → (o >>= member_in pool) ≡ Some m → (o >>= bootstrap_in pool) ≡ Some n
        → (o >>= computed_in pool) ≡ Some (computed_by n (signature m))
    by None h k = absurd (none-some m h)
    by (Some e) h k = one_entry pool e m n h tag k

member_one : (bootstrap : ℕ) (c : Computed) (o : Option Signature) → option_map (computed_by bootstrap) o ≡ Some c → linked_in 17 o ≡ Some (linked_by 17 c.signed)
member_one bootstrap c None is = absurd (none-some c is)
member_one bootstrap c (Some s) is = ap (λ (x : Computed). Some (linked_by 17 x.signed)) (same_Some (computed_by bootstrap s) c is)

member_entry : (pool : PoolValue) (e : Entry) (c : Computed) → computed_in pool e ≡ Some c → member_in pool e ≡ Some (linked_by 17 c.signed)
unfolding dynamic_of
member_entry pool (entry.Dynamic bootstrap sig) c is = member_one bootstrap c (signature_of pool sig) is
member_entry pool e c is = absurd (none-some c is)

pub computed_member : (pool : PoolValue) (place : ℕ) (c : Computed) → computed_of pool place ≡ Some c → member_of pool place ≡ Some (linked_by 17 c.signed)
unfolding member_of computed_of
computed_member pool place c is = by (entry_of pool place) is
  where
    by : (o : Option Entry) → (o >>= computed_in pool) ≡ Some c → (o >>= member_in pool) ≡ Some (linked_by 17 c.signed)
    by None h = absurd (none-some c h)
    by (Some e) h = member_entry pool e c h
