-- What is known of the code and of the id of a class file that was read from bytes.
use Rattle.std.proofs.Common.{ℕ, zero, suc, ◌/◌, ◌%◌, ◌<◌, ◌^◌, ◌==◌, Bool, true, false, ◌&&◌, List, [], ◌∷◌, length, map, filter, set, fold, cond, sym, subst, arith, if◌then◌else◌, nat_le, slice_index}
use Rattle.std.specs.Prelude.{bit_xor, slice_set, codes}
use Rattle.std.specs.List.{AllByRecursion}
use Rattle.std.proofs.lemmas.Nat.{xor_lt}
use Rattle.jc_bytes.specs.ByteLists.{AreBytes}
use Rattle.jc_bytes.proofs.OneTextLaws.{both_bytes, big_below}
use Rattle.jc_pool.specs.Pool.{PoolValue}
use Rattle.jc_class.specs.ClassId.{polynomial, after_bit, after_bits, after_byte, class_id}
use Rattle.jc_class.specs.ClassId as id
use Rattle.jc_class.specs.declared.class_file.Attribute.{Attribute}
use Rattle.jc_class.specs.declared.class_file.Member.{Member}
use Rattle.jc_body.specs.Attributes.{has_name}
use Rattle.jc_body.specs.CodeForm.{code_form}
use Rattle.jc_body.specs.Coded.{HasCode}
use Rattle.jc_body.specs.declared.items.CodeItems.{CodeItems}
use Rattle.jc_class.proofs.ReadClassLaws.{IsOfBytes}

-- ---- a Code attribute

pub kept_are : (p : Attribute → Bool) (l : List Attribute) → AllByRecursion (λ a. AreBytes a.body) l
    → AllByRecursion AreBytes (map (λ (a : Attribute). a.body) (filter p l))
kept_are p [] all = tt
kept_are p (a ∷ l) all = by (p a) (kept_are p l all.1)
  where
    by : (t : Bool) → AllByRecursion AreBytes (map (λ (b : Attribute). b.body) (filter p l))
        → AllByRecursion AreBytes (map (λ (b : Attribute). b.body) (cond t (a ∷ filter p l) (filter p l)))
    by true rest = (all.0, rest)
    by false rest = rest

pub code_read : (pool : PoolValue) (method : Member) (bytes : List ℕ) → IsOfBytes method → HasCode pool method bytes → AreBytes bytes
code_read pool method bytes of has =
    (subst (AllByRecursion AreBytes) has.single (kept_are (has_name pool (codes "Code")) method.attributes of.attributes)).0

pub record AreReadItems (items : CodeItems) : Type 0 where
  pub code : AreBytes items.code
  pub locals : items.max_locals < 65536

pub items_read : (pool : PoolValue) (bytes : List ℕ) (items : CodeItems) → AreBytes bytes → (code_form pool).Text bytes items → AreReadItems items
unfolding code_form
items_read pool bytes items are t =
    let locals = t.5 in
    let size = locals.5 in
    let code = size.5 in
    let rows = code.5 in
    let attributes = rows.5 in
    let b0 = both_bytes t.1 t.2 (subst AreBytes t.3 are) in
    let b1 = both_bytes locals.1 locals.2 (subst AreBytes locals.3 b0.1) in
    let b2 = both_bytes size.1 size.2 (subst AreBytes size.3 b1.1) in
    let b3 = both_bytes code.1 code.2 (subst AreBytes code.3 b2.1) in
    let below : locals.0 < 256 ^ 2 = big_below 2 locals.0 locals.1 b1.0 locals.4 in
    subst AreReadItems (sym attributes.5.1) (record { code = subst AreBytes code.4.1 b3.0; locals = omega (arith, below) })

-- ---- the id has 64 bits

bit_below : (r : ℕ) → r < 2 ^ 64 → after_bit r < 2 ^ 64
unfolding after_bit polynomial
bit_below r below = by (r % 2 == 1)
  where
    by : (t : Bool) → (if t then bit_xor (r / 2) 0xd800000000000000 else r / 2) < 2 ^ 64
    by true = xor_lt 64 (r / 2) 0xd800000000000000 (omega (arith, below)) (omega arith)
    by false = omega (arith, below)

bits_below : (n r : ℕ) → r < 2 ^ 64 → after_bits n r < 2 ^ 64
unfolding after_bits
bits_below zero r below = below
bits_below (suc n) r below = bits_below n (after_bit r) (bit_below r below)

byte_below : (r b : ℕ) → r < 2 ^ 64 → b < 256 → after_byte r b < 2 ^ 64
unfolding after_byte
byte_below r b below small = bits_below 8 (bit_xor r b) (xor_lt 64 r b below (omega (arith, small)))

fold_below : (r : ℕ) (bytes : List ℕ) → r < 2 ^ 64 → AreBytes bytes → fold after_byte r bytes < 2 ^ 64
fold_below r [] below are = below
fold_below r (b ∷ bytes) below are = fold_below (after_byte r b) bytes (byte_below r b below are.0) are.1

set_are : (bytes : List ℕ) (i b : ℕ) → b < 256 → AreBytes bytes → AreBytes (set bytes i b)
set_are [] i b small are = tt
set_are (x ∷ bytes) zero b small are = (small, are.1)
set_are (x ∷ bytes) (suc i) b small are = (are.0, set_are bytes i b small are.1)

pub id_below : (bytes : List ℕ) → AreBytes bytes → class_id bytes < 2 ^ 64
id_below bytes are = fold_below 0 (id.counted bytes) (omega arith) (by (nat_le 8 (length bytes) && (slice_index bytes 6 == 0 && slice_index bytes 7 == 0x35)))
  where
    by : (t : Bool) → AreBytes (if t then slice_set bytes 7 0x34 else bytes)
    by true = set_are bytes 7 0x34 (omega arith) are
    by false = are
