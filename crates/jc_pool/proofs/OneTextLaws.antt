-- A pool has one text in bytes.
use Rattle.std.proofs.Common.{◌≡◌, ℕ, ℤ, zero, suc, ◌-◌, ◌<◌, ◌^◌, Bool, true, false, List, [], ◌∷◌, ◌++◌, length, Option, Some, None, sym, ◌∙◌, ap, subst, arith}
use Rattle.std.specs.Int.{w32, w64, cast_unsigned}
use Rattle.std.proofs.lemmas.Int.{of_z-to_z}
use Rattle.std.proofs.lemmas.List.{append_cancel_left}
use Rattle.byteorder.specs.Endian.{big_number}
use Rattle.byteorder.specs.Numbers.{big_from-lt}
use Rattle.jc_bytes.specs.ByteLists.{AreBytes}
use Rattle.jc_bytes.specs.Decoder.{IsBig}
use Rattle.jc_bytes.specs.Grammar.{Grammar, nothing, one}
use Rattle.jc_bytes.proofs.OneTextLaws.{OneText, byte_at, both_bytes, same_bytes, one_big, one_nothing, one_followed}
use Rattle.jc_pool.specs.declared.entry.Entry.{Entry}
use Rattle.jc_pool.specs.declared.entry.Entry.TheVariants as entry
use Rattle.jc_pool.specs.Pool.{PoolValue, is_wide}
use Rattle.jc_pool.specs.EntryFormat.{IsSigned, IsUtf8, ArePlaces, IsHandle, IsInfo, tag_of, IsEntry}
use Rattle.jc_pool.specs.PoolGrammar.{IsNarrow, by_size, behind, places, pool}

-- ---- an entry

one_int : (a b : List ℕ) (value : ℤ) → AreBytes a → AreBytes b → IsSigned w32 4 a value → IsSigned w32 4 b value → a ≡ b
one_int a b value p q x y =
    let low : big_number 4 a < 2 ^ 32 = omega (arith, big_from-lt 0 4 a (byte_at a p)) in
    let high : big_number 4 b < 2 ^ 32 = omega (arith, big_from-lt 0 4 b (byte_at b q)) in
    same_bytes 4 a b p q x.size y.size (sym (of_z-to_z w32 (big_number 4 a) low) ∙ ap (cast_unsigned w32) (x.value_is ∙ sym y.value_is) ∙ of_z-to_z w32 (big_number 4 b) high)

one_long : (a b : List ℕ) (value : ℤ) → AreBytes a → AreBytes b → IsSigned w64 8 a value → IsSigned w64 8 b value → a ≡ b
one_long a b value p q x y =
    let low : big_number 8 a < 2 ^ 64 = omega (arith, big_from-lt 0 8 a (byte_at a p)) in
    let high : big_number 8 b < 2 ^ 64 = omega (arith, big_from-lt 0 8 b (byte_at b q)) in
    same_bytes 8 a b p q x.size y.size (sym (of_z-to_z w64 (big_number 8 a) low) ∙ ap (cast_unsigned w64) (x.value_is ∙ sym y.value_is) ∙ of_z-to_z w64 (big_number 8 b) high)

one_utf8 : (a b text : List ℕ) → AreBytes a → AreBytes b → IsUtf8 a text → IsUtf8 b text → a ≡ b
one_utf8 a b text p q x y =
    let sizes = one_big 2 x.size y.size (length text) (both_bytes x.size text (subst AreBytes x.parts p)).0 (both_bytes y.size text (subst AreBytes y.parts q)).0 x.spells y.spells in
    x.parts ∙ ap (λ (l : List ℕ). l ++ text) sizes ∙ sym y.parts

one_pair : (a b : List ℕ) (m n : ℕ) → AreBytes a → AreBytes b → ArePlaces a m n → ArePlaces b m n → a ≡ b
one_pair a b m n p q x y =
    let left = both_bytes x.front x.back (subst AreBytes x.parts p) in
    let right = both_bytes y.front y.back (subst AreBytes y.parts q) in
    let fronts = one_big 2 x.front y.front m left.0 right.0 x.left y.left in
    let backs = one_big 2 x.back y.back n left.1 right.1 x.right y.right in
    x.parts ∙ (λ i. fronts i ++ backs i) ∙ sym y.parts

one_handle : (a b : List ℕ) (kind reference : ℕ) → AreBytes a → AreBytes b → IsHandle a kind reference → IsHandle b kind reference → a ≡ b
one_handle a b kind reference p q x y =
    let backs = one_big 2 x.back y.back reference (subst AreBytes x.parts p).1 (subst AreBytes y.parts q).1 x.right y.right in
    x.parts ∙ ap (λ (l : List ℕ). kind ∷ l) backs ∙ sym y.parts

one_info : (e : Entry) (a b : List ℕ) → AreBytes a → AreBytes b → IsInfo a e → IsInfo b e → a ≡ b
one_info (entry.Utf8 text) a b p q x y = one_utf8 a b text p q x y
one_info (entry.Integer value) a b p q x y = one_int a b value p q x y
one_info (entry.Float bits) a b p q x y = one_big 4 a b bits p q x y
one_info (entry.Long value) a b p q x y = one_long a b value p q x y
one_info (entry.Double bits) a b p q x y = one_big 8 a b bits p q x y
one_info (entry.Class m) a b p q x y = one_big 2 a b m p q x y
one_info (entry.String m) a b p q x y = one_big 2 a b m p q x y
one_info (entry.Fieldref m n) a b p q x y = one_pair a b m n p q x y
one_info (entry.Methodref m n) a b p q x y = one_pair a b m n p q x y
one_info (entry.InterfaceMethodref m n) a b p q x y = one_pair a b m n p q x y
one_info (entry.NameAndType m n) a b p q x y = one_pair a b m n p q x y
one_info (entry.MethodHandle kind reference) a b p q x y = one_handle a b kind reference p q x y
one_info (entry.MethodType m) a b p q x y = one_big 2 a b m p q x y
one_info (entry.Dynamic m n) a b p q x y = one_pair a b m n p q x y
one_info (entry.InvokeDynamic m n) a b p q x y = one_pair a b m n p q x y
one_info (entry.Module m) a b p q x y = one_big 2 a b m p q x y
one_info (entry.Package m) a b p q x y = one_big 2 a b m p q x y

one_entry : (e : Entry) (a b : List ℕ) → AreBytes a → AreBytes b → IsEntry a e → IsEntry b e → a ≡ b
one_entry e a b p q x y =
    let infos = one_info e x.info y.info (subst AreBytes x.parts p).1 (subst AreBytes y.parts q).1 x.spells y.spells in
    x.parts ∙ ap (λ (l : List ℕ). tag_of e ∷ l) infos ∙ sym y.parts

-- ---- the places, and the pool

one_behind : (front : List (Option Entry)) (g : Grammar (List (Option Entry))) → OneText g → OneText (behind front g)
one_behind front g first =
    one_followed g (λ rest. nothing (front ++ rest)) first (λ rest. one_nothing (front ++ rest)) (λ xs zs a b ys t u. append_cancel_left front xs zs (sym t.1 ∙ u.1))

one_by_size : (wide : Bool) (g h : Grammar (List (Option Entry))) → OneText g → OneText h → OneText (by_size wide g h)
one_by_size true g h first other = first
one_by_size false g h first other = other

-- the entry in front of places that were spelled behind it
head_is : (wide : Bool) (e : Entry) (m n : ℕ) (ys : List (Option Entry)) (a : List ℕ)
    → ((by_size wide (behind (Some e ∷ None ∷ []) (places m)) (behind (Some e ∷ []) (places n))).Text a ys) → (rest : List (Option Entry)) × (ys ≡ Some e ∷ rest)
head_is true e m n ys a text = (None ∷ text.0, text.5.1)
head_is false e m n ys a text = (text.0, text.5.1)

same_entry : (e f : Entry) (xs ys zs : List (Option Entry)) → zs ≡ Some e ∷ xs → zs ≡ Some f ∷ ys → e ≡ f
same_entry e f xs ys zs p q = of_some (sym p ∙ q)
  where
    of_some : Some e ∷ xs ≡ Some f ∷ ys → e ≡ f
    of_some e = cc

one_whole : OneText (one IsEntry)
one_whole = record { same = λ a b e p q x y. one_entry e a b p q x y }

one_narrow : OneText (one IsNarrow)
one_narrow = record { same = λ a b e p q x y. one_entry e a b p q x.0 y.0 }

one_places : (n : ℕ) → OneText (places n)
one_places zero = one_nothing []
one_places (suc zero) =
    one_followed (one IsNarrow) (λ e. nothing (Some e ∷ [])) one_narrow (λ e. one_nothing (Some e ∷ [])) (λ e f a b ys t u. same_entry e f [] [] ys t.1 u.1)
one_places (suc (suc n)) =
    one_followed (one IsEntry) (λ e. by_size (is_wide e) (behind (Some e ∷ None ∷ []) (places n)) (behind (Some e ∷ []) (places (suc n)))) one_whole
    (λ e. one_by_size (is_wide e) (behind (Some e ∷ None ∷ []) (places n)) (behind (Some e ∷ []) (places (suc n)))
    (one_behind (Some e ∷ None ∷ []) (places n) (one_places n)) (one_behind (Some e ∷ []) (places (suc n)) (one_places (suc n))))
    (λ e f a b ys t u.
    let first = head_is (is_wide e) e n (suc n) ys a t in
    let second = head_is (is_wide f) f n (suc n) ys b u in
    same_entry e f first.0 second.0 ys first.1 second.1)

-- how many places were spelled
abbrev Long : ℕ → Type 0
Long n = (ys : List (Option Entry)) (a : List ℕ) → (places n).Text a ys → length ys ≡ n

long_by : (wide : Bool) (n : ℕ) (e : Entry) → Long n → Long (suc n) → (ys : List (Option Entry)) (a : List ℕ)
    → (by_size wide (behind (Some e ∷ None ∷ []) (places n)) (behind (Some e ∷ []) (places (suc n)))).Text a ys → length ys ≡ suc (suc n)
long_by true n e two one ys a t = let rest = two t.0 t.1 t.4 in omega (arith, ap length t.5.1, rest)
long_by false n e two one ys a t = let rest = one t.0 t.1 t.4 in omega (arith, ap length t.5.1, rest)

places_long : (n : ℕ) → Long n
places_long zero ys a x = ap length x.1
places_long (suc zero) ys a x = ap length x.5.1
places_long (suc (suc n)) ys a x = long_by (is_wide x.0) n x.0 (places_long n) (places_long (suc n)) ys x.2 x.5

pool_long : (value : PoolValue) (a : List ℕ) (x : pool.Text a value) → length value ≡ x.0
pool_long value a x =
    let rest = places_long (x.0 - 1) x.5.0 x.5.1 x.5.4 in
    omega (arith, ap length x.5.5.1, rest, x.4.1)

pub one_text : OneText pool
one_text = record {
  same = λ a b value p q x y.
      let same : y.0 ≡ x.0 = sym (pool_long value b y) ∙ pool_long value a x in
      let left = both_bytes x.1 x.2 (subst AreBytes x.3 p) in
      let right = both_bytes y.1 y.2 (subst AreBytes y.3 q) in
      let fronts = one_big 2 x.1 y.1 x.0 left.0 right.0 x.4.0 (subst (IsBig 2 y.1) same y.4.0) in
      let backs = (one_behind (None ∷ []) (places (x.0 - 1)) (one_places (x.0 - 1))).same x.2 y.2 value left.1 right.1 x.5
      (subst (λ (n : ℕ). (behind (None ∷ []) (places (n - 1))).Text y.2 value) same y.5) in
      x.3 ∙ (λ i. fronts i ++ backs i) ∙ sym y.3;
}
