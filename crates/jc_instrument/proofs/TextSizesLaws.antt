-- The parts of a class file together are not longer than its text.
use Rattle.std.proofs.Common.{◌≡◌, ℕ, zero, suc, ◌+◌, ◌≤◌, Bool, true, false, cond, List, [], ◌∷◌, ◌++◌, length, map, filter, get_or, Some, slice_get, sym, ◌∙◌, ap, arith, length-append}
use Rattle.std.specs.List.{sum_by}
use Rattle.std.proofs.lemmas.List.Sums.{sum_by-cons, get_or-le-sum_by}
use Rattle.std.proofs.lemmas.Option.{slice_get_within, get_or_from_slice_get}
use Rattle.jc_bytes.specs.Counted.{counted}
use Rattle.jc_bytes.specs.Grammar.{Grammar, times}
use Rattle.jc_class.specs.ClassFormat.{attribute, member, class_file, HasText, HasMethodDescriptor}
use Rattle.jc_class.specs.ClassText.{ClassText}
use Rattle.jc_class.specs.declared.class_file.Attribute.{Attribute}
use Rattle.jc_class.specs.declared.class_file.ClassFile.{ClassFile}
use Rattle.jc_class.specs.declared.class_file.Member.{Member}

pub in_two : (bytes front rest : List ℕ) → bytes ≡ front ++ rest → length bytes ≡ length front + length rest
in_two bytes front rest parts = ap (λ (l : List ℕ). length l) parts ∙ length-append front rest

-- ---- several items of a form

module _ {X : Type 0} (g : Grammar X) (size : X → ℕ) (most : (text : List ℕ) (x : X) → g.Text text x → size x ≤ length text) where
  times_size : (n : ℕ) (text : List ℕ) (xs : List X) → (times n g).Text text xs → sum_by size xs ≤ length text
  times_size zero text xs t = let none : sum_by size xs ≡ 0 = ap (sum_by size) t.1 in omega (arith, none)
  times_size (suc n) text xs t =
      let more = t.5 in
      let whole = in_two text t.1 t.2 t.3 in
      let rest = in_two t.2 more.1 more.2 more.3 in
      let first = most t.1 t.0 t.4 in
      let behind = times_size n more.1 more.0 more.4 in
      let is : sum_by size xs ≡ size t.0 + sum_by size more.0 = ap (sum_by size) more.5.1 ∙ sum_by-cons size t.0 more.0 in
      omega (arith, whole, rest, first, behind, is)

  pub counted_size : (text : List ℕ) (xs : List X) → (counted g).Text text xs → sum_by size xs ≤ length text
  counted_size text xs t = let whole = in_two text t.1 t.2 t.3 in let all = times_size t.0 t.2 xs t.5 in omega (arith, whole, all)

pub item_size : {X : Type 0} (f : X → ℕ) (xs : List X) (i : ℕ) (x : X) → slice_get xs i ≡ Some x → f x ≤ sum_by f xs
item_size f xs i x at =
    let most = get_or-le-sum_by f xs i x (slice_get_within xs i x at) in
    let is : f (get_or xs i x) ≡ f x = ap f (get_or_from_slice_get xs i x x at) in
    omega (arith, most, is)

-- ---- attributes

-- how many bytes they hold
abbrev pub attributes_size : List Attribute → ℕ
attributes_size attributes = sum_by (λ a. length a.body) attributes

abbrev pub texts_size : List (List ℕ) → ℕ
texts_size texts = sum_by (λ (text : List ℕ). length text) texts

attribute_size : (HasName : ℕ → Type 0) (text : List ℕ) (a : Attribute) → (attribute HasName).Text text a → length a.body ≤ length text
attribute_size HasName text a t =
    let size = t.5 in
    let body = size.5 in
    let one = in_two text t.1 t.2 t.3 in
    let two = in_two t.2 size.1 size.2 size.3 in
    let three = in_two size.2 body.1 body.2 body.3 in
    let is : length a.body ≡ length body.1 =
    ap (λ (b : Attribute). length b.body) body.5.1 ∙ ap (λ (l : List ℕ). length l) (sym body.4.1) in
    omega (arith, one, two, three, is)

pub counted_attributes : (HasName : ℕ → Type 0) (text : List ℕ) (attributes : List Attribute)
    → (counted (attribute HasName)).Text text attributes → attributes_size attributes ≤ length text
counted_attributes HasName text attributes t =
    counted_size (attribute HasName) (λ a. length a.body) (attribute_size HasName) text attributes t

-- some of them hold no more than all
pub some_size : (p : Attribute → Bool) (attributes : List Attribute)
    → texts_size (map (λ (a : Attribute). a.body) (filter p attributes)) ≤ attributes_size attributes
some_size p [] = omega arith
some_size p (a ∷ attributes) = by (p a) (some_size p attributes)
  where
    by : (t : Bool) → texts_size (map (λ (b : Attribute). b.body) (filter p attributes)) ≤ attributes_size attributes
        → texts_size (map (λ (b : Attribute). b.body) (cond t (a ∷ filter p attributes) (filter p attributes))) ≤ attributes_size
        (a ∷ attributes)
    by true rest =
        let one = sum_by-cons (λ (text : List ℕ). length text) a.body (map (λ (b : Attribute). b.body) (filter p attributes)) in
        let all = sum_by-cons (λ (b : Attribute). length b.body) a attributes in
        omega (arith, rest, one, all)
    by false rest = let all = sum_by-cons (λ (b : Attribute). length b.body) a attributes in omega (arith, rest, all)

-- ---- the methods of a class

-- how many bytes the attributes of a method hold
abbrev pub method_size : Member → ℕ
method_size m = attributes_size m.attributes

member_size : (HasName HasDescriptor : ℕ → Type 0) (text : List ℕ) (m : Member) → (member HasName HasDescriptor).Text text m
    → method_size m ≤ length text
member_size HasName HasDescriptor text m t =
    let name = t.5 in
    let desc = name.5 in
    let attributes = desc.5 in
    let one = in_two text t.1 t.2 t.3 in
    let two = in_two t.2 name.1 name.2 name.3 in
    let three = in_two name.2 desc.1 desc.2 desc.3 in
    let four = in_two desc.2 attributes.1 attributes.2 attributes.3 in
    let most = counted_attributes HasName attributes.1 attributes.0 attributes.4 in
    let is : method_size m ≡ attributes_size attributes.0 = ap (λ (k : Member). method_size k) attributes.5.1 in
    omega (arith, one, two, three, four, most, is)

-- the attributes of its methods, and its own
class_sizes : (text : List ℕ) (c : ClassFile) → ClassText text c
    → (sum_by method_size c.methods ≤ length text) × (attributes_size c.attributes ≤ length text)
unfolding class_file
class_sizes text c t =
    let minor = t.5 in
    let major = minor.5 in
    let pool = major.5 in
    let flags = pool.5 in
    let this_class = flags.5 in
    let super_class = this_class.5 in
    let interfaces = super_class.5 in
    let fields = interfaces.5 in
    let methods = fields.5 in
    let attributes = methods.5 in
    let s0 = in_two text t.1 t.2 t.3 in
    let s1 = in_two t.2 minor.1 minor.2 minor.3 in
    let s2 = in_two minor.2 major.1 major.2 major.3 in
    let s3 = in_two major.2 pool.1 pool.2 pool.3 in
    let s4 = in_two pool.2 flags.1 flags.2 flags.3 in
    let s5 = in_two flags.2 this_class.1 this_class.2 this_class.3 in
    let s6 = in_two this_class.2 super_class.1 super_class.2 super_class.3 in
    let s7 = in_two super_class.2 interfaces.1 interfaces.2 interfaces.3 in
    let s8 = in_two interfaces.2 fields.1 fields.2 fields.3 in
    let s9 = in_two fields.2 methods.1 methods.2 methods.3 in
    let p = pool.0 in
    let most = counted_size (member (HasText p) (HasMethodDescriptor p)) method_size
    (member_size (HasText p) (HasMethodDescriptor p)) methods.1 methods.0 methods.4 in
    let is : sum_by method_size c.methods ≡ sum_by method_size methods.0 =
    ap (λ (k : ClassFile). sum_by method_size k.methods) attributes.5.1 in
    let s10 = in_two methods.2 attributes.1 attributes.2 attributes.3 in
    let own = counted_attributes (HasText p) attributes.1 attributes.0 attributes.4 in
    let own_is : attributes_size c.attributes ≡ attributes_size attributes.0 =
    ap (λ (k : ClassFile). attributes_size k.attributes) attributes.5.1 in (
      omega (arith, s0, s1, s2, s3, s4, s5, s6, s7, s8, s9, most, is),
      omega (arith, s0, s1, s2, s3, s4, s5, s6, s7, s8, s9, s10, own, own_is),
    )

pub class_size : (text : List ℕ) (c : ClassFile) → ClassText text c → sum_by method_size c.methods ≤ length text
class_size text c t = (class_sizes text c t).0

pub class_attributes_size : (text : List ℕ) (c : ClassFile) → ClassText text c → attributes_size c.attributes ≤ length text
class_attributes_size text c t = (class_sizes text c t).1
