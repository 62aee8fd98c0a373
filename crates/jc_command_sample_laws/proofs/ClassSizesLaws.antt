-- How many bytes the text of a class has at most.
use Rattle.std.proofs.Common.{◌≡◌, ℕ, zero, suc, ◌+◌, ◌≤◌, List, length, sym, ◌∙◌, ap, arith}
use Rattle.std.specs.List.{sum_by}
use Rattle.std.proofs.lemmas.List.Sums.{sum_by-cons}
use Rattle.jc_bytes.specs.Counted.{counted}
use Rattle.jc_bytes.specs.Grammar.{Grammar, times}
use Rattle.jc_bytes.specs.ItemForms.{number_where}
use Rattle.jc_class.specs.ClassFormat.{HasText, HasClass, HasFieldDescriptor, HasMethodDescriptor, attribute, field, field_attribute, member, member_of, class_file}
use Rattle.jc_class.specs.ClassText.{ClassText}
use Rattle.jc_class.specs.declared.class_file.Attribute.{Attribute}
use Rattle.jc_class.specs.declared.class_file.ClassFile.{ClassFile}
use Rattle.jc_class.specs.declared.class_file.Member.{Member}
use Rattle.jc_pool.specs.Pool.{PoolValue}
use Rattle.jc_instrument.proofs.TextSizesLaws.{in_two}
use Rattle.jc_command_sample_laws.proofs.PoolWeightLaws.{pool_weight, pool_most}

-- ---- several items of a form

module _ {X : Type 0} (g : Grammar X) (size : X → ℕ) (most : (text : List ℕ) (x : X) → g.Text text x → length text ≤ size x) where
  times_most : (n : ℕ) (text : List ℕ) (xs : List X) → (times n g).Text text xs → length text ≤ sum_by size xs
  times_most zero text xs t = let none = ap (λ (l : List ℕ). length l) t.0 in omega (arith, none)
  times_most (suc n) text xs t =
      let more = t.5 in
      let whole = in_two text t.1 t.2 t.3 in
      let rest = in_two t.2 more.1 more.2 more.3 in
      let none = ap (λ (l : List ℕ). length l) more.5.0 in
      let first = most t.1 t.0 t.4 in
      let behind = times_most n more.1 more.0 more.4 in
      let is : sum_by size xs ≡ size t.0 + sum_by size more.0 = ap (sum_by size) more.5.1 ∙ sum_by-cons size t.0 more.0 in
      omega (arith, whole, rest, none, first, behind, is)

  counted_most : (text : List ℕ) (xs : List X) → (counted g).Text text xs → length text ≤ 2 + sum_by size xs
  counted_most text xs t =
      let whole = in_two text t.1 t.2 t.3 in
      let count = t.4.size in
      let all = times_most t.0 t.2 xs t.5 in
      omega (arith, whole, count, all)

-- ---- attributes and members

abbrev pub attribute_weight : Attribute → ℕ
attribute_weight a = 6 + length a.body

abbrev pub member_weight : Member → ℕ
member_weight m = 8 + sum_by attribute_weight m.attributes

attribute_most : (HasName : ℕ → Type 0) (text : List ℕ) (a : Attribute) → (attribute HasName).Text text a → length text ≤ attribute_weight a
attribute_most HasName text a t =
    let size = t.5 in
    let body = size.5 in
    let one = in_two text t.1 t.2 t.3 in
    let two = in_two t.2 size.1 size.2 size.3 in
    let three = in_two size.2 body.1 body.2 body.3 in
    let name_size = t.4.0.size in
    let size_size = size.4.size in
    let same : length a.body ≡ length body.1 = ap (λ (b : Attribute). length b.body) body.5.1 ∙ ap (λ (l : List ℕ). length l) (sym body.4.1) in
    let none = ap (λ (l : List ℕ). length l) body.5.0 in
    omega (arith, one, two, three, name_size, size_size, same, none)

field_attribute_most : (pool : PoolValue) (flags : ℕ) (text : List ℕ) (a : Attribute) → (field_attribute pool flags).Text text a → length text ≤ attribute_weight a
field_attribute_most pool flags text a t =
    let size = t.5 in
    let body = size.5 in
    let one = in_two text t.1 t.2 t.3 in
    let two = in_two t.2 size.1 size.2 size.3 in
    let three = in_two size.2 body.1 body.2 body.3 in
    let name_size = t.4.0.size in
    let size_size = size.4.size in
    let same : length a.body ≡ length body.1 = ap (λ (b : Attribute). length b.body) body.5.1 ∙ ap (λ (l : List ℕ). length l) (sym body.4.1) in
    let none = ap (λ (l : List ℕ). length l) body.5.0 in
    omega (arith, one, two, three, name_size, size_size, same, none)

member_most : (HasName HasDescriptor : ℕ → Type 0) (of : ℕ → Grammar Attribute) → ((flags : ℕ) (text : List ℕ) (a : Attribute) → (of flags).Text text a → length text ≤ attribute_weight a)
    → (text : List ℕ) (m : Member) → (member_of HasName HasDescriptor of).Text text m → length text ≤ member_weight m
member_most HasName HasDescriptor of most text m t =
    let name = t.5 in
    let desc = name.5 in
    let attributes = desc.5 in
    let one = in_two text t.1 t.2 t.3 in
    let two = in_two t.2 name.1 name.2 name.3 in
    let three = in_two name.2 desc.1 desc.2 desc.3 in
    let four = in_two desc.2 attributes.1 attributes.2 attributes.3 in
    let flags_size = t.4.size in
    let name_size = name.4.0.size in
    let desc_size = desc.4.0.size in
    let all = counted_most (of t.0) attribute_weight (most t.0) attributes.1 attributes.0 attributes.4 in
    let none = ap (λ (l : List ℕ). length l) attributes.5.0 in
    let is : member_weight m ≡ 8 + sum_by attribute_weight attributes.0 = ap member_weight attributes.5.1 in
    omega (arith, one, two, three, four, flags_size, name_size, desc_size, all, none, is)

-- ---- the whole

abbrev pub class_weight : ClassFile → ℕ
class_weight c =
    24 + pool_weight c.pool + sum_by (λ (place : ℕ). 2) c.interfaces + sum_by member_weight c.fields + sum_by member_weight c.methods
    + sum_by attribute_weight c.attributes

pub class_most : (text : List ℕ) (c : ClassFile) → ClassText text c → length text ≤ class_weight c
unfolding class_file
class_most text c t =
    let minor = t.5 in
    let major = minor.5 in
    let pool = major.5 in
    let flags = pool.5 in
    let this_class = flags.5 in
    let super_class = this_class.5 in
    let interfaces = super_class.5 in
    let fields = interfaces.5 in
    let methods = fields.5 in
    let attributes = methods.5 in
    let p : PoolValue = pool.0 in
    let s0 = in_two text t.1 t.2 t.3 in
    let s1 = in_two t.2 minor.1 minor.2 minor.3 in
    let s2 = in_two minor.2 major.1 major.2 major.3 in
    let s3 = in_two major.2 pool.1 pool.2 pool.3 in
    let s4 = in_two pool.2 flags.1 flags.2 flags.3 in
    let s5 = in_two flags.2 this_class.1 this_class.2 this_class.3 in
    let s6 = in_two this_class.2 super_class.1 super_class.2 super_class.3 in
    let s7 = in_two super_class.2 interfaces.1 interfaces.2 interfaces.3 in
    let s8 = in_two interfaces.2 fields.1 fields.2 fields.3 in
    let s9 = in_two fields.2 methods.1 methods.2 methods.3 in
    let s10 = in_two methods.2 attributes.1 attributes.2 attributes.3 in
    let z0 = t.4.size in
    let z1 = minor.4.size in
    let z2 = major.4.size in
    let z3 = pool_most pool.1 p pool.4 in
    let z4 = flags.4.size in
    let z5 = this_class.4.0.size in
    let z6 = super_class.4.0.size in
    let z7 = counted_most (number_where (HasClass p)) (λ (place : ℕ). 2) (λ text place is. (let two = is.0.size in omega (arith, two))) interfaces.1 interfaces.0 interfaces.4 in
    let z8 = counted_most (field p) member_weight (member_most (HasText p) (HasFieldDescriptor p) (field_attribute p) (field_attribute_most p)) fields.1 fields.0 fields.4 in
    let z9 = counted_most (member (HasText p) (HasMethodDescriptor p)) member_weight
    (member_most (HasText p) (HasMethodDescriptor p) (λ flags. attribute (HasText p)) (λ flags. attribute_most (HasText p))) methods.1 methods.0 methods.4 in
    let z10 = counted_most (attribute (HasText p)) attribute_weight (attribute_most (HasText p)) attributes.1 attributes.0 attributes.4 in
    let none = ap (λ (l : List ℕ). length l) attributes.5.0 in
    let is : class_weight c ≡ 24 + pool_weight p + sum_by (λ (place : ℕ). 2) interfaces.0 + sum_by member_weight fields.0 + sum_by member_weight methods.0
    + sum_by attribute_weight attributes.0 = ap class_weight attributes.5.1 in
    omega (arith, s0, s1, s2, s3, s4, s5, s6, s7, s8, s9, s10, z0, z1, z2, z3, z4, z5, z6, z7, z8, z9, z10, none, is)
