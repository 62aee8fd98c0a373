-- No attribute that was read is longer than the bytes.
use Rattle.std.proofs.Common.{◌≡◌, ◌≤◌, ℕ, zero, suc, List, ◌++◌, length, Result, Ok, Err, IfOk, All}
use Rattle.std.proofs.Common.{sym, ◌∙◌, ap, subst, arith, length-append}
use Rattle.std.proofs.lemmas.List.Elements.{All-cons, All-nil}
use Rattle.jc_bytes.specs.Counted.{counted}
use Rattle.jc_bytes.specs.Grammar.{Grammar, times}
use Rattle.jc_bytes.specs.declared.fail.Fail.{Fail}
use Rattle.jc_bytes.specs.declared.refusal.Refusal.{Refusal}
use Rattle.jc_class.specs.declared.class_file.Attribute.{Attribute}
use Rattle.jc_class.specs.declared.class_file.Member.{Member}
use Rattle.jc_class.specs.declared.class_file.ClassFile.{ClassFile}
use Rattle.jc_class.specs.ClassFormat.{attribute, member, class_file, HasText, HasFieldDescriptor, HasMethodDescriptor}
use Rattle.jc_class.specs.ClassText.{ClassText}
use Rattle.jc_class.specs.Sizes.{BodiesWithin, AttributesWithin}
use Rattle.jc_class.proofs.ConstantLaws.{fields_split}

module _ (most : ℕ) where
  abbrev Short : Attribute → Type 0
  Short a = length a.body ≤ most

  abbrev AreShort : Member → Type 0
  AreShort m = BodiesWithin most m.attributes

  -- both parts of a text that isn't longer
  parts_within : (bytes front rest : List ℕ) → bytes ≡ front ++ rest → length bytes ≤ most → (length front ≤ most) × (length rest ≤ most)
  parts_within bytes front rest parts short =
      let both = ap length parts ∙ length-append front rest in
      (omega (arith, both, short), omega (arith, both, short))

  module _ {X : Type 0} (g : Grammar X) (Fact : X → Type 0) (holds : (text : List ℕ) (x : X) → length text ≤ most → g.Text text x → Fact x) where
    times_within : (n : ℕ) (text : List ℕ) (xs : List X) → length text ≤ most → (times n g).Text text xs → All Fact xs
    times_within zero text xs short t = subst (All Fact) (sym t.1) (All-nil Fact)
    times_within (suc n) text xs short t =
        let split = parts_within text t.1 t.2 t.3 short in
        let more = t.5 in
        let next = parts_within t.2 more.1 more.2 more.3 split.1 in
        subst (All Fact) (sym more.5.1) (All-cons Fact t.0 more.0 (holds t.1 t.0 split.0 t.4) (times_within n more.1 more.0 next.0 more.4))

    counted_within : (text : List ℕ) (xs : List X) → length text ≤ most → (counted g).Text text xs → All Fact xs
    counted_within text xs short t = times_within t.0 t.2 xs (parts_within text t.1 t.2 t.3 short).1 t.5

  attribute_within : (HasName : ℕ → Type 0) (text : List ℕ) (a : Attribute) → length text ≤ most → (attribute HasName).Text text a
      → length a.body ≤ most
  attribute_within HasName text a short t =
      let name = parts_within text t.1 t.2 t.3 short in
      let size = t.5 in
      let behind = parts_within t.2 size.1 size.2 size.3 name.1 in
      let body = size.5 in
      let own = parts_within size.2 body.1 body.2 body.3 behind.1 in
      let is : a.body ≡ body.1 = ap (λ (k : Attribute). k.body) body.5.1 ∙ sym body.4.1 in
      omega (arith, ap length is, own.0)

  member_within : (HasName HasDescriptor : ℕ → Type 0) (text : List ℕ) (m : Member) → length text ≤ most
      → (member HasName HasDescriptor).Text text m → BodiesWithin most m.attributes
  member_within HasName HasDescriptor text m short t =
      let name = t.5 in
      let desc = name.5 in
      let attributes = desc.5 in
      let s0 = parts_within text t.1 t.2 t.3 short in
      let s1 = parts_within t.2 name.1 name.2 name.3 s0.1 in
      let s2 = parts_within name.2 desc.1 desc.2 desc.3 s1.1 in
      let s3 = parts_within desc.2 attributes.1 attributes.2 attributes.3 s2.1 in
      subst (BodiesWithin most) (sym (ap (λ (k : Member). k.attributes) attributes.5.1))
      (counted_within (attribute HasName) Short (attribute_within HasName) attributes.1 attributes.0 s3.0 attributes.4)

  class_within : (text : List ℕ) (c : ClassFile) → length text ≤ most → ClassText text c → AttributesWithin most c
  unfolding class_file
  class_within text c short t =
      let minor = t.5 in
      let major = minor.5 in
      let pool = major.5 in
      let flags = pool.5 in
      let this_class = flags.5 in
      let super_class = this_class.5 in
      let interfaces = super_class.5 in
      let fields = interfaces.5 in
      let methods = fields.5 in
      let attributes = methods.5 in
      let s0 = parts_within text t.1 t.2 t.3 short in
      let s1 = parts_within t.2 minor.1 minor.2 minor.3 s0.1 in
      let s2 = parts_within minor.2 major.1 major.2 major.3 s1.1 in
      let s3 = parts_within major.2 pool.1 pool.2 pool.3 s2.1 in
      let s4 = parts_within pool.2 flags.1 flags.2 flags.3 s3.1 in
      let s5 = parts_within flags.2 this_class.1 this_class.2 this_class.3 s4.1 in
      let s6 = parts_within this_class.2 super_class.1 super_class.2 super_class.3 s5.1 in
      let s7 = parts_within super_class.2 interfaces.1 interfaces.2 interfaces.3 s6.1 in
      let s8 = parts_within interfaces.2 fields.1 fields.2 fields.3 s7.1 in
      let s9 = parts_within fields.2 methods.1 methods.2 methods.3 s8.1 in
      let s10 = parts_within methods.2 attributes.1 attributes.2 attributes.3 s9.1 in
      let p = pool.0 in
      subst (AttributesWithin most) (sym attributes.5.1) (record {
        class = counted_within (attribute (HasText p)) Short (attribute_within (HasText p)) attributes.1 attributes.0 s10.0 attributes.4;
        fields = counted_within (member (HasText p) (HasFieldDescriptor p)) AreShort (member_within (HasText p) (HasFieldDescriptor p))
            fields.1 fields.0 s8.0 (fields_split p fields.1 fields.0 fields.4).0;
        methods = counted_within (member (HasText p) (HasMethodDescriptor p)) AreShort (member_within (HasText p) (HasMethodDescriptor p)) methods.1 methods.0 s9.0 methods.4;
      })

  pub all_within : (r : Result ClassFile (Fail Refusal)) (bytes : List ℕ) → length bytes ≤ most
      → IfOk r (ClassText bytes) → IfOk r (AttributesWithin most)
  all_within (Ok c) bytes short text = class_within bytes c short text
  all_within (Err e) bytes short text = tt
