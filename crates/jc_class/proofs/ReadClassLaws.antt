-- What is known of a class file whose text is of bytes: it can be written, and its numbers and attributes are of bytes.
use Rattle.std.proofs.Common.{◌≡◌, ℕ, zero, suc, ◌<◌, ◌^◌, List, length, sym, ◌∙◌, ap, subst, arith}
use Rattle.std.specs.List.{AllByRecursion}
use Rattle.jc_bytes.specs.ByteLists.{AreBytes}
use Rattle.jc_bytes.specs.Counted.{counted}
use Rattle.jc_bytes.specs.Grammar.{Grammar, times}
use Rattle.jc_bytes.specs.ItemForms.{number_where}
use Rattle.jc_bytes.proofs.CountedLaws.{times_length}
use Rattle.jc_bytes.proofs.EachLaws.{all_weaker}
use Rattle.jc_bytes.proofs.OneTextLaws.{both_bytes, big_below}
use Rattle.jc_class.specs.declared.class_file.Attribute.{Attribute}
use Rattle.jc_class.specs.declared.class_file.Member.{Member}
use Rattle.jc_class.specs.declared.class_file.ClassFile.{ClassFile}
use Rattle.jc_class.specs.ClassFormat.{attribute, member, class_file, HasText, HasClass, HasFieldDescriptor, HasMethodDescriptor}
use Rattle.jc_class.specs.ClassText.{ClassText}
use Rattle.jc_class.specs.Writable.{AreCounted, IsAttribute, IsMember, IsClassFile}
use Rattle.jc_class.proofs.ConstantLaws.{fields_split}

-- ---- counted items

module _ {X : Type 0} (g : Grammar X) (Fact : X → Type 0) (holds : (text : List ℕ) (x : X) → AreBytes text → g.Text text x → Fact x) where
  times_hold : (n : ℕ) (text : List ℕ) (xs : List X) → AreBytes text → (times n g).Text text xs → AllByRecursion Fact xs
  times_hold zero text xs are t = subst (AllByRecursion Fact) (sym t.1) tt
  times_hold (suc n) text xs are t =
      let split = both_bytes t.1 t.2 (subst AreBytes t.3 are) in
      let more = t.5 in
      let next = both_bytes more.1 more.2 (subst AreBytes more.3 split.1) in
      subst (AllByRecursion Fact) (sym more.5.1) (holds t.1 t.0 split.0 t.4, times_hold n more.1 more.0 next.0 more.4)

  -- where the text is of bytes, they are few, and the fact holds of each
  pub counted_hold : (text : List ℕ) (xs : List X) → AreBytes text → (counted g).Text text xs → AreCounted Fact xs
  counted_hold text xs are t =
      let split = both_bytes t.1 t.2 (subst AreBytes t.3 are) in
      let below : t.0 < 256 ^ 2 = big_below 2 t.0 t.1 split.0 t.4 in
      record { few = omega (arith, below, times_length t.0 g t.2 xs t.5); each = times_hold t.0 t.2 xs split.1 t.5 }

-- two facts of counted items
module _ {X : Type 0} (P Q : X → Type 0) (xs : List X) (both : AreCounted (λ x. P x × Q x) xs) where
  counted_first : AreCounted P xs
  counted_first = record { few = both.few; each = all_weaker (λ x. P x × Q x) P (λ x p. p.0) xs both.each }

  each_second : AllByRecursion Q xs
  each_second = all_weaker (λ x. P x × Q x) Q (λ x p. p.1) xs both.each

-- ---- attributes

-- the bytes of an attribute are bytes
abbrev pub HasBytes : Attribute → Type 0
HasBytes a = AreBytes a.body

attribute_read : (HasName : ℕ → Type 0) (text : List ℕ) (a : Attribute) → AreBytes text → (attribute HasName).Text text a → IsAttribute HasName a × HasBytes a
attribute_read HasName text a are t =
    let b0 = both_bytes t.1 t.2 (subst AreBytes t.3 are) in
    let size = t.5 in
    let b1 = both_bytes size.1 size.2 (subst AreBytes size.3 b0.1) in
    let body = size.5 in
    let b2 = both_bytes body.1 body.2 (subst AreBytes body.3 b1.1) in
    let whole = body.5.1 in
    let below : size.0 < 256 ^ 4 = big_below 4 size.0 size.1 b1.0 size.4 in
    let length_is : length a.body ≡ size.0 = ap (λ (k : Attribute). length k.body) whole ∙ sym (ap length body.4.1) ∙ body.4.0 in (
      record { name = subst HasName (sym (ap (λ (k : Attribute). k.name) whole)) t.4.1; size = omega (arith, below, length_is) },
      subst AreBytes (body.4.1 ∙ ap (λ (k : Attribute). k.body) (sym whole)) b2.0,
    )

pub attribute_bytes : (HasName : ℕ → Type 0) (text : List ℕ) (a : Attribute) → AreBytes text → (attribute HasName).Text text a → HasBytes a
attribute_bytes HasName text a are t = (attribute_read HasName text a are t).1

-- ---- members

-- the flags fit into two bytes, and the bytes of each attribute are bytes
pub record IsOfBytes (m : Member) : Type 0 where
  pub flags : m.flags < 65536
  pub attributes : AllByRecursion HasBytes m.attributes

member_read : (HasName HasDescriptor : ℕ → Type 0) (text : List ℕ) (m : Member) → AreBytes text → (member HasName HasDescriptor).Text text m
    → IsMember HasName HasDescriptor m × IsOfBytes m
member_read HasName HasDescriptor text m are t =
    let b0 = both_bytes t.1 t.2 (subst AreBytes t.3 are) in
    let name = t.5 in
    let b1 = both_bytes name.1 name.2 (subst AreBytes name.3 b0.1) in
    let desc = name.5 in
    let b2 = both_bytes desc.1 desc.2 (subst AreBytes desc.3 b1.1) in
    let attributes = desc.5 in
    let b3 = both_bytes attributes.1 attributes.2 (subst AreBytes attributes.3 b2.1) in
    let whole = attributes.5.1 in
    let below : t.0 < 256 ^ 2 = big_below 2 t.0 t.1 b0.0 t.4 in
    let each = counted_hold (attribute HasName) (λ a. IsAttribute HasName a × HasBytes a) (attribute_read HasName) attributes.1 attributes.0 b3.0 attributes.4 in (
      record {
        name = subst HasName (sym (ap (λ (k : Member). k.name) whole)) name.4.1;
        desc = subst HasDescriptor (sym (ap (λ (k : Member). k.desc) whole)) desc.4.1;
        attributes = subst (AreCounted (IsAttribute HasName)) (sym (ap (λ (k : Member). k.attributes) whole))
            (counted_first (IsAttribute HasName) HasBytes attributes.0 each);
      },
      subst IsOfBytes (sym whole) (record { flags = omega (arith, below); attributes = each_second (IsAttribute HasName) HasBytes attributes.0 each }),
    )

-- ---- the class

pub record IsReadClass (c : ClassFile) : Type 0 where
  pub holds : IsClassFile c
  pub minor : c.minor < 65536
  pub major : c.major < 65536
  pub flags : c.flags < 65536
  pub fields : AllByRecursion IsOfBytes c.fields
  pub methods : AllByRecursion IsOfBytes c.methods
  pub attributes : AllByRecursion HasBytes c.attributes

pub class_read : (text : List ℕ) (c : ClassFile) → AreBytes text → ClassText text c → IsReadClass c
unfolding class_file
class_read text c are t0 =
    let b0 = both_bytes t0.1 t0.2 (subst AreBytes t0.3 are) in
    let minor = t0.5 in
    let b1 = both_bytes minor.1 minor.2 (subst AreBytes minor.3 b0.1) in
    let major = minor.5 in
    let b2 = both_bytes major.1 major.2 (subst AreBytes major.3 b1.1) in
    let pool = major.5 in
    let b3 = both_bytes pool.1 pool.2 (subst AreBytes pool.3 b2.1) in
    let flags = pool.5 in
    let b4 = both_bytes flags.1 flags.2 (subst AreBytes flags.3 b3.1) in
    let this_class = flags.5 in
    let b5 = both_bytes this_class.1 this_class.2 (subst AreBytes this_class.3 b4.1) in
    let super_class = this_class.5 in
    let b6 = both_bytes super_class.1 super_class.2 (subst AreBytes super_class.3 b5.1) in
    let interfaces = super_class.5 in
    let b7 = both_bytes interfaces.1 interfaces.2 (subst AreBytes interfaces.3 b6.1) in
    let fields = interfaces.5 in
    let b8 = both_bytes fields.1 fields.2 (subst AreBytes fields.3 b7.1) in
    let methods = fields.5 in
    let b9 = both_bytes methods.1 methods.2 (subst AreBytes methods.3 b8.1) in
    let attributes = methods.5 in
    let b10 = both_bytes attributes.1 attributes.2 (subst AreBytes attributes.3 b9.1) in
    let p = pool.0 in
    let IsField = IsMember (HasText p) (HasFieldDescriptor p) in
    let IsMethod = IsMember (HasText p) (HasMethodDescriptor p) in
    let minor_below : minor.0 < 256 ^ 2 = big_below 2 minor.0 minor.1 b1.0 minor.4 in
    let major_below : major.0 < 256 ^ 2 = big_below 2 major.0 major.1 b2.0 major.4 in
    let flags_below : flags.0 < 256 ^ 2 = big_below 2 flags.0 flags.1 b4.0 flags.4 in
    let plain = fields_split p fields.1 fields.0 fields.4 in
    let each_field = counted_hold (member (HasText p) (HasFieldDescriptor p)) (λ m. IsField m × IsOfBytes m)
    (member_read (HasText p) (HasFieldDescriptor p)) fields.1 fields.0 b8.0 plain.0 in
    let each_method = counted_hold (member (HasText p) (HasMethodDescriptor p)) (λ m. IsMethod m × IsOfBytes m)
    (member_read (HasText p) (HasMethodDescriptor p)) methods.1 methods.0 b9.0 methods.4 in
    let each_attribute = counted_hold (attribute (HasText p)) (λ a. IsAttribute (HasText p) a × HasBytes a)
    (attribute_read (HasText p)) attributes.1 attributes.0 b10.0 attributes.4 in
    subst IsReadClass (sym attributes.5.1) (record {
      holds = record {
        this_class = this_class.4.1;
        super_class = super_class.4.1;
        interfaces = counted_hold (number_where (HasClass p)) (HasClass p) (λ text n are t. t.1) interfaces.1 interfaces.0 b7.0 interfaces.4;
        fields = counted_first IsField IsOfBytes fields.0 each_field;
        constants = plain.1;
        methods = counted_first IsMethod IsOfBytes methods.0 each_method;
        attributes = counted_first (IsAttribute (HasText p)) HasBytes attributes.0 each_attribute;
      };
      minor = omega (arith, minor_below);
      major = omega (arith, major_below);
      flags = omega (arith, flags_below);
      fields = each_second IsField IsOfBytes fields.0 each_field;
      methods = each_second IsMethod IsOfBytes methods.0 each_method;
      attributes = each_second (IsAttribute (HasText p)) HasBytes attributes.0 each_attribute;
    })
