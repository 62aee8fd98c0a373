-- A class file has one text in bytes.
use Rattle.std.proofs.Common.{◌≡◌, ℕ, List, length, refl, sym, ◌∙◌, ap}
use Rattle.jc_bytes.specs.Grammar.{nothing, followed_by}
use Rattle.jc_bytes.specs.ItemForms.{number_where, piece}
use Rattle.jc_bytes.proofs.OneTextLaws.{OneText, one_big, one_nothing, one_followed, one_number, one_number_where, one_piece, one_counted}
use Rattle.jc_pool.proofs.OneTextLaws as pool_laws
use Rattle.jc_pool.specs.Pool.{PoolValue}
use Rattle.jc_class.specs.declared.class_file.Attribute.{Attribute}
use Rattle.jc_class.specs.declared.class_file.Member.{Member}
use Rattle.jc_class.specs.declared.class_file.ClassFile.{ClassFile}
use Rattle.jc_class.specs.ClassFormat.{magic, attribute, member, field, class_file, HasText, HasClass, HasSuper, HasFieldDescriptor, HasMethodDescriptor}
use Rattle.jc_class.proofs.ConstantLaws.{field_split}

one_magic : OneText magic
one_magic = record { same = λ a b x p q t u. one_big 4 a b 0xcafebabe p q t u }

one_attribute : (HasName : ℕ → Type 0) → OneText (attribute HasName)
one_attribute HasName =
    one_followed _ _ (one_number_where HasName) (λ name.
    one_followed _ _ (one_number 4) (λ size.
    one_followed _ _ (one_piece size) (λ body. one_nothing (record { name = name; body = body }))
    (λ x z a b y t u. sym (ap (λ (k : Attribute). k.body) t.1) ∙ ap (λ (k : Attribute). k.body) u.1))
    (λ x z a b y t u. size_is x a y t ∙ sym (size_is z b y u)))
    (λ x z a b y t u. sym (ap (λ (k : Attribute). k.name) t.5.5.1) ∙ ap (λ (k : Attribute). k.name) u.5.5.1)
  where
    size_is : {name : ℕ} (size : ℕ) (text : List ℕ) (y : Attribute)
        → (followed_by {Y = Attribute} (piece size) (λ body. nothing (record { name = name; body = body }))).Text text y → size ≡ length y.body
    size_is size text y t = sym t.4.0 ∙ ap length (t.4.1 ∙ sym (ap (λ (k : Attribute). k.body) t.5.1))

one_member : (HasName HasDescriptor : ℕ → Type 0) → OneText (member HasName HasDescriptor)
one_member HasName HasDescriptor =
    (one_followed _ _ (one_number 2) (λ flags.
    (one_followed _ _ (one_number_where HasName) (λ name.
    (one_followed _ _ (one_number_where HasDescriptor) (λ desc.
    (one_followed _ _ (one_counted (attribute HasName) (one_attribute HasName)) (λ attributes.
    one_nothing (record { flags = flags; name = name; desc = desc; attributes = attributes }))
    (λ x z a b y t u. sym (ap (λ (k : Member). k.attributes) t.1) ∙ ap (λ (k : Member). k.attributes) u.1)))
    (λ x z a b y t u. sym (ap (λ (k : Member). k.desc) t.5.1) ∙ ap (λ (k : Member). k.desc) u.5.1)))
    (λ x z a b y t u. sym (ap (λ (k : Member). k.name) t.5.5.1) ∙ ap (λ (k : Member). k.name) u.5.5.1)))
    (λ x z a b y t u. sym (ap (λ (k : Member). k.flags) t.5.5.5.1) ∙ ap (λ (k : Member). k.flags) u.5.5.5.1))

-- the text of a field is that of a member
one_field : (pool : PoolValue) → OneText (field pool)
one_field pool = record {
  same = λ a b m p q t u. (one_member (HasText pool) (HasFieldDescriptor pool)).same a b m p q (field_split pool a m t).0 (field_split pool b m u).0;
}

pub one_class : OneText class_file
unfolding class_file
one_class =
    (one_followed _ _ one_magic (λ _.
    (one_followed _ _ (one_number 2) (λ minor.
    (one_followed _ _ (one_number 2) (λ major.
    (one_followed _ _ pool_laws.one_text (λ pool.
    (one_followed _ _ (one_number 2) (λ flags.
    (one_followed _ _ (one_number_where (HasClass pool)) (λ this_class.
    (one_followed _ _ (one_number_where (HasSuper pool)) (λ super_class.
    (one_followed _ _ (one_counted (number_where (HasClass pool)) (one_number_where (HasClass pool))) (λ interfaces.
    (one_followed _ _ (one_counted (field pool) (one_field pool)) (λ fields.
    (one_followed _ _ (one_counted (member (HasText pool) (HasMethodDescriptor pool)) (one_member (HasText pool) (HasMethodDescriptor pool))) (λ methods.
    (one_followed _ _ (one_counted (attribute (HasText pool)) (one_attribute (HasText pool))) (λ attributes.
    one_nothing (record {
      minor = minor;
      major = major;
      pool = pool;
      flags = flags;
      this_class = this_class;
      super_class = super_class;
      interfaces =
          interfaces;
      fields = fields;
      methods = methods;
      attributes = attributes;
    }))
    (λ x z a b y t u. sym (ap (λ (k : ClassFile). k.attributes) t.1) ∙ ap (λ (k : ClassFile). k.attributes) u.1)))
    (λ x z a b y t u. sym (ap (λ (k : ClassFile). k.methods) t.5.1) ∙ ap (λ (k : ClassFile). k.methods) u.5.1)))
    (λ x z a b y t u. sym (ap (λ (k : ClassFile). k.fields) t.5.5.1) ∙ ap (λ (k : ClassFile). k.fields) u.5.5.1)))
    (λ x z a b y t u. sym (ap (λ (k : ClassFile). k.interfaces) t.5.5.5.1) ∙ ap (λ (k : ClassFile). k.interfaces) u.5.5.5.1)))
    (λ x z a b y t u. sym (ap (λ (k : ClassFile). k.super_class) t.5.5.5.5.1) ∙ ap (λ (k : ClassFile). k.super_class) u.5.5.5.5.1)))
    (λ x z a b y t u. sym (ap (λ (k : ClassFile). k.this_class) t.5.5.5.5.5.1) ∙ ap (λ (k : ClassFile). k.this_class) u.5.5.5.5.5.1)))
    (λ x z a b y t u. sym (ap (λ (k : ClassFile). k.flags) t.5.5.5.5.5.5.1) ∙ ap (λ (k : ClassFile). k.flags) u.5.5.5.5.5.5.1)))
    (λ x z a b y t u. sym (ap (λ (k : ClassFile). k.pool) t.5.5.5.5.5.5.5.1) ∙ ap (λ (k : ClassFile). k.pool) u.5.5.5.5.5.5.5.1)))
    (λ x z a b y t u. sym (ap (λ (k : ClassFile). k.major) t.5.5.5.5.5.5.5.5.1) ∙ ap (λ (k : ClassFile). k.major) u.5.5.5.5.5.5.5.5.1)))
    (λ x z a b y t u. sym (ap (λ (k : ClassFile). k.minor) t.5.5.5.5.5.5.5.5.5.1) ∙ ap (λ (k : ClassFile). k.minor) u.5.5.5.5.5.5.5.5.5.1)))
    (λ x z a b y t u. refl))
