-- What is written names what it has to name.
use Rattle.std.proofs.Common.{ℕ, List, [], ◌++◌, refl, sym, ◌∙◌, ap, subst}
use Rattle.std.proofs.lemmas.List.{append-nil}
use Rattle.std.proofs.lemmas.List.Elements.{All-from_recursion, recursion_from_All, All-weaker}
use Rattle.jc_bytes.specs.Counted.{counted}
use Rattle.jc_bytes.specs.Decoder.{IsBig}
use Rattle.jc_bytes.specs.ItemForms.{number_where}
use Rattle.jc_pool.specs.PoolGrammar as pools
use Rattle.jc_class.specs.declared.class_file.ClassFile.{ClassFile}
use Rattle.jc_class.specs.ClassText.{ClassText}
use Rattle.std.specs.List.{AllByRecursion}
use Rattle.jc_bytes.specs.Appending.{Appends, Appended}
use Rattle.jc_bytes.proofs.AppendingLaws.{joined}
use Rattle.jc_class.specs.declared.class_file.Attribute.{Attribute}
use Rattle.jc_class.specs.declared.class_file.Member.{Member}
use Rattle.jc_class.specs.ClassFormat.{attribute, member, class_file, HasText, HasClass, HasFieldDescriptor, HasMethodDescriptor}
use Rattle.jc_class.specs.Writable.{Anything, AreCounted, IsAttribute, IsMember, IsClassFile}
use Rattle.jc_class.proofs.ConstantLaws.{counted_named, fields_joined}

-- ---- each part can be written, whatever it names

counted_weaker : {X : Type 0} (P Q : X → Type 0) → ((x : X) → P x → Q x) → (xs : List X) → AreCounted P xs → AreCounted Q xs
counted_weaker P Q to xs c = record { few = c.few; each = recursion_from_All Q xs (All-weaker P Q to xs (All-from_recursion P xs c.each)) }

pub any_attributes : (HasName : ℕ → Type 0) (xs : List Attribute) → AreCounted (IsAttribute HasName) xs → AreCounted (IsAttribute Anything) xs
any_attributes HasName = counted_weaker (IsAttribute HasName) (IsAttribute Anything) (λ a is. record { name = tt; size = is.size })

pub any_members : (HasName HasDescriptor : ℕ → Type 0) (xs : List Member) → AreCounted (IsMember HasName HasDescriptor) xs → AreCounted (IsMember Anything Anything) xs
any_members HasName HasDescriptor = counted_weaker (IsMember HasName HasDescriptor) (IsMember Anything Anything)
    (λ m is. record { name = tt; desc = tt; attributes = any_attributes HasName m.attributes is.attributes })

-- ---- and its text names what the part names

interface_named : (Fact : ℕ → Type 0) (text : List ℕ) (n : ℕ) → Fact n → (number_where Anything).Text text n → (number_where Fact).Text text n
interface_named Fact text n fact t = (t.0, fact)

attribute_named : (HasName : ℕ → Type 0) (text : List ℕ) (a : Attribute) → IsAttribute HasName a → (attribute Anything).Text text a → (attribute HasName).Text text a
attribute_named HasName text a is t = (t.0, t.1, t.2, t.3, (t.4.0, subst HasName (ap (λ (b : Attribute). b.name) t.5.5.5.1) is.name), t.5)

member_named : (HasName HasDescriptor : ℕ → Type 0) (text : List ℕ) (m : Member) → IsMember HasName HasDescriptor m
    → (member Anything Anything).Text text m → (member HasName HasDescriptor).Text text m
member_named HasName HasDescriptor text m is t =
    let name = t.5 in
    let desc = name.5 in
    let attributes = desc.5 in
    let whole = attributes.5.1 in (
      t.0,
      t.1,
      t.2,
      t.3,
      t.4,
      (
        name.0,
        name.1,
        name.2,
        name.3,
        (name.4.0, subst HasName (ap (λ (k : Member). k.name) whole) is.name),
        (
          desc.0,
          desc.1,
          desc.2,
          desc.3,
          (desc.4.0, subst HasDescriptor (ap (λ (k : Member). k.desc) whole) is.desc),
          (
            attributes.0,
            attributes.1,
            attributes.2,
            attributes.3,
            counted_named (attribute Anything) (attribute HasName) (IsAttribute HasName) (attribute_named HasName) attributes.1 attributes.0
                (subst (AllByRecursion (IsAttribute HasName)) (ap (λ (k : Member). k.attributes) whole) is.attributes.each) attributes.4,
            attributes.5,
          ),
        ),
      ),
    )

pub interfaces_named : (Fact : ℕ → Type 0) (text : List ℕ) (xs : List ℕ) → AreCounted Fact xs → (counted (number_where Anything)).Text text xs → (counted (number_where Fact)).Text text xs
interfaces_named Fact text xs is t = counted_named (number_where Anything) (number_where Fact) Fact (interface_named Fact) text xs is.each t

pub attributes_named : (HasName : ℕ → Type 0) (text : List ℕ) (xs : List Attribute) → AreCounted (IsAttribute HasName) xs
    → (counted (attribute Anything)).Text text xs → (counted (attribute HasName)).Text text xs
attributes_named HasName text xs is t = counted_named (attribute Anything) (attribute HasName) (IsAttribute HasName) (attribute_named HasName) text xs is.each t

pub members_named : (HasName HasDescriptor : ℕ → Type 0) (text : List ℕ) (xs : List Member) → AreCounted (IsMember HasName HasDescriptor) xs
    → (counted (member Anything Anything)).Text text xs → (counted (member HasName HasDescriptor)).Text text xs
members_named HasName HasDescriptor text xs is t =
    counted_named (member Anything Anything) (member HasName HasDescriptor) (IsMember HasName HasDescriptor) (member_named HasName HasDescriptor) text xs is.each t

-- ---- a whole class file

module _ (c : ClassFile) (is : IsClassFile c) where
  pub class_put : (old s1 s2 s3 s4 s5 s6 s7 s8 s9 s10 new : List ℕ)
      → Appends (λ text. IsBig 4 text 0xcafebabe) old s1
      → Appends (λ text. IsBig 2 text c.minor) s1 s2
      → Appends (λ text. IsBig 2 text c.major) s2 s3
      → Appends (λ text. pools.pool.Text text c.pool) s3 s4
      → Appends (λ text. IsBig 2 text c.flags) s4 s5
      → Appends (λ text. IsBig 2 text c.this_class) s5 s6
      → Appends (λ text. IsBig 2 text c.super_class) s6 s7
      → Appended (counted (number_where Anything)) c.interfaces s7 s8
      → Appended (counted (member Anything Anything)) c.fields s8 s9
      → Appended (counted (member Anything Anything)) c.methods s9 s10
      → Appended (counted (attribute Anything)) c.attributes s10 new
      → Appends (λ text. ClassText text c) old new
  unfolding class_file
  class_put old s1 s2 s3 s4 s5 s6 s7 s8 s9 s10 new magic minor major pool flags this_class super_class interfaces fields methods attributes =
      let t10 = attributes.text ++ [] in
      let t9 = methods.text ++ t10 in
      let t8 = fields.text ++ t9 in
      let t7 = interfaces.text ++ t8 in
      let t6 = super_class.text ++ t7 in
      let t5 = this_class.text ++ t6 in
      let t4 = flags.text ++ t5 in
      let t3 = pool.text ++ t4 in
      let t2 = major.text ++ t3 in
      let t1 = minor.text ++ t2 in
      let p10 = attributes.parts ∙ ap (λ (l : List ℕ). s10 ++ l) (sym (append-nil attributes.text)) in
      let p9 = joined s9 s10 new methods.text t10 methods.parts p10 in
      let p8 = joined s8 s9 new fields.text t9 fields.parts p9 in
      let p7 = joined s7 s8 new interfaces.text t8 interfaces.parts p8 in
      let p6 = joined s6 s7 new super_class.text t7 super_class.parts p7 in
      let p5 = joined s5 s6 new this_class.text t6 this_class.parts p6 in
      let p4 = joined s4 s5 new flags.text t5 flags.parts p5 in
      let p3 = joined s3 s4 new pool.text t4 pool.parts p4 in
      let p2 = joined s2 s3 new major.text t3 major.parts p3 in
      let p1 = joined s1 s2 new minor.text t2 minor.parts p2 in
      record {
        text = magic.text ++ t1;
        parts = joined old s1 new magic.text t1 magic.parts p1;
        spells = (
          tt,
          magic.text,
          t1,
          refl,
          magic.spells,
          (
            c.minor,
            minor.text,
            t2,
            refl,
            minor.spells,
            (
              c.major,
              major.text,
              t3,
              refl,
              major.spells,
              (
                c.pool,
                pool.text,
                t4,
                refl,
                pool.spells,
                (
                  c.flags,
                  flags.text,
                  t5,
                  refl,
                  flags.spells,
                  (
                    c.this_class,
                    this_class.text,
                    t6,
                    refl,
                    (this_class.spells, is.this_class),
                    (
                      c.super_class,
                      super_class.text,
                      t7,
                      refl,
                      (super_class.spells, is.super_class),
                      (
                        c.interfaces,
                        interfaces.text,
                        t8,
                        refl,
                        interfaces_named (HasClass c.pool) interfaces.text c.interfaces is.interfaces interfaces.spells,
                        (
                          c.fields,
                          fields.text,
                          t9,
                          refl,
                          fields_joined c.pool fields.text c.fields is.constants
                              (members_named (HasText c.pool) (HasFieldDescriptor c.pool) fields.text c.fields is.fields fields.spells),
                          (
                            c.methods,
                            methods.text,
                            t10,
                            refl,
                            members_named (HasText c.pool) (HasMethodDescriptor c.pool) methods.text c.methods is.methods methods.spells,
                            (
                              c.attributes,
                              attributes.text,
                              [],
                              refl,
                              attributes_named (HasText c.pool) attributes.text c.attributes is.attributes attributes.spells,
                              (refl, refl),
                            ),
                          ),
                        ),
                      ),
                    ),
                  ),
                ),
              ),
            ),
          ),
        );
      }
