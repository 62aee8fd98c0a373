-- A field is a member of which more is asked: the constants of a static one are places of the pool.
use Rattle.std.proofs.Common.{ℕ, zero, suc, List, sym, subst}
use Rattle.std.proofs.lemmas.List.Elements.{All-contains, All-from_recursion}
use Rattle.std.specs.Prelude.{Contains}
use Rattle.std.specs.List.{AllByRecursion}
use Rattle.jc_bytes.specs.Counted.{counted}
use Rattle.jc_bytes.specs.Grammar.{Grammar, times}
use Rattle.jc_pool.specs.Pool.{PoolValue}
use Rattle.jc_class.specs.declared.class_file.Attribute.{Attribute}
use Rattle.jc_class.specs.declared.class_file.Member.{Member}
use Rattle.jc_class.specs.declared.class_file.ClassFile.{ClassFile}
use Rattle.jc_class.specs.ClassFormat.{HasText, HasFieldDescriptor, IsConstant, NamesPlace}
use Rattle.jc_class.specs.ClassFormat.{attribute, field_attribute, member, field, class_file}
use Rattle.jc_class.specs.ClassText.{ClassText}
use Rattle.jc_class.specs.Writable.{NamesItsConstants}

-- ---- counted items of a form are counted items of another, of which a fact holds, and back

module _ {X : Type 0} (g h : Grammar X) (Fact : X → Type 0) where
  module _ (split : (text : List ℕ) (x : X) → g.Text text x → h.Text text x × Fact x) where
    times_split : (n : ℕ) (text : List ℕ) (xs : List X) → (times n g).Text text xs → (times n h).Text text xs × AllByRecursion Fact xs
    times_split zero text xs t = (t, subst (AllByRecursion Fact) (sym t.1) tt)
    times_split (suc n) text xs t =
        let more = t.5 in
        let one = split t.1 t.0 t.4 in
        let rest = times_split n more.1 more.0 more.4 in (
          (t.0, t.1, t.2, t.3, one.0, (more.0, more.1, more.2, more.3, rest.0, more.5)),
          subst (AllByRecursion Fact) (sym more.5.1) (one.1, rest.1),
        )

    pub counted_split : (text : List ℕ) (xs : List X) → (counted g).Text text xs → (counted h).Text text xs × AllByRecursion Fact xs
    counted_split text xs t = let all = times_split t.0 t.2 xs t.5 in ((t.0, t.1, t.2, t.3, t.4, all.0), all.1)

  module _ (named : (text : List ℕ) (x : X) → Fact x → g.Text text x → h.Text text x) where
    times_named : (n : ℕ) (text : List ℕ) (xs : List X) → AllByRecursion Fact xs → (times n g).Text text xs → (times n h).Text text xs
    times_named zero text xs all t = t
    times_named (suc n) text xs all t =
        let more = t.5 in
        let each = subst (AllByRecursion Fact) more.5.1 all in
        (t.0, t.1, t.2, t.3, named t.1 t.0 each.0 t.4, (more.0, more.1, more.2, more.3, times_named n more.1 more.0 each.1 more.4, more.5))

    pub counted_named : (text : List ℕ) (xs : List X) → AllByRecursion Fact xs → (counted g).Text text xs → (counted h).Text text xs
    counted_named text xs all t = (t.0, t.1, t.2, t.3, t.4, times_named t.0 t.2 xs all t.5)

-- ---- a field

module _ (pool : PoolValue) where
  abbrev Named : ℕ → Attribute → Type 0
  Named flags a = IsConstant pool flags a.name → NamesPlace pool a.body

  attribute_split : (flags : ℕ) (text : List ℕ) (a : Attribute) → (field_attribute pool flags).Text text a
      → (attribute (HasText pool)).Text text a × Named flags a
  attribute_split flags text a t =
      let size = t.5 in
      let body = size.5 in (
        (t.0, t.1, t.2, t.3, t.4, (size.0, size.1, size.2, size.3, size.4, (body.0, body.1, body.2, body.3, (body.4.0, body.4.1), body.5))),
        subst (Named flags) (sym body.5.1) body.4.2,
      )

  attribute_joined : (flags : ℕ) (text : List ℕ) (a : Attribute) → Named flags a → (attribute (HasText pool)).Text text a
      → (field_attribute pool flags).Text text a
  attribute_joined flags text a is t =
      let size = t.5 in
      let body = size.5 in
      let own = subst (Named flags) body.5.1 is in
      (t.0, t.1, t.2, t.3, t.4, (size.0, size.1, size.2, size.3, size.4, (body.0, body.1, body.2, body.3, (body.4.0, body.4.1, own), body.5)))

  pub field_split : (text : List ℕ) (m : Member) → (field pool).Text text m
      → (member (HasText pool) (HasFieldDescriptor pool)).Text text m × NamesItsConstants pool m
  field_split text m t =
      let name = t.5 in
      let desc = name.5 in
      let attributes = desc.5 in
      let plain = attribute (HasText pool) in
      let all = counted_split (field_attribute pool t.0) plain (Named t.0) (attribute_split t.0) attributes.1 attributes.0 attributes.4 in (
        (
          t.0,
          t.1,
          t.2,
          t.3,
          t.4,
          (
            name.0,
            name.1,
            name.2,
            name.3,
            name.4,
            (
              desc.0,
              desc.1,
              desc.2,
              desc.3,
              desc.4,
              (attributes.0, attributes.1, attributes.2, attributes.3, all.0, attributes.5),
            ),
          ),
        ),
        subst (NamesItsConstants pool) (sym attributes.5.1) all.1,
      )

  field_joined : (text : List ℕ) (m : Member) → NamesItsConstants pool m
      → (member (HasText pool) (HasFieldDescriptor pool)).Text text m → (field pool).Text text m
  field_joined text m is t =
      let name = t.5 in
      let desc = name.5 in
      let attributes = desc.5 in
      let own = subst (NamesItsConstants pool) attributes.5.1 is in
      let plain = attribute (HasText pool) in
      let all = counted_named plain (field_attribute pool t.0) (Named t.0) (attribute_joined t.0) attributes.1 attributes.0 own attributes.4 in (
        t.0,
        t.1,
        t.2,
        t.3,
        t.4,
        (
          name.0,
          name.1,
          name.2,
          name.3,
          name.4,
          (
            desc.0,
            desc.1,
            desc.2,
            desc.3,
            desc.4,
            (attributes.0, attributes.1, attributes.2, attributes.3, all, attributes.5),
          ),
        ),
      )

  -- fields are members, whose constants are places, and back
  pub fields_split : (text : List ℕ) (ms : List Member) → (counted (field pool)).Text text ms
      → (counted (member (HasText pool) (HasFieldDescriptor pool))).Text text ms × AllByRecursion (NamesItsConstants pool) ms
  fields_split = counted_split (field pool) (member (HasText pool) (HasFieldDescriptor pool)) (NamesItsConstants pool) field_split

  pub fields_joined : (text : List ℕ) (ms : List Member) → AllByRecursion (NamesItsConstants pool) ms
      → (counted (member (HasText pool) (HasFieldDescriptor pool))).Text text ms → (counted (field pool)).Text text ms
  fields_joined = counted_named (member (HasText pool) (HasFieldDescriptor pool)) (field pool) (NamesItsConstants pool) field_joined

-- ---- the class file

pub constants_named : (text : List ℕ) (c : ClassFile) → ClassText text c → AllByRecursion (NamesItsConstants c.pool) c.fields
unfolding class_file
constants_named text c t =
    let pool = t.5.5.5 in
    let fields = pool.5.5.5.5.5 in
    subst (λ (k : ClassFile). AllByRecursion (NamesItsConstants k.pool) k.fields) (sym fields.5.5.5.1)
    (fields_split pool.0 fields.1 fields.0 fields.4).1

pub each_constant : (bytes : List ℕ) (c : ClassFile) (field : Member) (a : Attribute) → ClassText bytes c → Contains c.fields field
    → Contains field.attributes a → IsConstant c.pool field.flags a.name → NamesPlace c.pool a.body
each_constant bytes c field a text there among is =
    let all = All-contains (NamesItsConstants c.pool) c.fields field
    (All-from_recursion (NamesItsConstants c.pool) c.fields (constants_named bytes c text)) there in
    let Fact = Named c.pool field.flags in
    All-contains Fact field.attributes a (All-from_recursion Fact field.attributes all) among is
