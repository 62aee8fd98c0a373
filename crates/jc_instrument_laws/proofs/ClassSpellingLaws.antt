-- A class file whose numbers fit has a text of bytes.
use Rattle.std.proofs.Common.{◌≡◌, ◌⊎◌, inl, inr, ℕ, zero, suc, ◌<◌, ◌≤◌, ◌/◌, ◌^◌, List, [], ◌∷◌, ◌++◌, length, Some, refl, sym, ◌∙◌, subst, arith}
use Rattle.std.specs.List.{AllByRecursion}
use Rattle.std.proofs.Math.Nat.{mod-lt}
use Rattle.std.proofs.lemmas.Bool.{cases_lt}
use Rattle.std.proofs.lemmas.Option.{none-some}
use Rattle.std.specs.Int.{byte_at, bytes_high_first}
use Rattle.jc_bytes.specs.Appending.{Appends}
use Rattle.jc_bytes.specs.ByteLists.{AreBytes}
use Rattle.jc_bytes.specs.Counted.{counted}
use Rattle.jc_bytes.specs.Decoder.{IsBig}
use Rattle.jc_bytes.specs.Grammar.{Grammar, times}
use Rattle.jc_bytes.specs.ItemForms.{number_where}
use Rattle.jc_bytes.proofs.AppendingLaws.{big_spells}
use Rattle.jc_pool.specs.Lookup.{utf8_of}
use Rattle.jc_pool.specs.Pool.{PoolValue}
use Rattle.jc_pool.specs.PoolGrammar as pools
use Rattle.jc_pool.proofs.OneMoreEntryLaws.{utf8_past}
use Rattle.jc_class.specs.ClassFormat.{attribute, member, HasText, HasClass, HasFieldDescriptor, HasMethodDescriptor, HasSuper}
use Rattle.jc_class.specs.ClassText.{ClassText}
use Rattle.jc_class.specs.Writable.{Anything, IsAttribute, IsMember, IsClassFile}
use Rattle.jc_class.specs.declared.class_file.Attribute.{Attribute}
use Rattle.jc_class.specs.declared.class_file.ClassFile.{ClassFile}
use Rattle.jc_class.specs.declared.class_file.Member.{Member}
use Rattle.jc_class.proofs.NamedLaws.{class_put}
use Rattle.jc_class.proofs.ReadClassLaws.{IsOfBytes}
use Rattle.jc_instrument.proofs.PoolTextLaws.{no_class_past}

-- ---- bytes

pub bytes_both : (a b : List ℕ) → AreBytes a → AreBytes b → AreBytes (a ++ b)
bytes_both [] b p q = q
bytes_both (x ∷ a) b p q = (p.0, bytes_both a b p.1 q)

byte_small : (k x : ℕ) → byte_at k x < 256
byte_small zero x = mod-lt x (let e : zero < 256 = omega arith in e)
byte_small (suc k) x = mod-lt (x / 256 ^ suc k) (let e : zero < 256 = omega arith in e)

pub big_bytes_are : (n x : ℕ) → AreBytes (bytes_high_first n x)
big_bytes_are zero x = tt
big_bytes_are (suc n) x = (byte_small n x, big_bytes_are n x)

-- ---- values with a text of bytes

pub record Spelled {X : Type 0} (g : Grammar X) (x : X) : Type 0 where
  pub text : List ℕ
  pub spells : g.Text text x
  pub are : AreBytes text

pub record SpelledNumber (n x : ℕ) : Type 0 where
  pub text : List ℕ
  pub spells : IsBig n text x
  pub are : AreBytes text

pub spelled_number : (n x : ℕ) → x < 256 ^ n → SpelledNumber n x
spelled_number n x fits = record { text = bytes_high_first n x; spells = big_spells n x fits; are = big_bytes_are n x }

pub short_number : (x : ℕ) → x < 65536 → SpelledNumber 2 x
short_number x fits = spelled_number 2 x (omega (arith, fits))

module _ {X : Type 0} (g : Grammar X) where
  spelled_times : (xs : List X) → AllByRecursion (Spelled g) xs → Spelled (times (length xs) g) xs
  spelled_times [] all = record { text = []; spells = (refl, refl); are = tt }
  spelled_times (x ∷ xs) all =
      let more = spelled_times xs all.1 in
      record {
        text = all.0.text ++ (more.text ++ []);
        spells = (x, all.0.text, more.text ++ [], refl, all.0.spells, (xs, more.text, [], refl, more.spells, (refl, refl)));
        are = bytes_both all.0.text (more.text ++ []) all.0.are (bytes_both more.text [] more.are tt);
      }

  spelled_counted : (xs : List X) → length xs ≤ 65535 → AllByRecursion (Spelled g) xs → Spelled (counted g) xs
  spelled_counted xs few all =
      let count = short_number (length xs) (omega (arith, few)) in
      let more = spelled_times xs all in
      record {
        text = count.text ++ more.text;
        spells = (length xs, count.text, more.text, refl, count.spells, more.spells);
        are = bytes_both count.text more.text count.are more.are;
      }

-- ---- the parts of a class file, whatever they name

-- the name's place is a number of two bytes, and the text is short and of bytes
pub record IsPlainAttribute (a : Attribute) : Type 0 where
  pub name : a.name < 65536
  pub size : length a.body ≤ 4294967295
  pub are : AreBytes a.body

pub record IsPlainMember (m : Member) : Type 0 where
  pub flags : m.flags < 65536
  pub name : m.name < 65536
  pub desc : m.desc < 65536
  pub few : length m.attributes ≤ 65535
  pub attributes : AllByRecursion IsPlainAttribute m.attributes

spelled_attribute : (a : Attribute) → IsPlainAttribute a → Spelled (attribute Anything) a
spelled_attribute a is =
    let name = short_number a.name is.name in
    let few = is.size in
    let size = spelled_number 4 (length a.body) (omega (arith, few)) in
    record {
      text = name.text ++ (size.text ++ (a.body ++ []));
      spells = (
        a.name,
        name.text,
        size.text ++ (a.body ++ []),
        refl,
        (name.spells, tt),
        (length a.body, size.text, a.body ++ [], refl, size.spells, (a.body, a.body, [], refl, (refl, refl), (refl, refl))),
      );
      are = bytes_both name.text _ name.are (bytes_both size.text _ size.are (bytes_both a.body [] is.are tt));
    }

spelled_attributes : (l : List Attribute) → AllByRecursion IsPlainAttribute l → AllByRecursion (Spelled (attribute Anything)) l
spelled_attributes [] all = tt
spelled_attributes (a ∷ l) all = (spelled_attribute a all.0, spelled_attributes l all.1)

spelled_member : (m : Member) → IsPlainMember m → Spelled (member Anything Anything) m
spelled_member m is =
    let flags = short_number m.flags is.flags in
    let name = short_number m.name is.name in
    let desc = short_number m.desc is.desc in
    let attributes = spelled_counted (attribute Anything) m.attributes is.few (spelled_attributes m.attributes is.attributes) in
    let rest = attributes.text ++ [] in
    record {
      text = flags.text ++ (name.text ++ (desc.text ++ rest));
      spells = (
        m.flags,
        flags.text,
        name.text ++ (desc.text ++ rest),
        refl,
        flags.spells,
        (
          m.name,
          name.text,
          desc.text ++ rest,
          refl,
          (name.spells, tt),
          (m.desc, desc.text, rest, refl, (desc.spells, tt), (m.attributes, attributes.text, [], refl, attributes.spells, (refl, refl))),
        ),
      );
      are = bytes_both flags.text _ flags.are
          (bytes_both name.text _ name.are (bytes_both desc.text rest desc.are (bytes_both attributes.text [] attributes.are tt)));
    }

spelled_members : (l : List Member) → AllByRecursion IsPlainMember l → AllByRecursion (Spelled (member Anything Anything)) l
spelled_members [] all = tt
spelled_members (m ∷ l) all = (spelled_member m all.0, spelled_members l all.1)

spelled_interfaces : (l : List ℕ) → AllByRecursion (λ place. place < 65536) l → AllByRecursion (Spelled (number_where Anything)) l
spelled_interfaces [] all = tt
spelled_interfaces (place ∷ l) all =
    let n = short_number place all.0 in
    (record { text = n.text; spells = (n.spells, tt); are = n.are }, spelled_interfaces l all.1)

-- ---- places that are named

module _ (pool : PoolValue) (few : length pool ≤ 65535) where
  pub text_fits : (place : ℕ) (text : List ℕ) → utf8_of pool place ≡ Some text → place < 65536
  text_fits place text is = by (cases_lt place (length pool))
    where
      by : (place < length pool) ⊎ (length pool ≤ place) → place < 65536
      by (inl within) = omega (arith, within, few)
      by (inr past) = absurd (none-some text (sym (utf8_past pool place past) ∙ is))

  class_fits : (place : ℕ) → HasClass pool place → place < 65536
  class_fits place has = by (cases_lt place (length pool))
    where
      by : (place < length pool) ⊎ (length pool ≤ place) → place < 65536
      by (inl within) = omega (arith, within, few)
      by (inr past) = absurd (no_class_past pool place has.0 past has.1)

  super_fits : (place : ℕ) → HasSuper pool place → place < 65536
  super_fits place (inl none) = omega (arith, none)
  super_fits place (inr has) = class_fits place has

  interfaces_fit : (l : List ℕ) → AllByRecursion (HasClass pool) l → AllByRecursion (λ place. place < 65536) l
  interfaces_fit [] all = tt
  interfaces_fit (place ∷ l) all = (class_fits place all.0, interfaces_fit l all.1)

  plain_attributes : (l : List Attribute) → AllByRecursion (IsAttribute (HasText pool)) l → AllByRecursion (λ a. AreBytes a.body) l
      → AllByRecursion IsPlainAttribute l
  plain_attributes [] all are = tt
  plain_attributes (a ∷ l) all are = (
    record { name = text_fits a.name all.0.name.0 all.0.name.1; size = all.0.size; are = are.0 },
    plain_attributes l all.1 are.1,
  )

module _ (pool : PoolValue) (few : length pool ≤ 65535) (HasDescriptor : ℕ → Type 0)
    (fits : (place : ℕ) → HasDescriptor place → place < 65536) where
  plain_members : (l : List Member) → AllByRecursion (IsMember (HasText pool) HasDescriptor) l → AllByRecursion IsOfBytes l → AllByRecursion IsPlainMember l
  plain_members [] all are = tt
  plain_members (m ∷ l) all are = (
    record {
      flags = are.0.flags;
      name = text_fits pool few m.name all.0.name.0 all.0.name.1;
      desc = fits m.desc all.0.desc;
      few = all.0.attributes.few;
      attributes = plain_attributes pool few m.attributes all.0.attributes.each are.0.attributes;
    },
    plain_members l all.1 are.1,
  )

-- ---- the whole

-- the numbers that name nothing fit into two bytes, the texts of attributes are of bytes, and the pool has a text
pub record IsSpellable (c : ClassFile) : Type 0 where
  pub minor : c.minor < 65536
  pub major : c.major < 65536
  pub flags : c.flags < 65536
  pub few : length c.pool ≤ 65535
  pub pool : Spelled pools.pool c.pool
  pub fields : AllByRecursion IsOfBytes c.fields
  pub methods : AllByRecursion IsOfBytes c.methods
  pub attributes : AllByRecursion (λ a. AreBytes a.body) c.attributes

put : (Spells : List ℕ → Type 0) (old text : List ℕ) → Spells text → Appends Spells old (old ++ text)
put Spells old text spells = record { text = text; parts = refl; spells = spells }

the_text : (c : ClassFile) (all : List ℕ) → AreBytes all → Appends (λ text. ClassText text c) [] all → (text : List ℕ) × ClassText text c × AreBytes text
the_text c all are whole = (whole.text, whole.spells, subst AreBytes whole.parts are)

pub class_spelled : (c : ClassFile) → IsClassFile c → IsSpellable c → (text : List ℕ) × ClassText text c × AreBytes text
class_spelled c is s =
    let magic = spelled_number 4 0xcafebabe (omega arith) in
    let minor = short_number c.minor s.minor in
    let major = short_number c.major s.major in
    let flags = short_number c.flags s.flags in
    let this_class = short_number c.this_class (class_fits c.pool s.few c.this_class is.this_class) in
    let super_class = short_number c.super_class (super_fits c.pool s.few c.super_class is.super_class) in
    let interfaces = spelled_counted (number_where Anything) c.interfaces is.interfaces.few
    (spelled_interfaces c.interfaces (interfaces_fit c.pool s.few c.interfaces is.interfaces.each)) in
    let fields = spelled_counted (member Anything Anything) c.fields is.fields.few
    (spelled_members c.fields (plain_members c.pool s.few (HasFieldDescriptor c.pool) (λ place has. text_fits c.pool s.few place has.0 has.1) c.fields
    is.fields.each s.fields)) in
    let methods = spelled_counted (member Anything Anything) c.methods is.methods.few
    (spelled_members c.methods (plain_members c.pool s.few (HasMethodDescriptor c.pool) (λ place has. text_fits c.pool s.few place has.0 has.1) c.methods
    is.methods.each s.methods)) in
    let attributes = spelled_counted (attribute Anything) c.attributes is.attributes.few
    (spelled_attributes c.attributes (plain_attributes c.pool s.few c.attributes is.attributes.each s.attributes)) in
    let s1 = magic.text in
    let s2 = s1 ++ minor.text in
    let s3 = s2 ++ major.text in
    let s4 = s3 ++ s.pool.text in
    let s5 = s4 ++ flags.text in
    let s6 = s5 ++ this_class.text in
    let s7 = s6 ++ super_class.text in
    let s8 = s7 ++ interfaces.text in
    let s9 = s8 ++ fields.text in
    let s10 = s9 ++ methods.text in
    let all = s10 ++ attributes.text in
    let whole = class_put c is [] s1 s2 s3 s4 s5 s6 s7 s8 s9 s10 all
    (put (λ text. IsBig 4 text 0xcafebabe) [] s1 magic.spells)
    (put (λ text. IsBig 2 text c.minor) s1 minor.text minor.spells)
    (put (λ text. IsBig 2 text c.major) s2 major.text major.spells)
    (put (λ text. pools.pool.Text text c.pool) s3 s.pool.text s.pool.spells)
    (put (λ text. IsBig 2 text c.flags) s4 flags.text flags.spells)
    (put (λ text. IsBig 2 text c.this_class) s5 this_class.text this_class.spells)
    (put (λ text. IsBig 2 text c.super_class) s6 super_class.text super_class.spells)
    (put (λ text. (counted (number_where Anything)).Text text c.interfaces) s7 interfaces.text interfaces.spells)
    (put (λ text. (counted (member Anything Anything)).Text text c.fields) s8 fields.text fields.spells)
    (put (λ text. (counted (member Anything Anything)).Text text c.methods) s9 methods.text methods.spells)
    (put (λ text. (counted (attribute Anything)).Text text c.attributes) s10 attributes.text attributes.spells) in
    let are : AreBytes all =
    bytes_both s10 attributes.text (bytes_both s9 methods.text (bytes_both s8 fields.text (bytes_both s7 interfaces.text
    (bytes_both s6 super_class.text (bytes_both s5 this_class.text (bytes_both s4 flags.text (bytes_both s3 s.pool.text
    (bytes_both s2 major.text (bytes_both s1 minor.text magic.are minor.are) major.are) s.pool.are) flags.are) this_class.are)
    super_class.are) interfaces.are) fields.are) methods.are) attributes.are in
    the_text c all are whole
