-- What the writing of a class file appends.
use Rattle.std.proofs.Common.{◌≡◌, ℕ, ◌+◌, ◌<◌, List, [], ◌++◌, length, drop, get_or, refl, subst}
use Rattle.std.specs.List.{AllByRecursion}
use Rattle.jc_bytes.specs.Appending.{Appends, Appended}
use Rattle.jc_bytes.specs.Counted.{counted}
use Rattle.jc_bytes.specs.Decoder.{IsBig}
use Rattle.jc_bytes.specs.ItemForms.{number_where}
use Rattle.jc_bytes.specs.Grammar.{Grammar, times}
use Rattle.jc_bytes.proofs.AppendingLaws.{joined, ended, Writing, drop_is, writing_begun, writes_next}
use Rattle.jc_class.specs.declared.class_file.Attribute.{Attribute}
use Rattle.jc_class.specs.declared.class_file.Member.{Member}
use Rattle.jc_class.specs.ClassFormat.{attribute, member}
use Rattle.jc_class.specs.Writable.{Anything}

pub interface_put : (n : ℕ) (old new : List ℕ) → Appends (λ text. IsBig 2 text n) old new → Appended (number_where Anything) n old new
interface_put n old new a = record { text = a.text; parts = a.parts; spells = (a.spells, tt) }

-- a count, and so many parts
pub counted_put : {X : Type 0} (g : Grammar X) (n : ℕ) (xs : List X) (old mid new : List ℕ) → n ≡ length xs
    → Appends (λ text. IsBig 2 text n) old mid → Appended (times (length xs) g) xs mid new → Appended (counted g) xs old new
counted_put g n xs old mid new is a b = record {
  text = a.text ++ b.text;
  parts = joined old mid new a.text b.text a.parts b.parts;
  spells = (length xs, a.text, b.text, refl, subst (IsBig 2 a.text) is a.spells, b.spells);
}

pub attribute_put : (a : Attribute) (size : ℕ) (old mid last new : List ℕ) → size ≡ length a.body → Appends (λ text. IsBig 2 text a.name) old mid
    → Appends (λ text. IsBig 4 text size) mid last → new ≡ last ++ a.body → Appended (attribute Anything) a old new
attribute_put a size old mid last new is name count body = record {
  text = name.text ++ (count.text ++ (a.body ++ []));
  parts = joined old mid new name.text (count.text ++ (a.body ++ [])) name.parts (joined mid last new count.text (a.body ++ []) count.parts (ended last new a.body body));
  spells = (
    a.name,
    name.text,
    count.text ++ (a.body ++ []),
    refl,
    (name.spells, tt),
    (
      length a.body,
      count.text,
      a.body ++ [],
      refl,
      subst (IsBig 4 count.text) is count.spells,
      (a.body, a.body, [], refl, (refl, refl), (refl, refl)),
    ),
  );
}

pub member_put : (m : Member) (old a b c new : List ℕ) → Appends (λ text. IsBig 2 text m.flags) old a → Appends (λ text. IsBig 2 text m.name) a b
    → Appends (λ text. IsBig 2 text m.desc) b c → Appended (counted (attribute Anything)) m.attributes c new → Appended (member Anything Anything) m old new
member_put m old a b c new flags name desc attributes = record {
  text = flags.text ++ (name.text ++ (desc.text ++ (attributes.text ++ [])));
  parts = joined old a new flags.text _ flags.parts (joined a b new name.text _ name.parts (joined b c new desc.text _ desc.parts (ended c new attributes.text attributes.parts)));
  spells = (
    m.flags,
    flags.text,
    name.text ++ (desc.text ++ (attributes.text ++ [])),
    refl,
    flags.spells,
    (
      m.name,
      name.text,
      desc.text ++ (attributes.text ++ []),
      refl,
      (name.spells, tt),
      (
        m.desc,
        desc.text,
        attributes.text ++ [],
        refl,
        (desc.spells, tt),
        (m.attributes, attributes.text, [], refl, attributes.spells, (refl, refl)),
      ),
    ),
  );
}

-- ---- loops

-- the items that are left can be written
pub record Puts {X : Type 0} (Fact : X → Type 0) (g : Grammar X) (all : List X) (i : ℕ) (old now : List ℕ) : Type 0 where
  pub writes : Writing g all old (drop i all) now
  pub fit : AllByRecursion Fact (drop i all)

pub puts_begun : {X : Type 0} (Fact : X → Type 0) (g : Grammar X) (all : List X) (old : List ℕ) → AllByRecursion Fact all → Puts Fact g all 0 old old
puts_begun Fact g all old fit = record { writes = writing_begun g all old; fit = fit }

pub next_fits : {X : Type 0} (Fact : X → Type 0) (g : Grammar X) (all : List X) (i : ℕ) (old now : List ℕ) (x : X) → i < length all → x ≡ get_or all i x → Puts Fact g all i old now → Fact x
next_fits Fact g all i old now x room is p = (subst (AllByRecursion Fact) (drop_is all i x room is) p.fit).0

pub puts_more : {X : Type 0} (Fact : X → Type 0) (g : Grammar X) (all : List X) (i : ℕ) (old now next : List ℕ) (x : X) → i < length all
    → x ≡ get_or all i x → Appended g x now next → Puts Fact g all i old now → Puts Fact g all (i + 1) old next
puts_more Fact g all i old now next x room is a p = record {
  writes = writes_next g all old i x now next (drop_is all i x room is) a p.writes;
  fit = (subst (AllByRecursion Fact) (drop_is all i x room is) p.fit).1;
}
