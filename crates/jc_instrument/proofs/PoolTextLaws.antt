-- The texts of a pool that was read from bytes are short, and it has few places.
use Rattle.std.proofs.Common.{◌≡◌, ℕ, zero, suc, ◌-◌, ◌<◌, ◌≤◌, ◌^◌, Bool, true, false, List, [], ◌∷◌, length, Option, Some, None, refl, sym, ◌∙◌, ap, subst, arith}
use Rattle.std.specs.List.{AllByRecursion}
use Rattle.std.proofs.lemmas.Option.{none-some, same_Some}
use Rattle.jc_bytes.specs.ByteLists.{AreBytes}
use Rattle.jc_bytes.specs.Decoder.{◌>>=◌}
use Rattle.jc_bytes.specs.Texts.{IsShortText}
use Rattle.jc_bytes.proofs.OneTextLaws.{both_bytes, big_below}
use Rattle.jc_bytes.proofs.DecoderLaws.{bind_some}
use Rattle.jc_pool.specs.declared.entry.Entry.{Entry}
use Rattle.jc_pool.specs.declared.entry.Entry.TheVariants as entry
use Rattle.jc_pool.specs.EntryFormat.{IsEntry}
use Rattle.jc_pool.specs.Lookup.{entry_of, utf8_in, utf8_of, class_in, class_name_of, Signature, signature_in, signature_of, Member, HasShortTexts, ref_of, dynamic_of, member_in, member_of, const_in, const_of}
use Rattle.jc_pool.specs.Pool.{PoolValue, is_wide, IsSmall, IsFilled, IsPool}
use Rattle.jc_pool.specs.PoolGrammar.{places, behind, by_size, pool}
use Rattle.jc_pool.specs.Writing.{AreSmall, SpellsSlot}
use Rattle.jc_pool.proofs.WritingLaws.{entry_small}
use Rattle.jc_pool.proofs.OneMoreEntryLaws.{entry_past}
use Rattle.jc_class.specs.ClassFormat.{class_file}
use Rattle.jc_class.specs.ClassText.{ClassText}
use Rattle.jc_class.specs.declared.class_file.ClassFile.{ClassFile}

-- ---- from bytes

is_small : (text : List ℕ) (e : Entry) → AreBytes text → IsEntry text e → IsSmall e
is_small text (entry.Utf8 t) are is =
    let all = subst AreBytes is.parts are in
    let info = subst AreBytes is.spells.parts all.1 in
    let size = (both_bytes is.spells.size t info).0 in
    let below : length t < 256 ^ 2 = big_below 2 (length t) is.spells.size size is.spells.spells in
    omega (arith, below)
is_small text e are is = tt

-- a text of bytes spells what stands at the place
pub record IsSpelledSlot (slot : Option Entry) : Type 0 where
  pub text : List ℕ
  pub spells : SpellsSlot text slot
  pub are : AreBytes text

-- so many places, which are filled, and each text among them is short
record AreFew (n : ℕ) (slots : List (Option Entry)) : Type 0 where
  small : AreSmall slots
  count : length slots ≡ n
  filled : IsFilled slots
  each : AllByRecursion IsSpelledSlot slots

narrow_filled : (e : Entry) (rest : List (Option Entry)) → is_wide e ≡ false → IsSmall e → IsFilled rest → IsFilled (Some e ∷ rest)
narrow_filled e [] narrow small filled = (narrow, small)
narrow_filled e (None ∷ rest) narrow small filled = absurd filled
narrow_filled e (Some f ∷ rest) narrow small filled = (narrow, small, filled)

few_places : (n : ℕ) (text : List ℕ) (slots : List (Option Entry)) → AreBytes text → (places n).Text text slots → AreFew n slots
few_places zero text slots are t = subst (AreFew 0) (sym t.1) (record { small = tt; count = refl; filled = tt; each = tt })
few_places (suc zero) text slots are t =
    let bytes = both_bytes t.1 t.2 (subst AreBytes t.3 are) in
    let small = is_small t.1 t.0 bytes.0 t.4.0 in
    subst (AreFew 1) (sym t.5.1) (record {
      small = (small, tt);
      count = refl;
      filled = (t.4.1, small);
      each = (record { text = t.1; spells = t.4.0; are = bytes.0 }, tt);
    })
few_places (suc (suc n)) text slots are t =
    let bytes = both_bytes t.1 t.2 (subst AreBytes t.3 are) in
    by t.0 (is_small t.1 t.0 bytes.0 t.4) (record { text = t.1; spells = t.4; are = bytes.0 }) t.2 bytes.1 (few_places n) (few_places (suc n))
    (is_wide t.0) refl t.5
  where
    by : (e : Entry) → IsSmall e → IsSpelledSlot (Some e) → (rest : List ℕ) → AreBytes rest
        → ((text : List ℕ) (slots : List (Option Entry)) → AreBytes text → (places n).Text text slots → AreFew n slots)
        → ((text : List ℕ) (slots : List (Option Entry)) → AreBytes text → (places (suc n)).Text text slots → AreFew (suc n) slots)
        → (wide : Bool) → is_wide e ≡ wide → (by_size wide (behind (Some e ∷ None ∷ []) (places n)) (behind (Some e ∷ []) (places (suc n)))).Text rest slots
        → AreFew (suc (suc n)) slots
    by e small spelled rest all two one true wide u =
        let bytes = both_bytes u.1 u.2 (subst AreBytes u.3 all) in
        let later = two u.1 u.0 bytes.0 u.4 in
        let count = later.count in
        subst (AreFew (suc (suc n))) (sym u.5.1) (record {
          small = (small, (tt, later.small));
          count = omega (arith, count);
          filled = (wide, small, later.filled);
          each = (spelled, (record { text = []; spells = refl; are = tt }, later.each));
        })
    by e small spelled rest all two one false narrow u =
        let bytes = both_bytes u.1 u.2 (subst AreBytes u.3 all) in
        let later = one u.1 u.0 bytes.0 u.4 in
        let count = later.count in
        subst (AreFew (suc (suc n))) (sym u.5.1) (record {
          small = (small, later.small);
          count = omega (arith, count);
          filled = narrow_filled e u.0 narrow small later.filled;
          each = (spelled, later.each);
        })

pub record IsReadPool (slots : PoolValue) : Type 0 where
  pub small : AreSmall slots
  pub few : length slots < 65536
  pub is : IsPool slots
  pub each : AllByRecursion IsSpelledSlot slots

pool_read : (text : List ℕ) (slots : PoolValue) → AreBytes text → pool.Text text slots → IsReadPool slots
pool_read text slots are t =
    let bytes = both_bytes t.1 t.2 (subst AreBytes t.3 are) in
    let below : t.0 < 256 ^ 2 = big_below 2 t.0 t.1 bytes.0 t.4.0 in
    let some = t.4.1 in
    let u = t.5 in
    let behind_count = both_bytes u.1 u.2 (subst AreBytes u.3 bytes.1) in
    let later = few_places (t.0 - 1) u.1 u.0 behind_count.0 u.4 in
    let count = later.count in
    subst IsReadPool (sym u.5.1) (record {
      small = (tt, later.small);
      few = omega (arith, below, some, count);
      is = (omega (arith, below, some, count), later.filled);
      each = (record { text = []; spells = refl; are = tt }, later.each);
    })

pub class_pool : (text : List ℕ) (c : ClassFile) → AreBytes text → ClassText text c → IsReadPool c.pool
unfolding class_file
class_pool text c are t =
    let b0 = both_bytes t.1 t.2 (subst AreBytes t.3 are) in
    let minor = t.5 in
    let b1 = both_bytes minor.1 minor.2 (subst AreBytes minor.3 b0.1) in
    let major = minor.5 in
    let b2 = both_bytes major.1 major.2 (subst AreBytes major.3 b1.1) in
    let own = major.5 in
    let b3 = both_bytes own.1 own.2 (subst AreBytes own.3 b2.1) in
    let flags = own.5 in
    let this_class = flags.5 in
    let super_class = this_class.5 in
    let interfaces = super_class.5 in
    let fields = interfaces.5 in
    let methods = fields.5 in
    let attributes = methods.5 in
    let is : c.pool ≡ own.0 = ap (λ (k : ClassFile). k.pool) attributes.5.1 in
    subst IsReadPool (sym is) (pool_read own.1 own.0 b3.0 own.4)

-- ---- what its places name

pub no_class_past : (slots : PoolValue) (place : ℕ) (name : List ℕ) → length slots ≤ place → class_name_of slots place ≡ Some name → ⊥
unfolding class_name_of
no_class_past slots place name past is =
    none-some name (sym (ap (λ (o : Option Entry). o >>= λ e. class_in e >>= λ n. utf8_of slots n) (entry_past slots place past)) ∙ is)

module _ (slots : PoolValue) (small : AreSmall slots) where
  text_short : (e : Entry) (text : List ℕ) → IsSmall e → utf8_in e ≡ Some text → IsShortText text
  text_short (entry.Utf8 t) text few is =
      let same : length t ≡ length text = ap (λ (l : List ℕ). length l) (same_Some t text is) in
      omega (arith, few, same)
  text_short e text few is = absurd (none-some text is)

  pub utf8_short : (place : ℕ) (text : List ℕ) → utf8_of slots place ≡ Some text → IsShortText text
  unfolding utf8_of
  utf8_short place text is =
      let e = bind_some (entry_of slots place) utf8_in text is in
      text_short e.0 text (entry_small slots small place e.0 e.1) e.2

  pub class_short : (place : ℕ) (name : List ℕ) → class_name_of slots place ≡ Some name → IsShortText name
  unfolding class_name_of
  class_short place name is =
      let e = bind_some (entry_of slots place) (λ e. class_in e >>= λ n. utf8_of slots n) name is in
      let n = bind_some (class_in e.0) (λ n. utf8_of slots n) name e.2 in
      utf8_short n.0 name n.2

  record IsShortSignature (s : Signature) : Type 0 where
    name : IsShortText s.name
    desc : IsShortText s.desc

  abbrev named : List ℕ → ℕ → Option Signature
  named name place = utf8_of slots place >>= λ desc. Some (record { name = name; desc = desc })

  both_short : (name desc : List ℕ) (s : Signature) → IsShortText name → IsShortText desc
      → Some (record { name = name; desc = desc }) ≡ Some s → IsShortSignature s
  both_short name desc s short also is =
      subst IsShortSignature (same_Some (record { name = name; desc = desc }) s is) (record { name = short; desc = also })

  signature_short : (place : ℕ) (s : Signature) → signature_of slots place ≡ Some s → IsShortSignature s
  unfolding signature_of
  signature_short place s is =
      let e = bind_some (entry_of slots place) (λ e. signature_in e >>= λ parts. utf8_of slots parts.0 >>= λ name. named name parts.1) s is in
      let parts = bind_some (signature_in e.0) (λ parts. utf8_of slots parts.0 >>= λ name. named name parts.1) s e.2 in
      let name = bind_some (utf8_of slots parts.0.0) (λ name. named name parts.0.1) s parts.2 in
      let desc = bind_some (utf8_of slots parts.0.1) (λ desc. Some (record { name = name.0; desc = desc })) s name.2 in
      both_short name.0 desc.0 s (utf8_short parts.0.0 name.0 name.1) (utf8_short parts.0.1 desc.0 desc.1) desc.2

  abbrev with_signature : ℕ → List ℕ → ℕ → Option Member
  with_signature tag class place =
      signature_of slots place >>= λ s. Some (record { tag = tag; class = class; name = s.name; desc = s.desc })

  all_short : (tag : ℕ) (class : List ℕ) (s : Signature) (m : Member) → IsShortText class → IsShortSignature s
      → Some (record { tag = tag; class = class; name = s.name; desc = s.desc }) ≡ Some m → HasShortTexts m
  all_short tag class s m short both is =
      subst HasShortTexts (same_Some (record { tag = tag; class = class; name = s.name; desc = s.desc }) m is)
      (record { class = short; name = both.name; desc = both.desc })

  with_short : (tag : ℕ) (class : List ℕ) (place : ℕ) (m : Member) → IsShortText class → with_signature tag class place ≡ Some m
      → HasShortTexts m
  with_short tag class place m short is =
      let s = bind_some (signature_of slots place) (λ s. Some (record { tag = tag; class = class; name = s.name; desc = s.desc })) m is in
      let both = signature_short place s.0 s.1 in
      all_short tag class s.0 m short both s.2

  ref_short : (tag class place : ℕ) (m : Member) → ref_of slots tag class place ≡ Some m → HasShortTexts m
  unfolding ref_of
  ref_short tag class place m is =
      let name = bind_some (class_name_of slots class) (λ name. with_signature tag name place) m is in
      with_short tag name.0 place m (class_short class name.0 name.1) name.2

  dynamic_short : (tag place : ℕ) (m : Member) → dynamic_of slots tag place ≡ Some m → HasShortTexts m
  unfolding dynamic_of
  dynamic_short tag place m is = with_short tag [] place m (omega arith) is

  in_short : (e : Entry) (m : Member) → member_in slots e ≡ Some m → HasShortTexts m
  in_short (entry.Dynamic bootstrap place) m is = dynamic_short 17 place m is
  in_short (entry.InvokeDynamic bootstrap place) m is = dynamic_short 18 place m is
  in_short (entry.Fieldref class place) m is = ref_short 9 class place m is
  in_short (entry.Methodref class place) m is = ref_short 10 class place m is
  in_short (entry.InterfaceMethodref class place) m is = ref_short 11 class place m is
  in_short e m is = absurd (none-some m is)

  pub member_short : (place : ℕ) (m : Member) → member_of slots place ≡ Some m → HasShortTexts m
  unfolding member_of
  member_short place m is = let e = bind_some (entry_of slots place) (member_in slots) m is in in_short e.0 m e.2

-- ---- bytes

module _ (slots : PoolValue) (each : AllByRecursion IsSpelledSlot slots) where
  entry_spelled : (slots : List (Option Entry)) → AllByRecursion IsSpelledSlot slots → (place : ℕ) (e : Entry) → entry_of slots place ≡ Some e
      → IsSpelledSlot (Some e)
  entry_spelled [] all place e is = absurd (none-some e is)
  entry_spelled (slot ∷ rest) all zero e is = subst IsSpelledSlot is all.0
  entry_spelled (slot ∷ rest) all (suc place) e is = entry_spelled rest all.1 place e is

  text_are : (e : Entry) (text : List ℕ) → IsSpelledSlot (Some e) → utf8_in e ≡ Some text → AreBytes text
  text_are (entry.Utf8 t) text spelled is =
      let all = subst AreBytes spelled.spells.parts spelled.are in
      let info = subst AreBytes spelled.spells.spells.parts all.1 in
      subst AreBytes (same_Some t text is) (both_bytes spelled.spells.spells.size t info).1
  text_are e text spelled is = absurd (none-some text is)

  -- the texts of the pool are of bytes
  pub utf8_are : (place : ℕ) (text : List ℕ) → utf8_of slots place ≡ Some text → AreBytes text
  unfolding utf8_of
  utf8_are place text is =
      let e = bind_some (entry_of slots place) utf8_in text is in
      text_are e.0 text (entry_spelled slots each place e.0 e.1) e.2

  pub class_are : (place : ℕ) (name : List ℕ) → class_name_of slots place ≡ Some name → AreBytes name
  unfolding class_name_of
  class_are place name is =
      let e = bind_some (entry_of slots place) (λ e. class_in e >>= λ n. utf8_of slots n) name is in
      let n = bind_some (class_in e.0) (λ n. utf8_of slots n) name e.2 in
      utf8_are n.0 name n.2

  abbrev described : List ℕ → ℕ → Option Signature
  described name place = utf8_of slots place >>= λ desc. Some (record { name = name; desc = desc })

  signature_are : (place : ℕ) (s : Signature) → signature_of slots place ≡ Some s → AreBytes s.desc
  unfolding signature_of
  signature_are place s is =
      let e = bind_some (entry_of slots place) (λ e. signature_in e >>= λ parts. utf8_of slots parts.0 >>= λ name. described name parts.1) s is in
      let parts = bind_some (signature_in e.0) (λ parts. utf8_of slots parts.0 >>= λ name. described name parts.1) s e.2 in
      let name = bind_some (utf8_of slots parts.0.0) (λ name. described name parts.0.1) s parts.2 in
      let desc = bind_some (utf8_of slots parts.0.1) (λ desc. Some (record { name = name.0; desc = desc })) s name.2 in
      subst (λ (t : Signature). AreBytes t.desc) {x = record { name = name.0; desc = desc.0 }}
      (same_Some (record { name = name.0; desc = desc.0 }) s desc.2) (utf8_are parts.0.1 desc.0 desc.1)

  with_are : (tag : ℕ) (class : List ℕ) (place : ℕ) (m : Member)
      → (signature_of slots place >>= λ s. Some (record { tag = tag; class = class; name = s.name; desc = s.desc })) ≡ Some m → AreBytes m.desc
  with_are tag class place m is =
      let s = bind_some (signature_of slots place) (λ s. Some (record { tag = tag; class = class; name = s.name; desc = s.desc })) m is in
      subst (λ (n : Member). AreBytes n.desc) {x = record { tag = tag; class = class; name = s.0.name; desc = s.0.desc }}
      (same_Some (record { tag = tag; class = class; name = s.0.name; desc = s.0.desc }) m s.2)
      (signature_are place s.0 s.1)

  ref_are : (tag class place : ℕ) (m : Member) → ref_of slots tag class place ≡ Some m → AreBytes m.desc
  unfolding ref_of
  ref_are tag class place m is =
      let name = bind_some (class_name_of slots class)
      (λ name. signature_of slots place >>= λ s. Some (record { tag = tag; class = name; name = s.name; desc = s.desc })) m is in
      with_are tag name.0 place m name.2

  dynamic_are : (tag place : ℕ) (m : Member) → dynamic_of slots tag place ≡ Some m → AreBytes m.desc
  unfolding dynamic_of
  dynamic_are tag place m is = with_are tag [] place m is

  in_are : (e : Entry) (m : Member) → member_in slots e ≡ Some m → AreBytes m.desc
  in_are (entry.Dynamic bootstrap place) m is = dynamic_are 17 place m is
  in_are (entry.InvokeDynamic bootstrap place) m is = dynamic_are 18 place m is
  in_are (entry.Fieldref class place) m is = ref_are 9 class place m is
  in_are (entry.Methodref class place) m is = ref_are 10 class place m is
  in_are (entry.InterfaceMethodref class place) m is = ref_are 11 class place m is
  in_are e m is = absurd (none-some m is)

  pub member_are : (place : ℕ) (m : Member) → member_of slots place ≡ Some m → AreBytes m.desc
  unfolding member_of
  member_are place m is = let e = bind_some (entry_of slots place) (member_in slots) m is in in_are e.0 m e.2

-- each of these is nowhere behind the places
pub none_past : (slots : PoolValue) (place : ℕ) → length slots ≤ place
    → (member_of slots place ≡ None) × (class_name_of slots place ≡ None) × (const_of slots place ≡ None)
unfolding member_of class_name_of const_of
none_past slots place past =
    let none = entry_past slots place past in (
      ap (λ (o : Option Entry). o >>= member_in slots) none,
      ap (λ (o : Option Entry). o >>= λ e. class_in e >>= λ n. utf8_of slots n) none,
      ap (λ (o : Option Entry). o >>= const_in slots) none,
    )
