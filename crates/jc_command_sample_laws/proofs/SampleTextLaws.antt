-- The bytes of a sample are the text of its class.
use Rattle.std.proofs.Common.{◌≡◌, inr, ℕ, zero, suc, ◌+◌, ◌<◌, ◌≤◌, List, [], ◌∷◌, ◌++◌, length, map, codes, Option, Some, None, refl, sym, ◌∙◌, ap, subst, arith, append_assoc}
use Rattle.std.specs.List.{flat_map, range_with_len}
use Rattle.std.proofs.lemmas.List.{append-nil}
use Rattle.std.proofs.lemmas.List.FromFn.{length-map-range_with_len, get_or-map-range_with_len}
use Rattle.std.proofs.lemmas.Fmt.{length-decimal-le}
use Rattle.jc_bytes.specs.BigNumbers.{short, word}
use Rattle.jc_bytes.specs.Counted.{counted}
use Rattle.jc_bytes.specs.Decoder.{◌>>=◌}
use Rattle.jc_bytes.specs.Descriptor.{IsFieldType, Int, IsMethodDescriptor}
use Rattle.jc_bytes.specs.Grammar.{Grammar, times}
use Rattle.jc_bytes.specs.ItemForms.{number_where}
use Rattle.jc_bytes.specs.Modified.{IsModified}
use Rattle.jc_insn.proofs.ReadBackLaws.{big_short, big_word}
use Rattle.jc_pool.specs.declared.entry.Entry.{Entry}
use Rattle.jc_pool.specs.declared.entry.Entry.TheVariants as entry
use Rattle.jc_pool.specs.EntryFormat.{IsEntry}
use Rattle.jc_pool.specs.Lookup.{entry_of, utf8_in, utf8_of, class_name_of}
use Rattle.jc_pool.specs.Pool.{PoolValue, IsFilled, IsPool}
use Rattle.jc_pool.specs.PoolGrammar.{pool}
use Rattle.jc_pool.specs.Writing.{SpellsSlots}
use Rattle.jc_pool.proofs.WritingLaws.{pool_written}
use Rattle.jc_class.specs.ClassFormat.{HasText, HasClass, HasMethodDescriptor, attribute, field, member, class_file}
use Rattle.jc_class.specs.ClassText.{ClassText}
use Rattle.jc_command_sample_laws.specs.SampleClass.{sample_pool, sample_method, sample_class_file}
use Rattle.jc_command_sample.specs.SampleFile.{sample_class, utf8_entry, class_entry, method_name, class_entries, name_entries, attribute_text, method_code, frame_table, code_body, method_text, file_head, class_head, class_methods, sample_file}

-- ---- the pool

slots_both : (xs ys : List (Option Entry)) (a b : List ℕ) → SpellsSlots a xs → SpellsSlots b ys → SpellsSlots (a ++ b) (xs ++ ys)
slots_both [] ys a b p q = subst (λ (l : List ℕ). SpellsSlots (l ++ b) ys) (sym p) q
slots_both (x ∷ xs) ys a b (front, back, parts, first, rest) q =
    (front, back ++ b, ap (λ (l : List ℕ). l ++ b) parts ∙ append_assoc front back b, first, slots_both xs ys back b rest q)

-- one slot
one_slot : (text : List ℕ) (e : Entry) → IsEntry text e → SpellsSlots text (Some e ∷ [])
one_slot text e is = (text, [], sym (append-nil text), is, refl)

utf8_is : (text : List ℕ) → length text < 65536 → IsEntry (utf8_entry text) (entry.Utf8 text)
utf8_is text less = record { info = short (length text) ++ text; parts = refl; spells = record { size = short (length text); parts = refl; spells = big_short (length text) less } }

class_is : (name : ℕ) → name < 65536 → IsEntry (class_entry name) (entry.Class name)
class_is name less = record { info = short name; parts = refl; spells = big_short name less }

pub name_size : (k : ℕ) → k < 1000 → length (method_name k) ≤ 4
name_size k less = let digits = length-decimal-le 3 k (omega arith) (omega (arith, less)) (omega (arith, less)) in omega (arith, digits)

abbrev name_slot : ℕ → Option Entry
name_slot k = Some (entry.Utf8 (method_name k))

names_are : (a n : ℕ) → a + n ≤ 1000 → SpellsSlots (flat_map (λ k. utf8_entry (method_name k)) (range_with_len a n)) (map name_slot (range_with_len a n))
names_are a zero within = refl
names_are a (suc n) within =
    let size = name_size a (omega (arith, within)) in (
      utf8_entry (method_name a),
      flat_map (λ k. utf8_entry (method_name k)) (range_with_len (a + 1) n),
      refl,
      utf8_is (method_name a) (omega (arith, size)),
      names_are (a + 1) n (omega (arith, within)),
    )

-- the slots in front of the names
abbrev class_slots : List (Option Entry)
class_slots =
    Some (entry.Utf8 sample_class) ∷ Some (entry.Class 1)
    ∷ Some (entry.Utf8 (codes "java/lang/Object")) ∷ Some (entry.Class 3)
    ∷ Some (entry.Utf8 (codes "Code")) ∷ Some (entry.Utf8 (codes "StackMapTable")) ∷ Some (entry.Utf8 (codes "(I)I")) ∷ []

class_slots_are : SpellsSlots class_entries class_slots
unfolding class_entries
class_slots_are = (
  utf8_entry sample_class,
  _,
  refl,
  utf8_is sample_class (omega arith),
  (
    class_entry 1,
    _,
    refl,
    class_is 1 (omega arith),
    (
      utf8_entry (codes "java/lang/Object"),
      _,
      refl,
      utf8_is (codes "java/lang/Object") (omega arith),
      (
        class_entry 3,
        _,
        refl,
        class_is 3 (omega arith),
        (
          utf8_entry (codes "Code"),
          _,
          refl,
          utf8_is (codes "Code") (omega arith),
          (utf8_entry (codes "StackMapTable"), _, refl, utf8_is (codes "StackMapTable") (omega arith), one_slot _ _ (utf8_is (codes "(I)I") (omega arith))),
        ),
      ),
    ),
  ),
)

entries_are : (n : ℕ) → n ≤ 1000 → SpellsSlots (class_entries ++ name_entries n) (sample_pool n)
entries_are n within = (
  [],
  class_entries ++ name_entries n,
  refl,
  refl,
  slots_both class_slots (map name_slot (range_with_len 0 n)) class_entries (name_entries n) class_slots_are (names_are 0 n (omega (arith, within))),
)

names_filled : (a n : ℕ) → a + n ≤ 1000 → IsFilled (map name_slot (range_with_len a n))
names_filled a zero within = tt
names_filled a (suc zero) within = (refl, let size = name_size a (omega (arith, within)) in omega (arith, size))
names_filled a (suc (suc n)) within = (refl, (let size = name_size a (omega (arith, within)) in omega (arith, size)), names_filled (a + 1) (suc n) (omega (arith, within)))

is_pool : (n : ℕ) → 1 ≤ n → n ≤ 1000 → IsPool (sample_pool n)
is_pool zero some within = absurd (omega (arith, some))
is_pool (suc n) some within =
    let names = names_filled 0 (suc n) (omega (arith, within)) in (
      omega (arith, length-map-range_with_len name_slot 0 (suc n), within),
      (refl, omega arith, (refl, tt, (refl, omega arith, (refl, tt, (refl, omega arith, (refl, omega arith, (refl, omega arith, names))))))),
    )

pool_is : (n : ℕ) → 1 ≤ n → n ≤ 1000 → pool.Text (short (8 + n) ++ (class_entries ++ name_entries n)) (sample_pool n)
pool_is n some within =
    let size : 8 + n ≡ length (sample_pool n) = (let names = length-map-range_with_len name_slot 0 n in omega (arith, names)) in
    pool_written (sample_pool n) (sample_pool n) (8 + n) [] (short (8 + n)) (short (8 + n) ++ (class_entries ++ name_entries n)) refl refl size (is_pool n some within)
    (record { text = short (8 + n); parts = refl; spells = big_short (8 + n) (omega (arith, within)) })
    (record { text = class_entries ++ name_entries n; parts = refl; spells = entries_are n within })

-- ---- what stands in the pool

pub text_at : (n k : ℕ) → k < n → utf8_of (sample_pool n) (8 + k) ≡ Some (method_name k)
unfolding utf8_of
text_at n k less =
    let at = get_or-map-range_with_len name_slot 0 n k k None less (omega arith) in
    ap (λ (o : Option Entry). (do
      e ← o
      utf8_in e)) (shifted (8 + k) (omega arith) ∙ at)
  where
    shifted : (p : ℕ) → p ≡ suc (suc (suc (suc (suc (suc (suc (suc k))))))) → entry_of (sample_pool n) p ≡ entry_of (map name_slot (range_with_len 0 n)) k
    shifted p is = ap (entry_of (sample_pool n)) is

abbrev int_type : IsFieldType Int
int_type = record { named = tt; few = omega arith }

abbrev pub int_to_int : IsMethodDescriptor (codes "(I)I")
int_to_int = (
  record { parameters = Int ∷ []; returns = Some Int },
  record { parameters = (int_type, tt); returns = int_type; spelled = refl },
)

sample_modified : IsModified sample_class
sample_modified = (sample_class, omega arith, refl)

object_modified : IsModified (codes "java/lang/Object")
object_modified = (codes "java/lang/Object", omega arith, refl)

pub sample_named : (n : ℕ) → class_name_of (sample_pool n) 2 ≡ Some sample_class
unfolding class_name_of utf8_of
sample_named n = refl

has_sample : (n : ℕ) → HasClass (sample_pool n) 2
has_sample n = (sample_class, sample_named n, sample_modified)

has_object : (n : ℕ) → HasClass (sample_pool n) 4
unfolding class_name_of utf8_of
has_object n = (codes "java/lang/Object", refl, object_modified)

has_code_name : (n : ℕ) → utf8_of (sample_pool n) 5 ≡ Some (codes "Code")
unfolding utf8_of
has_code_name n = refl

pub has_frames_name : (n : ℕ) → utf8_of (sample_pool n) 6 ≡ Some (codes "StackMapTable")
unfolding utf8_of
has_frames_name n = refl

pub has_type : (n : ℕ) → utf8_of (sample_pool n) 7 ≡ Some (codes "(I)I")
unfolding utf8_of
has_type n = refl

-- ---- parts that are counted

pub none_counted : {X : Type 0} (g : Grammar X) → (counted g).Text (short 0) []
none_counted g = (0, short 0, [], sym (append-nil (short 0)), big_short 0 (omega arith), (refl, refl))

pub one_counted : {X : Type 0} (g : Grammar X) (text : List ℕ) (x : X) → g.Text text x → (counted g).Text (short 1 ++ text) (x ∷ [])
one_counted g text x is = (1, short 1, text, refl, big_short 1 (omega arith), (x, text, [], sym (append-nil text), is, ([], [], [], refl, (refl, refl), (refl, refl))))

pub attribute_is : (HasName : ℕ → Type 0) (name : ℕ) (body : List ℕ) → name < 65536 → length body < 4294967296 → HasName name
    → (attribute HasName).Text (attribute_text name body) (record { name = name; body = body })
attribute_is HasName name body small short_body has = (
  name,
  short name,
  word (length body) ++ body,
  refl,
  (big_short name small, has),
  (length body, word (length body), body, refl, big_word (length body) short_body, (body, body, [], sym (append-nil body), (refl, refl), (refl, refl))),
)

-- ---- the methods

pub body_size : (k : ℕ) → length (code_body k) ≡ 35
unfolding code_body method_code frame_table short word
body_size k = refl

method_is : (n k : ℕ) → n ≤ 1000 → k < n → (member (HasText (sample_pool n)) (HasMethodDescriptor (sample_pool n))).Text (method_text k) (sample_method k)
unfolding method_text
method_is n k within less =
    let attributes = short 1 ++ attribute_text 5 (code_body k) in
    let size = body_size k in (
      9,
      short 9,
      short (8 + k) ++ (short 7 ++ attributes),
      refl,
      big_short 9 (omega arith),
      (
        8 + k,
        short (8 + k),
        short 7 ++ attributes,
        refl,
        (big_short (8 + k) (omega (arith, within, less)), (method_name k, text_at n k less)),
        (
          7,
          short 7,
          attributes,
          refl,
          (big_short 7 (omega arith), (codes "(I)I", has_type n, int_to_int)),
          (
            record { name = 5; body = code_body k } ∷ [],
            attributes,
            [],
            sym (append-nil attributes),
            one_counted (attribute (HasText (sample_pool n))) (attribute_text 5 (code_body k)) (record { name = 5; body = code_body k })
                (attribute_is (HasText (sample_pool n)) 5 (code_body k) (omega arith) (omega (arith, size)) (codes "Code", has_code_name n)),
            (refl, refl),
          ),
        ),
      ),
    )

methods_are : (n : ℕ) → n ≤ 1000 → (a m : ℕ) → a + m ≤ n
    → (times m (member (HasText (sample_pool n)) (HasMethodDescriptor (sample_pool n)))).Text (flat_map method_text (range_with_len a m)) (map sample_method (range_with_len a m))
methods_are n within a zero room = (refl, refl)
methods_are n within a (suc m) room = (
  sample_method a,
  method_text a,
  flat_map method_text (range_with_len (a + 1) m),
  refl,
  method_is n a within (omega (arith, room)),
  (
    map sample_method (range_with_len (a + 1) m),
    flat_map method_text (range_with_len (a + 1) m),
    [],
    sym (append-nil (flat_map method_text (range_with_len (a + 1) m))),
    methods_are n within (a + 1) m (omega (arith, room)),
    (refl, refl),
  ),
)

-- ---- the whole

pub sample_is_text : (n : ℕ) → 1 ≤ n → n ≤ 1000 → ClassText (sample_file n) (sample_class_file n)
unfolding sample_file file_head class_head class_methods class_file
sample_is_text n some within =
    let p : PoolValue = sample_pool n in
    let pool_text : List ℕ = short (8 + n) ++ (class_entries ++ name_entries n) in
    let methods : List ℕ = flat_map method_text (range_with_len 0 n) in
    let back : List ℕ = short n ++ (methods ++ short 0) in
    let tail : List ℕ = (short 0x0021 ++ (short 2 ++ (short 4 ++ (short 0 ++ short 0)))) ++ back in (
      tt,
      word 0xcafebabe,
      (short 0 ++ (short 52 ++ pool_text)) ++ tail,
      append_assoc (word 0xcafebabe) (short 0 ++ (short 52 ++ pool_text)) tail,
      big_word 0xcafebabe (omega arith),
      (
        0,
        short 0,
        (short 52 ++ pool_text) ++ tail,
        append_assoc (short 0) (short 52 ++ pool_text) tail,
        big_short 0 (omega arith),
        (
          52,
          short 52,
          pool_text ++ tail,
          append_assoc (short 52) pool_text tail,
          big_short 52 (omega arith),
          (
            p,
            pool_text,
            tail,
            refl,
            pool_is n some within,
            (
              0x0021,
              short 0x0021,
              (short 2 ++ (short 4 ++ (short 0 ++ short 0))) ++ back,
              append_assoc (short 0x0021) (short 2 ++ (short 4 ++ (short 0 ++ short 0))) back,
              big_short 0x0021 (omega arith),
              (
                2,
                short 2,
                (short 4 ++ (short 0 ++ short 0)) ++ back,
                append_assoc (short 2) (short 4 ++ (short 0 ++ short 0)) back,
                (big_short 2 (omega arith), has_sample n),
                (
                  4,
                  short 4,
                  (short 0 ++ short 0) ++ back,
                  append_assoc (short 4) (short 0 ++ short 0) back,
                  (big_short 4 (omega arith), inr (has_object n)),
                  (
                    [],
                    short 0,
                    short 0 ++ back,
                    append_assoc (short 0) (short 0) back,
                    none_counted (number_where (HasClass p)),
                    (
                      [],
                      short 0,
                      back,
                      refl,
                      none_counted (field p),
                      (
                        map sample_method (range_with_len 0 n),
                        short n ++ methods,
                        short 0,
                        sym (append_assoc (short n) methods (short 0)),
                        (n, short n, methods, refl, big_short n (omega (arith, within)), methods_are n within 0 n (omega arith)),
                        ([], short 0, [], sym (append-nil (short 0)), none_counted (attribute (HasText p)), (refl, refl)),
                      ),
                    ),
                  ),
                ),
              ),
            ),
          ),
        ),
      ),
    )
