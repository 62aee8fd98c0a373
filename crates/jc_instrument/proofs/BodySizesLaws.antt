-- A body of a class whose text is no longer than what is read is well made.
use Rattle.std.proofs.Common.{◌≡◌, ◌⊎◌, inl, inr, ℕ, zero, suc, ◌+◌, ◌*◌, ◌≤◌, Bool, List, [], ◌∷◌, ◌++◌, length, map, filter, sym, ◌∙◌, ap, subst, arith, length-append}
use Rattle.std.specs.Prelude.{codes}
use Rattle.std.specs.List.{sum_by}
use Rattle.std.proofs.lemmas.List.{length-map}
use Rattle.std.proofs.lemmas.List.Sums.{sum_by-cons, length-filter, count_by-le-length}
use Rattle.std.proofs.Math.Nat.{mul-add, mul-one, mul-zero}
use Rattle.jc_bytes.specs.Counted.{counted}
use Rattle.jc_bytes.specs.Decoder.{IsBig}
use Rattle.jc_bytes.specs.Grammar.{Grammar}
use Rattle.jc_methods.specs.VerificationTypes.{Names, TypeStateAt, type_state_at}
use Rattle.jc_bytes.specs.Reader.{most_read}
use Rattle.jc_methods.specs.Starts.{insn_number}
use Rattle.jc_methods.specs.WellMade.{HasSizes, IsWellMade, insns_and_arms}
use Rattle.jc_methods.specs.declared.body.Body.{Body}
use Rattle.jc_methods.specs.declared.body.Handler.{Handler}
use Rattle.jc_methods.specs.declared.body.LineAt.{LineAt}
use Rattle.jc_methods.specs.declared.body.VarAt.{VarAt}
use Rattle.jc_pool.specs.Pool.{PoolValue}
use Rattle.jc_class.specs.ClassFormat.{HasText}
use Rattle.jc_class.specs.declared.class_file.Attribute.{Attribute}
use Rattle.jc_class.specs.declared.class_file.ClassFile.{ClassFile}
use Rattle.jc_class.specs.declared.class_file.Member.{Member}
use Rattle.jc_insn.proofs.InsnCountLaws.{code_size}
use Rattle.jc_frames.specs.Frames.{Ground, Before, first_before}
use Rattle.jc_frames.specs.Table.{AreFrames, StandsFor}
use Rattle.jc_frames.specs.TableForm.{frame_item}
use Rattle.jc_frames.specs.declared.items.FrameItem.{FrameItem}
use Rattle.jc_body.specs.Attributes.{has_name, bodies_of, AreEntries}
use Rattle.jc_body.specs.BodyOf.{handler_of, line_of, var_of, keeps_line, keeps_var, places_used, IsBody}
use Rattle.jc_body.specs.CodeForm.{row, code_form, line_entry, line_table, var_entry, var_table}
use Rattle.jc_body.specs.Coded.{HasCode}
use Rattle.jc_body.specs.StackMap.{HasFrames, stack_maps, ground_of}
use Rattle.jc_body.specs.declared.coded.Coded.{Coded}
use Rattle.jc_body.specs.declared.items.CodeItems.{CodeItems}
use Rattle.jc_body.specs.declared.items.LineEntry.{LineEntry}
use Rattle.jc_body.specs.declared.items.Row.{Row}
use Rattle.jc_body.specs.declared.items.VarEntry.{VarEntry}
use Rattle.jc_body.proofs.WellMadeLaws.{well_made}
use Rattle.jc_instrument.proofs.PoolTextLaws.{IsReadPool, utf8_short, class_short}
use Rattle.jc_instrument.proofs.UsedTextsLaws.{uses_short, uses_few}
use Rattle.jc_instrument.proofs.TextSizesLaws.{in_two, counted_size, attributes_size, texts_size, counted_attributes, some_size, method_size}

-- ---- the code attribute

-- two bytes, and what stands behind them
behind_two : (bytes front rest : List ℕ) (n : ℕ) → bytes ≡ front ++ rest → IsBig 2 front n → length bytes ≡ 2 + length rest
behind_two bytes front rest n parts big = let both = in_two bytes front rest parts in let size = big.size in omega (arith, both, size)

row_some : (text : List ℕ) (r : Row) → row.Text text r → 8 ≤ length text
row_some text r t =
    let end = t.5 in
    let target = end.5 in
    let class = target.5 in
    let one = behind_two text t.1 t.2 t.0 t.3 t.4 in
    let two = behind_two t.2 end.1 end.2 end.0 end.3 end.4 in
    let three = behind_two end.2 target.1 target.2 target.0 target.3 target.4 in
    let four = behind_two target.2 class.1 class.2 class.0 class.3 class.4 in
    omega (arith, one, two, three, four)

line_some : (text : List ℕ) (e : LineEntry) → line_entry.Text text e → 4 ≤ length text
line_some text e t =
    let line = t.5 in
    let one = behind_two text t.1 t.2 t.0 t.3 t.4 in
    let two = behind_two t.2 line.1 line.2 line.0 line.3 line.4 in
    omega (arith, one, two)

var_some : (text : List ℕ) (e : VarEntry) → var_entry.Text text e → 10 ≤ length text
var_some text e t =
    let count = t.5 in
    let name = count.5 in
    let desc = name.5 in
    let slot = desc.5 in
    let one = behind_two text t.1 t.2 t.0 t.3 t.4 in
    let two = behind_two t.2 count.1 count.2 count.0 count.3 count.4 in
    let three = behind_two count.2 name.1 name.2 name.0 name.3 name.4 in
    let four = behind_two name.2 desc.1 desc.2 desc.0 desc.3 desc.4 in
    let five = behind_two desc.2 slot.1 slot.2 slot.0 slot.3 slot.4 in
    omega (arith, one, two, three, four, five)

frame_some : (text : List ℕ) (item : FrameItem) → frame_item.Text text item → 1 ≤ length text
unfolding frame_item
frame_some text item t = let one = in_two text t.1 t.2 t.3 in let size = t.4.size in omega (arith, one, size)

-- items of one size
alike : {X : Type 0} (k : ℕ) (xs : List X) → sum_by (λ _. k) xs ≡ k * length xs
alike k [] = sym (mul-zero k)
alike k (x ∷ xs) =
    let is = sum_by-cons (λ _. k) x xs in
    let rest = alike k xs in
    let split = mul-add k 1 (length xs) in
    let once = mul-one k in
    let next = ap (λ (n : ℕ). k * n) (let e : suc (length xs) ≡ 1 + length xs = omega arith in e) in
    omega (arith, is, rest, split, once, next)

-- items of which each takes so many bytes or more
counted_few : {X : Type 0} (k : ℕ) (g : Grammar X) → ((text : List ℕ) (x : X) → g.Text text x → k ≤ length text)
    → (text : List ℕ) (xs : List X) → (counted g).Text text xs → k * length xs ≤ length text
counted_few k g some text xs t = let most = counted_size g (λ _. k) some text xs t in let count = alike k xs in omega (arith, most, count)

lines_few : (text : List ℕ) (entries : List LineEntry) → line_table.Text text entries → 4 * length entries ≤ length text
unfolding line_table
lines_few text entries t = counted_few 4 line_entry line_some text entries t

vars_few : (text : List ℕ) (entries : List VarEntry) → var_table.Text text entries → 10 * length entries ≤ length text
unfolding var_table
vars_few text entries t = counted_few 10 var_entry var_some text entries t

-- no part of it is longer than it is
record AreWithin (most : ℕ) (items : CodeItems) : Type 0 where
  code : length items.code ≤ most
  rows : 8 * length items.rows ≤ most
  attributes : attributes_size items.attributes ≤ most

items_within : (pool : PoolValue) (bytes : List ℕ) (items : CodeItems) → (code_form pool).Text bytes items
    → AreWithin (length bytes) items
unfolding code_form
items_within pool bytes items t =
    let locals = t.5 in
    let size = locals.5 in
    let code = size.5 in
    let rows = code.5 in
    let attributes = rows.5 in
    let s0 = in_two bytes t.1 t.2 t.3 in
    let s1 = in_two t.2 locals.1 locals.2 locals.3 in
    let s2 = in_two locals.2 size.1 size.2 size.3 in
    let s3 = in_two size.2 code.1 code.2 code.3 in
    let s4 = in_two code.2 rows.1 rows.2 rows.3 in
    let s5 = in_two rows.2 attributes.1 attributes.2 attributes.3 in
    let own : length code.0 ≡ length code.1 = ap (λ (l : List ℕ). length l) (sym code.4.1) in
    let few = counted_few 8 row row_some rows.1 rows.0 rows.4 in
    let most = counted_attributes (HasText pool) attributes.1 attributes.0 attributes.4 in
    subst (AreWithin (length bytes)) (sym attributes.5.1) (record {
      code = omega (arith, s0, s1, s2, s3, own);
      rows = omega (arith, s0, s1, s2, s3, s4, few);
      attributes = omega (arith, s0, s1, s2, s3, s4, s5, most);
    })

code_bytes : (pool : PoolValue) (method : Member) (bytes : List ℕ) → HasCode pool method bytes → length bytes ≤ method_size method
code_bytes pool method bytes has =
    let most = some_size (has_name pool (codes "Code")) method.attributes in
    let is = ap texts_size has.single in
    let one = sum_by-cons (λ (text : List ℕ). length text) bytes [] in
    omega (arith, most, is, one)

-- ---- tables

module _ {X : Type 0} (k : ℕ) (table : Grammar (List X)) (few : (text : List ℕ) (xs : List X) → table.Text text xs → k * length xs ≤ length text) where
  entries_few : (texts : List (List ℕ)) (entries : List X) → AreEntries table texts entries → k * length entries ≤ texts_size texts
  entries_few [] entries is = let none : k * length entries ≡ 0 = ap (λ (l : List X). k * length l) is ∙ mul-zero k in omega (arith, none)
  entries_few (text ∷ texts) entries (front, rest, parts, here, more) =
      let both : length entries ≡ length front + length rest = ap (λ (l : List X). length l) parts ∙ length-append front rest in
      let times_both : k * length entries ≡ k * length front + k * length rest = ap (λ (n : ℕ). k * n) both ∙ mul-add k (length front) (length rest) in
      let first = few text front here in
      let behind = entries_few texts rest more in
      let all = sum_by-cons (λ (t : List ℕ). length t) text texts in
      omega (arith, times_both, first, behind, all)

  table_few : (pool : PoolValue) (name : List ℕ) (attributes : List Attribute) (entries : List X)
      → AreEntries table (bodies_of pool name attributes) entries → k * length entries ≤ attributes_size attributes
  table_few pool name attributes entries are =
      let own = entries_few (bodies_of pool name attributes) entries are in
      let all = some_size (has_name pool name) attributes in
      omega (arith, own, all)

kept_few : {X Y : Type 0} (f : X → Y) (p : X → Bool) (xs : List X) → length (map f (filter p xs)) ≤ length xs
kept_few f p xs =
    let same = length-map (filter p xs) f in
    let kept = length-filter p xs in
    let most = count_by-le-length p xs in
    omega (arith, same, kept, most)

-- ---- frames

frames_few : (g : Ground) (before : Before) (n : ℕ) (bytes : List ℕ) (frames : List TypeStateAt) → AreFrames g before n bytes frames
    → length frames ≤ length bytes
frames_few g before zero bytes frames are = let none : length frames ≡ 0 = ap (λ (l : List TypeStateAt). length l) are.1 in omega (arith, none)
frames_few g before (suc n) bytes frames (rest, found, others, parts, here, more) =
    let count : length frames ≡ length (found.frame ∷ others) = ap (λ (l : List TypeStateAt). length l) parts in
    let one = in_two bytes here.front rest here.parts in
    let some = frame_some here.front here.item here.text in
    let behind = frames_few g found.next n rest others more in
    omega (arith, count, one, some, behind)

body_frames_few : (pool : PoolValue) (owner : List ℕ) (method : Member) (coded : Coded) (frames : List TypeStateAt)
    → HasFrames pool owner method coded frames → length frames ≤ attributes_size coded.items.attributes
body_frames_few pool owner method coded frames has = by has.frames_are
  where
    by : ((stack_maps pool coded ≡ []) × (frames ≡ []))
        ⊎ ((table : List ℕ) × (stack_maps pool coded ≡ table ∷ []) × StandsFor (ground_of pool coded) has.entry table frames)
        → length frames ≤ attributes_size coded.items.attributes
    by (inl none) = let zero_is : length frames ≡ 0 = ap (λ (l : List TypeStateAt). length l) none.1 in omega (arith, zero_is)
    by (inr (table, single, stands)) =
        let few = frames_few (ground_of pool coded) (first_before has.entry) stands.count stands.rest frames stands.are in
        let one = in_two table stands.front stands.rest stands.parts in
        let most = some_size (has_name pool (codes "StackMapTable")) coded.items.attributes in
        let is = ap texts_size single in
        let own = sum_by-cons (λ (text : List ℕ). length text) table [] in
        omega (arith, few, one, most, is, own)

-- ---- the body

module _ (names : Names) (c : ClassFile) (number : ℕ) (method : Member) (b : Body) (read : IsReadPool c.pool)
    (most : method_size method ≤ most_read) (is : IsBody names c number method b) where
  within : AreWithin (length is.is.items.bytes) is.coded.items
  within = items_within c.pool is.is.items.bytes is.coded.items is.is.items.text.text

  short_code : length is.is.items.bytes ≤ method_size method
  short_code = code_bytes c.pool method is.is.items.bytes is.is.items.code

  -- its instructions and arms are no more than the bytes of the method's attributes
  pub insns_few : insns_and_arms b.code ≤ method_size method
  insns_few =
      let few = code_size is.coded.items.code is.coded.insns is.coded.starts is.is.spelled in
      let code = within.code in
      let short = short_code in
      let same = ap insns_and_arms is.parts.code in
      omega (arith, few, code, short, same)

  abbrev numbering : ℕ → ℕ
  numbering = insn_number is.coded.starts

  abbrev count : ℕ
  count = length is.coded.insns

  abbrev size : ℕ
  size = length is.coded.items.code

  abbrev attributes : List Attribute
  attributes = is.coded.items.attributes

  attributes_few : attributes_size attributes ≤ most_read
  attributes_few = let own = within.attributes in let short = short_code in omega (arith, own, short, most)

  pub handlers_few : 8 * length b.handlers ≤ most_read
  handlers_few =
      let same = ap (λ (l : List Handler). length l) is.parts.handlers ∙ length-map is.coded.items.rows (handler_of numbering) in
      let own = within.rows in
      let short = short_code in
      omega (arith, same, own, short, most)

  pub own_lines_few : 4 * length b.lines ≤ most_read
  own_lines_few =
      let same = ap (λ (l : List LineAt). length l) is.parts.lines in
      let kept = kept_few (line_of numbering) (keeps_line numbering count) is.tables.lines in
      let few = table_few 4 line_table lines_few c.pool (codes "LineNumberTable") attributes is.tables.lines is.are_tables.lines in
      let own = attributes_few in
      omega (arith, same, kept, few, own)

  pub own_vars_few : 10 * length b.vars ≤ most_read
  own_vars_few =
      let same = ap (λ (l : List VarAt). length l) is.parts.vars in
      let kept = kept_few (var_of numbering) (keeps_var numbering count size is.coded.items.max_locals) is.tables.vars in
      let few = table_few 10 var_table vars_few c.pool (codes "LocalVariableTable") attributes is.tables.vars is.are_tables.vars in
      let own = attributes_few in
      omega (arith, same, kept, few, own)

  pub own_kind_vars_few : 10 * length b.kind_vars ≤ most_read
  own_kind_vars_few =
      let same = ap (λ (l : List VarAt). length l) is.parts.kind_vars in
      let kept = kept_few (var_of numbering) (keeps_var numbering count size is.coded.items.max_locals) is.tables.kind_vars in
      let table = is.are_tables.kind_vars in
      let few = table_few 10 var_table vars_few c.pool (codes "LocalVariableTypeTable") attributes is.tables.kind_vars table in
      let own = attributes_few in
      omega (arith, same, kept, few, own)

  own_frames_few : length b.frames ≤ most_read
  own_frames_few =
      let same = length-map b.frames (type_state_at names) in
      let few = body_frames_few c.pool b.owner method is.coded (map (type_state_at names) b.frames) is.parts.frames in
      let own = attributes_few in
      omega (arith, same, few, own)

  has_sizes : HasSizes b
  has_sizes =
      let uses = uses_few c.pool read (places_used is.coded.insns is.coded.items.rows) b.uses is.parts.uses in
      let handlers = handlers_few in
      let lines = own_lines_few in
      let vars = own_vars_few in
      let kind_vars = own_kind_vars_few in
      let frames = own_frames_few in
      record {
        owner = class_short c.pool read.small c.this_class b.owner is.parts.owner;
        name = utf8_short c.pool read.small method.name b.name is.parts.name;
        desc = utf8_short c.pool read.small method.desc b.desc is.parts.desc;
        handlers = omega (arith, handlers);
        lines = omega (arith, lines);
        vars = omega (arith, vars);
        kind_vars = omega (arith, kind_vars);
        frames = omega (arith, frames);
        uses = omega (arith, uses);
      }

  pub is_well_made : IsWellMade b
  is_well_made = well_made names c number method b is has_sizes
      (uses_short c.pool read (places_used is.coded.insns is.coded.items.rows) b.uses is.parts.uses)
