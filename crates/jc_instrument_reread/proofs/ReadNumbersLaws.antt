-- The numbers of a method's code and of its tables, which were read of bytes, are numbers of two bytes.
use Rattle.std.proofs.Common.{ℕ, ◌+◌, ◌<◌, ◌≤◌, ◌^◌, All, Bool, true, false, List, [], ◌∷◌, length, map, filter, sym, ◌∙◌, ap, subst, arith, if◌then◌else◌}
use Rattle.std.specs.List.{AllByRecursion}
use Rattle.std.proofs.lemmas.List.{length-map}
use Rattle.jc_bytes.specs.ByteLists.{AreBytes}
use Rattle.jc_bytes.specs.Counted.{counted}
use Rattle.jc_bytes.specs.Grammar.{Grammar}
use Rattle.jc_methods.specs.VerificationTypes.{Names}
use Rattle.jc_methods.specs.Starts.{insn_number}
use Rattle.jc_methods.specs.WellMade.{IsWellMadeOfAnySize}
use Rattle.jc_methods.specs.declared.body.Body.{Body}
use Rattle.jc_methods.specs.declared.body.Handler.{Handler}
use Rattle.jc_methods.specs.declared.body.LineAt.{LineAt}
use Rattle.jc_methods.specs.declared.body.VarAt.{VarAt}
use Rattle.jc_methods.specs.declared.emitted.Emitted.{Emitted}
use Rattle.jc_methods.specs.declared.kind.State.{State}
use Rattle.jc_bytes.proofs.EachLaws.{all_both}
use Rattle.jc_bytes.proofs.OneTextLaws.{big_below, both_bytes}
use Rattle.jc_pool.specs.Pool.{PoolValue}
use Rattle.jc_class.specs.ClassFormat.{HasText, attribute}
use Rattle.jc_class.specs.Writable.{AreCounted}
use Rattle.jc_class.specs.declared.class_file.Attribute.{Attribute}
use Rattle.jc_class.specs.declared.class_file.ClassFile.{ClassFile}
use Rattle.jc_class.specs.declared.class_file.Member.{Member}
use Rattle.jc_body.specs.Attributes.{AreEntries, bodies_of, has_name}
use Rattle.jc_body.specs.BodyOf.{HasBody, handler_of, keeps_line, keeps_var, line_of, var_of}
use Rattle.jc_body.specs.CodeForm.{code_form, line_entry, line_table, row, var_entry, var_table}
use Rattle.jc_body.specs.First.{Fault}
use Rattle.jc_body.specs.declared.items.CodeItems.{CodeItems}
use Rattle.jc_body.specs.declared.items.LineEntry.{LineEntry}
use Rattle.jc_body.specs.declared.items.Row.{Row}
use Rattle.jc_body.specs.declared.items.VarEntry.{VarEntry}
use Rattle.jc_insn.specs.Spells.{Spells}
use Rattle.jc_insn.specs.Writing.{IsInRange}
use Rattle.jc_emit.specs.Sizes.{narrow}
use Rattle.jc_emit.specs.Emission.{Emitting, emission}
use Rattle.jc_emit.specs.Items.{land_of, lead_of}
use Rattle.jc_emit.specs.TwinTables.{moved_line, moved_row, moved_var}
use Rattle.jc_layout.specs.Layout.{laid_code, laid_starts, chosen_length, chosen_starts, chosen_text, chosen_list}
use Rattle.jc_instrument_reread.specs.WrittenCode.{ready_emission, HasShortNumbers, IsShortVar}
use Rattle.jc_instrument_reread.proofs.LaidRangeLaws.{chosen_spelled}
use Rattle.jc_instrument_reread.proofs.RangeLaws.{code_range}
use Rattle.jc_class.proofs.ReadClassLaws.{HasBytes, attribute_bytes, counted_hold}

-- ---- lists

module _ {X Y : Type 0} (P : X → Type 0) (Q : Y → Type 0) (f : X → Y) (into : (x : X) → P x → Q (f x)) where
  each_mapped : (xs : List X) → AllByRecursion P xs → AllByRecursion Q (map f xs)
  each_mapped [] all = tt
  each_mapped (x ∷ xs) all = (into x all.0, each_mapped xs all.1)

  each_kept : (keeps : X → Bool) (xs : List X) → AllByRecursion P xs → AllByRecursion Q (map f (filter keeps xs))
  each_kept keeps [] all = tt
  each_kept keeps (x ∷ xs) all = by (keeps x) (each_kept keeps xs all.1)
    where
      by : (t : Bool) → AllByRecursion Q (map f (filter keeps xs)) → AllByRecursion Q (map f (if t then x ∷ filter keeps xs else filter keeps xs))
      by true rest = (into x all.0, rest)
      by false rest = rest

-- ---- entries of tables

-- the entries of all tables of a form
entries_hold : {X : Type 0} (g : Grammar X) (Fact : X → Type 0) → ((text : List ℕ) (x : X) → AreBytes text → g.Text text x → Fact x)
    → (bodies : List (List ℕ)) (xs : List X) → AllByRecursion AreBytes bodies → AreEntries (counted g) bodies xs → AllByRecursion Fact xs
entries_hold g Fact holds [] xs are e = subst (AllByRecursion Fact) (sym e) tt
entries_hold {X} g Fact holds (body ∷ bodies) xs are e =
    subst (AllByRecursion Fact) (sym e.2)
    (all_both Fact e.0 e.1 (counted_hold g Fact holds body e.0 are.0 e.3).each (entries_hold g Fact holds bodies e.1 are.1 e.4))

abbrev HasShortClass : Row → Type 0
HasShortClass r = r.class < 65536

row_short : (text : List ℕ) (r : Row) → AreBytes text → row.Text text r → HasShortClass r
row_short text r are start =
    let b0 = both_bytes start.1 start.2 (subst AreBytes start.3 are) in
    let end = start.5 in
    let b1 = both_bytes end.1 end.2 (subst AreBytes end.3 b0.1) in
    let target = end.5 in
    let b2 = both_bytes target.1 target.2 (subst AreBytes target.3 b1.1) in
    let class = target.5 in
    let b3 = both_bytes class.1 class.2 (subst AreBytes class.3 b2.1) in
    let below : class.0 < 256 ^ 2 = big_below 2 class.0 class.1 b3.0 class.4 in
    let is = ap (λ (x : Row). x.class) class.5.1 in
    omega (arith, below, is)

abbrev HasShortLine : LineEntry → Type 0
HasShortLine l = l.line < 65536

line_short : (text : List ℕ) (l : LineEntry) → AreBytes text → line_entry.Text text l → HasShortLine l
line_short text l are start =
    let b0 = both_bytes start.1 start.2 (subst AreBytes start.3 are) in
    let line = start.5 in
    let b1 = both_bytes line.1 line.2 (subst AreBytes line.3 b0.1) in
    let below : line.0 < 256 ^ 2 = big_below 2 line.0 line.1 b1.0 line.4 in
    let is = ap (λ (x : LineEntry). x.line) line.5.1 in
    omega (arith, below, is)

record HasShortNames (x : VarEntry) : Type 0 where
  name : x.name < 65536
  desc : x.desc < 65536

var_short : (text : List ℕ) (x : VarEntry) → AreBytes text → var_entry.Text text x → HasShortNames x
var_short text x are start =
    let b0 = both_bytes start.1 start.2 (subst AreBytes start.3 are) in
    let size = start.5 in
    let b1 = both_bytes size.1 size.2 (subst AreBytes size.3 b0.1) in
    let name = size.5 in
    let b2 = both_bytes name.1 name.2 (subst AreBytes name.3 b1.1) in
    let desc = name.5 in
    let b3 = both_bytes desc.1 desc.2 (subst AreBytes desc.3 b2.1) in
    let slot = desc.5 in
    let name_below : name.0 < 256 ^ 2 = big_below 2 name.0 name.1 b2.0 name.4 in
    let desc_below : desc.0 < 256 ^ 2 = big_below 2 desc.0 desc.1 b3.0 desc.4 in
    let name_is = ap (λ (v : VarEntry). v.name) slot.5.1 in
    let desc_is = ap (λ (v : VarEntry). v.desc) slot.5.1 in
    record { name = omega (arith, name_below, name_is); desc = omega (arith, desc_below, desc_is) }

-- ---- attributes

-- what the attributes of a name hold are bytes
named_bytes : (pool : PoolValue) (name : List ℕ) (attributes : List Attribute) → AllByRecursion HasBytes attributes
    → AllByRecursion AreBytes (bodies_of pool name attributes)
named_bytes pool name attributes all = each_kept HasBytes AreBytes (λ a. a.body) (λ a are. are) (has_name pool name) attributes all

-- ---- a Code attribute

record AreShortItems (items : CodeItems) : Type 0 where
  stack : items.max_stack < 65536
  locals : items.max_locals < 65536
  code : AreBytes items.code
  rows : AreCounted HasShortClass items.rows
  attributes : AllByRecursion HasBytes items.attributes

items_short : (pool : PoolValue) (bytes : List ℕ) (items : CodeItems) → AreBytes bytes → (code_form pool).Text bytes items → AreShortItems items
unfolding code_form
items_short pool bytes items are stack =
    let b0 = both_bytes stack.1 stack.2 (subst AreBytes stack.3 are) in
    let locals = stack.5 in
    let b1 = both_bytes locals.1 locals.2 (subst AreBytes locals.3 b0.1) in
    let size = locals.5 in
    let b2 = both_bytes size.1 size.2 (subst AreBytes size.3 b1.1) in
    let code = size.5 in
    let b3 = both_bytes code.1 code.2 (subst AreBytes code.3 b2.1) in
    let rows = code.5 in
    let b4 = both_bytes rows.1 rows.2 (subst AreBytes rows.3 b3.1) in
    let attributes = rows.5 in
    let b5 = both_bytes attributes.1 attributes.2 (subst AreBytes attributes.3 b4.1) in
    let stack_below : stack.0 < 256 ^ 2 = big_below 2 stack.0 stack.1 b0.0 stack.4 in
    let locals_below : locals.0 < 256 ^ 2 = big_below 2 locals.0 locals.1 b1.0 locals.4 in
    subst AreShortItems (sym attributes.5.1) (record {
      stack = omega (arith, stack_below);
      locals = omega (arith, locals_below);
      code = subst AreBytes code.4.1 b3.0;
      rows = counted_hold row HasShortClass row_short rows.1 rows.0 b4.0 rows.4;
      attributes = (counted_hold (attribute (HasText pool)) HasBytes (attribute_bytes (HasText pool)) attributes.1 attributes.0 b5.0 attributes.4).each;
    })

lines_short : (bodies : List (List ℕ)) (entries : List LineEntry) → AllByRecursion AreBytes bodies → AreEntries line_table bodies entries
    → AllByRecursion HasShortLine entries
unfolding line_table
lines_short bodies entries are e = entries_hold line_entry HasShortLine line_short bodies entries are e

vars_short : (bodies : List (List ℕ)) (entries : List VarEntry) → AllByRecursion AreBytes bodies → AreEntries var_table bodies entries
    → AllByRecursion HasShortNames entries
unfolding var_table
vars_short bodies entries are e = entries_hold var_entry HasShortNames var_short bodies entries are e

-- ---- a body

-- the numbers of a body
pub record IsShortBody (b : Body) : Type 0 where
  pub stack : b.max_stack < 65536
  pub locals : b.max_locals < 65536
  pub code : All IsInRange b.code
  pub rows : length b.handlers ≤ 65535
  pub classes : AllByRecursion (λ h. h.class < 65536) b.handlers
  pub lines : AllByRecursion (λ l. l.line < 65536) b.lines
  pub vars : AllByRecursion IsShortVar b.vars
  pub kind_vars : AllByRecursion IsShortVar b.kind_vars

module _ (Faults : List Fault) (names : Names) (c : ClassFile) (number : ℕ) (method : Member) (b : Body) (has : HasBody Faults names c number method b)
    (are : AllByRecursion HasBytes method.attributes) where
  abbrev at : ℕ → ℕ
  at = insn_number has.coded.starts

  abbrev count : ℕ
  count = length has.coded.insns

  code_bytes : AreBytes has.is.items.bytes
  code_bytes = (subst (AllByRecursion AreBytes) has.is.items.code.single (named_bytes c.pool _ method.attributes are)).0

  items : AreShortItems has.coded.items
  items = items_short c.pool has.is.items.bytes has.coded.items code_bytes has.is.items.text.text

  table_bytes : (name : List ℕ) → AllByRecursion AreBytes (bodies_of c.pool name has.coded.items.attributes)
  table_bytes name = named_bytes c.pool name has.coded.items.attributes items.attributes

  moved_lines : (entries : List LineEntry) → AllByRecursion HasShortLine entries
      → AllByRecursion (λ l. l.line < 65536) (map (line_of at) (filter (keeps_line at count) entries))
  moved_lines entries all = each_kept HasShortLine (λ (l : LineAt). l.line < 65536) (line_of at) (λ l short. short) (keeps_line at count) entries all

  moved_vars : (entries : List VarEntry) → AllByRecursion HasShortNames entries → AllByRecursion IsShortVar
      (map (var_of at) (filter (keeps_var at count (length has.coded.items.code) has.coded.items.max_locals) entries))
  moved_vars entries all =
      each_kept HasShortNames IsShortVar (var_of at) (λ x short. record { name = short.name; desc = short.desc })
      (keeps_var at count (length has.coded.items.code) has.coded.items.max_locals) entries all

  pub body_short : IsShortBody b
  body_short = record {
    stack = subst (λ (n : ℕ). n < 65536) (sym has.parts.max_stack) items.stack;
    locals = subst (λ (n : ℕ). n < 65536) (sym has.parts.max_locals) items.locals;
    code = subst (All IsInRange) (sym has.parts.code) (code_range has.coded.items.code has.coded.insns has.coded.starts items.code has.is.spelled);
    rows =
        let same = ap (λ (l : List Handler). length l) has.parts.handlers ∙ length-map has.coded.items.rows (handler_of at) in
        let few = items.rows.few in
        omega (arith, same, few);
    classes = subst (AllByRecursion (λ (h : Handler). h.class < 65536)) (sym has.parts.handlers)
        (each_mapped HasShortClass (λ (h : Handler). h.class < 65536) (handler_of at) (λ r short. short) has.coded.items.rows items.rows.each);
    lines = subst (AllByRecursion (λ (l : LineAt). l.line < 65536)) (sym has.parts.lines)
        (moved_lines has.tables.lines (lines_short _ has.tables.lines (table_bytes _) has.are_tables.lines));
    vars = subst (AllByRecursion IsShortVar) (sym has.parts.vars)
        (moved_vars has.tables.vars (vars_short _ has.tables.vars (table_bytes _) has.are_tables.vars));
    kind_vars = subst (AllByRecursion IsShortVar) (sym has.parts.kind_vars)
        (moved_vars has.tables.kind_vars (vars_short _ has.tables.kind_vars (table_bytes _) has.are_tables.kind_vars));
  }

-- ---- instrumented

module _ (b : Body) (first : ℕ) (states : List State) (given : Emitting) (giver : ℕ) (short : IsShortBody b) where
  emitted_vars : (vars : List VarAt) → AllByRecursion IsShortVar vars → AllByRecursion IsShortVar (map (moved_var b.arg_slots (land_of b first (narrow given.fetch))) vars)
  emitted_vars vars all =
      each_mapped IsShortVar IsShortVar (moved_var b.arg_slots (land_of b first (narrow given.fetch))) (λ x is. record { name = is.name; desc = is.desc }) vars all

  emitted_numbers : HasShortNumbers (ready_emission b first states given giver)
  unfolding emission
  emitted_numbers = record {
    classes = each_mapped (λ (h : Handler). h.class < 65536) (λ (h : Handler). h.class < 65536) (moved_row (lead_of b first (narrow given.fetch)) (land_of b first (narrow given.fetch)))
        (λ h is. is) b.handlers short.classes;
    lines = each_mapped (λ (l : LineAt). l.line < 65536) (λ (l : LineAt). l.line < 65536) (moved_line (land_of b first (narrow given.fetch))) (λ l is. is) b.lines short.lines;
    vars = emitted_vars b.vars short.vars;
    kind_vars = emitted_vars b.kind_vars short.kind_vars;
  }

  emitted_rows : length (ready_emission b first states given giver).handlers ≤ 65535
  unfolding emission
  emitted_rows =
      let same = length-map b.handlers (moved_row (lead_of b first (narrow given.fetch)) (land_of b first (narrow given.fetch))) in
      let few = short.rows in
      omega (arith, same, few)

-- Where the bytes of the method's attributes are bytes, the instrumented code of its body has numbers of two bytes in its tables,
-- and the layout that is chosen spells it.
pub record IsSpelled (e : Emitted) : Type 0 where
  pub numbers : HasShortNumbers e
  pub rows : length e.handlers ≤ 65535
  pub spelled : Spells (chosen_text e.code) (laid_code (chosen_list e.code) e.code) (laid_starts (chosen_list e.code) e.code (chosen_starts e.code))

pub is_spelled : (Faults : List Fault) (names : Names) (c : ClassFile) (number : ℕ) (method : Member) (b : Body) (first : ℕ) (states : List State) (given : Emitting) (giver : ℕ)
    → HasBody Faults names c number method b → AllByRecursion HasBytes method.attributes → IsWellMadeOfAnySize b → b.max_locals + 1 ≤ 65535
    → ((id : ℕ) → given.integer id < 65536) → giver < 65536 → chosen_length (ready_emission b first states given giver).code ≤ 65535 → IsSpelled (ready_emission b first states given giver)
is_spelled Faults names c number method b first states given giver has are well locals integers giver_lt few =
    let short = body_short Faults names c number method b has are in
    record {
      numbers = emitted_numbers b first states given giver short;
      rows = emitted_rows b first states given giver short;
      spelled = chosen_spelled b first states given giver well short.code locals integers giver_lt few;
    }
