-- The texts of the Code attributes of an instrumented class are of bytes.
use Rattle.std.proofs.Common.{◌≡◌, ℕ, ◌+◌, ◌-◌, ◌≤◌, Bool, true, false, List, [], ◌∷◌, ◌++◌, length, map, refl, arith, if◌then◌else◌, nat_le, length-append}
use Rattle.std.specs.Prelude.{ℤ, pos}
use Rattle.std.specs.Int.{w16, cast_unsigned}
use Rattle.std.specs.List.{flat_map, AllByRecursion}
use Rattle.std.proofs.lemmas.Bool.{leb-true}
use Rattle.jc_methods.specs.ProbeMembers.{most_short}
use Rattle.jc_methods.specs.declared.probe_members.Fetch.{Fetch}
use Rattle.jc_methods.specs.declared.probe_members.Fetch.TheVariants as fetches
use Rattle.jc_bytes.specs.ByteLists.{AreBytes}
use Rattle.jc_bytes.specs.BigNumbers.{short, word}
use Rattle.jc_methods.specs.VerificationTypes.{Names, VerificationType, object, uninit, TypeStateAt}
use Rattle.jc_methods.specs.InsnForm.{form_of}
use Rattle.jc_methods.specs.Opcode as opcode
use Rattle.jc_methods.specs.declared.body.Handler.{Handler}
use Rattle.jc_methods.specs.declared.body.LineAt.{LineAt}
use Rattle.jc_methods.specs.declared.body.VarAt.{VarAt}
use Rattle.jc_methods.specs.declared.emitted.Emitted.{Emitted}
use Rattle.jc_methods.specs.declared.form.Form.{Form}
use Rattle.jc_methods.specs.declared.form.Form.TheVariants as forms
use Rattle.jc_methods.specs.declared.insn.Insn.{Insn}
use Rattle.jc_methods.specs.declared.insn.Insn.TheVariants as insns
use Rattle.jc_class.specs.declared.class_file.Attribute.{Attribute}
use Rattle.jc_frames.specs.Frames.{values_in}
use Rattle.jc_frames.specs.FullFrames as full
use Rattle.jc_insn.specs.Writing.{push_text, insn_text}
use Rattle.jc_insn.proofs.ReadBackLaws.{short_size, word_size}
use Rattle.jc_plan.proofs.CountLaws.{each_joined}
use Rattle.jc_pool.specs.Pool.{PoolValue}
use Rattle.jc_emit.specs.Added.{InitPlaces, end_place, init_frame, init_stack}
use Rattle.jc_emit.specs.Marks.{push}
use Rattle.jc_layout.specs.LaidBody.{with_place}
use Rattle.jc_layout.specs.Layout.{chosen_text}
use Rattle.jc_instrument_code.specs.CodeText.{attribute, attribute_text, code_text, counted_text, all_parts, row_text, line_text, var_text, table_attributes, frame_attributes}
use Rattle.jc_instrument_code.specs.FirstPlaces.{text_place}
use Rattle.jc_instrument_code.specs.InitText.{count_text, push_count, end_offset, added_text, bootstrap_bytes, bootstrap_text, init_bytes, init_frame_places, init_frames, init_text}
use Rattle.jc_instrument_code.proofs.BootstrapLaws.{bootstrap_size}
use Rattle.jc_instrument_code.specs.TwinCode.{written_frames, offset_in, places_of, lines_name, vars_name, kind_vars_name, code_attributes, twin_code}
use Rattle.jc_instrument_laws.proofs.ClassSpellingLaws.{bytes_both, big_bytes_are}
use Rattle.jc_instrument_laws.proofs.CodeBytesLaws.{short_are, word_are, push_are, placed_are}
use Rattle.jc_instrument_laws.proofs.FrameSizesLaws.{attribute_count, counted_count, table_most}

-- ---- lists

flat_are : {X : Type 0} (text : X → List ℕ) → ((x : X) → AreBytes (text x)) → (xs : List X) → AreBytes (flat_map text xs)
flat_are text each [] = tt
flat_are text each (x ∷ xs) = bytes_both (text x) (flat_map text xs) (each x) (flat_are text each xs)

counted_are : {X : Type 0} (text : X → List ℕ) → ((x : X) → AreBytes (text x)) → (xs : List X) → AreBytes (counted_text text xs)
counted_are text each xs = bytes_both (short (length xs)) (flat_map text xs) (short_are (length xs)) (flat_are text each xs)

attributes_are : (l : List Attribute) → AllByRecursion (λ a. AreBytes a.body) l → AreBytes (flat_map attribute_text l)
attributes_are [] all = tt
attributes_are (a ∷ l) all =
    bytes_both (attribute_text a) (flat_map attribute_text l)
    (bytes_both (short a.name) _ (short_are a.name) (bytes_both (word (length a.body)) a.body (word_are (length a.body)) all.0)) (attributes_are l all.1)

row_are : (offset : ℕ → ℕ) (h : Handler) → AreBytes (row_text offset h)
row_are offset h =
    bytes_both (short (offset h.start)) _ (short_are (offset h.start))
    (bytes_both (short (offset h.end)) _ (short_are (offset h.end))
    (bytes_both (short (offset h.target)) (short h.class) (short_are (offset h.target)) (short_are h.class)))

line_are : (offset : ℕ → ℕ) (l : LineAt) → AreBytes (line_text offset l)
line_are offset l = bytes_both (short (offset l.at)) (short l.line) (short_are (offset l.at)) (short_are l.line)

var_are : (offset : ℕ → ℕ) (x : VarAt) → AreBytes (var_text offset x)
var_are offset x =
    bytes_both (short (offset x.start)) _ (short_are (offset x.start))
    (bytes_both (short (offset x.end - offset x.start)) _ (short_are (offset x.end - offset x.start))
    (bytes_both (short x.name) _ (short_are x.name) (bytes_both (short x.desc) (short x.slot) (short_are x.desc) (short_are x.slot))))

parts_are : {X : Type 0} (name : ℕ) (text : X → List ℕ) → ((x : X) → AreBytes (text x)) → (parts : List (List X))
    → AllByRecursion (λ a. AreBytes a.body) (map (λ part. attribute name (counted_text text part)) parts)
parts_are name text each [] = tt
parts_are name text each (part ∷ parts) = (counted_are text each part, parts_are name text each parts)

-- ---- frames

frame_short_are : (x : ℕ) → AreBytes (short x)
unfolding short
frame_short_are x = big_bytes_are 2 x

module _ (p : full.Places) where
  type_are : (h : VerificationType) → AreBytes (full.type_text p h)
  type_are (object name) = (omega arith, frame_short_are (p.class name))
  type_are (uninit at) = (omega arith, frame_short_are (p.start at))
  type_are h = (omega arith, tt)

  types_are : (hs : List VerificationType) → AreBytes (full.types_text p hs)
  types_are hs = bytes_both (short (length hs)) _ (frame_short_are (length hs)) (flat_are (full.type_text p) type_are hs)

  frames_are : (base : ℕ) (list : List TypeStateAt) → AreBytes (full.full_texts p base list)
  frames_are base [] = tt
  frames_are base (f ∷ list) =
      bytes_both (full.full_text p base f) (full.full_texts p (p.start f.at + 1) list) (
        omega arith,
        bytes_both (short (p.start f.at - base)) _ (frame_short_are (p.start f.at - base))
            (bytes_both (full.types_text p (values_in f.state.locals)) (full.types_text p f.state.stack) (types_are (values_in f.state.locals))
            (types_are f.state.stack)),
      )
      (frames_are (p.start f.at + 1) list)

  pub table_are : (list : List TypeStateAt) → AreBytes (full.table_text p list)
  table_are list = bytes_both (short (length list)) _ (frame_short_are (length list)) (frames_are 0 list)

  map_are : (name : ℕ) (list : List TypeStateAt) → AllByRecursion (λ a. AreBytes a.body) (frame_attributes name p list)
  map_are name [] = tt
  map_are name (f ∷ list) = (table_are (f ∷ list), tt)

-- ---- the attribute of a body

code_text_are : (max_stack max_locals : ℕ) (code rows : List ℕ) (attributes : List Attribute) → AreBytes code → AreBytes rows
    → AllByRecursion (λ a. AreBytes a.body) attributes → AreBytes (code_text max_stack max_locals code rows attributes)
code_text_are max_stack max_locals code rows attributes a b c =
    bytes_both (short max_stack) _ (short_are max_stack)
    (bytes_both (short max_locals) _ (short_are max_locals)
    (bytes_both (word (length code)) _ (word_are (length code))
    (bytes_both code _ a (bytes_both rows _ b (bytes_both (short (length attributes)) _ (short_are (length attributes)) (attributes_are attributes c))))))

pub written_are : (pool : PoolValue) (fetch : Fetch) (giver array frames_name : ℕ) (names : Names) (e : Emitted) → AreBytes (chosen_text e.code)
    → AreBytes (twin_code pool fetch giver array frames_name names e)
unfolding twin_code
written_are pool fetch giver array frames_name names e are =
    let offset = offset_in e in
    let Are : Attribute → Type 0 = λ a. AreBytes a.body in
    code_text_are e.max_stack e.max_locals (with_place fetch giver array (chosen_text e.code)) (counted_text (row_text offset) e.handlers)
    (code_attributes pool frames_name e (written_frames names e)) (placed_are fetch giver array (chosen_text e.code) are)
    (counted_are (row_text offset) (row_are offset) e.handlers)
    (each_joined Are (table_attributes (text_place pool lines_name) (line_text offset) e.lines) _
    (parts_are (text_place pool lines_name) (line_text offset) (line_are offset) (all_parts e.lines))
    (each_joined Are (table_attributes (text_place pool vars_name) (var_text offset) e.vars) _
    (parts_are (text_place pool vars_name) (var_text offset) (var_are offset) (all_parts e.vars))
    (each_joined Are (table_attributes (text_place pool kind_vars_name) (var_text offset) e.kind_vars) _
    (parts_are (text_place pool kind_vars_name) (var_text offset) (var_are offset) (all_parts e.kind_vars))
    (map_are (places_of pool e) frames_name (written_frames names e)))))

-- ---- that of the method that gives the probe array

push_few : (form : Form) (op : ℕ) (value : ℤ) → length (push_text form op value) ≤ 3
push_few forms.PushByte op value = omega arith
push_few form op value = let count = short_size (cast_unsigned w16 value) in omega (arith, count)

abbrev PushFits : Insn → Type 0
PushFits insn = AreBytes (insn_text 0 false insn) × (length (insn_text 0 false insn) ≤ 3)

push_fits : (n : ℕ) → PushFits (push n)
unfolding insn_text
push_fits n = by (nat_le n 5) refl (nat_le n 127)
  where
    by : (t : Bool) → nat_le n 5 ≡ t → (u : Bool)
        → PushFits (if t then insns.Simple (opcode.iconst_0 + n) else if u then insns.Push opcode.bipush (pos n) else insns.Push opcode.sipush (pos n))
    by true is u = let few = leb-true n 5 is in ((omega (arith, few), tt), omega arith)
    by false is true = (push_are (form_of opcode.bipush) opcode.bipush (pos n) (omega arith), push_few (form_of opcode.bipush) opcode.bipush (pos n))
    by false is false = (push_are (form_of opcode.sipush) opcode.sipush (pos n) (omega arith), push_few (form_of opcode.sipush) opcode.sipush (pos n))

count_fits : (integer n : ℕ) → AreBytes (count_text integer n) × (length (count_text integer n) ≤ 3)
count_fits integer n = by (nat_le n most_short)
  where
    by : (small : Bool) → AreBytes (if small then push_count n else opcode.ldc_w ∷ short integer)
        × (length (if small then push_count n else opcode.ldc_w ∷ short integer) ≤ 3)
    by true = push_fits n
    by false = ((omega arith, short_are integer), let size = short_size integer in omega (arith, size))

init_are : (p : InitPlaces) (pushed : List ℕ) → AreBytes pushed → AreBytes (init_bytes p pushed)
unfolding init_bytes
init_are p pushed are = (
  omega arith,
  bytes_both (short p.field) _ (short_are p.field) (
    omega arith,
    (
      omega arith,
      bytes_both (short (17 + length pushed)) _ (short_are (17 + length pushed)) (
        omega arith,
        (
          omega arith,
          bytes_both (short p.id) _ (short_are p.id) (
            omega arith,
            bytes_both (short p.name) _ (short_are p.name)
                (bytes_both pushed _ are (
                  omega arith,
                  bytes_both (short p.fetch) _ (short_are p.fetch)
                      (omega arith, (omega arith, bytes_both (short p.field) _ (short_are p.field) (omega arith, tt))),
                )),
          ),
        ),
      ),
    ),
  ),
)

init_count : (p : InitPlaces) (pushed : List ℕ) → length pushed ≤ 3 → length (init_bytes p pushed) ≤ 100
unfolding init_bytes
init_count p pushed few =
    let a = short_size p.field in
    let b = short_size (17 + length pushed) in
    let c = short_size p.id in
    let d = short_size p.name in
    let e = short_size p.fetch in
    let seven = length-append (short p.field) (opcode.areturn ∷ []) in
    let six = length-append (short p.fetch) (opcode.dup ∷ opcode.putstatic ∷ short p.field ++ (opcode.areturn ∷ [])) in
    let five = length-append pushed (opcode.invokestatic ∷ short p.fetch ++ (opcode.dup ∷ opcode.putstatic ∷ short p.field ++ (opcode.areturn ∷ []))) in
    let four = length-append (short p.name) (pushed ++ (opcode.invokestatic ∷ short p.fetch ++ (opcode.dup ∷ opcode.putstatic ∷ short p.field ++ (opcode.areturn ∷ [])))) in
    let three = length-append (short p.id) (opcode.ldc_w ∷ short p.name ++ (pushed ++ (opcode.invokestatic ∷ short p.fetch
    ++ (opcode.dup ∷ opcode.putstatic ∷ short p.field ++ (opcode.areturn ∷ []))))) in
    let two = length-append (short (17 + length pushed)) (opcode.pop ∷ opcode.ldc2_w ∷ short p.id ++ (opcode.ldc_w ∷ short p.name ++ (pushed
    ++ (opcode.invokestatic ∷ short p.fetch ++ (opcode.dup ∷ opcode.putstatic ∷ short p.field ++ (opcode.areturn ∷ [])))))) in
    let one = length-append (short p.field) (opcode.dup ∷ opcode.ifnonnull ∷ short (17 + length pushed) ++ (opcode.pop ∷ opcode.ldc2_w ∷ short p.id
    ++ (opcode.ldc_w ∷ short p.name ++ (pushed ++ (opcode.invokestatic ∷ short p.fetch ++ (opcode.dup ∷ opcode.putstatic ∷ short p.field ++ (opcode.areturn ∷ []))))))) in
    omega (arith, few, a, b, c, d, e, one, two, three, four, five, six, seven)

-- a short text of bytes
init_fits : (p : InitPlaces) (frames array count : ℕ) → AreBytes (init_text p frames array count) × (length (init_text p frames array count) ≤ 4294967295)
init_fits p frames array count =
    let pushed = count_text p.count count in
    let fits = count_fits p.count count in
    let code = init_bytes p pushed in
    let stack_map = init_frames frames array pushed in
    let most = init_count p pushed fits.1 in
    let a = short_size init_stack in
    let b = short_size 0 in
    let c = word_size (length code) in
    let counted = counted_count 0 attribute_text (stack_map ∷ []) in
    let one_attribute = attribute_count stack_map in
    let places = init_frame_places array (end_offset pushed) in
    let list : List TypeStateAt = record { at = end_place; state = init_frame } ∷ [] in
    let table = table_most places 1 list (omega arith, tt) in
    let alone = length-append (attribute_text stack_map) [] in
    let rest = counted_text attribute_text (stack_map ∷ []) in
    let one = length-append (short init_stack) (short 0 ++ (word (length code) ++ (code ++ (short 0 ++ rest)))) in
    let two = length-append (short 0) (word (length code) ++ (code ++ (short 0 ++ rest))) in
    let three = length-append (word (length code)) (code ++ (short 0 ++ rest)) in
    let four = length-append code (short 0 ++ rest) in
    let five = length-append (short 0) rest in (
      code_text_are init_stack 0 code (short 0) (stack_map ∷ []) (init_are p pushed fits.0) (short_are 0) (table_are places list, tt),
      omega (arith, most, a, b, c, counted, one_attribute, table, alone, one, two, three, four, five),
    )

-- ---- that of the bootstrap method

bootstrap_are : (p : InitPlaces) (pushed : List ℕ) → AreBytes pushed → AreBytes (bootstrap_bytes p pushed)
unfolding bootstrap_bytes
bootstrap_are p pushed are = (
  omega arith,
  bytes_both (short p.id) _ (short_are p.id) (
    omega arith,
    bytes_both (short p.name) _ (short_are p.name)
        (bytes_both pushed _ are (omega arith, bytes_both (short p.fetch) _ (short_are p.fetch) (omega arith, tt))),
  ),
)

bootstrap_fits : (p : InitPlaces) (count : ℕ) → AreBytes (bootstrap_text p count) × (length (bootstrap_text p count) ≤ 4294967295)
bootstrap_fits p count =
    let pushed = count_text p.count count in
    let fits = count_fits p.count count in
    let code = bootstrap_bytes p pushed in
    let size = bootstrap_size p pushed in
    let few = fits.1 in
    let a = short_size init_stack in
    let b = short_size 3 in
    let c = word_size (length code) in
    let d = short_size 0 in
    let rest = counted_text attribute_text [] in
    let counted = counted_count 0 attribute_text [] in
    let one = length-append (short init_stack) (short 3 ++ (word (length code) ++ (code ++ (short 0 ++ rest)))) in
    let two = length-append (short 3) (word (length code) ++ (code ++ (short 0 ++ rest))) in
    let three = length-append (word (length code)) (code ++ (short 0 ++ rest)) in
    let four = length-append code (short 0 ++ rest) in
    let five = length-append (short 0) rest in (
      code_text_are init_stack 3 code (short 0) [] (bootstrap_are p pushed fits.0) (short_are 0) tt,
      omega (arith, size, few, a, b, c, d, counted, one, two, three, four, five),
    )

-- that of the method that is added
pub added_fits : (fetch : Fetch) (p : InitPlaces) (frames array count : ℕ)
    → AreBytes (added_text fetch p frames array count) × (length (added_text fetch p frames array count) ≤ 4294967295)
added_fits fetches.Member p frames array count = init_fits p frames array count
added_fits fetches.Constant p frames array count = bootstrap_fits p count
