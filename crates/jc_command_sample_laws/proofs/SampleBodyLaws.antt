-- The body of each method of a sample.
use Rattle.std.proofs.Common.{◌≡◌, inl, inr, ℕ, zero, suc, ◌+◌, ◌<◌, ◌≤◌, List, [], ◌∷◌, ◌++◌, length, map, codes, Some, refl, sym, ◌∙◌, ap, subst, arith}
use Rattle.std.specs.Prelude.{ℤ, slice_get}
use Rattle.std.specs.List.{range_with_len}
use Rattle.std.specs.Int.{w16, cast_signed}
use Rattle.std.proofs.lemmas.List.{append-nil}
use Rattle.std.proofs.lemmas.Option.{none-some, same_Some}
use Rattle.jc_bytes.specs.BigNumbers.{short, word}
use Rattle.jc_bytes.specs.Least.{IsNowhere}
use Rattle.jc_bytes.proofs.ListLaws.{all_at}
use Rattle.jc_methods.specs.DescriptorTypes.{types_from, rest_from}
use Rattle.jc_methods.specs.Flow.{FallsThrough}
use Rattle.jc_methods.specs.InsnForm.{form_of}
use Rattle.jc_methods.specs.InsnUse.{LocalsWithin, LeadsWithin}
use Rattle.jc_methods.specs.Opcode as opcode
use Rattle.jc_methods.specs.VerificationTypes.{Names, int, TypeState, TypeStateAt}
use Rattle.jc_methods.specs.WellMade.{TakeSlots}
use Rattle.jc_methods.specs.declared.body.Body.{Body}
use Rattle.jc_methods.specs.declared.body.FrameAt.{FrameAt}
use Rattle.jc_methods.specs.declared.form.Form.{Form}
use Rattle.jc_methods.specs.declared.form.Form.TheVariants as forms
use Rattle.jc_methods.specs.declared.insn.Insn.{Insn}
use Rattle.jc_methods.specs.declared.insn.Insn.TheVariants as insns
use Rattle.jc_methods.specs.declared.kind.Kind.TheVariants as kinds
use Rattle.jc_methods.proofs.EntryLaws.{argument_slots}
use Rattle.jc_pool.specs.Lookup.{utf8_of}
use Rattle.jc_class.specs.ClassFormat.{HasText, attribute}
use Rattle.jc_insn.specs.Items.{IsItem, operands}
use Rattle.jc_insn.specs.Spells.{Spells, SpellsFrom}
use Rattle.jc_insn.specs.declared.item.CodeItem.TheVariants as items
use Rattle.jc_insn.proofs.ReadBackLaws.{big_short, big_word}
use Rattle.jc_frames.specs.Frames.{Found, frame_of, first_before}
use Rattle.jc_frames.specs.Table.{StandsFor}
use Rattle.jc_frames.specs.TableForm.{frame_item}
use Rattle.jc_frames.specs.declared.items.FrameItem.TheVariants as frames
use Rattle.jc_body.specs.BodyOf.{BodyOf, AreUsesOf}
use Rattle.jc_body.specs.CodeForm.{IsCodeText, code_form, row}
use Rattle.jc_body.specs.Coded.{HasCode, IsCoded}
use Rattle.jc_body.specs.Faults.{WrongPoolEntry, IsAstray, JumpNowhere, LocalOutside, ArgumentsOutside, BadRow, MalformedTable, TooWide, insn_faults, row_faults, table_faults}
use Rattle.jc_body.specs.First.{AreNowhere}
use Rattle.jc_body.specs.StackMap.{BeginsWith, HasFrames, ground_of}
use Rattle.jc_body.specs.Standing.{HasRightEntry}
use Rattle.jc_body.specs.declared.coded.Coded.{Coded}
use Rattle.jc_body.specs.declared.items.CodeItems.{CodeItems}
use Rattle.jc_body.specs.declared.items.Tables.{Tables}
use Rattle.jc_body.specs.Attributes.{AreTables}
use Rattle.jc_body.proofs.ReasonLaws.{coded_without}
use Rattle.jc_body.proofs.StackMapLaws.{apart}
use Rattle.jc_command_sample_laws.specs.SampleClass.{sample_pool, sample_method, sample_class_file}
use Rattle.jc_command_sample.specs.SampleFile.{sample_class, method_name, attribute_text, method_code, frame_table, code_body}
use Rattle.jc_command_sample_laws.proofs.SampleTextLaws.{int_to_int, none_counted, one_counted, attribute_is, sample_named, has_frames_name, has_type, text_at}

-- ---- the code

-- the number that sipush pushes
abbrev pub pushed : ℕ → ℤ
pushed n = cast_signed w16 n

-- as it is spelled: a jump leads to an offset
abbrev spelled_insns : ℕ → List Insn
spelled_insns k =
    insns.Local opcode.iload 0 ∷ insns.Push opcode.sipush (pushed (k + 2)) ∷ insns.Simple opcode.irem ∷ insns.Jump opcode.ifeq 10
    ∷ insns.Local opcode.iload 0 ∷ insns.Simple opcode.ireturn
    ∷ insns.Push opcode.sipush (pushed k) ∷ insns.Simple opcode.ireturn ∷ []

abbrev pub sample_insns : ℕ → List Insn
sample_insns k =
    insns.Local opcode.iload 0 ∷ insns.Push opcode.sipush (pushed (k + 2)) ∷ insns.Simple opcode.irem ∷ insns.Jump opcode.ifeq 6
    ∷ insns.Local opcode.iload 0 ∷ insns.Simple opcode.ireturn
    ∷ insns.Push opcode.sipush (pushed k) ∷ insns.Simple opcode.ireturn ∷ []

abbrev sample_starts : List ℕ
sample_starts = 0 ∷ 1 ∷ 4 ∷ 5 ∷ 8 ∷ 9 ∷ 10 ∷ 13 ∷ 14 ∷ []

simple_item : (at op : ℕ) → form_of op ≡ forms.Simple → IsItem at (op ∷ []) (items.Insn (insns.Simple op))
unfolding IsItem operands
simple_item at op is = record {
  value = op;
  front = op ∷ [];
  rest = [];
  parts = refl;
  field = refl;
  behind = subst (λ (f : Form). operands at f op [] (items.Insn (insns.Simple op))) (sym is) (refl, refl);
}

load_item : (at : ℕ) → IsItem at (opcode.iload_0 ∷ []) (items.Insn (insns.Local opcode.iload 0))
unfolding IsItem operands form_of
load_item at = record { value = opcode.iload_0; front = opcode.iload_0 ∷ []; rest = []; parts = refl; field = refl; behind = (refl, refl) }

push_item : (at n : ℕ) → n < 65536 → IsItem at (opcode.sipush ∷ short n) (items.Insn (insns.Push opcode.sipush (pushed n)))
unfolding IsItem operands form_of
push_item at n small = record {
  value = opcode.sipush;
  front = opcode.sipush ∷ [];
  rest = short n;
  parts = refl;
  field = refl;
  behind = record { value = n; front = short n; rest = []; parts = sym (append-nil (short n)); field = big_short n small; behind = (refl, refl) };
}

jump_item : IsItem 5 (opcode.ifeq ∷ short 5) (items.Insn (insns.Jump opcode.ifeq 10))
unfolding IsItem operands form_of
jump_item = record {
  value = opcode.ifeq;
  front = opcode.ifeq ∷ [];
  rest = short 5;
  parts = refl;
  field = refl;
  behind = record { value = 5; front = short 5; rest = []; parts = sym (append-nil (short 5)); field = big_short 5 (omega arith); behind = (refl, refl) };
}

irem_is : form_of opcode.irem ≡ forms.Simple
unfolding form_of
irem_is = refl

ireturn_is : form_of opcode.ireturn ≡ forms.Simple
unfolding form_of
ireturn_is = refl

code_spelled : (k : ℕ) → k < 1000 → SpellsFrom 0 (method_code k) (spelled_insns k) sample_starts
unfolding method_code short
code_spelled k less = (
  opcode.iload_0 ∷ [],
  _,
  _,
  refl,
  refl,
  load_item 0,
  (
    opcode.sipush ∷ short (k + 2),
    _,
    _,
    refl,
    refl,
    push_item 1 (k + 2) (omega (arith, less)),
    (
      opcode.irem ∷ [],
      _,
      _,
      refl,
      refl,
      simple_item 4 opcode.irem irem_is,
      (
        opcode.ifeq ∷ short 5,
        _,
        _,
        refl,
        refl,
        jump_item,
        (
          opcode.iload_0 ∷ [],
          _,
          _,
          refl,
          refl,
          load_item 8,
          (
            opcode.ireturn ∷ [],
            _,
            _,
            refl,
            refl,
            simple_item 9 opcode.ireturn ireturn_is,
            (
              opcode.sipush ∷ short k,
              _,
              _,
              refl,
              refl,
              push_item 10 k (omega (arith, less)),
              (opcode.ireturn ∷ [], [], 14 ∷ [], refl, refl, simple_item 13 opcode.ireturn ireturn_is, (refl, refl)),
            ),
          ),
        ),
      ),
    ),
  ),
)

spells : (k : ℕ) → k < 1000 → Spells (method_code k) (sample_insns k) sample_starts
spells k less = record { spelled = spelled_insns k; text = code_spelled k less; places = refl }

-- ---- the Code attribute

abbrev pub sample_items : ℕ → CodeItems
sample_items k = record { max_stack = 2; max_locals = 1; code = method_code k; rows = []; attributes = record { name = 6; body = frame_table } ∷ [] }

abbrev pub sample_coded : ℕ → Coded
sample_coded k = record { items = sample_items k; insns = sample_insns k; starts = sample_starts }

code_size : (k : ℕ) → length (method_code k) ≡ 14
unfolding method_code short
code_size k = refl

table_size : length frame_table ≡ 3
unfolding frame_table short
table_size = refl

code_text : (n k : ℕ) → IsCodeText (sample_pool n) (code_body k) (sample_items k)
unfolding code_form code_body
code_text n k =
    let size = code_size k in
    let frames_size = table_size in
    let attributes : List ℕ = short 1 ++ attribute_text 6 frame_table in
    record {
      text = (
        2,
        short 2,
        _,
        refl,
        big_short 2 (omega arith),
        (
          1,
          short 1,
          _,
          refl,
          big_short 1 (omega arith),
          (
            length (method_code k),
            word (length (method_code k)),
            _,
            refl,
            big_word (length (method_code k)) (omega (arith, size)),
            (
              method_code k,
              method_code k,
              short 0 ++ attributes,
              refl,
              (refl, refl),
              (
                [],
                short 0,
                attributes,
                refl,
                none_counted row,
                (
                  record { name = 6; body = frame_table } ∷ [],
                  attributes,
                  [],
                  sym (append-nil attributes),
                  one_counted (attribute (HasText (sample_pool n))) (attribute_text 6 frame_table) (record { name = 6; body = frame_table })
                      (attribute_is (HasText (sample_pool n)) 6 frame_table (omega arith) (omega (arith, frames_size)) (codes "StackMapTable", has_frames_name n)),
                  (refl, refl),
                ),
              ),
            ),
          ),
        ),
      );
      some = omega (arith, size);
      few = omega (arith, size);
    }

has_code : (n k : ℕ) → HasCode (sample_pool n) (sample_method k) (code_body k)
unfolding utf8_of
has_code n k = record { concrete = λ b. b refl; single = refl }

pub is_coded : (n k : ℕ) → k < 1000 → IsCoded (sample_pool n) (sample_method k) (sample_coded k)
is_coded n k less = record { items = record { bytes = code_body k; code = has_code n k; text = code_text n k }; spelled = spells k less }

-- ---- its frame

abbrev only_int : TypeState
only_int = record { locals = int ∷ []; stack = [] }

abbrev pub sample_frame : FrameAt
sample_frame = record { at = 6; state = record { locals = kinds.Int ∷ []; stack = [] } }

-- how the frame is seen
abbrev pub seen_frame : TypeStateAt
seen_frame = record { at = 6; state = only_int }

begins : (n k : ℕ) → k < n → BeginsWith (sample_pool n) sample_class (sample_method k) (sample_coded k) only_int
unfolding types_from rest_from
begins n k less = record { name = method_name k; desc = codes "(I)I"; name_is = text_at n k less; desc_is = has_type n; entry_is = refl }

found : Found
found = record { frame = seen_frame; next = record { base = 11; values = int ∷ [] } }

says : (n k : ℕ) → frame_of (ground_of (sample_pool n) (sample_coded k)) (first_before only_int) (frames.Same 10) ≡ Some found
unfolding frame_of found
says n k = refl

ten : (frame_item).Text (10 ∷ []) (frames.Same 10)
unfolding frame_item
ten = (10, 10 ∷ [], [], refl, record { size = refl; value = refl }, (refl, refl))

stands : (n k : ℕ) → StandsFor (ground_of (sample_pool n) (sample_coded k)) only_int frame_table (seen_frame ∷ [])
unfolding frame_table found
stands n k = record {
  count = 1;
  front = short 1;
  rest = 10 ∷ [];
  parts = refl;
  counted = big_short 1 (omega arith);
  are = ([], found, [], refl, record { item = frames.Same 10; front = 10 ∷ []; parts = refl; text = ten; says = says n k }, (refl, refl));
}

has_frames : (n k : ℕ) → k < n → HasFrames (sample_pool n) sample_class (sample_method k) (sample_coded k) (seen_frame ∷ [])
unfolding utf8_of
has_frames n k less = record { entry = only_int; begins = begins n k less; frames_are = inr (frame_table, refl, stands n k) }

-- ---- no fault

right_entries : (n k : ℕ) → IsNowhere (WrongPoolEntry 52 (sample_pool n) (sample_coded k))
right_entries n k place wrong =
    wrong.fault (all_at (HasRightEntry 52 (sample_pool n)) (sample_insns k) wrong.number wrong.insn (tt, (tt, (tt, (tt, (tt, (tt, (tt, (tt, tt)))))))) wrong.stands)

not_falls : FallsThrough (insns.Simple opcode.ireturn) → ⊥
not_falls (inl e) = cc
not_falls (inr e) = cc

jumps_somewhere : (k : ℕ) → IsNowhere (JumpNowhere (sample_coded k))
jumps_somewhere k place astray = by astray.fault
  where
    by : IsAstray 8 astray.number astray.insn → ⊥
    by (inl out) =
        out (all_at (LeadsWithin 8) (sample_insns k) astray.number astray.insn (tt, (tt, (tt, ((omega arith, tt), (tt, (tt, (tt, (tt, tt)))))))) astray.stands)
    by (inr (last, falls)) =
        let number_is : astray.number ≡ 7 = omega (arith, last) in
        let insn_is : insns.Simple opcode.ireturn ≡ astray.insn =
        same_Some (insns.Simple opcode.ireturn) astray.insn (sym (ap (slice_get (sample_insns k)) number_is) ∙ astray.stands) in
        not_falls (subst FallsThrough (sym insn_is) falls)

locals_inside : (k : ℕ) → IsNowhere (LocalOutside (sample_coded k))
locals_inside k place out =
    out.fault (all_at (LocalsWithin 1) (sample_insns k) out.number out.insn ((omega arith, tt), (tt, (tt, (tt, ((omega arith, tt), (tt, (tt, (tt, tt)))))))) out.stands)

takes_one : (desc : List ℕ) (slots : ℕ) → codes "(I)I" ≡ desc → TakeSlots 9 desc slots → 1 ≡ slots
unfolding types_from rest_from
takes_one desc slots is takes = argument_slots sample_class sample_class (codes "(I)I") 9 slots (subst (λ (d : List ℕ). TakeSlots 9 d slots) (sym is) takes)

arguments_inside : (n k : ℕ) → IsNowhere (ArgumentsOutside (sample_pool n) (sample_method k) (sample_coded k))
arguments_inside n k place out =
    let one = takes_one out.desc out.slots (same_Some (codes "(I)I") out.desc (sym (has_type n) ∙ out.desc_is)) out.takes in
    let more = out.fault in
    omega (arith, one, more)

no_bad_row : (n k : ℕ) → IsNowhere (BadRow (sample_pool n) (sample_coded k))
no_bad_row n k place bad = none-some bad.row bad.stands

abbrev no_tables : Tables
no_tables = record { lines = []; vars = []; kind_vars = [] }

tables_are : (n k : ℕ) → AreTables (sample_pool n) (sample_items k).attributes no_tables
unfolding utf8_of
tables_are n k = record { lines = refl; vars = refl; kind_vars = refl }

not_malformed : (n k : ℕ) → IsNowhere (MalformedTable (sample_pool n) (sample_coded k))
not_malformed n k place bad = bad.fault no_tables (tables_are n k)

not_wide : (k : ℕ) → IsNowhere (TooWide (sample_coded k))
not_wide k place wide = let more = wide.fault in omega (arith, more)

none_of_code : (n k : ℕ) → k < n
    → AreNowhere (map (λ F. F (sample_coded k)) (insn_faults 52 (sample_pool n) ++ (row_faults (sample_pool n) (sample_method k) ++ table_faults (sample_pool n) sample_class (sample_method k))))
none_of_code n k less = (
  right_entries n k,
  (
    jumps_somewhere k,
    (
      locals_inside k,
      (
        arguments_inside n k,
        (
          no_bad_row n k,
          (
            not_malformed n k,
            ((λ place bad. apart (sample_pool n) sample_class (sample_method k) (sample_coded k) (seen_frame ∷ []) place (has_frames n k less) bad), (not_wide k, tt)),
          ),
        ),
      ),
    ),
  ),
)

-- ---- the body

abbrev pub sample_body : ℕ → Body
sample_body k = record {
  method = k;
  owner = sample_class;
  name = method_name k;
  desc = codes "(I)I";
  flags = 9;
  arg_slots = 1;
  max_stack = 2;
  max_locals = 1;
  code = sample_insns k;
  handlers = [];
  lines = [];
  vars = [];
  kind_vars = [];
  frames = sample_frame ∷ [];
  uses = [];
}

one_slot : TakeSlots 9 (codes "(I)I") 1
one_slot = record { type = int_to_int.0; described = int_to_int.1; static_slots = λ e. refl; other_slots = λ n. absurd (n (λ (e : 8 ≡ 0). omega (arith, e))) }

no_uses : (n k : ℕ) → AreUsesOf (sample_pool n) [] []
no_uses n k = record { rising = tt; each = λ place. refl }

pub method_at : {X : Type 0} (f : ℕ → X) (a m i : ℕ) → i < m → slice_get (map f (range_with_len a m)) i ≡ Some (f (a + i))
method_at f a zero i less = absurd (omega (arith, less))
method_at f a (suc m) zero less = ap (λ j. Some (f j)) (let e : a ≡ a + 0 = omega arith in e)
method_at f a (suc m) (suc i) less = method_at f (a + 1) m i (omega (arith, less)) ∙ ap (λ j. Some (f j)) (let e : (a + 1) + i ≡ a + suc i = omega arith in e)

pub is_body : (names : Names) (n k : ℕ) → n ≤ 1000 → k < n → BodyOf names (sample_class_file n) k (sample_body k)
is_body names n k within less =
    let coded = is_coded n k (omega (arith, within, less)) in
    let none = coded_without 52 (sample_pool n) sample_class (sample_method k) (sample_coded k) coded (none_of_code n k less) in
    record {
      method = sample_method k;
      at = method_at sample_method 0 n k less ∙ ap (λ j. Some (sample_method j)) (let e : 0 + k ≡ k = omega arith in e);
      is = record {
        coded = sample_coded k;
        is = coded;
        no_subroutine = none.0;
        no_fault = none.1;
        tables = no_tables;
        are_tables = tables_are n k;
        parts = record {
          number_is = refl;
          owner = sample_named n;
          name = text_at n k less;
          desc = has_type n;
          flags = refl;
          arg_slots = one_slot;
          max_stack = refl;
          max_locals = refl;
          code = refl;
          handlers = refl;
          lines = refl;
          vars = refl;
          kind_vars = refl;
          frames = has_frames n k less;
          numbers = (record { locals = (tt, tt); stack = tt }, tt);
          uses = no_uses n k;
        };
      };
    }
