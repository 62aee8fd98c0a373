-- A turn of a frame of `$jacocoInit`.
use Rattle.std.proofs.Common.{◌≡◌, ◌⊎◌, inl, inr, ℕ, ℤ, pos, ◌+◌, ◌<◌, Bool, true, false, not, ◌&&◌, ◌||◌, List, [], ◌∷◌, length, Option, Some, None, nat_eq, nat_le, is_some, refl, sym, ap, ◌∙◌, arith, if◌then◌else◌}
use Rattle.std.specs.Prelude.{slice_get, bytes_eq, codes, option_and_then, int_le}
use Rattle.std.specs.Int.{w64, cast_signed}
use Rattle.std.specs.List.{sum_by}
use Rattle.std.proofs.lemmas.Int.{ints}
use Rattle.std.proofs.lemmas.Bool.{eq-eqb}
use Rattle.jc_bytes.specs.Descriptor.{FieldType, Array, Boolean}
use Rattle.jc_bytes.proofs.TextEqualLaws.{same_bytes}
use Rattle.jc_bytes.proofs.BooleanLaws.{and_false}
use Rattle.jc_methods.specs.Opcode as opcode
use Rattle.jc_methods.specs.DescriptorTypes.{types_from, field_type_in, method_type_in}
use Rattle.jc_methods.specs.ProbeMembers.{init_name, init_type, data_name, data_type, runtime_class, fetch_name, fetch_type, most_short}
use Rattle.jc_methods.specs.declared.insn.Insn.{Insn}
use Rattle.jc_methods.specs.declared.insn.Insn.TheVariants as insns
use Rattle.jc_methods.specs.declared.body.Body.{Body}
use Rattle.jc_methods.specs.declared.probe_members.Fetch.TheVariants as fetches
use Rattle.jc_programs.specs.declared.program.Program.{Program}
use Rattle.jc_programs.specs.declared.program.Linked.{Linked}
use Rattle.jc_programs.specs.declared.program.ProbeInit.{ProbeInit}
use Rattle.jc_programs.specs.declared.run_end.Entry.{Entry}
use Rattle.jc_programs.specs.Members.{class_named, class_at, static_named}
use Rattle.jc_plan.specs.Probed.{probe_count}
use Rattle.jc_emit.specs.Added.{push_count, init_code, HasCount, IsInitBody}
use Rattle.jc_emit.specs.Marks.{push, PushesBy, Pushes}
use Rattle.jc_machine_model.specs.Values.{Value, int, long, null, probes, text, reference_type}
use Rattle.jc_machine_model.specs.World.{Frame, Shared}
use Rattle.jc_machine_model.specs.Operations.{FieldAt, pushes, outside}
use Rattle.jc_machine_model.specs.Results.{Result, goes, leaves, next_with, goes_with, gets_stuck}
use Rattle.jc_machine_model.specs.Effects.{effect, moves_of}
use Rattle.jc_machine_model.specs.Jumps.{test_of, by_test, int_equal}
use Rattle.jc_machine_model.specs.Statics.{static_at, with_static, by_get, by_put}
use Rattle.jc_machine_model.specs.Calls.{by_return, returned_as}
use Rattle.jc_machine_model.specs.Objects.{by_fetch}
use Rattle.jc_machine_model.specs.Perform.{by_effect, perform}
use Rattle.jc_machine_model.specs.Profile.{Location, in_init, init_of, constant_operation, long_operation, may_name_field, field_operation, declared_field, linked_field, is_print_stream, is_fetch, init_call, member_operation, operation_of, method_entered, callee_named}
use Rattle.jc_machine_model.specs.Step.{result_of}
use Rattle.jc_twin_simulation.specs.Sides.{Side, count_in, IsChanged, IsSide, AreSides, way_of}
use Rattle.jc_twin_simulation.specs.Beside.{null_or, InitStep, reads_field, doubles, asks_null, clears, wants_id, wants_text, wants_count, fetches_array, keeps_array, writes_field, gives_back, step_place, step_stack, extra_in, values_of, SameShared}
use Rattle.jc_twin_simulation.proofs.StaticLaws.{reads_extra, puts_extra}
use Rattle.jc_twin_simulation.proofs.ClassLaws.{class_same, class_again, changed_init, changed_probes, changed_data, data_found}
use Rattle.jc_twin_simulation.proofs.FrameLaws.{location, result_is}
use Rattle.jc_twin_simulation.proofs.AsideLaws.{pushes_it}

-- ---- words of the machine

pub or_true : (b : Bool) → (b || true) ≡ true
or_true true = refl
or_true false = refl

le_self : (x : ℤ) → int_le x x ≡ true
le_self x = grind (arith, ints)

equal_self : (x : ℤ) → int_equal x x ≡ true
equal_self x = ap (λ b. b && int_le x x) (le_self x) ∙ le_self x

returned_array : (o : Option FieldType) (class count : ℕ) → returned_as o (probes class count) ≡ probes class count
returned_array None class count = refl
returned_array (Some type) class count = refl

data_type_is : field_type_in data_type ≡ Some (Array Boolean)
unfolding types_from
data_type_is = refl

-- dup, pop and ifnonnull of null or of a probe array
dups : (r : Program) (at : Location) (s : Shared) (f : Frame) (found : Bool) (class count : ℕ) (st : List Value)
    → f.stack ≡ null_or found (probes class count) ∷ st
    → perform (operation_of r at (insns.Simple opcode.dup)) s f ≡ goes_with s f (null_or found (probes class count) ∷ null_or found (probes class count) ∷ st)
unfolding operation_of perform effect moves_of
dups r at s f true class count st e = ap (λ l. by_effect (effect 89 l) s (record f { stack = l })) e
dups r at s f false class count st e = ap (λ l. by_effect (effect 89 l) s (record f { stack = l })) e

pops : (r : Program) (at : Location) (s : Shared) (f : Frame) (st : List Value) → f.stack ≡ null ∷ st
    → perform (operation_of r at (insns.Simple opcode.pop)) s f ≡ goes_with s f st
unfolding operation_of perform effect moves_of
pops r at s f st e = ap (λ l. by_effect (effect 87 l) s (record f { stack = l })) e

asks : (r : Program) (at : Location) (s : Shared) (f : Frame) (found : Bool) (class count to : ℕ) (st : List Value)
    → f.stack ≡ null_or found (probes class count) ∷ st
    → perform (operation_of r at (insns.Jump opcode.ifnonnull to)) s f ≡ goes s (record f { place = if found then to else f.place + 1; stack = st })
unfolding operation_of perform test_of
asks r at s f true class count to st e = ap (λ l. by_test (test_of 199 l) to s f) e
asks r at s f false class count to st e = ap (λ l. by_test (test_of 199 l) to s f) e

module _ (p p' : Program) (sides : Entry → Side) where
  -- the frame goes on inside its code
  pub record Steps (s s' : Shared) (f' : Frame) (class : ℕ) (init : ProbeInit) (step : InitStep) (r : Result) : Type 0 where
    pub after : Shared
    pub frame : Frame
    pub is : r ≡ goes after frame
    pub shared : SameShared p p' sides s after
    pub next : InitStep
    pub method : frame.method ≡ f'.method
    pub place : frame.place ≡ step_place next
    pub stack : frame.stack ≡ step_stack class init next
    pub later : step_place step < step_place next

  -- it does, or gives the array back
  abbrev pub Stepped : (s s' : Shared) → Frame → (class : ℕ) → ProbeInit → InitStep → Result → Type 0
  Stepped s s' f' class init step r = Steps s s' f' class init step r ⊎ ((r ≡ leaves (Some (probes class init.count))) × (step ≡ gives_back))

  module _ (are : AreSides p p' sides) (m : Entry) (side : IsSide p p' m (sides m)) (v : ℕ) (c : IsChanged p p' (sides m) v)
      (way : way_of (sides m) ≡ fetches.Member)
      (s s' : Shared) (ss : SameShared p p' sides s s') (f' : Frame)
      (is_init : f'.method ≡ record { class = m.class; method = length (sides m).class.bodies }) where
    abbrev t : Side
    t = sides m

    abbrev k : ℕ
    k = m.class

    abbrev b : Body
    b = c.pair.added

    abbrev init : ProbeInit
    init = record { id = c.pair.id; count = sum_by probe_count t.class.bodies; bootstrap = None }

    abbrev array : Value
    array = probes k init.count

    i : IsInitBody p'.names t.class.name (cast_signed w64 c.pair.id) (sum_by probe_count t.class.bodies) b
    i = changed_init p.names p'.names t.class t.new c.pair way

    abbrev code : List Insn
    code = init_code i.places init.count

    abbrev at : ℕ → Location
    at q = location (record { class = k; method = length t.class.bodies }) q t.new b

    named : (q : ℕ) → in_init (at q) ≡ true
    named q = same_bytes b.name init_name i.method.name

    -- what the instruction at its place does
    run : (q : ℕ) (insn : Insn) → f'.place ≡ q → slice_get code q ≡ Some insn → result_of p' s' f' ≡ perform (operation_of p' (at q) insn) s' f'
    run q insn e h =
        result_is p' s' f' (record { class = k; method = length t.class.bodies }) q t.new b insn is_init e side.new_is c.added_at
        (ap (λ (l : List Insn). slice_get l q) i.method.code_is ∙ h)

    next : (step to : InitStep) (r : Result) (after : Shared) (st : List Value) → f'.place ≡ step_place step → r ≡ goes after (next_with f' st)
        → step_place step + 1 ≡ step_place to
        → SameShared p p' sides s after → st ≡ step_stack k init to → Stepped s s' f' k init step r
    next step to r after st e is more h same = inl (record {
      after = after;
      frame = next_with f' st;
      is = is;
      shared = h;
      next = to;
      method = refl;
      place = ap (λ q. q + 1) e ∙ more;
      stack = same;
      later = omega arith;
    })

    -- ---- the field

    abbrev field : FieldAt
    field = record { class = k; field = length (values_of s k) }

    size : length (values_of s k) ≡ length t.class.statics
    size = ss.counts k t.class side.class_is

    extra : extra_in (class_at p' k) ≡ Some init.count
    extra =
        ap extra_in side.new_is
        ∙ ap (λ b. if b then Some (count_in t.new.probes) else None) (changed_data p.names p'.names t.class t.new c.pair way)
        ∙ ap (λ o. Some (count_in o)) (changed_probes p.names p'.names t.class t.new c.pair way)

    may_name : (q : ℕ) → may_name_field (at q) k data_name ≡ true
    may_name q =
        ap (λ b. not (bytes_eq data_name data_name) || (b && nat_eq k k)) (named q)
        ∙ ap (λ b. not (bytes_eq data_name data_name) || b) (eq-eqb k k refl) ∙ or_true (not (bytes_eq data_name data_name))

    class_is : class_named p' t.class.name ≡ Some k
    class_is = class_same p p' are.names t.class.name ∙ class_again p are.differ k t.class side.class_is

    no_stream : (op : ℕ) → is_print_stream op t.class.name data_name data_type ≡ false
    no_stream op = ap (λ b. nat_eq op 178 && b) (and_false (bytes_eq t.class.name (codes "java/lang/System"))) ∙ and_false (nat_eq op 178)

    accesses : (op q : ℕ) → operation_of p' (at q) (insns.Member op i.places.field) ≡ field_operation op field (Some (Array Boolean))
    unfolding operation_of
    accesses op q =
        ap (member_operation op (at q) p') i.field_is
        ∙ ap (λ b. if b then pushes Value.print_stream else linked_field op (at q) p' data_name data_type (class_named p' t.class.name)) (no_stream op)
        ∙ ap (linked_field op (at q) p' data_name data_type) class_is
        ∙ ap (λ o. declared_field op (at q) k data_name data_type (option_and_then (λ (x : Linked). static_named x.statics data_name data_type) o)) side.new_is
        ∙ ap (declared_field op (at q) k data_name data_type) (data_found p.names p'.names t.class t.new c.pair way)
        ∙ ap (λ b. if b then field_operation op (record { class = k; field = length t.class.statics }) (field_type_in data_type) else outside) (may_name q)
        ∙ ap (field_operation op (record { class = k; field = length t.class.statics })) data_type_is
        ∙ ap (λ n. field_operation op (record { class = k; field = n }) (Some (Array Boolean))) (sym size)

    gets_it : (q : ℕ) → perform (operation_of p' (at q) (insns.Member opcode.getstatic i.places.field)) s' f' ≡ by_get (static_at s'.statics field) s' f'
    unfolding perform
    gets_it q = ap (λ o. perform o s' f') (accesses opcode.getstatic q)

    puts_it : (q : ℕ) → perform (operation_of p' (at q) (insns.Member opcode.putstatic i.places.field)) s' f' ≡ by_put field (Array Boolean) f'.stack s' f'
    unfolding perform
    puts_it q = ap (λ o. perform o s' f') (accesses opcode.putstatic q)

    -- ---- the array is asked for

    pushes_id : (q : ℕ) → perform (operation_of p' (at q) (insns.Constant2 i.places.id)) s' f' ≡ goes_with s' f' (long (cast_signed w64 init.id) ∷ f'.stack)
    unfolding operation_of perform
    pushes_id q = ap (λ o. perform (long_operation o) s' f') i.names_count.id_is

    init_is_there : (q : ℕ) → init_of (at q) ≡ Some init
    init_is_there q =
        ap (λ x. if x && bytes_eq b.desc init_type then t.new.probes else None) (named q)
        ∙ ap (λ x. if x then t.new.probes else None) (same_bytes b.desc init_type i.method.desc_is)
        ∙ changed_probes p.names p'.names t.class t.new c.pair way

    pushes_text : (q : ℕ) → perform (operation_of p' (at q) (insns.Constant i.places.name)) s' f' ≡ goes_with s' f' (text k ∷ f'.stack)
    unfolding operation_of perform
    pushes_text q =
        ap (λ o. perform (constant_operation (at q) o) s' f') i.names_count.name_is
        ∙ ap (λ o. perform (if is_some o then pushes (text k) else outside) s' f') (init_is_there q)

    -- the number of probes is pushed
    count_pushes : Pushes b.uses (push_count i.places init.count) init.count
    count_pushes = by (nat_le init.count most_short) i.names_count.count_is
      where
        by : (short : Bool) → HasCount short b.uses init.count i.places.count
            → PushesBy short b.uses (if short then push init.count else insns.Constant i.places.count) init.count
        by true h = refl
        by false h = (i.places.count, refl, h)

    fetches_it : (q : ℕ) (st : List Value) → f'.stack ≡ int (pos init.count) ∷ text k ∷ long (cast_signed w64 init.id) ∷ st
        → perform (operation_of p' (at q) (insns.Member opcode.invokestatic i.places.fetch)) s' f' ≡ goes_with s' f' (array ∷ st)
    unfolding operation_of perform
    fetches_it q st e =
        ap (λ o. perform (member_operation opcode.invokestatic (at q) p' o) s' f') i.names_count.fetch_is
        ∙ ap (λ x. perform (if x then init_call (at q) (is_fetch runtime_class fetch_name fetch_type) (init_of (at q)) else method_entered (at q) p'
        (callee_named p' runtime_class fetch_name fetch_type)) s' f') (named q)
        ∙ ap (λ o. perform (init_call (at q) true o) s' f') (init_is_there q)
        ∙ ap (λ l. by_fetch k init l s' f') e
        ∙ ap (λ x. if x && (nat_eq k k && int_equal (pos init.count) (pos init.count)) then goes_with s' f' (array ∷ st) else gets_stuck)
        (equal_self (cast_signed w64 init.id))
        ∙ ap (λ x. if x && int_equal (pos init.count) (pos init.count) then goes_with s' f' (array ∷ st) else gets_stuck) (eq-eqb k k refl)
        ∙ ap (λ x. if x then goes_with s' f' (array ∷ st) else gets_stuck) (equal_self (pos init.count))

    returns_it : (q : ℕ) (st : List Value) → f'.stack ≡ array ∷ st → perform (operation_of p' (at q) (insns.Simple opcode.areturn)) s' f' ≡ leaves (Some array)
    unfolding operation_of perform
    returns_it q st e =
        ap (by_return reference_type (method_type_in b.desc).returns) e
        ∙ ap (λ x. leaves (Some x)) (returned_array (method_type_in b.desc).returns k init.count)

    -- ---- a turn

    pub init_turn : (step : InitStep) → f'.place ≡ step_place step → f'.stack ≡ step_stack k init step → Stepped s s' f' k init step (result_of p' s' f')
    init_turn reads_field e st =
        let found = reads_extra p p' sides s s' k init.count extra ss in
        next reads_field (doubles found.0) _ s' (null_or found.0 array ∷ []) e
        (run 0 _ e refl ∙ gets_it 0 ∙ ap (λ o. by_get o s' f') found.1 ∙ ap (λ l. goes_with s' f' (null_or found.0 array ∷ l)) st) refl ss refl
    init_turn (doubles found) e st =
        next (doubles found) (asks_null found) _ s' (null_or found array ∷ null_or found array ∷ []) e
        (run 1 _ e refl ∙ dups p' (at 1) s' f' found k init.count [] st) refl ss refl
    init_turn (asks_null true) e st = inl (record {
      after = s';
      frame = record f' { place = 10; stack = array ∷ [] };
      is = run 2 _ e refl ∙ asks p' (at 2) s' f' true k init.count 10 (array ∷ []) st;
      shared = ss;
      next = gives_back;
      method = refl;
      place = refl;
      stack = refl;
      later = omega arith;
    })
    init_turn (asks_null false) e st =
        next (asks_null false) clears _ s' (null ∷ []) e (run 2 _ e refl ∙ asks p' (at 2) s' f' false k init.count 10 (null ∷ []) st) refl ss refl
    init_turn clears e st = next clears wants_id _ s' [] e (run 3 _ e refl ∙ pops p' (at 3) s' f' [] st) refl ss refl
    init_turn wants_id e st =
        next wants_id wants_text _ s' (long (cast_signed w64 init.id) ∷ []) e
        (run 4 _ e refl ∙ pushes_id 4 ∙ ap (λ l. goes_with s' f' (long (cast_signed w64 init.id) ∷ l)) st) refl ss refl
    init_turn wants_text e st =
        next wants_text wants_count _ s' (text k ∷ long (cast_signed w64 init.id) ∷ []) e
        (run 5 _ e refl ∙ pushes_text 5 ∙ ap (λ l. goes_with s' f' (text k ∷ l)) st) refl ss refl
    init_turn wants_count e st =
        next wants_count fetches_array _ s' (int (pos init.count) ∷ text k ∷ long (cast_signed w64 init.id) ∷ []) e
        (run 6 _ e refl ∙ pushes_it p' (at 6) s' f' _ init.count count_pushes ∙ ap (λ l. goes_with s' f' (int (pos init.count) ∷ l)) st) refl ss refl
    init_turn fetches_array e st = next fetches_array keeps_array _ s' (array ∷ []) e (run 7 _ e refl ∙ fetches_it 7 [] st) refl ss refl
    init_turn keeps_array e st =
        next keeps_array writes_field _ s' (array ∷ array ∷ []) e (run 8 _ e refl ∙ dups p' (at 8) s' f' true k init.count [] st) refl ss refl
    init_turn writes_field e st =
        next writes_field gives_back _ (record s' { statics = with_static s'.statics field array }) (array ∷ []) e
        (run 9 _ e refl ∙ puts_it 9 ∙ ap (λ l. by_put field (Array Boolean) l s' f') st) refl
        (puts_extra p p' sides s s' k init.count true extra ss) refl
    init_turn gives_back e st = inr (run 10 _ e refl ∙ returns_it 10 [] st, refl)
