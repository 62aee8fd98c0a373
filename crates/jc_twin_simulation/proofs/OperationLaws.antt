-- The operation of an instruction, and that of its image.
use Rattle.std.proofs.Common.{◌≡◌, ◌⊎◌, inl, inr, ⊎_elim, ℕ, ◌+◌, ◌-◌, ◌<◌, Bool, true, false, ◌&&◌, ◌||◌, List, [], ◌∷◌, length, map, Option, Some, None, nat_eq, nat_lt, nat_le, is_some, refl, sym, ap, ◌∙◌, subst, subst₂, arith, if◌then◌else◌}
use Rattle.std.specs.Prelude.{slice_get, Contains, bytes_eq}
use Rattle.std.proofs.lemmas.Option.{slice_get_within, get_or_from_slice_get, slice_get-get_or}
use Rattle.std.proofs.lemmas.Bool.{leb-true, eqb-true, and_parts}
use Rattle.jc_bytes.specs.Descriptor.{FieldType}
use Rattle.jc_bytes.specs.PlainLists.{map_from}
use Rattle.jc_bytes.specs.FirstSeen.{first_seen}
use Rattle.jc_bytes.proofs.BooleanLaws.{stands_in, and_false}
use Rattle.jc_methods.specs.Opcode as opcode
use Rattle.jc_methods.specs.Flow.{flow_of, is_return, inverse_of}
use Rattle.jc_methods.specs.Insn.{IsWellFormed}
use Rattle.jc_methods.specs.InsnUse.{pool_place, is_of_two_slots}
use Rattle.jc_methods.specs.Slots.{with_slots}
use Rattle.jc_methods.proofs.SlotsLaws.{slots_same}
use Rattle.jc_methods.specs.DescriptorTypes.{method_type_in}
use Rattle.jc_methods.specs.ProbeMembers.{init_type, data_type}
use Rattle.jc_methods.specs.declared.insn.Insn.{Insn}
use Rattle.jc_methods.specs.declared.insn.Insn.TheVariants as insns
use Rattle.jc_methods.specs.declared.insn.Flow.{Flow}
use Rattle.jc_methods.specs.declared.insn.Flow.TheVariants as flows
use Rattle.jc_methods.specs.declared.insn.Arm.{Arm}
use Rattle.jc_methods.specs.declared.body.What.{What}
use Rattle.jc_methods.specs.declared.body.What.TheVariants as whats
use Rattle.jc_programs.specs.declared.program.Program.{Program}
use Rattle.jc_programs.specs.declared.program.ProbeInit.{ProbeInit}
use Rattle.jc_programs.specs.declared.run_end.Entry.{Entry}
use Rattle.jc_programs.specs.declared.run_end.Thrown.{Thrown}
use Rattle.jc_plan.specs.Edges.{arm, sequence, jump, branches_of}
use Rattle.jc_emit.specs.Sizes.{insn_at}
use Rattle.jc_emit.specs.Local.{Stands, moved_insn, SwitchesAlike, OkImage}
use Rattle.jc_emit.proofs.ConditionalBranchLaws.{test_op}
use Rattle.jc_machine_model.specs.Values.{Value, int, ComputationalType, int_type, long_type, reference_type}
use Rattle.jc_machine_model.specs.Methods.{is_init_name}
use Rattle.jc_machine_model.specs.Operations.{Operation, pushes, computes, counts, tests, jumps, measures, casts, returns, returns_nothing, throws_top, outside}
use Rattle.jc_machine_model.specs.Profile.{Location, in_init, init_of, what_at, has_constant, given_of, given_by, given_in, begins_with_array, cast_operation, computed_operation, constant_operation, long_operation, member_operation, make_operation, made_class, class_operation, array_operation, elements_of, read_operation, write_operation, return_operation, simple_operation, local_type, load_operation, store_operation, local_operation, operation_of}
use Rattle.jc_twin_simulation.specs.Same.{twin_slot}
use Rattle.jc_twin_simulation.specs.Sides.{Side, GoesOnAt, IsSide, AreSides}
use Rattle.jc_twin_simulation.proofs.MemberLaws.{own_member}
use Rattle.jc_twin_simulation.proofs.OwnLaws.{Alike, Next}
use Rattle.jc_twin_simulation.proofs.TestLaws.{inverse_no_goto}
use Rattle.jc_twin_simulation.proofs.BranchLaws.{target_branch}

-- the image of an instruction that goes on
moved_is : (slot : Option ℕ) (insn : Insn) → moved_insn slot insn ≡ with_slots (twin_slot slot) insn
moved_is None insn = sym (slots_same insn)
moved_is (Some v) insn = refl

if_same : {X : Type 0} (b : Bool) (x y x' y' : X) → x' ≡ x → y' ≡ y → (if b then x' else y') ≡ (if b then x else y)
if_same true x y x' y' e h = e
if_same false x y x' y' e h = h

-- ---- longs

two_slots : (op : ℕ) → local_type op ≡ Some long_type → is_of_two_slots op ≡ true
two_slots op e = by (nat_eq op 21 || nat_eq op 54) (nat_eq op 22 || nat_eq op 55) refl e
  where
    long_or : (a b c d : Bool) → (a || c) ≡ true → (((a || b) || c) || d) ≡ true
    long_or true b c d h = refl
    long_or false true c d h = refl
    long_or false false true d h = refl
    long_or false false false d h = cc

    rest : (c : Bool) → (if c then Some reference_type else None) ≡ Some long_type → ⊥
    rest true e = cc
    rest false e = cc

    by : (a b : Bool) → (nat_eq op 22 || nat_eq op 55) ≡ b
        → (if a then Some int_type else if b then Some long_type else if nat_eq op 25 || nat_eq op 58 then Some reference_type else None) ≡ Some long_type
        → is_of_two_slots op ≡ true
    by true b q e = cc
    by false true q e = long_or (nat_eq op 22) (nat_eq op 24) (nat_eq op 55) (nat_eq op 57) q
    by false false q e = absurd (rest (nat_eq op 25 || nat_eq op 58) e)

module _ (p p' : Program) (sides : Entry → Side) (are : AreSides p p' sides) (m : Entry) (side : IsSide p p' m (sides m)) (q i : ℕ)
    (past : (v : ℕ) → (sides m).slot ≡ Some v → nat_eq q 0 ≡ false) (beyond : (given_of (sides m).new ≡ None) ⊎ (nat_eq q 1 ≡ false)) (new : Insn) where
  abbrev t : Side
  t = sides m

  abbrev at : Location
  at = record { class = m.class; linked = t.class; body = t.body; place = i }

  abbrev at' : Location
  at' = record { class = m.class; linked = t.new; body = t.twin; place = q }

  abbrev Both : Operation → Operation → Type 0
  Both op op' = Alike p p' sides t q i op op'

  abbrev Go : Type 0
  Go = Next p p' sides t q i

  no_init : in_init at ≡ false
  no_init = side.named

  no_init' : in_init at' ≡ false
  no_init' = ap is_init_name side.same.name ∙ side.named

  both_if : (b : Bool) (x y x' y' : Operation) → Both x x' → Both y y' → Both (if b then x else y) (if b then x' else y')
  both_if true x y x' y' h k = h
  both_if false x y x' y' h k = k

  -- ---- instructions without operands

  own_return : (op : ℕ) → Both (return_operation op t.body) (return_operation op t.twin)
  own_return op =
      let type = ap (λ (desc : List ℕ). (method_type_in desc).returns) side.same.desc in
      both_if (nat_eq op opcode.ireturn) _ _ _ _ (ap (returns int_type) type)
      (both_if (nat_eq op opcode.lreturn) _ _ _ _ (ap (returns long_type) type)
      (both_if (nat_eq op opcode.areturn) _ _ _ _ (ap (returns reference_type) type)
      (both_if (nat_eq op opcode.return) returns_nothing outside returns_nothing outside refl refl)))

  own_read : Go → (types : List FieldType) → Both (read_operation types) (read_operation types)
  own_read h [] = refl
  own_read h (type ∷ types) = (refl, h)

  own_write : Go → (types : List FieldType) → Both (write_operation types) (write_operation types)
  own_write h [] = refl
  own_write h (type ∷ types) = (refl, h)

  abbrev loads_array : ℕ → Bool
  loads_array op = nat_le opcode.iaload op && nat_le op opcode.saload

  abbrev stores_array : ℕ → Bool
  stores_array op = nat_le opcode.iastore op && nat_le op opcode.sastore

  -- an opcode between these isn't one of those between higher ones
  apart : (a b c d op : ℕ) → b < c → (nat_le a op && nat_le op b) ≡ true → (nat_le c op && nat_le op d) ≡ true → ⊥
  apart a b c d op lt h k =
      let high = leb-true op b (and_parts (nat_le a op) (nat_le op b) h).1 in
      let low = leb-true c op (and_parts (nat_le c op) (nat_le op d) k).0 in
      omega (arith, high, low, lt)

  apart_one : (a b c op : ℕ) → b < c → (nat_le a op && nat_le op b) ≡ true → nat_eq op c ≡ true → ⊥
  apart_one a b c op lt h k =
      let high = leb-true op b (and_parts (nat_le a op) (nat_le op b) h).1 in
      let same = eqb-true op c k in
      omega (arith, high, same, lt)

  apart_two : (c d op : ℕ) → (c ≡ d → ⊥) → nat_eq op c ≡ true → nat_eq op d ≡ true → ⊥
  apart_two c d op other h k = other (sym (eqb-true op c h) ∙ eqb-true op d k)

  -- a return
  simple_return : (op : ℕ) → is_return op ≡ true → Both (simple_operation op at) (simple_operation op at')
  simple_return op h = by (loads_array op) (stores_array op) (is_return op) refl refl h
    where
      by : (a b c : Bool) → loads_array op ≡ a → stores_array op ≡ b → c ≡ true
          → Both (if a then read_operation (elements_of op) else if b then write_operation (elements_of (op - 33)) else if c then return_operation op t.body
          else if nat_eq op 190 then measures else if nat_eq op 191 then throws_top else computes op)
          (if a then read_operation (elements_of op) else if b then write_operation (elements_of (op - 33)) else if c then return_operation op t.twin
          else if nat_eq op 190 then measures else if nat_eq op 191 then throws_top else computes op)
      by true b c x y z = absurd (apart 46 53 172 177 op (omega arith) x h)
      by false true c x y z = absurd (apart 79 86 172 177 op (omega arith) y h)
      by false false true x y z = own_return op
      by false false false x y z = cc

  -- athrow
  simple_throw : (op : ℕ) → is_return op ≡ false → nat_eq op opcode.athrow ≡ true → Both (simple_operation op at) (simple_operation op at')
  simple_throw op r h = by (loads_array op) (stores_array op) (is_return op) (nat_eq op 190) (nat_eq op 191) refl refl r refl h
    where
      by : (a b c d e : Bool) → loads_array op ≡ a → stores_array op ≡ b → c ≡ false → nat_eq op 190 ≡ d → e ≡ true
          → Both (if a then read_operation (elements_of op) else if b then write_operation
          (elements_of (op - 33)) else if c then return_operation op t.body else if d then measures else if e then throws_top else computes op)
          (if a then read_operation (elements_of op) else if b then write_operation
          (elements_of (op - 33)) else if c then return_operation op t.twin else if d then measures else if e then throws_top else computes op)
      by true b c d e x y z u w = absurd (apart_one 46 53 191 op (omega arith) x h)
      by false true c d e x y z u w = absurd (apart_one 79 86 191 op (omega arith) y h)
      by false false true d e x y z u w = cc
      by false false false true e x y z u w = absurd (apart_two 190 191 op (λ same. omega (arith, same)) u h)
      by false false false false true x y z u w = refl
      by false false false false false x y z u w = cc

  -- any other
  simple_on : Go → (op : ℕ) → is_return op ≡ false → nat_eq op opcode.athrow ≡ false → Both (simple_operation op at) (simple_operation op at')
  simple_on go op r h = by (loads_array op) (stores_array op) (is_return op) (nat_eq op 190) (nat_eq op 191) r h
    where
      by : (a b c d e : Bool) → c ≡ false → e ≡ false
          → Both (if a then read_operation (elements_of op) else if b then write_operation
          (elements_of (op - 33)) else if c then return_operation op t.body else if d then measures else if e then throws_top else computes op)
          (if a then read_operation (elements_of op) else if b then write_operation
          (elements_of (op - 33)) else if c then return_operation op t.twin else if d then measures else if e then throws_top else computes op)
      by true b c d e z w = own_read go (elements_of op)
      by false true c d e z w = own_write go (elements_of (op - 33))
      by false false true d e z w = cc
      by false false false true e z w = (refl, go)
      by false false false false true z w = cc
      by false false false false false z w = (refl, go)

  -- ---- constants and classes

  none_of : init_of at ≡ None
  none_of = ap (λ b. if b && bytes_eq t.body.desc init_type then t.class.probes else None) no_init

  none_of' : init_of at' ≡ None
  none_of' = ap (λ b. if b && bytes_eq t.twin.desc init_type then t.new.probes else None) no_init'

  -- ---- what a class gives by a constant

  abbrev given_if : Bool → Option ProbeInit → Option ProbeInit
  given_if test probes = if test then probes else None

  -- a class without `$jacocoInit` gives nothing, as each class of the original
  none_of_class : given_of t.class ≡ None
  none_of_class = ap (λ b. given_if b t.class.probes) (ap (λ d. has_constant t.class && d) side.declares ∙ and_false (has_constant t.class))

  none_of_unchanged : t.slot ≡ None → given_of t.new ≡ None
  none_of_unchanged e = ap (λ b. given_if b t.new.probes) (ap (λ d. has_constant t.new && d) (side.unchanged e).declares ∙ and_false (has_constant t.new))

  none_given : (o : Option What) → given_in at o ≡ None
  none_given (Some (whats.Computed name desc bootstrap)) = ap (λ g. given_by g name desc bootstrap) none_of_class
  none_given _ = refl

  none_given' : given_of t.new ≡ None → (o : Option What) → given_in at' o ≡ None
  none_given' e (Some (whats.Computed name desc bootstrap)) = ap (λ g. given_by g name desc bootstrap) e
  none_given' e _ = refl

  none_begins : (code : List Insn) → begins_with_array at code ≡ false
  none_begins (insns.Constant place ∷ code) = ap is_some (none_given (what_at at place))
  none_begins code = refl

  none_begins' : given_of t.new ≡ None → (code : List Insn) → begins_with_array at' code ≡ false
  none_begins' e (insns.Constant place ∷ code) = ap is_some (none_given' e (what_at at' place))
  none_begins' e code = refl

  -- behind the prelude no instruction is in the profile that gets the array
  computed_outside : (o : Option What) → computed_operation at' (given_in at' o) ≡ outside
  computed_outside o = by t.slot refl
    where
      elsewhere : (g : Option ProbeInit) → nat_eq q 0 ≡ false → computed_operation at' g ≡ outside
      elsewhere None e = refl
      elsewhere (Some init) e = ap (λ b. if b then pushes (Value.probes m.class init.count) else outside) e

      by : (slot : Option ℕ) → t.slot ≡ slot → computed_operation at' (given_in at' o) ≡ outside
      by None e = ap (computed_operation at') (none_given' (none_of_unchanged e) o)
      by (Some v) e = elsewhere (given_in at' o) (past v e)

  own_computed : (o : Option What) → Both (computed_operation at (given_in at o)) (computed_operation at' (given_in at' o))
  own_computed o = subst₂ Both (sym (ap (computed_operation at) (none_given o))) (sym (computed_outside o)) refl

  abbrev cast_test : List ℕ → ℕ → Bool → Bool
  cast_test name k begins = nat_eq k 1 && (bytes_eq name data_type && begins)

  none_casts : (k : ℕ) (name : List ℕ) (begins : Bool) → begins ≡ false → cast_test name k begins ≡ false
  none_casts k name begins e =
      ap (λ b. nat_eq k 1 && (bytes_eq name data_type && b)) e
      ∙ ap (λ b. nat_eq k 1 && b) (and_false (bytes_eq name data_type)) ∙ and_false (nat_eq k 1)

  own_cast : (name : List ℕ) → Both (cast_operation at name) (cast_operation at' name)
  own_cast name =
      subst₂ Both (sym (ap (λ b. if b then casts m.class else outside) (none_casts i name (begins_with_array at t.body.code) (none_begins t.body.code))))
      (sym (ap (λ b. if b then casts m.class else outside) off)) refl
    where
      off : cast_test name q (begins_with_array at' t.twin.code) ≡ false
      off =
          ⊎_elim (λ none. none_casts q name (begins_with_array at' t.twin.code) (none_begins' none t.twin.code))
          (λ place. ap (λ b. b && (bytes_eq name data_type && begins_with_array at' t.twin.code)) place) beyond

  own_constant : Go → (o : Option What) → Both (constant_operation at o) (constant_operation at' o)
  own_constant go (Some (whats.Int value)) = (refl, go)
  own_constant go (Some whats.Text) =
      subst₂ (λ a b. Both (if is_some a then pushes (Value.text m.class) else outside) (if is_some b then pushes (Value.text m.class) else outside))
      (sym none_of) (sym none_of') refl
  own_constant go (Some (whats.Computed name desc bootstrap)) = own_computed (Some (whats.Computed name desc bootstrap))
  own_constant go _ = refl

  own_long : Go → (o : Option What) → Both (long_operation o) (long_operation o)
  own_long go (Some (whats.Long value)) = (refl, go)
  own_long go _ = refl

  own_make : Go → (o : Option Thrown) → Both (make_operation o) (make_operation o)
  own_make go None = refl
  own_make go (Some c) = (refl, go)

  own_class : Go → (op : ℕ) (o : Option What) → Both (class_operation op at o) (class_operation op at' o)
  own_class go op (Some (whats.Class name)) =
      both_if (nat_eq op opcode.new) _ _ _ _ (own_make go (made_class name)) (both_if (nat_eq op opcode.checkcast) _ _ _ _ (own_cast name) refl)
  own_class go op _ = refl

  own_array : Go → (code : ℕ) → Both (array_operation code) (array_operation code)
  own_array go code =
      both_if (nat_eq code 4) _ _ _ _ (refl, go) (both_if (nat_eq code 5) _ _ _ _ (refl, go) (both_if (nat_eq code 8) _ _ _ _ (refl, go)
      (both_if (nat_eq code 9) _ _ _ _ (refl, go) (both_if (nat_eq code 10) _ _ _ _ (refl, go) (both_if (nat_eq code 11) _ _ _ _ (refl, go) refl)))))

  -- ---- local variables

  own_loaded : Go → (k : ℕ) (c : Option ComputationalType) → Both (load_operation k c) (load_operation (twin_slot t.slot k) c)
  own_loaded go k None = refl
  own_loaded go k (Some c) = (refl, go)

  own_stored : Go → (k : ℕ) (c : Option ComputationalType) → ((v : ℕ) → t.slot ≡ Some v → c ≡ Some long_type → k + 1 ≡ v → ⊥)
      → Both (store_operation k c) (store_operation (twin_slot t.slot k) c)
  own_stored go k None off = refl
  own_stored go k (Some c) off = (refl, λ v e long. off v e (ap Some long), go)

  own_local : Go → (op k : ℕ) → slice_get t.body.code i ≡ Some (insns.Local op k) → Both (local_operation op k) (local_operation op (twin_slot t.slot k))
  own_local go op k here =
      both_if (nat_lt op opcode.istore) _ _ _ _ (own_loaded go k (local_type op))
      (own_stored go k (local_type op) (λ v e long next.
      let c = side.changed v e in
      c.pair.none_straddles t.body (body_in v e) i (inl (insns.Local op k, here, (two_slots op long, next ∙ c.slot)))))
    where
      body_in : (v : ℕ) → t.slot ≡ Some v → Contains t.class.bodies t.body
      body_in v e = stands_in t.class.bodies m.method t.body side.body_is

  -- ---- the pool

  code_at : (insn : Insn) → slice_get t.body.code i ≡ Some insn → i < length t.body.code
  code_at insn here = slice_get_within t.body.code i insn here

  pub what_same : (insn : Insn) (place : ℕ) → slice_get t.body.code i ≡ Some insn → pool_place insn ≡ Some place → what_at at' place ≡ what_at at place
  what_same insn place here e =
      let is = get_or_from_slice_get t.body.code i insn (insns.Simple 0) here in
      let used = side.well.uses.by_insns i (insns.Simple 0) (code_at insn here) place (ap pool_place is ∙ e) in
      side.uses place used.what used.used ∙ sym used.used

  -- ---- all instructions

  abbrev IsOk : Insn → Flow → Type 0
  IsOk insn flow = OkImage t.body.code t.slot t.ids t.items q i insn new flow

  led : (op : Operation) (x : Insn) → new ≡ x → Both op (operation_of p' at' x) → Both op (operation_of p' at' new)
  led op x e h = subst (λ y. Both op (operation_of p' at' y)) (sym e) h

  -- what goes on
  pub moved : (insn : Insn) → IsOk insn flows.GoesOn → new ≡ with_slots (twin_slot t.slot) insn
  moved insn h = h.0 ∙ moved_is t.slot insn

  pub go_on : (insn : Insn) → IsOk insn flows.GoesOn → Go
  go_on insn h = (t.ids (sequence i), h.1.stands)

  alike_simple : (op : ℕ) (r a : Bool) → is_return op ≡ r → nat_eq op opcode.athrow ≡ a
      → IsOk (insns.Simple op) (if r then flows.Returns else if a then flows.Throws else flows.GoesOn) → Both (simple_operation op at) (operation_of p' at' new)
  unfolding operation_of
  alike_simple op true a e d h = led (simple_operation op at) (insns.Simple op) h (simple_return op e)
  alike_simple op false true e d h = led (simple_operation op at) (insns.Simple op) h (simple_throw op e d)
  alike_simple op false false e d h = led (simple_operation op at) (insns.Simple op) (moved (insns.Simple op) h) (simple_on (go_on (insns.Simple op) h) op e d)

  alike_jump : (op to : ℕ) (b : Bool) → IsWellFormed (insns.Jump op to) → nat_eq op opcode.goto ≡ b
      → IsOk (insns.Jump op to) (if b then flows.Jumps else flows.Branches)
      → Both (if b then jumps to else tests op to) (operation_of p' at' new)
  unfolding operation_of
  alike_jump op to true well e h =
      (h.target, ap (operation_of p' at') h.same ∙ ap (λ b. if b then jumps h.target else tests op h.target) e, (None, h.jumped.stands))
  alike_jump op to false well e (inl h) = (
    h.target,
    inl (
      ap (operation_of p' at') h.same ∙ ap (λ b. if b then jumps h.target else tests op h.target) e,
      (t.ids (jump i to), h.jumped.stands),
      (t.ids (sequence i), h.fell),
    ),
  )
  alike_jump op to false well e (inr h) =
      let test = test_op op to well (ap (λ b. if b then flows.Jumps else flows.Branches) e) in (
        h.target,
        inr (
          ap (operation_of p' at') h.inverse ∙ ap (λ b. if b then jumps h.target else tests (inverse_of op) h.target) (inverse_no_goto op test),
          test,
          (t.ids (sequence i), h.jumped.stands),
          (t.ids (jump i to), h.fell),
        ),
      )

  -- where a switch leads
  leads : (insn : Insn) (targets : List ℕ) (h : SwitchesAlike t.body.code t.slot t.ids t.items i insn new)
      → branches_of i insn ≡ map_from (arm i) 0 (first_seen targets) → (to : ℕ) → Contains targets to → GoesOnAt t (h.place to) to
  leads insn targets h e to c =
      let b = target_branch i targets to c in (
        t.ids b.0,
        subst (λ k. Stands t.body.code t.slot t.ids t.items (h.place k) k (t.ids b.0)) b.2
            (h.each b.0 (subst (λ l. Contains l b.0) (sym e) b.1)).stands,
      )

  alike_of : (insn : Insn) → slice_get t.body.code i ≡ Some insn → IsWellFormed insn → IsOk insn (flow_of insn)
      → Both (operation_of p at insn) (operation_of p' at' new)
  unfolding operation_of
  alike_of (insns.Simple op) here well h = alike_simple op (is_return op) (nat_eq op opcode.athrow) refl refl h
  alike_of (insns.Push op value) here well h =
      led (pushes (int value)) (insns.Push op value) (moved (insns.Push op value) h) (refl, go_on (insns.Push op value) h)
  alike_of (insns.Local op k) here well h =
      led (local_operation op k) (insns.Local op (twin_slot t.slot k)) (moved (insns.Local op k) h) (own_local (go_on (insns.Local op k) h) op k here)
  alike_of (insns.Inc k by) here well h = led (counts k by) (insns.Inc (twin_slot t.slot k) by) (moved (insns.Inc k by) h) (refl, go_on (insns.Inc k by) h)
  alike_of (insns.Constant place) here well h =
      led (constant_operation at (what_at at place)) (insns.Constant place) (moved (insns.Constant place) h)
      (subst (λ o. Both (constant_operation at (what_at at place)) (constant_operation at' o)) (sym (what_same (insns.Constant place) place here refl))
      (own_constant (go_on (insns.Constant place) h) (what_at at place)))
  alike_of (insns.Constant2 place) here well h =
      led (long_operation (what_at at place)) (insns.Constant2 place) (moved (insns.Constant2 place) h)
      (subst (λ o. Both (long_operation (what_at at place)) (long_operation o)) (sym (what_same (insns.Constant2 place) place here refl))
      (own_long (go_on (insns.Constant2 place) h) (what_at at place)))
  alike_of (insns.Member op place) here well h =
      led (member_operation op at p (what_at at place)) (insns.Member op place) (moved (insns.Member op place) h)
      (subst (λ o. Both (member_operation op at p (what_at at place)) (member_operation op at' p' o)) (sym (what_same (insns.Member op place) place here refl))
      (own_member p p' sides are m side q i past (go_on (insns.Member op place) h) op (what_at at place)))
  alike_of (insns.Interface place count) here well h = led outside (insns.Interface place count) (moved (insns.Interface place count) h) refl
  alike_of (insns.Dynamic place) here well h = led outside (insns.Dynamic place) (moved (insns.Dynamic place) h) refl
  alike_of (insns.OfClass op place) here well h =
      led (class_operation op at (what_at at place)) (insns.OfClass op place) (moved (insns.OfClass op place) h)
      (subst (λ o. Both (class_operation op at (what_at at place)) (class_operation op at' o)) (sym (what_same (insns.OfClass op place) place here refl))
      (own_class (go_on (insns.OfClass op place) h) op (what_at at place)))
  alike_of (insns.NewArray elem) here well h =
      led (array_operation elem) (insns.NewArray elem) (moved (insns.NewArray elem) h) (own_array (go_on (insns.NewArray elem) h) elem)
  alike_of (insns.Multi place dims) here well h = led outside (insns.Multi place dims) (moved (insns.Multi place dims) h) refl
  alike_of (insns.Jump op to) here well h = alike_jump op to (nat_eq op opcode.goto) well refl h
  alike_of (insns.Table low default arms) here well h =
      (h.place, ap (operation_of p' at') h.same, leads (insns.Table low default arms) (default ∷ arms) h refl)
  alike_of (insns.Lookup default arms) here well h =
      (h.place, ap (operation_of p' at') h.same, leads (insns.Lookup default arms) (default ∷ map (λ (a : Arm). a.to) arms) h refl)

  pub alike : i < length t.body.code → IsOk (insn_at t.body.code i) (flow_of (insn_at t.body.code i))
      → Both (operation_of p at (insn_at t.body.code i)) (operation_of p' at' new)
  alike lt h = alike_of (insn_at t.body.code i) (slice_get-get_or t.body.code i (insns.Simple 0) lt) (side.well.code.well_formed i (insns.Simple 0) lt) h
