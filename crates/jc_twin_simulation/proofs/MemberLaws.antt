-- Fields and methods that an instruction of the original names, and that its image names.
use Rattle.std.proofs.Common.{◌≡◌, ⊎_elim, ℕ, ◌+◌, Bool, true, false, not, ◌&&◌, ◌||◌, List, length, Option, Some, None, nat_eq, nat_lt, is_some, option_map, refl, sym, ap, ap₂, ◌∙◌, subst, subst₂, arith, if◌then◌else◌, codes}
use Rattle.std.specs.Prelude.{slice_get, bytes_eq, option_and_then}
use Rattle.std.specs.Int.Bits.{bit_and}
use Rattle.std.proofs.lemmas.Option.{same_Some, slice_get_within}
use Rattle.std.proofs.lemmas.Bool.{and_parts, eqb-true, not-true, cases_lt, lt-ltb, le-ltb, true≢false}
use Rattle.jc_bytes.specs.Descriptor.{FieldType}
use Rattle.jc_bytes.proofs.TextEqualLaws.{same_bytes}
use Rattle.jc_bytes.proofs.BooleanLaws.{and_false}
use Rattle.jc_methods.specs.Opcode as opcode
use Rattle.jc_methods.specs.DescriptorTypes.{field_type_in, method_type_in}
use Rattle.jc_methods.specs.EntryState.{is_static}
use Rattle.jc_methods.specs.ProbeMembers.{init_name, data_name}
use Rattle.jc_methods.specs.declared.body.Body.{Body}
use Rattle.jc_methods.specs.declared.body.What.{What}
use Rattle.jc_methods.specs.declared.body.What.TheVariants as whats
use Rattle.jc_programs.specs.declared.program.Program.{Program}
use Rattle.jc_programs.specs.declared.program.Linked.{Linked}
use Rattle.jc_programs.specs.declared.run_end.Entry.{Entry}
use Rattle.jc_programs.specs.declared.run_end.Thrown.{Thrown}
use Rattle.jc_programs.specs.Members.{class_named, class_at, method_named, static_named}
use Rattle.jc_twin_programs.specs.TwinProgram.{IsPair, IsChangedPair}
use Rattle.jc_emit.specs.Seen.{with_more}
use Rattle.jc_machine_model.specs.Values.{computational_type}
use Rattle.jc_machine_model.specs.Methods.{is_init_name, declares_init, is_wide, is_plain, is_enterable}
use Rattle.jc_machine_model.specs.Operations.{FieldAt, Operation, invokes, outside, Printed}
use Rattle.jc_machine_model.specs.Profile.{Location, in_init, has_constant, may_name_field, field_operation, declared_field, linked_field, is_print_stream, field_named, may_name_method, method_in, callee_named, entered_if, body_entered, class_entered, method_entered, is_fetch, init_call, init_of, static_call, printed_by, print_operation, virtual_call, made_class, build_operation, special_call, call_named, member_operation}
use Rattle.jc_twin_simulation.specs.Sides.{Side, IsSide, AreSides}
use Rattle.jc_twin_simulation.proofs.OwnLaws.{IsField, Alike, Next}
use Rattle.jc_twin_simulation.proofs.PlaceLaws.{any_at}
use Rattle.jc_twin_simulation.proofs.ClassLaws.{class_same, class_there, static_there, method_there, statics_found, statics_missing, methods_found, methods_missing, added_name}

-- ---- a thread may enter a method where it may enter its twin

abbrev pub plain_by : (flags : ℕ) → (clinit wide : Bool) → Bool
plain_by flags clinit wide = is_static flags && (not (not (nat_eq (bit_and flags 0x0100) 0)) && (not clinit && not wide))

abbrev pub enter_by : (flags : ℕ) → (clinit wide : Bool) → Bool
enter_by flags clinit wide = plain_by flags clinit wide && not (not (nat_eq (bit_and flags 0x0020) 0))

wider : (n k : ℕ) → k ≡ n + 4 → nat_lt 1004 k ≡ nat_lt 1000 n
wider n k e = ⊎_elim
    (λ lt. lt-ltb 1004 k (omega arith) ∙ sym (lt-ltb 1000 n lt))
    (λ le. le-ltb 1004 k (omega arith) ∙ sym (le-ltb 1000 n le))
    (cases_lt 1000 n)

module _ (p p' : Program) (m : Entry) (t : Side) (side : IsSide p p' m t) where
  wide_same : (o : Option ℕ) → t.slot ≡ o → is_wide t.new t.twin ≡ is_wide t.class t.body
  wide_same None e =
      let locals = side.max_locals ∙ ap (λ o. with_more o 1 t.body.max_locals) e in
      let stack = side.max_stack ∙ ap (λ o. with_more o 3 t.body.max_stack) e in
      ap (λ b. nat_lt (if b then 1004 else 1000) (t.twin.max_locals + t.twin.max_stack)) (side.unchanged e).declares
      ∙ ap₂ (λ a b. nat_lt 1000 (a + b)) locals stack
      ∙ sym (ap (λ b. nat_lt (if b then 1004 else 1000) (t.body.max_locals + t.body.max_stack)) side.declares)
  wide_same (Some v) e =
      let locals : t.twin.max_locals ≡ t.body.max_locals + 1 = side.max_locals ∙ ap (λ o. with_more o 1 t.body.max_locals) e in
      let stack : t.twin.max_stack ≡ t.body.max_stack + 3 = side.max_stack ∙ ap (λ o. with_more o 3 t.body.max_stack) e in
      ap (λ b. nat_lt (if b then 1004 else 1000) (t.twin.max_locals + t.twin.max_stack)) (side.changed v e).declares
      ∙ wider (t.body.max_locals + t.body.max_stack) (t.twin.max_locals + t.twin.max_stack) (omega (arith, locals, stack))
      ∙ sym (ap (λ b. nat_lt (if b then 1004 else 1000) (t.body.max_locals + t.body.max_stack)) side.declares)

  -- but for whether it is synchronized
  pub plain_same : is_plain t.new t.twin ≡ is_plain t.class t.body
  plain_same =
      ap (λ f. plain_by f t.new.has_clinit (is_wide t.new t.twin)) side.same.flags
      ∙ ap (λ c. plain_by t.body.flags c (is_wide t.new t.twin)) side.has_clinit
      ∙ ap (plain_by t.body.flags t.class.has_clinit) (wide_same t.slot refl)

  pub enterable_same : is_enterable t.new t.twin ≡ is_enterable t.class t.body
  enterable_same =
      ap₂ (λ plain f. plain && not (not (nat_eq (bit_and f 0x0020) 0))) plain_same side.same.flags

-- what it needs
pub plain_static : (c : Linked) (b : Body) → is_plain c b ≡ true → (is_static b.flags ≡ true) × (c.has_clinit ≡ false)
plain_static c b e =
    let plain = and_parts _ _ e in
    (plain.0, not-true c.has_clinit (and_parts _ _ (and_parts _ _ plain.1).1).0)

pub entered_static : (c : Linked) (b : Body) → is_enterable c b ≡ true → (is_static b.flags ≡ true) × (c.has_clinit ≡ false)
entered_static c b e = plain_static c b (and_parts _ _ e).0

module _ (p p' : Program) (sides : Entry → Side) (are : AreSides p p' sides) (m : Entry) (side : IsSide p p' m (sides m)) (q i : ℕ)
    (past : (v : ℕ) → (sides m).slot ≡ Some v → nat_eq q 0 ≡ false) where
  abbrev t : Side
  t = sides m

  abbrev at : Location
  at = record { class = m.class; linked = t.class; body = t.body; place = i }

  abbrev at' : Location
  at' = record { class = m.class; linked = t.new; body = t.twin; place = q }

  abbrev Both : Operation → Operation → Type 0
  Both op op' = Alike p p' sides t q i op op'

  abbrev Go : Type 0
  Go = Next p p' sides t q i

  no_init : in_init at ≡ false
  no_init = side.named

  no_init' : in_init at' ≡ false
  no_init' = ap is_init_name side.same.name ∙ side.named

  both_if : (b : Bool) (x y x' y' : Operation) → Both x x' → Both y y' → Both (if b then x else y) (if b then x' else y')
  both_if true x y x' y' h k = h
  both_if false x y x' y' h k = k

  -- ---- fields

  own_access : Go → (op : ℕ) (f : FieldAt) → IsField p p' sides f → (o : Option FieldType) → Both (field_operation op f o) (field_operation op f o)
  own_access go op f is None = refl
  own_access go op f is (Some type) =
      both_if (not (is_some (computational_type type))) _ _ _ _ refl
      (both_if (nat_eq op opcode.getstatic) _ _ _ _ (refl, is, go) (both_if (nat_eq op opcode.putstatic) _ _ _ _ (refl, is, go) refl))

  may_field : (class : ℕ) (name : List ℕ) → may_name_field at' class name ≡ may_name_field at class name
  may_field class name = ap (λ b. not (bytes_eq name data_name) || (b && nat_eq m.class class)) (no_init' ∙ sym no_init)

  no_data : (class : ℕ) (name : List ℕ) → bytes_eq name data_name ≡ true → may_name_field at' class name ≡ false
  no_data class name e =
      ap (λ b. not b || (in_init at' && nat_eq m.class class)) e ∙ ap (λ b. b && nat_eq m.class class) no_init'

  own_declared : Go → (op k : ℕ) (c new : Linked) (name desc : List ℕ) → slice_get p.classes k ≡ Some c → IsPair p.names p'.names c new
      → (o : Option ℕ) → static_named c.statics name desc ≡ o
      → Both (declared_field op at k name desc o) (declared_field op at' k name desc (static_named new.statics name desc))
  own_declared go op k c new name desc there pair (Some f) e =
      let found = static_there c name desc f e in
      let is : IsField p p' sides (record { class = k; field = f }) =
      record { class = c; class_is = there; within = slice_get_within c.statics f found.0 found.1 } in
      subst (λ o. Both (declared_field op at k name desc (Some f)) (declared_field op at' k name desc o))
      (sym (statics_found p.names p'.names c new pair name desc f e))
      (subst (λ b. Both (declared_field op at k name desc (Some f))
      (if b then field_operation op (record { class = k; field = f }) (field_type_in desc) else outside)) (sym (may_field k name))
      (both_if (may_name_field at k name) _ _ _ _ (own_access go op (record { class = k; field = f }) is (field_type_in desc)) refl))
  own_declared go op k c new name desc there pair None e = ⊎_elim
      (λ none. ap (declared_field op at' k name desc) none)
      (λ last. ap (declared_field op at' k name desc) last.1
      ∙ ap (λ b. if b then field_operation op (record { class = k; field = last.0 }) (field_type_in desc) else outside) (no_data k name last.2))
      (statics_missing p.names p'.names c new pair name desc e)

  own_linked : Go → (op : ℕ) (class name desc : List ℕ) → (o : Option ℕ) → class_named p class ≡ o
      → Both (linked_field op at p name desc o) (linked_field op at' p' name desc o)
  own_linked go op class name desc None e = refl
  own_linked go op class name desc (Some k) e =
      let c = class_there p class k e in
      let n = are.pair k c.0 c.1 in
      subst₂ (λ a b. Both (declared_field op at k name desc (option_and_then (λ (x : Linked). static_named x.statics name desc) a))
      (declared_field op at' k name desc (option_and_then (λ (x : Linked). static_named x.statics name desc) b)))
      (sym c.1) (sym n.1)
      (own_declared go op k c.0 n.0 name desc c.1 n.2 (static_named c.0.statics name desc) refl)

  own_field : Go → (op : ℕ) (class name desc : List ℕ) → Both (field_named op at p class name desc) (field_named op at' p' class name desc)
  own_field go op class name desc =
      both_if (is_print_stream op class name desc) _ _ _ _ (refl, go)
      (subst (λ o. Both (linked_field op at p name desc (class_named p class)) (linked_field op at' p' name desc o)) (sym (class_same p p' are.names class))
      (own_linked go op class name desc (class_named p class) refl))

  -- ---- methods

  -- a method that is there
  own_entered : Go → (e : Entry) → IsSide p p' e (sides e) → Both (class_entered at e (class_at p e.class)) (class_entered at' e (class_at p' e.class))
  own_entered go e s =
      subst₂ (λ a b. Both (class_entered at e a) (class_entered at' e b)) (sym s.class_is) (sym s.new_is)
      (subst₂ (λ a b. Both (body_entered at e u.class a) (body_entered at' e u.new b)) (sym s.body_is) (sym s.twin_is)
      (subst₂ (λ a b. Both (entered_if a e u.body) (entered_if b e u.twin)) (sym tests) (sym tests') (by (is_enterable u.class u.body) refl)))
    where
      u : Side
      u = sides e

      tests : (is_enterable u.class u.body && may_name_method at e.class u.body.name) ≡ (is_enterable u.class u.body && true)
      tests = ap (λ b. is_enterable u.class u.body && (not b || (nat_eq i 0 && (nat_eq m.class e.class && not (has_constant t.class))))) s.named

      tests' : (is_enterable u.new u.twin && may_name_method at' e.class u.twin.name) ≡ (is_enterable u.class u.body && true)
      tests' =
          ap (λ b. is_enterable u.new u.twin && (not b || (nat_eq q 0 && (nat_eq m.class e.class && not (has_constant t.new)))))
          (ap is_init_name s.same.name ∙ s.named)
          ∙ ap (λ b. b && true) (enterable_same p p' e u s)

      by : (b : Bool) → is_enterable u.class u.body ≡ b → Both (entered_if (b && true) e u.body) (entered_if (b && true) e u.twin)
      by true h =
          let needs = entered_static u.class u.body h in (
            ap (λ (d : List ℕ). invokes e (method_type_in d).parameters u.twin.max_locals) s.same.desc,
            record { side = s; entered = needs.1; static = needs.0; parameters_are = refl; locals_are = refl },
            go,
          )
      by false h = refl

  -- the added method may not be called here
  not_added : (k : ℕ) (c new : Linked) → slice_get p'.classes k ≡ Some new → (pair : IsChangedPair p.names p'.names c new)
      → may_name_method at' k pair.added.name ≡ false
  not_added k c new there pair =
      ap (λ b. not b || (nat_eq q 0 && (nat_eq m.class k && not (has_constant t.new)))) (same_bytes pair.added.name init_name (added_name p.names p'.names c new pair))
      ∙ by (nat_eq m.class k) refl
    where
      declares : declares_init new ≡ true
      declares =
          any_at (λ (b : Body). is_init_name b.name) new.bodies (length c.bodies) pair.added (are.added c new pair)
          (same_bytes pair.added.name init_name (added_name p.names p'.names c new pair))

      in_class : m.class ≡ k → (o : Option ℕ) → t.slot ≡ o → nat_eq q 0 ≡ false
      in_class same None e =
          let news : t.new ≡ new = same_Some t.new new (sym side.new_is ∙ ap (slice_get p'.classes) same ∙ there) in
          absurd (true≢false (sym (ap declares_init news ∙ declares) ∙ (side.unchanged e).declares))
      in_class same (Some v) e = past v e

      by : (b : Bool) → nat_eq m.class k ≡ b → (nat_eq q 0 && (b && not (has_constant t.new))) ≡ false
      by true h = ap (λ b. b && not (has_constant t.new)) (in_class (eqb-true m.class k h) t.slot refl)
      by false h = and_false (nat_eq q 0)

  own_method : Go → (k : ℕ) (c new : Linked) (name desc : List ℕ) → slice_get p.classes k ≡ Some c → slice_get p'.classes k ≡ Some new
      → IsPair p.names p'.names c new
      → (o : Option ℕ) → method_named c.bodies name desc ≡ o
      → Both (method_entered at p (option_map (λ (j : ℕ). record { class = k; method = j }) o)) (method_entered at' p' (method_in name desc k new))
  own_method go k c new name desc there there' pair (Some j) e =
      let b = method_there c name desc j e in
      subst (λ o. Both (class_entered at (record { class = k; method = j }) (class_at p k))
      (method_entered at' p' (option_map (λ (j : ℕ). record { class = k; method = j }) o)))
      (sym (methods_found p.names p'.names c new pair name desc j e))
      (own_entered go (record { class = k; method = j }) (are.side (record { class = k; method = j }) c b.0 there b.1))
  own_method go k c new name desc there there' pair None e = ⊎_elim
      (λ none. ap (λ o. method_entered at' p' (option_map (λ (j : ℕ). record { class = k; method = j }) o)) none)
      (λ last.
      let entry : Entry = record { class = k; method = length c.bodies } in
      let added = last.pair.added in
      ap (λ o. method_entered at' p' (option_map (λ (j : ℕ). record { class = k; method = j }) o)) last.found
      ∙ ap (class_entered at' entry) there'
      ∙ ap (body_entered at' entry new) (are.added c new last.pair)
      ∙ ap (λ b. entered_if (is_enterable new added && b) entry added) (not_added k c new there' last.pair)
      ∙ ap (λ b. entered_if b entry added) (and_false (is_enterable new added)))
      (methods_missing p.names p'.names c new pair name desc e)

  own_named : Go → (class name desc : List ℕ) → (o : Option ℕ) → class_named p class ≡ o
      → Both (method_entered at p (option_and_then (λ (k : ℕ). option_and_then (method_in name desc k) (class_at p k)) o))
      (method_entered at' p' (option_and_then (λ (k : ℕ). option_and_then (method_in name desc k) (class_at p' k)) o))
  own_named go class name desc None e = refl
  own_named go class name desc (Some k) e =
      let c = class_there p class k e in
      let n = are.pair k c.0 c.1 in
      subst₂ (λ a b. Both (method_entered at p (option_and_then (method_in name desc k) a))
      (method_entered at' p' (option_and_then (method_in name desc k) b))) (sym c.1) (sym n.1)
      (own_method go k c.0 n.0 name desc c.1 n.1 n.2 (method_named c.0.bodies name desc) refl)

  own_static : Go → (class name desc : List ℕ) → Both (static_call at p class name desc) (static_call at' p' class name desc)
  own_static go class name desc =
      subst₂ (λ a b. Both (if a then init_call at (is_fetch class name desc) (init_of at) else method_entered at p (callee_named p class name desc))
      (if b then init_call at' (is_fetch class name desc) (init_of at') else method_entered at' p' (callee_named p' class name desc))) (sym no_init)
      (sym no_init')
      (subst (λ o. Both (method_entered at p (callee_named p class name desc))
      (method_entered at' p' (option_and_then (λ (k : ℕ). option_and_then (method_in name desc k) (class_at p' k)) o)))
      (sym (class_same p p' are.names class))
      (own_named go class name desc (class_named p class) refl))

  -- ---- other calls

  own_print : Go → (o : Option Printed) → Both (print_operation o) (print_operation o)
  own_print go None = refl
  own_print go (Some k) = (refl, go)

  own_build : Go → (o : Option Thrown) → Both (build_operation o) (build_operation o)
  own_build go None = refl
  own_build go (Some c) = (refl, go)

  own_virtual : Go → (class name desc : List ℕ) → Both (virtual_call at class name desc) (virtual_call at' class name desc)
  own_virtual go class name desc =
      subst₂ (λ a b. Both (if not a && (bytes_eq class (codes "java/io/PrintStream") && bytes_eq name (codes "println")) then print_operation
      (printed_by desc) else outside)
      (if not b && (bytes_eq class (codes "java/io/PrintStream") && bytes_eq name (codes "println")) then print_operation (printed_by desc) else outside))
      (sym no_init) (sym no_init')
      (both_if (bytes_eq class (codes "java/io/PrintStream") && bytes_eq name (codes "println")) _ _ _ _ (own_print go (printed_by desc)) refl)

  own_special : Go → (class name desc : List ℕ) → Both (special_call at class name desc) (special_call at' class name desc)
  own_special go class name desc =
      subst₂ (λ a b. Both (if not a && (bytes_eq name (codes "<init>") && bytes_eq desc (codes "()V")) then build_operation (made_class class) else outside)
      (if not b && (bytes_eq name (codes "<init>") && bytes_eq desc (codes "()V")) then build_operation (made_class class) else outside)) (sym no_init)
      (sym no_init')
      (both_if (bytes_eq name (codes "<init>") && bytes_eq desc (codes "()V")) _ _ _ _ (own_build go (made_class class)) refl)

  own_call : Go → (op : ℕ) (class name desc : List ℕ) → Both (call_named op at p class name desc) (call_named op at' p' class name desc)
  own_call go op class name desc =
      both_if (nat_eq op opcode.invokestatic) _ _ _ _ (own_static go class name desc)
      (both_if (nat_eq op opcode.invokevirtual) _ _ _ _ (own_virtual go class name desc)
      (both_if (nat_eq op opcode.invokespecial) _ _ _ _ (own_special go class name desc) refl))

  pub own_member : Go → (op : ℕ) (o : Option What) → Both (member_operation op at p o) (member_operation op at' p' o)
  own_member go op (Some (whats.Field class name desc)) = own_field go op class name desc
  own_member go op (Some (whats.Method class name desc)) = own_call go op class name desc
  own_member go op _ = refl
