-- Each turn keeps a world fitting: static fields.
use Rattle.std.proofs.Common.{◌≡◌, ⊎_elim, ℕ, zero, suc, ◌+◌, pos, Bool, true, false, ◌&&◌, cond, List, [], ◌∷◌}
use Rattle.std.proofs.Common.{Option, Some, None, is_some, get_or, ◌++◌, refl, sym, ◌∙◌, ap, subst, slice_set}
use Rattle.std.proofs.Common.{slice_index_or}
use Rattle.std.proofs.lemmas.Option.{slice_get-get_or, same_Some}
use Rattle.std.proofs.lemmas.List.Quantifiers.{position-Some}
use Rattle.std.proofs.lemmas.Slice.Eq.{bytes_eq-Decides}
use Rattle.std.specs.Prelude.{IsTrue, slice_get, position, bytes_eq}
use Rattle.std.specs.List.{AllByRecursion}
use Rattle.std.proofs.lemmas.Bool.{and_parts, false≢true}
use Rattle.jc_bytes.specs.Descriptor.{FieldType, Double, Float, Long, Object, Array}
use Rattle.jc_bytes.proofs.OptionLaws.{none_some, some_there}
use Rattle.jc_bytes.proofs.ListLaws.{all_at}
use Rattle.jc_bytes.proofs.DecoderLaws.{guard_some}
use Rattle.jc_methods.specs.declared.insn.Insn.{Insn}
use Rattle.jc_methods.specs.declared.body.Body.{Body}
use Rattle.jc_methods.specs.DescriptorTypes.{field_type_in}
use Rattle.jc_methods.specs.EntryState.{held_of}
use Rattle.jc_methods.specs.Flow.{FallsThrough}
use Rattle.jc_methods.specs.VerificationTypes.{VerificationType, TypeState}
use Rattle.jc_methods.specs.VerificationTypes as verification
use Rattle.jc_programs.specs.declared.program.Program.{Program}
use Rattle.jc_programs.specs.declared.program.Linked.{Linked}
use Rattle.jc_programs.specs.declared.program.StaticField.{StaticField}
use Rattle.jc_programs.specs.Members.{class_at, static_named}
use Rattle.jc_kinds_after.specs.Wants.{accepts, accepts_all}
use Rattle.jc_kinds_after.specs.Step.{kind, StackEffect, upper, has_form, limited, moved}
use Rattle.jc_kinds_after.specs.Table.{form}
use Rattle.jc_kinds_after.specs.After.{want_of, step_of, returns_of}
use Rattle.jc_kinds_after.specs.Step as kinds
use Rattle.jc_machine_model.specs.Values.{Value, int, long, ComputationalType, int_type, long_type, reference_type, is_of, computational_type, stored_as}
use Rattle.jc_machine_model.specs.Heap.{HeapObject}
use Rattle.jc_machine_model.specs.World.{Frame, Shared}
use Rattle.jc_machine_model.specs.Results.{goes_with, gets_stuck}
use Rattle.jc_machine_model.specs.Statics.{static_at, with_static, by_get, is_of_type, by_put}
use Rattle.jc_machine_model.specs.Fits.{made_in, nothing_made, IsInt, IsLong, IsReference, IsOfBy, IsStackBy, IsThere, IsOfType, AreClassStaticsBy, AreStaticsBy}
use Rattle.jc_machine_model.proofs.PairLaws.{set_at, set_length}
use Rattle.jc_machine_laws.specs.Typings.{TakesBy}
use Rattle.jc_machine_laws.proofs.TypedLaws.{References, HoldingTyping, held_in, holds_in, references_in}
use Rattle.jc_machine_laws.proofs.GrowLaws.{same_heap, SharedFits}
use Rattle.jc_machine_laws.proofs.OnwardLaws.{kind_passes}
use Rattle.jc_machine_laws.proofs.StackLaws.{upper_is, top_of}
use Rattle.jc_machine_laws.proofs.StepLaws.{Turn, Fine, falls, by_forms, pushes_fine, takes_fine}

-- ---- lists

pub position_found : {X : Type 0} (p : X → Bool) (xs : List X) (j : ℕ) (d : X) → position p xs ≡ Some j → (x : X) × (slice_get xs j ≡ Some x) × (p x ≡ true)
position_found p xs j d e = let r = position-Some p xs j d e in (get_or xs j d, slice_get-get_or xs j d r.0, r.1)

pub set_each : {X : Type 0} (P : X → Type 0) (xs : List X) (i : ℕ) (y : X) → AllByRecursion P xs → P y → AllByRecursion P (slice_set xs i y)
set_each P [] i y p q = tt
set_each P (x ∷ xs) zero y p q = (q, p.1)
set_each P (x ∷ xs) (suc i) y p q = (p.0, set_each P xs i y p.1 q)

at_each : {X : Type 0} (P : X → Type 0) (xss : List (List X)) (j : ℕ) → AllByRecursion (AllByRecursion P) xss → AllByRecursion P (slice_index_or xss j [])
at_each P [] j p = tt
at_each P (xs ∷ xss) zero p = p.0
at_each P (xs ∷ xss) (suc j) p = at_each P xss j p.1

-- ---- values of a type

int_of : (v : Value) → is_of int_type v ≡ true → IsInt v
int_of (int x) e = tt
int_of v e = absurd (false≢true e)

long_of : (v : Value) → is_of long_type v ≡ true → IsLong v
long_of (long x) e = tt
long_of v e = absurd (false≢true e)

-- a value of a type's computational type is of the type, if it is held there as a reference
pub computational_kind : (R : References) (type : FieldType) (computational : ComputationalType) (v : Value)
    → computational_type type ≡ Some computational → is_of computational v ≡ true → (IsReference v → R.holds v (held_of type))
    → IsOfBy R.holds v (held_of type)
computational_kind R Float computational v e p h = absurd (none_some e)
computational_kind R Double computational v e p h = absurd (none_some e)
computational_kind R Long computational v e p h = long_of v (subst (λ x. is_of x v ≡ true) (sym (same_Some long_type computational e)) p)
computational_kind R (Object name) computational v e p h = h (subst (λ x. is_of x v ≡ true) (sym (same_Some reference_type computational e)) p)
computational_kind R (Array component) computational v e p h = h (subst (λ x. is_of x v ≡ true) (sym (same_Some reference_type computational e)) p)
computational_kind R type computational v e p h = int_of v (subst (λ x. is_of x v ≡ true) (sym (same_Some int_type computational e)) p)

-- a reference is no number
no_int : (v : Value) → IsReference v → IsInt v → ⊥
no_int (int x) r p = false≢true r
no_int v r p = p

no_long : (v : Value) → IsReference v → IsLong v → ⊥
no_long (long x) r p = false≢true r
no_long v r p = p

-- so a reference that is of a type is held there
pub kind_reference : (R : References) (type : FieldType) (v : Value) → IsReference v → IsOfBy R.holds v (held_of type) → R.holds v (held_of type)
kind_reference R Float v r p = absurd p
kind_reference R Double v r p = absurd p
kind_reference R Long v r p = absurd (no_long v r p)
kind_reference R (Object name) v r p = p
kind_reference R (Array component) v r p = p
kind_reference R type v r p = absurd (no_int v r p)

-- as it is stored
pub stored_kind : (R : References) (type : FieldType) (v : Value) → IsOfBy R.holds v (held_of type) → IsOfBy R.holds (stored_as type v) (held_of type)
stored_kind R Float (int x) p = absurd p
stored_kind R Double (int x) p = absurd p
stored_kind R Long (int x) p = absurd p
stored_kind R (Object name) (int x) p = absurd (false≢true (R.reference (int x) (verification.object name) p))
stored_kind R (Array component) (int x) p = absurd (false≢true (R.reference (int x) (held_of (Array component)) p))
stored_kind R type (int x) p = tt
stored_kind R type v p = p

-- in another body too
pub kind_anywhere : (ty : HoldingTyping) (heap : List HeapObject) (made others : ℕ → List ℕ) (type : FieldType) (v : Value)
    → IsOfBy (ty.typing.holds heap made) v (held_of type) → IsOfBy (ty.typing.holds heap others) v (held_of type)
kind_anywhere ty heap made others Float v p = absurd p
kind_anywhere ty heap made others Double v p = absurd p
kind_anywhere ty heap made others Long v p = p
kind_anywhere ty heap made others (Object name) v p = ty.holding.anywhere heap made others (Object name) v p
kind_anywhere ty heap made others (Array component) v p = ty.holding.anywhere heap made others (Array component) v p
kind_anywhere ty heap made others type v p = p

-- what is taken from the top for one type
pub one_taken : (S : VerificationType → VerificationType → Type 0) (type : FieldType) (low : List VerificationType) (h : VerificationType)
    → TakesBy S (type ∷ []) (low ++ h ∷ []) → accepts (want_of type) h ≡ true → S h (held_of type)
one_taken S type low h takes a = takes 0 type h refl (ap (λ (l : List VerificationType). slice_get l 0) (upper_is low (h ∷ []) 1 refl)) a

-- the computational type of a value that is of a type
pub of_type : (type : FieldType) (v : Value) → is_of_type type v ≡ true
    → (computational : ComputationalType) × (computational_type type ≡ Some computational) × (is_of computational v ≡ true)
of_type type v e = by (computational_type type) refl e
  where
    by : (o : Option ComputationalType) → computational_type type ≡ o
        → elim o [ None ↦ false | Some computational ↦ is_of computational v ] ≡ true
        → (computational : ComputationalType) × (computational_type type ≡ Some computational) × (is_of computational v ≡ true)
    by None q e = absurd (false≢true e)
    by (Some computational) q e = (computational, q, e)

pub stored_is : (computational : ComputationalType) (type : FieldType) (v : Value) → is_of computational v ≡ true
    → is_of computational (stored_as type v) ≡ true
stored_is int_type type (int x) e = refl
stored_is long_type type (int x) e = absurd (false≢true e)
stored_is reference_type type (int x) e = absurd (false≢true e)
stored_is computational type v e = e

pub stored_there : (program : Program) (heap : List HeapObject) (type : FieldType) (v : Value) → IsThere program heap v
    → IsThere program heap (stored_as type v)
stored_there program heap type (int x) p = tt
stored_there program heap type v p = p

-- ---- the fields of a class

no_field : StaticField
no_field = record { name = []; desc = []; first = pos 0 }

static_found : (statics : List StaticField) (name desc : List ℕ) (j : ℕ) → static_named statics name desc ≡ Some j
    → (g : StaticField) × (slice_get statics j ≡ Some g) × (g.name ≡ name) × (g.desc ≡ desc)
static_found statics name desc j e =
    let r = position_found (λ (g : StaticField). bytes_eq g.name name && bytes_eq g.desc desc) statics j no_field e in
    let p = and_parts (bytes_eq r.0.name name) (bytes_eq r.0.desc desc) r.2 in
    (r.0, r.1, (bytes_eq-Decides r.0.name name).0 p.0, (bytes_eq-Decides r.0.desc desc).0 p.1)

module _ (R : Value → VerificationType → Type 0) where
  statics_at : (classes : List Linked) (statics : List (List Value)) (j : ℕ) (d : Linked) → AreStaticsBy R classes statics
      → slice_get classes j ≡ Some d → AreClassStaticsBy R d (slice_index_or statics j [])
  statics_at [] [] j d p e = absurd (none_some e)
  statics_at [] (v ∷ statics) j d p e = absurd p
  statics_at (g ∷ classes) [] j d p e = absurd p
  statics_at (g ∷ classes) (v ∷ statics) zero d p e = subst (λ x. AreClassStaticsBy R x v) (same_Some g d e) p.0
  statics_at (g ∷ classes) (v ∷ statics) (suc j) d p e = statics_at classes statics j d p.1 e

  -- the field with a name and a descriptor, by which it is found
  field_at : (d : Linked) (name desc : List ℕ) (j : ℕ) → static_named d.statics name desc ≡ Some j
      → (g : StaticField) × (slice_get d.statics j ≡ Some g) × (static_named d.statics g.name g.desc ≡ Some j) × (g.desc ≡ desc)
  field_at d name desc j e =
      let r = static_found d.statics name desc j e in
      (r.0, r.1, subst (λ x. static_named d.statics x r.0.desc ≡ Some j) (sym r.2) (subst (λ x. static_named d.statics name x ≡ Some j) (sym r.3) e), r.3)

  right_type : (d : Linked) (values : List Value) (name desc : List ℕ) (j : ℕ) → AreClassStaticsBy R d values
      → static_named d.statics name desc ≡ Some j → IsOfType (field_type_in desc) (slice_get values j)
  right_type d values name desc j a e =
      let r = field_at d name desc j e in
      subst (λ x. IsOfType (field_type_in x) (slice_get values j)) r.3 (a.right j r.0 r.1 r.2)

  held_type : (d : Linked) (values : List Value) (name desc : List ℕ) (j : ℕ) (type : FieldType) (v : Value) → AreClassStaticsBy R d values
      → static_named d.statics name desc ≡ Some j → field_type_in desc ≡ Some type → slice_get values j ≡ Some v → IsReference v → R v (held_of type)
  held_type d values name desc j type v a e q z r =
      let g = field_at d name desc j e in
      a.held j g.0 type v g.1 g.2 (ap field_type_in g.3 ∙ q) z r

  put_statics : (classes : List Linked) (statics : List (List Value)) (j : ℕ) (d : Linked) (new : List Value)
      → slice_get classes j ≡ Some d → AreStaticsBy R classes statics → AreClassStaticsBy R d new → AreStaticsBy R classes (slice_set statics j new)
  put_statics [] [] j d new e p q = absurd (none_some e)
  put_statics [] (v ∷ statics) j d new e p q = absurd p
  put_statics (g ∷ classes) [] j d new e p q = absurd p
  put_statics (g ∷ classes) (v ∷ statics) zero d new e p q = (subst (λ x. AreClassStaticsBy R x new) (sym (same_Some g d e)) q, p.1)
  put_statics (g ∷ classes) (v ∷ statics) (suc j) d new e p q = (p.0, put_statics classes statics j d new e p.1 q)

  put_field : (d : Linked) (values : List Value) (name desc : List ℕ) (j : ℕ) (type : FieldType) (v : Value)
      → AreClassStaticsBy R d values → static_named d.statics name desc ≡ Some j → field_type_in desc ≡ Some type
      → ((computational : ComputationalType) → computational_type type ≡ Some computational → IsTrue (is_of computational v))
      → (IsReference v → R v (held_of type)) → AreClassStaticsBy R d (slice_set values j v)
  put_field d values name desc j type v a e q h w = record { count = set_length values j v ∙ a.count; right = right; held = held }
    where
      type_is : (i : ℕ) (g : StaticField) → slice_get d.statics i ≡ Some g → i ≡ j → field_type_in g.desc ≡ Some type
      type_is i g p z =
          let r = static_found d.statics name desc j e in
          ap (λ (x : StaticField). field_type_in x.desc) (same_Some g r.0 (sym p ∙ ap (slice_get d.statics) z ∙ r.1)) ∙ ap field_type_in r.3 ∙ q

      right : (i : ℕ) (g : StaticField) → slice_get d.statics i ≡ Some g → static_named d.statics g.name g.desc ≡ Some i
          → IsOfType (field_type_in g.desc) (slice_get (slice_set values j v) i)
      right i g p n = ⊎_elim
          (λ (x : (i ≡ j) × (slice_get (slice_set values j v) i ≡ Some v)). subst (λ o. IsOfType (field_type_in g.desc) o) (sym x.1)
          (subst (λ o. IsOfType o (Some v)) (sym (type_is i g p x.0)) h))
          (λ (x : slice_get (slice_set values j v) i ≡ slice_get values i). subst (λ o. IsOfType (field_type_in g.desc) o) (sym x) (a.right i g p n))
          (set_at values j i v)

      held : (i : ℕ) (g : StaticField) (t : FieldType) (u : Value) → slice_get d.statics i ≡ Some g → static_named d.statics g.name g.desc ≡ Some i
          → field_type_in g.desc ≡ Some t → slice_get (slice_set values j v) i ≡ Some u → IsReference u → R u (held_of t)
      held i g t u p n m z r = ⊎_elim
          (λ (x : (i ≡ j) × (slice_get (slice_set values j v) i ≡ Some v)).
          let one : v ≡ u = same_Some v u (sym x.1 ∙ z) in
          let same : type ≡ t = same_Some type t (sym (type_is i g p x.0) ∙ m) in
          subst (λ y. R u (held_of y)) same (subst (λ y. R y (held_of type)) one (w (subst (λ y. IsReference y) (sym one) r))))
          (λ (x : slice_get (slice_set values j v) i ≡ slice_get values i). a.held i g t u p n m (sym x ∙ z) r)
          (set_at values j i v)

module _ {ty : HoldingTyping} {program : Program} {s : Shared} {f : Frame} {c : Linked} {b : Body} {insn : Insn} {k t : TypeState}
    (turn : Turn ty program s f c b insn k t) where
  -- the operands are of the kinds that the instruction's one form asks for
  pub form_fits : (g : StackEffect) → step_of b.uses (returns_of b) insn ≡ kinds.moves (g ∷ []) → has_form g k.stack ≡ true
  form_fits g e = (guard_some (has_form g k.stack) (limited b.max_stack (moved g k.stack)) t.stack (by_forms turn (g ∷ []) e).0).0

  -- the operand on top that is kept is of the type for which it is kept
  pub top_kept : (type : FieldType) (v : Value) (stack : List Value) → f.stack ≡ v ∷ stack → TakesBy ty.passes (type ∷ []) k.stack
      → accepts_all (want_of type ∷ []) (upper 1 k.stack) ≡ true → IsOfBy (holds_in ty s.heap b) v (held_of type)
  top_kept type v stack q takes a =
      let top = top_of (references_in ty s.heap b) v stack k.stack (subst (λ x. IsStackBy (holds_in ty s.heap b) x k.stack) q turn.stack) in
      let one = ap (upper 1) top.parts ∙ upper_is top.low (top.kind ∷ []) 1 refl in
      let accepted = (and_parts (accepts (want_of type) top.kind) true (subst (λ l. accepts_all (want_of type ∷ []) l ≡ true) one a)).0 in
      kind_passes ty (turn.flowing).fits s.heap (made_in b) v top.kind (held_of type) top.is
      (one_taken ty.passes type top.low top.kind (subst (λ l. TakesBy ty.passes (type ∷ []) l) top.parts takes) accepted)

  pub gets_fine : (class field : ℕ) (type : FieldType) (d : Linked) (name desc : List ℕ)
      → step_of b.uses (returns_of b) insn ≡ kinds.moves (form [] (kind (held_of type) ∷ []) ∷ []) → FallsThrough insn
      → class_at program class ≡ Some d → static_named d.statics name desc ≡ Some field → field_type_in desc ≡ Some type
      → is_some (computational_type type) ≡ true
      → Fine ty program s f b (by_get (static_at s.statics (record { class = class; field = field })) s f)
  unfolding Fine
  gets_fine class field type d name desc e l g n q o = by (slice_get (slice_index_or s.statics class []) field) refl
    where
      computational : (computational : ComputationalType) × (computational_type type ≡ Some computational)
      computational = some_there (computational_type type) o

      class_statics : AreClassStaticsBy (ty.typing.holds s.heap nothing_made) d (slice_index_or s.statics class [])
      class_statics = statics_at (ty.typing.holds s.heap nothing_made) program.classes s.statics class d (turn.shared).statics g

      typed : IsOfType (Some type) (slice_get (slice_index_or s.statics class []) field)
      typed =
          subst (λ x. IsOfType x (slice_get (slice_index_or s.statics class []) field)) q
          (right_type (ty.typing.holds s.heap nothing_made) d (slice_index_or s.statics class []) name desc field class_statics n)

      by : (x : Option Value) → slice_get (slice_index_or s.statics class []) field ≡ x → Fine ty program s f b (by_get x s f)
      by None z = tt
      by (Some v) z =
          pushes_fine turn v (held_of type) e l
          (kind_anywhere ty s.heap nothing_made (made_in b) type v
          (computational_kind (held_in ty s.heap nothing_made) type computational.0 v computational.1
          (subst (λ x. IsOfType (Some type) x) z typed computational.0 computational.1)
          (held_type (ty.typing.holds s.heap nothing_made) d (slice_index_or s.statics class []) name desc field type v class_statics n q z)))
          (all_at (IsThere program s.heap) (slice_index_or s.statics class []) field v
          (at_each (IsThere program s.heap) s.statics class (turn.shared).there) z)

  pub puts_fine : (class field : ℕ) (type : FieldType) (d : Linked) (name desc : List ℕ)
      → step_of b.uses (returns_of b) insn ≡ kinds.moves (form (want_of type ∷ []) [] ∷ []) → FallsThrough insn
      → class_at program class ≡ Some d → static_named d.statics name desc ≡ Some field → field_type_in desc ≡ Some type
      → TakesBy ty.passes (type ∷ []) k.stack → (stack : List Value) → f.stack ≡ stack → Fine ty program s f b (by_put (record { class = class; field = field }) type stack s f)
  unfolding Fine
  puts_fine class field type d name desc e l g n q takes [] z = tt
  puts_fine class field type d name desc e l g n q takes (v ∷ stack) z = by (is_of_type type v) refl
    where
      there : AllByRecursion (IsThere program s.heap) (v ∷ stack)
      there = subst (AllByRecursion (IsThere program s.heap)) z (turn.there).stack

      -- what is stored is of the field's type
      kept : IsOfBy (ty.typing.holds s.heap nothing_made) (stored_as type v) (held_of type)
      kept =
          stored_kind (held_in ty s.heap nothing_made) type v
          (kind_anywhere ty s.heap (made_in b) nothing_made type v
          (top_kept type v stack z takes (form_fits (form (want_of type ∷ []) []) e)))

      fits : is_of_type type v ≡ true
          → SharedFits ty program (record s { statics = with_static s.statics (record { class = class; field = field }) (stored_as type v) })
      fits o = record {
        statics = put_statics (ty.typing.holds s.heap nothing_made) program.classes s.statics class d (slice_set (slice_index_or s.statics class []) field (stored_as type v)) g (turn.shared).statics
            (put_field (ty.typing.holds s.heap nothing_made) d (slice_index_or s.statics class []) name desc field type (stored_as type v)
            (statics_at (ty.typing.holds s.heap nothing_made) program.classes s.statics class d (turn.shared).statics g) n q
            (λ computational w. let r = of_type type v o in stored_is computational type v
            (subst (λ x. is_of x v ≡ true) (same_Some r.0 computational (sym r.1 ∙ w)) r.2))
            (λ r. kind_reference (held_in ty s.heap nothing_made) type (stored_as type v) r kept));
        there =
            set_each (AllByRecursion (IsThere program s.heap)) s.statics class
            (slice_set (slice_index_or s.statics class []) field (stored_as type v)) (turn.shared).there
            (set_each (IsThere program s.heap) (slice_index_or s.statics class []) field (stored_as type v)
            (at_each (IsThere program s.heap) s.statics class (turn.shared).there) (stored_there program s.heap type v there.0));
      }

      by : (x : Bool) → is_of_type type v ≡ x
          → Fine ty program s f b (cond x (goes_with
          (record s { statics = with_static s.statics (record { class = class; field = field }) (stored_as type v) }) f stack) gets_stuck)
      by false o = tt
      by true o =
          takes_fine turn (v ∷ []) stack (want_of type ∷ []) (f.place + 1)
          (record s { statics = with_static s.statics (record { class = class; field = field }) (stored_as type v) }) e
          (falls turn l) z refl there.1 (turn.there).locals (fits o) (same_heap s.heap)
