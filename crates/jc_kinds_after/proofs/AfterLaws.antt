-- The state after an instruction shifts with the body.
use Rattle.std.proofs.Common.{◌≡◌, ⊎_elim, ℕ, suc, ◌+◌, ◌≤◌, Bool, true, false, ◌&&◌, ◌||◌, List, [], ◌∷◌, ◌++◌, length, map, replicate, Option, Some}
use Rattle.std.proofs.Common.{None, option_map, if◌then◌else◌, refl, sym, ap, ◌∙◌, subst, arith, get_or, nat_eq, nat_le, nat_lt}
use Rattle.std.specs.Option.{option_and_then}
use Rattle.std.proofs.lemmas.Bool.{leb-true, le-leb, eqb-true, and_parts, or_cases, true≢false}
use Rattle.std.specs.List.{AllByRecursion, list_any, list_all}
use Rattle.std.specs.Str.{bytes_eq}
use Rattle.std.specs.Prelude.{codes}
use Rattle.std.proofs.lemmas.Option.{none-some}
use Rattle.jc_methods.specs.declared.insn.Insn.{Insn}
use Rattle.jc_methods.specs.declared.insn.Insn.TheVariants as insns
use Rattle.jc_methods.specs.declared.body.Use.{Use}
use Rattle.jc_methods.specs.declared.body.What.{What}
use Rattle.jc_methods.specs.declared.body.What.TheVariants as whats
use Rattle.jc_methods.specs.declared.body.Body.{Body}
use Rattle.jc_bytes.specs.Descriptor.{FieldType, Double, Float, Int, Long, Array, MethodType}
use Rattle.jc_methods.specs.DescriptorTypes.{field_type_in, method_type_in}
use Rattle.jc_methods.specs.Flow.{is_conditional_branch, is_return, inverse_of}
use Rattle.jc_methods.specs.WellMade.{what_used}
use Rattle.jc_methods.specs.Opcode as opcode
use Rattle.jc_methods.specs.Insn.{with_places}
use Rattle.jc_methods.specs.InsnUse.{pool_place, is_of_two_slots}
use Rattle.jc_methods.specs.VerificationTypes.{VerificationType, top, uninit, TypeState, slots}
use Rattle.jc_methods.specs.EntryState.{held_of}
use Rattle.jc_bytes.proofs.EachLaws.{AllFrom, all_from}
use Rattle.jc_kinds_after.specs.declared.want.Want.{Want}
use Rattle.jc_kinds_after.specs.declared.want.Want.TheVariants as wants
use Rattle.jc_kinds_after.specs.Wants.{is_int, accepts, accepts_all}
use Rattle.jc_kinds_after.specs.Step.{Gives, kind, item, StackEffect, Step, moves, loads, stores, counts, picks, makes, builds, fails, Ground, below}
use Rattle.jc_kinds_after.specs.Step.{upper, last, put_local, limited, has_form, moved, moved_by, with_stack, is_array, element_of, is_made, without, replaced, given_of, class_built, built_as, apply}
use Rattle.jc_kinds_after.specs.Table.{Row, table, find, forms_at}
use Rattle.jc_kinds_after.specs.After.{result_of, field_step, static_step, object_step, method_step, member_step, interface_step, dynamic_step}
use Rattle.jc_kinds_after.specs.After.{computed_step, constant_step, array_of, array_step, class_step, multi_step, return_op, return_step}
use Rattle.jc_kinds_after.specs.After.{simple_step, local_want, local_step, step_of, insn_at, class_in, new_class, ground_of, returns_of, after_of}
use Rattle.jc_kinds_after.specs.Shift.{shifted, slot_of, with_slot, IsImage, led, inverted, HasImages, Straddles, shifted_step, IsPlaceless, IsPlain, CanShift, takes_pair, Images, AfterShifts}
use Rattle.jc_kinds_after.proofs.ShiftLaws.{shift-law}

-- ---- more room on the stack

limit_more : (m n : ℕ) (stack x : List VerificationType) → m ≤ n → limited m stack ≡ Some x → limited n stack ≡ Some x
limit_more m n stack x le e = by (nat_le (slots stack) m) refl e
  where
    by : (b : Bool) → nat_le (slots stack) m ≡ b → (if b then Some stack else None) ≡ Some x → limited n stack ≡ Some x
    by true is e = let a = leb-true (slots stack) m is in let more : slots stack ≤ n = omega (arith, a, le) in rw (le-leb (slots stack) n more) e
    by false is e = absurd (none-some _ e)

if_more : {X : Type 0} (b : Bool) (o p : Option X) (x : X) → (o ≡ Some x → p ≡ Some x) → (if b then o else None) ≡ Some x → (if b then p else None) ≡ Some x
if_more true o p x f e = f e
if_more false o p x f e = e

else_more : {X : Type 0} (b : Bool) (o p : Option X) (x : X) → (o ≡ Some x → p ≡ Some x) → (if b then None else o) ≡ Some x → (if b then None else p) ≡ Some x
else_more true o p x f e = e
else_more false o p x f e = f e

by_more : (m n : ℕ) (fs : List StackEffect) (stack x : List VerificationType) → m ≤ n → moved_by m fs stack ≡ Some x → moved_by n fs stack ≡ Some x
by_more m n [] stack x le e = e
by_more m n (f ∷ fs) stack x le e = by (has_form f stack) (λ g. by_more m n fs stack x le g) e
  where
    by : (b : Bool) → (moved_by m fs stack ≡ Some x → moved_by n fs stack ≡ Some x)
        → (if b then limited m (moved f stack) else moved_by m fs stack) ≡ Some x → (if b then limited n (moved f stack) else moved_by n fs stack) ≡ Some x
    by true more e = limit_more m n (moved f stack) x le e
    by false more e = more e

stack_more : (s t : TypeState) (o p : Option (List VerificationType)) → ((x : List VerificationType) → o ≡ Some x → p ≡ Some x)
    → with_stack s o ≡ Some t → with_stack s p ≡ Some t
stack_more s t None p h e = absurd (none-some _ e)
stack_more s t (Some x) p h e = ap (with_stack s) (h x refl) ∙ e

pushed_more : (m n : ℕ) (s t : TypeState) (stack : List VerificationType) → m ≤ n → with_stack s (limited m stack) ≡ Some t
    → with_stack s (limited n stack) ≡ Some t
pushed_more m n s t stack le e = stack_more s t (limited m stack) (limited n stack) (λ x q. limit_more m n stack x le q) e

built_more : (m n : ℕ) (old : VerificationType) (rest : List VerificationType) (given : List Gives) (name : Option (List ℕ)) (s t : TypeState) → m ≤ n
    → built_as m old rest given name s ≡ Some t → built_as n old rest given name s ≡ Some t
built_more m n old rest given None s t le e = e
built_more m n old rest given (Some name) s t le e =
    pushed_more m n (record { locals = map (replaced old name) s.locals; stack = s.stack }) t (map (replaced old name) rest ++ map (given_of []) given) le e

-- a step that has a state after it has the same one where the stack has more slots
pub more_room : (g : Ground) (n : ℕ) (st : Step) (s t : TypeState) → g.most ≤ n → apply g st s ≡ Some t → apply (record g { most = n }) st s ≡ Some t
more_room g n (moves forms) s t le e =
    stack_more s t (moved_by g.most forms s.stack) (moved_by n forms s.stack) (λ x q. by_more g.most n forms s.stack x le q) e
more_room g n (loads k w) s t le e = if_more (accepts w (get_or s.locals k top)) _ _ t (pushed_more g.most n s t (s.stack ++ get_or s.locals k top ∷ []) le) e
more_room g n (stores k w) s t le e =
    let h = last s.stack in if_more (accepts w h) _ _ t
    (pushed_more g.most n (record { locals = put_local k h s.locals; stack = s.stack }) t (below 1 s.stack) le) e
more_room g n (counts k) s t le e = if_more (is_int (get_or s.locals k top)) _ _ t (pushed_more g.most n s t s.stack le) e
more_room g n picks s t le e =
    let array = get_or (upper 2 s.stack) 0 top in
    if_more (is_array array && is_int (get_or (upper 2 s.stack) 1 top)) _ _ t (pushed_more g.most n s t (below 2 s.stack ++ element_of array ∷ []) le) e
more_room g n makes s t le e =
    else_more (list_any (is_made g.place) s.stack) _ _ t
    (pushed_more g.most n (record { locals = map (without g.place) s.locals; stack = s.stack }) t (s.stack ++ uninit g.place ∷ []) le) e
more_room g n (builds f) s t le e =
    let k = suc (length f.wanted) in let old = get_or (upper k s.stack) 0 top in
    if_more (accepts_all (wants.Anything ∷ f.wanted) (upper k s.stack)) _ _ t (built_more g.most n old (below k s.stack) f.given (class_built g old) s t le) e
more_room g n fails s t le e = e

-- ---- steps that name no local variable

abbrev Stays : ℕ → Step → Type 0
Stays v st = shifted_step v st ≡ st

if_stays : (v : ℕ) (b : Bool) (x y : Step) → Stays v x → Stays v y → Stays v (if b then x else y)
if_stays v true x y p q = p
if_stays v false x y p q = q

if_can : (v : ℕ) (b : Bool) (x y : Step) → CanShift v x → CanShift v y → CanShift v (if b then x else y)
if_can v true x y p q = p
if_can v false x y p q = q

placeless : (type : FieldType) → IsPlaceless (kind (held_of type))
placeless (Array component) = tt
placeless _ = tt

results_placeless : (returns : Option FieldType) → AllByRecursion IsPlaceless (result_of returns)
results_placeless None = tt
results_placeless (Some type) = (placeless type, tt)

-- both of a step
pub record IsStill (v : ℕ) (st : Step) : Type 0 where
  pub stays : Stays v st
  pub can : CanShift v st

still_if : (v : ℕ) (b : Bool) (x y : Step) → IsStill v x → IsStill v y → IsStill v (if b then x else y)
still_if v b x y p q = record { stays = if_stays v b x y p.stays q.stays; can = if_can v b x y p.can q.can }

still_fails : (v : ℕ) → IsStill v fails
still_fails v = record { stays = refl; can = tt }

still_moves : (v : ℕ) (forms : List StackEffect) → AllByRecursion IsPlain forms → IsStill v (moves forms)
still_moves v forms p = record { stays = refl; can = p }

still_gives : (v : ℕ) (type : FieldType) (wanted : List Want) → IsStill v (moves (record { wanted = wanted; given = kind (held_of type) ∷ [] } ∷ []))
still_gives v type wanted = still_moves v _ ((placeless type, tt), tt)

still_takes : (v : ℕ) (wanted : List Want) → IsStill v (moves (record { wanted = wanted; given = [] } ∷ []))
still_takes v wanted = still_moves v _ (tt, tt)

still_field : (v op : ℕ) (type : Option FieldType) → IsStill v (field_step op type)
still_field v op None = still_fails v
still_field v op (Some type) =
    still_if v (nat_eq op opcode.getstatic) _ _ (still_gives v type [])
    (still_if v (nat_eq op opcode.putstatic) _ _ (still_takes v _)
    (still_if v (nat_eq op opcode.getfield) _ _ (still_gives v type (wants.Reference ∷ [])) (still_takes v _)))

still_static : (v : ℕ) (type : MethodType) → IsStill v (static_step type)
still_static v type = still_moves v _ (results_placeless type.returns, tt)

still_object : (v : ℕ) (type : MethodType) → IsStill v (object_step type)
still_object v type = still_moves v _ (results_placeless type.returns, tt)

still_method : (v op : ℕ) (name : List ℕ) (type : MethodType) → IsStill v (method_step op name type)
still_method v op name type =
    still_if v (nat_eq op opcode.invokestatic) _ _ (still_static v type)
    (still_if v (nat_eq op opcode.invokespecial && bytes_eq name (codes "<init>")) _ _ (record { stays = refl; can = results_placeless type.returns })
    (still_object v type))

pub still_member : (v op : ℕ) (what : Option What) → IsStill v (member_step op what)
still_member v op (Some (whats.Field class name desc)) = still_if v (nat_le op opcode.putfield) _ _ (still_field v op (field_type_in desc)) (still_fails v)
still_member v op (Some (whats.Method class name desc)) =
    still_if v (nat_le op opcode.putfield) _ _ (still_fails v) (still_method v op name (method_type_in desc))
still_member v op _ = still_fails v

pub still_interface : (v : ℕ) (what : Option What) → IsStill v (interface_step what)
still_interface v (Some (whats.Method class name desc)) = still_object v (method_type_in desc)
still_interface v _ = still_fails v

pub still_dynamic : (v : ℕ) (what : Option What) → IsStill v (dynamic_step what)
still_dynamic v (Some (whats.Call name desc)) = still_static v (method_type_in desc)
still_dynamic v _ = still_fails v

still_plain : (v : ℕ) (h : VerificationType) (wanted : List Want) → IsPlaceless (kind h)
    → IsStill v (moves (record { wanted = wanted; given = kind h ∷ [] } ∷ []))
still_plain v h wanted p = still_moves v _ ((p, tt), tt)

still_computed : (v : ℕ) (type : Option FieldType) → IsStill v (computed_step type)
still_computed v None = still_fails v
still_computed v (Some type) = still_gives v type []

pub still_constant : (v : ℕ) (what : Option What) → IsStill v (constant_step what)
still_constant v (Some (whats.Computed name desc bootstrap)) = still_computed v (field_type_in desc)
still_constant v (Some (whats.Field class name desc)) = still_fails v
still_constant v (Some (whats.Method class name desc)) = still_fails v
still_constant v (Some (whats.Call name desc)) = still_fails v
still_constant v None = still_fails v
still_constant v _ = still_plain v _ [] tt

still_array : (v : ℕ) (name : List ℕ) → IsStill v (array_step name)
still_array v name = still_if v (nat_le (length (array_of name)) 65535) _ _ (still_plain v _ (wants.Int ∷ []) tt) (still_fails v)

pub still_class : (v op : ℕ) (what : Option What) → IsStill v (class_step op what)
still_class v op (Some (whats.Class name)) =
    still_if v (nat_eq op opcode.new) _ _ (record { stays = refl; can = tt })
    (still_if v (nat_eq op opcode.anewarray) _ _ (still_array v name)
    (still_if v (nat_eq op opcode.checkcast) _ _ (still_plain v _ (wants.Reference ∷ []) tt) (still_plain v _ (wants.Reference ∷ []) tt)))
still_class v op None = still_fails v
still_class v op _ = still_fails v

pub still_multi : (v dims : ℕ) (what : Option What) → IsStill v (multi_step what dims)
still_multi v dims (Some (whats.Class name)) = still_plain v _ (replicate dims wants.Int) tt
still_multi v dims _ = still_fails v

-- ---- the table

abbrev PlainRow : Row → Type 0
PlainRow r = AllByRecursion IsPlain r.forms

find_plain : (op : ℕ) (rows : List Row) → AllByRecursion PlainRow rows → AllByRecursion IsPlain (find op rows)
find_plain op [] p = tt
find_plain op (r ∷ rows) p = by (nat_le r.first op && nat_le op r.last) p.0 (find_plain op rows p.1)
  where
    by : (b : Bool) → AllByRecursion IsPlain r.forms → AllByRecursion IsPlain (find op rows) → AllByRecursion IsPlain (if b then r.forms else find op rows)
    by true here later = here
    by false here later = later

plain_gives : Gives → Bool
plain_gives (kind (uninit at)) = false
plain_gives g = true

plain_form : StackEffect → Bool
plain_form f = list_all plain_gives f.given

plain_row : Row → Bool
plain_row r = list_all plain_form r.forms

pub all_of : {X : Type 0} (test : X → Bool) (Fact : X → Type 0) → ((x : X) → test x ≡ true → Fact x) → (xs : List X) → list_all test xs ≡ true
    → AllByRecursion Fact xs
all_of test Fact f [] e = tt
all_of test Fact f (x ∷ xs) e = let p = and_parts (test x) (list_all test xs) e in (f x p.0, all_of test Fact f xs p.1)

gives_fact : (g : Gives) → plain_gives g ≡ true → IsPlaceless g
unfolding plain_gives
gives_fact (kind (uninit at)) e = absurd (true≢false (sym e))
gives_fact (kind h) e = by h e
  where
    by : (h : VerificationType) → plain_gives (kind h) ≡ true → IsPlaceless (kind h)
    by (uninit at) e = absurd (true≢false (sym e))
    by h e = tt
gives_fact (item k) e = tt

table_plain : AllByRecursion PlainRow table
unfolding table plain_row plain_form plain_gives
table_plain = all_of plain_row PlainRow (λ r e. all_of plain_form IsPlain (λ f e. all_of plain_gives IsPlaceless gives_fact f.given e) r.forms e) table refl

forms_plain : (op : ℕ) → AllByRecursion IsPlain (forms_at op)
unfolding forms_at
forms_plain op = find_plain op table table_plain

still_forms : (v op : ℕ) → IsStill v (moves (forms_at op))
still_forms v op = still_moves v (forms_at op) (forms_plain op)

still_return : (v : ℕ) (returns : Option FieldType) (op : ℕ) → IsStill v (return_step returns op)
still_return v returns op = still_if v (nat_eq op (return_op returns)) _ _ (still_forms v op) (still_fails v)

pub still_simple : (v : ℕ) (returns : Option FieldType) (op : ℕ) → IsStill v (simple_step returns op)
still_simple v returns op =
    still_if v (nat_eq op opcode.aaload) _ _ (record { stays = refl; can = tt })
    (still_if v (is_return op) _ _ (still_return v returns op) (still_forms v op))

-- the inverse of a conditional jump takes the same operands
abbrev Inverts : ℕ → Type 0
Inverts op = forms_at (inverse_of op) ≡ forms_at op

jumps_invert : AllFrom Inverts opcode.ifeq 14
unfolding forms_at table inverse_of
jumps_invert = (refl, (refl, (refl, (refl, (refl, (refl, (refl, (refl, (refl, (refl, (refl, (refl, (refl, (refl, tt))))))))))))))

nulls_invert : AllFrom Inverts opcode.ifnull 2
unfolding forms_at table inverse_of
nulls_invert = (refl, (refl, tt))

pub test_inverts : (op : ℕ) → is_conditional_branch op ≡ true → Inverts op
test_inverts op test = ⊎_elim
    (λ range. let p = and_parts (nat_le opcode.ifeq op) (nat_le op opcode.if_acmpne) range in
    let low = leb-true opcode.ifeq op p.0 in let high = leb-true op opcode.if_acmpne p.1 in
    all_from Inverts opcode.ifeq 14 op jumps_invert low (omega (arith, high)))
    (λ null. ⊎_elim
    (λ a. subst Inverts (sym (eqb-true op opcode.ifnull a)) nulls_invert.0)
    (λ b. subst Inverts (sym (eqb-true op opcode.ifnonnull b)) nulls_invert.1.0)
    (or_cases (nat_eq op opcode.ifnull) (nat_eq op opcode.ifnonnull) null))
    (or_cases (nat_le opcode.ifeq op && nat_le op opcode.if_acmpne) (nat_eq op opcode.ifnull || nat_eq op opcode.ifnonnull) test)

-- ---- the step of an image

module _ (v : ℕ) (uses news : List Use) (returns : Option FieldType) where
  local_shifts : (op slot : ℕ) → local_step op (slot_of v slot) ≡ shifted_step v (local_step op slot)
  local_shifts op slot = by (nat_lt op opcode.istore)
    where
      by : (b : Bool) → (if b then loads (slot_of v slot) (local_want op) else stores (slot_of v slot) (local_want op))
          ≡ shifted_step v (if b then loads slot (local_want op) else stores slot (local_want op))
      by true = refl
      by false = refl

  led_shifts : (to : ℕ → ℕ) (insn : Insn) → ((place : ℕ) → pool_place insn ≡ Some place → what_used news place ≡ what_used uses place)
      → step_of news returns (with_places to (with_slot v insn)) ≡ shifted_step v (step_of uses returns insn)
  led_shifts to (insns.Simple op) same = sym (still_simple v returns op).stays
  led_shifts to (insns.Local op slot) same = local_shifts op slot
  led_shifts to (insns.Constant place) same = ap constant_step (same place refl) ∙ sym (still_constant v (what_used uses place)).stays
  led_shifts to (insns.Constant2 place) same = ap constant_step (same place refl) ∙ sym (still_constant v (what_used uses place)).stays
  led_shifts to (insns.Member op place) same = ap (member_step op) (same place refl) ∙ sym (still_member v op (what_used uses place)).stays
  led_shifts to (insns.Interface place count) same = ap interface_step (same place refl) ∙ sym (still_interface v (what_used uses place)).stays
  led_shifts to (insns.Dynamic place) same = ap dynamic_step (same place refl) ∙ sym (still_dynamic v (what_used uses place)).stays
  led_shifts to (insns.OfClass op place) same = ap (class_step op) (same place refl) ∙ sym (still_class v op (what_used uses place)).stays
  led_shifts to (insns.Multi place dims) same =
      ap (λ (w : Option What). multi_step w dims) (same place refl) ∙ sym (still_multi v dims (what_used uses place)).stays
  led_shifts to _ same = refl

  pub image_shifts : (insn other : Insn) → IsImage v insn other → ((place : ℕ) → pool_place insn ≡ Some place → what_used news place ≡ what_used uses place)
      → step_of news returns other ≡ shifted_step v (step_of uses returns insn)
  image_shifts insn other (led to is) same = ap (step_of news returns) is ∙ led_shifts to insn same
  image_shifts insn other (inverted op to elsewhere is test new) same =
      ap (step_of news returns) new ∙ ap (λ (forms : List StackEffect). moves forms) (test_inverts op test)
      ∙ ap (λ (x : Insn). shifted_step v (step_of uses returns x)) (sym is)

-- ---- which steps can shift

-- what moves a long or a double is of two slots
pub two_slots : (op : ℕ) → takes_pair (local_want op) ≡ true → is_of_two_slots op ≡ true
two_slots op e = by (nat_eq op opcode.iload || nat_eq op opcode.istore) (nat_eq op opcode.lload) (nat_eq op opcode.lstore)
    (nat_eq op opcode.fload || nat_eq op opcode.fstore) (nat_eq op opcode.dload) (nat_eq op opcode.dstore) e
  where
    by : (i ll ls f dl ds : Bool)
        → takes_pair (if i then wants.Int else if ll || ls then wants.Long else if f then wants.Float else if dl || ds then wants.Double else wants.Anything) ≡ true
        → (ll || dl || ls || ds) ≡ true
    by true ll ls f dl ds e = absurd (true≢false (sym e))
    by false true ls f dl ds e = refl
    by false false true f true ds e = refl
    by false false true f false ds e = refl
    by false false false true dl ds e = absurd (true≢false (sym e))
    by false false false false true ds e = refl
    by false false false false false true e = refl
    by false false false false false false e = absurd (true≢false (sym e))

local_can : (v op slot : ℕ) → ((is_of_two_slots op ≡ true) × (slot + 1 ≡ v) → ⊥) → CanShift v (local_step op slot)
local_can v op slot free = by (nat_lt op opcode.istore)
  where
    by : (b : Bool) → CanShift v (if b then loads slot (local_want op) else stores slot (local_want op))
    by true = tt
    by false = λ pair at. free (two_slots op pair, at)

pub can_shift : (v : ℕ) (uses : List Use) (returns : Option FieldType) (insn : Insn) → (Straddles v insn → ⊥) → CanShift v (step_of uses returns insn)
can_shift v uses returns (insns.Simple op) free = (still_simple v returns op).can
can_shift v uses returns (insns.Push op value) free = (still_forms v op).can
can_shift v uses returns (insns.Local op slot) free = local_can v op slot free
can_shift v uses returns (insns.Inc slot by) free = tt
can_shift v uses returns (insns.Constant place) free = (still_constant v (what_used uses place)).can
can_shift v uses returns (insns.Constant2 place) free = (still_constant v (what_used uses place)).can
can_shift v uses returns (insns.Member op place) free = (still_member v op (what_used uses place)).can
can_shift v uses returns (insns.Interface place count) free = (still_interface v (what_used uses place)).can
can_shift v uses returns (insns.Dynamic place) free = (still_dynamic v (what_used uses place)).can
can_shift v uses returns (insns.OfClass op place) free = (still_class v op (what_used uses place)).can
can_shift v uses returns (insns.NewArray elem) free = ((tt, tt), tt)
can_shift v uses returns (insns.Multi place dims) free = (still_multi v dims (what_used uses place)).can
can_shift v uses returns (insns.Jump op to) free = (still_forms v op).can
can_shift v uses returns (insns.Table low default arms) free = (still_forms v opcode.tableswitch).can
can_shift v uses returns (insns.Lookup default arms) free = (still_forms v opcode.lookupswitch).can

-- ---- the classes of objects that aren't initialized

new_class_led : (v : ℕ) (uses news : List Use) (to : ℕ → ℕ) (insn : Insn)
    → ((place : ℕ) → pool_place insn ≡ Some place → what_used news place ≡ what_used uses place)
    → new_class news (Some (with_places to (with_slot v insn))) ≡ new_class uses (Some insn)
new_class_led v uses news to (insns.OfClass op place) same = ap class_in (same place refl)
new_class_led v uses news to _ same = refl

new_class_image : (v : ℕ) (uses news : List Use) (insn other : Insn) → IsImage v insn other
    → ((place : ℕ) → pool_place insn ≡ Some place → what_used news place ≡ what_used uses place)
    → new_class news (Some other) ≡ new_class uses (Some insn)
new_class_image v uses news insn other (led to is) same = ap (λ (x : Insn). new_class news (Some x)) is ∙ new_class_led v uses news to insn same
new_class_image v uses news insn other (inverted op to elsewhere is test new) same =
    ap (λ (x : Insn). new_class news (Some x)) new ∙ ap (λ (x : Insn). new_class uses (Some x)) (sym is)

pub classes_stay : (v : ℕ) (image : ℕ → ℕ) (b new : Body) → HasImages v image b new → (k : ℕ)
    → new_class new.uses (insn_at new (image k)) ≡ new_class b.uses (insn_at b k)
classes_stay v image b new h k = by (insn_at b k) refl
  where
    by : (o : Option Insn) → insn_at b k ≡ o → new_class new.uses (insn_at new (image k)) ≡ new_class b.uses o
    by None is = ap (new_class new.uses) (h.past k is)
    by (Some insn) is =
        let o = h.images k insn is in
        ap (new_class new.uses) o.1 ∙ new_class_image v b.uses new.uses insn o.0 o.2 (λ place e. h.uses k place insn is e)

-- ---- the law

pub after_shifts : AfterShifts
unfolding after_of
after_shifts v image b new i insn s t h is free le whole e =
    let o = h.images i insn is in
    let roomy : Ground = record { most = new.max_stack; place = i; owner = b.owner; class_at = λ at. new_class b.uses (insn_at b at) } in
    let images : Images image roomy (ground_of new (image i)) =
    record { apart = h.apart; place = refl; classes = classes_stay v image b new h; owner = h.owner; most = refl } in
    let before : apply (ground_of b i) (step_of b.uses (returns_of b) insn) s ≡ Some t =
    ap (option_and_then (λ x. apply (ground_of b i) (step_of b.uses (returns_of b) x) s)) (sym is) ∙ e in
    let roomy_after : apply roomy (step_of b.uses (returns_of b) insn) s ≡ Some t =
    more_room (ground_of b i) new.max_stack (step_of b.uses (returns_of b) insn) s t h.room before in
    let returns : returns_of new ≡ returns_of b = ap (λ (desc : List ℕ). (method_type_in desc).returns) h.desc in
    let step : step_of new.uses (returns_of new) o.0 ≡ shifted_step v (step_of b.uses (returns_of b) insn) =
    ap (λ (r : Option FieldType). step_of new.uses r o.0) returns
    ∙ image_shifts v b.uses new.uses (returns_of b) insn o.0 o.2 (λ place p. h.uses i place insn is p) in
    ap (option_and_then (λ x. apply (ground_of new (image i)) (step_of new.uses (returns_of new) x) (shifted image v s))) o.1
    ∙ ap (λ (st : Step). apply (ground_of new (image i)) st (shifted image v s)) step
    ∙ shift-law image v roomy (ground_of new (image i)) (step_of b.uses (returns_of b) insn) s images (can_shift v b.uses (returns_of b) insn free) le whole
    ∙ ap (option_map (shifted image v)) roomy_after
