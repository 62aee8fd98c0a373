-- A frame says nothing exactly where it has a fault.
use Rattle.std.proofs.Common.{◌≡◌, ◌⊎◌, inl, inr, ⊎_elim, ℕ, zero, suc, ◌-◌, ◌<◌, Bool, true, false, ◌&&◌, List, [], ◌∷◌, ◌++◌, length, take, Option, Some, None, option_map, if◌then◌else◌, get_or, nat_le, refl, sym, ◌∙◌, ap, subst, arith}
use Rattle.std.proofs.lemmas.Bool.{and_cases, ltb-false, leb-false, le-ltb, lt-leb}
use Rattle.std.proofs.lemmas.List.Elements.{Contains-append_left, Contains-append_right, Contains-append_cases}
use Rattle.std.specs.List.{Contains}
use Rattle.std.proofs.lemmas.Option.{same_Some}
use Rattle.jc_methods.specs.VerificationTypes.{VerificationType, object, uninit, slots}
use Rattle.jc_methods.specs.Starts.{insn_number}
use Rattle.jc_bytes.proofs.OptionLaws.{none_some}
use Rattle.jc_pool.specs.Lookup.{class_name_of}
use Rattle.jc_frames.specs.declared.items.TypeItem.{TypeItem}
use Rattle.jc_frames.specs.declared.items.TypeItem.TheVariants as types
use Rattle.jc_frames.specs.declared.items.FrameItem.{FrameItem}
use Rattle.jc_frames.specs.declared.items.FrameItem.TheVariants as frames
use Rattle.jc_frames.specs.Frames.{Ground, Before, is_new, insn_from, type_of, in_front, types_of, offset_of, values_of, stack_of, is_start, found, fits_slots, found_if, frame_of, items_of, chopped_by, FrameFault, astray, chops_too_many, no_class, no_new, too_many_locals, too_much_stack}

-- ---- types that name nothing

-- the item names a class or a `new` that isn't there
record NamesNothing (g : Ground) (item : TypeItem) : Type 0 where
  which : ((place : ℕ) × (item ≡ types.Object place) × (class_name_of g.pool place ≡ None)) ⊎ ((offset : ℕ) × (item ≡ types.Uninit offset) × (is_new (insn_from g offset) ≡ false))

map_none : {X Y : Type 0} (f : X → Y) (o : Option X) → option_map f o ≡ None → o ≡ None
map_none f None e = refl
map_none f (Some x) e = absurd (none_some (sym e))

if_none : {X : Type 0} (b : Bool) (x : X) → (if b then Some x else None) ≡ None → b ≡ false
if_none true x e = absurd (none_some (sym e))
if_none false x e = refl

one_names_nothing : (g : Ground) (item : TypeItem) → type_of g item ≡ None → NamesNothing g item
one_names_nothing g (types.Object place) e = record { which = inl (place, refl, map_none object (class_name_of g.pool place) e) }
one_names_nothing g (types.Uninit offset) e = record { which = inr (offset, refl, if_none (is_new (insn_from g offset)) (uninit (insn_number g.starts offset)) e) }
one_names_nothing g item e = absurd (none_some (sym e))

nothing_is_none : (g : Ground) (item : TypeItem) → NamesNothing g item → type_of g item ≡ None
nothing_is_none g item n = ⊎_elim
    (λ w. ap (type_of g) w.1 ∙ ap (option_map object) w.2)
    (λ w. ap (type_of g) w.1 ∙ ap (λ (b : Bool). if b then Some (uninit (insn_number g.starts w.0)) else None) w.2)
    n.which

-- some item of the list
abbrev SomeNothing : Ground → List TypeItem → Type 0
SomeNothing g items = (item : TypeItem) × Contains items item × NamesNothing g item

later : (x : TypeItem) (items : List TypeItem) (item : TypeItem) → Contains items item → Contains (x ∷ items) item
later x items item h = let lt = h.1 in (suc h.0, omega (arith, lt), h.2)

list_names_nothing : (g : Ground) (items : List TypeItem) → types_of g items ≡ None → SomeNothing g items
list_names_nothing g [] e = absurd (none_some (sym e))
list_names_nothing g (item ∷ items) e = by (λ j. list_names_nothing g items j) (type_of g item) (types_of g items) refl refl e
  where
    by : (types_of g items ≡ None → SomeNothing g items) → (o : Option VerificationType) (p : Option (List VerificationType)) → type_of g item ≡ o
        → types_of g items ≡ p → in_front o p ≡ None → SomeNothing g (item ∷ items)
    by more None p i j e = (item, (0, omega arith, refl), one_names_nothing g item i)
    by more (Some h) None i j e = let s = more j in (s.0, later item items s.0 s.1, s.2)
    by more (Some h) (Some hs) i j e = absurd (none_some (sym e))

front_none : (o : Option VerificationType) (p : Option (List VerificationType)) → p ≡ None → in_front o p ≡ None
front_none None p e = refl
front_none (Some h) p e = ap (in_front (Some h)) e

nothing_in_list : (g : Ground) (items : List TypeItem) (item : TypeItem) (k : ℕ) → k < length items → get_or items k item ≡ item → NamesNothing g item → types_of g items ≡ None
nothing_in_list g [] item k lt e n = absurd (omega (arith, lt))
nothing_in_list g (x ∷ items) item zero lt e n = ap (λ (o : Option VerificationType). in_front o (types_of g items)) (ap (type_of g) e ∙ nothing_is_none g item n)
nothing_in_list g (x ∷ items) item (suc k) lt e n = front_none (type_of g x) (types_of g items) (nothing_in_list g items item k (omega (arith, lt)) e n)

some_is_none : (g : Ground) (items : List TypeItem) → SomeNothing g items → types_of g items ≡ None
some_is_none g items s = nothing_in_list g items s.0 s.1.0 s.1.1 s.1.2 s.2

-- ---- no values, no stack

fault_of : (g : Ground) (before : Before) (item : FrameItem) → SomeNothing g (items_of item) → FrameFault g before item
fault_of g before item s = ⊎_elim
    (λ w. no_class w.0 (subst (Contains (items_of item)) w.1 s.1) w.2)
    (λ w. no_new w.0 (subst (Contains (items_of item)) w.1 s.1) w.2)
    s.2.which

no_values : (g : Ground) (before : Before) (item : FrameItem) → values_of g before item ≡ None → FrameFault g before item
no_values g before (frames.Same delta) e = absurd (none_some (sym e))
no_values g before (frames.OneItem delta item) e = absurd (none_some (sym e))
no_values g before (frames.Chop delta count) e = chops_too_many (leb-false count (length before.values) (by (nat_le count (length before.values)) e))
  where
    by : (b : Bool) → (if b then Some (take (length before.values - count) before.values) else None) ≡ None → b ≡ false
    by true e = absurd (none_some (sym e))
    by false e = refl
no_values g before (frames.Append delta added) e = fault_of g before (frames.Append delta added) (list_names_nothing g added (map_none (λ more. before.values ++ more) (types_of g added) e))
no_values g before (frames.Full delta locals stack) e =
    let s = list_names_nothing g locals e in fault_of g before (frames.Full delta locals stack) (s.0, Contains-append_left locals stack s.0 s.1, s.2)

no_stack : (g : Ground) (before : Before) (item : FrameItem) → stack_of g item ≡ None → FrameFault g before item
no_stack g before (frames.Same delta) e = absurd (none_some (sym e))
no_stack g before (frames.OneItem delta item) e = by (type_of g item) refl e
  where
    by : (o : Option VerificationType) → type_of g item ≡ o → in_front o (Some []) ≡ None → FrameFault g before (frames.OneItem delta item)
    by None i e = fault_of g before (frames.OneItem delta item) (item, (0, omega arith, refl), one_names_nothing g item i)
    by (Some h) i e = absurd (none_some (sym e))
no_stack g before (frames.Chop delta count) e = absurd (none_some (sym e))
no_stack g before (frames.Append delta added) e = absurd (none_some (sym e))
no_stack g before (frames.Full delta locals stack) e =
    let s = list_names_nothing g stack e in fault_of g before (frames.Full delta locals stack) (s.0, Contains-append_right locals stack s.0 s.1, s.2)

-- ---- a frame that says nothing has a fault

pub says_nothing : (g : Ground) (before : Before) (item : FrameItem) → frame_of g before item ≡ None → FrameFault g before item
unfolding frame_of
says_nothing g before item e = by (values_of g before item) (stack_of g item) refl refl e
  where
    tests : (values stack : List VerificationType) → values_of g before item ≡ Some values → stack_of g item ≡ Some stack
        → found_if g (offset_of before item) (Some values) (Some stack) ≡ None → FrameFault g before item
    tests values stack i j e =
        let offset = offset_of before item in
        let failed = if_none (is_start g offset && fits_slots g values stack) (found g offset values stack) e in
        ⊎_elim
        (λ a. astray (ltb-false _ _ a))
        (λ w. ⊎_elim
        (λ b. too_many_locals values i (leb-false _ _ b))
        (λ c. too_much_stack stack j (leb-false _ _ c))
        (and_cases (nat_le (slots values) g.max_locals) (nat_le (slots stack) g.max_stack) w))
        (and_cases (is_start g offset) (fits_slots g values stack) failed)

    by : (o p : Option (List VerificationType)) → values_of g before item ≡ o → stack_of g item ≡ p → found_if g (offset_of before item) o p ≡ None → FrameFault g before item
    by None p i j e = no_values g before item i
    by (Some values) None i j e = no_stack g before item j
    by (Some values) (Some stack) i j e = tests values stack i j e

-- ---- and one with a fault says nothing

pub no_first : (g : Ground) (offset : ℕ) (o p : Option (List VerificationType)) → o ≡ None → found_if g offset o p ≡ None
no_first g offset o p e = ap (λ (x : Option (List VerificationType)). found_if g offset x p) e

pub no_second : (g : Ground) (offset : ℕ) (o p : Option (List VerificationType)) → p ≡ None → found_if g offset o p ≡ None
no_second g offset None p e = refl
no_second g offset (Some values) p e = ap (found_if g offset (Some values)) e

refused : (g : Ground) (offset : ℕ) (o p : Option (List VerificationType))
    → ((values stack : List VerificationType) → o ≡ Some values → p ≡ Some stack → (is_start g offset && fits_slots g values stack) ≡ false)
    → found_if g offset o p ≡ None
refused g offset None p test = refl
refused g offset (Some values) None test = refl
refused g offset (Some values) (Some stack) test = ap (λ (b : Bool). if b then Some (found g offset values stack) else None) (test values stack refl refl)

and_right : (a b : Bool) → b ≡ false → (a && b) ≡ false
and_right true b e = e
and_right false b e = refl

item_nothing : (g : Ground) (before : Before) (item : FrameItem) → SomeNothing g (items_of item) → found_if g (offset_of before item) (values_of g before item) (stack_of g item) ≡ None
item_nothing g before (frames.Same delta) s = absurd (omega (arith, s.1.1))
item_nothing g before (frames.OneItem delta item) s = no_second g (offset_of before (frames.OneItem delta item)) (Some before.values)
    (in_front (type_of g item) (Some [])) (ap (λ (o : Option VerificationType). in_front o (Some [])) (one s.1.0 s.1.1 s.1.2))
  where
    one : (k : ℕ) → k < length (item ∷ []) → get_or (item ∷ []) k s.0 ≡ s.0 → type_of g item ≡ None
    one zero lt e = ap (type_of g) e ∙ nothing_is_none g s.0 s.2
    one (suc k) lt e = absurd (omega (arith, lt))
item_nothing g before (frames.Chop delta count) s = absurd (omega (arith, s.1.1))
item_nothing g before (frames.Append delta added) s = no_first g (offset_of before (frames.Append delta added))
    (option_map (λ more. before.values ++ more) (types_of g added)) (Some []) (ap (option_map (λ more. before.values ++ more)) (some_is_none g added s))
item_nothing g before (frames.Full delta locals stack) s = ⊎_elim
    (λ c. no_first g (offset_of before (frames.Full delta locals stack)) (types_of g locals) (types_of g stack) (some_is_none g locals (s.0, c, s.2)))
    (λ c. no_second g (offset_of before (frames.Full delta locals stack)) (types_of g locals) (types_of g stack) (some_is_none g stack (s.0, c, s.2)))
    (Contains-append_cases locals stack s.0 s.1)

chop_nothing : (g : Ground) (before : Before) (item : FrameItem) → length before.values < chopped_by item → values_of g before item ≡ None
chop_nothing g before (frames.Same delta) lt = absurd (omega (arith, lt))
chop_nothing g before (frames.OneItem delta item) lt = absurd (omega (arith, lt))
chop_nothing g before (frames.Chop delta count) lt = ap (λ (b : Bool). if b then Some (take (length before.values - count) before.values) else None) (lt-leb count (length before.values) lt)
chop_nothing g before (frames.Append delta added) lt = absurd (omega (arith, lt))
chop_nothing g before (frames.Full delta locals stack) lt = absurd (omega (arith, lt))

pub fault_says_nothing : (g : Ground) (before : Before) (item : FrameItem) → FrameFault g before item → frame_of g before item ≡ None
unfolding frame_of
fault_says_nothing g before item (astray le) = refused g (offset_of before item) (values_of g before item) (stack_of g item)
    (λ values stack i j. ap (λ (b : Bool). b && fits_slots g values stack) (le-ltb _ _ le))
fault_says_nothing g before item (chops_too_many lt) = no_first g (offset_of before item) (values_of g before item) (stack_of g item) (chop_nothing g before item lt)
fault_says_nothing g before item (no_class place has none) = item_nothing g before item (types.Object place, has, record { which = inl (place, refl, none) })
fault_says_nothing g before item (no_new offset has none) = item_nothing g before item (types.Uninit offset, has, record { which = inr (offset, refl, none) })
fault_says_nothing g before item (too_many_locals values is lt) =
    refused g (offset_of before item) (values_of g before item) (stack_of g item) (λ vs stack i j.
    let same : values ≡ vs = same_Some values vs (sym is ∙ i) in
    and_right (is_start g (offset_of before item)) (fits_slots g vs stack)
    (ap (λ (b : Bool). b && nat_le (slots stack) g.max_stack) (lt-leb (slots vs) g.max_locals (subst (λ (l : List VerificationType). g.max_locals < slots l) same lt))))
fault_says_nothing g before item (too_much_stack stack is lt) =
    refused g (offset_of before item) (values_of g before item) (stack_of g item) (λ vs ss i j.
    let same : stack ≡ ss = same_Some stack ss (sym is ∙ j) in
    and_right (is_start g (offset_of before item)) (fits_slots g vs ss)
    (and_right (nat_le (slots vs) g.max_locals) (nat_le (slots ss) g.max_stack) (lt-leb (slots ss) g.max_stack (subst (λ (l : List VerificationType). g.max_stack < slots l) same lt))))
