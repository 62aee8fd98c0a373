-- The frames of a table are those of a well made body.
use Rattle.std.proofs.Common.{◌≡◌, ⊎_elim, ℕ, zero, suc, ◌+◌, ◌-◌, ◌<◌, ◌≤◌, Bool, true, false, ◌&&◌, List, [], ◌∷◌, ◌++◌, length, map, take, replicate, Option, Some, None, option_map, if◌then◌else◌, get_or, nat_eq, nat_le, refl, sym, ◌∙◌, ap, ap₂, subst, arith, length-append, true≢false}
use Rattle.std.proofs.lemmas.List.{length-map, length-replicate}
use Rattle.std.proofs.lemmas.List.Sums.{sum_by-cons}
use Rattle.std.proofs.lemmas.Bool.{and_parts, eqb-true, ltb-true, leb-true, cases_lt}
use Rattle.std.specs.List.{AllByRecursion, All, slice_get, sum_by}
use Rattle.std.proofs.lemmas.Option.{same_Some}
use Rattle.jc_methods.specs.declared.insn.Insn.{Insn}
use Rattle.jc_methods.specs.declared.insn.Insn.TheVariants as insns
use Rattle.jc_methods.specs.declared.kind.Kind.{Kind}
use Rattle.jc_methods.specs.declared.kind.Kind.TheVariants as kinds
use Rattle.jc_methods.specs.declared.body.FrameAt.{FrameAt}
use Rattle.jc_methods.specs.WellMade.{IsKind, IsState, AreFramesFrom, kind_slots, BeginsWithTop, ArePaired}
use Rattle.jc_frames.specs.FullFrames as full
use Rattle.jc_methods.specs.Opcode as opcode
use Rattle.jc_methods.specs.Starts.{insn_number}
use Rattle.jc_methods.specs.VerificationTypes.{Names, VerificationType, top, int, float, double, long, null, uninit_this, object, uninit, TypeStateAt, verification_type, type_state_at, is_pair, slots, width}
use Rattle.jc_methods.specs.EntryState.{spread_one, spread, in_locals}
use Rattle.jc_bytes.proofs.OptionLaws.{none_some}
use Rattle.jc_pool.specs.Lookup.{class_name_of}
use Rattle.jc_frames.specs.declared.items.TypeItem.{TypeItem}
use Rattle.jc_frames.specs.declared.items.TypeItem.TheVariants as types
use Rattle.jc_frames.specs.declared.items.FrameItem.{FrameItem}
use Rattle.jc_frames.specs.declared.items.FrameItem.TheVariants as frames
use Rattle.jc_frames.specs.Frames.{Ground, Before, first_before, trimmed, values_from, values_in, is_new, insn_from, type_of, in_front, types_of, offset_of, values_of, stack_of, is_start, Found, found, fits_slots, found_if, frame_of}
use Rattle.jc_frames.specs.Table.{AreFrames}
use Rattle.jc_frames.specs.WellMade.{AreOffsets, HasNew, FramesAreWellMade, IsValue, ArgumentsAreFirst}
use Rattle.jc_frames.proofs.ValuesLaws.{paired_in, pair_values, single_values, spread_slots, in_values}

if_some : {X : Type 0} (b : Bool) (x y : X) → (if b then Some x else None) ≡ Some y → (b ≡ true) × (x ≡ y)
if_some true x y e = (refl, same_Some x y e)
if_some false x y e = absurd (none_some e)

-- ---- offsets

-- if an instruction has this number, it begins at the offset
abbrev BeginsAt : List ℕ → ℕ → ℕ → Type 0
BeginsAt starts offset number = number + 1 < length starts → get_or starts number 0 ≡ offset

offset_is : (starts : List ℕ) (offset : ℕ) → BeginsAt starts offset (insn_number starts offset)
offset_is [] offset lt = absurd (omega (arith, lt))
offset_is (end ∷ []) offset lt = absurd (omega (arith, lt))
offset_is (start ∷ next ∷ starts) offset lt = by (offset_is (next ∷ starts) offset) (nat_eq start offset) refl lt
  where
    by : BeginsAt (next ∷ starts) offset (insn_number (next ∷ starts) offset) → (b : Bool) → nat_eq start offset ≡ b
        → BeginsAt (start ∷ next ∷ starts) offset (if b then 0 else 1 + insn_number (next ∷ starts) offset)
    by more true is lt = eqb-true start offset is
    by more false is lt =
        let step : 1 + insn_number (next ∷ starts) offset ≡ suc (insn_number (next ∷ starts) offset) = omega arith in
        ap (λ (k : ℕ). get_or (start ∷ next ∷ starts) k 0) step ∙ more (omega (arith, lt))

pub sorted : (starts : List ℕ) (count i d : ℕ) → ((k : ℕ) → k < count → get_or starts k 0 < get_or starts (k + 1) 0) → i + d ≤ count → get_or starts i 0 ≤ get_or starts (i + d) 0
sorted starts count i zero rising le = let e : i + 0 ≡ i = omega arith in let q = ap (λ (k : ℕ). get_or starts k 0) e in omega (arith, q)
sorted starts count i (suc d) rising le =
    let a = sorted starts count i d rising (omega (arith, le)) in
    let b = rising (i + d) (omega (arith, le)) in
    let e : i + d + 1 ≡ i + suc d = omega arith in
    let q = ap (λ (k : ℕ). get_or starts k 0) e in
    omega (arith, a, b, q)

-- a later offset is that of a later instruction
later_number : (g : Ground) → AreOffsets (length g.code) g.starts → (a b : ℕ) → a < b → insn_number g.starts a < length g.code
    → insn_number g.starts b < length g.code → insn_number g.starts a < insn_number g.starts b
later_number g o a b lt p q = ⊎_elim (λ less. less) (λ le. absurd (no le)) (cases_lt (insn_number g.starts a) (insn_number g.starts b))
  where
    no : insn_number g.starts b ≤ insn_number g.starts a → ⊥
    no le =
        let n = insn_number g.starts b in let m = insn_number g.starts a in
        let count = o.count in
        let x = offset_is g.starts a (omega (arith, p, count)) in
        let y = offset_is g.starts b (omega (arith, q, count)) in
        let s = sorted g.starts (length g.code) n (m - n) o.rising (omega (arith, le, p)) in
        let e : n + (m - n) ≡ m = omega (arith, le) in
        let z = ap (λ (k : ℕ). get_or g.starts k 0) e in
        omega (arith, lt, x, y, s, z)

-- ---- objects that aren't initialized

module _ (g : Ground) where
  -- each of the objects that aren't initialized has a `new`
  abbrev HaveNew : List VerificationType → Type 0
  HaveNew hs = AllByRecursion (HasNew g) hs

  type_new : (item : TypeItem) (h : VerificationType) → type_of g item ≡ Some h → HasNew g h
  type_new types.Top h e = subst (HasNew g) (same_Some top h e) tt
  type_new types.Int h e = subst (HasNew g) (same_Some int h e) tt
  type_new types.Float h e = subst (HasNew g) (same_Some float h e) tt
  type_new types.Double h e = subst (HasNew g) (same_Some double h e) tt
  type_new types.Long h e = subst (HasNew g) (same_Some long h e) tt
  type_new types.Null h e = subst (HasNew g) (same_Some null h e) tt
  type_new types.UninitThis h e = subst (HasNew g) (same_Some uninit_this h e) tt
  type_new (types.Object place) h e = by (class_name_of g.pool place) e
    where
      by : (o : Option (List ℕ)) → option_map object o ≡ Some h → HasNew g h
      by None e = absurd (none_some e)
      by (Some name) e = subst (HasNew g) (same_Some (object name) h e) tt
  type_new (types.Uninit offset) h e = by (is_new (insn_from g offset)) refl e
    where
      by : (b : Bool) → is_new (insn_from g offset) ≡ b → (if b then Some (uninit (insn_number g.starts offset)) else None) ≡ Some h → HasNew g h
      by false is e = absurd (none_some e)
      by true is e = subst (HasNew g) (same_Some (uninit (insn_number g.starts offset)) h e) is

  types_new : (items : List TypeItem) (hs : List VerificationType) → types_of g items ≡ Some hs → HaveNew hs
  types_new [] hs e = subst HaveNew (same_Some [] hs e) tt
  types_new (item ∷ items) hs e = by (λ more f. types_new items more f) (type_of g item) (types_of g items) refl refl e
    where
      by : ((more : List VerificationType) → types_of g items ≡ Some more → HaveNew more)
          → (o : Option VerificationType) (p : Option (List VerificationType)) → type_of g item ≡ o → types_of g items ≡ p → in_front o p ≡ Some hs → HaveNew hs
      by more None p i j e = absurd (none_some e)
      by more (Some h) None i j e = absurd (none_some e)
      by more (Some h) (Some rest) i j e = subst HaveNew (same_Some (h ∷ rest) hs e) (type_new item h i, more rest j)

  both_new : (a b : List VerificationType) → HaveNew a → HaveNew b → HaveNew (a ++ b)
  both_new [] b p q = q
  both_new (h ∷ a) b p q = (p.0, both_new a b p.1 q)

  take_new : (n : ℕ) (a : List VerificationType) → HaveNew a → HaveNew (take n a)
  take_new zero a p = tt
  take_new (suc n) [] p = tt
  take_new (suc n) (h ∷ a) p = (p.0, take_new n a p.1)

  values_new : (before : Before) (item : FrameItem) (values : List VerificationType) → HaveNew before.values → values_of g before item ≡ Some values → HaveNew values
  values_new before (frames.Same delta) values p e = subst HaveNew (same_Some before.values values e) p
  values_new before (frames.OneItem delta item) values p e = subst HaveNew (same_Some before.values values e) p
  values_new before (frames.Chop delta count) values p e = by (nat_le count (length before.values)) e
    where
      by : (b : Bool) → (if b then Some (take (length before.values - count) before.values) else None) ≡ Some values → HaveNew values
      by false e = absurd (none_some e)
      by true e = subst HaveNew (same_Some _ values e) (take_new (length before.values - count) before.values p)
  values_new before (frames.Append delta added) values p e = by (types_of g added) refl e
    where
      by : (o : Option (List VerificationType)) → types_of g added ≡ o → option_map (λ more. before.values ++ more) o ≡ Some values → HaveNew values
      by None i e = absurd (none_some e)
      by (Some more) i e = subst HaveNew (same_Some (before.values ++ more) values e) (both_new before.values more p (types_new added more i))
  values_new before (frames.Full delta locals stack) values p e = types_new locals values e

  stack_new : (item : FrameItem) (stack : List VerificationType) → stack_of g item ≡ Some stack → HaveNew stack
  stack_new (frames.Same delta) stack e = subst HaveNew (same_Some [] stack e) tt
  stack_new (frames.OneItem delta item) stack e = by (type_of g item) refl e
    where
      by : (o : Option VerificationType) → type_of g item ≡ o → in_front o (Some []) ≡ Some stack → HaveNew stack
      by None i e = absurd (none_some e)
      by (Some h) i e = subst HaveNew (same_Some (h ∷ []) stack e) (type_new item h i, tt)
  stack_new (frames.Chop delta count) stack e = subst HaveNew (same_Some [] stack e) tt
  stack_new (frames.Append delta added) stack e = subst HaveNew (same_Some [] stack e) tt
  stack_new (frames.Full delta locals stack) stack' e = types_new stack stack' e

  tops_new : (n : ℕ) → HaveNew (replicate n top)
  tops_new zero = tt
  tops_new (suc n) = (tt, tops_new n)

  one_new : (h : VerificationType) → HasNew g h → HaveNew (spread_one h)
  one_new h p = by (is_pair h)
    where
      by : (b : Bool) → HaveNew (if b then h ∷ top ∷ [] else h ∷ [])
      by true = (p, (tt, tt))
      by false = (p, tt)

  spread_new : (values : List VerificationType) → HaveNew values → HaveNew (spread values)
  spread_new [] p = tt
  spread_new (h ∷ values) p = both_new (spread_one h) (spread values) (one_new h p.0) (spread_new values p.1)

  locals_new : (n : ℕ) (values : List VerificationType) → HaveNew values → HaveNew (in_locals n values)
  locals_new n values p = both_new (spread values) (replicate (n - length (spread values)) top) (spread_new values p) (tops_new (n - length (spread values)))

  -- ---- kinds

  new_is : (o : Option Insn) → is_new o ≡ true → (place : ℕ) × (o ≡ Some (insns.OfClass opcode.new place))
  new_is (Some (insns.OfClass op place)) e = (place, ap (λ (k : ℕ). Some (insns.OfClass k place)) (eqb-true op opcode.new e))
  new_is _ e = absurd (true≢false (sym e))

  kind_new : (names : Names) (k : Kind) → HasNew g (verification_type names k) → IsKind g.code k
  kind_new names (kinds.Uninit at) p = new_is (slice_get g.code at) p
  kind_new names k p = tt

  kinds_new : (names : Names) (ks : List Kind) → HaveNew (map (verification_type names) ks) → All (IsKind g.code) ks
  kinds_new names [] p k d lt = absurd (omega (arith, lt))
  kinds_new names (x ∷ ks) p zero d lt = kind_new names x p.0
  kinds_new names (x ∷ ks) p (suc k) d lt = kinds_new names ks p.1 k d (omega (arith, lt))

  top_begins : (names : Names) (ks : List Kind) → full.BeginsWithTop (map (verification_type names) ks) → BeginsWithTop ks
  top_begins names [] b = b
  top_begins names (kinds.Top ∷ ks) b = refl
  top_begins names (k ∷ ks) b = absurd b

  pair_kind : (names : Names) (k : Kind) → kind_slots k ≡ 2 → is_pair (verification_type names k) ≡ true
  pair_kind names kinds.Double e = refl
  pair_kind names kinds.Long e = refl
  pair_kind names k e = absurd (omega (arith, e))

  kinds_paired : (names : Names) (ks : List Kind) → full.ArePaired (map (verification_type names) ks) → ArePaired ks
  kinds_paired names [] p = tt
  kinds_paired names (k ∷ ks) p = (λ two. top_begins names ks (p.0 (pair_kind names k two)), kinds_paired names ks p.1)

  kinds_slots : (names : Names) (ks : List Kind) → sum_by kind_slots ks ≡ slots (map (verification_type names) ks)
  kinds_slots names [] = refl
  kinds_slots names (k ∷ ks) = sum_by-cons kind_slots k ks ∙ ap₂ (λ (a b : ℕ). a + b) (one k) (kinds_slots names ks)
    where
      one : (k : Kind) → kind_slots k ≡ width (verification_type names k)
      one kinds.Top = refl
      one k = refl

  -- ---- a frame

  -- what a frame that says something is
  record Says (before : Before) (item : FrameItem) (f : Found) : Type 0 where
    values : List VerificationType
    stack : List VerificationType
    values_are : values_of g before item ≡ Some values
    stack_is : stack_of g item ≡ Some stack
    starts : insn_number g.starts (offset_of before item) < length g.code
    few_locals : slots values ≤ g.max_locals
    few_stack : slots stack ≤ g.max_stack
    is : found g (offset_of before item) values stack ≡ f

  says : (before : Before) (item : FrameItem) (f : Found) → frame_of g before item ≡ Some f → Says before item f
  unfolding frame_of
  says before item f e = by (values_of g before item) (stack_of g item) refl refl e
    where
      tests : (values stack : List VerificationType) → values_of g before item ≡ Some values → stack_of g item ≡ Some stack
          → found_if g (offset_of before item) (Some values) (Some stack) ≡ Some f → Says before item f
      tests values stack i j e =
          let offset = offset_of before item in
          let done = if_some (is_start g offset && fits_slots g values stack) (found g offset values stack) f e in
          let test = and_parts (is_start g offset) (fits_slots g values stack) done.0 in
          let few = and_parts (nat_le (slots values) g.max_locals) (nat_le (slots stack) g.max_stack) test.1 in
          record {
            values = values;
            stack = stack;
            values_are = i;
            stack_is = j;
            starts = ltb-true _ _ test.0;
            few_locals = leb-true _ _ few.0;
            few_stack = leb-true _ _ few.1;
            is = done.1;
          }

      by : (o p : Option (List VerificationType)) → values_of g before item ≡ o → stack_of g item ≡ p → found_if g (offset_of before item) o p ≡ Some f → Says before item f
      by None p i j e = absurd (none_some e)
      by (Some values) None i j e = absurd (none_some e)
      by (Some values) (Some stack) i j e = tests values stack i j e

  frame_made : (names : Names) (before : Before) (item : FrameItem) (said : Found) (f : FrameAt) (s : Says before item said) → HaveNew s.values → HaveNew s.stack
      → said.frame ≡ type_state_at names f → IsState g.code g.max_locals g.max_stack f.state
  frame_made names before item said f s vn sn e =
      let values = s.values in
      let stack = s.stack in
      let frame : (found g (offset_of before item) values stack).frame ≡ type_state_at names f = ap (λ (x : Found). x.frame) s.is ∙ e in
      let l : in_locals g.max_locals values ≡ map (verification_type names) f.state.locals = ap (λ (x : TypeStateAt). x.state.locals) frame in
      let s_is : stack ≡ map (verification_type names) f.state.stack = ap (λ (x : TypeStateAt). x.state.stack) frame in
      let few_l = s.few_locals in
      let few_s = s.few_stack in
      let n = length-append (spread values) (replicate (g.max_locals - length (spread values)) top) in
      let m = length-replicate (g.max_locals - length (spread values)) top in
      let z = spread_slots values in
      let k = length-map f.state.locals (verification_type names) in
      let c = ap (λ (x : List VerificationType). length x) l in
      let t = ap slots s_is in
      let u = kinds_slots names f.state.stack in
      record {
        locals = omega (arith, n, m, z, k, c, few_l);
        pairs = kinds_paired names f.state.locals (subst full.ArePaired l (paired_in g.max_locals values));
        stack = omega (arith, t, u, few_s);
        local_kinds = kinds_new names f.state.locals (subst HaveNew l (locals_new g.max_locals values vn));
        stack_kinds = kinds_new names f.state.stack (subst HaveNew s_is sn);
      }

  -- ---- all frames

  -- whatever begins from the base on isn't in front of this instruction
  abbrev From : ℕ → ℕ → Type 0
  From first base = (offset : ℕ) → base ≤ offset → insn_number g.starts offset < length g.code → first ≤ insn_number g.starts offset

  head_is : (x y : TypeStateAt) (xs ys : List TypeStateAt) → x ∷ xs ≡ y ∷ ys → x ≡ y
  head_is x y xs ys e = cc

  tail_is : (x y : TypeStateAt) (xs ys : List TypeStateAt) → x ∷ xs ≡ y ∷ ys → xs ≡ ys
  tail_is x y xs ys e = cc

  nil_cons : {x : TypeStateAt} {xs : List TypeStateAt} → x ∷ xs ≡ [] → ⊥
  nil_cons e = cc

  -- the frames stand at instructions from this one on, and are well made
  abbrev WellMadeFrom : ℕ → List FrameAt → Type 0
  WellMadeFrom first frames = AreFramesFrom first g.code g.max_locals g.max_stack frames

  module _ (o : AreOffsets (length g.code) g.starts) (names : Names) where
    frames_made : (first n : ℕ) (before : Before) (bytes : List ℕ) (frames : List FrameAt) → From first before.base → HaveNew before.values
        → AreFrames g before n bytes (map (type_state_at names) frames) → WellMadeFrom first frames
    frames_made first n before bytes [] from new are = tt
    frames_made first zero before bytes (f ∷ frames) from new are = absurd (nil_cons are.1)
    frames_made first (suc n) before bytes (f ∷ frames) from new are =
        let w = are.4 in
        let s = says before w.item are.1 w.says in
        let offset = offset_of before w.item in
        let at = insn_number g.starts offset in
        let here : are.1.frame ≡ type_state_at names f = head_is are.1.frame (type_state_at names f) are.2 (map (type_state_at names) frames) (sym are.3) in
        let others : are.2 ≡ map (type_state_at names) frames = tail_is are.1.frame (type_state_at names f) are.2 (map (type_state_at names) frames) (sym are.3) in
        let same : at ≡ f.at = ap (λ (x : Found). x.frame.at) s.is ∙ ap (λ (x : TypeStateAt). x.at) here in
        let next : (found g offset s.values s.stack).next ≡ are.1.next = ap (λ (x : Found). x.next) s.is in
        let base : offset + 1 ≡ are.1.next.base = ap (λ (x : Before). x.base) next in
        let values : s.values ≡ are.1.next.values = ap (λ (x : Before). x.values) next in
        let starts = s.starts in
        let low = from offset (omega arith) starts in
        let vn = values_new before w.item s.values new s.values_are in
        let sn = stack_new w.item s.stack s.stack_is in (
          omega (arith, low, same),
          omega (arith, starts, same),
          frame_made names before w.item are.1 f s vn sn here,
          frames_made (f.at + 1) n are.1.next are.0 frames
              (λ later le inside. let up = later_number g o offset later (omega (arith, base, le)) starts inside in omega (arith, up, same))
              (subst HaveNew values vn) (subst (AreFrames g are.1.next n are.0) others are.5),
        )

pub frames_well_made : FramesAreWellMade
frames_well_made g names entry table frames o new s =
    frames_made g o names 0 s.count (first_before entry) s.rest frames (λ offset le inside. omega arith) (in_values (HasNew g) entry.locals new) s.are

-- ---- the arguments

tops_gone : (n : ℕ) → trimmed (replicate n top) ≡ []
tops_gone zero = refl
tops_gone (suc n) = ap (λ (t : List VerificationType). Rattle.jc_frames.specs.Frames.without_last_top top t) (tops_gone n)

value_not_top : (h : VerificationType) → IsValue h → h ≡ top → ⊥
value_not_top h v e = subst IsValue e v

args_first : (n : ℕ) (arguments : List VerificationType) → AllByRecursion IsValue arguments → values_in (spread arguments ++ replicate n top) ≡ arguments
args_first n [] all = ap (values_from false) (tops_gone n)
args_first n (h ∷ arguments) all = by (is_pair h) refl (args_first n arguments all.1)
  where
    by : (b : Bool) → is_pair h ≡ b → values_in (spread arguments ++ replicate n top) ≡ arguments
        → values_in (((if b then h ∷ top ∷ [] else h ∷ []) ++ spread arguments) ++ replicate n top) ≡ h ∷ arguments
    by true is more = pair_values h (spread arguments ++ replicate n top) is ∙ ap (λ (l : List VerificationType). h ∷ l) more
    by false is more = ⊎_elim
        (λ e. e ∙ ap (λ (l : List VerificationType). h ∷ l) more)
        (λ w. absurd (value_not_top h all.0 w.0))
        (single_values h (spread arguments ++ replicate n top) is)

pub arguments_first : ArgumentsAreFirst
arguments_first count arguments all = args_first (count - length (spread arguments)) arguments all
