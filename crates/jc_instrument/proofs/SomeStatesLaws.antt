-- A body that passes the kind check has states, under more names.
use Rattle.std.proofs.Common.{◌≡◌, ◌⊎◌, inl, inr, ℕ, zero, suc, ◌-◌, ◌<◌, ◌≤◌, Bool, true, false, List, [], ◌∷◌, ◌++◌, length, map, get_or, replicate, Option, Some, None, slice_get, refl, sym, ◌∙◌, ap, ap₂, subst, arith, append_assoc, codes, bytes_eq, if◌then◌else◌}
use Rattle.std.specs.Prelude.{IsSome, not, nat_eq}
use Rattle.std.specs.Int.Bits.{bit_and}
use Rattle.std.specs.List.{AllByRecursion}
use Rattle.std.specs.Option.{option_and_then}
use Rattle.std.proofs.lemmas.Bool.{true≢false}
use Rattle.std.proofs.lemmas.List.{length-append, length-map, append-nil}
use Rattle.std.proofs.lemmas.List.Elements.{All-from_recursion}
use Rattle.std.proofs.lemmas.Option.{none-some, slice_get-get_or}
use Rattle.jc_bytes.specs.Descriptor.{FieldType, Byte, Char, Double, Float, Int, Long, Short, Boolean, Object, Array}
use Rattle.jc_methods.specs.DescriptorTypes.{method_type_in}
use Rattle.jc_methods.specs.EntryState.{spread, held_of, this_of, arguments, entry_of}
use Rattle.jc_methods.specs.VerificationTypes.{Names, VerificationType, top, int, float, double, long, null, uninit_this, object, uninit, verification_type, is_pair, TypeState, type_state, IsNumbered, IsNumberedState, AreNumberedFrames, Grows}
use Rattle.jc_methods.specs.WellMade.{IsKind, IsState, IsWellMadeOfAnySize, IsWellMade}
use Rattle.jc_methods.specs.declared.body.Body.{Body}
use Rattle.jc_methods.specs.declared.insn.Insn.{Insn}
use Rattle.jc_methods.specs.declared.kind.Kind.{Kind}
use Rattle.jc_methods.specs.declared.kind.Kind.TheVariants as kinds
use Rattle.jc_methods.specs.declared.kind.State.{State}
use Rattle.jc_methods.specs.Flow.{falls_at}
use Rattle.jc_methods.proofs.EntryLaws.{entry_count}
use Rattle.jc_methods.proofs.MetNamesLaws.{grows_none, grows_both}
use Rattle.jc_bytes.proofs.BooleanLaws.{fails_where}
use Rattle.jc_methods.proofs.NumberedLaws.{grown_count, number_kept, numbers_kept}
use Rattle.jc_bytes.proofs.ListLaws.{put_cases}
use Rattle.jc_kinds_after.specs.After.{insn_at, after_of}
use Rattle.jc_kinds_after.specs.Answers.{IsStateOf}
use Rattle.jc_kinds_after.proofs.LeaveLaws.{left_whole}
use Rattle.jc_kinds_after.proofs.PairLaws.{Paired, of_pairs, suc_plus}
use Rattle.jc_kinds.specs.Answers.{AreStates}
use Rattle.jc_kinds.specs.Checked.{Checked}
use Rattle.jc_kinds.specs.Frames.{frame_in}
use Rattle.jc_kinds.specs.States.{state_of, after_at}
use Rattle.jc_kinds.specs.StateSequence.{IsKeptAt}
use Rattle.jc_methods.proofs.FlowLaws.{falls_into_decided}
use Rattle.jc_kinds.proofs.FrameLaws.{frame_made, frame_numbered}
use Rattle.jc_kinds.proofs.GrowLaws.{states_stay}
use Rattle.jc_kinds.proofs.WalkLaws.{frame_needed, frame_is, entry_is, falls_is, kept_on}

-- ---- kinds that say what is verification_type

name_there : (names : Names) (name : List ℕ) (rest : Names) → get_or ((names ++ name ∷ []) ++ rest) (length names) [] ≡ name
name_there [] name rest = refl
name_there (x ∷ names) name rest = name_there names name rest

-- a kind that says it, whatever names follow
record SomeKind (names : Names) (h : VerificationType) : Type 0 where
  new : Names
  grows : Grows names new
  kind : Kind
  says : (rest : Names) → verification_type (new ++ rest) kind ≡ h
  numbered : IsNumbered (length new) kind

some_kind : (names : Names) (h : VerificationType) → SomeKind names h
some_kind names (object name) = record {
  new = names ++ name ∷ [];
  grows = (name ∷ [], refl);
  kind = kinds.Object (length names);
  says = λ rest. ap object (name_there names name rest);
  numbered = let count = length-append names (name ∷ []) in omega (arith, count);
}
some_kind names top = record { new = names; grows = grows_none names; kind = kinds.Top; says = λ rest. refl; numbered = tt }
some_kind names int = record { new = names; grows = grows_none names; kind = kinds.Int; says = λ rest. refl; numbered = tt }
some_kind names float = record { new = names; grows = grows_none names; kind = kinds.Float; says = λ rest. refl; numbered = tt }
some_kind names double = record { new = names; grows = grows_none names; kind = kinds.Double; says = λ rest. refl; numbered = tt }
some_kind names long = record { new = names; grows = grows_none names; kind = kinds.Long; says = λ rest. refl; numbered = tt }
some_kind names null = record { new = names; grows = grows_none names; kind = kinds.Null; says = λ rest. refl; numbered = tt }
some_kind names uninit_this = record { new = names; grows = grows_none names; kind = kinds.UninitThis; says = λ rest. refl; numbered = tt }
some_kind names (uninit at) = record { new = names; grows = grows_none names; kind = kinds.Uninit at; says = λ rest. refl; numbered = tt }

record SomeKinds (names : Names) (hs : List VerificationType) : Type 0 where
  new : Names
  grows : Grows names new
  list : List Kind
  says : (rest : Names) → map (verification_type (new ++ rest)) list ≡ hs
  numbered : AllByRecursion (IsNumbered (length new)) list

-- what follows the later names follows the earlier ones with what was added
later_names : (old new : Names) (grows : Grows old new) (rest : Names) → new ++ rest ≡ old ++ (grows.0 ++ rest)
later_names old new grows rest = ap (λ (l : Names). l ++ rest) grows.1 ∙ append_assoc old grows.0 rest

some_kinds : (names : Names) (hs : List VerificationType) → SomeKinds names hs
some_kinds names [] = record { new = names; grows = grows_none names; list = []; says = λ rest. refl; numbered = tt }
some_kinds names (h ∷ hs) =
    let one = some_kind names h in
    let others = some_kinds one.new hs in
    record {
      new = others.new;
      grows = grows_both names one.new others.new one.grows others.grows;
      list = one.kind ∷ others.list;
      says = λ rest. ap₂ (λ (x : VerificationType) (xs : List VerificationType). x ∷ xs)
          (ap (λ (l : Names). verification_type l one.kind) (later_names one.new others.new others.grows rest) ∙ one.says (others.grows.0 ++ rest))
          (others.says rest);
      numbered = (number_kept (length one.new) (length others.new) one.kind (grown_count one.new others.new others.grows) one.numbered, others.numbered);
    }

record SomeState (names : Names) (s : TypeState) : Type 0 where
  new : Names
  grows : Grows names new
  state : State
  says : (rest : Names) → type_state (new ++ rest) state ≡ s
  numbered : IsNumberedState (length new) state

some_state : (names : Names) (s : TypeState) → SomeState names s
some_state names s =
    let locals = some_kinds names s.locals in
    let stack = some_kinds locals.new s.stack in
    record {
      new = stack.new;
      grows = grows_both names locals.new stack.new locals.grows stack.grows;
      state = record { locals = locals.list; stack = stack.list };
      says = λ rest.
          let says_locals = ap (λ (l : Names). map (verification_type l) locals.list) (later_names locals.new stack.new stack.grows rest)
          ∙ locals.says (stack.grows.0 ++ rest) in
          let says_stack = stack.says rest in
          λ i. record { locals = says_locals i; stack = says_stack i };
      numbered = record { locals = numbers_kept (length locals.new) (length stack.new) locals.list (grown_count locals.new stack.new stack.grows) locals.numbered; stack = stack.numbered };
    }

says_now : (names : Names) (s : TypeState) (some : SomeState names s) → type_state some.new some.state ≡ s
says_now names s some = ap (λ (l : Names). type_state l some.state) (sym (append-nil some.new)) ∙ some.says []

-- ---- the state in which a method begins

-- no object before its constructor, but for `this`
abbrev IsOther : VerificationType → Type 0
IsOther (uninit at) = ⊥
IsOther h = Unit {0}

both_others : (hs js : List VerificationType) → AllByRecursion IsOther hs → AllByRecursion IsOther js → AllByRecursion IsOther (hs ++ js)
both_others [] js a b = b
both_others (h ∷ hs) js a b = (a.0, both_others hs js a.1 b)

tops_other : (n : ℕ) → AllByRecursion IsOther (replicate n top)
tops_other zero = tt
tops_other (suc n) = (tt, tops_other n)

type_other : (type : FieldType) → IsOther (held_of type)
type_other Byte = tt
type_other Char = tt
type_other Double = tt
type_other Float = tt
type_other Int = tt
type_other Long = tt
type_other Short = tt
type_other Boolean = tt
type_other (Object name) = tt
type_other (Array component) = tt

types_other : (types : List FieldType) → AllByRecursion IsOther (map held_of types)
types_other [] = tt
types_other (type ∷ types) = (type_other type, types_other types)

this_other : (owner name : List ℕ) → IsOther (this_of owner name)
this_other owner name = by (bytes_eq name (codes "<init>"))
  where
    by : (t : Bool) → IsOther (if t then uninit_this else object owner)
    by true = tt
    by false = tt

arguments_other : (owner name desc : List ℕ) (flags : ℕ) → AllByRecursion IsOther (arguments owner name desc flags)
arguments_other owner name desc flags = by (nat_eq (bit_and flags 0x0008) 0)
  where
    by : (t : Bool) → AllByRecursion IsOther ((if not t then [] else this_of owner name ∷ []) ++ map held_of (method_type_in desc).parameters)
    by true = (this_other owner name, types_other (method_type_in desc).parameters)
    by false = types_other (method_type_in desc).parameters

spread_others : (values : List VerificationType) → AllByRecursion IsOther values → AllByRecursion IsOther (spread values)
spread_others [] all = tt
spread_others (h ∷ values) all = by (is_pair h) (spread_others values all.1)
  where
    by : (t : Bool) → AllByRecursion IsOther (spread values) → AllByRecursion IsOther ((if t then h ∷ top ∷ [] else h ∷ []) ++ spread values)
    by true rest = (all.0, (tt, rest))
    by false rest = (all.0, rest)

single_paired : (h : VerificationType) (ls : List VerificationType) → is_pair h ≡ false → Paired ls → Paired (h ∷ ls)
single_paired h ls single pairs zero e = absurd (true≢false (sym e ∙ single))
single_paired h ls single pairs (suc i) e =
    let p = pairs i e in
    let less = p.0 in
    (omega (arith, less), ap (λ (n : ℕ). get_or (h ∷ ls) n top) (suc_plus i) ∙ p.1)

pair_paired : (h : VerificationType) (ls : List VerificationType) → Paired ls → Paired (h ∷ top ∷ ls)
pair_paired h ls pairs zero e = (omega arith, refl)
pair_paired h ls pairs (suc i) e =
    let p = single_paired top ls refl pairs i e in
    let less = p.0 in
    (omega (arith, less), ap (λ (n : ℕ). get_or (h ∷ top ∷ ls) n top) (suc_plus i) ∙ p.1)

spread_paired : (values rest : List VerificationType) → Paired rest → Paired (spread values ++ rest)
spread_paired [] rest pairs = pairs
spread_paired (h ∷ values) rest pairs = by (is_pair h) refl (spread_paired values rest pairs)
  where
    by : (t : Bool) → is_pair h ≡ t → Paired (spread values ++ rest) → Paired (((if t then h ∷ top ∷ [] else h ∷ []) ++ spread values) ++ rest)
    by true is later = pair_paired h (spread values ++ rest) later
    by false is later = single_paired h (spread values ++ rest) is later

tops_paired : (n : ℕ) → Paired (replicate n top)
tops_paired zero i e = absurd (true≢false (sym e))
tops_paired (suc n) i e = single_paired top (replicate n top) refl (tops_paired n) i e

kinds_made : (code : List Insn) (names : Names) (ks : List Kind) → AllByRecursion IsOther (map (verification_type names) ks) → AllByRecursion (IsKind code) ks
kinds_made code names [] all = tt
kinds_made code names (k ∷ ks) all = (one k all.0, kinds_made code names ks all.1)
  where
    one : (k : Kind) → IsOther (verification_type names k) → IsKind code k
    one (kinds.Uninit at) is = absurd is
    one kinds.Top is = tt
    one kinds.Int is = tt
    one kinds.Float is = tt
    one kinds.Double is = tt
    one kinds.Long is = tt
    one kinds.Null is = tt
    one kinds.UninitThis is = tt
    one (kinds.Object n) is = tt

module _ (b : Body) (made : IsWellMadeOfAnySize b) where
  abbrev values : List VerificationType
  values = arguments b.owner b.name b.desc b.flags

  entry_others : AllByRecursion IsOther (entry_of b).locals
  entry_others =
      both_others (spread values) (replicate (b.max_locals - length (spread values)) top)
      (spread_others values (arguments_other b.owner b.name b.desc b.flags)) (tops_other (b.max_locals - length (spread values)))

  entry_paired : Paired (entry_of b).locals
  entry_paired = spread_paired values (replicate (b.max_locals - length (spread values)) top) (tops_paired (b.max_locals - length (spread values)))

  entry_whole : (names : Names) → IsState b.code b.max_locals b.max_stack (some_state names (entry_of b)).state
  unfolding some_state some_kinds
  entry_whole names =
      let some = some_state names (entry_of b) in
      let says : map (verification_type some.new) some.state.locals ≡ (entry_of b).locals = ap (λ (s : TypeState). s.locals) (says_now names (entry_of b) some) in
      record {
        locals = sym (length-map some.state.locals (verification_type some.new)) ∙ ap (λ (l : List VerificationType). length l) says ∙ entry_count b made;
        pairs = of_pairs some.new some.state.locals (subst Paired (sym says) entry_paired);
        stack = omega arith;
        local_kinds = All-from_recursion (IsKind b.code) some.state.locals
            (kinds_made b.code some.new some.state.locals (subst (AllByRecursion IsOther) (sym says) entry_others));
        stack_kinds = All-from_recursion (IsKind b.code) [] tt;
      }

-- ---- the states, one after the other

-- the state before the instruction, under more names
record NextState (old names : Names) (b : Body) (i : ℕ) : Type 0 where
  new : Names
  grows : Grows names new
  state : State
  kept : IsKeptAt old new b i state

record SomeStates (old : Names) (b : Body) (n : ℕ) : Type 0 where
  names : Names
  grows : Grows old names
  states : List State
  count : length states ≡ n
  each : (k : ℕ) (s : State) → slice_get states k ≡ Some s → IsKeptAt old names b k s

some_of : {X : Type 0} (o : Option X) → IsSome o → (x : X) × (o ≡ Some x)
some_of None some = absurd (true≢false (sym some))
some_of (Some x) some = (x, refl)

module _ (old : Names) (b : Body) (made : IsWellMade b) (numbered : AreNumberedFrames (length old) b.frames) (checked : Checked old b) where
  by_frame : (names : Names) → Grows old names → (i : ℕ) (f : State) → frame_in b.frames i ≡ Some f → NextState old names b i
  by_frame names grows i f there = record {
    new = names;
    grows = grows_none names;
    state = f;
    kept = kept_on old old names b i f grows (record {
      is = frame_is old b i f there;
      numbered = frame_numbered (length old) b.frames numbered i f there;
      well_made = frame_made 0 b.code b.max_locals b.max_stack b.frames made.of_any_size.frames i f there;
    });
  }

  at_entry : (names : Names) → frame_in b.frames 0 ≡ None → NextState old names b 0
  at_entry names none =
      let some = some_state names (entry_of b) in
      record {
        new = some.new;
        grows = some.grows;
        state = some.state;
        kept = record {
          is = entry_is old b none ∙ ap Some (sym (says_now names (entry_of b) some));
          numbered = some.numbered;
          well_made = entry_whole b made.of_any_size names;
        };
      }

  falls_there : (i : ℕ) → suc i < length b.code → frame_in b.frames (suc i) ≡ None → falls_at (insn_at b i) ≡ true
  falls_there i room none = by (falls_at (insn_at b i)) refl
    where
      by : (t : Bool) → falls_at (insn_at b i) ≡ t → falls_at (insn_at b i) ≡ true
      by true is = is
      by false is =
          absurd (frame_needed b (suc i) checked.none_missing room
          (inr (inr (λ z. omega (arith, z), fails_where (falls_into_decided b (suc i)) is))) none)

  behind : (names : Names) (i : ℕ) (s : State) → suc i < length b.code → IsKeptAt old names b i s → frame_in b.frames (suc i) ≡ None
      → NextState old names b (suc i)
  behind names i s room here none =
      let t = some_of (after_at old b i) (checked.after i (omega (arith, room))) in
      let some = some_state names t.0 in
      let after : after_of b i (type_state names s) ≡ Some t.0 = sym (ap (option_and_then (after_of b i)) here.is) ∙ t.1 in
      let of_body : IsStateOf (length names) b s = record {
        locals = here.well_made.locals;
        local_kinds = here.well_made.local_kinds;
        stack_kinds = here.well_made.stack_kinds;
        numbered = here.numbered;
      } in
      record {
        new = some.new;
        grows = some.grows;
        state = some.state;
        kept = record {
          is = falls_is old b i none (falls_there i room none) ∙ t.1 ∙ ap Some (sym (says_now names t.0 some));
          numbered = some.numbered;
          well_made = left_whole names some.new b i s some.state made.of_any_size of_body (λ more. ap Some (some.says more) ∙ sym after) here.well_made;
        };
      }

  next_state : (i : ℕ) → i < length b.code → (before : SomeStates old b i) → NextState old before.names b i
  next_state i room before = by (frame_in b.frames i) refl
    where
      without_frame : (i : ℕ) → i < length b.code → (before : SomeStates old b i) → frame_in b.frames i ≡ None → NextState old before.names b i
      without_frame zero room before none = at_entry before.names none
      without_frame (suc i) room before none =
          let count = before.count in
          let s = get_or before.states i (record { locals = []; stack = [] }) in
          behind before.names i s room
          (before.each i s (slice_get-get_or before.states i (record { locals = []; stack = [] }) (omega (arith, count)))) none

      by : (o : Option State) → frame_in b.frames i ≡ o → NextState old before.names b i
      by (Some f) there = by_frame before.names before.grows i f there
      by None none = without_frame i room before none

  some_states : (n : ℕ) → n ≤ length b.code → SomeStates old b n
  some_states zero inside = record { names = old; grows = grows_none old; states = []; count = refl; each = λ k s at. absurd (none-some s at) }
  some_states (suc n) inside =
      let before = some_states n (omega (arith, inside)) in
      let next = next_state n (omega (arith, inside)) before in
      let count = before.count in
      let more = length-append before.states (next.state ∷ []) in
      record {
        names = next.new;
        grows = grows_both old before.names next.new before.grows next.grows;
        states = before.states ++ next.state ∷ [];
        count = omega (arith, count, more);
        each = λ k s at. each before next k s (put_cases before.states next.state s k at);
      }
    where
      each : (before : SomeStates old b n) (next : NextState old before.names b n) (k : ℕ) (s : State)
          → (slice_get before.states k ≡ Some s) ⊎ ((k ≡ length before.states) × (next.state ≡ s)) → IsKeptAt old next.new b k s
      each before next k s (inl there) = kept_on old before.names next.new b k s next.grows (before.each k s there)
      each before next k s (inr last) =
          subst (λ (m : ℕ). IsKeptAt old next.new b m s) (sym (last.0 ∙ before.count)) (subst (IsKeptAt old next.new b n) last.1 next.kept)

  -- the states of the body, under more names
  pub record AllStates : Type 0 where
    pub names : Names
    pub grows : Grows old names
    pub states : List State
    pub are : AreStates names b states

  pub all_states : AllStates
  all_states =
      let some = some_states (length b.code) (omega arith) in
      record {
        names = some.names;
        grows = some.grows;
        states = some.states;
        are = record {
          count = some.count;
          each = λ i s at.
              let kept = some.each i s at in
              record {
                is = ap (λ (l : Names). state_of l b i) some.grows.1 ∙ states_stay old some.grows.0 b numbered i ∙ kept.is;
                numbered = kept.numbered;
                well_made = kept.well_made;
              };
        };
      }
