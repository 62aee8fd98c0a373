-- The classes of objects in the states of a body have names that a pool can take.
use Rattle.std.proofs.Common.{◌≡◌, ℕ, zero, suc, ◌-◌, Bool, true, false, ◌&&◌, List, [], ◌∷◌, ◌++◌, length, map, take, replicate, Option, Some, None, if◌then◌else◌, refl, sym, ◌∙◌, subst, nat_eq, nat_le, codes, bytes_eq}
use Rattle.std.specs.Prelude.{not, option_map}
use Rattle.std.specs.Int.Bits.{bit_and}
use Rattle.std.specs.List.{AllByRecursion}
use Rattle.std.specs.Option.{option_and_then}
use Rattle.std.proofs.lemmas.Option.{none-some, same_Some, slice_get_within, get_or_from_slice_get}
use Rattle.jc_bytes.specs.Descriptor.{IsMethodDescriptor}
use Rattle.jc_methods.specs.DescriptorTypes.{method_type_in}
use Rattle.jc_methods.specs.EntryState.{spread, in_locals, held_of, this_of, arguments, entry_seen, entry_of}
use Rattle.jc_methods.specs.VerificationTypes.{Names, VerificationType, top, uninit_this, object, uninit, is_pair, TypeState, TypeStateAt, type_state_at}
use Rattle.jc_methods.specs.Starts.{insn_number}
use Rattle.jc_methods.specs.InsnUse.{pool_place, Suits}
use Rattle.jc_methods.specs.WellMade.{IsWellMadeOfAnySize, HasUse, what_used}
use Rattle.jc_methods.specs.declared.body.Body.{Body}
use Rattle.jc_methods.specs.declared.body.What.{What}
use Rattle.jc_methods.specs.declared.body.What.TheVariants as whats
use Rattle.jc_methods.specs.declared.insn.Insn.{Insn}
use Rattle.jc_methods.specs.declared.insn.Insn.TheVariants as insns
use Rattle.jc_methods.specs.Flow.{falls_at}
use Rattle.jc_pool.specs.Lookup.{class_name_of}
use Rattle.jc_kinds_after.specs.After.{class_in, new_class, insn_at, ground_of, returns_of, after_of}
use Rattle.jc_kinds_after.proofs.LeaveLaws.{insn_of}
use Rattle.jc_frames.specs.Frames.{Ground, Before, Found, trimmed, without_last_top, values_from, values_in, is_new, insn_from, type_of, in_front, types_of, values_of, stack_of, offset_of, is_start, fits_slots, found, found_if, frame_of}
use Rattle.jc_frames.specs.Table.{AreFrames}
use Rattle.jc_frames.specs.declared.items.FrameItem.{FrameItem}
use Rattle.jc_frames.specs.declared.items.FrameItem.TheVariants as frames
use Rattle.jc_frames.specs.declared.items.TypeItem.{TypeItem}
use Rattle.jc_frames.specs.declared.items.TypeItem.TheVariants as types
use Rattle.jc_kinds.specs.States.{frames_of, frame_at, or_else, state_of}
use Rattle.jc_instrument_laws.proofs.NamedStepsLaws.{AllNamed, AreNamed, IsNamed, GroundNamed, UseNamed, insn_named, method_named, named_both, named_take, no_text, step_named}
use Rattle.jc_instrument_laws.proofs.PoolSpellingLaws.{IsText}
use Rattle.jc_instrument.proofs.PoolTextLaws.{IsReadPool, class_are, class_short}

-- ---- the state in which a method begins

tops_named : (n : ℕ) → AllNamed (replicate n top)
tops_named zero = tt
tops_named (suc n) = (tt, tops_named n)

spread_named : (values : List VerificationType) → AllNamed values → AllNamed (spread values)
spread_named [] all = tt
spread_named (h ∷ values) all = by (is_pair h) (spread_named values all.1)
  where
    by : (t : Bool) → AllNamed (spread values) → AllNamed ((if t then h ∷ top ∷ [] else h ∷ []) ++ spread values)
    by true rest = (all.0, (tt, rest))
    by false rest = (all.0, rest)

locals_named : (count : ℕ) (values : List VerificationType) → AllNamed values → AllNamed (in_locals count values)
locals_named count values all =
    named_both (spread values) (replicate (count - length (spread values)) top) (spread_named values all) (tops_named (count - length (spread values)))

this_named : (owner name : List ℕ) → IsText owner → IsNamed (this_of owner name)
this_named owner name t = by (bytes_eq name (codes "<init>"))
  where
    by : (begins : Bool) → IsNamed (if begins then uninit_this else object owner)
    by true = tt
    by false = t

pub entry_named : (owner name desc : List ℕ) (flags count : ℕ) → IsText owner → IsText desc → IsMethodDescriptor desc
    → AreNamed (entry_seen owner name desc flags count)
entry_named owner name desc flags count o d described =
    let parameters = (method_named desc d described).parameters in
    record { locals = locals_named count (arguments owner name desc flags) (by (nat_eq (bit_and flags 0x0008) 0) parameters); stack = tt }
  where
    by : (t : Bool) → AllNamed (map held_of (method_type_in desc).parameters)
        → AllNamed ((if not t then [] else this_of owner name ∷ []) ++ map held_of (method_type_in desc).parameters)
    by true parameters = (this_named owner name o, parameters)
    by false parameters = parameters

-- ---- frames

trimmed_named : (hs : List VerificationType) → AllNamed hs → AllNamed (trimmed hs)
trimmed_named [] all = tt
trimmed_named (h ∷ hs) all = by h (trimmed hs) all.0 (trimmed_named hs all.1)
  where
    by : (h : VerificationType) (rest : List VerificationType) → IsNamed h → AllNamed rest → AllNamed (without_last_top h rest)
    by top [] named all = tt
    by top (x ∷ rest) named all = (tt, all)
    by h rest named all = (named, all)

from_named : (skips : Bool) (hs : List VerificationType) → AllNamed hs → AllNamed (values_from skips hs)
from_named skips [] all = tt
from_named true (h ∷ hs) all = from_named false hs all.1
from_named false (h ∷ hs) all = (all.0, from_named (is_pair h) hs all.1)

pub values_named : (hs : List VerificationType) → AllNamed hs → AllNamed (values_in hs)
values_named hs all = from_named false (trimmed hs) (trimmed_named hs all)

abbrev IfNamed : Option (List VerificationType) → Type 0
IfNamed o = (hs : List VerificationType) → o ≡ Some hs → AllNamed hs

some_named : (hs : List VerificationType) → AllNamed hs → IfNamed (Some hs)
some_named hs all js is = subst AllNamed (same_Some hs js is) all

module _ (g : Ground) (read : IsReadPool g.pool) where
  type_named : (item : TypeItem) (h : VerificationType) → type_of g item ≡ Some h → IsNamed h
  type_named (types.Object place) h is = by (class_name_of g.pool place) refl is
    where
      by : (o : Option (List ℕ)) → class_name_of g.pool place ≡ o → option_map object o ≡ Some h → IsNamed h
      by None there e = absurd (none-some h e)
      by (Some name) there e = subst IsNamed (same_Some (object name) h e)
          (record { short = class_short g.pool read.small place name there; are = class_are g.pool read.each place name there })
  type_named (types.Uninit offset) h is = by (is_new (insn_from g offset)) is
    where
      by : (t : Bool) → (if t then Some (uninit (insn_number g.starts offset)) else None) ≡ Some h → IsNamed h
      by true e = subst IsNamed (same_Some _ h e) tt
      by false e = absurd (none-some h e)
  type_named item h is = subst IsNamed (same_Some _ h is) tt

  front_named : (o : Option VerificationType) (more : Option (List VerificationType)) → ((h : VerificationType) → o ≡ Some h → IsNamed h) → IfNamed more → IfNamed (in_front o more)
  front_named (Some h) (Some hs) one all js is = subst AllNamed (same_Some (h ∷ hs) js is) (one h refl, all hs refl)
  front_named (Some h) None one all js is = absurd (none-some js is)
  front_named None more one all js is = absurd (none-some js is)

  types_named : (items : List TypeItem) → IfNamed (types_of g items)
  types_named [] = some_named [] tt
  types_named (item ∷ items) = front_named (type_of g item) (types_of g items) (type_named item) (types_named items)

  values_of_named : (before : Before) (item : FrameItem) → AllNamed before.values → IfNamed (values_of g before item)
  values_of_named before (frames.Same delta) all = some_named before.values all
  values_of_named before (frames.OneItem delta item) all = some_named before.values all
  values_of_named before (frames.Chop delta count) all = λ js is. by (nat_le count (length before.values)) js is
    where
      by : (t : Bool) → IfNamed (if t then Some (take (length before.values - count) before.values) else None)
      by true js is = subst AllNamed (same_Some _ js is) (named_take (length before.values - count) before.values all)
      by false js is = absurd (none-some js is)
  values_of_named before (frames.Append delta added) all = λ js is. by (types_of g added) (types_named added) js is
    where
      by : (o : Option (List VerificationType)) → IfNamed o → IfNamed (option_map (λ more. before.values ++ more) o)
      by None more js is = absurd (none-some js is)
      by (Some hs) more js is = subst AllNamed (same_Some _ js is) (named_both before.values hs all (more hs refl))
  values_of_named before (frames.Full delta locals stack) all = types_named locals

  stack_of_named : (item : FrameItem) → IfNamed (stack_of g item)
  stack_of_named (frames.Same delta) = some_named [] tt
  stack_of_named (frames.OneItem delta item) = front_named (type_of g item) (Some []) (type_named item) (some_named [] tt)
  stack_of_named (frames.Chop delta count) = some_named [] tt
  stack_of_named (frames.Append delta added) = some_named [] tt
  stack_of_named (frames.Full delta locals stack) = types_named stack

  -- the frame, and what the next one depends on
  record FoundNamed (f : Found) : Type 0 where
    frame : AreNamed f.frame.state
    next : AllNamed f.next.values

  found_named : (offset : ℕ) (values stack : Option (List VerificationType)) (f : Found) → IfNamed values → IfNamed stack
      → found_if g offset values stack ≡ Some f → FoundNamed f
  found_named offset (Some values) (Some stack) f v s e = by (is_start g offset && fits_slots g values stack) e
    where
      by : (t : Bool) → (if t then Some (found g offset values stack) else None) ≡ Some f → FoundNamed f
      by true e = subst FoundNamed (same_Some (found g offset values stack) f e) (record {
        frame = record { locals = locals_named g.max_locals values (v values refl); stack = s stack refl };
        next = v values refl;
      })
      by false e = absurd (none-some f e)
  found_named offset (Some values) None f v s e = absurd (none-some f e)
  found_named offset None stack f v s e = absurd (none-some f e)

  frame_named : (before : Before) (item : FrameItem) (f : Found) → AllNamed before.values → frame_of g before item ≡ Some f → FoundNamed f
  unfolding frame_of
  frame_named before item f all e =
      found_named (offset_of before item) (values_of g before item) (stack_of g item) f (values_of_named before item all) (stack_of_named item) e

  pub frames_named : (before : Before) (n : ℕ) (bytes : List ℕ) (list : List TypeStateAt) → AllNamed before.values → AreFrames g before n bytes list
      → AllByRecursion (λ f. AreNamed f.state) list
  frames_named before zero bytes list all are = subst (AllByRecursion (λ f. AreNamed f.state)) (sym are.1) tt
  frames_named before (suc n) bytes list all are =
      let one = frame_named before are.4.item are.1 all are.4.says in
      subst (AllByRecursion (λ f. AreNamed f.state)) (sym are.3) (one.frame, frames_named are.1.next n are.0 are.2 one.next are.5)

-- ---- the states

-- the texts of a body
pub record HasTexts (names : Names) (b : Body) : Type 0 where
  pub owner : IsText b.owner
  pub desc : IsText b.desc
  pub uses : (place : ℕ) (what : What) → what_used b.uses place ≡ Some what → UseNamed what
  pub frames : AllByRecursion (λ f. AreNamed f.state) (map (type_state_at names) b.frames)

named_at : (list : List TypeStateAt) → AllByRecursion (λ f. AreNamed f.state) list → (i : ℕ) (s : TypeState) → frame_at list i ≡ Some s → AreNamed s
named_at [] all i s e = absurd (none-some s e)
named_at (f ∷ list) all i s e = by (nat_eq f.at i) e (named_at list all.1 i s)
  where
    by : (t : Bool) → (if t then Some f.state else frame_at list i) ≡ Some s → (frame_at list i ≡ Some s → AreNamed s) → AreNamed s
    by true e more = subst AreNamed (same_Some f.state s e) all.0
    by false e more = more e

module _ (names : Names) (b : Body) (made : IsWellMadeOfAnySize b) (texts : HasTexts names b) where
  class_text : (o : Option What) → ((what : What) → o ≡ Some what → UseNamed what) → IsText (class_in o)
  class_text (Some (whats.Class name)) named = named (whats.Class name) refl
  class_text o named = no_text

  new_text : (o : Option Insn) → IsText (new_class b.uses o)
  new_text (Some (insns.OfClass op place)) = class_text (what_used b.uses place) (texts.uses place)
  new_text _ = no_text

  ground_named : (i : ℕ) → GroundNamed (ground_of b i)
  ground_named i = record { owner = texts.owner; class_at = λ at. new_text (insn_at b at) }

  used_by : (i : ℕ) (insn : Insn) → insn_at b i ≡ Some insn → (place : ℕ) → pool_place insn ≡ Some place → HasUse b.uses place (Suits insn)
  used_by i insn stands =
      subst (λ (x : Insn). (place : ℕ) → pool_place x ≡ Some place → HasUse b.uses place (Suits x)) (get_or_from_slice_get b.code i insn insn stands)
      (made.uses.by_insns i insn (slice_get_within b.code i insn stands))

  after_named : (i : ℕ) (s t : TypeState) → AreNamed s → after_of b i s ≡ Some t → AreNamed t
  after_named i s t all e =
      let insn = insn_of b i s t e in
      step_named (ground_of b i) _ s t (ground_named i) (insn_named b.uses (returns_of b) texts.uses insn.0 (used_by i insn.0 insn.1)) all insn.2

  or_named : (i : ℕ) (other : Option TypeState) (s : TypeState) → ((t : TypeState) → other ≡ Some t → AreNamed t)
      → or_else (frame_at (frames_of names b) i) other ≡ Some s → AreNamed s
  or_named i other s more e = by (frame_at (frames_of names b) i) refl e
    where
      by : (o : Option TypeState) → frame_at (frames_of names b) i ≡ o → or_else o other ≡ Some s → AreNamed s
      by None is e = more s e
      by (Some t) is e = named_at (frames_of names b) texts.frames i s (is ∙ e)

  falls_named : (i : ℕ) (o : Option TypeState) (falls : Bool) (t : TypeState) → ((s : TypeState) → o ≡ Some s → AreNamed s)
      → (if falls then option_and_then (after_of b i) o else None) ≡ Some t → AreNamed t
  falls_named i o false t before e = absurd (none-some t e)
  falls_named i None true t before e = absurd (none-some t e)
  falls_named i (Some s) true t before e = after_named i s t (before s refl) e

  pub state_named : (i : ℕ) (s : TypeState) → state_of names b i ≡ Some s → AreNamed s
  unfolding state_of
  state_named zero s e =
      or_named 0 (Some (entry_of b)) s
      (λ t is. subst AreNamed (same_Some (entry_of b) t is)
      (entry_named b.owner b.name b.desc b.flags b.max_locals texts.owner texts.desc (made.arguments.type, made.arguments.described))) e
  state_named (suc i) s e =
      or_named (suc i) _ s (λ t is. falls_named i (state_of names b i) (falls_at (insn_at b i)) t (λ u q. state_named i u q) is) e
