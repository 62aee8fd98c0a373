-- The values on a stack are at most as many as the stack has slots.
use Rattle.std.proofs.Common.{◌≡◌, ℕ, suc, ◌≤◌, List, [], ◌∷◌, ◌++◌, length, map, reverse}
use Rattle.std.proofs.Common.{Option, Some, None, refl, sym, ◌∙◌, subst, arith}
use Rattle.std.proofs.lemmas.List.{length-reverse}
use Rattle.std.specs.Prelude.{slice_index_or}
use Rattle.std.specs.List.{list_any}
use Rattle.std.proofs.lemmas.Option.{same_Some}
use Rattle.jc_bytes.proofs.OptionLaws.{none_some}
use Rattle.jc_bytes.proofs.DecoderLaws.{guard_some}
use Rattle.jc_methods.specs.declared.body.Body.{Body}
use Rattle.jc_methods.specs.VerificationTypes.{Names, VerificationType, TypeState, slots}
use Rattle.jc_methods.specs.WellMade.{IsWellMade}
use Rattle.jc_methods.specs.VerificationTypes as verification
use Rattle.jc_methods.proofs.WidthLaws.{as_many}
use Rattle.jc_kinds_after.specs.Wants.{is_int, accepts, accepts_all}
use Rattle.jc_kinds_after.specs.Step.{Gives, Step, moves, loads, stores, counts, picks, makes, builds, fails, Ground, below, upper, last, limited, moved_by, with_stack, put_local, element_of}
use Rattle.jc_kinds_after.specs.Step.{is_made, without, class_built, replaced, built_as, given_of, apply}
use Rattle.jc_kinds_after.specs.After.{step_of, returns_of, ground_of}
use Rattle.jc_kinds_after.specs.declared.want.Want.TheVariants as wants
use Rattle.jc_kinds_after.proofs.KeepLaws.{limit_by, limit}
use Rattle.jc_kinds_after.proofs.LeaveLaws.{kinds_sum}
use Rattle.jc_kinds.specs.States.{state_of}
use Rattle.jc_machine_model.specs.Values.{Value}
use Rattle.jc_machine_model.specs.Fits.{AreOfVerificationTypes}
use Rattle.jc_machine_laws.specs.Laws.{RoomFits}
use Rattle.jc_machine_laws.proofs.OnwardLaws.{here_of}
use Rattle.jc_machine_laws.proofs.StateLaws.{each_state}
use Rattle.jc_machine_laws.proofs.StackLaws.{not_chosen}
use Rattle.jc_machine_laws.proofs.StepLaws.{with_stack_is}
use Rattle.jc_machine_laws.proofs.CallLaws.{body_is}

-- ---- the state after an instruction

with_room : (most : ℕ) (k t : TypeState) (ks : List VerificationType) → with_stack k (limited most ks) ≡ Some t → slots t.stack ≤ most
with_room most k t ks e = limit most ks t.stack (with_stack_is k t (limited most ks) e).0

built_room : (most : ℕ) (old : VerificationType) (rest given : List VerificationType) (o : Option (List ℕ)) (k t : TypeState)
    (gs : List Gives) → built_as most old rest gs o k ≡ Some t → slots t.stack ≤ most
built_room most old rest given None k t gs e = absurd (none_some e)
built_room most old rest given (Some name) k t gs e =
    with_room most (record { locals = map (replaced old name) k.locals; stack = k.stack }) t
    (map (replaced old name) rest ++ map (given_of []) gs) e

step_room : (g : Ground) (step : Step) (k t : TypeState) → apply g step k ≡ Some t → slots t.stack ≤ g.most
step_room g (moves forms) k t e = limit_by g.most forms k.stack t.stack (with_stack_is k t (moved_by g.most forms k.stack) e).0
step_room g (loads n want) k t e =
    with_room g.most k t (k.stack ++ slice_index_or k.locals n verification.top ∷ [])
    (guard_some (accepts want (slice_index_or k.locals n verification.top)) _ t e).1
step_room g (stores n want) k t e =
    with_room g.most (record { locals = put_local n (last k.stack) k.locals; stack = k.stack }) t (below 1 k.stack)
    (guard_some (accepts want (last k.stack)) _ t e).1
step_room g (counts n) k t e = with_room g.most k t k.stack (guard_some (is_int (slice_index_or k.locals n verification.top)) _ t e).1
step_room g picks k t e =
    with_room g.most k t _ (guard_some _
    (with_stack k (limited g.most (below 2 k.stack ++ element_of (slice_index_or (upper 2 k.stack) 0 verification.top) ∷ []))) t e).1
step_room g makes k t e =
    with_room g.most (record { locals = map (without g.place) k.locals; stack = k.stack }) t
    (k.stack ++ verification.uninit g.place ∷ []) (not_chosen (list_any (is_made g.place) k.stack) _ t e)
step_room g (builds f) k t e =
    built_room g.most (slice_index_or (upper (suc (length f.wanted)) k.stack) 0 verification.top)
    (below (suc (length f.wanted)) k.stack) []
    (class_built g (slice_index_or (upper (suc (length f.wanted)) k.stack) 0 verification.top)) k t f.given
    (guard_some (accepts_all (wants.Anything ∷ f.wanted) (upper (suc (length f.wanted)) k.stack)) _ t e).1
step_room g fails k t e = absurd (none_some e)

-- ---- states

pub state_room : (names : Names) (b : Body) → IsWellMade b → (i : ℕ) (s : TypeState) → state_of names b i ≡ Some s → slots s.stack ≤ b.max_stack
state_room names b w i s e =
    each_state names b w.of_any_size (λ (x : TypeState). slots x.stack ≤ b.max_stack)
    (λ f h. subst (λ n. n ≤ b.max_stack) (sym (kinds_sum names f.state.stack)) h.stack) (omega arith)
    (λ j insn k t h g. step_room (ground_of b j) (step_of b.uses (returns_of b) insn) k t g) i s e

-- ---- frames

pub same_count : (values : List Value) (ks : List VerificationType) → AreOfVerificationTypes values ks → length values ≡ length ks
same_count [] [] p = refl
same_count [] (h ∷ ks) p = absurd p
same_count (v ∷ values) [] p = absurd p
same_count (v ∷ values) (h ∷ ks) p = let e = same_count values ks p.1 in grind (arith, e)

pub room_fits : RoomFits
room_fits program f b p w e =
    let h = here_of program f w.state p w.stands in
    let n = same_count f.stack (reverse w.state.stack) w.stack in
    let m = length-reverse w.state.stack in
    let l = as_many w.state.stack in
    let r = state_room program.names w.stands.body (h.1).whole.well_made f.place w.state w.stands.state_is in
    let all : length f.stack ≤ w.stands.body.max_stack = omega (arith, n, m, l, r) in
    subst (λ (x : Body). length f.stack ≤ x.max_stack)
    (same_Some w.stands.body b (sym (body_is program f.method w.stands.linked w.stands.body w.stands.class_is w.stands.body_is) ∙ e)) all
