-- References suit where control goes on in a twin, and in the added method, as they do in the original.
use Rattle.std.proofs.Common.{◌≡◌, ℕ, ◌<◌, true, List, [], ◌∷◌, length, map, Option, Some, None, refl, sym, ◌∙◌, ap, subst}
use Rattle.std.specs.Prelude.{Contains}
use Rattle.std.proofs.lemmas.Option.{same_Some}
use Rattle.jc_bytes.proofs.BooleanLaws.{none_in}
use Rattle.jc_methods.specs.EntryState.{entry_of}
use Rattle.jc_methods.specs.declared.body.Body.{Body}
use Rattle.jc_methods.specs.declared.body.Handler.{Handler}
use Rattle.jc_methods.specs.declared.kind.State.{State}
use Rattle.jc_methods.specs.declared.probe_members.Fetch.{Fetch}
use Rattle.jc_methods.specs.VerificationTypes.{Names, VerificationType, TypeState}
use Rattle.jc_methods.specs.VerificationTypes as verification
use Rattle.jc_methods.specs.WellMade.{IsWellMadeOfAnySize}
use Rattle.jc_kinds_after.specs.Shift.{renamed}
use Rattle.jc_kinds.specs.Answers.{AreStates}
use Rattle.jc_kinds.specs.Checked.{Guards, caught, at_handler, Checked}
use Rattle.jc_kinds.specs.Flows.{EachBy, ThereBy, FlowsBy}
use Rattle.jc_kinds.specs.States.{state_of, after_at}
use Rattle.jc_emit.specs.Added.{giver_of}
use Rattle.jc_emit.specs.Items.{image_of}
use Rattle.jc_emit.specs.Straddling.{NoneStraddles}
use Rattle.jc_emit.specs.Twin.{Twin}
use Rattle.jc_emit.proofs.TwinCheckedLaws.{flows_too, handler_state}
use Rattle.jc_emit.proofs.TwinPremisesLaws.{premises_by}
use Rattle.jc_refs_check.specs.RefsOk.{TakesCaught, HandlerSuits, BranchesSuit, HandlersSuit, EntrySuits}
use Rattle.jc_refs_check.specs.Suits.{SuitsAsReference, Passes}
use Rattle.jc_refs_laws.proofs.FlowLaws.{passes_flow}

-- ---- the part of the relation that is on references

each_suits : (x y : List VerificationType) → EachBy Passes x y → EachBy SuitsAsReference x y
each_suits [] [] f = tt
each_suits [] (k ∷ y) f = absurd f
each_suits (h ∷ x) [] f = absurd f
each_suits (h ∷ x) (k ∷ y) f = (f.0.suits, each_suits x y f.1)

there_suits : (s t : Option TypeState) → ThereBy Passes s t → ThereBy SuitsAsReference s t
there_suits (Some s) (Some t) f = record { locals = each_suits s.locals t.locals f.locals; stack = each_suits s.stack t.stack f.stack }
there_suits (Some s) None f = absurd f
there_suits None t f = absurd f

handler_suits : (b : Body) (h : Handler) (o u : Option TypeState) → ThereBy Passes (at_handler b h o) u
    → ((t : TypeState) → u ≡ Some t → TakesCaught (caught b h) t.stack) → HandlerSuits b h o u
handler_suits b h (Some s) (Some t) f takes = (each_suits s.locals t.locals f.locals, takes t refl)
handler_suits b h (Some s) None f takes = absurd f
handler_suits b h None u f takes = absurd f

pub entry_kept : (names : Names) (b : Body) (i : ℕ) → FlowsBy Passes names b → EntrySuits names b i
entry_kept names b i f e = there_suits (Some (entry_of b)) (state_of names b 0) f.entry

pub branches_kept : (names : Names) (b : Body) (i : ℕ) → FlowsBy Passes names b → BranchesSuit names b i
branches_kept names b i f j leads = there_suits (after_at names b i) (state_of names b j) (f.branches i j leads)

-- ---- what handlers take

takes_renamed : (image : ℕ → ℕ) (k : VerificationType) (stack : List VerificationType) → TakesCaught k stack → TakesCaught k (map (renamed image) stack)
takes_renamed image (verification.object name) (verification.object other ∷ []) g = g
takes_renamed image k stack g = absurd g

takes_old : (b : Body) (h : Handler) (o u : Option TypeState) (t : TypeState) → u ≡ Some t → HandlerSuits b h o u → TakesCaught (caught b h) t.stack
takes_old b h (Some s) (Some u) t e f = subst (λ (x : TypeState). TakesCaught (caught b h) x.stack) (same_Some u t e) f.1
takes_old b h (Some s) None t e f = absurd f
takes_old b h None u t e f = absurd f

-- ---- twins

module _ (names new_names : Names) (states : List State) (fetch : Fetch) (class : List ℕ) (bootstrap first : ℕ) (b b' : Body) (well : IsWellMadeOfAnySize b)
    (checked : Checked names b) (flows : FlowsBy Passes names b) (are : AreStates names b states) (free : NoneStraddles b)
    (t : Twin names new_names states fetch (giver_of fetch class bootstrap) first b b') where
  pub twin_flows : FlowsBy Passes new_names b'
  twin_flows = flows_too passes_flow names new_names states fetch class bootstrap first b b' well checked flows are free t

  pub handlers_kept : ((i : ℕ) → i < length b.code → HandlersSuit names b i) → (q : ℕ) → q < length b'.code → HandlersSuit new_names b' q
  handlers_kept suit q lt h guards =
      let s = handler_state names new_names states first t.form t.places b b'
      (premises_by passes_flow names new_names states fetch class bootstrap first b b' well checked flows are free t) h q guards lt in
      handler_suits b' h (state_of new_names b' q) (state_of new_names b' h.target) (twin_flows.handlers h q guards lt)
      (λ u e.
      subst (λ k. TakesCaught k u.stack) (sym s.caught_is)
      (subst (λ (x : TypeState). TakesCaught (caught b s.old) x.stack) (same_Some _ u (sym s.state_is ∙ e))
      (takes_renamed (image_of b first t.form) (caught b s.old) _
      (takes_old b s.old (state_of names b s.at) (state_of names b s.old.target) _ s.old_is (suit s.at s.within s.old s.guards)))))

-- ---- a body without exception rows

pub no_handlers : (names : Names) (b : Body) (q : ℕ) → b.handlers ≡ [] → HandlersSuit names b q
no_handlers names b q empty h guards = absurd (none_in h (subst (λ l. Contains l h) empty guards.row))
