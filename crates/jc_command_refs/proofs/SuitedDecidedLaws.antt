-- Whether references suit at an instruction is decided.
use Rattle.std.proofs.Common.{◌≡◌, ◌⊎◌, inl, inr, ℕ, ◌≤◌, ◌<◌, nat_eq, Bool, true, List, [], ◌∷◌, Option, None, Some, Contains, refl, subst}
use Rattle.std.proofs.lemmas.Option.{none-some, same_Some}
use Rattle.jc_bytes.proofs.BooleanLaws.{equal_decided, first_in, later_in, which_in, none_in}
use Rattle.jc_body.proofs.DecidedLaws.{Decided, both_or_not, if_or_not, by_test, below_or_not, within_or_not}
use Rattle.jc_methods.specs.declared.body.Body.{Body}
use Rattle.jc_methods.specs.declared.body.Handler.{Handler}
use Rattle.jc_methods.specs.EntryState.{entry_of}
use Rattle.jc_methods.specs.VerificationTypes.{VerificationType, TypeState}
use Rattle.jc_methods.specs.VerificationTypes as verification
use Rattle.jc_programs.specs.declared.program.Program.{Program}
use Rattle.jc_programs.specs.declared.run_end.Entry.{Entry}
use Rattle.jc_kinds_after.specs.After.{insn_at}
use Rattle.jc_kinds_after.specs.Wants.{is_anything}
use Rattle.jc_kinds.specs.Flows.{EachBy, ThereBy}
use Rattle.jc_kinds.specs.States.{state_of, after_at}
use Rattle.jc_kinds.specs.Checked.{caught}
use Rattle.jc_kinds.specs.Checking.{branches}
use Rattle.jc_kinds.proofs.CheckLaws.{leads_decided}
use Rattle.jc_refs_check.specs.Suits.{class_suits, suits, SuitsAsReference}
use Rattle.jc_refs_check.specs.Needs.{Need, needs_of}
use Rattle.jc_refs_check.specs.RefsOk.{is_taken, operand, operation_of_place, OperandsSuit, BranchesSuit, TakesCaught, HandlerSuits, HandlersSuit, IsSuited}

-- ---- decisions

test_decided : (b : Bool) → Decided (b ≡ true)
test_decided b = by_test b (b ≡ true) (record { to = λ is. is; back = λ is. is })

turned_decided : {A B : Type 0} → Decided A → (A → B) → (B → A) → Decided B
turned_decided (inl a) to back = inl (to a)
turned_decided (inr fails) to back = inr (λ b. fails (back b))

all_decided : {X : Type 0} (Fact : X → Type 0) → ((x : X) → Decided (Fact x)) → (xs : List X) → Decided ((x : X) → Contains xs x → Fact x)
all_decided Fact d [] = inl (λ x c. absurd (none_in x c))
all_decided {X} Fact d (x ∷ xs) = turned_decided (both_or_not _ _ (d x) (all_decided Fact d xs)) to (λ f. (f x (first_in x xs), λ y c. f y (later_in x xs y c)))
  where
    to : Fact x × ((y : X) → Contains xs y → Fact y) → (y : X) → Contains (x ∷ xs) y → Fact y
    to h y c = by (which_in x xs y c)
      where
        by : (x ≡ y) ⊎ Contains xs y → Fact y
        by (inl e) = subst Fact e h.0
        by (inr later) = h.1 y later

some_decided : {X : Type 0} (o : Option X) (Fact : X → Type 0) → ((x : X) → Decided (Fact x)) → Decided ((x : X) → o ≡ Some x → Fact x)
some_decided None Fact d = inl (λ x e. absurd (none-some x e))
some_decided (Some x) Fact d = turned_decided (d x) (λ f y e. subst Fact (same_Some x y e) f) (λ f. f x refl)

-- ---- states

reference_decided : (a b : VerificationType) → Decided (SuitsAsReference a b)
reference_decided a b = if_or_not _ _ (test_decided (is_anything a)) (test_decided (suits a b))

each_decided : (a b : List VerificationType) → Decided (EachBy SuitsAsReference a b)
each_decided [] [] = inl tt
each_decided [] (y ∷ b) = inr (λ h. h)
each_decided (x ∷ a) [] = inr (λ h. h)
each_decided (x ∷ a) (y ∷ b) = both_or_not _ _ (reference_decided x y) (each_decided a b)

there_decided : (x y : Option TypeState) → Decided (ThereBy SuitsAsReference x y)
there_decided None y = inr (λ h. h)
there_decided (Some s) None = inr (λ h. h)
there_decided (Some s) (Some t) =
    turned_decided (both_or_not _ _ (each_decided s.locals t.locals) (each_decided s.stack t.stack)) (λ h. record { locals = h.0; stack = h.1 }) (λ h. (h.locals, h.stack))

caught_decided : (a : VerificationType) (stack : List VerificationType) → Decided (TakesCaught a stack)
caught_decided (verification.object name) (verification.object other ∷ []) = test_decided (class_suits name other)
caught_decided (verification.object name) [] = inr (λ h. h)
caught_decided (verification.object name) (verification.object other ∷ y ∷ more) = inr (λ h. h)
caught_decided (verification.object name) (verification.top ∷ more) = inr (λ h. h)
caught_decided (verification.object name) (verification.int ∷ more) = inr (λ h. h)
caught_decided (verification.object name) (verification.float ∷ more) = inr (λ h. h)
caught_decided (verification.object name) (verification.double ∷ more) = inr (λ h. h)
caught_decided (verification.object name) (verification.long ∷ more) = inr (λ h. h)
caught_decided (verification.object name) (verification.null ∷ more) = inr (λ h. h)
caught_decided (verification.object name) (verification.uninit_this ∷ more) = inr (λ h. h)
caught_decided (verification.object name) (verification.uninit at ∷ more) = inr (λ h. h)
caught_decided verification.top stack = inr (λ h. h)
caught_decided verification.int stack = inr (λ h. h)
caught_decided verification.float stack = inr (λ h. h)
caught_decided verification.double stack = inr (λ h. h)
caught_decided verification.long stack = inr (λ h. h)
caught_decided verification.null stack = inr (λ h. h)
caught_decided verification.uninit_this stack = inr (λ h. h)
caught_decided (verification.uninit at) stack = inr (λ h. h)

handler_decided : (b : Body) (h : Handler) (x y : Option TypeState) → Decided (HandlerSuits b h x y)
handler_decided b h None y = inr (λ s. s)
handler_decided b h (Some s) None = inr (λ s. s)
handler_decided b h (Some s) (Some t) = both_or_not _ _ (each_decided s.locals t.locals) (caught_decided (caught b h) t.stack)

-- ---- an instruction

module _ (p : Program) (method : Entry) (b : Body) (i : ℕ) where
  operands_decided : Decided ((s : TypeState) → state_of p.names b i ≡ Some s → OperandsSuit p method b i s)
  operands_decided = some_decided (state_of p.names b i) (OperandsSuit p method b i) (λ s. turned_decided
      (all_decided (λ (n : Need). is_taken b n (operand n.above s.stack) ≡ true) (λ n. test_decided (is_taken b n (operand n.above s.stack)))
      (needs_of (operation_of_place p method i)))
      (λ f. f) (λ f. f))

  branches_decided : Decided (BranchesSuit p.names b i)
  branches_decided = turned_decided
      (all_decided (λ (j : ℕ). ThereBy SuitsAsReference (after_at p.names b i) (state_of p.names b j)) (λ j. there_decided (after_at p.names b i) (state_of p.names b j))
      (branches (insn_at b i) i))
      (λ f j way. f j ((leads_decided b i j).1 way)) (λ f j c. f j ((leads_decided b i j).0 c))

  handlers_decided : Decided (HandlersSuit p.names b i)
  handlers_decided = turned_decided
      (all_decided (λ (h : Handler). (h.start ≤ i) × (i < h.end) → HandlerSuits b h (state_of p.names b i) (state_of p.names b h.target))
      (λ h. if_or_not _ _ (both_or_not _ _ (within_or_not h.start i) (below_or_not i h.end)) (handler_decided b h (state_of p.names b i) (state_of p.names b h.target)))
      b.handlers)
      (λ f h guard. f h guard.row (guard.start, guard.end)) (λ f h row within. f h (record { row = row; start = within.0; end = within.1 }))

  pub suited_decided : Decided (IsSuited p method b i)
  suited_decided = turned_decided
      (both_or_not _ _ operands_decided (both_or_not _ _ branches_decided (both_or_not _ _ handlers_decided
      (if_or_not _ _ (by_test (nat_eq i 0) (i ≡ 0) (equal_decided i 0)) (there_decided (Some (entry_of b)) (state_of p.names b 0))))))
      (λ h. record { operands = h.0; branches = h.1.0; handlers = h.1.1.0; entry = h.1.1.1 })
      (λ s. (s.operands, (s.branches, (s.handlers, s.entry))))
