-- References suit in a body that is the same but for how its frames number classes, where they do in the original.
use Rattle.std.proofs.Common.{◌≡◌, inl, inr, ℕ, zero, suc, ◌+◌, ◌<◌, Bool, true, List, [], ◌∷◌, length, map, Option, Some, None, refl, sym, ◌∙◌, ap, subst, arith}
use Rattle.std.specs.Prelude.{Contains, slice_get, option_map}
use Rattle.std.proofs.lemmas.Bool.{false≢true}
use Rattle.std.proofs.lemmas.Option.{same_Some, slice_get-map}
use Rattle.jc_bytes.specs.PlainLists.{map_from}
use Rattle.jc_bytes.proofs.ListLaws.{mapped_at}
use Rattle.jc_methods.specs.declared.body.Body.{Body}
use Rattle.jc_methods.specs.declared.body.FrameAt.{FrameAt}
use Rattle.jc_methods.specs.declared.body.Handler.{Handler}
use Rattle.jc_methods.specs.declared.insn.Insn.{Insn}
use Rattle.jc_methods.specs.EntryState.{entry_of}
use Rattle.jc_methods.specs.VerificationTypes.{TypeState, type_state_at}
use Rattle.jc_programs.specs.declared.program.Program.{Program}
use Rattle.jc_programs.specs.declared.program.Linked.{Linked}
use Rattle.jc_programs.specs.declared.run_end.Entry.{Entry}
use Rattle.jc_kinds.specs.Checked.{LeadsTo, Guards}
use Rattle.jc_kinds.specs.Flows.{ThereBy}
use Rattle.jc_kinds.specs.States.{state_of, after_at}
use Rattle.jc_emit.specs.Items.{Item, image, at_of, own_of}
use Rattle.jc_emit.specs.Marks.{Marks}
use Rattle.jc_twin_programs.specs.SeenProgram.{IsSeenSame, IsSeenAt}
use Rattle.jc_twin_programs.proofs.ProgramLaws.{state_same, after_same}
use Rattle.jc_twin_simulation.specs.Sides.{Side, IsSide, AreSides, AreTold, AreMarksOf}
use Rattle.jc_refs_check.specs.Needs.{Need, needs_of}
use Rattle.jc_refs_check.specs.RefsOk.{operation_of_place, HandlerSuits, IsSuited}
use Rattle.jc_refs_check.specs.Suits.{SuitsAsReference}
use Rattle.jc_refs_laws.proofs.ImageNeedsLaws.{image_needs}

-- ---- a body with the same frames under other numbers

module _ (p p' : Program) (method : Entry) (b : Body) (frames : List FrameAt)
    (same : map (type_state_at p'.names) frames ≡ map (type_state_at p.names) b.frames) where
  abbrev numbered : Body
  numbered = record b { frames = frames }

  states : (i : ℕ) → state_of p'.names numbered i ≡ state_of p.names b i
  states = state_same p.names p'.names b frames same

  afters : (i : ℕ) → after_at p'.names numbered i ≡ after_at p.names b i
  afters = after_same p.names p'.names b frames same

  there_as : (x y s t : Option TypeState) → s ≡ x → t ≡ y → ThereBy SuitsAsReference x y → ThereBy SuitsAsReference s t
  there_as x y s t xs yt is =
      subst (λ (o : Option TypeState). ThereBy SuitsAsReference s o) (sym yt) (subst (λ (o : Option TypeState). ThereBy SuitsAsReference o y) (sym xs) is)

  handler_as : (h : Handler) (x y s t : Option TypeState) → s ≡ x → t ≡ y → HandlerSuits b h x y → HandlerSuits numbered h s t
  handler_as h x y s t xs yt is =
      subst (λ (o : Option TypeState). HandlerSuits numbered h s o) (sym yt)
      (subst (λ (o : Option TypeState). HandlerSuits numbered h o y) (sym xs) (turn x y is))
    where
      turn : (x y : Option TypeState) → HandlerSuits b h x y → HandlerSuits numbered h x y
      turn None y is = absurd is
      turn (Some s) None is = absurd is
      turn (Some s) (Some t) is = is

  leads : (i j : ℕ) → LeadsTo numbered i j → LeadsTo b i j
  leads i j (inl next) = inl (record { insn = next.0.insn; stands = next.0.stands; falls = next.0.falls }, next.1)
  leads i j (inr jump) = inr (record { insn = jump.insn; stands = jump.stands; target = jump.target })

  guarded : (h : Handler) (i : ℕ) → Guards numbered h i → Guards b h i
  guarded h i guard = record { row = guard.row; start = guard.start; end = guard.end }

  -- an instruction with the same needs
  pub suited : (i : ℕ) → needs_of (operation_of_place p' method i) ≡ needs_of (operation_of_place p method i) → IsSuited p method b i
      → IsSuited p' method numbered i
  suited i needs s = record {
    operands = λ t is n needed. s.operands t (sym (states i) ∙ is) n (subst (λ (l : List Need). Contains l n) needs needed);
    branches = λ j way. there_as _ _ _ _ (afters i) (states j) (s.branches j (leads i j way));
    handlers = λ h guard. handler_as h _ _ _ _ (states i) (states h.target) (s.handlers h (guarded h i guard));
    entry = λ first. subst (λ (o : Option TypeState). ThereBy SuitsAsReference (Some (entry_of b)) o) (sym (states 0)) (s.entry first);
  }

-- ---- each instruction is its own image

abbrev item : ℕ → Insn → Item
item i insn = image insn i None

image_at : (i k : ℕ) (code : List Insn) → k < length code
    → (slice_get (map at_of (map_from item i code)) k ≡ Some (i + k)) × (slice_get (map own_of (map_from item i code)) k ≡ Some true)
image_at i k [] lt = absurd (omega arith)
image_at i zero (x ∷ code) lt = (ap Some (let none : i ≡ i + 0 = omega arith in none), refl)
image_at i (suc k) (x ∷ code) lt =
    let more = image_at (i + 1) k code (omega (arith, lt)) in
    (more.0 ∙ ap Some (let next : i + 1 + k ≡ i + suc k = omega arith in next), more.1)

module _ (p p' : Program) (marks : Entry → Marks) (sides : Entry → Side) (are : AreSides p p' sides) (told : AreMarksOf p p' marks sides)
    (m : Entry) (class new : Linked) (b b' : Body) (at : IsSeenAt p p' m.class m.method class new b b' (marks m))
    (same : IsSeenSame p.names p'.names class new b b' (marks m)) where
  side : IsSide p p' m (sides m)
  side = are.side m class b at.class_at at.body_at

  marked : AreTold (marks m) (sides m)
  marked = told m side

  -- the item is an image, of the instruction in its place
  image_needs_same : (q : ℕ) (x : Item) → slice_get (sides m).items q ≡ Some x → at_of x ≡ q → own_of x ≡ true
      → needs_of (operation_of_place p' m q) ≡ needs_of (operation_of_place p m q)
  image_needs_same q (image insn i early) here place own =
      image_needs p p' sides are m side q i insn early here ∙ ap (λ k. needs_of (operation_of_place p m k)) place
  image_needs_same q x here place own = absurd (false≢true own)

  pub needs_same : (q : ℕ) → q < length b.code → needs_of (operation_of_place p' m q) ≡ needs_of (operation_of_place p m q)
  needs_same q lt =
      let is = image_at 0 q b.code lt in
      let here = mapped_at at_of (sides m).items q (0 + q) (ap (λ (l : List ℕ). slice_get l q) (sym marked.at ∙ ap (λ (n : Marks). n.at) same.marks) ∙ is.0) in
      let none : 0 + q ≡ q = omega arith in
      image_needs_same q here.0 here.1 (here.2 ∙ none)
      (same_Some (own_of here.0) true
      (sym (slice_get-map own_of (sides m).items q ∙ ap (option_map own_of) here.1)
      ∙ ap (λ (l : List Bool). slice_get l q) (sym marked.own ∙ ap (λ (n : Marks). n.own) same.marks) ∙ is.1))

  pub unchanged_suited : (q : ℕ) → q < length b'.code → ((i : ℕ) → i < length b.code → IsSuited p m b i) → IsSuited p' m b' q
  unchanged_suited q lt each =
      let within = subst (λ (x : Body). q < length x.code) same.same.others lt in
      subst (λ (x : Body). IsSuited p' m x q) (sym same.same.others)
      (suited p p' m b b'.frames same.same.frames q (needs_same q within) (each q within))
