-- Programs that are equal but for how frames number classes pass the reference check alike: it compares classes by their names.
use Rattle.std.proofs.Common.{◌≡◌, inl, inr, ℕ, zero, suc, ◌<◌, List, [], ◌∷◌, length, map, Option, None, Some, Contains, IsTrue, slice_get, refl, sym, ◌∙◌, ap, ap₂, subst, option_and_then}
use Rattle.jc_bytes.proofs.OptionLaws.{none_some, some_is}
use Rattle.jc_methods.specs.declared.body.Body.{Body}
use Rattle.jc_methods.specs.declared.body.FrameAt.{FrameAt}
use Rattle.jc_methods.specs.declared.body.Handler.{Handler}
use Rattle.jc_methods.specs.EntryState.{entry_of}
use Rattle.jc_methods.specs.VerificationTypes.{Names, TypeState, type_state_at}
use Rattle.jc_programs.specs.declared.program.Program.{Program}
use Rattle.jc_programs.specs.declared.program.Linked.{Linked}
use Rattle.jc_programs.specs.declared.run_end.Entry.{Entry}
use Rattle.jc_kinds_after.specs.After.{after_of}
use Rattle.jc_kinds.specs.Flows.{ThereBy}
use Rattle.jc_kinds.specs.States.{state_of, after_at}
use Rattle.jc_emit.specs.TwinBodies.{IsSameBody, AreSameBodies}
use Rattle.jc_instrument_reread.proofs.SameBodyLaws.{leads, guarded, same_state}
use Rattle.jc_machine_model.specs.Methods.{is_enterable}
use Rattle.jc_machine_model.specs.Operations.{Operation}
use Rattle.jc_machine_model.specs.Step.{located, operation_at}
use Rattle.jc_machine_laws.specs.Frameless.{frameless_body, frameless}
use Rattle.jc_machine_laws.proofs.FramelessLookupLaws.{same_enterable}
use Rattle.jc_machine_laws.proofs.FramelessStepLaws.{same_located, same_at}
use Rattle.jc_command_run.proofs.StoreLaws.{same_class, same_frameless}
use Rattle.jc_refs_check.specs.Suits.{SuitsAsReference}
use Rattle.jc_refs_check.specs.Needs.{needs_of}
use Rattle.jc_refs_check.specs.RefsOk.{operation_of_place, HandlerSuits, IsSuited, IsEntered, RefsOk}
use Rattle.jc_refs_check.specs.declared.ref_refusal.RefRefusal.{RefRefusal}
use Rattle.jc_refs_check.specs.Answers.{ref_refusal_of, IsRefRefusal}
use Rattle.jc_refs_check.proofs.RefusalLaws.{one_first}
use Rattle.jc_link_programs.proofs.OneRefusalLaws.{program_or_refusal, same_program}
use Rattle.jc_command_work.specs.Step.{Word}
use Rattle.jc_command_work.specs.Part.{End, stops}
use Rattle.jc_command_work.specs.Answered.{Answer}
use Rattle.jc_command_run.proofs.RunLaws.{one_link_choice}
use Rattle.jc_command_refs.specs.RefsAnswers.{refused_answer, RefsAnswer, RefsFiles}
use Rattle.jc_link_programs.specs.SameProgram.{IsSameLinked, AreSameClasses, IsSameProgram}

-- ---- operations

without_frames : (p : Program) (method : Entry) (i : ℕ) → operation_of_place (frameless p) method i ≡ operation_of_place p method i
without_frames p method i = ap (operation_at (frameless p)) (same_located p method i) ∙ same_at p (located p method i)

-- programs that are equal but for how frames number classes have the same operations
same_operations : (p q : Program) → IsSameProgram p q → (method : Entry) (i : ℕ) → operation_of_place p method i ≡ operation_of_place q method i
same_operations p q same method i =
    sym (without_frames p method i) ∙ ap (λ (r : Program). operation_of_place r method i) (same_frameless p q same) ∙ without_frames q method i

-- ---- one instruction

there_as : (x y s t : Option TypeState) → x ≡ s → y ≡ t → ThereBy SuitsAsReference x y → ThereBy SuitsAsReference s t
there_as x y s t xs yt is =
    subst (λ (o : Option TypeState). ThereBy SuitsAsReference s o) yt (subst (λ (o : Option TypeState). ThereBy SuitsAsReference o y) xs is)

module _ (p q : Program) (method : Entry) (operations : (i : ℕ) → operation_of_place p method i ≡ operation_of_place q method i)
    (b : Body) (fs gs : List FrameAt) (same : map (type_state_at p.names) fs ≡ map (type_state_at q.names) gs) where
  abbrev one : Body
  one = record b { frames = fs }

  abbrev other : Body
  other = record b { frames = gs }

  states : (i : ℕ) → state_of p.names one i ≡ state_of q.names other i
  states i = same_state p.names q.names one other (record { rest = refl; seen = same }) i

  afters : (i : ℕ) → after_at p.names one i ≡ after_at q.names other i
  unfolding after_of
  afters i = ap (λ (s : Option TypeState). option_and_then (after_of b i) s) (states i)

  handler_as : (h : Handler) (x y s t : Option TypeState) → x ≡ s → y ≡ t → HandlerSuits one h x y → HandlerSuits other h s t
  handler_as h x y s t xs yt is =
      subst (λ (o : Option TypeState). HandlerSuits other h s o) yt (subst (λ (o : Option TypeState). HandlerSuits other h o y) xs (turn x y is))
    where
      turn : (x y : Option TypeState) → HandlerSuits one h x y → HandlerSuits other h x y
      turn None y is = absurd is
      turn (Some s) None is = absurd is
      turn (Some s) (Some t) is = is

  suited : (i : ℕ) → IsSuited p method one i → IsSuited q method other i
  suited i s = record {
    operands = λ t is n needed. s.operands t (states i ∙ is) n (subst (λ (o : Operation). Contains (needs_of o) n) (sym (operations i)) needed);
    branches = λ j way. there_as _ _ _ _ (afters i) (states j) (s.branches j (leads b gs fs i j way));
    handlers = λ h guard. handler_as h _ _ _ _ (states i) (states h.target) (s.handlers h (guarded b gs fs h i guard));
    entry = λ first. subst (λ (o : Option TypeState). ThereBy SuitsAsReference (Some (entry_of b)) o) (states 0) (s.entry first);
  }

-- ---- classes and bodies in their places

bodies_at : (names others : Names) (xs ys : List Body) → AreSameBodies names others xs ys → (k : ℕ) (b : Body) → slice_get xs k ≡ Some b
    → (c : Body) × (slice_get ys k ≡ Some c) × IsSameBody names others b c
bodies_at names others [] [] same k b is = absurd (none_some is)
bodies_at names others [] (y ∷ ys) same k b is = absurd same
bodies_at names others (x ∷ xs) [] same k b is = absurd same
bodies_at names others (x ∷ xs) (y ∷ ys) same zero b is = (y, refl, subst (λ (z : Body). IsSameBody names others z y) (some_is is) same.0)
bodies_at names others (x ∷ xs) (y ∷ ys) same (suc k) b is = bodies_at names others xs ys same.1 k b is

classes_at : (names others : Names) (xs ys : List Linked) → AreSameClasses names others xs ys → (k : ℕ) (a : Linked) → slice_get xs k ≡ Some a
    → (c : Linked) × (slice_get ys k ≡ Some c) × IsSameLinked names others a c
classes_at names others [] [] same k a is = absurd (none_some is)
classes_at names others [] (y ∷ ys) same k a is = absurd same
classes_at names others (x ∷ xs) [] same k a is = absurd same
classes_at names others (x ∷ xs) (y ∷ ys) same zero a is = (y, refl, subst (λ (z : Linked). IsSameLinked names others z y) (some_is is) same.0)
classes_at names others (x ∷ xs) (y ∷ ys) same (suc k) a is = classes_at names others xs ys same.1 k a is

-- ---- programs

-- the instruction of the body in the other program
record IsThere (p q : Program) (method : Entry) (b : Body) (i : ℕ) : Type 0 where
  body : Body
  entered : IsEntered q method body i
  same : IsSameBody p.names q.names b body

module _ (p q : Program) (same : IsSameProgram p q) where
  there : (method : Entry) (b : Body) (i : ℕ) → IsEntered p method b i → IsThere p q method b i
  there method b i is =
      let class = classes_at p.names q.names p.classes q.classes same method.class is.linked is.class_is in
      let linked = class.0 in
      let body = bodies_at p.names q.names is.linked.bodies linked.bodies class.2.bodies method.method b is.body_is in
      record {
        body = body.0;
        entered = record {
          linked = linked;
          class_is = class.1;
          body_is = body.1;
          enterable = enters linked body.0 class.2 body.2 is.enterable;
          within = subst (λ (c : Body). i < length c.code) (sym body.2.others) is.within;
        };
        same = body.2;
      }
    where
      enters : (linked : Linked) (c : Body) → IsSameLinked p.names q.names is.linked linked → IsSameBody p.names q.names b c
          → IsTrue (is_enterable is.linked b) → IsTrue (is_enterable linked c)
      enters linked c same_linked same_body may =
          subst IsTrue
          (sym (same_enterable is.linked b)
          ∙ ap₂ is_enterable (same_class p.names q.names is.linked linked same_linked) (sym (ap frameless_body same_body.others))
          ∙ same_enterable linked c)
          may

  suited_too : (method : Entry) (b c : Body) (i : ℕ) → IsSameBody p.names q.names b c → IsSuited p method b i → IsSuited q method c i
  suited_too method b c i s is =
      subst (λ (x : Body). IsSuited q method x i) (sym s.others) (suited p q method (same_operations p q same method) b b.frames c.frames (sym s.frames) i is)

module _ (p q : Program) (same : IsSameProgram p q) (back : IsSameProgram q p) where
  -- what stands before an instruction in the one stands before it in the other
  suited_there : (method : Entry) (c : Body) (i : ℕ) → IsEntered q method c i → ((b : Body) → IsEntered p method b i → IsSuited p method b i) → IsSuited q method c i
  suited_there method c i is suits =
      let t = there q p back method c i is in
      let s = t.same in
      suited_too p q same method t.body c i
      (record { frames = sym s.frames; others = sym (ap (λ (x : Body). record x { frames = c.frames }) s.others) })
      (suits t.body t.entered)

  pub passes_too : RefsOk p → RefsOk q
  passes_too ok method c i is = suited_there method c i is (λ b entered. ok method b i entered)

  turned_body : (b c : Body) → IsSameBody p.names q.names b c → IsSameBody q.names p.names c b
  turned_body b c s = record { frames = sym s.frames; others = sym (ap (λ (x : Body). record x { frames = b.frames }) s.others) }

  -- the first fault of the one is the first of the other
  pub refusal_too : (refusal : RefRefusal) → IsRefRefusal p refusal → IsRefRefusal q refusal
  refusal_too refusal is =
      let f = is.first in
      let t = there p q same is.method is.body is.place f.entered in
      record {
        method = is.method;
        body = t.body;
        place = is.place;
        first = record {
          entered = t.entered;
          fails = λ s. f.fails
              (suited_too q p back is.method t.body is.body is.place (turned_body is.body t.body t.same) s);
          before = λ m c j entered before. suited_there m c j entered (λ b at. f.before m b j at before);
        };
        refusal_is = is.refusal_is ∙ sym (ap (λ (x : Body). ref_refusal_of is.method x is.place) t.same.others);
      }

  pub answer_too : (paths : List Word) (a : Answer) → RefsAnswer paths p a → RefsAnswer paths q a
  answer_too paths a (inl (ok, is)) = inl (passes_too ok, is)
  answer_too paths a (inr (refusal, first, is)) = inr (refusal, refusal_too refusal first, is)

-- ---- one answer

-- of a program there is one answer at most
one_of : (paths : List Word) (q : Program) (a b : Answer) → RefsAnswer paths q a → RefsAnswer paths q b → a ≡ b
one_of paths q a b (inl (ok, is)) (inl (ok', is')) = is ∙ sym is'
one_of paths q a b (inl (ok, is)) (inr (r, first, is')) = absurd (first.first.fails (ok first.method first.body first.place first.first.entered))
one_of paths q a b (inr (r, first, is)) (inl (ok, is')) = absurd (first.first.fails (ok first.method first.body first.place first.first.entered))
one_of paths q a b (inr (r, f, is)) (inr (s, g, is')) =
    is ∙ ap (refused_answer paths) (f.refusal_is ∙ one_first q f.method g.method f.body g.body f.place g.place f.first g.first ∙ sym g.refusal_is) ∙ sym is'

pub one_refs : (paths : List Word) (files : List (List ℕ)) (a b : Answer) → RefsFiles paths files a → RefsFiles paths files b → a ≡ b
one_refs paths files a b (inl (p, is, so)) (inl (q, is', so')) =
    let same = same_program files p q is is' in
    one_of paths q a b (answer_too p q same (same_program files q p is' is) paths a so) so'
one_refs paths files a b (inl (p, is, so)) (inr (e, ends, same)) = absurd (program_or_refusal files p ends.0 is ends.1)
one_refs paths files a b (inr (e, ends, same)) (inl (p, is, so)) = absurd (program_or_refusal files p ends.0 is ends.1)
one_refs paths files a b (inr (e, ends, same)) (inr (f, ends', same')) =
    same ∙ ap (λ (g : End). let x : Answer = stops g in x) ((one_link_choice paths files).one_end e f ends ends') ∙ sym same'
