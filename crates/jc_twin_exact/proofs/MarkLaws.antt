-- What hits of a twin have to do with edges that the original took: what one turn of a thread changes.
use Rattle.std.proofs.Common.{◌≡◌, ◌⊎◌, inl, inr, ⊎_elim, ℕ, zero, suc, List, [], ◌∷◌, ◌++◌, Option, Some, None, option_map, sym, ap, ◌∙◌, subst}
use Rattle.std.specs.Prelude.{slice_get, slice_set, Contains}
use Rattle.std.proofs.lemmas.List.Elements.{Contains-append_left, Contains-append_right, Contains-append_cases}
use Rattle.std.proofs.lemmas.Option.{none-some, same_Some}
use Rattle.jc_bytes.proofs.BooleanLaws.{first_in, none_in}
use Rattle.jc_bytes.proofs.FirstSeenLaws.{contains_one}
use Rattle.jc_programs.specs.declared.program.Program.{Program}
use Rattle.jc_programs.specs.declared.run_end.Entry.{Entry}
use Rattle.jc_plan.specs.ClassEdges.{ProgramEdge}
use Rattle.jc_machine_model.specs.World.{Thread, Hit, World}
use Rattle.jc_machine_model.specs.Step.{After, with_after}
use Rattle.jc_twin_simulation.specs.Sides.{Side}
use Rattle.jc_twin_simulation.specs.Probes.{hit_of, Passes, nothing, a_late_one, an_early_one, due_in, early_in}
use Rattle.jc_twin_simulation.proofs.RunLaws.{get_set}

-- ---- threads of which something is so

abbrev pub IsIn : (Thread → Option Hit) → List Thread → Hit → Type 0
IsIn of threads h = (t : ℕ) × (x : Thread) × (slice_get threads t ≡ Some x) × (of x ≡ Some h)

module _ (of : Thread → Option Hit) where
  -- one thread is another one now
  pub was_in : (threads : List Thread) (t : ℕ) (y : Thread) (h : Hit) → IsIn of (slice_set threads t y) h → (of y ≡ Some h) ⊎ IsIn of threads h
  was_in [] t y h (k, x, e, f) = inr (k, x, e, f)
  was_in (z ∷ threads) zero y h (zero, x, e, f) = inl (ap of (same_Some y x e) ∙ f)
  was_in (z ∷ threads) zero y h (suc k, x, e, f) = inr (suc k, x, e, f)
  was_in (z ∷ threads) (suc t) y h (zero, x, e, f) = inr (zero, x, e, f)
  was_in (z ∷ threads) (suc t) y h (suc k, x, e, f) =
      ⊎_elim (λ o. inl o) (λ i. inr (suc i.0, i.1, i.2, i.3)) (was_in threads t y h (k, x, e, f))

  pub stays_in : (threads : List Thread) (t : ℕ) (x y : Thread) (h : Hit) → slice_get threads t ≡ Some x → IsIn of threads h
      → (of x ≡ Some h) ⊎ IsIn of (slice_set threads t y) h
  stays_in [] t x y h s i = absurd (none-some x s)
  stays_in (z ∷ threads) zero x y h s (zero, u, e, f) = inl (ap of (same_Some x u (sym s ∙ e)) ∙ f)
  stays_in (z ∷ threads) zero x y h s (suc k, u, e, f) = inr (suc k, u, e, f)
  stays_in (z ∷ threads) (suc t) x y h s (zero, u, e, f) = inr (zero, u, e, f)
  stays_in (z ∷ threads) (suc t) x y h s (suc k, u, e, f) =
      ⊎_elim (λ o. inl o) (λ i. inr (suc i.0, i.1, i.2, i.3)) (stays_in threads t x y h s (k, u, e, f))

  pub now_in : (threads : List Thread) (t : ℕ) (x y : Thread) (h : Hit) → slice_get threads t ≡ Some x → of y ≡ Some h → IsIn of (slice_set threads t y) h
  now_in threads t x y h s e = (t, y, get_set threads t x y s, e)

module _ (p' : Program) (sides : Entry → Side) where
  -- the probe of an edge
  abbrev pub probe_in : ProgramEdge → Option Hit
  probe_in e = option_map (hit_of e.class) ((sides (record { class = e.class; method = e.body })).ids e.branch)

  -- an edge among these has the probe
  abbrev pub IsProbeOf : List ProgramEdge → Hit → Type 0
  IsProbeOf edges h = (e : ProgramEdge) × Contains edges e × (probe_in e ≡ Some h)

  -- Where the original took these edges, and threads of the twin's world owe some probes and hit others beforehand: each hit is
  -- a probe of a taken edge, or was hit beforehand; and the probe of each taken edge was hit, or is owed.
  pub record AreMarked (edges : List ProgramEdge) (w' : World) : Type 0 where
    pub hit : (h : Hit) → Contains w'.hits h → IsProbeOf edges h ⊎ IsIn (early_in p' sides) w'.threads h
    pub taken : (e : ProgramEdge) (h : Hit) → Contains edges e → probe_in e ≡ Some h → Contains w'.hits h ⊎ IsIn (due_in p' sides) w'.threads h
    pub due : (h : Hit) → IsIn (due_in p' sides) w'.threads h → IsProbeOf edges h
    pub early : (h : Hit) → IsIn (early_in p' sides) w'.threads h → Contains w'.hits h

  -- ---- one turn

  -- what a turn does that takes these edges and makes these hits, where the thread owed one probe and hit another one beforehand
  pub record Moves (due early : Option Hit) (hits : List Hit) (edges : List ProgramEdge) (due' early' : Option Hit) : Type 0 where
    pub hit : (h : Hit) → Contains hits h → (due ≡ Some h) ⊎ (early' ≡ Some h)
    pub early_was : (h : Hit) → early ≡ Some h → (early' ≡ Some h) ⊎ IsProbeOf edges h
    pub taken : (e : ProgramEdge) (h : Hit) → Contains edges e → probe_in e ≡ Some h → (due' ≡ Some h) ⊎ (early ≡ Some h)
    pub due_was : (h : Hit) → due ≡ Some h → (due' ≡ Some h) ⊎ Contains hits h
    pub due_is : (h : Hit) → due' ≡ Some h → (due ≡ Some h) ⊎ IsProbeOf edges h
    pub early_is : (h : Hit) → early' ≡ Some h → (early ≡ Some h) ⊎ Contains hits h

  -- a turn of the twin alone
  pub passes_move : (d e : Option Hit) (hs : List Hit) (d' e' : Option Hit) → Passes d e hs d' e' → Moves d e hs [] d' e'
  passes_move d e hs d' e' (nothing none due early) = record {
    hit = λ h c. absurd (none_in h (subst (λ l. Contains l h) none c));
    early_was = λ h k. inl (early ∙ k);
    taken = λ x h c k. absurd (none_in x c);
    due_was = λ h k. inl (due ∙ k);
    due_is = λ h k. inl (sym due ∙ k);
    early_is = λ h k. inl (sym early ∙ k);
  }
  passes_move d e hs d' e' (a_late_one x one was none early) = record {
    hit = λ h c. inl (was ∙ ap Some (contains_one x h (subst (λ l. Contains l h) one c)));
    early_was = λ h k. inl (early ∙ k);
    taken = λ y h c k. absurd (none_in y c);
    due_was = λ h k. inr (subst (λ l. Contains l h) (sym one) (subst (Contains (x ∷ [])) (same_Some x h (sym was ∙ k)) (first_in x [])));
    due_is = λ h k. absurd (none-some h (sym none ∙ k));
    early_is = λ h k. inl (sym early ∙ k);
  }
  passes_move d e hs d' e' (an_early_one x one due none now) = record {
    hit = λ h c. inr (now ∙ ap Some (contains_one x h (subst (λ l. Contains l h) one c)));
    early_was = λ h k. absurd (none-some h (sym none ∙ k));
    taken = λ y h c k. absurd (none_in y c);
    due_was = λ h k. inl (due ∙ k);
    due_is = λ h k. inl (sym due ∙ k);
    early_is = λ h k. inr (subst (λ l. Contains l h) (sym one) (subst (Contains (x ∷ [])) (same_Some x h (sym now ∙ k)) (first_in x [])));
  }

  -- an own turn, which hits nothing
  pub record Owes (early : Option Hit) (edges : List ProgramEdge) (due' early' : Option Hit) : Type 0 where
    pub taken : (e : ProgramEdge) → Contains edges e → (probe_in e ≡ due') ⊎ (probe_in e ≡ early)
    pub early_was : (h : Hit) → early ≡ Some h → (early' ≡ Some h) ⊎ IsProbeOf edges h
    pub due_is : (h : Hit) → due' ≡ Some h → IsProbeOf edges h
    pub early_is : (h : Hit) → early' ≡ Some h → early ≡ Some h

  pub owes_move : (d e : Option Hit) (hs : List Hit) (edges : List ProgramEdge) (d' e' : Option Hit) → d ≡ None → hs ≡ [] → Owes e edges d' e'
      → Moves d e hs edges d' e'
  owes_move d e hs edges d' e' none empty o = record {
    hit = λ h c. absurd (none_in h (subst (λ l. Contains l h) empty c));
    early_was = o.early_was;
    taken = λ x h c k. ⊎_elim (λ a. inl (sym a ∙ k)) (λ b. inr (sym b ∙ k)) (o.taken x c);
    due_was = λ h k. absurd (none-some h (sym none ∙ k));
    due_is = λ h k. inr (o.due_is h k);
    early_is = λ h k. inl (o.early_is h k);
  }

  -- ---- the world

  front : (xs ys : List ProgramEdge) (h : Hit) → IsProbeOf xs h → IsProbeOf (xs ++ ys) h
  front xs ys h b = (b.0, Contains-append_left xs ys b.0 b.1, b.2)

  back : (xs ys : List ProgramEdge) (h : Hit) → IsProbeOf ys h → IsProbeOf (xs ++ ys) h
  back xs ys h b = (b.0, Contains-append_right xs ys b.0 b.1, b.2)

  pub turn_marked : (edges more : List ProgramEdge) (w' : World) (t : ℕ) (x : Thread) (a : After) → slice_get w'.threads t ≡ Some x
      → Moves (due_in p' sides x) (early_in p' sides x) a.hits more (due_in p' sides a.thread) (early_in p' sides a.thread)
      → AreMarked edges w' → AreMarked (edges ++ more) (with_after t w' a)
  turn_marked edges more w' t x a at m k = record {
    hit = λ h c. ⊎_elim (λ new. new_hit h new) (λ old. old_hit h (k.hit h old)) (Contains-append_cases a.hits w'.hits h c);
    taken = λ e h c q. ⊎_elim (λ old. old_taken h (k.taken e h old q)) (λ new. new_taken h (m.taken e h new q)) (Contains-append_cases edges more e c);
    due = λ h i. ⊎_elim (λ own. due_now h (m.due_is h own)) (λ other. front edges more h (k.due h other)) (was_in (due_in p' sides) w'.threads t a.thread h i);
    early = λ h i. ⊎_elim
        (λ own. ⊎_elim (λ before. in_old h (k.early h (t, x, at, before))) (λ new. Contains-append_left a.hits w'.hits h new) (m.early_is h own))
        (λ other. in_old h (k.early h other))
        (was_in (early_in p' sides) w'.threads t a.thread h i);
  }
    where
      in_old : (h : Hit) → Contains w'.hits h → Contains (a.hits ++ w'.hits) h
      in_old h c = Contains-append_right a.hits w'.hits h c

      new_hit : (h : Hit) → Contains a.hits h → IsProbeOf (edges ++ more) h ⊎ IsIn (early_in p' sides) (slice_set w'.threads t a.thread) h
      new_hit h c =
          ⊎_elim (λ owed. inl (front edges more h (k.due h (t, x, at, owed))))
          (λ now. inr (now_in (early_in p' sides) w'.threads t x a.thread h at now)) (m.hit h c)

      old_hit : (h : Hit) → IsProbeOf edges h ⊎ IsIn (early_in p' sides) w'.threads h
          → IsProbeOf (edges ++ more) h ⊎ IsIn (early_in p' sides) (slice_set w'.threads t a.thread) h
      old_hit h (inl b) = inl (front edges more h b)
      old_hit h (inr i) =
          ⊎_elim
          (λ own. ⊎_elim (λ now. inr (now_in (early_in p' sides) w'.threads t x a.thread h at now)) (λ b. inl (back edges more h b)) (m.early_was h own))
          (λ other. inr other)
          (stays_in (early_in p' sides) w'.threads t x a.thread h at i)

      old_taken : (h : Hit) → Contains w'.hits h ⊎ IsIn (due_in p' sides) w'.threads h
          → Contains (a.hits ++ w'.hits) h ⊎ IsIn (due_in p' sides) (slice_set w'.threads t a.thread) h
      old_taken h (inl c) = inl (in_old h c)
      old_taken h (inr i) =
          ⊎_elim
          (λ own. ⊎_elim (λ now. inr (now_in (due_in p' sides) w'.threads t x a.thread h at now)) (λ new. inl (Contains-append_left a.hits w'.hits h new)) (m.due_was h own))
          (λ other. inr other)
          (stays_in (due_in p' sides) w'.threads t x a.thread h at i)

      new_taken : (h : Hit) → (due_in p' sides a.thread ≡ Some h) ⊎ (early_in p' sides x ≡ Some h)
          → Contains (a.hits ++ w'.hits) h ⊎ IsIn (due_in p' sides) (slice_set w'.threads t a.thread) h
      new_taken h (inl now) = inr (now_in (due_in p' sides) w'.threads t x a.thread h at now)
      new_taken h (inr before) = inl (in_old h (k.early h (t, x, at, before)))

      due_now : (h : Hit) → (due_in p' sides x ≡ Some h) ⊎ IsProbeOf more h → IsProbeOf (edges ++ more) h
      due_now h (inl before) = front edges more h (k.due h (t, x, at, before))
      due_now h (inr b) = back edges more h b
