-- Each body of the twin of a program passes the kind check.
use Rattle.std.proofs.Common.{◌≡◌, inl, inr, ⊎_elim, ℕ, zero, suc, ◌+◌, List, [], ◌∷◌, map, Some, None, is_some, option_and_then, sym, ap, ◌∙◌, subst, if◌then◌else◌}
use Rattle.std.specs.Prelude.{Contains}
use Rattle.std.specs.Int.{w64, cast_signed}
use Rattle.std.specs.List.{sum_by}
use Rattle.jc_methods.specs.declared.body.Body.{Body}
use Rattle.jc_methods.specs.declared.body.FrameAt.{FrameAt}
use Rattle.jc_programs.specs.declared.program.Linked.{Linked}
use Rattle.jc_programs.specs.declared.program.Program.{Program}
use Rattle.jc_methods.specs.VerificationTypes.{Names, TypeStateAt, type_state_at}
use Rattle.jc_methods.specs.EntryState.{entry_of}
use Rattle.jc_methods.specs.WellMade.{IsWellMade}
use Rattle.jc_methods.specs.Flow.{falls_at, GoesOnFrom}
use Rattle.jc_kinds_after.specs.After.{insn_at, after_of}
use Rattle.jc_kinds.specs.States.{frame_at, or_else, state_of, after_at}
use Rattle.jc_kinds.specs.Fits.{FitsThere}
use Rattle.jc_kinds.specs.Checked.{JumpsTo, LeadsTo, NeedsFrame, at_handler, Checked}
use Rattle.jc_bytes.proofs.BooleanLaws.{which_in, none_in, first_in, later_in, in_map, of_map}
use Rattle.jc_plan.specs.Probed.{probe_count}
use Rattle.jc_methods.specs.declared.probe_members.Fetch.{Fetch}
use Rattle.jc_methods.specs.ProbeMembers.{fetch_of}
use Rattle.jc_emit.specs.Added.{giver_of}
use Rattle.jc_emit.specs.Straddling.{NoneStraddles}
use Rattle.jc_emit.specs.TwinBodies.{AreSameBodies, AreTwinBodies}
use Rattle.jc_twin_programs.specs.TwinProgram.{IsPair, ArePairs, TwinProgram}
use Rattle.jc_emit.proofs.InitLaws.{verified as init_verified}
use Rattle.jc_emit.proofs.TwinCheckedLaws.{verified}

-- ---- a body with the same frames under other names

module _ (names new_names : Names) (b : Body) (frames : List FrameAt) (same : map (type_state_at new_names) frames ≡ map (type_state_at names) b.frames) where
  abbrev new : Body
  new = record b { frames = frames }

  moved_frame : (old_names other_names : Names) (olds others : List FrameAt)
      → map (type_state_at other_names) others ≡ map (type_state_at old_names) olds → (i : ℕ) → ((f : FrameAt) × Contains olds f × (f.at ≡ i))
      → (f : FrameAt) × Contains others f × (f.at ≡ i)
  moved_frame old_names other_names olds others e i h =
      let m = of_map (type_state_at other_names) others (type_state_at old_names h.0) (subst (λ l. Contains l (type_state_at old_names h.0)) (sym e) (in_map (type_state_at old_names) olds h.0 h.1)) in
      (m.0, m.1, sym (ap (λ (f : TypeStateAt). f.at) m.2) ∙ h.2)

  pub state_same : (i : ℕ) → state_of new_names new i ≡ state_of names b i
  unfolding state_of after_of
  state_same zero = ap (λ l. or_else (frame_at l 0) (Some (entry_of b))) same
  state_same (suc i) =
      ap (λ l. or_else (frame_at l (suc i)) (if falls_at (insn_at b i) then option_and_then (after_of b i) (state_of new_names new i) else None)) same
      ∙ ap (λ s. or_else (frame_at (map (type_state_at names) b.frames) (suc i)) (if falls_at (insn_at b i) then option_and_then (after_of b i) s else None)) (state_same i)

  pub after_same : (i : ℕ) → after_at new_names new i ≡ after_at names b i
  unfolding after_of
  after_same i = ap (option_and_then (after_of b i)) (state_same i)

  goes_back : (i : ℕ) → GoesOnFrom new i → GoesOnFrom b i
  goes_back i g = record { insn = g.insn; stands = g.stands; falls = g.falls }

  goes_on : (i : ℕ) → GoesOnFrom b i → GoesOnFrom new i
  goes_on i g = record { insn = g.insn; stands = g.stands; falls = g.falls }

  jumps_back : (i j : ℕ) → JumpsTo new i j → JumpsTo b i j
  jumps_back i j t = record { insn = t.insn; stands = t.stands; target = t.target }

  needs_back : (i : ℕ) → NeedsFrame new i → NeedsFrame b i
  needs_back i (inl t) = inl (t.0, jumps_back t.0 i t.1)
  needs_back i (inr (inl t)) = inr (inl t)
  needs_back i (inr (inr t)) = inr (inr (t.0, λ f. t.1 (f.0, f.1, goes_on f.0 f.2)))

  leads_back : (i j : ℕ) → LeadsTo new i j → LeadsTo b i j
  leads_back i j (inl g) = inl (goes_back i g.0, g.1)
  leads_back i j (inr t) = inr (jumps_back i j t)

  pub same_checked : Checked names b → Checked new_names new
  same_checked c = record {
    none_missing = λ i m. c.none_missing i (record { within = m.within; needs = needs_back i m.needs; none = λ h. m.none (moved_frame names new_names b.frames frames same i h) });
    entry = subst (FitsThere (Some (entry_of b))) (sym (state_same 0)) c.entry;
    after = λ i lt. ap is_some (after_same i) ∙ c.after i lt;
    branches = λ i j leads. subst (λ o. FitsThere o (state_of new_names new j)) (sym (after_same i))
        (subst (FitsThere (after_at names b i)) (sym (state_same j)) (c.branches i j (leads_back i j leads)));
    handlers = λ h i guards lt.
        subst (λ o. FitsThere (at_handler b h o) (state_of new_names new h.target)) (sym (state_same i))
        (subst (FitsThere (at_handler b h (state_of names b i))) (sym (state_same h.target)) (c.handlers h i (record { row = guards.row; start = guards.start; end = guards.end }) lt));
  }

-- ---- pairs of classes

abbrev IsGood : Names → Body → Type 0
IsGood names b = IsWellMade b × Checked names b

module _ (names new_names : Names) where
  same_bodies : (bodies others : List Body) → AreSameBodies names new_names bodies others
      → ((b : Body) → Contains bodies b → IsGood names b) → (b : Body) → Contains others b → Checked new_names b
  same_bodies [] [] are good b c = absurd (none_in b c)
  same_bodies [] (o ∷ others) are good b c = absurd are
  same_bodies (x ∷ bodies) [] are good b c = absurd are
  same_bodies (x ∷ bodies) (o ∷ others) are good b c =
      ⊎_elim
      (λ here. subst (Checked new_names) (sym are.0.others ∙ here) (same_checked names new_names x o.frames are.0.frames (good x (first_in x bodies)).1))
      (λ later. same_bodies bodies others are.1 (λ y d. good y (later_in x bodies y d)) b later)
      (which_in o others b c)

  twin_bodies : (fetch : Fetch) (class : List ℕ) (bootstrap first : ℕ) (bodies others : List Body) (added : Body)
      → AreTwinBodies names new_names fetch (giver_of fetch class bootstrap) first bodies others added
      → ((b : Body) → Contains bodies b → IsGood names b) → ((b : Body) → Contains bodies b → NoneStraddles b)
      → Checked new_names added → (b : Body) → Contains others b → Checked new_names b
  twin_bodies fetch class bootstrap first [] others added are good free last b c =
      ⊎_elim (λ here. subst (Checked new_names) here last) (λ later. absurd (none_in b later)) (which_in added ([]) b (subst (λ l. Contains l b) are c))
  twin_bodies fetch class bootstrap first (x ∷ bodies) [] added are good free last b c = absurd are
  twin_bodies fetch class bootstrap first (x ∷ bodies) (o ∷ others) added are good free last b c =
      ⊎_elim
      (λ here.
      let g = good x (first_in x bodies) in
      subst (Checked new_names) here (verified names new_names are.0.states fetch class bootstrap first x o g.0.of_any_size g.1 are.0.are (free x (first_in x bodies)) are.0.twin))
      (λ later.
      twin_bodies fetch class bootstrap (first + probe_count x) bodies others added are.1 (λ y d. good y (later_in x bodies y d)) (λ y d. free y (later_in x bodies y d)) last b later)
      (which_in o others b c)

  pair_checked : (class new : Linked) → IsPair names new_names class new → ((b : Body) → Contains class.bodies b → IsGood names b)
      → (b : Body) → Contains new.bodies b → Checked new_names b
  pair_checked class new (inl same) good b c = same_bodies class.bodies new.bodies same.bodies good b c
  pair_checked class new (inr changed) good b c =
      twin_bodies (fetch_of class.version) class.name changed.bootstrap 0 class.bodies new.bodies changed.added changed.bodies good changed.none_straddles
      (init_verified (fetch_of class.version) new_names class.name (cast_signed w64 changed.id) (sum_by probe_count class.bodies) changed.added changed.added_is) b c

  pairs_checked : (classes others : List Linked) → ArePairs names new_names classes others
      → ((c : Linked) → Contains classes c → (b : Body) → Contains c.bodies b → IsGood names b)
      → (c : Linked) → Contains others c → (b : Body) → Contains c.bodies b → Checked new_names b
  pairs_checked [] [] are good c d b e = absurd (none_in c d)
  pairs_checked [] (o ∷ others) are good c d b e = absurd are
  pairs_checked (x ∷ classes) [] are good c d b e = absurd are
  pairs_checked (x ∷ classes) (o ∷ others) are good c d b e =
      ⊎_elim (λ here. pair_checked x o are.0 (good x (first_in x classes)) b (subst (λ (k : Linked). Contains k.bodies b) (sym here) e))
      (λ later. pairs_checked classes others are.1 (λ y f. good y (later_in x classes y f)) c later b e)
      (which_in o others c d)

pub program_verified : (p p' : Program) → TwinProgram p p' → (c : Linked) → Contains p'.classes c → (b : Body) → Contains c.bodies b
    → Checked p'.names b
program_verified p p' t c d b e = pairs_checked p.names p'.names p.classes p'.classes t.pairs t.checked c d b e
