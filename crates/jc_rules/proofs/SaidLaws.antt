-- Instructions added to their lines, one more at a time.
use Rattle.std.proofs.Common.{◌≡◌, ◌⊎◌, inl, inr, ⊎_elim, ℕ, ◌+◌, ◌-◌, ◌<◌, ◌≤◌, Bool, List, [], ◌∷◌, ◌++◌, length, get_or, set, take, map, Some, refl, sym, ◌∙◌, ap, subst, arith}
use Rattle.std.specs.Prelude.{slice_get}
use Rattle.std.proofs.lemmas.Bool.{cases_eq}
use Rattle.std.proofs.lemmas.List.{take_more, take_all, length-set, get_or-set_same, get_or-set_other, get_or_default}
use Rattle.std.proofs.lemmas.List.Elements.{Contains-append_left, Contains-push, Contains-push_cases}
use Rattle.std.proofs.lemmas.Option.{slice_get_within, get_or_from_slice_get, slice_get_read}
use Rattle.jc_bytes.specs.PlainLists.{numbers_from}
use Rattle.jc_bytes.proofs.BooleanLaws.{none_in}
use Rattle.jc_plan.proofs.PlacesLaws.{length_mapped, mapped_at}
use Rattle.jc_rules.specs.declared.status.LineState.{LineState}
use Rattle.jc_rules.specs.declared.status.LineState.TheVariants.{Empty}
use Rattle.jc_rules.specs.declared.status.LineStatus.{LineStatus}
use Rattle.jc_rules.specs.Placed.{both, Says}
use Rattle.jc_rules.specs.Spans.{IsSaid, AreSaid, blank}
use Rattle.jc_rules.specs.Status.{IsStatus}
use Rattle.jc_rules.proofs.StatusLaws.{status_told, has_said, said_of, both_cases, both_left, both_right}

-- ---- what is said of a line

module _ (front : List LineStatus) (p : LineStatus) (number : ℕ) where
  said_cases : (c : Bool) → IsSaid (front ++ p ∷ []) number c → IsSaid front number c ⊎ ((p.line ≡ number) × Says p.status c)
  said_cases c (q, there, at, says) =
      ⊎_elim (λ before. inl (q, before, at, says))
      (λ last. inr (ap (λ (r : LineStatus). r.line) last ∙ at, subst (λ (r : LineStatus). Says r.status c) (sym last) says)) (Contains-push_cases front p q there)

  said_before : (c : Bool) → IsSaid front number c → IsSaid (front ++ p ∷ []) number c
  said_before c (q, there, at, says) = (q, Contains-append_left front (p ∷ []) q there, at, says)

  said_last : (c : Bool) → p.line ≡ number → Says p.status c → IsSaid (front ++ p ∷ []) number c
  said_last c at says = (p, Contains-push front p, at, says)

  -- the line of the instruction has both statuses
  here_said : (s : LineState) → p.line ≡ number → IsStatus (IsSaid front number) s → IsStatus (IsSaid (front ++ p ∷ []) number) (both s p.status)
  here_said s at is =
      status_told (IsSaid (front ++ p ∷ []) number) (both s p.status)
      (λ c says. ⊎_elim (λ old. said_before c (has_said (IsSaid front number) s c is old)) (λ new. said_last c at new) (both_cases s p.status c says))
      (λ c h. ⊎_elim (λ old. both_left s p.status c (said_of (IsSaid front number) s c is old)) (λ new. both_right s p.status c new.1) (said_cases c h))

  -- each other line keeps its status
  there_said : (s : LineState) → (p.line ≡ number → ⊥) → IsStatus (IsSaid front number) s → IsStatus (IsSaid (front ++ p ∷ []) number) s
  there_said s apart is =
      status_told (IsSaid (front ++ p ∷ []) number) s (λ c says. said_before c (has_said (IsSaid front number) s c is says))
      (λ c h. ⊎_elim (λ old. said_of (IsSaid front number) s c is old) (λ new. absurd (apart new.0)) (said_cases c h))

-- ---- the lines of a list

module _ (least : ℕ) where
  -- before the first instruction
  pub said_none : (n : ℕ) (list : List LineStatus) → list ≡ map (blank least) (numbers_from 0 n) → AreSaid [] least list
  said_none n list e i s at =
      let lt : i < n = omega (arith, slice_get_within list i s at, ap length e, length_mapped (blank least) 0 n) in
      let is : blank least i ≡ s =
      sym (mapped_at (blank least) n i s lt) ∙ sym (ap (λ (l : List LineStatus). get_or l i s) e) ∙ get_or_from_slice_get list i s s at in
      let empty : IsStatus (IsSaid [] s.line) Empty = λ c h. none_in h.0 h.1 in
      (sym (ap (λ (r : LineStatus). r.line) is), subst (IsStatus (IsSaid [] s.line)) (ap (λ (r : LineStatus). r.status) is) empty)

  said_put : (front list new : List LineStatus) (p : LineStatus) → least ≤ p.line → p.line - least < length list
      → ((old : LineStatus) → slice_get list (p.line - least) ≡ Some old → new ≡ set list (p.line - least) (record old { status = both old.status p.status }))
      → AreSaid front least list → AreSaid (front ++ p ∷ []) least new
  said_put front list new p le lt put said i s at = ⊎_elim here other (cases_eq i j)
    where
      j : ℕ
      j = p.line - least

      old : LineStatus
      old = get_or list j p

      stands : slice_get list j ≡ Some old
      stands = slice_get_read list (length list) j old refl lt (get_or_default list j p old lt)

      changed : LineStatus
      changed = record old { status = both old.status p.status }

      is_set : new ≡ set list j changed
      is_set = put old stands

      read : get_or (set list j changed) i s ≡ s
      read = sym (ap (λ (l : List LineStatus). get_or l i s) is_set) ∙ get_or_from_slice_get new i s s at

      within : i < length list
      within = omega (arith, slice_get_within new i s at, ap length is_set, length-set list j changed)

      here : i ≡ j → (s.line ≡ least + i) × IsStatus (IsSaid (front ++ p ∷ []) s.line) s.status
      here same =
          let is : changed ≡ s = sym (get_or-set_same list j changed s lt) ∙ ap (λ k. get_or (set list j changed) k s) (sym same) ∙ read in
          let before = said j old stands in
          let line : old.line ≡ s.line = ap (λ (r : LineStatus). r.line) is in
          let first = before.0 in
          let at_p : p.line ≡ old.line = omega (arith, first, le) in (
            omega (arith, line, first, same),
            subst (λ (r : LineStatus). IsStatus (IsSaid (front ++ p ∷ []) r.line) r.status) is (here_said front p old.line old.status at_p before.1),
          )

      other : (i ≡ j → ⊥) → (s.line ≡ least + i) × IsStatus (IsSaid (front ++ p ∷ []) s.line) s.status
      other apart =
          let is : get_or list i s ≡ s = sym (get_or-set_other list j i changed s apart) ∙ read in
          let before = said i s (slice_get_read list (length list) i s refl within (sym is)) in
          let first = before.0 in
          (first, there_said front p s.line s.status (λ e. apart (omega (arith, e, first, le))) before.1)

  -- one more of so many
  pub said_more : (placed list new : List LineStatus) (k : ℕ) (d : LineStatus) → k < length placed → (let p = get_or placed k d in
      least ≤ p.line → p.line - least < length list
      → ((old : LineStatus) → slice_get list (p.line - least) ≡ Some old → new ≡ set list (p.line - least) (record old { status = both old.status p.status }))
      → AreSaid (take k placed) least list → AreSaid (take (k + 1) placed) least new)
  said_more placed list new k d lt le within put said =
      subst (λ (l : List LineStatus). AreSaid l least new) (sym (take_more placed k d lt))
      (said_put (take k placed) list new (get_or placed k d) le within put said)

  pub said_whole : (placed list : List LineStatus) (k : ℕ) → length placed ≤ k → AreSaid (take k placed) least list → AreSaid placed least list
  said_whole placed list k le said = subst (λ (l : List LineStatus). AreSaid l least list) (take_all k placed le) said
