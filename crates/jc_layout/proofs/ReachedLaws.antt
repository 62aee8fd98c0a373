-- What some rounds reached.
use Rattle.std.proofs.Common.{◌≡◌, ℕ, zero, suc, ◌+◌, Bool, true, false, ◌&&◌, ◌||◌, not, List, [], ◌∷◌, length, replicate, refl, sym, ap, ap₂, ◌∙◌, arith}
use Rattle.jc_methods.specs.Widened.{listed}
use Rattle.jc_methods.specs.declared.insn.Insn.{Insn}
use Rattle.jc_layout.specs.Layout.{IsChosen, chosen_list, chosen_starts, has_far, is_far_by, round, rounds, starts_of, with_far}
use Rattle.jc_layout.proofs.ChoiceLaws.{starts_count}
use Rattle.jc_layout.proofs.RoundsLaws.{chosen_is, one_chosen, rounds_length}

-- ---- one round

not_far : (w far some : Bool) → ((not w && far) || some) ≡ false → ((w || far) ≡ w) × (some ≡ false)
not_far true far some e = (refl, e)
not_far false true some e = absurd cc
not_far false false some e = (refl, e)

-- where no jump is left without room, a round changes nothing
none_far : (starts : List ℕ) (n : ℕ) (code : List Insn) (wide : List Bool) → length wide ≡ length code → has_far starts n code wide ≡ false
    → with_far starts n code wide ≡ wide
none_far starts n [] [] size e = refl
none_far starts n [] (w ∷ wide) size e = absurd (omega (arith, size))
none_far starts n (insn ∷ code) [] size e = refl
none_far starts n (insn ∷ code) (w ∷ wide) size e =
    let p = not_far w (is_far_by starts n insn) (has_far starts (suc n) code wide) e in
    ap₂ (λ (x : Bool) (xs : List Bool). x ∷ xs) p.0 (none_far starts (suc n) code wide (omega (arith, size)) p.1)

-- ---- some rounds

-- rounds lead to these wide jumps, and the instructions begin at these offsets then
pub record IsReached (code : List Insn) (wide : List Bool) (starts : List ℕ) : Type 0 where
  pub rounds_count : ℕ
  pub reached : wide ≡ rounds code rounds_count
  pub starts_are : starts ≡ starts_of (listed wide) code

pub reached_none : (code : List Insn) (wide : List Bool) (starts : List ℕ) → wide ≡ replicate (length code) false → starts ≡ starts_of (listed wide) code
    → IsReached code wide starts
reached_none code wide starts is are = record { rounds_count = zero; reached = is; starts_are = are }

module _ (code : List Insn) (wide : List Bool) (starts : List ℕ) (r : IsReached code wide starts) where
  pub wide_size : length wide ≡ length code
  wide_size = ap length r.reached ∙ rounds_length code r.rounds_count

  pub starts_size : length starts ≡ length code + 1
  starts_size = ap length r.starts_are ∙ starts_count (listed wide) code

  pub reached_next : (next : List Bool) (later : List ℕ) → next ≡ with_far starts 0 code wide → later ≡ starts_of (listed next) code
      → IsReached code next later
  reached_next next later is are = record {
    rounds_count = suc r.rounds_count;
    reached = is ∙ ap (λ (l : List ℕ). with_far l 0 code wide) r.starts_are ∙ ap (round code) r.reached;
    starts_are = are;
  }

  ended : has_far starts 0 code wide ≡ false → IsChosen code wide
  ended none = record {
    count = r.rounds_count;
    reached = r.reached;
    ended = ap (λ (l : List ℕ). with_far l 0 code wide) (sym r.starts_are) ∙ none_far starts 0 code wide wide_size none;
  }

  pub wide_chosen : has_far starts 0 code wide ≡ false → wide ≡ chosen_list code
  wide_chosen none = one_chosen code wide (chosen_list code) (ended none) (chosen_is code)

  pub starts_chosen : has_far starts 0 code wide ≡ false → starts ≡ chosen_starts code
  unfolding chosen_starts
  starts_chosen none = r.starts_are ∙ ap (λ (w : List Bool). starts_of (listed w) code) (wide_chosen none)
