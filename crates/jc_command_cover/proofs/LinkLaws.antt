-- How files that are read back as no program end the command.
use Rattle.std.proofs.Common.{◌≡◌, ◌<◌, ℕ, List, Option, None, Some, length, option_map, sym, ◌∙◌, ap, ap₂, subst, arith}
use Rattle.jc_link_programs.specs.declared.link_refusal.LinkRefusal.{LinkRefusal}
use Rattle.jc_link_programs.specs.declared.link_refusal.LinkRefusal.TheVariants as refusals
use Rattle.jc_command_run.specs.PairTexts.{same_name_text, same_id_text}
use Rattle.jc_command_run.specs.RunAnswers.{path_at, EndsAs}
use Rattle.jc_command_run.specs.Clash.{LinkStops}
use Rattle.jc_command_run.proofs.ClashLaws.{AreWithin, are_within}
use Rattle.jc_command_work.specs.declared.status.Fault.TheVariants as faults
use Rattle.jc_command_work.specs.Part.{End, refused}
use Rattle.jc_command_work.specs.Texts.{fault_text}
use Rattle.jc_headline.specs.CoverWork.{LookedFile, accepted, paths_in, places_from, place_of, path_of, EndsAmongAll, IsLinkEnd}
use Rattle.jc_command_cover.specs.Deciding.{StopsBy}
use Rattle.jc_command_cover.specs.Placed.{end_placed}
use Rattle.jc_command_cover.proofs.AcceptedLaws.{path_among}

module _ (looked : List LookedFile) (written : List (List ℕ)) (each : length written ≡ length (accepted looked)) where
  abbrev paths : List (List ℕ)
  paths = paths_in (accepted looked)

  abbrev places : List ℕ
  places = places_from 0 looked

  path : (index : ℕ) → index < length written → path_at paths index ≡ path_of looked index
  path index less = sym (path_among looked index (omega (arith, less, each)))

  named : (r : LinkRefusal) (end : End) → AreWithin written r → EndsAs paths written r end → EndsAmongAll looked written r (end_placed places end)
  named (refusals.Class index why) end less is =
      ap (end_placed places) is ∙ ap (λ (p : List ℕ). refused (faults.Class (place_of looked index) why) (fault_text p (faults.Class index why))) (path index less)
  named (refusals.SameName first second) end less (name, has, is) = (
    name,
    has,
    ap (end_placed places) is
        ∙ ap₂ (λ (p q : List ℕ). refused (faults.SameName (place_of looked first) (place_of looked second)) (same_name_text p q name)) (path first less.0) (path second less.1),
  )
  named (refusals.SameId first second) end less (id, has, is) = (
    id,
    has,
    ap (end_placed places) is
        ∙ ap₂ (λ (p q : List ℕ). refused (faults.SameId (place_of looked first) (place_of looked second)) (same_id_text p q id)) (path first less.0) (path second less.1),
  )

  -- the accepted files are named by their places among all
  pub stops_among_all : (o : Option End) → LinkStops paths written o → StopsBy (IsLinkEnd looked written) (option_map (end_placed places) o)
  stops_among_all None so = tt
  stops_among_all (Some end) (r, is, ends) = (r, is, named r end (are_within written r is) ends)

  pub placed_so : (paths' : List (List ℕ)) (places' : List ℕ) → paths' ≡ paths_in (accepted looked) → places' ≡ places_from 0 looked → (o o' : Option End) → LinkStops paths' written o
      → o' ≡ option_map (end_placed places') o → StopsBy (IsLinkEnd looked written) o'
  placed_so paths' places' same same' o o' so is =
      subst (StopsBy (IsLinkEnd looked written)) (sym (is ∙ ap (λ (ps : List ℕ). option_map (end_placed ps) o) same'))
      (stops_among_all o (subst (λ (ps : List (List ℕ)). LinkStops ps written o) same so))
