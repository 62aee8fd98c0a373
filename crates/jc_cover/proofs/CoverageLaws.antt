-- The coverage of a class.
use Rattle.std.proofs.Common.{◌≡◌, ℕ, ◌+◌, Bool, List, [], ◌∷◌, map, length, Some, refl, sym, ap, ap₂, ◌∙◌, subst, zero-add}
use Rattle.std.specs.Prelude.{slice_get, option_map, option_and_then, Contains}
use Rattle.std.proofs.lemmas.List.{length-map}
use Rattle.std.proofs.lemmas.Option.{slice_get-map}
use Rattle.jc_bytes.specs.PlainLists.{map_from}
use Rattle.jc_methods.specs.declared.insn.Insn.{Insn}
use Rattle.jc_methods.specs.declared.body.Body.{Body}
use Rattle.jc_bytes.proofs.BooleanLaws.{stands_in}
use Rattle.jc_plan.specs.declared.branch.Branch.{Branch}
use Rattle.jc_plan.specs.Edges.{branches_of, branches}
use Rattle.jc_plan.specs.Probed.{first_id}
use Rattle.jc_plan.proofs.ListedLaws.{lists_from}
use Rattle.jc_plan.proofs.MappedLaws.{made_of}
use Rattle.jc_cover.specs.Covered.{branch_count, body_shape, TellsBranch, TellsCovered}
use Rattle.jc_cover.specs.Marking.{marks_of, covers, insn_values, values_by, class_values, coverage_of}
use Rattle.jc_cover.proofs.MarkLaws.{marked_edge}

pub insns_shaped : (b : Body) (first : ℕ) (hits marks : List Bool) (i : ℕ) (code : List Insn) → map length (map_from (insn_values b first hits marks) i code) ≡ map_from branch_count i code
insns_shaped b first hits marks i [] = refl
insns_shaped b first hits marks i (insn ∷ code) = ap₂ (λ n ns. n ∷ ns) (length-map (branches_of i insn) (covers b first hits marks)) (insns_shaped b first hits marks (i + 1) code)

shaped : (bodies : List Body) (hits : List Bool) (n : ℕ) (rest : List Body) → map (map length) (map_from (class_values bodies hits) n rest) ≡ map body_shape rest
shaped bodies hits n [] = refl
shaped bodies hits n (b ∷ rest) = ap₂ (λ s ss. s ∷ ss) (insns_shaped b (first_id bodies n) hits (marks_of b (first_id bodies n) hits) 0 b.code) (shaped bodies hits (n + 1) rest)

pub tells : (bodies : List Body) (hits : List Bool) → TellsCovered bodies hits (coverage_of bodies hits)
tells bodies hits = record { shape = shaped bodies hits 0 bodies; values = value }
  where
    value : (n i k : ℕ) (b : Body) (insn : Insn) (x : Branch) → slice_get bodies n ≡ Some b → slice_get b.code i ≡ Some insn → slice_get (branches_of i insn) k ≡ Some x
        → TellsBranch (coverage_of bodies hits) n i k b (first_id bodies n) hits x
    value n i k b insn x h g l =
        let first = first_id bodies n in
        let marks = marks_of b first hits in
        let body_is : slice_get (map_from (class_values bodies hits) 0 bodies) n ≡ Some (class_values bodies hits n b) = made_of (class_values bodies hits) bodies n b h in
        let insn_is : slice_get (values_by b first hits marks) i ≡ Some (insn_values b first hits marks i insn) = made_of (insn_values b first hits marks) b.code i insn g in
        let value_is : slice_get (map (covers b first hits marks) (branches_of i insn)) k ≡ Some (covers b first hits marks x) =
        slice_get-map (covers b first hits marks) (branches_of i insn) k ∙ ap (option_map (covers b first hits marks)) l in
        let z : i ≡ 0 + i = sym (zero-add i) in
        let listed : Contains (branches b.code) x =
        lists_from branches_of 0 b.code x
        (record { place = i; item = insn; stands = g; listed = subst (λ j. Contains (branches_of j insn) x) z (stands_in (branches_of i insn) k x l) }) in (
          covers b first hits marks x,
          ap (option_and_then (λ values. slice_get values k)) (ap (option_and_then (λ insns. slice_get insns i)) body_is ∙ insn_is)
              ∙ value_is,
          marked_edge b first hits x listed,
        )
