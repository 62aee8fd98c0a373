-- The instructions that have a line, in the list of lines of instructions.
use Rattle.std.proofs.Common.{◌≡◌, ℕ, ◌+◌, Bool, List, [], Option, Some, None, refl, sym, ◌∙◌, ap, subst, zero-add}
use Rattle.std.specs.Prelude.{Contains, option_map, option_to_list}
use Rattle.jc_bytes.proofs.BooleanLaws.{first_in, none_in}
use Rattle.jc_bytes.proofs.FirstSeenLaws.{contains_one}
use Rattle.jc_bytes.proofs.ListLaws.{flat_cases, flat_in}
use Rattle.jc_plan.proofs.ListedLaws.{IsListed, listed_from, lists_from}
use Rattle.jc_cover.specs.Counters.{Method, line_of, IsLineOf}
use Rattle.jc_cover.proofs.LineLaws.{line_found, one_line}
use Rattle.jc_rules.specs.declared.status.LineStatus.{LineStatus}
use Rattle.jc_rules.specs.LineList.{IsUsed}
use Rattle.jc_rules.specs.Placed.{placed_at, state_of, insn_placed, method_placed, methods_placed, Says}
use Rattle.jc_rules.specs.Spans.{Has, IsSaid}
use Rattle.jc_rules.specs.Status.{HasInsn, HasItem}
use Rattle.jc_rules.proofs.StateLaws.{item_said, said_item}

-- ---- one instruction

record Placed (values : List Bool) (line : Option ℕ) (p : LineStatus) : Type 0 where
  number : ℕ
  is : line ≡ Some number
  here : placed_at values number ≡ p

listed_at : (values : List Bool) (line : Option ℕ) (p : LineStatus) → Contains (option_to_list (option_map (placed_at values) line)) p → Placed values line p
listed_at values None p there = absurd (none_in p there)
listed_at values (Some number) p there = record { number = number; is = refl; here = contains_one (placed_at values number) p there }

-- ---- methods

module _ (methods : List Method) where
  record PlacedBy (p : LineStatus) : Type 0 where
    values : List Bool
    insn : HasInsn methods p.line values
    status : p.status ≡ state_of values

  by_insn : (p : LineStatus) → Contains (methods_placed methods) p → PlacedBy p
  by_insn p there = by (flat_cases method_placed methods p there)
    where
      found : (m : Method) → Contains methods m → (l : IsListed (insn_placed m.body.lines) 0 m.insns p) → Placed l.item (line_of m.body.lines (0 + l.place)) p → PlacedBy p
      found m among l at =
          let same : line_of m.body.lines l.place ≡ Some p.line =
          ap (line_of m.body.lines) (sym (zero-add l.place)) ∙ at.is ∙ ap (λ (q : LineStatus). Some q.line) at.here in
          record {
            values = l.item;
            insn =
                record {
                  method = m;
                  among = among;
                  place = l.place;
                  stands = l.stands;
                  line = subst (IsLineOf m.body.lines l.place) same (line_found m.body.lines l.place);
                };
            status = sym (ap (λ (q : LineStatus). q.status) at.here);
          }

      by : ((m : Method) × Contains methods m × Contains (method_placed m) p) → PlacedBy p
      by (m, among, inside) =
          let l = listed_from (insn_placed m.body.lines) 0 m.insns p inside in
          found m among l (listed_at l.item (line_of m.body.lines (0 + l.place)) p l.listed)

  insn_by : (number : ℕ) (values : List Bool) → HasInsn methods number values → Contains (methods_placed methods) (placed_at values number)
  insn_by number values h =
      let lines = h.method.body.lines in
      let same : line_of lines (0 + h.place) ≡ Some number =
      ap (line_of lines) (zero-add h.place) ∙ one_line lines h.place (line_of lines h.place) (Some number) (line_found lines h.place) h.line in
      let here : Contains (insn_placed lines (0 + h.place) values) (placed_at values number) =
      subst (λ o. Contains (option_to_list (option_map (placed_at values) o)) (placed_at values number)) (sym same) (first_in (placed_at values number) []) in
      flat_in method_placed methods h.method (placed_at values number) h.among
      (lists_from (insn_placed lines) 0 h.method.insns (placed_at values number) (record { place = h.place; item = values; stands = h.stands; listed = here }))

  -- ---- lines that are used, and what is said of them

  module _ (number : ℕ) where
    pub has_used : Has (methods_placed methods) number → IsUsed methods number
    has_used (p, there, at) = let by = by_insn p there in (by.values, subst (λ n. HasInsn methods n by.values) at by.insn)

    pub used_has : IsUsed methods number → Has (methods_placed methods) number
    used_has (values, insn) = (placed_at values number, insn_by number values insn, refl)

    module _ (c : Bool) where
      pub said_is : IsSaid (methods_placed methods) number c → HasItem methods number c
      said_is (p, there, at, says) =
          let by = by_insn p there in
          (by.values, subst (λ n. HasInsn methods n by.values) at by.insn, item_said by.values c (subst (λ s. Says s c) by.status says))

      pub is_said : HasItem methods number c → IsSaid (methods_placed methods) number c
      is_said (values, insn, there) = (placed_at values number, insn_by number values insn, refl, said_item values c there)
