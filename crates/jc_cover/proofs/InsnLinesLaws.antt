-- The lines of the instructions of methods, one by one.
use Rattle.std.proofs.Common.{◌≡◌, ℕ, ◌+◌, ◌<◌, ◌≤◌, Bool, true, false, cond, List, [], ◌∷◌, ◌++◌, filter, length, get_or, take, Option, Some, None, refl, sym, ap, ap₂, ◌∙◌, append_assoc}
use Rattle.std.specs.Prelude.{option_map, option_to_list}
use Rattle.std.specs.List.{flat_map}
use Rattle.std.proofs.lemmas.List.{take_all, append-nil}
use Rattle.jc_bytes.specs.PlainLists.{join_from}
use Rattle.jc_methods.specs.declared.body.Body.{Body}
use Rattle.jc_methods.specs.declared.body.LineAt.{LineAt}
use Rattle.jc_plan.proofs.PlacesLaws.{join_from_more}
use Rattle.jc_cover.specs.Counters.{Method, is_covered, line_of, Lined, lined, lined_insns}
use Rattle.jc_cover.specs.Lines.{insn_line, covered_insn_line, insn_lines, covered_insn_lines, numbers, covered_numbers, methods_lines, covered_methods_lines}

-- ---- lists put together

pub numbers_join : (a b : List Lined) → numbers (a ++ b) ≡ numbers a ++ numbers b
numbers_join [] b = refl
numbers_join (l ∷ a) b = ap (λ (ns : List ℕ). l.number ∷ ns) (numbers_join a b)

pub covered_join : (a b : List Lined) → covered_numbers (a ++ b) ≡ covered_numbers a ++ covered_numbers b
covered_join [] b = refl
covered_join (l ∷ a) b = by l.covered (covered_join a b)
  where
    kept : List Lined → List Lined
    kept xs = filter (λ k. k.covered) xs

    by : (t : Bool) → covered_numbers (a ++ b) ≡ covered_numbers a ++ covered_numbers b → numbers (cond t (l ∷ kept (a ++ b)) (kept (a ++ b)))
        ≡ numbers (cond t (l ∷ kept a) (kept a)) ++ covered_numbers b
    by true h = ap (λ (ns : List ℕ). l.number ∷ ns) h
    by false h = h

methods_insns_join : (a b : List Method) → flat_map lined_insns (a ++ b) ≡ flat_map lined_insns a ++ flat_map lined_insns b
methods_insns_join [] b = refl
methods_insns_join (m ∷ a) b = ap (λ (l : List Lined). lined_insns m ++ l) (methods_insns_join a b) ∙ sym (append_assoc (lined_insns m) (flat_map lined_insns a) (flat_map lined_insns b))

pub lines_join : (a b : List Method) → methods_lines (a ++ b) ≡ methods_lines a ++ methods_lines b
lines_join a b = ap numbers (methods_insns_join a b) ∙ numbers_join (flat_map lined_insns a) (flat_map lined_insns b)

pub covered_lines_join : (a b : List Method) → covered_methods_lines (a ++ b) ≡ covered_methods_lines a ++ covered_methods_lines b
covered_lines_join a b = ap covered_numbers (methods_insns_join a b) ∙ covered_join (flat_map lined_insns a) (flat_map lined_insns b)

-- ---- the lines of a method

module _ (lines : List LineAt) where
  abbrev insn_lined : ℕ → List Bool → List Lined
  insn_lined i values = option_to_list (option_map (lined (is_covered values)) (line_of lines i))

  one_number : (o : Option ℕ) (t : Bool) → numbers (option_to_list (option_map (lined t) o)) ≡ option_to_list o
  one_number None t = refl
  one_number (Some n) t = refl

  one_covered : (o : Option ℕ) (t : Bool) → covered_numbers (option_to_list (option_map (lined t) o)) ≡ option_to_list (cond t o None)
  one_covered None true = refl
  one_covered None false = refl
  one_covered (Some n) true = refl
  one_covered (Some n) false = refl

  all_numbers : (i : ℕ) (insns : List (List Bool)) → numbers (join_from insn_lined i insns) ≡ join_from (insn_line lines) i insns
  all_numbers i [] = refl
  all_numbers i (v ∷ insns) =
      numbers_join (insn_lined i v) (join_from insn_lined (i + 1) insns)
      ∙ ap₂ (λ (a b : List ℕ). a ++ b) (one_number (line_of lines i) (is_covered v)) (all_numbers (i + 1) insns)

  all_covered : (i : ℕ) (insns : List (List Bool)) → covered_numbers (join_from insn_lined i insns) ≡ join_from (covered_insn_line lines) i insns
  all_covered i [] = refl
  all_covered i (v ∷ insns) =
      covered_join (insn_lined i v) (join_from insn_lined (i + 1) insns)
      ∙ ap₂ (λ (a b : List ℕ). a ++ b) (one_covered (line_of lines i) (is_covered v)) (all_covered (i + 1) insns)

pub method_lines : (b : Body) (insns : List (List Bool)) → insn_lines b.lines insns ≡ methods_lines (record { body = b; insns = insns } ∷ [])
method_lines b insns = sym (all_numbers b.lines 0 insns) ∙ ap numbers (sym (append-nil (lined_insns (record { body = b; insns = insns }))))

pub covered_method_lines : (b : Body) (insns : List (List Bool)) → covered_insn_lines b.lines insns ≡ covered_methods_lines (record { body = b; insns = insns } ∷ [])
covered_method_lines b insns = sym (all_covered b.lines 0 insns) ∙ ap covered_numbers (sym (append-nil (lined_insns (record { body = b; insns = insns }))))

-- ---- on the way

-- one instruction more, behind those that stood there
pub line_put : (f : ℕ → List Bool → List ℕ) (insns : List (List Bool)) (i : ℕ) (values : List Bool) (front now new : List ℕ) → i < length insns → values ≡ get_or insns i values
    → now ≡ front ++ join_from f 0 (take i insns) → new ≡ now ++ f i values → new ≡ front ++ join_from f 0 (take (i + 1) insns)
line_put f insns i values front now new lt is before put =
    put ∙ ap (λ (l : List ℕ). l ++ f i values) before ∙ append_assoc front (join_from f 0 (take i insns)) (f i values)
    ∙ ap (λ (l : List ℕ). front ++ l) (sym (join_from_more f insns i values lt is))

pub lines_put : (f : ℕ → List Bool → List ℕ) (insns : List (List Bool)) (i : ℕ) (front now : List ℕ) → length insns ≤ i
    → now ≡ front ++ join_from f 0 (take i insns) → now ≡ front ++ join_from f 0 insns
lines_put f insns i front now le before = before ∙ ap (λ (l : List (List Bool)). front ++ join_from f 0 l) (take_all i insns le)
