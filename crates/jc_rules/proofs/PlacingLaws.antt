-- The lines of the instructions of methods, put into a list one by one.
use Rattle.std.proofs.Common.{◌≡◌, ℕ, ◌+◌, ◌<◌, ◌≤◌, Bool, true, false, cond, List, [], ◌∷◌, ◌++◌, length, get_or, take, drop, replicate, Option, None, refl, sym, ◌∙◌, ap, ap₂, append_assoc}
use Rattle.std.specs.Prelude.{option_map, option_to_list}
use Rattle.std.proofs.lemmas.List.{drop_all, append-nil}
use Rattle.jc_bytes.specs.PlainLists.{join_from}
use Rattle.jc_bytes.proofs.AppendingLaws.{drop_is}
use Rattle.jc_methods.specs.declared.body.Body.{Body}
use Rattle.jc_methods.specs.declared.body.LineAt.{LineAt}
use Rattle.jc_plan.proofs.PlacesLaws.{join_from_more}
use Rattle.jc_cover.specs.Counters.{Method, is_counted, line_of}
use Rattle.jc_cover.specs.Lines.{with_lines, first_of}
use Rattle.jc_cover.specs.Sums.{one_counted}
use Rattle.jc_cover.proofs.ClassCountsLaws.{those}
use Rattle.jc_cover.proofs.StartsLaws.{Carried, line_carried, carried_on}
use Rattle.jc_rules.specs.declared.status.LineStatus.{LineStatus}
use Rattle.jc_rules.specs.Placed.{placed_at, insn_placed, method_placed, methods_placed}

-- ---- the instructions of a method

-- so many instructions have their lines, behind those that stood there
pub record Lining (table : List LineAt) (insns : List (List Bool)) (at : ℕ) (front now : List LineStatus) (line : Option ℕ) : Type 0 where
  pub lined : now ≡ front ++ join_from (insn_placed table) 0 (take at insns)
  pub carried : Carried table at line

pub lining_more : (table : List LineAt) (insns : List (List Bool)) (at : ℕ) (values : List Bool) (front now next : List LineStatus) (start line line' : Option ℕ)
    → at < length insns → values ≡ get_or insns at values → start ≡ get_or (with_lines table (replicate (length insns) None)) at start → line' ≡ first_of start line
    → next ≡ now ++ option_to_list (option_map (placed_at values) line') → Lining table insns at front now line → Lining table insns (at + 1) front next line'
lining_more table insns at values front now next start line line' lt is read first put l =
    let e : line' ≡ line_of table at = first ∙ line_carried table (length insns) at start line lt read l.carried in
    record {
      lined =
          put ∙ ap₂ (λ (l : List LineStatus) (o : Option ℕ). l ++ option_to_list (option_map (placed_at values) o)) l.lined e
          ∙ append_assoc front (join_from (insn_placed table) 0 (take at insns)) (insn_placed table at values)
          ∙ ap (λ (l : List LineStatus). front ++ l) (sym (join_from_more (insn_placed table) insns at values lt is));
      carried = carried_on table at line' e;
    }

-- ---- the methods of a class

methods_join : (a b : List Method) → methods_placed (a ++ b) ≡ methods_placed a ++ methods_placed b
methods_join [] b = refl
methods_join (m ∷ a) b = ap (λ (l : List LineStatus). method_placed m ++ l) (methods_join a b) ∙ sym (append_assoc (method_placed m) (methods_placed a) (methods_placed b))

module _ (bodies : List Body) (values : List (List (List Bool))) where
  abbrev left : ℕ → List Method
  left k = those (drop k bodies) (drop k values)

  one_left : (k : ℕ) (b : Body) (insns : List (List Bool)) → k < length bodies → k < length values → b ≡ get_or bodies k b → insns ≡ get_or values k insns
      → left k ≡ one_counted b insns ++ left (k + 1)
  one_left k b insns lt lv is iv = ap₂ those (drop_is bodies k b lt is) (drop_is values k insns lv iv) ∙ by (is_counted b)
    where
      m : Method
      m = record { body = b; insns = insns }

      by : (t : Bool) → cond t (m ∷ left (k + 1)) (left (k + 1)) ≡ cond t (m ∷ []) [] ++ left (k + 1)
      by true = refl
      by false = refl

  -- what is left gives the whole
  abbrev pub Placing : ℕ → List LineStatus → Type 0
  Placing k now = now ++ methods_placed (left k) ≡ methods_placed (those bodies values)

  pub places_more : (k : ℕ) (b : Body) (insns : List (List Bool)) (now next : List LineStatus) → k < length bodies → k < length values → b ≡ get_or bodies k b
      → insns ≡ get_or values k insns → next ≡ now ++ methods_placed (one_counted b insns) → Placing k now → Placing (k + 1) next
  places_more k b insns now next lt lv is iv e before =
      ap (λ (l : List LineStatus). l ++ methods_placed (left (k + 1))) e ∙ append_assoc now (methods_placed (one_counted b insns)) (methods_placed (left (k + 1)))
      ∙ ap (λ (l : List LineStatus). now ++ l) (sym (methods_join (one_counted b insns) (left (k + 1))) ∙ ap methods_placed (sym (one_left k b insns lt lv is iv))) ∙ before

  pub all_placed : (k : ℕ) (now : List LineStatus) → length bodies ≤ k → Placing k now → now ≡ methods_placed (those bodies values)
  all_placed k now le before =
      sym (ap (λ (l : List Method). now ++ methods_placed l) (ap (λ (l : List Body). those l (drop k values)) (drop_all k bodies le)) ∙ append-nil now) ∙ before
