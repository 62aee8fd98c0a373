-- What is printed of a class doesn't depend on the frames of its bodies.
use Rattle.std.proofs.Common.{◌≡◌, ℕ, Bool, true, false, List, [], ◌∷◌, ◌++◌, map, Option, Some, option_to_list, Ok, Vec, sym, ◌∙◌, ap, subst}
use Rattle.std.specs.Prelude.{slice_get}
use Rattle.std.specs.List.{AllZip, flat_map}
use Rattle.std.specs.declared.alloc.Global.{Global}
use Rattle.jc_bytes.proofs.BooleanLaws.{in_map, of_map}
use Rattle.jc_methods.specs.declared.analysed.Analysed.{Analysed}
use Rattle.jc_methods.specs.declared.body.Body.{Body}
use Rattle.jc_cover.specs.declared.coverage.Coverage.{Coverage}
use Rattle.jc_cover.specs.declared.coverage.Counters.{Counters}
use Rattle.jc_cover.specs.Counters.{Method, counted_methods, IsLineOf}
use Rattle.jc_cover.specs.Covered.{hits_or_none, TellsCovered}
use Rattle.jc_cover.proofs.CoverageLaws.{tells}
use Rattle.jc_exec.specs.declared.hits.ClassHits.{ClassHits}
use Rattle.jc_instrument.specs.SameAnalysis.{without_frames}
use Rattle.jc_rules.specs.declared.status.LineState.{LineState}
use Rattle.jc_rules.specs.declared.status.LineState.TheVariants.{Empty, Not, Partly, Fully}
use Rattle.jc_rules.specs.declared.status.LineStatus.{LineStatus}
use Rattle.jc_rules.specs.LineList.{IsUsed, HaveStatuses, IsLineList, no_lines, some_lines}
use Rattle.jc_rules.specs.Status.{HasInsn, HasItem, IsStatus}
use Rattle.jc_rules.specs.Totals.{has_counted_insn}
use Rattle.jc_command_work.specs.Seen.{Prints}
use Rattle.jc_command_work.specs.Answered.{writes_seen}
use Rattle.jc_command_work.specs.declared.output.Write.{Write as Written}
use Rattle.jc_command_work.specs.Step.{Word, Write, to_out}
use Rattle.jc_command_classes.specs.declared.covered_class.CoveredClass.{CoveredClass}
use Rattle.jc_command_classes.specs.declared.kept.Kept.{Kept}
use Rattle.jc_command_classes.specs.Report.{hits_of, changed_of, first_of_each_id}
use Rattle.jc_command_classes.specs.ReportSteps.{IsCoveredClass, LooksAs, MakesWith}
use Rattle.jc_command_classes.proofs.FramelessLaws.{plain, same_coverage, same_counters, plain_counted_methods}
use Rattle.jc_command_rules.specs.LinesAnswers.{counts, IsPrinted, IsListing, IsLines}
use Rattle.jc_command_rules.specs.Printing.{text_seen, TellsListing, IsListed}

-- ---- lines

-- a status of what the same is so of
same_status : (P Q : Bool → Type 0) → ((c : Bool) → P c → Q c) → ((c : Bool) → Q c → P c) → (s : LineState) → IsStatus P s → IsStatus Q s
same_status P Q to from Empty is = λ c h. is c (from c h)
same_status P Q to from Not is = (to false is.0, λ h. is.1 (from true h))
same_status P Q to from Partly is = (to true is.0, to false is.1)
same_status P Q to from Fully is = (to true is.0, λ h. is.1 (from false h))

module _ (methods : List Method) where
  to_plain : (number : ℕ) (values : List Bool) → HasInsn methods number values → HasInsn (map plain methods) number values
  to_plain number values h =
      record { method = plain h.method; among = in_map plain methods h.method h.among; place = h.place; stands = h.stands; line = h.line }

  of_plain : (number : ℕ) (values : List Bool) → HasInsn (map plain methods) number values → HasInsn methods number values
  of_plain number values h =
      let (m, among, is) = of_map plain methods h.method h.among in
      record {
        method = m;
        among = among;
        place = h.place;
        stands = subst (λ (n : Method). slice_get n.insns h.place ≡ Some values) is h.stands;
        line = subst (λ (n : Method). IsLineOf n.body.lines h.place (Some number)) is h.line;
      }

  used_to : (number : ℕ) → IsUsed methods number → IsUsed (map plain methods) number
  used_to number used = (used.0, to_plain number used.0 used.1)

  used_of : (number : ℕ) → IsUsed (map plain methods) number → IsUsed methods number
  used_of number used = (used.0, of_plain number used.0 used.1)

  statuses_of : (list : List LineStatus) → HaveStatuses methods list → HaveStatuses (map plain methods) list
  statuses_of list are s there =
      same_status (HasItem methods s.line) (HasItem (map plain methods) s.line) (λ c h. (h.0, to_plain s.line h.0 h.1, h.2))
      (λ c h. (h.0, of_plain s.line h.0 h.1, h.2)) s.status (are s there)

  -- the list of lines is that of the methods without frames
  plain_list : (list : List LineStatus) → IsLineList methods list → IsLineList (map plain methods) list
  plain_list list (no_lines none empty) = no_lines (λ number used. none number (used_of number used)) empty
  plain_list list (some_lines range statuses) =
      some_lines
      (record {
        least = range.least;
        greatest = range.greatest;
        is_least =
            record {
              there = used_to range.least range.is_least.there;
              first = λ before less used. range.is_least.first before less (used_of before used);
            };
        is_greatest =
            record {
              there = used_to range.greatest range.is_greatest.there;
              last = λ other used. range.is_greatest.last other (used_of other used);
            };
        numbers = range.numbers;
      })
      (statuses_of list statuses)

-- ---- what is printed

plain_printed : (t : Bool) (name : Word) (methods : List Method) (text : Option (List ℕ)) → IsPrinted t name methods text → IsPrinted t name (map plain methods) text
plain_printed false name methods text is = is
plain_printed true name methods text (list, lines, is) = (list, plain_list methods list lines, is)

frameless_printed : (bodies : List Body) (coverage : Coverage) (name : Word) (text : Option (List ℕ))
    → IsPrinted (counts bodies coverage) name (counted_methods bodies coverage) text
    → IsPrinted (counts (map without_frames bodies) coverage) name (counted_methods (map without_frames bodies) coverage) text
frameless_printed bodies coverage name text is =
    let same : counts bodies coverage ≡ counts (map without_frames bodies) coverage =
    ap (λ (c : Counters). has_counted_insn (record { counters = c })) (sym (same_counters bodies coverage)) in
    subst (λ (t : Bool). IsPrinted t name (counted_methods (map without_frames bodies) coverage) text) same
    (subst (λ (ms : List Method). IsPrinted (counts bodies coverage) name ms text) (sym (plain_counted_methods bodies coverage))
    (plain_printed (counts bodies coverage) name (counted_methods bodies coverage) text is))

-- what is printed of a class by its coverage is printed of the class without frames
pub listed_from : (records : List ClassHits) (a : Analysed) (c : CoveredClass) (text : Option (Vec ℕ Global)) → IsCoveredClass records a c → TellsListing c text
    → IsListed records a text
listed_from records a c text (a_is, c_is) printed =
    subst (λ (b : Analysed). IsListing (hits_of records b) b (text_seen text)) (sym a_is)
    (record {
      coverage = c.coverage;
      tells =
          subst (λ (d : Coverage). TellsCovered (map without_frames c.class.bodies) hits d)
          (same_coverage c.class.bodies hits ∙ ap (λ (d : CoveredClass). d.coverage) (sym c_is)) (tells (map without_frames c.class.bodies) hits);
      printed = frameless_printed c.class.bodies c.coverage c.class.name (text_seen text) printed;
    })
  where
    hits : List Bool
    hits = hits_or_none (hits_of records c.class)

-- ---- the writes

zip_seen : {X Y Z : Type 0} (R : X → Z → Type 0) (f : Y → Z) (xs : List X) (ys : List Y) → AllZip (λ x y. R x (f y)) xs ys → AllZip R xs (map f ys)
zip_seen R f [] [] zip = tt
zip_seen R f [] (y ∷ ys) zip = absurd zip
zip_seen R f (x ∷ xs) [] zip = absurd zip
zip_seen R f (x ∷ xs) (y ∷ ys) zip = (zip.0, zip_seen R f xs ys zip.1)

pub lines_made : (records : List ClassHits) (path : Option Word) (paths : List Word) (texts : List (List ℕ)) (kept : Kept (Option (Vec ℕ Global)))
    (writes : Vec Written Global) → LooksAs (IsListed records) records paths texts kept
    → Prints kept.lines.items (flat_map option_to_list (map text_seen kept.made.items)) writes.items
    → MakesWith writes_seen (IsLines paths) records path texts (Ok writes)
lines_made records path paths texts kept writes (items, are, none, lines, made) prints = (
  items,
  are,
  none,
  (
    map text_seen kept.made.items,
    zip_seen (λ a text. IsListing (hits_of records a) a text) text_seen (first_of_each_id (changed_of items)) kept.made.items made,
    prints ∙ ap (λ (ws : List Write). ws ++ map to_out (flat_map option_to_list (map text_seen kept.made.items))) lines,
  ),
)
