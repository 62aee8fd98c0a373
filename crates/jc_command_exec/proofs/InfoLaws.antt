-- What is printed of execution data, file after file.
use Rattle.std.proofs.Common.{◌≡◌, ℕ, ◌+◌, ◌<◌, List, [], ◌∷◌, ◌++◌, length, take, get_or, map, Option, None, Some, Result, Ok, Err, Bor, refl, sym, ◌∙◌, ap, subst, arith, append_assoc, length-append}
use Rattle.std.proofs.lemmas.List.{append-nil, take_all}
use Rattle.std.specs.List.{AllByRecursion}
use Rattle.jc_exec.specs.declared.refusal.ExecRefusal.{ExecRefusal}
use Rattle.jc_exec.specs.Answers.{why_of}
use Rattle.jc_exec.specs.Refusing.{FirstRefusal}
use Rattle.jc_exec.specs.Store.{Store}
use Rattle.jc_exec.specs.Union.{ReadsOn}
use Rattle.jc_command_work.specs.declared.stop.Stop.{Stop}
use Rattle.jc_command_work.specs.Answered.{Answer, EndsSo, answering, preparing}
use Rattle.jc_command_work.specs.Part.{End, gives, stops, reading_all}
use Rattle.jc_command_work.specs.Seen.{stop_seen}
use Rattle.jc_command_work.specs.Step.{Word, Outside, Counts, Landed, to_out}
use Rattle.jc_command_work.specs.Ending.{CameTo, Does}
use Rattle.jc_command_work.proofs.AnsweredLaws.{prepared}
use Rattle.jc_command_work.proofs.Behind.{came_then}
use Rattle.jc_command_work.proofs.Reaching.{was_decided}
use Rattle.jc_command_exec.specs.declared.exec_info.Listed.{Listed}
use Rattle.jc_command_exec.specs.declared.gathered.Gathered.{Gathered}
use Rattle.jc_command_exec.specs.declared.gathered.Gathered.TheVariants.{Union, Refused}
use Rattle.jc_command_exec.specs.ExecData.{IsUnionOf, IsFirstRefusedAlone, no_data}
use Rattle.jc_command_exec.specs.ExecInfo.{file_lines, AreInfo, InfoAnswers, informed, exec_info_refused}
use Rattle.jc_command_exec.specs.Gathering.{Joins}
use Rattle.jc_command_exec.specs.Informing.{IsAlone, PutsNext, Informs, ListsAll, ListsWith}
use Rattle.jc_command_exec.proofs.ExecDataLaws.{IsData, union_more, union_of_none, one_union_of}
use Rattle.jc_command_exec.proofs.GatheredLaws.{input_stays, front_stays, last_input, last_front, stop_is}
use Rattle.jc_command_exec.proofs.MergeLaws.{text_last}

-- ---- file after file

info_more : (ps : List Word) (ts lines : List (List ℕ)) (p : Word) (t : List ℕ) (s : Store) → AreInfo ps ts lines → IsUnionOf (t ∷ []) s
    → AreInfo (ps ++ p ∷ []) (ts ++ t ∷ []) (lines ++ file_lines p s)
info_more [] [] lines p t s info u = (s, [], u, ap (λ (l : List (List ℕ)). l ++ file_lines p s) info ∙ sym (append-nil (file_lines p s)), refl)
info_more [] (y ∷ ts) lines p t s info u = absurd info
info_more (x ∷ ps) [] lines p t s info u = absurd info
info_more (x ∷ ps) (y ∷ ts) lines p t s (own, rest, is, parts, later) u = (
  own,
  rest ++ file_lines p s,
  is,
  ap (λ (l : List (List ℕ)). l ++ file_lines p s) parts ∙ append_assoc (file_lines x own) rest (file_lines p s),
  info_more ps ts rest p t s later u,
)

pub one_info : (ps : List Word) (ts ls ms : List (List ℕ)) → AreInfo ps ts ls → AreInfo ps ts ms → ls ≡ ms
one_info [] [] ls ms p q = p ∙ sym q
one_info [] (t ∷ ts) ls ms p q = absurd p
one_info (x ∷ ps) [] ls ms p q = absurd p
one_info (x ∷ ps) (t ∷ ts) ls ms (s, rest, u, parts, later) (s', rest', u', parts', later') =
    let store : s ≡ s' = one_union_of (t ∷ []) s s' u u' in
    let more : rest ≡ rest' = one_info ps ts rest rest' later later' in
    parts ∙ (λ i. file_lines x (store i) ++ more i) ∙ sym parts'

pub info_is_data : (ps : List Word) (ts lines : List (List ℕ)) → AreInfo ps ts lines → AllByRecursion IsData ts
info_is_data [] [] lines info = tt
info_is_data [] (t ∷ ts) lines info = absurd info
info_is_data (x ∷ ps) [] lines info = absurd info
info_is_data (x ∷ ps) (t ∷ ts) lines (s, rest, u, parts, later) = ((s, u), info_is_data ps ts rest later)

pub data_has_info : (ps : List Word) (ts : List (List ℕ)) → length ps ≡ length ts → AllByRecursion IsData ts
    → (lines : List (List ℕ)) × AreInfo ps ts lines
data_has_info [] [] same all = ([], refl)
data_has_info [] (t ∷ ts) same all = absurd (omega (arith, same))
data_has_info (x ∷ ps) [] same all = absurd (omega (arith, same))
data_has_info (x ∷ ps) (t ∷ ts) same ((s, u), all) =
    let rest = data_has_info ps ts (omega (arith, same)) all in (file_lines x s ++ rest.0, (s, rest.0, u, refl, rest.1))

-- one file alone
pub data_read : (bytes : List ℕ) (old new : Store) → old ≡ no_data → ReadsOn bytes old new → IsUnionOf (bytes ∷ []) new
data_read bytes old new empty reads = union_more [] bytes no_data new union_of_none (subst (λ (s : Store). ReadsOn bytes s new) empty reads)

-- ---- a file behind others

pub informs : (refused : Option Stop) (before after : Gathered) (bytes : List ℕ) (index : ℕ) (path : Bor (List ℕ)) (old lines : List (List ℕ)) (listed : Listed)
    → lines ≡ old → IsAlone refused before → Joins before bytes index path after → PutsNext path.now lines after listed
    → Informs refused old bytes index path listed.refused listed.listing
informs None (Union store) (Union later) bytes index path old lines listed same alone joins (is, none) =
    subst (λ (o : Option Stop). Informs None old bytes index path o listed.listing) (sym none)
    (later, data_read bytes store later alone joins, is ∙ ap (λ (l : List (List ℕ)). l ++ file_lines path.now later) same)
informs None (Union store) (Refused stop) bytes index path old lines listed same alone (why, is, refused) puts =
    subst (λ (o : Option Stop). Informs None old bytes index path o listed.listing) (sym puts)
    (why, is, subst (λ (s : Store). FirstRefusal s bytes (why_of why)) alone refused)
informs None (Refused stop) after bytes index path old lines listed same alone joins puts = absurd alone
informs (Some stop) (Union store) after bytes index path old lines listed same alone joins puts = absurd alone
informs (Some stop) (Refused s) (Union later) bytes index path old lines listed same alone joins puts = absurd joins
informs (Some stop) (Refused s) (Refused t) bytes index path old lines listed same alone joins puts =
    subst (λ (o : Option Stop). Informs (Some stop) old bytes index path o listed.listing) (sym puts) (joins ∙ alone)

module _ (paths : List Word) (texts : List (List ℕ)) (t : List ℕ) where
  alone_stays : (i : ℕ) (path : Word) (r : ExecRefusal) → IsFirstRefusedAlone paths texts i path r → IsFirstRefusedAlone paths (texts ++ t ∷ []) i path r
  alone_stays i path r x = record {
    text = x.text;
    input = input_stays paths texts t i path x.text x.input;
    before = subst (AllByRecursion IsData) (sym (front_stays paths texts t i (omega (arith, x.input.within)))) x.before;
    refused = x.refused;
  }

  paths_more : (i : ℕ) (path : Word) → length texts ≡ i → i < length paths → path ≡ get_or paths i [] → take (length (texts ++ t ∷ [])) paths ≡ take (length texts) paths ++ path ∷ []
  paths_more i path size within is =
      ap (λ (n : ℕ). take n paths) (length-append texts (t ∷ []) ∙ ap (λ (n : ℕ). n + 1) size) ∙ text_last paths i path within is
      ∙ ap (λ (n : ℕ). take n paths ++ path ∷ []) (sym size)

  pub lists_on : (i : ℕ) (path : Bor (List ℕ)) (refused later : Option Stop) (old new : List (List ℕ)) → length texts ≡ i → i < length paths → path.now ≡ get_or paths i []
      → ListsAll paths texts refused old → Informs refused old t i path later new → ListsAll paths (texts ++ t ∷ []) later new
  lists_on i path None None old new size within is info (store, union, same) =
      subst (λ (lines : List (List ℕ)). AreInfo (take (length (texts ++ t ∷ [])) paths) (texts ++ t ∷ []) lines) (sym same)
      (subst (λ (ps : List Word). AreInfo ps (texts ++ t ∷ []) (old ++ file_lines path.now store)) (sym (paths_more i path.now size within is))
      (info_more (take (length texts) paths) texts old path.now t store info union))
  lists_on i path None (Some stop) old new size within is info (why, stop_is_so, refused) = (
    i,
    path.now,
    why,
    record {
      text = t;
      input = last_input paths texts t i path.now size is;
      before = subst (AllByRecursion IsData) (sym (last_front paths texts t i size)) (info_is_data (take (length texts) paths) texts old info);
      refused = refused;
    },
    stop_is paths texts t stop why i path stop_is_so,
  )
  lists_on i path (Some stop) None old new size within is so_far informs = absurd informs
  lists_on i path (Some stop) (Some same) old new size within is (k, p, r, refused, seen) informs = (k, p, r, alone_stays k p r refused, ap stop_seen informs ∙ seen)

-- ---- what is made of them

pub info_lines : (paths : List Word) (texts lines : List (List ℕ)) → length texts ≡ length paths → ListsAll paths texts None lines
    → ListsWith (InfoAnswers paths texts) (Ok lines)
info_lines paths texts lines many info =
    informed lines (subst (λ (ps : List Word). AreInfo ps texts lines) (take_all (length texts) paths (omega (arith, many))) info)

pub info_refusal : (paths : List Word) (texts lines : List (List ℕ)) (stop : Stop) → ListsAll paths texts (Some stop) lines
    → ListsWith (InfoAnswers paths texts) (Err stop)
info_refusal paths texts lines stop (i, path, r, refused, seen) =
    subst (λ (o : Option End). EndsSo (InfoAnswers paths texts) o) (sym seen) (exec_info_refused i path r refused)

-- the inputs were read, and the lines decided on
module _ (landed : Landed) (inputs : List Word) (Answers : List (List ℕ) → Answer → Type 0) (old mid : Outside) (f g : Counts) (texts : List (List ℕ)) where
  pub lists : (r : Result (List (List ℕ)) Stop) → (g ≡ f) × CameTo landed (reading_all inputs) old mid (gives texts) → ListsWith (Answers texts) r
      → Does landed (preparing inputs Answers) (λ lines. map to_out lines) stop_seen old mid f g r
  lists (Ok lines) (same, came) is = (
    same,
    came_then landed (reading_all inputs) (λ ts. answering (Answers ts)) old texts mid mid (gives (map to_out lines)) came
        (was_decided landed (λ ws. Answers texts (gives ws)) (λ end. Answers texts (stops end)) mid (map to_out lines) is),
  )
  lists (Err stop) came is = prepared landed inputs Answers old mid f g texts (Err stop) came is
