-- Words that call `cover` name two paths for its execution data and for its report, and no file that they name by itself goes to one of these.
use Rattle.std.proofs.Common.{◌≡◌, ◌≢◌, ◌⊎◌, inl, inr, ◌-◌, Bool, true, false, cond, not, List, [], ◌∷◌, ◌++◌, map, length, take, Contains, codes, Option, Some, option_map, refl, sym, ◌∙◌, ap, subst, append-nil}
use Rattle.std.specs.Prelude.{find}
use Rattle.std.specs.List.{filter, list_any}
use Rattle.std.specs.Str.{bytes_eq}
use Rattle.std.proofs.lemmas.Bool.{and_parts, or_cases, or_left, or_right, true≢false}
use Rattle.std.proofs.lemmas.Option.{none-some, same_Some}
use Rattle.std.proofs.lemmas.Slice.Eq.{bytes_eq-Decides}
use Rattle.jc_bytes.proofs.BooleanLaws.{which_in, none_in, of_map}
use Rattle.jc_paths.specs.Paths.{FileText, plain, folder, path_of, file_text, ends_with_slash, in_folder}
use Rattle.jc_command_words.specs.Commands.{IsStated, by_call, by_sample}
use Rattle.jc_command_words.specs.Forms.{Call}
use Rattle.jc_command_words.specs.Paths.{path_options, is_path_use, path_values, targets_in, named_paths, are_distinct}
use Rattle.jc_command_words.specs.Words.{Use, value_of}
use Rattle.jc_command_words.proofs.PathLaws.{distinct_passes}
use Rattle.jc_command_work.specs.Step.{Word}
use Rattle.jc_headline.specs.CoverWork.{Cover}
use Rattle.jc_headline.specs.Headline.{NamesApart}
use Rattle.jc_top.specs.CoverHeadline.{CallsCover}

-- an option whose value is a path
abbrev IsPath : Word → Type 0
IsPath name = list_any (bytes_eq name) path_options ≡ true

same_name : (u : Use) (name : Word) → IsPath name → bytes_eq u.name name ≡ true → is_path_use u ≡ true
same_name u name path e = ap (λ (n : Word). list_any (bytes_eq n) path_options) ((bytes_eq-Decides u.name name).0 e) ∙ path

-- what is behind the first is distinct too
behind_first : (w : Word) (words : List Word) → are_distinct (w ∷ words) ≡ true → (list_any (bytes_eq w) words ≡ false) × (are_distinct words ≡ true)
behind_first w words h = let parts = and_parts (not (list_any (bytes_eq w) words)) (are_distinct words) h in (by (list_any (bytes_eq w) words) parts.0, parts.1)
  where
    by : (t : Bool) → not t ≡ true → t ≡ false
    by true e = absurd (true≢false (sym e))
    by false e = refl

behind_use : (t : Bool) (w : Word) (words : List Word) → are_distinct (cond t (w ∷ words) words) ≡ true → are_distinct words ≡ true
behind_use true w words h = (behind_first w words h).1
behind_use false w words h = h

module _ (ys : List Word) where
  -- the values of the uses, one of them in front where its option's value is a path
  values_are : (u : Use) (us : List Use) → path_values (u ∷ us) ++ ys ≡ cond (is_path_use u) (u.value ∷ (path_values us ++ ys)) (path_values us ++ ys)
  values_are u us = by (is_path_use u)
    where
      by : (t : Bool) → map (λ (v : Use). v.value) (cond t (u ∷ filter is_path_use us) (filter is_path_use us)) ++ ys
          ≡ cond t (u.value ∷ (path_values us ++ ys)) (path_values us ++ ys)
      by true = refl
      by false = refl

  -- the value of such an option is one of them
  value_there : (name y : Word) → IsPath name → (us : List Use) → value_of us name ≡ Some y → list_any (bytes_eq y) (path_values us ++ ys) ≡ true
  value_there name y path [] has = absurd (none-some y has)
  value_there name y path (u ∷ us) has = ap (list_any (bytes_eq y)) (values_are u us) ∙ by (bytes_eq u.name name) refl (value_there name y path us)
    where
      later : (t : Bool) → list_any (bytes_eq y) (path_values us ++ ys) ≡ true
          → list_any (bytes_eq y) (cond t (u.value ∷ (path_values us ++ ys)) (path_values us ++ ys)) ≡ true
      later true there = or_right (bytes_eq y u.value) (list_any (bytes_eq y) (path_values us ++ ys)) there
      later false there = there

      by : (t : Bool) → bytes_eq u.name name ≡ t → (value_of us name ≡ Some y → list_any (bytes_eq y) (path_values us ++ ys) ≡ true)
          → list_any (bytes_eq y) (cond (is_path_use u) (u.value ∷ (path_values us ++ ys)) (path_values us ++ ys)) ≡ true
      by true e rest =
          let value : u.value ≡ y =
          same_Some u.value y (ap (λ (s : Bool). option_map (λ (v : Use). v.value) (cond s (Some u) (find (λ (v : Use). bytes_eq v.name name) us))) (sym e) ∙ has) in
          ap (λ (s : Bool). list_any (bytes_eq y) (cond s (u.value ∷ (path_values us ++ ys)) (path_values us ++ ys))) (same_name u name path e)
          ∙ or_left (bytes_eq y u.value) (list_any (bytes_eq y) (path_values us ++ ys)) ((bytes_eq-Decides y u.value).1 (sym value))
      by false e rest =
          later (is_path_use u)
          (rest
          (ap (λ (s : Bool). option_map (λ (v : Use). v.value) (cond s (Some u) (find (λ (v : Use). bytes_eq v.name name) us))) (sym e) ∙ has))

  -- the values of two of them differ
  values_apart : (a b x y : Word) → IsPath a → IsPath b → a ≢ b → (us : List Use) → are_distinct (path_values us ++ ys) ≡ true
      → value_of us a ≡ Some x → value_of us b ≡ Some y → x ≢ y
  values_apart a b x y path_a path_b apart [] distinct has_a has_b same = none-some x has_a
  values_apart a b x y path_a path_b apart (u ∷ us) distinct has_a has_b same =
      by (bytes_eq u.name a) (bytes_eq u.name b) refl refl (λ d p q. values_apart a b x y path_a path_b apart us d p q same)
    where
      value_in : Word → Bool → Option Word
      value_in name t = option_map (λ (v : Use). v.value) (cond t (Some u) (find (λ (v : Use). bytes_eq v.name name) us))

      parts : are_distinct (cond (is_path_use u) (u.value ∷ (path_values us ++ ys)) (path_values us ++ ys)) ≡ true
      parts = ap are_distinct (sym (values_are u us)) ∙ distinct

      -- the one is the value of this use, and the other one stands behind it
      front : (name z other w : Word) → IsPath name → IsPath other → bytes_eq u.name name ≡ true → bytes_eq u.name other ≡ false
          → value_of (u ∷ us) name ≡ Some z → value_of (u ∷ us) other ≡ Some w → z ≡ w → ⊥
      front name z other w path path_other e f has has_other equal =
          let value : u.value ≡ z = same_Some u.value z (ap (value_in name) (sym e) ∙ has) in
          let first = behind_first u.value (path_values us ++ ys)
          (ap (λ (s : Bool). are_distinct (cond s (u.value ∷ (path_values us ++ ys)) (path_values us ++ ys))) (sym (same_name u name path e)) ∙ parts) in
          let there = value_there other w path_other us (ap (value_in other) (sym f) ∙ has_other) in
          true≢false (sym there ∙ ap (λ (v : Word). list_any (bytes_eq v) (path_values us ++ ys)) (sym (value ∙ equal)) ∙ first.0)

      by : (s t : Bool) → bytes_eq u.name a ≡ s → bytes_eq u.name b ≡ t
          → (are_distinct (path_values us ++ ys) ≡ true → value_of us a ≡ Some x → value_of us b ≡ Some y → ⊥) → ⊥
      by true true e f rest = apart (sym ((bytes_eq-Decides u.name a).0 e) ∙ (bytes_eq-Decides u.name b).0 f)
      by true false e f rest = front a x b y path_a path_b e f has_a has_b same
      by false true e f rest = front b y a x path_b path_a f e has_b has_a (sym same)
      by false false e f rest =
          rest (behind_use (is_path_use u) u.value (path_values us ++ ys) parts) (ap (value_in a) (sym e) ∙ has_a) (ap (value_in b) (sym f) ∙ has_b)

-- so among all paths that words name
behind_front : (xs ys : List Word) → are_distinct (xs ++ ys) ≡ true → are_distinct ys ≡ true
behind_front [] ys h = h
behind_front (x ∷ xs) ys h = behind_front xs ys (behind_first x (xs ++ ys) h).1

any_behind : (xs ys : List Word) (y : Word) → list_any (bytes_eq y) ys ≡ true → list_any (bytes_eq y) (xs ++ ys) ≡ true
any_behind [] ys y h = h
any_behind (x ∷ xs) ys y h = or_right (bytes_eq y x) (list_any (bytes_eq y) (xs ++ ys)) (any_behind xs ys y h)

-- one in front differs from one behind
apart_across : (xs ys : List Word) (x y : Word) → are_distinct (xs ++ ys) ≡ true → list_any (bytes_eq x) xs ≡ true → list_any (bytes_eq y) ys ≡ true → x ≢ y
apart_across [] ys x y distinct front behind same = true≢false (sym front)
apart_across (w ∷ xs) ys x y distinct front behind same =
    by (or_cases (bytes_eq x w) (list_any (bytes_eq x) xs) front) (λ d later. apart_across xs ys x y d later behind same)
  where
    first : (list_any (bytes_eq w) (xs ++ ys) ≡ false) × (are_distinct (xs ++ ys) ≡ true)
    first = behind_first w (xs ++ ys) distinct

    by : (bytes_eq x w ≡ true) ⊎ (list_any (bytes_eq x) xs ≡ true) → (are_distinct (xs ++ ys) ≡ true → list_any (bytes_eq x) xs ≡ true → ⊥) → ⊥
    by (inl is) rest =
        true≢false
        (sym (any_behind xs ys y behind) ∙ ap (λ (v : Word). list_any (bytes_eq v) (xs ++ ys)) (sym same ∙ (bytes_eq-Decides x w).0 is) ∙ first.0)
    by (inr later) rest = rest first.1 later

two_names : codes "destfile" ≢ codes "csv"
two_names e = cc

-- ---- the files

plain_word : (word path : Word) → file_text word ≡ plain path → (ends_with_slash word ≡ false) × (word ≡ path)
plain_word word path is = by (ends_with_slash word) refl is
  where
    by : (t : Bool) → ends_with_slash word ≡ t → cond t (folder (take (length word - 1) word)) (plain word) ≡ plain path
        → (ends_with_slash word ≡ false) × (word ≡ path)
    by true e is = absurd cc
    by false e is = (e, ap path_of is)

-- the path in the folder of a file that is no folder
target_there : (dest word : Word) → ends_with_slash word ≡ false → (files : List Word) → Contains files word
    → list_any (bytes_eq (in_folder dest word)) (targets_in (Some dest) files) ≡ true
target_there dest word no_slash [] there = absurd (none_in word there)
target_there dest word no_slash (f ∷ files) there = by (which_in f files word there) (target_there dest word no_slash files)
  where
    targets : List Word
    targets = targets_in (Some dest) files

    later : (t : Bool) → list_any (bytes_eq (in_folder dest word)) targets ≡ true
        → list_any (bytes_eq (in_folder dest word)) (map (in_folder dest) (cond t (f ∷ filter (λ w. not (ends_with_slash w)) files) (filter (λ w. not (ends_with_slash w)) files))) ≡ true
    later true h = or_right (bytes_eq (in_folder dest word) (in_folder dest f)) (list_any (bytes_eq (in_folder dest word)) targets) h
    later false h = h

    by : (f ≡ word) ⊎ Contains files word → (Contains files word → list_any (bytes_eq (in_folder dest word)) (targets_in (Some dest) files) ≡ true)
        → list_any (bytes_eq (in_folder dest word)) (targets_in (Some dest) (f ∷ files)) ≡ true
    by (inl same) rest =
        ap (λ (t : Bool). list_any (bytes_eq (in_folder dest word))
        (map (in_folder dest) (cond (not t) (f ∷ filter (λ w. not (ends_with_slash w)) files) (filter (λ w. not (ends_with_slash w)) files))))
        (ap ends_with_slash same ∙ no_slash)
        ∙ or_left (bytes_eq (in_folder dest word) (in_folder dest f)) (list_any (bytes_eq (in_folder dest word)) targets)
        ((bytes_eq-Decides (in_folder dest word) (in_folder dest f)).1 (ap (in_folder dest) (sym same)))
    by (inr behind) rest = later (not (ends_with_slash f)) (rest behind)

-- ---- the whole

module _ (call : Call) (stated : IsStated call) where
  -- the values of options, and the paths in the folder
  distinct_from : (dest : Word) → value_of call.uses (codes "dest") ≡ Some dest → are_distinct (path_values call.uses ++ targets_in (Some dest) call.files) ≡ true
  distinct_from dest has =
      ap (λ (o : Option Word). are_distinct (path_values call.uses ++ targets_in o call.files)) (sym has)
      ∙ behind_front call.files (path_values call.uses ++ targets_in (value_of call.uses (codes "dest")) call.files)
      (distinct_passes (named_paths call.uses call.files) stated.distinct)

  -- the path in the folder of a file that is named by itself is no value of an option
  target_apart : (dest path : Word) → value_of call.uses (codes "dest") ≡ Some dest → Contains (map file_text call.files) (plain path) → (name value : Word)
      → IsPath name → value_of call.uses name ≡ Some value → in_folder dest path ≢ value
  target_apart dest path has there name value is has_value same =
      let from = of_map file_text call.files (plain path) there in
      let word = plain_word from.0 path (sym from.2) in
      let value_in : list_any (bytes_eq value) (path_values call.uses) ≡ true =
      ap (list_any (bytes_eq value)) (sym (append-nil (path_values call.uses))) ∙ value_there [] name value is call.uses has_value in
      let target = ap (λ (w : Word). list_any (bytes_eq (in_folder dest w)) (targets_in (Some dest) call.files)) (sym word.1)
      ∙ target_there dest from.0 word.0 call.files from.1 in
      apart_across (path_values call.uses) (targets_in (Some dest) call.files) value (in_folder dest path) (distinct_from dest has) value_in target (sym same)

pub names_apart : (words : List Word) (c : Cover) → CallsCover words c → NamesApart c
names_apart words c (workers, by_call call same stated of) = record {
  results = values_apart (targets_in (Some c.dest) call.files) (codes "destfile") (codes "csv") c.exec c.csv refl refl two_names call.uses
      (distinct_from call stated c.dest of.1) of.3 of.4;
  files =
      λ path there.
      let named = subst (λ (l : List FileText). Contains l (plain path)) of.7 there in (
        target_apart call stated c.dest path of.1 named (codes "destfile") c.exec refl of.3,
        target_apart call stated c.dest path of.1 named (codes "csv") c.csv refl of.4,
      );
}
names_apart words c (workers, by_sample joined value n same number is) = absurd cc
