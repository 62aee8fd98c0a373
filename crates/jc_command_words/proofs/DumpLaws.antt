-- The paths of dumps, found by tests.
use Rattle.std.proofs.Common.{◌≡◌, ◌≢◌, ◌∙◌, ap, ap₂, sym, refl, ℕ, ◌-◌, Bool, true, false, cond, List, [], ◌∷◌, ◌++◌, length, take, drop, codes, Option, Some, None, arith, append_assoc, length-append, true≢false, is_some, slice_index_or, All}
use Rattle.std.proofs.Math.Seq.{take-append_seam, drop-append_seam}
use Rattle.std.proofs.lemmas.Bool.{and_parts}
use Rattle.std.proofs.lemmas.List.{append-nil, take-append-drop}
use Rattle.std.proofs.lemmas.List.Elements.{All-nil, All-cons}
use Rattle.std.proofs.lemmas.List.Folds.{list_any_none}
use Rattle.std.proofs.lemmas.Slice.Eq.{bytes_eq-Decides}
use Rattle.std.specs.List.{list_any}
use Rattle.std.specs.Str.{bytes_eq}
use Rattle.jc_paths.specs.Paths.{ends_with_slash, in_folder}
use Rattle.jc_command_words.specs.Words.{Word}
use Rattle.jc_command_words.specs.Numbers.{IsNumber, number_up_to}
use Rattle.jc_command_words.specs.Dumps.{IsDump, NoneIsDump, is_dump_name, is_dump, has_dump}
use Rattle.jc_command_words.proofs.BoolLaws.{either-false}
use Rattle.jc_command_words.proofs.NumberLaws.{number_is, number_found}

-- ---- names

abbrev ending : Word
ending = codes ".exec"

front_length : (front : Word) → length (front ++ ending) - 5 ≡ length front
front_length front = omega (arith, length-append front ending)

front_is : (front : Word) → take (length (front ++ ending) - 5) (front ++ ending) ≡ front
front_is front = ap (λ k. take k (front ++ ending)) (front_length front) ∙ take-append_seam front ending

ending_is : (front : Word) → drop (length (front ++ ending) - 5) (front ++ ending) ≡ ending
ending_is front = ap (λ k. drop k (front ++ ending)) (front_length front) ∙ drop-append_seam front ending

-- what is in front of the ending decides
pub name_test : (front : Word) → is_dump_name (front ++ ending) ≡ is_some (number_up_to 256 front)
name_test front = rw (front_is front, ending_is front) refl

record IsDumpName (name : Word) : Type 0 where
  number : Word
  n : ℕ
  number_is : IsNumber 256 number n
  name_is : name ≡ number ++ ending

some_number : (text : Word) → is_some (number_up_to 256 text) ≡ true → (n : ℕ) × IsNumber 256 text n
some_number text h = by (number_up_to 256 text) refl h
  where
    by : (o : Option ℕ) → number_up_to 256 text ≡ o → is_some o ≡ true → (n : ℕ) × IsNumber 256 text n
    by None e h = absurd (true≢false (sym h))
    by (Some n) e h = (n, number_is 256 text n e)

name_is : (name : Word) → is_dump_name name ≡ true → IsDumpName name
name_is name h =
    let cut = length name - 5 in
    let parts = and_parts (bytes_eq (drop cut name) ending) (is_some (number_up_to 256 (take cut name))) h in
    let number = some_number (take cut name) parts.1 in
    let same = (bytes_eq-Decides (drop cut name) ending).0 parts.0 in
    record {
      number = take cut name;
      n = number.0;
      number_is = number.1;
      name_is = sym (take-append-drop cut name) ∙ ap (λ (l : Word). take cut name ++ l) same;
    }

-- a name with another ending
pub no_name : (name : Word) → ((front : Word) → name ≢ front ++ ending) → false ≡ is_dump_name name
no_name name never = by (is_dump_name name) refl
  where
    by : (b : Bool) → is_dump_name name ≡ b → false ≡ b
    by true h = let is = name_is name h in absurd (never is.number is.name_is)
    by false h = refl

-- ---- paths

in_start : (dir name : Word) → in_folder dir name ≡ in_folder dir [] ++ name
in_start dir name = by (ends_with_slash dir)
  where
    by : (b : Bool) → cond b (dir ++ name) (dir ++ (codes "/" ++ name)) ≡ cond b (dir ++ []) (dir ++ codes "/") ++ name
    by true = ap (λ (d : Word). d ++ name) (sym (append-nil dir))
    by false = sym (append_assoc dir (codes "/") name)

-- what is behind the folder decides
pub path_test : (folder name : Word) → is_dump folder (folder ++ name) ≡ is_dump_name name
path_test folder name =
    let same = (bytes_eq-Decides folder folder).1 refl in
    rw (take-append_seam folder name, drop-append_seam folder name, same) refl

-- a path that doesn't begin with the folder's
no_path : (folder path : Word) → ((behind : Word) → path ≢ folder ++ behind) → false ≡ is_dump folder path
no_path folder path never = by (is_dump folder path) refl
  where
    by : (b : Bool) → is_dump folder path ≡ b → false ≡ b
    by false h = refl
    by true h =
        let parts = and_parts (bytes_eq (take (length folder) path) folder) _ h in
        let same = (bytes_eq-Decides (take (length folder) path) folder).0 parts.0 in
        absurd (never (drop (length folder) path) (sym (take-append-drop (length folder) path) ∙ ap (λ (l : Word). l ++ drop (length folder) path) same))

drop_none : (w : Word) → drop 0 w ≡ w
drop_none [] = refl
drop_none (x ∷ xs) = refl

pub lacks_folder : (folder path : Word) → ((behind : Word) → drop 0 path ≢ folder ++ behind) → false ≡ is_dump folder path
lacks_folder folder path never = no_path folder path (λ behind e. never behind (drop_none path ∙ e))

dump_is : (dir path : Word) → is_dump (in_folder dir []) path ≡ true → IsDump dir path
dump_is dir path h =
    let folder = in_folder dir [] in
    let parts = and_parts (bytes_eq (take (length folder) path) folder) (is_dump_name (drop (length folder) path)) h in
    let front = (bytes_eq-Decides (take (length folder) path) folder).0 parts.0 in
    let name = name_is (drop (length folder) path) parts.1 in
    record {
      number = name.number;
      n = name.n;
      number_is = name.number_is;
      path_is = sym (take-append-drop (length folder) path) ∙ ap₂ (λ (a b : Word). a ++ b) front name.name_is ∙ sym (in_start dir (name.number ++ ending));
    }

dump_found : (dir path : Word) → IsDump dir path → is_dump (in_folder dir []) path ≡ true
dump_found dir path d =
    ap (is_dump (in_folder dir [])) (d.path_is ∙ in_start dir (d.number ++ ending)) ∙ path_test (in_folder dir []) (d.number ++ ending)
    ∙ name_test d.number ∙ ap is_some (number_found 256 d.number d.n d.number_is)

-- ---- none of the paths

pub none_holds : (dumps : Option Word) (paths : List Word) → has_dump dumps paths ≡ false → NoneIsDump dumps paths
none_holds None paths h = tt
none_holds (Some dir) paths h = each paths h
  where
    each : (paths : List Word) → list_any (is_dump (in_folder dir [])) paths ≡ false → All (λ path. IsDump dir path → ⊥) paths
    each [] h = All-nil (λ path. IsDump dir path → ⊥)
    each (path ∷ paths) h =
        let both = either-false (is_dump (in_folder dir []) path) (list_any (is_dump (in_folder dir [])) paths) h in
        All-cons (λ path. IsDump dir path → ⊥) path paths (λ d. true≢false (sym (dump_found dir path d) ∙ both.0)) (each paths both.1)

pub none_passes : (dumps : Option Word) (paths : List Word) → NoneIsDump dumps paths → has_dump dumps paths ≡ false
none_passes None paths h = refl
none_passes (Some dir) paths h = list_any_none (is_dump (in_folder dir [])) paths (λ k d within. no_dump (slice_index_or paths k d) (h k d within) _ refl)
  where
    no_dump : (path : Word) → (IsDump dir path → ⊥) → (b : Bool) → is_dump (in_folder dir []) path ≡ b → b ≡ false
    no_dump path none true e = absurd (none (dump_is dir path e))
    no_dump path none false e = refl
