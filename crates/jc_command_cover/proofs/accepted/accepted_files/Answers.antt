use Rattle.std.proofs.Common.{◌≡◌, ◌∙◌, ℕ, List, [], ◌∷◌, map, refl, ap, sym}
use Rattle.std.specs.Borrow.{Bor}
use Rattle.std.proofs.lemmas.Simd.{map-map}
use Rattle.jc_paths.specs.Paths.{in_folder}
use Rattle.jc_headline.specs.CoverWork.{LookedFile, accepted}
use Rattle.jc_command_work.specs.Seen.{texts_of}
use Rattle.jc_command_work.specs.Step.{FilesRead}
use Rattle.jc_command_cover.proofs.AcceptedLaws.{kept_texts, kept_targets}
use Rattle.jc_command_cover.proofs.accepted.accepted_files.Goals as goal

as_items : (texts : List (List ℕ)) → map (λ (t : List ℕ). t) texts ≡ texts
as_items [] = refl
as_items (t ∷ texts) = ap (λ (ts : List (List ℕ)). t ∷ ts) (as_items texts)

pub new-inputs-requires : goal.new-inputs-requires
new-inputs-requires c =
    let now = λ (t : Bor (List ℕ)). t.now in
    let looked = c.requires.looked in
    let all = c.requires.of in
    let same = c.into_parts-inputs.ensures.inputs in
    let parts = c.into_parts-paths.ensures in
    let paths_are = parts.paths ∙ ap (λ (f : FilesRead). f.paths) same ∙ all.paths_are in
    let texts_are = parts.texts ∙ ap (λ (f : FilesRead). f.texts) same ∙ all.texts_are in
    kept_texts looked (texts_of c.into_parts-paths.result.0.items) (texts_of c.in_ok-paths.paths.items) c.into_parts-paths.result.1.items c.in_ok-texts.texts.items paths_are texts_are
    (c.in_ok-paths.ensures now (λ l. l.file) looked paths_are (c.deref.ensures.value ∙ all.places_are))
    (sym (as_items c.in_ok-texts.texts.items)
    ∙ c.in_ok-texts.ensures (λ t. t) (λ l. l.bytes) looked (as_items c.into_parts-paths.result.1.items ∙ texts_are) (c.deref-3.ensures.value ∙ all.places_are))
    parts.read

pub new-files-requires : goal.new-files-requires
new-files-requires c =
    let now = λ (t : Bor (List ℕ)). t.now in
    let dest = c.requires.dest in
    let looked = c.requires.looked in
    let all = c.requires.of in
    let targets_are = c.into_parts-inputs.ensures.targets ∙ all.targets_are ∙ map-map (in_folder dest) (λ (l : LookedFile). l.file) looked in
    let texts_are = c.into_parts-paths.ensures.texts ∙ ap (λ (f : FilesRead). f.texts) c.into_parts-inputs.ensures.inputs ∙ all.texts_are in
    kept_targets dest looked c.in_ok-targets.targets.items c.new-inputs.result.texts
    (c.in_ok-targets.ensures now (λ l. in_folder dest l.file) looked targets_are (c.deref-2.ensures.value ∙ all.places_are))
    (c.new-inputs.ensures.texts ∙ sym (as_items c.in_ok-texts.texts.items)
    ∙ c.in_ok-texts.ensures (λ t. t) (λ l. l.bytes) looked (as_items c.into_parts-paths.result.1.items ∙ texts_are) (c.deref-3.ensures.value ∙ all.places_are))

pub returns : goal.returns
returns c dest looked all =
    let now = λ (t : Bor (List ℕ)). t.now in
    let same = c.into_parts-inputs.ensures.inputs in
    let paths_are = c.into_parts-paths.ensures.paths ∙ ap (λ (f : FilesRead). f.paths) same ∙ all.paths_are in
    let targets_are = c.into_parts-inputs.ensures.targets ∙ all.targets_are ∙ map-map (in_folder dest) (λ (l : LookedFile). l.file) looked in
    let texts_are = c.into_parts-paths.ensures.texts ∙ ap (λ (f : FilesRead). f.texts) same ∙ all.texts_are in
    let kept = c.new-files.ensures.inputs in
    record {
      places = all.places_are;
      paths = ap (λ (f : FilesRead). f.paths) kept ∙ c.new-inputs.ensures.paths
          ∙ c.in_ok-paths.ensures now (λ l. l.file) looked paths_are (c.deref.ensures.value ∙ all.places_are);
      targets = c.new-files.ensures.targets
          ∙ c.in_ok-targets.ensures now (λ l. in_folder dest l.file) looked targets_are (c.deref-2.ensures.value ∙ all.places_are)
          ∙ sym (map-map (in_folder dest) (λ (l : LookedFile). l.file) (accepted looked));
      texts = ap (λ (f : FilesRead). f.texts) kept ∙ c.new-inputs.ensures.texts ∙ sym (as_items c.in_ok-texts.texts.items)
          ∙ c.in_ok-texts.ensures (λ t. t) (λ l. l.bytes) looked (as_items c.into_parts-paths.result.1.items ∙ texts_are) (c.deref-3.ensures.value ∙ all.places_are);
    }
