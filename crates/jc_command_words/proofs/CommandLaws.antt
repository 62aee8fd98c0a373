-- The command that words call, by their parts and by tests.
use Rattle.std.proofs.Common.{◌≡◌, ◌≢◌, ◌∙◌, ap, ap₂, sym, subst, refl, ℕ, ◌≤◌, Bool, true, false, ◌||◌, cond, List, [], ◌∷◌, ◌++◌, map, length, Option, Some, None, arith, codes, true≢false, is_some, nat_eq, ◌⊎◌, inl, inr, unwrap_or, option_map, if◌then◌else◌}
use Rattle.std.proofs.lemmas.Slice.Eq.{bytes_eq-Decides}
use Rattle.std.proofs.lemmas.List.{append-nil, length-map, length-append}
use Rattle.std.proofs.lemmas.Option.{same_Some}
use Rattle.std.proofs.lemmas.Bool.{and_parts, not-true}
use Rattle.std.proofs.lemmas.Bool.Decides.{Decides-eqb}
use Rattle.std.specs.List.{flat_map, list_any, list_all}
use Rattle.std.specs.Str.{bytes_eq}
use Rattle.jc_rules.specs.declared.rule.Rule.{Rule}
use Rattle.jc_command_words.specs.declared.name.CommandName.{CommandName}
use Rattle.jc_command_words.specs.declared.name.CommandName.TheVariants.{Instrument, Run, Merge, Report, ExecInfo, ClassInfo, Cover, Refs, Lines, Check}
use Rattle.jc_command_words.specs.Words.{Word, Use, is_plain, is_valued, use_words, tail_words, rest_words, value_of}
use Rattle.jc_command_words.specs.Forms.{IsCall, Call, text_of, named, options_of, call_words}
use Rattle.jc_paths.specs.Paths.{FileText, file_text, path_of}
use Rattle.jc_command_words.specs.Paths.{are_relative, named_paths, are_distinct}
use Rattle.jc_command_words.specs.Numbers.{IsNumber, number_up_to}
use Rattle.jc_command_words.specs.Scan.{Scan, scan}
use Rattle.jc_command_words.specs.Commands.{Mode, plainly, dumping, monitored, Called, instrument, run, merge, report, exec_info, class_info, cover, cover_sample, refs, lines, check, default_name, IsWorkers, HasWorkers, HasMode, HasRules, IsStated, IsCallOf, files_of, Means, by_call, by_sample, sample_use, NoForm}
use Rattle.jc_command_words.specs.Decide.{is_call, is_some_file, are_apart, is_stated, values_of, workers_in, mode_with, mode_in, instrument_with, run_with, merge_with, report_with, cover_with, rules_given, check_with, command_with, sample_of, sample_in, decide_sample, decide_scan, decide_named, command_of}
use Rattle.jc_command_words.proofs.BoolLaws.{both_true}
use Rattle.jc_command_words.proofs.PathLaws.{distinct_holds, distinct_passes}
use Rattle.jc_command_words.proofs.ScanLaws.{SpellsIf, is_name, scan_finds, scan_ends, scan_spells}
use Rattle.jc_command_words.proofs.NumberLaws.{number_is, number_found}
use Rattle.jc_command_words.proofs.DumpLaws.{none_holds, none_passes}
use Rattle.jc_command_words.proofs.RulesLaws.{rules_are, rules_found}

-- ---- the tests of a form decide it

pub call_holds : (options : List Word) (s : Scan) → is_call options s ≡ true → IsCall options s.uses s.files
call_holds options s h =
    let a = and_parts (list_all (λ u. list_any (bytes_eq u.name) options) s.uses) _ h in
    let b = and_parts (are_distinct (map (λ u. u.name) s.uses)) _ a.1 in
    let d = and_parts (list_all is_valued s.uses) _ b.1 in
    let e = and_parts (list_all is_plain s.files) _ d.1 in
    record { known = a.0; once = distinct_holds (map (λ u. u.name) s.uses) b.0; values = d.0; plain_files = e.0; some_file = some s.files e.1 }
  where
    some : (files : List Word) → is_some_file files ≡ true → files ≢ []
    some [] h = absurd (true≢false (sym h))
    some (f ∷ fs) h = λ e. cc

call_passes : (options : List Word) (s : Scan) → IsCall options s.uses s.files → is_call options s ≡ true
call_passes options s c = rw (c.known, distinct_passes (map (λ u. u.name) s.uses) c.once, c.values, c.plain_files, some s.files c.some_file) refl
  where
    some : (files : List Word) → files ≢ [] → is_some_file files ≡ true
    some [] h = absurd (h refl)
    some (f ∷ fs) h = refl

abbrev pub scan_of : Call → Scan
scan_of c = record { uses = c.uses; dash = c.dash; files = c.files }

pub stated_holds : (c : Call) → is_stated c.name (scan_of c) ≡ true → IsStated c
stated_holds c h =
    let a = and_parts (is_call (options_of c.name) (scan_of c)) _ h in
    let b = and_parts (are_relative c.name c.files) (are_apart c.uses c.files) a.1 in
    let paths = named_paths c.uses c.files in
    let d = and_parts (are_distinct paths) _ b.1 in
    record {
      form = call_holds (options_of c.name) (scan_of c) a.0;
      relative = b.0;
      distinct = distinct_holds paths d.0;
      no_dump = none_holds (value_of c.uses (codes "dumps")) paths (not-true _ d.1);
    }

stated_passes : (c : Call) → IsStated c → is_stated c.name (scan_of c) ≡ true
stated_passes c s =
    let paths = named_paths c.uses c.files in
    let no_dump = none_passes (value_of c.uses (codes "dumps")) paths s.no_dump in
    rw (call_passes (options_of c.name) (scan_of c) s.form, s.relative, distinct_passes paths s.distinct, no_dump) refl

-- ---- the command of a call

workers_are : (o : Option Word) (n : ℕ) → workers_in o ≡ Some n → IsWorkers o n
workers_are None n e = sym (same_Some 1 n e)
workers_are (Some text) n e = number_is 16 text n e

workers_found : (o : Option Word) (n : ℕ) → IsWorkers o n → workers_in o ≡ Some n
workers_found None n e = ap Some (sym e)
workers_found (Some text) n e = number_found 16 text n e

-- what the command is made of
module _ (c : Call) where
  by_instrument : (dest : Option Word) (command : Called) → value_of c.uses (codes "dest") ≡ dest → c.name ≡ Instrument
      → instrument_with dest c.files ≡ Some command → IsCallOf c command
  by_instrument None command d n e = absurd cc
  by_instrument (Some dest) command d n e = subst (IsCallOf c) (same_Some (instrument dest (map file_text c.files)) command e) (n, d, refl)

  mode_is : (monitors dumps every : Option Word) (workers : Option ℕ) (mode : Mode) → value_of c.uses (codes "monitors") ≡ monitors
      → value_of c.uses (codes "dumps") ≡ dumps → value_of c.uses (codes "every") ≡ every → workers_in (value_of c.uses (codes "workers")) ≡ workers
      → mode_with (is_some monitors) dumps every workers ≡ Some mode → HasMode c mode
  mode_is None dumps every None mode t d v w e = absurd cc
  mode_is (Some x) dumps every None mode t d v w e = absurd cc
  mode_is None None None (Some workers) mode t d v w e =
      subst (HasMode c) (same_Some (plainly workers) mode e) (t, d, v, workers_are (value_of c.uses (codes "workers")) workers w)
  mode_is None None (Some text) (Some workers) mode t d v w e = absurd cc
  mode_is None (Some dir) None (Some workers) mode t d v w e = absurd cc
  mode_is None (Some dir) (Some text) (Some workers) mode t d v w e = by (number_up_to 256 text) refl e
    where
      by : (o : Option ℕ) → number_up_to 256 text ≡ o → option_map (λ every. dumping dir every workers) o ≡ Some mode → HasMode c mode
      by None n e = absurd cc
      by (Some every) n e =
          subst (HasMode c) (same_Some (dumping dir every workers) mode e)
          (t, d, (text, v, number_is 256 text every n), workers_are (value_of c.uses (codes "workers")) workers w)
  mode_is (Some x) (Some dir) every (Some workers) mode t d v w e = absurd cc
  mode_is (Some x) None (Some text) (Some workers) mode t d v w e = absurd cc
  mode_is (Some x) None None (Some workers) mode t d v w e = by (nat_eq workers 1) refl e
    where
      by : (b : Bool) → nat_eq workers 1 ≡ b → cond b (Some monitored) None ≡ Some mode → HasMode c mode
      by false n e = absurd cc
      by true n e =
          let one : workers ≡ 1 = (Decides-eqb workers 1).0 n in
          subst (HasMode c) (same_Some monitored mode e) ((x, t), d, v, subst (HasWorkers c) one (workers_are (value_of c.uses (codes "workers")) workers w))

  mode_made : (mode : Mode) → HasMode c mode → mode_in (values_of c.uses c.files) ≡ Some mode
  mode_made (plainly workers) h = rw (h.0, h.1, h.2, workers_found (value_of c.uses (codes "workers")) workers h.3) refl
  mode_made (dumping dir every workers) h =
      let text = h.2 in
      rw (h.0, h.1, text.1, workers_found (value_of c.uses (codes "workers")) workers h.3, number_found 256 text.0 every text.2) refl
  mode_made monitored h = let used = h.0 in rw (used.1, h.1, h.2, workers_found (value_of c.uses (codes "workers")) 1 h.3) refl

  by_run : (plan destfile : Option Word) (mode : Option Mode) (command : Called) → value_of c.uses (codes "plan") ≡ plan
      → value_of c.uses (codes "destfile") ≡ destfile → mode_in (values_of c.uses c.files) ≡ mode → c.name ≡ Run
      → run_with plan destfile mode c.files ≡ Some command → IsCallOf c command
  by_run None destfile mode command p d m n e = absurd cc
  by_run (Some plan) None mode command p d m n e = absurd cc
  by_run (Some plan) (Some destfile) None command p d m n e = absurd cc
  by_run (Some plan) (Some destfile) (Some mode) command p d m n e =
      let monitors = value_of c.uses (codes "monitors") in
      let dumps = value_of c.uses (codes "dumps") in
      let every = value_of c.uses (codes "every") in
      let is = mode_is monitors dumps every (workers_in (value_of c.uses (codes "workers"))) mode refl refl refl refl m in
      subst (IsCallOf c) (same_Some (run plan destfile mode (map file_text c.files)) command e) (n, p, d, is, refl)

  by_merge : (destfile : Option Word) (command : Called) → value_of c.uses (codes "destfile") ≡ destfile → c.name ≡ Merge
      → merge_with destfile c.files ≡ Some command → IsCallOf c command
  by_merge None command d n e = absurd cc
  by_merge (Some destfile) command d n e = subst (IsCallOf c) (same_Some (merge destfile c.files) command e) (n, d, refl)

  by_report : (csv : Option Word) (command : Called) → value_of c.uses (codes "csv") ≡ csv → c.name ≡ Report
      → report_with csv (unwrap_or (value_of c.uses (codes "name")) default_name) (value_of c.uses (codes "exec")) c.files ≡ Some command → IsCallOf c command
  by_report None command d n e = absurd cc
  by_report (Some csv) command d n e =
      subst (IsCallOf c) (same_Some (report csv (unwrap_or (value_of c.uses (codes "name")) default_name) (value_of c.uses (codes "exec")) (map file_text c.files)) command e) (n, d, refl, refl, refl)

  by_cover : (dest plan destfile csv : Option Word) (workers : Option ℕ) (command : Called) → value_of c.uses (codes "dest") ≡ dest → value_of c.uses (codes "plan") ≡ plan
      → value_of c.uses (codes "destfile") ≡ destfile → value_of c.uses (codes "csv") ≡ csv → workers_in (value_of c.uses (codes "workers")) ≡ workers → c.name ≡ Cover
      → cover_with dest plan destfile csv workers (unwrap_or (value_of c.uses (codes "name")) default_name) c.files ≡ Some command → IsCallOf c command
  by_cover None plan destfile csv workers command t p d v w n e = absurd cc
  by_cover (Some dest) None destfile csv workers command t p d v w n e = absurd cc
  by_cover (Some dest) (Some plan) None csv workers command t p d v w n e = absurd cc
  by_cover (Some dest) (Some plan) (Some destfile) None workers command t p d v w n e = absurd cc
  by_cover (Some dest) (Some plan) (Some destfile) (Some csv) None command t p d v w n e = absurd cc
  by_cover (Some dest) (Some plan) (Some destfile) (Some csv) (Some workers) command t p d v w n e =
      subst (IsCallOf c) (same_Some (cover dest plan destfile csv workers (unwrap_or (value_of c.uses (codes "name")) default_name) (map file_text c.files)) command e)
      (n, t, p, d, v, workers_are (value_of c.uses (codes "workers")) workers w, refl, refl)

  rules_are_given : (text : Option Word) (rules : List Rule) → value_of c.uses (codes "min") ≡ text → rules_given text ≡ Some rules → HasRules c rules
  rules_are_given None rules g e = absurd cc
  rules_are_given (Some text) rules g e = (text, g, rules_are text rules e)

  by_check : (rules : Option (List Rule)) (command : Called) → rules_given (value_of c.uses (codes "min")) ≡ rules → c.name ≡ Check
      → check_with rules (value_of c.uses (codes "exec")) c.files ≡ Some command → IsCallOf c command
  by_check None command r n e = absurd cc
  by_check (Some rules) command r n e =
      subst (IsCallOf c) (same_Some (check rules (value_of c.uses (codes "exec")) (map file_text c.files)) command e)
      (n, rules_are_given (value_of c.uses (codes "min")) rules refl r, refl, refl)

  pub call_of : (name : CommandName) (command : Called) → c.name ≡ name → command_with name (values_of c.uses c.files) ≡ Some command → IsCallOf c command
  call_of Instrument command n e = by_instrument (value_of c.uses (codes "dest")) command refl n e
  call_of Run command n e =
      by_run (value_of c.uses (codes "plan")) (value_of c.uses (codes "destfile")) (mode_in (values_of c.uses c.files)) command refl refl refl n e
  call_of Merge command n e = by_merge (value_of c.uses (codes "destfile")) command refl n e
  call_of Report command n e = by_report (value_of c.uses (codes "csv")) command refl n e
  call_of ExecInfo command n e = subst (IsCallOf c) (same_Some (exec_info c.files) command e) (n, refl)
  call_of ClassInfo command n e = subst (IsCallOf c) (same_Some (class_info (map file_text c.files)) command e) (n, refl)
  call_of Cover command n e =
      by_cover (value_of c.uses (codes "dest")) (value_of c.uses (codes "plan")) (value_of c.uses (codes "destfile")) (value_of c.uses (codes "csv"))
      (workers_in (value_of c.uses (codes "workers"))) command refl refl refl refl refl n e
  call_of Refs command n e = subst (IsCallOf c) (same_Some (refs (map file_text c.files)) command e) (n, refl)
  call_of Lines command n e =
      subst (IsCallOf c) (same_Some (lines (value_of c.uses (codes "exec")) (map file_text c.files)) command e) (n, refl, refl)
  call_of Check command n e = by_check (rules_given (value_of c.uses (codes "min"))) command refl n e

  command_made : (command : Called) → IsCallOf c command → command_with c.name (values_of c.uses c.files) ≡ Some command
  command_made (instrument dest files) h = rw (h.0, h.1, h.2) refl
  command_made (run plan destfile mode files) h = rw (h.0, h.1, h.2, mode_made mode h.3, h.4) refl
  command_made (merge destfile inputs) h = rw (h.0, h.1, h.2) refl
  command_made (report csv name exec files) h = rw (h.0, h.1, h.2, h.3, h.4) refl
  command_made (exec_info inputs) h = rw (h.0, h.1) refl
  command_made (class_info files) h = rw (h.0, h.1) refl
  command_made (cover dest plan destfile csv workers name files) h =
      rw (h.0, h.1, h.2, h.3, h.4, workers_found (value_of c.uses (codes "workers")) workers h.5, h.6, h.7) refl
  command_made (cover_sample methods) h = absurd h
  command_made (refs files) h = rw (h.0, h.1) refl
  command_made (lines exec files) h = rw (h.0, h.1, h.2) refl
  command_made (check rules exec files) h =
      let text = h.1 in
      rw (h.0, text.1, rules_found text.0 rules text.2, h.2, h.3) refl

-- ---- names

pub name_is : (word : Word) (name : CommandName) → named word ≡ Some name → word ≡ text_of name
name_is word name e =
    one Instrument (one Run (one Merge (one Report (one ExecInfo (one ClassInfo (one Cover (one Refs (one Lines (one Check none))))))))) e
  where
    none : None ≡ Some name → word ≡ text_of name
    none e = absurd cc

    by : (b : Bool) (this : CommandName) (other : Option CommandName) → bytes_eq word (text_of this) ≡ b → (other ≡ Some name → word ≡ text_of name)
        → cond b (Some this) other ≡ Some name → word ≡ text_of name
    by true this other h more e = (bytes_eq-Decides word (text_of this)).0 h ∙ ap text_of (same_Some this name e)
    by false this other h more e = more e

    one : {other : Option CommandName} (this : CommandName) → (other ≡ Some name → word ≡ text_of name)
        → cond (bytes_eq word (text_of this)) (Some this) other ≡ Some name → word ≡ text_of name
    one {other} this more e = by (bytes_eq word (text_of this)) this other refl more e

pub name_found : (name : CommandName) → named (text_of name) ≡ Some name
name_found Instrument = refl
name_found Run = refl
name_found Merge = refl
name_found Report = refl
name_found ExecInfo = refl
name_found ClassInfo = refl
name_found Cover = refl
name_found Refs = refl
name_found Lines = refl
name_found Check = refl

-- each option of a command is a name
options_are_names : (name : CommandName) → list_all is_name (options_of name) ≡ true
options_are_names Instrument = refl
options_are_names Run = refl
options_are_names Merge = refl
options_are_names Report = refl
options_are_names ExecInfo = refl
options_are_names ClassInfo = refl
options_are_names Cover = refl
options_are_names Refs = refl
options_are_names Lines = refl
options_are_names Check = refl

known_name : (options : List Word) → list_all is_name options ≡ true → (name : Word) → list_any (bytes_eq name) options ≡ true → is_name name ≡ true
known_name [] all name h = absurd (true≢false (sym h))
known_name (o ∷ os) all name h = by (bytes_eq name o) refl h (known_name os (and_parts (is_name o) _ all).1 name)
  where
    by : (b : Bool) → bytes_eq name o ≡ b → (b || list_any (bytes_eq name) os) ≡ true → (list_any (bytes_eq name) os ≡ true → is_name name ≡ true) → is_name name ≡ true
    by true e h rest = ap is_name ((bytes_eq-Decides name o).0 e) ∙ (and_parts (is_name o) _ all).0
    by false e h rest = rest h

known_names : (options : List Word) → list_all is_name options ≡ true → (uses : List Use) → list_all (λ u. list_any (bytes_eq u.name) options) uses ≡ true → list_all (λ u. is_name u.name) uses ≡ true
known_names options all [] h = refl
known_names options all (u ∷ us) h =
    let p = and_parts (list_any (bytes_eq u.name) options) (list_all (λ u. list_any (bytes_eq u.name) options) us) h in
    both_true _ _ (known_name options all u.name p.0) (known_names options all us p.1)

-- ---- words that were cut

pub scan_of_call : (c : Call) → IsCall (options_of c.name) c.uses c.files → scan None (rest_words c.uses c.dash c.files) ≡ Some (scan_of c)
scan_of_call c call = by c.files refl
  where
    by : (files : List Word) → c.files ≡ files → scan None (rest_words c.uses c.dash c.files) ≡ Some (scan_of c)
    by [] e = absurd (call.some_file e)
    by (f ∷ fs) e =
        let plain = subst (λ l. list_all is_plain l ≡ true) e call.plain_files in
        subst (λ l. scan None (rest_words c.uses c.dash l) ≡ Some (record { uses = c.uses; dash = c.dash; files = l })) (sym e)
        (scan_finds c.uses c.dash f fs (known_names (options_of c.name) (options_are_names c.name) c.uses call.known) call.values
        (and_parts (is_plain f) (list_all is_plain fs) plain).0)

-- a call with a file is no sample
no_sample : (c : Call) → c.files ≢ [] → sample_in c.name (scan_of c) ≡ None
no_sample c some = by c.name c.uses c.dash c.files some
  where
    by : (name : CommandName) (uses : List Use) (dash : Bool) (files : List Word) → files ≢ [] → sample_in name (record { uses = uses; dash = dash; files = files }) ≡ None
    by Instrument uses dash files some = refl
    by Run uses dash files some = refl
    by Merge uses dash files some = refl
    by Report uses dash files some = refl
    by ExecInfo uses dash files some = refl
    by ClassInfo uses dash files some = refl
    by Refs uses dash files some = refl
    by Lines uses dash files some = refl
    by Check uses dash files some = refl
    by Cover uses dash [] some = absurd (some refl)
    by Cover [] dash (f ∷ fs) some = refl
    by Cover (u ∷ []) true (f ∷ fs) some = refl
    by Cover (u ∷ []) false (f ∷ fs) some = refl
    by Cover (u ∷ v ∷ us) dash (f ∷ fs) some = refl

pub found : (words : List Word) (command : Called) → Means words command → command_of words ≡ Some command
found words command (by_call c spelled stated is) =
    ap command_of spelled
    ∙ ap₂ decide_named (name_found c.name) (scan_of_call c stated.form)
    ∙ ap (λ o. decide_sample o c.name (scan_of c)) (no_sample c stated.form.some_file)
    ∙ ap (λ b. cond b (command_with c.name (values_of c.uses c.files)) None) (stated_passes c stated)
    ∙ command_made c command is
found words command (by_sample joined value n spelled number is) =
    ap command_of spelled
    ∙ ap (λ o. decide_scan Cover o)
    (ap (scan None) (sym (append-nil (use_words (sample_use joined value))))
    ∙ scan_ends (sample_use joined value) refl (λ flag own. absurd (true≢false (sym flag))))
    ∙ ap (λ o. decide_sample o Cover (record { uses = sample_use joined value ∷ []; dash = false; files = [] })) (number_found 1000 value n number)
    ∙ ap Some (sym is)

same_scan : (s : Scan) (u : Use) → s.uses ≡ u ∷ [] → s.dash ≡ false → s.files ≡ [] → s ≡ record { uses = u ∷ []; dash = false; files = [] }
same_scan s u p q r =
    ap (λ (us : List Use). record { uses = us; dash = s.dash; files = s.files }) p
    ∙ ap (λ (d : Bool). record { uses = u ∷ []; dash = d; files = s.files }) q
    ∙ ap (λ (fs : List Word). record { uses = u ∷ []; dash = false; files = fs }) r

sample_is : (name : CommandName) (s : Scan) (n : ℕ) → sample_in name s ≡ Some n
    → (joined : Bool) × (value : Word) × (name ≡ Cover) × (s ≡ record { uses = sample_use joined value ∷ []; dash = false; files = [] }) × IsNumber 1000 value n
sample_is Instrument s n e = absurd cc
sample_is Run s n e = absurd cc
sample_is Merge s n e = absurd cc
sample_is Report s n e = absurd cc
sample_is ExecInfo s n e = absurd cc
sample_is ClassInfo s n e = absurd cc
sample_is Refs s n e = absurd cc
sample_is Lines s n e = absurd cc
sample_is Check s n e = absurd cc
sample_is Cover s n e = by s.uses s.dash s.files refl refl refl e
  where
    one : (u : Use) (b : Bool) → bytes_eq u.name (codes "sample") ≡ b → cond b (number_up_to 1000 u.value) None ≡ Some n → (u.name ≡ codes "sample") × (number_up_to 1000 u.value ≡ Some n)
    one u true h e = ((bytes_eq-Decides u.name (codes "sample")).0 h, e)
    one u false h e = absurd cc

    by : (uses : List Use) (dash : Bool) (files : List Word) → s.uses ≡ uses → s.dash ≡ dash → s.files ≡ files → sample_of uses dash files ≡ Some n
        → (joined : Bool) × (value : Word) × (Cover ≡ Cover) × (s ≡ record { uses = sample_use joined value ∷ []; dash = false; files = [] }) × IsNumber 1000 value n
    by [] dash files p q r e = absurd cc
    by (u ∷ v ∷ us) dash files p q r e = absurd cc
    by (u ∷ []) true files p q r e = absurd cc
    by (u ∷ []) false (f ∷ fs) p q r e = absurd cc
    by (u ∷ []) false [] p q r e =
        let h = one u (bytes_eq u.name (codes "sample")) refl e in
        let same : u ≡ sample_use u.joined u.value = ap (λ (name : Word). record { name = name; value = u.value; joined = u.joined }) h.0 in
        (u.joined, u.value, refl, same_scan s (sample_use u.joined u.value) (p ∙ ap (λ (v : Use). v ∷ []) same) q r, number_is 1000 u.value n h.1)

pub sample_means : (name : CommandName) (s : Scan) (n : ℕ) → sample_in name s ≡ Some n
    → Means (text_of name ∷ rest_words s.uses s.dash s.files) (cover_sample n)
sample_means name s n e =
    let t = sample_is name s n e in
    let u = sample_use t.0 t.1 in
    by_sample t.0 t.1 n
    (ap₂ (λ (x : Word) (l : List Word). x ∷ l) (ap text_of t.2)
    (ap (λ z. rest_words z.uses z.dash z.files) t.3 ∙ append-nil (use_words u ++ []) ∙ append-nil (use_words u)))
    t.4 refl

decided : (words : List Word) (command : Called) → command_of words ≡ Some command → Means words command
decided [] command e = absurd cc
decided (first ∷ rest) command e = by (named first) (scan None rest) refl refl e
  where
    stated : (name : CommandName) (s : Scan) → first ≡ text_of name → rest ≡ rest_words s.uses s.dash s.files → (b : Bool) → is_stated name s ≡ b
        → cond b (command_with name (values_of s.uses s.files)) None ≡ Some command → Means (first ∷ rest) command
    stated name s p q false h e = absurd cc
    stated name s p q true h e =
        let c : Call = record { name = name; uses = s.uses; dash = s.dash; files = s.files } in
        by_call c (ap₂ (λ (x : Word) (l : List Word). x ∷ l) p q) (stated_holds c h) (call_of c name command refl e)

    decide : (name : CommandName) (s : Scan) → first ≡ text_of name → rest ≡ rest_words s.uses s.dash s.files → (o : Option ℕ) → sample_in name s ≡ o
        → decide_sample o name s ≡ Some command → Means (first ∷ rest) command
    decide name s p q None h e = stated name s p q (is_stated name s) refl e
    decide name s p q (Some n) h e =
        subst (λ c. Means (first ∷ rest) c) (same_Some (cover_sample n) command e)
        (subst (λ w. Means w (cover_sample n)) (sym (ap₂ (λ (x : Word) (l : List Word). x ∷ l) p q)) (sample_means name s n h))

    by : (name : Option CommandName) (s : Option Scan) → named first ≡ name → scan None rest ≡ s → decide_named name s ≡ Some command → Means (first ∷ rest) command
    by None s p q e = absurd cc
    by (Some name) None p q e = absurd cc
    by (Some name) (Some s) p q e =
        decide name s (name_is first name p) (subst (λ o. SpellsIf o rest) q (scan_spells rest)) (sample_in name s) refl e

-- ---- each list of words calls one command, or none

pub no_form : (words : List Word) → command_of words ≡ None → NoForm words
no_form words e = λ command means. let h = sym e ∙ found words command means in cc

pub one_command : (words : List Word) (a b : Called) → Means words a → Means words b → a ≡ b
one_command words a b m n = same_Some a b (sym (found words a m) ∙ found words b n)

pub some_or_none : (words : List Word) → ((command : Called) × Means words command) ⊎ NoForm words
some_or_none words = by (command_of words) refl
  where
    by : (o : Option Called) → command_of words ≡ o → ((command : Called) × Means words command) ⊎ NoForm words
    by (Some command) e = inl (command, decided words command e)
    by None e = inr (no_form words e)

-- ---- how many files there are

tail_length : (dash : Bool) (files : List Word) → length files ≤ length (tail_words dash files)
tail_length true files = omega arith
tail_length false files = omega arith

files_within : (c : Call) → length c.files ≤ length (call_words c)
files_within c = omega (arith, length-append (flat_map use_words c.uses) (tail_words c.dash c.files), tail_length c.dash c.files)

files_are : (c : Call) (files : List FileText) → files ≡ map file_text c.files → length (map path_of files) ≤ length c.files
files_are c files e =
    let same = ap length e in
    omega (arith, same, length-map files path_of, length-map c.files file_text)

files_of_call : (c : Call) (command : Called) → IsCallOf c command → length (files_of command) ≤ length c.files
files_of_call c (instrument dest files) h = files_are c files h.2
files_of_call c (run plan destfile mode files) h = files_are c files h.4
files_of_call c (merge destfile inputs) h = let same = ap length h.2 in omega (arith, same)
files_of_call c (report csv name exec files) h = files_are c files h.4
files_of_call c (exec_info inputs) h = let same = ap length h.1 in omega (arith, same)
files_of_call c (class_info files) h = files_are c files h.1
files_of_call c (cover dest plan destfile csv workers name files) h = files_are c files h.7
files_of_call c (cover_sample methods) h = absurd h
files_of_call c (refs files) h = files_are c files h.1
files_of_call c (lines exec files) h = files_are c files h.2
files_of_call c (check rules exec files) h = files_are c files h.3

pub few_files : (words : List Word) (command : Called) → Means words command → length (files_of command) ≤ length words
few_files words command (by_call c spelled stated is) = let same = ap length spelled in omega (arith, same, files_within c, files_of_call c command is)
few_files words command (by_sample joined value n spelled number is) = let none = ap (λ (d : Called). length (files_of d)) is in omega (arith, none)

-- ---- words behind a name

module _ (W : List Word) (first : Word) (rest : List Word) (name : CommandName) (parts : W ≡ first ∷ rest) (is : named first ≡ Some name)
    (s : Scan) (cut : scan None rest ≡ Some s) where
  as_decided : command_of W ≡ decide_sample (sample_in name s) name s
  as_decided = ap command_of parts ∙ ap₂ decide_named is cut

  pub never_stated : sample_in name s ≡ None → is_stated name s ≡ false → NoForm W
  never_stated none not_stated =
      no_form W (as_decided ∙ ap (λ (o : Option ℕ). decide_sample o name s) none
      ∙ ap (λ (b : Bool). cond b (command_with name (values_of s.uses s.files)) None) not_stated)

  pub no_command : sample_in name s ≡ None → is_stated name s ≡ true → command_with name (values_of s.uses s.files) ≡ None → NoForm W
  no_command none stated lacks =
      no_form W (as_decided ∙ ap (λ (o : Option ℕ). decide_sample o name s) none
      ∙ ap (λ (b : Bool). cond b (command_with name (values_of s.uses s.files)) None) stated ∙ lacks)
