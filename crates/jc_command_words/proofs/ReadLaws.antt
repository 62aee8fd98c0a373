-- What clap finds in the words of a call, and that it takes the words of each command.
use Rattle.std.proofs.Common.{◌≡◌, ◌∙◌, ap, ap₂, sym, subst, refl, ℕ, ◌<◌, ◌^◌, Bool, true, false, ◌&&◌, ◌||◌, List, [], ◌∷◌, ◌++◌, length, Option, Some, None, option_map, codes, cond, ◌==◌, true≢false}
use Rattle.std.proofs.lemmas.Bool.{not-false, and_parts}
use Rattle.std.proofs.lemmas.Bool.Decides.{Decides-eqb}
use Rattle.std.proofs.lemmas.List.{append-nil}
use Rattle.std.proofs.lemmas.Slice.Eq.{bytes_eq-Decides}
use Rattle.std.proofs.lemmas.Option.{same_Some}
use Rattle.std.specs.List.{list_all, list_any, IsDistinct}
use Rattle.std.specs.Str.{bytes_eq}
use Rattle.std.specs.Borrow.{Bor}
use Rattle.std.specs.Option.{IsSome}
use Rattle.clap.specs.Walk.{rows_of}
use Rattle.clap.specs.Matches.{found_of}
use Rattle.clap.specs.Simple.{HasMatchesOf, subcommand_rows_of}
use Rattle.clap.specs.Takes.{takes}
use Rattle.clap.specs.Words.{app_of}
use Rattle.clap.specs.declared.builder.command.Command.{Command}
use Rattle.clap.specs.declared.parser.matches.ArgMatches.{ArgMatches}
use Rattle.jc_command_words.specs.declared.name.CommandName.{CommandName}
use Rattle.jc_command_words.specs.declared.name.CommandName.TheVariants.{Instrument, Run, Merge, Report, ExecInfo, ClassInfo, Cover, Refs, Lines, Check}
use Rattle.jc_command_words.specs.Words.{Word, Use, is_plain, is_valued, use_words, rest_words, value_of}
use Rattle.jc_command_words.specs.Forms.{IsCall, Call, named, text_of, options_of}
use Rattle.jc_command_words.specs.Scan.{Scan, scan}
use Rattle.jc_command_words.specs.Spelled.{options_found, spelled}
use Rattle.jc_command_words.specs.Numbers.{number_up_to}
use Rattle.jc_command_words.specs.Decide.{values_of, is_call, is_stated, sample_of, sample_in, is_sample_of, is_sample, methods_in, command_with}
use Rattle.jc_command_words.specs.Taken.{IsTaken, taken_options}
use Rattle.jc_command_words.specs.Reads.{AreAccepted, CallCut, HasFound, TakenCall}
use Rattle.jc_command_words.specs.Reader.{jcov_app}
use Rattle.jc_command_words.specs.Commands.{Called, cover_sample, Means, by_call, by_sample, NoForm, sample_use}
use Rattle.jc_command_words.proofs.BoolLaws.{both_true}
use Rattle.jc_command_words.proofs.NumberLaws.{number_found}
use Rattle.jc_command_words.proofs.ScanLaws.{SpellsIf, scan_ends}
use Rattle.jc_command_words.proofs.SpelledLaws.{options_are, spelled_finds, spelled_spells}
use Rattle.jc_command_words.proofs.CommandLaws.{call_holds, call_of, name_found, name_is, never_stated, no_command, sample_means, scan_of, scan_of_call, stated_holds}
use Rattle.jc_command_words.proofs.WalkLaws.{call_rows}
use Rattle.jc_command_words.proofs.ReaderLaws.{Read, inner_rows, inner_some, words_read}

-- ---- clap is asked for words that it takes

any_more : (p : Word → Bool) (xs ys : List Word) → list_any p xs ≡ true → list_any p (xs ++ ys) ≡ true
any_more p [] ys h = absurd cc
any_more p (x ∷ xs) ys h = by (p x) refl h (any_more p xs ys)
  where
    by : (b : Bool) → p x ≡ b → (b || list_any p xs) ≡ true → (list_any p xs ≡ true → list_any p (xs ++ ys) ≡ true) → list_any p (x ∷ xs ++ ys) ≡ true
    by true e h rest = rw e refl
    by false e h rest = rw e (rest h)

known_more : (name : CommandName) (option : Word) → list_any (bytes_eq option) (options_of name) ≡ true → list_any (bytes_eq option) (taken_options name) ≡ true
known_more Instrument option h = h
known_more Run option h = h
known_more Merge option h = h
known_more Report option h = h
known_more ExecInfo option h = h
known_more ClassInfo option h = h
known_more Refs option h = h
known_more Lines option h = h
known_more Check option h = h
known_more Cover option h = any_more (bytes_eq option) (options_of Cover) (codes "sample" ∷ []) h

all_known_more : (name : CommandName) (uses : List Use) → list_all (λ u. list_any (bytes_eq u.name) (options_of name)) uses ≡ true
    → list_all (λ u. list_any (bytes_eq u.name) (taken_options name)) uses ≡ true
all_known_more name [] h = refl
all_known_more name (u ∷ us) h =
    let p = and_parts (list_any (bytes_eq u.name) (options_of name)) _ h in
    both_true _ _ (known_more name u.name p.0) (all_known_more name us p.1)

call_taken : (name : CommandName) (uses : List Use) (files : List Word) → IsCall (options_of name) uses files → IsTaken (taken_options name) uses files
call_taken name uses files c = record { known = all_known_more name uses c.known; once = c.once; values = c.values; plain_files = c.plain_files }

sample_alone : (u : Use) → u.name ≡ codes "sample" → is_plain u.value ≡ true → IsTaken (taken_options Cover) (u ∷ []) []
unfolding IsDistinct
sample_alone u e plain = record {
  known = ap (λ (n : Word). list_any (bytes_eq n) (taken_options Cover) && true) e;
  once = (tt, tt);
  values = both_true _ _ (ap (λ (n : Word). is_valued (record { name = n; value = u.value; joined = u.joined })) e ∙ plain) refl;
  plain_files = refl;
}

-- what a test of a sample says
record IsAlone (name : CommandName) (s : Scan) : Type 0 where
  taken : IsTaken (taken_options name) s.uses s.files
  number : sample_in name s ≡ methods_in (value_of s.uses (codes "sample"))
  no_file : s.files ≡ []

alone : (name : CommandName) (s : Scan) → is_sample name s ≡ true → IsAlone name s
alone Instrument s h = absurd cc
alone Run s h = absurd cc
alone Merge s h = absurd cc
alone Report s h = absurd cc
alone ExecInfo s h = absurd cc
alone ClassInfo s h = absurd cc
alone Refs s h = absurd cc
alone Lines s h = absurd cc
alone Check s h = absurd cc
alone Cover s h = by s.uses s.dash s.files h
  where
    by : (uses : List Use) (dash : Bool) (files : List Word) → is_sample_of uses dash files ≡ true → IsAlone Cover (record { uses = uses; dash = dash; files = files })
    by [] dash files h = absurd cc
    by (u ∷ v ∷ us) dash files h = absurd cc
    by (u ∷ []) true files h = absurd cc
    by (u ∷ []) false (f ∷ fs) h = absurd cc
    by (u ∷ []) false [] h =
        let p = and_parts (bytes_eq u.name (codes "sample")) (is_plain u.value) h in
        record { taken = sample_alone u ((bytes_eq-Decides u.name (codes "sample")).0 p.0) p.1; number = rw p.0 refl; no_file = refl }

no_number : (most : ℕ) (text : Word) → is_plain text ≡ false → number_up_to most text ≡ None
no_number most [] h = refl
no_number most (b ∷ bytes) h =
    let dash : b ≡ 45 = (Decides-eqb b 45).0 (not-false (b == 45) h) in
    ap (λ (x : ℕ). number_up_to most (x ∷ bytes)) dash

-- words without a sample have no number of methods
not_alone : (name : CommandName) (s : Scan) → is_sample name s ≡ false → sample_in name s ≡ None
not_alone Instrument s h = refl
not_alone Run s h = refl
not_alone Merge s h = refl
not_alone Report s h = refl
not_alone ExecInfo s h = refl
not_alone ClassInfo s h = refl
not_alone Refs s h = refl
not_alone Lines s h = refl
not_alone Check s h = refl
not_alone Cover s h = by s.uses s.dash s.files h
  where
    one : (u : Use) (a b : Bool) → bytes_eq u.name (codes "sample") ≡ a → is_plain u.value ≡ b → (a && b) ≡ false → cond a (number_up_to 1000 u.value) None ≡ None
    one u true true p q h = cc
    one u true false p q h = no_number 1000 u.value q
    one u false b p q h = refl

    by : (uses : List Use) (dash : Bool) (files : List Word) → is_sample_of uses dash files ≡ false → sample_of uses dash files ≡ None
    by [] dash files h = refl
    by (u ∷ v ∷ us) dash files h = refl
    by (u ∷ []) true files h = refl
    by (u ∷ []) false (f ∷ fs) h = refl
    by (u ∷ []) false [] h = one u (bytes_eq u.name (codes "sample")) (is_plain u.value) refl refl h

-- a sample has no file, and so is of no other form
none_stated : (name : CommandName) (s : Scan) → s.files ≡ [] → is_stated name s ≡ false
none_stated name s none = by (is_stated name s) refl
  where
    by : (b : Bool) → is_stated name s ≡ b → b ≡ false
    by true h = absurd ((call_holds (options_of name) s (and_parts (is_call (options_of name) s) _ h).0).some_file none)
    by false h = refl

plain_number : (most : ℕ) (text : Word) (n : ℕ) → number_up_to most text ≡ Some n → is_plain text ≡ true
plain_number most text n e = by (is_plain text) refl
  where
    by : (b : Bool) → is_plain text ≡ b → b ≡ true
    by true h = refl
    by false h = let none = sym (no_number most text h) ∙ e in cc

-- the words are a call's, which clap takes and of which a scan finds the parts
taken_of : (W : List Word) (command : Called) → Means W command
    → (c : Call) × TakenCall W c × (scan None (rest_words c.uses c.dash c.files) ≡ Some (scan_of c))
taken_of W command (by_call c spelled stated is) = (c, (spelled, call_taken c.name c.uses c.files stated.form), scan_of_call c stated.form)
taken_of W command (by_sample joined value n spelled number is) =
    let u = sample_use joined value in
    let words = append-nil (use_words u ++ []) in
    let c : Call = record { name = Cover; uses = u ∷ []; dash = false; files = [] } in (
      c,
      (
        spelled ∙ ap (λ (l : List Word). codes "cover" ∷ l) (sym (words ∙ append-nil (use_words u))),
        sample_alone u refl (plain_number 1000 value n (number_found 1000 value n number)),
      ),
      ap (scan None) words ∙ scan_ends u refl (λ flag own. absurd (true≢false (sym flag))),
    )

pub uncut : (W : List Word) → ((c : Call) → TakenCall W c → ⊥) → NoForm W
uncut W none = λ command means. let t = taken_of W command means in none t.0 t.1

-- ---- the words of one call alone

module _ (W : List Word) (c : Call) (cut : CallCut W (Some c)) where
  means_cut : (command : Called) → Means W command → scan None (rest_words c.uses c.dash c.files) ≡ Some (scan_of c)
  means_cut command means =
      let t = taken_of W command means in
      subst (λ (d : Call). scan None (rest_words d.uses d.dash d.files) ≡ Some (scan_of d)) (cut.1 t.0 t.1) t.2

  not_stated : sample_in c.name (scan_of c) ≡ None → is_stated c.name (scan_of c) ≡ false → NoForm W
  not_stated none h = λ command means.
      never_stated W (text_of c.name) (rest_words c.uses c.dash c.files) c.name cut.0 (name_found c.name) (scan_of c) (means_cut command means) none h command means

  pub means_sample : (n : ℕ) → is_sample c.name (scan_of c) ≡ true → methods_in (value_of c.uses (codes "sample")) ≡ Some n → Means W (cover_sample n)
  means_sample n h e = subst (λ w. Means w (cover_sample n)) (sym cut.0) (sample_means c.name (scan_of c) n ((alone c.name (scan_of c) h).number ∙ e))

  pub no_sample_number : is_sample c.name (scan_of c) ≡ true → methods_in (value_of c.uses (codes "sample")) ≡ None → NoForm W
  no_sample_number h e =
      let one = alone c.name (scan_of c) h in
      not_stated (one.number ∙ e) (none_stated c.name (scan_of c) one.no_file)

  pub means_call : (command : Called) → is_stated c.name (scan_of c) ≡ true → command_with c.name (values_of c.uses c.files) ≡ Some command → Means W command
  means_call command h e = by_call c cut.0 (stated_holds c h) (call_of c c.name command refl e)

  pub no_call : is_sample c.name (scan_of c) ≡ false → is_stated c.name (scan_of c) ≡ true → command_with c.name (values_of c.uses c.files) ≡ None → NoForm W
  no_call none h e = λ command means.
      no_command W (text_of c.name) (rest_words c.uses c.dash c.files) c.name cut.0 (name_found c.name) (scan_of c) (means_cut command means)
      (not_alone c.name (scan_of c) none) h e command means

  pub unstated : is_sample c.name (scan_of c) ≡ false → is_stated c.name (scan_of c) ≡ false → NoForm W
  unstated none h = not_stated (not_alone c.name (scan_of c) none) h

-- ---- what clap finds in the words of a call

pub has_found : (c : Command) (words : List Word) (m : ArgMatches) → app_of c ≡ jcov_app → HasMatchesOf (app_of c) words m → HasFound words m
unfolding HasFound
has_found c words m e h = subst (λ a. HasMatchesOf a words m) e h

pub takes_them : (c : Command) (words : List Word) → app_of c ≡ jcov_app → AreAccepted words → takes (app_of c) words ≡ true
unfolding AreAccepted
takes_them c words e h = subst (λ a. takes a words ≡ true) (sym e) h

module _ (words : List Word) (c : Call) (short : length words < 2 ^ 32) (taken : TakenCall words c) where
  read_of : Read words c.name c.uses c.files
  read_of = words_read words c.name c.uses c.dash c.files short taken.0 taken.1

  pub are_accepted : AreAccepted words
  unfolding AreAccepted
  are_accepted = read_of.takes_all

  module _ (m : ArgMatches) (o : Option (Bor Word × Bor ArgMatches)) (has : HasFound words m)
      (lends : option_map (λ p. rows_of (found_of p.1.now)) o ≡ option_map (λ p. p.1) (subcommand_rows_of m)) where
    is_found : IsSome o
    unfolding HasFound
    is_found = inner_some m words (text_of c.name) (call_rows c.uses c.files) o has read_of.subcommand lends

    pub no_subcommand : o ≡ None → ⊥
    no_subcommand none = let some = subst (λ o. IsSome o) none is_found in cc

    spelled_is : (x : Bor Word × Bor ArgMatches) → o ≡ Some x
        → spelled (options_found (found_of x.1.now)) (rest_words c.uses c.dash c.files) ≡ Some (scan_of c)
    unfolding HasFound
    spelled_is x e =
        let rows = inner_rows m words (text_of c.name) (call_rows c.uses c.files) o x has read_of.subcommand lends e in
        ap (λ options. spelled options (rest_words c.uses c.dash c.files)) (options_are (found_of x.1.now) c.uses c.files rows read_of.no_file taken.1.once)
        ∙ spelled_finds c.uses c.dash c.files taken.1.plain_files

cons_parts : {X : Type 0} (x y : X) (xs ys : List X) → x ∷ xs ≡ y ∷ ys → (x ≡ y) × (xs ≡ ys)
cons_parts x y xs ys e = (cc, cc)

-- words of which clap finds a subcommand's
module _ (W : List Word) (first : Word) (rest : List Word) (parts : W ≡ first ∷ rest) (short : length W < 2 ^ 32)
    (m : ArgMatches) (o : Option (Bor Word × Bor ArgMatches)) (has : HasFound W m)
    (lends : option_map (λ p. rows_of (found_of p.1.now)) o ≡ option_map (λ p. p.1) (subcommand_rows_of m))
    (x : Bor Word × Bor ArgMatches) (is : o ≡ Some x) where
  rest_is : (c : Call) → TakenCall W c → spelled (options_found (found_of x.1.now)) rest ≡ Some (scan_of c)
  rest_is c taken =
      let p = cons_parts first (text_of c.name) rest (rest_words c.uses c.dash c.files) (sym parts ∙ taken.0) in
      ap (spelled (options_found (found_of x.1.now))) p.1 ∙ spelled_is W c short taken m o has lends x is

  pub not_spelled : spelled (options_found (found_of x.1.now)) rest ≡ None → (c : Call) → TakenCall W c → ⊥
  not_spelled none c taken = let some = sym none ∙ rest_is c taken in cc

  pub call_cut : (name : CommandName) (s : Scan) → named first ≡ Some name → spelled (options_found (found_of x.1.now)) rest ≡ Some s
      → CallCut W (Some (record { name = name; uses = s.uses; dash = s.dash; files = s.files }))
  call_cut name s is_name cut =
      let spells = subst (λ o. SpellsIf o rest) cut (spelled_spells (options_found (found_of x.1.now)) rest) in
      (parts ∙ ap₂ (λ (x : Word) (l : List Word). x ∷ l) (name_is first name is_name) spells, only)
    where
      only : (d : Call) → TakenCall W d → d ≡ record { name = name; uses = s.uses; dash = s.dash; files = s.files }
      only d taken =
          let p = cons_parts first (text_of d.name) rest (rest_words d.uses d.dash d.files) (sym parts ∙ taken.0) in
          let same = same_Some d.name name (sym (ap named p.0 ∙ name_found d.name) ∙ is_name) in
          let parts_same = same_Some (scan_of d) s (sym (rest_is d taken) ∙ cut) in
          ap₂ (λ (n : CommandName) (z : Scan). record { name = n; uses = z.uses; dash = z.dash; files = z.files }) same parts_same
