-- clap takes the words of each call, and its matches are what the call says.
use Rattle.std.proofs.Common.{◌≡◌, ◌∙◌, ap, ap₂, sym, subst, refl, ℕ, ◌≤◌, ◌<◌, ◌^◌, zero, suc, Bool, true, false, ◌&&◌, ◌||◌, List, [], ◌∷◌, ◌++◌, map, length, Option, Some, None, if◌then◌else◌, arith, append_assoc, codes, find, option_map, nat_le, is_some, length-append}
use Rattle.std.proofs.lemmas.List.{append-nil}
use Rattle.std.proofs.lemmas.Slice.Eq.{bytes_eq-Decides}
use Rattle.std.proofs.lemmas.Bool.Decides.{Decides-eqb, nat_tests}
use Rattle.std.proofs.lemmas.Bool.{and_parts}
use Rattle.std.specs.List.{fold, flat_map, list_all, list_any, AllByRecursion, IsDistinct}
use Rattle.std.specs.Str.{bytes_eq}
use Rattle.std.specs.Borrow.{Bor}
use Rattle.std.specs.Option.{option_map_or, IsSome}
use Rattle.clap.specs.Lexer.{long_of, usize_max}
use Rattle.clap.specs.Walk.{Row, Rule, Text, Walk, Names, answers_to, arg_by_id, arg_by_index, arg_by_long, default_rows, finished, has_row, is_empty, nothing_held, reading_by, rows_of, walked, walk_from, with_default}
use Rattle.clap.specs.Simple.{App, Shape, HasMatchesOf, built, entered, rows_at, label_of, names_of, new_shape, subcommand_of, subcommand_rows_of}
use Rattle.clap.specs.Takes.{default_passes, entered_passes, is_valid, level_passes, settle_passes, takes, walk_passes}
use Rattle.clap.specs.Matches.{found_of}
use Rattle.clap.specs.declared.builder.value_parser.Reading.{Reading}
use Rattle.clap.specs.declared.parser.matches.ArgMatches.{ArgMatches}
use Rattle.clap.proofs.OnLiterals.{clap_on_literals}
use Rattle.jc_command_words.specs.declared.name.CommandName.{CommandName}
use Rattle.jc_command_words.specs.declared.name.CommandName.TheVariants.{Instrument, Run, Merge, Report, ExecInfo, ClassInfo, Cover, Refs, Lines, Check}
use Rattle.jc_command_words.specs.Words.{Use, Word, is_flag, is_plain, is_valued, tail_words, use_words, rest_words}
use Rattle.jc_command_words.specs.Forms.{text_of}
use Rattle.jc_command_words.specs.Reader.{jcov_app}
use Rattle.jc_command_words.specs.Taken.{IsTaken, taken_options}
use Rattle.jc_command_words.proofs.BoolLaws.{both_true, either-false}
use Rattle.jc_command_words.proofs.WalkLaws.{IsTold, with_value, bare, IsReader, GoodUses, AllPlain, at, call_rows, fil, file_fresh, level_rows, level_takes, opt, flg, passes-append_at, row_of_use}

-- ---- the commands, as they are read

abbrev pub B : App
B = built jcov_app

abbrev shape_at : ℕ → List Shape → Shape
shape_at n [] = new_shape []
shape_at zero (x ∷ xs) = x
shape_at (suc n) (x ∷ xs) = shape_at n xs

abbrev place_of : CommandName → ℕ
place_of Instrument = zero
place_of Run = suc zero
place_of Merge = suc (suc zero)
place_of Report = suc (suc (suc zero))
place_of ExecInfo = suc (suc (suc (suc zero)))
place_of ClassInfo = suc (suc (suc (suc (suc zero))))
place_of Cover = suc (suc (suc (suc (suc (suc zero)))))
place_of Refs = suc (suc (suc (suc (suc (suc (suc zero))))))
place_of Lines = suc (suc (suc (suc (suc (suc (suc (suc zero)))))))
place_of Check = suc (suc (suc (suc (suc (suc (suc (suc (suc zero))))))))

abbrev pub shape_of : CommandName → Shape
shape_of name = shape_at (place_of name) B.subs

no_choice : (b : Bool) (rows : List Row) → (if b then rows else rows) ≡ rows
no_choice true rows = refl
no_choice false rows = refl

no_default : (id : Text) (how : Reading) (values : List Text) (rows : List Row) → is_empty values ≡ true
    → (if has_row id rows then rows else default_rows id how values rows) ≡ rows
no_default id how [] rows h = no_choice (has_row id rows) rows
no_default id how (v ∷ vs) rows h = let none = (Decides-eqb (length (v ∷ vs)) 0).0 h in absurd (omega (arith, none))

no_defaults : (rules : List Rule) → list_all (λ a. is_empty a.defaults) rules ≡ true → (rows : List Row) → fold with_default rows rules ≡ rows
no_defaults [] h rows = refl
no_defaults (a ∷ rules) h rows =
    let p = and_parts (is_empty a.defaults) (list_all (λ a. is_empty a.defaults) rules) h in
    ap (λ rows. fold with_default rows rules) (no_default a.id (reading_by a) a.defaults rows p.0) ∙ no_defaults rules p.1 rows

reads : (s : Shape) → s.args_override_self ≡ false → arg_by_index s.rules 1 ≡ Some fil → arg_by_id s.rules (codes "FILE") ≡ Some fil
    → list_all default_passes s.rules ≡ true → list_all (λ a. is_empty a.defaults) s.rules ≡ true
    → ((rows : List Row) → is_valid s rows false ≡ true) → IsReader s
reads s again by_index by_id passes none valid = record {
  again = again;
  by_index = by_index;
  by_id = by_id;
  defaults = passes;
  no_default = no_defaults s.rules none;
  valid = valid;
}

pub reader_of : (name : CommandName) → IsReader (shape_of name)
reader_of Instrument = reads (shape_of Instrument) refl refl refl refl refl (λ rows. refl)
reader_of Run = reads (shape_of Run) refl refl refl refl refl (λ rows. refl)
reader_of Merge = reads (shape_of Merge) refl refl refl refl refl (λ rows. refl)
reader_of Report = reads (shape_of Report) refl refl refl refl refl (λ rows. refl)
reader_of ExecInfo = reads (shape_of ExecInfo) refl refl refl refl refl (λ rows. refl)
reader_of ClassInfo = reads (shape_of ClassInfo) refl refl refl refl refl (λ rows. refl)
reader_of Cover = reads (shape_of Cover) refl refl refl refl refl (λ rows. refl)
reader_of Refs = reads (shape_of Refs) refl refl refl refl refl (λ rows. refl)
reader_of Lines = reads (shape_of Lines) refl refl refl refl refl (λ rows. refl)
reader_of Check = reads (shape_of Check) refl refl refl refl refl (λ rows. refl)

-- an option whose name is written out
told : (c : List Rule) (name : Text) → is_flag name ≡ false → arg_by_long c name ≡ Some (opt name) → arg_by_id c name ≡ Some (opt name)
    → long_of (45 ∷ 45 ∷ name) ≡ Some (name, None) → ((v : Text) → long_of (45 ∷ 45 ∷ (name ++ 61 ∷ v)) ≡ Some (name, Some v))
    → bytes_eq (45 ∷ 45 ∷ name) (45 ∷ 45 ∷ []) ≡ false → ((v : Text) → bytes_eq (45 ∷ 45 ∷ (name ++ 61 ∷ v)) (45 ∷ 45 ∷ []) ≡ false)
    → bytes_eq name (codes "FILE") ≡ false → IsTold c name
told c name other by_long by_id word joined no_dash no_dash_joined no_file = with_value other (record {
  by_long = by_long;
  by_id = by_id;
  self = (bytes_eq-Decides name name).1 refl;
  word = word;
  joined = joined;
  no_dash = no_dash;
  no_dash_joined = no_dash_joined;
  no_file = no_file;
})

told_flag : (c : List Rule) (name : Text) → is_flag name ≡ true → arg_by_long c name ≡ Some (flg name) → long_of (45 ∷ 45 ∷ name) ≡ Some (name, None)
    → bytes_eq (45 ∷ 45 ∷ name) (45 ∷ 45 ∷ []) ≡ false → bytes_eq name (codes "FILE") ≡ false → IsTold c name
told_flag c name flag by_long word no_dash no_file = bare flag (record { by_long = by_long; word = word; no_dash = no_dash; no_file = no_file })

pub options_known : (name : CommandName) → AllByRecursion (λ o. IsTold (shape_of name).rules o) (taken_options name)
options_known Instrument = (told (shape_of Instrument).rules (codes "dest") refl refl refl refl (λ v. refl) refl (λ v. refl) refl, tt)
options_known Run =
    let plan = told (shape_of Run).rules (codes "plan") refl refl refl refl (λ v. refl) refl (λ v. refl) refl in
    let destfile = told (shape_of Run).rules (codes "destfile") refl refl refl refl (λ v. refl) refl (λ v. refl) refl in
    let workers = told (shape_of Run).rules (codes "workers") refl refl refl refl (λ v. refl) refl (λ v. refl) refl in
    let dumps = told (shape_of Run).rules (codes "dumps") refl refl refl refl (λ v. refl) refl (λ v. refl) refl in
    let every = told (shape_of Run).rules (codes "every") refl refl refl refl (λ v. refl) refl (λ v. refl) refl in
    let monitors = told_flag (shape_of Run).rules (codes "monitors") refl refl refl refl refl in
    (plan, (destfile, (workers, (dumps, (every, (monitors, tt))))))
options_known Merge = (told (shape_of Merge).rules (codes "destfile") refl refl refl refl (λ v. refl) refl (λ v. refl) refl, tt)
options_known Report =
    let csv = told (shape_of Report).rules (codes "csv") refl refl refl refl (λ v. refl) refl (λ v. refl) refl in
    let name = told (shape_of Report).rules (codes "name") refl refl refl refl (λ v. refl) refl (λ v. refl) refl in
    let exec = told (shape_of Report).rules (codes "exec") refl refl refl refl (λ v. refl) refl (λ v. refl) refl in
    (csv, (name, (exec, tt)))
options_known ExecInfo = tt
options_known ClassInfo = tt
options_known Cover =
    let dest = told (shape_of Cover).rules (codes "dest") refl refl refl refl (λ v. refl) refl (λ v. refl) refl in
    let plan = told (shape_of Cover).rules (codes "plan") refl refl refl refl (λ v. refl) refl (λ v. refl) refl in
    let destfile = told (shape_of Cover).rules (codes "destfile") refl refl refl refl (λ v. refl) refl (λ v. refl) refl in
    let csv = told (shape_of Cover).rules (codes "csv") refl refl refl refl (λ v. refl) refl (λ v. refl) refl in
    let workers = told (shape_of Cover).rules (codes "workers") refl refl refl refl (λ v. refl) refl (λ v. refl) refl in
    let name = told (shape_of Cover).rules (codes "name") refl refl refl refl (λ v. refl) refl (λ v. refl) refl in
    let sample = told (shape_of Cover).rules (codes "sample") refl refl refl refl (λ v. refl) refl (λ v. refl) refl in
    (dest, (plan, (destfile, (csv, (workers, (name, (sample, tt)))))))
options_known Refs = tt
options_known Lines = (told (shape_of Lines).rules (codes "exec") refl refl refl refl (λ v. refl) refl (λ v. refl) refl, tt)
options_known Check =
    let min = told (shape_of Check).rules (codes "min") refl refl refl refl (λ v. refl) refl (λ v. refl) refl in
    let exec = told (shape_of Check).rules (codes "exec") refl refl refl refl (λ v. refl) refl (λ v. refl) refl in
    (min, (exec, tt))

-- ---- from the form of words to what the walk asks

known_option : (c : List Rule) (options : List Word) → AllByRecursion (λ o. IsTold c o) options → (name : Word) → list_any (bytes_eq name) options ≡ true
    → IsTold c name
known_option c [] all name h = cc
known_option c (o ∷ os) all name h = by (bytes_eq name o) refl h (known_option c os all.1 name)
  where
    by : (b : Bool) → bytes_eq name o ≡ b → (b || list_any (bytes_eq name) os) ≡ true → (list_any (bytes_eq name) os ≡ true → IsTold c name) → IsTold c name
    by true e h rest = subst (IsTold c) (sym ((bytes_eq-Decides name o).0 e)) all.0
    by false e h rest = rest h

has_row-more : (id : Text) (V : List Row) (r : Row) → has_row id V ≡ false → bytes_eq r.id id ≡ false → has_row id (V ++ r ∷ []) ≡ false
has_row-more id [] r h e = rw e refl
has_row-more id (x ∷ V) r h e =
    let both = either-false (bytes_eq x.id id) (has_row id V) h in
    rw both.0 (has_row-more id V r both.1 e)

-- no use to come is among the rows
abbrev AllFresh : List Row → List Use → Type 0
AllFresh V uses = AllByRecursion (λ u. has_row u.name V ≡ false) uses

fresh_more : (V : List Row) (r : Row) (us : List Use) → AllFresh V us → AllByRecursion (λ y. bytes_eq r.id y ≡ false) (map (λ u. u.name) us) → AllFresh (V ++ r ∷ []) us
fresh_more V r [] h d = h
fresh_more V r (u ∷ us) h d = (has_row-more u.name V r h.0 d.0, fresh_more V r us h.1 d.1)

all_fresh : (uses : List Use) → AllFresh [] uses
all_fresh [] = tt
all_fresh (u ∷ us) = (refl, all_fresh us)

good_uses : (s : Shape) (again : s.args_override_self ≡ false) (options : List Word) → AllByRecursion (λ o. IsTold s.rules o) options
    → (uses : List Use) (V : List Row)
    → list_all (λ u. list_any (bytes_eq u.name) options) uses ≡ true → IsDistinct bytes_eq (map (λ u. u.name) uses)
    → list_all is_valued uses ≡ true → AllFresh V uses → GoodUses s again V uses
unfolding IsDistinct
good_uses s again options all [] V known once valued fresh = tt
good_uses s again options all (u ∷ us) V known once valued fresh =
    let k = and_parts (list_any (bytes_eq u.name) options) _ known in
    let p = and_parts (is_valued u) _ valued in (
      record { known = known_option s.rules options all u.name k.0; valued = p.0; fresh = fresh.0 },
      good_uses s again options all us (V ++ row_of_use u ∷ []) k.1 once.1 p.1 (fresh_more V (row_of_use u) us fresh.1 once.0),
    )

all_plain : (s : Shape) (r : IsReader s) (files : List Text) → list_all is_plain files ≡ true → AllPlain s r.again r.by_index r.by_id files
all_plain s r [] h = tt
all_plain s r (f ∷ fs) h = let p = and_parts (is_plain f) (list_all is_plain fs) h in (p.0, all_plain s r fs p.1)

-- ---- the words behind the command's name

abbrev stopped_at : Text → List Text → Walk
stopped_at n done = record (at [] None) { stopped = Some (n, done) }

stop_more : (c : List Rule) (names : Names) (n : Text) (done rest : List Text) → fold (walked c names) (stopped_at n done) rest ≡ stopped_at n (done ++ rest)
unfolding walked
stop_more c names n done [] = ap (stopped_at n) (sym (append-nil done))
stop_more c names n done (x ∷ xs) = stop_more c names n (done ++ x ∷ []) xs ∙ ap (stopped_at n) (append_assoc done (x ∷ []) xs)

stop_passes : (s : Shape) (names : Names) (n : Text) (done rest : List Text) → walk_passes s names (stopped_at n done) rest ≡ true
unfolding walk_passes walked
stop_passes s names n done [] = refl
stop_passes s names n done (x ∷ xs) = stop_passes s names n (done ++ x ∷ []) xs

module _ (name : CommandName)
    (found : find (λ t. answers_to (text_of name) (label_of t)) B.subs ≡ Some (shape_of name)) (is_named : (shape_of name).name ≡ text_of name)
    (first : walked B.top.rules (names_of B) (at [] None) (text_of name) ≡ stopped_at (text_of name) [])
    (first_passes : walk_passes B.top (names_of B) (at [] None) (text_of name ∷ []) ≡ true)
    (uses : List Use) (dash : Bool) (files : List Text) (taken : IsTaken (taken_options name) uses files)
    (many : nat_le (length files) usize_max ≡ true) where
  the_reader : IsReader (shape_of name)
  the_reader = reader_of name

  good : GoodUses (shape_of name) the_reader.again [] uses
  good = good_uses (shape_of name) the_reader.again (taken_options name) (options_known name) uses [] taken.known taken.once taken.values (all_fresh uses)

  plain : AllPlain (shape_of name) the_reader.again the_reader.by_index the_reader.by_id files
  plain = all_plain (shape_of name) the_reader files taken.plain_files

  top_walk : fold (walked B.top.rules (names_of B)) (walk_from nothing_held) (text_of name ∷ rest_words uses dash files) ≡ stopped_at (text_of name) (rest_words uses dash files)
  top_walk = ap (λ w. fold (walked B.top.rules (names_of B)) w (rest_words uses dash files)) first
      ∙ stop_more B.top.rules (names_of B) (text_of name) [] (rest_words uses dash files)

  -- the subcommand that clap enters has the uses and the files
  entered_subcommand : subcommand_of jcov_app (text_of name ∷ rest_words uses dash files) ≡ Some (text_of name, call_rows uses files)
  entered_subcommand = ap (λ w. entered B w.stopped) top_walk
      ∙ ap (option_map (λ t. rows_at t (rest_words uses dash files))) found
      ∙ ap₂ (λ x y. Some (x, y)) is_named (level_rows (shape_of name) the_reader uses dash good files plain many)

  entered_takes : takes jcov_app (text_of name ∷ rest_words uses dash files) ≡ true
  entered_takes =
      let rest = rest_words uses dash files in
      let below = ap (λ w. entered_passes B w.stopped) top_walk
      ∙ ap (λ o. option_map_or (λ t. level_passes t [] nothing_held rest false) o true) found
      ∙ level_takes (shape_of name) the_reader uses dash good files plain many in
      let walks = passes-append_at B.top (names_of B) (at [] None) (text_of name ∷ []) rest
      ∙ both_true _ _ first_passes (ap (λ w. walk_passes B.top (names_of B) w rest) first ∙ stop_passes B.top (names_of B) (text_of name) [] rest) in
      let ends : (settle_passes B.top.rules B.top.args_override_self
      (stopped_at (text_of name) rest).held && (list_all default_passes B.top.rules && is_valid B.top
      (finished B.top.rules (stopped_at (text_of name) rest).held) true)) ≡ true = refl in
      let above : level_passes B.top (names_of B) nothing_held (text_of name ∷ rest) true ≡ true
      = both_true _ _ walks
      (ap (λ w. settle_passes B.top.rules B.top.args_override_self
      w.held && (list_all default_passes B.top.rules && is_valid B.top (finished B.top.rules w.held) true)) top_walk ∙ ends) in
      both_true _ _ below (ap (λ o. level_passes B.top (names_of B) nothing_held (text_of name ∷ rest) (is_some o)) entered_subcommand ∙ above)

  file_is_fresh : has_row (codes "FILE") (map row_of_use uses) ≡ false
  file_is_fresh = file_fresh (shape_of name) the_reader.again [] uses good

-- ---- each command

pub record Read (words : List Word) (name : CommandName) (uses : List Use) (files : List Word) : Type 0 where
  pub subcommand : subcommand_of jcov_app words ≡ Some (text_of name, call_rows uses files)
  pub takes_all : takes jcov_app words ≡ true
  pub no_file : has_row (codes "FILE") (map row_of_use uses) ≡ false

module _ (uses : List Use) (dash : Bool) (files : List Text) (many : nat_le (length files) usize_max ≡ true) where
  is_read : (name : CommandName) → find (λ t. answers_to (text_of name) (label_of t)) B.subs ≡ Some (shape_of name) → (shape_of name).name ≡ text_of name
      → walked B.top.rules (names_of B) (at [] None) (text_of name) ≡ stopped_at (text_of name) []
      → walk_passes B.top (names_of B) (at [] None) (text_of name ∷ []) ≡ true
      → IsTaken (taken_options name) uses files → Read (text_of name ∷ rest_words uses dash files) name uses files
  is_read name found is_named first first_passes taken = record {
    subcommand = entered_subcommand name found is_named first first_passes uses dash files taken many;
    takes_all = entered_takes name found is_named first first_passes uses dash files taken many;
    no_file = file_is_fresh name found is_named first first_passes uses dash files taken many;
  }

  pub each_read : (name : CommandName) → IsTaken (taken_options name) uses files → Read (text_of name ∷ rest_words uses dash files) name uses files
  unfolding clap_on_literals
  each_read Instrument taken = is_read Instrument refl refl refl refl taken
  each_read Run taken = is_read Run refl refl refl refl taken
  each_read Merge taken = is_read Merge refl refl refl refl taken
  each_read Report taken = is_read Report refl refl refl refl taken
  each_read ExecInfo taken = is_read ExecInfo refl refl refl refl taken
  each_read ClassInfo taken = is_read ClassInfo refl refl refl refl taken
  each_read Cover taken = is_read Cover refl refl refl refl taken
  each_read Refs taken = is_read Refs refl refl refl refl taken
  each_read Lines taken = is_read Lines refl refl refl refl taken
  each_read Check taken = is_read Check refl refl refl refl taken

-- ---- what a caller is told

many_files : (n : ℕ) → n < 2 ^ 32 → nat_le n usize_max ≡ true
many_files n h = grind (arith, nat_tests)

tail_length : (dash : Bool) (files : List Text) → length files ≤ length (tail_words dash files)
tail_length true files = omega arith
tail_length false files = omega arith

words_length : (n : Text) (uses : List Use) (dash : Bool) (files : List Text) → length files ≤ length (n ∷ rest_words uses dash files)
words_length n uses dash files = omega (arith, length-append (flat_map use_words uses) (tail_words dash files), tail_length dash files)

pub words_read : (words : List Word) (name : CommandName) (uses : List Use) (dash : Bool) (files : List Word) → length words < 2 ^ 32
    → words ≡ text_of name ∷ rest_words uses dash files → IsTaken (taken_options name) uses files → Read words name uses files
words_read words name uses dash files short spelled taken =
    let count : length files < 2 ^ 32 = omega (arith, words_length (text_of name) uses dash files, ap length spelled) in
    subst (λ w. Read w name uses files) (sym spelled) (each_read uses dash files (many_files (length files) count) name taken)

-- the matches that a subcommand's look-up lends
pub inner_rows : (m : ArgMatches) (words : List Text) (n : Text) (rows : List Row) (o : Option (Bor Text × Bor ArgMatches)) (x : Bor Text × Bor ArgMatches)
    → HasMatchesOf jcov_app words m → subcommand_of jcov_app words ≡ Some (n, rows)
    → option_map (λ p. rows_of (found_of p.1.now)) o ≡ option_map (λ p. p.1) (subcommand_rows_of m) → o ≡ Some x → rows_of (found_of x.1.now) ≡ rows
inner_rows m words n rows o x has sub lends is =
    let e = sym (ap (option_map (λ p. rows_of (found_of p.1.now))) is) ∙ lends ∙ ap (option_map (λ p. p.1)) ((has refl).1 ∙ sub) in
    cc

pub inner_some : (m : ArgMatches) (words : List Text) (n : Text) (rows : List Row) (o : Option (Bor Text × Bor ArgMatches))
    → HasMatchesOf jcov_app words m → subcommand_of jcov_app words ≡ Some (n, rows)
    → option_map (λ p. rows_of (found_of p.1.now)) o ≡ option_map (λ p. p.1) (subcommand_rows_of m) → IsSome o
inner_some m words n rows (Some x) has sub lends = refl
inner_some m words n rows None has sub lends =
    let e = lends ∙ ap (option_map (λ p. p.1)) ((has refl).1 ∙ sub) in
    cc
