-- What clap makes of uses of options and files.
use Rattle.std.proofs.Common.{◌≡◌, ◌∙◌, ap, sym, subst, refl, Bool, true, false, not, ◌==◌, ◌&&◌, List, [], ◌∷◌, ◌++◌, map, length, Option, Some, None, if◌then◌else◌, arith, rules, append_assoc, codes, nat_le}
use Rattle.std.proofs.lemmas.List.{append-nil}
use Rattle.std.proofs.lemmas.Bool.Decides.{nat_tests}
use Rattle.std.proofs.lemmas.List.Sums.{fold-append}
use Rattle.std.specs.List.{fold, flat_map, list_all}
use Rattle.std.specs.Str.{bytes_eq}
use Rattle.clap.specs.Lexer.{long_of, short_of, usize_max}
use Rattle.clap.specs.Walk.{Row, Rule, Text, Walk, Held, Names, idle, option, positional, arg_by_id, arg_by_index, arg_by_long, at_row, has_row, is_pending, more_values, nothing_held, rows_after, settled_rows, used, used_by_id, walk_from, walked, with_default, with_values}
use Rattle.clap.specs.Simple.{Shape, filled, with_index}
use Rattle.clap.specs.Takes.{default_passes, is_valid, level_passes, settle_passes, turn_passes, value_passes, walk_passes}
use Rattle.clap.specs.declared.builder.value_parser.Reading.TheVariants as reading
use Rattle.clap.specs.declared.parser.matches.ValueSource.TheVariants.{CommandLine}
use Rattle.jc_command_words.proofs.BoolLaws.{both_true, either-false}
use Rattle.jc_command_words.specs.Words.{Use, is_flag, is_plain, is_valued, is_empty, value_words, use_words, tail_words, rest_words}
use Rattle.jc_command_words.specs.Reader.{option_rule, flag_rule, file_rule}

-- an option, as the reader has it
abbrev pub opt : Text → Rule
opt name = filled (option_rule name)

abbrev pub flg : Text → Rule
flg name = filled (flag_rule name)

abbrev pub fil : Rule
fil = with_index 1 (filled file_rule)

pub record IsOption (c : List Rule) (name : Text) : Type 0 where
  pub by_long : arg_by_long c name ≡ Some (opt name)
  pub by_id : arg_by_id c name ≡ Some (opt name)
  pub self : bytes_eq name name ≡ true
  pub word : long_of (45 ∷ 45 ∷ name) ≡ Some (name, None)
  pub joined : (v : Text) → long_of (45 ∷ 45 ∷ (name ++ 61 ∷ v)) ≡ Some (name, Some v)
  pub no_dash : bytes_eq (45 ∷ 45 ∷ name) (45 ∷ 45 ∷ []) ≡ false
  pub no_dash_joined : (v : Text) → bytes_eq (45 ∷ 45 ∷ (name ++ 61 ∷ v)) (45 ∷ 45 ∷ []) ≡ false
  pub no_file : bytes_eq name (codes "FILE") ≡ false

pub record IsFlag (c : List Rule) (name : Text) : Type 0 where
  pub by_long : arg_by_long c name ≡ Some (flg name)
  pub word : long_of (45 ∷ 45 ∷ name) ≡ Some (name, None)
  pub no_dash : bytes_eq (45 ∷ 45 ∷ name) (45 ∷ 45 ∷ []) ≡ false
  pub no_file : bytes_eq name (codes "FILE") ≡ false

-- an option with a value, or a flag
pub data IsTold (c : List Rule) (name : Text) : Type 0 where
  with_value : is_flag name ≡ false → IsOption c name → IsTold c name
  bare : is_flag name ≡ true → IsFlag c name → IsTold c name

pub told_no_file : {c : List Rule} {name : Text} → IsTold c name → bytes_eq name (codes "FILE") ≡ false
told_no_file (with_value other o) = o.no_file
told_no_file (bare flag o) = o.no_file

abbrev pub Pending : Type 0
Pending = Option (Text × List Text)

-- between two uses
abbrev pub held_at : List Row → Pending → Held
held_at rows p = record { rows = rows; pending = p; skip = 0 }

abbrev pub at : List Row → Pending → Walk
at rows p = record { held = held_at rows p; waiting = idle; position = 1; is_trailing = false; stopped = None }

abbrev pub row : Text → List Text → Row
row id values = record { id = id; values = values; count = None; source = Some CommandLine; reading = reading.AsWritten }

-- ---- a plain word is no flag

pub no_long : (v : Text) → is_plain v ≡ true → long_of v ≡ None
no_long [] h = refl
no_long (x ∷ xs) h = by (x == 45) refl h
  where
    by : (b : Bool) → (x == 45) ≡ b → not b ≡ true → long_of (x ∷ xs) ≡ None
    by true e h = cc
    by false e h = rw e refl

pub no_short : (v : Text) → is_plain v ≡ true → short_of v ≡ None
no_short [] h = refl
no_short (x ∷ xs) h = by (x == 45) refl h
  where
    by : (b : Bool) → (x == 45) ≡ b → not b ≡ true → short_of (x ∷ xs) ≡ None
    by true e h = cc
    by false e h = rw e refl

pub not_dashes : (v : Text) → is_plain v ≡ true → bytes_eq v (45 ∷ 45 ∷ []) ≡ false
not_dashes [] h = refl
not_dashes (x ∷ xs) h = by (x == 45) refl h
  where
    by : (b : Bool) → (x == 45) ≡ b → not b ≡ true → bytes_eq (x ∷ xs) (45 ∷ 45 ∷ []) ≡ false
    by true e h = cc
    by false e h = rw e refl

module _ (c : List Rule) where
  -- ---- the walk

  pub joined_step : (name v : Text) (o : IsOption c name) (rows : List Row) (p : Pending)
      → walked c [] (at rows p) (45 ∷ 45 ∷ (name ++ 61 ∷ v)) ≡ at (used (opt name) (v ∷ []) (settled_rows c p rows)) None
  unfolding walked
  joined_step name v o rows p = rw (o.no_dash_joined v, o.joined v, o.by_long) refl

  pub name_step : (name : Text) (o : IsOption c name) (rows : List Row) (p : Pending)
      → walked c [] (at rows p) (45 ∷ 45 ∷ name) ≡ record (at (settled_rows c p rows) (Some (name, []))) { waiting = option name }
  unfolding walked
  name_step name o rows p = rw (o.no_dash, o.word, o.by_long) refl

  pub value_step : (name v : Text) (o : IsOption c name) (rows : List Row) → is_plain v ≡ true
      → walked c [] (record (at rows (Some (name, []))) { waiting = option name }) v ≡ at rows (Some (name, v ∷ []))
  unfolding walked
  value_step name v o rows plain = rw (not_dashes v plain, no_long v plain, no_short v plain, o.by_id, o.self) refl

  pub flag_step : (name : Text) (o : IsFlag c name) (rows : List Row) (p : Pending)
      → walked c [] (at rows p) (45 ∷ 45 ∷ name) ≡ at (used (flg name) [] (settled_rows c p rows)) None
  unfolding walked
  flag_step name o rows p = rw (o.no_dash, o.word, o.by_long) refl

  -- ---- each step passes

  abbrev passes : Shape → Walk → List Text → Bool
  passes s w words = walk_passes s [] w words

  pub joined_passes : (s : Shape) → s.rules ≡ c → s.args_override_self ≡ false → (name v : Text) (o : IsOption c name) (rows : List Row) (p : Pending)
      → settle_passes c false (held_at rows p) ≡ true → has_row name (settled_rows c p rows) ≡ false
      → passes s (at rows p) ((45 ∷ 45 ∷ (name ++ 61 ∷ v)) ∷ []) ≡ true
  unfolding walk_passes
  joined_passes s rules again name v o rows p settles fresh =
      rw (o.no_dash_joined v, o.joined v, rules, again, o.by_long, settles, fresh) refl

  pub flag_passes : (s : Shape) → s.rules ≡ c → s.args_override_self ≡ false → (name : Text) (o : IsFlag c name) (rows : List Row) (p : Pending)
      → settle_passes c false (held_at rows p) ≡ true → has_row name (settled_rows c p rows) ≡ false
      → passes s (at rows p) ((45 ∷ 45 ∷ name) ∷ []) ≡ true
  unfolding walk_passes
  flag_passes s rules again name o rows p settles fresh = rw (o.no_dash, o.word, rules, again, o.by_long, settles, fresh) refl

  pub name_passes : (s : Shape) → s.rules ≡ c → s.args_override_self ≡ false → (name : Text) (o : IsOption c name) (rows : List Row) (p : Pending)
      → settle_passes c false (held_at rows p) ≡ true
      → passes s (at rows p) ((45 ∷ 45 ∷ name) ∷ []) ≡ true
  unfolding walk_passes
  name_passes s rules again name o rows p settles =
      rw (o.no_dash, o.word, rules, again, o.by_long, settles) refl

  pub value_passes_step : (s : Shape) (name v : Text) (o : IsOption c name) (rows : List Row) → is_plain v ≡ true
      → passes s (record (at rows (Some (name, []))) { waiting = option name }) (v ∷ []) ≡ true
  unfolding walk_passes
  value_passes_step s name v o rows plain = rw (not_dashes v plain, no_long v plain, no_short v plain) refl

  pub settled_two : (name v : Text) (o : IsOption c name) (rows : List Row) → has_row name rows ≡ false
      → settle_passes c false (held_at rows (Some (name, v ∷ []))) ≡ true
  settled_two name v o rows fresh = rw (o.by_id, fresh) refl

-- ---- rows

abbrev pub row_of_use : Use → Row
row_of_use u = row u.name (u.value ∷ [])

pub at_row_fresh : (id : Text) (change : Row → List Row) (missing rows : List Row) → has_row id rows ≡ false → at_row id change missing rows ≡ rows ++ missing
at_row_fresh id change missing [] h = refl
at_row_fresh id change missing (r ∷ rs) h =
    let both = either-false (bytes_eq r.id id) (has_row id rs) h in
    rw both.0 (ap (λ t. r ∷ t) (at_row_fresh id change missing rs both.1))

pub used_fresh : (name v : Text) (rows : List Row) → has_row name rows ≡ false → used (opt name) (v ∷ []) rows ≡ rows ++ row name (v ∷ []) ∷ []
used_fresh name v rows fresh =
    let gone = at_row_fresh name (λ _. []) [] rows fresh ∙ append-nil rows in
    ap (with_values name reading.AsWritten CommandLine (v ∷ [])) gone
    ∙ at_row_fresh name (more_values CommandLine (v ∷ [])) (row name (v ∷ []) ∷ []) rows fresh

pub flag_fresh : (name : Text) (rows : List Row) → has_row name rows ≡ false → used (flg name) [] rows ≡ rows ++ row name ([] ∷ []) ∷ []
flag_fresh name rows fresh =
    let gone = at_row_fresh name (λ _. []) [] rows fresh ∙ append-nil rows in
    ap (with_values name reading.AsWritten CommandLine ([] ∷ [])) gone
    ∙ at_row_fresh name (more_values CommandLine ([] ∷ [])) (row name ([] ∷ []) ∷ []) rows fresh

and_assoc : (a b c : Bool) → ((a && b) && c) ≡ (a && (b && c))
and_assoc true b c = refl
and_assoc false b c = refl

pub passes-append_at : (s : Shape) (names : Names) (w : Walk) (xs ys : List Text)
    → walk_passes s names w (xs ++ ys) ≡ (walk_passes s names w xs && walk_passes s names (fold (walked s.rules names) w xs) ys)
unfolding walk_passes
passes-append_at s names w [] ys = refl
passes-append_at s names w (x ∷ xs) ys = ap (λ b. turn_passes s names w x && b) (passes-append_at s names (walked s.rules names w x) xs ys)
    ∙ sym (and_assoc (turn_passes s names w x) (walk_passes s names (walked s.rules names w x) xs) (walk_passes s names (fold (walked s.rules names) w (x ∷ xs)) ys))

pub passes-append : (s : Shape) (w : Walk) (xs ys : List Text) → walk_passes s [] w (xs ++ ys) ≡ (walk_passes s [] w xs && walk_passes s [] (fold (walked s.rules []) w xs) ys)
passes-append s w xs ys = passes-append_at s [] w xs ys

-- ---- uses, one after another

-- words lead from one place between uses to another, where these rows are settled
pub record Leads (s : Shape) (rows : List Row) (p : Pending) (words : List Text) (after : List Row) : Type 0 where
  pub rows' : List Row
  pub p' : Pending
  pub walk : fold (walked s.rules []) (at rows p) words ≡ at rows' p'
  pub settled : settled_rows s.rules p' rows' ≡ after
  pub settles : settle_passes s.rules false (held_at rows' p') ≡ true
  pub passes : walk_passes s [] (at rows p) words ≡ true
  pub no_file : is_pending fil p' ≡ false

module _ (s : Shape) (again : s.args_override_self ≡ false) where
  pub joined_leads : (name v : Text) (o : IsOption s.rules name) (rows : List Row) (p : Pending)
      → settle_passes s.rules false (held_at rows p) ≡ true → has_row name (settled_rows s.rules p rows) ≡ false
      → Leads s rows p ((45 ∷ 45 ∷ (name ++ 61 ∷ v)) ∷ []) (settled_rows s.rules p rows ++ row name (v ∷ []) ∷ [])
  joined_leads name v o rows p settles fresh = record {
    rows' = used (opt name) (v ∷ []) (settled_rows s.rules p rows);
    p' = None;
    walk = joined_step s.rules name v o rows p;
    settled = used_fresh name v (settled_rows s.rules p rows) fresh;
    settles = refl;
    passes = joined_passes s.rules s refl again name v o rows p settles fresh;
    no_file = refl;
  }

  pub two_leads : (name v : Text) (o : IsOption s.rules name) (rows : List Row) (p : Pending) → is_plain v ≡ true
      → settle_passes s.rules false (held_at rows p) ≡ true → has_row name (settled_rows s.rules p rows) ≡ false
      → Leads s rows p ((45 ∷ 45 ∷ name) ∷ v ∷ []) (settled_rows s.rules p rows ++ row name (v ∷ []) ∷ [])
  two_leads name v o rows p plain settles fresh =
      let V = settled_rows s.rules p rows in
      let first = name_step s.rules name o rows p in
      let second = value_step s.rules name v o V plain in
      record {
        rows' = V;
        p' = Some (name, v ∷ []);
        walk = ap (λ w. walked s.rules [] w v) first ∙ second;
        settled = ap (λ a. used_by_id a (v ∷ []) V) o.by_id ∙ used_fresh name v V fresh;
        settles = settled_two s.rules name v o V fresh;
        passes = passes-append s (at rows p) ((45 ∷ 45 ∷ name) ∷ []) (v ∷ [])
            ∙ both_true _ _ (name_passes s.rules s refl again name o rows p settles)
            (ap (λ w. walk_passes s [] w (v ∷ [])) first ∙ value_passes_step s.rules s name v o V plain);
        no_file = o.no_file;
      }

  pub flag_leads : (name : Text) (o : IsFlag s.rules name) (rows : List Row) (p : Pending)
      → settle_passes s.rules false (held_at rows p) ≡ true → has_row name (settled_rows s.rules p rows) ≡ false
      → Leads s rows p ((45 ∷ 45 ∷ name) ∷ []) (settled_rows s.rules p rows ++ row name ([] ∷ []) ∷ [])
  flag_leads name o rows p settles fresh = record {
    rows' = used (flg name) [] (settled_rows s.rules p rows);
    p' = None;
    walk = flag_step s.rules name o rows p;
    settled = flag_fresh name (settled_rows s.rules p rows) fresh;
    settles = refl;
    passes = flag_passes s.rules s refl again name o rows p settles fresh;
    no_file = refl;
  }

  -- the words of a use lead to its row
  abbrev LeadsUse : List Row → Pending → Text → Text → (joined flag : Bool) → Type 0
  LeadsUse rows p name value joined flag =
      Leads s rows p (if joined then (45 ∷ 45 ∷ (name ++ 61 ∷ value)) ∷ [] else (45 ∷ 45 ∷ name) ∷ value_words flag value)
      (settled_rows s.rules p rows ++ row name (value ∷ []) ∷ [])

  -- the value is as the kind of option wants it
  abbrev Valued : (joined flag : Bool) → Text → Type 0
  Valued joined flag value = (if flag then not joined && is_empty value else is_plain value) ≡ true

  pub use_leads : (u : Use) → IsTold s.rules u.name → (rows : List Row) (p : Pending) → is_valued u ≡ true
      → settle_passes s.rules false (held_at rows p) ≡ true → has_row u.name (settled_rows s.rules p rows) ≡ false
      → Leads s rows p (use_words u) (settled_rows s.rules p rows ++ row_of_use u ∷ [])
  use_leads u (with_value other o) rows p valued settles fresh =
      subst (LeadsUse rows p u.name u.value u.joined) (sym other) (by u.joined (subst (λ b. Valued u.joined b u.value) other valued))
    where
      by : (joined : Bool) → is_plain u.value ≡ true → LeadsUse rows p u.name u.value joined false
      by true plain = joined_leads u.name u.value o rows p settles fresh
      by false plain = two_leads u.name u.value o rows p plain settles fresh
  use_leads u (bare flag o) rows p valued settles fresh =
      subst (LeadsUse rows p u.name u.value u.joined) (sym flag) (by u.joined u.value (subst (λ b. Valued u.joined b u.value) flag valued))
    where
      by : (joined : Bool) (value : Text) → Valued joined true value → LeadsUse rows p u.name value joined true
      by true value h = absurd cc
      by false (x ∷ xs) h = absurd cc
      by false [] h = flag_leads u.name o rows p settles fresh

  -- each use is of an option that is not among the rows before it
  pub record GoodUse (V : List Row) (u : Use) : Type 0 where
    pub known : IsTold s.rules u.name
    pub valued : is_valued u ≡ true
    pub fresh : has_row u.name V ≡ false

  abbrev pub GoodUses : List Row → List Use → Type 0
  GoodUses V [] = Unit {0}
  GoodUses V (u ∷ us) = GoodUse V u × GoodUses (V ++ row_of_use u ∷ []) us

  pub uses_lead : (uses : List Use) (rows : List Row) (p : Pending) (V : List Row) → settled_rows s.rules p rows ≡ V → GoodUses V uses
      → settle_passes s.rules false (held_at rows p) ≡ true → is_pending fil p ≡ false
      → Leads s rows p (flat_map use_words uses) (V ++ map row_of_use uses)
  unfolding walk_passes
  uses_lead [] rows p V e good settles no_file = record {
    rows' = rows;
    p' = p;
    walk = refl;
    settled = e ∙ sym (append-nil V);
    settles = settles;
    passes = refl;
    no_file = no_file;
  }
  uses_lead (u ∷ us) rows p V e good settles no_file =
      let one = use_leads u good.0.known rows p good.0.valued settles (ap (has_row u.name) e ∙ good.0.fresh) in
      let rest = uses_lead us one.rows' one.p' (V ++ row_of_use u ∷ []) (one.settled ∙ ap (λ v. v ++ row_of_use u ∷ []) e) good.1 one.settles one.no_file in
      record {
        rows' = rest.rows';
        p' = rest.p';
        walk = fold-append (walked s.rules []) (at rows p) (use_words u) (flat_map use_words us)
            ∙ ap (λ w. fold (walked s.rules []) w (flat_map use_words us)) one.walk ∙ rest.walk;
        settled = rest.settled ∙ append_assoc V (row_of_use u ∷ []) (map row_of_use us);
        settles = rest.settles;
        passes = passes-append s (at rows p) (use_words u) (flat_map use_words us)
            ∙ both_true _ _ one.passes (ap (λ w. walk_passes s [] w (flat_map use_words us)) one.walk ∙ rest.passes);
        no_file = rest.no_file;
      }

  -- ---- files

  abbrev pub FILE : Text
  FILE = codes "FILE"

  abbrev pub in_files : Bool → List Row → List Text → Walk
  in_files t V done = record { held = held_at V (Some (FILE, done)); waiting = positional; position = 1; is_trailing = t; stopped = None }

  abbrev pub from_use : Bool → List Row → Pending → Walk
  from_use t rows p = record (at rows p) { is_trailing = t }

  pub dash_step : (rows : List Row) (p : Pending) → walked s.rules [] (at rows p) (45 ∷ 45 ∷ []) ≡ from_use true rows p
  unfolding walked
  dash_step rows p = refl

  pub dash_passes : (rows : List Row) (p : Pending) → walk_passes s [] (at rows p) ((45 ∷ 45 ∷ []) ∷ []) ≡ true
  unfolding walk_passes
  dash_passes rows p = refl

  module _ (by_index : arg_by_index s.rules 1 ≡ Some fil) (by_id : arg_by_id s.rules FILE ≡ Some fil) where
    pub first_file : (t : Bool) (f : Text) (rows : List Row) (p : Pending) → is_plain f ≡ true → is_pending fil p ≡ false
        → walked s.rules [] (from_use t rows p) f ≡ in_files t (settled_rows s.rules p rows) (f ∷ [])
    unfolding walked
    first_file true f rows p plain no_file = rw (by_index, no_file) refl
    first_file false f rows p plain no_file = rw (not_dashes f plain, no_long f plain, no_short f plain, by_index, no_file) refl

    pub more_file : (t : Bool) (f : Text) (V : List Row) (done : List Text) → is_plain f ≡ true
        → walked s.rules [] (in_files t V done) f ≡ in_files t V (done ++ f ∷ [])
    unfolding walked
    more_file true f V done plain = rw by_index refl
    more_file false f V done plain = rw (not_dashes f plain, no_long f plain, no_short f plain, by_index) refl

    pub first_file_passes : (t : Bool) (f : Text) (rows : List Row) (p : Pending) → is_plain f ≡ true → is_pending fil p ≡ false
        → settle_passes s.rules false (held_at rows p) ≡ true → walk_passes s [] (from_use t rows p) (f ∷ []) ≡ true
    unfolding walk_passes
    first_file_passes true f rows p plain no_file settles = rw (by_index, no_file, again, settles) refl
    first_file_passes false f rows p plain no_file settles =
        rw (not_dashes f plain, no_long f plain, no_short f plain, by_index, no_file, again, settles) refl

    pub more_file_passes : (t : Bool) (f : Text) (V : List Row) (done : List Text) → is_plain f ≡ true
        → walk_passes s [] (in_files t V done) (f ∷ []) ≡ true
    unfolding walk_passes
    more_file_passes true f V done plain = rw by_index refl
    more_file_passes false f V done plain = rw (not_dashes f plain, no_long f plain, no_short f plain, by_index) refl

    abbrev pub AllPlain : List Text → Type 0
    AllPlain [] = Unit {0}
    AllPlain (f ∷ fs) = (is_plain f ≡ true) × AllPlain fs

    pub more_files : (t : Bool) (V : List Row) (done fs : List Text) → AllPlain fs
        → (fold (walked s.rules []) (in_files t V done) fs ≡ in_files t V (done ++ fs)) × (walk_passes s [] (in_files t V done) fs ≡ true)
    unfolding walk_passes
    more_files t V done [] plain = (ap (in_files t V) (sym (append-nil done)), refl)
    more_files t V done (f ∷ fs) plain =
        let one = more_file t f V done plain.0 in
        let rest = more_files t V (done ++ f ∷ []) fs plain.1 in (
          ap (λ w. fold (walked s.rules []) w fs) one ∙ rest.0 ∙ ap (in_files t V) (append_assoc done (f ∷ []) fs),
          passes-append s (in_files t V done) (f ∷ []) fs ∙ both_true _ _ (more_file_passes t f V done plain.0) (ap (λ w. walk_passes s [] w fs) one ∙ rest.1),
        )

    pub files_from : (t : Bool) (rows : List Row) (p : Pending) (f : Text) (fs : List Text) → AllPlain (f ∷ fs) → is_pending fil p ≡ false
        → settle_passes s.rules false (held_at rows p) ≡ true
        → (fold (walked s.rules []) (from_use t rows p) (f ∷ fs) ≡ in_files t (settled_rows s.rules p rows) (f ∷ fs))
        × (walk_passes s [] (from_use t rows p) (f ∷ fs) ≡ true)
    files_from t rows p f fs plain no_file settles =
        let one = first_file t f rows p plain.0 no_file in
        let rest = more_files t (settled_rows s.rules p rows) (f ∷ []) fs plain.1 in (
          ap (λ w. fold (walked s.rules []) w fs) one ∙ rest.0,
          passes-append s (from_use t rows p) (f ∷ []) fs ∙ both_true _ _ (first_file_passes t f rows p plain.0 no_file settles) (ap (λ w. walk_passes s [] w fs) one ∙ rest.1),
        )

    pub tail_from : (dash : Bool) (rows : List Row) (p : Pending) (f : Text) (fs : List Text) → AllPlain (f ∷ fs) → is_pending fil p ≡ false
        → settle_passes s.rules false (held_at rows p) ≡ true
        → (fold (walked s.rules []) (at rows p) (tail_words dash (f ∷ fs)) ≡ in_files dash (settled_rows s.rules p rows) (f ∷ fs))
        × (walk_passes s [] (at rows p) (tail_words dash (f ∷ fs)) ≡ true)
    tail_from true rows p f fs plain no_file settles =
        let all = files_from true rows p f fs plain no_file settles in
        let one = dash_step rows p in (
          ap (λ w. fold (walked s.rules []) w (f ∷ fs)) one ∙ all.0,
          passes-append s (at rows p) ((45 ∷ 45 ∷ []) ∷ []) (f ∷ fs) ∙ both_true _ _ (dash_passes rows p) (ap (λ w. walk_passes s [] w (f ∷ fs)) one ∙ all.1),
        )
    tail_from false rows p f fs plain no_file settles = files_from false rows p f fs plain no_file settles

  -- perhaps `--`, and no file
  pub no_tail : (dash : Bool) (rows : List Row) (p : Pending)
      → (fold (walked s.rules []) (at rows p) (tail_words dash []) ≡ from_use dash rows p) × (walk_passes s [] (at rows p) (tail_words dash []) ≡ true)
  unfolding walk_passes
  no_tail true rows p = (dash_step rows p, dash_passes rows p)
  no_tail false rows p = (refl, refl)

-- ---- a whole level

all_accepted : (files : List Text) → list_all (value_passes fil) files ≡ true
all_accepted [] = refl
all_accepted (f ∷ fs) = all_accepted fs

pub file_fresh : (s : Shape) (again : s.args_override_self ≡ false) (V : List Row) (uses : List Use) → GoodUses s again V uses → has_row (codes "FILE") (map row_of_use uses) ≡ false
file_fresh s again V [] good = refl
file_fresh s again V (u ∷ us) good = rw (told_no_file good.0.known) (file_fresh s again (V ++ row_of_use u ∷ []) us good.1)

abbrev pub file_rows : List Text → List Row
file_rows [] = []
file_rows (f ∷ fs) = row (codes "FILE") (f ∷ fs) ∷ []

abbrev pub call_rows : List Use → List Text → List Row
call_rows uses files = map row_of_use uses ++ file_rows files

-- the command reads options with values, and files
pub record IsReader (s : Shape) : Type 0 where
  pub again : s.args_override_self ≡ false
  pub by_index : arg_by_index s.rules 1 ≡ Some fil
  pub by_id : arg_by_id s.rules (codes "FILE") ≡ Some fil
  pub defaults : list_all default_passes s.rules ≡ true
  pub no_default : (rows : List Row) → fold with_default rows s.rules ≡ rows
  pub valid : (rows : List Row) → is_valid s rows false ≡ true

module _ (s : Shape) (r : IsReader s) (uses : List Use) (dash : Bool) (good : GoodUses s r.again [] uses) where
  the_uses : Leads s [] None (flat_map use_words uses) (map row_of_use uses)
  the_uses = uses_lead s r.again uses [] None [] refl good refl refl

  -- no file

  no_walk : fold (walked s.rules []) (walk_from nothing_held) (rest_words uses dash []) ≡ from_use s r.again dash the_uses.rows' the_uses.p'
  no_walk = fold-append (walked s.rules []) (at [] None) (flat_map use_words uses) (tail_words dash [])
      ∙ ap (λ w. fold (walked s.rules []) w (tail_words dash [])) the_uses.walk ∙ (no_tail s r.again dash the_uses.rows' the_uses.p').0

  no_rows : rows_after s.rules [] (rest_words uses dash []) ≡ call_rows uses []
  no_rows = ap (λ w. fold with_default (settled_rows s.rules w.held.pending w.held.rows) s.rules) no_walk
      ∙ r.no_default _ ∙ the_uses.settled ∙ sym (append-nil (map row_of_use uses))

  no_takes : level_passes s [] nothing_held (rest_words uses dash []) false ≡ true
  no_takes =
      let walks = passes-append s (at [] None) (flat_map use_words uses) (tail_words dash [])
      ∙ both_true _ _ the_uses.passes (ap (λ w. walk_passes s [] w (tail_words dash [])) the_uses.walk ∙ (no_tail s r.again dash the_uses.rows' the_uses.p').1) in
      let ends : settle_passes s.rules s.args_override_self (held_at the_uses.rows' the_uses.p') ≡ true
      = ap (λ b. settle_passes s.rules b (held_at the_uses.rows' the_uses.p')) r.again ∙ the_uses.settles in
      let settles = ap (λ w. settle_passes s.rules s.args_override_self w.held) no_walk ∙ ends in
      let valid = ap (λ rows. is_valid s rows false) no_rows ∙ r.valid (call_rows uses []) in
      both_true _ _ walks (both_true _ _ settles (both_true _ _ r.defaults valid))

  -- one file or more

  module _ (f : Text) (fs : List Text) (plain : AllPlain s r.again r.by_index r.by_id (f ∷ fs))
      (few : nat_le 1 (length (f ∷ fs)) ≡ true) (many : nat_le (length (f ∷ fs)) usize_max ≡ true) where
    the_tail : (fold (walked s.rules []) (at the_uses.rows' the_uses.p') (tail_words dash (f ∷ fs)) ≡ in_files s r.again dash (settled_rows s.rules the_uses.p' the_uses.rows') (f ∷ fs))
        × (walk_passes s [] (at the_uses.rows' the_uses.p') (tail_words dash (f ∷ fs)) ≡ true)
    the_tail = tail_from s r.again r.by_index r.by_id dash the_uses.rows' the_uses.p' f fs plain the_uses.no_file the_uses.settles

    walk_is : fold (walked s.rules []) (walk_from nothing_held) (rest_words uses dash (f ∷ fs)) ≡ in_files s r.again dash (map row_of_use uses) (f ∷ fs)
    walk_is = fold-append (walked s.rules []) (at [] None) (flat_map use_words uses) (tail_words dash (f ∷ fs))
        ∙ ap (λ w. fold (walked s.rules []) w (tail_words dash (f ∷ fs))) the_uses.walk ∙ the_tail.0
        ∙ ap (λ V. in_files s r.again dash V (f ∷ fs)) the_uses.settled

    end_rows : settled_rows s.rules (Some (codes "FILE", f ∷ fs)) (map row_of_use uses) ≡ call_rows uses (f ∷ fs)
    end_rows = ap (λ a. used_by_id a (f ∷ fs) (map row_of_use uses)) r.by_id
        ∙ at_row_fresh (codes "FILE") (more_values CommandLine (f ∷ fs)) (row (codes "FILE") (f ∷ fs) ∷ []) (map row_of_use uses) (file_fresh s r.again [] uses good)

    some_rows : rows_after s.rules [] (rest_words uses dash (f ∷ fs)) ≡ call_rows uses (f ∷ fs)
    some_rows = ap (λ w. fold with_default (settled_rows s.rules w.held.pending w.held.rows) s.rules) walk_is
        ∙ r.no_default _ ∙ end_rows

    some_takes : level_passes s [] nothing_held (rest_words uses dash (f ∷ fs)) false ≡ true
    some_takes =
        let walks = passes-append s (at [] None) (flat_map use_words uses) (tail_words dash (f ∷ fs))
        ∙ both_true _ _ the_uses.passes (ap (λ w. walk_passes s [] w (tail_words dash (f ∷ fs))) the_uses.walk ∙ the_tail.1) in
        let ends : settle_passes s.rules s.args_override_self (held_at (map row_of_use uses) (Some (codes "FILE", f ∷ fs))) ≡ true
        = rw (r.again, r.by_id, few, many, all_accepted (f ∷ fs)) refl in
        let settles = ap (λ w. settle_passes s.rules s.args_override_self w.held) walk_is ∙ ends in
        let valid = ap (λ rows. is_valid s rows false) some_rows ∙ r.valid (call_rows uses (f ∷ fs)) in
        both_true _ _ walks (both_true _ _ settles (both_true _ _ r.defaults valid))

  some_file : (f : Text) (fs : List Text) → nat_le 1 (length (f ∷ fs)) ≡ true
  some_file f fs = grind (arith, nat_tests)

  -- the matches are the uses in order, and then the files
  pub level_rows : (files : List Text) → AllPlain s r.again r.by_index r.by_id files → nat_le (length files) usize_max ≡ true
      → rows_after s.rules [] (rest_words uses dash files) ≡ call_rows uses files
  level_rows [] plain many = no_rows
  level_rows (f ∷ fs) plain many = some_rows f fs plain (some_file f fs) many

  pub level_takes : (files : List Text) → AllPlain s r.again r.by_index r.by_id files → nat_le (length files) usize_max ≡ true
      → level_passes s [] nothing_held (rest_words uses dash files) false ≡ true
  level_takes [] plain many = no_takes
  level_takes (f ∷ fs) plain many = some_takes f fs plain (some_file f fs) many
