-- A body that was read is well made.
use Rattle.std.proofs.Common.{◌≡◌, ◌≢◌, ◌⊎◌, inl, inr, ℕ, ◌+◌, ◌*◌, ◌<◌, ◌≤◌, List, [], ◌∷◌, ◌++◌, length, map, All, Contains, get_or, Option, Some, None, slice_get, refl, sym, ◌∙◌, ap, subst, arith, length-append}
use Rattle.std.specs.Option.{option_and_then}
use Rattle.std.proofs.lemmas.Bool.{cases_lt}
use Rattle.std.proofs.lemmas.Option.{none-some, slice_get-get_or, slice_get_within}
use Rattle.std.proofs.lemmas.List.Elements.{All-map, Contains-get_or}
use Rattle.jc_bytes.specs.Decoder.{◌>>=◌}
use Rattle.jc_methods.specs.Flow.{FallsThrough}
use Rattle.jc_methods.specs.InsnUse.{pool_place, Suits, IsClass, LocalsWithin, LeadsWithin}
use Rattle.jc_methods.specs.WellMade.{IsCode, HasUse, HasShortTexts, AreUses, HasSizes, IsWellMadeOfAnySize, most_slots, IsBounded, IsWellMade, AreFramesFrom}
use Rattle.jc_methods.specs.declared.body.Body.{Body}
use Rattle.jc_methods.specs.declared.body.Handler.{Handler}
use Rattle.jc_methods.specs.declared.body.Use.{Use}
use Rattle.jc_methods.specs.declared.body.What.TheVariants as whats
use Rattle.jc_methods.specs.declared.insn.Insn.{Insn}
use Rattle.jc_pool.specs.declared.entry.Entry.{Entry}
use Rattle.jc_pool.specs.declared.entry.Entry.TheVariants as entry
use Rattle.jc_pool.specs.Lookup.{entry_of, utf8_of, class_in, class_name_of, member_in, member_of, computed_of, const_of}
use Rattle.jc_body.proofs.ComputedLaws.{none_computed}
use Rattle.jc_pool.specs.Pool.{PoolValue}
use Rattle.jc_class.specs.declared.class_file.ClassFile.{ClassFile}
use Rattle.jc_class.specs.declared.class_file.Member.{Member}
use Rattle.jc_methods.specs.Starts.{AreStarts, insn_number}
use Rattle.jc_insn.proofs.DecodedInsnLaws.{all_among, are_starts}
use Rattle.jc_insn.proofs.InsnCountLaws.{code_size}
use Rattle.jc_body.specs.declared.coded.Coded.{Coded}
use Rattle.jc_body.specs.declared.items.Row.{Row}
use Rattle.jc_body.specs.declared.items.Tables.{Tables}
use Rattle.jc_body.specs.BodyOf.{handler_of, places_used, AreUsesOf, HasParts, IsBody, IsBodyOfAnySize}
use Rattle.jc_body.specs.Coded.{IsCoded}
use Rattle.jc_body.specs.Faults.{OfCode, InsnAt, IsAstray, IsRow, IsClassOrNone, ArgumentsOutside, TooWide, faults, faults_of_any_size}
use Rattle.jc_bytes.specs.Least.{IsNowhere}
use Rattle.jc_body.specs.First.{AreNowhere, NoItem}
use Rattle.jc_body.specs.Standing.{what_of, what_at, found_in, found_at, HasRightEntry}
use Rattle.std.specs.List.{AllByRecursion}
use Rattle.jc_methods.specs.declared.body.FrameAt.{FrameAt}
use Rattle.jc_methods.specs.VerificationTypes.{Names, TypeState, TypeStateAt, type_state_at}
use Rattle.jc_frames.specs.Table.{StandsFor}
use Rattle.jc_frames.specs.WellMade.{HasNew}
use Rattle.jc_frames.proofs.WellMadeLaws.{frames_well_made}
use Rattle.jc_body.specs.StackMap.{stack_maps, ground_of, HasFrames}
use Rattle.jc_body.proofs.EntryLaws.{no_new}
use Rattle.jc_body.proofs.ArgumentLaws.{arguments_fit}
use Rattle.jc_methods.proofs.StartsLaws.{number_of_end, numbers_rise, numbers_stay, some_insn}
use Rattle.jc_bytes.proofs.ListLaws.{put_last}
use Rattle.jc_body.proofs.PlacesLaws.{row_or_not, rows_handled, lines_kept, vars_kept}
use Rattle.jc_body.proofs.StandingLaws.{right_entry_or_not, suits_what, locals_or_not, leads_or_not}
use Rattle.jc_body.proofs.UsesLaws.{has_use, insn_place_used, row_place_used}
use Rattle.jc_body.proofs.MadeLaws.{made, is_made}

-- ---- no fault is anywhere

-- the faults that aren't there
record IsFree (c : ClassFile) (method : Member) (coded : Coded) : Type 0 where
  entries : NoItem (λ number insn. HasRightEntry c.major c.pool insn → ⊥) coded.insns
  jumps : NoItem (IsAstray (length coded.insns)) coded.insns
  locals : NoItem (λ number insn. LocalsWithin coded.items.max_locals insn → ⊥) coded.insns
  arguments : IsNowhere (ArgumentsOutside c.pool method coded)
  rows : NoItem (λ place row. IsRow c.pool (insn_number coded.starts) (length coded.insns) (length coded.items.code) row → ⊥) coded.items.rows

-- where an instruction's fault is nowhere, no instruction has it
no_insn : (pool : PoolValue) (method : Member) (coded : Coded) (Fact : Coded → ℕ → Insn → Type 0) → IsCoded pool method coded
    → AreStarts (length coded.insns) (length coded.items.code) coded.starts → IsNowhere (OfCode pool method (λ d. InsnAt (Fact d) d)) → NoItem (Fact coded) coded.insns
no_insn pool method coded Fact is starts none number insn stands fault =
    let inside = slice_get_within coded.insns number insn stands in
    none (get_or coded.starts number 0) (record {
      coded = coded;
      is = is;
      fault = record { number = number; insn = insn; stands = stands; start = slice_get-get_or coded.starts number 0 (omega (arith, inside, starts.one_more)); fault = fault };
    })

free_of_faults : (c : ClassFile) (method : Member) (coded : Coded) → IsCoded c.pool method coded
    → AreStarts (length coded.insns) (length coded.items.code) coded.starts → (owner : List ℕ)
    → AreNowhere (faults_of_any_size c.major c.pool owner method) → IsFree c method coded
free_of_faults c method coded is starts owner (single, (form, (stop, (entry, (jump, (local, (arguments, (row, (table, (map, end)))))))))) = record {
  entries = no_insn c.pool method coded (λ d number insn. HasRightEntry c.major c.pool insn → ⊥) is starts entry;
  jumps = no_insn c.pool method coded (λ d. IsAstray (length d.insns)) is starts jump;
  locals = no_insn c.pool method coded (λ d number insn. LocalsWithin d.items.max_locals insn → ⊥) is starts local;
  arguments = λ place fault. arguments place (record { coded = coded; is = is; fault = fault });
  rows = λ place r stands fault. row place (record { coded = coded; is = is; fault = record { row = r; stands = stands; fault = fault } });
}

-- what can be decided holds of each item if no item is without it
all_of : {X : Type 0} (P : X → Type 0) (xs : List X) → ((x : X) → P x ⊎ (P x → ⊥)) → NoItem (λ number x. P x → ⊥) xs → All P xs
all_of {X} P xs decide none k d lt = by (decide (get_or xs k d))
  where
    by : P (get_or xs k d) ⊎ (P (get_or xs k d) → ⊥) → P (get_or xs k d)
    by (inl is) = is
    by (inr never) = absurd (none k (get_or xs k d) (slice_get-get_or xs k d lt) never)

-- ---- the code

is_code : (c : ClassFile) (method : Member) (coded : Coded) → IsCoded c.pool method coded
    → AreStarts (length coded.insns) (length coded.items.code) coded.starts → IsFree c method coded → IsCode coded.insns
is_code c method coded is starts free =
    let few = is.items.text.few in
    let size = code_size coded.items.code coded.insns coded.starts is.spelled in
    let among = all_among coded.items.code coded.insns coded.starts (omega (arith, few)) is.spelled in
    record {
      some = some_insn (length coded.insns) (length coded.items.code) coded.starts starts is.items.text.some;
      few = omega (arith, few, size);
      well_formed = λ k d lt. (among k d lt).well_formed;
      places = all_of (LeadsWithin (length coded.insns)) coded.insns (leads_or_not (length coded.insns)) (λ number insn stands never. free.jumps number insn stands (inl never));
      ends = ends;
    }
  where
    ends : (before : List Insn) (last : Insn) → coded.insns ≡ before ++ last ∷ [] → FallsThrough last → ⊥
    ends before last parts falls =
        let long = ap length parts ∙ length-append before (last ∷ []) in
        free.jumps (length before) last (ap (λ (l : List Insn). slice_get l (length before)) parts ∙ put_last before last) (inr (omega (arith, long), falls))

-- ---- what is used

-- a class's entry is no member
not_member : (pool : PoolValue) (e : Entry) (name : List ℕ) → (class_in e >>= λ n. utf8_of pool n) ≡ Some name → member_in pool e ≡ None
not_member pool (entry.Class n) name is = refl
not_member pool e name is = absurd (none-some name is)

class_no_member : (pool : PoolValue) (place : ℕ) (name : List ℕ) → class_name_of pool place ≡ Some name → member_of pool place ≡ None
unfolding class_name_of member_of
class_no_member pool place name is = by (entry_of pool place) is
  where
    by : (o : Option Entry) → (o >>= λ e. class_in e >>= λ n. utf8_of pool n) ≡ Some name → (o >>= member_in pool) ≡ None
    by None is = refl
    by (Some e) is = not_member pool e name is

class_stands : (pool : PoolValue) (place : ℕ) (name : List ℕ) → class_name_of pool place ≡ Some name → what_at pool place ≡ Some (whats.Class name)
unfolding found_at
class_stands pool place name is =
    let no_member = class_no_member pool place name is in
    let no_computed : computed_of pool place ≡ None = none_computed pool place no_member in
    λ i. option_and_then what_of (found_in (no_computed i) (no_member i) (is i) (const_of pool place))

module _ (c : ClassFile) (coded : Coded) (uses : List Use) (are : AreUsesOf c.pool (places_used coded.insns coded.items.rows) uses) where
  row_use : (row : Row) → Contains coded.items.rows row → IsClassOrNone c.pool row.class → row.class ≢ 0 → HasUse uses row.class IsClass
  row_use row listed (inl none) some = absurd (some none)
  row_use row listed (inr (name, is)) some =
      has_use c.pool (places_used coded.insns coded.items.rows) uses row.class (whats.Class name) IsClass are
      (row_place_used coded.insns coded.items.rows row listed some) (class_stands c.pool row.class name is) tt

  insn_use : (insn : Insn) → Contains coded.insns insn → HasRightEntry c.major c.pool insn → (place : ℕ) → pool_place insn ≡ Some place → HasUse uses place (Suits insn)
  insn_use insn listed right place names =
      let what = suits_what c.major c.pool insn place names right in
      has_use c.pool (places_used coded.insns coded.items.rows) uses place what.0 (Suits insn) are (insn_place_used coded.insns coded.items.rows insn place listed names) what.1 what.2

  are_uses : (method : Member) → IsFree c method coded → All (λ u. HasShortTexts u.what) uses → AreUses coded.insns (map (handler_of (insn_number coded.starts)) coded.items.rows) uses
  are_uses method free short = record {
    by_insns = λ k d lt. insn_use (get_or coded.insns k d) (Contains-get_or coded.insns k d lt) (right k d lt);
    by_handlers = All-map (λ (h : Handler). h.class ≢ 0 → HasUse uses h.class IsClass) (handler_of (insn_number coded.starts)) coded.items.rows
        (λ k d lt. row_use (get_or coded.items.rows k d) (Contains-get_or coded.items.rows k d lt) (rows k d lt).class);
    short = short;
  }
    where
      right : All (HasRightEntry c.major c.pool) coded.insns
      right = all_of (HasRightEntry c.major c.pool) coded.insns (right_entry_or_not c.major c.pool) free.entries

      rows : All (IsRow c.pool (insn_number coded.starts) (length coded.insns) (length coded.items.code)) coded.items.rows
      rows = all_of (IsRow c.pool (insn_number coded.starts) (length coded.insns) (length coded.items.code)) coded.items.rows
          (row_or_not c.pool (insn_number coded.starts) (length coded.insns) (length coded.items.code)) free.rows

-- ---- the size

bound : (coded : Coded) → IsNowhere (TooWide coded) → length coded.insns * (coded.items.max_locals + coded.items.max_stack) ≤ most_slots
bound coded none = by (cases_lt most_slots (length coded.insns * (coded.items.max_locals + coded.items.max_stack)))
  where
    by : (most_slots < length coded.insns * (coded.items.max_locals + coded.items.max_stack))
        ⊎ (length coded.insns * (coded.items.max_locals + coded.items.max_stack) ≤ most_slots)
        → length coded.insns * (coded.items.max_locals + coded.items.max_stack) ≤ most_slots
    by (inl wide) = absurd (none 0 (record { at = refl; fault = wide }))
    by (inr fits) = fits

-- ---- frames

frames_well : (names : Names) (c : ClassFile) (method : Member) (coded : Coded) (owner : List ℕ) (frames : List FrameAt) → AreStarts (length coded.insns) (length coded.items.code) coded.starts
    → HasFrames c.pool owner method coded (map (type_state_at names) frames) → AreFramesFrom 0 coded.insns coded.items.max_locals coded.items.max_stack frames
frames_well names c method coded owner frames starts has = by frames has.frames_are
  where
    by : (list : List FrameAt) → ((stack_maps c.pool coded ≡ []) × (map (type_state_at names) list ≡ []))
        ⊎ ((table : List ℕ) × (stack_maps c.pool coded ≡ table ∷ []) × StandsFor (ground_of c.pool coded) has.entry table (map (type_state_at names) list))
        → AreFramesFrom 0 coded.insns coded.items.max_locals coded.items.max_stack list
    by [] none = tt
    by (f ∷ list) (inl none) = absurd (some_none none.1)
      where
        some_none : {x : TypeStateAt} {xs : List TypeStateAt} → x ∷ xs ≡ [] → ⊥
        some_none e = cc
    by (f ∷ list) (inr table) = frames_well_made (ground_of c.pool coded) names has.entry table.0 (f ∷ list) (record { count = starts.one_more; rising = starts.rising })
        (subst (λ (s : TypeState). AllByRecursion (HasNew (ground_of c.pool coded)) s.locals) (sym has.begins.entry_is)
        (no_new (ground_of c.pool coded) owner has.begins.name has.begins.desc method.flags coded.items.max_locals))
        table.2

-- ---- the whole

made_well : (names : Names) (c : ClassFile) (number : ℕ) (method : Member) (coded : Coded) (tables : Tables) (b : Body) → IsCoded c.pool method coded
    → AreStarts (length coded.insns) (length coded.items.code) coded.starts → IsFree c method coded
    → HasParts names c number method coded tables b → HasSizes b → All (λ u. HasShortTexts u.what) b.uses → IsWellMadeOfAnySize (made method coded tables b)
made_well names c number method coded tables b is starts free p sizes short =
    let count = length coded.insns in
    let size = length coded.items.code in
    let number_is = insn_number coded.starts in
    let past = number_of_end count size coded.starts starts in
    let stay = numbers_stay count size coded.starts starts in
    record {
      code = is_code c method coded is starts free;
      handlers = rows_handled c.pool number_is count size coded.items.rows past (numbers_rise count size coded.starts starts) free.rows;
      lines = lines_kept number_is count tables.lines;
      vars = vars_kept number_is count size coded.items.max_locals tables.vars past stay;
      kind_vars = vars_kept number_is count size coded.items.max_locals tables.kind_vars past stay;
      locals = all_of (LocalsWithin coded.items.max_locals) coded.insns (locals_or_not coded.items.max_locals) free.locals;
      arguments = p.arg_slots;
      arguments_fit = arguments_fit c.pool method coded b.desc b.arg_slots p.desc p.arg_slots free.arguments;
      uses = are_uses c coded b.uses p.uses method free short;
      frames = frames_well names c method coded b.owner b.frames starts p.frames;
      sizes = subst HasSizes (is_made names c number method coded tables b p) sizes;
    }

pub well_made_of_any_size : (names : Names) (c : ClassFile) (number : ℕ) (method : Member) (b : Body) → IsBodyOfAnySize names c number method b
    → HasSizes b → All (λ u. HasShortTexts u.what) b.uses → IsWellMadeOfAnySize b
well_made_of_any_size names c number method b is sizes short =
    let starts = are_starts is.coded.items.code is.coded.insns is.coded.starts is.is.spelled in
    let free = free_of_faults c method is.coded is.is starts b.owner is.no_fault in
    subst IsWellMadeOfAnySize (sym (is_made names c number method is.coded is.tables b is.parts)) (made_well names c number method is.coded is.tables b is.is starts free is.parts sizes short)

-- a body is one whatever its size is
pub any_size : (names : Names) (c : ClassFile) (number : ℕ) (method : Member) (b : Body) → IsBody names c number method b → IsBodyOfAnySize names c number method b
any_size names c number method b is = record {
  coded = is.coded;
  is = is.is;
  no_subroutine = is.no_subroutine;
  no_fault = all_but_last is.no_fault;
  tables = is.tables;
  are_tables = is.are_tables;
  parts = is.parts;
}
  where
    all_but_last : AreNowhere (faults c.major c.pool b.owner method) → AreNowhere (faults_of_any_size c.major c.pool b.owner method)
    all_but_last (single, (form, (stop, (entry, (jump, (local, (arguments, (row, (table, (map, (wide, end))))))))))) =
        (single, (form, (stop, (entry, (jump, (local, (arguments, (row, (table, (map, end))))))))))

is_bounded : (names : Names) (c : ClassFile) (number : ℕ) (method : Member) (b : Body) → IsBody names c number method b → IsBounded b
is_bounded names c number method b is = subst IsBounded (sym (is_made names c number method is.coded is.tables b is.parts)) (of_code is.no_fault)
  where
    of_code : AreNowhere (faults c.major c.pool b.owner method) → length is.coded.insns * (is.coded.items.max_locals + is.coded.items.max_stack) ≤ most_slots
    of_code (single, (form, (stop, (entry, (jump, (local, (arguments, (row, (table, (map, (wide, end))))))))))) =
        bound is.coded (λ place fault. wide place (record { coded = is.coded; is = is.is; fault = fault }))

pub well_made : (names : Names) (c : ClassFile) (number : ℕ) (method : Member) (b : Body) → IsBody names c number method b → HasSizes b → All (λ u. HasShortTexts u.what) b.uses → IsWellMade b
well_made names c number method b is sizes short = record {
  of_any_size = well_made_of_any_size names c number method b (any_size names c number method b is) sizes short;
  bound = is_bounded names c number method b is;
}
