-- What instrumented code names stands in the grown pool.
use Rattle.std.proofs.Common.{◌≡◌, ◌⊎◌, inl, inr, ℕ, suc, ◌≤◌, Bool, true, false, List, [], ◌∷◌, length, map, Some, slice_get, refl, sym, ◌∙◌, ap, subst, if◌then◌else◌}
use Rattle.std.specs.Prelude.{filter}
use Rattle.std.specs.List.{AllByRecursion}
use Rattle.jc_bytes.specs.Grammar.{Grammar}
use Rattle.jc_methods.specs.VerificationTypes.{Names}
use Rattle.jc_methods.specs.Starts.{insn_number}
use Rattle.jc_methods.specs.declared.body.Body.{Body}
use Rattle.jc_methods.specs.declared.body.LineAt.{LineAt}
use Rattle.jc_methods.specs.declared.body.VarAt.{VarAt}
use Rattle.jc_pool.specs.Adding.{Extends}
use Rattle.jc_pool.specs.Lookup.{utf8_of}
use Rattle.jc_pool.specs.Pool.{PoolValue}
use Rattle.jc_pool.proofs.AddedLaws.{utf8_kept}
use Rattle.jc_class.specs.declared.class_file.Attribute.{Attribute}
use Rattle.jc_class.specs.declared.class_file.ClassFile.{ClassFile}
use Rattle.jc_body.specs.Attributes.{AreEntries, has_name, bodies_of as texts_of}
use Rattle.jc_body.specs.BodyOf.{BodyOf, lines_of, vars_in}
use Rattle.jc_body.specs.CodeForm.{line_table, var_table}
use Rattle.jc_frames.specs.FullTable.{HasPlace, named_by_all}
use Rattle.jc_emit.specs.Sizes.{narrow}
use Rattle.jc_emit.specs.Emission.{emission}
use Rattle.jc_emit.specs.Items.{land_of}
use Rattle.jc_emit.specs.TwinTables.{moved_line, moved_var}
use Rattle.jc_instrument_code.specs.Given.{AreNamed, IsNamedAt}
use Rattle.jc_instrument_code.specs.TwinCode.{lines_name, vars_name, kind_vars_name}
use Rattle.jc_instrument_code.specs.declared.code.CodePlaces.{CodePlaces}
use Rattle.jc_instrument_code.proofs.NamedLaws.{named_at}
use Rattle.jc_instrument.specs.Writing.{AreAllNamed}
use Rattle.jc_instrument.specs.Members.{AreTextPlaces, IsFirstIfAny}
use Rattle.jc_instrument.specs.BodiesWithStates.{BodyWithStates, all_frames, bodies_of, emitted_of}
use Rattle.jc_instrument.specs.Contents.{class_entry}
use Rattle.jc_instrument.specs.TwinText.{TakesNeeds, Writing, constants_of}
use Rattle.jc_instrument.specs.declared.constants.ProbeConstants.{ProbeConstants}
use Rattle.jc_instrument.proofs.ContentLaws.{of_content}
use Rattle.jc_instrument.proofs.GrownPoolLaws.{StandAt}
use Rattle.jc_instrument.proofs.StandingLaws.{needs_stand}
use Rattle.jc_instrument.proofs.TwinLaws.{text_is}

-- ---- classes

each_placed : (pool : PoolValue) (l : Names) (places : List ℕ) → StandAt pool (map class_entry l) places → length pool ≤ 65535
    → AllByRecursion (HasPlace pool) l
each_placed pool [] places at few = tt
each_placed pool (name ∷ l) [] at few = absurd at
each_placed pool (name ∷ l) (place ∷ places) at few =
    (record { place = place; stands = of_content pool place (class_entry name) at.0; fits = few }, each_placed pool l places at.1 few)

-- each class that is named in the frames
pub all_placed : (id : ℕ) (names : Names) (array : ℕ) (c : ClassFile) (works : List BodyWithStates) (w : Writing)
    → TakesNeeds id names array c works w → length w.pool ≤ 65535
    → AllByRecursion (HasPlace w.pool) (named_by_all (all_frames names (constants_of w) array works))
all_placed id names array c works w takes few =
    each_placed w.pool (named_by_all (all_frames names (constants_of w) array works)) takes.class_places (needs_stand id names array c works w takes).classes
    few

-- ---- names of attributes

-- the text stands somewhere
abbrev IsThere : PoolValue → List ℕ → Type 0
IsThere pool name = (place : ℕ) × (utf8_of pool place ≡ Some name)

-- what attributes of a name hold, of which there are none where the name stands nowhere
texts_there : (pool : PoolValue) (name : List ℕ) (l : List Attribute) → (texts_of pool name l ≡ []) ⊎ IsThere pool name
texts_there pool name [] = inl refl
texts_there pool name (a ∷ l) = by (has_name pool name a) refl (texts_there pool name l)
  where
    by : (t : Bool) → has_name pool name a ≡ t → (texts_of pool name l ≡ []) ⊎ IsThere pool name
        → (texts_of pool name (a ∷ l) ≡ []) ⊎ IsThere pool name
    by true is rest = inr (a.name, text_is name (utf8_of pool a.name) is)
    by false is (inr there) = inr there
    by false is (inl none) =
        inl (ap (λ (t : Bool). map (λ (x : Attribute). x.body) (if t then a ∷ filter (has_name pool name) l else filter (has_name pool name) l)) is ∙ none)

entries_there : {X : Type 0} (pool : PoolValue) (name : List ℕ) (l : List Attribute) (table : Grammar (List X)) (entries : List X)
    → AreEntries table (texts_of pool name l) entries → (entries ≡ []) ⊎ IsThere pool name
entries_there pool name l table entries are = by (texts_there pool name l)
  where
    by : (texts_of pool name l ≡ []) ⊎ IsThere pool name → (entries ≡ []) ⊎ IsThere pool name
    by (inl none) = inl (subst (λ (bodies : List (List ℕ)). AreEntries table bodies entries) none are)
    by (inr there) = inr there

-- a table that is made of entries, of which there are none where the name stands nowhere
table_named : {X Y : Type 0} (old new : PoolValue) (extends : Extends old new) (name : List ℕ) (place : ℕ) (make : List X → List Y) (none : make [] ≡ [])
    (entries : List X) → IsFirstIfAny new name place → (entries ≡ []) ⊎ IsThere old name → IsNamedAt new name (make entries) place
table_named old new extends name place make none entries places (inl empty) =
    subst (λ (ys : List _). IsNamedAt new name ys place) (sym (ap make empty ∙ none)) tt
table_named old new extends name place make none entries places (inr there) =
    named_at new name (make entries) place (places there.0 (utf8_kept old new name there.0 extends there.1))

-- ---- one body

module _ (names : Names) (c : ClassFile) (new : PoolValue) (extends : Extends c.pool new) (places : CodePlaces) (at : AreTextPlaces new places)
    (constants : ProbeConstants) (array : ℕ) where
  pub work_named : (w : BodyWithStates) → BodyOf names c w.body.method w.body → AreNamed new (emitted_of constants array w) places
  unfolding emission
  work_named w body =
      let b = w.body in
      let is = body.is in
      let number = insn_number is.coded.starts in
      let count = length is.coded.insns in
      let attributes = is.coded.items.attributes in
      let land = land_of b w.first (narrow constants.fetch) in
      record {
        lines = subst (λ (ls : List LineAt). IsNamedAt new lines_name (map (moved_line land) ls) places.lines) (sym is.parts.lines)
            (table_named c.pool new extends lines_name places.lines (λ entries. map (moved_line land) (lines_of number count entries)) refl
            is.tables.lines at.lines (entries_there c.pool lines_name attributes line_table is.tables.lines is.are_tables.lines));
        vars = subst (λ (vs : List VarAt). IsNamedAt new vars_name (map (moved_var b.arg_slots land) vs) places.vars) (sym is.parts.vars)
            (table_named c.pool new extends vars_name places.vars (λ entries. map (moved_var b.arg_slots land) (vars_in is.coded entries)) refl
            is.tables.vars at.vars (entries_there c.pool vars_name attributes var_table is.tables.vars is.are_tables.vars));
        kind_vars = subst (λ (vs : List VarAt). IsNamedAt new kind_vars_name (map (moved_var b.arg_slots land) vs) places.kind_vars)
            (sym is.parts.kind_vars)
            (table_named c.pool new extends kind_vars_name places.kind_vars (λ entries. map (moved_var b.arg_slots land) (vars_in is.coded entries)) refl
            is.tables.kind_vars at.kind_vars (entries_there c.pool kind_vars_name attributes var_table is.tables.kind_vars is.are_tables.kind_vars));
      }

  pub are_named : (works : List BodyWithStates)
      → ((k : ℕ) (b : Body) → slice_get (bodies_of works) k ≡ Some b → BodyOf names c b.method b) → AreAllNamed new constants array works places
  are_named [] each = tt
  are_named (w ∷ works) each = (work_named w (each 0 w.body refl), are_named works (λ k b stands. each (suc k) b stands))
