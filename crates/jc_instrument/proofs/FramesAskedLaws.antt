-- What the frames of bodies ask for, body after body: the name of their attribute is taken where the first of them has frames.
use Rattle.std.proofs.Common.{◌≡◌, ◌⊎◌, inl, inr, ℕ, ◌<◌, ◌≤◌, List, [], ◌∷◌, ◌++◌, length, map, Some, refl, sym, ◌∙◌, ap, subst, arith}
use Rattle.std.specs.Prelude.{codes}
use Rattle.std.specs.Bool.{⊤}
use Rattle.std.specs.List.{AllByRecursion, flat_map}
use Rattle.std.proofs.lemmas.Bool.{cases_lt}
use Rattle.std.proofs.lemmas.Grind.{flat_map-append}
use Rattle.std.proofs.lemmas.List.{map-append}
use Rattle.std.proofs.lemmas.List.Concat.{flat_map-cons}
use Rattle.std.proofs.lemmas.Option.{same_Some}
use Rattle.jc_bytes.proofs.LeastLaws.{least_one}
use Rattle.jc_bytes.specs.declared.fail.Fail.{Fail}
use Rattle.jc_bytes.specs.declared.fail.Fail.TheVariants as fails
use Rattle.jc_methods.specs.VerificationTypes.{Names, TypeStateAt}
use Rattle.jc_methods.specs.declared.probe_members.Fetch.{Fetch}
use Rattle.jc_methods.specs.declared.probe_members.Fetch.TheVariants as fetches
use Rattle.jc_pool.specs.Adding.{Extends, HasUtf8, IsFirst}
use Rattle.jc_methods.specs.declared.emitted.Emitted.{Emitted}
use Rattle.jc_pool.specs.Lookup.{class_name_of, utf8_of}
use Rattle.jc_pool.specs.Pool.{PoolValue}
use Rattle.jc_pool.specs.declared.add.PoolFull.{PoolFull}
use Rattle.jc_pool.specs.declared.entry.Entry.TheVariants as entry
use Rattle.jc_pool.specs.declared.index.Naming.TheVariants as naming
use Rattle.jc_pool.proofs.AddedLaws.{class_within, naming_kept, utf8_there}
use Rattle.jc_pool.proofs.KeyPlaceLaws.{has_name, is_named}
use Rattle.jc_pool.proofs.AddingLaws.{extends_more, put_extends}
use Rattle.jc_frames.specs.FullTable.{TakesClasses, named_by, named_by_all}
use Rattle.jc_frames.proofs.TakenLaws.{takes_both as classes_both}
use Rattle.jc_layout.specs.LaidBody.{with_place}
use Rattle.jc_layout.specs.Layout.{chosen_text}
use Rattle.jc_instrument_code.specs.CodeText.{code_text, counted_text, row_text}
use Rattle.jc_instrument_code.specs.TwinCode.{code_attributes, offset_in, twin_code, written_frames}
use Rattle.jc_instrument.specs.BodiesWithStates.{BodyWithStates, all_frames, emitted_of}
use Rattle.jc_instrument.specs.Contents.{Content, TakesEach, class_entry, text_entry}
use Rattle.jc_instrument.specs.Needed.{frame_needs}
use Rattle.jc_instrument.specs.Taking.{RefusesEach}
use Rattle.jc_instrument.specs.Writing.{HasFramesName, KeepsClasses, TakesFrames, frames_asked}
use Rattle.jc_instrument.specs.declared.constants.ProbeConstants.{ProbeConstants}
use Rattle.jc_instrument.proofs.ContentLaws.{text_entry_there}
use Rattle.jc_instrument.proofs.GrownPoolLaws.{entry_before, put_last}
use Rattle.jc_instrument.proofs.FramesNameLaws.{frames_taken, name_extends, name_places}
use Rattle.jc_instrument.proofs.KeptPoolLaws.{first_text_kept, same_text, takes_extend, takes_keep}
use Rattle.jc_instrument.proofs.TakingLaws.{refused_before, refused_behind}

abbrev frames_name : List ℕ
frames_name = codes "StackMapTable"

-- ---- where the name stands

pub text_first : (old new : PoolValue) (text : List ℕ) (place : ℕ) → HasUtf8 old text new place → IsFirst (utf8_of new) text place
text_first old new text place (inl there) = subst (λ (pool : PoolValue). IsFirst (utf8_of pool) text place) (sym there.1) there.0
text_first old new text place (inr put) = record {
  there = utf8_there old new text place (inr put);
  first = λ k less at.
      let last = put.1.last in
      put.0 k (sym (same_text old new (put_extends old new (entry.Utf8 text) place put.1) k (omega (arith, less, last))) ∙ at);
}

-- the name of the attribute stands at this place, where frames are written
abbrev pub IsNameAt : Fetch → PoolValue → List TypeStateAt → (given place : ℕ) → Type 0
IsNameAt fetches.Member pool frames given place = place ≡ given
IsNameAt fetches.Constant pool [] given place = ⊤
IsNameAt fetches.Constant pool (frame ∷ frames) given place = IsFirst (utf8_of pool) frames_name place

pub name_stays : (fetch : Fetch) (old new grown : PoolValue) (frames : List TypeStateAt) (given place : ℕ) → TakesFrames fetch old frames given new place → Extends new grown
    → IsNameAt fetch grown frames given place
name_stays fetches.Member old new grown frames given place takes more = takes.1.1
name_stays fetches.Constant old new grown [] given place takes more = tt
name_stays fetches.Constant old new grown (frame ∷ frames) given place takes more =
    let named = takes.0 in
    first_text_kept named grown (extends_more named new grown (takes_extend named new (named_by_all (frame ∷ frames)) takes.2) more) frames_name place
    (text_first old named frames_name place takes.1.0)

-- there is one such place, or there are no frames
pub one_name : (fetch : Fetch) (pool : PoolValue) (frames : List TypeStateAt) (given place other : ℕ) → IsNameAt fetch pool frames given place
    → IsNameAt fetch pool frames given other → (place ≡ other) ⊎ (frames ≡ [])
one_name fetches.Member pool frames given place other p q = inl (p ∙ sym q)
one_name fetches.Constant pool [] given place other p q = inr refl
one_name fetches.Constant pool (frame ∷ frames) given place other p q = inl (least_one (λ at. utf8_of pool at ≡ Some frames_name) place other p q)

some_name : (pool : PoolValue) (frames : List TypeStateAt) (given place : ℕ) → IsFirst (utf8_of pool) frames_name place → IsNameAt fetches.Constant pool frames given place
some_name pool [] given place first = tt
some_name pool (frame ∷ frames) given place first = first

name_both : (pool : PoolValue) (front back : List TypeStateAt) (given place : ℕ) → IsNameAt fetches.Constant pool (front ++ back) given place
    → IsNameAt fetches.Constant pool front given place × IsNameAt fetches.Constant pool back given place
name_both pool [] back given place is = (tt, is)
name_both pool (frame ∷ front) back given place is = (is, some_name pool back given place is)

-- what is the name's place for all works is that for each
pub name_each : (names : Names) (constants : ProbeConstants) (array : ℕ) (fetch : Fetch) (pool : PoolValue) (given place : ℕ) (works : List BodyWithStates)
    → IsNameAt fetch pool (all_frames names constants array works) given place
    → AllByRecursion (λ w. IsNameAt fetch pool (written_frames names (emitted_of constants array w)) given place) works
name_each names constants array fetch pool given place [] is = tt
name_each names constants array fetches.Member pool given place (w ∷ works) is = (is, name_each names constants array fetches.Member pool given place works is)
name_each names constants array fetches.Constant pool given place (w ∷ works) is =
    let written : BodyWithStates → List TypeStateAt = λ v. written_frames names (emitted_of constants array v) in
    let both = name_both pool (written w) (flat_map written works) given place
    (subst (λ (frames : List TypeStateAt). IsNameAt fetches.Constant pool frames given place) (flat_map-cons written w works) is) in
    (both.0, name_each names constants array fetches.Constant pool given place works both.1)

-- ---- what stays

-- a text that is put brings no class to an earlier place
text_keeps : (old new : PoolValue) (text : List ℕ) (at : ℕ) → HasUtf8 old text new at → KeepsClasses old new
text_keeps old new text at (inl there) name place first = subst (λ (pool : PoolValue). IsFirst (class_name_of pool) name place) (sym there.1) first
text_keeps old new text at (inr put) name place first = record {
  there = naming_kept naming.Class old new name place more first.there;
  first = λ k less is.
      let n = has_name naming.Class new k name is in
      let within = class_within old place name first.there in
      let entry = sym (entry_before old new k more (omega (arith, less, within))) ∙ n.1 in
      by n.0 n.2 (cases_lt n.0 (length old)) (λ text_is. first.first k less (is_named naming.Class old k n.0 name entry text_is));
}
  where
    more : Extends old new
    more = put_extends old new (entry.Utf8 text) at put.1

    by : (n : ℕ) → utf8_of new n ≡ Some name → (n < length old) ⊎ (length old ≤ n) → (utf8_of old n ≡ Some name → ⊥) → ⊥
    by n is (inl less) none = none (sym (same_text old new more n less) ∙ is)
    by n is (inr behind) none =
        let e = text_entry_there new n name is in
        let here : n ≡ at = put_last old new (entry.Utf8 text) at n e.0 put.1 behind e.1 in
        let same : name ≡ text = same_Some name text (sym is ∙ ap (utf8_of new) here ∙ utf8_there old new text at (inr put)) in
        let own = has_name naming.Class old place name first.there in
        put.0 own.0 (own.2 ∙ ap Some same)

name_keeps : (fetch : Fetch) (old new : PoolValue) (frames : List TypeStateAt) (given place : ℕ) → HasFramesName fetch old frames given new place → KeepsClasses old new
name_keeps fetches.Member old new frames given place has name at first = subst (λ (pool : PoolValue). IsFirst (class_name_of pool) name at) (sym has.0) first
name_keeps fetches.Constant old new [] given place has name at first = subst (λ (pool : PoolValue). IsFirst (class_name_of pool) name at) (sym has) first
name_keeps fetches.Constant old new (frame ∷ frames) given place has name at first = text_keeps old new frames_name place has.0 name at first

pub frames_keep : (fetch : Fetch) (old new : PoolValue) (frames : List TypeStateAt) (given place : ℕ) → TakesFrames fetch old frames given new place → KeepsClasses old new
frames_keep fetch old new frames given place takes name at first =
    takes_keep takes.0 new (named_by_all frames) takes.2 name at (name_keeps fetch old takes.0 frames given place takes.1 name at first)

pub frames_extend : (fetch : Fetch) (old new : PoolValue) (frames : List TypeStateAt) (given place : ℕ) → TakesFrames fetch old frames given new place → Extends old new
frames_extend fetch old new frames given place takes =
    extends_more old takes.0 new (name_extends fetch old takes.0 frames given place takes.1) (takes_extend takes.0 new (named_by_all frames) takes.2)

-- without frames, the text of a Code attribute names no such attribute
pub without_frames : (pool : PoolValue) (fetch : Fetch) (giver array name other : ℕ) (names : Names) (e : Emitted) → written_frames names e ≡ []
    → twin_code pool fetch giver array name names e ≡ twin_code pool fetch giver array other names e
unfolding twin_code
without_frames pool fetch giver array name other names e none =
    ap (λ (frames : List TypeStateAt). code_text e.max_stack e.max_locals (with_place fetch giver array (chosen_text e.code))
    (counted_text (row_text (offset_in e)) e.handlers) (code_attributes pool name e frames)) none
    ∙ ap (λ (frames : List TypeStateAt). code_text e.max_stack e.max_locals (with_place fetch giver array (chosen_text e.code))
    (counted_text (row_text (offset_in e)) e.handlers) (code_attributes pool other e frames)) (sym none)

-- ---- one after the other

classes_split : (front back : List TypeStateAt) → frame_needs (front ++ back) ≡ frame_needs front ++ frame_needs back
classes_split front back = ap (map class_entry) (flat_map-append named_by front back) ∙ map-append class_entry (named_by_all front) (named_by_all back)

-- behind frames that were written, frames ask for classes alone
asked_split : (frame : TypeStateAt) (front back : List TypeStateAt)
    → frames_asked fetches.Constant ((frame ∷ front) ++ back) ≡ frames_asked fetches.Constant (frame ∷ front) ++ frame_needs back
asked_split frame front back = ap (λ (cs : List Content). text_entry frames_name ∷ cs) (classes_split (frame ∷ front) back)

same_named : (pool named : PoolValue) (frames : List TypeStateAt) (given place at : ℕ) → IsFirst (utf8_of pool) frames_name place
    → HasFramesName fetches.Constant pool frames given named at → named ≡ pool
same_named pool named [] given place at first has = has
same_named pool named (frame ∷ frames) given place at first (inl there, few) = there.1
same_named pool named (frame ∷ frames) given place at first (inr put, few) = absurd (put.0 place first.there)

classes_on : (old mid new : PoolValue) (front back : List TypeStateAt) → TakesClasses old (named_by_all front) mid → TakesClasses mid (named_by_all back) new
    → TakesClasses old (named_by_all (front ++ back)) new
classes_on old mid new front back p q =
    subst (λ (l : Names). TakesClasses old l new) (sym (flat_map-append named_by front back)) (classes_both old mid new (named_by_all front) (named_by_all back) p q)

frames_first : (old new : PoolValue) (frame : TypeStateAt) (frames : List TypeStateAt) (given place : ℕ) → TakesFrames fetches.Constant old (frame ∷ frames) given new place
    → IsFirst (utf8_of new) frames_name place
frames_first old new frame frames given place takes =
    let named = takes.0 in
    first_text_kept named new (takes_extend named new (named_by_all (frame ∷ frames)) takes.2) frames_name place (text_first old named frames_name place takes.1.0)

pub frames_both : (fetch : Fetch) (old mid new : PoolValue) (front back : List TypeStateAt) (given place other : ℕ) → TakesFrames fetch old front given mid place
    → TakesFrames fetch mid back given new other → (at : ℕ) × TakesFrames fetch old (front ++ back) given new at
frames_both fetches.Member old mid new front back given place other p q =
    let first = subst (λ (pool : PoolValue). TakesClasses pool (named_by_all front) mid) p.1.0 p.2 in
    let last = subst (λ (pool : PoolValue). TakesClasses pool (named_by_all back) new) q.1.0 q.2 in
    (given, (old, (refl, refl), classes_on old mid new front back first last))
frames_both fetches.Constant old mid new [] back given place other p q =
    (other, subst (λ (pool : PoolValue). TakesFrames fetches.Constant pool back given new other) (p.2 ∙ p.1) q)
frames_both fetches.Constant old mid new (frame ∷ front) back given place other p q =
    let same = same_named mid q.0 back given place other (frames_first old mid frame front given place p) q.1 in
    let last = subst (λ (pool : PoolValue). TakesClasses pool (named_by_all back) new) same q.2 in
    (place, (p.0, p.1, classes_on p.0 mid new (frame ∷ front) back p.2 last))

classes_too_much : (pool : PoolValue) (frames : List TypeStateAt) (place : ℕ) (fail : Fail PoolFull) → IsFirst (utf8_of pool) frames_name place
    → RefusesEach pool (frames_asked fetches.Constant frames) fail → RefusesEach pool (frame_needs frames) fail
classes_too_much pool frames place fails.Memory first refused = tt
classes_too_much pool [] place (fails.Said full) first refused = refused
classes_too_much pool (frame ∷ frames) place (fails.Said full) first much =
    let takes = much.takes in
    let same = by takes.0 takes.1 takes.4 in
    record {
      new = much.new;
      places = takes.2;
      takes = subst (λ (mid : PoolValue). TakesEach mid (frame_needs (frame ∷ frames)) much.new takes.2) same takes.5;
      many = much.many;
    }
  where
    by : (mid : PoolValue) (at : ℕ) → HasUtf8 pool frames_name mid at → mid ≡ pool
    by mid at (inl there) = there.1
    by mid at (inr put) = absurd (put.0 place first.there)

pub frames_behind : (fetch : Fetch) (old mid : PoolValue) (front back : List TypeStateAt) (given place : ℕ) (fail : Fail PoolFull) → TakesFrames fetch old front given mid place
    → RefusesEach mid (frames_asked fetch back) fail → RefusesEach old (frames_asked fetch (front ++ back)) fail
frames_behind fetches.Member old mid front back given place fail takes refused =
    let taken = frames_taken fetches.Member old mid front given place takes in
    subst (λ (cs : List Content). RefusesEach old cs fail) (sym (classes_split front back))
    (refused_behind old mid (frame_needs front) (frame_needs back) (name_places fetches.Member front place ++ taken.0) fail taken.1 refused)
frames_behind fetches.Constant old mid [] back given place fail takes refused =
    subst (λ (pool : PoolValue). RefusesEach pool (frames_asked fetches.Constant back) fail) (takes.2 ∙ takes.1) refused
frames_behind fetches.Constant old mid (frame ∷ front) back given place fail takes refused =
    let taken = frames_taken fetches.Constant old mid (frame ∷ front) given place takes in
    subst (λ (cs : List Content). RefusesEach old cs fail) (sym (asked_split frame front back))
    (refused_behind old mid (frames_asked fetches.Constant (frame ∷ front)) (frame_needs back) (name_places fetches.Constant (frame ∷ front) place ++ taken.0) fail taken.1
    (classes_too_much mid back place fail (frames_first old mid frame front given place takes) refused))

pub frames_before : (fetch : Fetch) (old : PoolValue) (front back : List TypeStateAt) (fail : Fail PoolFull) → RefusesEach old (frames_asked fetch front) fail
    → RefusesEach old (frames_asked fetch (front ++ back)) fail
frames_before fetches.Member old front back fail refused =
    subst (λ (cs : List Content). RefusesEach old cs fail) (sym (classes_split front back)) (refused_before old (frame_needs front) (frame_needs back) fail refused)
frames_before fetches.Constant old [] back fail refused = refused_before old [] (frames_asked fetches.Constant back) fail refused
frames_before fetches.Constant old (frame ∷ front) back fail refused =
    subst (λ (cs : List Content). RefusesEach old cs fail) (sym (asked_split frame front back))
    (refused_before old (frames_asked fetches.Constant (frame ∷ front)) (frame_needs back) fail refused)

-- ---- in a loop

-- whatever is taken of the frames that are left completes all of them
pub record FramesTaking (fetch : Fetch) (old : PoolValue) (all : List TypeStateAt) (given : ℕ) (now : PoolValue) (rest : List TypeStateAt) : Type 0 where
  pub takes : (new : PoolValue) (place : ℕ) → TakesFrames fetch now rest given new place → (at : ℕ) × TakesFrames fetch old all given new at
  pub refuses : (fail : Fail PoolFull) → RefusesEach now (frames_asked fetch rest) fail → RefusesEach old (frames_asked fetch all) fail

pub frames_begun : (fetch : Fetch) (old : PoolValue) (all : List TypeStateAt) (given : ℕ) → FramesTaking fetch old all given old all
frames_begun fetch old all given = record { takes = λ new place p. (place, p); refuses = λ fail p. p }

pub frames_more : (fetch : Fetch) (old now next : PoolValue) (all front rest left : List TypeStateAt) (given place : ℕ) → left ≡ front ++ rest
    → TakesFrames fetch now front given next place → FramesTaking fetch old all given now left → FramesTaking fetch old all given next rest
frames_more fetch old now next all front rest left given place split p t = record {
  takes = λ new other q.
      let both = frames_both fetch now next new front rest given place other p q in
      t.takes new both.0 (subst (λ (l : List TypeStateAt). TakesFrames fetch now l given new both.0) (sym split) both.1);
  refuses = λ fail q.
      t.refuses fail (subst (λ (l : List TypeStateAt). RefusesEach now (frames_asked fetch l) fail) (sym split) (frames_behind fetch now next front rest given place fail p q));
}

pub frames_here : (fetch : Fetch) (old now : PoolValue) (all front rest left : List TypeStateAt) (given : ℕ) (fail : Fail PoolFull) → left ≡ front ++ rest
    → RefusesEach now (frames_asked fetch front) fail → FramesTaking fetch old all given now left → RefusesEach old (frames_asked fetch all) fail
frames_here fetch old now all front rest left given fail split p t =
    t.refuses fail (subst (λ (l : List TypeStateAt). RefusesEach now (frames_asked fetch l) fail) (sym split) (frames_before fetch now front rest fail p))

-- nothing is left
pub frames_all : (fetch : Fetch) (old now : PoolValue) (all left : List TypeStateAt) (given : ℕ) → left ≡ [] → FramesTaking fetch old all given now left
    → (at : ℕ) × TakesFrames fetch old all given now at
frames_all fetch old now all left given none t = t.takes now given (subst (λ (l : List TypeStateAt). TakesFrames fetch now l given now given) (sym none) (nothing fetch))
  where
    nothing : (fetch : Fetch) → TakesFrames fetch now [] given now given
    nothing fetches.Member = (now, (refl, refl), refl)
    nothing fetches.Constant = (now, refl, refl)
