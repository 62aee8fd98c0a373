-- What a pool keeps where it takes classes.
use Rattle.std.proofs.Common.{◌≡◌, ℕ, ◌<◌, ◌≤◌, List, [], ◌∷◌, length, get_or, Option, None, sym, ◌∙◌, ap, subst, arith}
use Rattle.std.specs.List.{AllByRecursion}
use Rattle.jc_bytes.specs.Decoder.{◌>>=◌}
use Rattle.jc_methods.specs.VerificationTypes.{Names}
use Rattle.jc_pool.specs.Adding.{Extends, IsFirst}
use Rattle.jc_pool.specs.Lookup.{class_name_of, utf8_in, utf8_of}
use Rattle.jc_pool.specs.Pool.{PoolValue}
use Rattle.jc_pool.specs.declared.entry.Entry.{Entry}
use Rattle.jc_pool.proofs.AddedLaws.{class_keeps_first, utf8_kept}
use Rattle.jc_pool.proofs.AddingLaws.{class_extends, extends_more, same_extends}
use Rattle.jc_pool.proofs.OneMoreEntryLaws.{entry_stays}
use Rattle.jc_frames.specs.FullTable.{HasPlace, TakesClasses}
use Rattle.jc_frames.proofs.TakenLaws.{first_of}
use Rattle.jc_instrument_code.specs.FirstPlaces.{class_place}
use Rattle.jc_instrument_code.specs.Given.{IsNamedAt}
use Rattle.jc_instrument_code.specs.TwinCode.{kind_vars_name, lines_name, vars_name}
use Rattle.jc_instrument_code.specs.declared.code.CodePlaces.{CodePlaces}
use Rattle.jc_instrument_code.proofs.FirstPlaceLaws.{class_found, text_within}
use Rattle.jc_instrument.specs.declared.constants.ProbeConstants.{ProbeConstants}
use Rattle.jc_instrument.specs.BodiesWithStates.{BodyWithStates, emitted_of}
use Rattle.jc_instrument.specs.Writing.{AreAllNamed, KeepsClasses}

-- ---- classes that are taken

pub takes_keep : (old new : PoolValue) (names : Names) → TakesClasses old names new → KeepsClasses old new
takes_keep old new [] takes name place first = subst (λ (l : PoolValue). IsFirst (class_name_of l) name place) (sym takes) first
takes_keep old new (other ∷ names) takes name place first =
    takes_keep takes.0 new names takes.2 name place (class_keeps_first old takes.0 other name takes.1.place place takes.1.class first)

pub takes_extend : (old new : PoolValue) (names : Names) → TakesClasses old names new → Extends old new
takes_extend old new [] takes = same_extends old new takes
takes_extend old new (name ∷ names) takes =
    extends_more old takes.0 new (class_extends old takes.0 name takes.1.place takes.1.class) (takes_extend takes.0 new names takes.2)

pub takes_few : (old new : PoolValue) (names : Names) → length old ≤ 65535 → TakesClasses old names new → length new ≤ 65535
takes_few old new [] few takes = subst (λ (l : PoolValue). length l ≤ 65535) (sym takes) few
takes_few old new (name ∷ names) few takes = takes_few takes.0 new names takes.1.fits takes.2

-- classes that stand in the pool have the same first places in both
pub same_places : (old new : PoolValue) → KeepsClasses old new → (l : Names) → AllByRecursion (HasPlace old) l
    → AllByRecursion (λ name. class_place old name ≡ class_place new name) l
same_places old new keeps [] all = tt
same_places old new keeps (name ∷ l) all =
    let first = first_of old name all.0 in
    (class_found old name first.0 first.1 ∙ sym (class_found new name first.0 (keeps name first.0 first.1)), same_places old new keeps l all.1)

-- ---- names of attributes

module _ (old new : PoolValue) (extends : Extends old new) where
  pub same_text : (place : ℕ) → place < length old → utf8_of new place ≡ utf8_of old place
  unfolding utf8_of
  same_text place less =
      ap (λ (e : Option Entry). e >>= utf8_in) (ap (λ (l : PoolValue). get_or l place None) extends.1 ∙ entry_stays old extends.0 place less)

  pub first_text_kept : (text : List ℕ) (place : ℕ) → IsFirst (utf8_of old) text place → IsFirst (utf8_of new) text place
  first_text_kept text place first = record {
    there = utf8_kept old new text place extends first.there;
    first = λ k less at.
        let within = text_within old place text first.there in
        first.first k less (sym (same_text k (omega (arith, less, within))) ∙ at);
  }

  named_kept : {X : Type 0} (name : List ℕ) (xs : List X) (place : ℕ) → IsNamedAt old name xs place → IsNamedAt new name xs place
  named_kept name [] place named = tt
  named_kept name (x ∷ xs) place named = first_text_kept name place named

  pub all_named_kept : (constants : ProbeConstants) (array : ℕ) (places : CodePlaces) (works : List BodyWithStates) → AreAllNamed old constants array works places
      → AreAllNamed new constants array works places
  all_named_kept constants array places [] named = tt
  all_named_kept constants array places (w ∷ works) named = (
    record {
      lines = named_kept lines_name (emitted_of constants array w).lines places.lines named.0.lines;
      vars = named_kept vars_name (emitted_of constants array w).vars places.vars named.0.vars;
      kind_vars = named_kept kind_vars_name (emitted_of constants array w).kind_vars places.kind_vars named.0.kind_vars;
    },
    all_named_kept constants array places works named.1,
  )
