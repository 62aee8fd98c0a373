-- The name of the attribute of frames and the classes that frames name, as contents that a pool takes.
use Rattle.std.proofs.Common.{◌≡◌, ℕ, ◌≤◌, List, [], ◌∷◌, ◌++◌, length, Result, Ok, Err, refl, sym, subst}
use Rattle.jc_methods.specs.VerificationTypes.{TypeStateAt}
use Rattle.jc_methods.specs.declared.probe_members.Fetch.{Fetch}
use Rattle.jc_methods.specs.declared.probe_members.Fetch.TheVariants as fetches
use Rattle.std.specs.Prelude.{IfErr, codes}
use Rattle.jc_bytes.specs.declared.fail.Fail.{Fail}
use Rattle.jc_pool.specs.Adding.{Extends, HasUtf8, RefusesFull}
use Rattle.jc_pool.specs.Pool.{PoolValue}
use Rattle.jc_pool.specs.declared.add.PoolFull.{PoolFull}
use Rattle.jc_pool.proofs.AddingLaws.{same_extends, utf8_extends}
use Rattle.jc_frames.specs.FullTable.{RefusesClasses, named_by_all}
use Rattle.jc_instrument.specs.Contents.{Content, TakesEach, text_entry}
use Rattle.jc_instrument.specs.Needed.{frame_needs, frames_needs}
use Rattle.jc_instrument.specs.Taking.{RefusesEach}
use Rattle.jc_instrument.specs.Writing.{HasFramesName, TakesFrames, frames_asked}
use Rattle.jc_instrument.proofs.ClassTakingLaws.{classes_refused, classes_taken}
use Rattle.jc_instrument.proofs.TakingLaws.{refused_behind, refused_here, takes_both, takes_none, takes_one}

-- the name, where the pool takes it
abbrev pub name_needs : Fetch → List TypeStateAt → List Content
name_needs fetches.Member frames = []
name_needs fetches.Constant frames = frames_needs frames

-- where it stands then
abbrev pub name_places : Fetch → List TypeStateAt → (place : ℕ) → List ℕ
name_places fetches.Member frames place = []
name_places fetches.Constant [] place = []
name_places fetches.Constant (frame ∷ frames) place = place ∷ []

-- what frames ask for is the name, and then the classes
pub asked_are : (fetch : Fetch) (frames : List TypeStateAt) → frames_asked fetch frames ≡ name_needs fetch frames ++ frame_needs frames
asked_are fetches.Member frames = refl
asked_are fetches.Constant frames = refl

pub name_taken : (fetch : Fetch) (old new : PoolValue) (frames : List TypeStateAt) (given place : ℕ) → HasFramesName fetch old frames given new place
    → TakesEach old (name_needs fetch frames) new (name_places fetch frames place)
name_taken fetches.Member old new frames given place has = (has.0, refl)
name_taken fetches.Constant old new [] given place has = (has, refl)
name_taken fetches.Constant old new (frame ∷ frames) given place has = takes_one old new (text_entry (codes "StackMapTable")) place has.0

pub name_extends : (fetch : Fetch) (old new : PoolValue) (frames : List TypeStateAt) (given place : ℕ) → HasFramesName fetch old frames given new place
    → Extends old new
name_extends fetches.Member old new frames given place has = same_extends old new has.0
name_extends fetches.Constant old new [] given place has = same_extends old new has
name_extends fetches.Constant old new (frame ∷ frames) given place has = utf8_extends old new (codes "StackMapTable") place has.0

pub name_few : (fetch : Fetch) (old new : PoolValue) (frames : List TypeStateAt) (given place : ℕ) → HasFramesName fetch old frames given new place
    → length old ≤ 65535 → length new ≤ 65535
name_few fetches.Member old new frames given place has few = subst (λ (l : PoolValue). length l ≤ 65535) (sym has.0) few
name_few fetches.Constant old new [] given place has few = subst (λ (l : PoolValue). length l ≤ 65535) (sym has) few
name_few fetches.Constant old new (frame ∷ frames) given place has few = has.1

-- the classes that are taken behind the name
pub frames_taken : (fetch : Fetch) (old new : PoolValue) (frames : List TypeStateAt) (given place : ℕ) → TakesFrames fetch old frames given new place
    → (classes : List ℕ) × TakesEach old (frames_asked fetch frames) new (name_places fetch frames place ++ classes)
frames_taken fetches.Member old new frames given place takes =
    let rest = classes_taken takes.0 new (named_by_all frames) takes.2 in
    (rest.0, takes_both old takes.0 new [] (frame_needs frames) [] rest.0 (name_taken fetches.Member old takes.0 frames given place takes.1) rest.1)
frames_taken fetches.Constant old new frames given place takes =
    let rest = classes_taken takes.0 new (named_by_all frames) takes.2 in (
      rest.0,
      takes_both old takes.0 new (frames_needs frames) (frame_needs frames) (name_places fetches.Constant frames place) rest.0
          (name_taken fetches.Constant old takes.0 frames given place takes.1) rest.1,
    )

-- classes that the pool can't take, behind the name
pub classes_refused_behind : (fetch : Fetch) (old named new : PoolValue) (frames : List TypeStateAt) (given place : ℕ) (fail : Fail PoolFull)
    → HasFramesName fetch old frames given named place → RefusesClasses named (named_by_all frames) new fail → RefusesEach old (frames_asked fetch frames) fail
classes_refused_behind fetches.Member old named new frames given place fail has refused =
    refused_behind old named [] (frame_needs frames) [] fail (name_taken fetches.Member old named frames given place has)
    (classes_refused named new (named_by_all frames) fail refused)
classes_refused_behind fetches.Constant old named new frames given place fail has refused =
    refused_behind old named (frames_needs frames) (frame_needs frames) (name_places fetches.Constant frames place) fail
    (name_taken fetches.Constant old named frames given place has) (classes_refused named new (named_by_all frames) fail refused)

-- the name that the pool can't take, in front of the classes
pub name_refused : (fetch : Fetch) → fetch ≡ fetches.Constant → (pool : PoolValue) (frames : List TypeStateAt) → (length frames ≡ 0 → ⊥) → (r : Result ℕ (Fail PoolFull))
    → RefusesFull (HasUtf8 pool (codes "StackMapTable")) r → IfErr r (RefusesEach pool (frames_asked fetch frames))
name_refused fetch is pool frames some r refused =
    subst (λ (f : Fetch). IfErr r (RefusesEach pool (frames_asked f frames))) (sym is) (by frames some r refused)
  where
    by : (frames : List TypeStateAt) → (length frames ≡ 0 → ⊥) → (r : Result ℕ (Fail PoolFull)) → RefusesFull (HasUtf8 pool (codes "StackMapTable")) r
        → IfErr r (RefusesEach pool (frames_asked fetches.Constant frames))
    by [] some r refused = absurd (some refl)
    by (frame ∷ frames) some (Ok place) refused = tt
    by (frame ∷ frames) some (Err fail) refused =
        refused_here pool pool [] (frame_needs (frame ∷ frames)) [] (text_entry (codes "StackMapTable")) fail (takes_none pool) refused
