-- What is given of written code, by what is known of the body and of the pool.
use Rattle.std.proofs.Common.{◌≡◌, ℕ, ◌<◌, ◌≤◌, List, length, Some, subst}
use Rattle.std.specs.List.{AllByRecursion}
use Rattle.jc_methods.specs.VerificationTypes.{Names}
use Rattle.jc_methods.specs.WellMade.{IsWellMadeOfAnySize}
use Rattle.jc_methods.specs.declared.body.Body.{Body}
use Rattle.jc_methods.specs.declared.emitted.Emitted.{Emitted}
use Rattle.jc_methods.specs.declared.kind.State.{State}
use Rattle.jc_methods.specs.declared.probe_members.Fetch.{Fetch}
use Rattle.jc_pool.specs.Lookup.{utf8_of}
use Rattle.jc_pool.specs.Pool.{PoolValue}
use Rattle.jc_class.specs.declared.class_file.ClassFile.{ClassFile}
use Rattle.jc_class.specs.declared.class_file.Member.{Member}
use Rattle.jc_body.specs.BodyOf.{HasBody}
use Rattle.jc_body.specs.First.{Fault}
use Rattle.jc_emit.specs.Emission.{Emitting, emission}
use Rattle.jc_layout.specs.Layout.{chosen_length}
use Rattle.jc_instrument_code.specs.Given.{AreNamed}
use Rattle.jc_instrument_code.specs.TwinCode.{twin_code, written_frames}
use Rattle.jc_instrument_code.specs.declared.code.CodePlaces.{CodePlaces}
use Rattle.jc_instrument_reread.specs.WrittenCode.{ready_emission, IsFramesName, IsWrittenCode}
use Rattle.jc_instrument_reread.proofs.LandLaws.{locals_are}
use Rattle.jc_class.proofs.ReadClassLaws.{HasBytes}
use Rattle.jc_instrument_reread.proofs.ReadNumbersLaws.{is_spelled}

-- the names and what the prelude names stand in the pool, and the sizes fit
pub record IsPlacedCode (pool : PoolValue) (fetch : Fetch) (places : CodePlaces) (names : Names) (e : Emitted) : Type 0 where
  pub named : AreNamed pool e places
  pub frames_named : IsFramesName pool (written_frames names e) places.frames
  pub pool_few : length pool ≤ 65535
  pub giver : places.giver < 65536
  pub array : places.array < 65536
  pub stack : e.max_stack ≤ 65535
  pub locals : e.max_locals ≤ 65535
  pub few : chosen_length e.code ≤ 65535
  pub size : length (twin_code pool fetch places.giver places.array places.frames names e) ≤ 4294967295

-- the rest follows from the body of the method, where the bytes of its attributes are bytes and the places of Integers fit
pub written_code : (Faults : List Fault) (names : Names) (c : ClassFile) (number : ℕ) (method : Member) (b : Body) (first : ℕ) (states : List State) (given : Emitting)
    (pool : PoolValue) (places : CodePlaces) → HasBody Faults names c number method b → AllByRecursion HasBytes method.attributes
    → IsWellMadeOfAnySize b → ((id : ℕ) → given.integer id < 65536) → IsPlacedCode pool given.fetch places names (ready_emission b first states given places.giver)
    → IsWrittenCode pool given.fetch places names (ready_emission b first states given places.giver)
written_code Faults names c number method b first states given pool places has are well integers placed =
    let locals = subst (λ (n : ℕ). n ≤ 65535) (locals_are b first states given well) placed.locals in
    let spelled = is_spelled Faults names c number method b first states given places.giver has are well locals integers placed.giver placed.few in
    record {
      named = placed.named;
      frames_named = placed.frames_named;
      pool_few = placed.pool_few;
      giver = placed.giver;
      array = placed.array;
      stack = placed.stack;
      locals = placed.locals;
      rows = spelled.rows;
      numbers = spelled.numbers;
      few = placed.few;
      spelled = spelled.spelled;
      size = placed.size;
    }
