-- A method has one body, whatever the names with which it was read.
use Rattle.std.proofs.Common.{◌≡◌, ℕ, List, length, map, Some, sym, ◌∙◌, ap, subst}
use Rattle.jc_methods.specs.VerificationTypes.{AreNumberedFrames, Names, Grows, type_state_at}
use Rattle.jc_methods.specs.declared.body.Body.{Body}
use Rattle.jc_methods.specs.declared.body.FrameAt.{FrameAt}
use Rattle.jc_methods.proofs.SeenLaws.{frames_stay}
use Rattle.jc_methods.proofs.NumberedLaws.{grown_count, frames_numbered}
use Rattle.jc_class.specs.declared.class_file.ClassFile.{ClassFile}
use Rattle.jc_class.specs.declared.class_file.Member.{Member}
use Rattle.jc_body.specs.BodyOf.{HasBody, IsBody, BodyOf}
use Rattle.jc_body.specs.Faults.{faults}
use Rattle.jc_body.specs.First.{Fault}
use Rattle.jc_body.specs.StackMap.{HasFrames}
use Rattle.jc_instrument_reread.proofs.OneBodyLaws.{same_bodies}
use Rattle.jc_instrument_reread.proofs.SameBodyLaws.{AreSame}

same_method : {x y : Member} → Some x ≡ Some y → x ≡ y
same_method e = cc

-- ---- under two lists of names

pub same_body : (names others : Names) (c : ClassFile) (number : ℕ) (a b : Body) → BodyOf names c number a → BodyOf others c number b → AreSame names others a b
same_body names others c number a b p q =
    let same = same_method (sym p.at ∙ q.at) in
    same_bodies names others c number q.method (faults c.major c.pool a.owner q.method) (faults c.major c.pool b.owner q.method) a b
    (subst (λ (m : Member). IsBody names c number m a) same p.is) q.is

-- ---- under other names

-- the body with other frames that say the same under other names
pub reframed : (names others : Names) (c : ClassFile) (number : ℕ) (method : Member) (Fs : List Fault) (b : Body) (frames : List FrameAt)
    → map (type_state_at others) frames ≡ map (type_state_at names) b.frames → AreNumberedFrames (length others) frames
    → HasBody Fs names c number method b → HasBody Fs others c number method (record b { frames = frames })
reframed names others c number method Fs b frames same numbered body =
    let p = body.parts in
    record {
      coded = body.coded;
      is = body.is;
      no_subroutine = body.no_subroutine;
      no_fault = body.no_fault;
      tables = body.tables;
      are_tables = body.are_tables;
      parts = record {
        number_is = p.number_is;
        owner = p.owner;
        name = p.name;
        desc = p.desc;
        flags = p.flags;
        arg_slots = p.arg_slots;
        max_stack = p.max_stack;
        max_locals = p.max_locals;
        code = p.code;
        handlers = p.handlers;
        lines = p.lines;
        vars = p.vars;
        kind_vars = p.kind_vars;
        frames = subst (HasFrames c.pool b.owner method body.coded) (sym same) p.frames;
        numbers = numbered;
        uses = p.uses;
      };
    }

-- the same frames, under more names
pub grown_body : (old new : Names) (c : ClassFile) (number : ℕ) (b : Body) → Grows old new → BodyOf old c number b → BodyOf new c number b
grown_body old new c number b grows body =
    let numbers = body.is.parts.numbers in
    record {
      method = body.method;
      at = body.at;
      is = reframed old new c number body.method (faults c.major c.pool b.owner body.method) b b.frames
          (ap (λ (names : Names). map (type_state_at names) b.frames) grows.1 ∙ frames_stay old grows.0 b.frames numbers)
          (frames_numbered _ _ b.frames (grown_count old new grows) numbers) body.is;
    }
