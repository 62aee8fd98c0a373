-- A body is made of what was read of its method.
use Rattle.std.proofs.Common.{◌≡◌, ℕ, List, length, map}
use Rattle.jc_methods.specs.Starts.{insn_number}
use Rattle.jc_methods.specs.VerificationTypes.{Names}
use Rattle.jc_methods.specs.declared.body.Body.{Body}
use Rattle.jc_methods.specs.declared.body.FrameAt.{FrameAt}
use Rattle.jc_methods.specs.declared.body.Use.{Use}
use Rattle.jc_class.specs.declared.class_file.ClassFile.{ClassFile}
use Rattle.jc_class.specs.declared.class_file.Member.{Member}
use Rattle.jc_body.specs.declared.coded.Coded.{Coded}
use Rattle.jc_body.specs.declared.items.Tables.{Tables}
use Rattle.jc_body.specs.BodyOf.{HasParts, handler_of, lines_of, vars_of}

-- the body of these parts, where the others stand in the code and the tables
abbrev pub made_of : Member → Coded → Tables → ℕ → List ℕ → List ℕ → List ℕ → ℕ → List FrameAt → List Use → Body
made_of method coded tables number owner name desc arg_slots frames uses = record {
  method = number;
  owner = owner;
  name = name;
  desc = desc;
  flags = method.flags;
  arg_slots = arg_slots;
  max_stack = coded.items.max_stack;
  max_locals = coded.items.max_locals;
  code = coded.insns;
  handlers = map (handler_of (insn_number coded.starts)) coded.items.rows;
  lines = lines_of (insn_number coded.starts) (length coded.insns) tables.lines;
  vars = vars_of (insn_number coded.starts) (length coded.insns) (length coded.items.code) coded.items.max_locals tables.vars;
  kind_vars = vars_of (insn_number coded.starts) (length coded.insns) (length coded.items.code) coded.items.max_locals tables.kind_vars;
  frames = frames;
  uses = uses;
}

-- the body, by what was read of the method
abbrev pub made : Member → Coded → Tables → Body → Body
made method coded tables b = made_of method coded tables b.method b.owner b.name b.desc b.arg_slots b.frames b.uses

pub is_made : (names : Names) (c : ClassFile) (number : ℕ) (method : Member) (coded : Coded) (tables : Tables) (b : Body)
    → HasParts names c number method coded tables b → b ≡ made method coded tables b
is_made names c number method coded tables b p = λ i. record {
  method = b.method;
  owner = b.owner;
  name = b.name;
  desc = b.desc;
  flags = p.flags i;
  arg_slots = b.arg_slots;
  max_stack = p.max_stack i;
  max_locals = p.max_locals i;
  code = p.code i;
  handlers = p.handlers i;
  lines = p.lines i;
  vars = p.vars i;
  kind_vars = p.kind_vars i;
  frames = b.frames;
  uses = b.uses;
}
