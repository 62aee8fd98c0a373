-- A class file whose methods are read one after the other.
use Rattle.std.specs.Prelude.{◌≡◌, ℕ, ◌≤◌, true, List, [], ◌∷◌, ◌++◌, length, Option, Some, None, All, if◌then◌else◌}
use Rattle.jc_bytes.specs.ByteLists.{AreBytes}
use Rattle.jc_bytes.specs.Reader.{most_read}
use Rattle.jc_methods.specs.WellMade.{IsWellMade}
use Rattle.jc_methods.specs.declared.analysed.Analysed.{Analysed}
use Rattle.jc_methods.specs.declared.body.Body.{Body}
use Rattle.jc_class.specs.ClassText.{ClassText}
use Rattle.jc_class.specs.Sizes.{BodiesWithin}
use Rattle.jc_class.specs.Writable.{IsClassFile}
use Rattle.jc_class.specs.declared.class_file.ClassFile.{ClassFile}
use Rattle.jc_plan.specs.Analysed.{all_insns_and_arms, all_probes, plans_of}
use Rattle.jc_plan.specs.Plan.{plan_of}
use Rattle.jc_instrument.specs.Analysis.{Describes, IsAnalysis}
use Rattle.jc_instrument.specs.Causes.{Cause, NoCause, unless}
use Rattle.jc_instrument.specs.Known.{IsFine, IsKnown}
use Rattle.jc_instrument.specs.LeftAlone.{is_left_alone}
use Rattle.jc_instrument.specs.Reasons.{class_causes, interface_causes}
use Rattle.jc_instrument.specs.declared.class_walk.ClassOutline.{ClassOutline}
use Rattle.jc_instrument.specs.declared.class_walk.ClassWalk.{ClassWalk}
use Rattle.jc_instrument.specs.declared.known.PlannedMethod.{PlannedMethod}

-- the causes that are looked for before methods are read
abbrev pub front_causes : ClassFile → List Cause
front_causes c = class_causes c ++ unless (is_left_alone c) (interface_causes c)

-- how many methods are read: none of a class that stays as it is
abbrev pub methods_read : ClassWalk → ℕ
methods_read w = if is_left_alone w.class then 0 else length w.class.methods

-- the class file of these bytes, of which the methods below this number were read, and what is known of them
pub record IsWalk (bytes : List ℕ) (number : ℕ) (handed : List Body) (w : ClassWalk) : Type 0 where
  pub few : length bytes ≤ most_read
  pub are_bytes : AreBytes bytes
  pub text : ClassText bytes w.class
  pub whole : IsClassFile w.class
  pub sizes : All (λ m. BodiesWithin most_read m.attributes) w.class.methods
  pub no_front_cause : NoCause (front_causes w.class)
  pub alone_fine : is_left_alone w.class ≡ true → IsFine w.known
  pub known : IsKnown w.names w.class number handed w.known

-- the body follows these, and its plan is behind theirs
pub record Follows (handed : List Body) (m : PlannedMethod) : Type 0 where
  pub well_made : All IsWellMade (handed ++ m.body ∷ [])
  pub few : all_insns_and_arms (handed ++ m.body ∷ []) ≤ most_read
  pub plan : m.plan ≡ plan_of m.body (all_probes handed)

-- one method more was read, and its body was handed on or not
abbrev pub WalksOn : List ℕ → ℕ → List Body → ClassWalk → Option PlannedMethod → Type 0
WalksOn bytes number handed w None = IsWalk bytes number handed w
WalksOn bytes number handed w (Some m) = IsWalk bytes number (handed ++ m.body ∷ []) w × Follows handed m

-- the class with these bodies
abbrev pub analysed_of : ClassOutline → List Body → Analysed
analysed_of o bodies = record {
  id = o.id;
  name = o.name;
  version = o.version;
  flags = o.flags;
  super_name = o.super_name;
  interfaces = o.interfaces;
  bodies = bodies;
  plans = plans_of bodies;
  probes = o.probes;
}

-- whatever says who the class is, with these bodies, their plans and so many probes, is its analysis
abbrev pub Ends : List ℕ → ClassFile → List Body → ℕ → Type 0
Ends bytes c handed probes =
    (a : Analysed) → Describes bytes c a → a.bodies ≡ handed → a.plans ≡ plans_of handed → a.probes ≡ probes → IsAnalysis bytes a
