-- Originals whose instrumented files have a program: said of the originals alone.
use Rattle.std.specs.Prelude.{◌≡◌, ◌≢◌, ◌≤◌, ◌<◌, ◌+◌, ◌*◌, ℕ, List, Some, slice_get}
use Rattle.jc_methods.specs.WellMade.{most_slots}
use Rattle.jc_class.specs.ClassId.{class_id}
use Rattle.jc_class.specs.ClassText.{ClassText}
use Rattle.jc_class.specs.declared.class_file.ClassFile.{ClassFile}
use Rattle.jc_class.specs.declared.class_file.Member.{Member}
use Rattle.jc_body.specs.Coded.{IsCoded}
use Rattle.jc_body.specs.declared.coded.Coded.{Coded}
use Rattle.jc_instrument.specs.Refused.{IsChanged}

-- With four slots more, as many instructions as code can have are within the bound on instructions times slots: the method has at
-- most 508 slots for local variables and on the stack.
abbrev pub HasFewSlots : Coded → Type 0
HasFewSlots coded = 65535 * (coded.items.max_locals + coded.items.max_stack + 4) ≤ most_slots

-- the code of each method of the class is so
abbrev pub UsesFewSlots : List ℕ → Type 0
UsesFewSlots bytes = (c : ClassFile) → ClassText bytes c → (number : ℕ) (method : Member) → slice_get c.methods number ≡ Some method
    → (coded : Coded) → IsCoded c.pool method coded → HasFewSlots coded

-- no two files of changed classes have one id
abbrev pub DifferInId : List (List ℕ) → Type 0
DifferInId files = (first second : ℕ) (a b : List ℕ) → first < second → slice_get files first ≡ Some a → slice_get files second ≡ Some b
    → IsChanged a → IsChanged b → class_id a ≢ class_id b
