-- What the steps of linking answer.
use Rattle.std.specs.Prelude.{◌≡◌, List, ℕ, Option, Some, None, Result, Ok, Err, slice_get}
use Rattle.jc_bytes.specs.Failing.{Said}
use Rattle.jc_bytes.specs.declared.fail.Fail.{Fail}
use Rattle.jc_programs.specs.declared.program.Program.{Program}
use Rattle.jc_machine_model.specs.Programs.{IsProgram}
use Rattle.jc_programs.specs.declared.program.Linked.{Linked}
use Rattle.jc_link_programs.specs.Linking.{IsProgramOf, IsLinkClash}
use Rattle.jc_link_programs.specs.Pairs.{HaveOneName, HaveOneId, NoPair, IsFirstPair, id_of, name_of}
use Rattle.jc_link_programs.specs.declared.link_refusal.LinkClash.TheVariants as clashes
use Rattle.jc_link_programs.specs.declared.link_refusal.LinkClash.{LinkClash}

-- the program of the files, which is one, or why they have none
abbrev pub IsAnswer : List (List ℕ) → Result Program (Fail LinkClash) → Type 0
IsAnswer files (Ok p) = IsProgramOf files p × IsProgram p
IsAnswer files (Err e) = Said e (IsLinkClash files)

-- two classes of one name, or else two whose probes have one id, or no such two
-- the class at the place has this key
pub record IsKeyAt {K : Type 0} (key : Linked → Option K) (classes : List Linked) (place : ℕ) (k : K) : Type 0 where
  pub linked : Linked
  pub stands : slice_get classes place ≡ Some linked
  pub is : key linked ≡ Some k

abbrev pub PairAnswer : List Linked → Option LinkClash → Type 0
PairAnswer classes None = NoPair (HaveOneName classes) × NoPair (HaveOneId classes)
PairAnswer classes (Some (clashes.SameName first second name)) = IsFirstPair (HaveOneName classes) first second × IsKeyAt name_of classes first name
PairAnswer classes (Some (clashes.SameId first second id)) =
    NoPair (HaveOneName classes) × IsFirstPair (HaveOneId classes) first second × IsKeyAt id_of classes first id
PairAnswer classes (Some (clashes.Class index refusal)) = ⊥
