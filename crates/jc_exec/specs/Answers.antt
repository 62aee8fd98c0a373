-- What a refusal of execution data says, and where it is given.
use Rattle.std.specs.Prelude.{◌≡◌, ⊤, false, ℕ, List, length, Contains}
use Rattle.jc_bytes.specs.declared.fail.Fail.{Fail}
use Rattle.jc_bytes.specs.declared.fail.Fail.TheVariants as fails
use Rattle.jc_exec.specs.declared.hits.ClassHits.{ClassHits}
use Rattle.jc_exec.specs.declared.refusal.ExecRefusal.{ExecRefusal}
use Rattle.jc_exec.specs.declared.refusal.ExecRefusal.TheVariants.{BadExec, OtherVersion, Conflict}
use Rattle.jc_exec.specs.Refusing.{Refused, bad_exec, other_version, conflict, FirstRefusal}
use Rattle.jc_exec.specs.Store.{Store}
use Rattle.jc_exec.specs.Union.{Agrees, fits}

-- the reason that a refusal says
abbrev pub why_of : ExecRefusal → Refused
why_of (BadExec offset) = bad_exec offset
why_of (OtherVersion found) = other_version found
why_of (Conflict id first second first_count second_count) = conflict id first second first_count second_count

-- the text is refused over the store for the reason that is said; want of memory may come at any time
abbrev pub Refuses : Fail ExecRefusal → Store → List ℕ → Type 0
Refuses fails.Memory before text = ⊤
Refuses (fails.Said refusal) before text = FirstRefusal before text (why_of refusal)

-- what is said is this reason, unless memory ran out
abbrev pub SaysOnly : Refused → Fail ExecRefusal → Type 0
SaysOnly why fails.Memory = ⊤
SaysOnly why (fails.Said refusal) = why_of refusal ≡ why

-- ---- records of one id that do not agree

-- the id of the record is there with another name or another number of probes
pub record IsConflict (classes : List ClassHits) (there hits : ClassHits) : Type 0 where
  pub holds : Contains classes there
  pub same_id : there.id ≡ hits.id
  pub differs : Agrees there hits → ⊥

-- the refusal of a class of this id, name and number of probes: the name and the number of probes of the record that is
-- there, and then those of the class
abbrev pub conflict_with : ClassHits → ℕ → List ℕ → ℕ → ExecRefusal
conflict_with there id name count = Conflict id there.name name (length there.bits) count

-- why a record doesn't fit a class of this id, name and number of probes; want of memory may come at any time
abbrev pub RefusesClass : ClassHits → ℕ → List ℕ → ℕ → Fail ExecRefusal → Type 0
RefusesClass there id name count fails.Memory = ⊤
RefusesClass there id name count (fails.Said refusal) =
    (fits there name count ≡ false) × (refusal ≡ conflict_with there id name count)

-- the same of another record
abbrev pub conflict_of : ClassHits → ClassHits → Refused
conflict_of there hits = why_of (conflict_with there hits.id hits.name (length hits.bits))

-- why the record is not added to these; want of memory may come at any time
abbrev pub RefusesRecord : Fail ExecRefusal → List ClassHits → ClassHits → Type 0
RefusesRecord fails.Memory classes hits = ⊤
RefusesRecord (fails.Said refusal) classes hits =
    (there : ClassHits) × IsConflict classes there hits × (why_of refusal ≡ conflict_of there hits)
