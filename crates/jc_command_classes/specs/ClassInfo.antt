-- What the command `classinfo` makes of class files.
use Rattle.std.specs.Prelude.{◌≡◌, ◌⊎◌, ℕ, ◌+◌, List, [], ◌∷◌, ◌++◌, codes, length, map, Some, Result, Ok, Err, Vec}
use Rattle.std.specs.Fmt.{decimal}
use Rattle.std.specs.declared.alloc.Global.{Global}
use Rattle.std.specs.List.{flat_map}
use Rattle.jc_methods.specs.declared.analysed.Analysed.{Analysed}
use Rattle.jc_methods.specs.declared.body.Body.{Body}
use Rattle.jc_bytes.specs.declared.fail.Fail.{Fail}
use Rattle.jc_bytes.specs.declared.refusal.Refusal.{Refusal}
use Rattle.jc_bytes.specs.Failing.{Said}
use Rattle.jc_plan.specs.Probed.{probe_count}
use Rattle.jc_instrument.specs.Analysis.{IsAnalysis}
use Rattle.jc_instrument.specs.Reasons.{AnalysisReason}
use Rattle.jc_command_work.specs.declared.status.Fault.TheVariants as fault
use Rattle.jc_command_work.specs.Step.{to_out}
use Rattle.jc_command_work.specs.Part.{gives}
use Rattle.jc_command_work.specs.Texts.{hex_text}
use Rattle.jc_command_work.specs.Answered.{Answer, refusing}
use Rattle.jc_command_work.specs.Step.{Word}

-- ---- the lines of a class

-- the class id, the major version and the number of probes, as they are printed
abbrev pub class_end : (id version probes : ℕ) → List ℕ
class_end id version probes =
    codes " id " ++ (hex_text id ++ (codes " version " ++ (decimal version ++ (codes " probes " ++ (decimal probes ++ codes "\n")))))

abbrev pub class_line : Analysed → List ℕ
class_line a = codes "class " ++ (a.name ++ class_end a.id a.version a.probes)

-- the numbers of instructions and of probes, as they are printed
abbrev pub method_end : (insns probes : ℕ) → List ℕ
method_end insns probes = codes " instructions " ++ (decimal insns ++ (codes " probes " ++ (decimal probes ++ codes "\n")))

-- the name of a method and its descriptor, as they are printed
abbrev pub method_start : Body → List ℕ
method_start b = codes "method " ++ (b.name ++ b.desc)

-- the line of a body that has so many probes
abbrev pub method_text : Body → (probes : ℕ) → List ℕ
method_text b probes = method_start b ++ method_end (length b.code) probes

abbrev pub method_line : Body → List ℕ
method_line b = method_text b (probe_count b)

-- the line of the class, and one for each body
abbrev pub class_text : Analysed → List ℕ
class_text a = class_line a ++ flat_map method_line a.bodies

-- ---- files

-- what is made of one file: a text of lines, or a refusal
pub data Listing : Type 0 where
  prints : (text : List ℕ) → Listing
  refuses : (why : Refusal) → Listing

pub data Lists (bytes : List ℕ) : Listing → Type 0 where
  analysed : (a : Analysed) → IsAnalysis bytes a → Lists bytes (prints (class_text a))
  refused : (why : Refusal) → AnalysisReason bytes (Some why) → Lists bytes (refuses why)

-- what a call gives for one file: its lines, or why it is refused; memory may run out at any time
abbrev pub IsListing : List ℕ → Result (Vec ℕ Global) (Fail Refusal) → Type 0
IsListing bytes (Ok text) = Lists bytes (prints text.items)
IsListing bytes (Err fail) = Said fail (λ why. Lists bytes (refuses why))

-- the lines of the files, in order: one text for each
abbrev pub AreListed : List (List ℕ) → List (List ℕ) → Type 0
AreListed [] listed = listed ≡ []
AreListed (t ∷ ts) listed = (own : List ℕ) × (rest : List (List ℕ)) × Lists t (prints own) × (listed ≡ own ∷ rest) × AreListed ts rest

-- The first file that is refused, by its index counted from k and by its path: each file before it has its lines.
abbrev pub RefusedAt : ℕ → List Word → List (List ℕ) → ℕ → Word → Refusal → Type 0
RefusedAt k [] texts index path why = ⊥
RefusedAt k (p ∷ ps) [] index path why = ⊥
RefusedAt k (p ∷ ps) (t ∷ ts) index path why =
    (Lists t (refuses why) × (index ≡ k) × (path ≡ p))
    ⊎ ((own : List ℕ) × Lists t (prints own) × RefusedAt (k + 1) ps ts index path why)

-- the lines of all files are printed, or the first file that is refused is named
pub data ListAnswers (paths : List Word) (texts : List (List ℕ)) : Answer → Type 0 where
  listed : (lines : List (List ℕ)) → AreListed texts lines → ListAnswers paths texts (gives (map to_out lines))
  class_refused : (index : ℕ) (path : Word) (why : Refusal) → RefusedAt 0 paths texts index path why
      → ListAnswers paths texts (refusing path (fault.Class index why))
