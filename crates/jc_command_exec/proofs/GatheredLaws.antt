-- What has come of files, one behind the other.
use Rattle.std.proofs.Common.{◌≡◌, ℕ, zero, suc, ◌<◌, ◌≤◌, List, [], ◌∷◌, ◌++◌, length, take, get_or, Option, Some, Result, Ok, Err, IfOk, refl, sym, ◌∙◌, ap, subst, arith, length-append}
use Rattle.std.proofs.Math.Seq.{take-append_seam, get_or-append_seam}
use Rattle.std.proofs.lemmas.List.{get_or_append_left, take-append-le}
use Rattle.std.specs.Borrow.{Bor}
use Rattle.jc_bytes.specs.declared.fail.Fail.TheVariants as fails
use Rattle.jc_exec.specs.declared.refusal.ExecRefusal.{ExecRefusal}
use Rattle.jc_command_work.specs.declared.status.Fault.TheVariants as fault
use Rattle.jc_command_work.specs.declared.stop.Stop.{Stop}
use Rattle.jc_command_work.specs.Answered.{refusal_of, EndsSo, AnswersWith}
use Rattle.jc_command_work.specs.Part.{End}
use Rattle.jc_command_work.specs.Seen.{stop_seen, texts_of}
use Rattle.jc_command_work.specs.Step.{Word}
use Rattle.jc_command_work.specs.Stopping.{exec_stop}
use Rattle.jc_command_exec.specs.declared.gathered.Feeding.{Feeding}
use Rattle.jc_command_exec.specs.declared.gathered.Feeding.TheVariants.{Fed, Dropped}
use Rattle.jc_command_exec.specs.declared.gathered.Gathered.{Gathered}
use Rattle.jc_command_exec.specs.declared.gathered.Gathered.TheVariants.{Union, Refused}
use Rattle.jc_exec.specs.Store.{Store}
use Rattle.jc_exec.specs.Union.{IsUnion}
use Rattle.jc_command_exec.specs.ExecData.{IsUnionOf, IsInput, IsFirstRefused}
use Rattle.jc_command_exec.specs.Gathering.{Begins, FeedsOn, Ends, Joins, IsGathered}
use Rattle.jc_command_exec.specs.Merge.{MergeAnswers, merge_refused}
use Rattle.jc_command_exec.proofs.ExecDataLaws.{union_more}

-- ---- a file

pub joins : (before : Gathered) (first later : Feeding) (bytes : List ℕ) (index : ℕ) (path : Bor (List ℕ)) (after : Gathered) → Begins before first
    → FeedsOn first bytes later → Ends later index path after → Joins before bytes index path after
joins (Union store) (Fed f) (Fed g) bytes index path (Union later) begins feeds ends = ends store bytes (feeds.1 store [] begins)
joins (Union store) (Fed f) (Fed g) bytes index path (Refused stop) begins feeds ends = (ends.0, ends.1, ends.2 store bytes (feeds.1 store [] begins))
joins (Union store) (Fed f) (Dropped stop) bytes index path after begins feeds ends = absurd feeds
joins (Union store) (Dropped stop) later bytes index path after begins feeds ends = absurd begins
joins (Refused stop) (Fed f) later bytes index path after begins feeds ends = absurd begins
joins (Refused stop) (Dropped s) (Fed g) bytes index path after begins feeds ends = absurd feeds
joins (Refused stop) (Dropped s) (Dropped t) bytes index path (Union later) begins feeds ends = absurd ends
joins (Refused stop) (Dropped s) (Dropped t) bytes index path (Refused u) begins feeds ends = ends ∙ feeds ∙ begins

-- ---- a text more

module _ (paths : List Word) (texts : List (List ℕ)) (t : List ℕ) where
  -- an input stays one
  pub input_stays : (i : ℕ) (path : Word) (text : List ℕ) → IsInput paths texts i path text → IsInput paths (texts ++ t ∷ []) i path text
  input_stays i path text x = record {
    within = omega (arith, length-append texts (t ∷ []), x.within);
    path_is = x.path_is;
    text_is = x.text_is ∙ sym (get_or_append_left texts (t ∷ []) [] i x.within);
  }

  -- the texts in front of one stay
  pub front_stays : (i : ℕ) → i ≤ length texts → take i (texts ++ t ∷ []) ≡ take i texts
  front_stays i within = take-append-le i texts (t ∷ []) within

  pub last_input : (i : ℕ) (path : Word) → length texts ≡ i → path ≡ get_or paths i [] → IsInput paths (texts ++ t ∷ []) i path t
  last_input i path size is = record {
    within = omega (arith, length-append texts (t ∷ []), size);
    path_is = is;
    text_is = sym (ap (λ (n : ℕ). get_or (texts ++ t ∷ []) n []) (sym size) ∙ get_or-append_seam texts t [] []);
  }

  pub last_front : (i : ℕ) → length texts ≡ i → take i (texts ++ t ∷ []) ≡ texts
  last_front i size = ap (λ (n : ℕ). take n (texts ++ t ∷ [])) (sym size) ∙ take-append_seam texts (t ∷ [])

  refused_stays : (i : ℕ) (path : Word) (r : ExecRefusal) → IsFirstRefused paths texts i path r → IsFirstRefused paths (texts ++ t ∷ []) i path r
  refused_stays i path r x = record {
    text = x.text;
    input = input_stays i path x.text x.input;
    store = x.store;
    before = subst (λ (l : List (List ℕ)). IsUnionOf l x.store) (sym (front_stays i (omega (arith, x.input.within)))) x.before;
    refused = x.refused;
  }

  -- how a refused file stops a command
  pub stop_is : (stop : Stop) (why : ExecRefusal) (i : ℕ) (path : Bor (List ℕ)) → stop ≡ exec_stop (fails.Said why) i path
      → stop_seen stop ≡ Some (refusal_of path.now (fault.Exec i why))
  stop_is stop why i path is = ap stop_seen is

  pub gathers_on : (i : ℕ) (path : Bor (List ℕ)) (old new : Gathered) → length texts ≡ i → path.now ≡ get_or paths i [] → IsGathered paths texts old
      → Joins old t i path new → IsGathered paths (texts ++ t ∷ []) new
  gathers_on i path (Union store) (Union later) size is so_far joins = union_more texts t store later so_far joins
  gathers_on i path (Union store) (Refused stop) size is so_far (why, stop_is_so, refused) = (
    i,
    path.now,
    why,
    record {
      text = t;
      input = last_input i path.now size is;
      store = store;
      before = subst (λ (l : List (List ℕ)). IsUnionOf l store) (sym (last_front i size)) so_far;
      refused = refused;
    },
    stop_is stop why i path stop_is_so,
  )
  gathers_on i path (Refused stop) (Union later) size is so_far joins = absurd joins
  gathers_on i path (Refused stop) (Refused same) size is (k, p, r, refused, seen) joins = (k, p, r, refused_stays k p r refused, ap stop_seen joins ∙ seen)

-- ---- what is made of them

pub merge_refusal : (out : Word) (paths : List Word) (texts : List (List ℕ)) (stop : Stop) → IsGathered paths texts (Refused stop)
    → AnswersWith (MergeAnswers out paths texts) (Err stop)
merge_refusal out paths texts stop (i, path, r, refused, seen) =
    subst (λ (o : Option End). EndsSo (MergeAnswers out paths texts) o) (sym seen) (merge_refused i path r refused)

-- the path at an index
pub path_of : (paths : List (Bor (List ℕ))) (i : ℕ) (d : Bor (List ℕ)) → i < length paths → (get_or paths i d).now ≡ get_or (texts_of paths) i []
path_of [] i d within = absurd (omega (arith, within))
path_of (p ∷ paths) zero d within = refl
path_of (p ∷ paths) (suc i) d within = path_of paths i d (omega (arith, within))

-- one file alone
pub gathered_alone : (path : Bor (List ℕ)) (store : Store) (text : List ℕ) (r : Result Gathered Stop) → IsUnion [] store
    → IfOk r (λ later. Joins (Union store) text 0 path later) → IfOk r (λ gathered. IsGathered (path.now ∷ []) (text ∷ []) gathered)
gathered_alone path store text (Ok gathered) union joins =
    gathers_on (path.now ∷ []) [] text 0 path (Union store) gathered refl refl (record { read = []; blocks = refl; union = union }) joins
gathered_alone path store text (Err stop) union joins = tt
