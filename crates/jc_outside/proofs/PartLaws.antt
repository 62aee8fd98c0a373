-- Parts of files.
use Rattle.std.proofs.Common.{◌≡◌, ℕ, ◌+◌, ◌-◌, ◌≤◌, List, length, take, drop, min, Some, refl, ◌∙◌, ap, arith}
use Rattle.std.proofs.Math.Seq.{take_all}
use Rattle.std.proofs.lemmas.Bool.{leb-false, lt-leb}
use Rattle.std.proofs.lemmas.List.{take_min, drop_min, length-take, length-drop}
use Rattle.std.specs.FinMap.{get}
use Rattle.jc_bytes.specs.Reader.{most_read}
use Rattle.jc_outside.specs.Outside.{FileMap, IsFilePart}
use lib.Dec.{leb}

-- the part of a file as a range of a range
pub part_taken : (file : List ℕ) (from start count : ℕ) → start ≡ min from (length file)
    → count ≡ min 65536 (length (take (length file - start) (drop start file))) → take count (take (length file - start) (drop start file)) ≡ take 65536 (drop from file)
part_taken file from start count starts counts =
    let rest : take (length file - start) (drop start file) ≡ drop from file = take_all (length file - start) (drop start file)
    (omega (arith, length-drop start file)) ∙ ap (λ n. drop n file) starts ∙ drop_min from file in
    ap (λ n. take n (take (length file - start) (drop start file))) counts ∙ take_min 65536 (take (length file - start) (drop start file)) ∙ ap (take 65536) rest

-- the part of a file that is told
pub part_given : (files : FileMap) (path file : List ℕ) (from : ℕ) → get files path ≡ Some file → length file ≤ most_read
    → IsFilePart (Some files) path from (take 65536 (drop from file)) (leb (length file) (from + 65536))
part_given files path file from there short =
    let long = length-take 65536 (drop from file) in
    let rest = length-drop from file in
    let test = leb-false (length file) (from + 65536) in
    record {
      few = omega (arith, long);
      whole = λ more. let above = test more in omega (arith, long, rest);
      last = λ more. let above = test more in omega arith;
      told = (file, there, record { short = short; bytes = refl; longer = (test, λ above. lt-leb (length file) (from + 65536) above) });
    }
