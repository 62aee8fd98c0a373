-- Files that are no program.
use Rattle.std.proofs.Common.{◌≡◌, ℕ, zero, suc, ◌<◌, List, [], ◌∷◌, length, slice_get, Option, None, Some, arith}
use Rattle.jc_methods.specs.VerificationTypes.{Names}
use Rattle.jc_programs.specs.declared.program.Linked.{Linked}
use Rattle.jc_link_programs.specs.declared.link_refusal.LinkRefusal.{LinkRefusal}
use Rattle.jc_link_programs.specs.declared.link_refusal.LinkRefusal.TheVariants as refusals
use Rattle.jc_link_programs.specs.Linking.{AreLinkedClasses, IsLinkRefusal, refused, one_name, one_id}
use Rattle.jc_link_programs.specs.Pairs.{HaveOne}
use Rattle.jc_link_programs.proofs.LinkingLaws.{linked_count}
use Rattle.jc_command_work.specs.Part.{End}
use Rattle.jc_command_run.specs.Clash.{StopsAs, LinkStops}

-- ---- indices

within : {X : Type 0} (xs : List X) (i : ℕ) (x : X) → slice_get xs i ≡ Some x → i < length xs
within [] i x is = absurd (nothing is)
  where
    nothing : None ≡ Some x → ⊥
    nothing e = cc
within (y ∷ xs) zero x is = omega arith
within (y ∷ xs) (suc i) x is = let w = within xs i x is in omega (arith, w)

-- a reason names files by indices below their number
abbrev pub AreWithin : List (List ℕ) → LinkRefusal → Type 0
AreWithin files (refusals.Class index why) = index < length files
AreWithin files (refusals.SameName first second) = (first < length files) × (second < length files)
AreWithin files (refusals.SameId first second) = (first < length files) × (second < length files)

pair_within : (names : Names) (files : List (List ℕ)) (classes : List Linked) {K : Type 0} (key : Linked → Option K) (first second : ℕ) → AreLinkedClasses names files classes
    → HaveOne key classes first second → (first < length files) × (second < length files)
pair_within names files classes key first second are pair =
    let count = linked_count names files classes are in
    let a = within classes first pair.a pair.first_is in
    let b = within classes second pair.b pair.second_is in
    (omega (arith, count, a), omega (arith, count, b))

pub are_within : (files : List (List ℕ)) (r : LinkRefusal) → IsLinkRefusal files r → AreWithin files r
are_within files r (refused {index = index} {refusal = why} is) = within files index is.bytes is.stands
are_within files r (one_name {first = first} {second = second} names classes are pair) = pair_within names files classes _ first second are pair.there
are_within files r (one_id {first = first} {second = second} names classes are none pair) = pair_within names files classes _ first second are pair.there

-- ---- how files that are no program stop a command

pub stops_so : (paths : List (List ℕ)) (files : List (List ℕ)) (r : LinkRefusal) (o : Option End) → IsLinkRefusal files r → StopsAs paths files r o → LinkStops paths files o
stops_so paths files r None is so = tt
stops_so paths files r (Some end) is so = (r, is, so)
