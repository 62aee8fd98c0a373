-- The places of accepted files, and what stands beside them.
use Rattle.std.proofs.Common.{◌≡◌, ℕ, ◌+◌, ◌<◌, ◌≤◌, List, [], ◌∷◌, ◌++◌, length, drop, get_or, map, refl, sym, ◌∙◌, ap, arith, append_assoc, append-nil, drop-cons, add-one}
use Rattle.std.proofs.lemmas.List.{map-append, drop_all, get_or-map, length-map}
use Rattle.jc_bytes.proofs.DecidingLaws.{head_is, tail_is}
use Rattle.jc_command_work.specs.Step.{Word}
use Rattle.jc_command_classes.specs.Instrument.{Decision, refused_file, accepted_file}
use Rattle.jc_headline.specs.CoverWork.{LookedFile, accepted, kept_if, place_if, places_from}

-- ---- places

pub place_if-append : (d : Decision) (place : ℕ) (more : List ℕ) → place_if d place [] ++ more ≡ place_if d place more
place_if-append (refused_file why) place more = refl
place_if-append (accepted_file a) place more = refl

nothing_first : (a : ℕ) (xs : List ℕ) → [] ≡ a ∷ xs → ⊥
nothing_first a xs e = cc

-- none is below the first file's
low : (i : ℕ) (ls : List LookedFile) (place : ℕ) (others : List ℕ) → places_from i ls ≡ place ∷ others → i ≤ place
low i [] place others is = absurd (nothing_first place others is)
low i (l ∷ ls) place others is = by l.decision is (low (i + 1) ls place others)
  where
    by : (d : Decision) → place_if d i (places_from (i + 1) ls) ≡ place ∷ others → (places_from (i + 1) ls ≡ place ∷ others → i + 1 ≤ place) → i ≤ place
    by (refused_file why) e behind = let more = behind e in omega (arith, more)
    by (accepted_file a) e behind = let same = head_is i place (places_from (i + 1) ls) others e in omega (arith, same)

-- where none is left each file is refused
no_place : (i : ℕ) (ls : List LookedFile) → places_from i ls ≡ [] → accepted ls ≡ []
no_place i [] none = refl
no_place i (l ∷ ls) none = by l.decision none (no_place (i + 1) ls)
  where
    by : (d : Decision) → place_if d i (places_from (i + 1) ls) ≡ [] → (places_from (i + 1) ls ≡ [] → accepted ls ≡ []) → kept_if d l (accepted ls) ≡ []
    by (refused_file why) e behind = behind e
    by (accepted_file a) e behind = absurd (nothing_first i (places_from (i + 1) ls) (sym e))

-- ---- one file

module _ (i : ℕ) (l : LookedFile) (ls : List LookedFile) where
  -- its place comes first: it is accepted
  taken : (others : List ℕ) → places_from i (l ∷ ls) ≡ i ∷ others → (others ≡ places_from (i + 1) ls) × (accepted (l ∷ ls) ≡ l ∷ accepted ls)
  taken others is = by l.decision is
    where
      by : (d : Decision) → place_if d i (places_from (i + 1) ls) ≡ i ∷ others → (others ≡ places_from (i + 1) ls) × (kept_if d l (accepted ls) ≡ l ∷ accepted ls)
      by (refused_file why) e = let more = low (i + 1) ls i others e in absurd (omega (arith, more))
      by (accepted_file a) e = (sym (tail_is i i (places_from (i + 1) ls) others e), refl)

  -- another place comes first, or none: it is refused
  left_out : ((others : List ℕ) → places_from i (l ∷ ls) ≡ i ∷ others → ⊥) → (places_from i (l ∷ ls) ≡ places_from (i + 1) ls) × (accepted (l ∷ ls) ≡ accepted ls)
  left_out none = by l.decision none
    where
      by : (d : Decision) → ((others : List ℕ) → place_if d i (places_from (i + 1) ls) ≡ i ∷ others → ⊥)
          → (place_if d i (places_from (i + 1) ls) ≡ places_from (i + 1) ls) × (kept_if d l (accepted ls) ≡ accepted ls)
      by (refused_file why) not = (refl, refl)
      by (accepted_file a) not = absurd (not (places_from (i + 1) ls) refl)

-- ---- the loop

no_items : (xs : List ℕ) → length xs ≡ 0 → xs ≡ []
no_items [] none = refl
no_items (x ∷ xs) none = absurd (omega (arith, none))

module _ {T : Type 0} (shown : T → Word) (of_file : LookedFile → Word) (looked : List LookedFile) where
  -- behind the first so many items: these places are left, and these items are kept
  pub record KeptFirst (i : ℕ) (left : List ℕ) (kept : List T) : Type 0 where
    pub left_are : left ≡ places_from i (drop i looked)
    pub kept_are : map shown kept ++ map of_file (accepted (drop i looked)) ≡ map of_file (accepted looked)

  pub keeping_start : KeptFirst 0 (places_from 0 looked) []
  keeping_start = record { left_are = refl; kept_are = refl }

  -- the next item stands beside this file
  record IsBeside (i : ℕ) (item : T) (l : LookedFile) : Type 0 where
    parts : drop i looked ≡ l ∷ drop (i + 1) looked
    shows : shown item ≡ of_file l

  is_beside : (items : List T) (i : ℕ) (item : T) → map shown items ≡ map of_file looked → i < length items → item ≡ get_or items i item
      → (l : LookedFile) × IsBeside i item l
  is_beside items i item beside within is = let found = by looked inside beside in (found.0, record { parts = found.1; shows = found.2 })
    where
      inside : i < length looked
      inside = omega (arith, within, ap length beside, length-map items shown, length-map looked of_file)

      by : (ls : List LookedFile) → i < length ls → map shown items ≡ map of_file ls → (l : LookedFile) × (drop i ls ≡ l ∷ drop (i + 1) ls) × (shown item ≡ of_file l)
      by [] less same = absurd (omega (arith, less))
      by (x ∷ xs) less same =
          let l = get_or (x ∷ xs) i x in (
            l,
            drop-cons (x ∷ xs) i x less ∙ ap (λ (n : ℕ). l ∷ drop n (x ∷ xs)) (sym (add-one i)),
            ap shown is ∙ sym (get_or-map shown items i item (of_file x) within) ∙ ap (λ (ws : List Word). get_or ws i (of_file x)) same ∙ get_or-map of_file (x ∷ xs) i x (of_file x) less,
          )

  module _ (i : ℕ) (left : List ℕ) (kept : List T) (so : KeptFirst i left kept) (item : T) (l : LookedFile) (next : IsBeside i item l) where
    abbrev rest : List LookedFile
    rest = drop (i + 1) looked

    left_next : left ≡ places_from i (l ∷ rest)
    left_next = so.left_are ∙ ap (places_from i) next.parts

    kept_next : map shown kept ++ map of_file (accepted (l ∷ rest)) ≡ map of_file (accepted looked)
    kept_next = ap (λ (fs : List LookedFile). map shown kept ++ map of_file (accepted fs)) (sym next.parts) ∙ so.kept_are

    file_kept : (others : List ℕ) (new : List T) → left ≡ i ∷ others → new ≡ kept ++ item ∷ [] → KeptFirst (i + 1) others new
    file_kept others new first is =
        let step = taken i l rest others (sym left_next ∙ first) in record {
          left_are = step.0;
          kept_are = ap (λ (ts : List T). map shown ts ++ map of_file (accepted rest)) is
              ∙ ap (λ (ws : List Word). ws ++ map of_file (accepted rest)) (map-append shown kept (item ∷ []))
              ∙ append_assoc (map shown kept) (shown item ∷ []) (map of_file (accepted rest))
              ∙ ap (λ (w : Word). map shown kept ++ w ∷ map of_file (accepted rest)) next.shows
              ∙ ap (λ (fs : List LookedFile). map shown kept ++ map of_file fs) (sym step.1) ∙ kept_next;
        }

    file_dropped : ((others : List ℕ) → left ≡ i ∷ others → ⊥) → KeptFirst (i + 1) left kept
    file_dropped none =
        let step = left_out i l rest (λ others is. none others (left_next ∙ is)) in record {
          left_are = left_next ∙ step.0;
          kept_are = ap (λ (fs : List LookedFile). map shown kept ++ map of_file fs) (sym step.1) ∙ kept_next;
        }

  module _ (items : List T) (beside : map shown items ≡ map of_file looked) (i : ℕ) (left : List ℕ) (kept : List T) (so : KeptFirst i left kept) (item : T)
      (within : i < length items) (is : item ≡ get_or items i item) where
    -- the next item is kept, or isn't
    pub item_kept : (others : List ℕ) (new : List T) → left ≡ i ∷ others → new ≡ kept ++ item ∷ [] → KeptFirst (i + 1) others new
    item_kept others new first is_new =
        let next = is_beside items i item beside within is in file_kept i left kept so item next.0 next.1 others new first is_new

    pub item_dropped : ((others : List ℕ) → left ≡ i ∷ others → ⊥) → KeptFirst (i + 1) left kept
    item_dropped none = let next = is_beside items i item beside within is in file_dropped i left kept so item next.0 next.1 none

  -- behind all items
  pub all_kept : (items : List T) → map shown items ≡ map of_file looked → (i : ℕ) (left : List ℕ) (kept : List T) → length items ≤ i → KeptFirst i left kept
      → map shown kept ≡ map of_file (accepted looked)
  all_kept items beside i left kept all so =
      let none = drop_all i looked (omega (arith, all, ap length beside, length-map items shown, length-map looked of_file)) in
      sym (append-nil (map shown kept)) ∙ ap (λ (fs : List LookedFile). map shown kept ++ map of_file (accepted fs)) (sym none) ∙ so.kept_are

  -- where no place is left
  pub others_dropped : (i : ℕ) (left : List ℕ) (kept : List T) → length left ≡ 0 → KeptFirst i left kept → map shown kept ≡ map of_file (accepted looked)
  others_dropped i left kept none so =
      sym (append-nil (map shown kept)) ∙ ap (λ (fs : List LookedFile). map shown kept ++ map of_file fs) (sym (no_place i (drop i looked) (sym so.left_are ∙ no_items left none)))
      ∙ so.kept_are
